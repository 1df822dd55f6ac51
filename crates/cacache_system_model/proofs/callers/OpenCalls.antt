-- Files that are open stay open at their names through a call.
use Rattle.std.proofs.{lemmas.{Grind.{common_steps}, Bool.{eqb-true, false_from_ne_true}}, Common.{rules, arith, ◌≡◌, ◌==◌, ℕ, Bool, true, false, cond, List, Option, None, Some, Ok, option_map, take, sym, ap, subst, ◌∙◌}}
use Rattle.std.specs.Prelude.{Result, Err, MatchResult, if◌then◌else◌}
use Rattle.std_io.specs.declared.io.kind.ErrorKind.{ErrorKind}
use Rattle.cacache_core.specs.{declared.errors.Fault.{Fault, TheVariants.{InvalidInput}}, Paths.{Names}}
use Rattle.cacache_disk.specs.{declared.{luck.Luck.TheVariants.{Plain, Fail, Take}, node.Node.{Node, TheVariants.{Folder, File, Link}}}, Tree.{Tree, look, same_path}, LedTo.{standing, leads, found, place, replaceable, removable, emptied, linked, file_at, writable, free}, Apply.{taken, readable}}
use Rattle.cacache_disk.proofs.{Maps.{same_path-true}, FoundNodes.{place_ok, replaceable_ok, removable_ok, emptied_ok}}
use Rattle.cacache_loss.proofs.Reaching.{at_names}
use Rattle.cacache_system.specs.{declared.call.{SystemCall.{SystemCall}, CallResult.{CallResult}}, CallsOf.{already_exists}}
use Rattle.cacache_system.specs.declared.call.SystemCall.TheVariants as asks
use Rattle.cacache_system.specs.declared.call.CallResult.TheVariants as says
use Rattle.cacache_system_model.specs.{Machine.{Place, under, nameless, OpenFile, node_of, Machine, gone, moved, with_place, placed, fixes, Became, IsRefused, ChangesTree, ChangesPlaces, OpensIf, with_sync, ShowsNode, ShowsEnd, ShowsPlace, ShowsOpen, ReadsFile, ReadsOpen, Grows, LinksNode, CopiesBytes, found_bytes, SpellsEnd, MovesNode}, Calls.{GoesWell, did_nothing, PartWritten, LeavesWritten, LeavesCreated, LeavesPart, OccursSomehow}, StepLaws.{IsOpenAt}, callers.Opened.{KeepsOpen, Avoids}}
use Rattle.cacache_system_model.proofs.Steps.Opening.{open_of}

abbrev pub place_at : OpenFile → Place
place_at file = file.place

-- each file that is open at a place stays open there
abbrev pub Keeps : Place → Machine → Machine → Type 0
Keeps place m n = (number : ℕ) → option_map place_at (m.files number) ≡ Some place → option_map place_at (n.files number) ≡ Some place

pub keeps_same : (place : Place) (m n : Machine) → n.files ≡ m.files → Keeps place m n
keeps_same place m n same number e = ap (λ (files : ℕ → Option OpenFile). option_map place_at (files number)) same ∙ e

pub keeps_self : (place : Place) (m n : Machine) → n ≡ m → Keeps place m n
keeps_self place m n same number e = ap (λ (x : Machine). option_map place_at (x.files number)) same ∙ e

-- ---- files that are opened and read

opened_keeps : (files : ℕ → Option OpenFile) (number k : ℕ) (file : OpenFile) (place : Place) (b : Bool) → (k == number) ≡ b → files number ≡ None
    → option_map place_at (files k) ≡ Some place → option_map place_at (cond b (Some file) (files k)) ≡ Some place
opened_keeps files number k file place true e none is =
    let no : None ≡ Some place = sym (ap (option_map place_at) (ap files (eqb-true k number e) ∙ none)) ∙ is in absurd cc
opened_keeps files number k file place false e none is = is

read_keeps : (files : ℕ → Option OpenFile) (number k : ℕ) (file old : OpenFile) (place : Place) (b : Bool) → (k == number) ≡ b → files number ≡ Some old → file.place ≡ old.place
    → option_map place_at (files k) ≡ Some place → option_map place_at (cond b (Some file) (files k)) ≡ Some place
read_keeps files number k file old place b e here same is = grind (arith, common_steps)

-- ---- places that others may have afterwards

placed_keeps : (other : Place → Place) (place : Place) (o : Option OpenFile) → other place ≡ place → option_map place_at o ≡ Some place
    → option_map place_at (option_map (with_place other) o) ≡ Some place
placed_keeps other place o same is = grind (arith, common_steps)

-- the open files are placed anew, but not those at this place
others_placed : (other : Place → Place) (place : Place) (m n : Machine) → other place ≡ place → n.files ≡ placed other m.files → Keeps place m n
others_placed other place m n same files number is = search (rules, placed_keeps)

gone_elsewhere : (was : Option Node) (names q : Names) (mark : ℕ) → same_path q names ≡ false → gone was names mark (under q) ≡ under q
gone_elsewhere was names q mark apart = ap (λ (b : Bool). if b then nameless mark was else under q) apart

moved_elsewhere : (was : Option Node) (old new q : Names) (mark : ℕ) → same_path q old ≡ false → same_path q new ≡ false → moved was old new mark (under q) ≡ under q
moved_elsewhere was old new q mark from to = ap (λ (b : Bool). if b then under new else gone was new mark (under q)) from ∙ gone_elsewhere was new q mark to

-- ---- calls

refused_keeps : (fault : Fault) (place : Place) (m n : Machine) (said : CallResult) → IsRefused fault m said n → Keeps place m n
refused_keeps fault place m n said (why, is_said, is, memory, stays) = keeps_self place m n stays

opens_keep : (ends : Result Names Fault) (new : Names → Tree) (place : Place) (m n : Machine) (said : CallResult) → OpensIf ends new m said n → Keeps place m n
opens_keep ends new place m n said h = grind (arith, opened_keeps, refused_keeps)

changes_keep : (ends : Result Names Fault) (new : Names → Tree) (place : Place) (m n : Machine) (said : CallResult) → ChangesTree ends new m said n → Keeps place m n
changes_keep ends new place m n said h = grind (arith, keeps_same, refused_keeps)

places_keep : (ends : Result Names Fault) (new : Names → Tree) (other : Option Node → Names → ℕ → Place → Place) (place : Place) (m n : Machine) (said : CallResult)
    → ((names : Names) (mark : ℕ) → ends ≡ Ok names → other (look m.tree names) names mark place ≡ place) → ChangesPlaces ends new other m said n → Keeps place m n
places_keep ends new other place m n said stays h = grind (arith, others_placed, refused_keeps)

pub node_keeps : (names : Names) (m n : Machine) (said : CallResult) → ShowsNode names m said n → n ≡ m
node_keeps names m n said (info, is_said, describes, same) = same

place_keeps : (place : Place) (m n : Machine) (said : CallResult) → ShowsPlace place m said n → n ≡ m
place_keeps at m n said h = grind (arith, node_keeps)

shows_keep : (ends : Result Names Fault) (place : Place) (m n : Machine) (said : CallResult) → ShowsEnd ends m said n → Keeps place m n
shows_keep ends place m n said h = grind (arith, keeps_self, node_keeps, refused_keeps)

-- it can be read: no link stands there
abbrev pub CanRead : Option Node → Type 0
CanRead None = ⊥
CanRead (Some Folder) = Unit {0}
CanRead (Some (File bytes)) = Unit {0}
CanRead (Some (Link target)) = ⊥

-- what a read leaves
abbrev pub ReadLeft : Machine → Machine → Type 0
ReadLeft m n = ((place : Place) → Keeps place m n) × (n.tree ≡ m.tree)

read_self : (m n : Machine) → n ≡ m → ReadLeft m n
read_self m n same = (λ place. keeps_self place m n same, ap (λ (x : Machine). x.tree) same)

file_read : (pick : List ℕ → List ℕ) (number : ℕ) (file : OpenFile) (here : Option Node) (m n : Machine) (said : CallResult) → m.files number ≡ Some file → CanRead here
    → ReadsFile pick number file here m said n → ReadLeft m n
file_read pick number file here m n said is can h = grind (arith, read_self, read_keeps)

abbrev pub IsOpenNumber : Machine → ℕ → Type 0
IsOpenNumber m number = (place : Place) × (option_map place_at (m.files number) ≡ Some place)

-- a file that is open at names
abbrev pub IsNamed : Machine → ℕ → Type 0
IsNamed m number = (names : Names) × IsOpenAt m number names

-- an open file, which is no link
abbrev pub Readable : Machine → ℕ → Type 0
Readable m number = (place : Place) × (option_map place_at (m.files number) ≡ Some place) × CanRead (node_of m.tree place)

reads_left : (pick : List ℕ → List ℕ) (number : ℕ) (m n : Machine) (said : CallResult) → Readable m number → ReadsOpen pick number m said n → ReadLeft m n
reads_left pick number m n said (place, is, can) h =
    let g = open_of m n number place said (λ file. ReadsFile pick number file (node_of m.tree file.place) m) is h in
    file_read pick number g.0 (node_of m.tree g.0.place) m n said g.1 (subst (λ (p : Place). CanRead (node_of m.tree p)) (sym g.2) can) g.3

-- ---- which calls a step may make so

-- a file is at a path
abbrev pub Moves : Tree → List ℕ → Type 0
Moves t path = (names : Names) × (bytes : List ℕ) × (place t path ≡ Ok names) × (look t names ≡ Some (File bytes))

-- a call that neither moves nor removes what is at these names
abbrev pub Safe : Names → Machine → SystemCall → Type 0
Safe q m (asks.OpenToRead path) = Unit {0}
Safe q m (asks.CreateNew path mode) = Unit {0}
Safe q m (asks.OpenToAppend path) = Unit {0}
Safe q m (asks.Read number size) = Readable m number
Safe q m (asks.ReadRest number) = Readable m number
Safe q m (asks.Write number bytes) = IsNamed m number
Safe q m (asks.Sync number) = IsOpenNumber m number
Safe q m (asks.StatFile number) = IsOpenNumber m number
Safe q m (asks.Stat path) = Unit {0}
Safe q m (asks.StatLink path) = Unit {0}
Safe q m (asks.RealPath path) = Unit {0}
Safe q m (asks.MakeFolder path) = Unit {0}
Safe q m (asks.RemoveFile path) = Avoids q path
Safe q m (asks.RemoveFolder path) = look m.tree q ≡ Some Folder → ⊥
Safe q m (asks.Symlink target path) = Unit {0}
Safe q m (asks.HardLink from to) = Unit {0}
Safe q m (asks.CopyFile from to) = Unit {0}
Safe q m (asks.Rename from to) = Moves m.tree from × Avoids q from × Avoids q to
Safe q m call = ⊥

moves_keep : (r ends : Result Names Fault) (place : Place) (m n : Machine) (said : CallResult) (names : Names) (bytes : List ℕ) → r ≡ Ok names → look m.tree names ≡ Some (File bytes)
    → ((new : Names) (mark : ℕ) → ends ≡ Ok new → moved (look m.tree new) names new mark place ≡ place)
    → MatchResult r (λ old. MovesNode old (look m.tree old) ends m said n) (λ fault. IsRefused fault m said n) → Keeps place m n
moves_keep (Ok old) ends place m n said names bytes e here stays h =
    let same : old ≡ names = cc in
    places_keep ends _ (λ was. moved was old) place m n said (λ new mark is. ap (λ (x : Names). moved (look m.tree new) x new mark place) same ∙ stays new mark is)
    (subst (λ (o : Option Node). MovesNode old o ends m said n) (ap (look m.tree) same ∙ here) h)
moves_keep (Err fault) ends place m n said names bytes e here stays h = absurd cc

links_keep : (source : Result Node Fault) (ends : Result Names Fault) (place : Place) (m n : Machine) (said : CallResult) → LinksNode source ends m said n → Keeps place m n
links_keep source ends place m n said h = grind (arith, changes_keep, refused_keeps)

copies_keep : (source : Result (List ℕ) Fault) (ends : Result Names Fault) (place : Place) (m n : Machine) (said : CallResult) → CopiesBytes source ends m said n → Keeps place m n
copies_keep source ends place m n said h = grind (arith, keeps_same, refused_keeps)

spells_keep : (ends : Result Names Fault) (place : Place) (m n : Machine) (said : CallResult) → SpellsEnd ends m said n → Keeps place m n
spells_keep ends place m n said h = grind (arith, keeps_self, refused_keeps)

grows_keep : (file : Place) (more : List ℕ) (q : Names) (m n : Machine) → Grows file more m n → Keeps (under q) m n
grows_keep file more q m n holds = grind (arith, keeps_same, others_placed)

abbrev pub Synced : Machine → Machine → CallResult → OpenFile → Type 0
Synced m n said file = (said ≡ says.Done) × Became m m.tree m.files (with_sync file.place (fixes m.synced (node_of m.tree file.place)) m.synced) n

sync_keeps : (place : Place) (m n : Machine) (said : CallResult) (file : OpenFile) → Synced m n said file → Keeps place m n
sync_keeps place m n said file (is_said, (tree, files, synced, folders)) = keeps_same place m n files

asked_left : (number : ℕ) (m n : Machine) (said : CallResult) (place : Place) → option_map place_at (m.files number) ≡ Some place → ShowsOpen number m said n → n ≡ m
asked_left number m n said place is h =
    let g = open_of m n number place said (λ file. ShowsPlace file.place m) is h in place_keeps g.0.place m n said g.3

goes_keep : (most : Option ℕ) (call : SystemCall) (q : Names) (m n : Machine) (said : CallResult) → Safe q m call → GoesWell most m call said n → Keeps (under q) m n
goes_keep most (asks.OpenToRead path) q m n said safe h = opens_keep (found m.tree path) _ (under q) m n said h
goes_keep most (asks.CreateNew path mode) q m n said safe h = opens_keep (free m.tree path) _ (under q) m n said h
goes_keep most (asks.OpenToAppend path) q m n said safe h = opens_keep (writable m.tree path) _ (under q) m n said h
goes_keep most (asks.Read number size) q m n said safe h = (reads_left (take (readable most size)) number m n said safe h).0 (under q)
goes_keep most (asks.ReadRest number) q m n said safe h = (reads_left (λ bytes. bytes) number m n said safe h).0 (under q)
goes_keep most (asks.Write number bytes) q m n said (names, is) h =
    let g = open_of m n number (under names) said (λ file said n. (said ≡ says.Count (taken most bytes)) × Grows file.place (take (taken most bytes) bytes) m n) is h in
    grows_keep g.0.place (take (taken most bytes) bytes) q m n g.3.1
goes_keep most (asks.Sync number) q m n said (place, is) h =
    let g = open_of m n number place said (λ file said n. Synced m n said file) is h in sync_keeps (under q) m n said g.0 g.3
goes_keep most (asks.StatFile number) q m n said (place, is) h = keeps_self (under q) m n (asked_left number m n said place is h)
goes_keep most (asks.Stat path) q m n said safe h = shows_keep (found m.tree path) (under q) m n said h
goes_keep most (asks.StatLink path) q m n said safe h = shows_keep (standing m.tree path) (under q) m n said h
goes_keep most (asks.RealPath path) q m n said safe h = spells_keep (found m.tree path) (under q) m n said h
goes_keep most (asks.RemoveFolder path) q m n said safe h =
    places_keep (emptied m.tree path) _ gone (under q) m n said
    (λ names mark is. gone_elsewhere (look m.tree names) names q mark (false_from_ne_true (same_path q names) (λ e. safe (ap (look m.tree) (same_path-true q names e) ∙ (emptied_ok m.tree path names is).1)))) h
goes_keep most (asks.Symlink target path) q m n said safe h = changes_keep (free m.tree path) _ (under q) m n said h
goes_keep most (asks.HardLink from to) q m n said safe h = links_keep (linked m.tree from) (free m.tree to) (under q) m n said h
goes_keep most (asks.CopyFile from to) q m n said safe h = copies_keep (found_bytes (leads m.tree from) (writable m.tree to) (file_at m.tree from InvalidInput)) (writable m.tree to) (under q) m n said h
goes_keep most (asks.MakeFolder path) q m n said safe h = changes_keep (free m.tree path) _ (under q) m n said h
goes_keep most (asks.RemoveFile path) q m n said safe h =
    places_keep (removable m.tree path) _ gone (under q) m n said
    (λ names mark is. gone_elsewhere (look m.tree names) names q mark (at_names path names q safe (removable_ok m.tree path names is).0)) h
goes_keep most (asks.Rename from to) q m n said ((names, bytes, is, here), old, new) h =
    moves_keep (place m.tree from) (replaceable m.tree to) (under q) m n said names bytes is here
    (λ other mark at. moved_elsewhere (look m.tree other) names other q mark (at_names from names q old (place_ok m.tree from names is)) (at_names to other q new (replaceable_ok m.tree to other at).0)) h
goes_keep most call q m n said safe h = absurd safe

-- ---- failures without cause

part_keeps : (o : Option OpenFile) (bytes : List ℕ) (part : Option ℕ) (q : Names) (m n : Machine) → PartWritten o bytes part m n → Keeps (under q) m n
part_keeps o bytes part q m n h = grind (arith, grows_keep, keeps_same)

leaves_keep : (b : Bool) (number : ℕ) (bytes : List ℕ) (part : Option ℕ) (q : Names) (m n : Machine) → LeavesWritten b number bytes part m n → Keeps (under q) m n
leaves_keep b number bytes part q m n h = grind (arith, keeps_self, part_keeps)

created_keeps : (b : Bool) (path : List ℕ) (part : Option ℕ) (q : Names) (m n : Machine) → LeavesCreated b path part m n → Keeps (under q) m n
created_keeps b path part q m n h = grind (arith, keeps_self, keeps_same)

broken_keep : (call : SystemCall) (why : ErrorKind) (part : Option ℕ) (q : Names) (m n : Machine) → Safe q m call → LeavesPart m call why part n → Keeps (under q) m n
broken_keep (asks.OpenToAppend path) why part q m n safe (tree, files, synced, folders) = keeps_same (under q) m n files
broken_keep (asks.CreateNew path mode) why part q m n safe h = created_keeps (already_exists why) path part q m n h
broken_keep (asks.Sync number) why part q m n safe (tree, files, synced, folders) = keeps_same (under q) m n files
broken_keep (asks.Write number bytes) why part q m n safe h = leaves_keep (did_nothing why) number bytes part q m n h
broken_keep (asks.CopyFile from to) why part q m n safe (tree, files, synced, folders) = keeps_same (under q) m n files
broken_keep call why part q m n safe h = keeps_self (under q) m n h

pub occurs_keep : (call : SystemCall) (q : Names) (m n : Machine) (said : CallResult) → Safe q m call → OccursSomehow m call said n → KeepsOpen q m n
occurs_keep call q m n said safe (Plain, h) = goes_keep None call q m n said safe h
occurs_keep call q m n said safe (Take most, h) = goes_keep (Some most) call q m n said safe h
occurs_keep call q m n said safe (Fail fault part, (why, is_said, of, missed, left)) = broken_keep call why part q m n safe left

pub front_left : (number size : ℕ) (m n : Machine) (said : CallResult) → Readable m number → OccursSomehow m (asks.Read number size) said n → ReadLeft m n
front_left number size m n said can holds = grind (arith, reads_left, read_self)

pub rest_left : (number : ℕ) (m n : Machine) (said : CallResult) → Readable m number → OccursSomehow m (asks.ReadRest number) said n → ReadLeft m n
rest_left number m n said can holds = grind (arith, reads_left, read_self)

pub stat_left : (number : ℕ) (m n : Machine) (said : CallResult) → IsOpenNumber m number → OccursSomehow m (asks.StatFile number) said n → n ≡ m
stat_left number m n said holds is = grind (arith, asked_left)

pub readable_on : (number : ℕ) (m n : Machine) → Readable m number → ReadLeft m n → Readable n number
readable_on number m n (place, is, can) (keeps, tree) = (place, keeps place number is, subst (λ (t : Tree). CanRead (node_of t place)) (sym tree) can)
