-- Each call can happen as `GoesWell` says.
use Rattle.std.proofs.{lemmas.Grind.{common_steps}, Common.{rules, arith, ◌≡◌, ◌+◌, ℕ, List, [], ◌∷◌, ◌++◌, length, take, drop, refl, sym, ap, subst, inr}}
use Rattle.std.specs.Prelude.{if◌then◌else◌, ◌==◌, Option, None, Some, IsPermutation, Result, Ok, Err, MatchOption, IfSome, IfNone, IfOk, MatchResult}
use Rattle.cacache_core.specs.{declared.errors.Fault.{Fault, TheVariants.{Device, IsADirectory, InvalidInput}}, Paths.{Names}}
use Rattle.cacache_disk.specs.{declared.node.Node.{Node, TheVariants.{Folder, File, Link}}, Tree.{Tree, look, put, cut, kind_of, listing}, LedTo.{place, standing, leads, found, file_at, writable, free, replaceable, linked, removable, emptied}, Apply.{readable, lengthened}}
use Rattle.std_io.specs.declared.io.kind.ErrorKind.TheVariants as kind
use Rattle.cacache_system.specs.declared.call.{FileInfo.{FileInfo}, CallResult.{CallResult}}
use Rattle.cacache_system.specs.declared.call.SystemCall.TheVariants as asks
use Rattle.cacache_system.specs.declared.call.CallResult.TheVariants as says
use Rattle.cacache_system_model.specs.{Machine.{Place, under, nameless, OpenFile, node_of, SyncedNode, Machine, gone, moved, grown, placed, ChangesPlaces, Grows, ShowsPlace, with_sync, fixes, Became, IsRefused, ChangesTree, OpensIf, with_file, unread, is_regular, Describes, ShowsNode, ShowsEnd, ReadsFile, link_fault, LinksNode, found_bytes, CopiesBytes, CopiesTo, MovesNode, with_empty, Spells, SpellsEnd}, Calls.{brought}, Folders.{GivesNames, ended, HasLeft, OpensNames, OpensFolder, ReadsSome}, Laws.{HasRoom, CallsCanGoWell}}
use Rattle.cacache_system_model.proofs.Saying.{CanSay, a_folder, Sayable, place_say, standing_say, found_say, writable_say, free_say, replaceable_say, removable_say, emptied_say, file_say, LinkSayable, linked_say}
use Rattle.cacache_store.specs.declared.store.answer.Name.{Name}

-- ---- calls

bad_number : CanSay Device
bad_number = (kind.PermissionDenied, refl, refl)

abbrev Can : (CallResult → Machine → Type 0) → Type 0
Can Claim = (said : CallResult) × (after : Machine) × Claim said after

can_refuse : (fault : Fault) (m : Machine) → CanSay fault → Can (IsRefused fault m)
can_refuse fault m (why, is, memory) = (says.Failed why, m, (why, refl, is, memory, refl))

-- the machine with another tree, other open files and other syncs
abbrev becoming : Machine → Tree → (ℕ → Option OpenFile) → List SyncedNode → Machine
becoming m t files synced = record { tree = t; files = files; synced = synced; inodes = m.inodes; folders = m.folders; order = m.order }

abbrev standing_on : Machine → Tree → Machine
standing_on m t = becoming m t m.files m.synced

abbrev open_on : Machine → Tree → ℕ → OpenFile → Machine
open_on m t number file = becoming m t (with_file m.files number file) m.synced

can_change : (m : Machine) (ends : Result Names Fault) (new : Names → Tree) → Sayable ends → Can (ChangesTree ends new m)
can_change m (Ok names) new can = (says.Done, standing_on m (new names), (refl, (refl, refl, refl, λ k. refl)))
can_change m (Err fault) new can = can_refuse fault m can

can_replace : (m : Machine) (ends : Result Names Fault) (new : Names → Tree) (other : Option Node → Names → ℕ → Place → Place) → Sayable ends → Can (ChangesPlaces ends new other m)
can_replace m (Ok names) new other can = (says.Done, becoming m (new names) (placed (other (look m.tree names) names 0) m.files) m.synced, (0, refl, (refl, refl, refl, λ k. refl)))
can_replace m (Err fault) new other can = can_refuse fault m can

can_grow : (m : Machine) (place : Place) (count : ℕ) (more : List ℕ) → Can (λ said after. (said ≡ says.Count count) × Grows place more m after)
can_grow m (under names) count more = (says.Count count, standing_on m (lengthened m.tree names more), (refl, (refl, refl, refl, λ k. refl)))
can_grow m (nameless mark here) count more = (says.Count count, becoming m m.tree (placed (grown mark more) m.files) m.synced, (refl, (refl, refl, refl, λ k. refl)))

can_open : (m : Machine) (ends : Result Names Fault) (new : Names → Tree) → HasRoom m → Sayable ends → Can (OpensIf ends new m)
can_open m (Ok names) new (number, room) can = (says.Opened number, open_on m (new names) number (unread names), (number, refl, room, (refl, refl, refl, λ k. refl)))
can_open m (Err fault) new room can = can_refuse fault m can

abbrev size_of : Option Node → ℕ
size_of None = 0
size_of (Some Folder) = 0
size_of (Some (File bytes)) = length bytes
size_of (Some (Link target)) = 0

abbrev info_of : Node → ℕ × ℕ → FileInfo
info_of node inode = record { kind = kind_of node; regular = is_regular node; size = size_of (Some node); inode = inode.0; device = inode.1; mode = 0; owner = 0; group = 0 }

described : (node : Node) (inode : ℕ × ℕ) → Describes node inode (info_of node inode)
described node inode = grind (arith, common_steps)

can_show_node : (m : Machine) (names : Names) (o : Option Node) → look m.tree names ≡ o → Can (ShowsNode names m)
can_show_node m names None is =
    (says.Info (info_of Folder (m.inodes names)), m, (info_of Folder (m.inodes names), refl, subst (λ (o : Option Node). IfSome o (λ node. Describes node (m.inodes names) (info_of Folder (m.inodes names)))) (sym is) tt, refl))
can_show_node m names (Some node) is =
    (says.Info (info_of node (m.inodes names)), m, (info_of node (m.inodes names), refl, subst (λ (o : Option Node). IfSome o (λ x. Describes x (m.inodes names) (info_of node (m.inodes names)))) (sym is) (described node (m.inodes names)), refl))

can_show_place : (m : Machine) (place : Place) → Can (ShowsPlace place m)
can_show_place m (under names) = can_show_node m names (look m.tree names) refl
can_show_place m (nameless mark None) = (says.Info (info_of Folder (0, 0)), m, (info_of Folder (0, 0), refl, tt, refl))
can_show_place m (nameless mark (Some node)) = (says.Info (info_of node (0, 0)), m, (info_of node (0, 0), refl, ((0, 0), described node (0, 0)), refl))

can_show : (m : Machine) (ends : Result Names Fault) → Sayable ends → Can (ShowsEnd ends m)
can_show m (Ok names) can = can_show_node m names (look m.tree names) refl
can_show m (Err fault) can = can_refuse fault m can

can_miss : {A : Type 0} (o : Option A) (m : Machine) → Can (λ said after. IfNone o (IsRefused Device m said after))
can_miss None m = can_refuse Device m bad_number
can_miss (Some a) m = (says.Done, m, tt)

of_open : {A B : Type 0} (o : Option A) (p : Option B) (Claim : A → CallResult → Machine → Type 0) (m : Machine) → ((a : A) → Can (Claim a))
    → Can (λ said after. MatchOption o (IfNone p (IsRefused Device m said after)) (λ a. Claim a said after))
of_open None p Claim m can = can_miss p m
of_open (Some a) p Claim m can = can a

can_read : (m : Machine) (pick : List ℕ → List ℕ) (number : ℕ) (file : OpenFile) (here : Option Node) → Can (ReadsFile pick number file here m)
can_read m pick number file (Some Folder) = can_refuse IsADirectory m a_folder
can_read m pick number file (Some (File bytes)) =
    let next = pick (drop file.read bytes) in
    (says.Bytes next, open_on m m.tree number (record { place = file.place; read = file.read + length next }), (refl, (refl, refl, refl, λ k. refl)))
can_read m pick number file here = (says.Done, m, tt)

can_move : (m : Machine) (old : Names) (here : Option Node) (ends : Result Names Fault) → Sayable ends → Can (MovesNode old here ends m)
can_move m old (Some (File bytes)) ends can = can_replace m ends (λ new. put (cut m.tree old) new (File bytes)) (λ was. moved was old) can
can_move m old (Some (Link target)) ends can = can_replace m ends (λ new. put (cut m.tree old) new (Link target)) (λ was. moved was old) can
can_move m old here ends can = (says.Done, m, tt)

can_rename : (m : Machine) (from : Result Names Fault) (ends : Result Names Fault) → Sayable from → Sayable ends
    → Can (λ said after. MatchResult from (λ old. MovesNode old (look m.tree old) ends m said after) (λ fault. IsRefused fault m said after))
can_rename m (Ok old) ends begin can = can_move m old (look m.tree old) ends can
can_rename m (Err fault) ends begin can = can_refuse fault m begin

can_link : (m : Machine) (source : Result Node Fault) (ends : Result Names Fault) → LinkSayable source ends → Sayable ends → Can (LinksNode source ends m)
can_link m (Ok node) ends begin can = can_change m ends (λ names. put m.tree names node) can
can_link m (Err fault) ends begin can = can_refuse (link_fault fault ends) m begin

can_copy_to : (m : Machine) (bytes : List ℕ) (ends : Result Names Fault) → Sayable ends → Can (CopiesTo bytes ends m)
can_copy_to m bytes (Ok names) can = (says.Count (length bytes), standing_on m (put m.tree names (File bytes)), (refl, (refl, refl, refl, λ k. refl)))
can_copy_to m bytes (Err fault) can = can_refuse fault m can

can_copy : (m : Machine) (source : Result (List ℕ) Fault) (ends : Result Names Fault) → Sayable source → Sayable ends → Can (CopiesBytes source ends m)
can_copy m (Ok bytes) ends begin can = can_copy_to m bytes ends can
can_copy m (Err fault) ends begin can = can_refuse fault m begin

pub brought_say : (source target : Result Names Fault) (bytes : Result (List ℕ) Fault) → Sayable bytes → Sayable (found_bytes source target bytes)
brought_say source target bytes can = grind (arith, common_steps)

-- ---- folders

abbrev names_given : List Name → List (List ℕ)
names_given [] = []
names_given (e ∷ es) = e.name ∷ names_given es

gives_all : (es : List Name) → GivesNames (names_given es) es
gives_all [] = refl
gives_all (e ∷ es) = inr (e, es, refl, refl, gives_all es)

abbrev pub with_left : (ℕ → Option (List (List ℕ))) → ℕ → List (List ℕ) → ℕ → Option (List (List ℕ))
with_left folders number left k = if k == number then Some left else folders k

abbrev pub folders_on : Machine → ℕ → List (List ℕ) → Machine
folders_on m number left = record { tree = m.tree; files = m.files; synced = m.synced; inodes = m.inodes; folders = with_left m.folders number left; order = m.order }

pub has_left : (m : Machine) (number : ℕ) (left : List (List ℕ)) → HasLeft number left m (folders_on m number left)
has_left m number left = search rules

can_list : (m : Machine) (names : Names) (o : Option Node) → HasRoom m → IsPermutation (listing m.tree names) (m.order names) → Can (OpensNames names o m)
can_list m names (Some Folder) (number, room) order =
    let given = names_given (m.order names) in
    (says.Opened number, folders_on m number given, (number, given, refl, room, order, gives_all (m.order names), has_left m number given))
can_list m names _ room order = (says.Done, m, tt)

can_open_folder : (m : Machine) (ends : Result Names Fault) → HasRoom m → Sayable ends → IfOk ends (λ names. IsPermutation (listing m.tree names) (m.order names)) → Can (OpensFolder ends m)
can_open_folder m (Ok names) room can order = can_list m names (look m.tree names) room order
can_open_folder m (Err fault) room can order = can_refuse fault m can

append-none : (xs : List (List ℕ)) → xs ≡ xs ++ []
append-none [] = refl
append-none (x ∷ xs) = ap (λ l. x ∷ l) (append-none xs)

can_read_names : (m : Machine) (number : ℕ) (left : List (List ℕ)) → Can (ReadsSome number left m)
can_read_names m number left =
    (says.Bytes (ended left), folders_on m number [], (left, [], append-none left, (λ _. refl), refl, has_left m number []))

can_spell : (m : Machine) (ends : Result Names Fault) → Sayable ends → IfOk ends (λ names. (text : List ℕ) × Spells m.tree text names) → Can (SpellsEnd ends m)
can_spell m (Ok names) can (text, spells) = (says.Bytes text, m, (text, refl, spells, refl))
can_spell m (Err fault) can spelt = can_refuse fault m can

pub calls_can_go_well : CallsCanGoWell
calls_can_go_well most m (asks.OpenToRead path) room spelt = can_open m (found m.tree path) (λ names. m.tree) room (found_say m.tree path)
calls_can_go_well most m (asks.CreateNew path mode) room spelt = can_open m (free m.tree path) (λ names. put m.tree names (File [])) room (free_say m.tree path)
calls_can_go_well most m (asks.OpenToAppend path) room spelt = can_open m (writable m.tree path) (with_empty m.tree) room (writable_say m.tree path)
calls_can_go_well most m (asks.Read number size) room spelt =
    of_open (m.files number) (m.folders number) (λ file. ReadsFile (take (readable most size)) number file (node_of m.tree file.place) m) m (λ file. can_read m (take (readable most size)) number file (node_of m.tree file.place))
calls_can_go_well most m (asks.ReadRest number) room spelt =
    of_open (m.files number) (m.folders number) (λ file. ReadsFile (λ bytes. bytes) number file (node_of m.tree file.place) m) m (λ file. can_read m (λ bytes. bytes) number file (node_of m.tree file.place))
calls_can_go_well most m (asks.Write number bytes) room spelt = search (rules, of_open, can_grow)
calls_can_go_well most m (asks.Sync number) room spelt =
    of_open (m.files number) (m.folders number) (λ file said after. (said ≡ says.Done) × Became m m.tree m.files (with_sync file.place (fixes m.synced (node_of m.tree file.place)) m.synced) after) m
    (λ file. (says.Done, becoming m m.tree m.files (with_sync file.place (fixes m.synced (node_of m.tree file.place)) m.synced), (refl, (refl, refl, refl, λ k. refl))))
calls_can_go_well most m (asks.SetOwner number owner group) room spelt =
    of_open (m.files number) (m.folders number) (λ file said after. (said ≡ says.Done) × (after ≡ m)) m (λ file. (says.Done, m, (refl, refl)))
calls_can_go_well most m (asks.SetMode number mode) room spelt =
    of_open (m.files number) (m.folders number) (λ file said after. (said ≡ says.Done) × (after ≡ m)) m (λ file. (says.Done, m, (refl, refl)))
calls_can_go_well most m (asks.StatFile number) room spelt =
    of_open (m.files number) (m.folders number) (λ file. ShowsPlace file.place m) m (λ file. can_show_place m file.place)
calls_can_go_well most m (asks.Stat path) room spelt = can_show m (found m.tree path) (found_say m.tree path)
calls_can_go_well most m (asks.StatLink path) room spelt = can_show m (standing m.tree path) (standing_say m.tree path)
calls_can_go_well most m (asks.Rename from to) room spelt = can_rename m (place m.tree from) (replaceable m.tree to) (place_say m.tree from) (replaceable_say m.tree to)
calls_can_go_well most m (asks.MakeFolder path) room spelt = can_change m (free m.tree path) (λ names. put m.tree names Folder) (free_say m.tree path)
calls_can_go_well most m (asks.RemoveFile path) room spelt = can_replace m (removable m.tree path) (cut m.tree) gone (removable_say m.tree path)
calls_can_go_well most m (asks.RemoveFolder path) room spelt = can_replace m (emptied m.tree path) (cut m.tree) gone (emptied_say m.tree path)
calls_can_go_well most m (asks.Symlink target path) room spelt = can_change m (free m.tree path) (λ names. put m.tree names (Link target)) (free_say m.tree path)
calls_can_go_well most m (asks.HardLink from to) room spelt = can_link m (linked m.tree from) (free m.tree to) (linked_say m.tree from (free m.tree to) (free_say m.tree to)) (free_say m.tree to)
calls_can_go_well most m (asks.CopyFile from to) room spelt = can_copy m (brought m.tree from to) (writable m.tree to) (brought_say (leads m.tree from) (writable m.tree to) (file_at m.tree from InvalidInput) (file_say m.tree from)) (writable_say m.tree to)
calls_can_go_well most m (asks.OpenFolder path) room spelt = can_open_folder m (standing m.tree path) room (standing_say m.tree path) spelt
calls_can_go_well most m (asks.ReadNames number size) room spelt = of_open (m.folders number) (m.files number) (λ left. ReadsSome number left m) m (can_read_names m number)
calls_can_go_well most m (asks.RealPath path) room spelt = can_spell m (found m.tree path) (found_say m.tree path) spelt
