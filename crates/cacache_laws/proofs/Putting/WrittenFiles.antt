-- A path shows the file that was written at its end.
-- What steps that are done make: new folders keep what is there, and a file can be put into them.
use Rattle.std.proofs.{lemmas.Grind.{common_steps}, Common.{rules, ◌≡◌, ℕ, zero, suc, Bool, true, false, cond, List, [], ◌∷◌, ◌++◌, Option, None, Some, Result, Ok, Err, refl, sym, ap, subst, ◌∙◌, length, take, arith, append_assoc}}
use Rattle.cacache_disk.specs.{LedTo.{where_free, and_then, or_fault, way_fault, through, bytes_there, on_link, place, standing, followed, leads, file_at, writable, where_there, where_no_folder, free, known, kept, replaceable, dirs, dirs_fault}, declared.{node.Node.{Node, TheVariants.{Folder, File, Link}}, luck.Luck.TheVariants.{Plain}}, Apply.{apply, unless, make_some, grown, taken, made_temp}, Tree.{Tree, look, put, same_path, Rooted}, Replay.{bytes_told, shown}}
use Rattle.cacache_disk.proofs.{Maps.{same_path-true}, PutNodes.{look-put}, Roots.{same_self}, FoundNodes.{or_fault_none, and_then_ok, free_ok}, PlantedNodes.{full}, Standing.{upper_folder}}
use Rattle.cacache_core.specs.{declared.errors.Fault.{Fault}, Paths.{Names, names_of}}
use Rattle.cacache_laws.proofs.trees.Stepping.{through_none}
use Rattle.cacache_store.specs.declared.store.plain.PlainTemp.{PlainTemp}
use Rattle.cacache_value.specs.{Kinds.{Content}, Placed.{MayStand}}
use Rattle.cacache_loss.proofs.StepCases.{make_keeps}
use Rattle.cacache_core.specs.declared.errors.Fault.TheVariants as faults
use Rattle.cacache_store.specs.declared.store.answer.Answer.TheVariants as answers
use Rattle.cacache_store.specs.declared.store.step.Step.TheVariants as steps

-- a place where a file can be written: no folder and no link is there
abbrev Takes : Option Node → Type 0
Takes None = Unit {0}
Takes (Some (File bytes)) = Unit {0}
Takes (Some Folder) = ⊥
Takes (Some (Link target)) = ⊥

module _ (t : Tree) (end : Names) (bytes : List ℕ) (takes : Takes (look t end)) where
  abbrev new : Tree
  new = put t end (File bytes)

  by_place : (q : Names) (b : Bool) → (b ≡ true → q ≡ end) → (o : Option Node) → look t q ≡ o → (Takes o → ⊥) → cond b (Some (File bytes)) (look t q) ≡ o
  by_place q b same o is never = grind (arith, takes)

  -- a folder or a link is as it was
  other : (q : Names) (o : Option Node) → look t q ≡ o → (Takes o → ⊥) → look new q ≡ o
  other q o is never = look-put t end (File bytes) q ∙ by_place q (same_path q end) (same_path-true q end) o is never

  written : look new end ≡ Some (File bytes)
  written = look-put t end (File bytes) end ∙ ap (λ b. cond b (Some (File bytes)) (look t end)) (same_self end)

  -- ---- the way to a place

  way_so : (above rest : Names) → way_fault t above rest ≡ None → way_fault new above rest ≡ None
  way_so above (name ∷ next ∷ rest) e =
      let h = through_none (look t (above ++ name ∷ [])) (way_fault t (above ++ name ∷ []) (next ∷ rest)) e in
      ap (λ o. through o (way_fault new (above ++ name ∷ []) (next ∷ rest))) (other (above ++ name ∷ []) (Some Folder) h.0 (λ no. no))
      ∙ way_so (above ++ name ∷ []) (next ∷ rest) h.1
  way_so above rest e = refl

  place_so : (path : List ℕ) (found : Names) → place t path ≡ Ok found → place new path ≡ Ok found
  unfolding place
  place_so path found = search (rules, or_fault_none, way_so)

  -- ---- links

  -- something is still there if something was
  stands_so : (names found : Names) → where_there (look t names) names ≡ Ok found → where_there (look new names) names ≡ Ok found
  stands_so names found e =
      ap (λ o. where_there o names) (look-put t end (File bytes) names) ∙ by (same_path names end) (look t names) e
    where
      by : (b : Bool) (o : Option Node) → where_there o names ≡ Ok found → where_there (cond b (Some (File bytes)) o) names ≡ Ok found
      by false o e = e
      by true None e = absurd cc
      by true (Some node) e = e

  standing_so : (path : List ℕ) (found : Names) → standing t path ≡ Ok found → standing new path ≡ Ok found
  unfolding standing
  standing_so path found = search (rules, place_so, stands_so)

  -- names that lead there do so still
  at_end : (names : Names) (go : List ℕ → Result Names Fault) → names ≡ end → on_link (look new names) names go ≡ Ok end
  at_end names go same = ap (λ o. on_link o names go) (ap (look new) same ∙ written) ∙ ap Ok same

  -- where links lead on, by what was there
  link_so : (names : Names) (go next : List ℕ → Result Names Fault) → ((target : List ℕ) → go target ≡ Ok end → next target ≡ Ok end) → (o : Option Node) → look t names ≡ o → on_link o names go ≡ Ok end
      → on_link (look new names) names next ≡ Ok end
  link_so names go next each o is e = grind (arith, other, at_end)

  followed_so : (most : ℕ) (names : Names) → followed most t names ≡ Ok end → followed most new names ≡ Ok end
  unfolding followed
  followed_so zero names e = link_so names (λ target. Err faults.TooDeep) (λ target. Err faults.TooDeep) (λ target no. no) (look t names) refl e
  followed_so (suc most) names e =
      link_so names (λ target. and_then (standing t target) (followed most t)) (λ target. and_then (standing new target) (followed most new)) (λ target. go (λ next. followed_so most next) target (standing t target) refl) (look t names) refl e
    where
      go : ((next : Names) → followed most t next ≡ Ok end → followed most new next ≡ Ok end) → (target : List ℕ) (r : Result Names Fault) → standing t target ≡ r → and_then r (followed most t) ≡ Ok end → and_then (standing new target) (followed most new) ≡ Ok end
      go rec target (Err fault) is e = absurd cc
      go rec target (Ok next) is e = ap (λ r. and_then r (followed most new)) (standing_so target next is) ∙ rec next e

  leads_so : (path : List ℕ) → leads t path ≡ Ok end → leads new path ≡ Ok end
  unfolding leads
  leads_so path = search (rules, place_so, followed_so)

  -- so the path shows the file
  shown_so : (path : List ℕ) → leads t path ≡ Ok end → shown new path ≡ Some bytes
  unfolding apply file_at
  shown_so path e = search (rules, leads_so, written)

-- ---- where a file can be written

-- links lead to what isn't one
link_ends : (o : Option Node) (names end : Names) (go : List ℕ → Result Names Fault) (t : Tree) → look t names ≡ o → on_link o names go ≡ Ok end
    → ((target path : List ℕ) → go target ≡ Ok end → look t end ≡ Some (Link path) → ⊥) → (path : List ℕ) → look t end ≡ Some (Link path) → ⊥
link_ends None names end go t is e each path l = let same : names ≡ end = cc in let two : None ≡ Some (Link path) = sym is ∙ ap (look t) same ∙ l in absurd cc
link_ends (Some Folder) names end go t is e each path l = let same : names ≡ end = cc in let two : Some Folder ≡ Some (Link path) = sym is ∙ ap (look t) same ∙ l in absurd cc
link_ends (Some (File b)) names end go t is e each path l = let same : names ≡ end = cc in let two : Some (File b) ≡ Some (Link path) = sym is ∙ ap (look t) same ∙ l in absurd cc
link_ends (Some (Link target)) names end go t is e each path l = each target path e l

no_link : (t : Tree) (most : ℕ) (names end : Names) → followed most t names ≡ Ok end → (path : List ℕ) → look t end ≡ Some (Link path) → ⊥
unfolding followed
no_link t zero names end e = link_ends (look t names) names end (λ target. Err faults.TooDeep) t refl e (λ target path no. absurd cc)
no_link t (suc most) names end e = link_ends (look t names) names end (λ target. and_then (standing t target) (followed most t)) t refl e (λ target path is. go (λ next. no_link t most next end) (standing t target) is path)
  where
    go : ((next : Names) → followed most t next ≡ Ok end → (path : List ℕ) → look t end ≡ Some (Link path) → ⊥) → (r : Result Names Fault) → and_then r (followed most t) ≡ Ok end → (path : List ℕ) → look t end ≡ Some (Link path) → ⊥
    go rec (Err fault) e path l = absurd cc
    go rec (Ok next) e path l = rec next e path l

takes : (t : Tree) (end : Names) (o : Option Node) → look t end ≡ o → ((path : List ℕ) → look t end ≡ Some (Link path) → ⊥) → (found : Names) → where_no_folder o end ≡ Ok found → Takes o × (end ≡ found)
takes t end o is never found e = grind (arith, common_steps)

leads_plain : (t : Tree) (path : List ℕ) (end : Names) → leads t path ≡ Ok end → (to : List ℕ) → look t end ≡ Some (Link to) → ⊥
unfolding leads
leads_plain t path end e = search (rules, no_link)

pub written_shown : (t : Tree) (path bytes : List ℕ) (names : Names) → writable t path ≡ Ok names → shown (put t names (File bytes)) path ≡ Some bytes
unfolding writable
written_shown t path bytes names = search (rules, takes, leads_plain, shown_so)

-- ---- folders that are made

-- a path leads into a folder that is there
pub way_into : (t : Tree) (p rest : Names) (name : List ℕ) → Rooted t → look t (p ++ rest) ≡ Some Folder → way_fault t p (rest ++ name ∷ []) ≡ None
way_into t p [] name rooted e = refl
way_into t p (a ∷ []) name rooted e = rw e refl
way_into t p (a ∷ b ∷ rest) name rooted e =
    let deeper = ap (look t) (append_assoc p (a ∷ []) (b ∷ rest)) ∙ e in
    rw (upper_folder t (p ++ a ∷ []) rest b Folder rooted deeper) (way_into t (p ++ a ∷ []) (b ∷ rest) name rooted deeper)

-- all folders of a path were made
pub record FoldersMade (t new : Tree) (p : List ℕ) : Type 0 where
  pub names : Names
  pub named : names_of p ≡ Ok names
  pub clear : dirs_fault t [] names ≡ None
  pub is : new ≡ make_some t [] names (length names)

dirs_made : (t : Tree) (p : List ℕ) (r : Result Names Fault) → dirs t p ≡ r → (unless r t (λ names. (answers.Done, make_some t [] names (length names)))).0 ≡ answers.Done
    → FoldersMade t (unless r t (λ names. (answers.Done, make_some t [] names (length names)))).1 p
unfolding dirs
dirs_made t p (Ok names) is e =
    let f = and_then_ok (names_of p) (λ names. or_fault (dirs_fault t [] names) names) names is in
    let o = or_fault_none (dirs_fault t [] f.0) f.0 names f.2 in
    record { names = names; named = f.1 ∙ ap Ok o.1; clear = subst (λ n. dirs_fault t [] n ≡ None) o.1 o.0; is = refl }
dirs_made t p (Err fault) is e = absurd cc

pub made_so : (t : Tree) (p : List ℕ) → (apply t (steps.MakeDirs p) Plain).0 ≡ answers.Done → FoldersMade t (apply t (steps.MakeDirs p) Plain).1 p
unfolding apply
made_so t p e = dirs_made t p (dirs t p) refl e

-- they lead to a name in the last of them
pub made_place : (t new : Tree) (p path : List ℕ) (names : Names) (name : List ℕ) → Rooted t → Rooted new → (made : FoldersMade t new p) → names_of path ≡ Ok (made.names ++ name ∷ [])
    → place new path ≡ Ok (made.names ++ name ∷ [])
unfolding place
made_place t new p path names name rooted after made named =
    let last : look new made.names ≡ Some Folder = ap (λ x. look x made.names) made.is ∙ full t [] made.names (length made.names) rooted.top made.clear (omega arith) in
    rw (named, way_into new [] made.names name after last) refl

-- ---- a temporary file

-- a temporary file is there, and its bytes are known
pub record Stands (t : Tree) (file : PlainTemp) : Type 0 where
  pub names : Names
  pub bytes : List ℕ
  pub was : List ℕ
  pub known_to_be : file.bytes ≡ Some bytes
  pub named : names_of file.path ≡ Ok names
  pub there : look t names ≡ Some (File was)

free_made : (t : Tree) (p : List ℕ) (file : PlainTemp) (r : Result Names Fault) → free t p ≡ r → (unless r t (λ names. (answers.Temp (made_temp p), put t names (File [])))).0 ≡ answers.Temp file
    → Stands (unless r t (λ names. (answers.Temp (made_temp p), put t names (File [])))).1 file
free_made t p file (Ok names) is e =
    let same : made_temp p ≡ file = cc in
    subst (Stands (put t names (File []))) same
    (record {
      names = names;
      bytes = [];
      was = [];
      known_to_be = refl;
      named = (free_ok t p names is).0;
      there = look-put t names (File []) names ∙ ap (λ b. cond b (Some (File [])) (look t names)) (same_self names);
    })
free_made t p file (Err fault) is e = absurd cc

pub created_so : (t : Tree) (p : List ℕ) (file : PlainTemp) → (apply t (steps.CreateTemp p) Plain).0 ≡ answers.Temp file → Stands (apply t (steps.CreateTemp p) Plain).1 file
unfolding apply
created_so t p file e = free_made t p file (free t p) refl e

-- a temporary file of these bytes
abbrev with_bytes : PlainTemp → List ℕ → PlainTemp
with_bytes file bytes = record { path = file.path; bytes = Some bytes }

grown_stands : (t : Tree) (file next : PlainTemp) (rest : List ℕ) (count n : ℕ) → (s : Stands t file) → grown file rest count (Some s.bytes) ≡ answers.Wrote next n → Stands t next
grown_stands t file next rest count n s e =
    let same : with_bytes file (s.bytes ++ take count rest) ≡ next = cc in
    subst (Stands t) same
    (record { names = s.names; bytes = s.bytes ++ take count rest; was = s.was; known_to_be = refl; named = s.named; there = s.there })

pub wrote_so : (t : Tree) (file next : PlainTemp) (rest : List ℕ) (n : ℕ) → Stands t file → (apply t (steps.Write file rest) Plain).0 ≡ answers.Wrote next n
    → Stands (apply t (steps.Write file rest) Plain).1 next
unfolding apply
wrote_so t file next rest n s e =
    grown_stands t file next rest (taken None rest) n s (ap (grown file rest (taken None rest)) (sym s.known_to_be) ∙ e)

-- it is still there after folders are made
pub still_stands : (t new : Tree) (p : List ℕ) (file : PlainTemp) → FoldersMade t new p → Stands t file → Stands new file
still_stands t new p file made s = search (rules, make_keeps)

-- ---- it becomes a content

no_folder : (home : Option Names) (here : Option Node) (names : Names) → MayStand home here Content → where_no_folder here names ≡ Ok names
no_folder home here names s = grind (arith, common_steps)

pub kept_so : (t : Tree) (file : PlainTemp) (s : Stands t file) → kept t file.path ≡ Ok s.names
unfolding kept
kept_so t file s = rw (s.named, s.there) refl

pub replaceable_so : (home : Option Names) (t : Tree) (path : List ℕ) (names : Names) → place t path ≡ Ok names → MayStand home (look t names) Content → replaceable t path ≡ Ok names
unfolding replaceable
replaceable_so home t path names leads suits = rw leads (no_folder home (look t names) names suits)

pub persisted_so : (home : Option Names) (t : Tree) (file : PlainTemp) (path : List ℕ) (names : Names) → Stands t file → place t path ≡ Ok names → MayStand home (look t names) Content
    → (apply t (steps.Persist file path) Plain).0 ≡ answers.Done
unfolding apply
persisted_so home t file path names s leads suits =
    let is_known : known file.bytes ≡ Ok s.bytes = ap known s.known_to_be in
    rw (is_known, kept_so t file s, replaceable_so home t path names leads suits) refl

-- ---- a path with nothing at it

-- a file can be written there
pub free_writable : (t : Tree) (path : List ℕ) (end : Names) → free t path ≡ Ok end → writable t path ≡ Ok end
unfolding free writable leads followed
free_writable t path end = search rules

-- and shows it then
pub put_shown : (t : Tree) (path bytes : List ℕ) (end : Names) → free t path ≡ Ok end → shown (put t end (File bytes)) path ≡ Some bytes
put_shown t path bytes end e = written_shown t path bytes end (free_writable t path end e)
