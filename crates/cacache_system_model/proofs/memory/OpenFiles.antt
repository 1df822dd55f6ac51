-- That what calls do with open files of a system in memory, and openings and copies, are what the model says.
use Rattle.std.proofs.{Math.Seq.{take-length}, lemmas.{List.{length-map}, Option.{slice_get-map, slice_get_past, slice_get_within}}, Common.{◌≡◌, ◌∙◌, ◌==◌, ℕ, Bool, true, false, if◌then◌else◌, List, [], ◌∷◌, ◌++◌, map, take, drop, length, option_map, slice_get, refl, sym, ap, subst, inl, inr, arith}}
use Rattle.std.specs.Prelude.{◌⊎◌, ⊤, Option, None, Some, Result, Ok, Err, IfSome, IsSome, IsSomeAnd, slice_set}
use Rattle.std_io.specs.declared.io.kind.ErrorKind.TheVariants as kind
use Rattle.cacache_core.specs.{declared.errors.Fault.{Fault, TheVariants.{Device, IsADirectory}}, Paths.{Names}}
use Rattle.cacache_disk.specs.{declared.{node.Node.{Node, TheVariants.{Folder, File}}, stop.Stop.{Stop}}, Tree.{Tree, look}}
use Rattle.cacache_disk.specs.declared.stop.Stop.TheVariants as stop
use Rattle.cacache_system.specs.declared.call.{FileInfo.{FileInfo}, CallResult.{CallResult}}
use Rattle.cacache_system.specs.declared.call.CallResult.TheVariants as says
use Rattle.cacache_system_model.specs.{Machine.{Place, under, nameless, Machine, OnOpen, CopiesTo, Describes, grown, node_of, unread, with_file, Grows, IsRefused, IsUnused, OpensIf, ReadsFile, ReadsOpen, WritesOpen, ShowsPlace, ShowsOpen, GivesRights, CopiesBytes}, declared.memory.{files.OpenFile.{OpenFile}, state.Memory.{Memory}}, memory.{Stopping.{kind_of, kind_for, outcome}, Changes.{Changed}, Files.{place_of, open_of, IsSame, Opens, IsNoFile, IsRest, IsBad, Fails, Gives, Reads, read_more, Lengthens, Writes, IsOpen, open_info, ShownOpen, Copied}, Machines.{machine, GivesUp}}}
use Rattle.cacache_system_model.proofs.{Saying.{Sayable}, memory.{Goings.{refused, refused_so, kept_so, same_machine, same_fault, placed_anew, described, apart}, Places.{at_put, at_end}}}
use Rattle.cacache_system_model.specs.Machine as model

-- ---- refusals

bad_number : (m n : Memory) (out : CallResult) → out ≡ says.Failed kind.Other → IsSame m n → IsRefused Device (machine m.disk m.files.items) out (machine n.disk n.files.items)
bad_number m n out is same = (kind.Other, is, refl, refl, same_machine m n same)

no_file : (m n : Memory) (out : CallResult) → out ≡ says.Failed kind.IsADirectory → IsSame m n
    → IsRefused IsADirectory (machine m.disk m.files.items) out (machine n.disk n.files.items)
no_file m n out is same = (kind.IsADirectory, is, refl, refl, same_machine m n same)

-- ---- openings

-- one open file more
one_more : (old new : List OpenFile) (t u : Tree) (names : Names) (number : ℕ) → number ≡ length old → map open_of new ≡ map open_of old ++ unread names ∷ []
    → (machine u new).files ≡ with_file (machine t old).files number (unread names)
one_more old new t u names number next more = λ i. λ k. at k i
  where
    at : (k : ℕ) → option_map open_of (slice_get new k) ≡ (if k == number then Some (unread names) else option_map open_of (slice_get old k))
    at k =
        sym (slice_get-map open_of new k) ∙ ap (λ (files : List model.OpenFile). slice_get files k) more ∙ at_end (map open_of old) k (unread names)
        ∙ ap (λ (j : ℕ). if k == j then Some (unread names) else slice_get (map open_of old) k) (length-map old open_of ∙ sym next)
        ∙ ap (λ (o : Option model.OpenFile). if k == number then Some (unread names) else o) (slice_get-map open_of old k)

unused : (t : Tree) (files : List OpenFile) (number : ℕ) → number ≡ length files → IsUnused (machine t files) number
unused t files number next = (ap (option_map open_of) (slice_get_past files number (omega (arith, next))), refl)

pub goes_opened : (m n : Memory) (ends : Result Names Fault) (tree : Names → Tree) (opened : Result ℕ Stop) (out : CallResult) → Sayable ends → out ≡ outcome says.Opened opened
    → Opens ends tree m opened n
    → OpensIf ends tree (machine m.disk m.files.items) out (machine n.disk n.files.items) ⊎ GivesUp kind.OutOfMemory (machine m.disk m.files.items) out (machine n.disk n.files.items)
goes_opened m n ends tree (Err stop.OutOfMemory) out can is same = inr (kept_so m n kind.OutOfMemory out is same)
goes_opened m n (Ok names) tree (Ok number) out can is (disk, next, files) =
    inl (number, is, unused m.disk m.files.items number next, (disk, one_more m.files.items n.files.items m.disk n.disk names number next files, refl, λ k. refl))
goes_opened m n (Ok names) tree (Err (stop.Fault fault)) out can is change = absurd (apart (Ok names) names fault refl change.0)
goes_opened m n (Err own) tree (Ok number) out can is change = absurd change
goes_opened m n (Err own) tree (Err (stop.Fault fault)) out can is (same, stays) = inl (refused_so m n fault own out can is same stays)

-- ---- reads

mapped : (f : OpenFile → model.OpenFile) (b : Bool) (x : OpenFile) (o : Option OpenFile) → option_map f (if b then Some x else o) ≡ (if b then Some (f x) else option_map f o)
mapped f true x o = refl
mapped f false x o = refl

-- an open file of which more was read
read_on : (old new : List OpenFile) (t u : Tree) (number count : ℕ) (file : OpenFile) → slice_get old number ≡ Some file → new ≡ slice_set old number (read_more count file)
    → (machine u new).files ≡ with_file (machine t old).files number (open_of (read_more count file))
read_on old new t u number count file there set = λ i. λ k. at k i
  where
    at : (k : ℕ) → option_map open_of (slice_get new k) ≡ (if k == number then Some (open_of (read_more count file)) else option_map open_of (slice_get old k))
    at k =
        ap (λ (files : List OpenFile). option_map open_of (slice_get files k)) set
        ∙ ap (option_map open_of) (at_put old number k (read_more count file) (slice_get_within old number file there))
        ∙ mapped open_of (k == number) (read_more count file) (slice_get old k)

-- a file that has these bytes gave the next of them
gave : (pick : List ℕ → List ℕ) (number : ℕ) (next rest : List ℕ) (m n : Memory) (file : OpenFile) (out : CallResult) (here : Option Node) → slice_get m.files.items number ≡ Some file
    → IsRest file.read here rest → next ≡ pick rest → out ≡ says.Bytes next → n.disk ≡ m.disk → n.files.items ≡ slice_set m.files.items number (read_more (length next) file)
    → ReadsFile pick number (open_of file) here (machine m.disk m.files.items) out (machine n.disk n.files.items)
gave pick number next rest m n file out (Some (File bytes)) there left picked is disk files =
    let given : next ≡ pick (drop file.read bytes) = picked ∙ ap pick left in
    subst (λ (next : List ℕ). model.Gives number (open_of file) next (machine m.disk m.files.items) out (machine n.disk n.files.items)) given
    (is, (disk, read_on m.files.items n.files.items m.disk n.disk number (length next) file there files, refl, λ k. refl))
gave pick number next rest m n file out here there left picked is disk files = absurd left

unread_at : (pick : List ℕ → List ℕ) (number : ℕ) (m n : Memory) (file : OpenFile) (out : CallResult) (here : Option Node) → IsNoFile here → out ≡ says.Failed kind.IsADirectory → IsSame m n
    → ReadsFile pick number (open_of file) here (machine m.disk m.files.items) out (machine n.disk n.files.items)
unread_at pick number m n file out (Some Folder) none is same = no_file m n out is same
unread_at pick number m n file out (Some (File bytes)) none is same = absurd none
unread_at pick number m n file out here none is same = tt

-- ---- calls on open files

-- the machines before a call and after it
module _ (number : ℕ) (m n : Memory) (out : CallResult) where
  abbrev pub before : Machine
  before = machine m.disk m.files.items

  abbrev pub after : Machine
  after = machine n.disk n.files.items

  -- a call on an open file that failed
  failed : (Does : model.OpenFile → CallResult → Machine → Type 0) (R : Type 0) (why : Stop) → out ≡ says.Failed (kind_of why) → Fails number m why n
      → (OnOpen number Does before out after → R) → (GivesUp kind.OutOfMemory before out after → R)
      → ((file : OpenFile) → slice_get m.files.items number ≡ Some file → IsNoFile (node_of m.disk (place_of file.place)) → out ≡ says.Failed kind.IsADirectory → IsSame m n → R) → R
  failed Does R stop.OutOfMemory is same on up bad = up (kept_so m n kind.OutOfMemory out is same)
  failed Does R (stop.Fault fault) is (is_bad, same) on up bad = at (slice_get m.files.items number) refl is_bad
    where
      at : (o : Option OpenFile) → slice_get m.files.items number ≡ o → IsBad m o (stop.Fault fault) → R
      at None there what =
          on (rw there (bad_number m n out (is ∙ ap (λ why. says.Failed (kind_of why)) what) same))
      at (Some file) there (none, what) = bad file there none (is ∙ ap (λ why. says.Failed (kind_of why)) what) same

  -- a call on an open file that is there
  done : (Does : model.OpenFile → CallResult → Machine → Type 0) (P : OpenFile → Type 0) → IsSomeAnd (slice_get m.files.items number) P
      → ((file : OpenFile) → slice_get m.files.items number ≡ Some file → P file → Does (open_of file) out after) → OnOpen number Does before out after
  done Does P there does = at (slice_get m.files.items number) refl there
    where
      at : (o : Option OpenFile) → slice_get m.files.items number ≡ o → IsSomeAnd o P → OnOpen number Does before out after
      at None is some = absurd some
      at (Some file) is some = rw is (does file is some)

  -- or none is
  none_open : (Does : model.OpenFile → CallResult → Machine → Type 0) → slice_get m.files.items number ≡ None → out ≡ says.Failed kind.Other → IsSame m n → OnOpen number Does before out after
  none_open Does none is same = rw none (bad_number m n out is same)

  pub goes_read : (pick : List ℕ → List ℕ) (given : ℕ → List ℕ) (result : Result ℕ Stop) → out ≡ outcome (λ count. says.Bytes (given count)) result → Reads pick number given m result n
      → ReadsOpen pick number before out after ⊎ GivesUp kind.OutOfMemory before out after
  goes_read pick given (Ok count) is reads =
      inl (done (λ file. ReadsFile pick number file (node_of m.disk file.place) before) (Gives pick number (given count) m n) reads
      (λ file there gives. gave pick number (given count) gives.0 m n file out (node_of m.disk (place_of file.place)) there gives.1 gives.2 is gives.3.0 gives.3.1))
  goes_read pick given (Err why) is fails =
      failed (λ file. ReadsFile pick number file (node_of m.disk file.place) before) _ why is fails inl inr
      (λ file there none is same. inl (rw there (unread_at pick number m n file out (node_of m.disk (place_of file.place)) none is same)))

  -- a file that got more bytes
  grew : (place : Place) (more : List ℕ) → Lengthens place more m n → Grows place more before after
  grew (under names) more (disk, files) = (disk, ap (λ (files : List OpenFile). λ k. option_map open_of (slice_get files k)) files, refl, λ k. refl)
  grew (nameless mark here) more (disk, placed) = (disk, placed_anew (grown mark more) m.disk n.disk m.files.items n.files.items placed, refl, λ k. refl)

  pub goes_written : (more : List ℕ) (result : Result ℕ Stop) → out ≡ outcome says.Count result → Writes more number m result n
      → (WritesOpen None more number before out after ⊎ GivesUp kind.OutOfMemory before out after)
      ⊎ (IsSomeAnd (before.files number) (λ file. IsNoFile (node_of m.disk file.place)) × GivesUp kind.IsADirectory before out after)
  goes_written more (Ok count) is (all, there) =
      inl (inl (done (λ file said after. (said ≡ says.Count (length more)) × Grows file.place (take (length more) more) before after)
      (λ file. Lengthens (place_of file.place) more m n) there
      (λ file there grows. (is ∙ ap says.Count all, subst (λ (bytes : List ℕ). Grows (place_of file.place) bytes before after) (sym (take-length more)) (grew (place_of file.place) more grows)))))
  goes_written more (Err why) is fails =
      failed (λ file said after. (said ≡ says.Count (length more)) × Grows file.place (take (length more) more) before after) _ why is fails (λ on. inl (inl on)) (λ up. inl (inr up))
      (λ file there none is same. inr (rw there none, kept_so m n kind.IsADirectory out is same))

-- ---- looks, owners and modes

-- the same machine, of a call that changes nothing
module _ (number : ℕ) (m : Memory) (out : CallResult) where
  shown_at : (here : Option Node) (info : FileInfo) → info ≡ open_info here → IfSome here (λ node. Describes node (0, 0) info)
  shown_at None info is = tt
  shown_at (Some node) info is = rw is (described node)

  shown_place : (place : Place) (info : FileInfo) → out ≡ says.Info info → info ≡ open_info (node_of m.disk place)
      → ShowsPlace place (machine m.disk m.files.items) out (machine m.disk m.files.items)
  shown_place (under names) info is shown = (info, is, shown_at (look m.disk names) info shown, refl)
  shown_place (nameless mark here) info is shown = (info, is, nameless_at here (shown_at here info shown), refl)
    where
      nameless_at : (here : Option Node) → IfSome here (λ node. Describes node (0, 0) info) → IfSome here (λ node. (inode : ℕ × ℕ) × Describes node inode info)
      nameless_at None is = tt
      nameless_at (Some node) is = ((0, 0), is)

  pub goes_shown_open : (info : Result FileInfo Stop) → out ≡ outcome says.Info info → ShownOpen number m info
      → ShowsOpen number (machine m.disk m.files.items) out (machine m.disk m.files.items)
  goes_shown_open (Ok info) is shown =
      done number m m out (λ file. ShowsPlace file.place (machine m.disk m.files.items)) (λ file. info ≡ open_info (node_of m.disk (place_of file.place))) shown
      (λ file there told. shown_place (place_of file.place) info is told)
  goes_shown_open (Err why) is (none, bad) =
      none_open number m m out (λ file. ShowsPlace file.place (machine m.disk m.files.items)) none (is ∙ ap (λ why. says.Failed (kind_of why)) bad) (refl, refl)

  some_open : (o : Option OpenFile) → IsSome o → IsSomeAnd o (λ file. ⊤)
  some_open None is = absurd cc
  some_open (Some file) is = tt

  pub goes_rights : (given : Result ⊤ Stop) → out ≡ outcome (λ _. says.Done) given → IsOpen number m given
      → GivesRights number (machine m.disk m.files.items) out (machine m.disk m.files.items)
  goes_rights (Ok given) is there =
      done number m m out (λ file said after. (said ≡ says.Done) × (after ≡ machine m.disk m.files.items)) (λ file. ⊤) (some_open (slice_get m.files.items number) there) (λ file found some. (is, refl))
  goes_rights (Err why) is (none, bad) =
      none_open number m m out (λ file said after. (said ≡ says.Done) × (after ≡ machine m.disk m.files.items)) none (is ∙ ap (λ why. says.Failed (kind_of why)) bad) (refl, refl)

-- ---- copies

copied : (bytes : List ℕ) (m n : Memory) (ends : Result Names Fault) (result : Result ℕ Stop) (out : CallResult) → Sayable ends → out ≡ outcome says.Count result
    → Copied (Ok bytes) ends m result n
    → CopiesTo bytes ends (machine m.disk m.files.items) out (machine n.disk n.files.items) ⊎ GivesUp kind.OutOfMemory (machine m.disk m.files.items) out (machine n.disk n.files.items)
copied bytes m n ends (Err stop.OutOfMemory) out can is same = inr (kept_so m n kind.OutOfMemory out is same)
copied bytes m n (Ok names) (Ok count) out can is (all, disk, files) =
    inl (is ∙ ap says.Count all, (disk, ap (λ (files : List OpenFile). λ k. option_map open_of (slice_get files k)) files, refl, λ k. refl))
copied bytes m n (Ok names) (Err (stop.Fault fault)) out can is change = absurd (apart (Ok names) names fault refl change.0)
copied bytes m n (Err own) (Ok count) out can is change = absurd change
copied bytes m n (Err own) (Err (stop.Fault fault)) out can is (same, stays) = inl (refused_so m n fault own out can is same stays)

pub goes_copied : (m n : Memory) (source : Result (List ℕ) Fault) (ends : Result Names Fault) (result : Result ℕ Stop) (out : CallResult) → Sayable source → Sayable ends
    → out ≡ outcome says.Count result → Copied source ends m result n
    → CopiesBytes source ends (machine m.disk m.files.items) out (machine n.disk n.files.items) ⊎ GivesUp kind.OutOfMemory (machine m.disk m.files.items) out (machine n.disk n.files.items)
goes_copied m n (Ok bytes) ends result out first can is change = copied bytes m n ends result out can is change
goes_copied m n (Err own) ends (Ok count) out first can is change = absurd change
goes_copied m n (Err own) ends (Err stop.OutOfMemory) out first can is same = inr (kept_so m n kind.OutOfMemory out is same)
goes_copied m n (Err own) ends (Err (stop.Fault fault)) out first can is (same, stays) = inl (refused_so m n fault own out first is (ap Err same) stays)
