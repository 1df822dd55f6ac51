-- The step that makes folders, whether they can be made or not.
use Rattle.std.proofs.{Common.{◌≡◌, ◌==◌, ℕ, Bool, true, false, if◌then◌else◌, List, [], length, filter, refl, sym, ap, subst, ◌∙◌, arith, eqb-true}, lemmas.List.{nil_from_length}}
use Rattle.std.specs.Prelude.{Option, None, Some, Result, Ok, Err}
use Rattle.std_io.specs.declared.io.kind.ErrorKind.{ErrorKind}
use Rattle.std_io.specs.declared.io.kind.ErrorKind.TheVariants as kind
use Rattle.cacache_core.specs.{Errors.{fault_of}, declared.errors.Fault.{Fault, TheVariants.{NotFound, AlreadyExists, NotADirectory, InvalidInput}}, Paths.{Names, names_of, pieces, is_bad, is_name}}
use Rattle.cacache_store.specs.declared.store.answer.Kind.{Kind}
use Rattle.cacache_store.specs.declared.store.step.Step.TheVariants as steps
use Rattle.cacache_store.specs.declared.store.answer.Answer.TheVariants as answers
use Rattle.cacache_disk.specs.{declared.{luck.Luck.TheVariants.{Plain}, node.Node.{Node, TheVariants.{Folder, File}}}, Tree.{Tree, look, put, Rooted}, LedTo.{and_then, or_fault, place, free, leads, followed, found, where_there, where_free, dirs, dirs_fault}, Apply.{apply, unless, make_some, making as how_many, left_by, fault_told}}
use Rattle.cacache_disk.proofs.PathTexts.{names_proper}
use Rattle.cacache_system.specs.{declared.call.{FileInfo.{FileInfo}, CallResult.{CallResult}}, CallsOf.{Stage, over, standing, making, confirming, below, unmade, climb, above_of, is_absent, if_folder, after}, AnswersOf.{Hint, is_missing, make_dirs, refuses_memory}}
use Rattle.cacache_system.specs.declared.call.SystemCall.TheVariants as asks
use Rattle.cacache_system.specs.declared.call.CallResult.TheVariants as says
use Rattle.cacache_system_model.specs.{Machine.{Machine, IsRefused, ChangesTree, ShowsEnd, ShowsNode, Describes}, Calls.{GoesWell}, Laws.{outcome, Leads, IsPlain, IsDone}, StepLaws.{HasNoLink, MakeDirsAgrees}}
use Rattle.cacache_system_model.proofs.{Refusing.{broken_part}, Leading.{Claim, over_leads, call_leads}, Claims.{way_of, claim_of, agrees_of, claim_plain, claim_lucky}, Steps.{Opening.{said_leads, of_some}, Looking.{table_fails}, Growing.{none_grown, grown_left, grown_whole, Blocked, on_way, at_last, blocked}, Making.{never_absent, DirsEnd, up_leads, stand_leads, place_so}, CopyFacts.{fault_absent}}, Views.{leads_straight, found_at}, Fresh.{free_at_place}}
use Rattle.cacache_history.proofs.Contents.Deeds.{no_place}
use Rattle.cacache_value.proofs.Applying.{unmakeable}

apply_dirs : (t : Tree) (path : List ℕ) (r : Result Names Fault) → dirs t path ≡ r → apply t (steps.MakeDirs path) Plain ≡ unless r t (λ names. outcome answers.Done (make_some t [] names (length names)))
unfolding apply
apply_dirs t path r is = ap (λ (x : Result Names Fault). unless x t (λ names. outcome answers.Done (make_some t [] names (length names)))) is

dirs_so : (t : Tree) (path : List ℕ) (names : Names) (fault : Option Fault) → names_of path ≡ Ok names → dirs_fault t [] names ≡ fault → dirs t path ≡ or_fault fault names
unfolding dirs
dirs_so t path names fault named is =
    ap (λ (r : Result Names Fault). and_then r (λ n. or_fault (dirs_fault t [] n) n)) named ∙ ap (λ (o : Option Fault). or_fault o names) is

found_nowhere : (t : Tree) (path : List ℕ) (fault : Fault) → place t path ≡ Err fault → found t path ≡ Err fault
unfolding found leads
found_nowhere t path fault is = found_at t path (Err fault) (ap (λ (r : Result Names Fault). and_then r (followed 16 t)) is)

part_of_dirs : (t : Tree) (path : List ℕ) (names : Names) (part : ℕ) → dirs t path ≡ Ok names → left_by t (steps.MakeDirs path) (Some part) ≡ make_some t [] names part
part_of_dirs t path names part is = ap (λ (r : Result Names Fault). (unless r t (λ names. outcome answers.Done (make_some t [] names (how_many (Some part) names)))).1) is

begins_so : (b : Bool) (hint : Hint) (path : List ℕ) (m : Machine) (P : Claim) → Leads (way_of b) (making false path []) m P → Leads (way_of b) (standing path) m P → Leads (way_of b) (make_dirs hint path) m P
begins_so b is_missing path m P first second = first
begins_so b hint path m P first second = second

-- ---- folders that can be made

module _ (b : Bool) (m : Machine) (path : List ℕ) (names : Names) (rooted : Rooted m.tree) (named : names_of path ≡ Ok names) (fine : dirs_fault m.tree [] names ≡ None) (done : b ≡ false → IsDone m (steps.MakeDirs path)) where
  ends : DirsEnd b m.tree names (claim_of b m (steps.MakeDirs path))
  ends = record {
    succeeds = λ n new count grown stands tree. claim_plain b m (steps.MakeDirs path) done says.Done n
        (apply_dirs m.tree path (Ok names) (dirs_so m.tree path names None named fine)
        ∙ ap (outcome answers.Done) (grown_whole m.tree new names count grown stands ∙ sym tree));
    breaks = λ why n new count grown tree broke missed. claim_lucky b m (steps.MakeDirs path) done (says.Failed why) n broke (λ d.
        broken_part (steps.MakeDirs path) why (says.Failed why) m n (Some count) refl missed
        (tree ∙ sym (grown_left m.tree new names count grown) ∙ sym (part_of_dirs m.tree path names count (dirs_so m.tree path names None named fine))) (λ whole. absurd cc) d);
  }

  can_leads : (hint : Hint) → Leads (way_of b) (make_dirs hint path) m (claim_of b m (steps.MakeDirs path))
  can_leads hint =
      let grown = none_grown m.tree names rooted fine in
      let proper = names_proper path names named in
      begins_so b hint path m (claim_of b m (steps.MakeDirs path))
      (up_leads b m.tree names (claim_of b m (steps.MakeDirs path)) proper ends (length path) path [] names m (omega arith) grown named refl refl)
      (stand_leads b m.tree names (claim_of b m (steps.MakeDirs path)) proper ends path m grown named refl)

-- ---- folders that can't

-- why a path can't be a folder: it leads nowhere, or a file is there
data Bar (t : Tree) (path : List ℕ) (fault : Fault) : Type 0 where
  empty : path ≡ [] → fault ≡ NotFound → free t path ≡ Err NotFound → found t path ≡ Err NotFound → Bar t path fault
  nowhere : (fault ≡ NotFound → ⊥) → free t path ≡ Err fault → found t path ≡ Err fault → Bar t path fault
  a_file : (names : Names) (bytes : List ℕ) → fault ≡ AlreadyExists → free t path ≡ Err AlreadyExists → found t path ≡ Ok names → look t names ≡ Some (File bytes) → Bar t path fault

module _ (m : Machine) (path : List ℕ) (fault : Fault) (is : dirs m.tree path ≡ Err fault) where
  says_fault : (why : ErrorKind) (n : Machine) → fault_of why ≡ fault → refuses_memory why ≡ false → n.tree ≡ m.tree → IsPlain m (steps.MakeDirs path) (says.Failed why) n
  says_fault why n of memory tree enough = apply_dirs m.tree path (Err fault) is ∙ table_fails (steps.MakeDirs path) fault why m n refl of memory tree

  over_fault : (why : ErrorKind) (n : Machine) → fault_of why ≡ fault → refuses_memory why ≡ false → n.tree ≡ m.tree → Leads (GoesWell None) (over (says.Failed why)) n (IsPlain m (steps.MakeDirs path))
  over_fault why n of memory tree = over_leads (GoesWell None) (says.Failed why) n (IsPlain m (steps.MakeDirs path)) (says_fault why n of memory tree)

  file_shown : (names : Names) (bytes : List ℕ) (s next : Stage) (said : CallResult) (n l : Machine) → n.tree ≡ m.tree → fault ≡ AlreadyExists → look m.tree names ≡ Some (File bytes)
      → ((info : FileInfo) → after s (says.Info info) ≡ if_folder info.kind kind.AlreadyExists next) → ShowsNode names n said l → Leads (GoesWell None) (after s said) l (IsPlain m (steps.MakeDirs path))
  file_shown names bytes s next said n l tree exists stands shown (info, same, fits, stays) =
      let described = of_some (look n.tree names) (File bytes) (λ x. Describes x (n.inodes names) info) (ap (λ (x : Tree). look x names) tree ∙ stands) fits in
      said_leads true s said (says.Info info) l (IsPlain m (steps.MakeDirs path)) same
      (subst (λ (t : Stage). Leads (GoesWell None) t l (IsPlain m (steps.MakeDirs path))) (sym (shown info))
      (subst (λ (k : Kind). Leads (GoesWell None) (if_folder k kind.AlreadyExists next) l (IsPlain m (steps.MakeDirs path))) (sym described.kind)
      (over_fault kind.AlreadyExists l (sym exists) refl (ap (λ (x : Machine). x.tree) stays ∙ tree))))

  confirm_said : (bar : Bar m.tree path fault) (why : ErrorKind) (n : Machine) → (path ≡ [] → fault ≡ NotFound → ⊥) → n.tree ≡ m.tree → (said : CallResult) (l : Machine) → ShowsEnd (found m.tree path) n said l
      → Leads (GoesWell None) (after (confirming why path []) said) l (IsPlain m (steps.MakeDirs path))
  confirm_said (empty none missing frees finds) why n some tree said l shows = absurd (some none missing)
  confirm_said (nowhere other frees finds) why n some tree said l shows =
      let refused : IsRefused fault n said l = subst (λ (r : Result Names Fault). ShowsEnd r n said l) finds shows in
      said_leads true (confirming why path []) said (says.Failed refused.0) l (IsPlain m (steps.MakeDirs path)) refused.1
      (subst (λ (c : Bool). Leads (GoesWell None) (over (says.Failed (if c then why else refused.0))) l (IsPlain m (steps.MakeDirs path))) (sym (never_absent refused.0 fault refused.2 other))
      (over_fault refused.0 l refused.2 refused.3 (ap (λ (x : Machine). x.tree) refused.4 ∙ tree)))
  confirm_said (a_file names bytes exists frees finds stands) why n some tree said l shows =
      file_shown names bytes (confirming why path []) (below []) said n l tree exists stands (λ info. refl) (subst (λ (r : Result Names Fault). ShowsEnd r n said l) finds shows)

  confirm_bar : (bar : Bar m.tree path fault) (why : ErrorKind) (n : Machine) → (path ≡ [] → fault ≡ NotFound → ⊥) → n.tree ≡ m.tree → Leads (GoesWell None) (confirming why path []) n (IsPlain m (steps.MakeDirs path))
  confirm_bar bar why n some tree =
      call_leads (GoesWell None) (confirming why path []) (asks.Stat path) n (IsPlain m (steps.MakeDirs path)) refl (λ end never. absurd never)
      (λ said l well. confirm_said bar why n some tree said l (subst (λ (x : Tree). ShowsEnd (found x path) n said l) tree well))

  making_said : (why : ErrorKind) (c : Bool) (said : CallResult) (l : Machine) → said ≡ says.Failed why → is_absent why ≡ c
      → Leads (GoesWell None) (if c then unmade false why path [] else confirming why path []) l (IsPlain m (steps.MakeDirs path)) → Leads (GoesWell None) (after (making false path []) said) l (IsPlain m (steps.MakeDirs path))
  making_said why c said l same absent leads =
      said_leads true (making false path []) said (says.Failed why) l (IsPlain m (steps.MakeDirs path)) same
      (subst (λ (x : Bool). Leads (GoesWell None) (if x then unmade false why path [] else confirming why path []) l (IsPlain m (steps.MakeDirs path))) (sym absent) leads)

  make_said : (bar : Bar m.tree path fault) (n : Machine) → n.tree ≡ m.tree → (said : CallResult) (l : Machine) → ChangesTree (free m.tree path) (λ y. put m.tree y Folder) n said l
      → Leads (GoesWell None) (after (making false path []) said) l (IsPlain m (steps.MakeDirs path))
  make_said (empty none missing frees finds) n tree said l changes =
      let refused : IsRefused NotFound n said l = subst (λ (r : Result Names Fault). ChangesTree r (λ y. put m.tree y Folder) n said l) frees changes in
      making_said refused.0 true said l refused.1 (fault_absent refused.0 refused.2)
      (subst (λ (p : List ℕ). Leads (GoesWell None) (climb (above_of p) refused.0 path []) l (IsPlain m (steps.MakeDirs path))) (sym none)
      (over_fault refused.0 l (refused.2 ∙ sym missing) refused.3 (ap (λ (x : Machine). x.tree) refused.4 ∙ tree)))
  make_said (nowhere other frees finds) n tree said l changes =
      let refused : IsRefused fault n said l = subst (λ (r : Result Names Fault). ChangesTree r (λ y. put m.tree y Folder) n said l) frees changes in
      making_said refused.0 false said l refused.1 (never_absent refused.0 fault refused.2 other)
      (confirm_bar (nowhere other frees finds) refused.0 l (λ none missing. other missing) (ap (λ (x : Machine). x.tree) refused.4 ∙ tree))
  make_said (a_file names bytes exists frees finds stands) n tree said l changes =
      let refused : IsRefused AlreadyExists n said l = subst (λ (r : Result Names Fault). ChangesTree r (λ y. put m.tree y Folder) n said l) frees changes in
      making_said refused.0 false said l refused.1 (never_absent refused.0 AlreadyExists refused.2 (λ e. cc))
      (confirm_bar (a_file names bytes exists frees finds stands) refused.0 l (λ none missing. cc) (ap (λ (x : Machine). x.tree) refused.4 ∙ tree))

  -- the folder is made, which fails
  make_bar : (bar : Bar m.tree path fault) (n : Machine) → n.tree ≡ m.tree → Leads (GoesWell None) (making false path []) n (IsPlain m (steps.MakeDirs path))
  make_bar bar n tree =
      call_leads (GoesWell None) (making false path []) (asks.MakeFolder path) n (IsPlain m (steps.MakeDirs path)) refl (λ end never. absurd never)
      (λ said l well. make_said bar n tree said l (subst (λ (x : Tree). ChangesTree (free x path) (λ y. put x y Folder) n said l) tree well))

  standing_said : (why : ErrorKind) (c : Bool) (said : CallResult) (l : Machine) → said ≡ says.Failed why → is_absent why ≡ c
      → Leads (GoesWell None) (if c then making false path [] else over (says.Failed why)) l (IsPlain m (steps.MakeDirs path)) → Leads (GoesWell None) (after (standing path) said) l (IsPlain m (steps.MakeDirs path))
  standing_said why c said l same absent leads =
      said_leads true (standing path) said (says.Failed why) l (IsPlain m (steps.MakeDirs path)) same
      (subst (λ (x : Bool). Leads (GoesWell None) (if x then making false path [] else over (says.Failed why)) l (IsPlain m (steps.MakeDirs path))) (sym absent) leads)

  stand_said : (bar : Bar m.tree path fault) (said : CallResult) (l : Machine) → ShowsEnd (found m.tree path) m said l → Leads (GoesWell None) (after (standing path) said) l (IsPlain m (steps.MakeDirs path))
  stand_said (empty none missing frees finds) said l shows =
      let refused : IsRefused NotFound m said l = subst (λ (r : Result Names Fault). ShowsEnd r m said l) finds shows in
      standing_said refused.0 true said l refused.1 (fault_absent refused.0 refused.2) (make_bar (empty none missing frees finds) l (ap (λ (x : Machine). x.tree) refused.4))
  stand_said (nowhere other frees finds) said l shows =
      let refused : IsRefused fault m said l = subst (λ (r : Result Names Fault). ShowsEnd r m said l) finds shows in
      standing_said refused.0 false said l refused.1 (never_absent refused.0 fault refused.2 other) (over_fault refused.0 l refused.2 refused.3 (ap (λ (x : Machine). x.tree) refused.4))
  stand_said (a_file names bytes exists frees finds stands) said l shows =
      file_shown names bytes (standing path) (over says.Done) said m l refl exists stands (λ info. refl) (subst (λ (r : Result Names Fault). ShowsEnd r m said l) finds shows)

  -- the folder is asked for first
  stand_bar : (bar : Bar m.tree path fault) → Leads (GoesWell None) (standing path) m (IsPlain m (steps.MakeDirs path))
  stand_bar bar =
      call_leads (GoesWell None) (standing path) (asks.Stat path) m (IsPlain m (steps.MakeDirs path)) refl (λ end never. absurd never)
      (λ said l well. stand_said bar said l well)

  bar_leads : (hint : Hint) → Bar m.tree path fault → Leads (GoesWell None) (make_dirs hint path) m (IsPlain m (steps.MakeDirs path))
  bar_leads hint bar = begins_so true hint path m (IsPlain m (steps.MakeDirs path)) (make_bar bar m refl) (stand_bar bar)

-- nothing is claimed about calls that may fail for a step that the disk's table doesn't do
pub not_done : (b : Bool) (m : Machine) (path : List ℕ) (fault : Fault) → dirs m.tree path ≡ Err fault → (b ≡ false → IsDone m (steps.MakeDirs path)) → b ≡ true
not_done true m path fault is done = refl
not_done false m path fault is done =
    absurd (let none : fault_told (apply m.tree (steps.MakeDirs path) Plain).0 ≡ None = done refl in
    let some : fault_told (apply m.tree (steps.MakeDirs path) Plain).0 ≡ Some fault = ap (λ r. fault_told r.0) (apply_dirs m.tree path (Err fault) is) in cc)

-- ---- why a path has no names

bar_unnamed : (t : Tree) (path : List ℕ) (fault : Fault) (x y : Bool) → (length path == 0) ≡ x → is_bad path ≡ y → names_of path ≡ Err fault
    → (if x then Err NotFound else if y then Err InvalidInput else Ok (filter is_name (pieces path))) ≡ Err fault → Bar t path fault
bar_unnamed t path fault true y none bad named is =
    let missing : NotFound ≡ fault = cc in
    let placed = no_place t path fault named in
    empty (nil_from_length path (eqb-true (length path) 0 none)) (sym missing) (free_at_place t path (Err fault) placed ∙ ap (λ (f : Fault). let r : Result Names Fault = Err f in r) (sym missing))
    (found_nowhere t path fault placed ∙ ap (λ (f : Fault). let r : Result Names Fault = Err f in r) (sym missing))
bar_unnamed t path fault false true none bad named is =
    let invalid : InvalidInput ≡ fault = cc in
    let placed = no_place t path fault named in
    nowhere (λ missing. cc) (free_at_place t path (Err fault) placed) (found_nowhere t path fault placed)
bar_unnamed t path fault false false none bad named is = absurd cc

unnamed : (t : Tree) (path : List ℕ) (fault : Fault) → names_of path ≡ Err fault → Bar t path fault
unfolding names_of
unnamed t path fault is = bar_unnamed t path fault (length path == 0) (is_bad path) refl refl is is

bar_blocked : (t : Tree) (path : List ℕ) (names : Names) (fault : Fault) → names_of path ≡ Ok names → Blocked t [] names fault → Bar t path fault
bar_blocked t path names fault named (on_way not_folder way) =
    let placed : place t path ≡ Err fault = place_so t path names (Some NotADirectory) named way ∙ ap (λ (f : Fault). let r : Result Names Fault = Err f in r) (sym not_folder) in
    nowhere (λ missing. cc) (free_at_place t path (Err fault) placed) (found_nowhere t path fault placed)
bar_blocked t path names fault named (at_last bytes exists way stands) =
    let placed : place t path ≡ Ok names = place_so t path names None named way in
    a_file names bytes exists (free_at_place t path (Ok names) placed ∙ ap (λ (o : Option Node). where_free o names) stands)
    (found_at t path (Ok names) (leads_straight t path (λ n at target link. let same : names ≡ n = cc in let here : look t n ≡ Some (File bytes) = ap (look t) (sym same) ∙ stands in cc) ∙ placed)
    ∙ ap (λ (o : Option Node). where_there o names) stands) stands

-- ---- the whole step

dirs_named : (b : Bool) (m : Machine) (hint : Hint) (path : List ℕ) (names : Names) (o : Option Fault) → Rooted m.tree → HasNoLink m.tree path → (b ≡ false → IsDone m (steps.MakeDirs path))
    → names_of path ≡ Ok names → dirs_fault m.tree [] names ≡ o → Leads (way_of b) (make_dirs hint path) m (claim_of b m (steps.MakeDirs path))
dirs_named b m hint path names None rooted link done named is = can_leads b m path names rooted named is done hint
dirs_named b m hint path names (Some fault) rooted link done named is =
    let barred : dirs m.tree path ≡ Err fault = dirs_so m.tree path names (Some fault) named is in
    subst (λ (c : Bool). Leads (way_of c) (make_dirs hint path) m (claim_of c m (steps.MakeDirs path))) (sym (not_done b m path fault barred done))
    (bar_leads m path fault barred hint (bar_blocked m.tree path names fault named (blocked m.tree names fault rooted (λ front rest cut. link names front rest named cut) is)))

dirs_leads : (b : Bool) (m : Machine) (hint : Hint) (path : List ℕ) (r : Result Names Fault) → Rooted m.tree → HasNoLink m.tree path → (b ≡ false → IsDone m (steps.MakeDirs path))
    → names_of path ≡ r → Leads (way_of b) (make_dirs hint path) m (claim_of b m (steps.MakeDirs path))
dirs_leads b m hint path (Ok names) rooted link done named = dirs_named b m hint path names (dirs_fault m.tree [] names) rooted link done named refl
dirs_leads b m hint path (Err fault) rooted link done named =
    let barred : dirs m.tree path ≡ Err fault = unmakeable m.tree path fault named in
    subst (λ (c : Bool). Leads (way_of c) (make_dirs hint path) m (claim_of c m (steps.MakeDirs path))) (sym (not_done b m path fault barred done))
    (bar_leads m path fault barred hint (unnamed m.tree path fault named))

pub make_dirs_agrees : MakeDirsAgrees
make_dirs_agrees m hint path rooted link = agrees_of m hint (steps.MakeDirs path) (λ b done. dirs_leads b m hint path (names_of path) rooted link done refl)
