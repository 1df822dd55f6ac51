-- A folder is listed call by call.
use Rattle.std.proofs.{lemmas.{Grind.{common_steps}, Bool.{or_parts}, List.{Elements.{All-from_recursion, recursion_from_All}, Sorted.{All-permutation}}}, Common.{rules, ◌≡◌, ◌≢◌, ◌==◌, ◌||◌, not, ◌-◌, ◌^◌, ℕ, zero, suc, Bool, true, false, if◌then◌else◌, List, [], ◌∷◌, ◌++◌, length, refl, sym, ap, subst, ◌∙◌, ⊎_elim, inl, inr, arith, ne_eqb, length-append, append-nil, append_assoc}}
use Rattle.std.specs.{Prelude.{Option, Some, MatchOption, IfNone, IsPermutation, Result, Ok}, List.{AllByRecursion, list_any}}
use Rattle.std_io.specs.declared.io.kind.ErrorKind.{ErrorKind}
use Rattle.std_io.specs.declared.io.kind.ErrorKind.TheVariants as kind
use Rattle.cacache_core.proofs.JoinedNames.{split-append, split_none}
use Rattle.cacache_core.specs.{declared.errors.Fault.{Fault, TheVariants.{Device, NotADirectory}}, Paths.{Names, is_above, ends_name, IsProperName}}
use Rattle.cacache_store.specs.{Plain.{PlainAnswer}, declared.store.answer.{Kind.{Kind}, Name.{Name}}}
use Rattle.cacache_store.specs.declared.store.step.Step.TheVariants as steps
use Rattle.cacache_store.specs.declared.store.answer.Answer.TheVariants as answers
use Rattle.cacache_disk.specs.{declared.{luck.Luck.TheVariants.{Plain}, node.Node.{Node}}, Tree.{Tree, look, listing}, LedTo.{standing, folder}, Apply.{apply, unless, fault_told}}
use Rattle.cacache_system.specs.{declared.call.{SystemCall.{SystemCall}, CallItem.{CallItem}, CallResult.{CallResult}}, Seen.{is_proper, is_passed, names_in, with_slash}, CallsOf.{Stage, Reader, over, taking_memory, opening_folder, following, unopened, is_no_folder, interrupts, reading_names, asking_kind, reader, read_once, more_names, entered, ask_kind, next_name, names_read, broken_off, after, Ends, Runs}, AnswersOf.{list, misses}}
use Rattle.cacache_system.specs.declared.call.SystemCall.TheVariants as asks
use Rattle.cacache_system.specs.declared.call.CallResult.TheVariants as says
use Rattle.cacache_system_model.specs.{Machine.{Machine, IsRefused, ShowsNode, ShowsEnd, Describes}, Folders.{IsDots, GivesNames, ended, OpensNames, OpensFolder, ReadsSome, ReadsFolder}, Calls.{EachCall}, Laws.{outcome, Leads, IsDone, IsLucky}, Listing.{IsPlainEntry, ListsPlainly, Lists, IsListed, IsListedOrLucky, GivesInOrder, ReadDirGoesPlainly, ReadDirBreaks, ReadDirInOrder}}
use Rattle.cacache_system_model.proofs.{Leading.{Claim, over_leads, call_leads}, Refusing.{broken_agrees}, Claims.{way_of, cases_of, taking_leads}, Steps.{Opening.{of_some}, CopyFacts.{not_absent}}}

-- what a listing's calls come to: if none fails without cause, and if some may
abbrev ListClaim : Bool → Machine → List ℕ → Claim
ListClaim true m path = IsListed m path
ListClaim false m path = IsListedOrLucky m path

-- ---- names

no_nul : (name : List ℕ) → list_any ends_name name ≡ false → list_any (λ b. b == 0) name ≡ false
no_nul [] is = refl
no_nul (x ∷ xs) is =
    let first = or_parts (ends_name x) (list_any ends_name xs) is in
    let both = or_parts (x == 47) (x == 0) first.0 in
    ap (λ (c : Bool). c || list_any (λ b. b == 0) xs) both.1 ∙ no_nul xs first.1

proper_is : (name : List ℕ) → IsProperName name → is_proper name ≡ true
unfolding is_proper
proper_is name (a, b, c) = search rules

proper_stays : (name : List ℕ) → IsProperName name → is_passed name ≡ false
proper_stays name (a, b, c) = ap (λ (x : Bool). not x || is_above name) a ∙ b

dots_pass : (name : List ℕ) → IsDots name → is_passed name ≡ true
dots_pass name which = grind (arith, common_steps)

dots_fine : (name : List ℕ) → IsDots name → list_any (λ b. b == 0) name ≡ false
dots_fine name which = grind (arith, common_steps)

one_name : (name : List ℕ) → list_any (λ b. b == 0) name ≡ false → names_in name ≡ name ∷ []
one_name name none = split_none (λ b. b == 0) name none

first_name : (name rest : List ℕ) → list_any (λ b. b == 0) name ≡ false → names_in (name ++ 0 ∷ rest) ≡ name ∷ names_in rest
first_name name rest none = search (rules, split-append, one_name)

not_zero : (n : ℕ) → n ≢ 0 → (n == 0) ≡ false
not_zero n some = ne_eqb n 0 some

not_broken : (why : ErrorKind) → misses why ≡ false → broken_off why ≡ why
not_broken why fine = grind (arith, common_steps)

names_same : (result : CallResult) (again : Bool) (r : Reader) (found : List Name) → after (reading_names again r found) result ≡ after (reading_names true r found) result
names_same result again r found = grind (arith, common_steps)

module _ (b : Bool) (m : Machine) (path : List ℕ) (names : Names) (done : b ≡ false → IsDone m (steps.ReadDir path)) where
  abbrev Goes : Stage → Machine → Type 0
  Goes s n = Leads (way_of b) s n (ListClaim b m path)

  abbrev Entries : List Name → Type 0
  Entries es = AllByRecursion (IsPlainEntry m.tree path names) es

  -- ---- ends

  claim_same : (end : CallResult) (n : Machine) → Lists m path end n → ListClaim b m path end n
  claim_same end n is = elim b as (λ b. ListClaim b m path end n) [ true ↦ λ enough few. is | false ↦ inl is ]

  claim_broken : (why : ErrorKind) (n : Machine) → b ≡ false → misses why ≡ false → n.tree ≡ m.tree → ListClaim b m path (says.Failed why) n
  claim_broken why n broke fine tree =
      subst (λ (c : Bool). ListClaim c m path (says.Failed why) n) (sym broke) (inr (broken_agrees (steps.ReadDir path) why (says.Failed why) m n refl fine tree (done broke)))

  claim_memory : (n : Machine) → n.tree ≡ m.tree → ListClaim b m path (says.Failed kind.OutOfMemory) n
  claim_memory n tree = search (rules, broken_agrees)

  claim_large : (n : Machine) → n.tree ≡ m.tree → ListClaim b m path (says.Failed kind.FileTooLarge) n
  claim_large n tree =
      elim b as (λ b. (b ≡ false → IsDone m (steps.ReadDir path)) → ListClaim b m path (says.Failed kind.FileTooLarge) n) [
        | true ↦ λ done enough few. absurd (few refl)
        | false ↦ λ done. inr (broken_agrees (steps.ReadDir path) kind.FileTooLarge (says.Failed kind.FileTooLarge) m n refl refl tree (done refl))
      ] done

  broken_leads : (why : ErrorKind) (n : Machine) → b ≡ false → misses why ≡ false → n.tree ≡ m.tree → Goes (over (says.Failed why)) n
  broken_leads why n broke fine tree = over_leads (way_of b) (says.Failed why) n (ListClaim b m path) (claim_broken why n broke fine tree)

  taking : (s : Stage) (n : Machine) → n.tree ≡ m.tree → Goes s n → Goes (taking_memory s) n
  taking s n tree goes = taking_leads (way_of b) s n (ListClaim b m path) (claim_memory n tree) goes

  -- ---- names

  -- the names in a read
  names_split : (given rest : List (List ℕ)) (es : List Name) → GivesNames (given ++ rest) es → Entries es → names_in (ended given) ≡ given ++ [] ∷ []
  names_split [] rest es gives plain = refl
  names_split (name ∷ given) rest es (inl (dots, gives)) plain =
      first_name name (ended given) (dots_fine name dots) ∙ ap (λ (l : List (List ℕ)). name ∷ l) (names_split given rest es gives plain)
  names_split (name ∷ given) rest es (inr (e, others, is, named, gives)) plain =
      let all = subst (AllByRecursion (IsPlainEntry m.tree path names)) is plain in
      first_name name (ended given) (ap (list_any (λ b. b == 0)) (sym named) ∙ no_nul e.name all.0.proper.2)
      ∙ ap (λ (l : List (List ℕ)). name ∷ l) (names_split given rest others gives all.1)

  abbrev going : Reader → List (List ℕ) → List Name → Name → Stage
  going r ns found entry = next_name r ns (found ++ entry ∷ [])

  asked_is : (r : Reader) (e : Name) (ns : List (List ℕ)) (found : List Name) → r.folder ≡ with_slash path → IsPlainEntry m.tree path names e
      → taking_memory (asking_kind r e.name ns found) ≡ next_name r (e.name ∷ ns) found
  asked_is r e ns found at plain = search (rules, proper_stays)

  entered_is : (r : Reader) (e : Name) (ns : List (List ℕ)) (found : List Name) (what : Kind) → IsPlainEntry m.tree path names e → what ≡ e.kind
      → taking_memory (next_name r ns (found ++ e ∷ [])) ≡ entered e.name what (going r ns found)
  entered_is r e ns found what plain is = search (rules, proper_is)

  shown_leads : (r : Reader) (e : Name) (ns : List (List ℕ)) (found : List Name) (n k : Machine) (said : CallResult) → r.folder ≡ with_slash path
      → IsPlainEntry m.tree path names e → n.tree ≡ m.tree → Goes (next_name r ns (found ++ e ∷ [])) n → ShowsEnd (standing n.tree (r.folder ++ e.name)) n said k
      → Goes (after (asking_kind r e.name ns found) said) k
  shown_leads r e ns found n k said at plain tree goes happens =
      let where_is : standing n.tree (r.folder ++ e.name) ≡ Ok (names ++ e.name ∷ [])
      = ap (λ (t : Tree). standing t (r.folder ++ e.name)) tree ∙ ap (λ (f : List ℕ). standing m.tree (f ++ e.name)) at ∙ plain.stands in
      let shows : ShowsNode (names ++ e.name ∷ []) n said k = subst (λ (ends : Result Names Fault). ShowsEnd ends n said k) where_is happens in
      let (info, told, fits, stays) = shows in
      let described = of_some (look n.tree (names ++ e.name ∷ [])) plain.node (λ x. Describes x (n.inodes (names ++ e.name ∷ [])) info)
      (ap (λ (t : Tree). look t (names ++ e.name ∷ [])) tree ∙ plain.there) fits in
      subst (λ (x : Machine). Goes (after (asking_kind r e.name ns found) said) x) (sym stays)
      (subst (λ (result : CallResult). Goes (after (asking_kind r e.name ns found) result) n) (sym told)
      (subst (λ (s : Stage). Goes s n) (entered_is r e ns found info.kind plain (described.kind ∙ plain.kind))
      (taking (next_name r ns (found ++ e ∷ [])) n tree goes)))

  asks_fails : (r : Reader) (e : Name) (ns : List (List ℕ)) (found : List Name) (n k : Machine) (said : CallResult) (why : ErrorKind) → n.tree ≡ m.tree
      → b ≡ false → said ≡ says.Failed why → misses why ≡ false → k ≡ n → Goes (after (asking_kind r e.name ns found) said) k
  asks_fails r e ns found n k said why tree broke same fine stays = search (rules, not_absent, broken_leads)

  -- an entry is asked for and listed
  entry_leads : (r : Reader) (e : Name) (ns : List (List ℕ)) (found : List Name) (n : Machine) → r.folder ≡ with_slash path → IsPlainEntry m.tree path names e → n.tree ≡ m.tree
      → Goes (next_name r ns (found ++ e ∷ [])) n → Goes (next_name r (e.name ∷ ns) found) n
  entry_leads r e ns found n at plain tree goes =
      subst (λ (s : Stage). Goes s n) (asked_is r e ns found at plain)
      (taking (asking_kind r e.name ns found) n tree
      (call_leads (way_of b) (asking_kind r e.name ns found) (asks.StatLink (r.folder ++ e.name)) n (ListClaim b m path) refl (λ end never. absurd never) (λ said k happens.
      ⊎_elim
      (λ (most, all, well). shown_leads r e ns found n k said at plain tree goes well)
      (λ (broke, why, same, fine, part, left). asks_fails r e ns found n k said why tree broke same fine left)
      (cases_of b n (asks.StatLink (r.folder ++ e.name)) said k happens))))

  -- all names of a read are
  names_lead : (r : Reader) (given rest : List (List ℕ)) (es found all : List Name) (n : Machine) → r.folder ≡ with_slash path → n.tree ≡ m.tree → GivesNames (given ++ rest) es
      → Entries es → found ++ es ≡ all
      → ((found_then es_then : List Name) → GivesNames rest es_then → Entries es_then → found_then ++ es_then ≡ all → Goes (more_names r found_then) n)
      → Goes (next_name r (given ++ [] ∷ []) found) n
  names_lead r [] rest es found all n at tree gives plain sums goes = goes found es gives plain sums
  names_lead r (name ∷ given) rest es found all n at tree (inl (dots, gives)) plain sums goes =
      subst (λ (c : Bool). Goes
      (if c then next_name r (given ++ [] ∷ []) found else taking_memory (ask_kind r name (given ++ [] ∷ []) found (going r (given ++ [] ∷ []) found))) n)
      (sym (dots_pass name dots))
      (names_lead r given rest es found all n at tree gives plain sums goes)
  names_lead r (name ∷ given) rest es found all n at tree (inr (e, others, is, named, gives)) plain sums goes =
      let parts = subst (AllByRecursion (IsPlainEntry m.tree path names)) is plain in
      subst (λ (x : List ℕ). Goes (next_name r (x ∷ given ++ [] ∷ []) found) n) named
      (entry_leads r e (given ++ [] ∷ []) found n at parts.0 tree
      (names_lead r given rest others (found ++ e ∷ []) all n at tree gives parts.1 (append_assoc found (e ∷ []) others ∙ ap (λ (l : List Name). found ++ l) (sym is) ∙ sums) goes))

  -- ---- reads

  -- the folder is there, and has an order of its names
  abbrev Ordered : Type 0
  Ordered = (folder m.tree path ≡ Ok names) × IsPermutation (listing m.tree names) (m.order names)

  listed_so : (found : List Name) (n : Machine) → Ordered → n.tree ≡ m.tree → found ≡ m.order names → ListClaim b m path (says.Names found) n
  listed_so found n (is, order) tree same = search (rules, claim_same)

  abbrev read_if : Bool → Reader → List ℕ → List Name → Stage
  read_if c r bytes found = if c then taking_memory (over (says.Names found)) else next_name (read_once r) (names_in bytes) found

  -- names that were read are listed, or there are no more
  read_leads : (r : Reader) (given rest : List (List ℕ)) (es found : List Name) (k : Machine) → Ordered → r.folder ≡ with_slash path
      → k.tree ≡ m.tree → (given ≡ [] → rest ≡ []) → GivesNames (given ++ rest) es → Entries es → found ++ es ≡ m.order names
      → ((found_then es_then : List Name) → GivesNames rest es_then → Entries es_then → found_then ++ es_then ≡ m.order names → Goes (more_names (read_once r) found_then) k)
      → Goes (names_read r (ended given) found) k
  read_leads r [] rest es found k is at tree none gives plain sums goes =
      let over_now : es ≡ [] = subst (λ (l : List (List ℕ)). GivesNames l es) (none refl) gives in
      taking (over (says.Names found)) k tree
      (over_leads (way_of b) (says.Names found) k (ListClaim b m path)
      (listed_so found k is tree (sym (append-nil found) ∙ ap (λ (l : List Name). found ++ l) (sym over_now) ∙ sums)))
  read_leads r (name ∷ given) rest es found k is at tree none gives plain sums goes =
      subst (λ (c : Bool). Goes (read_if c r (ended (name ∷ given)) found) k)
      (sym (not_zero (length (ended (name ∷ given))) (λ empty. omega (arith, empty, length-append name (0 ∷ ended given)))))
      (subst (λ (l : List (List ℕ)). Goes (next_name (read_once r) l found) k) (sym (names_split (name ∷ given) rest es gives plain))
      (names_lead (read_once r) (name ∷ given) rest es found (m.order names) k at tree gives plain sums goes))

  broke_on : (c : Bool) (why : ErrorKind) (r : Reader) (found : List Name) (n next last : Machine) (items : List CallItem) (end : CallResult) → interrupts why ≡ c → next ≡ n
      → ListClaim b m path (says.Failed (broken_off why)) next
      → (Runs (reading_names true r found) items end → EachCall (way_of b) n items last → ListClaim b m path end last)
      → Runs (if interrupts why then reading_names true r found else over (says.Failed (broken_off why))) items end → EachCall (way_of b) next items last → ListClaim b m path end last
  broke_on true why r found n next last items end is stays holds again runs each = search (rules, way_of)
  broke_on false why r found n next last items end is stays holds again runs each =
      over_leads (way_of b) (says.Failed (broken_off why)) next (ListClaim b m path) holds items end last
      (subst (λ (c : Bool). Runs (if c then reading_names true r found else over (says.Failed (broken_off why))) items end) is runs) each

  ends_reading : (again : Bool) (r : Reader) (found : List Name) (end : CallResult) (n : Machine) → (again ≡ true → b ≡ false) → n.tree ≡ m.tree → Ends (reading_names again r found) end
      → ListClaim b m path end n
  ends_reading again r found end n broke tree ends = grind (arith, claim_broken)

  -- names are read until no signal interrupts it
  reading_on : (again : Bool) (r : Reader) (found : List Name) (n : Machine) → (again ≡ true → b ≡ false) → n.tree ≡ m.tree
      → ((said : CallResult) (k : Machine) → ReadsFolder r.number n said k → Goes (after (reading_names true r found) said) k) → Goes (reading_names again r found) n
  reading_on again r found n broke tree wells [] end last runs each =
      subst (λ (x : Machine). ListClaim b m path end x) each (ends_reading again r found end n broke tree runs)
  reading_on again r found n broke tree wells (item ∷ items) end last runs (next, happens, others) =
      let asked : Some (asks.ReadNames r.number 4096) ≡ Some item.call = runs.0 in
      let same_call : item.call ≡ asks.ReadNames r.number 4096 = cc in
      let more : Runs (after (reading_names true r found) item.result) items end
      = subst (λ (s : Stage). Runs s items end) (names_same item.result again r found) runs.1 in
      ⊎_elim
      (λ (most, all, well). wells item.result next well items end last more others)
      (λ (failed, why, same, fine, part, left).
      broke_on (interrupts why) why r found n next last items end refl left
      (subst (λ (k : ErrorKind). ListClaim b m path (says.Failed k) next) (sym (not_broken why fine))
      (claim_broken why next failed fine (ap (λ (x : Machine). x.tree) left ∙ tree)))
      (λ others_run each. reading_on true r found n (λ _. failed) tree wells items end last others_run each)
      (subst (λ (result : CallResult). Runs (after (reading_names true r found) result) items end) same more) others)
      (cases_of b n (asks.ReadNames r.number 4096) item.result next
      (subst (λ (c : SystemCall). way_of b n c item.result next) same_call happens))

  -- names are read to their end
  reads_lead : (f : ℕ) (r : Reader) (left : List (List ℕ)) (es found : List Name) (n : Machine) → Ordered → r.left ≡ f → r.folder ≡ with_slash path
      → n.tree ≡ m.tree → n.folders r.number ≡ Some left → GivesNames left es → Entries es → found ++ es ≡ m.order names → Goes (more_names r found) n
  reads_lead zero r left es found n is less at tree holds gives plain sums =
      subst (λ (x : ℕ). Goes (if x == 0 then over (says.Failed kind.FileTooLarge) else reading_names false r found) n) (sym less)
      (over_leads (way_of b) (says.Failed kind.FileTooLarge) n (ListClaim b m path) (claim_large n tree))
  reads_lead (suc f) r left es found n is less at tree holds gives plain sums =
      subst (λ (c : Bool). Goes (if c then over (says.Failed kind.FileTooLarge) else reading_names false r found) n)
      (sym (not_zero r.left (λ none. omega (arith, less, none))))
      (reading_on false r found n (λ e. absurd cc) tree (λ said k happens.
      let some = subst (λ (o : Option (List (List ℕ))). MatchOption o (IfNone (n.files r.number) (IsRefused Device n said k)) (λ l. ReadsSome r.number l n said k)) holds happens in
      let given = some.0 in
      let rest = some.1 in
      let has = some.5 in
      subst (λ (result : CallResult). Goes (after (reading_names true r found) result) k) (sym some.4)
      (read_leads r given rest es found k is at (has.tree ∙ tree) some.3 (subst (λ (l : List (List ℕ)). GivesNames l es) some.2 gives) plain sums
      (λ found_then es_then gives_then plain_then sums_then.
      reads_lead f (read_once r) rest es_then found_then k is (omega (arith, less)) at (has.tree ∙ tree) has.left gives_then plain_then sums_then))))

-- ---- folders

module _ (b : Bool) (m : Machine) (path : List ℕ) (p : ListsPlainly m.tree path) (done : b ≡ false → IsDone m (steps.ReadDir path)) where
  abbrev Goes_on : Stage → Machine → Type 0
  Goes_on s n = Leads (way_of b) s n (ListClaim b m path)

  -- a folder that was opened
  opened_leads : (from : List ℕ) (said : CallResult) (k : Machine) → standing m.tree from ≡ Ok p.names → OpensFolder (standing m.tree from) m said k
      → (s : Stage) → ((number : ℕ) → after s (says.Opened number) ≡ more_names (reader number path) []) → Goes_on (after s said) k
  opened_leads from said k stands happens s leads =
      let opens : OpensNames p.names (look m.tree p.names) m said k = subst (λ (ends : Result Names Fault). OpensFolder ends m said k) stands happens in
      let (number, given, told, unused, order, gives, has) = subst (λ (o : Option Node). OpensNames p.names o m said k) p.there opens in
      subst (λ (result : CallResult). Goes_on (after s result) k) (sym told)
      (subst (λ (t : Stage). Goes_on t k) (sym (leads number))
      (reads_lead b m path p.names done (2 ^ 64 - 1) (reader number path) given (m.order p.names) [] k (p.folder, order) refl refl has.tree has.left gives
      (recursion_from_All (IsPlainEntry m.tree path p.names) (m.order p.names)
      (All-permutation (IsPlainEntry m.tree path p.names) (listing m.tree p.names) (m.order p.names) order
      (All-from_recursion (IsPlainEntry m.tree path p.names) (listing m.tree p.names) p.entries)))
      refl))

  -- a folder to which a link may lead
  follows : Goes_on (following path) m
  follows =
      call_leads (way_of b) (following path) (asks.OpenFolder (with_slash path)) m (ListClaim b m path) refl (λ end never. absurd never) (λ said k happens.
      ⊎_elim
      (λ (most, all, well). opened_leads (with_slash path) said k p.slashed well (following path) (λ number. refl))
      (λ (broke, why, same, fine, part, left).
      subst (λ (result : CallResult). Goes_on (after (following path) result) k) (sym same)
      (subst (λ (c : Bool). Goes_on (over (says.Failed (if c then kind.NotADirectory else why))) k) (sym (not_absent why fine))
      (broken_leads b m path p.names done why k broke fine (ap (λ (x : Machine). x.tree) left))))
      (cases_of b m (asks.OpenFolder (with_slash path)) said k happens))

  unopened_leads : (c : Bool) (why : ErrorKind) (k : Machine) → is_no_folder why ≡ c → b ≡ false → misses why ≡ false → k ≡ m → Goes_on (unopened why path) k
  unopened_leads c why k is broke fine stays = search (rules, follows, broken_leads)

  opens_so : Goes_on (opening_folder path) m
  opens_so =
      call_leads (way_of b) (opening_folder path) (asks.OpenFolder path) m (ListClaim b m path) refl (λ end never. absurd never) (λ said k happens.
      ⊎_elim
      (λ (most, all, well). opened_leads path said k p.stands well (opening_folder path) (λ number. refl))
      (λ (broke, why, same, fine, part, left).
      subst (λ (result : CallResult). Goes_on (after (opening_folder path) result) k) (sym same)
      (unopened_leads (is_no_folder why) why k refl broke fine left))
      (cases_of b m (asks.OpenFolder path) said k happens))

  lists_so : Goes_on (list path) m
  lists_so = search (rules, taking, opens_so)

-- the disk's line of a listing
pub listed_apply : (t : Tree) (path : List ℕ) (names : Names) → folder t path ≡ Ok names → apply t (steps.ReadDir path) Plain ≡ outcome (answers.Names (listing t names)) t
unfolding apply
listed_apply t path names is = ap (λ (r : Result Names Fault). unless r t (λ at. outcome (answers.Names (listing t at)) t)) is

pub read_dir_goes : ReadDirGoesPlainly
read_dir_goes m hint path p = lists_so true m path p (λ e. absurd cc)

pub read_dir_breaks : ReadDirBreaks
read_dir_breaks m hint path p =
    lists_so false m path p (λ e. ap (λ (r : PlainAnswer × Tree). fault_told r.0) (listed_apply m.tree path p.names p.folder))

-- ---- names in the tree's order

ordered_lucky : (m n : Machine) (path : List ℕ) (end : CallResult) → GivesInOrder m path → IsListedOrLucky m path end n → IsLucky m (steps.ReadDir path) end n
ordered_lucky m n path end ordered which = grind (arith, listed_apply)

pub read_dir_in_order : ReadDirInOrder
read_dir_in_order m hint path p ordered done items end n runs each =
    ordered_lucky m n path end ordered (read_dir_breaks m hint path p items end n runs each)
