-- The content of a put comes to its place: nothing keeps its temporary file from it.
use Rattle.std.proofs.{lemmas.{Grind.{common_steps}, List.Elements.{All-nil, All-cons, All-head, All-tail}}, Common.{rules, ◌≡◌, ◌==◌, ℕ, List, ◌∷◌, ◌++◌, Option, None, Some, Ok, nat_le, length, drop, refl, sym, ap, subst, ◌∙◌, arith, append_assoc}}
use Rattle.std.specs.{Prelude.{All, []}, List.{AllByRecursion}}
use Rattle.hex.specs.Hex.{encode_lower}
use Rattle.cacache_core.specs.declared.errors.Fault.TheVariants as faults
use Rattle.cacache_core.specs.{declared.{errors.SerdeCause.{SerdeCause}, integrity.digest.Hash.{Hash}}, Integrity.{digest, hash_of}, Paths.{Names, names_of, home_of, names_below, IsProperName, content_names, folder_names}}
use Rattle.cacache_core.proofs.{JoinedNames.{joined_texts_name}, ProperNames.{names_are_proper}}
use Rattle.cacache_store.specs.{declared.store.plain.PlainTemp.{PlainTemp}, Plain.{PlainStep, PlainAnswer}}
use Rattle.cacache_store.specs.declared.store.step.Step.TheVariants as steps
use Rattle.cacache_store.specs.declared.store.answer.Answer.TheVariants as answers
use Rattle.cacache_disk.specs.{declared.luck.Luck.TheVariants.{Plain}, Tree.{Tree, Rooted}, LedTo.{place, file_at, folder}, Apply.{apply, plain}}
use Rattle.cacache_disk.proofs.{Changes.{apply_tree, unless_tree}, FoundNodes.{place_ok}, KeptFolders.{steps_keep_rooted}}
use Rattle.cacache_calls.specs.{declared.{command.Put.{Put}, reply.Reply.{Reply}, carried.Commit.{Commit}}, Answers.{done_in, temp_in, written_in, synced_in, taken_in}, Common.{fails, errand_step}, Inserting.{unless_refused, bucket_line, recorded, after_append, refused_cause}, Steps.{content_path, content_folder, temp_path}, Runs.{Moves, Runs}, State.{State, asking, confirming, walking, doing, creating, writing, syncing, persisting, appending, over, Site, Insertion, make_folder, sync_file, sync_dir, Errand}, Storing.{insertion_of, indexed, sized, compared, matches, write_rest, after_write, put_commit}, Table.{wants, after, opening}}
use Rattle.cacache_calls.proofs.{Going.{cond_leads, go_on_leads, moves_on, secures, records}, Sound.{some_is}}
use Rattle.cacache_calls.specs.declared.command.Command.TheVariants as commands
use Rattle.cacache_value.specs.{Acts.{act_of, IsTrace}, Kinds.{Content, IsFor, path_kind}, Placed.{Placed, Proper}}
use Rattle.cacache_value.proofs.{Applying.{of_names, suits}, Traces.{steps_keep_placed}}
use Rattle.cacache_history.specs.Commits.{Deed, finds, deeds_of_act, finds_in, deeds}
use Rattle.cacache_history.proofs.{Contents.Digests.{digest_hash}, Syncing.{temp_synced}, durable.CommitMoves.{done_is}}
use Rattle.cacache_laws.specs.Sequence.{turns_on, plain_moves}
use Rattle.cacache_laws.proofs.{Readings.Looks.{no_deeds}, Putting.WrittenFiles.{FoldersMade, made_so, made_place, Stands, created_so, wrote_so, still_stands, persisted_so}}

-- ---- the path of a content and its folder

-- the content's path has one name more than its folder's
abbrev HasPlace : Commit → Type 0
HasPlace c =
    (names : Names) → names_of (content_folder c.cache c.computed) ≡ Ok names → (name : List ℕ) × (names_of (content_path c.cache c.computed) ≡ Ok (names ++ name ∷ []))

one_more : (home : Option Names) (front : Names) (name : List ℕ) (names : Names) → names_below home front ≡ Ok names → names_below home (front ++ name ∷ []) ≡ Ok (names ++ name ∷ [])
one_more home front name names e = grind (arith, common_steps)

all_front : (ns ms : Names) → All IsProperName (ns ++ ms) → All IsProperName ns
all_front [] ms all = All-nil IsProperName
all_front (n ∷ ns) ms all = All-cons IsProperName n ns (All-head IsProperName n (ns ++ ms) all) (all_front ns ms (All-tail IsProperName n (ns ++ ms) all))

has_place : (cache : List ℕ) (p : Put) → HasPlace (put_commit cache p)
unfolding content_path content_folder
has_place cache p names e =
    let h = hash_of p.options.algorithm (digest p.options.algorithm p.data) in
    let proper = names_are_proper.contents h (digest_hash p.options.algorithm p.data) in
    let name : List ℕ = drop 4 (encode_lower h.digest) in
    let front = joined_texts_name cache (folder_names (content_names h)) (all_front (folder_names (content_names h)) (name ∷ []) proper) (omega arith) in
    (name, joined_texts_name cache (content_names h) proper (omega arith) ∙ one_more (home_of cache) (folder_names (content_names h)) name names (sym front ∙ e))

-- ---- the states of a put

-- the temporary file is there on its way to its place, and nothing is asked
abbrev Ready : Tree → State → Type 0
Ready t (doing (make_folder p) (creating number c rest)) = HasPlace c
Ready t (doing (make_folder p) (syncing c file)) = (p ≡ content_folder c.cache c.computed) × HasPlace c × Stands t file
Ready t (doing (make_folder p) (persisting c file)) = (p ≡ content_folder c.cache c.computed) × HasPlace c × Stands t file
Ready t (doing (make_folder p) (appending i)) = Unit {0}
Ready t (doing (sync_file p) s) = Ready t s
Ready t (doing (sync_dir p) s) = Ready t s
Ready t (creating number c rest) = HasPlace c
Ready t (writing c file rest) = HasPlace c × Stands t file
Ready t (syncing c file) = Stands t file × (names : Names) × (place t (content_path c.cache c.computed) ≡ Ok names)
Ready t (persisting c file) = Stands t file × (names : Names) × (place t (content_path c.cache c.computed) ≡ Ok names)
Ready t (appending i) = Unit {0}
Ready t (over r) = Unit {0}
Ready t other = ⊥

temp_is : (a : PlainAnswer) (file : PlainTemp) → temp_in a ≡ Ok file → a ≡ answers.Temp file
temp_is a file e = grind (arith, common_steps)

written_is : (a : PlainAnswer) (w : PlainTemp × ℕ) → written_in a ≡ Ok w → a ≡ answers.Wrote w.0 w.1
written_is a w e = grind (arith, common_steps)

module _ (t : Tree) where
  by_cause : (i : Insertion) (cause : Option SerdeCause) → Ready t (unless_refused i cause)
  by_cause i cause = grind (arith, common_steps)

  by_key : (c : Commit) (key : Option (List ℕ)) → Ready t (indexed c key)
  by_key c key = grind (arith, by_cause)

  by_size : (c : Commit) (size : Option ℕ) → Ready t (sized c size)
  by_size c size = grind (arith, by_key, cond_leads)

  by_integrity : (c : Commit) (expected : Option (List Hash)) → Ready t (compared c expected)
  by_integrity c expected = grind (arith, by_size, cond_leads)

  writes_rest : (c : Commit) (file : PlainTemp) (rest : List ℕ) → HasPlace c → Stands t file → Ready t (write_rest c file rest)
  writes_rest c file rest place s = grind (arith, moves_on)

  writes : (c : Commit) (rest : List ℕ) (w : PlainTemp × ℕ) → HasPlace c → Stands t w.0 → Ready t (after_write c rest w)
  writes c rest w place s = cond_leads (Ready t) (w.1 == 0) (fails faults.WriteZero) (write_rest c w.0 (drop w.1 rest)) (λ _. tt) (λ _. writes_rest c w.0 (drop w.1 rest) place s)

  appends : (i : Insertion) (n : ℕ) → Ready t (after_append i n)
  appends i n = cond_leads (Ready t) (nat_le (length (bucket_line i)) n) (recorded i) (fails faults.ShortAppend) (λ _. records (Ready t) (λ p s h. (h, h)) i tt) (λ _. tt)

module _ (home : Option Names) (t : Tree) (rooted : Rooted t) (is_placed : Placed home t) where
  -- a state that is ready is still ready after the disk's answer to this step
  abbrev Goes : State → PlainStep → Type 0
  Goes s step = Ready (apply t step Plain).1 (after s (apply t step Plain).0)

  folder_made : (c : Commit) (file : PlainTemp) (p : List ℕ) → p ≡ content_folder c.cache c.computed → HasPlace c → Stands t file
      → (made : FoldersMade t (apply t (steps.MakeDirs p) Plain).1 p) → Ready (apply t (steps.MakeDirs p) Plain).1 (persisting c file)
  folder_made c file p is place s made =
      let name = place made.names (ap names_of (sym is) ∙ made.named) in (
        still_stands t (apply t (steps.MakeDirs p) Plain).1 p file made s,
        made.names ++ name.0 ∷ [],
        made_place t (apply t (steps.MakeDirs p) Plain).1 p (content_path c.cache c.computed) made.names name.0 rooted (steps_keep_rooted t (steps.MakeDirs p) Plain rooted) made name.1,
      )

  into_folder : (c : Commit) (file : PlainTemp) (p : List ℕ) (next : State) → ((new : Tree) → Ready new (persisting c file) → Ready new next) → (p ≡ content_folder c.cache c.computed) × HasPlace c × Stands t file
      → Goes (doing (make_folder p) next) (steps.MakeDirs p)
  into_folder c file p next leads ready =
      let new = (apply t (steps.MakeDirs p) Plain).1 in
      go_on_leads (Ready (apply t (steps.MakeDirs p) Plain).1) (done_in (apply t (steps.MakeDirs p) Plain).0) fails (λ _. next) tt (λ fault. tt)
      (λ u e. leads new (folder_made c file p ready.0 ready.1 ready.2 (made_so t p (done_is (apply t (steps.MakeDirs p) Plain).0 u e))))

  -- a sync leaves the tree, and the state after it is ready on that
  syncs : (errand : Errand) (s : State) → Ready t s → ((most : Option ℕ) → Ready (plain t (errand_step errand) most).1 s) → Goes (doing errand s) (errand_step errand)
  syncs errand s ready left =
      go_on_leads (Ready (apply t (errand_step errand) Plain).1) (done_in (apply t (errand_step errand) Plain).0) fails (λ _. s) tt (λ fault. tt)
      (λ u e. apply_tree (λ new. Ready new s) t (errand_step errand) Plain ready left)

  persists : (c : Commit) (file : PlainTemp) → Ready t (persisting c file) → IsFor home Content (content_path c.cache c.computed)
      → Goes (persisting c file) (steps.Persist file (content_path c.cache c.computed))
  persists c file ready for =
      let path = content_path c.cache c.computed in
      let new = (apply t (steps.Persist file (content_path c.cache c.computed)) Plain).1 in
      let kind = of_names (λ names. path_kind home names ≡ Content) path ready.1 for (place_ok t path ready.1 ready.2) in
      let done = persisted_so home t file path ready.1 ready.0 ready.2 (suits home t ready.1 Content kind is_placed) in
      subst (λ a. Ready (apply t (steps.Persist file (content_path c.cache c.computed)) Plain).1 (after (persisting c file) a)) (sym done)
      (secures (Ready new) (λ p s h. (h, h)) c (by_integrity new c c.options.integrity))

  goes : (s : State) (step : PlainStep) → Ready t s → wants s ≡ Some step → Proper home step → Goes s step
  goes (doing (make_folder p) (creating number c rest)) step ready want proper = search (rules, go_on_leads)
  goes (doing (make_folder p) (appending i)) step ready want proper = search (rules, go_on_leads)
  goes (doing (make_folder p) (syncing c file)) step ready want proper =
      some_is (Goes (doing (make_folder p) (syncing c file))) _ step want (into_folder c file p (syncing c file) (λ new h. h) ready)
  goes (doing (make_folder p) (persisting c file)) step ready want proper =
      some_is (Goes (doing (make_folder p) (persisting c file))) _ step want (into_folder c file p (persisting c file) (λ new h. h) ready)
  goes (doing (sync_file p) s) step ready want proper = search (rules, some_is, syncs, unless_tree)
  goes (doing (sync_dir p) s) step ready want proper = search (rules, some_is, syncs, unless_tree)
  goes (syncing c file) step ready want proper =
      some_is (Goes (syncing c file)) _ step want
      (go_on_leads (Ready (apply t (steps.SyncTemp file) Plain).1) (synced_in (apply t (steps.SyncTemp file) Plain).0) fails (persisting c) tt (λ fault. tt)
      (λ new e. subst (λ f. Ready (apply t (steps.SyncTemp file) Plain).1 (persisting c f)) (temp_synced t file new Plain e)
      (apply_tree (λ new. Ready new (persisting c file)) t (steps.SyncTemp file) Plain ready (λ most. ready))))
  goes (creating number c rest) step ready want proper =
      let path = temp_path c.cache number in
      some_is (Goes (creating number c rest)) _ step want
      (go_on_leads (Ready (apply t (steps.CreateTemp path) Plain).1) (temp_in (apply t (steps.CreateTemp path) Plain).0) fails (λ file. write_rest c file rest) tt (λ fault. tt)
      (λ file e. writes_rest (apply t (steps.CreateTemp path) Plain).1 c file rest ready (created_so t path file (temp_is (apply t (steps.CreateTemp path) Plain).0 file e))))
  goes (writing c file rest) step ready want proper =
      some_is (Goes (writing c file rest)) _ step want
      (go_on_leads (Ready (apply t (steps.Write file rest) Plain).1) (written_in (apply t (steps.Write file rest) Plain).0) fails (after_write c rest) tt (λ fault. tt)
      (λ w e. writes (apply t (steps.Write file rest) Plain).1 c rest w ready.0 (wrote_so t file w.0 rest w.1 ready.1 (written_is (apply t (steps.Write file rest) Plain).0 w e))))
  goes (persisting c file) step ready want proper =
      let same : steps.Persist file (content_path c.cache c.computed) ≡ step = cc in
      subst (Goes (persisting c file)) same (persists c file ready (subst (Proper home) (sym same) proper).1)
  goes (appending i) step ready want proper =
      go_on_leads (Ready (apply t step Plain).1) (taken_in (apply t step Plain).0) fails (after_append i) tt (λ fault. tt) (λ n e. appends (apply t step Plain).1 i n)
  goes (over r) step ready want proper = absurd cc
  goes other step ready want proper = absurd ready

-- ---- a run

-- a step that isn't a question
abbrev IsNoQuestion : PlainStep → Type 0
IsNoQuestion (steps.Exists path) = ⊥
IsNoQuestion step = Unit {0}

-- none of the steps is a question
abbrev Quiet : Moves → Type 0
Quiet = AllByRecursion (λ (m : PlainStep × PlainAnswer). IsNoQuestion m.0)

no_question : (t : Tree) (s : State) (step : PlainStep) → Ready t s → wants s ≡ Some step → IsNoQuestion step
no_question t s step ready want = grind (arith, some_is)

quiet : (home : Option Names) (t : Tree) (s : State) (moves : Moves) (r : Reply) → Rooted t → Placed home t → Ready t s → IsTrace home t (plain_moves moves) → Runs s moves r → Quiet moves
quiet home t s [] r rooted is_placed ready trace run = tt
quiet home t s (m ∷ moves) r rooted is_placed ready trace run =
    let next : Ready (apply t m.0 Plain).1 (after s m.1)
    = subst (λ a. Ready (apply t m.0 Plain).1 (after s a)) (sym trace.1) (goes home t rooted is_placed s m.0 ready run.0 trace.0) in (
      no_question t s m.0 ready run.0,
      quiet home (apply t m.0 Plain).1 (after s m.1) moves r (steps_keep_rooted t m.0 Plain rooted) (steps_keep_placed home t m.0 Plain is_placed trace.0) next trace.2 run.2,
    )

finds_nothing : (step : PlainStep) (a : PlainAnswer) → IsNoQuestion step → finds_in step a ≡ []
finds_nothing step a other = grind (arith, common_steps)

module _ (home : Option Names) (path : List ℕ) (more : List Deed) where
  quiet_deeds : (t : Tree) (moves : Moves) → Quiet moves → deeds (turns_on t moves) ≡ finds path ∷ more → ⊥
  quiet_deeds t [] asks e = absurd cc
  quiet_deeds t (m ∷ moves) asks e =
      let rest = deeds (turns_on (apply t m.0 Plain).1 moves) in
      let whole = sym (append_assoc (deeds_of_act (act_of m.0 Plain m.1)) (finds_in m.0 m.1) (deeds (turns_on (apply t m.0 Plain).1 moves))) ∙ e in
      quiet_deeds (apply t m.0 Plain).1 moves asks.1 (ap (λ x. x ++ deeds (turns_on (apply t m.0 Plain).1 moves)) (sym (finds_nothing m.0 m.1 asks.0)) ∙ (no_deeds home path more (act_of m.0 Plain m.1) (finds_in m.0 m.1 ++ rest) whole).0)

-- no put finds that its content is there: it puts it
pub puts_find_nothing : (home : Option Names) (site : Site) (p : Put) (t : Tree) (moves : Moves) (r : Reply) (path : List ℕ) (more : List Deed) → Rooted t → Placed home t
    → IsTrace home t (plain_moves moves) → Runs (opening site (commands.Put p)) moves r → deeds (turns_on t moves) ≡ finds path ∷ more → ⊥
puts_find_nothing home site p t moves r path more rooted is_placed trace run e = search (rules, quiet_deeds, quiet, has_place)
