-- Which state leads to which, in one place: every call keeps a property of states that a few moves keep.
use Rattle.std.proofs.{Common.{arith, ◌≡◌, ◌+◌, ◌-◌, ◌==◌, ℕ, Bool, true, false, cond, nat_le, List, [], ◌∷◌, ◌++◌, Option, None, Some, Result, Ok, length, take, drop, sym, subst}, lemmas.Grind.{common_steps}}
use Rattle.std.specs.Prelude.{All}
use Rattle.cacache_core.specs.{declared.errors.{Fault.{Fault}, Error.TheVariants.{IntegrityError, OutOfMemory}, IntegrityFault.TheVariants.{Check}}, Integrity.{actual}, Matching.{meets}}
use Rattle.cacache_core.specs.declared.errors.Fault.TheVariants as faults
use Rattle.cacache_store.specs.{declared.store.{answer.Name.{Name}, plain.{PlainFile.{PlainFile}, PlainTemp.{PlainTemp}}}, Plain.{PlainStep, PlainAnswer}}
use Rattle.cacache_store.specs.declared.store.step.Step.TheVariants as steps
use Rattle.cacache_entry.specs.Bucket.{Found}
use Rattle.cacache_calls.specs.{declared.{answers.Refusal.{Refusal}, reply.Reply.TheVariants.{Copied, Done, Exists, Listed, Read}, carried.{Commit.{Commit}, Lookup.{Lookup}, Content.{Content}}, target.Target.{Target}, visit.{Visit.{Visit, TheVariants.{Enter, RemoveFolder}}, Task.{Task, TheVariants.{Make, Stumble}}}}, Answers.{done_in, temp_in, written_in, synced_in, file_in, got_in, names_in}, Common.{ends_with, fails, go_on}, Reading.{checked, copied_count, found_for, no_bucket}, Inserting.{bucket_line, recorded, after_append}, Linking.{with_size, after_read, hashed_path}, State.{State, doing, creating, writing, syncing, persisting, linking, confirming, appending, looking, reading, asking, sizing, opening_file, hashing, copying, walking, over, Insertion, Hashing, to_link, Errand, make_folder, sync_file, sync_dir, Item, Walk}, Steps.{temp_path, content_folder}, Storing.{placed, secured, write_rest, after_write, after_confirm}, Table.{piece, wants, after}, Walking.{EachVisit, most, failed, give, miss, walk_on, tasks_of, leaving, too_many, entered, unread_bucket, listed, visit_step, after_visit}}
use Rattle.cacache_calls.proofs.{Going.{cond_leads, go_on_leads, moves_on, secures, secures_found, records}, Keys.{each_append, MayMeet, each_name, each_leaving}}

-- every walk satisfies this
abbrev pub AnyWalk : Bool → Type 0
AnyWalk clears = Unit {0}

-- ---- answers

-- a good answer to a step returns this
abbrev pub Brings : {X : Type 0} → (PlainStep → PlainAnswer → Type 0) → PlainStep → (PlainAnswer → Result X Refusal) → X → Type 0
Brings Good step part x = (a : PlainAnswer) × Good step a × (part a ≡ Ok x)

-- a good answer to a state's next step
abbrev pub GoodFor : (PlainStep → PlainAnswer → Type 0) → Option PlainStep → PlainAnswer → Type 0
GoodFor Good None a = Unit {0}
GoodFor Good (Some step) a = Good step a

-- every answer is good
abbrev pub AnyAnswer : PlainStep → PlainAnswer → Type 0
AnyAnswer step a = Unit {0}

any_for : (o : Option PlainStep) (a : PlainAnswer) → GoodFor AnyAnswer o a
any_for o a = grind (arith, common_steps)

-- ---- the moves, block by block

-- a sync may come before each state that satisfies P
abbrev pub Syncs : (State → Type 0) → Type 0
Syncs P = (path : List ℕ) (s : State) → P s → P (doing (sync_file path) s) × P (doing (sync_dir path) s)

-- the call first makes the folder of a content
abbrev pub in_folder : Commit → State → State
in_folder c s = doing (make_folder (content_folder c.cache c.computed)) s

-- for the good answers to steps, and a property of states
module _ (Good : PlainStep → PlainAnswer → Type 0) (P : State → Type 0) where
  -- a step that fails, out of memory, and an errand that is done
  pub record ClosedEnds : Type 0 where
    pub failed : (s : State) (fault : Fault) → P s → P (fails fault)
    pub memory : (s : State) → P s → P (ends_with OutOfMemory)
    pub errand : (e : Errand) (s : State) → P (doing e s) → P s

  -- a commit: it makes, writes, syncs and moves its file, or makes its link, until the content is stored
  pub record ClosedCommit : Type 0 where
    pub created : (number : ℕ) (c : Commit) (rest : List ℕ) (file : PlainTemp) → Brings Good (steps.CreateTemp (temp_path c.cache number)) temp_in file → P (creating number c rest) → P (writing c file rest)
    pub wrote : (c : Commit) (file : PlainTemp) (rest : List ℕ) (w : PlainTemp × ℕ) → Brings Good (steps.Write file rest) written_in w → P (writing c file rest) → P (writing c w.0 (drop w.1 rest))
    pub moved : (c : Commit) (file : PlainTemp) → P (writing c file []) → P (in_folder c (syncing c file)) × P (in_folder c (persisting c file))
    pub synced : (c : Commit) (file new : PlainTemp) → Brings Good (steps.SyncTemp file) synced_in new → P (syncing c file) → P (persisting c new)
    pub persisted : (c : Commit) (file : PlainTemp) (fault : Fault) → P (persisting c file) → P (confirming c fault)
    pub linked : (c : Commit) (target : List ℕ) (fault : Fault) → P (linking c target) → P (confirming c fault)
    pub there : (c : Commit) (fault : Fault) → P (confirming c fault) → P (placed c) × Syncs P

  -- lookups, reads and existence checks
  pub record ClosedReads : Type 0 where
    pub found : (l : Lookup) (found : Option Found) → P (looking l) → P (found_for l l.aim found)
    pub met : (k : Content) (bytes : List ℕ) → meets k.integrity bytes ≡ true → P (reading k) → P (over (Read bytes))
    pub unmet : (k : Content) (bytes : List ℕ) → P (reading k) → P (ends_with (IntegrityError (Check k.integrity (actual k.integrity bytes))))
    pub asked : (k : Content) (there : Bool) → P (asking k) → P (over (Exists there))

  -- files that a call reads to their end, and copies
  pub record ClosedFiles : Type 0 where
    pub sized : (t : Target ℕ) (n : ℕ) → P (sizing t) → P (opening_file (to_link (with_size t n)))
    pub opened : (x : Hashing) (file : PlainFile) → Brings Good (steps.Open (hashed_path x)) file_in file → P (opening_file x) → P (hashing x file [])
    pub got : (x : Hashing) (file : PlainFile) (bytes : List ℕ) (g : PlainFile × List ℕ) → Brings Good (steps.Read file piece) got_in g → P (hashing x file bytes) → P (after_read x bytes g)
    pub copied : (from to : List ℕ) (count : Option ℕ) (n : ℕ) → P (copying from to count) → P (over (Copied (copied_count count n)))

-- and for a property of walks, which depends on whether they clear, and one of each of their visits
module _ (Good : PlainStep → PlainAnswer → Type 0) (P : State → Type 0) (K : Bool → Type 0) (V : Visit → Type 0) where
  -- walks, which visit what the names of a folder lead to
  pub record ClosedWalk : Type 0 where
    pub visited : (w : Walk) (v : Visit) (todo : List Task) → P (walking w v todo) → K w.clears × (V v × EachVisit V todo)
    pub visiting : (w : Walk) (v : Visit) (todo : List Task) → K w.clears → V v → EachVisit V todo → P (walking w v todo)
    pub names : (b : Bool) (level : ℕ) (p : List ℕ) (names : List Name) → Brings Good (steps.ReadDir p) names_in names → K b → V (Enter p level) → All (MayMeet V level p b) names
    pub left : (level : ℕ) (p : List ℕ) → K true → V (Enter p level) → V (RemoveFolder p)
    pub cleared : K true → P (over Done)
    pub listed : (items : List Item) → K false → P (over (Listed items))

  -- all moves; once an insertion's line is in its bucket, syncs lead to its reply
  pub record Closed : Type 0 where
    pub ends : ClosedEnds Good P
    pub commits : ClosedCommit Good P
    pub inserts : (i : Insertion) → P (appending i) → P (over i.reply) × Syncs P
    pub reads : ClosedReads Good P
    pub files : ClosedFiles Good P
    pub walks : ClosedWalk

  -- ---- all states

  -- of a state whose step may fail, or may get no memory
  module _ (c : Closed) (memory : P (ends_with OutOfMemory)) (fails_so : (fault : Fault) → P (fails fault)) where
    leads : {X : Type 0} (a : Result X Refusal) (next : X → State) → ((x : X) → a ≡ Ok x → P (next x)) → P (go_on a fails next)
    leads a next k = go_on_leads P a fails next memory fails_so k

    rests : (x : Commit) (file : PlainTemp) (rest : List ℕ) → P (writing x file rest) → P (write_rest x file rest)
    rests x file rest h = grind (arith, moves_on)

    writes : (x : Commit) (file : PlainTemp) (rest : List ℕ) (w : PlainTemp × ℕ) → Brings Good (steps.Write file rest) written_in w → P (writing x file rest) → P (after_write x rest w)
    writes x file rest w b h = cond_leads P (w.1 == 0) (fails faults.WriteZero) (write_rest x w.0 (drop w.1 rest)) (λ _. fails_so faults.WriteZero) (λ _. rests x w.0 (drop w.1 rest) (c.commits.wrote x file rest w b h))

    -- a stored content goes on like one that is found after a fault, for any fault
    stored : (x : Commit) (a : Result (Unit {0}) Refusal) → ((fault : Fault) → P (confirming x fault)) → P (go_on a (confirming x) (λ _. secured x))
    stored x a k = go_on_leads P a (confirming x) (λ _. secured x) memory k (λ _ _. let m = c.commits.there x faults.Device (k faults.Device) in secures P m.1 x m.0)

    confirms : (x : Commit) (fault : Fault) (there : Bool) → P (confirming x fault) → P (after_confirm x fault there)
    confirms x fault true h = let m = c.commits.there x fault h in secures_found P m.1 x m.0
    confirms x fault false h = fails_so fault

    appends : (i : Insertion) (n : ℕ) → P (appending i) → P (after_append i n)
    appends i n h = let m = c.inserts i h in cond_leads P (nat_le (length (bucket_line i)) n) (recorded i) (fails faults.ShortAppend) (λ _. records P m.1 i m.0) (λ _. fails_so faults.ShortAppend)

    unread : (l : Lookup) (fault : Fault) → P (looking l) → P (no_bucket l fault)
    unread l fault h = grind (arith, common_steps)

    checks : (k : Content) (bytes : List ℕ) → P (reading k) → P (checked k bytes)
    checks k bytes h = cond_leads P (meets k.integrity bytes) (over (Read bytes)) (ends_with (IntegrityError (Check k.integrity (actual k.integrity bytes)))) (λ e. c.reads.met k bytes e h) (λ _. c.reads.unmet k bytes h)

    -- ---- walks

    finishes : (b : Bool) (items : List Item) → K b → P (cond b (over Done) (over (Listed items)))
    finishes b items h = grind (arith, common_steps)

    stops : (b : Bool) (items : List Item) → K b → P (cond b (fails faults.TooDeep) (over (Listed items)))
    stops b items h = grind (arith, common_steps)

    leaves : (b : Bool) (level : ℕ) (p : List ℕ) → K b → V (Enter p level) → EachVisit V (leaving b level p)
    leaves b level p h is = grind (arith, each_leaving)

    gives : (w : Walk) (items : List Item) (next : Walk → State) → K w.clears → ((v : Walk) → K v.clears → P (next v)) → P (give w items next)
    gives w items next h k =
        let more : Walk = record w { items = w.items ++ items } in
        let full : Walk = record w { items = take most (w.items ++ items) } in
        cond_leads P (nat_le (length w.items + length items) most) (next more) (too_many full) (λ _. k more h) (λ _. stops w.clears (full.items ++ failed faults.TooDeep ∷ []) h)

    misses : (w : Walk) (next : Walk → State) (fault : Fault) → K w.clears → ((v : Walk) → K v.clears → P (next v)) → P (miss w next fault)
    misses w next fault h k = cond_leads P w.clears (fails fault) (give w (failed fault ∷ []) next) (λ _. fails_so fault) (λ _. gives w (failed fault ∷ []) next h k)

    goes_on : (todo : List Task) → EachVisit V todo → (w : Walk) → K w.clears → P (walk_on todo w)
    goes_on [] k w h = finishes w.clears w.items h
    goes_on (Stumble fault path ∷ todo) k w h = misses w (walk_on todo) fault h (goes_on todo k)
    goes_on (Make v ∷ todo) k w h = c.walks.visiting w v todo h k.0 k.1

    module _ (w : Walk) (todo : List Task) (h : K w.clears) (k : EachVisit V todo) where
      missed : (fault : Fault) → P (miss w (walk_on todo) fault)
      missed fault = misses w (walk_on todo) fault h (goes_on todo k)

      unlisted : (fault : Fault) → P (unread_bucket w todo fault)
      unlisted fault = grind (arith, goes_on, missed)

      enters : (p : List ℕ) (level : ℕ) (names : List Name) → Brings Good (steps.ReadDir p) names_in names → V (Enter p level) → P (entered w p level todo names)
      enters p level names b is =
          let first : List Task = tasks_of w.clears level p names in
          let leave : List Task = leaving w.clears level p in
          let next : Walk = record w { left = w.left - length names } in
          let own : EachVisit V first = each_name V level p w.clears names (c.walks.names w.clears level p names b h is) in
          cond_leads P (nat_le (length names) w.left) (walk_on (first ++ leave ++ todo) next) (too_many w)
          (λ _. goes_on (first ++ leave ++ todo) (each_append V (first ++ leave) todo (each_append V first leave own (leaves w.clears level p h is)) k) next h) (λ _. stops w.clears (w.items ++ failed faults.TooDeep ∷ []) h)

      removed : (a : PlainAnswer) → P (go_on (done_in a) (miss w (walk_on todo)) (λ _. walk_on todo w))
      removed a = go_on_leads P (done_in a) (miss w (walk_on todo)) (λ _. walk_on todo w) memory missed (λ _ _. goes_on todo k w h)

      visits : (v : Visit) (a : PlainAnswer) → Good (visit_step v) a → V v → P (after_visit w v todo a)
      visits v a good is = grind (arith, go_on_leads, missed, enters, unlisted, gives, goes_on, removed)

    -- ---- each state

    keeps : (s : State) (a : PlainAnswer) → GoodFor Good (wants s) a → P s → P (after s a)
    keeps s a good h = grind (arith, leads, rests, writes, stored, go_on_leads, confirms, appends, unread, checks, visits)

  -- after a good answer to the state's next step
  pub kept : Closed → (s : State) (step : PlainStep) (a : PlainAnswer) → P s → wants s ≡ Some step → Good step a → P (after s a)
  kept c s step a h w good = keeps c (c.ends.memory s h) (λ fault. c.ends.failed s fault h) s a (subst (λ o. GoodFor Good o a) (sym w) good) h

module _ (P : State → Type 0) (K : Bool → Type 0) (V : Visit → Type 0) where
  -- after any answer
  pub kept_always : Closed AnyAnswer P K V → (s : State) (a : PlainAnswer) → P s → P (after s a)
  kept_always c s a h = keeps AnyAnswer P K V c (c.ends.memory s h) (λ fault. c.ends.failed s fault h) s a (any_for (wants s) a) h
