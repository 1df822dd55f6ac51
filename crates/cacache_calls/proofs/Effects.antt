-- The steps of a commit do nothing; or store its content; or store its content and then append its entry.
use Rattle.std.proofs.{lemmas.{Grind.{common_steps}, Bool.{leb-true}}, Common.{rules, ◌≡◌, ◌⊎◌, inl, inr, ℕ, ◌+◌, ◌<◌, ◌^◌, List, [], ◌∷◌, Option, Some, None, Bool, nat_le, Result, refl, sym, subst, length, arith}}
use Rattle.cacache_core.specs.declared.{errors.{Fault.{Fault}, SerdeCause.{SerdeCause}, Error.{Error, TheVariants.{IoError, OutOfMemory}}}, integrity.digest.Hash.{Hash}}
use Rattle.cacache_core.specs.declared.errors.Fault.TheVariants as faults
use Rattle.cacache_store.specs.{declared.store.plain.{PlainTemp.{PlainTemp}, PlainFile.{PlainFile}}, Plain.{Fits, PlainStep, PlainAnswer}}
use Rattle.cacache_store.specs.declared.store.answer.Answer.TheVariants as answers
use Rattle.cacache_store.specs.declared.store.step.Step.TheVariants as steps
use Rattle.cacache_calls.specs.{declared.{answers.Refusal.{Refusal}, command.{Put.{Put}, Link.{Link}, Insert.{Insert}, Delete.{Delete}}, reply.Reply.{Reply, TheVariants.{Refused}}, carried.Commit.{Commit}, target.Target.{Target}}, Answers.{done_in, temp_in, written_in, synced_in, there_in, taken_in, file_in, got_in, length_in}, Steps.{content_path, content_folders, bucket_path, bucket_folders}, State.{State, doing, creating, writing, syncing, persisting, linking, confirming, appending, sizing, opening_file, hashing, over, Site, Insertion, to_link, Errand, make_folder, sync_file, sync_dir}, Common.{ends_with, fails, go_on, errand_step, sync_up}, Inserting.{insertion, deletion, unless_refused, refused_cause, bucket_line, recorded, after_append}, Storing.{insertion_of, indexed, sized, compared, placed, secured, secured_found, move_in, write_rest, after_write, after_confirm, put_commit}, Linking.{link_target, after_size, after_read}, Table.{piece, wants, after, opening}, Runs.{Moves, Runs}, Effects.{Effect, stored, sent, if_done, if_there, effect, effects_of, IsRefused, DoesNothing, TookAll, Sends, Inserts, Indexes, Commits, Links, OnlyChanges}}
use Rattle.cacache_calls.proofs.Going.{cond_leads, go_on_leads}
use Rattle.cacache_calls.specs.declared.command.Command.TheVariants as commands

-- the effects of a run from a state
abbrev Does : State → List Effect → Reply → Type 0
Does (doing (make_folder path) s) effects r = (DoesNothing effects r) ⊎ Does s effects r
Does (doing (sync_file path) s) effects r = (DoesNothing effects r) ⊎ Does s effects r
Does (doing (sync_dir path) s) effects r = (DoesNothing effects r) ⊎ Does s effects r
Does (creating number c rest) effects r = Commits c effects r
Does (writing c file rest) effects r = Commits c effects r
Does (syncing c file) effects r = Commits c effects r
Does (persisting c file) effects r = Commits c effects r
Does (linking c target) effects r = Commits c effects r
Does (confirming c fault) effects r = Commits c effects r
Does (appending i) effects r = (DoesNothing effects r) ⊎ Sends (bucket_path i.cache i.entry.key) (bucket_line i) effects r
Does (sizing t) effects r = Links t effects r
Does (opening_file (to_link t)) effects r = Links t effects r
Does (hashing (to_link t) file bytes) effects r = (file.left + length bytes < 2 ^ 64) → Links t effects r
Does (over reply) effects r = (effects ≡ []) × ((r ≡ reply) ⊎ (r ≡ Refused OutOfMemory))
Does s effects r = Unit {0}

-- ---- refusals

refused : (e : Error) (effects : List Effect) (r : Reply) → Does (ends_with e) effects r → DoesNothing effects r
refused e effects r h = (h.0, elim h.1 [ inl same ↦ rw same tt | inr same ↦ rw same tt ])

-- a sync that fails has no effect
synced : (effects : List Effect) (r : Reply) (X : Type 0) (folders : List (List ℕ)) (s : State) → (DoesNothing effects r → X) → (Does s effects r → X) → Does (sync_up folders s) effects r → X
synced effects r X [] s n k h = k h
synced effects r X (p ∷ ps) s n k h = synced effects r X ps (doing (sync_dir p) s) n (λ d. elim d [ inl a ↦ n a | inr b ↦ k b ]) h

module _ (c : Commit) (effects : List Effect) (r : Reply) where
  -- a commit that ends before its entry
  ends_before : (key : Option (List ℕ)) → DoesNothing effects r → Indexes c key effects r
  ends_before key h = grind (arith, common_steps)

  unindexed : (key : Option (List ℕ)) (e : Error) → Does (ends_with e) effects r → Indexes c key effects r
  unindexed key e h = grind (arith, refused)

  -- ---- once the content is stored

  inserts : (key : List ℕ) (cause : Option SerdeCause) → refused_cause (insertion_of c key) ≡ cause → Does (unless_refused (insertion_of c key) cause) effects r → Indexes c (Some key) effects r
  inserts key cause e h = grind (arith, refused)

  by_key : (key : Option (List ℕ)) → Does (indexed c key) effects r → Indexes c key effects r
  by_key key h = grind (arith, inserts)

  by_size : (size : Option ℕ) → Does (sized c size) effects r → Indexes c c.key effects r
  by_size size h = grind (arith, by_key, cond_leads, unindexed)

  by_integrity : (expected : Option (List Hash)) → Does (compared c expected) effects r → Indexes c c.key effects r
  by_integrity expected h = grind (arith, by_size, cond_leads, unindexed)

  places : Does (placed c) effects r → Indexes c c.key effects r
  places h = by_integrity c.options.integrity h

  secures : Does (secured c) effects r → Indexes c c.key effects r
  secures h =
      cond_leads (λ s. Does s effects r → Indexes c c.key effects r) c.options.durable (sync_up (content_folders c.cache c.computed) (placed c)) (placed c)
      (λ _. synced effects r (Indexes c c.key effects r) (content_folders c.cache c.computed) (placed c) (ends_before c.key) places) (λ _. places) h

  secures_found : Does (secured_found c) effects r → Indexes c c.key effects r
  secures_found h = search (rules, cond_leads, ends_before, secures)

  -- ---- before the content is stored

  fails_first : (fault : Fault) → Does (fails fault) effects r → Commits c effects r
  fails_first fault h = inl (refused (IoError fault []) effects r h)

  no_memory : Does (ends_with OutOfMemory) effects r → Commits c effects r
  no_memory h = inl (refused OutOfMemory effects r h)

  puts : (a : Result (Unit {0}) Refusal) → Does (go_on a (confirming c) (λ _. secured c)) effects r → Commits c (if_done a (stored (content_path c.cache c.computed)) effects) r
  puts a h = grind (arith, secures, no_memory)

  confirms : (fault : Fault) (a : Result Bool Refusal) → Does (go_on a (λ _. fails fault) (after_confirm c fault)) effects r → Commits c (if_there a (stored (content_path c.cache c.computed)) effects) r
  confirms fault a h = grind (arith, secures_found, no_memory, fails_first)

  moves : (file : PlainTemp) → Does (move_in c file) effects r → Commits c effects r
  moves file h = cond_leads (λ s. Does s effects r → Commits c effects r) c.options.durable (syncing c file) (persisting c file) (λ _ g. g) (λ _ g. g) h

  writes_rest : (file : PlainTemp) (rest : List ℕ) → Does (write_rest c file rest) effects r → Commits c effects r
  writes_rest file rest h = grind (arith, moves)

  writes : (rest : List ℕ) (w : PlainTemp × ℕ) → Does (after_write c rest w) effects r → Commits c effects r
  writes rest w h = search (rules, cond_leads, fails_first, writes_rest)

-- ---- the entry

-- the entry is in its bucket
records : (i : Insertion) (effects : List Effect) (r : Reply) (P : Type 0) → P → Does (recorded i) effects r → (effects ≡ []) × (IsRefused r ⊎ P)
records i effects r P p h =
    cond_leads (λ s. Does s effects r → (effects ≡ []) × (IsRefused r ⊎ P)) i.durable (doing (sync_file (bucket_path i.cache i.entry.key)) (sync_up (bucket_folders i.cache i.entry.key) (over i.reply))) (over i.reply)
    (λ _ d. elim d [ inl a ↦ (a.0, inl a.1) | inr b ↦ synced effects r ((effects ≡ []) × (IsRefused r ⊎ P)) (bucket_folders i.cache i.entry.key) (over i.reply) (λ a. (a.0, inl a.1)) (λ o. (o.0, inr p)) b ])
    (λ _ o. (o.0, inr p)) h

took : (i : Insertion) (n : ℕ) (effects : List Effect) (r : Reply) → Does (after_append i n) effects r → (effects ≡ []) × (IsRefused r ⊎ TookAll (bucket_line i) (answers.Took n))
took i n effects r h =
    cond_leads (λ s. Does s effects r → (effects ≡ []) × (IsRefused r ⊎ TookAll (bucket_line i) (answers.Took n))) (nat_le (length (bucket_line i)) n) (recorded i) (fails faults.ShortAppend)
    (λ e g. records i effects r (TookAll (bucket_line i) (answers.Took n)) (leb-true (length (bucket_line i)) n e) g) (λ _ g. let k = refused (IoError faults.ShortAppend []) effects r g in (k.0, inl k.1)) h

appends : (i : Insertion) (t : PlainAnswer) (effects : List Effect) (r : Reply) → Does (go_on (taken_in t) fails (after_append i)) effects r → (effects ≡ []) × (IsRefused r ⊎ TookAll (bucket_line i) t)
appends i t effects r h = grind (arith, took, refused)

-- ---- links

links_on : (t : Target ℕ) (bytes : List ℕ) (effects : List Effect) (r : Reply) (file : PlainFile) (more : List ℕ) → file.left + length more + length bytes < 2 ^ 64
    → Does (after_read (to_link t) bytes (file, more)) effects r → Links t effects r
links_on t bytes effects r file more bound h = grind (arith, common_steps)

links_opened : (t : Target ℕ) (a : PlainAnswer) (effects : List Effect) (r : Reply) → Fits (steps.Open t.path) a → Does (go_on (file_in a) fails (λ file. hashing (to_link t) file [])) effects r → Links t effects r
links_opened t a effects r fits h = grind (arith, refused)

links_read : (t : Target ℕ) (file : PlainFile) (bytes : List ℕ) (a : PlainAnswer) (effects : List Effect) (r : Reply) → Fits (steps.Read file piece) a
    → Does (go_on (got_in a) fails (after_read (to_link t) bytes)) effects r → file.left + length bytes < 2 ^ 64 → Links t effects r
links_read t file bytes a effects r fits h bound = grind (arith, links_on, refused)

module _ (t : Target ℕ) (effects : List Effect) (r : Reply) where
  links_go_on : {X : Type 0} (a : Result X Refusal) (next : X → State) → ((x : X) → Does (next x) effects r → Links t effects r) → Does (go_on a fails next) effects r → Links t effects r
  links_go_on a next k = go_on_leads (λ s. Does s effects r → Links t effects r) a fails next (λ h. inl (refused OutOfMemory effects r h)) (λ fault h. inl (refused (IoError fault []) effects r h)) (λ x _. k x)

-- ---- all states

-- out of memory has no effect
memory_does : (s : State) → Does s [] (Refused OutOfMemory)
memory_does (doing (make_folder path) s) = inl (refl, tt)
memory_does (doing (sync_file path) s) = inl (refl, tt)
memory_does (doing (sync_dir path) s) = inl (refl, tt)
memory_does (creating number c rest) = inl (refl, tt)
memory_does (writing c file rest) = inl (refl, tt)
memory_does (syncing c file) = inl (refl, tt)
memory_does (persisting c file) = inl (refl, tt)
memory_does (linking c target) = inl (refl, tt)
memory_does (confirming c fault) = inl (refl, tt)
memory_does (appending i) = inl (refl, tt)
memory_does (sizing t) = inl (refl, tt)
memory_does (opening_file (to_link t)) = inl (refl, tt)
memory_does (hashing (to_link t) file bytes) = λ bound. inl (refl, tt)
memory_does (over reply) = (refl, inr refl)
memory_does s = tt

made : (s : State) (a : Result (Unit {0}) Refusal) (effects : List Effect) (r : Reply) → Does (go_on a fails (λ _. s)) effects r → (DoesNothing effects r) ⊎ Does s effects r
made s a effects r h = grind (arith, refused)

commits_go_on : {X : Type 0} (c : Commit) (effects : List Effect) (r : Reply) (a : Result X Refusal) (next : X → State) → ((x : X) → Does (next x) effects r → Commits c effects r) → Does (go_on a fails next) effects r → Commits c effects r
commits_go_on c effects r a next k = go_on_leads (λ s. Does s effects r → Commits c effects r) a fails next (no_memory c effects r) (fails_first c effects r) (λ x _. k x)

sends : (i : Insertion) (t : PlainAnswer) (effects : List Effect) (r : Reply) → Does (go_on (taken_in t) fails (after_append i)) effects r → Sends (bucket_path i.cache i.entry.key) (bucket_line i) (sent (bucket_path i.cache i.entry.key) (bucket_line i) t ∷ effects) r
sends i t effects r h = let k = appends i t effects r h in (t, rw k.0 refl, k.1)

-- the effect of a state's next step
abbrev with_effect : Option PlainStep → PlainAnswer → List Effect → List Effect
with_effect None t effects = effects
with_effect (Some step) t effects = effect step t effects

-- an answer that fits a state's next step
abbrev FitsWanted : Option PlainStep → PlainAnswer → Type 0
FitsWanted None t = Unit {0}
FitsWanted (Some step) t = Fits step t

effects_before : (s : State) (t : PlainAnswer) (effects : List Effect) (r : Reply) → FitsWanted (wants s) t → Does (after s t) effects r → Does s (with_effect (wants s) t effects) r
effects_before (doing (make_folder path) s) t effects r fits = made s (done_in t) effects r
effects_before (doing (sync_file path) s) t effects r fits = made s (done_in t) effects r
effects_before (doing (sync_dir path) s) t effects r fits = made s (done_in t) effects r
effects_before (creating number c rest) t effects r fits = commits_go_on c effects r (temp_in t) (λ file. write_rest c file rest) (λ file. writes_rest c effects r file rest)
effects_before (writing c file rest) t effects r fits = commits_go_on c effects r (written_in t) (after_write c rest) (writes c effects r rest)
effects_before (syncing c file) t effects r fits = commits_go_on c effects r (synced_in t) (persisting c) (λ file h. h)
effects_before (persisting c file) t effects r fits = puts c effects r (done_in t)
effects_before (linking c target) t effects r fits = puts c effects r (done_in t)
effects_before (confirming c fault) t effects r fits = confirms c effects r fault (there_in t)
effects_before (appending i) t effects r fits = λ h. inr (sends i t effects r h)
effects_before (sizing target) t effects r fits = links_go_on target effects r (length_in t) (after_size target) (λ n h. h)
effects_before (opening_file (to_link target)) t effects r fits = links_opened target t effects r fits
effects_before (hashing (to_link target) file bytes) t effects r fits = links_read target file bytes t effects r fits
effects_before (over reply) t effects r fits = λ h. h
effects_before s t effects r fits = λ h. tt

-- every run has the effects of its first state
runs_do : (s : State) (moves : Moves) (r : Reply) → Runs s moves r → Does s (effects_of moves) r
runs_do s [] r (inl e) = rw e (refl, inl refl)
runs_do s [] r (inr e) = rw e (memory_does s)
runs_do s (m ∷ moves) r run =
    let h = effects_before s m.1 (effects_of moves) r (subst (λ o. FitsWanted o m.1) (sym run.0) run.1) (runs_do (after s m.1) moves r run.2) in
    rw run.0 at h

pub puts_commit : (site : Site) (p : Put) (moves : Moves) (r : Reply) → Runs (opening site (commands.Put p)) moves r → Commits (put_commit site.cache p) (effects_of moves) r
puts_commit site p moves r run = elim (runs_do (opening site (commands.Put p)) moves r run) [ inl h ↦ inl h | inr h ↦ h ]

pub links_commit : (site : Site) (l : Link) (moves : Moves) (r : Reply) → Runs (opening site (commands.Link l)) moves r → Links (link_target site l) (effects_of moves) r
links_commit site l moves r run = runs_do (opening site (commands.Link l)) moves r run

-- ---- insertions and deletions

entry_does : (i : Insertion) (cause : Option SerdeCause) (effects : List Effect) (r : Reply) → refused_cause i ≡ cause → Does (unless_refused i cause) effects r → Inserts i effects r
entry_does i cause effects r e h = grind (arith, refused)

pub inserts_send : (site : Site) (i : Insert) (moves : Moves) (r : Reply) → Runs (opening site (commands.Insert i)) moves r → Inserts (insertion site.cache i) (effects_of moves) r
inserts_send site i moves r run =
    let e : Insertion = insertion site.cache i in
    entry_does e (refused_cause e) (effects_of moves) r refl (runs_do (opening site (commands.Insert i)) moves r run)

pub deletes_send : (site : Site) (d : Delete) (moves : Moves) (r : Reply) → Runs (opening site (commands.Delete d)) moves r → Inserts (deletion site.cache d) (effects_of moves) r
deletes_send site d moves r run =
    let e : Insertion = deletion site.cache d in
    entry_does e (refused_cause e) (effects_of moves) r refl (runs_do (opening site (commands.Delete d)) moves r run)

-- ---- errands

pub errands_only_change : (e : Errand) (t : PlainAnswer) → OnlyChanges (effect (errand_step e) t [])
errands_only_change e t = grind (arith, common_steps)
