-- The replies of lookups and reads follow from the answers to their own steps.
use Rattle.std.proofs.{Common.{arith, rules, ◌≡◌, ◌⊎◌, inl, inr, ℕ, List, [], ◌∷◌, Option, Some, None, Bool, Result, Ok, refl, sym, ◌∙◌}, lemmas.{Grind.{common_steps}, Option.{same_Some}}}
use Rattle.cacache_core.{specs.{declared.{errors.Error.TheVariants.{OutOfMemory}, integrity.digest.Hash.{Hash}}, Integrity.{Meets}}, proofs.Meeting.{meets_finds}}
use Rattle.cacache_store.specs.declared.store.step.Step.TheVariants as steps
use Rattle.cacache_store.specs.Plain.{PlainStep, PlainAnswer}
use Rattle.cacache_entry.specs.Bucket.{Found}
use Rattle.cacache_calls.specs.{declared.{answers.Refusal.{Refusal}, reply.Reply.{Reply, TheVariants.{Read, Refused}}, carried.{Lookup.{Lookup}, Content.{Content}}}, Answers.{there_in, bytes_in}, Steps.{content_path, bucket_path}, State.{State, looking, reading, asking, over, Site}, Common.{fails, go_on}, Reading.{checked, answer_there, answer_absent, found_in, found_for, after_bucket, no_bucket}, Table.{wants, after, opening}, Runs.{Moves, Runs}, Replies.{bucket_shown, entries_shown, lookup, find_reply, content_reply, there_reply, OneStep, OneRun, ReadsBucketOnce, ReadsContentOnce, AsksContentOnce, ReadsOn, ReadsByKey, BeginsWithBucket, MeetsFound, OrMemory}}
use Rattle.cacache_calls.specs.declared.command.Command.TheVariants as commands
use Rattle.cacache_calls.specs.declared.carried.Aim.TheVariants as aims

-- a call that is over makes no step
pub over_run : (reply : Reply) (moves : Moves) (r : Reply) → Runs (over reply) moves r → OrMemory ((moves ≡ []) × (r ≡ reply)) r
over_run reply [] r (inl e) = inr (refl, cc)
over_run reply [] r (inr e) = inl e
over_run reply (m ∷ moves) r run = absurd (let e : None ≡ Some m.0 = run.0 in cc)

-- a state with one step whose answer ends the call
pub one_step : (s : State) (step : PlainStep) (reply : PlainAnswer → Reply) → wants s ≡ Some step → ((t : PlainAnswer) → after s t ≡ over (reply t)) → (moves : Moves) (r : Reply) → Runs s moves r → OrMemory (OneStep step reply moves r) r
one_step s step reply w ends [] r (inl e) = absurd (let none : None ≡ Some step = rw e at w in cc)
one_step s step reply w ends [] r (inr e) = inl e
one_step s step reply w ends (m ∷ moves) r run = search (rules, over_run)

-- a call that is over ends with its reply, or out of memory
over_ends : (reply : Reply) (moves : Moves) (r : Reply) → Runs (over reply) moves r → (moves ≡ []) × ((r ≡ reply) ⊎ (r ≡ Refused OutOfMemory))
over_ends reply [] r (inl e) = (refl, inl cc)
over_ends reply [] r (inr e) = (refl, inr e)
over_ends reply (m ∷ moves) r run = absurd (let e : None ≡ Some m.0 = run.0 in cc)

-- the whole run of a state with one step whose answer ends the call
one_run : (s : State) (step : PlainStep) (reply : PlainAnswer → Reply) → wants s ≡ Some step → ((t : PlainAnswer) → after s t ≡ over (reply t)) → (moves : Moves) (r : Reply) → Runs s moves r → OneRun step reply moves r
one_run s step reply w ends [] r (inl e) = absurd (let none : None ≡ Some step = rw e at w in cc)
one_run s step reply w ends [] r (inr e) = inl (refl, e)
one_run s step reply w ends (m ∷ moves) r run =
    let same : m.0 ≡ step = same_Some _ _ (sym run.0 ∙ w) in
    let rest = over_ends (reply m.1) moves r (rw ends at run.2) in
    inr (m.1, rw (same, rest.0) refl, rw same at run.1, rest.1)

-- ---- lookups

abbrev look : Site → List ℕ → Lookup
look site key = record { cache = site.cache; key = key; aim = aims.Report }

found_after : (site : Site) (key : List ℕ) (a : Result (List ℕ) Refusal) → go_on a (no_bucket (look site key)) (after_bucket (look site key)) ≡ over (find_reply key (entries_shown a))
unfolding found_in
found_after site key a = grind (arith, common_steps)

pub finds_shown : (site : Site) (key : List ℕ) (moves : Moves) (r : Reply) → Runs (opening site (commands.Find key)) moves r → OrMemory (ReadsBucketOnce site.cache key moves r) r
finds_shown site key moves r run = one_step (looking (look site key)) (steps.ReadAll (bucket_path site.cache key)) (λ t. find_reply key (bucket_shown t)) refl (λ t. found_after site key (bytes_in t)) moves r run

-- the whole run of a lookup
pub find_run : (site : Site) (key : List ℕ) (moves : Moves) (r : Reply) → Runs (opening site (commands.Find key)) moves r → OneRun (steps.ReadAll (bucket_path site.cache key)) (λ t. find_reply key (bucket_shown t)) moves r
find_run site key moves r run = one_run (looking (look site key)) (steps.ReadAll (bucket_path site.cache key)) (λ t. find_reply key (bucket_shown t)) refl (λ t. found_after site key (bytes_in t)) moves r run

-- ---- contents

abbrev content : List ℕ → List Hash → Content
content cache i = record { cache = cache; integrity = i }

checked_is : (k : Content) (bytes : List ℕ) → checked k bytes ≡ over (content_reply k.integrity (Ok bytes))
checked_is k bytes = search rules

read_after : (k : Content) (a : Result (List ℕ) Refusal) → go_on a fails (checked k) ≡ over (content_reply k.integrity a)
read_after k a = grind (arith, checked_is)

content_shown : (cache : List ℕ) (i : List Hash) (moves : Moves) (r : Reply) → Runs (reading (content cache i)) moves r → OrMemory (ReadsContentOnce cache i moves r) r
content_shown cache i moves r run = one_step (reading (content cache i)) (steps.ReadAll (content_path cache i)) (λ t. content_reply i (bytes_in t)) refl (λ t. read_after (content cache i) (bytes_in t)) moves r run

pub reads_shown : (site : Site) (i : List Hash) (moves : Moves) (r : Reply) → Runs (opening site (commands.GetHash i)) moves r → OrMemory (ReadsContentOnce site.cache i moves r) r
reads_shown site i moves r run = content_shown site.cache i moves r run

asked_after : (a : Result Bool Refusal) → go_on a answer_absent answer_there ≡ over (there_reply a)
asked_after a = grind (arith, common_steps)

pub exists_shown : (site : Site) (i : List Hash) (moves : Moves) (r : Reply) → Runs (opening site (commands.Exists i)) moves r → OrMemory (AsksContentOnce site.cache i moves r) r
exists_shown site i moves r run = one_step (asking (content site.cache i)) (steps.Exists (content_path site.cache i)) (λ t. there_reply (there_in t)) refl (λ t. asked_after (there_in t)) moves r run

-- ---- a lookup and then a read

abbrev look_to_read : List ℕ → List ℕ → Lookup
look_to_read cache key = record { cache = cache; key = key; aim = aims.Read }

found_shown : (cache key : List ℕ) (found : Option Found) (moves : Moves) (r : Reply) → Runs (found_for (look_to_read cache key) aims.Read found) moves r → OrMemory (ReadsOn cache key (Ok found) moves r) r
found_shown cache key found moves r run = grind (arith, content_shown, over_run)

bucket_read : (cache key : List ℕ) (a : Result (List ℕ) Refusal) (moves : Moves) (r : Reply) → Runs (go_on a (no_bucket (look_to_read cache key)) (after_bucket (look_to_read cache key))) moves r → OrMemory (ReadsOn cache key (lookup key (entries_shown a)) moves r) r
unfolding found_in
bucket_read cache key a moves r run = grind (arith, found_shown, over_run)

pub gets_shown : (site : Site) (key : List ℕ) (moves : Moves) (r : Reply) → Runs (opening site (commands.Get key)) moves r → OrMemory (ReadsByKey site.cache key moves r) r
gets_shown site key [] r (inl e) = absurd cc
gets_shown site key [] r (inr e) = inl e
gets_shown site key (m ∷ moves) r run =
    elim (bucket_read site.cache key (bytes_in m.1) moves r run.2) [
      | inl e ↦ inl e
      | inr h ↦ inr (m.1, moves, (let same : m.0 ≡ steps.ReadAll (bucket_path site.cache key) = sym (same_Some _ _ run.0) in rw same refl), h)
    ]

-- ---- the verified read by key

meeting : (i : List Hash) (a : Result (List ℕ) Refusal) (bytes : List ℕ) → Read bytes ≡ content_reply i a → Meets i bytes
meeting i a bytes e = grind (arith, meets_finds)

on_meets : (cache key : List ℕ) (look : Result (Option Found) Refusal) (more : Moves) (bytes : List ℕ) → ReadsOn cache key look more (Read bytes) → (found : Found) × (look ≡ Ok (Some found)) × Meets found.integrity bytes
on_meets cache key look more bytes h = grind (arith, meeting)

pub gets_meet : (site : Site) (key : List ℕ) (moves : Moves) (bytes : List ℕ) → Runs (opening site (commands.Get key)) moves (Read bytes) → (t : PlainAnswer) × (more : Moves) × BeginsWithBucket site.cache key t more moves × MeetsFound key t bytes
gets_meet site key moves bytes run = search (rules, gets_shown, on_meets)
