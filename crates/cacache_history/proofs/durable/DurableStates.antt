-- The states of a durable put: it moves its temporary file right after the sync of it.
use Rattle.std.proofs.Common.{arith, rules, ◌≡◌, ◌⊎◌, inl, inr, ℕ, true, List, Option, Some, Ok, length, nat_le, subst}
use Rattle.cacache_core.specs.declared.errors.Fault.TheVariants as faults
use Rattle.cacache_store.specs.{declared.store.plain.PlainTemp.{PlainTemp}, Plain.{PlainStep, PlainAnswer}}
use Rattle.cacache_store.specs.declared.store.step.Step.TheVariants as steps
use Rattle.cacache_calls.specs.{Answers.{done_in, temp_in, synced_in, there_in, taken_in}, Common.{fails}, Inserting.{bucket_line, recorded, after_append}, State.{State, doing, creating, writing, syncing, persisting, confirming, appending, over, make_folder, sync_file, sync_dir}, declared.carried.Commit.{Commit}, Storing.{placed, secured, secured_found, move_in, write_rest, after_confirm}, Table.{wants, after}}
use Rattle.cacache_calls.proofs.{Going.{cond_leads, go_on_leads, secures, secures_found, records, places}, Sound.{some_is}}

-- the temporary file isn't moved before it is synced
abbrev pub Waits : State → Type 0
Waits (doing (make_folder p) s) = Waits s
Waits (doing (sync_file p) s) = Waits s
Waits (doing (sync_dir p) s) = Waits s
Waits (creating number c rest) = c.options.durable ≡ true
Waits (writing c file rest) = c.options.durable ≡ true
Waits (syncing c file) = Unit {0}
Waits (confirming c fault) = Unit {0}
Waits (appending i) = Unit {0}
Waits (over reply) = Unit {0}
Waits s = ⊥

-- it is moved next, and this holds of it
abbrev pub Moves : (PlainTemp → Type 0) → State → Type 0
Moves Ready (persisting c file) = Ready file
Moves Ready s = ⊥

abbrev pub IsDurable : (PlainTemp → Type 0) → State → Type 0
IsDurable Ready s = Waits s ⊎ Moves Ready s

moved_waits : (c : Commit) (file : PlainTemp) → c.options.durable ≡ true → Waits (move_in c file)
moved_waits c file durable = search (rules, cond_leads)

rests : (c : Commit) (file : PlainTemp) (rest : List ℕ) → c.options.durable ≡ true → Waits (write_rest c file rest)
rests c file rest durable = grind (arith, moved_waits)

places_wait : (c : Commit) → Waits (placed c)
places_wait c = places Waits (λ reply. tt) (λ folder i. tt) c

secured_waits : (c : Commit) → Waits (secured c)
secured_waits c = secures Waits (λ p s h. (h, h)) c (places_wait c)

module _ (Ready Later : PlainTemp → Type 0) (step : PlainStep) (a : PlainAnswer)
    (synced : (f new : PlainTemp) → Some (steps.SyncTemp f) ≡ Some step → synced_in a ≡ Ok new → Later new) where
  waits_on : (s : State) → Waits s → wants s ≡ Some step → IsDurable Later (after s a)
  waits_on (doing (make_folder p) s) h w = inl (go_on_leads Waits (done_in a) fails (λ _. s) tt (λ fault. tt) (λ x e. h))
  waits_on (doing (sync_file p) s) h w = inl (go_on_leads Waits (done_in a) fails (λ _. s) tt (λ fault. tt) (λ x e. h))
  waits_on (doing (sync_dir p) s) h w = inl (go_on_leads Waits (done_in a) fails (λ _. s) tt (λ fault. tt) (λ x e. h))
  waits_on (creating number c rest) h w = inl (go_on_leads Waits (temp_in a) fails (λ file. write_rest c file rest) tt (λ fault. tt) (λ file e. rests c file rest h))
  waits_on (writing c file rest) h w = search (rules, go_on_leads, cond_leads, rests)
  waits_on (syncing c file) h w =
      go_on_leads (IsDurable Later) (synced_in a) fails (persisting c) (inl tt) (λ fault. inl tt) (λ new e. inr (synced file new w e))
  waits_on (confirming c fault) h w =
      inl (go_on_leads Waits (there_in a) (λ _. fails fault) (after_confirm c fault) tt (λ other. tt)
      (λ there e. cond_leads Waits there (secured_found c) (fails fault) (λ _. secures_found Waits (λ p s h. (h, h)) c (places_wait c)) (λ _. tt)))
  waits_on (appending i) h w =
      inl (go_on_leads Waits (taken_in a) fails (after_append i) tt (λ fault. tt)
      (λ n e. cond_leads Waits (nat_le (length (bucket_line i)) n) (recorded i) (fails faults.ShortAppend) (λ _. records Waits (λ p s h. (h, h)) i tt) (λ _. tt)))
  waits_on (over reply) h w = absurd cc
  waits_on s h w = absurd h

  moves_on : (s : State) → Moves Ready s → IsDurable Later (after s a)
  moves_on s h = grind (arith, go_on_leads, secured_waits)

  -- a step leads to such a state again
  pub stays_durable : (s : State) → IsDurable Ready s → wants s ≡ Some step → IsDurable Later (after s a)
  stays_durable s h w = elim h [ inl waits ↦ waits_on s waits w | inr moves ↦ moves_on s moves ]

-- ---- the file that is moved

abbrev MovesNone : PlainStep → Type 0
MovesNone (steps.Persist f to) = ⊥
MovesNone step = Unit {0}

waits_none : (s : State) (step : PlainStep) → Waits s → wants s ≡ Some step → MovesNone step
waits_none s step h w = grind (arith, some_is)

same_file : (Ready : PlainTemp → Type 0) (file f : PlainTemp) (path to : List ℕ) → ◌≡◌ {A = Option PlainStep} (Some (steps.Persist file path)) (Some (steps.Persist f to)) → Ready file → Ready f
same_file Ready file f path to e h = let same : file ≡ f = cc in subst Ready same h

ready_moves : (Ready : PlainTemp → Type 0) (s : State) (f : PlainTemp) (to : List ℕ) → Moves Ready s → wants s ≡ Some (steps.Persist f to) → Ready f
ready_moves Ready s f to h w = grind (arith, same_file)

-- if such a state wants to move a file, this holds of it
pub ready_file : (Ready : PlainTemp → Type 0) (s : State) (f : PlainTemp) (to : List ℕ) → IsDurable Ready s → wants s ≡ Some (steps.Persist f to) → Ready f
ready_file Ready s f to h w = elim h [ inl waits ↦ absurd (waits_none s (steps.Persist f to) waits w) | inr moves ↦ ready_moves Ready s f to moves w ]
