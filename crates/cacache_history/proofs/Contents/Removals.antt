-- A removal removes at most its content; that of a key also the key's bucket; a clearing adds nothing.
use Rattle.std.proofs.{Common.{arith, ◌≡◌, inl, inr, ℕ, List, [], ◌∷◌, ◌++◌, Option, None, Some, Result, Ok, refl, sym, ap, subst, ◌∙◌}, lemmas.Grind.{common_steps}}
use Rattle.cacache_core.specs.{declared.{errors.Fault.{Fault}, integrity.digest.Hash.{Hash}}, Paths.{Names, names_of}}
use Rattle.cacache_core.specs.declared.errors.Fault.TheVariants as faults
use Rattle.cacache_store.specs.declared.store.answer.Answer.TheVariants as answers
use Rattle.cacache_store.specs.declared.store.step.Step.TheVariants as steps
use Rattle.cacache_store.specs.Plain.{PlainStep, PlainAnswer}
use Rattle.cacache_disk.specs.{declared.luck.Luck.{Luck}, Tree.{Tree}}
use Rattle.cacache_entry.specs.Bucket.{Found}
use Rattle.cacache_calls.specs.declared.command.Command.TheVariants as commands
use Rattle.cacache_calls.specs.{declared.reply.Reply.{Reply, TheVariants.{Done}}, Licence.{May, allows, licence, AllMay}, Reading.{found_in}, Removing.{remove_bucket, remove_found}, Runs.{Runs}, State.{Site, State, doing, over, remove}, Steps.{bucket_path, content_path}, Table.{after, opening}}
use Rattle.cacache_calls.proofs.Within.{calls_keep_to}
use Rattle.cacache_value.specs.Acts.{Drop, act_at}
use Rattle.cacache_history.specs.{Commits.{Deed, deeds_of_act, deeds_of, deeds, DropsAmong, RemovesFound, AreRemovals, IsRemoval}, History.{Turn}, Turns.{made_in}}
use Rattle.cacache_history.proofs.Each.{each_join}

-- ---- runs that are over

none_dropped : (paths : List (List ℕ)) → DropsAmong paths []
none_dropped [] = refl
none_dropped (path ∷ paths) = inl (none_dropped paths)

ended_deeds : (q r : Reply) (turns : List Turn) → Runs (over q) (made_in turns) r → deeds turns ≡ []
ended_deeds q r [] run = refl
ended_deeds q r (turn ∷ turns) run = absurd cc

-- ---- the removal of a path

-- what a step with its answer did
abbrev did : PlainStep → Luck → PlainAnswer → List Deed
did step luck a = deeds_of (record { step = step; luck = luck; answer = a })

module _ (path : List ℕ) (next : State) (paths : List (List ℕ)) (r : Reply) (drops : (turns : List Turn) → Runs next (made_in turns) r → DropsAmong paths (deeds turns)) where
  dropped : (names : Result Names Fault) (ds : List Deed) → names_of path ≡ names → DropsAmong paths ds → DropsAmong (path ∷ paths) ((deeds_of_act (act_at names Drop) ++ []) ++ ds)
  dropped names ds is h = grind (arith, common_steps)

  stopped : (q : Reply) (more : List Turn) (ds : List Deed) → ds ≡ [] → Runs (over q) (made_in more) r → DropsAmong (path ∷ paths) (ds ++ deeds more)
  stopped q more ds none run = subst (DropsAmong (path ∷ paths)) (sym (ap (λ x. x ++ deeds more) none ∙ ended_deeds q r more run)) (none_dropped (path ∷ paths))

  answered : (luck : Luck) (a : PlainAnswer) (more : List Turn) → Runs (after (doing (remove path) next) a) (made_in more) r → DropsAmong (path ∷ paths) (did (steps.RemoveFile path) luck a ++ deeds more)
  answered luck a more run = grind (arith, dropped, stopped)

  removed : (turns : List Turn) → Runs (doing (remove path) next) (made_in turns) r → DropsAmong (path ∷ paths) (deeds turns)
  removed [] run = none_dropped (path ∷ paths)
  removed (turn ∷ more) run =
      let is : turn.move.step ≡ steps.RemoveFile path = cc in
      subst (λ s. DropsAmong (path ∷ paths) (did s turn.move.luck turn.move.answer ++ deeds more)) (sym is) (answered turn.move.luck turn.move.answer more run.2)

-- ---- a full removal

module _ (cache key : List ℕ) (r : Reply) where
  bucket_removed : (turns : List Turn) → Runs (remove_bucket cache key) (made_in turns) r → DropsAmong (bucket_path cache key ∷ []) (deeds turns)
  bucket_removed turns run = removed (bucket_path cache key) (over Done) [] r (λ more ended. ended_deeds Done r more ended) turns run

  -- after a lookup
  module _ (step : PlainStep) (luck : Luck) (place : Tree) (is : step ≡ steps.ReadAll (bucket_path cache key)) where
    abbrev look : PlainAnswer → Turn
    look a = record { place = place; move = record { step = step; luck = luck; answer = a } }

    looked_only : (a : PlainAnswer) (more : List Turn) → deeds (look a ∷ more) ≡ deeds more
    looked_only a more = ap (λ s. did s luck a ++ deeds more) is

    bucket_alone : (a : PlainAnswer) (more : List Turn) → Runs (remove_bucket cache key) (made_in more) r → RemovesFound cache key (look a ∷ more)
    bucket_alone a more run = inl (subst (DropsAmong (bucket_path cache key ∷ [])) (sym (looked_only a more)) (bucket_removed more run))

    not_looked : (q : Reply) (a : PlainAnswer) (more : List Turn) → Runs (over q) (made_in more) r → RemovesFound cache key (look a ∷ more)
    not_looked q a more run = inl (subst (DropsAmong (bucket_path cache key ∷ [])) (sym (looked_only a more ∙ ended_deeds q r more run)) (none_dropped (bucket_path cache key ∷ [])))

    found_removed : (bytes : List ℕ) (o : Option Found) (more : List Turn) → found_in key bytes ≡ o → Runs (remove_found cache key o) (made_in more) r → RemovesFound cache key (look (answers.Bytes bytes) ∷ more)
    unfolding found_in
    found_removed bytes None more found run = bucket_alone (answers.Bytes bytes) more run
    found_removed bytes (Some f) more found run =
        inr (
          f,
          (look (answers.Bytes bytes), more, refl, is, ap Ok found),
          subst (DropsAmong (content_path cache f.integrity ∷ bucket_path cache key ∷ [])) (sym (looked_only (answers.Bytes bytes) more))
              (removed (content_path cache f.integrity) (remove_bucket cache key) (bucket_path cache key ∷ []) r bucket_removed more run),
        )

    looked : (site : Site) (a : PlainAnswer) (more : List Turn) → site.cache ≡ cache → Runs (after (opening site (commands.RemoveFully key)) a) (made_in more) r → RemovesFound cache key (look a ∷ more)
    looked site (answers.Bytes bytes) more here run = found_removed bytes (found_in key bytes) more refl (subst (λ c. Runs (remove_found c key (found_in key bytes)) (made_in more) r) here run)
    looked site (answers.Failed faults.NotFound) more here run = bucket_alone (answers.Failed faults.NotFound) more (subst (λ c. Runs (remove_bucket c key) (made_in more) r) here run)
    looked site (answers.Failed fault) more here run = not_looked _ (answers.Failed fault) more run
    looked site (answers.NoMemory given) more here run = not_looked _ (answers.NoMemory given) more run
    looked site a more here run = not_looked _ a more run

-- ---- a clearing

-- a step that may list and remove adds nothing
removal_only : (step : PlainStep) (luck : Luck) (a : PlainAnswer) → May (allows (licence commands.Clear) step) → AreRemovals (did step luck a)
removal_only step luck a may = grind (arith, common_steps)

all_removals : (turns : List Turn) → AllMay (licence commands.Clear) (made_in turns) → AreRemovals (deeds turns)
all_removals [] may = tt
all_removals (turn ∷ turns) may =
    each_join IsRemoval (deeds_of turn.move) (deeds turns) (removal_only turn.move.step turn.move.luck turn.move.answer may.0) (all_removals turns may.1)

-- ---- the cases

pub hash_removed : (site : Site) (i : List Hash) (turns : List Turn) (r : Reply) → Runs (opening site (commands.RemoveHash i)) (made_in turns) r → DropsAmong (content_path site.cache i ∷ []) (deeds turns)
hash_removed site i turns r run = removed (content_path site.cache i) (over Done) [] r (λ more ended. ended_deeds Done r more ended) turns run

pub key_removed : (site : Site) (key : List ℕ) (turns : List Turn) (r : Reply) → Runs (opening site (commands.RemoveFully key)) (made_in turns) r → RemovesFound site.cache key turns
key_removed site key [] r run = inl (none_dropped (bucket_path site.cache key ∷ []))
key_removed site key (turn ∷ more) r run =
    let is : turn.move.step ≡ steps.ReadAll (bucket_path site.cache key) = cc in
    looked site.cache key r turn.move.step turn.move.luck turn.place is site turn.move.answer more refl run.2

pub all_cleared : (site : Site) (turns : List Turn) (r : Reply) → Runs (opening site commands.Clear) (made_in turns) r → AreRemovals (deeds turns)
all_cleared site turns r run = all_removals turns (calls_keep_to (licence commands.Clear) site commands.Clear (made_in turns) r tt run)
