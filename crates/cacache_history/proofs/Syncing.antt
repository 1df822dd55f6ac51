-- What a synced temporary file is.
use Rattle.std.proofs.Common.{◌≡◌, Ok}
use Rattle.cacache_store.specs.declared.store.plain.PlainTemp.{PlainTemp}
use Rattle.cacache_store.specs.declared.store.step.Step.TheVariants as steps
use Rattle.cacache_disk.specs.{declared.luck.Luck.{Luck}, Tree.{Tree}, Apply.{apply}}
use Rattle.cacache_calls.specs.Answers.{synced_in}
use Rattle.cacache_value.proofs.Shows.{apply_answer}

-- a synced temporary file is the one that was given
pub temp_synced : (t : Tree) (file new : PlainTemp) (luck : Luck) → synced_in (apply t (steps.SyncTemp file) luck).0 ≡ Ok new → file ≡ new
temp_synced t file new luck = apply_answer (λ a. synced_in a ≡ Ok new → file ≡ new) (λ fault e. absurd cc) t (steps.SyncTemp file) luck (λ most e. cc)
