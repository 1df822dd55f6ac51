-- The word `read-hash`.
use Rattle.std.specs.Prelude.{ℕ, List, Option}
use Rattle.cacache.specs.{Stores.{LogItem}, Calls.{Env, Reply, GetHash, Calls}, Integrities.{Hash}}
use Rattle.cacache_program.specs.{Output.{PutsOutOrFails}, WithIntegrity.{WithIntegrity}, WordRead.{read_text}}

module _ {S C N : Type 0} (log : S → Option (List LogItem)) where
  -- the log gained a run of the read by this integrity, and its reply was printed
  abbrev pub ReadsContent :
      List ℕ → Env S C N → Env S C N → Option (List ℕ) → Option (List ℕ) → ℕ → List Hash → Type 0
  ReadsContent cache old new before after status i =
      (reply : Reply) × Calls log old new cache (GetHash i) reply
      × PutsOutOrFails (read_text reply) before after status

  -- so it did by the integrity that the text is read as
  abbrev pub ReadsHash :
      List ℕ → List ℕ → Env S C N → Env S C N → Option (List ℕ) → Option (List ℕ) → ℕ → Type 0
  ReadsHash cache text old new before after status =
      WithIntegrity text (ReadsContent cache old new before after status) old new before after status
