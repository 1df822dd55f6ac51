-- The word `exists`.
use Rattle.std.specs.Prelude.{ℕ, List, Bool, true, false, Option, Some, None, codes}
use Rattle.cacache.specs.{Stores.{LogItem}, Calls.{Env, Reply, Calls}, Integrities.{Hash}}
use Rattle.cacache_calls.specs.declared.command.Command.TheVariants as commands
use Rattle.cacache_calls.specs.declared.reply.Reply.TheVariants as replies
use Rattle.cacache_program.specs.{Output.{PutsOutOrFails}, WithIntegrity.{WithIntegrity}}

-- the answer to a question, as a line
abbrev pub answer_line : Bool → List ℕ
answer_line true = codes "yes\n"
answer_line false = codes "no\n"

-- what is put out for a reply
abbrev pub exists_text : Reply → Option (List ℕ)
exists_text (replies.Exists there) = Some (answer_line there)
exists_text reply = None

module _ {S C N : Type 0} (log : S → Option (List LogItem)) where
  -- the log gained a run of the question for this integrity's content, and its reply was printed
  abbrev pub AsksContent :
      List ℕ → Env S C N → Env S C N → Option (List ℕ) → Option (List ℕ) → ℕ → List Hash → Type 0
  AsksContent cache old new before after status i =
      (reply : Reply) × Calls log old new cache (commands.Exists i) reply
      × PutsOutOrFails (exists_text reply) before after status

  -- so it did for the integrity that the text is read as
  abbrev pub AsksHash :
      List ℕ → List ℕ → Env S C N → Env S C N → Option (List ℕ) → Option (List ℕ) → ℕ → Type 0
  AsksHash cache text old new before after status =
      WithIntegrity text (AsksContent cache old new before after status) old new before after status
