-- Moves of others through which a durable commit outlasts a loss, calls that end, and how many may begin.
use Rattle.std.specs.Prelude.{◌≡◌, List, [], ◌∷◌, Option, None, Some, Bool, true, Ok, ◌≤◌, ◌^◌, ℕ, false, ◌==◌}
use Rattle.cacache_core.specs.Paths.{Names, names_of}
use Rattle.cacache_store.specs.Plain.{PlainStep}
use Rattle.cacache_calls.specs.{declared.{command.Command.{Command}, reply.Reply.{Reply}}, Licence.{taking_in, keeps_to}}
use Rattle.cacache_history.specs.{declared.record.Record.{Record, TheVariants.{Moved, Began, Stopped}}, Setup.{Setup}, History.{Call, Made, Now, now_after, History, now_at}, Commits.{deeds}}
use Rattle.cacache_store.specs.declared.store.step.Step.TheVariants as steps
use Rattle.cacache_calls.specs.declared.command.Command.TheVariants as commands

-- a command that removes, links and exports nothing
abbrev pub is_quiet : Command → Bool
is_quiet = keeps_to taking_in

-- a step that moves a file to this path is that of a durable put
abbrev pub PutsDurably : Names → Command → PlainStep → Type 0
PutsDurably path (commands.Put p) (steps.Persist f to) =
    names_of to ≡ Ok path → p.options.durable ≡ true
PutsDurably path command step = Unit {0}

-- the same of what a move made
abbrev pub MadeDurably : Names → Command → Option Made → Type 0
MadeDurably path command None = Unit {0}
MadeDurably path command (Some made) = PutsDurably path command made.0

-- a move of a quiet call, durable if it puts a file at this path
abbrev pub IsQuietMove : Names → Option Call → Option Made → Type 0
IsQuietMove path None made = Unit {0}
IsQuietMove path (Some call) made =
    (is_quiet call.command ≡ true) × MadeDurably path call.command made

-- a record that is such a move, or none
abbrev pub IsQuiet : Names → Now → Record → Type 0
IsQuiet path now (Moved caller luck made reply) = IsQuietMove path (now.calls caller) made
IsQuiet path now r = Unit {0}

-- each of these records is
abbrev pub AreQuiet : Setup → Names → Now → List Record → Type 0
AreQuiet s path now [] = Unit {0}
AreQuiet s path now (r ∷ records) = IsQuiet path now r × AreQuiet s path (now_after s now r) records

-- ---- how many calls a history may begin: no more than there are numbers of temporary files

-- each call that begins has a number, and so a temporary file, of its own
abbrev pub FewCalls : History → Type 0
FewCalls h = (now_at h h.records).begun ≤ 2 ^ 64

-- ---- a call that goes on through records, and ends with a reply

-- a move of the caller ends its call with this reply, or leaves the rest to what follows
abbrev pub EndsHere : Bool → Option Reply → Reply → Type 0 → Type 0
EndsHere true None reply Later = Later
EndsHere true (Some told) reply Later = told ≡ reply
EndsHere false told reply Later = Later

-- the caller's call goes on through these records until it ends with this reply; others may follow
abbrev pub CallEndsWith : ℕ → Reply → List Record → Type 0
CallEndsWith caller reply [] = ⊥
CallEndsWith caller reply (Began other command ∷ records) = CallEndsWith caller reply records
CallEndsWith caller reply (Moved other luck made told ∷ records) =
    EndsHere (other == caller) told reply (CallEndsWith caller reply records)
CallEndsWith caller reply (Stopped other ∷ records) =
    ((other == caller) ≡ false) × CallEndsWith caller reply records

-- after the first records of a history, a call of this command is on its way that did nothing yet
-- to contents and buckets; it ends with this reply
pub record EndsFrom (h : History) (before rest : List Record) (command : Command)
    (reply : Reply) : Type 0 where
  pub caller : ℕ
  pub call : Call
  pub is : (now_at h before).calls caller ≡ Some call
  pub command_is : call.command ≡ command
  pub nothing : deeds call.turns ≡ []
  pub ends : CallEndsWith caller reply rest
