-- Which commands read bytes, what a reading call answers, and which errors say that bytes are damaged.
use Rattle.std.specs.Prelude.{◌≡◌, ◌⊎◌, ℕ, Bool, true, false, List, Vec, Option, None, Some, Result, Ok, Err}
use Rattle.cacache_core.specs.declared.{errors.{Error.{Error, TheVariants.{EntryNotFound, IoError, IntegrityError}}, Fault.{Fault, TheVariants.{NotFound}}, IntegrityFault.TheVariants.{Check}}, integrity.digest.Hash.{Hash}}
use Rattle.cacache_store.specs.declared.store.log.LogItem.{LogItem}
use Rattle.cacache_calls.specs.{declared.{command.Command.{Command}, reply.Reply.{Reply, TheVariants.{Read, Exists}}}, Steps.{content_path}, State.{Site}, Promises.{Answers, OnlyReads}, SingleSteps.{Does}}
use Rattle.cacache_store.specs.declared.store.answer.Answer.TheVariants as answers
use Rattle.cacache_store.specs.declared.store.step.Step.TheVariants as steps

-- wherever the command is called, it answers bytes
abbrev pub ReadsBytes : Command → Type 0
ReadsBytes command = (site : Site) (r : Reply) → Answers site command r → OnlyReads r

-- bytes, as their answer
abbrev pub bytes_read : {A : Type 0} → Vec ℕ A → Reply
bytes_read bytes = Read bytes.items

-- The log gained one question whether the content is there, and this is the store's answer; a failed
-- step is a no. Out of memory asked nothing.
abbrev pub AsksContent :
    List ℕ → List Hash → Option (List LogItem) → Option (List LogItem) → Result Bool Error → Type 0
AsksContent cache i old new (Ok there) =
    Does (steps.Exists (content_path cache i)) (answers.There there) old new
    ⊎ ((fault : Fault) × Does (steps.Exists (content_path cache i)) (answers.Failed fault) old new
    × (there ≡ false))
AsksContent cache i old new (Err e) = new ≡ old

-- an integrity whose content is there, or none, as its answer
abbrev pub has : Option (List Hash) → Reply
has None = Exists false
has (Some i) = Exists true

-- ---- which errors say that bytes are damaged, and which that a key's bytes can be had only from elsewhere

-- whether the error says that bytes don't meet their integrity
abbrev pub tells_damage : Error → Bool
tells_damage (IntegrityError (Check wanted found)) = true
tells_damage e = false

-- A failed read of a key shows that the cache lacks its bytes: there is no entry, no content, or a damaged one.
-- Any other error is handed on.
abbrev pub lack_in : Error → Result (Unit {0}) Error
lack_in (EntryNotFound cache key) = Ok tt
lack_in (IoError NotFound message) = Ok tt
lack_in (IntegrityError (Check wanted found)) = Ok tt
lack_in e = Err e
