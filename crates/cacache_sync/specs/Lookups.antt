-- What a lookup answers by the one step that it makes, a read of the key's bucket; tombstones, and entries that were found.
use Rattle.std.specs.Prelude.{◌≡◌, ◌≢◌, ◌⊎◌, ℕ, List, Option, None, Result, Ok, Err, option_map, Some}
use Rattle.cacache_core.specs.{declared.errors.{Error.{Error, TheVariants.{IoError, OutOfMemory}}, Fault.TheVariants.{NotFound}}, Texts.{integrity_text}}
use Rattle.cacache_store.specs.{declared.{env.Env.{Env}, store.log.LogItem.{LogItem}}, Plain.{PlainAnswer}}
use Rattle.cacache_entry.specs.{declared.metadata.Metadata.{Metadata}, Bucket.{entries_of, Found, latest}, View.{found_view}, Entry.{Entry}}
use Rattle.cacache_calls.specs.{declared.{command.Delete.{Delete}, reply.Reply.{Reply}}, Steps.{bucket_path}, SingleSteps.{Does}}
use Rattle.cacache_jobs.specs.Environment.{RunsTimed}
use Rattle.cacache_store.specs.declared.store.answer.Answer.TheVariants as answers
use Rattle.cacache_store.specs.declared.store.step.Step.TheVariants as steps
use Rattle.cacache_calls.specs.declared.command.Command.TheVariants as commands

-- a tombstone of the key
abbrev pub delete_of : List ℕ → ℕ → Delete
delete_of key moment = record { key = key; moment = moment }

-- the log gained a run of the deletion, with a moment that the clock was asked for once
abbrev pub RunsDelete :
    {S C N : Type 0} → (S → Option (List LogItem)) → (C → Option (List ℕ))
    → Env S C N → Env S C N → List ℕ → List ℕ → Reply → Type 0
RunsDelete log moments old new cache key reply =
    RunsTimed log moments None old new cache
    (λ moment. commands.Delete (delete_of key moment)) reply

module _ (cache key : List ℕ) (old new : Option (List LogItem)) where
  -- the log gained one read of the key's whole bucket, with this answer
  abbrev pub ReadsBucket : PlainAnswer → Type 0
  ReadsBucket answer = Does (steps.ReadAll (bucket_path cache key)) answer old new

  -- this is the lookup of the key in the entries that were read; a bucket that isn't there has none
  abbrev pub Finds : Option Found → Type 0
  Finds found =
      ((bytes : List ℕ) × ReadsBucket (answers.Bytes bytes) × (found ≡ latest key (entries_of bytes)))
      ⊎ (ReadsBucket (answers.Failed NotFound) × (found ≡ None))

  -- what was found, or why the bucket couldn't be read; out of memory may come before the read or after it
  abbrev pub LooksUp : Result (Option Metadata) Error → Type 0
  LooksUp (Ok found) = Finds (option_map found_view found)
  LooksUp (Err (IoError fault message)) = ReadsBucket (answers.Failed fault) × (fault ≢ NotFound)
  LooksUp (Err OutOfMemory) = (new ≡ old) ⊎ ((answer : PlainAnswer) × ReadsBucket answer)
  LooksUp (Err e) = ⊥

-- ---- entries that were found, as entries again

-- an entry that was found, as its line says it
abbrev pub printed_entry : Found → Entry
printed_entry f = record {
  key = f.key;
  integrity = Some (integrity_text f.integrity);
  time = f.time;
  size = f.size;
  metadata = f.metadata;
  raw_metadata = f.raw_metadata;
}
