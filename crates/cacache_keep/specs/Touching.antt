-- What a touch of a key does, over any store.
use Rattle.std.specs.Prelude.{◌≡◌, ◌⊎◌, ℕ, List, Bool, true, false, Option, None, Some, MatchOption}
use Rattle.cacache_core.specs.declared.errors.{Error.{Error, TheVariants.{OutOfMemory}}, Fault.TheVariants.{Unsupported}}
use Rattle.cacache_store.specs.declared.store.answer.Answer.TheVariants as answers
use Rattle.cacache_store.specs.declared.store.step.Step.TheVariants as steps
use Rattle.cacache_store.specs.declared.{env.Env.{Env}, store.log.LogItem.{LogItem}}
use Rattle.cacache_entry.specs.Bucket.{Found}
use Rattle.cacache_calls.specs.{declared.command.Command.{Command}, Common.{fails}, SingleSteps.{Does, FailsAt}, State.{Site}, Steps.{bucket_path}, Table.{opening}, Runs.{EndsAs, Ran, without_message}}
use Rattle.cacache_calls.specs.declared.command.Command.TheVariants as commands
use Rattle.cacache_calls.specs.declared.reply.Reply.TheVariants as replies
use Rattle.cacache_jobs.specs.{Environment.{AsksMoment}, JobStates.{site_of}}
use Rattle.cacache_sync.specs.put.KeyedWriters.{Said, nothing_said, insert_of}
use Rattle.cacache_keep.specs.Checking.{has_odd}

-- what an entry says of its content, as options
abbrev pub said_of : Found → Said
said_of f = record nothing_said {
  size = Some f.size;
  integrity = Some f.integrity;
  metadata = f.metadata;
  raw_metadata = f.raw_metadata;
}

-- an entry that says the same of the content, with this moment
abbrev pub renewed : List ℕ → Found → ℕ → Command
renewed key f moment = commands.Insert (insert_of key (said_of f) moment)

-- ---- the key's bucket

-- the log gained a reading of the key's bucket, which has no odd line
abbrev pub ReadsClean :
    List ℕ → List ℕ → Option (List LogItem) → Option (List LogItem) → Type 0
ReadsClean cache key old new =
    (bytes : List ℕ) × (has_odd bytes ≡ false)
    × Does (steps.ReadAll (bucket_path cache key)) (answers.Bytes bytes) old new

-- the bucket wasn't read, or it has an odd line; or memory ran out after the reading
abbrev pub StopsChecking :
    List ℕ → List ℕ → Error → Option (List LogItem) → Option (List LogItem) → Type 0
StopsChecking cache key e old new =
    FailsAt (steps.ReadAll (bucket_path cache key)) e old new
    ⊎ ((bytes : List ℕ)
    × Does (steps.ReadAll (bucket_path cache key)) (answers.Bytes bytes) old new
    × ((e ≡ OutOfMemory) ⊎ ((has_odd bytes ≡ true) × EndsAs e (fails Unsupported))))

-- ---- a touch

-- the log gained a lookup of the key, and if it finds an entry, a reading of the bucket, and an entry
-- that says the same
abbrev pub TouchesKey : Site → List ℕ → Option Found → ℕ
    → Option (List LogItem) → Option (List LogItem) → Type 0
TouchesKey site key None moment old new =
    Ran (opening site (commands.Find key)) (replies.LookedUp None) old new
TouchesKey site key (Some f) moment old new =
    (found read : Option (List LogItem))
    × Ran (opening site (commands.Find key)) (replies.LookedUp (Some f)) old found
    × ReadsClean site.cache key found read
    × Ran (opening site (renewed key f moment)) (replies.Stored f.integrity) read new

-- an entry was found
abbrev pub is_found : Option Found → Bool
is_found None = false
is_found (Some f) = true

module _ {S C N : Type 0} (log : S → Option (List LogItem)) (moments : C → Option (List ℕ)) where
  -- the log gained these calls; the clock was asked for the moment, if an entry was found
  pub record Touches (cache key : List ℕ) (touched : Bool) (old new : Env S C N) : Type 0 where
    pub found : Option Found
    pub which : touched ≡ is_found found
    pub moment : ℕ
    pub asked : MatchOption found (new.clock ≡ old.clock)
        (λ f. AsksMoment moments old.clock new.clock moment)
    pub calls : TouchesKey (site_of cache old.base 0) key found moment
        (log old.store) (log new.store)

-- the lookup was refused, or the check of the bucket was, or the entry
abbrev pub StopsTouching :
    Site → List ℕ → Error → Option (List LogItem) → Option (List LogItem) → Type 0
StopsTouching site key e old new =
    Ran (opening site (commands.Find key)) (replies.Refused (without_message e)) old new
    ⊎ ((f : Found) × (found : Option (List LogItem))
    × Ran (opening site (commands.Find key)) (replies.LookedUp (Some f)) old found
    × (StopsChecking site.cache key e found new
    ⊎ ((moment : ℕ) × (read : Option (List LogItem)) × ReadsClean site.cache key found read
    × Ran (opening site (renewed key f moment)) (replies.Refused (without_message e)) read new)))
