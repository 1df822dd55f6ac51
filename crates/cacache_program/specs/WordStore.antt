-- The word `store`.
use Rattle.std.specs.{Prelude.{◌≡◌, ◌⊎◌, ℕ, List, Option, Some, Result, Ok, Err, IfOk}, Io.KnownBytes.{Appends}}
use Rattle.cacache_store.specs.declared.store.plain.PlainTemp.{PlainTemp}
use Rattle.cacache_calls.specs.Steps.{temp_path}
use Rattle.cacache_sync.specs.declared.put.writer.SyncWriter.{SyncWriter}
use Rattle.cacache.specs.{Integrities.{Hash, Sha256, integrity_under}, Stores.{AddsAnswer, LogItem, PlainFile}, Calls.{Env, Error, KeepsRest, Reply, Stored, nothing_said, reply_of}, OpenHandles.{FailsToOpen, OpensFile, CommitsWriter, OpensKeyed, FailsToMake, IsSameWriter, Makes, Takes, TriesToRemove}}
use Rattle.cacache_program.specs.WordWrite.{AreAllOf, TellsPut}

-- the writer went on: it and its file took these bytes more, and the rest of it stayed
pub record WentOn {T : Type 0} (temp : T → PlainTemp) (old : SyncWriter T) (bytes : List ℕ)
    (new : SyncWriter T) : Type 0 where
  pub takes : Takes old.writer new.writer bytes
  pub appends : Appends (temp old.writer.file).bytes (temp new.writer.file).bytes bytes
  pub same : IsSameWriter temp old.writer new.writer
  pub said : new ≡ record old { writer = new.writer }

-- the log and the numbers are those of the environment, before and after
module _ {S C N : Type 0} (log : S → Option (List LogItem)) (numbers : N → Option (List ℕ)) where
  -- a writer wasn't opened, or it was given up: then its file was to be removed
  abbrev pub GivesUpWriter : List ℕ → Error → Env S C N → Env S C N → Type 0
  GivesUpWriter cache e old new =
      (number : ℕ) × AddsAnswer (numbers old.names) (numbers new.names) number
      × (new.clock ≡ old.clock) × (new.base ≡ old.base)
      × (FailsToMake cache number e (log old.store) (log new.store)
      ⊎ ((made : PlainTemp) × (mid : Option (List LogItem))
      × Makes cache number made (log old.store) mid
      × TriesToRemove (temp_path cache number) e mid (log new.store)))

  -- the file at the path wasn't opened; or it was, and nothing was stored of it
  abbrev pub GivesUp : List ℕ → List ℕ → Error → Env S C N → Env S C N → Type 0
  GivesUp cache path e old new =
      (FailsToOpen path e (log old.store) (log new.store) × KeepsRest old new)
      ⊎ ((file : PlainFile) × (mid : Env S C N)
      × OpensFile path file (log old.store) (log mid.store) × KeepsRest old mid
      × GivesUpWriter cache e mid new)

  module _ {T : Type 0} (temp : T → PlainTemp) (moments : C → Option (List ℕ)) where
    -- a writer for the key was opened, took these bytes, and was committed with this reply
    abbrev pub CommitsBytes :
        List ℕ → List ℕ → List ℕ → Reply → Env S C N → Env S C N → Type 0
    CommitsBytes cache key bytes reply old new =
        (first last : SyncWriter T) × (mid : Env S C N)
        × OpensKeyed temp log numbers old mid cache (Some key) nothing_said (Ok first)
        × WentOn temp first bytes last
        × CommitsWriter temp log moments mid new last bytes reply
        × (new.names ≡ mid.names) × (new.base ≡ mid.base)

    -- the file at the path was opened, and these are all its bytes, which were committed so
    abbrev pub CommitsFile :
        List ℕ → List ℕ → List ℕ → List ℕ → Reply → Env S C N → Env S C N → Type 0
    CommitsFile cache key path bytes reply old new =
        (file : PlainFile) × (mid : Env S C N)
        × OpensFile path file (log old.store) (log mid.store) × KeepsRest old mid
        × AreAllOf file.bytes bytes × CommitsBytes cache key bytes reply mid new

    -- so it was, with their integrity if it didn't fail; or it was given up with an error
    abbrev pub EndsFile :
        List ℕ → List ℕ → List ℕ → Result (List Hash) Error → Env S C N → Env S C N → Type 0
    EndsFile cache key path r old new =
        ((e : Error) × (r ≡ Err e) × GivesUp cache path e old new)
        ⊎ ((bytes : List ℕ) × CommitsFile cache key path bytes (reply_of Stored r) old new
        × IfOk r (λ i. i ≡ integrity_under Sha256 bytes))

    -- the file was stored, and the reply was printed; or it was given up, with status 1
    abbrev pub StoresFile :
        List ℕ → List ℕ → List ℕ → Env S C N → Env S C N
        → Option (List ℕ) → Option (List ℕ) → ℕ → Type 0
    StoresFile cache key path old new before after status =
        ((e : Error) × GivesUp cache path e old new × (status ≡ 1) × (after ≡ before))
        ⊎ ((bytes : List ℕ) × (reply : Reply) × CommitsFile cache key path bytes reply old new
        × TellsPut Sha256 bytes reply before after status)
