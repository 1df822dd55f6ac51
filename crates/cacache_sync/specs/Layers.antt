-- What is asked of one cache and, if that lacks it, of another one, or is fetched and put.
use Rattle.std.specs.Prelude.{◌≡◌, ℕ, Bool, true, false, MatchBool, List, Vec, Option, None, Result, Ok, Err, IfOk, IsOk}
use Rattle.cacache_core.specs.{declared.{errors.{Error.{Error, TheVariants.{EntryNotFound, IoError}}, Fault.TheVariants.{NotFound}}, integrity.{digest.Hash.{Hash}, algorithm.Algorithm.TheVariants.{Sha256}}}, Integrity.{Meets}}
use Rattle.cacache_store.specs.declared.{env.Env.{Env}, store.log.LogItem.{LogItem}}
use Rattle.cacache_entry.specs.declared.metadata.Metadata.{Metadata}
use Rattle.cacache_calls.specs.{declared.reply.Reply.TheVariants.{Exists, Refused, Stored}, Replies.{looked_up}, Runs.{reply_of, without_message}}
use Rattle.cacache_jobs.specs.{Environment.{Calls, RunsPut}, ReadFirst.{ReadsFound}}
use Rattle.cacache_sync.specs.{declared.layers.Layered.{Layered}, Lookups.{LooksUp}, Reads.{AsksContent, bytes_read, lack_in}, put.KeyedWriters.{keyed_put}}
use Rattle.cacache_calls.specs.declared.command.Command.TheVariants as commands

-- ---- what a cache lacks, by its answer

abbrev pub lacks_entry : {A : Type 0} → Result A Error → Bool
lacks_entry (Err (EntryNotFound cache key)) = true
lacks_entry r = false

abbrev pub lacks_content : {A : Type 0} → Result A Error → Bool
lacks_content (Err (IoError NotFound message)) = true
lacks_content r = false

abbrev pub finds_none : {A : Type 0} → Result (Option A) Error → Bool
finds_none (Ok None) = true
finds_none r = false

abbrev pub says_no : Result Bool Error → Bool
says_no (Ok false) = true
says_no r = false

-- ---- layers

module _ {S C N R : Type 0} (l : Layered) (asked : List ℕ → Env S C N → Env S C N → R → Type 0) (lacks : R → Bool) where
  -- the upper cache was asked; if it lacks this, so was the lower one, whose answer is the result
  abbrev pub AsksLayers : Env S C N → Env S C N → R → Type 0
  AsksLayers old new r =
      (mid : Env S C N) × (first : R) × asked l.upper.now old mid first
      × MatchBool (lacks first) (asked l.lower.now mid new r) ((new ≡ mid) × (r ≡ first))

module _ {S C N : Type 0} (log : S → Option (List LogItem)) where
  -- the key was read in this cache, and verified
  abbrev pub ReadsKey : {A : Type 0} → List ℕ → List ℕ → Env S C N → Env S C N → Result (Vec ℕ A) Error → Type 0
  ReadsKey key cache old new r =
      Calls log old new cache (commands.Get key) (reply_of bytes_read r)
      × IfOk r (λ bytes. ReadsFound cache key bytes.items (log old.store) (log new.store))

  -- the content was read in this cache, and verified
  abbrev pub ReadsHash : {A : Type 0} → List Hash → List ℕ → Env S C N → Env S C N → Result (Vec ℕ A) Error → Type 0
  ReadsHash i cache old new r =
      Calls log old new cache (commands.GetHash i) (reply_of bytes_read r)
      × IfOk r (λ bytes. Meets i bytes.items)

  -- the key was looked up in this cache
  abbrev pub FindsKey : List ℕ → List ℕ → Env S C N → Env S C N → Result (Option Metadata) Error → Type 0
  FindsKey key cache old new r =
      Calls log old new cache (commands.Find key) (reply_of looked_up r)
      × LooksUp cache key (log old.store) (log new.store) r

  -- the content was asked for in this cache
  abbrev pub AsksHash : List Hash → List ℕ → Env S C N → Env S C N → Result Bool Error → Type 0
  AsksHash i cache old new r =
      Calls log old new cache (commands.Exists i) (reply_of Exists r)
      × AsksContent cache i (log old.store) (log new.store) r

-- ---- the bytes of a key, which are fetched and put if the cache lacks them: before and after

-- the bytes, if they were stored
abbrev pub once_stored : {B : Type 0} → B → Result (List Hash) Error → Result B Error
once_stored bytes (Ok i) = Ok bytes
once_stored bytes (Err e) = Err e

-- a read of the key from here on may show that the cache lacks its bytes
abbrev pub MayLack :
    {S C N : Type 0} → (S → Option (List LogItem)) → List ℕ → List ℕ → Env S C N → Type 0
MayLack {S} {C} {N} log cache key old =
    (mid : Env S C N) × (e : Error)
    × Calls log old mid cache (commands.Get key) (Refused (without_message e)) × IsOk (lack_in e)

module _ {S C N A : Type 0} (log : S → Option (List LogItem)) (cache : List ℕ) (moments : C → Option (List ℕ)) (numbers : N → Option (List ℕ)) (key : List ℕ) where
  -- the bytes were put under the key, and are the result if that was Ok
  abbrev pub PutsBytes : Env S C N → Env S C N → Vec ℕ A → Result (Vec ℕ A) Error → Type 0
  PutsBytes old new bytes result =
      (stored : Result (List Hash) Error)
      × RunsPut log moments numbers old new cache (keyed_put Sha256 key bytes.items) (reply_of Stored stored)
      × (result ≡ once_stored bytes stored)

  -- what was fetched was put; or the fetching failed
  abbrev pub PutsFetched :
      Env S C N → Env S C N → Result (Vec ℕ A) Error → Result (Vec ℕ A) Error → Type 0
  PutsFetched old new (Ok bytes) result = PutsBytes old new bytes result
  PutsFetched old new (Err e) result = (new ≡ old) × (result ≡ Err e)

  module _ (fetches : Result (Vec ℕ A) Error → Type 0) where
    -- for a lack that a read showed, bytes were fetched and put; another error is the result
    abbrev pub MakesUp :
        Env S C N → Env S C N → Result (Unit {0}) Error → Result (Vec ℕ A) Error → Type 0
    MakesUp old new (Ok lack) result =
        (fetched : Result (Vec ℕ A) Error) × fetches fetched × PutsFetched old new fetched result
    MakesUp old new (Err e) result = (new ≡ old) × (result ≡ Err e)

    -- the bytes that a verified read gave are the result; if it failed, the lack is made up for
    abbrev pub GoesOnFrom :
        Env S C N → Env S C N → Result (Vec ℕ A) Error → Result (Vec ℕ A) Error → Type 0
    GoesOnFrom old new (Ok bytes) result = (new ≡ old) × (result ≡ Ok bytes)
    GoesOnFrom old new (Err e) result = MakesUp old new (lack_in e) result

    -- the key was read, and then the lack was made up for, if there was one
    abbrev pub GetsOrPuts : Env S C N → Env S C N → Result (Vec ℕ A) Error → Type 0
    GetsOrPuts old new result =
        (mid : Env S C N) × (read : Result (Vec ℕ A) Error)
        × Calls log old mid cache (commands.Get key) (reply_of bytes_read read)
        × IfOk read (λ bytes. ReadsFound cache key bytes.items (log old.store) (log mid.store))
        × GoesOnFrom mid new read result
