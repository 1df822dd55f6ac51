-- What the options of a writer say, what a writing call puts, and open writers.
use Rattle.std.specs.Prelude.{ℕ, Bool, false, List, Option, None, Some, ◌≡◌, Result, Ok, Err}
use Rattle.serde_json.specs.Data.{Data, null}
use Rattle.cacache_core.specs.declared.{integrity.{algorithm.Algorithm.{Algorithm, TheVariants.{Sha256}}, digest.Hash.{Hash}}, errors.Error.{Error}}
use Rattle.cacache_calls.specs.{declared.{command.{Options.{Options}, Put.{Put}, Insert.{Insert}}, reply.Reply.{Reply}, carried.Commit.{Commit}}, Common.{blank}}
use Rattle.cacache_store.specs.{declared.{env.Env.{Env}, store.{log.LogItem.{LogItem}, plain.PlainTemp.{PlainTemp}}}, Outside.{AddsAnswer}}
use Rattle.cacache_sync.specs.{content.OpenWrites.{IsFresh, Makes, FailsToMake, EndsWriter, content_commit}, declared.put.writer.SyncWriter.{SyncWriter}}
use Rattle.cacache_jobs.specs.Environment.{MomentOf}

-- what was said of a content and of its entry
pub record Said : Type 0 where
  pub algorithm : Algorithm
  pub size : Option ℕ
  pub integrity : Option (List Hash)
  pub metadata : Data
  pub raw_metadata : Option (List ℕ)
  pub durable : Bool
  -- the entry's time; the clock is asked if none was set
  pub time : Option ℕ

-- what blank options say
abbrev pub nothing_said : Said
nothing_said = record {
  algorithm = Sha256;
  size = None;
  integrity = None;
  metadata = null;
  raw_metadata = None;
  durable = false;
  time = None;
}

-- what options say if the algorithm alone was set
abbrev pub saying : Algorithm → Said
saying a = record nothing_said { algorithm = a }

-- the same as the options of a command, which has its moment next to them
abbrev pub options_of : Said → Options
options_of s = record {
  algorithm = s.algorithm;
  size = s.size;
  integrity = s.integrity;
  metadata = s.metadata;
  raw_metadata = s.raw_metadata;
  durable = s.durable;
}

-- ---- what a writing call puts, and what an insertion inserts

-- bytes that are put under a key, or without one
abbrev pub put_of : Algorithm → Option (List ℕ) → List ℕ → ℕ → Put
put_of a key bytes moment = record { key = key; «data» = bytes; moment = moment; options = blank a }

-- under a key
abbrev pub keyed_put : Algorithm → List ℕ → List ℕ → ℕ → Put
keyed_put a key = put_of a (Some key)

-- without a key; the moment has no effect
abbrev pub unkeyed_put : Algorithm → List ℕ → Put
unkeyed_put a bytes = put_of a None bytes 0

-- an entry that is inserted, by what was said of it
abbrev pub insert_of : List ℕ → Said → ℕ → Insert
insert_of key s moment = record { key = key; moment = moment; options = options_of s }

-- ---- open writers: how they are opened, and what their commit does

-- the writer took nothing yet, and commits under this key with what was said
pub record IsNewWriter {T : Type 0} (cache : List ℕ) (number : ℕ) (key : Option (List ℕ)) (s : Said)
    (w : SyncWriter T) : Type 0 where
  pub fresh : IsFresh cache number s.algorithm w.writer
  pub key_is : w.key ≡ key
  pub time_is : w.time ≡ s.time
  pub options_are : w.options ≡ options_of s

-- the commit of a writer that took these bytes
abbrev pub writer_commit : {T : Type 0} → SyncWriter T → List ℕ → ℕ → Commit
writer_commit w bytes moment = content_commit w.writer bytes w.key moment w.options

-- a writer, or why there is none, with the number of its file
abbrev pub OpensAt :
    {T : Type 0} → (T → PlainTemp) → List ℕ → Option (List ℕ) → Said → Result (SyncWriter T) Error
    → Option (List LogItem) → Option (List LogItem) → ℕ → Type 0
OpensAt temp cache key s (Ok w) old new number =
    IsNewWriter cache number key s w × Makes cache number (temp w.writer.file) old new
OpensAt temp cache key s (Err e) old new number = FailsToMake cache number e old new

module _ {T S C N : Type 0} (temp : T → PlainTemp) (log : S → Option (List LogItem)) where
  -- the same with a number that was asked for once; the clock and the base folder stayed
  abbrev pub OpensKeyed :
      (N → Option (List ℕ)) → Env S C N → Env S C N → List ℕ → Option (List ℕ) → Said
      → Result (SyncWriter T) Error → Type 0
  OpensKeyed numbers old new cache key s r =
      (number : ℕ) × AddsAnswer (numbers old.names) (numbers new.names) number
      × OpensAt temp cache key s r (log old.store) (log new.store) number
      × (new.clock ≡ old.clock) × (new.base ≡ old.base)

  -- a writer that took these bytes was committed with its moment
  abbrev pub CommitsWriter :
      (C → Option (List ℕ)) → Env S C N → Env S C N → SyncWriter T → List ℕ → Reply → Type 0
  CommitsWriter moments old new w bytes reply =
      (moment : ℕ) × MomentOf moments w.key w.time old.clock new.clock moment
      × EndsWriter temp w.writer (writer_commit w bytes moment) reply (log old.store) (log new.store)
