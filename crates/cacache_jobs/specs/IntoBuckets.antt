-- Entries by their parts, and how they are written into their buckets.
use Rattle.std.specs.Prelude.{ℕ, List, Option}
use Rattle.serde_json.specs.Data.{Data}
use Rattle.cacache_entry.specs.Entry.{Entry}
use Rattle.cacache_calls.specs.{Steps.{bucket_folder}, State.{State, Insertion, doing, appending, make_folder}}

-- the entry of a key, from the text of its integrity, its size, time, metadata and raw metadata
abbrev pub entry_with : List ℕ → Option (List ℕ) → ℕ → ℕ → Data → Option (List ℕ) → Entry
entry_with key integrity size moment metadata raw_metadata = record {
  key = key;
  integrity = integrity;
  time = moment;
  size = size;
  metadata = metadata;
  raw_metadata = raw_metadata;
}

-- an entry that can be written: the call makes the bucket's folder, then appends the line
abbrev pub into_bucket : Insertion → State
into_bucket i = doing (make_folder (bucket_folder i.cache i.entry.key)) (appending i)
