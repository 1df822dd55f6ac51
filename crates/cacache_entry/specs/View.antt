-- Which entries the program's values stand for, and what a refusal says.
use Rattle.std.specs.Prelude.{◌≡◌, ℕ, List, ◌++◌, codes, Some, option_map, string_bytes}
use Rattle.serde_json.specs.View.{view}
use Rattle.cacache_core.specs.declared.errors.Error.{Error, TheVariants.{SerdeError, OutOfMemory}}
use Rattle.cacache_entry.specs.{Entry.{Entry}, FittingEntries.{cause_of}, Bucket.{Found}, declared.metadata.{SerializableMetadata.{SerializableMetadata}, Metadata.{Metadata}}}

-- the entry that a value stands for
abbrev pub entry_view : SerializableMetadata → Entry
entry_view e = record {
  key = string_bytes e.key;
  integrity = option_map string_bytes e.integrity;
  time = e.time;
  size = e.size;
  metadata = view e.metadata;
  raw_metadata = option_map (λ v. v.items) e.raw_metadata;
}

-- the found entry that a value stands for
abbrev pub found_view : Metadata → Found
found_view m = record {
  key = string_bytes m.key;
  integrity = m.integrity;
  time = m.time;
  size = m.size;
  metadata = view m.metadata;
  raw_metadata = option_map (λ v. v.items) m.raw_metadata;
}

-- the text of a refusal, which names the key
abbrev pub refusal_text : List ℕ → List ℕ
refusal_text key = codes "Failed to serialize entry with key `" ++ key ++ codes "`"

-- the refusal has the cause against the entry and the text, or memory ran out
abbrev pub IsRefusal : Entry → Error → Type 0
IsRefusal e (SerdeError cause text) = (cause_of e ≡ Some cause) × (text ≡ refusal_text e.key)
IsRefusal e error = error ≡ OutOfMemory
