use Rattle.std.proofs.{Common.{rules, ◌<◌, ◌≤◌, ◌^◌, arith}, lemmas.Str.{IsUtf8-string_bytes}}
use Rattle.serde_json.specs.{Data.{depth}, View.{view}}
use Rattle.cacache_entry.specs.{FittingEntries.{AreBytes, IsJson, IsEntry}, View.{entry_view}, declared.metadata.SerializableMetadata.{SerializableMetadata}}
use Rattle.cacache_entry.proofs.{PlainEntries.{utf8_if_any}, EntryCauses.{is_early, has_no_float, flat_metadata, Fits-no_cause}}
use Rattle.cacache_entry.proofs.write.fitting_line.Goals as goal

is_entry : (e : SerializableMetadata) → e.size < 2 ^ 64 → IsJson (view e.metadata) → AreBytes (entry_view e).raw_metadata → IsEntry (entry_view e)
is_entry e size json bytes = record {
  key = IsUtf8-string_bytes e.key;
  integrity = utf8_if_any e.integrity;
  size = size;
  metadata = json;
  raw_metadata = bytes;
}

pub overflow_cast-entry : goal.overflow_cast-entry
overflow_cast-entry c = let early : c.args.entry.now.time < 2 ^ 64 = is_early (entry_view c.args.entry.now) c.requires in search rules

pub push_text-requires-clause-whole : goal.push_text-requires-clause-whole
push_text-requires-clause-whole c = has_no_float (entry_view c.args.entry.now) c.requires

pub push_text-requires-clause-flat : goal.push_text-requires-clause-flat
push_text-requires-clause-flat c = let flat : depth (view c.args.entry.now.metadata) ≤ 126 = flat_metadata (entry_view c.args.entry.now) c.requires in omega arith

pub returns-clause-entry : goal.returns-clause-entry
returns-clause-entry c = let h = c.in_ok-push_text.ensures in is_entry c.args.entry.now h.size h.metadata h.bytes

pub returns-clause-fits : goal.returns-clause-fits
returns-clause-fits c = let h = c.in_ok-push_text.ensures in Fits-no_cause _ (is_entry c.args.entry.now h.size h.metadata h.bytes) c.requires
