-- What may cross threads: texts, errors, JSON values, steps and answers, a disk, and what the index says of a key.
use Rattle.std.proofs.{Crossing.{crosses}, MapsCrossing.{BTreeMap-send}}
use Rattle.cacache_core.specs.contracts.bytes.Bytes as Bytes
use Rattle.cacache_core.specs.contracts.errors.Error as Error
use Rattle.cacache_core.specs.contracts.integrity.whole.Integrity as Integrity
use Rattle.cacache_core.specs.contracts.text.Text as Text
use Rattle.std.proofs.Crossing as heap
use Rattle.cacache_disk.specs.contracts.disk.Disk as Disk
use Rattle.std.proofs.MapsCrossing as maps
use Rattle.serde_json.specs.contracts.value.Value as Value
use Rattle.serde_json.proofs.value.Value.TheLaws.TheKnot as value
use Rattle.cacache_entry.specs.contracts.metadata.Metadata as Metadata
use Rattle.cacache_store.specs.contracts.store.answer.Answer as Answer
use Rattle.cacache_store.specs.contracts.store.answer.Listing as Listing
use Rattle.cacache_store.specs.contracts.store.plain.PlainFile as PlainFile
use Rattle.cacache_store.specs.contracts.store.plain.PlainTemp as PlainTemp
use Rattle.cacache_store.specs.contracts.store.step.Step as Step
use denote.Param.Send.{IsSend, IsSync, sendable}
use denote.RattleType.{RattleType}

pub Text-send : IsSend (Text.the_field).row
Text-send = search (crosses, sendable) depth 30

pub Text-sync : IsSync (Text.the_field).row
Text-sync = search (crosses, sendable) depth 30

pub Bytes-send : IsSend (Bytes.the_field).row
Bytes-send = search (crosses, sendable) depth 30

pub Bytes-sync : IsSync (Bytes.the_field).row
Bytes-sync = search (crosses, sendable) depth 30

pub Integrity-send : IsSend (Integrity.the_field).row
Integrity-send = search (crosses, sendable) depth 30

pub Integrity-sync : IsSync (Integrity.the_field).row
Integrity-sync = search (crosses, sendable) depth 30

pub Error-send : IsSend (Error.the_field).row
Error-send = search (Text-send, Integrity-send, crosses, sendable) depth 30

pub Error-sync : IsSync (Error.the_field).row
Error-sync = search (Text-sync, Integrity-sync, crosses, sendable) depth 30

pub ruleset crosses_core = (Text-send, Text-sync, Bytes-send, Bytes-sync, Integrity-send, Integrity-sync, Error-send, Error-sync)

-- ---- a disk in memory may cross threads

pub Disk-send : IsSend (Disk.the_field).row
Disk-send = search (BTreeMap-send, crosses_core, heap.crosses, sendable) depth 30 fits 20000

-- ---- JSON values may cross threads

pub Value-send : IsSend (Value.the_field).row
Value-send = search (value.crosses, maps.crosses, heap.crosses, sendable) depth 30

pub Value-sync : IsSync (Value.the_field).row
Value-sync = search (value.crosses, maps.crosses, heap.crosses, sendable) depth 30

-- ---- what the index says of a key may cross threads

pub Metadata-send : IsSend (Metadata.the_field).row
Metadata-send = search (Value-send, crosses_core, crosses, sendable) depth 30

pub Metadata-sync : IsSync (Metadata.the_field).row
Metadata-sync = search (Value-sync, crosses_core, crosses, sendable) depth 30

-- ---- steps and answers of plain files may cross threads

pub PlainFile-send : IsSend (PlainFile.the_field).row
PlainFile-send = search (crosses_core, crosses, sendable) depth 30

pub PlainTemp-send : IsSend (PlainTemp.the_field).row
PlainTemp-send = search (crosses_core, crosses, sendable) depth 30

pub Listing-send : IsSend (Listing.the_field).row
Listing-send = search (crosses_core, crosses, sendable) depth 30

module _ (F T : RattleType) where
  pub Step-send : IsSend F → IsSend T → IsSend (Step.the_field F T).row
  Step-send f t = search (f, t, crosses_core, crosses, sendable) depth 30 fits 20000

  pub Answer-send : IsSend F → IsSend T → IsSend (Answer.the_field F T).row
  Answer-send f t = search (f, t, Step-send, Listing-send, crosses_core, crosses, sendable) depth 30 fits 20000
