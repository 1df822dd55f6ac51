-- What a log of calls says about a note.
use Rattle.std.specs.Prelude.{List, [], Option, None, Some}
use Rattle.cacache_system.specs.{declared.call.{SystemCall.{SystemCall}, CallResult.{CallResult}, CallItem.{CallItem}}, Seen.{item}}
use Rattle.cacache_system.specs.declared.call.SystemCall.TheVariants as asks
use Rattle.cacache_system.specs.declared.call.CallResult.TheVariants as says
use Rattle.cacache_system_model.specs.declared.memory.log.{Asked.{Asked}, Said.{Said}, Note.{Note}, LoggedCalls.{LoggedCalls}, Log.{Log}}
use Rattle.cacache_system_model.specs.declared.memory.log.Asked.TheVariants as ask
use Rattle.cacache_system_model.specs.declared.memory.log.Said.TheVariants as say

-- the call
abbrev pub asked : Asked → SystemCall
asked (ask.OpenToRead path) = asks.OpenToRead path.now
asked (ask.CreateNew path mode) = asks.CreateNew path.now mode
asked (ask.OpenToAppend path) = asks.OpenToAppend path.now
asked (ask.OpenFolder path) = asks.OpenFolder path.now
asked (ask.Read file size) = asks.Read file size
asked (ask.ReadRest file) = asks.ReadRest file
asked (ask.Write file bytes) = asks.Write file bytes.now
asked (ask.ReadNames folder size) = asks.ReadNames folder size
asked (ask.Sync file) = asks.Sync file
asked (ask.SetOwner file owner group) = asks.SetOwner file owner group
asked (ask.SetMode file mode) = asks.SetMode file mode
asked (ask.StatFile file) = asks.StatFile file
asked (ask.Stat path) = asks.Stat path.now
asked (ask.StatLink path) = asks.StatLink path.now
asked (ask.Rename from to) = asks.Rename from.now to.now
asked (ask.MakeFolder path) = asks.MakeFolder path.now
asked (ask.RemoveFile path) = asks.RemoveFile path.now
asked (ask.RemoveFolder path) = asks.RemoveFolder path.now
asked (ask.Symlink target path) = asks.Symlink target.now path.now
asked (ask.HardLink from to) = asks.HardLink from.now to.now
asked (ask.CopyFile from to) = asks.CopyFile from.now to.now
asked (ask.RealPath path) = asks.RealPath path.now

-- what was said
abbrev pub told : Said → CallResult
told say.Done = says.Done
told (say.Opened file) = says.Opened file
told (say.Count n) = says.Count n
told (say.Bytes bytes) = says.Bytes bytes.now
told (say.Info info) = says.Info info
told (say.Failed why) = says.Failed why

-- the item of a note
abbrev pub noted : Note → CallItem
noted note = item (asked note.call) (told note.said)

-- the calls of a log that has some, and none of any other
abbrev pub calls_in : Option LoggedCalls → List CallItem
calls_in None = []
calls_in (Some calls) = calls.items

-- all calls so far, oldest first
abbrev pub items_of : Log → List CallItem
items_of log = calls_in log.calls
