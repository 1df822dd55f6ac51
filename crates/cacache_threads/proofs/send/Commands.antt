-- Commands and replies may cross threads.
use denote.Param.Send.{IsSend, IsSync, sendable}
use Rattle.std.proofs.Crossing.{crosses}
use Rattle.cacache_calls.specs.contracts.command.Command as Command
use Rattle.cacache_calls.specs.contracts.command.Delete as Delete
use Rattle.cacache_calls.specs.contracts.command.Export as Export
use Rattle.cacache_calls.specs.contracts.command.Insert as Insert
use Rattle.cacache_calls.specs.contracts.command.Link as Link
use Rattle.cacache_calls.specs.contracts.command.Options as Options
use Rattle.cacache_calls.specs.contracts.command.Put as Put
use Rattle.cacache_calls.specs.contracts.command.Source as Source
use Rattle.cacache_calls.specs.contracts.data.Json as Json
use Rattle.cacache_calls.specs.contracts.reply.Found as Found
use Rattle.cacache_calls.specs.contracts.reply.Items as Items
use Rattle.cacache_calls.specs.contracts.reply.Reply as Reply
use Rattle.cacache_threads.proofs.send.Values.{crosses_core, Metadata-send, Metadata-sync, Value-send, Value-sync}

pub Json-send : IsSend (Json.the_field).row
Json-send = search (Value-send, crosses_core, crosses, sendable) depth 30 fits 20000

pub Json-sync : IsSync (Json.the_field).row
Json-sync = search (Value-sync, crosses_core, crosses, sendable) depth 30 fits 20000

pub Options-send : IsSend (Options.the_field).row
Options-send = search (Json-send, crosses_core, crosses, sendable) depth 30 fits 20000

pub Options-sync : IsSync (Options.the_field).row
Options-sync = search (Json-sync, crosses_core, crosses, sendable) depth 30 fits 20000

pub Put-send : IsSend (Put.the_field).row
Put-send = search (Options-send, crosses_core, crosses, sendable) depth 30 fits 20000

pub Put-sync : IsSync (Put.the_field).row
Put-sync = search (Options-sync, crosses_core, crosses, sendable) depth 30 fits 20000

pub Link-send : IsSend (Link.the_field).row
Link-send = search (Options-send, crosses_core, crosses, sendable) depth 30 fits 20000

pub Link-sync : IsSync (Link.the_field).row
Link-sync = search (Options-sync, crosses_core, crosses, sendable) depth 30 fits 20000

pub Insert-send : IsSend (Insert.the_field).row
Insert-send = search (Options-send, crosses_core, crosses, sendable) depth 30 fits 20000

pub Insert-sync : IsSync (Insert.the_field).row
Insert-sync = search (Options-sync, crosses_core, crosses, sendable) depth 30 fits 20000

pub Delete-send : IsSend (Delete.the_field).row
Delete-send = search (crosses_core, crosses, sendable) depth 30 fits 20000

pub Delete-sync : IsSync (Delete.the_field).row
Delete-sync = search (crosses_core, crosses, sendable) depth 30 fits 20000

pub Source-send : IsSend (Source.the_field).row
Source-send = search (crosses_core, crosses, sendable) depth 30 fits 20000

pub Source-sync : IsSync (Source.the_field).row
Source-sync = search (crosses_core, crosses, sendable) depth 30 fits 20000

pub Export-send : IsSend (Export.the_field).row
Export-send = search (crosses_core, crosses, sendable) depth 30 fits 20000

pub Export-sync : IsSync (Export.the_field).row
Export-sync = search (crosses_core, crosses, sendable) depth 30 fits 20000

pub Command-send : IsSend (Command.the_field).row
Command-send = search (Put-send, Link-send, Insert-send, Delete-send, Source-send, Export-send, crosses_core, crosses, sendable) depth 30 fits 20000

pub Command-sync : IsSync (Command.the_field).row
Command-sync = search (Put-sync, Link-sync, Insert-sync, Delete-sync, Source-sync, Export-sync, crosses_core, crosses, sendable) depth 30 fits 20000

pub Found-send : IsSend (Found.the_field).row
Found-send = search (Metadata-send, crosses_core, crosses, sendable) depth 30 fits 20000

pub Found-sync : IsSync (Found.the_field).row
Found-sync = search (Metadata-sync, crosses_core, crosses, sendable) depth 30 fits 20000

pub Items-send : IsSend (Items.the_field).row
Items-send = search (Found-send, crosses_core, crosses, sendable) depth 30 fits 20000

pub Items-sync : IsSync (Items.the_field).row
Items-sync = search (Found-sync, crosses_core, crosses, sendable) depth 30 fits 20000

pub Reply-send : IsSend (Reply.the_field).row
Reply-send = search (Found-send, Items-send, crosses_core, crosses, sendable) depth 30 fits 20000

pub Reply-sync : IsSync (Reply.the_field).row
Reply-sync = search (Found-sync, Items-sync, crosses_core, crosses, sendable) depth 30 fits 20000
