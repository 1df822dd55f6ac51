-- What commands and replies say; JSON values count by their compact texts.
use Rattle.std.specs.Prelude.{Result, Ok, Err, map, option_map, if◌then◌else◌}
use Rattle.serde_json.specs.{Data.{Data, null, string}, Written.{has_float, compact_text}}
use Rattle.cacache_core.specs.declared.errors.Error.{Error}
use Rattle.cacache_entry.specs.Bucket.{Found}
use Rattle.cacache_calls.specs.declared.{command.{Options.{Options}, Put.{Put}, Link.{Link}, Insert.{Insert}, Command.{Command}}, reply.Reply.{Reply}}
use Rattle.cacache_calls.specs.declared.command.Command.TheVariants as commands
use Rattle.cacache_calls.specs.declared.reply.Reply.TheVariants as replies

-- a JSON value as its compact text; all with a number that isn't whole in 64 bits count as one
abbrev pub said_json : Data → Data
said_json d = if has_float d then null else string (compact_text d)

-- ---- commands

abbrev pub said_options : Options → Options
said_options o = record o { metadata = said_json o.metadata }

abbrev pub said_put : Put → Put
said_put p = record p { options = said_options p.options }

abbrev pub said_link : Link → Link
said_link l = record l { options = said_options l.options }

abbrev pub said_insert : Insert → Insert
said_insert i = record i { options = said_options i.options }

-- a command, its JSON value as a text
abbrev pub said_command : Command → Command
said_command (commands.Put p) = commands.Put (said_put p)
said_command (commands.Link l) = commands.Link (said_link l)
said_command (commands.Insert i) = commands.Insert (said_insert i)
said_command command = command

-- ---- replies

abbrev pub said_found : Found → Found
said_found f = record f { metadata = said_json f.metadata }

abbrev pub said_item : Result Found Error → Result Found Error
said_item (Ok f) = Ok (said_found f)
said_item (Err e) = Err e

-- a reply, its JSON values as texts
abbrev pub said_reply : Reply → Reply
said_reply (replies.LookedUp f) = replies.LookedUp (option_map said_found f)
said_reply (replies.Listed items) = replies.Listed (map said_item items)
said_reply reply = reply
