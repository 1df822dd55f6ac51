use denote.Param.Send.{sendable}
use Rattle.cacache_threads.proofs.send.{Commands.{Command-send, Command-sync, Reply-send, Reply-sync}, Values.{Value-send, Value-sync}}
use Rattle.cacache_threads.proofs.send.send_laws.Goals as goal

pub returns-clause-sent_value : goal.returns-clause-sent_value
returns-clause-sent_value c = search (Value-send, sendable)

pub returns-clause-shared_value : goal.returns-clause-shared_value
returns-clause-shared_value c = search (Value-sync, sendable)

pub returns-clause-sent_command : goal.returns-clause-sent_command
returns-clause-sent_command c = search (Command-send, sendable)

pub returns-clause-shared_command : goal.returns-clause-shared_command
returns-clause-shared_command c = search (Command-sync, sendable)

pub returns-clause-sent_reply : goal.returns-clause-sent_reply
returns-clause-sent_reply c = search (Reply-send, sendable)

pub returns-clause-shared_reply : goal.returns-clause-shared_reply
returns-clause-shared_reply c = search (Reply-sync, sendable)
