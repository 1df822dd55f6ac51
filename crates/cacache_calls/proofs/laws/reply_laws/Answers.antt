use Rattle.cacache_calls.proofs.{Replies.{finds_shown, gets_shown, reads_shown, exists_shown, gets_meet}, ListReplies.{lists_shown}, Keys.{each_key_once}, EarnedErrors.{io_errors_have_causes}}
use Rattle.cacache_calls.proofs.laws.reply_laws.Goals as goal

pub returns-clause-finds : goal.returns-clause-finds
returns-clause-finds c = finds_shown

pub returns-clause-gets : goal.returns-clause-gets
returns-clause-gets c = gets_shown

pub returns-clause-reads : goal.returns-clause-reads
returns-clause-reads c = reads_shown

pub returns-clause-exists : goal.returns-clause-exists
returns-clause-exists c = exists_shown

pub returns-clause-lists : goal.returns-clause-lists
returns-clause-lists c = lists_shown

pub returns-clause-once : goal.returns-clause-once
returns-clause-once c = each_key_once

pub returns-clause-meets : goal.returns-clause-meets
returns-clause-meets c = gets_meet

pub returns-clause-causes : goal.returns-clause-causes
returns-clause-causes c = io_errors_have_causes
