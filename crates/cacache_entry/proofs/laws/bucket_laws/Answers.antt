use Rattle.cacache_entry.proofs.{Lookups.{empty_holds_nothing, lines_append, torn_texts_read_as_nothing, torn_lines_add_nothing, torn_lines_hurt_no_other}, Pieces.{entries_split}}
use Rattle.cacache_entry.proofs.laws.bucket_laws.Goals as goal

pub returns-clause-empty : goal.returns-clause-empty
returns-clause-empty c = empty_holds_nothing

pub returns-clause-split : goal.returns-clause-split
returns-clause-split c = entries_split

pub returns-clause-appends : goal.returns-clause-appends
returns-clause-appends c = lines_append

pub returns-clause-torn_text : goal.returns-clause-torn_text
returns-clause-torn_text c = torn_texts_read_as_nothing

pub returns-clause-torn : goal.returns-clause-torn
returns-clause-torn c = torn_lines_add_nothing

pub returns-clause-hurts_no_other : goal.returns-clause-hurts_no_other
returns-clause-hurts_no_other c = torn_lines_hurt_no_other
