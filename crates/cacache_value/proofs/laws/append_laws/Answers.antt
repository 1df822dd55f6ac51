use Rattle.cacache_value.proofs.MadeFolders.{whole_lines_add, torn_lines_add_none, nothing_left_is_nothing}
use Rattle.cacache_value.proofs.laws.append_laws.Goals as goal

pub returns-clause-whole : goal.returns-clause-whole
returns-clause-whole c = whole_lines_add

pub returns-clause-torn : goal.returns-clause-torn
returns-clause-torn c = torn_lines_add_none

pub returns-clause-nothing : goal.returns-clause-nothing
returns-clause-nothing c = nothing_left_is_nothing
