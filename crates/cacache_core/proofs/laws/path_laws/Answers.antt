use Rattle.cacache_core.proofs.{JoinedNames.{joined_texts_name}, PathLemmas.{keys_have_digests, none_begins, kinds_are_apart}, PathTexts.{joined_texts_spell, paths_differ}, ProperNames.{names_are_proper}}
use Rattle.cacache_core.proofs.laws.path_laws.Goals as goal

pub returns-clause-digests : goal.returns-clause-digests
returns-clause-digests c = keys_have_digests

pub returns-clause-differ : goal.returns-clause-differ
returns-clause-differ c = paths_differ

pub returns-clause-none_begins : goal.returns-clause-none_begins
returns-clause-none_begins c = none_begins

pub returns-clause-apart : goal.returns-clause-apart
returns-clause-apart c = kinds_are_apart

pub returns-clause-proper : goal.returns-clause-proper
returns-clause-proper c = names_are_proper

pub returns-clause-texts : goal.returns-clause-texts
returns-clause-texts c = joined_texts_name

pub returns-clause-spelled : goal.returns-clause-spelled
returns-clause-spelled c = joined_texts_spell
