use Rattle.cacache_laws.proofs.trees.{Logged.{log_rooted}, Looks.{answers_agree, looks_answer}}
use Rattle.cacache_laws.proofs.trees.laws.answer_laws.Goals as goal

pub returns : goal.returns
returns c = record { rooted = log_rooted; calls = looks_answer; agree = answers_agree }
