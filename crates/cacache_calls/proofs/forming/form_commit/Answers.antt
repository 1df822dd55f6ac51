use Rattle.cacache_calls.proofs.Formed.{of_commit}
use Rattle.cacache_calls.proofs.forming.form_commit.Goals as goal

pub returns-in-Some : goal.returns-in-Some
returns-in-Some c = of_commit c.args.commit.now c.in-Some.key c.in-Some.is c.word.ensures c.form.ensures
