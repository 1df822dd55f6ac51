use Rattle.cacache_calls.proofs.Formed.{of_insert}
use Rattle.cacache_calls.proofs.forming.form_insert.Goals as goal

pub returns : goal.returns
returns c = λ site. of_insert site c.args.insert.now c.measure.ensures c.form.ensures
