use Rattle.cacache_calls.proofs.Formed.{of_link}
use Rattle.cacache_calls.proofs.forming.form_link.Goals as goal

pub returns-in-Some : goal.returns-in-Some
returns-in-Some c = λ site. of_link site c.args.link.now c.in-Some.key c.in-Some.is c.form.ensures
