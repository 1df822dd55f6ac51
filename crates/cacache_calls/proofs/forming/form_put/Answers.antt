use Rattle.cacache_calls.{specs.Storing.{put_commit}, proofs.Formed.{of_commit}}
use Rattle.cacache_calls.proofs.forming.form_put.Goals as goal

pub returns-in-Some : goal.returns-in-Some
returns-in-Some c = λ site. of_commit (put_commit site.cache c.args.put.now) c.in-Some.key c.in-Some.is c.count-count.ensures c.form.ensures
