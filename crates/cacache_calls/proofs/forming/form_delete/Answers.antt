use Rattle.cacache_calls.proofs.Formed.{of_delete}
use Rattle.cacache_calls.proofs.forming.form_delete.Goals as goal

pub returns : goal.returns
returns c = λ site. of_delete site c.args.delete.now c.as_str-key.ensures.utf8
