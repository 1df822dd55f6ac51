use Rattle.std.{proofs.Common.{◌∙◌, ap, sym}, specs.Prelude.{is_some}}
use Rattle.cacache_keep.proofs.Weights.{noted}
use Rattle.cacache_keep.proofs.weighing.note.Goals as goal

pub returns : goal.returns
returns c = noted c.args.seen.now c.insert.new.self c.args.path tt c.is_none.result (sym (ap is_some c.in_ok-old.ensures.old) ∙ c.is_none.ensures) c.in_ok-old.ensures.updates
