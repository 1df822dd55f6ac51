use Rattle.std.proofs.Common.{◌∙◌, sym, ap, arith, take, drop, ◌+◌, ◌-◌}
use Rattle.cacache_disk.specs.{declared.node.Node.TheVariants.{Folder}, Apply.{make_some}, Plans.{with_file}, Tree.{cut, put}}
use Rattle.cacache_disk.proofs.{PathTexts.{make_there, make_missing, make_none, drop_end}, PutNodes.{cut-put}}
use Rattle.cacache_disk.proofs.nodes.Nodes.+make_from.Goals as goal

pub returns-then-from-len-clause-ok : goal.returns-then-from-len-clause-ok
returns-then-from-len-clause-ok t c =
    rw (drop_end c.args.self.now (take c.args.from c.args.path.now) c.args.path.now c.args.from c.args.most (omega arith)) c.put_last.ensures.ok

pub returns-in-Some-clause-ok : goal.returns-in-Some-clause-ok
returns-in-Some-clause-ok t c =
    rw (make_there c.args.self.now c.args.path.now c.args.from c.args.most c.in_ok-here.here c.in-Some.field-0.now (omega arith) c.in_ok-here.ensures c.in-Some.ensures) c.make_from.ensures.ok

pub returns-then-most-eq0-clause-ok : goal.returns-then-most-eq0-clause-ok
returns-then-most-eq0-clause-ok t c =
    rw (c.if-most-eq0.true, make_none c.args.self.now (take c.args.from c.args.path.now) (drop c.args.from c.args.path.now)) c.put_last-then-most-eq0.ensures.ok

pub returns-in-Ok-clause-ok : goal.returns-in-Ok-clause-ok
returns-in-Ok-clause-ok t c =
    c.in-Ok.ensures.ok
    ∙ ap (λ tree. with_file c.args.file (make_some tree (take (c.args.from + 1) c.args.path.now) (drop (c.args.from + 1) c.args.path.now) (c.args.most - 1))) (c.in_ok-put.ensures.ok ∙ ap (λ p. put c.args.self.now p Folder) (c.in_ok-front.ensures ∙ sym c.in_ok-here.ensures))
    ∙ ap (with_file c.args.file) (sym (make_missing c.args.self.now c.args.path.now c.args.from c.args.most c.in_ok-here.here (omega arith) c.in_ok-here.ensures c.in_default.ensures (omega arith)))

pub returns-clause-err : goal.returns-clause-err
returns-clause-err t c = c.cut.ensures ∙ ap (λ tree. cut tree c.in_ok-here.here) (c.in-Err.ensures.err ∙ c.in_ok-put.ensures.ok ∙ ap (λ p. put c.args.self.now p Folder) (c.in_ok-front.ensures ∙ sym c.in_ok-here.ensures)) ∙ cut-put c.args.self.now c.in_ok-here.here Folder c.in_default.ensures
