-- The cache that the words name was asked for, and the answers were reported.
use Rattle.std.proofs.Common.{◌≡◌, IfSome, Option, Some, None, true, false, refl, subst}
use Rattle.cacache_program.specs.{KeepMissing.{AsksFor}, Orders.{Order}}
use Rattle.cacache_program.proofs.keep.missing.tell_missing.Goals as goal

pub returns-then-is_missing-clause-asked : goal.returns-then-is_missing-clause-asked
returns-then-is_missing-clause-asked g c =
    let yes : c.is_missing.result ≡ true = cc in
    subst (λ (o : Option Order). IfSome o (λ order. AsksFor g.S.Store.log order None c.args.env.now c.is_missing.new.env (g.E.Write.contents c.args.errors.now.output) (g.E.Write.contents c.put_line.new.errors.output))) c.in-Some.ensures
    (true, false, c.is_missing.new.env, rw yes at c.is_missing.ensures.asks, (refl, refl), c.put_line.ensures.puts, refl)

pub returns-then-is_refused-clause-asked : goal.returns-then-is_refused-clause-asked
returns-then-is_refused-clause-asked g c =
    let no : c.is_missing.result ≡ false = cc in
    let yes : c.is_refused.result ≡ true = cc in
    subst (λ (o : Option Order). IfSome o (λ order. AsksFor g.S.Store.log order (Some 1) c.args.env.now c.is_refused.new.env (g.E.Write.contents c.args.errors.now.output) (g.E.Write.contents c.put_line-then-is_refused.new.errors.output))) c.in-Some.ensures
    (false, true, c.is_missing.new.env, rw no at c.is_missing.ensures.asks, rw yes at c.is_refused.ensures.asks, c.put_line-then-is_refused.ensures.puts, refl)

pub returns-clause-asked : goal.returns-clause-asked
returns-clause-asked g c =
    let no : c.is_missing.result ≡ false = cc in
    let none : c.is_refused.result ≡ false = cc in
    subst (λ (o : Option Order). IfSome o (λ order. AsksFor g.S.Store.log order None c.args.env.now c.is_refused.new.env (g.E.Write.contents c.args.errors.now.output) (g.E.Write.contents c.args.errors.now.output))) c.in-Some.ensures
    (false, false, c.is_missing.new.env, rw no at c.is_missing.ensures.asks, rw none at c.is_refused.ensures.asks, refl, refl)
