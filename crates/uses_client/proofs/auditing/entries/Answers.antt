-- The error of an item is that of one among them.
use Rattle.std.{proofs.{Common.{◌≡◌, ◌⊎◌, inr, rules, subst}, lemmas.Iterator.{Adapters.{YieldsList-from_vec}, Consumers.{YieldsList-turn}}}, specs.Prelude.{Err, IfErr}}
use Rattle.cacache.specs.Laws.{In, OutOfMemory}
use Rattle.uses_client.proofs.Shown.{in_at, handed}
use Rattle.uses_client.proofs.auditing.entries.Goals as goal

pub returns-in_err-item-clause-fails : goal.returns-in_err-item-clause-fails
returns-in_err-item-clause-fails c =
    let road = YieldsList-from_vec {s = c.into_iter-item-iterator.result} c.args.items.items (search rules) (search rules) in
    let turn = YieldsList-turn road c.loop-item.yielded c.loop-item.item-iterator c.loop-item.yielded_by c.next.result c.next.new.self c.in-Some.item c.in-Some.is c.next.ensures.steps in
    handed (λ r. IfErr r (λ e. (e ≡ OutOfMemory) ⊎ In (Err e) c.args.items.items)) c.from_residual.result c.in_err-item.field-0.0 c.from_residual.ensures.1
    (inr (subst (λ i. In i c.args.items.items) c.in_err-item.was (in_at c.args.items.items _ c.in-Some.item turn.0 turn.1)))
