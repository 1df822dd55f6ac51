use Rattle.std.{proofs.Common.{◌≡◌, subst, map, ap, ◌∙◌}, specs.Prelude.{IfOk}}
use Rattle.cacache_entry.specs.View.{entry_view}
use Rattle.cacache_calls.specs.Runs.{plain_item}
use Rattle.cacache_walks.proofs.BucketItems.{items_in-of}
use Rattle.cacache_walks.proofs.bucket.items.Goals as goal

pub returns-clause-items : goal.returns-clause-items
returns-clause-items c =
    subst (λ l. IfOk c.items_of_many.result (λ items. map plain_item items.items ≡ l))
    (items_in-of c.args.bytes.now c.as_slice-else-len-le-FEW.result.now (ap (map entry_view) c.as_slice-else-len-le-FEW.ensures.value ∙ c.in_ok-entries.ensures.entries))
    c.items_of_many.ensures.items
