use Rattle.std.proofs.Common.{refl, true}
use Rattle.cacache.specs.Laws.{Key}
use Rattle.uses_client.proofs.outside.export.Goals as goal

pub returns : goal.returns
returns g c =
    let copied = c.after_copy.ensures (Key c.args.key.now) true c.args.env.now c.requires.apart tt c.requires.cache c.copy_sync-copied.ensures.ran in
    record {
      leaves = copied.leaves;
      arrives = λ i bytes has. copied.arrives bytes (i, has);
      linked = copied.linked;
      whole = copied.whole;
      refuses = λ folder i leads. (λ fault damaged. (copied.refuses folder).damaged i fault refl leads damaged, λ none. copied.missing i folder leads none);
      fails = copied.fails;
    }
