-- The options tell the collection what the order says.
use Rattle.std.proofs.Common.{arith, inl, inr, refl}
use Rattle.cacache_program.{specs.KeepValues.{text_of_collection}, proofs.Made.{made_puts}}
use Rattle.cacache_program.proofs.keep.collecting.collect_with_roots.Goals as goal

pub returns-in-Ok-clause-does : goal.returns-in-Ok-clause-does
returns-in-Ok-clause-does g c =
    let opts = c.opts_of.ensures in
    let it = c.in-Ok.ensures.collects in
    let t = c.in-Ok.collection in
    let puts = made_puts c.collection_text.result (λ t. t.items) (text_of_collection t) 0 (g.W.Write.contents c.args.output.now) (g.W.Write.contents c.put_made.new.output) c.put_made.result (omega arith) c.collection_text.ensures c.put_made.ensures.made c.put_made.ensures.unmade in
    record {
      rest = (c.in-Ok.ensures.names, c.in-Ok.ensures.base);
      limit = it.0;
      limited = rw opts.grace at it.1;
      told = inl (t, (rw (opts.odd, opts.keep, opts.durable) at it.2), puts);
    }

pub returns-in-Err-clause-does : goal.returns-in-Err-clause-does
returns-in-Err-clause-does g c =
    let opts = c.opts_of.ensures in
    let it = c.in-Err.ensures.stops in
    record {
      rest = (c.in-Err.ensures.names, c.in-Err.ensures.base);
      limit = it.0;
      limited = rw opts.grace at it.1;
      told = inr (c.in-Err.error, (rw (opts.odd, opts.keep, opts.durable) at it.2), c.tell_failed_call.ensures, refl);
    }
