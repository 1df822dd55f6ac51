use Rattle.std.{proofs.Common.{◌≡◌, ◌∙◌, ℕ, List, ap, refl, rules, string_bytes, subst, sym}, specs.Prelude.{IsUtf8}}
use Rattle.cacache_entry.specs.View.{found_view}
use Rattle.cacache_calls.specs.{Runs.{Ran, without_message}, Table.{opening}}
use Rattle.cacache_calls.specs.declared.reply.Reply.TheVariants as replies
use Rattle.cacache_jobs.specs.JobStates.{site_of}
use Rattle.cacache_keep.{specs.{Parting.{may_be_full}, Repairing.{tombstone}}, proofs.{Asked.{ran_at}, Partings.{maybe_full, not_full}}}
use Rattle.cacache_keep.proofs.parting.drop_key.Goals as goal

pub returns-then-not-may_be_full-clause-drops : goal.returns-then-not-may_be_full-clause-drops
returns-then-not-may_be_full-clause-drops g c =
    let cache = c.args.cache.now in
    let base = c.args.env.now.base in
    let site = site_of cache base 0 in
    let old = g.S.Store.log c.args.env.now.store in
    let refused = g.S.Store.log c.delete.new.env.store in
    let e = c.in-Err.error in
    let key = c.as_str.result.now in
    let run = c.in-Err.ensures.ran in
    let same : c.as_str.result.now ≡ string_bytes c.args.entry.now.key = search rules in
    let utf8 : IsUtf8 c.as_str.result.now = search rules in
    let ran = ran_at cache base base (tombstone key run.0).0 _ (replies.Refused (without_message e)) _ old refused refl refl refl run.2.0 in
    let never = ap may_be_full (sym c.fault.ensures) ∙ sym c.may_be_full.ensures ∙ c.if-not-may_be_full.true in
    not_full c.args.durable site (found_view c.args.entry.now) e c.unless_memory.result old refused
    (run.0, subst IsUtf8 same utf8, run.1.1, subst (λ (k : List ℕ). Ran (opening site (tombstone k run.0).0) (replies.Refused (without_message e)) old refused) same ran) never c.unless_memory.ensures

pub returns-else-not-may_be_full-clause-drops : goal.returns-else-not-may_be_full-clause-drops
returns-else-not-may_be_full-clause-drops g c =
    let cache = c.args.cache.now in
    let base = c.args.env.now.base in
    let site = site_of cache base 0 in
    let old = g.S.Store.log c.args.env.now.store in
    let refused = g.S.Store.log c.delete.new.env.store in
    let new = g.S.Store.log c.unlink.new.store in
    let e = c.in-Err.error in
    let key = c.as_str.result.now in
    let run = c.in-Err.ensures.ran in
    let same : c.as_str.result.now ≡ string_bytes c.args.entry.now.key = search rules in
    let utf8 : IsUtf8 c.as_str.result.now = search rules in
    let ran = ran_at cache base base (tombstone key run.0).0 _ (replies.Refused (without_message e)) _ old refused refl refl refl run.2.0 in
    let may = ap may_be_full (sym c.fault.ensures) ∙ sym c.may_be_full.ensures ∙ c.if-not-may_be_full.false in
    maybe_full c.args.durable site (found_view c.args.entry.now) e c.unless_memory-in-Err.result old refused
    (run.0, subst IsUtf8 same utf8, run.1.1, subst (λ (k : List ℕ). Ran (opening site (tombstone k run.0).0) (replies.Refused (without_message e)) old refused) same ran)
    c.unlink.result new may c.unlink.ensures.unlinks c.unlink.ensures.stops c.unless_memory-in-Err.ensures
