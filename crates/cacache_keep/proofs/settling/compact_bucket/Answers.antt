use Rattle.std.{proofs.Common.{◌≡◌, ◌-◌, ℕ, List, length, option_map, rules, subst, sym}, specs.Prelude.{IfSome}}
use Rattle.cacache_keep.specs.{Compacting.{Changes, StopsBucket}, declared.settling.Lean.{Lean}}
use Rattle.cacache_keep.proofs.{NewBuckets.Rewrites.{lost_read, settled, unsettled}, Stopped.{error_so, error_as}, Asked.{value_so}}
use Rattle.cacache_keep.proofs.settling.compact_bucket.Goals as goal

pub returns-in_err-lean-clause-stops : goal.returns-in_err-lean-clause-stops
returns-in_err-lean-clause-stops g c =
    let durable = c.args.durable in
    let cache = c.args.cache.now in
    let path = c.args.path.now in
    let old = g.S.Store.log c.args.env.now.store in
    let read = g.S.Store.log c.read.new.store in
    error_as (λ x. StopsBucket durable cache path x old read) c.from_residual-in_err-lean.result c.in_err-lean.field-0.0 c.from_residual-in_err-lean.ensures.1
    (subst (λ x. StopsBucket durable cache path x old read) (sym c.in_err-lean.ensures.memory) (lost_read durable cache path c.in_ok-bytes.bytes old read c.in_ok-bytes.ensures.reads))

pub returns : goal.returns
returns g c =
    let old = g.S.Store.log c.args.env.now.store in
    let read = g.S.Store.log c.read.new.store in
    let new = g.S.Store.log c.settle.new.env.store in
    let lean = c.in_ok-lean.lean in
    let changes = subst (λ (b : List ℕ). Changes c.args.durable b (option_map (λ (l : Lean). l.text.items) lean)) c.as_slice.ensures c.in_ok-lean.ensures.changed in
    let size = subst (λ (b : List ℕ). IfSome lean (λ (l : Lean). l.saved ≡ length b - length l.text.items)) c.as_slice.ensures c.in_ok-lean.ensures.saves in
    record {
      compacts = value_so c.settle.result (λ saving done. settled c.args.durable c.args.cache.now c.args.path.now c.in_ok-bytes.bytes old read c.in_ok-bytes.ensures.reads lean saving new changes size done) c.settle.ensures.settles;
      stops = error_so c.settle.result (λ e stop. unsettled c.args.durable c.args.cache.now c.args.path.now c.in_ok-bytes.bytes old read c.in_ok-bytes.ensures.reads lean e new changes stop) c.settle.ensures.stops;
      clock = search rules;
      base = search rules;
    }
