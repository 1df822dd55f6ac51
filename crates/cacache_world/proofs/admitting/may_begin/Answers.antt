use Rattle.std.{proofs.Common.{ℕ, sym, subst}, specs.Prelude.{IfOk}}
use Rattle.cacache_history.specs.Setup.{call_site}
use Rattle.cacache_world.specs.{WorldKept.{setup_of}, Faults.{MayAsk, Judges}}
use Rattle.cacache_world.proofs.admitting.may_begin.Goals as goal

pub returns-in-Put : goal.returns-in-Put
returns-in-Put c = λ callers n.
    let s = setup_of c.args.cache.now c.args.outside.now callers in
    subst (λ command. MayAsk s n command) (sym c.in-Put.is) (c.form_put.ensures (call_site s n), tt)

pub returns-in-Insert : goal.returns-in-Insert
returns-in-Insert c = λ callers n.
    let s = setup_of c.args.cache.now c.args.outside.now callers in
    subst (λ command. MayAsk s n command) (sym c.in-Insert.is) (c.form_insert.ensures (call_site s n), tt)

pub returns-in-Delete : goal.returns-in-Delete
returns-in-Delete c = λ callers n.
    let s = setup_of c.args.cache.now c.args.outside.now callers in
    subst (λ command. MayAsk s n command) (sym c.in-Delete.is) (c.form_delete.ensures (call_site s n), tt)

pub returns-in_ok-may-in-Link : goal.returns-in_ok-may-in-Link
returns-in_ok-may-in-Link c = λ callers n.
    subst (λ command. Judges c.in_ok-may-in-Link.may (setup_of c.args.cache.now c.args.outside.now callers) n command) (sym c.in-Link.is) (c.in_ok-may-in-Link.ensures c.args.cache.now callers n)

pub returns-in-Export : goal.returns-in-Export
returns-in-Export c =
    subst (λ command. IfOk c.may_begin_export.result (λ may. (callers : ℕ) → (n : ℕ) → Judges may (setup_of c.args.cache.now c.args.outside.now callers) n command))
    (sym c.in-Export.is) c.may_begin_export.ensures
