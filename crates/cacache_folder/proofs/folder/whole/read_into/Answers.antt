use Rattle.std.proofs.Common.{false, take, length, arith, ap}
use Rattle.std_io.specs.IoError.{error_kind}
use Rattle.cacache_system.specs.declared.call.SystemCall.TheVariants as asks
use Rattle.cacache_system.specs.declared.call.CallResult.TheVariants as says
use Rattle.cacache_system.specs.CallsOf as calls
use Rattle.cacache_folder.proofs.{CallRuns.{run_as}, Reading.{took_read, took_insists, took_refused, taken_left}}
use Rattle.cacache_folder.proofs.folder.whole.read_into.Goals as goal

pub overflow_sub-file : goal.overflow_sub-file
overflow_sub-file g c = omega (arith, c.in-Ok.ensures.bound, ap (λ v. length v.items) c.in-Some.ensures.value, c.requires)

pub front_of-requires : goal.front_of-requires
front_of-requires g c = omega (arith, c.in-Ok.ensures.size, c.in-Ok.ensures.bound)

pub returns-in-Ok-clause-left : goal.returns-in-Ok-clause-left
returns-in-Ok-clause-left g c =
    taken_left c.args.file.now.left c.in-Ok.count c.front_of.result c.read_to.new.bytes.items c.front_of.ensures
    (omega (arith, c.in-Ok.ensures.size, c.in-Ok.ensures.bound)) (omega (arith, c.in-Ok.ensures.bound, ap (λ v. length v.items) c.in-Some.ensures.value, c.requires))

pub returns-in-Ok-clause-ran : goal.returns-in-Ok-clause-ran
returns-in-Ok-clause-ran g c =
    run_as (calls.taking_memory (calls.trying false (asks.Read (g.Y.System.number c.args.file.now.file) (length c.in-Some.buf.now.items)))) _
    (says.Bytes c.front_of.result) (g.Y.System.calls c.args.system.now) (g.Y.System.calls c.read_to.new.system)
    (took_read (g.Y.System.number c.args.file.now.file) _ (take c.in-Ok.count c.read_to.new.bytes.items) c.front_of.result (g.Y.System.calls c.args.system.now) (g.Y.System.calls c.read_to.new.system)
    c.in-Ok.ensures.made c.front_of.ensures)
    (ap (λ buf. calls.taking_memory (calls.trying false (asks.Read (g.Y.System.number c.args.file.now.file) (length buf.items)))) c.in-Some.ensures.value)

pub returns-in-Err-clause-ran : goal.returns-in-Err-clause-ran
returns-in-Err-clause-ran g c =
    run_as (calls.taking_memory (calls.trying false (asks.Read (g.Y.System.number c.args.file.now.file) (length c.in-Some.buf.now.items)))) _
    (says.Failed (error_kind c.in-Err.error)) (g.Y.System.calls c.args.system.now) (g.Y.System.calls c.read_to.new.system)
    (took_insists (g.Y.System.number c.args.file.now.file) _ (says.Failed (error_kind c.in-Err.error)) (g.Y.System.calls c.args.system.now) (g.Y.System.calls c.read_to.new.system) c.in-Err.ensures.made)
    (ap (λ buf. calls.taking_memory (calls.trying false (asks.Read (g.Y.System.number c.args.file.now.file) (length buf.items)))) c.in-Some.ensures.value)

pub returns-in_default-clause-ran : goal.returns-in_default-clause-ran
returns-in_default-clause-ran g c = took_refused _ (error_kind c.from.result) (g.Y.System.calls c.args.system.now) c.from.ensures
