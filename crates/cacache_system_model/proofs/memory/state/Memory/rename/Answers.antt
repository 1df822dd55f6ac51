use Rattle.std.proofs.Common.{◌+◌, ◌%◌, refl}
use Rattle.cacache_system_model.{specs.memory.Files.{MovesPath}, proofs.memory.Displacing.{no_target, not_put, put_there, failed_as}}
use Rattle.cacache_system_model.proofs.memory.state.Memory.rename.Goals as goal

pub returns-in_err-new-clause-moves : goal.returns-in_err-new-clause-moves
returns-in_err-new-clause-moves c =
    failed_as (λ r. MovesPath c.args.from.now c.args.to.now c.args.self.now r c.args.self.now) c.from_residual-in_err-new.result c.in_err-new.field-0.0 c.from_residual-in_err-new.ensures.1
    (no_target c.args.from.now c.args.to.now c.in_ok-bytes.bytes c.in_ok-old.old c.args.self.now c.in_ok-old.ensures.ok c.in_ok-bytes.ensures c.in_err-new.field-0.0 c.in_err-new.ensures.err)

pub returns-in_err-put_moved-clause-moves : goal.returns-in_err-put_moved-clause-moves
returns-in_err-put_moved-clause-moves c =
    failed_as (λ r. MovesPath c.args.from.now c.args.to.now c.args.self.now r (record { alloc = c.args.self.now.alloc; disk = c.put_moved.new.disk; files = c.args.self.now.files; marks = c.args.self.now.marks }))
    c.from_residual-in_err-put_moved.result c.in_err-put_moved.field-0.0 c.from_residual-in_err-put_moved.ensures.1
    (not_put c.args.from.now c.args.to.now c.in_ok-bytes.bytes c.in_ok-old.old c.args.self.now c.in_ok-old.ensures.ok c.in_ok-bytes.ensures
    (record { alloc = c.args.self.now.alloc; disk = c.put_moved.new.disk; files = c.args.self.now.files; marks = c.args.self.now.marks }) c.in_err-put_moved.field-0.0 c.in_err-put_moved.ensures refl)

pub returns-clause-moves : goal.returns-clause-moves
returns-clause-moves c =
    put_there c.args.from.now c.args.to.now c.in_ok-bytes.bytes c.in_ok-old.old c.args.self.now c.in_ok-old.ensures.ok c.in_ok-bytes.ensures
    c.in_ok-new.new
    (record { alloc = c.args.self.now.alloc; disk = c.put_moved.new.disk; files = c.in_ok-files.files; marks = (c.args.self.now.marks + 1) % 18446744073709551616 })
    c.in_ok-new.ensures.ok c.in_ok-put_moved.ensures c.in_ok-files.ensures
