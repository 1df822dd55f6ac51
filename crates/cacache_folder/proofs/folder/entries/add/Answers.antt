use Rattle.std.proofs.Common.{sym}
use Rattle.cacache_folder.proofs.Entries.{adds_kind, adds_none, adds_fails}
use Rattle.cacache_folder.proofs.folder.entries.add.Goals as goal

pub returns-in-Ok-Some-clause-ran : goal.returns-in-Ok-Some-clause-ran
returns-in-Ok-Some-clause-ran g c =
    adds_kind c.args.folder.now.items c.args.name.now c.in-Ok-Some.field-0 c.in-Ok-Some.kind c.args.names.now.items c.enter.new.names.items c.enter.result
    (g.Y.System.calls c.args.system.now) (g.Y.System.calls c.kind_below.new.system) (sym c.if-is_passed.ensures) c.in-Ok-Some.ensures.ran
    c.in-Ok-Some.field-0-is c.enter.ensures.told

pub returns-in-Ok-None-clause-ran : goal.returns-in-Ok-None-clause-ran
returns-in-Ok-None-clause-ran g c =
    adds_none c.args.folder.now.items c.args.name.now c.in-Ok-None.field-0 c.args.names.now.items tt (g.Y.System.calls c.args.system.now)
    (g.Y.System.calls c.kind_below.new.system) (sym c.if-is_passed.ensures) c.in-Ok-None.ensures.ran c.in-Ok-None.field-0-is

pub returns-in-Err-clause-ran : goal.returns-in-Err-clause-ran
returns-in-Err-clause-ran g c =
    adds_fails c.args.folder.now.items c.args.name.now c.args.names.now.items c.args.names.now.items c.in-Err.why
    (g.Y.System.calls c.args.system.now) (g.Y.System.calls c.kind_below.new.system) (sym c.if-is_passed.ensures) c.in-Err.ensures.ran
