use Rattle.cacache_system.specs.declared.call.CallResult.TheVariants as says
use Rattle.cacache_system.specs.Seen.{said}
use Rattle.cacache_folder.proofs.Reading.{front_full, front_short}
use Rattle.cacache_folder.proofs.folder.whole.read_on.Goals as goal

pub returns-then-size-eq-FRONT : goal.returns-then-size-eq-FRONT
returns-then-size-eq-FRONT g c =
    front_full c.args.front.now (g.Y.System.number c.args.file.now) (said says.Bytes c.read_long.result)
    (g.Y.System.calls c.args.system.now) (g.Y.System.calls c.read_long.new.system) c.if-size-eq-FRONT.true c.read_long.ensures

pub returns-else-size-eq-FRONT : goal.returns-else-size-eq-FRONT
returns-else-size-eq-FRONT g c =
    front_short c.args.front.now (g.Y.System.number c.args.file.now) (said says.Bytes c.after_front.result)
    (g.Y.System.calls c.args.system.now) (g.Y.System.calls c.after_front.new.system) c.if-size-eq-FRONT.false c.after_front.ensures
