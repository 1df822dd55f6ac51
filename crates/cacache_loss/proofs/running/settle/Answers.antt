use Rattle.std.specs.BTreeMap.{get}
use Rattle.cacache_disk.specs.Tree.{names_cmp}
use Rattle.cacache_loss.{specs.Running.{files_in}, proofs.PathMaps.{files_more, names_more}}
use Rattle.cacache_loss.proofs.running.settle.Goals as goal

pub loop-i-preserved : goal.loop-i-preserved
loop-i-preserved c = (
  λ first. files_more c.args.effect.now c.args.disk.now c.args.paths.now c.args.places.now c.loop-i.i c.index-paths-i.result c.index-places-i.result c.loop-i-test.true c.index-paths-i.is c.index-places-i.is
      (files_in first c.args.files.now) (files_in first c.loop-i.files) (files_in first c.settle.new.files) (c.loop-i.invariant.0 first) (c.in_ok-settle.ensures.files first),
  names_more c.args.effect.now c.args.disk.now c.args.paths.now c.args.places.now c.loop-i.i c.index-paths-i.result c.index-places-i.result c.loop-i-test.true c.index-paths-i.is c.index-places-i.is
      (get names_cmp c.args.names.now) (get names_cmp c.loop-i.names) (get names_cmp c.settle.new.names) c.loop-i.invariant.1 c.in_ok-settle.ensures.names,
)
