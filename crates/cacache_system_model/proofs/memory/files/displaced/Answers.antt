-- One open file more is at its place.
use Rattle.std.{proofs.Common.{refl, ap, ◌∙◌}, specs.Prelude.{option_copied, Option}}
use Rattle.cacache_disk.specs.{declared.node.Node.{Node}, Tree.{look}}
use Rattle.cacache_system_model.{specs.memory.Files.{left, place_of}, proofs.memory.Displacing.{one_more}}
use Rattle.cacache_system_model.proofs.memory.files.displaced.Goals as goal

pub loop-file-preserved : goal.loop-file-preserved
loop-file-preserved c = (
  c.loop-file.invariant.0,
  rw c.in_ok-push.ensures.items
      (one_more (left (option_copied c.args.from) (look c.args.disk.now c.args.names.now) c.args.names.now c.args.mark) c.deref-file-items.result.now c.loop-file.others.items c.loop-file.file-index
      c.file-item.result (record { place = c.in_ok-place.place; read = c.file-item.result.read }) c.loop-file-test.true c.file-item.is
      (c.in_ok-place.ensures ∙ ap (λ (was : Option Node). left (option_copied c.args.from) was c.args.names.now c.args.mark (place_of c.file-item.result.place)) c.loop-file.invariant.0)
      refl c.loop-file.invariant.1),
)
