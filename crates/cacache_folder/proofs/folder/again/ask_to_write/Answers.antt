use Rattle.std.proofs.Common.{ap, sym, ◌∙◌}
use Rattle.std_io.specs.IoError.{error_kind}
use Rattle.cacache_system.specs.declared.call.SystemCall.TheVariants as asks
use Rattle.cacache_folder.proofs.CallRuns.{waits_more, insists_last}
use Rattle.cacache_folder.proofs.folder.again.ask_to_write.Goals as goal

pub loop-preserved : goal.loop-preserved
loop-preserved g c = record {
  same = c.write.ensures.same ∙ c.loop.invariant.same;
  waits = waits_more (asks.Write (g.Y.System.number c.args.file.now) c.args.buf.now) (asks.Write (g.Y.System.number c.loop.file) c.args.buf.now)
      (error_kind c.in-Err.e) (g.Y.System.calls c.args.system.now) (g.Y.System.calls c.loop.system) (g.Y.System.calls c.write.new.self)
      c.loop.invariant.waits c.in-Err.ensures.logged (ap (λ number. asks.Write number c.args.buf.now) c.loop.invariant.same) (sym c.is_interrupted.ensures ∙ c.if-is_interrupted.true);
}

pub returns-in_default-clause-made : goal.returns-in_default-clause-made
returns-in_default-clause-made g c =
    insists_last (asks.Write (g.Y.System.number c.args.file.now) c.args.buf.now) (asks.Write (g.Y.System.number c.loop.file) c.args.buf.now) _
    (g.Y.System.calls c.args.system.now) (g.Y.System.calls c.loop.system) (g.Y.System.calls c.write.new.self) c.loop.invariant.waits c.in-Err.ensures.logged
    (ap (λ number. asks.Write number c.args.buf.now) c.loop.invariant.same)

pub returns-in_default-2-clause-made : goal.returns-in_default-2-clause-made
returns-in_default-2-clause-made g c =
    insists_last (asks.Write (g.Y.System.number c.args.file.now) c.args.buf.now) (asks.Write (g.Y.System.number c.loop.file) c.args.buf.now) _
    (g.Y.System.calls c.args.system.now) (g.Y.System.calls c.loop.system) (g.Y.System.calls c.write.new.self) c.loop.invariant.waits c.write.ensures.logged
    (ap (λ number. asks.Write number c.args.buf.now) c.loop.invariant.same)

pub returns-clause-made : goal.returns-clause-made
returns-clause-made g c =
    insists_last (asks.Write (g.Y.System.number c.args.file.now) c.args.buf.now) (asks.Write (g.Y.System.number c.loop.file) c.args.buf.now) _
    (g.Y.System.calls c.args.system.now) (g.Y.System.calls c.loop.system) (g.Y.System.calls c.write-2.new.self) c.loop.invariant.waits c.write-2.ensures.logged
    (ap (λ number. asks.Write number c.args.buf.now) c.loop.invariant.same)
