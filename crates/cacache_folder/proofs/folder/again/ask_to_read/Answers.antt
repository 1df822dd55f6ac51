use Rattle.std.proofs.Common.{length, ap, sym, ◌∙◌}
use Rattle.std_io.specs.IoError.{error_kind}
use Rattle.cacache_system.specs.declared.call.SystemCall.TheVariants as asks
use Rattle.cacache_folder.proofs.CallRuns.{waits_more, insists_last}
use Rattle.cacache_folder.proofs.folder.again.ask_to_read.Goals as goal

pub loop-preserved : goal.loop-preserved
loop-preserved g c = record {
  same = c.read.ensures.same ∙ c.loop.invariant.same;
  waits = waits_more (asks.Read (g.Y.System.number c.args.file.now) (length c.args.buf.now)) (asks.Read (g.Y.System.number c.loop.file) (length c.loop.buf))
      (error_kind c.in-Err.e) (g.Y.System.calls c.args.system.now) (g.Y.System.calls c.loop.system) (g.Y.System.calls c.read.new.self)
      c.loop.invariant.waits c.in-Err.ensures.logged (ap (λ number. asks.Read number (length c.loop.buf)) c.loop.invariant.same ∙ ap (λ size. asks.Read (g.Y.System.number c.args.file.now) size) c.loop.auto.buf) (sym c.is_interrupted.ensures ∙ c.if-is_interrupted.true);
}

pub returns-in_default-clause-made : goal.returns-in_default-clause-made
returns-in_default-clause-made g c =
    insists_last (asks.Read (g.Y.System.number c.args.file.now) (length c.args.buf.now)) (asks.Read (g.Y.System.number c.loop.file) (length c.loop.buf)) _
    (g.Y.System.calls c.args.system.now) (g.Y.System.calls c.loop.system) (g.Y.System.calls c.read.new.self) c.loop.invariant.waits c.in-Err.ensures.logged
    (ap (λ number. asks.Read number (length c.loop.buf)) c.loop.invariant.same ∙ ap (λ size. asks.Read (g.Y.System.number c.args.file.now) size) c.loop.auto.buf)

pub returns-in_default-2-clause-made : goal.returns-in_default-2-clause-made
returns-in_default-2-clause-made g c =
    insists_last (asks.Read (g.Y.System.number c.args.file.now) (length c.args.buf.now)) (asks.Read (g.Y.System.number c.loop.file) (length c.loop.buf)) _
    (g.Y.System.calls c.args.system.now) (g.Y.System.calls c.loop.system) (g.Y.System.calls c.read.new.self) c.loop.invariant.waits c.read.ensures.logged
    (ap (λ number. asks.Read number (length c.loop.buf)) c.loop.invariant.same ∙ ap (λ size. asks.Read (g.Y.System.number c.args.file.now) size) c.loop.auto.buf)

pub returns-clause-made : goal.returns-clause-made
returns-clause-made g c =
    insists_last (asks.Read (g.Y.System.number c.args.file.now) (length c.args.buf.now)) (asks.Read (g.Y.System.number c.loop.file) (length c.loop.buf)) _
    (g.Y.System.calls c.args.system.now) (g.Y.System.calls c.loop.system) (g.Y.System.calls c.read-2.new.self) c.loop.invariant.waits c.read-2.ensures.logged
    (ap (λ number. asks.Read number (length c.loop.buf)) c.loop.invariant.same ∙ ap (λ size. asks.Read (g.Y.System.number c.args.file.now) size) c.loop.auto.buf)
