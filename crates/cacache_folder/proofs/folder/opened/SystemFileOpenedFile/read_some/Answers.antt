use Rattle.std.specs.Prelude.{length, take}
use Rattle.std_io.specs.IoError.{error_kind}
use Rattle.cacache_system.specs.declared.call.CallResult.TheVariants as says
use Rattle.cacache_folder.{specs.FolderNumbers.{numbered_file}, proofs.Reading.{reading_over, reading_run}}
use Rattle.cacache_folder.proofs.folder.opened.SystemFileOpenedFile.read_some.Goals as goal

pub returns-then-gives_no_more-clause-ran : goal.returns-then-gives_no_more-clause-ran
returns-then-gives_no_more-clause-ran g c =
    reading_over (numbered_file g.Y.System.number c.args.self.now) (length c.args.buf.now) c.gives_no_more.result (error_kind c.from.result)
    (g.Y.System.calls c.args.self.now.system) c.gives_no_more.ensures c.if-gives_no_more.true c.from.ensures

pub returns-in-Ok-clause-ran : goal.returns-in-Ok-clause-ran
returns-in-Ok-clause-ran g c =
    reading_run (numbered_file g.Y.System.number c.args.self.now) (length c.args.buf.now) c.min-room.result c.gives_no_more.result
    (says.Bytes (take c.in-Ok.count c.read_front.new.buf)) (g.Y.System.calls c.args.self.now.system) (g.Y.System.calls c.read_front.new.system)
    c.gives_no_more.ensures c.if-gives_no_more.false c.min-room.ensures c.in-Ok.ensures.made

pub returns-in-Err-clause-ran : goal.returns-in-Err-clause-ran
returns-in-Err-clause-ran g c =
    reading_run (numbered_file g.Y.System.number c.args.self.now) (length c.args.buf.now) c.min-room.result c.gives_no_more.result
    (says.Failed (error_kind c.in-Err.error)) (g.Y.System.calls c.args.self.now.system) (g.Y.System.calls c.read_front.new.system)
    c.gives_no_more.ensures c.if-gives_no_more.false c.min-room.ensures c.in-Err.ensures.made
