use Rattle.std.proofs.{Common.{take, sym, length-take-le}, lemmas.List.{take-append-le}}
use Rattle.std_io.specs.IoError.{error_kind}
use Rattle.cacache_folder.proofs.Reading.{insists_as, insists_fails}
use Rattle.cacache_folder.proofs.folder.opened.read_front.Goals as goal

pub returns-in-Ok-clause-made : goal.returns-in-Ok-clause-made
returns-in-Ok-clause-made g c =
    insists_as (g.Y.System.number c.args.file.now) _ _ (take c.in-Ok.count c.ask_to_read.new.buf) _ (g.Y.System.calls c.args.system.now) (g.Y.System.calls c.ask_to_read.new.system)
    c.in-Ok.ensures.made (length-take-le c.args.room c.args.buf.now c.requires) (sym (take-append-le c.in-Ok.count c.ask_to_read.new.buf _ c.in-Ok.ensures.bound.0))

pub returns-in-Err-clause-made : goal.returns-in-Err-clause-made
returns-in-Err-clause-made g c =
    insists_fails (g.Y.System.number c.args.file.now) _ _ (error_kind c.in-Err.error) (g.Y.System.calls c.args.system.now) (g.Y.System.calls c.ask_to_read.new.system)
    c.in-Err.ensures.made (length-take-le c.args.room c.args.buf.now c.requires)
