use Rattle.std.{proofs.Common.{◌≡◌, true, false, length, min, arith, ap, subst, ◌∙◌}, specs.Arc.{arc_value}}
use Rattle.std_io.specs.IoError.{error_kind}
use Rattle.cacache_system.specs.declared.call.SystemCall.TheVariants as asks
use Rattle.cacache_system.specs.declared.call.CallResult.TheVariants as says
use Rattle.cacache_system.specs.Seen.{said}
use Rattle.cacache_system.specs.CallsOf as calls
use Rattle.cacache_folder.{specs.FolderNumbers.{numbered_file}, proofs.{Reading.{piece_over, piece_run, took_refused, gives_over}, CallRuns.{run_as}}}
use Rattle.cacache_folder.proofs.folder.whole.read_piece.Goals as goal

pub returns-then-gives_no_more-clause-ran : goal.returns-then-gives_no_more-clause-ran
returns-then-gives_no_more-clause-ran g c =
    piece_over (numbered_file g.Y.System.number c.args.file.now) (min c.args.max 131072) c.gives_no_more.result (error_kind c.from.result) (g.Y.System.calls c.args.system.now)
    (subst (λ size. c.gives_no_more.result ≡ gives_over c.args.file.now.left size) c.min-size.ensures c.gives_no_more.ensures) c.if-gives_no_more.true c.from.ensures

pub returns-in-Ok-clause-ran : goal.returns-in-Ok-clause-ran
returns-in-Ok-clause-ran g c =
    let file = numbered_file g.Y.System.number c.args.file.now in
    let end = said says.Bytes c.read_into.result in
    piece_run file (min c.args.max 131072) c.gives_no_more.result end (g.Y.System.calls c.args.system.now) (g.Y.System.calls c.read_into.new.system)
    (subst (λ size. c.gives_no_more.result ≡ gives_over c.args.file.now.left size) c.min-size.ensures c.gives_no_more.ensures) c.if-gives_no_more.false
    (run_as (calls.taking_memory (calls.trying false (asks.Read file.number (length (arc_value c.in-Ok.room).items)))) _ end (g.Y.System.calls c.args.system.now) (g.Y.System.calls c.read_into.new.system)
    c.read_into.ensures.ran
    (ap (λ size. calls.taking_memory (calls.trying false (asks.Read file.number size))) (c.in-Ok.ensures ∙ c.min-most.ensures ∙ ap (λ size. min size file.left) c.min-size.ensures)))

pub returns-in-Err-clause-ran : goal.returns-in-Err-clause-ran
returns-in-Err-clause-ran g c =
    let file = numbered_file g.Y.System.number c.args.file.now in
    piece_run file (min c.args.max 131072) c.gives_no_more.result (says.Failed (error_kind c.from-in-Err.result)) (g.Y.System.calls c.args.system.now) (g.Y.System.calls c.args.system.now)
    (subst (λ size. c.gives_no_more.result ≡ gives_over c.args.file.now.left size) c.min-size.ensures c.gives_no_more.ensures) c.if-gives_no_more.false
    (took_refused _ (error_kind c.from-in-Err.result) (g.Y.System.calls c.args.system.now) c.from-in-Err.ensures)

pub read_into-requires : goal.read_into-requires
read_into-requires g c = omega (arith, c.in-Ok.ensures, c.min-most.ensures)
