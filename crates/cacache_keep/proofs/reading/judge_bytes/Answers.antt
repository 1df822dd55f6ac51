use Rattle.std.proofs.Common.{◌≡◌, ◌==◌, ◌++◌, inr, true, false, length, ◌∙◌}
use Rattle.cacache_core.specs.declared.errors.Error.TheVariants.{OutOfMemory}
use Rattle.cacache_keep.specs.Reading.{StopsGiving}
use Rattle.cacache_keep.proofs.{Asked.{value_both}, Repairs.Shown.{gave_all, gave_fails, gave_more, nothing_gave, size_more}, Stopped.{error_so, error_as}}
use Rattle.cacache_keep.proofs.reading.judge_bytes.Goals as goal

pub returns-in_err-clone-clause-stops : goal.returns-in_err-clone-clause-stops
returns-in_err-clone-clause-stops g c =
    let file = g.S.File.FileHandle.seen c.args.file in
    let log = g.S.Store.log c.args.store.now in
    error_as (λ e. StopsGiving file e log log) c.from_residual.result OutOfMemory c.from_residual.ensures.1 (nothing_gave file log)

pub returns-then-is_empty : goal.returns-then-is_empty
returns-then-is_empty g c =
    let x = c.pieces.invariant in
    let seen = g.S.File.FileHandle.seen in
    let none : (length c.in-Ok.got.bytes == 0) ≡ true = cc in
    let all = gave_all (seen c.args.file) (seen c.pieces.file) (seen c.in-Ok.got.file) x.0 c.in-Ok.got.bytes _ _ _ _ x.3 c.in-Ok.ensures c.step.ensures.logged none in
    record {
      says = value_both c.judged.result (λ j met size. (x.0, met, size ∙ x.2, all)) (c.judged.ensures.met c.args.sri.now x.0 x.1) c.judged.ensures.size;
      stops = error_so c.judged.result (λ e is. inr (is, x.0, all)) (c.judged.ensures.memory c.args.sri.now x.0 x.1);
    }

pub pieces-preserved : goal.pieces-preserved
pieces-preserved g c =
    let x = c.pieces.invariant in
    let seen = g.S.File.FileHandle.seen in
    let more = c.in-Ok.got.bytes in
    let some : (length more == 0) ≡ false = cc in
    let fed = rw c.as_slice.ensures at (c.input.ensures c.args.sri.now x.0 x.1) in
    let sized = size_more x.0 more c.pieces.size c.saturating_add-size.result c.len.result x.2 c.len.ensures c.saturating_add-size.ensures in
    (x.0 ++ more, fed, sized, gave_more (seen c.args.file) (seen c.pieces.file) (seen c.in-Ok.got.file) x.0 more _ _ _ _ x.3 c.in-Ok.ensures c.step.ensures.logged some)

pub returns-in-Err-clause-stops : goal.returns-in-Err-clause-stops
returns-in-Err-clause-stops g c =
    let x = c.pieces.invariant in
    let seen = g.S.File.FileHandle.seen in
    gave_fails (seen c.args.file) (seen c.pieces.file) x.0 _ c.in-Err.refusal c.refused.result _ _ _ x.3 c.in-Err.ensures c.step.ensures.fits c.step.ensures.logged c.refused.ensures
