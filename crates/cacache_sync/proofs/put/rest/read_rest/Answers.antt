use Rattle.std.proofs.Common.{◌≡◌, ◌==◌, ◌++◌, true, false, length, length-append, refl, arith, ◌∙◌}
use Rattle.cacache_core.specs.declared.errors.Error.TheVariants.{OutOfMemory}
use Rattle.cacache_sync.proofs.Linkers.{more_taken, all_taken, none_taken, lost_so}
use Rattle.cacache_sync.proofs.put.rest.read_rest.Goals as goal

pub returns-then-is_empty : goal.returns-then-is_empty
returns-then-is_empty g c =
    λ t bytes holds is.
    let x = c.pieces.invariant t bytes holds is in
    let seen = g.S.File.FileHandle.seen in
    let none : (length c.in-Ok.got.bytes == 0) ≡ true = cc in
    (x.0, x.1, x.2, all_taken _ t x.0 c.in-Ok.got.bytes (seen c.pieces.file) (seen c.in-Ok.got.file) _ _ _ _ x.3 c.in-Ok.ensures c.step.ensures.fits c.step.ensures.logged none)

pub returns-in_default : goal.returns-in_default
returns-in_default g c =
    λ t bytes holds is.
    let x = c.pieces.invariant t bytes holds is in
    let seen = g.S.File.FileHandle.seen in
    let some : (length c.in-Ok.got.bytes == 0) ≡ false = cc in
    let gone = more_taken _ t x.0 c.in-Ok.got.bytes (seen c.pieces.file) (seen c.in-Ok.got.file) _ _ _ _ x.3 c.in-Ok.ensures c.step.ensures.fits c.step.ensures.logged some in
    lost_so _ _ OutOfMemory _ _ gone refl

pub pieces-preserved : goal.pieces-preserved
pieces-preserved g c =
    λ t bytes holds is.
    let x = c.pieces.invariant t bytes holds is in
    let seen = g.S.File.FileHandle.seen in
    let more = c.in-Ok.got.bytes in
    let some : (length more == 0) ≡ false = cc in
    let fed = rw c.as_slice.ensures at (c.update.ensures.fed x.0 x.1.0) in
    let size : c.in-Some.more ≡ length (x.0 ++ more) = omega (arith, length-append x.0 more, c.in-Some.ensures, c.len.ensures, x.2) in
    (x.0 ++ more, (fed, c.update.ensures.algorithm ∙ x.1.1), size, more_taken _ t x.0 more (seen c.pieces.file) (seen c.in-Ok.got.file) _ _ _ _ x.3 c.in-Ok.ensures c.step.ensures.fits c.step.ensures.logged some)

pub returns-in-Err : goal.returns-in-Err
returns-in-Err g c =
    λ t bytes holds is.
    let x = c.pieces.invariant t bytes holds is in
    none_taken _ t x.0 (g.S.File.FileHandle.seen c.pieces.file) _ c.in-Err.refusal c.refused.result _ _ _ x.3 c.in-Err.ensures c.step.ensures.fits c.step.ensures.logged c.refused.ensures
