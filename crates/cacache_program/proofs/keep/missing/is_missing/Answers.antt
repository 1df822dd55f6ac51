-- What the store said.
use Rattle.std.proofs.Common.{refl}
use Rattle.cacache_program.proofs.Missing.{said, unsaid}
use Rattle.cacache_program.proofs.keep.missing.is_missing.Goals as goal

pub returns-in-Ok-there_of : goal.returns-in-Ok-there_of
returns-in-Ok-there_of g c =
    record { asks = ((refl, refl, refl), said c.args.path.now c.in-Ok.path _ c.in-Ok-there_of.there _ _ c.in-Ok.ensures c.in-Ok-there_of.ensures c.step.ensures.logged) }

pub returns-in-Err : goal.returns-in-Err
returns-in-Err g c =
    record { asks = ((refl, refl, refl), unsaid c.args.path.now c.in-Ok.path _ c.in-Err.field-0 _ _ c.in-Ok.ensures c.in-Err.ensures c.step.ensures.fits c.step.ensures.logged) }
