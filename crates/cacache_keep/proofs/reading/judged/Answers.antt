use Rattle.std.proofs.Common.{◌≡◌, false, true}
use Rattle.cacache_keep.proofs.Repairs.Shown.{met_so, unmet_so}
use Rattle.cacache_keep.proofs.reading.judged.Goals as goal

pub returns-in-Ok-clause-met : goal.returns-in-Ok-clause-met
returns-in-Ok-clause-met c = λ i bytes fed. met_so i bytes (c.in-Ok.ensures.ok i bytes fed).0

pub returns-in-Err-IntegrityError-clause-met : goal.returns-in-Err-IntegrityError-clause-met
returns-in-Err-IntegrityError-clause-met c =
    λ i bytes fed.
    unmet_so i bytes (λ met. let wrong : false ≡ true = c.in-Err-IntegrityError.ensures.met i bytes fed met in cc)
