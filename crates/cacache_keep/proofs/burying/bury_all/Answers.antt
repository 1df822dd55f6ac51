use Rattle.std.proofs.Common.{inl, map}
use Rattle.cacache_entry.specs.View.{found_view}
use Rattle.cacache_jobs.specs.JobStates.{site_of}
use Rattle.cacache_keep.{specs.Repairing.{StopsBuryingAll}, proofs.Stopped.{error_as}}
use Rattle.cacache_keep.proofs.burying.bury_all.Goals as goal

pub returns-in_err-shown-clause-stops : goal.returns-in_err-shown-clause-stops
returns-in_err-shown-clause-stops g c =
    let site = site_of c.args.cache.now c.args.env.now.base 0 in
    error_as (λ x. StopsBuryingAll site (map found_view c.args.entries.items) x (g.S.Store.log c.args.env.now.store) (g.S.Store.log c.look.new.env.store)) c.from_residual.result c.in_err-shown.field-0.0 c.from_residual.ensures.1
    (inl c.in_err-shown.ensures.stops)
