use Rattle.std.{proofs.Common.{◌≡◌, subst, option_map}, specs.Result.{result_ok}}
use Rattle.cacache_core.specs.Paths.{names_of}
use Rattle.cacache_world.proofs.NamesOfPaths.{none_among}
use Rattle.cacache_world.proofs.names.is_outside.Goals as goal

pub returns-in-None : goal.returns-in-None
returns-in-None c = λ cache callers.
    none_among c.args.outside.now c.args.path.now (subst (λ names. option_map (λ v. v.items) names ≡ result_ok (names_of c.args.path.now)) c.in-None.is c.in_ok-names.ensures)
