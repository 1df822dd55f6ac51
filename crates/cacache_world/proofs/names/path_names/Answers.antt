use Rattle.std.{proofs.Common.{subst, option_map, ◌≡◌}, specs.Prelude.{IfOk}}
use Rattle.cacache_world.proofs.NamesOfPaths.{no_names}
use Rattle.cacache_world.proofs.names.path_names.Goals as goal
use Rattle.cacache_loss.proofs.LeftNodes.{home_named}

pub returns-then-is_empty : goal.returns-then-is_empty
returns-then-is_empty c = no_names c.args.text.now (cc)

pub returns : goal.returns
returns c = subst (λ names. IfOk c.home_names.result (λ found. option_map (λ v. v.items) found ≡ names)) (home_named c.args.text.now (cc)) c.home_names.ensures
