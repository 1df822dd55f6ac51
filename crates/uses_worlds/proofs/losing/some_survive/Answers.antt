use Rattle.uses_worlds.proofs.Losses.{some_survive}
use Rattle.uses_worlds.proofs.losing.some_survive.Goals as goal

pub returns : goal.returns
returns c = some_survive c.durable_cases.ensures.last c.durable_laws.ensures c.loss_results.ensures.last
