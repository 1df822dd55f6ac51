use Rattle.cacache_system_model.proofs.memory.Occurring.{goes_occur, moves_occur, writes_occur, refusals_occur}
use Rattle.cacache_system_model.proofs.memory.laws.model_laws.Goals as goal

pub returns : goal.returns
returns c = record { goes = goes_occur; moves = moves_occur; writes = writes_occur; refusals = refusals_occur }
