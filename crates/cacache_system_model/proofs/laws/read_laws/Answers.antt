use Rattle.cacache_system_model.proofs.Steps.{Reading.{read_breaks, pieces_read_plainly}, Whole.{read_all_agrees}}
use Rattle.cacache_system_model.proofs.laws.read_laws.Goals as goal

pub returns : goal.returns
returns c = record { whole = read_all_agrees; piece = read_breaks; plainly = pieces_read_plainly }
