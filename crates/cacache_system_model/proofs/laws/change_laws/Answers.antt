use Rattle.cacache_system_model.proofs.Steps.{Changing.{create_agrees, symlink_agrees, hard_link_agrees, reflink_breaks}, Moving.{persist_agrees}}
use Rattle.cacache_system_model.proofs.laws.change_laws.Goals as goal

pub returns : goal.returns
returns c = record {
  create = create_agrees;
  persist = persist_agrees;
  symlink = symlink_agrees;
  hard_link = hard_link_agrees;
  reflink = reflink_breaks;
}
