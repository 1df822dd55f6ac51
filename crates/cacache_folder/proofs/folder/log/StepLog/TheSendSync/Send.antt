-- A log owns nothing, so it may go to another thread.
use denote.RattleType.{RattleType}
use denote.Param.Send.{IsSend, owning_send, sendable}
use Rattle.cacache_folder.specs.contracts.folder.log.StepLog.{the_row, the_type}

pub send : (S A : RattleType) → IsSend S → IsSend A → IsSend (the_row S A)
send S A s a = owning_send (the_type S A) (search sendable, tt) (λ d. tt) (λ k x w. tt)
