use Rattle.uses_worlds.proofs.Callers.{folders_are_safe}
use Rattle.uses_worlds.proofs.folders.folders_are_safe.Goals as goal

pub returns : goal.returns
returns c = folders_are_safe c.system_history_laws.ensures.seen
