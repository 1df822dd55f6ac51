use Rattle.cacache_loss.proofs.SyncedFolders.{own_folders_are_enough, five_for_contents, four_for_buckets}
use Rattle.cacache_loss.proofs.laws.folder_laws.Goals as goal

pub returns-clause-folders : goal.returns-clause-folders
returns-clause-folders c = own_folders_are_enough

pub returns-clause-content : goal.returns-clause-content
returns-clause-content c = five_for_contents

pub returns-clause-bucket : goal.returns-clause-bucket
returns-clause-bucket c = four_for_buckets
