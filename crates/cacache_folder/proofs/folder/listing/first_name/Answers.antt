use Rattle.std.proofs.Common.{refl}
use Rattle.cacache_folder.proofs.Entries.{cuts_some, cuts_none}
use Rattle.cacache_folder.proofs.folder.listing.first_name.Goals as goal

pub returns-in-Some-clause-cut : goal.returns-in-Some-clause-cut
returns-in-Some-clause-cut c = cuts_some c.args.names.now _ _ c.in-Some.at c.in-Some.ensures refl refl

pub returns-in-None-clause-cut : goal.returns-in-None-clause-cut
returns-in-None-clause-cut c = cuts_none c.args.names.now _ c.in-None.ensures refl
