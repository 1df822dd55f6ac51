use Rattle.cacache_writers.proofs.Alone.{new_is_whole, poll_keeps, take_brings, end_restores, whole_holds}
use Rattle.cacache_writers.proofs.laws.file_laws.Goals as goal

pub returns-clause-new : goal.returns-clause-new
returns-clause-new g c start = new_is_whole _ start

pub returns-clause-polls : goal.returns-clause-polls
returns-clause-polls g c start = poll_keeps _ start

pub returns-clause-takes : goal.returns-clause-takes
returns-clause-takes g c start = take_brings _ start

pub returns-clause-ends : goal.returns-clause-ends
returns-clause-ends g c start agree = end_restores _ start _ g.T.TempFile.writes g.T.RemovableTemp.removes agree

pub returns-clause-holds : goal.returns-clause-holds
returns-clause-holds g c start = whole_holds _ start
