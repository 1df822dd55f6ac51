-- A commit is what the laws say.
use Rattle.std.proofs.Common.{Some}
use Rattle.uses_client.proofs.writing.finish.Goals as goal

pub returns-clause-commits : goal.returns-clause-commits
returns-clause-commits g c = λ cache s bytes sound writing fits small. c.writer_laws.ensures.commits cache (Some c.args.key.now) s bytes c.args.writer c.commit-stored.result c.args.env.now sound writing fits c.utf8.key small (c.commit-stored.ensures.ran bytes writing.taken)

pub returns-clause-tells : goal.returns-clause-tells
returns-clause-tells g c = λ cache s bytes sound folder file writing small. c.writer_laws.ensures.tells cache (Some c.args.key.now) s bytes c.args.writer c.commit-stored.result c.args.env.now sound folder file writing small (c.commit-stored.ensures.ran bytes writing.taken)
