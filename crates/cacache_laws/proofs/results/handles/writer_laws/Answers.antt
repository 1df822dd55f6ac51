use Rattle.cacache_laws.proofs.results.{LinkerResults.{plain_says_fit}, WriterResults.{commits_tell, commits_mean, commits_succeed, failed_writes_mean, giving_up_means, openings_mean, writers_go_on}}
use Rattle.cacache_laws.proofs.results.handles.writer_laws.Goals as goal

pub returns : goal.returns
returns g c = record {
  plain = plain_says_fit;
  goes_on = writers_go_on;
  opens = openings_mean g.N.Names.given c.args.env.now c.log-log.ensures.replayable;
  commits = commits_mean g.C.Clock.given c.args.env.now c.log-log.ensures.replayable;
  succeeds = commits_succeed g.C.Clock.given c.args.env.now c.log-log.ensures.replayable;
  tells = commits_tell g.C.Clock.given c.args.env.now c.log-log.ensures.replayable;
  gives_up = giving_up_means c.args.env.now c.log-log.ensures.replayable;
  fails = failed_writes_mean c.args.env.now c.log-log.ensures.replayable;
}
