use Rattle.cacache_laws.proofs.results.LinkerResults.{link_commits_mean, link_openings_mean, linkers_go_on, plain_says_fit, sized_openings_mean}
use Rattle.cacache_laws.proofs.results.linkers.linker_laws.Goals as goal

pub returns : goal.returns
returns g c = record {
  plain = plain_says_fit;
  goes_on = linkers_go_on;
  opens = link_openings_mean c.args.env.now c.log-log.ensures.replayable;
  opens_sized = sized_openings_mean c.args.env.now c.log-log.ensures.replayable;
  commits = link_commits_mean g.C.Clock.given c.args.env.now c.log-log.ensures.replayable;
}
