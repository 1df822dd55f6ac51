use Rattle.cacache_value.proofs.Traces.{traces_act, traces_show, buckets_grow}
use Rattle.cacache_value.proofs.laws.trace_laws.Goals as goal

pub returns-clause-acts : goal.returns-clause-acts
returns-clause-acts c = traces_act

pub returns-clause-shows : goal.returns-clause-shows
returns-clause-shows c = traces_show

pub returns-clause-buckets_grow : goal.returns-clause-buckets_grow
returns-clause-buckets_grow c = buckets_grow
