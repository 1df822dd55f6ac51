use Rattle.cacache_keep.proofs.{Losses.{GrownLosses.{compactions_grow}, LeanLosses.{compactions_last, compactions_fix, compactions_outlast}, SparedLosses.{compactions_spare}}, Collections.{Behind.{collections_keep_keys, later_keys_stay, caches_are_swept}, StoppedKeys.{stopped_keep_keys}, Leaving.{plans_foretell, plans_leave, collections_lack_idle, collections_leave, collections_settle}, Tidying.{later_reads_stay, looks_stay}}, NewBuckets.WholeCompactions.{compactions_are_unseen, compactions_leave, compactions_stop}, Repairs.{Houses.{repairs_house, sweeps_house, sweeps_keep_good}, Whole.{repairs_mend, repairs_keep_good, repairs_verify}, Shown.{lists_hold, verdicts_judge}}}
use Rattle.cacache_keep.proofs.laws.keep_laws.Goals as goal

pub returns : goal.returns
returns c = record {
  logged = c.log-log.ensures.replayable;
  lists = lists_hold;
  verifies = verdicts_judge;
  collects = collections_leave;
  lacks = collections_lack_idle;
  settles = collections_settle;
  looks = looks_stay;
  later = later_reads_stay;
  keys = collections_keep_keys;
  stopped = stopped_keep_keys;
  later_keys = later_keys_stay;
  plans_leave = plans_leave;
  plans = plans_foretell;
  sweeps = caches_are_swept;
  repairs = repairs_mend;
  verified = repairs_verify;
  good = repairs_keep_good;
  houses = repairs_house;
  sweeps_house = sweeps_house;
  sweeps_good = sweeps_keep_good;
  compacts = compactions_leave;
  cut_short = compactions_stop;
  unseen = compactions_are_unseen;
  fixes = compactions_fix;
  outlasts = compactions_outlast;
  spares = compactions_spare;
  lasts = compactions_last;
  grows = compactions_grow;
}
