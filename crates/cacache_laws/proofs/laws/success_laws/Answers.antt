use Rattle.cacache_laws.proofs.{Sure.{Succeeds.{puts_answer, insertions_answer, deletions_answer, lookups_answer, content_reads_answer, key_reads_answer, questions_answer, removals_answer, openings_succeed, commits_answer}, SureRemovals.{full_removals_answer, clearings_answer}, SureLists.{listings_answer}, SureExports.{exports_answer}, SureCopies.{exports_succeed}, SureLinks.{linkers_answer, links_answer}, SureReaders.{key_readers_answer, linker_openings_answer, readers_answer, sized_openings_answer}, SureStays.{others_keep_files, puts_keep_files}}, Spares.Unused.{others_leave_none, puts_leave_own, puts_leave_tidy, fresh_is_ready, same_is_ready}, trees.Covering.{home_named}}
use Rattle.cacache_laws.proofs.laws.success_laws.Goals as goal

pub returns : goal.returns
returns c = record {
  homes = λ cache folder. (folder.0, home_named cache folder.0 folder.1);
  puts = puts_answer;
  inserts = insertions_answer;
  deletes = deletions_answer;
  finds = lookups_answer;
  reads = content_reads_answer;
  gets = key_reads_answer;
  asks = questions_answer;
  removes = removals_answer;
  removes_fully = full_removals_answer;
  lists = listings_answer;
  clears = clearings_answer;
  opens = openings_succeed;
  commits = commits_answer;
  exports = exports_succeed;
  exports_answer = exports_answer;
  links = links_answer;
  opens_link = linker_openings_answer;
  opens_sized = sized_openings_answer;
  commits_link = linkers_answer;
  opens_reader = readers_answer;
  opens_key = key_readers_answer;
  keeps_files = others_keep_files;
  puts_keep_files = puts_keep_files;
  others = others_leave_none;
  own = puts_leave_own;
  tidy = puts_leave_tidy;
  fresh = fresh_is_ready;
  same = same_is_ready;
}
