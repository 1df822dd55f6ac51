-- The items so far are gathered.
use Rattle.std.proofs.Common.{◌≡◌, is_some, filter_map}
use Rattle.cacache_program.specs.{WordLs.{has_error, line_in}, Lines.{lines_of}}
use Rattle.cacache_program.proofs.lines.gather.Given as goal

abbrev pub invariant-loop-item : goal.invariant-loop-item
invariant-loop-item l = record {
  lines : lines_of l.lines ≡ filter_map line_in l.yielded;
  error : is_some l.lines.first_error ≡ has_error l.yielded;
}
