-- What is printed for a lookup isn't empty.
use Rattle.std.proofs.Common.{◌<◌, [], ◌∷◌, Option, Some, None, length, arith, length-append}
use Rattle.cacache.specs.Entries.{Found}
use Rattle.cacache_program.specs.{PrintedEntries.{entry_text}, WordFind.{found_line}}

-- what is printed for a lookup has a byte at least
pub found_line_has_bytes : (found : Option Found) → 0 < length (found_line found)
found_line_has_bytes None = omega arith
found_line_has_bytes (Some f) = let all = length-append (entry_text f) (10 ∷ []) in omega (arith, all)
