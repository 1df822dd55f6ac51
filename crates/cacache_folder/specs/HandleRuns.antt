-- The calls that open files of real folders make by themselves.
use Rattle.std.specs.Prelude.{◌==◌, ◌&&◌, not, ℕ, min, false, List, if◌then◌else◌}
use Rattle.std_io.specs.declared.io.kind.ErrorKind.TheVariants.{FileTooLarge}
use Rattle.cacache_system.specs.{declared.call.{SystemCall.TheVariants.{Read, Write}, CallResult.TheVariants.{Failed}}, CallsOf.{Stage, over, trying}, Seen.{NumberedFile, NumberedTemp}}

-- a read asks for no more than is left; past 2^64 - 1 bytes it asks for nothing, and fails
abbrev pub reading : NumberedFile → ℕ → Stage
reading file room =
    if file.left == 0 && not (room == 0)
    then over (Failed FileTooLarge)
    else trying false (Read file.number (min room file.left))

-- a write hands in all its bytes
abbrev pub writing : NumberedTemp → List ℕ → Stage
writing temp bytes = trying false (Write temp.number bytes)
