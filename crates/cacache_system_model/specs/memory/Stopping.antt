-- The errors that say why a call isn't done.
use Rattle.std.specs.Prelude.{Result, Ok, Err}
use Rattle.std_io.specs.declared.io.kind.ErrorKind.{ErrorKind}
use Rattle.std_io.specs.declared.io.kind.ErrorKind.TheVariants as kind
use Rattle.cacache_core.specs.declared.errors.Fault.{Fault}
use Rattle.cacache_core.specs.declared.errors.Fault.TheVariants as faults
use Rattle.cacache_disk.specs.declared.stop.Stop.{Stop}
use Rattle.cacache_disk.specs.declared.stop.Stop.TheVariants as stop
use Rattle.cacache_system.specs.declared.call.CallResult.{CallResult, TheVariants.{Failed}}

-- the kind of error that says a fault
abbrev pub kind_for : Fault → ErrorKind
kind_for faults.NotFound = kind.NotFound
kind_for faults.AlreadyExists = kind.AlreadyExists
kind_for faults.NotADirectory = kind.NotADirectory
kind_for faults.IsADirectory = kind.IsADirectory
kind_for faults.NotEmpty = kind.DirectoryNotEmpty
kind_for faults.Unsupported = kind.Unsupported
kind_for faults.InvalidInput = kind.InvalidInput
kind_for faults.WriteZero = kind.WriteZero
kind_for faults.TooDeep = kind.FilesystemLoop
kind_for fault = kind.Other

-- the kind that says why a call isn't done
abbrev pub kind_of : Stop → ErrorKind
kind_of (stop.Fault fault) = kind_for fault
kind_of stop.OutOfMemory = kind.OutOfMemory

-- what is said about a call that gave this or stopped
abbrev pub outcome : {A : Type 0} → (A → CallResult) → Result A Stop → CallResult
outcome say (Ok value) = say value
outcome say (Err why) = Failed (kind_of why)
