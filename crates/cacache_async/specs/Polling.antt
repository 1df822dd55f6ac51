-- What is read by polls: how it opens, and what a poll fails with.
use Rattle.std.specs.{Prelude.{ℕ, Result, Ok, Err}, IoError.{error_kind}}
use Rattle.cacache_core.specs.{declared.errors.Error.{Error}, Errors.{fault_of}}
use Rattle.cacache_store.specs.Outside.{Error as IoError}
use Rattle.cacache_sync.specs.declared.{content.reader.SyncReader.{SyncReader}, put.linker.SyncToLinker.{SyncToLinker}}
use Rattle.cacache_async.specs.{Futures.{TellsFault}, declared.{reader.Reader.{Reader}, linker.ToLinker.{ToLinker}}}

-- a poll answers as a read of the handle did: how many bytes there were, or the fault
abbrev pub TellsRead :
    {F : Type 0} → (F → ℕ → Result ℕ IoError → F → Type 0)
    → F → ℕ → Result ℕ Error → F → Type 0
TellsRead reads old room (Ok count) new = reads old room (Ok count) new
TellsRead reads old room (Err e) new =
    (failed : IoError) × reads old room (Err failed) new
    × TellsFault (fault_of (error_kind failed)) e

-- the open content, or why there is none
abbrev pub reader_in : {F : Type 0} → Result (Reader F) Error → Result (SyncReader F) Error
reader_in (Ok r) = Ok r.reader
reader_in (Err e) = Err e

-- the open target, or why there is none
abbrev pub linker_in : {F : Type 0} → Result (ToLinker F) Error → Result (SyncToLinker F) Error
linker_in (Ok l) = Ok l.linker
linker_in (Err e) = Err e
