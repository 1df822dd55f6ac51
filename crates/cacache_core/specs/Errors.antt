-- Which error a failure becomes, which errors a check and a reading may return, and the texts of errors.
use Rattle.std.specs.{Prelude.{◌≡◌, Option, None, Some, Result, MatchResult, List, Err, ℕ, codes, ◌++◌}, declared.io.ErrorKind.{ErrorKind}, Fmt.{◌++?◌, debug_str, decimal}}
use Rattle.cacache_core.specs.{declared.{errors.{Error.{Error, TheVariants.{IntegrityError, OutOfMemory}}, Fault.{Fault, TheVariants.{NotFound, AlreadyExists, NotADirectory, IsADirectory, NotEmpty, Unsupported, InvalidInput, WriteZero, ShortAppend, Closed, OtherBytes, Cancelled, TooDeep, Device}}, IntegrityFault.{TheVariants.{BadText, ShortDigest, Check}, IntegrityFault}, SerdeCause.{SerdeCause}}, integrity.digest.Hash.{Hash}}, Texts.{integrity_text}}
use Rattle.std.specs.declared.io.ErrorKind.TheVariants as kind
use Rattle.cacache_core.specs.declared.errors.Error.TheVariants as error
use Rattle.cacache_core.specs.declared.errors.SerdeCause.TheVariants as cause

-- the fault for an I/O error's kind: a kind without a fault of its own counts as a device failure
abbrev pub fault_of : ErrorKind → Fault
fault_of kind.NotFound = NotFound
fault_of kind.AlreadyExists = AlreadyExists
fault_of kind.NotADirectory = NotADirectory
fault_of kind.IsADirectory = IsADirectory
fault_of kind.DirectoryNotEmpty = NotEmpty
fault_of kind.Unsupported = Unsupported
fault_of kind.InvalidInput = InvalidInput
fault_of kind.WriteZero = WriteZero
fault_of kind.FilesystemLoop = TooDeep
fault_of _ = Device

-- the kind for a fault: a fault that no kind has gets the nearest one
abbrev pub kind_of : Fault → ErrorKind
kind_of NotFound = kind.NotFound
kind_of AlreadyExists = kind.AlreadyExists
kind_of NotADirectory = kind.NotADirectory
kind_of IsADirectory = kind.IsADirectory
kind_of NotEmpty = kind.DirectoryNotEmpty
kind_of Unsupported = kind.Unsupported
kind_of InvalidInput = kind.InvalidInput
kind_of WriteZero = kind.WriteZero
kind_of ShortAppend = kind.WriteZero
kind_of Closed = kind.Other
kind_of OtherBytes = kind.InvalidInput
kind_of Cancelled = kind.Other
kind_of TooDeep = kind.FilesystemLoop
kind_of Device = kind.Other

-- the kind for an error: that of its fault, or the one that says the same
abbrev pub kind_in : Error → ErrorKind
kind_in (error.EntryNotFound cache key) = kind.NotFound
kind_in (error.SizeMismatch wanted found) = kind.InvalidData
kind_in (error.IoError fault text) = kind_of fault
kind_in (error.SerdeError cause text) = kind.InvalidInput
kind_in (error.IntegrityError (Check wanted found)) = kind.InvalidData
kind_in (error.IntegrityError BadText) = kind.InvalidInput
kind_in (error.IntegrityError ShortDigest) = kind.InvalidInput
kind_in error.OutOfMemory = kind.OutOfMemory

-- the fault in an error, which only the error of a failed step has
abbrev pub fault_in : Error → Option Fault
fault_in (error.EntryNotFound cache key) = None
fault_in (error.SizeMismatch wanted found) = None
fault_in (error.IoError fault text) = Some fault
fault_in (error.SerdeError cause text) = None
fault_in (error.IntegrityError fault) = None
fault_in error.OutOfMemory = None

-- the error is made with the text that a context returned, or is the context's own error
abbrev pub IsContextError : {S : Type 0} → (Result S Error → Type 0) → (S → Error → Type 0)
    → Error → Type 0
IsContextError {S} returned made e =
    (answer : Result S Error) × returned answer
    × MatchResult answer (λ text. made text e) (λ own. e ≡ own)

-- the error is the one with a plain text, or memory for the text was refused
abbrev pub IsTextError : (Error → Type 0) → Error → Type 0
IsTextError made error.OutOfMemory = Unit {0}
IsTextError made e = made e

-- ---- which errors a check and a reading may return

-- a check fails with the integrities wanted and found, or because memory ran out
abbrev pub IsCheckFailure : List Hash → List Hash → Error → Type 0
IsCheckFailure wanted found OutOfMemory = Unit {0}
IsCheckFailure wanted found (IntegrityError fault) = fault ≡ Check wanted found
IsCheckFailure wanted found _ = ⊥

-- a reading fails with its fault, or because memory ran out
abbrev pub IsReadFailure : {T : Type 0} → Result T IntegrityFault → Error → Type 0
IsReadFailure reading OutOfMemory = Unit {0}
IsReadFailure reading (IntegrityError fault) = reading ≡ Err fault
IsReadFailure reading _ = ⊥

-- ---- how a fault, and the cause of a refused entry, are described in words

-- a few plain words for each fault
abbrev pub fault_text : Fault → List ℕ
fault_text NotFound = codes "not found"
fault_text AlreadyExists = codes "already there"
fault_text NotADirectory = codes "not a folder"
fault_text IsADirectory = codes "a folder"
fault_text NotEmpty = codes "folder not empty"
fault_text Unsupported = codes "not supported"
fault_text InvalidInput = codes "not a valid path"
fault_text WriteZero = codes "nothing was written"
fault_text ShortAppend = codes "only a part was appended"
fault_text Closed = codes "already closed"
fault_text OtherBytes = codes "other bytes than those under way"
fault_text Cancelled = codes "cancelled"
fault_text TooDeep = codes "too deep or too many links"
fault_text Device = codes "device or system error"

-- a few plain words for each cause
abbrev pub cause_text : SerdeCause → List ℕ
cause_text cause.TimeTooLarge = codes "time too large"
cause_text cause.NotWhole = codes "number not an integer of 64 bits"
cause_text cause.TooDeep = codes "nested too deeply"

-- ---- the texts `{}` of errors

-- why an integrity was refused, or which integrities differ
abbrev pub refusal_text : IntegrityFault → List ℕ
refusal_text BadText = codes "integrity text not readable"
refusal_text ShortDigest = codes "integrity digest shorter than three bytes"
refusal_text (Check wanted found) =
    codes "Integrity check failed.\n\tWanted: " ++ integrity_text wanted ++ codes "\n\tActual: " ++ integrity_text found

-- the text of an error; that of an ASCII cache and key alone is known if the entry isn't found
abbrev pub error_text : Error → Option (List ℕ)
error_text (error.EntryNotFound cache key) =
    Some (codes "Entry not found for key ") ++? debug_str key ++? Some (codes " in cache ") ++? debug_str cache
error_text (error.SizeMismatch wanted found) =
    Some (codes "Size check failed.\n\tWanted: " ++ decimal wanted ++ codes "\n\tActual: " ++ decimal found)
error_text (error.IoError fault text) = Some text
error_text (error.SerdeError cause text) = Some text
error_text (error.IntegrityError fault) = Some (refusal_text fault)
error_text error.OutOfMemory = Some (codes "out of memory")
