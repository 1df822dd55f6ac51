-- Contents that are opened and read in pieces, or to their end, and what a call took of its buffer.
use Rattle.std.specs.{Prelude.{◌≡◌, ◌++◌, ℕ, List, Option, [], Result, Ok, Err, take, ◌⊎◌, None, Some, IfSome}, Io.KnownBytes.{Consumes, Appends}}
use Rattle.cacache_core.specs.{declared.{errors.{Error.{Error, TheVariants.{EntryNotFound, IoError, IntegrityError, OutOfMemory}}, IntegrityFault.TheVariants.{Check}}, integrity.{digest.Hash.{Hash}, algorithm.Algorithm.{Algorithm}}}, Hashers.{Compares}, Integrity.{Meets, strongest, actual}}
use Rattle.cacache_store.specs.declared.store.{log.LogItem.{LogItem}, plain.PlainFile.{PlainFile}}
use Rattle.cacache_calls.specs.{declared.reply.Reply.{Reply, TheVariants.{LookedUp, Refused}}, Steps.{content_path}, Runs.{Ran, without_message}, Table.{opening}, SingleSteps.{Does, FailsAt}}
use Rattle.cacache_sync.specs.{declared.content.reader.SyncReader.{SyncReader}, content.OpenWrites.{counted_bytes}}
use Rattle.cacache_entry.specs.Bucket.{Found}
use Rattle.cacache_jobs.specs.JobStates.{site_of}
use Rattle.cacache_store.specs.declared.store.answer.Answer.TheVariants as answers
use Rattle.cacache_store.specs.declared.store.step.Step.TheVariants as steps
use Rattle.cacache_calls.specs.declared.command.Command.TheVariants as commands

-- a beginning of these bytes was given, which what is left lost
abbrev pub GivesPart :
    {R : Type 0} → (R → Option (List ℕ)) → (R → R → List ℕ → Type 0) → R → R → List ℕ → Type 0
GivesPart left gave old new bytes =
    (front rest : List ℕ) × (bytes ≡ front ++ rest) × gave old new front
    × Consumes (left old) (left new) front

-- ---- what a call that moves bytes took of its buffer

-- the front of a buffer that a call moved, and nothing if it failed
abbrev pub passed : {E : Type 0} → Result ℕ E → List ℕ → List ℕ
passed (Ok n) buf = take n buf
passed (Err e) buf = []

-- ---- bytes in pieces

-- the reader gave these bytes so far, and checks them against this integrity
abbrev pub HasRead : {F : Type 0} → SyncReader F → List Hash → List ℕ → Type 0
HasRead r i bytes = Compares r.checker i bytes

-- the reader gave these bytes more, whatever it gave before and checks them against
abbrev pub ReadsMore : {F : Type 0} → SyncReader F → SyncReader F → List ℕ → Type 0
ReadsMore old new more =
    (i : List Hash) (bytes : List ℕ)
    → HasRead old i bytes
    → HasRead new i (bytes ++ more)

-- it gave a beginning of these, which its file lost
abbrev pub ReadsPart : {F : Type 0} → (F → PlainFile) → SyncReader F → SyncReader F → List ℕ → Type 0
ReadsPart file old new bytes =
    (front rest : List ℕ) × (bytes ≡ front ++ rest) × ReadsMore old new front
    × Consumes (file old.file).bytes (file new.file).bytes front

-- ---- the opening of a file: before and after

-- the store opened the file at the path
abbrev pub OpensFile :
    List ℕ → PlainFile → Option (List LogItem) → Option (List LogItem) → Type 0
OpensFile path file old new = Does (steps.Open path) (answers.File file) old new

-- the store didn't
abbrev pub FailsToOpen :
    List ℕ → Error → Option (List LogItem) → Option (List LogItem) → Type 0
FailsToOpen path e old new = FailsAt (steps.Open path) e old new

-- ---- the opening of a content: before and after

-- a lookup of the key gave this reply
abbrev pub FindsKey :
    List ℕ → List ℕ → List ℕ → Reply → Option (List LogItem) → Option (List LogItem) → Type 0
FindsKey cache base key r old new = Ran (opening (site_of cache base 0) (commands.Find key)) r old new

module _ {F : Type 0} (file : F → PlainFile) (cache : List ℕ) where
  -- a reader of the integrity's content that gave nothing yet, or why there is none
  abbrev pub OpensHash :
      List Hash → Result (SyncReader F) Error → Option (List LogItem) → Option (List LogItem)
      → Type 0
  OpensHash i (Ok r) old new = HasRead r i [] × OpensFile (content_path cache i) (file r.file) old new
  OpensHash i (Err e) old new = FailsToOpen (content_path cache i) e old new

  module _ (base key : List ℕ) where
    -- a lookup of the key found an integrity, and then its content was to be opened
    abbrev pub OpensFound :
        Result (SyncReader F) Error → Option (List LogItem) → Option (List LogItem) → Type 0
    OpensFound r old new =
        (found : Found) × (mid : Option (List LogItem))
        × FindsKey cache base key (LookedUp (Some found)) old mid
        × OpensHash found.integrity r mid new

    -- the same for every outcome of the lookup; `EntryNotFound` says exactly that it found nothing
    abbrev pub OpensKey :
        Result (SyncReader F) Error → Option (List LogItem) → Option (List LogItem) → Type 0
    OpensKey (Ok r) old new = OpensFound (Ok r) old new
    OpensKey (Err (EntryNotFound c k)) old new =
        (c ≡ cache) × (k ≡ key) × FindsKey cache base key (LookedUp None) old new
    OpensKey (Err e) old new =
        FindsKey cache base key (Refused (without_message e)) old new ⊎ OpensFound (Err e) old new

-- ---- the rest of a content: it is read to its end, and perhaps passed on to a writer

-- these are all the bytes that a file has left, if those are known
abbrev pub AreLeft : PlainFile → List ℕ → Type 0
AreLeft file rest = IfSome file.bytes (λ bytes. rest ≡ bytes)

-- a reader gave all that was left, and a writer got exactly that: so many bytes
abbrev pub PassesOn :
    {F : Type 0} → (F → PlainFile) → SyncReader F → SyncReader F
    → Option (List ℕ) → Option (List ℕ) → ℕ → Type 0
PassesOn file old new before after count =
    (rest : List ℕ) × AreLeft (file old.file) rest × ReadsMore old new rest
    × Appends before after rest × (count ≡ counted_bytes rest)

-- the error says that a read or a write failed, or that memory was refused
abbrev pub IsUnread : Error → Type 0
IsUnread OutOfMemory = Unit {0}
IsUnread (IoError fault message) = Unit {0}
IsUnread e = ⊥

module _ (file : PlainFile) (i : List Hash) (bytes : List ℕ) where
  -- after these bytes the file gave its rest, and both together meet the integrity
  abbrev pub MeetsWith : List ℕ → Type 0
  MeetsWith rest = AreLeft file rest × Meets i (bytes ++ rest)

  -- both together don't, and have another integrity
  abbrev pub FailsWith : List ℕ → Error → Type 0
  FailsWith rest e =
      AreLeft file rest × (Meets i (bytes ++ rest) → ⊥)
      × (e ≡ IntegrityError (Check i (actual i (bytes ++ rest))))

  -- why the whole wasn't passed on and found right: a read or a write failed, or the check of all bytes
  abbrev pub FailsToEnd : Error → Type 0
  FailsToEnd OutOfMemory = Unit {0}
  FailsToEnd (IoError fault message) = Unit {0}
  FailsToEnd (IntegrityError fault) = (rest : List ℕ) × FailsWith rest (IntegrityError fault)
  FailsToEnd e = ⊥

  -- the rest was read, and the check found all bytes right, by its strongest algorithm
  abbrev pub Finishes : Result Algorithm Error → Type 0
  Finishes (Ok a) = ((rest : List ℕ) × MeetsWith rest) × (strongest i ≡ Some a)
  Finishes (Err e) = FailsToEnd e

  -- the rest was read, the writer got exactly that, and the check found all bytes right
  abbrev pub CopiesTo : Option (List ℕ) → Option (List ℕ) → Result ℕ Error → Type 0
  CopiesTo before after (Ok count) =
      (rest : List ℕ) × MeetsWith rest × Appends before after rest × (count ≡ counted_bytes rest)
  CopiesTo before after (Err e) = FailsToEnd e
