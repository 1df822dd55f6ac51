-- Calls that are no run of a step.
use Rattle.std.specs.Prelude.{◌≡◌, ℕ, Bool, true, List, [], ◌∷◌}
use Rattle.std_io.specs.declared.io.kind.ErrorKind.{ErrorKind}
use Rattle.cacache_store.specs.declared.store.answer.Kind.TheVariants as kinds
use Rattle.cacache_store.specs.declared.store.step.Step.TheVariants as steps
use Rattle.cacache_system.specs.declared.call.SystemCall.TheVariants as asks
use Rattle.cacache_system.specs.{declared.call.{FileInfo.{FileInfo}, SystemCall.{SystemCall}, CallItem.{CallItem}, CallResult.{CallResult, TheVariants.{Done, Opened, Count, Info, Failed}}}, Seen.{item, NumberedTemp, NumberedStep}, CallsOf.{Runs}, AnswersOf.{Hint, rewrites, first}}

-- the calls are no run of the step, however it begins and whatever they end with
abbrev pub IsNoRun : NumberedStep → List CallItem → Type 0
IsNoRun step items = (hint : Hint) (end : CallResult) → Runs (first hint step) items end → ⊥

-- after a write that took bytes of a line there is no other
abbrev pub NoSecondWrite : Type 0
NoSecondWrite =
    (path bytes : List ℕ) (file k j : ℕ)
    → IsNoRun (steps.Append path bytes)
    (item (asks.OpenToAppend path) (Opened file) ∷ item (asks.Write file bytes) (Count k)
    ∷ item (asks.Write file bytes) (Count j) ∷ [])

-- what is where a file is put isn't removed first
abbrev pub NoRemovalBeforePut : Type 0
NoRemovalBeforePut =
    (temp : NumberedTemp) (path : List ℕ) (said : CallResult) (rest : List CallItem)
    → IsNoRun (steps.Persist temp path) (item (asks.RemoveFile path) said ∷ rest)

-- a temporary file has no mode other than the one with which only its owner may read and write it
abbrev pub NoOtherMode : Type 0
NoOtherMode =
    (path : List ℕ) (mode : ℕ) (said : CallResult) (rest : List CallItem) → (mode ≡ 384 → ⊥)
    → IsNoRun (steps.CreateTemp path) (item (asks.CreateNew path mode) said ∷ rest)

-- no file other than the temporary one is synced
abbrev pub NoOtherSync : Type 0
NoOtherSync =
    (temp : NumberedTemp) (file : ℕ) (said : CallResult) (rest : List CallItem)
    → (file ≡ temp.number → ⊥)
    → IsNoRun (steps.SyncTemp temp) (item (asks.Sync file) said ∷ rest)

-- a file isn't synced in place of a folder
abbrev pub NoFileForFolder : Type 0
NoFileForFolder =
    (path : List ℕ) (file : ℕ) (info : FileInfo) (said : CallResult) (rest : List CallItem)
    → info.kind ≡ kinds.File
    → IsNoRun (steps.SyncDir path)
    (item (asks.OpenToRead path) (Opened file) ∷ item (asks.StatFile file) (Info info)
    ∷ item (asks.Sync file) said ∷ rest)

-- a file at the target of a copy isn't opened, since the copy would empty it for each of its paths
abbrev pub NoCopyInPlace : Type 0
NoCopyInPlace =
    (from to onto : List ℕ) (source target : FileInfo) (said : CallResult) (rest : List CallItem)
    → target.kind ≡ kinds.File → target.regular ≡ true
    → IsNoRun (steps.Copy from to)
    (item (asks.Stat from) (Info source) ∷ item (asks.StatLink to) (Info target)
    ∷ item (asks.CopyFile from onto) said ∷ rest)

-- a file that was read isn't replaced before the new one got its owner and its mode
abbrev pub NoMoveWithoutMode : Type 0
NoMoveWithoutMode =
    (temp : NumberedTemp) (path : List ℕ) (synced : Bool) (info : FileInfo)
    (said end : CallResult) (rest : List CallItem)
    → Runs (first (rewrites synced) (steps.Persist temp path))
    (item (asks.Stat path) (Info info)
    ∷ item (asks.SetOwner temp.number info.owner info.group) Done
    ∷ item (asks.Rename temp.path path) said ∷ rest) end
    → ⊥

-- after the owner is refused no other call follows
abbrev pub NoCallWithoutOwner : Type 0
NoCallWithoutOwner =
    (temp : NumberedTemp) (path : List ℕ) (synced : Bool) (info : FileInfo)
    (why : ErrorKind) (call : SystemCall) (said end : CallResult) (rest : List CallItem)
    → Runs (first (rewrites synced) (steps.Persist temp path))
    (item (asks.Stat path) (Info info)
    ∷ item (asks.SetOwner temp.number info.owner info.group) (Failed why) ∷ item call said ∷ rest) end
    → ⊥
