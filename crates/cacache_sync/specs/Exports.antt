-- What exports are asked to do, and exports that go the cheapest way that a mode allows.
use Rattle.std.specs.Prelude.{ℕ, List, Bool, true, false, ⊤, ◌≡◌, MatchBool, [], ◌∷◌, Option, Result, Ok, Err, IfOk}
use Rattle.cacache_core.specs.{Integrity.{IsIntegrity}, declared.errors.{Error.{Error, TheVariants.{IoError, OutOfMemory}}, Fault.TheVariants.{AlreadyExists, Device, NotFound, Unsupported}}}
use Rattle.cacache_calls.specs.{declared.{command.{Command.{Command}, Source.{Source, TheVariants.{Key, Hash}}, How.{How, TheVariants.{Copy, HardLink}}}, answers.Refusal.{Refusal, TheVariants.{Fault}}, reply.Reply.{Reply, TheVariants.{Copied, Done}}}, Answers.{done_in}, SingleSteps.{Does}, Runs.{reply_of}}
use Rattle.cacache_sync.specs.declared.{exporting.Named.{Named}, ways.{Exported.{Exported}, ExportMode.{ExportMode, TheVariants.{Shared, Own}}}}
use Rattle.cacache_store.specs.{declared.{env.Env.{Env}, store.log.LogItem.{LogItem}}, Plain.{PlainAnswer}}
use Rattle.cacache_jobs.specs.{Environment.{Calls, KeepsRest}, ReadFirst.{Verified}}
use Rattle.cacache_calls.specs.declared.command.Command.TheVariants as commands
use Rattle.cacache_sync.specs.declared.exporting.Named.TheVariants as named
use Rattle.cacache_store.specs.declared.store.step.Step.TheVariants as steps
use Rattle.cacache_sync.specs.declared.ways.Exported.TheVariants as exported

-- what is named, as the source of a command
abbrev pub named_source : Named → Source
named_source (named.Key key) = Key key.now
named_source (named.Hash sri) = Hash sri.now

-- an integrity that is named is one
abbrev pub IsFormed : Named → Type 0
IsFormed (named.Key key) = ⊤
IsFormed (named.Hash sri) = IsIntegrity sri.now

-- the content of the source goes to a place that is outside the cache, verified first or not
abbrev pub exporting : How → Bool → Source → List ℕ → Command
exporting how checked source to =
    commands.Export source (record { how = how; checked = checked; to = to })

-- an export that verifies the content first
abbrev pub checked_export : How → Source → List ℕ → Command
checked_export how = exporting how true

-- an export that doesn't verify the content
abbrev pub unchecked_export : How → Source → List ℕ → Command
unchecked_export how = exporting how false

-- ---- exports that go the cheapest way

-- the ways that a mode allows, cheapest first
abbrev pub ways : ExportMode → List How
ways Shared = HardLink ∷ Copy ∷ []
ways Own = Copy ∷ []

-- the way that an export went
abbrev pub way_of : Exported → How
way_of exported.HardLinked = HardLink
way_of (exported.Copied count) = Copy

-- the answer of an export that went this way
abbrev pub export_reply : Exported → Reply
export_reply exported.HardLinked = Done
export_reply (exported.Copied count) = Copied count

-- the store can't go this way, or its device doesn't let it, as one that isn't the cache's
abbrev pub is_closed : Result Exported Error → Bool
is_closed (Err (IoError Unsupported message)) = true
is_closed (Err (IoError Device message)) = true
is_closed r = false

-- what a hard link of a path to itself tells, by what came of it: nothing is there, or why nothing can
-- be made there
abbrev pub free_in : Result (Unit {0}) Refusal → Result (Unit {0}) Refusal
free_in (Ok nothing) = Err (Fault AlreadyExists)
free_in (Err (Fault NotFound)) = Ok tt
free_in (Err refusal) = Err refusal

-- the log gained a hard link of the path to itself, which told this
abbrev pub Asks :
    List ℕ → Result (Unit {0}) Refusal → Option (List LogItem) → Option (List LogItem) → Type 0
Asks to told old new =
    (answer : PlainAnswer) × Does (steps.HardLink to to) answer old new
    × (free_in (done_in answer) ≡ told)

-- the path was asked for: nothing is there, or why nothing can be made there; out of memory asked nothing
abbrev pub AsksFree :
    List ℕ → Option (List LogItem) → Option (List LogItem) → Result (Unit {0}) Error → Type 0
AsksFree to old new (Ok nothing) = Asks to (Ok tt) old new
AsksFree to old new (Err (IoError fault message)) = Asks to (Err (Fault fault)) old new
AsksFree to old new (Err OutOfMemory) = new ≡ old
AsksFree to old new (Err e) = ⊥

module _ {S C N : Type 0} (log : S → Option (List LogItem)) (cache : List ℕ) (source : Source) (to : List ℕ) where
  -- the content was verified and exported this way, or why it wasn't
  abbrev pub ExportsBy : How → Env S C N → Env S C N → Result Exported Error → Type 0
  ExportsBy how old new r =
      Calls log old new cache (checked_export how source to) (reply_of export_reply r)
      × IfOk r (λ e. (way_of e ≡ how)
      × Verified cache source (export_reply e) (log old.store) (log new.store))

  -- the ways were tried in order: the first that wasn't closed gave the result, or else the last
  abbrev pub Tries : List How → Env S C N → Env S C N → Result Exported Error → Type 0
  Tries [] old new r = ⊥
  Tries (how ∷ []) old new r = ExportsBy how old new r
  Tries (how ∷ others) old new r =
      (mid : Env S C N) × (tried : Result Exported Error) × ExportsBy how old mid tried
      × MatchBool (is_closed tried) (Tries others mid new r) ((new ≡ mid) × (r ≡ tried))

  -- an error is the result; otherwise the ways of the mode were tried
  abbrev pub GoesOn :
      ExportMode → Result (Unit {0}) Error → Env S C N → Env S C N → Result Exported Error → Type 0
  GoesOn mode (Ok nothing) old new r = Tries (ways mode) old new r
  GoesOn mode (Err e) old new r = (new ≡ old) × (r ≡ Err e)

  -- the path was asked for, and if nothing was there, the ways of the mode were tried
  abbrev pub ExportsTo : ExportMode → Env S C N → Env S C N → Result Exported Error → Type 0
  ExportsTo mode old new r =
      (mid : Env S C N) × (asked : Result (Unit {0}) Error)
      × AsksFree to (log old.store) (log mid.store) asked × KeepsRest old mid
      × GoesOn mode asked mid new r
