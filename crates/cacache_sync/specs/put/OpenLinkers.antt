-- Links: what one is asked to do, and links whose target is read in pieces before they are made.
use Rattle.std.specs.{Prelude.{◌≡◌, ℕ, List, ◌∷◌, Option, None, Result, Ok, Err, length, ◌⊎◌, ◌-◌, ◌^◌, ◌++◌, [], Some, min}, Io.KnownBytes.{Consumes}}
use Rattle.cacache_core.specs.{declared.{integrity.{algorithm.Algorithm.TheVariants.{Sha256}, digest.Hash.{Hash}, hasher.Hasher.{Hasher}}, errors.Error.{Error}}, Integrity.{integrity_under}, Hashers.{Holds, algorithm_of}}
use Rattle.cacache_store.specs.declared.{env.Env.{Env}, store.{log.LogItem.{LogItem}, plain.PlainFile.{PlainFile}}}
use Rattle.cacache_calls.specs.{declared.{command.Link.{Link}, reply.Reply.{Reply, TheVariants.{Refused, Stored}}, target.Target.{Target}}, Runs.{Moves, Gains, Gone, Ran, without_message}, Verifying.{ReadsWhole, Gives}, Common.{blank}, Linking.{commit_for, linked_to, with_size, target_at}, State.{State, hashing, to_link, sizing, opening_file}, Storing.{link}, Promises.{Stores}, SingleSteps.{Does, FailsAt}}
use Rattle.cacache_jobs.specs.Environment.{RunsTimed, HasMoment, KeepsRest}
use Rattle.cacache_sync.specs.{declared.put.linker.SyncToLinker.{SyncToLinker}, put.KeyedWriters.{Said, options_of}, content.OpenReads.{OpensFile, FailsToOpen}}
use Rattle.cacache_store.specs.declared.store.step.Step.TheVariants as steps
use Rattle.cacache_store.specs.declared.store.answer.Answer.TheVariants as answers
use Rattle.cacache_calls.specs.declared.command.Command.TheVariants as commands

-- a link to a file; without a key the moment has no effect
abbrev pub link_to : Option (List ℕ) → List ℕ → ℕ → Link
link_to key target moment =
    record { key = key; target = target; moment = moment; options = blank Sha256 }

-- the size of the file was asked, and then it was read whole: the integrity is that of its bytes
abbrev pub IsOfWhole : List ℕ → List Hash → Moves → Type 0
IsOfWhole path i moves =
    (n : ℕ) × (more : Moves) × (moves ≡ (steps.Size path, answers.Length n) ∷ more)
    × ReadsWhole path (λ bytes. i ≡ integrity_under Sha256 bytes) more

-- a log that is kept gained such moves
abbrev pub HoldsTarget : List ℕ → List Hash → Option (List LogItem) → Option (List LogItem) → Type 0
HoldsTarget path i old new = (moves : Moves) × Gains old new moves × IsOfWhole path i moves

-- the log gained a run of such a link, with a moment that the clock was asked for once
abbrev pub RunsLink :
    {S C N : Type 0} → (S → Option (List LogItem)) → (C → Option (List ℕ))
    → Env S C N → Env S C N → List ℕ → Option (List ℕ) → List ℕ → Reply → Type 0
RunsLink log moments old new cache key target reply =
    RunsTimed log moments None old new cache
    (λ moment. commands.Link (link_to key target moment)) reply

-- ---- what reading the rest of a target does

-- a link is made of its target once these bytes were read of it, and no more
abbrev pub links : Target ℕ → List ℕ → State
links t bytes = link (commit_for t bytes) t.path

-- the hasher went on to these bytes
abbrev pub HoldsOn : Hasher → Hasher → List ℕ → Type 0
HoldsOn old new bytes = Holds new bytes × (algorithm_of new ≡ algorithm_of old)

-- the rest of the target was read, and all its bytes are so many then; or why it wasn't
abbrev pub ReadsRest :
    Target ℕ → PlainFile → List ℕ → Hasher → Hasher → Result ℕ Error
    → Option (List LogItem) → Option (List LogItem) → Type 0
ReadsRest t file bytes hasher next (Ok n) old new =
    (all : List ℕ) × HoldsOn hasher next all × (n ≡ length all)
    × Gone (hashing (to_link t) file bytes) (links t all) old new
ReadsRest t file bytes hasher next (Err e) old new =
    Ran (hashing (to_link t) file bytes) (Refused (without_message e)) old new

-- so it was for any target and any bytes that were hashed before, if they are so many
abbrev pub ReadsOn :
    ℕ → PlainFile → Hasher → Hasher → Result ℕ Error
    → Option (List LogItem) → Option (List LogItem) → Type 0
ReadsOn before file hasher next r old new =
    (t : Target ℕ) (bytes : List ℕ) → Holds hasher bytes → before ≡ length bytes
    → ReadsRest t file bytes hasher next r old new

-- so many bytes of the target were hashed, the rest was read, and the link was made
abbrev pub LinksRest :
    Target ℕ → Hasher → ℕ → PlainFile → Reply
    → Option (List LogItem) → Option (List LogItem) → Type 0
LinksRest t hasher count file reply old new =
    (bytes : List ℕ)
    → Holds hasher bytes → algorithm_of hasher ≡ t.options.algorithm
    → count ≡ length bytes
    → Ran (hashing (to_link t) file bytes) reply old new

-- ---- links whose target is read in pieces before they are made

-- a target that is to be linked to; if it has no moment, the clock is asked for it
abbrev pub LinkTarget : Type 0
LinkTarget = Target (Option ℕ)

-- what is to be linked by what was said of it; without a key the time has no effect
abbrev pub linked_by : List ℕ → List ℕ → Option (List ℕ) → List ℕ → Said → LinkTarget
linked_by base cache None target s = linked_to base cache None target (Some 0) (options_of s)
linked_by base cache (Some key) target s =
    linked_to base cache (Some key) target s.time (options_of s)

-- ---- where a call with it begins

-- the target's size is asked first
abbrev pub asks_size : LinkTarget → ℕ → State
asks_size l moment = sizing (target_at l moment)

-- it isn't
abbrev pub asks_file : LinkTarget → ℕ → State
asks_file l moment = opening_file (to_link (target_at l moment))

-- ---- how far a linker is

-- the linker took these bytes of its target so far
abbrev pub HasHashed : {F : Type 0} → SyncToLinker F → List ℕ → Type 0
HasHashed l bytes =
    Holds l.hasher bytes × (algorithm_of l.hasher ≡ l.linked.options.algorithm)
    × (l.count ≡ min (length bytes) (2 ^ 64 - 1))

-- the linker took these bytes more, whatever it took before
abbrev pub HashesMore : {F : Type 0} → SyncToLinker F → SyncToLinker F → List ℕ → Type 0
HashesMore old new more = (bytes : List ℕ) → HasHashed old bytes → HasHashed new (bytes ++ more)

-- it took a beginning of these, which its file lost
abbrev pub HashesPart :
    {F : Type 0} → (F → PlainFile) → SyncToLinker F → SyncToLinker F → List ℕ → Type 0
HashesPart file old new bytes =
    (front rest : List ℕ) × (bytes ≡ front ++ rest) × HashesMore old new front
    × Consumes (file old.file).bytes (file new.file).bytes front

-- the linker took nothing yet, and is to make this link
pub record IsNewLinker {F : Type 0} (linked : LinkTarget) (l : SyncToLinker F) : Type 0 where
  pub linked_is : l.linked ≡ linked
  pub empty : HasHashed l []

-- ---- the opening: before and after

-- the target's size was asked, and is this
abbrev pub HasSize : List ℕ → ℕ → Option (List LogItem) → Option (List LogItem) → Type 0
HasSize path size old new = Does (steps.Size path) (answers.Length size) old new

-- it wasn't given
abbrev pub FailsToSize : List ℕ → Error → Option (List LogItem) → Option (List LogItem) → Type 0
FailsToSize path e old new = FailsAt (steps.Size path) e old new

module _ {F : Type 0} (file : F → PlainFile) where
  -- the target was opened, and the linker took nothing of it yet; or why it wasn't
  abbrev pub OpensTarget :
      LinkTarget → Result (SyncToLinker F) Error → Option (List LogItem) → Option (List LogItem) → Type 0
  OpensTarget linked (Ok l) old new =
      IsNewLinker linked l × OpensFile linked.path (file l.file) old new
  OpensTarget linked (Err e) old new = FailsToOpen linked.path e old new

  -- its size was asked first, and is the one that the link is to have
  abbrev pub OpensSized :
      LinkTarget → Result (SyncToLinker F) Error → Option (List LogItem) → Option (List LogItem) → Type 0
  OpensSized linked (Ok l) old new =
      (size : ℕ) × (mid : Option (List LogItem)) × HasSize linked.path size old mid
      × OpensTarget (with_size linked size) (Ok l) mid new
  OpensSized linked (Err e) old new =
      FailsToSize linked.path e old new
      ⊎ ((size : ℕ) × (mid : Option (List LogItem)) × HasSize linked.path size old mid
      × FailsToOpen linked.path e mid new)

  module _ {S C N : Type 0} (log : S → Option (List LogItem)) where
    -- the target was opened, and the environment stayed except for the store
    abbrev pub OpensLink :
        Env S C N → Env S C N → LinkTarget → Result (SyncToLinker F) Error → Type 0
    OpensLink old new linked r =
        OpensTarget linked r (log old.store) (log new.store) × KeepsRest old new

    -- the same after its size was asked
    abbrev pub OpensWithSize :
        Env S C N → Env S C N → LinkTarget → Result (SyncToLinker F) Error → Type 0
    OpensWithSize old new linked r =
        OpensSized linked r (log old.store) (log new.store) × KeepsRest old new

  -- ---- the opening as moves of a run

  -- the state of the linker's call
  abbrev pub stands_at : SyncToLinker F → List ℕ → ℕ → State
  stands_at l bytes moment = hashing (to_link (target_at l.linked moment)) (file l.file) bytes

  -- a linker that took nothing yet, with this time; or why there is none
  abbrev pub OpensLinker :
      Option ℕ → (ℕ → State) → Result (SyncToLinker F) Error
      → Option (List LogItem) → Option (List LogItem) → Type 0
  OpensLinker time start (Ok l) old new =
      HasHashed l [] × (l.linked.moment ≡ time)
      × ((moment : ℕ) → Gone (start moment) (stands_at l [] moment) old new)
  OpensLinker time start (Err e) old new =
      (moment : ℕ) → Ran (start moment) (Refused (without_message e)) old new

  -- the environment's store made the moves of such an opening
  abbrev pub BeginsLink :
      {S C N : Type 0} → (S → Option (List LogItem)) → Env S C N → Env S C N
      → (LinkTarget → ℕ → State) → LinkTarget → Result (SyncToLinker F) Error → Type 0
  BeginsLink log old new asks l r = OpensLinker l.moment (asks l) r (log old.store) (log new.store)

  -- what a commit does to the environment: it runs the rest of the call, of a moment that was set or
  -- asked for once
  abbrev pub CommitsLink :
      {S C N : Type 0} → (S → Option (List LogItem)) → (C → Option (List ℕ))
      → Env S C N → Env S C N → SyncToLinker F → List ℕ → Reply → Type 0
  CommitsLink log moments old new l bytes reply =
      (moment : ℕ) × HasMoment moments l.linked.moment old.clock new.clock moment
      × Ran (stands_at l bytes moment) reply (log old.store) (log new.store)
      × (new.names ≡ old.names) × (new.base ≡ old.base)

  -- a log that is kept gained moves that begin with reads of the target's rest, to its end: a commit of
  -- all its bytes, those that were taken and the rest, stores this integrity
  abbrev pub StoresWhole :
      SyncToLinker F → List ℕ → List Hash → Option (List LogItem) → Option (List LogItem) → Type 0
  StoresWhole l bytes i old new =
      (moves : Moves) × Gains old new moves
      × (rest : List ℕ) × Gives (file l.file) rest moves
      × (moment : ℕ) × Stores (commit_for (target_at l.linked moment) (bytes ++ rest)) (Stored i)
