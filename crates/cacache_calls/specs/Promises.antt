-- What holds of every reply of a call, whatever its store answered. Each call may also be refused; its `IoError` has a cause.
use Rattle.std.specs.Prelude.{◌≡◌, ℕ, List, [], ◌++◌, Option, None, Some, Bool, true, false, length, ◌⊎◌, ◌<◌, ◌∷◌}
use Rattle.cacache_core.specs.{declared.{integrity.digest.Hash.{Hash}, errors.{Fault.{Fault}, Error.TheVariants.{IoError}}}, Integrity.{Meets}}
use Rattle.cacache_calls.specs.{declared.{command.{Command.{Command}, How.{How, TheVariants.{Copy, Reflink, HardLink}}}, reply.Reply.{Reply, TheVariants.{Stored, Read, LookedUp, Exists, Copied, Listed, Done, Refused}}, carried.{Commit.{Commit}, Aim.{Aim}}, target.Target.{Target}}, State.{State, doing, creating, writing, syncing, persisting, linking, confirming, appending, looking, reading, asking, sizing, opening_file, hashing, copying, walking, over, Site, Hashing, to_verify, to_link}, Inserting.{given_or, no_integrity}, Storing.{matches}, Linking.{commit_for, with_size}, Table.{opening}, Runs.{Moves, Runs}, Licence.{licence}}
use Rattle.cacache_store.specs.Plain.{PlainStep, PlainAnswer}
use Rattle.cacache_calls.specs.declared.command.Command.TheVariants as commands
use Rattle.cacache_calls.specs.declared.command.Source.TheVariants as sources
use Rattle.cacache_calls.specs.declared.carried.Aim.TheVariants as aims
use Rattle.cacache_core.specs.declared.errors.Fault.TheVariants as faults
use Rattle.cacache_store.specs.declared.store.answer.Answer.TheVariants as answers
use Rattle.cacache_store.specs.declared.store.step.Step.TheVariants as steps

-- ---- of a reply: its kind

-- only this reply, or a refusal
abbrev pub Only : Reply → Reply → Type 0
Only reply (Refused e) = Unit {0}
Only reply r = r ≡ reply

-- only an integrity that is stored, or a refusal
abbrev pub OnlyStores : Reply → Type 0
OnlyStores (Stored i) = Unit {0}
OnlyStores (Refused e) = Unit {0}
OnlyStores r = ⊥

-- only bytes that were read, or a refusal
abbrev pub OnlyReads : Reply → Type 0
OnlyReads (Read bytes) = Unit {0}
OnlyReads (Refused e) = Unit {0}
OnlyReads r = ⊥

-- only the result of a lookup, or a refusal
abbrev pub OnlyLooksUp : Reply → Type 0
OnlyLooksUp (LookedUp found) = Unit {0}
OnlyLooksUp (Refused e) = Unit {0}
OnlyLooksUp r = ⊥

-- only whether a content exists, or a refusal
abbrev pub OnlyExists : Reply → Type 0
OnlyExists (Exists there) = Unit {0}
OnlyExists (Refused e) = Unit {0}
OnlyExists r = ⊥

-- only the count of copied bytes, or a refusal
abbrev pub OnlyCopies : Reply → Type 0
OnlyCopies (Copied n) = Unit {0}
OnlyCopies (Refused e) = Unit {0}
OnlyCopies r = ⊥

-- only the items of a listing, or a refusal
abbrev pub OnlyLists : Reply → Type 0
OnlyLists (Listed items) = Unit {0}
OnlyLists (Refused e) = Unit {0}
OnlyLists r = ⊥

-- ---- of a reply: its value

-- only bytes that match the integrity
abbrev pub ReadsMeeting : List Hash → Reply → Type 0
ReadsMeeting i (Read bytes) = Meets i bytes
ReadsMeeting i (Refused e) = Unit {0}
ReadsMeeting i r = ⊥

-- what a commit returns: with a key the expected integrity, if there is one, otherwise the computed one
abbrev pub answered : List Hash → Option (List Hash) → Option (List ℕ) → List Hash
answered computed expected None = computed
answered computed expected (Some key) = given_or computed expected

-- the content matches the expected integrity and size, if they are given
pub record Suits (c : Commit) : Type 0 where
  pub integrity :
      (expected : List Hash) → c.options.integrity ≡ Some expected
      → matches expected c.computed ≡ true
  pub size : (wanted : ℕ) → c.options.size ≡ Some wanted → wanted ≡ c.count

-- only this integrity, and only if P holds
abbrev pub StoresIf : List Hash → Type 0 → Reply → Type 0
StoresIf j P (Stored i) = (i ≡ j) × P
StoresIf j P (Refused e) = Unit {0}
StoresIf j P r = ⊥

-- the integrity that a commit returns, if its content is as expected
abbrev pub Stores : Commit → Reply → Type 0
Stores c = StoresIf (answered c.computed c.options.integrity c.key) (Suits c)

-- the bytes of a link are those so far and those that it still reads
abbrev pub StoresRead : Target ℕ → List ℕ → Reply → Type 0
StoresRead t bytes (Stored i) = (more : List ℕ) × Stores (commit_for t (bytes ++ more)) (Stored i)
StoresRead t bytes (Refused e) = Unit {0}
StoresRead t bytes r = ⊥

-- the size of a link is the size that the target had
abbrev pub StoresSized : Target ℕ → Reply → Type 0
StoresSized t (Stored i) = (n : ℕ) × StoresRead (with_size t n) [] (Stored i)
StoresSized t (Refused e) = Unit {0}
StoresSized t r = ⊥

-- a copy returns a count; any other export returns `Done`
abbrev pub Exports : How → Reply → Type 0
Exports Copy r = OnlyCopies r
Exports Reflink r = Only Done r
Exports HardLink r = Only Done r

-- a copy returns the verified count
abbrev pub Copies : Option ℕ → Reply → Type 0
Copies verified (Copied n) = (m : ℕ) → verified ≡ Some m → n ≡ m
Copies verified (Refused e) = Unit {0}
Copies verified r = ⊥

-- an export has only bytes that were read and that match the integrity; a copy returns their count
abbrev pub MadeOf : List Hash → List ℕ → Reply → Type 0
MadeOf i bytes (Copied n) =
    (more : List ℕ) × Meets i (bytes ++ more) × (n ≡ length (bytes ++ more))
MadeOf i bytes Done = (more : List ℕ) × Meets i (bytes ++ more)
MadeOf i bytes r = Unit {0}

-- ---- states

-- what a lookup promises of the reply, depending on its purpose
abbrev pub Aims : Aim → Reply → Type 0
Aims aims.Report r = OnlyLooksUp r
Aims aims.Read r = OnlyReads r
Aims (aims.Export e) r = Exports e.how r
Aims aims.Remove r = Only Done r

-- what a read to a file's end promises of the reply, depending on its purpose
abbrev pub Hashes : Hashing → List ℕ → Reply → Type 0
Hashes (to_verify k e) bytes r = Exports e.how r × MadeOf k.integrity bytes r
Hashes (to_link t) bytes r = StoresRead t bytes r

-- a clearing returns `Done`, a listing its items
abbrev pub Walks : Bool → Reply → Type 0
Walks true r = Only Done r
Walks false r = OnlyLists r

-- what a state promises of the reply
abbrev pub Promises : State → Reply → Type 0
Promises (doing errand s) r = Promises s r
Promises (creating number c rest) r = Stores c r
Promises (writing c file rest) r = Stores c r
Promises (syncing c file) r = Stores c r
Promises (persisting c file) r = Stores c r
Promises (linking c target) r = Stores c r
Promises (confirming c fault) r = Stores c r
Promises (appending i) r = Only i.reply r
Promises (looking l) r = Aims l.aim r
Promises (reading k) r = ReadsMeeting k.integrity r
Promises (asking k) r = OnlyExists r
Promises (sizing t) r = StoresSized t r
Promises (opening_file h) r = Hashes h [] r
Promises (hashing h file bytes) r = Hashes h bytes r
Promises (copying from to verified) r = Copies verified r
Promises (walking w v todo) r = Walks w.clears r
Promises (over reply) r = Only reply r

-- ---- calls

-- what a command at this site promises of its reply: what its first state does, and of these three a little more
abbrev pub Answers : Site → Command → Reply → Type 0
Answers site (commands.Insert i) r = Only (Stored (given_or no_integrity i.options.integrity)) r
Answers site (commands.Delete d) r = Only Done r
Answers site (commands.Export (sources.Hash i) e) r =
    Exports e.how r × (e.checked ≡ true → MadeOf i [] r)
Answers site command r = Promises (opening site command) r

-- ---- laws

-- the reply of every run keeps the promise of its first state
abbrev pub StatesPromise : Type 0
StatesPromise = (s : State) (moves : Moves) (r : Reply) → Runs s moves r → Promises s r

-- so the reply of every call keeps the promise of its command
abbrev pub CallsAnswer : Type 0
CallsAnswer =
    (site : Site) (command : Command) (moves : Moves) (r : Reply)
    → Runs (opening site command) moves r → Answers site command r

-- ---- a call's `IoError` has a cause

-- the answer to the step reports this fault
abbrev pub Faults : PlainStep → PlainAnswer → Fault → Type 0
Faults a (answers.Failed f) fault = fault ≡ f
Faults (steps.Append path line) (answers.Took n) fault =
    (fault ≡ faults.ShortAppend) × (n < length line)
Faults (steps.Write file bytes) (answers.Wrote g n) fault = (fault ≡ faults.WriteZero) × (n ≡ 0)
Faults a t fault = ⊥

-- one of the moves reports it
abbrev pub Faulted : Moves → Fault → Type 0
Faulted [] fault = ⊥
Faulted (m ∷ moves) fault = Faults m.0 m.1 fault ⊎ Faulted moves fault

-- an `IoError` has a fault of the call's own, or a fault of one of its steps
abbrev pub HasCause : (Fault → Type 0) → Moves → Reply → Type 0
HasCause own moves (Refused (IoError fault message)) = own fault ⊎ Faulted moves fault
HasCause own moves r = Unit {0}

-- a walk's own faults
abbrev pub OfWalk : Fault → Type 0
OfWalk fault = (fault ≡ faults.TooDeep) ⊎ (fault ≡ faults.NotADirectory)

-- the faults of a call that lists folders; any other call has none
abbrev pub OfListing : Bool → Fault → Type 0
OfListing true fault = OfWalk fault
OfListing false fault = ⊥

-- the faults that a command may add to those of its steps
abbrev pub own_of : Command → Fault → Type 0
own_of command fault = OfListing (licence command).lists fault

-- each `IoError` that a call returns has a cause
abbrev pub IoErrorsHaveCauses : Type 0
IoErrorsHaveCauses =
    (site : Site) (command : Command) (moves : Moves) (r : Reply)
    → Runs (opening site command) moves r → HasCause (own_of command) moves r
