-- A polled writer: how it opens, what its commit answers and does, and how a removal is reported.
use Rattle.std.specs.{Prelude.{◌≡◌, ◌⊎◌, ℕ, List, Option, Result, Ok, Err, ◌≢◌, Some, ⊤, MatchResult}, IoError.{error_kind}}
use Rattle.cacache_core.specs.{declared.{errors.{Error.{Error, TheVariants.{OutOfMemory}}, Fault.{Fault}}, integrity.digest.Hash.{Hash}}, Integrity.{strongest}, Errors.{fault_of}}
use Rattle.cacache_store.specs.{declared.{env.Env.{Env}, store.{log.LogItem.{LogItem}, plain.PlainTemp.{PlainTemp}}}, Outside.{AddsAnswer}}
use Rattle.cacache_sync.specs.{content.OpenWrites.{Makes, FailsToMake}, put.KeyedWriters.{Said, options_of}}
use Rattle.cacache_writers.specs.declared.{about.About.{About}, writer.Writer.{Writer}}
use Rattle.cacache_calls.specs.{declared.{reply.Reply.{Reply, TheVariants.{Stored}}, carried.Commit.{Commit}}, Runs.{Ran, reply_of}, Storing.{persist}}
use Rattle.cacache_jobs.specs.Environment.{MomentOf}
use Rattle.cacache_polled.specs.{declared.{writer_core.WriterCore.{WriterCore}, kinds.Finish.{Finish, TheVariants.{Busy, Closed, Cancelled, Failed, Held}}}, Events.{CommitFinds}}
use Rattle.cacache_async.specs.Futures.{TellsFault}
use Rattle.cacache_core.specs.declared.errors.Fault.TheVariants as fault
use Rattle.cacache_store.specs.Outside as io

-- what the caller said about a content under this key
pub record IsAbout (cache : List ℕ) (key : Option (List ℕ)) (s : Said) (a : About) : Type 0 where
  pub cache_is : a.cache ≡ cache
  pub key_is : a.key ≡ key
  pub time_is : a.time ≡ s.time
  pub options_are : a.options ≡ options_of s

-- a temporary file of this number was made
abbrev pub MadeTemp :
    List ℕ → ℕ → Option (List LogItem) → Option (List LogItem) → Type 0
MadeTemp cache number old new = (file : PlainTemp) × Makes cache number file old new

-- a writer with a temporary file of this number, or why there is none; out of memory may come after the file
abbrev pub OpensAt :
    {T : Type 0} → List ℕ → Option (List ℕ) → Said → Result (Writer T) Error
    → Option (List LogItem) → Option (List LogItem) → ℕ → Type 0
OpensAt cache key s (Ok w) old new number =
    IsAbout cache key s w.about × MadeTemp cache number old new
OpensAt cache key s (Err e) old new number =
    FailsToMake cache number e old new ⊎ ((e ≡ OutOfMemory) × MadeTemp cache number old new)

-- the same with a number that was asked for once; the clock and the base folder stayed
abbrev pub OpensWriter :
    {T S C N : Type 0} → (S → Option (List LogItem)) → (N → Option (List ℕ))
    → Env S C N → Env S C N → List ℕ → Option (List ℕ) → Said → Result (Writer T) Error → Type 0
OpensWriter log numbers old new cache key s r =
    (number : ℕ) × AddsAnswer (numbers old.names) (numbers new.names) number
    × OpensAt cache key s r (log old.store) (log new.store) number
    × (new.clock ≡ old.clock) × (new.base ≡ old.base)

-- ---- the commit of a polled writer: what it answers, and what it does

-- the answer is this fault, or says that there was no memory for the fault's message
abbrev pub Fails : {A : Type 0} → Fault → Result A Error → Type 0
Fails fault (Ok x) = ⊥
Fails fault (Err e) = TellsFault fault e

-- the commit of so many held bytes with this integrity
abbrev pub commit_about : About → List Hash → ℕ → ℕ → Commit
commit_about a computed count moment = record {
  cache = a.cache;
  key = a.key;
  computed = computed;
  count = count;
  moment = moment;
  options = a.options;
}

module _ {T S C N : Type 0} (temp : T → PlainTemp) (log : S → Option (List LogItem))
    (moments : C → Option (List ℕ)) (old new : Env S C N) where
  -- the file became the content; the clock gives the moment if there is a key and no time was set
  abbrev pub EndsHeld : About → List Hash → ℕ → T → Reply → Type 0
  EndsHeld a computed count file reply =
      (moment : ℕ) × MomentOf moments a.key a.time old.clock new.clock moment
      × Ran (persist (commit_about a computed count moment) (temp file)) reply (log old.store) (log new.store)

  -- it does so if the integrity has the algorithm that was asked for; otherwise it is closed
  abbrev pub EndsAsSaid : About → List Hash → ℕ → T → Result (List Hash) Error → Type 0
  EndsAsSaid a computed count file r =
      ((strongest computed ≡ Some a.options.algorithm)
      × EndsHeld a computed count file (reply_of Stored r))
      ⊎ ((strongest computed ≢ Some a.options.algorithm) × Fails fault.Closed r × (new ≡ old))

  -- the answer, by what the core finds; a file that a worker lost is closed
  abbrev pub GivesFor : Finish → Option T → Option About → Result (List Hash) Error → Type 0
  GivesFor Busy file a r = ⊥
  GivesFor Closed file a r = Fails fault.Closed r × (new ≡ old)
  GivesFor Cancelled file a r = Fails fault.Cancelled r × (new ≡ old)
  GivesFor (Failed f) file a r = Fails f r × (new ≡ old)
  GivesFor (Held computed count) (Some file) (Some a) r = EndsAsSaid a computed count file r
  GivesFor (Held computed count) file a r = Fails fault.Closed r × (new ≡ old)

  -- this holds for what the core finds, or there was no memory and no step
  abbrev pub Gives : WriterCore → List ℕ → Option T → Option About → Result (List Hash) Error → Type 0
  Gives core bytes file a r =
      ((r ≡ Err OutOfMemory) × (new ≡ old))
      ⊎ ((f : Finish) × CommitFinds core bytes f × GivesFor f file a r)

  -- this holds for something that was found, whatever it is
  abbrev pub GivesSome : Option T → Option About → Result (List Hash) Error → Type 0
  GivesSome file a r =
      ((r ≡ Err OutOfMemory) × (new ≡ old)) ⊎ ((f : Finish) × GivesFor f file a r)

  -- this holds for something that was found, with some file: those that lay under the lock
  abbrev pub GivesLocked : Option About → Result (List Hash) Error → Type 0
  GivesLocked a r = (file : Option T) × GivesSome file a r

-- ---- how a removal is reported

-- a removal that succeeded is reported so, and one that failed with the fault of its error
abbrev pub TellsRemoval : Result ⊤ io.Error → Result ⊤ Fault → Type 0
TellsRemoval answer told =
    MatchResult answer (λ _. told ≡ Ok tt) (λ e. told ≡ Err (fault_of (error_kind e)))
