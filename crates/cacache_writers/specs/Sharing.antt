-- What a poll, a taking and an ending do to what lies under the lock.
use Rattle.std.specs.Prelude.{◌≡◌, ◌⊎◌, ℕ, false, List, Option, Some, None, Result, Ok, Err, ◌++◌, [], ◌∷◌}
use Rattle.cacache_core.specs.{declared.{errors.Error.{Error, TheVariants.{OutOfMemory}}, integrity.algorithm.Algorithm.{Algorithm}}, Hashers.{algorithm_of}}
use Rattle.cacache_polled.specs.{declared.kinds.{Work.{Work}, Polled.{Polled}, Completion.{Completion, TheVariants.{Gone}}}, Table.{Ask, polled}, Events.{Event, asks, ends, HasSeen}}
use Rattle.cacache_polled.specs.declared.kinds.Polled.TheVariants as polls
use Rattle.cacache_async.specs.Futures.{TellsFault}
use Rattle.cacache_writers.specs.declared.kept.Kept.{Kept}

-- what a poll answers, by the table's answer
abbrev pub IsTold : Polled → Result (Option ℕ) Error → Type 0
IsTold (polls.Wrote n) r = r ≡ Ok (Some n)
IsTold polls.Done r = r ≡ Ok (Some 0)
IsTold (polls.Failed f) (Ok o) = ⊥
IsTold (polls.Failed f) (Err e) = TellsFault f e
IsTold polls.Pending r = r ≡ Ok None
IsTold (polls.Start w) r = r ≡ Ok None

-- the work that waits for a worker
abbrev pub handed : Polled → Option Work → Option Work
handed (polls.Start w) work = Some w
handed p work = work

module _ {T : Type 0} where
  -- the poll was made by the table; out of memory may have left all as it was
  abbrev pub IsPolled : Kept T → Kept T → Ask → Result (Option ℕ) Error → Type 0
  IsPolled old new a r =
      ((new ≡ old) × (r ≡ Err OutOfMemory))
      ⊎ (IsTold (polled old.core.desk a).1 r
      × (new.core.desk ≡ (polled old.core.desk a).0)
      × (new ≡ record old { core = new.core; work = handed (polled old.core.desk a).1 old.work })
      × ((es : List Event) → HasSeen old.core es → HasSeen new.core (es ++ asks a ∷ [])))

  -- a core of this algorithm that was asked nothing, with this file; no work is out, and nobody waits
  pub record IsNew (algorithm : Algorithm) (file : T) (k : Kept T) : Type 0 where
    pub fresh : HasSeen k.core []
    pub algorithm_is : algorithm_of k.core.hasher ≡ algorithm
    pub temp_is : k.temp ≡ Some file
    pub idle : (k.work ≡ None) × (k.waker ≡ None) × (k.is_gone ≡ false)

  -- the core has this ending, and nothing waits for a worker
  abbrev pub IsEnded : Kept T → Kept T → Completion → Type 0
  IsEnded old new c =
      (new.work ≡ None) × (new.waker ≡ None)
      × ((es : List Event) → HasSeen old.core es → HasSeen new.core (es ++ ends c ∷ []))

  -- this work, if any, ended undone, and its file lies there as before; without work nothing changed
  abbrev pub GivesUp : Kept T → Kept T → Option Work → Type 0
  GivesUp old new None = new ≡ old
  GivesUp old new (Some w) =
      IsEnded old new Gone × (new.temp ≡ old.temp) × (new.is_gone ≡ old.is_gone)

  -- the file that goes out with the work
  abbrev pub taken_out : Option Work → Option T → Option T
  taken_out None temp = None
  taken_out (Some w) temp = temp

  -- the file that stays
  abbrev pub left_after : Option Work → Option T → Option T
  left_after None temp = temp
  left_after (Some w) temp = None
