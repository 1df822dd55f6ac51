-- Histories of one durable commit: the laws of losses speak of some history.
use Rattle.std.specs.Prelude.{◌≡◌, ◌++◌, ℕ, List, Ok, None, Some, true}
use Rattle.cacache_core.specs.Paths.{Names, names_of, bucket_names, content_names}
use Rattle.cacache_entry.specs.{Entry.{Entry}, FittingEntries.{IsEntry, IsWritable}}
use Rattle.cacache_calls.specs.{declared.command.{Insert.{Insert}, Put.{Put}}, Inserting.{insertion}, Storing.{insertion_of, put_commit}}
use Rattle.cacache_history.specs.{AddedEntries.{address_of_put}, declared.record.Record.{Record}, History.{History, IsLegal, now_at}, Setup.{home}, Values.{steps_of}, durable.{Behind.{NoneAppends}, Outlasting.{DurableInsert, DurablePut}, QuietMoves.{AreQuiet}}}
use Rattle.cacache_laws.specs.results.Losses.{IsLast}

-- an entry that can be written
abbrev pub CanBeWritten : Entry → Type 0
CanBeWritten e = IsEntry e × IsWritable e

-- a legal history at this cache that contains such a commit
abbrev pub StandsIn : List ℕ → (History → Type 0) → Type 0
StandsIn cache Holds = (h : History) × (h.setup.cache ≡ cache) × IsLegal h × Holds h

-- one contains a durable insertion, if its entry can be written
abbrev pub InsertsStandInOne : Type 0
InsertsStandInOne =
    (cache : List ℕ) (folder : Names) (i : Insert) → names_of cache ≡ Ok folder
    → i.options.durable ≡ true → CanBeWritten (insertion cache i).entry
    → StandsIn cache (λ h. DurableInsert h i)

-- and so does a durable put that expects nothing
abbrev pub PutsStandInOne : Type 0
PutsStandInOne =
    (cache : List ℕ) (folder : Names) (p : Put) → names_of cache ≡ Ok folder
    → p.options.durable ≡ true → p.options.integrity ≡ None → p.options.size ≡ None
    → ((key : List ℕ) → p.key ≡ Some key
    → CanBeWritten (insertion_of (put_commit cache p) key).entry)
    → StandsIn cache (λ h. DurablePut h folder p)

-- ---- an entry that is the last of its bucket

-- the put is durable, has this key and expects nothing, and its entry can be written
pub record StoresDurably (cache key : List ℕ) (p : Put) : Type 0 where
  pub durable : p.options.durable ≡ true
  pub no_integrity : p.options.integrity ≡ None
  pub no_size : p.options.size ≡ None
  pub keyed : p.key ≡ Some key
  pub written : CanBeWritten (insertion_of (put_commit cache p) key).entry

-- such a put answered in the history, and its entry is the last of its bucket
pub record IsLastPut (h : History) (folder : Names) (key : List ℕ) (p : Put) : Type 0 where
  pub here : home h.setup ≡ Some folder
  pub stores : StoresDurably h.setup.cache key p
  pub put : DurablePut h folder p
  pub last : IsLast h folder put.rest put.call.caller key p

-- the history, and these records after it
abbrev pub followed_by : History → List Record → History
followed_by h more = record { setup = h.setup; records = h.records ++ more }

-- these records after a history go elsewhere: they append nothing to the key's bucket, remove, link
-- and export nothing, and put the put's content durably if they put it
pub record GoElsewhere (h : History) (folder : Names) (key : List ℕ) (p : Put) (more : List Record)
    : Type 0 where
  pub quiet :
      AreQuiet h.setup (folder ++ content_names (address_of_put p)) (now_at h h.records) more
  pub none : NoneAppends (folder ++ bucket_names key) (steps_of more)

-- one contains each such put so, whatever goes elsewhere after it
abbrev pub PutsStandLast : Type 0
PutsStandLast =
    (cache : List ℕ) (folder : Names) (key : List ℕ) (p : Put) → names_of cache ≡ Ok folder
    → StoresDurably cache key p
    → StandsIn cache (λ h. (more : List Record) → GoElsewhere h folder key p more
    → IsLastPut (followed_by h more) folder key p)
