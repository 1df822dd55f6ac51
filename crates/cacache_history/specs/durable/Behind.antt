-- What is left after a durable entry by a loss of power.
use Rattle.std.specs.Prelude.{◌≡◌, ◌⊎◌, ℕ, List, [], ◌∷◌, ◌++◌, Bool, false}
use Rattle.sha1.specs.Sha1.{sha1}
use Rattle.cacache_core.specs.Paths.{Names, names_of}
use Rattle.cacache_store.specs.{declared.store.step.Step.TheVariants.{Append}, Plain.{PlainStep}}
use Rattle.cacache_entry.specs.Entry.{Entry}
use Rattle.cacache_value.specs.{Acts.{Move}, ValueLaws.{IsLonger}}
use Rattle.cacache_history.specs.{declared.record.Record.{Record}, History.{History}, Values.{bucket_at, steps_of}}
use Rattle.cacache_loss.specs.{Fixing.{is_at}, Loss.{Loss}, Syncs.{IsFileSync}}

-- ---- who appends to a bucket

-- whether a step appends to the file at a path, all of its bytes, some or none
abbrev pub appends_at : PlainStep → Names → Bool
appends_at (Append p bytes) path = is_at (names_of p) path
appends_at step path = false

-- none of these moves appends to the file at this path
abbrev pub NoneAppends : Names → List Move → Type 0
NoneAppends path [] = Unit {0}
NoneAppends path (m ∷ moves) = (appends_at m.step path ≡ false) × NoneAppends path moves

-- one of these moves syncs the file at this path, and none after it appends to it
abbrev pub StaysSynced : Names → List Move → Type 0
StaysSynced path [] = ⊥
StaysSynced path (m ∷ moves) =
    (IsFileSync path m.step m.answer × NoneAppends path moves) ⊎ StaysSynced path moves

-- ---- what is left

-- what a loss left after an entry of a bucket at this path: `more`. The entry came after `old`, and
-- these records came after it
pub record Behind (h : History) (path : Names) (key : List ℕ) (old : List Entry) (entry : Entry)
    (later : List Record) (loss : Loss) (more : List Entry) : Type 0 where
  -- what the history had added after it at its end
  pub added : List Entry
  pub had : bucket_at h h.records (sha1 key) ≡ old ++ entry ∷ added
  -- if the loss names no tail of the bucket, the first of these are left, in their order
  pub first : loss.tail path ≡ [] → IsLonger more added
  -- if nobody appended to it after a sync of it, all of these are
  pub all : StaysSynced path (steps_of later) → more ≡ added
  -- and if nobody appended to it after the entry, nothing is
  pub none : NoneAppends path (steps_of later) → more ≡ []
