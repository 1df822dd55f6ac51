-- Contents that are links, and the bytes that their targets held.
use Rattle.std.specs.Prelude.{◌≡◌, ℕ, List, ◌++◌, Some, Ok}
use Rattle.cacache_core.specs.{declared.{errors.Fault.TheVariants.{IsADirectory}, integrity.digest.Hash.{Hash}}, Integrity.{IsHash}}
use Rattle.cacache_disk.specs.LedTo.{file_at}
use Rattle.cacache_value.specs.Value.{AtLink}
use Rattle.cacache_history.specs.{declared.record.Record.{Record}, History.{History, now_at}, Values.{value_at, HasDigest}}

-- the file that a path leads to holds these bytes after the first records
abbrev pub HoldsAt : History → List Record → List ℕ → List ℕ → Type 0
HoldsAt h before path bytes = file_at (now_at h before).tree path IsADirectory ≡ Ok bytes

-- at these records' end, or before, it held them
pub record HeldOnce (h : History) (before : List Record) (path bytes : List ℕ) : Type 0 where
  pub past : List Record
  pub more : List Record
  pub is : before ≡ past ++ more
  pub held : HoldsAt h past path bytes

-- a target once held bytes with the digest of an address
abbrev pub OnceHeld : History → List Record → Hash → List ℕ → Type 0
OnceHeld h before a target =
    (bytes : List ℕ) × HasDigest a bytes × HeldOnce h before target bytes

-- at each place, a content that links to a target is of bytes that the target once held
abbrev pub LinksWereRight : History → Type 0
LinksWereRight h =
    (before later : List Record) → h.records ≡ before ++ later
    → (a : Hash) (target : List ℕ) → IsHash a
    → (value_at h before).contents a ≡ Some (AtLink target) → OnceHeld h before a target

-- the target holds these bytes at each place
abbrev pub StaysHeld : History → List ℕ → List ℕ → Type 0
StaysHeld h target bytes =
    (before later : List Record) → h.records ≡ before ++ later → HoldsAt h before target bytes

-- while a target's bytes are the same, each content that links to it has the digest of its address
abbrev pub LinksAreRight : History → Type 0
LinksAreRight h =
    (target bytes : List ℕ) → StaysHeld h target bytes
    → (before later : List Record) → h.records ≡ before ++ later
    → (a : Hash) → IsHash a → (value_at h before).contents a ≡ Some (AtLink target)
    → HasDigest a bytes
