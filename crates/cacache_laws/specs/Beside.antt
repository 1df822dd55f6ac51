-- What was known of a cache and still holds, and what writes and removals keep apart from what they are made for.
use Rattle.std.specs.Prelude.{◌≡◌, ℕ, List, Option, ◌⊎◌, ◌<◌, ◌^◌, None, Some, IsUtf8, length}
use Rattle.cacache_core.specs.{declared.integrity.{digest.Hash.{Hash}, algorithm.Algorithm.{Algorithm}}, Paths.{home_of}, Integrity.{IsIntegrity, address, integrity_under}}
use Rattle.cacache_store.specs.declared.store.log.LogItem.{LogItem}
use Rattle.cacache_disk.specs.Replay.{tree_of}
use Rattle.cacache_entry.specs.Bucket.{Found, latest}
use Rattle.cacache_laws.specs.{ReadAnswers.{entries_on}, Caches.{HasContent, HasKey, lies_under, plain_put}}
use Rattle.cacache_calls.specs.{declared.command.Put.{Put}, Sound.{FormedIfWritten}, Storing.{insertion_of, put_commit}}
use Rattle.cacache_value.specs.Value.{InFile}
use Rattle.cacache_calls.specs.declared.command.Command.TheVariants as commands

-- the entry that the key leads to, if any
abbrev pub found_under : List ℕ → List ℕ → List LogItem → Option Found
found_under cache key log = latest key (entries_on (home_of cache) (tree_of log) key)

-- what was known of keys and contents still holds
pub record StaysKnown (cache : List ℕ) (old new : List LogItem) : Type 0 where
  pub finds : (key : List ℕ) → found_under cache key new ≡ found_under cache key old
  pub lies : (i : List Hash) → lies_under cache i new ≡ lies_under cache i old
  pub key : (key bytes : List ℕ) (i : List Hash)
      → HasKey cache key i bytes old → HasKey cache key i bytes new
  pub content : (i : List Hash) (bytes : List ℕ)
      → HasContent cache i bytes old → HasContent cache i bytes new

-- this holds for all contents, and for every key except this one
pub record KeepsOthers (cache except : List ℕ) (old new : List LogItem) : Type 0 where
  pub finds : (other : List ℕ) → (other ≡ except → ⊥)
      → found_under cache other new ≡ found_under cache other old
  pub lies : (i : List Hash) → lies_under cache i new ≡ lies_under cache i old
  pub key : (other bytes : List ℕ) (i : List Hash) → (other ≡ except → ⊥)
      → HasKey cache other i bytes old → HasKey cache other i bytes new
  pub content : (i : List Hash) (bytes : List ℕ)
      → HasContent cache i bytes old → HasContent cache i bytes new

-- ---- a write

-- a key that isn't the written one; each is, if none was written
abbrev pub IsOther : Option (List ℕ) → List ℕ → Type 0
IsOther None other = Unit {0}
IsOther (Some key) other = other ≡ key → ⊥

-- two integrities have one address, and so one place
abbrev pub ShareAddress : List Hash → List Hash → Type 0
ShareAddress i j = address i ≡ address j

-- other keys lead where they led. Each content stays, but at the address of the added bytes these
-- may lie instead: what was there was the same bytes, or another text with their digest
pub record KeepsBeside (cache : List ℕ) (written : Option (List ℕ)) (own : List Hash)
    (added : List ℕ) (old new : List LogItem) : Type 0 where
  pub finds : (other : List ℕ) → IsOther written other
      → found_under cache other new ≡ found_under cache other old
  pub lies : (i : List Hash) → IsIntegrity i
      → (lies_under cache i new ≡ lies_under cache i old)
      ⊎ (ShareAddress i own × (lies_under cache i new ≡ Some (InFile added)))
  pub content : (i : List Hash) (bytes : List ℕ) → HasContent cache i bytes old
      → HasContent cache i bytes new ⊎ (ShareAddress i own × HasContent cache i added new)
  pub key : (other bytes : List ℕ) (i : List Hash) → IsOther written other
      → HasKey cache other i bytes old
      → HasKey cache other i bytes new ⊎ (ShareAddress i own × HasKey cache other i added new)

-- the entry of a put is well-formed or refused; without a key there is none
abbrev pub FitsEntry : List ℕ → Put → Type 0
FitsEntry cache p =
    (key : List ℕ) → p.key ≡ Some key → FormedIfWritten (insertion_of (put_commit cache p) key)

-- the integrity under which a put stores its bytes
abbrev pub own_integrity : Put → List Hash
own_integrity p = integrity_under p.options.algorithm p.data

-- a put without a size, an integrity or metadata fits
abbrev pub PlainWritesFit : Type 0
PlainWritesFit =
    (a : Algorithm) (cache key bytes : List ℕ) (moment : ℕ)
    → IsUtf8 key → length bytes < 2 ^ 64 → moment < 2 ^ 64
    → FitsEntry cache (plain_put a key bytes moment)
