-- What a link leaves in a cache in a store in memory, in the words of its caller.
use Rattle.std.specs.Prelude.{◌≡◌, ◌⊎◌, ◌<◌, ◌^◌, ℕ, false, List, Option, Some, length}
use Rattle.cacache_core.specs.{declared.integrity.digest.Hash.{Hash}, Integrity.{IsIntegrity}}
use Rattle.cacache_store.specs.declared.store.log.LogItem.{LogItem}
use Rattle.cacache_calls.specs.declared.command.Command.TheVariants as commands
use Rattle.cacache_calls.specs.declared.command.{Link.{Link}, Put.{Put}}
use Rattle.cacache_value.specs.Value.{AtLink}
use Rattle.cacache_laws.specs.{Beside.{FitsEntry, IsOther, ShareAddress, found_under}, Caches.{HasContent, HasKey, lies_under}}

-- ---- what is linked to

-- the put of these bytes that has the entry of the link
abbrev pub put_like : Link → List ℕ → Put
put_like l bytes = record {
  key = l.key;
  «data» = bytes;
  moment = l.moment;
  options = record l.options { durable = false };
}

-- whatever the target holds, the link's entry is well-formed or refused
abbrev pub FitsLink : List ℕ → Link → Type 0
FitsLink cache l =
    (bytes : List ℕ) → length bytes < 2 ^ 64 → FitsEntry cache (put_like l bytes)

-- ---- what it leaves

-- other keys lead where they led. Each content stays, but at the address of the target's bytes the link
-- may lie instead
pub record KeepsBesideLink (cache : List ℕ) (written : Option (List ℕ)) (own : List Hash)
    (path : List ℕ) (old new : List LogItem) : Type 0 where
  pub finds : (other : List ℕ) → IsOther written other
      → found_under cache other new ≡ found_under cache other old
  pub lies : (i : List Hash) → IsIntegrity i
      → (lies_under cache i new ≡ lies_under cache i old)
      ⊎ (ShareAddress i own × (lies_under cache i new ≡ Some (AtLink path)))
  pub content : (i : List Hash) (bytes : List ℕ) → (ShareAddress i own → ⊥)
      → HasContent cache i bytes old → HasContent cache i bytes new
  pub key : (other bytes : List ℕ) (i : List Hash) → IsOther written other
      → (ShareAddress i own → ⊥)
      → HasKey cache other i bytes old → HasKey cache other i bytes new
