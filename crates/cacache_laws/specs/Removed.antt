-- What the removal of a content, and of a key with its content, leaves in a cache in a store in memory.
use Rattle.std.specs.Prelude.{◌≡◌, ◌⊎◌, ℕ, List, None, Some}
use Rattle.sha1.specs.Sha1.{sha1}
use Rattle.cacache_core.specs.{declared.integrity.digest.Hash.{Hash}, Integrity.{IsIntegrity}}
use Rattle.cacache_store.specs.declared.store.log.LogItem.{LogItem}
use Rattle.cacache_calls.specs.declared.command.Command.TheVariants as commands
use Rattle.cacache_laws.specs.{Caches.{HasContent, HasKey, lies_under}, Beside.{found_under, ShareAddress}, Inserts.{leads_to}}

-- ---- of a content

-- keys lead where they led. Each content stays, except that at the address of the integrity, which
-- may be gone
pub record KeepsApart (cache : List ℕ) (removed : List Hash) (old new : List LogItem) : Type 0 where
  pub finds : (key : List ℕ) → found_under cache key new ≡ found_under cache key old
  pub lies : (i : List Hash) → IsIntegrity i
      → (lies_under cache i new ≡ lies_under cache i old)
      ⊎ (ShareAddress i removed × (lies_under cache i new ≡ None))
  pub content : (i : List Hash) (bytes : List ℕ) → (ShareAddress i removed → ⊥)
      → HasContent cache i bytes old → HasContent cache i bytes new
  pub key : (key bytes : List ℕ) (i : List Hash) → (ShareAddress i removed → ⊥)
      → HasKey cache key i bytes old → HasKey cache key i bytes new

-- ---- of a key with its content

-- the key leads to an integrity of this one's address
abbrev pub LeadsThere : List ℕ → List ℕ → List Hash → List LogItem → Type 0
LeadsThere cache key i log =
    (led : List Hash) × (leads_to cache key log ≡ Some led) × ShareAddress i led

-- Each key leads where it led, but one with the SHA-1 of the removed key, such as that key itself,
-- may lead to nothing. Each content stays, except that which the removed key led to, which may be
-- gone
pub record KeepsApartFrom (cache removed : List ℕ) (old new : List LogItem) : Type 0 where
  pub finds : (key : List ℕ)
      → (found_under cache key new ≡ found_under cache key old)
      ⊎ ((sha1 key ≡ sha1 removed) × (found_under cache key new ≡ None))
  pub lies : (i : List Hash) → IsIntegrity i
      → (lies_under cache i new ≡ lies_under cache i old)
      ⊎ (LeadsThere cache removed i old × (lies_under cache i new ≡ None))
  pub content : (i : List Hash) (bytes : List ℕ) → (LeadsThere cache removed i old → ⊥)
      → HasContent cache i bytes old → HasContent cache i bytes new
