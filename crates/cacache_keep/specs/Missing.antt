-- What shows that a content isn't there, over any store.
use Rattle.std.specs.{Prelude.{◌≡◌, ◌⊎◌, ◌&&◌, ℕ, List, [], ◌∷◌, Bool, false, Option, codes, drop, length, map, not, take}, Bool.{nat_eq}, Cmp.Lexicographic.{pointwise}, List.{list_any, starts_with}}
use Rattle.cacache_core.specs.declared.{errors.{Error.{Error, TheVariants.{OutOfMemory}}, Fault.TheVariants.{Device}}, integrity.digest.Hash.{Hash}}
use Rattle.cacache_store.specs.declared.store.log.LogItem.{LogItem}
use Rattle.cacache_calls.specs.{Common.{fails}, Runs.{EndsAs}, Steps.{content_path}}
use Rattle.cacache_walks.specs.Listing.{ListsContents, StopsListing}
use Rattle.cacache_keep.specs.Calls.{has_address_in}

-- ---- a look at the contents

-- the contents that a cache shows, and the paths of whatever else lies among them
abbrev pub Look : Type 0
Look = List Hash × List (List ℕ)

-- the log gained a walk through the contents, which shows these
abbrev pub ShowsContents :
    List ℕ → Look → Option (List LogItem) → Option (List LogItem) → Type 0
ShowsContents cache look = ListsContents cache (map (λ h. h ∷ []) look.0) look.1

-- ---- a content

-- the path begins with that of the folder, and goes on with `/`
abbrev pub is_below : List ℕ → List ℕ → Bool
is_below path folder =
    pointwise nat_eq (take (length folder) path) folder
    && starts_with nat_eq (drop (length folder) path) (codes "/")

-- it lies below one of these, through which no walk goes
abbrev pub is_hidden : List (List ℕ) → List ℕ → Bool
is_hidden strange path = list_any (is_below path) strange

-- the content isn't shown, and nothing strange hides it
abbrev pub is_missing : List ℕ → Look → List Hash → Bool
is_missing cache look i =
    not (has_address_in look.0 i) && not (is_hidden look.1 (content_path cache i))

-- ---- errors

-- the content may be there, or memory ran out
abbrev pub Doubts : List ℕ → Look → List Hash → Error → Type 0
Doubts cache look i e =
    (e ≡ OutOfMemory) ⊎ ((is_missing cache look i ≡ false) × EndsAs e (fails Device))

-- the error ended the walk, or memory ran out after it
abbrev pub StopsShowing :
    List ℕ → Error → Option (List LogItem) → Option (List LogItem) → Type 0
StopsShowing cache e old new =
    StopsListing cache e old new
    ⊎ ((e ≡ OutOfMemory) × (addresses : List (List Hash)) × (strange : List (List ℕ))
    × ListsContents cache addresses strange old new)
