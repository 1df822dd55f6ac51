-- What a listing of the contents holds, what one entry of a bucket adds, and the environment after it.
use Rattle.std.specs.{Prelude.{◌≡◌, List, [], ◌∷◌, ◌++◌, ℕ, Ok, Option, Some, None, if◌then◌else◌, is_some, map, filter_map, option_map, bytes_eq, string_bytes, ◌↔◌, Contains, Result}, List.{list_any, Sorted.{IsStrictlySortedBy}}, Option.{option_flatten, option_or}, BTreeMap.{BTreeMap, get_by}, Borrow.{Bor, Fml, RattleType, MutBor, RestsIfErr}, Cmp.Lexicographic.{slice_cmp}, Ordering.{nat_cmp, on, then_cmp}, declared.cmp.Ordering.{Ordering}}
use Rattle.cacache_entry.specs.{Entry.{Entry}, Bucket.{Found, answer_of, answer_to, latest}, View.{entry_view}, declared.metadata.SerializableMetadata.{SerializableMetadata}}
use Rattle.cacache_calls.specs.{State.{Item}, Runs.{Moves, Gains}, Walking.{most}}
use Rattle.cacache_core.specs.{declared.{errors.Error.{Error}, integrity.digest.Hash.{Hash}}, Integrity.{IsHash, rank}, Paths.{join, joined, content_area, content_names}}
use Rattle.cacache_store.specs.{declared.{store.log.LogItem.{LogItem}, env.Env.{Env}}, contracts.env.Env.{the_row}}
use Rattle.cacache_walks.specs.{declared.{contents.Contents.{Contents}, iterator.Ls.{Ls}}, Addresses.{IsContentPath, IsStrange}, Reading.{Folder, ReadsFolders, StopsWalk, top_folder, files_shown}}

-- the keys of entries
abbrev pub keys_in : List SerializableMetadata → List (List ℕ)
keys_in es = map (λ e. string_bytes e.key) es

-- the keys for which the lookup finds an entry, as what it finds
abbrev pub lookups : List Entry → List (List ℕ) → List Item
lookups es keys = filter_map (λ key. option_map Ok (latest key es)) keys

-- a key is looked up at its last entry
abbrev pub added_at : List Entry → List ℕ → List (List ℕ) → List Item
added_at es key later = if list_any (bytes_eq key) later then [] else lookups es (key ∷ [])

-- the entries end with this one and the later ones
abbrev pub EndsWith :
    List Entry → SerializableMetadata → List SerializableMetadata → Type 0
EndsWith es e later = (front : List Entry) × (es ≡ front ++ entry_view e ∷ map entry_view later)

-- what an entry answers to a lookup of its own key, if the answer is an entry
abbrev pub own_answer : Entry → Option Found
own_answer e = option_flatten (answer_of e e.integrity)

-- the last entry that answers to the key
abbrev pub decider : List ℕ → List Entry → Option Entry
decider key [] = None
decider key (e ∷ es) =
    option_or (decider key es) (if is_some (answer_to key e) then Some e else None)

-- the entry that a map has at a key
abbrev pub entry_in : BTreeMap (Bor (List ℕ)) (Bor SerializableMetadata) → List ℕ → Option Entry
entry_in entries key =
    option_map (λ e. entry_view e.now) (get_by (λ k. slice_cmp nat_cmp key k.now) entries)

-- ---- what it holds

-- the contents' integrities and the strange paths among these files
pub record Sorts
    (cache : List ℕ) (files : List (List ℕ))
    (addresses : List (List Hash)) (strange : List (List ℕ)) : Type 0 where
  pub contents : (i : List Hash)
      → Contains addresses i ↔ ((path : List ℕ) × Contains files path × IsContentPath cache path i)
  pub others : (path : List ℕ)
      → Contains strange path ↔ (Contains files path × IsStrange cache path)

-- the folder of contents
abbrev pub content_area_in : List ℕ → List ℕ
content_area_in cache = join cache content_area

-- the log gained a walk through the folder of contents, and the files that it shows are sorted in this way
abbrev pub ListsContents : List ℕ → List (List Hash) → List (List ℕ)
    → Option (List LogItem) → Option (List LogItem) → Type 0
ListsContents cache addresses strange old new =
    (moves : Moves) × Gains old new moves × ReadsFolders
    (top_folder (content_area_in cache) ∷ []) moves
    × Sorts cache (files_shown moves) addresses strange

-- the same for the contents that were answered
abbrev pub AnswersContents : List ℕ → Contents
    → Option (List LogItem) → Option (List LogItem) → Type 0
AnswersContents cache c old new =
    ListsContents cache c.addresses.items (map string_bytes c.strange.items) old new

-- the log gained a walk through this folder, and these are the files that it shows
abbrev pub ShowsBelow : List ℕ → List (List ℕ)
    → Option (List LogItem) → Option (List LogItem) → Type 0
ShowsBelow path files old new =
    (moves : Moves) × Gains old new moves
    × ReadsFolders (top_folder path ∷ []) moves × (files ≡ files_shown moves)

-- ---- the order of a listing

-- the stronger algorithm comes first; for the same one, the digests' bytes decide
abbrev pub hash_cmp : Hash → Hash → Ordering
hash_cmp =
    then_cmp (on (λ h. rank h.algorithm) nat_cmp) (on (λ h. h.digest) (slice_cmp nat_cmp))

-- the integrities have one hash each and are in that order, none twice
pub record IsByHash (addresses : List (List Hash)) : Type 0 where
  pub hashes : List Hash
  pub single : addresses ≡ map (λ h. h ∷ []) hashes
  pub ascend : IsStrictlySortedBy hash_cmp hashes

-- the paths are ordered by their bytes, none twice
abbrev pub IsByBytes : List (List ℕ) → Type 0
IsByBytes paths = IsStrictlySortedBy (slice_cmp nat_cmp) paths

-- ---- the errors of a listing

-- the log gained moves through these folders, with at most this many names, and this error ended them
abbrev pub StopsAt : ℕ → List Folder → Error
    → Option (List LogItem) → Option (List LogItem) → Type 0
StopsAt left todo e old new = (moves : Moves) × Gains old new moves × StopsWalk left todo moves e

-- the error ended the walk through this folder, which takes at most 2^63 names
abbrev pub StopsBelow : List ℕ → Error
    → Option (List LogItem) → Option (List LogItem) → Type 0
StopsBelow path = StopsAt most (top_folder path ∷ [])

-- the error ended the walk through the folder of contents
abbrev pub StopsListing : List ℕ → Error
    → Option (List LogItem) → Option (List LogItem) → Type 0
StopsListing cache = StopsBelow (content_area_in cache)

-- ---- a law

-- an address is listed if and only if its content's path is among the files
abbrev pub ListedAreShown : Type 0
ListedAreShown =
    (cache : List ℕ) (files : List (List ℕ)) (addresses : List (List Hash))
    (strange : List (List ℕ)) → Sorts cache files addresses strange → (h : Hash) → IsHash h
    → Contains addresses (h ∷ []) ↔ Contains files (joined cache (content_names h))

-- ---- the environment after a listing

-- without a listing it is unchanged; otherwise it is as the listing leaves it
module _ (S C N : RattleType) where
  -- the final environment of a call that opened a listing with it
  abbrev pub EnvRests : MutBor (Env S.Denot C.Denot N.Denot) → Result (Ls S.Denot C.Denot N.Denot) Error → Fml
  EnvRests env r =
      RestsIfErr (the_row S C N) env (λ ls. ls.env.ghost_name) r (λ last. last ≡ env.now)
