-- The names of a path, and the paths of contents, buckets and temporary files, as names below the cache folder and as texts.
use Rattle.std.specs.{Prelude.{◌≡◌, ℕ, Bool, true, false, ◌||◌, not, ◌==◌, if◌then◌else◌, List, [], ◌∷◌, ◌++◌, Option, None, Some, length, filter, Result, Ok, Err, ◌-◌, take, drop, slice_index, codes}, Bool.{nat_eq}, Cmp.Lexicographic.{pointwise}, List.{slice_split, list_any}, Int.{to_be_bytes, w64}}
use Rattle.cacache_core.specs.{declared.{errors.Fault.{Fault, TheVariants.{NotFound, InvalidInput}}, integrity.digest.Hash.{Hash}}, Texts.{name_of}}
use Rattle.hex.specs.Hex.{encode_lower}
use Rattle.sha1.specs.Sha1.{sha1}

-- names from the top folder down
abbrev pub Names : Type 0
Names = List (List ℕ)

-- the pieces of a path between its slashes
unfoldable pub pieces : List ℕ → Names
pieces path = slice_split (λ b. b == 47) path

-- `..`, which no path may have
abbrev pub is_above : List ℕ → Bool
is_above piece = pointwise nat_eq piece (46 ∷ 46 ∷ [])

-- a piece that names something: neither empty nor `.`
abbrev pub is_name : List ℕ → Bool
is_name piece = not (length piece == 0 || pointwise nat_eq piece (46 ∷ []))

-- a path with a NUL or a name `..` can't name anything
abbrev pub is_bad : List ℕ → Bool
is_bad path = list_any (λ b. b == 0) path || list_any is_above (pieces path)

-- the names in a path's text, or the fault if it has none
unfoldable pub names_of : List ℕ → Result Names Fault
names_of path =
    if length path == 0 then Err NotFound
    else if is_bad path then Err InvalidInput
    else Ok (filter is_name (pieces path))

-- `/` and NUL, which no name contains
abbrev pub ends_name : ℕ → Bool
ends_name b = b == 47 || b == 0

-- a name for one thing in its folder: not empty, `.` or `..`, with no `/` and no NUL
abbrev pub IsProperName : List ℕ → Type 0
IsProperName name =
    (is_name name ≡ true) × (is_above name ≡ false) × (list_any ends_name name ≡ false)

-- the names of a cache's folder: an empty text is the top folder, one with a NUL or `..` has none
unfoldable pub home_of : List ℕ → Option Names
home_of cache = if is_bad cache then None else Some (filter is_name (pieces cache))

-- the full names of something below a cache's folder, from the top folder down
abbrev pub names_below : Option Names → Names → Result Names Fault
names_below None names = Err InvalidInput
names_below (Some home) names = Ok (home ++ names)

-- ---- the paths of contents, buckets and temporary files, as names below the cache folder and as texts

-- the folder of contents, by its name in the cache folder
abbrev pub content_area : List ℕ
content_area = codes "content-v2"

-- the folder of buckets
abbrev pub index_area : List ℕ
index_area = codes "index-v5"

-- the folder of temporary files
abbrev pub temp_area : List ℕ
temp_area = codes "tmp"

-- digits cut into the first two, the next two and the rest
abbrev pub cut_digits : List ℕ → List (List ℕ)
cut_digits h = take 2 h ∷ take 2 (drop 2 h) ∷ drop 4 h ∷ []

-- the names of a content's path: the folder of contents, the algorithm, the cut hex digits of the digest
abbrev pub content_names : Hash → List (List ℕ)
content_names h = content_area ∷ name_of h.algorithm ∷ cut_digits (encode_lower h.digest)

-- the names of a bucket's path: the folder of buckets, the cut hex digits of its keys' digest
abbrev pub bucket_names_of : List ℕ → List (List ℕ)
bucket_names_of digest = index_area ∷ cut_digits (encode_lower digest)

-- the names of the path of a key's bucket
abbrev pub bucket_names : List ℕ → List (List ℕ)
bucket_names key = bucket_names_of (sha1 key)

-- the names of a temporary file's path: the folder of such files, then `.tmp` and its number in 16 hex digits
abbrev pub temp_names : ℕ → List (List ℕ)
temp_names number = temp_area ∷ (codes ".tmp" ++ encode_lower (to_be_bytes w64 number)) ∷ []

-- a path with a name joined to it
unfoldable pub join : List ℕ → List ℕ → List ℕ
join path b =
    if length path == 0 then b
    else if slice_index path (length path - 1) == 47 then path ++ b
    else path ++ 47 ∷ b

-- a path with names joined to it, one after another
abbrev pub joined : List ℕ → List (List ℕ) → List ℕ
joined path [] = path
joined path (n ∷ ns) = joined (join path n) ns

-- names, each after a slash
abbrev pub slashed : List (List ℕ) → List ℕ
slashed [] = []
slashed (n ∷ ns) = 47 ∷ n ++ slashed ns

-- the names without the last: those of a file's folder
abbrev pub folder_names : List (List ℕ) → List (List ℕ)
folder_names [] = []
folder_names (n ∷ []) = []
folder_names (n ∷ m ∷ ns) = n ∷ folder_names (m ∷ ns)

-- the folder that holds a hash's content, below the cache folder
abbrev pub folder_of_hash : List ℕ → Hash → List ℕ
folder_of_hash cache h = joined cache (folder_names (content_names h))

-- the names of the folders for a digest's first and second byte
abbrev pub digest_folders : List ℕ → List (List ℕ)
digest_folders digest = folder_names (cut_digits (encode_lower digest))

-- the name made of a digest's other bytes
abbrev pub digest_file : List ℕ → List ℕ
digest_file digest = drop 4 (encode_lower digest)

-- a path, and the path of each name below it except the last
abbrev pub folders_to : List ℕ → List (List ℕ) → List (List ℕ)
folders_to path [] = []
folders_to path (n ∷ ns) = path ∷ folders_to (join path n) ns

-- the first names are a prefix of the second
pub record Begins (ns ms : List (List ℕ)) : Type 0 where
  pub count : ℕ
  pub same : take count ms ≡ ns

-- neither is a prefix of the other
abbrev pub AreApart : List (List ℕ) → List (List ℕ) → Type 0
AreApart ns ms = (¬ Begins ns ms) × (¬ Begins ms ns)

-- the folders of a digest below a path: the path itself, and those for its first and its second byte
abbrev pub folders_of_digest : List ℕ → List ℕ → List (List ℕ)
folders_of_digest path digest = folders_to path (cut_digits (encode_lower digest))

-- the folders that lead from the cache folder to a hash's content
abbrev pub content_folders_of : List ℕ → Hash → List (List ℕ)
content_folders_of cache h = folders_to cache (content_names h)
