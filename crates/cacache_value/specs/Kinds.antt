-- What each path of a tree is for, as a cache sees it, and the paths of contents, buckets and temporary files.
use Rattle.std.specs.Prelude.{◌≡◌, ℕ, zero, suc, Bool, true, false, List, [], ◌∷◌, ◌++◌, Option, None, Some, IfOk, bytes_eq, if◌then◌else◌}
use Rattle.cacache_core.specs.{Paths.{content_area, index_area, temp_area, Names, names_of, names_below, home_of, joined, content_names, bucket_names_of, temp_names, folder_names}, declared.integrity.digest.Hash.{Hash}, Integrity.{IsHash}, Laws.{IsKeyDigest}}
use Rattle.cacache_disk.specs.{Tree.{Tree, look, same_path}, declared.node.Node.{Node}}

-- ---- below the cache's folder

-- a path's text names what lies at these names below the cache's folder
abbrev pub NamesBelow : Option Names → Names → List ℕ → Type 0
NamesBelow home names path = names_of path ≡ names_below home names

-- the node at these names below the cache's folder
abbrev pub node_below : Option Names → Tree → Names → Option Node
node_below None t names = None
node_below (Some home) t names = look t (home ++ names)

-- whether a path is the one of these names below the cache's folder
abbrev pub is_path_of : Option Names → Names → Names → Bool
is_path_of None names path = false
is_path_of (Some home) names path = same_path (home ++ names) path

-- ---- what a path is for

-- what a path of a tree is for
pub data PathKind : Type 0 where
  -- a content: four names below `content-v2`
  Content : PathKind
  -- a bucket: three names below `index-v5`
  Bucket : PathKind
  -- a temporary file: one name below `tmp`
  Temporary : PathKind
  -- a folder on the way to one of these: the cache's own and those above it too
  Way : PathKind
  -- below the cache's folder, and for nothing
  Stray : PathKind
  -- apart from the cache: neither below its folder nor on the way there
  Elsewhere : PathKind

-- the kind of a path in an area of the cache that has files so many names deep
abbrev pub kind_in_area : PathKind → ℕ → Names → PathKind
kind_in_area file zero [] = file
kind_in_area file zero (name ∷ rest) = Stray
kind_in_area file (suc depth) [] = Way
kind_in_area file (suc depth) (name ∷ rest) = kind_in_area file depth rest

-- the kind of a path, by its names below the cache's folder
abbrev pub kind_below : Names → PathKind
kind_below [] = Way
kind_below (area ∷ rest) =
    if bytes_eq area content_area then kind_in_area Content 4 rest
    else if bytes_eq area index_area then kind_in_area Bucket 3 rest
    else if bytes_eq area temp_area then kind_in_area Temporary 1 rest
    else Stray

-- the kind of a path, by the names of the cache's folder and its own
abbrev pub kind_beside : Names → Names → PathKind
kind_beside [] path = kind_below path
kind_beside (name ∷ home) [] = Way
kind_beside (name ∷ home) (first ∷ rest) =
    if bytes_eq name first then kind_beside home rest else Elsewhere

-- what a path is for; if the cache's text names no folder, each path is apart from it
abbrev pub path_kind : Option Names → Names → PathKind
path_kind None path = Elsewhere
path_kind (Some home) path = kind_beside home path

-- the cache puts files or folders at paths of this kind
abbrev pub is_used : PathKind → Bool
is_used Stray = false
is_used Elsewhere = false
is_used used = true

-- a path's text is for this; one that names nothing is for anything, since each step on it fails
abbrev pub IsFor : Option Names → PathKind → List ℕ → Type 0
IsFor home k path = IfOk (names_of path) (λ names. path_kind home names ≡ k)

-- ---- what the paths of contents, buckets and temporary files are for

-- the text of names below a cache's folder is for this
abbrev pub IsTextFor : List ℕ → PathKind → Names → Type 0
IsTextFor cache k names = IsFor (home_of cache) k (joined cache names)

-- so are the texts of contents, buckets and temporary files
pub record PathsAreFor (cache : List ℕ) : Type 0 where
  pub content : (h : Hash) → IsHash h → IsTextFor cache Content (content_names h)
  pub bucket : (d : List ℕ) → IsKeyDigest d → IsTextFor cache Bucket (bucket_names_of d)
  pub temporary : (n : ℕ) → IsTextFor cache Temporary (temp_names n)

-- and the folder of each is on the way there
pub record FoldersAreWays (cache : List ℕ) : Type 0 where
  pub content : (h : Hash) → IsHash h → IsTextFor cache Way (folder_names (content_names h))
  pub bucket : (d : List ℕ) → IsKeyDigest d → IsTextFor cache Way (folder_names (bucket_names_of d))
  pub temporary : (n : ℕ) → IsTextFor cache Way (folder_names (temp_names n))
