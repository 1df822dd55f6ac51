-- What a cache holds, and what it holds in a tree.
use Rattle.std.specs.Prelude.{ℕ, Bool, false, List, [], ◌∷◌, ◌++◌, Option, None, Some}
use Rattle.cacache_core.specs.{declared.integrity.digest.Hash.{Hash}, Paths.{Names, content_names, bucket_names_of}}
use Rattle.cacache_disk.specs.{declared.node.Node.{Node, TheVariants.{Folder, File, Link}}, Tree.{is_folder, Tree, look}}
use Rattle.cacache_entry.specs.{Entry.{Entry}, Bucket.{entries_of}}
use Rattle.cacache_value.specs.Kinds.{node_below}

-- a content: these bytes, or what a link leads to
pub data Blob : Type 0 where
  InFile : List ℕ → Blob
  AtLink : List ℕ → Blob

-- the content at each address, the entries of each SHA-1's bucket, and which paths are folders
pub record Value : Type 0 where
  pub contents : Hash → Option Blob
  pub buckets : List ℕ → Option (List Entry)
  pub folders : Names → Bool

-- the value of a cache that holds nothing
abbrev pub empty_value : Value
empty_value = record {
  contents = λ address. None;
  buckets = λ digest. None;
  folders = λ names. false;
}

-- ---- of a tree

-- the content that a node is
abbrev pub blob_in : Option Node → Option Blob
blob_in None = None
blob_in (Some Folder) = None
blob_in (Some (File bytes)) = Some (InFile bytes)
blob_in (Some (Link target)) = Some (AtLink target)

-- the entries of the bucket that a node is
abbrev pub bucket_in : Option Node → Option (List Entry)
bucket_in None = None
bucket_in (Some Folder) = None
bucket_in (Some (File bytes)) = Some (entries_of bytes)
bucket_in (Some (Link target)) = None

-- the value of a tree with all of its folders, those outside the cache too
abbrev pub wide_value : Option Names → Tree → Value
wide_value home t = record {
  contents = λ address. blob_in (node_below home t (content_names address));
  buckets = λ digest. bucket_in (node_below home t (bucket_names_of digest));
  folders = λ names. is_folder (look t names);
}

-- the folders below the cache's own, by their names below it
abbrev pub folders_below : Option Names → (Names → Bool) → Names → Bool
folders_below None folders names = false
folders_below (Some home) folders [] = false
folders_below (Some home) folders (name ∷ rest) = folders (home ++ name ∷ rest)

-- the value with only the cache's own folders
abbrev pub cache_part : Option Names → Value → Value
cache_part home v = record v { folders = folders_below home v.folders }

-- what the cache holds in a tree
abbrev pub value_of_tree : Option Names → Tree → Value
value_of_tree home t = cache_part home (wide_value home t)
