-- A read of a content that is there shows whether it is good.
use Rattle.std.proofs.Common.{◌≡◌, inl, inr, ℕ, List, [], ◌∷◌, ◌++◌, Option, Some, false, Ok, Err, refl, sym}
use Rattle.cacache_core.specs.{declared.{errors.{Fault.TheVariants.{IsADirectory}, Error.TheVariants.{IoError}}, integrity.digest.Hash.{Hash}}, Integrity.{IsHash}, Paths.{Names, names_of, home_of, joined, content_names}}
use Rattle.cacache_disk.specs.{declared.node.Node.{Node, TheVariants.{File, Link}}, Tree.{Tree, look, Rooted}, LedTo.{place, followed, leads, file_at}}
use Rattle.cacache_disk.proofs.Standing.{way_clear}
use Rattle.cacache_calls.specs.{Steps.{content_path}, State.{Site}}
use Rattle.cacache_value.specs.{Value.{Blob, blob_in, value_of_tree}, Shows.{link_end, blob_bytes}}
use Rattle.cacache_laws.proofs.trees.Keeping.{content_named}

-- ---- if a content is there, a read gives its bytes

leaf_read : (t : Tree) (path : List ℕ) (names : Names) (here : Option Node) (blob : Blob) → Rooted t → names_of path ≡ Ok names → look t names ≡ here → blob_in here ≡ Some blob → file_at t path IsADirectory ≡ blob_bytes t (blob_in here)
unfolding file_at leads place followed link_end
leaf_read t path names (Some (File bytes)) blob rooted is there e = rw (is, way_clear t [] names (File bytes) rooted there, there, there) refl
leaf_read t path names (Some (Link target)) blob rooted is there e = rw (is, way_clear t [] names (Link target) rooted there, there) refl
leaf_read t path names here blob rooted is there e = absurd cc

module _ (site : Site) (home : Names) (t : Tree) (h : Hash) (blob : Blob) (is : home_of site.cache ≡ Some home) (rooted : Rooted t) (hash : IsHash h) (stands : (value_of_tree (Some home) t).contents h ≡ Some blob) where
  -- what the content's path leads to has the bytes that the cache holds there
  pub content_file : file_at t (content_path site.cache (h ∷ [])) IsADirectory ≡ blob_bytes t ((value_of_tree (Some home) t).contents h)
  unfolding content_path
  content_file = leaf_read t (joined site.cache (content_names h)) (home ++ content_names h) (look t (home ++ content_names h)) blob rooted (content_named site.cache home h is hash) refl stands
