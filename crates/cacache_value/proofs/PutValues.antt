-- The value of a tree after a node is put or cut.
use Rattle.std.proofs.{Common.{arith, rules, ◌≡◌, ℕ, Bool, true, false, cond, List, ◌++◌, Option, None, Some, refl, ap, ◌∙◌}, lemmas.Grind.{common_steps}}
use Rattle.cacache_core.specs.{declared.integrity.digest.Hash.{Hash}, Paths.{content_names, bucket_names_of}}
use Rattle.cacache_disk.specs.{declared.node.Node.{Node, TheVariants.{Folder, File}}, Tree.{Tree, Names, look, put, cut, same_path, is_folder}}
use Rattle.cacache_disk.proofs.{Maps.{same_path-true}, PutNodes.{look-put, look-cut, folders-put, folders-cut}}
use Rattle.cacache_entry.specs.{Entry.{Entry}, Bucket.{entries_of}}
use Rattle.cacache_value.specs.{Kinds.{Content, Bucket, Way, kind_below, path_kind, node_below, is_path_of}, Value.{Value, blob_in, bucket_in, wide_value}, Acts.{put_blob, list_of, add_entries, drop_file, set_folder, with_folders}, Placed.{MayStand, Placed}}
use Rattle.cacache_value.proofs.PathKinds.{unseen}

-- values that answer alike are the same
pub same_value : (v w : Value) → ((a : Hash) → v.contents a ≡ w.contents a) → ((h : List ℕ) → v.buckets h ≡ w.buckets h)
    → ((q : Names) → v.folders q ≡ w.folders q) → v ≡ w
same_value v w c b f = λ i. record { contents = λ a. c a i; buckets = λ h. b h i; folders = λ q. f q i }

pub node_below-put : (home : Option Names) (t : Tree) (p : Names) (node : Node) (names : Names)
    → node_below home (put t p node) names ≡ cond (is_path_of home names p) (Some node) (node_below home t names)
node_below-put home t p node names = grind (arith, look-put)

node_below-cut : (home : Option Names) (t : Tree) (p names : Names) → node_below home (cut t p) names ≡ cond (is_path_of home names p) None (node_below home t names)
node_below-cut home t p names = grind (arith, look-cut)

-- the node at a path that is this one
pub node_below-here : (home : Option Names) (t : Tree) (p names : Names) → is_path_of home names p ≡ true → node_below home t names ≡ look t p
node_below-here None t p names e = absurd cc
node_below-here (Some home) t p names e = ap (look t) (same_path-true (home ++ names) p e)

each : {A B : Type 0} (f : A → B) (b : Bool) (x y : A) → f (cond b x y) ≡ cond b (f x) (f y)
each f b x y = grind (arith, common_steps)

-- a change at a path of another kind isn't seen
pub put_unseen : (home : Option Names) (t : Tree) (p : Names) (node : Node) (names : Names) → (kind_below names ≡ path_kind home p → ⊥)
    → node_below home (put t p node) names ≡ node_below home t names
put_unseen home t p node names apart = node_below-put home t p node names ∙ ap (λ b. cond b (Some node) (node_below home t names)) (unseen home names p apart)

pub cut_unseen : (home : Option Names) (t : Tree) (p names : Names) → (kind_below names ≡ path_kind home p → ⊥)
    → node_below home (cut t p) names ≡ node_below home t names
cut_unseen home t p names apart = node_below-cut home t p names ∙ ap (λ b. cond b None (node_below home t names)) (unseen home names p apart)

-- ---- what may be at each path

placed_at : (home : Option Names) (p q : Names) (new old : Option Node) (b : Bool) → same_path q p ≡ b → MayStand home new (path_kind home p)
    → MayStand home old (path_kind home q) → MayStand home (cond b new old) (path_kind home q)
placed_at home p q new old b e s h = grind (arith, same_path-true)

pub placed_put : (home : Option Names) (t : Tree) (p : Names) (node : Node) → MayStand home (Some node) (path_kind home p) → Placed home t
    → Placed home (put t p node)
placed_put home t p node s placed = λ q. rw (look-put t p node q) (placed_at home p q (Some node) (look t q) (same_path q p) refl s (placed q))

pub placed_cut : (home : Option Names) (t : Tree) (p : Names) → Placed home t → Placed home (cut t p)
placed_cut home t p placed = λ q. rw (look-cut t p q) (placed_at home p q None (look t q) (same_path q p) refl tt (placed q))

-- ---- the value

module _ (home : Option Names) (t : Tree) (p : Names) where
  -- a file or link put at a path at which the cache keeps nothing
  pub put_hidden : (node : Node) → (Content ≡ path_kind home p → ⊥) → (Bucket ≡ path_kind home p → ⊥) → is_folder (Some node) ≡ false
      → is_folder (look t p) ≡ false → wide_value home (put t p node) ≡ wide_value home t
  put_hidden node c b fresh old = search (rules, same_value, put_unseen, folders-put)

  -- a file cut at a path at which the cache keeps nothing
  pub cut_hidden : (Content ≡ path_kind home p → ⊥) → (Bucket ≡ path_kind home p → ⊥) → is_folder (look t p) ≡ false
      → wide_value home (cut t p) ≡ wide_value home t
  cut_hidden c b old = search (rules, same_value, cut_unseen, folders-cut)

  -- a file or link put at a content's path
  pub put_content : (node : Node) → path_kind home p ≡ Content → is_folder (Some node) ≡ false → is_folder (look t p) ≡ false
      → wide_value home (put t p node) ≡ put_blob home p (blob_in (Some node)) (wide_value home t)
  put_content node k fresh old = search (rules, same_value, node_below-put, each, put_unseen, folders-put)

  bucket_at : (x : List ℕ) (new : List Entry) (names : Names) (b : Bool) → is_path_of home names p ≡ b
      → entries_of x ≡ list_of (bucket_in (look t p)) ++ new
      → bucket_in (cond b (Some (File x)) (node_below home t names)) ≡ cond b (Some (list_of (bucket_in (node_below home t names)) ++ new)) (bucket_in (node_below home t names))
  bucket_at x new names b e is = grind (arith, node_below-here)

  -- a file with more entries put at a bucket's path
  pub put_bucket : (x : List ℕ) (new : List Entry) → path_kind home p ≡ Bucket → is_folder (look t p) ≡ false
      → entries_of x ≡ list_of (bucket_in (look t p)) ++ new
      → wide_value home (put t p (File x)) ≡ add_entries home p new (wide_value home t)
  put_bucket x new k old is = search (rules, same_value, put_unseen, node_below-put, bucket_at, folders-put)

  -- a file or link cut anywhere
  pub cut_file : is_folder (look t p) ≡ false → wide_value home (cut t p) ≡ drop_file home p (wide_value home t)
  cut_file old = search (rules, same_value, node_below-cut, each, folders-cut)

  -- a folder cut: it is no content and no bucket
  no_file : {A : Type 0} (f : Option Node → Option A) (names : Names) (b : Bool) → is_path_of home names p ≡ b → f None ≡ f (Some Folder)
      → look t p ≡ Some Folder → f (cond b None (node_below home t names)) ≡ f (node_below home t names)
  no_file f names b e same is = grind (arith, node_below-here)

  pub cut_folder : look t p ≡ Some Folder
      → wide_value home (cut t p) ≡ with_folders (set_folder false p (wide_value home t).folders) (wide_value home t)
  cut_folder is =
      same_value _ _
      (λ a. ap blob_in (node_below-cut home t p (content_names a)) ∙ no_file blob_in (content_names a) (is_path_of home (content_names a) p) refl refl is)
      (λ h. ap bucket_in (node_below-cut home t p (bucket_names_of h)) ∙ no_file bucket_in (bucket_names_of h) (is_path_of home (bucket_names_of h) p) refl refl is)
      (λ q. ap is_folder (look-cut t p q) ∙ each is_folder (same_path q p) None (look t q))

  -- a folder made on the way
  pub put_folder : path_kind home p ≡ Way
      → wide_value home (put t p Folder) ≡ with_folders (set_folder true p (wide_value home t).folders) (wide_value home t)
  put_folder k = search (rules, same_value, put_unseen, look-put, each)
