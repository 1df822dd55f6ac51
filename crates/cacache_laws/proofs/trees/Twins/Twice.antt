-- A tree that lacks idle contents: what keeps it so, and that lookups and reads by key don't see it.
-- A file or link that is removed from both trees, one of which lacks idle contents.
use Rattle.std.proofs.{lemmas.{Grind.{common_steps}, List.Elements.{All-head}}, Common.{rules, ◌≡◌, ◌⊎◌, inl, inr, ℕ, List, [], ◌∷◌, ◌++◌, Option, Some, None, Bool, true, false, cond, Ok, refl, sym, ap, ◌∙◌, arith, Result, Err, subst}}
use Rattle.sha1.specs.Sha1.{sha1}
use Rattle.cacache_core.specs.{declared.{errors.Fault.{TheVariants.{NotFound}, Fault}, integrity.digest.Hash.{Hash}}, Integrity.{IsHash, IsIntegrity, address}, Paths.{Names, names_of, home_of, joined, content_names, bucket_names}, Matching.{meets}}
use Rattle.cacache_core.proofs.{JoinedNames.{joined_texts_name}, ProperNames.{names_are_proper}, PathLemmas.{keys_have_digests}}
use Rattle.cacache_store.specs.declared.store.{step.Step.TheVariants.{ReadAll, RemoveFile}, answer.Answer.TheVariants.{Done, Failed}}
use Rattle.cacache_disk.specs.{declared.{luck.Luck.TheVariants.{Plain}, node.Node.{Node, TheVariants.{File, Link}}}, Tree.{Tree, look, cut, same_path, Rooted}, Apply.{apply, unless}, LedTo.{place, where_removable, removable}}
use Rattle.cacache_disk.proofs.{FoundNodes.{and_then_ok, place_ok}, Maps.{same_path-true}, PutNodes.{look-cut}, Standing.{way_clear}}
use Rattle.cacache_entry.specs.Bucket.{Found}
use Rattle.cacache_calls.specs.Steps.{bucket_path, content_path}
use Rattle.cacache_value.{specs.Kinds.{Content, Bucket, path_kind, is_used}, proofs.PathKinds.{kind-below}}
use Rattle.cacache_laws.{specs.trees.{Walks.{is_leaf}, Idle.{Finds, IsNeeded, IsIdle, LacksIdle}}, proofs.trees.{Twins.Agreeing.{read_same}, Stepping.{Within, finds_within}}}
use Rattle.cacache_loss.proofs.StepCases.{cut_misses}
use Rattle.cacache_store.specs.declared.store.answer.Answer.TheVariants as answers
use Rattle.cacache_calls.specs.declared.carried.Aim.TheVariants as aims
use Rattle.cacache_calls.specs.declared.carried.Content as carried

-- ---- parts of both trees

-- at this path both are as before, or both are the same
abbrev pub Follows : (full lean rest left : Tree) → Names → Type 0
Follows full lean rest left q =
    (look left q ≡ look rest q) ⊎ ((look rest q ≡ look full q) × (look left q ≡ look lean q))

-- if nothing comes to the full tree, and each path of both is as before or the same in both
pub lacks_still : (cache : List ℕ) (home : Names) (full lean rest left : Tree) → LacksIdle cache home full lean → Within rest full → ((q : Names) → Follows full lean rest left q) → LacksIdle cache home rest left
lacks_still cache home full lean rest left l within follows = record {
  nodes = λ q. node q (follows q);
  links = λ names target is. l.links names target (within names _ is);
  formed = λ key found f. l.formed key found (finds_within rest full within cache key found f);
}
  where
    needed : (q : Names) → IsNeeded cache rest q → IsNeeded cache full q
    needed q n = (n.0, n.1, finds_within rest full within cache n.0 n.1 n.2, n.3)

    idle_still : (q : Names) → look rest q ≡ look full q → IsIdle cache home full q → IsIdle cache home rest q
    idle_still q same idle = record {
      kind = idle.kind;
      stands = ap is_leaf same ∙ idle.stands;
      idle = λ n. idle.idle (needed q n);
    }

    as_before : (q : Names) → look rest q ≡ look full q → look left q ≡ look lean q → (look lean q ≡ look full q) ⊎ ((look lean q ≡ None) × IsIdle cache home full q) → (look left q ≡ look rest q) ⊎ ((look left q ≡ None) × IsIdle cache home rest q)
    as_before q one two (inl same) = inl (two ∙ same ∙ sym one)
    as_before q one two (inr gap) = inr (two ∙ gap.0, idle_still q one gap.1)

    node : (q : Names) → Follows full lean rest left q → (look left q ≡ look rest q) ⊎ ((look left q ≡ None) × IsIdle cache home rest q)
    node q (inl same) = inl same
    node q (inr both) = as_before q both.0 both.1 (l.nodes q)

-- ---- what both read

pub address_is : (i : List Hash) → IsIntegrity i → (h : Hash) × IsHash h × (address i ≡ Some h)
address_is [] is = absurd (let some = is.nonempty in omega (arith, some))
address_is (h ∷ hs) is = (h, All-head IsHash h hs is.hashes, refl)

module _ (cache : List ℕ) (home : Names) (full lean : Tree) (is : home_of cache ≡ Some home) (l : LacksIdle cache home full lean) where
  pub same_node : (q : Names) → (path_kind (Some home) q ≡ Content → ⊥) → look lean q ≡ look full q
  same_node q apart = elim (l.nodes q) [ inl same ↦ same | inr gap ↦ absurd (apart gap.1.kind) ]

  -- a bucket is read alike
  pub bucket_read : (key : List ℕ) → (apply lean (ReadAll (bucket_path cache key)) Plain).0 ≡ (apply full (ReadAll (bucket_path cache key)) Plain).0
  unfolding bucket_path
  bucket_read key =
      let named : names_of (joined cache (bucket_names key)) ≡ Ok (home ++ bucket_names key) = joined_texts_name cache (bucket_names key) (names_are_proper.buckets (sha1 key) (keys_have_digests key)) (omega arith) ∙ rw is refl in
      let kind : path_kind (Some home) (home ++ bucket_names key) ≡ Bucket = kind-below home (bucket_names key) in
      read_same home full lean same_node l.links (joined cache (bucket_names key)) (home ++ bucket_names key) named (inl (ap is_used kind)) (same_node (home ++ bucket_names key) (λ c. let wrong : Bucket ≡ Content = sym kind ∙ c in cc))

  -- the content of an entry that a lookup finds is alike in both
  needed_node : (key : List ℕ) (found : Found) (q : Names) → Finds cache full key found → names_of (content_path cache found.integrity) ≡ Ok q → look lean q ≡ look full q
  needed_node key found q f named = elim (l.nodes q) [ inl same ↦ same | inr gap ↦ absurd (gap.1.idle (key, found, f, named)) ]

  content_named : (i : List Hash) → IsIntegrity i → (q : Names) × (names_of (content_path cache i) ≡ Ok q) × (path_kind (Some home) q ≡ Content)
  unfolding content_path
  content_named i formed =
      let a = address_is i formed in
      let named : names_of (joined cache (content_names a.0)) ≡ Ok (home ++ content_names a.0) = joined_texts_name cache (content_names a.0) (names_are_proper.contents a.0 a.1) (omega arith) ∙ rw is refl in
      (home ++ content_names a.0, rw a.2 named, kind-below home (content_names a.0))

  pub content_read : (key : List ℕ) (found : Found) → Finds cache full key found → (apply lean (ReadAll (content_path cache found.integrity)) Plain).0 ≡ (apply full (ReadAll (content_path cache found.integrity)) Plain).0
  content_read key found f =
      let c = content_named found.integrity (l.formed key found f) in
      read_same home full lean same_node l.links (content_path cache found.integrity) c.0 c.1 (inl (ap is_used c.2)) (needed_node key found c.0 f c.1)

-- ---- on one tree

-- a removal takes what is a file or link, and nothing else
pub data FileGoes (t : Tree) (path : List ℕ) : Type 0 where
  goes : (names : Names) → names_of path ≡ Ok names → is_leaf (look t names) ≡ true → apply t (RemoveFile path) Plain ≡ (Done, cut t names) → FileGoes t path
  fails : (fault : Fault) → ((names : Names) → names_of path ≡ Ok names → is_leaf (look t names) ≡ false) → apply t (RemoveFile path) Plain ≡ (Failed fault, t) → FileGoes t path

pub leaf_goes : (t : Tree) (path : List ℕ) (names : Names) (here : Option Node) → Rooted t → names_of path ≡ Ok names → look t names ≡ here → is_leaf here ≡ true → apply t (RemoveFile path) Plain ≡ (Done, cut t names)
unfolding apply removable place
leaf_goes t path names (Some (File bytes)) rooted is there e = rw (is, way_clear t [] names (File bytes) rooted there, there) refl
leaf_goes t path names (Some (Link target)) rooted is there e = rw (is, way_clear t [] names (Link target) rooted there, there) refl
leaf_goes t path names here rooted is there e = absurd cc

leaf_at : (here : Option Node) (old new : Names) → where_removable here old ≡ Ok new → (is_leaf here ≡ true) × (old ≡ new)
leaf_at here old new e = grind (arith, common_steps)

leaf_there : (t : Tree) (path : List ℕ) (names : Names) → removable t path ≡ Ok names → (names_of path ≡ Ok names) × (is_leaf (look t names) ≡ true)
unfolding removable
leaf_there t path names e =
    let f = and_then_ok (place t path) (λ names. where_removable (look t names) names) names e in
    let k = leaf_at (look t f.0) f.0 names f.2 in
    (place_ok t path f.0 f.1 ∙ ap Ok k.1, subst (λ n. is_leaf (look t n) ≡ true) k.1 k.0)

-- if it was done, a file or link was there
done_ok : (t : Tree) (r : Result Names Fault) → (unless r t (λ names. (Done, cut t names))).0 ≡ Done → (names : Names) × (r ≡ Ok names)
done_ok t r e = grind (arith, common_steps)

pub leaf_done : (t : Tree) (path : List ℕ) (names : Names) → names_of path ≡ Ok names → (apply t (RemoveFile path) Plain).0 ≡ Done → is_leaf (look t names) ≡ true
unfolding apply
leaf_done t path names is e =
    let f = done_ok t (removable t path) e in
    let k = leaf_there t path f.0 f.1 in
    let both : Ok f.0 ≡ Ok names = sym k.0 ∙ is in
    let same : f.0 ≡ names = cc in
    subst (λ n. is_leaf (look t n) ≡ true) same k.1

unless_fails : (r : Result Names Fault) (t : Tree) → ((names : Names) → r ≡ Ok names → ⊥) → (fault : Fault) × (unless r t (λ names. (Done, cut t names)) ≡ (Failed fault, t))
unless_fails (Ok names) t never = absurd (never names refl)
unless_fails (Err fault) t never = (fault, refl)

none_goes : (t : Tree) (path : List ℕ) → ((names : Names) → names_of path ≡ Ok names → is_leaf (look t names) ≡ false) → FileGoes t path
unfolding apply
none_goes t path none =
    let f = unless_fails (removable t path) t (λ names e.
    let k = leaf_there t path names e in
    let wrong : true ≡ false = sym k.1 ∙ none names k.0 in cc) in
    fails f.0 none f.1

goes_at : (t : Tree) (path : List ℕ) (names : Names) (b : Bool) → Rooted t → names_of path ≡ Ok names → is_leaf (look t names) ≡ b → FileGoes t path
goes_at t path names true rooted is leaf = goes names is leaf (leaf_goes t path names (look t names) rooted is refl leaf)
goes_at t path names false rooted is leaf = none_goes t path (λ n e. let both : Ok names ≡ Ok n = sym is ∙ e in let same : names ≡ n = cc in subst (λ x. is_leaf (look t x) ≡ false) same leaf)

named_goes : (t : Tree) (path : List ℕ) (r : Result Names Fault) → Rooted t → names_of path ≡ r → FileGoes t path
named_goes t path (Ok names) rooted is = goes_at t path names (is_leaf (look t names)) rooted is refl
named_goes t path (Err fault) rooted is = none_goes t path (λ n e. let wrong : Err fault ≡ Ok n = sym is ∙ e in absurd cc)

pub file_goes : (t : Tree) (path : List ℕ) → Rooted t → FileGoes t path
file_goes t path rooted = named_goes t path (names_of path) rooted refl

-- ---- what is cut

cut_within : (t : Tree) (names : Names) → Within (cut t names) t
cut_within t names q node e = search (rules, look-cut)

cut_here : (t : Tree) (names q : Names) → same_path q names ≡ true → look (cut t names) q ≡ None
cut_here t names q same = look-cut t names q ∙ ap (λ b. cond b None (look t q)) same

module _ (cache : List ℕ) (home : Names) (full lean : Tree) (l : LacksIdle cache home full lean) where
  both_cut : (names : Names) → LacksIdle cache home (cut full names) (cut lean names)
  both_cut names = lacks_still cache home full lean (cut full names) (cut lean names) l (cut_within full names) (λ q. at q (same_path q names) refl)
    where
      at : (q : Names) (b : Bool) → same_path q names ≡ b → Follows full lean (cut full names) (cut lean names) q
      at q true same = inl (cut_here lean names q same ∙ sym (cut_here full names q same))
      at q false apart = inr (cut_misses full names q apart, cut_misses lean names q apart)

  full_cut : (names : Names) → look lean names ≡ None → LacksIdle cache home (cut full names) lean
  full_cut names none = lacks_still cache home full lean (cut full names) lean l (cut_within full names) (λ q. at q (same_path q names) refl)
    where
      at : (q : Names) (b : Bool) → same_path q names ≡ b → Follows full lean (cut full names) lean q
      at q true same = inl (ap (look lean) (same_path-true q names same) ∙ none ∙ sym (cut_here full names q same))
      at q false apart = inr (cut_misses full names q apart, refl)

-- ---- on both

-- a removal takes it from both, from none, or an idle content from the full one alone
pub data Twice (cache : List ℕ) (home : Names) (full lean : Tree) (path : List ℕ) : Type 0 where
  from_both : (rest left : Tree) → apply full (RemoveFile path) Plain ≡ (Done, rest) → apply lean (RemoveFile path) Plain ≡ (Done, left) → LacksIdle cache home rest left → Twice cache home full lean path
  from_none : (fault other : Fault) → apply full (RemoveFile path) Plain ≡ (Failed fault, full) → apply lean (RemoveFile path) Plain ≡ (Failed other, lean) → Twice cache home full lean path
  from_full : (names : Names) (rest : Tree) (fault : Fault) → names_of path ≡ Ok names → (IsNeeded cache full names → ⊥) → apply full (RemoveFile path) Plain ≡ (Done, rest) → apply lean (RemoveFile path) Plain ≡ (Failed fault, lean) → LacksIdle cache home rest lean → Twice cache home full lean path

module _ (cache : List ℕ) (home : Names) (full lean : Tree) (l : LacksIdle cache home full lean) (path : List ℕ) where
  lean_lacks : (names : Names) (fault : Fault) → names_of path ≡ Ok names → is_leaf (look full names) ≡ true → is_leaf (look lean names) ≡ false → apply full (RemoveFile path) Plain ≡ (Done, cut full names) → apply lean (RemoveFile path) Plain ≡ (Failed fault, lean)
      → (look lean names ≡ look full names) ⊎ ((look lean names ≡ None) × IsIdle cache home full names) → Twice cache home full lean path
  lean_lacks names fault is leaf empty a b (inl same) = absurd (let wrong : true ≡ false = sym leaf ∙ ap is_leaf (sym same) ∙ empty in cc)
  lean_lacks names fault is leaf empty a b (inr gap) = from_full names (cut full names) fault is gap.1.idle a b (full_cut cache home full lean l names gap.0)

  full_has : (names : Names) → is_leaf (look lean names) ≡ true → (look lean names ≡ look full names) ⊎ ((look lean names ≡ None) × IsIdle cache home full names) → is_leaf (look full names) ≡ true
  full_has names leaf h = grind (arith, common_steps)

  twice : FileGoes full path → FileGoes lean path → Twice cache home full lean path
  twice (goes names is leaf a) (goes other named there b) =
      let two : Ok other ≡ Ok names = sym named ∙ is in
      let same : other ≡ names = cc in
      from_both (cut full names) (cut lean names) a (b ∙ ap (λ n. (Done, cut lean n)) same) (both_cut cache home full lean l names)
  twice (goes names is leaf a) (fails fault never b) = lean_lacks names fault is leaf (never names is) a b (l.nodes names)
  twice (fails fault never a) (goes names is leaf b) = absurd (let wrong : true ≡ false = sym (full_has names leaf (l.nodes names)) ∙ never names is in cc)
  twice (fails fault first a) (fails other second b) = from_none fault other a b

pub removed_twice : (cache : List ℕ) (home : Names) (full lean : Tree) (path : List ℕ) → LacksIdle cache home full lean → Rooted full → Rooted lean → Twice cache home full lean path
removed_twice cache home full lean path l rooted other = twice cache home full lean l path (file_goes full path rooted) (file_goes lean path other)
