-- What is left once the contents that no entry has are removed.
-- A repair leaves the good contents.
use Rattle.std.proofs.{Common.{arith, rules, ◌≡◌, ◌++◌, inl, inr, ℕ, List, [], ◌∷◌, Bool, true, false, cond, Option, None, Some, Ok, Err, refl, sym, ap, subst, ◌∙◌, filter}, lemmas.{Grind.{common_steps}, Bool.{or_left, or_right, not-true}}}
use Rattle.std.specs.Prelude.{All, Contains, not}
use Rattle.cacache_laws.specs.trees.{Verifying.{LeavesGood, KeepsContents, is_good, is_met}, Contents.{HoldsJust, content_in}, Idle.{LacksIdle}, Index.{IndexLists, IndexesFind, entries_in}, Collecting.{LinksLeadOut, IsLive, Removes, IsCollected, is_address, is_live}}
use Rattle.cacache_laws.proofs.trees.{Indexed.{lists_each_key}, Keeping.{lacks_idle, removals_leave, stays}, Members.{Member, contains_member, member_contains}}
use Rattle.cacache_core.specs.{declared.integrity.digest.Hash.{Hash}, Integrity.{IsHash, IsIntegrity, address}, Paths.{Names, home_of, content_names}, Comparing.{same_hash-Decides}, Matching.{meets}}
use Rattle.cacache_disk.specs.Tree.{Tree, look, Rooted}
use Rattle.cacache_entry.specs.Bucket.{Found}
use Rattle.cacache_calls.specs.State.{Site, Item}
use Rattle.cacache_value.specs.{Value.{Blob, value_of_tree, InFile}, Shows.{blob_bytes}}

-- ---- members of filters

in_cond : {X : Type 0} (b : Bool) (x y : X) (ys : List X) → (x ≡ y → b ≡ true) → Member x (y ∷ ys) → Member x (cond b (y ∷ ys) ys)
in_cond b x y ys is m = grind (arith, common_steps)

skip : {X : Type 0} (b : Bool) (x y : X) (ys zs : List X) → (Member x ys → Member x zs) → Member x (y ∷ ys) → Member x (y ∷ zs)
skip b x y ys zs f h = grind (arith, common_steps)

pub kept_in : {X : Type 0} (p : X → Bool) (x : X) (xs : List X) → p x ≡ true → Member x xs → Member x (filter p xs)
kept_in p x [] is m = m
kept_in p x (y ∷ ys) is m = in_cond (p y) x y (filter p ys) (λ e. ap p (sym e) ∙ is) (skip (p y) x y ys (filter p ys) (kept_in p x ys is) m)

out_cond : {X : Type 0} (p : X → Bool) (b : Bool) (x y : X) (ys zs : List X) → p y ≡ b → (Member x ys → Member x zs × (p x ≡ true)) → Member x (cond b (y ∷ ys) ys) → Member x (y ∷ zs) × (p x ≡ true)
out_cond p b x y ys zs is f h = grind (arith, common_steps)

pub from_kept : {X : Type 0} (p : X → Bool) (x : X) (xs : List X) → Member x (filter p xs) → Member x xs × (p x ≡ true)
from_kept p x [] m = absurd m
from_kept p x (y ∷ ys) m = out_cond p (p y) x y (filter p ys) ys refl (from_kept p x ys) m

-- ---- live addresses

at_some : (o : Option Hash) (h : Hash) → o ≡ Some h → is_address o h ≡ true
at_some o h e = ap (λ x. is_address x h) e ∙ (same_hash-Decides h h).1 refl

pub live_so : (entries : List Found) (f : Found) (h : Hash) → Member f entries → address f.integrity ≡ Some h → is_live entries h ≡ true
live_so [] f h m e = absurd m
live_so (g ∷ entries) f h (inl same) e = or_left (is_address (address g.integrity) h) (is_live entries h) (ap (λ (x : Found). is_address (address x.integrity) h) (sym same) ∙ at_some (address f.integrity) h e)
live_so (g ∷ entries) f h (inr m) e = or_right (is_address (address g.integrity) h) (is_live entries h) (live_so entries f h m e)

pub item_in : (f : Found) (items : List Item) → Member (Ok f) items → Member f (entries_in items)
item_in f [] m = m
item_in f (Ok g ∷ items) (inl e) = inl (let same : Ok f ≡ Ok g = e in cc)
item_in f (Ok g ∷ items) (inr m) = inr (item_in f items m)
item_in f (Err error ∷ items) (inl e) = absurd (let wrong : Ok f ≡ Err error = e in cc)
item_in f (Err error ∷ items) (inr m) = item_in f items m

not_false : (b : Bool) → b ≡ true → not b ≡ true → ⊥
not_false b e n = let wrong : false ≡ true = ap not (sym e) ∙ n in cc

-- ---- what removals leave of a listing if those are left that a test picks

module _ (site : Site) (home : Names) (t new : Tree) (hashes : List Hash) (strange : List (List ℕ)) (picked : Hash → Bool)
    (is : home_of site.cache ≡ Some home) (holds : HoldsJust site.cache home t hashes strange)
    (removed : Removes site.cache (filter (λ h. not (picked h)) hashes) t new) where
  abbrev dropped : List Hash
  dropped = filter (λ h. not (picked h)) hashes

  of_dropped : (h : Hash) → Contains dropped h → Contains hashes h × (not (picked h) ≡ true)
  of_dropped h c = let k = from_kept (λ x. not (picked x)) h hashes (member_contains h dropped c) in (contains_member h hashes k.0, k.1)

  pub dropped_hash : (h : Hash) → Contains dropped h → IsHash h
  dropped_hash h c = holds.formed h (of_dropped h c).0

  pub leaves : IsCollected home dropped t new
  leaves = removals_leave site.cache home dropped t new is dropped_hash removed

  pub picked_left : (h : Hash) → IsHash h → picked h ≡ true → (value_of_tree (Some home) new).contents h ≡ (value_of_tree (Some home) t).contents h
  picked_left h hash live = leaves.kept h hash (λ c. not_false (picked h) live (of_dropped h c).1)

  listed_gone : (h : Hash) → picked h ≡ false → Contains hashes h → (value_of_tree (Some home) new).contents h ≡ None
  listed_gone h dead c = leaves.gone h (contains_member h dropped (kept_in (λ x. not (picked x)) h hashes (ap not dead) (member_contains h hashes c)))

  -- if nothing was there, nothing is
  unheld : (h : Hash) → IsHash h → (value_of_tree (Some home) t).contents h ≡ None → (value_of_tree (Some home) new).contents h ≡ None
  unheld h hash none = search (rules, leaves, of_dropped)

  gone_at : (o : Option Blob) (h : Hash) → IsHash h → picked h ≡ false → (value_of_tree (Some home) t).contents h ≡ o → (value_of_tree (Some home) new).contents h ≡ None
  gone_at o h hash dead e = grind (arith, unheld, listed_gone)

  pub others_gone : (h : Hash) → IsHash h → picked h ≡ false → (value_of_tree (Some home) new).contents h ≡ None
  others_gone h hash dead = gone_at ((value_of_tree (Some home) t).contents h) h hash dead refl

  pub rest_stays : (names : Names) → ((h : Hash) → IsHash h → picked h ≡ false → names ≡ home ++ content_names h → ⊥) → look new names ≡ look t names
  rest_stays names apart =
      stays site.cache home is dropped t new names (λ g m. dropped_hash g (contains_member g dropped m)) removed
      (λ g m e. apart g (dropped_hash g (contains_member g dropped m)) (not-true (picked g) (of_dropped g (contains_member g dropped m)).1) e)

module _ (site : Site) (home : Names) (t new : Tree) (hashes : List Hash) (strange : List (List ℕ)) (entries : List Found)
    (is : home_of site.cache ≡ Some home) (holds : HoldsJust site.cache home t hashes strange) (index : IndexLists site t entries)
    (removed : Removes site.cache (filter (λ h. not (is_live entries h)) hashes) t new) where
  abbrev unused : List Hash
  unused = filter (λ h. not (is_live entries h)) hashes

  -- ---- what it lacks

  abbrev items : List Item
  items = index.items

  entry_of : (f : Found) → Contains items (Ok f) → Contains entries f
  entry_of f c = subst (λ l. Contains l f) (sym index.those) (contains_member f (entries_in items) (item_in f items (member_contains (Ok f) items c)))

  not_live : (h : Hash) → Contains unused h → IsLive items h → ⊥
  not_live h c l = not_false (is_live entries h) (live_so entries l.0 h (member_contains l.0 entries (entry_of l.0 l.1)) l.2) (from_kept (λ x. not (is_live entries x)) h hashes (member_contains h unused c)).1

  pub lacks : Rooted t → LinksLeadOut home t → All (λ f. IsIntegrity f.integrity) entries → LacksIdle site.cache home t new
  lacks rooted out formed =
      lacks_idle site home t new index.answers.0 items unused is rooted out index.answers.1 index.answers.2 index.clean
      (λ f c. let e = entry_of f c in subst (λ x. IsIntegrity x.integrity) e.2 (formed e.0 f e.1))
      (λ h c. (dropped_hash site home t new hashes strange (is_live entries) is holds removed h c, not_live h c)) removed

pub indexes_find : IndexesFind
indexes_find site home t entries key bytes found is rooted index answer e =
    let item = lists_each_key site home t index.answers.0 index.items key bytes found is rooted index.answers.1 index.answers.2 index.clean answer e in
    subst (λ l. Contains l found) (sym index.those) (contains_member found (entries_in index.items) (item_in found index.items (member_contains (Ok found) index.items item)))

-- what is left and is a file was good, and so met its address
file_met : (home : Names) (t new : Tree) (h : Hash) (bytes : List ℕ) (good : Bool) → is_good home t h ≡ good
    → (good ≡ true → content_in home new h ≡ content_in home t h) → (good ≡ false → content_in home new h ≡ None)
    → content_in home new h ≡ Some (InFile bytes) → meets (h ∷ []) bytes ≡ true
file_met home t new h bytes good is kept gone there = grind (arith, common_steps)

-- the good contents are left once the others were removed, and tombstones were added
pub repairs_leave : (site : Site) (home : Names) (t mid new : Tree) (hashes : List Hash) (strange : List (List ℕ))
    → home_of site.cache ≡ Some home → HoldsJust site.cache home t hashes strange
    → Removes site.cache (filter (λ h. not (is_good home t h)) hashes) t mid → KeepsContents home mid new → LeavesGood home t new
repairs_leave site home t mid new hashes strange is holds removed keeps =
    let kept = λ (h : Hash) (hash : IsHash h) (good : is_good home t h ≡ true). keeps.contents h ∙ picked_left site home t mid hashes strange (is_good home t) is holds removed h hash good in
    let gone = λ (h : Hash) (hash : IsHash h) (bad : is_good home t h ≡ false). keeps.contents h ∙ others_gone site home t mid hashes strange (is_good home t) is holds removed h hash bad in
    record {
      kept = kept;
      gone = gone;
      whole = λ h bytes hash there. file_met home t new h bytes (is_good home t h) refl (kept h hash) (gone h hash) there;
    }
