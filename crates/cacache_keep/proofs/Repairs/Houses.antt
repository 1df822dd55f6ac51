-- A sweep and a repair leave what lies in its place there, and good contents where they were.
use Rattle.std.{proofs.{Common.{◌≡◌, inl, inr, ℕ, List, [], ◌∷◌, ◌++◌, Option, None, Some, refl, sym, ap, subst, ◌∙◌}, lemmas.List.Elements.{All-head}}, specs.Prelude.{All}}
use Rattle.sha1.specs.Sha1.{sha1}
use Rattle.cacache_core.specs.{declared.integrity.digest.Hash.{Hash}, Integrity.{IsHash, IsIntegrity}, Paths.{Names, home_of, bucket_names_of, temp_area}}
use Rattle.cacache_core.proofs.PathLemmas.{keys_have_digests}
use Rattle.cacache_disk.specs.{declared.node.Node.{Node}, Tree.{Tree, look}, Replay.{tree_of}}
use Rattle.cacache_entry.specs.{FittingEntries.{IsEntry}, Bucket.{Found, latest}}
use Rattle.cacache_value.specs.{Acts.{list_of}, Kinds.{Bucket, Elsewhere, Temporary, Way, path_kind}, Placed.{MayStand}, Value.{bucket_in, wide_value}}
use Rattle.cacache_value.proofs.PathKinds.{kind-below}
use Rattle.cacache_laws.specs.trees.{Contents.{content_in}, Housed.{Beside, Housed, Still}, Temporary.{IsTemporary, LeavesUntemporary}}
use Rattle.cacache_laws.proofs.trees.{Led.{found_integrity}, Spared.StillThere.{good_still}}
use Rattle.cacache_keep.specs.{Houses.{RepairsHouse, SweepsHouse, SweepsKeepGood}, Kept.{LeadsToGood}}
use Rattle.cacache_keep.proofs.{Collections.Behind.{caches_are_swept}, Repairs.{InTurn.{repaired_on}, Whole.{first_hash, rehoused}}}

-- ---- places

module _ (home : Names) (t new : Tree) (files : ℕ) (housed : Housed (Some home) t) (l : LeavesUntemporary home t new files) where
  -- what is there was there
  stood : (names : Names) (node : Node) → look new names ≡ Some node → look new names ≡ look t names
  stood names node there = l.rest names (λ temp. let wrong : None ≡ Some node = sym (l.gone names temp) ∙ there in cc)

  placed_at : (names : Names) (here : Option Node) → look new names ≡ here → MayStand (Some home) (look new names) (path_kind (Some home) names)
  placed_at names None is = subst (λ (o : Option Node). MayStand (Some home) o (path_kind (Some home) names)) (sym is) tt
  placed_at names (Some node) is = subst (λ (o : Option Node). MayStand (Some home) o (path_kind (Some home) names)) (sym (stood names node is)) (housed.placed names)

  -- buckets are no temporary files
  no_bucket : (digest : List ℕ) → IsTemporary home t (home ++ bucket_names_of digest) → ⊥
  no_bucket digest temp =
      let kind : path_kind (Some home) (home ++ bucket_names_of digest) ≡ Temporary = ap (path_kind (Some home)) temp.2 ∙ kind-below home (temp_area ∷ temp.0 ∷ []) in
      let bucket : path_kind (Some home) (home ++ bucket_names_of digest) ≡ Bucket = kind-below home (bucket_names_of digest) in
      let wrong : Bucket ≡ Temporary = sym bucket ∙ kind in cc

  bucket_same : (digest : List ℕ) → (wide_value (Some home) new).buckets digest ≡ (wide_value (Some home) t).buckets digest
  bucket_same digest = ap bucket_in (l.rest (home ++ bucket_names_of digest) (no_bucket digest))

  still_housed : Housed (Some home) new
  still_housed = record {
    placed = λ names. placed_at names (look new names) refl;
    keyed = λ path node kind there. housed.keyed path node kind (sym (stood path node there) ∙ there);
    formed = λ digest. subst (λ b. All IsEntry (list_of b)) (sym (bucket_same digest)) (housed.formed digest);
    own = λ key. subst (λ b. All (λ e. sha1 e.key ≡ sha1 key) (list_of b)) (sym (bucket_same (sha1 key))) (housed.own key);
  }

pub sweeps_house : SweepsHouse
sweeps_house cache home files bytes strange old new is logged housed s =
    still_housed home (tree_of old) (tree_of new) files housed (caches_are_swept cache home files bytes strange old new is logged s)

pub repairs_house : RepairsHouse
repairs_house site home damaged hidden old new is logged housed v =
    let k = repaired_on site home damaged hidden old new is logged v in
    rehoused site home k.entries damaged hidden k.log new is logged (subst (Housed (Some home)) (sym k.stays) housed) k.index k.so

-- ---- good contents

-- what lies next to the cache is no temporary file
not_temporary : (home q : Names) (t : Tree) → Beside (Some home) q → IsTemporary home t q → ⊥
not_temporary home q t k temp =
    let kind : path_kind (Some home) q ≡ Temporary = ap (path_kind (Some home)) temp.2 ∙ kind-below home (temp_area ∷ temp.0 ∷ []) in
    elim k [
      | inl out ↦ (let wrong : Elsewhere ≡ Temporary = sym out ∙ kind in cc)
      | inr way ↦ (let wrong : Way ≡ Temporary = sym way ∙ kind in cc)
    ]

module _ (cache : List ℕ) (home : Names) (t new : Tree) (files : ℕ) (key : List ℕ) (found : Found) (is : home_of cache ≡ Some home) (housed : Housed (Some home) t) (l : LeavesUntemporary home t new files) (led : LeadsToGood home t key found) where
  still : Still (Some home) t new
  still q node k there = l.rest q (not_temporary home q t k) ∙ there

  hash : IsHash led.hash
  hash =
      let formed = found_integrity home t key found housed led.leads in
      let i = first_hash found.integrity led.hash led.address in
      first_is i.0 led.hash (subst IsIntegrity i.1 formed)
    where
      first_is : (hs : List Hash) (h : Hash) → IsIntegrity (h ∷ hs) → IsHash h
      first_is hs h formed = All-head IsHash h hs formed.hashes

  same : content_in home new led.hash ≡ content_in home t led.hash
  same = l.contents led.hash hash

  good_key : LeadsToGood home new key found × (content_in home new led.hash ≡ content_in home t led.hash)
  good_key = (
    record {
      leads = ap (λ o. latest key (list_of o)) (l.buckets (sha1 key) (keys_have_digests key)) ∙ led.leads;
      hash = led.hash;
      address = led.address;
      good = good_still cache home is t new still housed.placed led.hash same led.good;
    },
    same,
  )

pub sweeps_keep_good : SweepsKeepGood
sweeps_keep_good cache home files bytes strange old new key found is logged housed s led =
    good_key cache home (tree_of old) (tree_of new) files key found is housed (caches_are_swept cache home files bytes strange old new is logged s) led
