-- A content, or a key with its content, that is removed from both trees.
use Rattle.std.proofs.Common.{◌≡◌, ℕ, List, Option, Some, None, refl, sym, ap, subst, ◌∙◌}
use Rattle.cacache_core.specs.{declared.errors.Fault.TheVariants.{NotFound}, Paths.{Names, home_of}}
use Rattle.cacache_store.specs.{declared.store.{step.Step.TheVariants.{ReadAll, RemoveFile}, answer.Answer.TheVariants.{Bytes}}, Plain.{PlainStep, PlainAnswer}}
use Rattle.cacache_store.specs.declared.store.answer.Answer.TheVariants as answers
use Rattle.cacache_disk.{specs.{declared.luck.Luck.TheVariants.{Plain}, Tree.{Tree, Rooted}, Apply.{apply}}, proofs.KeptFolders.{steps_keep_rooted}}
use Rattle.cacache_entry.specs.Bucket.{Found}
use Rattle.cacache_calls.specs.{declared.{reply.Reply.{Reply, TheVariants.{Done}}, carried.Lookup.{Lookup}}, State.{State, doing, looking, over, remove}, Steps.{bucket_path, content_path}, Reading.{found_in}, Removing.{remove_bucket, remove_content, remove_found}, Table.{wants, after}}
use Rattle.cacache_calls.specs.declared.carried.Aim.TheVariants as aims
use Rattle.cacache_laws.specs.{Sequence.{tree_on}, trees.Idle.{Finds, LacksIdle}}
use Rattle.cacache_laws.proofs.{Readings.ReadAnswers.{reading_keeps}, trees.{Twins.Twice.{bucket_read, from_both, from_full, from_none, removed_twice}, Stepping.{MadeOn, Whole, goes, stays, leaves}}}

-- ---- two runs

-- a run on each tree, and memory ended neither
pub record Both (s z : State) (full lean : Tree) : Type 0 where
  pub reply : Reply
  pub whole : Whole reply
  pub run : MadeOn s full reply
  pub other : Reply
  pub sound : Whole other
  pub second : MadeOn z lean other

module _ (cache : List ℕ) (home : Names) where
  -- at the trees that they lead to, the one lacks idle contents of the other
  abbrev pub LackAfter : (s z : State) (full lean : Tree) → Both s z full lean → Type 0
  LackAfter s z full lean b = LacksIdle cache home (tree_on full b.run.moves) (tree_on lean b.second.moves)

  pub lacks_at : (full lean rest left : Tree) → full ≡ rest → lean ≡ left → LacksIdle cache home rest left → LacksIdle cache home full lean
  lacks_at full lean rest left e f l = subst (λ x. LacksIdle cache home x lean) (sym e) (subst (λ x. LacksIdle cache home rest x) (sym f) l)

  -- a step of both
  pub both_go : (s z : State) (step : PlainStep) (full lean rest left : Tree) (u v : PlainAnswer) (b : Both s z full lean) → wants s ≡ Some step → wants z ≡ Some step → apply full step Plain ≡ (u, rest) → apply lean step Plain ≡ (v, left)
      → ((next : Both (after s u) (after z v) rest left) → LackAfter (after s u) (after z v) rest left next) → LackAfter s z full lean b
  both_go s z step full lean rest left u v b w x first second then =
      let f = goes s step full b.reply u rest b.run w first b.whole in
      let g = goes z step lean b.other v left b.second x second b.sound in
      let next : Both (after s u) (after z v) rest left = record { reply = b.reply; whole = b.whole; run = f.on; other = b.other; sound = b.sound; second = g.on } in
      lacks_at (tree_on full b.run.moves) (tree_on lean b.second.moves) (tree_on rest f.on.moves) (tree_on left g.on.moves) f.leads g.leads (then next)

  -- both are over
  pub both_stay : (x y : Reply) (full lean : Tree) (b : Both (over x) (over y) full lean) → LacksIdle cache home full lean → LackAfter (over x) (over y) full lean b
  both_stay x y full lean b l = lacks_at (tree_on full b.run.moves) (tree_on lean b.second.moves) full lean (stays full x b.reply b.run) (stays lean y b.other b.second) l

  -- ---- a file

  rooted_after : (t new : Tree) (path : List ℕ) (u : PlainAnswer) → Rooted t → apply t (RemoveFile path) Plain ≡ (u, new) → Rooted new
  rooted_after t new path u rooted e = subst Rooted (ap (λ (p : PlainAnswer × Tree). p.1) e) (steps_keep_rooted t (RemoveFile path) Plain rooted)

  -- the last step of a removal
  pub last_removed : (path : List ℕ) (full lean : Tree) → Rooted full → Rooted lean → LacksIdle cache home full lean → (b : Both (doing (remove path) (over Done)) (doing (remove path) (over Done)) full lean)
      → LackAfter (doing (remove path) (over Done)) (doing (remove path) (over Done)) full lean b
  last_removed path full lean rooted other l b =
      elim (removed_twice cache home full lean path l rooted other) [
        | from_both rest left a c k ↦ both_go (doing (remove path) (over Done)) (doing (remove path) (over Done)) (RemoveFile path) full lean rest left answers.Done answers.Done b refl refl a c (λ next. both_stay Done Done rest left next k)
        | from_none fault error a c ↦ both_go (doing (remove path) (over Done)) (doing (remove path) (over Done)) (RemoveFile path) full lean full lean (answers.Failed fault) (answers.Failed error) b refl refl a c (λ next. both_stay _ _ full lean next l)
        | from_full names rest fault named free a c k ↦ both_go (doing (remove path) (over Done)) (doing (remove path) (over Done)) (RemoveFile path) full lean rest lean answers.Done (answers.Failed fault) b refl refl a c (λ next. both_stay Done _ rest lean next k)
      ]

  -- ---- a key with its content

  module _ (is : home_of cache ≡ Some home) (key : List ℕ) (full lean : Tree) (rooted : Rooted full) (other : Rooted lean) (l : LacksIdle cache home full lean) where
    abbrev to_content : Found → State
    to_content found = remove_content cache found.integrity (remove_bucket cache key)

    content_goes : (found : Found) → Finds cache full key found → (b : Both (to_content found) (to_content found) full lean) → LackAfter (to_content found) (to_content found) full lean b
    content_goes found finds b =
        elim (removed_twice cache home full lean (content_path cache found.integrity) l rooted other) [
          | from_both rest left a c k ↦ both_go (to_content found) (to_content found) (RemoveFile (content_path cache found.integrity)) full lean rest left answers.Done answers.Done b refl refl a c
              (λ next. last_removed (bucket_path cache key) rest left (rooted_after full rest (content_path cache found.integrity) answers.Done rooted a) (rooted_after lean left (content_path cache found.integrity) answers.Done other c) k next)
          | from_none fault error a c ↦ both_go (to_content found) (to_content found) (RemoveFile (content_path cache found.integrity)) full lean full lean (answers.Failed fault) (answers.Failed error) b refl refl a c (λ next. both_stay _ _ full lean next l)
          | from_full names rest fault named free a c k ↦ absurd (free (key, found, finds, named))
        ]

    found_goes : (bytes : List ℕ) (o : Option Found) → found_in key bytes ≡ o → (apply full (ReadAll (bucket_path cache key)) Plain).0 ≡ Bytes bytes
        → (b : Both (remove_found cache key o) (remove_found cache key o) full lean) → LackAfter (remove_found cache key o) (remove_found cache key o) full lean b
    unfolding found_in
    found_goes bytes None e answer b = last_removed (bucket_path cache key) full lean rooted other l b
    found_goes bytes (Some found) e answer b = content_goes found (bytes, answer, e) b

    abbrev looks : Lookup
    looks = record { cache = cache; key = key; aim = aims.Remove }

    bucket_goes : (u : PlainAnswer) → (apply full (ReadAll (bucket_path cache key)) Plain).0 ≡ u → (b : Both (after (looking looks) u) (after (looking looks) u) full lean) → LackAfter (after (looking looks) u) (after (looking looks) u) full lean b
    bucket_goes (answers.Bytes bytes) answer b = found_goes bytes (found_in key bytes) refl answer b
    bucket_goes (answers.Failed NotFound) answer b = last_removed (bucket_path cache key) full lean rooted other l b
    bucket_goes u answer b = both_stay _ _ full lean b l

    pub key_goes : (b : Both (looking looks) (looking looks) full lean) → LackAfter (looking looks) (looking looks) full lean b
    key_goes b =
        let first = leaves full (ReadAll (bucket_path cache key)) (reading_keeps full (bucket_path cache key)) in
        let second = leaves lean (ReadAll (bucket_path cache key)) (reading_keeps lean (bucket_path cache key)) ∙ ap (λ a. (a, lean)) (bucket_read cache home full lean is l key) in
        both_go (looking looks) (looking looks) (ReadAll (bucket_path cache key)) full lean full lean (apply full (ReadAll (bucket_path cache key)) Plain).0 (apply full (ReadAll (bucket_path cache key)) Plain).0 b refl refl first second (bucket_goes (apply full (ReadAll (bucket_path cache key)) Plain).0 refl)
