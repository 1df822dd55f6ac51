-- What removals of contents leave, and that lookups and reads by key don't see them.
-- A call that adds a tombstone leaves the contents.
use Rattle.std.proofs.{lemmas.{Grind.{common_steps}, List.{append_cancel_left}, Bool.{false_from_ne_true}}, Common.{rules, ◌≡◌, ◌⊎◌, inl, inr, ℕ, List, [], ◌∷◌, ◌++◌, Some, None, Bool, true, false, cond, Result, Ok, Err, refl, sym, ap, subst, ◌∙◌, arith, Option}}
use Rattle.std.specs.Prelude.{Contains}
use Rattle.cacache_calls.specs.{Inserting.{deletion}, declared.{command.Delete.{Delete}, reply.Reply.{Reply, TheVariants.{Listed}}}, State.{Site, Item, State}, Steps.{addressed, content_path}, Table.{opening, after}, Runs.{Moves, Runs}, Licence.{Licence, AllMay, May, allows, looking_up}}
use Rattle.cacache_calls.proofs.{Sound.{begins_sound, stays_sound}, Within.{calls_keep_to}}
use Rattle.cacache_laws.specs.{trees.{Verifying.{KeepsContents}, Collecting.{IsCollected, LinksLeadOut, IsLive, Removes}, Answers.{AnsweredBy}, Index.{is_failure}, Walks.{is_leaf}, Idle.{Finds, IsNeeded, LacksIdle}}, Caches.{setup_at}, Sequence.{tree_on, AreAnswered}}
use Rattle.cacache_laws.proofs.trees.{Members.{Member, contains_member, member_contains}, Indexed.{lists_each_key}, Twins.Twice.{address_is, leaf_done}}
use Rattle.cacache_core.specs.{declared.{errors.Fault.{Fault, TheVariants.{NotFound}}, integrity.digest.Hash.{Hash}}, Integrity.{IsHash, IsIntegrity}, Paths.{Names, names_of, home_of, joined, content_names, bucket_names_of}}
use Rattle.cacache_core.proofs.{JoinedNames.{joined_texts_name}, ProperNames.{names_are_proper}, PathTexts.{paths_differ}}
use Rattle.cacache_store.specs.{declared.store.{step.Step.TheVariants.{RemoveFile}, answer.Answer.TheVariants.{Done}}, Plain.{PlainStep}}
use Rattle.cacache_disk.specs.{declared.luck.Luck.TheVariants.{Plain}, Tree.{Tree, look, cut, same_path, Rooted}, LedTo.{removable}, Apply.{apply, unless}}
use Rattle.cacache_disk.proofs.{Maps.{same_path-true}, Roots.{same_self}, FoundNodes.{removable_ok}, PutNodes.{look-cut}}
use Rattle.cacache_entry.specs.Bucket.{Found}
use Rattle.cacache_value.specs.{Kinds.{Content, Bucket, path_kind}, Value.{blob_in, bucket_in, Value, wide_value}, Acts.{Act, act_of, change, PutBytes, PutLink, Drop}, Placed.{Placed}}
use Rattle.cacache_value.proofs.{PathKinds.{kind-below}, Traces.{steps_act, steps_keep_placed}}
use Rattle.cacache_loss.proofs.KeptPaths.{cond_none}
use Rattle.cacache_history.{specs.Setup.{Setup, is_outside, may_export}, proofs.StepActs.{sound_proper, MayAct, acts_so}}
use Rattle.cacache_store.specs.declared.store.answer.Answer.TheVariants as answers
use Rattle.cacache_calls.specs.declared.command.Command.TheVariants as commands
use Rattle.cacache_calls.specs.declared.carried.Aim.TheVariants as aims
use Rattle.cacache_store.specs.declared.store.step.Step.TheVariants as steps
use Rattle.cacache_calls.specs.Sound as calls

-- ---- removals

pub content_named : (cache : List ℕ) (home : Names) (h : Hash) → home_of cache ≡ Some home → IsHash h → names_of (joined cache (content_names h)) ≡ Ok (home ++ content_names h)
content_named cache home h is hash = joined_texts_name cache (content_names h) (names_are_proper.contents h hash) (omega arith) ∙ rw is refl

content_kind : (home : Names) (h : Hash) → path_kind (Some home) (home ++ content_names h) ≡ Content
content_kind home h = kind-below home (content_names h)

done_at : (t : Tree) (r : Result Names Fault) (names : Names) → ((n : Names) → r ≡ Ok n → n ≡ names) → (unless r t (λ n. (Done, cut t n))).0 ≡ Done → (unless r t (λ n. (Done, cut t n))).1 ≡ cut t names
done_at t (Ok n) names h e = ap (cut t) (h n refl)
done_at t (Err fault) names h e = absurd cc

pub removed : (t : Tree) (path : List ℕ) (names : Names) → names_of path ≡ Ok names → (apply t (RemoveFile path) Plain).0 ≡ Done → (apply t (RemoveFile path) Plain).1 ≡ cut t names
unfolding apply
removed t path names is e =
    done_at t (removable t path) names (λ n found. let both : Ok n ≡ Ok names = sym (removable_ok t path n found).0 ∙ is in cc) e

module _ (cache : List ℕ) (home : Names) (is : home_of cache ≡ Some home) where
  -- one removal
  look_after : (t : Tree) (h : Hash) (q : Names) → IsHash h → (apply t (RemoveFile (joined cache (content_names h))) Plain).0 ≡ Done → look (apply t (RemoveFile (joined cache (content_names h))) Plain).1 q ≡ cond (same_path q (home ++ content_names h)) None (look t q)
  look_after t h q hash e = ap (λ (x : Tree). look x q) (removed t (joined cache (content_names h)) (home ++ content_names h) (content_named cache home h is hash) e) ∙ look-cut t (home ++ content_names h) q

  none_stays : (hs : List Hash) (t new : Tree) (q : Names) → ((h : Hash) → Member h hs → IsHash h) → Removes cache hs t new → look t q ≡ None → look new q ≡ None
  none_stays [] t new q hashes r none = ap (λ (x : Tree). look x q) r ∙ none
  none_stays (h ∷ hs) t new q hashes r none =
      none_stays hs (apply t (RemoveFile (joined cache (content_names h))) Plain).1 new q (λ g m. hashes g (inr m)) r.1
      (look_after t h q (hashes h (inl refl)) r.0 ∙ cond_none (same_path q (home ++ content_names h)) (look t q) none)

  gone : (hs : List Hash) (t new : Tree) (h : Hash) → ((g : Hash) → Member g hs → IsHash g) → Removes cache hs t new → Member h hs → look new (home ++ content_names h) ≡ None
  gone [] t new h hashes r m = absurd m
  gone (k ∷ hs) t new h hashes r (inl same) =
      let q = home ++ content_names k in
      let none : look (apply t (RemoveFile (joined cache (content_names k))) Plain).1 q ≡ None = look_after t k q (hashes k (inl refl)) r.0 ∙ rw (same_self q) refl in
      ap (λ (g : Hash). look new (home ++ content_names g)) same ∙ none_stays hs (apply t (RemoveFile (joined cache (content_names k))) Plain).1 new q (λ g m. hashes g (inr m)) r.1 none
  gone (k ∷ hs) t new h hashes r (inr m) = gone hs (apply t (RemoveFile (joined cache (content_names k))) Plain).1 new h (λ g m. hashes g (inr m)) r.1 m

  -- each of them was a file or link
  after_leaf : (t : Tree) (h g : Hash) → IsHash h → (apply t (RemoveFile (joined cache (content_names h))) Plain).0 ≡ Done → is_leaf (look (apply t (RemoveFile (joined cache (content_names h))) Plain).1 (home ++ content_names g)) ≡ true → is_leaf (look t (home ++ content_names g)) ≡ true
  after_leaf t h g hash e leaf = search (rules, look_after)

  stood : (hs : List Hash) (t new : Tree) (h : Hash) → ((g : Hash) → Member g hs → IsHash g) → Removes cache hs t new → Member h hs → is_leaf (look t (home ++ content_names h)) ≡ true
  stood [] t new h hashes r m = absurd m
  stood (k ∷ hs) t new h hashes r (inl same) = search (rules, leaf_done, content_named, hashes)
  stood (k ∷ hs) t new h hashes r (inr m) =
      after_leaf t k h (hashes k (inl refl)) r.0 (stood hs (apply t (RemoveFile (joined cache (content_names k))) Plain).1 new h (λ g n. hashes g (inr n)) r.1 m)

  pub stays : (hs : List Hash) (t new : Tree) (q : Names) → ((g : Hash) → Member g hs → IsHash g) → Removes cache hs t new → ((g : Hash) → Member g hs → q ≡ home ++ content_names g → ⊥) → look new q ≡ look t q
  stays [] t new q hashes r apart = ap (λ (x : Tree). look x q) r
  stays (h ∷ hs) t new q hashes r apart =
      let off : same_path q (home ++ content_names h) ≡ false = false_from_ne_true (same_path q (home ++ content_names h)) (λ s. apart h (inl refl) (same_path-true q (home ++ content_names h) s)) in
      stays hs (apply t (RemoveFile (joined cache (content_names h))) Plain).1 new q (λ g m. hashes g (inr m)) r.1 (λ g m. apart g (inr m))
      ∙ look_after t h q (hashes h (inl refl)) r.0 ∙ rw off refl

  not_content : (q : Names) (g : Hash) → (path_kind (Some home) q ≡ Content → ⊥) → q ≡ home ++ content_names g → ⊥
  not_content q g apart e = apart (ap (path_kind (Some home)) e ∙ content_kind home g)

  other_content : (h g : Hash) → IsHash h → IsHash g → (h ≡ g → ⊥) → home ++ content_names h ≡ home ++ content_names g → ⊥
  other_content h g p q apart e =
      let names : content_names h ≡ content_names g = append_cancel_left home (content_names h) (content_names g) e in
      apart ((paths_differ.contents cache h g p q).0 (ap (joined cache) names))

  kept_at : (hs : List Hash) (t new : Tree) (h : Hash) → ((g : Hash) → Member g hs → IsHash g) → Removes cache hs t new → IsHash h → (Member h hs → ⊥) → look new (home ++ content_names h) ≡ look t (home ++ content_names h)
  kept_at hs t new h hashes r hash apart = stays hs t new (home ++ content_names h) hashes r (λ g m. other_content h g hash (hashes g m) (λ e. apart (subst (λ (x : Hash). Member x hs) (sym e) m)))

  agree : (hs : List Hash) (t new : Tree) → ((g : Hash) → Member g hs → IsHash g) → Removes cache hs t new → (q : Names) → (path_kind (Some home) q ≡ Content → ⊥) → look new q ≡ look t q
  agree hs t new hashes r q apart = stays hs t new q hashes r (λ g m. not_content q g apart)

bucket_apart : (home : Names) (digest : List ℕ) → path_kind (Some home) (home ++ bucket_names_of digest) ≡ Content → ⊥
bucket_apart home digest c = let wrong : Bucket ≡ Content = sym (kind-below home (bucket_names_of digest)) ∙ c in cc

-- what removals leave
pub removals_leave : (cache : List ℕ) (home : Names) (dropped : List Hash) (t new : Tree) → home_of cache ≡ Some home
    → ((h : Hash) → Contains dropped h → IsHash h) → Removes cache dropped t new → IsCollected home dropped t new
removals_leave cache home dropped t new is hashes r =
    let all = λ (g : Hash) (m : Member g dropped). hashes g (contains_member g dropped m) in
    record {
      gone = λ h c. ap blob_in (gone cache home is dropped t new h all r (member_contains h dropped c));
      kept = λ h hash apart. ap blob_in (kept_at cache home is dropped t new h all r hash (λ m. apart (contains_member h dropped m)));
      buckets = λ digest d. ap bucket_in (agree cache home is dropped t new all r (home ++ bucket_names_of digest) (bucket_apart home digest));
    }

-- ---- reads by key

-- a path is that of one of the contents, or of none
found_in : (home q : Names) (hs : List Hash) → ((g : Hash) × Member g hs × (q ≡ home ++ content_names g)) ⊎ ((g : Hash) → Member g hs → q ≡ home ++ content_names g → ⊥)
found_in home q [] = inr (λ g m e. m)
found_in home q (h ∷ hs) = at (same_path q (home ++ content_names h)) refl (found_in home q hs)
  where
    at : (b : Bool) → same_path q (home ++ content_names h) ≡ b → ((g : Hash) × Member g hs × (q ≡ home ++ content_names g)) ⊎ ((g : Hash) → Member g hs → q ≡ home ++ content_names g → ⊥)
        → ((g : Hash) × Member g (h ∷ hs) × (q ≡ home ++ content_names g)) ⊎ ((g : Hash) → Member g (h ∷ hs) → q ≡ home ++ content_names g → ⊥)
    at true is later = inl (h, inl refl, same_path-true q (home ++ content_names h) is)
    at false is (inl k) = inl (k.0, inr k.1, k.2)
    at false is (inr never) = inr (λ g m e. elim m [
      | inl same ↦ (let wrong : false ≡ true = sym is ∙ ap (λ (x : Hash). same_path q (home ++ content_names x)) (sym same) ∙ ap (same_path q) (sym e) ∙ same_self q in absurd cc)
      | inr k ↦ never g k e
    ])

module _ (site : Site) (home : Names) (t new : Tree) (listing : Moves) (items : List Item) (dropped : List Hash)
    (is : home_of site.cache ≡ Some home) (rooted : Rooted t) (out : LinksLeadOut home t)
    (ls : Runs (opening site commands.Ls) listing (Listed items)) (at : AnsweredBy t listing)
    (fine : (item : Item) → Contains items item → is_failure item ≡ false)
    (integrities : (found : Found) → Contains items (Ok found) → IsIntegrity found.integrity)
    (apart : (h : Hash) → Contains dropped h → IsHash h × (IsLive items h → ⊥))
    (r : Removes site.cache dropped t new) where
  hashes : (g : Hash) → Member g dropped → IsHash g
  hashes g m = (apart g (contains_member g dropped m)).0

  listed : (key : List ℕ) (found : Found) → Finds site.cache t key found → Contains items (Ok found)
  listed key found f = lists_each_key site home t listing items key f.0 found is rooted ls at fine f.1 f.2

  -- no lookup leads to what was removed
  unneeded : (g : Hash) (q : Names) → Member g dropped → q ≡ home ++ content_names g → IsNeeded site.cache t q → ⊥
  unfolding content_path
  unneeded g q m e n =
      let item = listed n.0 n.1 n.2 in
      let a = address_is n.1.integrity (integrities n.1 item) in
      let path = ap (addressed (λ (x : Hash). joined site.cache (content_names x))) a.2 in
      let both : Ok (home ++ content_names a.0) ≡ Ok (home ++ content_names g) = sym (content_named site.cache home a.0 is a.1) ∙ ap names_of (sym path) ∙ n.3 ∙ ap Ok e in
      let names : content_names a.0 ≡ content_names g = append_cancel_left home (content_names a.0) (content_names g) cc in
      let same : a.0 ≡ g = (paths_differ.contents site.cache a.0 g a.1 (hashes g m)).0 (ap (joined site.cache) names) in
      (apart g (contains_member g dropped m)).1 (n.1, item, a.2 ∙ ap Some same)

  -- it only lacks what is idle
  pub lacks_idle : LacksIdle site.cache home t new
  lacks_idle = record {
    nodes = λ q. elim (found_in home q dropped) [
      | inl k ↦ inr (
        ap (look new) k.2 ∙ gone site.cache home is dropped t new k.0 hashes r k.1,
        record {
          kind = ap (path_kind (Some home)) k.2 ∙ content_kind home k.0;
          stands = ap (λ n. is_leaf (look t n)) k.2 ∙ stood site.cache home is dropped t new k.0 hashes r k.1;
          idle = unneeded k.0 q k.1 k.2;
        },
      )
      | inr never ↦ inl (stays site.cache home is dropped t new q hashes r never)
    ];
    links = out;
    formed = λ key found f. integrities found (listed key found f);
  }

-- ---- acts

-- what a tombstone's call may do: make folders and append
abbrev adding : Licence
adding = record looking_up { prepares = true; inserts = true }

module _ (folder : Option Names) (v : Value) (h : Hash) where
  abbrev Keeps : Act → Type 0
  Keeps act = (change folder act v).contents h ≡ v.contents h

  act_keeps : (act : Act) (step : PlainStep) → MayAct act step → May (allows adding step) → Keeps act
  act_keeps act step is may = grind (arith, common_steps)

-- ---- a run

module _ (site : Site) where
  abbrev x : Setup
  x = setup_at site.cache site.base

  abbrev folder : Option Names
  folder = home_of site.cache

  record Keeping (t new : Tree) : Type 0 where
    placed : Placed (home_of site.cache) new
    contents : (h : Hash) → (wide_value (home_of site.cache) new).contents h ≡ (wide_value (home_of site.cache) t).contents h

  run_keeps : (s : State) (moves : Moves) (r : Reply) (t : Tree) → calls.Sound site (may_export x) (is_outside x) s → Runs s moves r → AllMay adding moves → AreAnswered t moves → Placed folder t → Keeping t (tree_on t moves)
  run_keeps s [] r t sound run may answered placed = record { placed = placed; contents = λ h. refl }
  run_keeps s (m ∷ moves) r t sound run may answered placed =
      let proper = sound_proper x site.number tt s m.0 sound run.0 in
      let acts = steps_act (home_of site.cache) t m.0 Plain placed proper in
      let rest = run_keeps (after s m.1) moves r (apply t m.0 Plain).1 (stays_sound site (may_export x) (is_outside x) s m.0 m.1 sound run.0 run.1) run.2 may.1 answered.1 (steps_keep_placed (home_of site.cache) t m.0 Plain placed proper) in
      record {
        placed = rest.placed;
        contents = λ h. rest.contents h ∙ ap (λ (v : Value). v.contents h) acts ∙ act_keeps (home_of site.cache) (wide_value (home_of site.cache) t) h (act_of m.0 Plain (apply t m.0 Plain).0) m.0 (acts_so m.0 Plain (apply t m.0 Plain).0) may.0;
      }

-- a call that adds a tombstone leaves the contents, whatever it answers
pub tombstones_keep_contents : (site : Site) (home : Names) (d : Delete) (r : Reply) (moves : Moves) (t : Tree)
    → home_of site.cache ≡ Some home → calls.FormedIfWritten (deletion site.cache d) → Runs (opening site (commands.Delete d)) moves r
    → AreAnswered t moves → Placed (Some home) t → KeepsContents home t (tree_on t moves)
tombstones_keep_contents site home d r moves t is formed run answered placed =
    let x = setup_at site.cache site.base in
    let sound = begins_sound site (may_export x) (is_outside x) (commands.Delete d) formed in
    let may = calls_keep_to adding site (commands.Delete d) moves r tt run in
    let kept = run_keeps site (opening site (commands.Delete d)) moves r t sound run may answered (subst (λ (f : Option Names). Placed f t) (sym is) placed) in
    record {
      placed = subst (λ (f : Option Names). Placed f (tree_on t moves)) is kept.placed;
      contents = λ h. subst (λ (f : Option Names). (wide_value f (tree_on t moves)).contents h ≡ (wide_value f t).contents h) is (kept.contents h);
    }
