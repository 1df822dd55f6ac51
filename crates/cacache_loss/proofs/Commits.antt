-- A durable commit survives from its own steps on.
use Rattle.std.proofs.{lemmas.{Grind.{common_steps}, List.Sums.{fold-append}}, Common.{rules, arith, ◌≡◌, inl, inr, ℕ, Bool, true, cond, List, [], ◌∷◌, ◌++◌, Option, None, Some, Ok, fold, refl, sym, ap, subst, ◌∙◌, append_assoc}}
use Rattle.std.specs.Prelude.{unwrap_or}
use Rattle.cacache_core.specs.Paths.{Names, names_of}
use Rattle.cacache_store.specs.{declared.store.{plain.PlainTemp.{PlainTemp}, step.Step.TheVariants.{Persist, SyncTemp, SyncFile, SyncDir}, answer.Answer.TheVariants.{Done, Failed}}, Plain.{PlainStep, PlainAnswer}}
use Rattle.cacache_disk.specs.{declared.{luck.Luck.{Luck}, node.Node.TheVariants.{File}}, Tree.{Tree, look, put, cut, Rooted}, Apply.{apply}}
use Rattle.cacache_disk.proofs.{PutNodes.{look-put}, Roots.{same_self}}
use Rattle.cacache_entry.{specs.Bucket.{after_entry, latest}, proofs.Lookups.{last_answer_decides}}
use Rattle.cacache_value.specs.{Kinds.{Content, path_kind}, Value.{bucket_in}, Placed.{Proper}, Acts.{Move}}
use Rattle.cacache_loss.specs.{Fixing.{Fixed, Fixing, between, changed, fixed_after, folder_synced, is_synced, place_now}, Moments.{AreCalm, PutWell, EachMove, Moment, after, lost_then, next}, Loss.{Loss}, LostTrees.{OfCache}, Syncs.{IsFileSync, IsPut, IsTempSync, Leaves, LeavesStep, SyncsFolders}, LossLaws.{CommitsSurvive, FoundSurvive, GoodNode, HasDigest, IsSafe, LookupsSurvive}}
use Rattle.cacache_loss.proofs.{StepCases.{PersistCase, refused, moved, persist_case}, Reaching.{file_kept}, KeptPaths.{cond_whole, sync_tree, cache_next}, Contents.{GoodOrLink, SafeOrLink, contents_survive, content_survives, good_file, only_good}, Buckets.{leads_file}}

-- ---- a temporary file that is synced stays so while nobody touches it

abbrev IsWhole : Fixed → Names → Type 0
IsWhole fixed q = (fixed.files q).whole ≡ true

sync_whole : (b : Bool) (later fixed : Fixed) (q : Names) → IsWhole later q → IsWhole fixed q → IsWhole (cond b later fixed) q
sync_whole b later fixed q new old = grind (arith, common_steps)

whole_next : (w : Moment) (step : PlainStep) (new : Tree) (answer : PlainAnswer) (q : Names) → LeavesStep q w step new answer → IsWhole w.fixed q
    → IsWhole (fixed_after w.fixed w.tree new step answer) q
whole_next w (SyncTemp f) new answer q leaves e = search (rules, sync_whole, cond_whole)
whole_next w (SyncFile p) new answer q leaves e = search (rules, sync_whole, cond_whole)
whole_next w (SyncDir p) new answer q leaves e = sync_whole (is_synced answer) (folder_synced w.fixed p) w.fixed q e e
whole_next w step new answer q leaves e = ap (λ (f : Fixing). f.whole) (file_kept w.fixed w.tree new step answer q (look w.tree q) refl leaves.0 leaves.3 leaves.2 leaves.1) ∙ e

whole_after : (w : Moment) (moves : List Move) (q : Names) → EachMove (Leaves q) w moves → (w.fixed.files q).whole ≡ true
    → ((after w moves).fixed.files q).whole ≡ true
whole_after w [] q leaves e = e
whole_after w (m ∷ moves) q leaves e = whole_after (next w m) moves q leaves.1 (whole_next w m.step (next w m).tree m.answer q leaves.0 e)

temp_whole : (fixed : Fixed) (t new : Tree) (f : PlainTemp) (q : Names) (step : PlainStep) (answer : PlainAnswer) → names_of f.path ≡ Ok q → IsTempSync f step answer
    → IsWhole (fixed_after fixed t new step answer) q
temp_whole fixed t new f q (SyncTemp g) answer is s =
    let path : names_of g.path ≡ Ok q = ap (λ (f : PlainTemp). names_of f.path) s.0 ∙ is in
    rw (s.1, path, same_self q) refl
temp_whole fixed t new f q step answer is s = absurd s

-- ---- and becomes the content

module _ (Good : List ℕ → Type 0) (t : Tree) (fixed : Fixed) (f : PlainTemp) (q c : Names) (bytes : List ℕ) (from : names_of f.path ≡ Ok q) (has : f.bytes ≡ Some bytes)
    (good : Good bytes) (whole : (fixed.files q).whole ≡ true) where
  arrived : (p : List ℕ) (answer : PlainAnswer) (o : PlainAnswer × Tree) → names_of p ≡ Ok c → answer ≡ Done → answer ≡ o.0 → PersistCase t f p o
      → IsSafe Good (place_now o.1 (changed fixed t o.1 (Persist f p) answer) c)
  arrived p answer o to done told (refused fault e) =
      let differ : Failed fault ≡ Done = ap (λ (o : PlainAnswer × Tree). o.0) (sym e) ∙ sym told ∙ done in absurd cc
  arrived p answer o to done told (moved new old target is names there e) =
      let sizes : Some new ≡ Some bytes = sym is ∙ has in
      let same : new ≡ bytes = cc in
      let place : Ok target ≡ Ok c = sym there ∙ to in
      let at : target ≡ c = cc in
      let stands : look o.1 c ≡ Some (File bytes)
      = ap (λ (o : PlainAnswer × Tree). look o.1 c) e ∙ ap (λ n. look (put (cut t old) n (File new)) c) at ∙ ap (λ b. look (put (cut t old) c (File b)) c) same
      ∙ look-put (cut t old) c (File bytes) c ∙ ap (λ b. cond b (Some (File bytes)) (look (cut t old) c)) (same_self c) in (
        subst (GoodNode Good) (sym stands) good,
        rw (done, from, to, same_self c) whole,
      )

  pub put_safe : (step : PlainStep) (luck : Luck) (answer : PlainAnswer) → answer ≡ (apply t step luck).0 → IsPut f c step answer
      → IsSafe Good (place_now (apply t step luck).1 (fixed_after fixed t (apply t step luck).1 step answer) c)
  put_safe (Persist g p) luck answer told is =
      subst (λ g. answer ≡ (apply t (Persist g p) luck).0 → IsSafe Good (place_now (apply t (Persist g p) luck).1 (changed fixed t (apply t (Persist g p) luck).1 (Persist g p) answer) c)) (sym is.0)
      (λ told. arrived p answer (apply t (Persist f p) luck) is.1 is.2 told (persist_case t f p luck)) told
  put_safe step luck answer told is = absurd is

pub commits_survive : CommitsSurvive
commits_survive home a c q f bytes w s between later m moves loss at from has good sync leaves same of_cache calm is calms puts way =
    let whole = whole_after (next w s) between q leaves (temp_whole w.fixed w.tree (next w s).tree f q s.step s.answer from sync) in
    contents_survive home a c (next later m) moves loss at (cache_next home later m of_cache calm.1)
    (put_safe (HasDigest a) later.tree later.fixed f q c bytes from has good (subst (λ (w : Moment). IsWhole w.fixed q) (sym same) whole) m.step m.luck m.answer calm.2 is)
    calms puts way

-- ---- or is found

module _ (Good Links : List ℕ → Type 0) (home : Option Names) (c : Names) where
  found_safe : (t : Tree) (fixed : Fixed) (luck : Luck) (step : PlainStep) (answer : PlainAnswer) → Rooted t → GoodOrLink Good Links (look t c)
      → IsFileSync c step answer → SafeOrLink Good Links (place_now (apply t step luck).1 (fixed_after fixed t (apply t step luck).1 step answer) c)
  found_safe t fixed luck (SyncFile p) answer rooted (inl good) s =
      let g = good_file Good (look t c) good in
      inl (
        rw (sync_tree t (SyncFile p) luck refl) good,
        rw (s.1, leads_file t p g.0 c rooted s.0 g.1, same_self c) refl,
      )
  found_safe t fixed luck (SyncFile p) answer rooted (inr link) s = inr (link.0, link.1, ap (λ t. look t c) (sync_tree t (SyncFile p) luck refl) ∙ link.2)
  found_safe t fixed luck step answer rooted either s = absurd s

  file_sync_proper : (step : PlainStep) (answer : PlainAnswer) → IsFileSync c step answer → Proper home step
  file_sync_proper step answer s = grind (arith, common_steps)

  -- the file or the link that a sync found is left
  pub found_stays : (w : Moment) (s : Move) (moves : List Move) (loss : Loss) → path_kind home c ≡ Content → OfCache home w → GoodOrLink Good Links (look w.tree c) → IsFileSync c s.step s.answer
      → AreCalm home (next w s) moves → PutWell Good c (next w s) moves → SyncsFolders home [] c moves → GoodOrLink Good Links (lost_then home (after (next w s) moves) loss c)
  found_stays w s moves loss at of_cache found sync later puts way = search (rules, content_survives, cache_next, file_sync_proper, found_safe)

pub found_survive : FoundSurvive
found_survive home a c w s moves loss at of_cache good sync later puts way =
    only_good (HasDigest a) (lost_then home (after (next w s) moves) loss c)
    (found_stays (HasDigest a) (λ target. ⊥) home c w s moves loss at of_cache (inl good) sync later puts way)

-- ---- lookups

pub lookups_survive : LookupsSurvive
lookups_survive key found e es here is h =
    let split : (es ++ e ∷ []) ++ h.1 ≡ es ++ e ∷ h.1 = append_assoc es (e ∷ []) h.1 in
    record {
      more = h.1;
      bucket = ap bucket_in h.2 ∙ ap Some h.3;
      finds = ap (latest key) split ∙ fold-append (after_entry key) None es (e ∷ h.1) ∙ ap (λ a. fold (after_entry key) (unwrap_or a (latest key es)) h.1) is;
      last = λ none. ap (latest key) split ∙ last_answer_decides key es h.1 e found is none;
    }
