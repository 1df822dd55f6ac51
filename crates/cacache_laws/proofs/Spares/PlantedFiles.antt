-- A file that is planted apart from the cache makes no bucket, and leaves what the cache holds.
use Rattle.std.{proofs.Common.{◌≡◌, ◌==◌, ℕ, Bool, true, false, cond, List, [], ◌∷◌, ◌++◌, Option, None, Some, Ok, length, sym, ap, subst, ◌∙◌, bytes_eq}, specs.Prelude.{All}}
use Rattle.cacache_core.specs.Paths.{Names, names_of, home_of}
use Rattle.cacache_disk.specs.{declared.node.Node.TheVariants.{File}, Tree.{Tree, look, put, bare}, LedTo.{or_fault, dirs_fault, where_no_folder}, Apply.{planted, above_last, make_some}, Replay.{changed, replay, IsReplayable, tree_of, IsLog}}
use Rattle.cacache_disk.proofs.{FoundNodes.{no_folder_at, and_then_ok, or_fault_none}, PlantedNodes.{Ends, empty, last, ends, above_last-snoc, planted_rooted}}
use Rattle.cacache_value.specs.{Kinds.{PathKind, Bucket, Elsewhere, kind_beside, path_kind, IsFor}, Acts.{list_of}, Value.{Value, value_of_tree}}
use Rattle.cacache_value.proofs.{PathKinds.{further, inner_used}, Applying.{of_names}, OpeningTrees.{planted_apart}}
use Rattle.cacache_history.{specs.{AddedEntries.{BucketsHaveKeys, HoldOwn}, Values.{AreRight}}, proofs.Entries.Bucketed.{put_keyed, make_at}}
use Rattle.cacache_store.specs.declared.store.log.LogItem.TheVariants.{Foreign}
use Rattle.cacache_entry.specs.FittingEntries.{IsEntry}
use Rattle.cacache_laws.{proofs.Calls.Replays.{replay_more, replayable_rest, planted_so}, specs.{Sequence.{IsSound}, Caches.{PlantsLast}}}

-- ---- above a path apart from the cache no bucket may be

no_bucket_at : (b : Bool) (old new : PathKind) → (old ≡ Elsewhere → new ≡ Bucket → ⊥) → cond b old Elsewhere ≡ Elsewhere → cond b new Elsewhere ≡ Bucket → ⊥
no_bucket_at true old new h e is = h e is
no_bucket_at false old new h e is = cc

no_bucket_in : (home p more : Names) → kind_beside home (p ++ more) ≡ Elsewhere → kind_beside home p ≡ Bucket → ⊥
no_bucket_in [] p more e is = inner_used (p ++ more) e
no_bucket_in (n ∷ home) [] more e is = cc
no_bucket_in (n ∷ home) (first ∷ p) more e is = no_bucket_at (bytes_eq n first) (kind_beside home (p ++ more)) (kind_beside home p) (no_bucket_in home p more) e is

no_bucket : (home : Option Names) (p more : Names) → path_kind home (p ++ more) ≡ Elsewhere → path_kind home p ≡ Bucket → ⊥
no_bucket None p more e is = cc
no_bucket (Some home) p more e is = no_bucket_in home p more e is

folders_keyed : (home : Option Names) (t : Tree) (above rest more : Names) (count : ℕ) → path_kind home (above ++ (rest ++ more)) ≡ Elsewhere → BucketsHaveKeys home t
    → BucketsHaveKeys home (make_some t above rest count)
folders_keyed home t above [] more count e h = h
folders_keyed home t above (name ∷ rest) more count e h =
    let next = further home Elsewhere above (rest ++ more) name e in
    make_at home (above ++ name ∷ []) rest t (look t (above ++ name ∷ [])) count (count == 0) (no_bucket home (above ++ name ∷ []) (rest ++ more) next) h
    (λ new count g. folders_keyed home new (above ++ name ∷ []) rest more count next g)

-- ---- the file

-- the folders above a path are the front of it
front : (names : Names) → Ends names → (more : Names) × (above_last names ++ more ≡ names)
front names (empty e) = ([], ap (λ n. above_last n ++ []) e ∙ sym e)
front names (last above name e) = (name ∷ [], ap (λ a. a ++ name ∷ []) (ap above_last e ∙ above_last-snoc above name) ∙ sym e)

module _ (home : Option Names) (t : Tree) (bytes : List ℕ) (h : BucketsHaveKeys home t) where
  file_keyed : (names : Names) (new : Tree) → path_kind home names ≡ Elsewhere → put (make_some t [] (above_last names) (length (above_last names))) names (File bytes) ≡ new
      → BucketsHaveKeys home new
  file_keyed names new k is =
      let f = front names (ends names) in
      let made = folders_keyed home t [] (above_last names) f.0 (length (above_last names)) (ap (path_kind home) f.1 ∙ k) h in
      subst (BucketsHaveKeys home) is
      (put_keyed home (make_some t [] (above_last names) (length (above_last names))) names (File bytes) (λ e. let no : Elsewhere ≡ Bucket = sym k ∙ e in absurd cc) made)

pub planted_keyed : (home : Option Names) (t new : Tree) (path bytes : List ℕ) → IsFor home Elsewhere path → planted t path bytes ≡ Ok new → BucketsHaveKeys home t
    → BucketsHaveKeys home new
unfolding planted
planted_keyed home t new path bytes apart e keyed =
    let f = and_then_ok (names_of path) _ new e in
    let g = and_then_ok (or_fault (dirs_fault t [] (above_last f.0)) f.0) _ new f.2 in
    let h = and_then_ok (where_no_folder (look t g.0) g.0) _ new g.2 in
    let o = or_fault_none (dirs_fault t [] (above_last f.0)) f.0 g.0 g.1 in
    let n = no_folder_at (look t g.0) g.0 h.0 h.1 in
    let k = of_names (λ n. path_kind home n ≡ Elsewhere) path f.0 apart f.1 in
    file_keyed home t bytes keyed h.0 new (ap (path_kind home) (sym (o.1 ∙ n.1)) ∙ k) cc

-- ---- a file that is planted apart from the cache leaves what it holds

pub plants_last : PlantsLast
unfolding tree_of IsLog
plants_last cache path bytes old new grown apart logged sound =
    let t = replay bare old in
    let rest = replayable_rest bare old (Foreign path bytes ∷ []) (subst (IsReplayable bare) grown logged) in
    let is = planted_so (replay bare old) (planted (replay bare old) path bytes) rest.0 in
    let after : Tree = changed (replay bare old) (planted (replay bare old) path bytes) in
    let leads : replay bare new ≡ changed (replay bare old) (planted (replay bare old) path bytes) = ap (replay bare) grown ∙ replay_more bare old (Foreign path bytes ∷ []) in
    let apart_so = planted_apart (home_of cache) t after path bytes sound.placed sound.rooted apart is in
    let still : IsSound (home_of cache) (changed (replay bare old) (planted (replay bare old) path bytes))
    = record {
      placed = apart_so.0;
      rooted = planted_rooted t bytes sound.rooted path after is;
      formed = λ digest. subst (λ (v : Value). All IsEntry (list_of (v.buckets digest))) (sym apart_so.1) (sound.formed digest);
      right = subst (λ (v : Value). AreRight v.contents) (sym apart_so.1) sound.right;
      keyed = planted_keyed (home_of cache) t after path bytes apart is sound.keyed;
      own = subst (λ (v : Value). HoldOwn v.buckets) (sym apart_so.1) sound.own;
    } in
    (subst (IsSound (home_of cache)) (sym leads) still, ap (value_of_tree (home_of cache)) leads ∙ apart_so.1)
