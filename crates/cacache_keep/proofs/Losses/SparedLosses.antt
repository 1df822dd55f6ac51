-- What a loss leaves in the middle of a compaction.
use Rattle.std.proofs.Common.{◌≡◌, inl, inr, ℕ, List, [], ◌∷◌, ◌++◌, Bool, None, Some, refl, sym, ap, subst, ◌∙◌, append_assoc}
use Rattle.cacache_core.specs.Paths.{Names, home_of, bucket_names_of, index_area}
use Rattle.cacache_store.specs.{declared.store.log.LogItem.{LogItem}, Plain.{PlainStep, PlainAnswer}}
use Rattle.cacache_disk.{specs.{declared.node.Node.{Node, TheVariants.{Folder, File}}, Tree.{Tree, look}, Replay.{tree_of, IsLog}}, proofs.Standing.{upper_folder}}
use Rattle.cacache_calls.specs.Runs.{Gains, Moves}
use Rattle.cacache_entry.specs.Bucket.{latest}
use Rattle.cacache_value.{specs.{Acts.{list_of}, Kinds.{Bucket as IsBucket, Way, path_kind}, Value.{bucket_in}}, proofs.PathKinds.{kind-below}}
use Rattle.cacache_loss.specs.{declared.fixing.Place.{Place}, Fixing.{Fixed}, Loss.{Loss, left_at, node_left}, LostValues.{LeftOf}, Moments.{Moment}}
use Rattle.cacache_loss.proofs.SyncedFolders.{left_was}
use Rattle.cacache_laws.proofs.trees.Logged.{log_rooted}
use Rattle.cacache_keep.specs.Losses.{CompactionsSpare, CompactsSo, IsFixedAt, WayFixed, moment_after}
use Rattle.cacache_keep.proofs.{Losses.{ApartSteps.{EachApart, moves_kept, name_still, fixes_on, later, later_rooted, Apart}, ApartCompactions.{compaction_apart}, FixedFolders.{node_lost}, LeanLosses.{IsEither, key_keeps}, SafeBuckets.{Good, GoodPlace, Safe, StaysSafe, WasGood, compaction_safe, front_safe}}, Asked.{both_parts}}

module _ (durable : Bool) (cache : List ℕ) (home : Names) (first rest : Moves) (fixed : Fixed) (loss : Loss) (old new : List LogItem) (left : Tree)
    (is : home_of cache ≡ Some home) (logged : IsLog new) (c : CompactsSo durable cache (Some old) (Some new)) (gains : Gains (Some old) (Some new) (first ++ rest))
    (lost : LeftOf home (moment_after (tree_of old) fixed first) loss left) where
  abbrev start : Moment
  start = record { tree = tree_of old; fixed = fixed }

  -- the name of a folder on the way to a bucket stays fixed
  way_still : (below above : Names) (name : List ℕ) (node : Node) → look (tree_of old) ((home ++ below) ++ name ∷ above) ≡ Some node → path_kind (Some home) (home ++ below) ≡ Way
      → fixed.names (home ++ below) ≡ None → (later start first).fixed.names (home ++ below) ≡ None
  way_still below above name node there kind none =
      let apart = fixes_on (λ w moves. EachApart (home ++ below) moves) old new (first ++ rest) start logged gains refl (compaction_apart durable cache home is (home ++ below) kind (Some old) (Some new) c) in
      let stands = upper_folder (tree_of old) (home ++ below) above name node (log_rooted old) there in
      name_still start (later start first) (home ++ below) Folder (moves_kept start first (home ++ below) Folder stands (both_parts (λ (m : PlainStep × PlainAnswer). Apart (home ++ below) m.0) first rest apart).0) none

  module _ (a b e text : List ℕ) (there : look (tree_of old) (home ++ index_area ∷ a ∷ b ∷ e ∷ []) ≡ Some (File text)) (before : IsFixedAt fixed home (index_area ∷ a ∷ b ∷ e ∷ [])) where
    abbrev q : Names
    q = home ++ index_area ∷ a ∷ b ∷ e ∷ []

    way : WayFixed (later start first).fixed home (index_area ∷ a ∷ b ∷ e ∷ [])
    way =
        let two : (home ++ index_area ∷ []) ++ a ∷ [] ≡ home ++ index_area ∷ a ∷ [] = append_assoc home (index_area ∷ []) (a ∷ []) in
        let three : ((home ++ index_area ∷ []) ++ a ∷ []) ++ b ∷ [] ≡ home ++ index_area ∷ a ∷ b ∷ [] = ap (λ (p : Names). p ++ b ∷ []) two ∙ append_assoc home (index_area ∷ a ∷ []) (b ∷ []) in (
          way_still (index_area ∷ []) (b ∷ e ∷ []) a (File text) (ap (look (tree_of old)) (append_assoc home (index_area ∷ []) (a ∷ b ∷ e ∷ [])) ∙ there) (kind-below home (index_area ∷ [])) before.2.0,
          (
            ap (later start first).fixed.names two
                ∙ way_still (index_area ∷ a ∷ []) (e ∷ []) b (File text) (ap (look (tree_of old)) (append_assoc home (index_area ∷ a ∷ []) (b ∷ e ∷ [])) ∙ there) (kind-below home (index_area ∷ a ∷ [])) (ap fixed.names (sym two) ∙ before.2.1.0),
            (
              ap (later start first).fixed.names three
                  ∙ way_still (index_area ∷ a ∷ b ∷ []) [] e (File text) (ap (look (tree_of old)) (append_assoc home (index_area ∷ a ∷ b ∷ []) (e ∷ [])) ∙ there) (kind-below home (index_area ∷ a ∷ b ∷ [])) (ap fixed.names (sym three) ∙ before.2.1.1.0),
              tt,
            ),
          ),
        )

    kind : path_kind (Some home) q ≡ IsBucket
    kind = kind-below home (index_area ∷ a ∷ b ∷ e ∷ [])

    safe : Safe durable cache home is q kind text (later start first)
    safe =
        let all = fixes_on (StaysSafe durable cache home is q kind text) old new (first ++ rest) start logged gains refl (compaction_safe durable cache home is q kind text (Some old) (Some new) c)
        ((text, inl refl, there, before.0), subst (WasGood durable cache home is q kind text) (sym before.1) tt) in
        front_safe durable cache home is q kind text start first rest all

    -- what is left of such a file
    left_good : (place : Place) (tail : List ℕ) → GoodPlace durable cache home is q kind text place → IsEither durable text (node_left place.fixing tail place.node)
    left_good place tail (y, good, node, whole) = by good
      where
        same : node_left place.fixing tail place.node ≡ Some (File y)
        same = rw (node, whole) refl

        by : Good durable cache home is q kind text y → IsEither durable text (node_left place.fixing tail place.node)
        by (inl x) = inl (same ∙ ap (λ (l : List ℕ). Some (File l)) x)
        by (inr x) = inr (same ∙ ap (λ (l : List ℕ). Some (File l)) x)

    either_left : IsEither durable text (look left q)
    either_left =
        let place = left_at (Some home) (later start first).tree (later start first).fixed loss q in
        let good = left_was (Some home) (later start first).tree (later start first).fixed loss q (WasGood durable cache home is q kind text)
        (GoodPlace durable cache home is q kind text) (inr safe.1) safe.0 (λ was w. w) in
        subst (IsEither durable text) (sym (lost q
        ∙ node_lost home (later start first) loss (later_rooted start first (log_rooted old)) (index_area ∷ a ∷ b ∷ e ∷ []) (File safe.0.0) safe.0.2 way))
        (left_good place (loss.tail q) good)

  either : (digest text : List ℕ) → look (tree_of old) (home ++ bucket_names_of digest) ≡ Some (File text) → IsFixedAt fixed home (bucket_names_of digest)
      → IsEither durable text (look left (home ++ bucket_names_of digest))
  either digest text there before = either_left _ _ _ text there before

pub compactions_spare : CompactionsSpare
compactions_spare durable cache home first rest fixed loss old new left digest bytes is logged c gains there before lost =
    let same = either durable cache home first rest fixed loss old new left is logged c gains lost digest bytes there before in
    record {
      bucket = same;
      keys = λ key found at finds.
          key_keeps durable home left key found bytes (subst (λ d. IsEither durable bytes (look left (home ++ bucket_names_of d))) (sym at) same)
          (ap (λ o. latest key (list_of (bucket_in o))) (sym (ap (λ d. look (tree_of old) (home ++ bucket_names_of d)) at ∙ there)) ∙ finds);
    }
