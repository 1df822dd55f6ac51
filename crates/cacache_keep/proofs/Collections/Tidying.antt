-- Reads after collections and removals answer as they may without the collections.
use Rattle.std.proofs.Common.{◌≡◌, ◌⊎◌, inl, inr, ℕ, List, [], ◌∷◌, true, false, Option, None, Some, filter_map, refl, sym, ap, ◌∙◌}
use Rattle.cacache_core.specs.Paths.{Names, home_of}
use Rattle.cacache_store.specs.declared.store.log.LogItem.{LogItem}
use Rattle.cacache_disk.specs.{declared.node.Node.TheVariants.{Link}, Tree.{Tree, look}, Replay.{tree_of}}
use Rattle.cacache_calls.specs.{declared.command.Command.{Command}, State.{Site}}
use Rattle.cacache_laws.proofs.{Readings.Looks.{tree_stays}, trees.Twins.{Cleared.{still_lacks_idle}, Fully.{lacks_at}, Twice.{bucket_read}, Follows.{idle_is_unseen}}}
use Rattle.cacache_laws.specs.trees.{Collecting.{LinksLeadOut}, Idle.{IsIdle, IsNeeded, LacksIdle}, Walks.{is_leaf}}
use Rattle.cacache_keep.{specs.Kept.{Cleaned, LaterReadsStay, LooksStay, Tidied}, proofs.Collections.Leaving.{collections_lack_idle}}

pub looks_stay : LooksStay
looks_stay [] old new l = ap tree_of l
looks_stay (c ∷ calls) old new l = looks_stay calls l.0 new l.3 ∙ tree_stays c.0 c.1 c.2 old l.0 l.1 l.2

-- ---- what lacks idle contents of a tree that lacks some

module _ (cache : List ℕ) (home : Names) (full lean : Tree) (is : home_of cache ≡ Some home) (one : LacksIdle cache home full lean) where
  -- links lead out of the lean tree too
  out_still : LinksLeadOut home lean
  out_still names target link = elim (one.nodes names) [
    | inl same ↦ one.links names target (sym same ∙ link)
    | inr gap ↦ absurd (let wrong : None ≡ Some (Link target) = sym gap.0 ∙ link in cc)
  ]

  needed_still : (q : Names) → IsNeeded cache full q → IsNeeded cache lean q
  needed_still q (key, found, (bytes, answer, latest), named) = (key, found, (bytes, bucket_read cache home full lean is one key ∙ answer, latest), named)

  idle_before : (q : Names) → IsIdle cache home lean q → look lean q ≡ look full q → IsIdle cache home full q
  idle_before q idle same = record {
    kind = idle.kind;
    stands = ap is_leaf (sym same) ∙ idle.stands;
    idle = λ n. idle.idle (needed_still q n);
  }

  gap_so : (q : Names) (less : Tree) → look less q ≡ None → IsIdle cache home lean q → (look less q ≡ look full q) ⊎ ((look less q ≡ None) × IsIdle cache home full q)
  gap_so q less none idle = elim (one.nodes q) [
    | inl same ↦ inr (none, idle_before q idle same)
    | inr gap ↦ absurd (let wrong : false ≡ true = ap is_leaf (sym gap.0) ∙ idle.stands in cc)
  ]

  lacks_more : (less : Tree) → LacksIdle cache home lean less → LacksIdle cache home full less
  lacks_more less two = record {
    nodes = λ q. elim (two.nodes q) [
      | inl same ↦ elim (one.nodes q) [ inl before ↦ inl (same ∙ before) | inr gap ↦ inr (same ∙ gap.0, gap.1) ]
      | inr gap ↦ gap_so q less gap.0 gap.1
    ];
    links = one.links;
    formed = one.formed;
  }

-- ---- after the same removals it lacks idle contents alone

tidied : (site : Site) (home : Names) (events : List (Option Command)) (full rest lean left : List LogItem) → home_of site.cache ≡ Some home → Cleaned site.cache (filter_map (λ e. e) events) full rest → Tidied site events lean left
    → LacksIdle site.cache home (tree_of full) (tree_of lean) → LacksIdle site.cache home (tree_of rest) (tree_of left)
tidied site home [] full rest lean left is clean tidy l = lacks_at site.cache home (tree_of rest) (tree_of left) (tree_of full) (tree_of lean) clean tidy l
tidied site home (None ∷ events) full rest lean left is clean (found, stays, kept, dropped, next, logged, collects, more) l =
    let before = lacks_at site.cache home (tree_of full) (tree_of found) (tree_of full) (tree_of lean) refl stays l in
    let out = out_still site.cache home (tree_of full) (tree_of found) is before in
    let again = collections_lack_idle site home kept dropped found next is logged out collects in
    tidied site home events full rest next left is clean more (lacks_more site.cache home (tree_of full) (tree_of found) is before (tree_of next) again)
tidied site home (Some removal ∷ events) full rest lean left is clean tidy l =
    let before = lacks_at site.cache home (tree_of clean.0) (tree_of tidy.0) (tree_of full) (tree_of lean) clean.1 tidy.1 l in
    tidied site home events clean.2 rest tidy.2 left is clean.4 tidy.4 (still_lacks_idle site.cache home removal clean.0 clean.2 tidy.0 tidy.2 is clean.3 tidy.3 before)

pub later_reads_stay : LaterReadsStay
later_reads_stay site home kept dropped events old collected later other is logged out c with_them without =
    idle_is_unseen site home (tree_of other) (tree_of later) is
    (tidied site home events old other collected later is without with_them (collections_lack_idle site home kept dropped old collected is logged out c))
