-- What a compaction leaves of the tree of a log, and what calls answer then.
use Rattle.std.{proofs.Common.{◌≡◌, ◌⊎◌, inl, inr, ℕ, List, [], ◌∷◌, ◌++◌, Bool, None, Option, Some, Ok, sym, ap, subst, ◌∙◌}, specs.List.{AllByRecursion}}
use Rattle.cacache_core.specs.{Paths.{Names, home_of, names_of, index_area}, declared.errors.Error.{Error}}
use Rattle.cacache_store.specs.declared.store.log.LogItem.{LogItem}
use Rattle.cacache_disk.specs.{declared.node.Node.TheVariants.{File}, Tree.{Tree, look}, Replay.{IsLog, tree_of}}
use Rattle.cacache_laws.specs.trees.{Compacted.{Compacted, CutShort}, Compacting.{compact_text}}
use Rattle.cacache_laws.proofs.trees.{Compactions.LeanTrees.{compactions_answer, compactions_keep, Becomes, compacted_none, cut_short, same_bytes}, Led.{houses_are_fit}, Logged.{log_rooted}, Members.{Member}}
use Rattle.cacache_keep.specs.{Compacting.{CompactsAll, CompactsCache, StopsAfterAll, StopsCompactingEach}, Syncing.{SyncsAbove}, Kept.{CompactionsAreUnseen, CompactionsLeave, CompactionsStop, MayCompact}}
use Rattle.cacache_keep.proofs.{Indexes.{FoundBuckets.{AreBucketNames, FindsFiles, IsBucketFile, Stays, buckets_found, finding_stays}, FoundFolders.{bucket_names_hex}}, TreeRuns.{Leads, leads_as, leads_on, leads_then}, NewBuckets.CompactedTrees.{CompactsThese, each_leads, stop_leads, IsTight}, Losses.FixedFolders.{above_synced, above_unsynced}}

-- ---- what a whole one leaves

-- each bucket has its compacted bytes
tight_bytes : (durable : Bool) (home : Names) (t u : Tree) (path bytes : List ℕ) (q : Names) (k : IsTight durable path u) → names_of path ≡ Ok q → look t q ≡ Some (File bytes) → Compacted durable home t u → look u q ≡ Some (File (compact_text durable bytes))
tight_bytes durable home t u path bytes q k named there all = by (all q)
  where
    here : k.names ≡ q
    here = let both : Ok k.names ≡ Ok q = sym k.named ∙ named in cc

    by : Becomes durable home q (look t q) (look u q) → look u q ≡ Some (File (compact_text durable bytes))
    by (inl same) =
        let bytes_are : bytes ≡ k.bytes = same_bytes bytes k.bytes (look u q) (same ∙ there) (ap (look u) (sym here) ∙ k.stands) in
        same ∙ there ∙ ap (λ (l : List ℕ). Some (File l)) (bytes_are ∙ sym k.tight ∙ ap (compact_text durable) (sym bytes_are))
    by (inr (inl lean)) = lean.3 ∙ ap (λ (l : List ℕ). Some (File (compact_text durable l))) (same_bytes lean.1 bytes (look t q) lean.2 there)
    by (inr (inr made)) = absurd (let wrong : None ≡ Some (File bytes) = sym made.1 ∙ there in cc)

tight_in : (durable : Bool) (u : Tree) (path : List ℕ) (paths : List (List ℕ)) → Member path paths → AllByRecursion (λ p. IsTight durable p u) paths → IsTight durable path u
tight_in durable u path [] m all = absurd m
tight_in durable u path (p ∷ paths) (inl e) all = subst (λ (x : List ℕ). IsTight durable x u) (sym e) all.0
tight_in durable u path (p ∷ paths) (inr m) all = tight_in durable u path paths m all.1

-- the buckets at these paths are compacted, and the folders above theirs synced
these_lead : (durable : Bool) (cache : List ℕ) (home : Names) (is : home_of cache ≡ Some home) (tops paths : List (List ℕ)) (count bytes : ℕ) (found done new : Option (List LogItem)) → CompactsAll durable cache paths count bytes found done → SyncsAbove durable cache tops done new
    → Leads (CompactsThese durable cache home is paths) found new
these_lead durable cache home is tops paths count bytes found done new all above =
    leads_then (CompactsThese durable cache home is paths) Stays (CompactsThese durable cache home is paths) found done new
    (subst (λ (p : List (List ℕ)). Leads (CompactsThese durable cache home is p) found done) all.each (each_leads durable cache home is all.buckets found done all.compacting))
    (above_synced durable cache tops done new above)
    (λ t u v rooted next one same. subst (λ (x : Tree). CompactsThese durable cache home is paths t x) (sym same) one)

-- those at names of buckets
abbrev LeavesTight : Bool → Names → Tree → Tree → Type 0
LeavesTight durable home t u =
    Compacted durable home t u
    × ((a b c bytes : List ℕ) → AreBucketNames a b c → look t (home ++ index_area ∷ a ∷ b ∷ c ∷ []) ≡ Some (File bytes) → look u (home ++ index_area ∷ a ∷ b ∷ c ∷ []) ≡ Some (File (compact_text durable bytes)))

compacts_all : (durable : Bool) (cache : List ℕ) (home : Names) (count bytes : ℕ) (old new : List LogItem) → home_of cache ≡ Some home → IsLog new → CompactsCache durable cache count bytes (Some old) (Some new) → LeavesTight durable home (tree_of old) (tree_of new)
compacts_all durable cache home count bytes old new is logged (tops, paths, found, done, finding, all, above) =
    leads_on (LeavesTight durable home) old new logged
    (leads_then (FindsFiles home tops paths) (CompactsThese durable cache home is paths) (LeavesTight durable home) (Some old) found (Some new) (buckets_found cache home tops paths (Some old) found is finding)
    (these_lead durable cache home is tops paths count bytes found done (Some new) all above)
    (λ t u v rooted next one two.
    let done = subst (λ (x : Tree). CompactsThese durable cache home is paths x v) one.stays two one.files in (
      done.0,
      λ a b c bytes hex there.
          let covered = one.covers a b c bytes hex there in
          tight_bytes durable home t v covered.path bytes (home ++ index_area ∷ a ∷ b ∷ c ∷ []) (tight_in durable v covered.path paths covered.member done.1) covered.named there done.0,
    )))

pub compactions_leave : CompactionsLeave
compactions_leave durable cache home count bytes old new is logged c =
    let done = compacts_all durable cache home count bytes old new is logged c in
    record { tree = done.0; buckets = λ digest bytes d there. done.1 _ _ _ bytes (bucket_names_hex digest d) there }

stops_lead : (durable : Bool) (cache : List ℕ) (home : Names) (is : home_of cache ≡ Some home) (tops paths : List (List ℕ)) (e : Error) (found new : Option (List LogItem)) → StopsCompactingEach durable cache paths e found new ⊎ StopsAfterAll durable cache tops paths e found new
    → Leads (λ t u. AllByRecursion (IsBucketFile home t) paths → CutShort durable home t u) found new
stops_lead durable cache home is tops paths e found new (inl stops) = stop_leads durable cache home is paths e found new stops
stops_lead durable cache home is tops paths e found new (inr (count, bytes, done, all, above)) =
    leads_then (CompactsThese durable cache home is paths) Stays (λ t u. AllByRecursion (IsBucketFile home t) paths → CutShort durable home t u) found done new
    (subst (λ (p : List (List ℕ)). Leads (CompactsThese durable cache home is p) found done) all.each (each_leads durable cache home is all.buckets found done all.compacting))
    (above_unsynced durable cache tops e done new above)
    (λ t u v rooted next one same files. subst (λ (x : Tree). CutShort durable home t x) (sym same) (cut_short durable home t u (one files).0))

pub compactions_stop : CompactionsStop
compactions_stop durable cache home e old new is logged (inl finding) =
    leads_on (CutShort durable home) old new logged
    (leads_as Stays (CutShort durable home) (Some old) (Some new) (finding_stays cache e (Some old) (Some new) finding) (λ t u rooted same. subst (λ (x : Tree). CutShort durable home t x) (sym same) (cut_short durable home t t (compacted_none durable home t))))
compactions_stop durable cache home e old new is logged (inr (tops, paths, found, finding, stops)) =
    leads_on (CutShort durable home) old new logged
    (leads_then (FindsFiles home tops paths) (λ t u. AllByRecursion (IsBucketFile home t) paths → CutShort durable home t u) (CutShort durable home) (Some old) found (Some new) (buckets_found cache home tops paths (Some old) found is finding)
    (stops_lead durable cache home is tops paths e found (Some new) stops)
    (λ t u v rooted next one two. subst (λ (x : Tree). AllByRecursion (IsBucketFile home x) paths → CutShort durable home x v) one.stays two one.files))

-- ---- what calls answer then

either_cut : (cache : List ℕ) (home : Names) (old new : List LogItem) → home_of cache ≡ Some home → IsLog new → MayCompact cache (Some old) (Some new) → (durable : Bool) × CutShort durable home (tree_of old) (tree_of new)
either_cut cache home old new is logged (inl (durable, count, bytes, c)) = (durable, cut_short durable home (tree_of old) (tree_of new) (compacts_all durable cache home count bytes old new is logged c).0)
either_cut cache home old new is logged (inr (durable, e, c)) = (durable, compactions_stop durable cache home e old new is logged c)

pub compactions_are_unseen : CompactionsAreUnseen
compactions_are_unseen site home old new is logged c =
    let cut = either_cut site.cache home old new is logged c in (
      compactions_keep cut.0 home (tree_of old) (tree_of new) cut.1,
      λ housed.
          let fit = houses_are_fit site.cache home (tree_of old) is (log_rooted old) housed in
          compactions_answer cut.0 site home (tree_of old) (tree_of new) is fit.0 fit.1 cut.1,
    )
