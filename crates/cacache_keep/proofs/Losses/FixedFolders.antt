-- What a loss leaves of a file whose folders are fixed, and which folders a durable compaction fixes.
-- Syncs leave the tree, whether they are done or fail.
use Rattle.std.proofs.Common.{◌≡◌, inl, inr, ℕ, List, [], ◌∷◌, ◌++◌, true, cond, Option, None, Some, Result, Ok, Err, refl, sym, ap, subst, ◌∙◌, append_assoc, append-nil, Bool, false}
use Rattle.cacache_core.specs.{declared.errors.{Fault.{Fault, TheVariants.{IsADirectory}}, Error.{Error}}, Paths.{Names, names_of}}
use Rattle.cacache_store.specs.declared.store.{log.LogItem.{LogItem}, plain.PlainTemp.{PlainTemp}}
use Rattle.cacache_disk.specs.{declared.{luck.Luck.TheVariants.{Plain}, node.Node.{Node, TheVariants.{File}}}, LedTo.{folder, place, where_folder, file_at}, Tree.{Rooted, is_folder, Tree, look}, Apply.{apply, unless}}
use Rattle.cacache_disk.proofs.{FoundNodes.{and_then_ok, place_ok}, Standing.{upper_folder}}
use Rattle.cacache_calls.specs.{Runs.{Moves}, SingleSteps.{Does, FailsAt}}
use Rattle.cacache_loss.specs.{declared.fixing.Place.{Place}, Fixing.{is_child_of}, Loss.{Loss, begins, lead_folders, left_at, node_left}, Moments.{Moment, lost_then}}
use Rattle.cacache_loss.proofs.{KeptPaths.{cond_none, sync_fixes}, SyncedFolders.{IsFirm, left_firm}, Reaching.{bytes_same}}
use Rattle.cacache_laws.proofs.trees.Members.{Member}
use Rattle.cacache_keep.specs.{Losses.{IsFixedAt, WayFixed}, Syncing.{SyncsInTurn, StopsAbove, StopsNextSync, SyncsAbove, folders_above}, Rewriting.{StopsSecuring, StopsSyncingBucket, SyncsBucket, SyncsFolder, folder_of}}
use Rattle.cacache_keep.proofs.{Losses.{ApartSteps.{Fixes, fixes_none, fixes_step, fixes_then, later, later_split}, SettledBuckets.{StaysHeld, apart_held, held_then}}, Indexes.FoundBuckets.{Stays, stays_on}, TreeRuns.{Leads, leads_failed, leads_none, leads_step, leads_then}}
use Rattle.cacache_store.specs.declared.store.answer.Answer.TheVariants as answers
use Rattle.cacache_store.specs.declared.store.step.Step.TheVariants as steps

-- ---- what a loss leaves

begins_front : (p q : Names) → begins p (p ++ q) ≡ true
begins_front [] q = refl
begins_front (n ∷ p) q = rw (bytes_same n) (begins_front p q)

module _ (home : Names) (w : Moment) (loss : Loss) (rooted : Rooted w.tree) where
  abbrev left : Names → Place
  left = left_at (Some home) w.tree w.fixed loss

  folder_left : (p rest : Names) (name : List ℕ) (node : Node) → look w.tree (p ++ name ∷ rest) ≡ Some node → IsFirm (Some home) w.fixed p → is_folder (left p).node ≡ true
  folder_left p rest name node there firm =
      ap (λ (place : Place). is_folder place.node) (left_firm (Some home) w.tree w.fixed loss p firm) ∙ ap is_folder (upper_folder w.tree p rest name node rooted there)

  leads_below : (p rest : Names) (node : Node) → look w.tree (p ++ rest) ≡ Some node → IsFirm (Some home) w.fixed p → WayFixed w.fixed p rest → lead_folders left p rest ≡ true
  leads_below p [] node there firm all = refl
  leads_below p (name ∷ []) node there firm all = rw (folder_left p [] name node there firm) refl
  leads_below p (name ∷ next ∷ rest) node there firm all =
      rw (folder_left p (next ∷ rest) name node there firm) (leads_below (p ++ name ∷ []) (next ∷ rest) node (ap (look w.tree) (append_assoc p (name ∷ []) (next ∷ rest)) ∙ there) (inr all.0) all.1)

  -- the cache's folder and those above it stay
  home_stays : (p rest : Names) → p ++ rest ≡ home → IsFirm (Some home) w.fixed p
  home_stays p rest e = inl (ap (begins p) (sym e) ∙ begins_front p rest)

  leads_from : (p above rest : Names) (node : Node) → p ++ above ≡ home → look w.tree (home ++ rest) ≡ Some node → WayFixed w.fixed home rest → lead_folders left p (above ++ rest) ≡ true
  leads_from p [] rest node e there all =
      let here : home ≡ p = sym e ∙ append-nil p in
      subst (λ q. lead_folders left q rest ≡ true) here (leads_below home rest node there (home_stays home [] (append-nil home)) all)
  leads_from p (name ∷ above) rest node e there all =
      let next : (p ++ name ∷ []) ++ above ≡ home = append_assoc p (name ∷ []) above ∙ e in
      let way : p ++ name ∷ (above ++ rest) ≡ home ++ rest = sym (append_assoc p (name ∷ above) rest) ∙ ap (λ q. q ++ rest) e in
      rw (folder_left p (above ++ rest) name node (ap (look w.tree) way ∙ there) (home_stays p (name ∷ above) e)) (leads_from (p ++ name ∷ []) above rest node next there all)

  -- what is there is left, or what was there when its folder was synced
  pub node_lost : (rest : Names) (node : Node) → look w.tree (home ++ rest) ≡ Some node → WayFixed w.fixed home rest
      → lost_then (Some home) w loss (home ++ rest) ≡ node_left (left (home ++ rest)).fixing (loss.tail (home ++ rest)) (left (home ++ rest)).node
  node_lost rest node there all =
      ap (λ b. cond b (node_left (left (home ++ rest)).fixing (loss.tail (home ++ rest)) (left (home ++ rest)).node) None) (leads_from [] home rest node refl there all)

  -- a file whose name and bytes are fixed is left with exactly these
  pub file_lost : (rest : Names) (bytes : List ℕ) → look w.tree (home ++ rest) ≡ Some (File bytes) → IsFixedAt w.fixed home rest → lost_then (Some home) w loss (home ++ rest) ≡ Some (File bytes)
  file_lost rest bytes there fixed =
      node_lost rest (File bytes) there fixed.2
      ∙ ap (λ (place : Place). node_left place.fixing (loss.tail (home ++ rest)) place.node) (left_firm (Some home) w.tree w.fixed loss (home ++ rest) (inr fixed.1))
      ∙ ap (node_left (w.fixed.files (home ++ rest)) (loss.tail (home ++ rest))) there ∙ rw fixed.0 refl

-- ---- folders that are synced in turn

-- the text names a folder, and the names in it are fixed
abbrev pub IsFixedFolder : List ℕ → Moment → Type 0
IsFixedFolder f w = (p : Names) × (names_of f ≡ Ok p) × ((name : List ℕ) → w.fixed.names (p ++ name ∷ []) ≡ None)

-- what is fixed stays so
abbrev StayFixed : Moment → Moves → Type 0
StayFixed w moves = (r : Names) → w.fixed.names r ≡ None → (later w moves).fixed.names r ≡ None

dir_named : (t : Tree) (f : List ℕ) → answers.Done ≡ (apply t (steps.SyncDir f) Plain).0 → (p : Names) × (names_of f ≡ Ok p)
unfolding apply folder
dir_named t f e = by (folder t f) (λ p is. (let found = and_then_ok (place t f) (λ names. where_folder (look t names) names) p is in (found.0, place_ok t f found.0 found.1))) e
  where
    by : (r : Result Names Fault) → ((p : Names) → r ≡ Ok p → (p : Names) × (names_of f ≡ Ok p)) → answers.Done ≡ (unless r t (λ names. (answers.Done, t))).0 → (p : Names) × (names_of f ≡ Ok p)
    by (Ok p) named e = named p refl
    by (Err fault) named e = absurd cc

module _ (q : Names) where
  abbrev pub SyncsNames : List (List ℕ) → Moment → Moves → Type 0
  SyncsNames folders w moves = StaysHeld q w moves × StayFixed w moves × ((f : List ℕ) → Member f folders → IsFixedFolder f (later w moves))

  one_synced : (f : List ℕ) (w : Moment) → answers.Done ≡ (apply w.tree (steps.SyncDir f) Plain).0 → SyncsNames (f ∷ []) w ((steps.SyncDir f, answers.Done) ∷ [])
  one_synced f w e = (apart_held q w ((steps.SyncDir f, answers.Done) ∷ []) (tt, tt), λ r none. cond_none (is_child_of (names_of f) r) (w.fixed.names r) none, λ g m. by g m)
    where
      by : (g : List ℕ) → Member g (f ∷ []) → IsFixedFolder g (later w ((steps.SyncDir f, answers.Done) ∷ []))
      by g (inl same) =
          let named = dir_named w.tree f e in
          (named.0, ap names_of same ∙ named.1, λ name. sync_fixes named.0 name w.fixed w.tree w.tree (steps.SyncDir f) answers.Done (named.1, refl))
      by g (inr more) = absurd more

  more_synced : (f : List ℕ) (folders : List (List ℕ)) (w : Moment) (one two : Moves) → SyncsNames (f ∷ []) w one → SyncsNames folders (later w one) two → SyncsNames (f ∷ folders) w (one ++ two)
  more_synced f folders w one two a b = (
    held_then q w one two a.0 b.0,
    λ r none. subst (λ (v : Moment). v.fixed.names r ≡ None) (sym (later_split w one two)) (b.1 r (a.1 r none)),
    λ g m. subst (IsFixedFolder g) (sym (later_split w one two)) (by g m),
  )
    where
      by : (g : List ℕ) → Member g (f ∷ folders) → IsFixedFolder g (later (later w one) two)
      by g (inl same) = let here = a.2 g (inl same) in (here.0, here.1, λ name. b.1 (here.0 ++ name ∷ []) (here.2 name))
      by g (inr m) = b.2 g m

  pub in_turn_fixed : (folders : List (List ℕ)) (old new : Option (List LogItem)) → SyncsInTurn folders old new → Fixes (SyncsNames folders) old new
  in_turn_fixed [] old new same = fixes_none (SyncsNames []) old new same (λ w. ((λ h. h, λ s. s), λ r none. none, λ g m. absurd m))
  in_turn_fixed (f ∷ folders) old new (next, one, more) =
      fixes_then (SyncsNames (f ∷ [])) (SyncsNames folders) (SyncsNames (f ∷ folders)) old next new
      (fixes_step (SyncsNames (f ∷ [])) (steps.SyncDir f) answers.Done old next one (λ w rooted e. one_synced f w e)) (in_turn_fixed folders next new more)
      (λ w first rest rooted a b. more_synced f folders w first rest a b)

temp_sync_keeps : (t : Tree) (file : PlainTemp) → (apply t (steps.SyncTemp file) Plain).1 ≡ t
unfolding apply
temp_sync_keeps t file = refl

dir_sync_keeps : (t : Tree) (path : List ℕ) → (apply t (steps.SyncDir path) Plain).1 ≡ t
unfolding apply
dir_sync_keeps t path = by (folder t path)
  where
    by : (r : Result Names Fault) → (unless r t (λ names. (answers.Done, t))).1 ≡ t
    by (Ok names) = refl
    by (Err fault) = refl

file_sync_keeps : (t : Tree) (path : List ℕ) → (apply t (steps.SyncFile path) Plain).1 ≡ t
unfolding apply
file_sync_keeps t path = by (file_at t path IsADirectory)
  where
    by : (r : Result (List ℕ) Fault) → (unless r t (λ bytes. (answers.Done, t))).1 ≡ t
    by (Ok bytes) = refl
    by (Err fault) = refl

-- ---- of the temporary file

pub temp_synced : (file : PlainTemp) (old new : Option (List LogItem)) → Does (steps.SyncTemp file) (answers.Synced file) old new → Leads Stays old new
temp_synced file old new does = leads_step Stays (steps.SyncTemp file) (answers.Synced file) old new does (λ t rooted e. temp_sync_keeps t file)

pub temp_unsynced : (file : PlainTemp) (e : Error) (old new : Option (List LogItem)) → FailsAt (steps.SyncTemp file) e old new → Leads Stays old new
temp_unsynced file e old new fails = leads_failed Stays (steps.SyncTemp file) e old new fails (λ t. refl) (λ t fault rooted failed. temp_sync_keeps t file)

-- ---- of the folder

pub folder_synced : (durable : Bool) (path : List ℕ) (old new : Option (List LogItem)) → SyncsFolder durable path old new → Leads Stays old new
folder_synced true path old new does = leads_step Stays (steps.SyncDir (folder_of path)) answers.Done old new does (λ t rooted e. dir_sync_keeps t (folder_of path))
folder_synced false path old new same = leads_none old new same

pub folder_unsynced : (durable : Bool) (path : List ℕ) (e : Error) (old new : Option (List LogItem)) → StopsSecuring durable path e old new → Leads Stays old new
folder_unsynced true path e old new fails = leads_failed Stays (steps.SyncDir (folder_of path)) e old new fails (λ t. refl) (λ t fault rooted failed. dir_sync_keeps t (folder_of path))
folder_unsynced false path e old new fails = absurd fails

-- ---- of a bucket

pub bucket_synced : (durable : Bool) (path : List ℕ) (old new : Option (List LogItem)) → SyncsBucket durable path old new → Leads Stays old new
bucket_synced true path old new (synced, file, dir) =
    leads_then Stays Stays Stays old synced new (leads_step Stays (steps.SyncFile path) answers.Done old synced file (λ t rooted e. file_sync_keeps t path))
    (folder_synced true path synced new dir) stays_on
bucket_synced false path old new same = leads_none old new same

pub bucket_unsynced : (durable : Bool) (path : List ℕ) (e : Error) (old new : Option (List LogItem)) → StopsSyncingBucket durable path e old new → Leads Stays old new
bucket_unsynced true path e old new (inl fails) = leads_failed Stays (steps.SyncFile path) e old new fails (λ t. refl) (λ t fault rooted failed. file_sync_keeps t path)
bucket_unsynced true path e old new (inr (synced, file, stop)) =
    leads_then Stays Stays Stays old synced new (leads_step Stays (steps.SyncFile path) answers.Done old synced file (λ t rooted e. file_sync_keeps t path))
    (folder_unsynced true path e synced new stop) stays_on
bucket_unsynced false path e old new fails = absurd fails

-- ---- of the folders above those of buckets

in_turn_synced : (folders : List (List ℕ)) (old new : Option (List LogItem)) → SyncsInTurn folders old new → Leads Stays old new
in_turn_synced [] old new same = leads_none old new same
in_turn_synced (f ∷ folders) old new (next, one, more) =
    leads_then Stays Stays Stays old next new (leads_step Stays (steps.SyncDir f) answers.Done old next one (λ t rooted e. dir_sync_keeps t f)) (in_turn_synced folders next new more) stays_on

next_unsynced : (rest : List (List ℕ)) (e : Error) (old new : Option (List LogItem)) → StopsNextSync rest e old new → Leads Stays old new
next_unsynced [] e old new stop = leads_none old new stop.1
next_unsynced (f ∷ rest) e old new stop = leads_failed Stays (steps.SyncDir f) e old new stop (λ t. refl) (λ t fault rooted failed. dir_sync_keeps t f)

pub above_synced : (durable : Bool) (cache : List ℕ) (tops : List (List ℕ)) (old new : Option (List LogItem)) → SyncsAbove durable cache tops old new → Leads Stays old new
above_synced true cache tops old new syncs = in_turn_synced (folders_above cache tops) old new syncs
above_synced false cache tops old new same = leads_none old new same

pub above_unsynced : (durable : Bool) (cache : List ℕ) (tops : List (List ℕ)) (e : Error) (old new : Option (List LogItem)) → StopsAbove durable cache tops e old new → Leads Stays old new
above_unsynced true cache tops e old new s =
    leads_then Stays Stays Stays old s.between new (in_turn_synced s.synced old s.between s.syncing) (next_unsynced s.rest e s.between new s.stop) stays_on
above_unsynced false cache tops e old new stop = absurd stop
