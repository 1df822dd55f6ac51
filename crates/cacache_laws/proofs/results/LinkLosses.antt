-- What losses leave of durable puts that found a link, and of a file that no step changes.
use Rattle.std.proofs.Common.{rules, ◌≡◌, inr, ℕ, Bool, true, false, cond, List, [], ◌∷◌, ◌++◌, Option, None, Some, refl, sym, ap, subst, ◌∙◌, append_assoc, append-nil, ◌⊎◌, inl, Ok}
use Rattle.std.specs.Prelude.{unwrap_or}
use Rattle.cacache_core.specs.{Paths.{Names, names_of}, declared.errors.Fault.TheVariants.{IsADirectory}}
use Rattle.cacache_store.specs.{declared.store.step.Step.TheVariants.{Persist, SyncTemp, SyncFile, SyncDir}, Plain.{PlainStep, PlainAnswer}}
use Rattle.cacache_disk.specs.{declared.{luck.Luck.{Luck}, node.Node.{Node, TheVariants.{Folder, File}}}, Tree.{Tree, bytes_of, look, Rooted, is_folder}, LedTo.{leads, file_at, followed, place, standing}, Apply.{apply}}
use Rattle.cacache_disk.proofs.{KeptFolders.{steps_keep_rooted}, Standing.{upper_folder, way_clear}}
use Rattle.cacache_value.specs.{Kinds.{Content, Temporary, path_kind}, Placed.{MayStand, Placed, Proper}, Acts.{IsTrace, Move}, Shows.{blob_bytes, link_end}, Value.{AtLink, value_of_tree}}
use Rattle.cacache_loss.specs.{ChangedNames.{opening}, declared.fixing.{Fixing.{Fixing}, Place.{Place}}, Fixing.{Fixed, file_synced, fixed_after, folder_synced, is_at, is_child_of, is_sync, is_synced, moved_to, moves_file, name_after, place_now, temp_synced}, Loss.{Loss, lead_folders, left_at, node_left}, LostTrees.{OfCache, StoodWell}, Moments.{EachMove, Moment, after, lost_then, next}, Syncs.{Leaves, LeavesStep}, LostValues.{HoldsContent, LeftOf}}
use Rattle.cacache_loss.proofs.{KeptPaths.{cache_next, cond_none, cond_whole, sync_tree}, SyncedFolders.{left_firm}, Reaching.{at_false, file_kept, moved_false, name_kept}, LostTrees.{losses_leave_trees}}
use Rattle.cacache_calls.specs.declared.command.Put.{Put}
use Rattle.cacache_history.specs.{declared.record.Record.{Record, TheVariants.{Moved}}, AddedEntries.{address_of_put}, History.{History, IsLegal, initial}, LinkedContents.{StaysHeld}, Setup.{home}, Values.{steps_of}, durable.{QuietMoves.{FewCalls}, Outlasting.{AnsweredPut, FoundLink, moment_at}}}
use Rattle.cacache_history.proofs.{Contents.{Digests.{digest_hash}, LinkedContents.{links_are_right}}, durable.{Outlasting.{entries_have_behind, puts_or_links_outlast}, Traces.{made_move, of_cache_at, trace_at, tree_at}}}
use Rattle.cacache_laws.specs.results.FoundLinks.{GivesDigest, HistoriesKeepLinks, LeadsUnchanged, PutsOrLinksGive, StaysUnchanged, UnchangedFilesStay}
use Rattle.cacache_laws.proofs.results.OutsideSteps.{links_lead_unchanged}

module _ (home : Option Names) (path : Names) (bytes : List ℕ) where
  -- no name on the way to the path changed since its folder was synced, nor the path's own
  abbrev Firm : Fixed → Type 0
  Firm fixed = (p rest : Names) → p ++ rest ≡ path → fixed.names p ≡ None

  -- the file is there, and all of it is synced
  abbrev Stands : Tree → Fixed → Type 0
  Stands t fixed = (look t path ≡ Some (File bytes)) × ((fixed.files path).whole ≡ true) × Firm fixed

  abbrev pub Holds : Moment → Type 0
  Holds w = OfCache home w × Stands w.tree w.fixed

  -- ---- a step

  module _ (t : Tree) (fixed : Fixed) (placed : Placed home t) (rooted : Rooted t) (now : Stands t fixed) where
    folder_at : (new : Tree) → Rooted new → look new path ≡ Some (File bytes) → (p rest : Names) (name : List ℕ) → p ++ name ∷ rest ≡ path → look new p ≡ Some Folder
    folder_at new rooted_new there p rest name e = upper_folder new p rest name (File bytes) rooted_new (ap (look new) e ∙ there)

    -- no file moves to a folder
    not_moved : (step : PlainStep) (answer : PlainAnswer) (p : Names) → Proper home step → look t p ≡ Some Folder → moved_to (moves_file step answer) p ≡ false
    not_moved (Persist f to) answer p is folder =
        let may : MayStand home (Some Folder) (path_kind home p) = subst (λ here. MayStand home here (path_kind home p)) folder (placed p) in
        moved_false (Persist f to) answer p (
          at_false home Temporary (path_kind home p) p (names_of f.path) is.0 refl (λ e. subst (MayStand home (Some Folder)) e may),
          at_false home Content (path_kind home p) p (names_of to) is.1 refl (λ e. subst (MayStand home (Some Folder)) e may),
        )
    not_moved step answer p is folder = refl

    sync_stands : (b : Bool) (later : Fixed) → ((fixed.files path).whole ≡ true → (later.files path).whole ≡ true) → Firm later → Stands t (cond b later fixed)
    sync_stands true later whole firm = (now.0, whole now.1, firm)
    sync_stands false later whole firm = now

    by_sync : (step : PlainStep) (luck : Luck) (b : Bool) (later : Fixed) → is_sync step ≡ true → Stands t (cond b later fixed) → Stands (apply t step luck).1 (cond b later fixed)
    by_sync step luck b later is stands = subst (λ new. Stands new (cond b later fixed)) (sym (sync_tree t step luck is)) stands

    -- a name on the way, if the file is there before and after
    named_on : (new : Tree) → Rooted new → (step : PlainStep) (answer : PlainAnswer) → Proper home step → look new path ≡ Some (File bytes) → moved_to (moves_file step answer) path ≡ false
        → (p rest : Names) → p ++ rest ≡ path → name_after fixed t new step answer p ≡ None
    named_on new rooted_new step answer is there unmoved p [] e =
        let same : p ≡ path = sym (append-nil p) ∙ e in
        name_kept fixed t new step answer p (Some (File bytes)) (ap (look t) same ∙ now.0) (ap (look new) same ∙ there) (ap (moved_to (moves_file step answer)) same ∙ unmoved)
        ∙ now.2 p [] e
    named_on new rooted_new step answer is there unmoved p (name ∷ rest) e = search (rules, name_kept, folder_at, not_moved)

    stands_on : (step : PlainStep) (luck : Luck) (answer : PlainAnswer) → Proper home step → LeavesStep path (record { tree = t; fixed = fixed }) step (apply t step luck).1 answer
        → Stands (apply t step luck).1 (fixed_after fixed t (apply t step luck).1 step answer)
    stands_on (SyncTemp f) luck answer is leaves = search (rules, by_sync, sync_stands, cond_whole)
    stands_on (SyncFile p) luck answer is leaves = search (rules, by_sync, sync_stands, cond_whole)
    stands_on (SyncDir p) luck answer is leaves =
        by_sync (SyncDir p) luck (is_synced answer) (folder_synced fixed p) refl
        (sync_stands (is_synced answer) (folder_synced fixed p) (λ whole. whole) (λ q rest e. cond_none (is_child_of (names_of p) q) (fixed.names q) (now.2 q rest e)))
    stands_on step luck answer is leaves =
        let new = (apply t step luck).1 in
        let there : look new path ≡ Some (File bytes) = leaves.0 ∙ now.0 in (
          there,
          ap (λ (f : Fixing). f.whole) (file_kept fixed t new step answer path (Some (File bytes)) now.0 there leaves.3 leaves.2 leaves.1) ∙ now.1,
          λ p rest e. named_on new (steps_keep_rooted t step luck rooted) step answer is there leaves.3 p rest e,
        )

  holds_next : (w : Moment) (m : Move) → Holds w → Proper home m.step → Leaves path w m → Holds (next w m)
  holds_next w m h is leaves = (cache_next home w m h.0 is, stands_on w.tree w.fixed h.0.0 h.0.1 h.1 m.step m.luck m.answer is leaves)

  pub holds_after : (w : Moment) (moves : List Move) → Holds w → IsTrace home w.tree moves → EachMove (Leaves path) w moves → Holds (after w moves)
  holds_after w [] h trace leaves = h
  holds_after w (m ∷ moves) h trace leaves = holds_after (next w m) moves (holds_next w m h trace.0 leaves.0) trace.2 leaves.1

  -- if all is fixed
  pub holds_first : (t : Tree) → Placed home t → Rooted t → look t path ≡ Some (File bytes) → Holds (opening t)
  holds_first t placed rooted there = ((placed, rooted), (there, refl, λ p rest e. refl))

  -- ---- a loss

  whole_left : (f : Fixing) (tail : List ℕ) (here : Option Node) → here ≡ Some (File bytes) → f.whole ≡ true → node_left f tail here ≡ Some (File bytes)
  whole_left f tail here is whole = rw (is, whole) refl

  module _ (w : Moment) (loss : Loss) (h : Holds w) where
    abbrev left : Names → Place
    left = left_at home w.tree w.fixed loss

    firm : (p rest : Names) → p ++ rest ≡ path → left p ≡ place_now w.tree w.fixed p
    firm p rest e = left_firm home w.tree w.fixed loss p (inr (h.1.2 p rest e))

    left_folder : (p rest : Names) (name : List ℕ) → p ++ name ∷ rest ≡ path → is_folder (left p).node ≡ true
    left_folder p rest name e = search (rules, firm, upper_folder)

    led : (p rest : Names) → p ++ rest ≡ path → lead_folders left p rest ≡ true
    led p [] e = refl
    led p (name ∷ rest) e = rw (left_folder p rest name e) (led (p ++ name ∷ []) rest (append_assoc p (name ∷ []) rest ∙ e))

    pub file_left : lost_then home w loss path ≡ Some (File bytes)
    file_left =
        ap (λ b. cond b (node_left (left path).fixing (loss.tail path) (left path).node) None) (led [] path refl)
        ∙ ap (λ (place : Place). node_left place.fixing (loss.tail path) place.node) (firm path [] (append-nil path))
        ∙ whole_left (w.fixed.files path) (loss.tail path) (look w.tree path) h.1.0 h.1.1

-- ---- files that no step changed

module _ (h : History) (legal : IsLegal h) where
  each_front : (at : Names) (w : Moment) (more later : List Record) → EachMove (Leaves at) w (steps_of (more ++ later)) → EachMove (Leaves at) w (steps_of more)
  each_front at w [] later leaves = tt
  each_front at w (Moved caller luck (Some made) reply ∷ more) later leaves = (leaves.0, each_front at (next w (made_move luck made)) more later leaves.1)
  each_front at w (r ∷ more) later leaves = each_front at w more later leaves

  trace_front : (t : Tree) (more later : List Record) → IsTrace (home h.setup) t (steps_of (more ++ later)) → IsTrace (home h.setup) t (steps_of more)
  trace_front t [] later trace = tt
  trace_front t (Moved caller luck (Some made) reply ∷ more) later trace = (trace.0, trace.1, trace_front (apply t made.0 luck).1 more later trace.2)
  trace_front t (r ∷ more) later trace = trace_front t more later trace

  module _ (target bytes : List ℕ) (file : StaysUnchanged h target bytes) where
    -- at each place it is there, all of it synced
    stands : (before later : List Record) → h.records ≡ before ++ later → Holds (home h.setup) file.path bytes (moment_at h before)
    stands before later is =
        let first = (of_cache_at h legal [] h.records refl).0 in
        holds_after (home h.setup) file.path bytes (moment_at h []) (steps_of before)
        (holds_first (home h.setup) file.path bytes (initial h.setup).tree first.0 first.1 file.first)
        (trace_front (moment_at h []).tree before later (subst (λ records. IsTrace (home h.setup) (moment_at h []).tree (steps_of records)) is (trace_at h legal [] h.records refl)))
        (each_front file.path (moment_at h []) before later (subst (λ records. EachMove (Leaves file.path) (moment_at h []) (steps_of records)) is file.leaves))

    file_read : (t : Tree) → Rooted t → look t file.path ≡ Some (File bytes) → file_at t target IsADirectory ≡ Ok bytes
    unfolding file_at leads place followed
    file_read t rooted there = rw (file.named, way_clear t [] file.path (File bytes) rooted there, there, there) refl

    stays_held : StaysHeld h target bytes
    stays_held before later is =
        let s = stands before later is in
        subst (λ t. file_at t target IsADirectory ≡ Ok bytes) (tree_at h before) (file_read (moment_at h before).tree s.0.1 s.1.0)

    link_read : (t : Tree) → Rooted t → look t file.path ≡ Some (File bytes) → blob_bytes t (Some (AtLink target)) ≡ Ok bytes
    unfolding link_end standing place followed
    link_read t rooted there = rw (file.named, way_clear t [] file.path (File bytes) rooted there, there, there, there) refl

    at_end : Holds (home h.setup) file.path bytes (moment_at h h.records)
    at_end = stands h.records [] (sym (append-nil h.records))

    module _ (folder : Names) (home_is : home h.setup ≡ Some folder) (loss : Loss) (left : Tree) (left_of : LeftOf folder (moment_at h h.records) loss left) where
      pub unchanged_left : look left file.path ≡ Some (File bytes)
      unchanged_left =
          let now = moment_at h h.records in
          left_of file.path ∙ file_left (Some folder) file.path bytes now loss (subst (λ home. Holds home file.path bytes now) home_is at_end)

      rooted_left : Rooted left
      rooted_left =
          let now = moment_at h h.records in
          let of_cache : OfCache (Some folder) now × StoodWell (Some folder) now.fixed
          = subst (λ home. OfCache home now × StoodWell home now.fixed) home_is (of_cache_at h legal h.records [] (sym (append-nil h.records))) in
          (losses_leave_trees (Some folder) now loss left of_cache.0 of_cache.1 left_of).1

      pub unchanged_read : blob_bytes left (Some (AtLink target)) ≡ Ok bytes
      unchanged_read = link_read left rooted_left unchanged_left

-- ---- the laws

module _ (h : History) (legal : IsLegal h) where
  unchanged_files_stay : UnchangedFilesStay h
  unchanged_files_stay folder target bytes loss left home_is file left_of = unchanged_left h legal target bytes file folder home_is loss left left_of

  gives : (folder : Names) (p : Put) (loss : Loss) (left : Tree) → home h.setup ≡ Some folder → (put : AnsweredPut h folder p) → LeftOf folder (moment_at h h.records) loss left
      → LeadsUnchanged h put.before (address_of_put p)
      → HoldsContent (address_of_put p) (value_of_tree (Some folder) left) ⊎ FoundLink h put.before put.rest put.call.caller (address_of_put p) (value_of_tree (Some folder) left)
      → GivesDigest folder (address_of_put p) left
  gives folder p loss left home_is put left_of unchanged (inl content) = (content.0, content.2, ap (blob_bytes left) content.1)
  gives folder p loss left home_is put left_of unchanged (inr link) =
      let u = unchanged link.1.target link.1.was in (
        u.0,
        links_are_right h legal link.1.target u.0 (stays_held h legal link.1.target u.0 u.1) put.before put.rest put.is (address_of_put p) (digest_hash p.options.algorithm p.data) link.1.was,
        ap (blob_bytes left) link.1.is ∙ unchanged_read h legal link.1.target u.0 u.1 folder home_is loss left left_of,
      )

  puts_or_links_give : FewCalls h → PutsOrLinksGive h
  puts_or_links_give few folder p loss left home_is put left_of unchanged =
      gives folder p loss left home_is put left_of unchanged (puts_or_links_outlast h legal few folder p loss left home_is put left_of).0

pub histories_keep_links : HistoriesKeepLinks
histories_keep_links h legal = search (rules, puts_or_links_outlast, entries_have_behind, unchanged_files_stay, links_lead_unchanged, gives, puts_or_links_give)
