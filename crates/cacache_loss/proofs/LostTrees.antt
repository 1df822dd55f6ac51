-- What a loss leaves of a cache's tree is a cache's tree again, and what a cache holds in it.
use Rattle.std.proofs.{lemmas.{Grind.{common_steps}, Bool.{and_parts}}, Common.{rules, arith, ◌≡◌, inl, inr, Bool, true, false, cond, List, [], ◌∷◌, ◌++◌, Option, None, Some, refl, sym, ap, ◌∙◌, append_assoc, append-nil}}
use Rattle.std.specs.Prelude.{ℕ, IfSome, unwrap_or}
use Rattle.cacache_core.specs.Paths.{Names, content_names}
use Rattle.cacache_store.specs.{declared.store.step.Step.TheVariants.{SyncTemp, SyncFile, SyncDir}, Plain.{PlainStep, PlainAnswer}}
use Rattle.cacache_disk.{specs.{declared.node.Node.{Node, TheVariants.{Folder, File}}, Tree.{is_folder, StandsIn, Rooted, Tree, look, bytes_of}}, proofs.Standing.{upper_folder}}
use Rattle.cacache_value.specs.{Kinds.{PathKind}, Placed.{MayStand}, Value.{blob_in}}
use Rattle.cacache_loss.specs.{Fixing.{Fixed, Fixing, Place, all_fixed, file_synced, fixed_after, is_synced, place_now, renamed, synced, temp_synced}, Loss.{Loss, lead_folders, left_at, lost_at, node_left}, Moments.{Moment, lost_then, next}, LostTrees.{FixedTreesStay, LossesLeaveTrees, MomentsFollowTrees, MovesKeepMoments, OfCache, OpeningsStandWell, StoodWell, Suits}, LossLaws.{HasDigest}, LostValues.{ContentsAreHeld, EntriesAreHeld}}
use Rattle.cacache_loss.proofs.{KeptPaths.{cache_next, none_cond}, SyncedFolders.{left_firm, top_stays}, Contents.{good_file}}

pub moments_follow_trees : MomentsFollowTrees
moments_follow_trees w [] = refl
moments_follow_trees w (m ∷ moves) = moments_follow_trees (next w m) moves

-- ---- what was at names that changed

-- what was at one name suited it
abbrev Stood : Option Names → Names → Option Place → Type 0
Stood home q o = IfSome o (λ place. Suits home q place.node)

renamed_well : (home : Option Names) (q : Names) (b : Bool) (now : Place) (before : Option Place) → Suits home q now.node → Stood home q before → Stood home q (renamed b now before)
renamed_well home q b now before s stood = grind (arith, common_steps)

cond_well : (home : Option Names) (q : Names) (b : Bool) (o : Option Place) → Stood home q o → Stood home q (cond b None o)
cond_well home q b o stood = grind (arith, common_steps)

synced_well : (home : Option Names) (b : Bool) (later fixed : Fixed) → StoodWell home later → StoodWell home fixed → StoodWell home (cond b later fixed)
synced_well home b later fixed new old = grind (arith, common_steps)

now_suits : (home : Option Names) (w : Moment) (q : Names) → OfCache home w → Suits home q (look w.tree q)
now_suits home w q of_cache = (of_cache.0 q, of_cache.1.proper q)

stood_next : (home : Option Names) (w : Moment) (step : PlainStep) (new : Tree) (answer : PlainAnswer) → OfCache home w → StoodWell home w.fixed
    → StoodWell home (fixed_after w.fixed w.tree new step answer)
stood_next home w (SyncTemp f) new answer of_cache stood = synced_well home (is_synced answer) (temp_synced w.fixed f) w.fixed stood stood
stood_next home w (SyncFile p) new answer of_cache stood = synced_well home (is_synced answer) (file_synced w.fixed w.tree p) w.fixed stood stood
stood_next home w (SyncDir p) new answer of_cache stood = search (rules, synced_well, cond_well)
stood_next home w step new answer of_cache stood = λ q. renamed_well home q _ (place_now w.tree w.fixed q) (w.fixed.names q) (now_suits home w q of_cache) (stood q)

pub moves_keep_moments : MovesKeepMoments
moves_keep_moments home w [] of_cache stood trace = (of_cache, stood)
moves_keep_moments home w (m ∷ moves) of_cache stood trace =
    moves_keep_moments home (next w m) moves (cache_next home w m of_cache trace.0) (stood_next home w m.step (next w m).tree m.answer of_cache stood) trace.2

-- ---- a node that is left is allowed at its path, as the old one was

file_may : (home : Option Names) (old new : List ℕ) (k : PathKind) → MayStand home (Some (File old)) k → MayStand home (Some (File new)) k
file_may home old new k may = grind (arith, common_steps)

left_suits : (home : Option Names) (q : Names) (f : Fixing) (tail : List ℕ) (here : Option Node) → Suits home q here → Suits home q (node_left f tail here)
left_suits home q f tail here s = grind (arith, file_may)

place_suits : (home : Option Names) (q : Names) (b : Bool) (o : Option Place) (now : Place) → Suits home q now.node → Stood home q o
    → Suits home q (cond b (unwrap_or o now) now).node
place_suits home q b o now s stood = grind (arith, common_steps)

cond_suits : (home : Option Names) (q : Names) (b : Bool) (here : Option Node) → Suits home q here → Suits home q (cond b here None)
cond_suits home q b here s = grind (arith, common_steps)

-- ---- and in a folder

leads_above : (left : Names → Place) (above path : Names) (name : List ℕ) → lead_folders left above (path ++ name ∷ []) ≡ true
    → (lead_folders left above path ≡ true) × (is_folder (left (above ++ path)).node ≡ true)
leads_above left above [] name e = (refl, ap (λ q. is_folder (left q).node) (append-nil above) ∙ (and_parts (is_folder (left above).node) true e).0)
leads_above left above (n ∷ path) name e =
    let both = and_parts (is_folder (left above).node) (lead_folders left (above ++ n ∷ []) (path ++ name ∷ [])) e in
    let further = leads_above left (above ++ n ∷ []) path name both.1 in
    (rw (both.0, further.0) refl, ap (λ q. is_folder (left q).node) (sym (append_assoc above (n ∷ []) path)) ∙ further.1)

folder_left : (f : Fixing) (tail : List ℕ) (here : Option Node) → is_folder here ≡ true → node_left f tail here ≡ Some Folder
folder_left f tail here e = grind (arith, common_steps)

whatever : {A : Type 0} (P : Type 0) (o : Option A) → P → IfSome o (λ a. P)
whatever P o p = grind (arith, common_steps)

module _ (home : Option Names) (w : Moment) (loss : Loss) (of_cache : OfCache home w) (stood : StoodWell home w.fixed) where
  abbrev left : Names → Place
  left = left_at home w.tree w.fixed loss

  lost_suits : (q : Names) → Suits home q (lost_then home w loss q)
  lost_suits q = search (rules, cond_suits, left_suits, place_suits, now_suits)

  folder_there : (q : Names) → lead_folders left [] q ≡ true → is_folder (left q).node ≡ true → lost_then home w loss q ≡ Some Folder
  folder_there q leads is = search (rules, folder_left)

  stands_in : (above : Names) (name : List ℕ) (b : Bool) → lead_folders left [] (above ++ name ∷ []) ≡ b → (here : Option Node)
      → StandsIn (lost_then home w loss above) (cond b here None)
  stands_in above name false e here = tt
  stands_in above name true e here =
      let leads = leads_above left [] above name e in
      whatever (lost_then home w loss above ≡ Some Folder) here (folder_there above leads.0 leads.1)

  top_there : lost_then home w loss [] ≡ Some Folder
  top_there = folder_there [] refl (ap (λ (place : Place). is_folder place.node) (left_firm home w.tree w.fixed loss [] (inl (top_stays home))) ∙ ap is_folder of_cache.1.top)

pub losses_leave_trees : LossesLeaveTrees
losses_leave_trees home w loss new of_cache stood lost = search (rules, lost_suits, top_there, stands_in)

-- ---- a moment at which all is fixed

pub openings_stand_well : OpeningsStandWell
openings_stand_well home t q = tt

same_left : (t : Tree) (q : Names) (tail : List ℕ) (here : Option Node) → node_left (synced (bytes_of (look t q))) tail here ≡ here
same_left t q tail here = grind (arith, common_steps)

module _ (home : Option Names) (t : Tree) (loss : Loss) (rooted : Rooted t) where
  abbrev fixed_left : Names → Place
  fixed_left = left_at home t (all_fixed t) loss

  place_left : (q : Names) → fixed_left q ≡ place_now t (all_fixed t) q
  place_left q = left_firm home t (all_fixed t) loss q (inr refl)

  folders_lead : (above path : Names) (node : Node) → look t (above ++ path) ≡ Some node → lead_folders fixed_left above path ≡ true
  folders_lead above [] node there = refl
  folders_lead above (name ∷ path) node there =
      rw (ap (λ (place : Place). is_folder place.node) (place_left above) ∙ ap is_folder (upper_folder t above path name node rooted there))
      (folders_lead (above ++ name ∷ []) path node (ap (look t) (append_assoc above (name ∷ []) path) ∙ there))

  left_same : (q : Names) → node_left (fixed_left q).fixing (loss.tail q) (fixed_left q).node ≡ look t q
  left_same q = ap (λ (place : Place). node_left place.fixing (loss.tail q) place.node) (place_left q) ∙ same_left t q (loss.tail q) (look t q)

  stays_at : (q : Names) (here : Option Node) → look t q ≡ here → lost_at home t (all_fixed t) loss q ≡ here
  stays_at q None none = none_cond (lead_folders fixed_left [] q) (node_left (fixed_left q).fixing (loss.tail q) (fixed_left q).node) (left_same q ∙ none)
  stays_at q (Some node) there = ap (λ b. cond b (node_left (fixed_left q).fixing (loss.tail q) (fixed_left q).node) None) (folders_lead [] q node there) ∙ left_same q ∙ there

pub fixed_trees_stay : FixedTreesStay
fixed_trees_stay home t loss q rooted = stays_at home t loss rooted q (look t q) refl

-- ---- what a cache holds in the tree that a loss leaves

pub contents_are_held : ContentsAreHeld
contents_are_held home a w loss new lost good =
    let file = good_file (HasDigest a) (lost_then (Some home) w loss (home ++ content_names a)) good in
    (file.0, ap blob_in (lost (home ++ content_names a) ∙ file.1), file.2)

pub entries_are_held : EntriesAreHeld
entries_are_held home digest entries w loss new lost held = search rules
