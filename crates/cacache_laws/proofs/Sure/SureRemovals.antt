-- A full removal of a key in which all steps succeed.
-- A clearing in which all steps succeed.
use Rattle.std.proofs.{lemmas.{Grind.{common_steps}, List.Elements.{All-head}}, Common.{◌≡◌, ℕ, false, cond, List, [], ◌∷◌, ◌++◌, Option, None, Some, Ok, refl, sym, ap, subst, ◌∙◌, arith, ◌⊎◌, inl, inr, Bool, true, append-nil}}
use Rattle.sha1.specs.Sha1.{sha1}
use Rattle.cacache_core.specs.{declared.{errors.Error.TheVariants.{IoError, OutOfMemory}, integrity.digest.Hash.{Hash}}, Integrity.{IsHash, IsIntegrity, address}, Paths.{Names, names_of, home_of, bucket_names, content_names}}
use Rattle.cacache_core.proofs.ProperNames.{not_true}
use Rattle.cacache_disk.specs.{declared.{luck.Luck.TheVariants.{Plain}, node.Node.{Node, TheVariants.{Folder, File, Link}}}, Tree.{Tree, look, cut, same_path, listing, kind_of, Rooted}, LedTo.{removable, folder}, Apply.{apply}, Replay.{tree_of}}
use Rattle.cacache_disk.proofs.{Maps.{same_path-true}, PutNodes.{look-cut}}
use Rattle.cacache_entry.specs.Bucket.{Found, latest}
use Rattle.cacache_calls.specs.{declared.{carried.Lookup.{Lookup}, reply.Reply.{Reply, TheVariants.{Done, Refused}}}, Reading.{found_for}, Removing.{remove_bucket, remove_content}, Replies.{OrMemory}, State.{doing, over, remove}, Steps.{bucket_path}, Table.{opening}, Walking.{walk}}
use Rattle.cacache_value.specs.{Acts.{list_of}, Kinds.{Bucket, Content, path_kind, is_used, Way, Stray, node_below}, Placed.{MayStand}, Value.{bucket_in, value_of_tree}}
use Rattle.cacache_value.proofs.{Applying.{suits}, PathKinds.{kind-below}}
use Rattle.cacache_history.{specs.Turns.{blob_at}, proofs.{Entries.Spelled.{HasIntegrity, latest_has}, Listings.ToldFolders.{Told, listing_told}, Each.{Each}}}
use Rattle.cacache_laws.specs.{ReadAnswers.{entries_on}, Succeeds.{removal_reply, fully_reply, FullRemovalsAnswer, Clears, ClearingsAnswer}, Sequence.{tree_on}, trees.Idle.{BreaksOff}}
use Rattle.cacache_laws.proofs.{Readings.Standing.{caches_stand}, Sure.{Succeeds.{back, ground}, SureInserts.{bucket_lies}, SureTemps.{content_lies}, SureReads.{looks_so, removes_so}, SureRuns.{EndsSo, ends, goes, of_log, Ground, Lies, Reached, arrives, missing, place_at, reached}, SureLists.{no_folder}}, trees.{Covering.{home_named}, Twins.Cleared.{Cleared, IsFolderName, cleared, kept, swept}}}
use Rattle.cacache_store.specs.declared.store.answer.Name.{Name}
use Rattle.cacache_core.specs.declared.errors.Fault.TheVariants as faults
use Rattle.cacache_store.specs.declared.store.step.Step.TheVariants as steps
use Rattle.cacache_store.specs.declared.store.answer.Answer.TheVariants as answers
use Rattle.cacache_calls.specs.declared.carried.Aim.TheVariants as aims
use Rattle.cacache_calls.specs.declared.command.Command.TheVariants as commands
use Rattle.cacache_store.specs.declared.store.answer.Kind.TheVariants as kinds

-- ---- a bucket

no_bucket : (t : Tree) (p : List ℕ) (names : Names) → look t names ≡ None → Reached t p names → apply t (steps.RemoveFile p) Plain ≡ (answers.Failed faults.NotFound, t)
unfolding apply removable
no_bucket t p names e h = grind (arith, arrives, missing)

file_goes : (t : Tree) (p : List ℕ) (names : Names) (bytes : List ℕ) → Rooted t → names_of p ≡ Ok names → look t names ≡ Some (File bytes) → apply t (steps.RemoveFile p) Plain ≡ (answers.Done, cut t names)
unfolding apply removable
file_goes t p names bytes rooted is e = rw (place_at t p names (File bytes) rooted is e, e) refl

module _ (Q : Tree → Reply → Type 0) (cache : List ℕ) (home : Names) (is : names_of cache ≡ Ok home) (key : List ℕ) (t : Tree) (g : Ground home t) where
  abbrev names : Names
  names = home ++ bucket_names key

  lies : Lies home (bucket_path cache key) (bucket_names key) Bucket
  lies = bucket_lies cache home (home_named cache home is) key

  bucket_there : (bytes : List ℕ) → look t names ≡ Some (File bytes) → Q (cut t names) Done → EndsSo Q t (remove_bucket cache key)
  bucket_there bytes e q =
      goes Q t (cut t names) (doing (remove (bucket_path cache key)) (over Done)) (steps.RemoveFile (bucket_path cache key)) answers.Done refl
      (file_goes t (bucket_path cache key) names bytes g.rooted lies.named e) (ends Q (cut t names) Done q)

  bucket_missing : look t names ≡ None → Q t (Refused (IoError faults.NotFound [])) → EndsSo Q t (remove_bucket cache key)
  bucket_missing e q =
      goes Q t t (doing (remove (bucket_path cache key)) (over Done)) (steps.RemoveFile (bucket_path cache key)) (answers.Failed faults.NotFound) refl
      (no_bucket t (bucket_path cache key) names e (reached home t (bucket_path cache key) names g lies.named (ap is_used lies.kind) (look t names) refl))
      (ends Q t (Refused (IoError faults.NotFound [])) q)

-- ---- a key

module _ (cache : List ℕ) (home : Names) (is : names_of cache ≡ Ok home) (key : List ℕ) (t : Tree) (g : Ground home t) where
  abbrev bucket : Option Node
  bucket = look t (home ++ bucket_names key)

  -- the entry that the key leads to
  abbrev pub led_by : Option Found
  led_by = latest key (entries_on (Some home) t key)

  kept_bucket : (h : Hash) (hs : List Hash) → IsHash h → (node : Node) → bucket ≡ Some node → look (cut t (home ++ content_names h)) (home ++ bucket_names key) ≡ Some node
  kept_bucket h hs hash node e =
      let here = bucket_lies cache home (home_named cache home is) key in
      let there = content_lies cache home (home_named cache home is) h hs hash in
      let apart : same_path (home ++ bucket_names key) (home ++ content_names h) ≡ false
      = not_true (same_path (home ++ bucket_names key) (home ++ content_names h))
      (λ s. let differ : Bucket ≡ Content = sym here.kind ∙ ap (path_kind (Some home)) (same_path-true (home ++ bucket_names key) (home ++ content_names h) s) ∙ there.kind in absurd cc) in
      look-cut t (home ++ content_names h) (home ++ bucket_names key) ∙ ap (λ b. cond b None (look t (home ++ bucket_names key))) apart ∙ e

  by_content : (found : Found) (i : List Hash) → found.integrity ≡ i → IsIntegrity i → (bytes : List ℕ) → bucket ≡ Some (File bytes)
      → EndsSo (λ _ x. x ≡ removal_reply (blob_at (value_of_tree (Some home) t) (address i))) t (remove_content cache i (remove_bucket cache key))
  by_content found [] same formed bytes e = absurd (omega (arith, formed.nonempty))
  by_content found (h ∷ hs) same formed bytes e =
      let hash = All-head IsHash h hs formed.hashes in
      let Q : Tree → Reply → Type 0 = λ _ x. x ≡ removal_reply (blob_at (value_of_tree (Some home) t) (address (h ∷ hs))) in
      removes_so Q home t g cache (home_named cache home is) h hs hash (remove_bucket cache key)
      (λ b there rest.
      bucket_there Q cache home is key (cut t (home ++ content_names h)) rest bytes (kept_bucket h hs hash (File bytes) e) (sym (ap removal_reply there)))
      (λ none. sym (ap removal_reply none))

  by_found : (here : Option Node) → bucket ≡ here → MayStand (Some home) here Bucket → (found : Option Found) → led_by ≡ found → HasIntegrity found
      → EndsSo (λ _ x. x ≡ fully_reply (Some home) t key found) t (found_for (record { cache = cache; key = key; aim = aims.Remove }) aims.Remove found)
  by_found None e s None led has =
      let Q : Tree → Reply → Type 0 = λ _ x. x ≡ removal_reply ((value_of_tree (Some home) t).buckets (sha1 key)) in
      bucket_missing Q cache home is key t g e (sym (ap (λ n. removal_reply (bucket_in n)) e))
  by_found (Some (File bytes)) e s None led has =
      let Q : Tree → Reply → Type 0 = λ _ x. x ≡ removal_reply ((value_of_tree (Some home) t).buckets (sha1 key)) in
      bucket_there Q cache home is key t g bytes e (sym (ap (λ n. removal_reply (bucket_in n)) e))
  by_found None e s (Some found) led has =
      let none : led_by ≡ None = ap (λ n. latest key (list_of (bucket_in n))) e in
      let differ : Some found ≡ None = sym led ∙ none in absurd cc
  by_found (Some (File bytes)) e s (Some found) led has = by_content found found.integrity refl has bytes e
  by_found here e s found led has = absurd s

  pub fully_ends : HasIntegrity led_by → EndsSo (λ _ x. x ≡ fully_reply (Some home) t key led_by) t (found_for (record { cache = cache; key = key; aim = aims.Remove }) aims.Remove led_by)
  fully_ends has = by_found bucket refl (suits (Some home) t (home ++ bucket_names key) Bucket (bucket_lies cache home (home_named cache home is) key).kind g.placed) led_by refl has

pub full_removals_answer : FullRemovalsAnswer
full_removals_answer cache key r old new folder sound c =
    let home = folder.0 in
    let t = tree_of old in
    let g = ground cache old home folder.1 (caches_stand cache old sound) in
    let formed : HasIntegrity (latest key (entries_on (home_of cache) t key)) = latest_has key (entries_on (home_of cache) t key) (sound.formed (sha1 key)) in
    let has = subst (λ h. HasIntegrity (latest key (entries_on h (tree_of old) key))) (home_named cache home folder.1) formed in
    let Q : Tree → Reply → Type 0 = λ _ x. x ≡ fully_reply (Some home) (tree_of old) key (latest key (entries_on (Some home) (tree_of old) key)) in
    let l : Lookup = record { cache = cache; key = key; aim = aims.Remove } in
    back cache home folder.1 (λ h. OrMemory (r ≡ fully_reply h (tree_of old) key (latest key (entries_on h (tree_of old) key))) r)
    (of_log Q (opening (record { cache = cache; base = c.base; number = c.number }) (commands.RemoveFully key)) r old new
    (looks_so Q home t g l (home_named cache home folder.1) (fully_ends cache home folder.1 key t g has)) c.ran c.logged)

-- ---- how it ends

-- memory ended it, or it came to too many levels or names
abbrev Broken : Reply → Type 0
Broken r = BreaksOff commands.Clear r

broken_or_not : (r : Reply) → Broken r ⊎ (Broken r → ⊥)
broken_or_not (Refused OutOfMemory) = inl (inl refl)
broken_or_not (Refused (IoError faults.TooDeep [])) = inl (inr refl)
broken_or_not r = inr (λ b. elim b [ inl e ↦ cc | inr e ↦ cc ])

-- how a clearing of a folder that is there may end
abbrev Ended : Reply → Type 0
Ended r = (r ≡ Done) ⊎ (r ≡ Refused (IoError faults.TooDeep []))

-- if folders alone are in it
ends_cleared : (cache : List ℕ) (t : Tree) (home : Names) (r : Reply) (new : Tree) → names_of cache ≡ Ok home → look t home ≡ Some Folder → Each IsFolderName (listing t home) → Cleared r cache t new → Ended r
ends_cleared cache t home r new is there folders h = grind (arith, swept, kept)

-- in a cache's folder are folders alone
no_file : (home : Option Names) (bytes : List ℕ) (b c d : Bool) → MayStand home (Some (File bytes)) (cond b Way (cond c Way (cond d Way Stray))) → ⊥
no_file home bytes b c d s = grind (arith, common_steps)

no_link : (home : Option Names) (target : List ℕ) (b c d : Bool) → MayStand home (Some (Link target)) (cond b Way (cond c Way (cond d Way Stray))) → ⊥
no_link home target b c d s = grind (arith, common_steps)

module _ (home : Names) (t : Tree) (g : Ground home t) where
  folder_name : (name : List ℕ) (node : Node) → look t (home ++ name ∷ []) ≡ Some node → kind_of node ≡ kinds.Folder
  folder_name name node e = grind (arith, no_file, suits, kind-below, no_link)

  folder_names : (ns : List Name) → Each (Told t home) ns → Each IsFolderName ns
  folder_names [] told = tt
  folder_names (n ∷ ns) told = (told.0.kind ∙ folder_name n.name told.0.node told.0.stands, folder_names ns told.1)

  home_way : (home : Names) → path_kind (Some home) home ≡ Way
  home_way home = ap (path_kind (Some home)) (sym (append-nil home)) ∙ kind-below home []

  by_folder : (cache : List ℕ) → names_of cache ≡ Ok home → (here : Option Node) → look t home ≡ here → MayStand (Some home) here Way → EndsSo (λ _ r. Clears here r) t (walk true cache)
  by_folder cache is None e s =
      let Q : Tree → Reply → Type 0 = λ _ r. r ≡ Refused (IoError faults.NotFound []) in
      goes Q t t (walk true cache) (steps.ReadDir cache) (answers.Failed faults.NotFound) refl
      (no_folder t cache home e (reached home t cache home g is (ap is_used (home_way home)) (look t home) refl))
      (ends Q t (Refused (IoError faults.NotFound [])) refl)
  by_folder cache is (Some Folder) e s = λ moves r run answered.
      elim (broken_or_not r) [
        | inl broken ↦ elim broken [ inl memory ↦ inl memory | inr deep ↦ inr (inr deep) ]
        | inr whole ↦
            inr
            (ends_cleared cache t home r (tree_on t moves) is e (folder_names (listing t home) (listing_told t home))
            (cleared r whole cache t g.rooted (record { moves = moves; run = run; answered = answered })))
      ]
  by_folder cache is other e s = absurd s

  pub clears_so : (cache : List ℕ) → names_of cache ≡ Ok home → EndsSo (λ _ r. Clears (look t home) r) t (walk true cache)
  clears_so cache is = by_folder cache is (look t home) refl (suits (Some home) t home Way (home_way home) g.placed)

pub clearings_answer : ClearingsAnswer
clearings_answer cache r old new folder standing c =
    let home = folder.0 in
    let t = tree_of old in
    let here : look t (home ++ []) ≡ look t home = ap (look t) (append-nil home) in
    back cache home folder.1 (λ h. OrMemory (Clears (node_below h (tree_of old) []) r) r)
    (subst (λ n. OrMemory (Clears n r) r) (sym here)
    (of_log (λ _ x. Clears (look t home) x) (opening (record { cache = cache; base = c.base; number = c.number }) commands.Clear) r old new
    (clears_so home t (ground cache old home folder.1 standing) cache folder.1) c.ran c.logged))
