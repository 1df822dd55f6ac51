-- The paths that calls read, link, sync and remove.
use Rattle.std.proofs.{lemmas.{Grind.{common_steps}, List.Elements.{All-head, All-tail, All-append, All-nil, All-cons, All-weaker}}, Common.{rules, ◌≡◌, ◌==◌, ◌<◌, ◌^◌, ◌+◌, ◌-◌, ℕ, zero, suc, Bool, true, false, cond, List, [], ◌∷◌, ◌++◌, Option, None, Some, Result, Ok, Err, length, take, nat_le, refl, sym, ap, subst, ◌∙◌, arith, append-nil, append_assoc}}
use Rattle.std.specs.Prelude.{All, IfOk, filter}
use Rattle.cacache_history.proofs.{StepActs.{sound_proper}, Listings.ListingWalks.{joined_more}, Entries.Spelled.{TreeFormed, HasIntegrity, latest_has}, Histories.ShownTurns.{bucket_below}, Contents.Digests.{digest_hash}}
use Rattle.cacache_history.specs.{Setup.{Setup, call_site, home, may_export, is_outside}, History.{NamesIntegrity}}
use Rattle.sha1.specs.Sha1.{sha1}
use Rattle.cacache_core.specs.{declared.{errors.Fault.{Fault}, integrity.{digest.Hash.{Hash}, algorithm.Algorithm.{Algorithm}}}, Integrity.{digest, IsHash, IsIntegrity, integrity_under, hash_of}, Paths.{Names, names_of, names_below, home_of, is_bad, is_name, pieces, IsProperName, join, joined, index_area, content_names, bucket_names, folders_to}}
use Rattle.cacache_core.proofs.{JoinedNames.{joined_texts_name}, PathLemmas.{keys_have_digests}, ProperNames.{names_are_proper}}
use Rattle.cacache_core.specs.declared.errors.Fault.TheVariants as faults
use Rattle.cacache_store.specs.{declared.store.{plain.{PlainFile.{PlainFile}, PlainTemp.{PlainTemp}}, answer.Name.{Name}}, Plain.{PlainStep, PlainAnswer, AreProperNames}}
use Rattle.cacache_store.specs.declared.store.step.Step.TheVariants as steps
use Rattle.cacache_entry.specs.{Bucket.{Found, entries_of}, FittingEntries.{IsEntry}}
use Rattle.cacache_calls.specs.{declared.{carried.{Aim.{Aim}, Commit.{Commit}, Content.{Content as Stored}, Lookup.{Lookup}}, command.{Command.{Command}, Export.{Export}, How.{How}}, reply.Reply.TheVariants.{Copied, Done, Listed}, target.Target.{Target}, visit.{Visit.{Visit, TheVariants.{Enter, ReadBucket, RemoveFile, RemoveFolder}}, Task.{Task, TheVariants.{Make, Stumble}}}}, Answers.{done_in, temp_in, synced_in, there_in, taken_in, bytes_in, file_in, got_in, length_in, names_in}, Common.{fails, go_on, sync_up}, Reading.{answer_there, answer_absent, export_from, export, copied_count, found_in, found_for, no_bucket}, Inserting.{insertion, deletion, recorded, insert, refused_cause}, Linking.{link_target, commit_for, hashed_path, after_size, after_read}, Sound.{SoundCommit, SoundTarget, Sound, MayBegin}, State.{State, doing, creating, writing, syncing, persisting, linking, confirming, appending, looking, reading, asking, sizing, opening_file, hashing, copying, walking, over, Site, Insertion, Item, Walk, Hashing, make_folder, remove, reflink, hard_link, sync_file, sync_dir}, Steps.{content_path, content_folders, bucket_path, bucket_folders}, Storing.{placed, secured, secured_found, write_rest}, Table.{wants, after, opening}, Walking.{EachVisit, most, failed, give, miss, walk_ends, walk_on, too_many, tasks_of, leaving, entered, unread_bucket}}
use Rattle.cacache_calls.proofs.{Keys.{MayMeet, each_append, each_name, each_leaving}, Going.{cond_leads, go_on_leads, moves_on, places, inserts}, Sound.{some_is}}
use Rattle.cacache_calls.specs.declared.command.Command.TheVariants as commands
use Rattle.cacache_calls.specs.declared.command.Source.TheVariants as sources
use Rattle.cacache_value.specs.{Kinds.{PathKind, Content, Bucket, Temporary, Way, Elsewhere, path_kind, kind_in_area, kind_below, is_used, IsFor}, Acts.{list_of}, Placed.{Placed, Proper, LieApart}, Shows.{ShowsBucket}, Value.{value_of_tree}}
use Rattle.cacache_value.proofs.{PathKinds.{above, kind-below, paths_are_for}, Shows.{trees_show}}
use Rattle.cacache_store.specs.declared.store.answer.Answer.TheVariants as answers
use Rattle.cacache_disk.specs.{declared.luck.Luck.{Luck}, Tree.{Tree, Rooted}, Apply.{apply}}
use Rattle.cacache_system_model.specs.callers.Storing.{IsNotFor, Stores}

-- ---- the folders that lead to a path are ways

abbrev AllWays : Option Names → List (List ℕ) → Type 0
AllWays h [] = Unit {0}
AllWays h (p ∷ ps) = IsFor h Way p × AllWays h ps

way_below : (h : Option Names) (front : Names) → kind_below front ≡ Way → IfOk (names_below h front) (λ names. path_kind h names ≡ Way)
way_below h front is = grind (arith, kind-below)

at_home : (b c : Bool) (all : Names) → IfOk (cond b (Err faults.NotFound) (cond c (Err faults.InvalidInput) (Ok all))) (λ names. path_kind (cond c None (Some all)) names ≡ Way)
at_home true c all = tt
at_home false true all = tt
at_home false false all = ap (path_kind (Some all)) (sym (append-nil all)) ∙ kind-below all []

own_way : (cache : List ℕ) → IsFor (home_of cache) Way cache
unfolding names_of home_of
own_way cache = at_home (length cache == 0) (is_bad cache) (filter is_name (pieces cache))

way_at : (cache : List ℕ) (front : Names) → All IsProperName front → kind_below front ≡ Way → IsFor (home_of cache) Way (joined cache front)
way_at cache front all is = grind (arith, own_way, joined_texts_name, way_below)

ways_from : (cache : List ℕ) (front ns : Names) → All IsProperName front → All IsProperName ns → is_used (kind_below (front ++ ns)) ≡ true → AllWays (home_of cache) (folders_to (joined cache front) ns)
ways_from cache front [] proper all used = tt
ways_from cache front (n ∷ ns) proper all used =
    let deeper : All IsProperName (front ++ n ∷ []) = All-append IsProperName front (n ∷ []) proper (All-cons IsProperName n [] (All-head IsProperName n ns all) (All-nil IsProperName)) in
    let still : is_used (kind_below ((front ++ n ∷ []) ++ ns)) ≡ true = ap (λ (x : Names). is_used (kind_below x)) (append_assoc front (n ∷ []) ns) ∙ used in (
      way_at cache front proper (above (Some []) front ns n used),
      subst (λ (p : List ℕ). AllWays (home_of cache) (folders_to p ns)) (joined_more cache front n) (ways_from cache (front ++ n ∷ []) ns deeper (All-tail IsProperName n ns all) still),
    )

content_ways : (cache : List ℕ) (a : Algorithm) (bytes : List ℕ) → AllWays (home_of cache) (content_folders cache (integrity_under a bytes))
unfolding content_folders
content_ways cache a bytes =
    ways_from cache [] (content_names (hash_of a (digest a bytes))) (All-nil IsProperName) (names_are_proper.contents (hash_of a (digest a bytes)) (digest_hash a bytes)) refl

bucket_ways : (cache key : List ℕ) → AllWays (home_of cache) (bucket_folders cache key)
unfolding bucket_folders
bucket_ways cache key = ways_from cache [] (bucket_names key) (All-nil IsProperName) (names_are_proper.buckets (sha1 key) (keys_have_digests key)) refl

-- ---- paths of contents and buckets

not_temporary : (h : Option Names) (k : PathKind) (r : Result Names Fault) → (k ≡ Temporary → ⊥) → IfOk r (λ names. path_kind h names ≡ k) → IfOk r (λ names. path_kind h names ≡ Temporary → ⊥)
not_temporary h k r apart is = grind (arith, common_steps)

content_apart : (cache : List ℕ) (i : List Hash) → IsIntegrity i → IsNotFor (home_of cache) Temporary (content_path cache i)
unfolding content_path
content_apart cache [] integrity = absurd (omega (arith, integrity.nonempty))
content_apart cache (a ∷ hs) integrity =
    not_temporary (home_of cache) Content (names_of (joined cache (content_names a))) (λ e. cc) ((paths_are_for cache).content a (All-head IsHash a hs integrity.hashes))

own_content_apart : (cache : List ℕ) (a : Algorithm) (bytes : List ℕ) → IsNotFor (home_of cache) Temporary (content_path cache (integrity_under a bytes))
unfolding content_path
own_content_apart cache a bytes =
    not_temporary (home_of cache) Content (names_of (joined cache (content_names (hash_of a (digest a bytes))))) (λ e. cc) ((paths_are_for cache).content (hash_of a (digest a bytes)) (digest_hash a bytes))

bucket_apart : (cache key : List ℕ) → IsNotFor (home_of cache) Temporary (bucket_path cache key)
unfolding bucket_path
bucket_apart cache key = not_temporary (home_of cache) Bucket (names_of (joined cache (bucket_names key))) (λ e. cc) ((paths_are_for cache).bucket (sha1 key) (keys_have_digests key))

-- ---- states

-- the folder of the index, or a path below it
abbrev InIndex : Option Names → List ℕ → Type 0
InIndex h p = (cache : List ℕ) × (names : Names) × (home_of cache ≡ h) × All IsProperName (index_area ∷ names) × (p ≡ joined cache (index_area ∷ names))

-- a listing visits those, and a clear reads no bucket
abbrev Visits : Bool → Option Names → Visit → Type 0
Visits false h (Enter p level) = InIndex h p
Visits false h (ReadBucket p) = InIndex h p
Visits true h (ReadBucket p) = ⊥
Visits clears h v = Unit {0}

-- the paths that a state reads, links, removes and syncs, there and behind it
abbrev pub HasPaths : Option Names → State → Type 0
HasPaths h (doing (remove p) s) = IsNotFor h Temporary p × HasPaths h s
HasPaths h (doing (reflink p q) s) = IsNotFor h Temporary p × HasPaths h s
HasPaths h (doing (hard_link p q) s) = IsNotFor h Temporary p × HasPaths h s
HasPaths h (doing (sync_file p) s) = IsNotFor h Temporary p × HasPaths h s
HasPaths h (doing (sync_dir p) s) = IsFor h Way p × HasPaths h s
HasPaths h (doing errand s) = HasPaths h s
HasPaths h (reading k) = IsIntegrity k.integrity
HasPaths h (sizing t) = IsNotFor h Temporary t.path
HasPaths h (opening_file x) = IsNotFor h Temporary (hashed_path x)
HasPaths h (hashing x file bytes) = IsNotFor h Temporary (hashed_path x)
HasPaths h (copying from to count) = IsNotFor h Temporary from
HasPaths h (walking w v todo) = Visits w.clears h v × EachVisit (Visits w.clears h) todo
HasPaths h s = Unit {0}

module _ (h : Option Names) where
  ways_up : (folders : List (List ℕ)) (s : State) → AllWays h folders → HasPaths h s → HasPaths h (sync_up folders s)
  ways_up [] s ways paths = paths
  ways_up (p ∷ ps) s ways paths = ways_up ps (doing (sync_dir p) s) ways.1 (ways.0, paths)

  placed_paths : (c : Commit) → HasPaths h (placed c)
  placed_paths c = places (HasPaths h) (λ reply. tt) (λ folder i. tt) c

  -- of a commit whose content lies where contents do
  module _ (c : Commit) (ways : AllWays h (content_folders c.cache c.computed)) where
    secured_paths : HasPaths h (secured c)
    secured_paths = search (rules, cond_leads, ways_up, placed_paths)

    found_paths : IsNotFor h Temporary (content_path c.cache c.computed) → HasPaths h (secured_found c)
    found_paths own = search (rules, cond_leads, secured_paths)

  recorded_paths : (i : Insertion) → IsNotFor h Temporary (bucket_path i.cache i.entry.key) → AllWays h (bucket_folders i.cache i.entry.key) → HasPaths h (recorded i)
  recorded_paths i own ways = search (rules, cond_leads, ways_up)

  rest_paths : (c : Commit) (file : PlainTemp) (rest : List ℕ) → HasPaths h (write_rest c file rest)
  rest_paths c file rest = grind (arith, moves_on)

how_paths : (h : Option Names) (how : How) (from to : List ℕ) (count : Option ℕ) → IsNotFor h Temporary from → HasPaths h (export_from how from to count)
how_paths h how from to count other = grind (arith, common_steps)

export_paths : (k : Stored) (e : Export) → IsIntegrity k.integrity → HasPaths (home_of k.cache) (export k e)
export_paths k e is = search (rules, cond_leads, content_apart, how_paths)

-- after a lookup
look_paths : (l : Lookup) (aim : Aim) (found : Option Found) → HasIntegrity found → HasPaths (home_of l.cache) (found_for l aim found)
look_paths l aim found has = grind (arith, bucket_apart, content_apart, export_paths)

unread_paths : (l : Lookup) (fault : Fault) → HasPaths (home_of l.cache) (no_bucket l fault)
unread_paths l fault = grind (arith, look_paths)

-- ---- listings

no_temporary : (n : ℕ) (rest : Names) → kind_in_area Bucket n rest ≡ Temporary → ⊥
no_temporary zero [] e = cc
no_temporary zero (name ∷ rest) e = cc
no_temporary (suc n) [] e = cc
no_temporary (suc n) (name ∷ rest) e = no_temporary n rest e

index_below : (h : Option Names) (names : Names) → IfOk (names_below h (index_area ∷ names)) (λ all. path_kind h all ≡ Temporary → ⊥)
index_below h names = grind (arith, no_temporary, kind-below)

index_apart : (h : Option Names) (p : List ℕ) → InIndex h p → IsNotFor h Temporary p
index_apart h p (cache, names, own, all, is) =
    let named : names_of p ≡ names_below h (index_area ∷ names)
    = ap names_of is ∙ joined_texts_name cache (index_area ∷ names) all (omega arith) ∙ ap (λ (o : Option Names). names_below o (index_area ∷ names)) own in
    subst (λ (r : Result Names Fault). IfOk r (λ all. path_kind h all ≡ Temporary → ⊥)) (sym named) (index_below h names)

visited_apart : (b : Bool) (h : Option Names) (p : List ℕ) → Visits b h (ReadBucket p) → IsNotFor h Temporary p
visited_apart b h p is = grind (arith, index_apart)

index_deeper : (h : Option Names) (p n : List ℕ) → InIndex h p → IsProperName n → InIndex h (join p n)
index_deeper h p n (cache, names, own, all, is) proper =
    let more : All IsProperName ((index_area ∷ names) ++ n ∷ []) = All-append IsProperName (index_area ∷ names) (n ∷ []) all (All-cons IsProperName n [] proper (All-nil IsProperName)) in
    (cache, names ++ n ∷ [], own, more, ap (λ (q : List ℕ). join q n) is ∙ sym (joined_more cache (index_area ∷ names) n))

module _ (h : Option Names) where
  ends_paths : (w : Walk) → HasPaths h (walk_ends w)
  ends_paths w = cond_leads (HasPaths h) w.clears (over Done) (over (Listed w.items)) (λ _. tt) (λ _. tt)

  many_paths : (w : Walk) → HasPaths h (too_many w)
  many_paths w = cond_leads (HasPaths h) w.clears (fails faults.TooDeep) (over (Listed (w.items ++ failed faults.TooDeep ∷ []))) (λ _. tt) (λ _. tt)

  gives_paths : (w : Walk) (items : List Item) (next : Walk → State) → ((v : Walk) → v.clears ≡ w.clears → HasPaths h (next v)) → HasPaths h (give w items next)
  gives_paths w items next goes =
      let more : Walk = record w { items = w.items ++ items } in
      let full : Walk = record w { items = take most (w.items ++ items) } in
      cond_leads (HasPaths h) (nat_le (length w.items + length items) most) (next more) (too_many full) (λ _. goes more refl) (λ _. many_paths full)

  misses_paths : (w : Walk) (next : Walk → State) (fault : Fault) → ((v : Walk) → v.clears ≡ w.clears → HasPaths h (next v)) → HasPaths h (miss w next fault)
  misses_paths w next fault goes = cond_leads (HasPaths h) w.clears (fails fault) (give w (failed fault ∷ []) next) (λ _. tt) (λ _. gives_paths w (failed fault ∷ []) next goes)

  walk_paths : (b : Bool) (todo : List Task) → EachVisit (Visits b h) todo → (w : Walk) → w.clears ≡ b → HasPaths h (walk_on todo w)
  walk_paths b [] each w same = ends_paths w
  walk_paths b (Make v ∷ todo) each w same = subst (λ (c : Bool). Visits c h v × EachVisit (Visits c h) todo) (sym same) each
  walk_paths b (Stumble fault path ∷ todo) each w same = misses_paths w (walk_on todo) fault (λ v e. walk_paths b todo each v (e ∙ same))

  bucket_paths : (w : Walk) (todo : List Task) (fault : Fault) → EachVisit (Visits w.clears h) todo → HasPaths h (unread_bucket w todo fault)
  bucket_paths w todo fault each = grind (arith, walk_paths, misses_paths)

  may_meet : (b : Bool) (level : ℕ) (p : List ℕ) (n : Name) → Visits b h (Enter p level) → IsProperName n.name → MayMeet (Visits b h) level p b n
  may_meet b level p n is proper = grind (arith, index_deeper)

  each_left : (b : Bool) (level : ℕ) (p : List ℕ) → EachVisit (Visits b h) (leaving b level p)
  each_left b level p = grind (arith, each_leaving)

  entered_paths : (w : Walk) (p : List ℕ) (level : ℕ) (todo : List Task) (names : List Name) → AreProperNames names → Visits w.clears h (Enter p level) → EachVisit (Visits w.clears h) todo
      → HasPaths h (entered w p level todo names)
  entered_paths w p level todo names proper is each =
      let tasks = tasks_of w.clears level p names ++ leaving w.clears level p ++ todo in
      let less : Walk = record w { left = w.left - length names } in
      let V : Visit → Type 0 = Visits w.clears h in
      let own : EachVisit V (tasks_of w.clears level p names)
      = each_name V level p w.clears names (All-weaker (λ (n : Name). IsProperName n.name) (MayMeet V level p w.clears) (λ n is_proper. may_meet w.clears level p n is is_proper) names proper) in
      let all : EachVisit V tasks
      = each_append V (tasks_of w.clears level p names ++ leaving w.clears level p) todo
      (each_append V (tasks_of w.clears level p names) (leaving w.clears level p) own (each_left w.clears level p)) each in
      cond_leads (HasPaths h) (nat_le (length names) w.left) (walk_on tasks less) (too_many w) (λ _. walk_paths w.clears tasks all less refl) (λ _. many_paths w)

  removed_paths : (a : PlainAnswer) (w : Walk) (todo : List Task) → EachVisit (Visits w.clears h) todo → HasPaths h (go_on (done_in a) (miss w (walk_on todo)) (λ _. walk_on todo w))
  removed_paths a w todo each = search (rules, go_on_leads, misses_paths, walk_paths)

-- a sound commit's content
commit_ways : (site : Site) (c : Commit) → SoundCommit site c → AllWays (home_of site.cache) (content_folders c.cache c.computed)
commit_ways site c sound = search (rules, content_ways)

commit_apart : (site : Site) (c : Commit) → SoundCommit site c → IsNotFor (home_of site.cache) Temporary (content_path c.cache c.computed)
commit_apart site c sound = search (rules, own_content_apart)

module _ (site : Site) (may outside : List ℕ → Bool) where
  abbrev h : Option Names
  h = home_of site.cache

  abbrev P : State → Type 0
  P s = HasPaths h s

  -- of a file that was read
  read_paths : (x : Hashing) (bytes : List ℕ) (g : PlainFile × List ℕ) → IsNotFor h Temporary (hashed_path x) → P (after_read x bytes g)
  read_paths x bytes g other = grind (arith, cond_leads, how_paths)

  -- behind an answer, by which what was found has an integrity
  pub paths_after : (a : PlainAnswer) (s : State) → ((p : List ℕ) (names : List Name) → wants s ≡ Some (steps.ReadDir p) → names_in a ≡ Ok names → AreProperNames names) → Sound site may outside s → P s
      → ((l : Lookup) (bytes : List ℕ) → s ≡ looking l → bytes_in a ≡ Ok bytes → HasIntegrity (found_in l.key bytes)) → P (after s a)
  paths_after a (doing (make_folder p) s) kind sound paths has = go_on_leads P (done_in a) fails (λ _. s) tt (λ fault. tt) (λ x e. paths)
  paths_after a (doing errand s) kind sound paths has = go_on_leads P (done_in a) fails (λ _. s) tt (λ fault. tt) (λ x e. paths.1)
  paths_after a (creating number c rest) kind sound paths has = go_on_leads P (temp_in a) fails (λ file. write_rest c file rest) tt (λ fault. tt) (λ file e. rest_paths h c file rest)
  paths_after a (writing c file rest) kind sound paths has = search (rules, go_on_leads, cond_leads, rest_paths)
  paths_after a (syncing c file) kind sound paths has = go_on_leads P (synced_in a) fails (persisting c) tt (λ fault. tt) (λ new e. tt)
  paths_after a (persisting c file) kind sound paths has =
      go_on_leads P (done_in a) (confirming c) (λ _. secured c) tt (λ fault. tt) (λ x e. secured_paths h c (commit_ways site c sound.0))
  paths_after a (linking c target) kind sound paths has =
      go_on_leads P (done_in a) (confirming c) (λ _. secured c) tt (λ fault. tt) (λ x e. secured_paths h c (commit_ways site c sound.0))
  paths_after a (confirming c fault) kind sound paths has = search (rules, go_on_leads, cond_leads, found_paths, commit_ways, commit_apart)
  paths_after a (appending i) kind sound paths has = search (rules, go_on_leads, cond_leads, recorded_paths, bucket_apart, bucket_ways)
  paths_after a (looking l) kind sound paths has = search (rules, go_on_leads, unread_paths, look_paths)
  paths_after a (reading k) kind sound paths has = search (rules, go_on_leads, cond_leads)
  paths_after a (asking k) kind sound paths has = go_on_leads P (there_in a) answer_absent answer_there tt (λ fault. tt) (λ there e. tt)
  paths_after a (sizing t) kind sound paths has = go_on_leads P (length_in a) fails (after_size t) tt (λ fault. tt) (λ n e. paths)
  paths_after a (opening_file x) kind sound paths has = go_on_leads P (file_in a) fails (λ file. hashing x file []) tt (λ fault. tt) (λ file e. paths)
  paths_after a (hashing x file bytes) kind sound paths has = go_on_leads P (got_in a) fails (after_read x bytes) tt (λ fault. tt) (λ g e. read_paths x bytes g paths)
  paths_after a (copying from to count) kind sound paths has = go_on_leads P (taken_in a) fails (λ n. over (Copied (copied_count count n))) tt (λ fault. tt) (λ n e. tt)
  paths_after a (walking w (Enter p level) todo) kind sound (is, each) has =
      go_on_leads P (names_in a) (miss w (walk_on todo)) (entered w p level todo) tt (λ fault. misses_paths h w (walk_on todo) fault (walk_paths h w.clears todo each))
      (λ names e. entered_paths h w p level todo names (kind p names refl e) is each)
  paths_after a (walking w (ReadBucket p) todo) kind sound (is, each) has = search (rules, go_on_leads, bucket_paths, gives_paths, walk_paths)
  paths_after a (walking w (RemoveFile p) todo) kind sound (is, each) has = removed_paths h a w todo each
  paths_after a (walking w (RemoveFolder p) todo) kind sound (is, each) has = removed_paths h a w todo each
  paths_after a (over reply) kind sound paths has = tt

  -- ---- steps

  abbrev WantedStores : Option PlainStep → Type 0
  WantedStores None = Unit {0}
  WantedStores (Some step) = Stores h step

  -- the step that a call asks for uses no temporary file by its path
  pub wants_apart : (s : State) (step : PlainStep) → Sound site may outside s → P s → wants s ≡ Some step → Stores h step
  wants_apart s step sound paths w = grind (arith, some_is, bucket_apart, content_apart, visited_apart)

-- ---- where calls begin

insert_paths : (h : Option Names) (i : Insertion) → HasPaths h (insert i)
insert_paths h i = inserts (HasPaths h) (λ reply. tt) (λ folder j. tt) i (refused_cause i)

-- a target outside is apart from the temporary files
target_apart : (s : Setup) (n : ℕ) (t : Target ℕ) → LieApart (home s) s.outside → SoundTarget (call_site s n) t → is_outside s t.path ≡ true → IsNotFor (home s) Temporary t.path
target_apart s n t apart sound outside =
    let c = commit_for t [] in
    let few : 0 < 2 ^ 64 = omega arith in
    let commit : SoundCommit (call_site s n) c = record { here = sound.here; bytes = []; computed_of = refl; formed = sound.formed [] few } in
    let proper : Proper (home s) (steps.Symlink t.path (content_path c.cache c.computed))
    = sound_proper s n apart (linking c t.path) (steps.Symlink t.path (content_path c.cache c.computed)) (commit, outside) refl in
    not_temporary (home s) Elsewhere (names_of t.path) (λ e. cc) proper.1

pub opens_paths : (s : Setup) (n : ℕ) (command : Command) → LieApart (home s) s.outside → MayBegin (call_site s n) (may_export s) (is_outside s) command → NamesIntegrity command → HasPaths (home s) (opening (call_site s n) command)
opens_paths s n (commands.Link l) apart may named = target_apart s n (link_target (call_site s n) l) apart may.0 may.1
opens_paths s n (commands.Insert i) apart may named = insert_paths (home s) (insertion s.cache i)
opens_paths s n (commands.Delete d) apart may named = insert_paths (home s) (deletion s.cache d)
opens_paths s n (commands.GetHash i) apart may named = named
opens_paths s n (commands.Export (sources.Key key) e) apart may named = tt
opens_paths s n (commands.Export (sources.Hash i) e) apart may named = export_paths (record { cache = s.cache; integrity = i }) e named
opens_paths s n (commands.RemoveHash i) apart may named = (content_apart s.cache i named, tt)
opens_paths s n commands.Ls apart may named = ((s.cache, [], refl, All-cons IsProperName index_area [] (refl, refl, refl) (All-nil IsProperName), refl), tt)
opens_paths s n commands.Clear apart may named = (tt, tt)
opens_paths s n command apart may named = tt

-- ---- what a lookup finds

bytes_are : (a : PlainAnswer) (bytes : List ℕ) → bytes_in a ≡ Ok bytes → a ≡ answers.Bytes bytes
bytes_are a bytes e = grind (arith, common_steps)

found_has : (key bytes : List ℕ) → All IsEntry (entries_of bytes) → HasIntegrity (found_in key bytes)
unfolding found_in
found_has key bytes all = latest_has key (entries_of bytes) all

-- where entries are well-formed, what is found in a bucket's bytes has an integrity
pub bucket_has : (s : Setup) (t : Tree) (cache key bytes : List ℕ) (luck : Luck) → Placed (home s) t → Rooted t → TreeFormed (home s) t → cache ≡ s.cache
    → bytes_in (apply t (steps.ReadAll (bucket_path cache key)) luck).0 ≡ Ok bytes → HasIntegrity (found_in key bytes)
bucket_has s t cache key bytes luck placed rooted formed here e =
    let is_said : (apply t (steps.ReadAll (bucket_path s.cache key)) luck).0 ≡ answers.Bytes bytes
    = bytes_are (apply t (steps.ReadAll (bucket_path s.cache key)) luck).0 bytes (ap (λ (x : List ℕ). bytes_in (apply t (steps.ReadAll (bucket_path x key)) luck).0) (sym here) ∙ e) in
    let shows : (value_of_tree (home s) t).buckets (sha1 key) ≡ Some (entries_of bytes)
    = subst (ShowsBucket ((value_of_tree (home s) t).buckets (sha1 key))) is_said ((trees_show (home s) t placed rooted).bucket (sha1 key) (bucket_path s.cache key) luck (bucket_below s key)) in
    found_has key bytes (subst (λ o. All IsEntry (list_of o)) shows (formed (sha1 key)))
