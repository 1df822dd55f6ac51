-- Sound states make allowed steps, and stay sound.
use Rattle.std.proofs.{lemmas.{Grind.{common_steps}, List.Elements.{All-append, All-nil, All-cons, All-weaker}}, Common.{rules, ◌≡◌, inl, inr, ℕ, ◌+◌, ◌<◌, ◌^◌, List, [], ◌∷◌, ◌++◌, Option, Some, None, Bool, true, Ok, refl, ap, ap₂, sym, subst, ◌∙◌, length, length-append, arith}}
use Rattle.cacache_core.specs.{declared.{errors.SerdeCause.{SerdeCause}, integrity.digest.Hash.{Hash}}, Paths.{index_area, join, joined, IsProperName}}
use Rattle.cacache_store.specs.{declared.store.{plain.{PlainTemp.{PlainTemp}, PlainFile.{PlainFile}}, answer.Name.{Name}}, Plain.{PlainStep, PlainAnswer, Fits, AreProperNames}}
use Rattle.cacache_store.specs.declared.store.step.Step.TheVariants as steps
use Rattle.cacache_entry.specs.Bucket.{Found}
use Rattle.cacache_calls.specs.{declared.{command.{Command.{Command}, Export.{Export}, How.{How}}, carried.{Commit.{Commit}, Aim.{Aim}, Lookup.{Lookup}, Content.{Content}}, target.Target.{Target}, visit.Visit.{Visit}}, Answers.{temp_in, written_in, synced_in, names_in}, Steps.{content_path, content_folder, bucket_path}, State.{State, opening_file, Site, Insertion, Hashing, to_verify}, Inserting.{insertion, deletion, unless_refused, refused_cause, bucket_line}, Storing.{indexed, sized, compared, placed}, Removing.{remove_found}, Reading.{export_from, export_content, export, found_for}, Linking.{commit_for, hashed, after_read}, Walking.{visit_step}, Table.{wants, after, opening}, Sound.{SoundCommit, SoundInsertion, SoundTarget, IsBelow, IsContent, IsFolder, IsLine, SoundVisit, Allowed, SoundAim, SoundHashing, Sound, MayBegin}}
use Rattle.cacache_calls.proofs.{Effort.{opened, left_after}, Closed.{AnyWalk, ClosedCommit, ClosedFiles, ClosedWalk, Closed, kept}, Going.{cond_leads}, Keys.{MayMeet}}
use Rattle.cacache_calls.specs.declared.command.Command.TheVariants as commands
use Rattle.cacache_calls.specs.declared.command.Source.TheVariants as sources

-- a consequence of an equation of steps
pub some_is : (P : PlainStep → Type 0) (a b : PlainStep) → Some a ≡ Some b → P a → P b
some_is P a b e h = let same : a ≡ b = cc in subst P same h

module _ (site : Site) (apart outside : List ℕ → Bool) where
  abbrev Is : State → Type 0
  Is s = Sound site apart outside s

  -- ---- paths

  content_at : (c : Commit) → SoundCommit site c → IsContent site (content_path c.cache c.computed)
  content_at c h = (c.options.algorithm, h.bytes, ap₂ content_path h.here h.computed_of)

  folder_at : (c : Commit) → SoundCommit site c → IsFolder site (content_folder c.cache c.computed)
  folder_at c h = inr (inl (c.options.algorithm, h.bytes, ap₂ content_folder h.here h.computed_of))

  -- ---- commits

  inserts : (i : Insertion) (cause : Option SerdeCause) → refused_cause i ≡ cause → SoundInsertion site i → Is (unless_refused i cause)
  inserts i cause e h = grind (arith, common_steps)

  by_key : (c : Commit) (key : Option (List ℕ)) → c.key ≡ key → SoundCommit site c → Is (indexed c key)
  by_key c key e h = grind (arith, inserts)

  by_size : (c : Commit) (size : Option ℕ) → SoundCommit site c → Is (sized c size)
  by_size c size h = grind (arith, by_key, cond_leads)

  by_integrity : (c : Commit) (expected : Option (List Hash)) → SoundCommit site c → Is (compared c expected)
  by_integrity c expected h = grind (arith, by_size, cond_leads)

  places : (c : Commit) → SoundCommit site c → Is (placed c)
  places c h = by_integrity c c.options.integrity h

  -- the temporary file that an answer returns
  made_temp : (p : List ℕ) (t : PlainAnswer) (file : PlainTemp) → Fits (steps.CreateTemp p) t → temp_in t ≡ Ok file → file.path ≡ p
  made_temp p t file fits e = grind (arith, common_steps)

  written_temp : (old : PlainTemp) (bytes : List ℕ) (t : PlainAnswer) (w : PlainTemp × ℕ) → Fits (steps.Write old bytes) t → written_in t ≡ Ok w → w.0.path ≡ old.path
  written_temp old bytes t w fits e = grind (arith, common_steps)

  synced_temp : (old : PlainTemp) (t : PlainAnswer) (file : PlainTemp) → Fits (steps.SyncTemp old) t → synced_in t ≡ Ok file → file.path ≡ old.path
  synced_temp old t file fits e = grind (arith, common_steps)

  -- ---- exports and links

  exports_from : (how : How) (from to : List ℕ) (count : Option ℕ) → apart to ≡ true → Is (export_from how from to count)
  exports_from how from to count h = grind (arith, common_steps)

  exports : (k : Content) (e : Export) → apart e.to ≡ true → Is (export k e)
  exports k e h = cond_leads Is e.checked (opening_file (to_verify k e)) (export_content k e None) (λ _. h) (λ _. exports_from e.how (content_path k.cache k.integrity) e.to None h)

  links : (t : Target ℕ) (bytes : List ℕ) → SoundTarget site t → length bytes < 2 ^ 64 → SoundCommit site (commit_for t bytes)
  links t bytes h lt = record { here = h.here; bytes = bytes; computed_of = refl; formed = h.formed bytes lt }

  hashes : (h : Hashing) (bytes : List ℕ) → SoundHashing site apart outside h → length bytes < 2 ^ 64 → Is (hashed h bytes)
  hashes h bytes s lt = grind (arith, cond_leads, exports_from, links, folder_at)

  reads_on : (h : Hashing) (bytes : List ℕ) (left : ℕ) (file : PlainFile) (more : List ℕ) → SoundHashing site apart outside h → left + length bytes < 2 ^ 64 → file.left + length more ≡ left → Is (after_read h bytes (file, more))
  reads_on h bytes left file [] s lt e = hashes h bytes s (omega arith)
  reads_on h bytes left file (b ∷ bs) s lt e = (s, omega (arith, length-append bytes (b ∷ bs)))

  -- ---- lookups

  removes : (cache key : List ℕ) (found : Option Found) → cache ≡ site.cache → Is (remove_found cache key found)
  removes cache key found e = grind (arith, common_steps)

  founds : (l : Lookup) (aim : Aim) (found : Option Found) → l.cache ≡ site.cache → SoundAim site apart outside aim → Is (found_for l aim found)
  founds l aim found e h = grind (arith, removes, exports)

  -- ---- walks

  joined_more : (path : List ℕ) (names : List (List ℕ)) (n : List ℕ) → joined path (names ++ n ∷ []) ≡ join (joined path names) n
  joined_more path [] n = refl
  joined_more path (m ∷ names) n = joined_more (join path m) names n

  below_more : (p n : List ℕ) → IsProperName n → IsBelow site p → IsBelow site (join p n)
  below_more p n proper h =
      (h.0 ++ n ∷ [], All-append IsProperName h.0 (n ∷ []) h.1 (All-cons IsProperName n [] proper (All-nil IsProperName)), ap (λ q. join q n) h.2 ∙ sym (joined_more site.cache h.0 n))

  -- what a fitting answer says about the names
  named : (p : List ℕ) (t : PlainAnswer) (names : List Name) → Fits (steps.ReadDir p) t → names_in t ≡ Ok names → AreProperNames names
  named p t names fits e = grind (arith, common_steps)

  may_meet : (clears : Bool) (level : ℕ) (p : List ℕ) → IsBelow site p → (n : Name) → IsProperName n.name → MayMeet (SoundVisit site) level p clears n
  may_meet clears level p h n proper = grind (arith, below_more)

  -- ---- a command may begin

  pub begins_sound : (command : Command) → MayBegin site apart outside command → Is (opening site command)
  begins_sound (commands.Put p) h = (inl refl, (refl, record { here = refl; bytes = p.data; computed_of = refl; formed = h }))
  begins_sound (commands.Link l) h = h
  begins_sound (commands.Insert i) h = inserts (insertion site.cache i) (refused_cause (insertion site.cache i)) refl (record { here = refl; formed = h })
  begins_sound (commands.Delete d) h = inserts (deletion site.cache d) (refused_cause (deletion site.cache d)) refl (record { here = refl; formed = h })
  begins_sound (commands.GetHash i) h = refl
  begins_sound (commands.Exists i) h = refl
  begins_sound commands.Ls h = ((index_area ∷ [], All-cons IsProperName index_area [] (refl, refl, refl) (All-nil IsProperName), refl), tt)
  begins_sound (commands.Export (sources.Key key) e) h = (refl, h)
  begins_sound (commands.Export (sources.Hash i) e) h = exports (record { cache = site.cache; integrity = i }) e h
  begins_sound (commands.RemoveHash i) h = (inl (i, refl), tt)
  begins_sound commands.Clear h = (([], All-nil IsProperName, refl), tt)
  begins_sound command h = (refl, tt)

  -- ---- its steps

  visit_allowed : (v : Visit) → SoundVisit site v → Allowed site apart outside (visit_step v)
  visit_allowed v h = grind (arith, common_steps)

  line_at : (i : Insertion) → SoundInsertion site i → refused_cause i ≡ None → IsLine site (bucket_path i.cache i.entry.key) (bucket_line i)
  unfolding bucket_line refused_cause
  line_at i h none = (i.entry, i.durable, h.formed none, none, ap (λ c. bucket_path c i.entry.key) h.here, refl)

  pub steps_allowed : (s : State) (step : PlainStep) → Is s → wants s ≡ Some step → Allowed site apart outside step
  steps_allowed s step h e = grind (arith, some_is, content_at, line_at, visit_allowed)

  -- ---- the states after them

  commits_sound : ClosedCommit Fits Is
  commits_sound = search (rules, made_temp, written_temp, folder_at, synced_temp, places)

  files_sound : ClosedFiles Fits Is
  files_sound = search (rules, opened, reads_on, left_after)

  walks_sound : ClosedWalk Fits Is AnyWalk (SoundVisit site)
  walks_sound = record {
    visited = λ w v todo h. (tt, h);
    visiting = λ w v todo h k t. (k, t);
    names = λ clears level p names b h k. All-weaker (λ n. IsProperName n.name) (MayMeet (SoundVisit site) level p clears) (may_meet clears level p k) names (named p b.0 names b.1 b.2);
    left = λ level p h k. k;
    cleared = λ h. tt;
    listed = λ items h. tt;
  }

  closed : Closed Fits Is AnyWalk (SoundVisit site)
  closed = search (rules, commits_sound, inserts, founds, files_sound, walks_sound)

  pub stays_sound : (s : State) (step : PlainStep) (t : PlainAnswer) → Is s → wants s ≡ Some step → Fits step t → Is (after s t)
  stays_sound s step t h e f = kept Fits Is AnyWalk (SoundVisit site) closed s step t h e f
