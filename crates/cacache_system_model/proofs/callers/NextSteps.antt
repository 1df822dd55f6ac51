-- What a step leaves of the handles and paths of all callers.
use Rattle.std.proofs.{lemmas.Grind.{common_steps}, Common.{rules, ◌≡◌, ◌⊎◌, inl, inr, ◌≤◌, ◌<◌, ◌^◌, ◌==◌, ℕ, Bool, false, cond, List, [], Option, None, Some, Ok, option_map, refl, sym, ap, subst, ◌∙◌, arith}}
use Rattle.std.specs.Prelude.{Err}
use Rattle.cacache_core.specs.{declared.errors.Fault.{Fault}, Paths.{Names, names_of}}
use Rattle.cacache_store.specs.{declared.store.{plain.{PlainFile.{PlainFile}, PlainTemp.{PlainTemp}}, answer.Name.{Name}}, Plain.{PlainStep, PlainAnswer, Fits, AreProperNames}}
use Rattle.cacache_store.specs.declared.store.step.Step.TheVariants as steps
use Rattle.cacache_store.specs.declared.store.answer.Answer.TheVariants as answers
use Rattle.cacache_disk.specs.{declared.{luck.Luck.{Luck}, node.Node.TheVariants.{Folder, File}}, Tree.{look, Rooted}, Apply.{apply}}
use Rattle.cacache_loss.specs.Fixing.{is_at}
use Rattle.cacache_value.specs.{Kinds.{Temporary, path_kind}, Placed.{LieApart, Placed, Proper}}
use Rattle.cacache_calls.specs.{declared.{reply.Reply.{Reply}, carried.Lookup.{Lookup}}, Answers.{bytes_in as bytes_answered, names_in}, Reading.{found_in}, Common.{errand_step}, State.{State, doing, writing, syncing, persisting, looking, Site, Errand}, Steps.{temp_path, bucket_path}, Sound.{IsTemp, Allowed, Sound}, Table.{wants, after}}
use Rattle.cacache_calls.proofs.Sound.{steps_allowed}
use Rattle.cacache_calls.specs.declared.answers.Refusal.TheVariants as refusals
use Rattle.cacache_history.specs.{declared.record.Record.{Record, TheVariants.{Moved}}, Setup.{Setup, call_site, home, may_export, is_outside}, History.{Call, Now, now_after, MayMove, MayCome}}
use Rattle.cacache_history.proofs.{Histories.Holding.{CallHolds, of_caller}, Entries.Spelled.{HasIntegrity}, StepActs.{sound_proper}, Listings.ListingWalks.{proper_names}, durable.CallNumbers.{Numbered, next_numbered, number_below, numbers_apart, temps_apart}}
use Rattle.cacache_system.specs.{declared.call.CallResult.{CallResult}, Seen.{NumberedFile, NumberedTemp, NumberedStep, NumberedAnswer}, CallsOf.{Runs}, AnswersOf.{first, answer_of}}
use Rattle.cacache_system_model.specs.{Machine.{Machine}, StepLaws.{IsOpenAt}, Laws.{answer_on}, Mirrors.{hollow, Mirrors}, Chains.{StepMade, temps_left}, callers.{Acts.{IsRecordOf, steps as makes, SystemState, step_of, answer_in, NeedsFit, set_state, unless_ended}, Storing.{Stores, HoldsTemp, MakesStoringStep}, Opened.{KeepsOpen, StillStores}, Seen.{handed, handed_open, held_after, open_after}}}
use Rattle.cacache_system_model.proofs.{Mirroring.{shapes}, callers.{NextActs.{NumberedState, numbered_after, MakesNextStep}, Fitting.{failed_none, failed_bytes}, OtherTemps.{explained, placed_same, asked_stays}, Covering.{rooted_same, has_asked}, Following.{Agree, has_call, Follows}, Files.{file_in, open_in, file_of, open_of, file_given, open_given, IsErrand, From, Follows as StateFollows, follows_after, wants_file, wants_open, errand_steps}, StayingOpen.{runs_keep_open, made_open}, PathsOf.{HasPaths, wants_apart, paths_after, bucket_has}, OpenTemps.{Misses, temps_spare}, ListCalls.{removes_miss}, Handles.{Handle, IsHanded, next_on, holds_on, handle_kept, wrote_same, synced_same, handed_handle, handed_none, handed_file, handed_no_file, temp_answer, hands_back, still_stores}}}

-- ---- whose a temporary file is

-- a sound state's temporary file is its call's own
sound_file : (site : Site) (may outside : List ℕ → Bool) (s : State) (file : PlainTemp) → Sound site may outside s → file_in s ≡ Some file → IsTemp site file
sound_file site may outside (doing errand s) file sound e = sound_file site may outside s file sound.1 e
sound_file site may outside (writing c f rest) file sound e = let same : f ≡ file = cc in subst (IsTemp site) same sound.1
sound_file site may outside (syncing c f) file sound e = let same : f ≡ file = cc in subst (IsTemp site) same sound.1
sound_file site may outside (persisting c f) file sound e = let same : f ≡ file = cc in subst (IsTemp site) same sound.1
sound_file site may outside s file sound e = let no : None ≡ Some file = e in absurd cc

-- a step of another call isn't about it
others_miss : (s : Setup) (a b : ℕ) (file : List ℕ) (q : Names) → a < 2 ^ 64 → b < 2 ^ 64 → (a ≡ b → ⊥) → file ≡ temp_path s.cache a → names_of file ≡ Ok q → path_kind (home s) q ≡ Temporary
    → (step : PlainStep) → Allowed (call_site s b) (may_export s) (is_outside s) step → ((p : List ℕ) → step ≡ steps.RemoveFile p → is_at (names_of p) q ≡ false) → Misses q step
others_miss s a b file q few less differ own named at step allowed removes = grind (arith, own, allowed, temps_apart)

handle_named : (temps : Names → Bool) (m : Machine) (o : Option NumberedTemp) (file : PlainTemp) → (g : Handle temps m o file) → names_of file.path ≡ Ok g.held.names
handle_named temps m o file g = ap (λ (x : PlainTemp). names_of x.path) (sym g.same) ∙ g.held.named

-- ---- many acts

-- what is known of a caller's call
abbrev pub HasHandle : (Names → Bool) → Machine → Option NumberedTemp → Option State → Type 0
HasHandle temps m o x = (state : State) → x ≡ Some state → (file : PlainTemp) → file_in state ≡ Some file → Handle temps m o file

-- of the open file that it reads
abbrev pub HasOpen : Option (NumberedFile × PlainFile) → Option State → Type 0
HasOpen o x = (state : State) → x ≡ Some state → (file : PlainFile) → open_in state ≡ Some file → IsHanded o file

-- and of the paths that it reads and syncs
abbrev pub PathsAt : Option Names → Option State → Type 0
PathsAt h x = (state : State) → x ≡ Some state → HasPaths h state

-- the callers of a store of real folders and a history agree
pub record Holds (s : Setup) (f : NumberedState) (now : Now) : Type 0 where
  pub agree : Agree s f.system now
  pub numbered : Numbered now
  pub few : now.begun ≤ 2 ^ 64
  pub handles : (k : ℕ) → HasHandle f.system.temps f.system.machine (f.held k) (f.system.states k)
  pub opens : (k : ℕ) → HasOpen (f.opened k) (f.system.states k)
  pub paths : (k : ℕ) → PathsAt (home s) (f.system.states k)

ended_some : (reply : Option Reply) (x : Option State) (old new : State) (a : PlainAnswer) → x ≡ Some old → unless_ended reply (option_map (λ (state : State). after state a) x) ≡ Some new → after old a ≡ new
ended_some (Some r) x old new a is e = let no : None ≡ Some new = e in absurd cc
ended_some None None old new a is e = let no : None ≡ Some old = is in absurd cc
ended_some None (Some state) old new a is e =
    let same : state ≡ old = cc in
    let there : after state a ≡ new = (let both : Some (after state a) ≡ Some new = e in cc) in
    ap (λ (x : State). after x a) (sym same) ∙ there

at_caller : {A : Type 0} (P : Option A → Option State → Type 0) (k caller : ℕ) (ox oy : Option A) (x y : Option State) → (k ≡ caller → P ox x) → ((k ≡ caller → ⊥) → P oy y)
    → P (cond (k == caller) ox oy) (cond (k == caller) x y)
at_caller P k caller ox oy x y here there = search rules

pub at_state : (P : Option State → Type 0) (k caller : ℕ) (x y : Option State) → (k ≡ caller → P x) → ((k ≡ caller → ⊥) → P y) → P (cond (k == caller) x y)
at_state P k caller x y here there = search rules

pub no_paths : (h : Option Names) → PathsAt h None
no_paths h state e = let no : None ≡ Some state = e in absurd cc

pub no_state : (temps : Names → Bool) (m : Machine) (o : Option NumberedTemp) → HasHandle temps m o None
no_state temps m o state e = let no : None ≡ Some state = e in absurd cc

pub no_open : (o : Option (NumberedFile × PlainFile)) → HasOpen o None
no_open o state e = let no : None ≡ Some state = e in absurd cc

listed_proper : (p : List ℕ) (a : PlainAnswer) (names : List Name) → NeedsFit (steps.ReadDir p) a → names_in a ≡ Ok names → AreProperNames names
listed_proper p a names fits listed = proper_names p a names fits listed

module _ (s : Setup) (apart : LieApart (home s) s.outside) (f : NumberedState) (now : Now) (all : Holds s f now) where
  abbrev w : SystemState
  w = f.system

  module _ (caller : ℕ) (made : StepMade) (reply : Option Reply) (m : MakesNextStep f caller made reply) where
    handles_of : HasHandle w.temps made.before (f.held caller) (w.states caller)
    handles_of = subst (λ (x : Machine). HasHandle w.temps x (f.held caller) (w.states caller)) (sym m.here) (all.handles caller)

    of_step : (file : PlainTemp) → file_of m.plain ≡ Some file → Handle w.temps made.before (f.held caller) file
    of_step file e = handles_of m.state m.stands file (wants_file m.state m.plain file m.wanted e)

    of_open : (file : PlainFile) → open_of m.plain ≡ Some file → IsHanded (f.opened caller) file
    of_open file e = all.opens caller m.state m.stands file (wants_open m.state m.plain file m.wanted e)

    own : (call : Call) × (now.calls caller ≡ Some call) × (call.state ≡ m.state)
    own = has_call (now.calls caller) (w.states caller) m.state (all.agree.states caller) m.stands

    mine : CallHolds s own.0
    mine = of_caller s own.0 _ own.1 (all.agree.all.calls caller)

    sound : Sound (call_site s own.0.number) (may_export s) (is_outside s) m.state
    sound = subst (Sound (call_site s own.0.number) (may_export s) (is_outside s)) own.2 mine.sound

    has_paths : HasPaths (home s) m.state
    has_paths = all.paths caller m.state m.stands

    asks_same : m.plain ≡ step_of made
    asks_same = next_on w.temps made.before (f.held caller) (f.opened caller) m.plain made.step m.same m.held of_step of_open

    wants_asked : wants m.state ≡ Some (step_of made)
    wants_asked = m.wanted ∙ ap Some asks_same

    holds : HoldsTemp w.temps made.before made.step
    holds = holds_on w.temps made.before (f.held caller) (f.opened caller) made.step m.held (λ file e. of_step file (ap file_of asks_same ∙ e))

    wants_proper : (p : List ℕ) (names : List Name) → wants m.state ≡ Some (steps.ReadDir p) → names_in (answer_in made) ≡ Ok names → AreProperNames names
    wants_proper p names wanted listed =
        let both : Some (step_of made) ≡ Some (steps.ReadDir p) = sym wants_asked ∙ wanted in
        let same : step_of made ≡ steps.ReadDir p = cc in
        listed_proper p (answer_in made) names (subst (λ (x : PlainStep). NeedsFit x (answer_in made)) same m.fits) listed

    apart_of : (step : PlainStep) → wants m.state ≡ Some step → Stores (home s) step
    apart_of step wanted = wants_apart (call_site s own.0.number) (may_export s) (is_outside s) m.state step sound has_paths wanted

    stores : Stores (home s) (step_of made)
    stores = apart_of (step_of made) wants_asked

    pub makes_storing_step : MakesStoringStep (home s) w caller made reply
    makes_storing_step = search (rules, wants_asked, stores, holds)

    wanted_own : wants own.0.state ≡ Some (step_of made)
    wanted_own = ap wants own.2 ∙ wants_asked

    proper : Proper (home s) (step_of made)
    proper = sound_proper s own.0.number apart own.0.state (step_of made) mine.sound wanted_own

    allowed : Allowed (call_site s own.0.number) (may_export s) (is_outside s) (step_of made)
    allowed = steps_allowed (call_site s own.0.number) (may_export s) (is_outside s) own.0.state (step_of made) mine.sound wanted_own

    mirrors : Mirrors w.temps made.before.tree now.tree
    mirrors = subst (λ (x : Machine). Mirrors w.temps x.tree now.tree) (sym m.here) all.agree.mirrors

    placed : Placed (home s) made.before.tree
    placed = placed_same (home s) made.before.tree now.tree (shapes w.temps made.before.tree now.tree mirrors) all.agree.all.placed

    rooted : Rooted made.before.tree
    rooted = rooted_same made.before.tree now.tree (shapes w.temps made.before.tree now.tree mirrors) all.agree.all.rooted

    keeps : (q : Names) → StillStores q made.before made.step → KeepsOpen q made.before made.after
    keeps q still = runs_keep_open q made.before made.after made.hint made.step made.items made.end still m.runs m.each

    opens : (p : List ℕ) (u : NumberedTemp) (names : Names) → made.step ≡ steps.CreateTemp p → answer_of made.step made.end ≡ answers.Temp u → names_of u.path ≡ Ok names → IsOpenAt made.after u.number names
    opens p u names step_is answer_is named =
        let g = temp_answer p u made.end (ap (λ (x : NumberedStep). answer_of x made.end) (sym step_is) ∙ answer_is) in
        made_open made.before made.after made.hint p made.items u.number names (ap names_of (sym g.1) ∙ named)
        (subst (λ (e : CallResult). Runs (first made.hint (steps.CreateTemp p)) made.items e) g.0 (subst (λ (x : NumberedStep). Runs (first made.hint x) made.items made.end) step_is m.runs)) m.each

    -- a handle that the step isn't about stays as it was
    handle_stays : (o new : Option NumberedTemp) (file : PlainTemp) → new ≡ o → (g : Handle w.temps made.before o file) → Misses g.held.names (step_of made)
        → Handle (temps_left w.temps made) made.after new file
    handle_stays o new file same g misses =
        let at = all.agree.temps g.held.names g.held.is_temp in
        let no_folder : look made.before.tree g.held.names ≡ Some Folder → ⊥ = (λ e. let no : Some Folder ≡ Some (File []) = sym (ap hollow e) ∙ mirrors.files g.held.names g.held.is_temp in absurd cc) in
        handle_kept w.temps (temps_left w.temps made) made.before made.after o new file same g
        (keeps g.held.names (still_stores (home s) w.temps made.before now.tree mirrors rooted g.held.names made.hint made.step holds m.hint placed at g.held.is_temp no_folder proper misses))
        (temps_spare (home s) w.temps (step_of made) (answer_in made) g.held.names at proper misses g.held.is_temp)
        (asked_stays (home s) w.temps made.before made.after made.hint placed g.held.names at no_folder made.step made.items made.end m.clean proper misses m.runs m.each (explained made reply m.luck)
        (has_asked (home s) w.temps all.agree.temps made.before now.tree mirrors all.agree.all.placed all.agree.all.rooted made.hint made.step stores holds m.hint proper))

    -- the call itself
    handed_own : (luck : Luck) → Fits (step_of made) (answer_in made) → answer_in made ≡ (apply now.tree (step_of made) luck).0 → (file : PlainTemp) → file_given (answer_in made) ≡ Some file
        → Handle (temps_left w.temps made) made.after (handed (answer_of made.step made.end) (f.held caller)) file
    handed_own luck fits answered file e =
        handed_handle w.temps made.before made.after made.step (answer_of made.step made.end) (f.held caller) file now.tree luck (λ q hands. keeps q (hands_back (home s) w.temps made.before now.tree mirrors rooted q made.step holds hands)) opens holds
        (λ v u bytes k step_is answer_is. wrote_same v u bytes made.end k (ap (λ (x : NumberedStep). answer_of x made.end) (sym step_is) ∙ answer_is))
        (λ v u step_is answer_is. synced_same v u made.end (ap (λ (x : NumberedStep). answer_of x made.end) (sym step_is) ∙ answer_is))
        fits answered e

    -- its removals miss the temporary files of all calls
    removal_misses : (k : ℕ) (other : State) (file : PlainTemp) → w.states k ≡ Some other → file_in other ≡ Some file → (g : Handle w.temps made.before (f.held k) file)
        → (p : List ℕ) → wants m.state ≡ Some (steps.RemoveFile p) → is_at (names_of p) g.held.names ≡ false
    removal_misses k other file stands own g p wanted =
        removes_miss (home s) w.states k other file g.held.names stands own (handle_named w.temps made.before (f.held k) file g) (all.agree.temps g.held.names g.held.is_temp)
        m.state p has_paths m.spares wanted

    errand_misses : (q : Names) → ((p : List ℕ) → wants m.state ≡ Some (steps.RemoveFile p) → is_at (names_of p) q ≡ false) → (errand : Errand) → wants m.state ≡ Some (errand_step errand)
        → Misses q (errand_step errand)
    errand_misses q removes errand wanted = grind (arith, common_steps)

    stayed_own : (file : PlainTemp) → file_in m.state ≡ Some file → file_given (answer_in made) ≡ None → IsErrand m.state
        → Handle (temps_left w.temps made) made.after (handed (answer_of made.step made.end) (f.held caller)) file
    stayed_own file e none errand =
        let handle = handles_of m.state m.stands file e in
        let old = handle.held in
        handle_stays (f.held caller) _ file (handed_none made.after (answer_of made.step made.end) (f.held caller) none) handle
        (errand_steps m.state (step_of made) (Misses old.names) errand wants_asked (errand_misses old.names (removal_misses caller m.state file m.stands e handle)))

    -- a file of the state behind the answer, which was handed out or stayed
    own_file : {A : Type 0} (Good : A → Type 0) (new given before : Option A) → From new given before m.state → ((file : A) → given ≡ Some file → Good file)
        → ((file : A) → before ≡ Some file → given ≡ None → IsErrand m.state → Good file) → (file : A) → new ≡ Some file → Good file
    own_file Good new given before which gave stayed file e = grind (arith, common_steps)

    new_follows : (new : State) → unless_ended reply (option_map (λ (state : State). after state (answer_in made)) (w.states caller)) ≡ Some new → StateFollows m.state (answer_in made) new
    new_follows new e = subst (StateFollows m.state (answer_in made)) (ended_some reply (w.states caller) m.state new (answer_in made) m.stands e) (follows_after m.state (answer_in made))

    own_handles : ((file : PlainTemp) → file_given (answer_in made) ≡ Some file → Handle (temps_left w.temps made) made.after (handed (answer_of made.step made.end) (f.held caller)) file)
        → HasHandle (temps_left w.temps made) made.after (handed (answer_of made.step made.end) (f.held caller)) (unless_ended reply (option_map (λ (state : State). after state (answer_in made)) (w.states caller)))
    own_handles given new e file is = search (rules, own_file, file_in, file_given, new_follows, stayed_own)

    own_open : HasOpen (handed_open made.after (answer_of made.step made.end) (f.opened caller)) (unless_ended reply (option_map (λ (state : State). after state (answer_in made)) (w.states caller)))
    own_open new e file is =
        own_file (IsHanded (handed_open made.after (answer_of made.step made.end) (f.opened caller))) (open_in new) (open_given (answer_in made)) (open_in m.state) (new_follows new e).1
        (handed_file made.after (answer_of made.step made.end) (f.opened caller))
        (λ old before none errand. subst (λ (o : Option (NumberedFile × PlainFile)). IsHanded o old) (sym (handed_no_file made.after (answer_of made.step made.end) (f.opened caller) none))
        (all.opens caller m.state m.stands old before)) file is

    moved_open : (k : ℕ) → HasOpen (open_after f.opened (makes caller made reply) k) (set_state caller (unless_ended reply (option_map (λ (state : State). after state (answer_in made)) (w.states caller))) w.states k)
    moved_open k = search (rules, at_caller, own_open)

    -- other calls
    other_handles : (k : ℕ) → (k ≡ caller → ⊥) → HasHandle (temps_left w.temps made) made.after (f.held k) (w.states k)
    other_handles k differ state e file is =
        let g : HasHandle w.temps made.before (f.held k) (w.states k) = subst (λ (x : Machine). HasHandle w.temps x (f.held k) (w.states k)) (sym m.here) (all.handles k) in
        let handle = g state e file is in
        let c = has_call (now.calls k) (w.states k) state (all.agree.states k) e in
        let theirs = of_caller s c.0 _ c.1 (all.agree.all.calls k) in
        let its : IsTemp (call_site s c.0.number) file = sound_file (call_site s c.0.number) (may_export s) (is_outside s) c.0.state file theirs.sound (ap file_in c.2 ∙ is) in
        handle_stays (f.held k) (f.held k) file refl handle
        (others_miss s c.0.number own.0.number file.path handle.held.names (small k c.0 c.1) (small caller own.0 own.1)
        (numbers_apart now all.numbered k caller c.0 own.0 differ c.1 own.1) its (handle_named w.temps made.before (f.held k) file handle) (all.agree.temps handle.held.names handle.held.is_temp)
        (step_of made) allowed (λ p step_is. removal_misses k state file e is handle p (wants_asked ∙ ap Some step_is)))
      where
        small : (j : ℕ) (a : Call) → now.calls j ≡ Some a → a.number < 2 ^ 64
        small j a here = omega (arith, number_below now all.numbered j a here, all.few)

    moved_handles : ((file : PlainTemp) → file_given (answer_in made) ≡ Some file → Handle (temps_left w.temps made) made.after (handed (answer_of made.step made.end) (f.held caller)) file)
        → (k : ℕ) → HasHandle (temps_left w.temps made) made.after (held_after f.held (makes caller made reply) k) (set_state caller (unless_ended reply (option_map (λ (state : State). after state (answer_in made)) (w.states caller))) w.states k)
    moved_handles given k = search (rules, at_caller, own_handles, other_handles)

    lost_none : answer_of made.step made.end ≡ answers.NoMemory made.step → file_given (answer_in made) ≡ None
    lost_none lost = ap (λ (a : NumberedAnswer). file_given (answer_on made.after a)) lost

    -- what the record says of the answer
    answer_given : (luck : Luck) (answer : PlainAnswer) → MayMove now.tree own.0.state luck (Some (step_of made, answer)) reply
        → (answer ≡ answer_in made) ⊎ ((answer_of made.step made.end ≡ answers.NoMemory made.step) × (fault : Fault) × (answer ≡ answers.Failed fault))
        → (file : PlainTemp) → file_given (answer_in made) ≡ Some file → Handle (temps_left w.temps made) made.after (handed (answer_of made.step made.end) (f.held caller)) file
    answer_given luck answer may (inl same) file e =
        handed_own luck (subst (Fits (step_of made)) same may.2) (sym same ∙ may.1) file e
    answer_given luck answer may (inr (lost, fault, failed)) file e = let no : None ≡ Some file = sym (lost_none lost) ∙ e in absurd cc

    -- what a lookup finds has an integrity
    looks_has : (luck : Luck) (answer : PlainAnswer) → MayMove now.tree own.0.state luck (Some (step_of made, answer)) reply → answer ≡ answer_in made
        → (l : Lookup) (bytes : List ℕ) → m.state ≡ looking l → bytes_answered (answer_in made) ≡ Ok bytes → HasIntegrity (found_in l.key bytes)
    looks_has luck answer may same l bytes looks e =
        let cache : l.cache ≡ s.cache = (subst (Sound (call_site s own.0.number) (may_export s) (is_outside s)) looks sound).0 in
        let step : step_of made ≡ steps.ReadAll (bucket_path l.cache l.key)
        = (let both : Some (steps.ReadAll (bucket_path l.cache l.key)) ≡ Some (step_of made) = sym (ap wants looks) ∙ wants_asked in cc) in
        bucket_has s now.tree l.cache l.key bytes luck all.agree.all.placed all.agree.all.rooted all.agree.all.formed cache
        (ap (λ (x : PlainStep). bytes_answered (apply now.tree x luck).0) (sym step) ∙ ap bytes_answered (sym may.1 ∙ same) ∙ e)

    lost_bytes : answer_of made.step made.end ≡ answers.NoMemory made.step → (bytes : List ℕ) → bytes_answered (answer_in made) ≡ Ok bytes → ⊥
    lost_bytes lost bytes e =
        let no : Err refusals.Memory ≡ Ok bytes = sym (ap (λ (a : NumberedAnswer). bytes_answered (answer_on made.after a)) lost) ∙ e in cc

    finds_has : (luck : Luck) (answer : PlainAnswer) → MayMove now.tree own.0.state luck (Some (step_of made, answer)) reply
        → (answer ≡ answer_in made) ⊎ ((answer_of made.step made.end ≡ answers.NoMemory made.step) × (fault : Fault) × (answer ≡ answers.Failed fault))
        → (l : Lookup) (bytes : List ℕ) → m.state ≡ looking l → bytes_answered (answer_in made) ≡ Ok bytes → HasIntegrity (found_in l.key bytes)
    finds_has luck answer may (inl same) l bytes looks e = looks_has luck answer may same l bytes looks e
    finds_has luck answer may (inr (lost, fault, failed)) l bytes looks e = absurd (lost_bytes lost bytes e)

    moved_paths : ((l : Lookup) (bytes : List ℕ) → m.state ≡ looking l → bytes_answered (answer_in made) ≡ Ok bytes → HasIntegrity (found_in l.key bytes))
        → (k : ℕ) → PathsAt (home s) (set_state caller (unless_ended reply (option_map (λ (state : State). after state (answer_in made)) (w.states caller))) w.states k)
    moved_paths has k =
        at_state (PathsAt (home s)) k caller (unless_ended reply (option_map (λ (state : State). after state (answer_in made)) (w.states caller))) (w.states k)
        (λ same new e. subst (HasPaths (home s)) (ended_some reply (w.states caller) m.state new (answer_in made) m.stands e)
        (paths_after (call_site s own.0.number) (may_export s) (is_outside s) (answer_in made) m.state wants_proper sound has_paths has))
        (λ differ. all.paths k)

    may_of : (r : Record) (luck : Luck) (answer : PlainAnswer) → MayCome s now r → r ≡ Moved caller luck (Some (step_of made, answer)) reply → MayMove now.tree own.0.state luck (Some (step_of made, answer)) reply
    may_of r luck answer may is =
        let come : MayCome s now (Moved caller luck (Some (step_of made, answer)) reply) = subst (MayCome s now) is may in
        let same : Some come.0 ≡ Some own.0 = sym come.1 ∙ own.1 in
        let call : come.0 ≡ own.0 = cc in
        subst (λ (x : Call). MayMove now.tree x.state luck (Some (step_of made, answer)) reply) call come.2

    step_so : (g : Follows s w now (makes caller made reply)) → IsRecordOf (makes caller made reply) g.r → Holds s (numbered_after s f (makes caller made reply)) (now_after s now g.r)
    step_so g (inl (luck, answer, is, given)) = record {
      agree = g.agree;
      numbered = next_numbered s now g.r all.numbered;
      few = subst (λ (x : Record). (now_after s now x).begun ≤ 2 ^ 64) (sym is) all.few;
      handles = moved_handles (answer_given luck answer (may_of g.r luck answer g.may is) given);
      opens = moved_open;
      paths = moved_paths (finds_has luck answer (may_of g.r luck answer g.may is) given);
    }
    step_so g (inr (is, failed)) = record {
      agree = g.agree;
      numbered = next_numbered s now g.r all.numbered;
      few = subst (λ (x : Record). (now_after s now x).begun ≤ 2 ^ 64) (sym is) all.few;
      handles = moved_handles (λ file e. let no : None ≡ Some file = sym (failed_none made failed.why failed.failed) ∙ e in absurd cc);
      opens = moved_open;
      paths = moved_paths (λ l bytes looks e. absurd (failed_bytes made failed.why failed.failed bytes e));
    }

    pub step_holds : (g : Follows s w now (makes caller made reply)) → Holds s (numbered_after s f (makes caller made reply)) (now_after s now g.r)
    step_holds g = step_so g g.of_act
