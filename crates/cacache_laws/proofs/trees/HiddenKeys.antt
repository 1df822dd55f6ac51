-- After a tombstone its key leads to nothing, and each other key leads where it led.
-- Removals of contents and tombstones leave each thing in its place.
use Rattle.std.proofs.{Common.{arith, rules, ◌≡◌, ◌≤◌, ℕ, Bool, true, false, cond, nat_le, List, [], ◌∷◌, ◌++◌, Option, None, Some, Result, Ok, Err, inl, inr, length, refl, sym, ap, ap₂, subst, ◌∙◌, leb-true, append-nil}, lemmas.{Grind.{common_steps}, List.Sums.{fold-append}, Slice.Eq.{bytes_eq-Decides}}}
use Rattle.std.specs.{Prelude.{bytes_eq}, List.{AllByRecursion}}
use Rattle.sha1.specs.Sha1.{sha1}
use Rattle.cacache_core.specs.{declared.{errors.{Fault.{Fault, TheVariants.{ShortAppend}}, SerdeCause.{SerdeCause}}, integrity.digest.Hash.{Hash}}, Paths.{Names, home_of, names_below, names_of, bucket_names_of, joined, content_names}, Integrity.{IsHash}}
use Rattle.cacache_store.specs.Plain.{PlainAnswer, PlainStep}
use Rattle.cacache_disk.specs.{declared.luck.Luck.TheVariants.{Plain}, Tree.{Tree, Rooted}, Apply.{apply}}
use Rattle.cacache_disk.proofs.{Roots.{same_self}, Changes.{at_cut, at_put, at_rest, step_at}, KeptFolders.{steps_keep_rooted}}
use Rattle.cacache_entry.{specs.{Entry.{Entry, line_of}, Bucket.{after_entry, latest}}, proofs.EntryCauses.{Fits-no_cause}}
use Rattle.cacache_calls.specs.{declared.{command.Delete.{Delete}, reply.Reply.{Reply, TheVariants.{Done}}}, Common.{fails}, Inserting.{bucket_line, deletion, recorded, refused_cause, unless_refused}, Runs.{Moves, Runs}, State.{Insertion, Site, State, appending, doing, make_folder, over}, Steps.{bucket_folder, bucket_path}, Table.{after, opening}}
use Rattle.cacache_calls.proofs.Sound.{begins_sound, stays_sound}
use Rattle.cacache_value.specs.{Acts.{MakeFolders, act_at, act_of, act_with, change, folders_left, list_of}, Kinds.{is_path_of, Bucket, Content, Elsewhere, Way, path_kind}, Placed.{Placed, Proper}, Value.{Value, wide_value}}
use Rattle.cacache_value.proofs.{MadeFolders.{whole_lines_add}, Traces.{steps_act, steps_keep_placed}, PathKinds.{kind-below}, Temps.{put_for, takes}}
use Rattle.cacache_history.specs.Setup.{Setup, is_outside, may_export}
use Rattle.cacache_history.proofs.{StepActs.{sound_proper}, Histories.ShownTurns.{bucket_below}, Entries.{Spelled.{step_formed}, Bucketed.{ToKeys, step_keyed}, Owned.{AppendsOwn, step_own}}}
use Rattle.cacache_laws.specs.{Caches.{setup_at}, Sequence.{tree_on, AreAnswered}, trees.{Verifying.{TombstonesHide}, Collecting.{Removes}, Housed.{Beside, Housed, Still}}}
use Rattle.cacache_laws.proofs.trees.{Keeping.{stays}, Members.{Member}}
use Rattle.cacache_loss.proofs.StepCases.{dirs_keep, make_keeps}
use Rattle.cacache_store.specs.declared.store.answer.Answer.TheVariants as answers
use Rattle.cacache_store.specs.declared.store.step.Step.TheVariants as steps
use Rattle.cacache_calls.specs.declared.command.Command.TheVariants as commands
use Rattle.cacache_calls.specs.Sound as calls

-- ---- the run of a tombstone

pub ended : (moves : Moves) (r : Reply) → Runs (over r) moves Done → (moves ≡ []) × (r ≡ Done)
ended [] r (inl e) = (refl, cc)
ended [] r (inr e) = absurd cc
ended (m ∷ moves) r run = absurd (let wrong : None ≡ Some m.0 = run.0 in cc)

pair : (m : PlainStep × PlainAnswer) (step : PlainStep) (answer : PlainAnswer) (more rest : Moves) → m.0 ≡ step → m.1 ≡ answer → more ≡ rest → m ∷ more ≡ (step, answer) ∷ rest
pair m step answer more rest e f g = ap₂ (λ (x : PlainStep × PlainAnswer) (l : Moves). x ∷ l) (ap₂ (λ (s : PlainStep) (a : PlainAnswer). (s, a)) e f) g

module _ (site : Site) (d : Delete) where
  abbrev i : Insertion
  i = deletion site.cache d

  -- it makes the bucket's folder and appends the whole line
  pub record Buried (moves : Moves) : Type 0 where
    pub fits : refused_cause i ≡ None
    pub count : ℕ
    pub whole : length (bucket_line i) ≤ count
    pub are : moves ≡ (steps.MakeDirs (bucket_folder site.cache d.key), answers.Done) ∷ (steps.Append (bucket_path site.cache d.key) (bucket_line i), answers.Took count) ∷ []

  took_all : (b : Bool) (n : ℕ) (moves : Moves) → nat_le (length (bucket_line i)) n ≡ b → Runs (cond b (recorded i) (fails ShortAppend)) moves Done → (length (bucket_line i) ≤ n) × (moves ≡ [])
  took_all b n moves e run = grind (arith, ended)

  appended : (t : PlainAnswer) (moves : Moves) → Runs (after (appending i) t) moves Done → (n : ℕ) × (t ≡ answers.Took n) × (length (bucket_line i) ≤ n) × (moves ≡ [])
  appended t moves run = grind (arith, took_all, ended)

  append_run : (moves : Moves) → Runs (appending i) moves Done → (n : ℕ) × (length (bucket_line i) ≤ n) × (moves ≡ (steps.Append (bucket_path site.cache d.key) (bucket_line i), answers.Took n) ∷ [])
  append_run [] (inl e) = absurd cc
  append_run [] (inr e) = absurd cc
  append_run (m ∷ more) run =
      let step : steps.Append (bucket_path site.cache d.key) (bucket_line i) ≡ m.0 = (let e : Some (steps.Append (bucket_path site.cache d.key) (bucket_line i)) ≡ Some m.0 = run.0 in cc) in
      let rest = appended m.1 more run.2 in
      (rest.0, rest.2, pair m (steps.Append (bucket_path site.cache d.key) (bucket_line i)) (answers.Took rest.0) more [] (sym step) rest.1 rest.3)

  made : (t : PlainAnswer) (moves : Moves) → Runs (after (doing (make_folder (bucket_folder site.cache d.key)) (appending i)) t) moves Done → (t ≡ answers.Done) × Runs (appending i) moves Done
  made t moves run = grind (arith, ended)

  inserted : (cause : Option SerdeCause) (moves : Moves) → refused_cause i ≡ cause → Runs (unless_refused i cause) moves Done → Buried moves
  inserted (Some cause) moves e run = absurd (let wrong = (ended moves _ run).1 in cc)
  inserted None [] e (inl f) = absurd cc
  inserted None [] e (inr f) = absurd cc
  inserted None (m ∷ more) e run =
      let step : steps.MakeDirs (bucket_folder site.cache d.key) ≡ m.0 = (let e : Some (steps.MakeDirs (bucket_folder site.cache d.key)) ≡ Some m.0 = run.0 in cc) in
      let first = made m.1 more run.2 in
      let rest = append_run more first.1 in
      record { fits = e; count = rest.0; whole = rest.1; are = pair m (steps.MakeDirs (bucket_folder site.cache d.key)) answers.Done more _ (sym step) first.0 rest.2 }

  pub buried : (moves : Moves) → Runs (opening site (commands.Delete d)) moves Done → Buried moves
  buried moves run = inserted (refused_cause i) moves refl run

-- ---- lookups

latest_more : (key : List ℕ) (es : List Entry) (e : Entry) → latest key (es ++ e ∷ []) ≡ after_entry key (latest key es) e
latest_more key es e = fold-append (after_entry key) None es (e ∷ [])

module _ (cache : List ℕ) (d : Delete) where
  abbrev tomb : Entry
  tomb = (deletion cache d).entry

  apart : (key : List ℕ) (b : Bool) → bytes_eq d.key key ≡ b → (key ≡ d.key → ⊥) → b ≡ false
  apart key true e other = absurd (other (sym ((bytes_eq-Decides d.key key).0 e)))
  apart key false e other = refl

  other_at : (b : Bool) (key : List ℕ) (o : Option (List Entry)) → (key ≡ d.key → ⊥) → latest key (list_of (cond b (Some (list_of o ++ tomb ∷ [])) o)) ≡ latest key (list_of o)
  other_at b key o other = grind (arith, latest_more, apart)

  own_at : (b : Bool) (o : Option (List Entry)) → b ≡ true → latest d.key (list_of (cond b (Some (list_of o ++ tomb ∷ [])) o)) ≡ None
  own_at true o e = latest_more d.key (list_of o) tomb ∙ rw ((bytes_eq-Decides d.key d.key).1 refl) refl
  own_at false o e = absurd cc

-- without a closing byte the line is the entry's
short : (cache : List ℕ) (d : Delete) (n : ℕ) → length (bucket_line (deletion cache d)) ≤ n → length (line_of (deletion cache d).entry) ≤ n
unfolding bucket_line
short cache d n low = search rules

-- ---- its two steps

module _ (site : Site) (d : Delete) (formed : calls.FormedIfWritten (deletion site.cache d)) where
  abbrev x : Setup
  x = setup_at site.cache site.base

  -- each step of a run is proper
  abbrev pub AllProper : Moves → Type 0
  AllProper = AllByRecursion (λ (m : PlainStep × PlainAnswer). Proper (home_of site.cache) m.0)

  pub proper_run : (s : State) (moves : Moves) (r : Reply) → calls.Sound site (may_export x) (is_outside x) s → Runs s moves r → AllProper moves
  proper_run s [] r sound run = tt
  proper_run s (m ∷ moves) r sound run = (
    sound_proper x site.number tt s m.0 sound run.0,
    proper_run (after s m.1) moves r (stays_sound site (may_export x) (is_outside x) s m.0 m.1 sound run.0 run.1) run.2,
  )

  abbrev folder : Option Names
  folder = home_of site.cache

  -- the value after them
  buckets_made : (v : Value) (p digest : List ℕ) → (change folder (act_of (steps.MakeDirs p) Plain answers.Done) v).buckets digest ≡ v.buckets digest
  buckets_made v p digest = search rules

  -- where the bucket lies
  record At : Type 0 where
    names : Names
    named : names_of (bucket_path site.cache d.key) ≡ Ok names
    is : is_path_of (home_of site.cache) (bucket_names_of (sha1 d.key)) names ≡ true

  here : (f : Option Names) (r : Result Names Fault) → r ≡ names_below f (bucket_names_of (sha1 d.key)) → (home : Names) → f ≡ Some home → (names : Names) × (r ≡ Ok names) × (is_path_of f (bucket_names_of (sha1 d.key)) names ≡ true)
  here None r e home is = absurd cc
  here (Some home) r e h is = (home ++ bucket_names_of (sha1 d.key), e, same_self (home ++ bucket_names_of (sha1 d.key)))

  at : (home : Names) → home_of site.cache ≡ Some home → At
  at home is =
      let k = here (home_of site.cache) (names_of (bucket_path site.cache d.key)) (bucket_below x d.key) home is in
      record { names = k.0; named = k.1; is = k.2 }

  pub hides : (home : Names) (moves : Moves) (t : Tree) → home_of site.cache ≡ Some home → Runs (opening site (commands.Delete d)) moves Done → AreAnswered t moves → Placed folder t
      → (latest d.key (list_of ((wide_value folder (tree_on t moves)).buckets (sha1 d.key))) ≡ None)
      × ((key : List ℕ) → (key ≡ d.key → ⊥) → latest key (list_of ((wide_value folder (tree_on t moves)).buckets (sha1 key))) ≡ latest key (list_of ((wide_value folder t).buckets (sha1 key))))
  unfolding bucket_line refused_cause
  hides home moves t is run answered placed =
      let b = buried site d moves run in
      let proper = subst AllProper b.are (proper_run (opening site (commands.Delete d)) moves Done (begins_sound site (may_export x) (is_outside x) (commands.Delete d) formed) run) in
      let a = subst (AreAnswered t) b.are answered in
      let make = steps.MakeDirs (bucket_folder site.cache d.key) in
      let append = steps.Append (bucket_path site.cache d.key) (bucket_line (deletion site.cache d)) in
      let mid = (apply t make Plain).1 in
      let first = steps_act folder t make Plain placed proper.0 in
      let second = steps_act folder mid append Plain (steps_keep_placed folder t make Plain placed proper.0) proper.1.0 in
      let k = at home is in
      let act = whole_lines_add (deletion site.cache d).entry b.count (formed b.fits) (Fits-no_cause (deletion site.cache d).entry (formed b.fits) b.fits) (short site.cache d b.count b.whole) false (bucket_path site.cache d.key) k.names Plain (answers.Took b.count) k.named refl in
      let v = wide_value folder t in
      let value : (digest : List ℕ) → (wide_value folder (tree_on t moves)).buckets digest ≡ cond (is_path_of folder (bucket_names_of digest) k.names) (Some (list_of (v.buckets digest) ++ (deletion site.cache d).entry ∷ [])) (v.buckets digest)
      = λ digest.
      ap (λ (m : Moves). (wide_value folder (tree_on t m)).buckets digest) b.are
      ∙ ap (λ (w : Value). w.buckets digest) second
      ∙ ap (λ (t : PlainAnswer). (change folder (act_of append Plain t) (wide_value folder mid)).buckets digest) (sym a.1.0)
      ∙ ap (λ act. (change folder act (wide_value folder mid)).buckets digest) act
      ∙ ap (λ o. cond (is_path_of folder (bucket_names_of digest) k.names) (Some (list_of o ++ (deletion site.cache d).entry ∷ [])) o)
      (ap (λ (w : Value). w.buckets digest) first ∙ ap (λ (t : PlainAnswer). (change folder (act_of make Plain t) v).buckets digest) (sym a.0) ∙ buckets_made v (bucket_folder site.cache d.key) digest) in (
        ap (λ o. latest d.key (list_of o)) (value (sha1 d.key)) ∙ own_at site.cache d (is_path_of folder (bucket_names_of (sha1 d.key)) k.names) (v.buckets (sha1 d.key)) k.is,
        λ key other. ap (λ o. latest key (list_of o)) (value (sha1 key)) ∙ other_at site.cache d (is_path_of folder (bucket_names_of (sha1 key)) k.names) key (v.buckets (sha1 key)) other,
      )

pub tombstones_hide : TombstonesHide
tombstones_hide site home d moves t is formed run answered placed =
    let h = hides site d formed home moves t is run answered (subst (λ (f : Option Names). Placed f t) (sym is) placed) in
    record {
      own = subst (λ (f : Option Names). latest d.key (list_of ((wide_value f (tree_on t moves)).buckets (sha1 d.key))) ≡ None) is h.0;
      others = λ key other. subst (λ (f : Option Names). latest key (list_of ((wide_value f (tree_on t moves)).buckets (sha1 key))) ≡ latest key (list_of ((wide_value f t).buckets (sha1 key)))) is (h.1 key other);
    }

-- ---- a step

module _ (folder : Option Names) where
  pub step_housed : (t : Tree) (step : PlainStep) → Proper folder step → ToKeys folder step → AppendsOwn folder step → Housed folder t → Housed folder (apply t step Plain).1
  step_housed t step proper to own h = search (rules, steps_keep_placed, step_keyed, step_formed, step_own)

  -- ---- what is next to the cache

  folders_still : (base t : Tree) (p : List ℕ) → Still folder base t → Still folder base (apply t (steps.MakeDirs p) Plain).1
  folders_still base t p h q node k there =
      let is = h q node k there in
      dirs_keep t q (Some node) is p Plain (λ names count named. make_keeps t [] names q node count is)

  no_bucket : (q : Names) → Beside folder q → path_kind folder q ≡ Bucket → ⊥
  no_bucket q h is = grind (arith, common_steps)

  -- an append writes to a bucket
  append_still : (base t : Tree) (p bytes : List ℕ) → Placed folder t → Proper folder (steps.Append p bytes) → Still folder base t → Still folder base (apply t (steps.Append p bytes) Plain).1
  append_still base t p bytes placed proper h q node k there =
      let at = step_at t (steps.Append p bytes) Plain q in
      elim at.2 [
        | at_rest e ↦ e ∙ h q node k there
        | at_put new put e ↦ absurd (no_bucket q k (put_for folder t placed (steps.Append p bytes) at.0 q new proper at.1 put))
        | at_cut cut e ↦ absurd (takes t (steps.Append p bytes) at.0 q at.1 cut)
      ]

-- ---- moves

pub moves_rooted : (moves : Moves) (t : Tree) → Rooted t → Rooted (tree_on t moves)
moves_rooted [] t rooted = rooted
moves_rooted (m ∷ moves) t rooted = moves_rooted moves (apply t m.0 Plain).1 (steps_keep_rooted t m.0 Plain rooted)

-- contents that are removed
pub removes_house : (cache : List ℕ) (folder : Option Names) (hs : List Hash) (t new : Tree) → Removes cache hs t new → Housed folder t → Housed folder new
removes_house cache folder [] t new r h = subst (Housed folder) (sym r) h
removes_house cache folder (g ∷ hs) t new r h =
    removes_house cache folder hs (apply t (steps.RemoveFile (joined cache (content_names g))) Plain).1 new r.1
    (step_housed folder t (steps.RemoveFile (joined cache (content_names g))) tt tt tt h)

pub removes_root : (cache : List ℕ) (hs : List Hash) (t new : Tree) → Removes cache hs t new → Rooted t → Rooted new
removes_root cache [] t new r rooted = subst Rooted (sym r) rooted
removes_root cache (g ∷ hs) t new r rooted =
    removes_root cache hs (apply t (steps.RemoveFile (joined cache (content_names g))) Plain).1 new r.1 (steps_keep_rooted t (steps.RemoveFile (joined cache (content_names g))) Plain rooted)

not_content : (home q : Names) (g : Hash) → Beside (Some home) q → q ≡ home ++ content_names g → ⊥
not_content home q g k e =
    let kind : path_kind (Some home) q ≡ Content = ap (path_kind (Some home)) e ∙ kind-below home (content_names g) in
    elim k [
      | inl out ↦ (let wrong : Elsewhere ≡ Content = sym out ∙ kind in cc)
      | inr way ↦ (let wrong : Way ≡ Content = sym way ∙ kind in cc)
    ]

pub removes_still : (cache : List ℕ) (home : Names) (hs : List Hash) (t new : Tree) → home_of cache ≡ Some home → ((g : Hash) → Member g hs → IsHash g) → Removes cache hs t new → Still (Some home) t new
removes_still cache home hs t new is hashes r q node k there = stays cache home is hs t new q hashes r (λ g m e. not_content home q g k e) ∙ there

-- ---- a tombstone

module _ (site : Site) (d : Delete) (formed : calls.FormedIfWritten (deletion site.cache d)) where
  abbrev make : PlainStep
  make = steps.MakeDirs (bucket_folder site.cache d.key)

  abbrev append : PlainStep
  append = steps.Append (bucket_path site.cache d.key) (bucket_line (deletion site.cache d))

  own_line : refused_cause (deletion site.cache d) ≡ None → AppendsOwn (home_of site.cache) append
  unfolding bucket_line refused_cause
  own_line fits = record {
    entry = (deletion site.cache d).entry;
    formed = formed fits;
    fits = Fits-no_cause (deletion site.cache d).entry (formed fits) fits;
    durable = false;
    same = refl;
    here = bucket_below (setup_at site.cache site.base) d.key;
  }

  two_house : (t : Tree) (fits : refused_cause (deletion site.cache d) ≡ None) → Proper (home_of site.cache) make → Proper (home_of site.cache) append → Housed (home_of site.cache) t
      → Housed (home_of site.cache) (apply (apply t make Plain).1 append Plain).1 × Still (home_of site.cache) t (apply (apply t make Plain).1 append Plain).1
  two_house t fits one two h =
      let first = step_housed (home_of site.cache) t make one tt tt h in (
        step_housed (home_of site.cache) (apply t make Plain).1 append two (d.key, bucket_below (setup_at site.cache site.base) d.key) (own_line fits) first,
        append_still (home_of site.cache) t (apply t make Plain).1 (bucket_path site.cache d.key) (bucket_line (deletion site.cache d)) first.placed two
            (folders_still (home_of site.cache) t t (bucket_folder site.cache d.key) (λ q node k there. there)),
      )

  houses : (moves : Moves) (t : Tree) → Runs (opening site (commands.Delete d)) moves Done → Housed (home_of site.cache) t
      → Housed (home_of site.cache) (tree_on t moves) × Still (home_of site.cache) t (tree_on t moves)
  houses moves t run h =
      let b = buried site d moves run in
      let sound = begins_sound site (may_export (setup_at site.cache site.base)) (is_outside (setup_at site.cache site.base)) (commands.Delete d) formed in
      let proper = subst (AllProper site d formed) b.are (proper_run site d formed (opening site (commands.Delete d)) moves Done sound run) in
      subst (λ ms. Housed (home_of site.cache) (tree_on t ms) × Still (home_of site.cache) t (tree_on t ms)) (sym b.are) (two_house t b.fits proper.0 proper.1.0 h)

-- a call that adds a tombstone leaves each thing in its place, and what is apart from the cache
pub tombstones_house : (site : Site) (home : Names) (d : Delete) (moves : Moves) (t : Tree) → home_of site.cache ≡ Some home
    → calls.FormedIfWritten (deletion site.cache d) → Runs (opening site (commands.Delete d)) moves Done → AreAnswered t moves
    → Housed (Some home) t → Housed (Some home) (tree_on t moves) × Still (Some home) t (tree_on t moves)
tombstones_house site home d moves t is formed run answered h =
    subst (λ f. Housed f (tree_on t moves) × Still f t (tree_on t moves)) is (houses site d formed moves t run (subst (λ f. Housed f t) (sym is) h))
