-- What turns do follows from the effects of their steps.
use Rattle.std.proofs.{lemmas.Grind.{common_steps}, Common.{◌≡◌, ◌⊎◌, ◌≤◌, ℕ, Bool, List, [], ◌∷◌, ◌++◌, Option, Some, Result, Ok, Err, length, take, refl, sym, ap, subst, ◌∙◌, append-nil, arith}}
use Rattle.cacache_core.specs.{declared.errors.Fault.{Fault}, Paths.{Names, names_of}}
use Rattle.cacache_store.specs.{declared.store.plain.PlainTemp.{PlainTemp}, Plain.{PlainStep, PlainAnswer}}
use Rattle.cacache_store.specs.declared.store.step.Step.TheVariants as steps
use Rattle.cacache_store.specs.declared.store.answer.Answer.TheVariants as answers
use Rattle.cacache_disk.specs.{declared.luck.Luck.{Luck}, Tree.{Tree}, LedTo.{place, free, replaceable, known, kept}, Apply.{apply, unless}}
use Rattle.cacache_entry.specs.{Entry.{Entry, line_of, closed_line}, Bucket.{entries_of}, FittingEntries.{IsEntry, IsWritable}}
use Rattle.cacache_calls.specs.Effects.{Effect, stored, sent, changed, effect, effects_of, TookAll}
use Rattle.cacache_value.specs.Acts.{PutBytes, AddEntries, MakeFolders, act_at, act_with, folders_left, amount_left, act_of}
use Rattle.cacache_value.proofs.{MadeFolders.{whole_closed, torn_closed}, Shows.{apply_answer}, Applying.{unreachable}}
use Rattle.cacache_history.specs.{Setup.{Setup}, History.{Turn}, Turns.{made_in, EachTurn}, Commits.{Deed, does, finds, deeds_of_act, finds_in, deeds}}
use Rattle.cacache_history.proofs.{Contents.Carrying.{Own, own_bytes, own_link, put_own, Holds, IsTarget, Makes}, Histories.Holding.{TurnsHold}}

-- ---- steps on texts that name nothing fail

abbrev IsFailed : PlainAnswer → Type 0
IsFailed (answers.Failed fault) = Unit {0}
IsFailed a = ⊥

unless_fails : {A : Type 0} (r : Result A Fault) (t : Tree) (go : A → PlainAnswer × Tree) → ((x : A) → IsFailed (go x).0) → IsFailed (unless r t go).0
unless_fails r t go h = grind (arith, common_steps)

pub no_place : (t : Tree) (path : List ℕ) (fault : Fault) → names_of path ≡ Err fault → place t path ≡ Err fault
unfolding place
no_place t path fault e = rw e refl

no_persist : (t : Tree) (path : List ℕ) (fault : Fault) → names_of path ≡ Err fault → replaceable t path ≡ Err fault
unfolding replaceable
no_persist t path fault e = rw (no_place t path fault e) refl

no_link : (t : Tree) (path : List ℕ) (fault : Fault) → names_of path ≡ Err fault → free t path ≡ Err fault
unfolding free
no_link t path fault e = rw (no_place t path fault e) refl

module _ (t : Tree) (path : List ℕ) (luck : Luck) (fault : Fault) (e : names_of path ≡ Err fault) where
  append_fails : (bytes : List ℕ) → IsFailed (apply t (steps.Append path bytes) luck).0
  append_fails bytes = apply_answer IsFailed (λ other. tt) t (steps.Append path bytes) luck (λ most. rw (unreachable t path fault e) tt)

  persist_fails : (file : PlainTemp) → IsFailed (apply t (steps.Persist file path) luck).0
  persist_fails file =
      apply_answer IsFailed (λ other. tt) t (steps.Persist file path) luck
      (λ most. unless_fails (known file.bytes) t _ (λ bytes. unless_fails (kept t file.path) t _ (λ old. rw (no_persist t path fault e) tt)))

  link_fails : (target : List ℕ) → IsFailed (apply t (steps.Symlink target path) luck).0
  link_fails target = apply_answer IsFailed (λ other. tt) t (steps.Symlink target path) luck (λ most. rw (no_link t path fault e) tt)

-- ---- effects and deeds

-- a content was put at this path, or found there
abbrev pub PutsAt : Own → List ℕ → Deed → Type 0
PutsAt own path (does act) = (names : Names) × (names_of path ≡ Ok names) × (act ≡ put_own own names)
PutsAt own path (finds found) = found ≡ path

-- nothing, and not all of the line was taken; or the entry
abbrev pub SendsEntry : List ℕ → Entry → PlainAnswer → List Deed → Type 0
SendsEntry path e a new =
    ((new ≡ []) × (TookAll (line_of e) a → ⊥))
    ⊎ ((names : Names) × (names_of path ≡ Ok names) × (new ≡ does (AddEntries names (e ∷ [])) ∷ []))

abbrev pub SendsAt : List ℕ → List ℕ → PlainAnswer → List Deed → Type 0
SendsAt path line a new = (e : Entry) (durable : Bool) → IsEntry e → IsWritable e → line ≡ closed_line durable e → SendsEntry path e a new

-- the deeds of these effects
abbrev pub Realizes : Own → List Effect → List Deed → Type 0
Realizes own [] ds = ds ≡ []
Realizes own (stored path ∷ es) ds = (d : Deed) × (more : List Deed) × (ds ≡ d ∷ more) × PutsAt own path d × Realizes own es more
Realizes own (sent path line a ∷ es) ds = (new : List Deed) × (more : List Deed) × (ds ≡ new ++ more) × SendsAt path line a new × Realizes own es more
Realizes own (changed step ∷ es) ds = (new : List Deed) × (more : List Deed) × (ds ≡ new ++ more) × Realizes own es more

-- ---- one step

failed_took : (line : List ℕ) (a : PlainAnswer) → IsFailed a → TookAll line a → ⊥
failed_took line a f h = grind (arith, common_steps)

took_left : (line : List ℕ) (luck : Luck) (a : PlainAnswer) → TookAll line a → (n : ℕ) × (amount_left luck a ≡ Some n) × (length line ≤ n)
took_left line luck (answers.Took n) h = (n, refl, h)
took_left line luck a h = absurd h

-- a closed line that was taken whole was taken without what closes it
pub took_entry : (durable : Bool) (e : Entry) (a : PlainAnswer) → TookAll (closed_line durable e) a → TookAll (line_of e) a
took_entry durable e a h = grind (arith, common_steps)

module _ (path : List ℕ) (e : Entry) (durable : Bool) (formed : IsEntry e) (fits : IsWritable e) (luck : Luck) (a : PlainAnswer) where
  -- what an append of the line did, if so much of it was left
  left_deeds : Names → Option ℕ → List Deed
  left_deeds names left = deeds_of_act (act_with left (λ count. AddEntries names (entries_of (take count (closed_line durable e))))) ++ []

  left_sends : (names : Names) (left : Option ℕ) → names_of path ≡ Ok names → amount_left luck a ≡ left → SendsEntry path e a (left_deeds names left)
  unfolding left_deeds
  left_sends names left is amount = grind (arith, took_left, whole_closed, torn_closed)

  append_sends : (t : Tree) (r : Result Names Fault) → names_of path ≡ r → a ≡ (apply t (steps.Append path (closed_line durable e)) luck).0
      → SendsEntry path e a (deeds_of_act (act_at r (λ names. act_with (amount_left luck a) (λ count. AddEntries names (entries_of (take count (closed_line durable e)))))) ++ [])
  unfolding left_deeds
  append_sends t r is answered = grind (arith, left_sends, failed_took, append_fails)

folders_nothing : (r : Result Names Fault) (luck : Luck) (a : PlainAnswer) → deeds_of_act (act_at r (λ names. act_with (folders_left names luck a) (MakeFolders names))) ≡ []
folders_nothing r luck a = grind (arith, common_steps)

module _ (own : Own) (t : Tree) (luck : Luck) (es : List Effect) (ds : List Deed) (h : Realizes own es ds) where
  Goes : PlainStep → PlainAnswer → Type 0
  Goes step a = Realizes own (effect step a es) ((deeds_of_act (act_of step luck a) ++ finds_in step a) ++ ds)

  asks : (path : List ℕ) (a : PlainAnswer) → Goes (steps.Exists path) a
  unfolding Goes
  asks path a = grind (arith, common_steps)

  persists : (file : PlainTemp) (path : List ℕ) (a : PlainAnswer) (r : Result Names Fault) (own_is : Own) → own ≡ own_is → names_of path ≡ r → a ≡ (apply t (steps.Persist file path) luck).0
      → Holds own_is file [] → Goes (steps.Persist file path) a
  unfolding Goes
  persists file path answers.Done (Ok names) (own_bytes bytes place) o e is m =
      let all : m.0 ≡ bytes = sym (append-nil m.0) ∙ m.2 in
      (does (PutBytes names m.0), ds, rw (e, m.1) refl, (names, e, ap (PutBytes names) all ∙ ap (λ x. put_own x names) (sym o)), h)
  persists file path answers.Done (Ok names) (own_link target) o e is m = absurd m.2
  persists file path answers.Done (Err fault) own_is o e is m = absurd (subst IsFailed (sym is) (persist_fails t path luck fault e file))
  persists file path a r own_is o e is m = h

  links : (target path : List ℕ) (a : PlainAnswer) (r : Result Names Fault) (own_is : Own) → own ≡ own_is → names_of path ≡ r → a ≡ (apply t (steps.Symlink target path) luck).0
      → IsTarget own_is target → Goes (steps.Symlink target path) a
  unfolding Goes
  links target path a r own_is o e is m = grind (arith, own_link, put_own, own_bytes, link_fails)

  appends : (path line : List ℕ) (a : PlainAnswer) → a ≡ (apply t (steps.Append path line) luck).0 → Goes (steps.Append path line) a
  unfolding Goes
  appends path line a is = (
    deeds_of_act (act_of (steps.Append path line) luck a) ++ [],
    ds,
    refl,
    (λ e durable formed fits same.
        subst (λ l. SendsEntry path e a (deeds_of_act (act_of (steps.Append path l) luck a) ++ [])) (sym same)
        (append_sends path e durable formed fits luck a t (names_of path) refl (is ∙ ap (λ l. (apply t (steps.Append path l) luck).0) same))),
    h,
  )

  one_step : (step : PlainStep) (a : PlainAnswer) → a ≡ (apply t step luck).0 → Makes own step → Goes step a
  unfolding Goes
  one_step (steps.MakeDirs p) a is m = subst (λ new. Realizes own es ((new ++ []) ++ ds)) (sym (folders_nothing (names_of p) luck a)) h
  one_step (steps.Persist file p) a is m = persists file p a (names_of p) own refl refl is m.0
  one_step (steps.Symlink target p) a is m = links target p a (names_of p) own refl refl is m
  one_step (steps.Append p line) a is m = appends p line a is
  one_step (steps.Exists p) a is m = asks p a
  one_step (steps.Copy p q) a is m = ([], ds, refl, h)
  one_step (steps.Reflink p q) a is m = ([], ds, refl, h)
  one_step (steps.HardLink p q) a is m = ([], ds, refl, h)
  one_step (steps.RemoveFile p) a is m = (_, ds, refl, h)
  one_step (steps.RemoveDir p) a is m = (_, ds, refl, h)
  one_step step a is m = h

-- ---- all turns

pub turns_realize : (s : Setup) (own : Own) (turns : List Turn) → TurnsHold s turns → EachTurn (λ turn. Makes own turn.move.step) turns → Realizes own (effects_of (made_in turns)) (deeds turns)
unfolding Goes
turns_realize s own [] hold makes = refl
turns_realize s own (turn ∷ turns) hold makes =
    one_step own turn.place turn.move.luck (effects_of (made_in turns)) (deeds turns) (turns_realize s own turns hold.1 makes.1) turn.move.step turn.move.answer hold.0.answered makes.0
