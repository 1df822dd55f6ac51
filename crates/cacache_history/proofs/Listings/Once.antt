-- A listing reads nothing twice.
use Rattle.std.proofs.{lemmas.{Grind.{common_steps}, List.Elements.{All-nil, All-cons, All-head, All-tail}, Option.{same_Some}}, Common.{rules, ◌≡◌, ◌+◌, ◌-◌, ℕ, Bool, true, false, cond, List, [], ◌∷◌, ◌++◌, Some, Result, Ok, Err, length, take, nat_le, nat_lt, refl, sym, ap, subst, ◌∙◌, arith, append-nil}}
use Rattle.std.specs.Prelude.{All}
use Rattle.cacache_core.specs.{declared.errors.Fault.{Fault}, Paths.{Names, names_of, names_below, IsProperName, join, joined, index_area}}
use Rattle.cacache_core.proofs.JoinedNames.{joined_texts_name}
use Rattle.cacache_core.specs.declared.errors.Fault.TheVariants as faults
use Rattle.cacache_store.specs.{declared.store.answer.{Kind.{Kind}, Name.{Name}}, Plain.{PlainStep, Fits, AreProperNames}}
use Rattle.cacache_store.specs.declared.store.answer.Kind.TheVariants as kinds
use Rattle.cacache_store.specs.declared.store.step.Step.TheVariants as steps
use Rattle.cacache_disk.specs.Apply.{apply}
use Rattle.cacache_calls.specs.{declared.{answers.Refusal.{Refusal}, reply.Reply.{Reply, TheVariants.{Listed, Done}}, visit.{Visit.{Visit, TheVariants.{Enter, ReadBucket}}, Task.{Task, TheVariants.{Make, Stumble}}}}, Answers.{bytes_in, names_in}, Common.{fails, go_on}, Replies.{too_deep}, Runs.{Runs}, State.{State, walking, over, Item, Walk}, Table.{wants, after, opening}, Walking.{most, failed, give, miss, walk_on, task_for_name, tasks_of, leaving, too_many, entered, unread_bucket, listed, visit_step, after_visit}}
use Rattle.cacache_calls.proofs.{Going.{cond_leads}, ListReplies.{pick}}
use Rattle.cacache_calls.specs.declared.answers.Refusal.TheVariants as refusals
use Rattle.cacache_calls.specs.declared.command.Command.TheVariants as commands
use Rattle.cacache_history.specs.{Setup.{Setup, call_site, home}, History.{Turn}, Turns.{made_in, EachTurn}, ListingTurns.{IsIndexFolder, NoneTwice}}
use Rattle.cacache_history.proofs.{Histories.Holding.{TurnHolds, TurnsHold}, Listings.{ToldFolders.{AreDistinct, names_told, listing_distinct}, ListingWalks.{Visits, Tasks, tasks_append, no_leaving, folder_tasks, proper_names, below_is, child_named}}, Entries.Bucketed.{KeyedTurn}, ApartPaths.{ApartAll, AllApart, children, children_apart, BelowSome, below_child, never_below, never_deeper}, Each.{each_weaker}}

-- ---- tasks and turns

abbrev step_path : PlainStep → List ℕ
step_path (steps.ReadDir p) = p
step_path (steps.ReadAll p) = p
step_path step = []

-- the tasks are at these paths
abbrev TasksAt : List Task → List Names → Type 0
TasksAt [] [] = Unit {0}
TasksAt [] (q ∷ qs) = ⊥
TasksAt (Make v ∷ todo) [] = ⊥
TasksAt (Make v ∷ todo) (q ∷ qs) = (names_of (step_path (visit_step v)) ≡ Ok q) × TasksAt todo qs
TasksAt (Stumble fault path ∷ todo) qs = ⊥

at_append : (a b : List Task) (ps qs : List Names) → TasksAt a ps → TasksAt b qs → TasksAt (a ++ b) (ps ++ qs)
at_append [] b [] qs h k = k
at_append (Make v ∷ a) b [] qs h k = absurd h
at_append (Make v ∷ a) b (p ∷ ps) qs h k = (h.0, at_append a b ps qs h.1 k)
at_append a b ps qs h k = absurd h

-- a turn's step lies below one of these paths
Under : List Names → Turn → Type 0
Under qs turn = (q : Names) × (names_of (step_path turn.move.step) ≡ Ok q) × BelowSome qs q

-- the turns lie below these paths, and none makes the step of another
abbrev Once : List Names → List Turn → Type 0
Once qs turns = EachTurn (Under qs) turns × NoneTwice turns

-- a turn at the first path, and turns below the paths in it or below the others
once_more : (q : Names) (qs : List Names) (ns : List Name) (turn : Turn) (turns : List Turn) → names_of (step_path turn.move.step) ≡ Ok q → ApartAll q qs → Once (children q ns ++ qs) turns
    → Once (q ∷ qs) (turn ∷ turns)
unfolding Under
once_more q qs ns turn turns at apart h = search (rules, each_weaker, children, below_child, never_deeper, never_below)

-- the tasks that a folder brings are at its names
child_tasks : (level : ℕ) (p : List ℕ) (q : Names) (ns : List Name) → ((n : Name) → IsProperName n.name → names_of (join p n.name) ≡ Ok (q ++ n.name ∷ [])) → AreProperNames ns
    → (s : Setup) → Tasks s (tasks_of false level p ns) → TasksAt (tasks_of false level p ns) (children q ns)
child_tasks level p q [] named all s tasks = tt
child_tasks level p q (n ∷ ns) named all s tasks =
    by n.kind (child_tasks level p q ns named (All-tail (λ entry. IsProperName entry.name) n ns all) s) tasks
  where
    own : names_of (join p n.name) ≡ Ok (q ++ n.name ∷ [])
    own = named n (All-head (λ entry. IsProperName entry.name) n ns all)

    by_level : (b : Bool) → (Tasks s (tasks_of false level p ns) → TasksAt (tasks_of false level p ns) (children q ns)) → Tasks s (cond b (Make (Enter (join p n.name) (level + 1))) (Stumble faults.TooDeep (join p n.name)) ∷ tasks_of false level p ns)
        → TasksAt (cond b (Make (Enter (join p n.name) (level + 1))) (Stumble faults.TooDeep (join p n.name)) ∷ tasks_of false level p ns) ((q ++ n.name ∷ []) ∷ children q ns)
    by_level true more t = (own, more t.1)
    by_level false more t = absurd t

    by : (kind : Kind) → (Tasks s (tasks_of false level p ns) → TasksAt (tasks_of false level p ns) (children q ns)) → Tasks s (task_for_name false level (join p n.name) kind ∷ tasks_of false level p ns)
        → TasksAt (task_for_name false level (join p n.name) kind ∷ tasks_of false level p ns) ((q ++ n.name ∷ []) ∷ children q ns)
    by kinds.Folder more t = by_level (nat_lt level 16) more t
    by kind more t = (own, more t.1)

module _ (s : Setup) where
  -- a folder's names are at its path, and none is listed twice
  record Brings (p : List ℕ) (level : ℕ) (clears : Bool) (ns : List Name) (q : Names) : Type 0 where
    named : names_of p ≡ Ok q
    distinct : AreDistinct ns
    at : TasksAt (tasks_of clears level p ns) (children q ns)

  brings : (turn : Turn) (p : List ℕ) (level : ℕ) (ns : List Name) (clears : Bool) → clears ≡ false → TurnHolds s turn → KeyedTurn s turn
      → steps.ReadDir p ≡ turn.move.step → Visits s (Enter p level) → names_in turn.move.answer ≡ Ok ns → (q : Names) × Brings p level clears ns q
  brings turn p level ns true no_clear holds keyed step v e = absurd cc
  brings turn p level ns false no_clear holds keyed step v e =
      let answer : turn.move.answer ≡ (apply turn.place (steps.ReadDir p) turn.move.luck).0 = holds.answered ∙ ap (λ x. (apply turn.place x turn.move.luck).0) (sym step) in
      let told = names_told turn.place p turn.move.luck ns (ap names_in (sym answer) ∙ e) in
      let some : All IsProperName (index_area ∷ v.1.0) = All-cons IsProperName index_area v.1.0 (refl, refl, refl) v.1.1 in
      let here : names_below (home s) (index_area ∷ v.1.0) ≡ Ok told.0
      = sym (joined_texts_name s.cache (index_area ∷ v.1.0) some (omega arith)) ∙ ap names_of (sym v.1.3) ∙ told.1 in
      let f = below_is (home s) (index_area ∷ v.1.0) told.0 here in
      let all = proper_names p turn.move.answer ns (subst (λ x. Fits x turn.move.answer) (sym step) holds.fits) e in (
        told.0,
        record {
          named = told.1;
          distinct = subst AreDistinct told.3 (listing_distinct turn.place told.0);
          at = child_tasks level p told.0 ns (λ n own. named_at n.name f.0 v.1.0 v.1.1 told.0 f.1 f.2 v.1.3 own) all s (folder_tasks s turn p level ns false refl holds keyed step v e);
        },
      )
    where
      named_at : (n : List ℕ) (folder names : Names) → All IsProperName names → (q : Names) → home s ≡ Some folder → folder ++ index_area ∷ names ≡ q → p ≡ joined s.cache (index_area ∷ names) → IsProperName n
          → names_of (join p n) ≡ Ok (q ++ n ∷ [])
      named_at n folder names proper q is same path own = child_named s p folder names n proper is path own ∙ ap (λ x. Ok (x ++ n ∷ [])) same

  -- ---- runs

  abbrev Rest : State → List Turn → Type 0
  Rest (walking w v todo) turns =
      w.clears ≡ false → Visits s v → Tasks s todo → (q : Names) (qs : List Names) → names_of (step_path (visit_step v)) ≡ Ok q → TasksAt todo qs → AllApart (q ∷ qs) → Once (q ∷ qs) turns
  Rest (over reply) turns = turns ≡ []
  Rest st turns = Unit {0}

  ends : (qs : List Names) (turns : List Turn) → turns ≡ [] → Once qs turns
  ends qs turns e = subst (Once qs) (sym e) (tt, tt)

  goes_on : (turns : List Turn) (todo : List Task) (qs : List Names) → Tasks s todo → TasksAt todo qs → AllApart qs → (w : Walk) → w.clears ≡ false → Rest (walk_on todo w) turns → Once qs turns
  goes_on turns [] qs tasks at apart w e h = ends qs turns (pick (λ st. Rest st turns) w.clears (over Done) (over (Listed w.items)) e h)
  goes_on turns (Make v ∷ todo) [] tasks at apart w e h = absurd at
  goes_on turns (Make v ∷ todo) (q ∷ qs) tasks at apart w e h = h e tasks.0 tasks.1 q qs at.0 at.1 apart
  goes_on turns (Stumble fault path ∷ todo) qs tasks at apart w e h = absurd tasks

  module _ (turns : List Turn) (todo : List Task) (qs : List Names) (tasks : Tasks s todo) (at : TasksAt todo qs) (apart : AllApart qs) (w : Walk) (e : w.clears ≡ false) where
    too_many_ends : (v : Walk) → v.clears ≡ false → Rest (too_many v) turns → Once qs turns
    too_many_ends v c h = ends qs turns (pick (λ st. Rest st turns) v.clears (fails faults.TooDeep) (over (Listed (v.items ++ too_deep ∷ []))) c h)

    gives : (new : List Item) → Rest (give w new (walk_on todo)) turns → Once qs turns
    gives new h =
        let next : Walk = record w { items = w.items ++ new } in
        let full : Walk = record w { items = take most (w.items ++ new) } in
        cond_leads (λ st. Rest st turns → Once qs turns) (nat_le (length w.items + length new) most) (walk_on todo next) (too_many full)
        (λ fits g. goes_on turns todo qs tasks at apart next e g) (λ long g. too_many_ends full e g) h

    misses : (fault : Fault) → Rest (miss w (walk_on todo) fault) turns → Once qs turns
    misses fault h = gives (failed fault ∷ []) (pick (λ st. Rest st turns) w.clears (fails fault) (give w (failed fault ∷ []) (walk_on todo)) e h)

    reads : (a : Result (List ℕ) Refusal) → Rest (go_on a (unread_bucket w todo) (listed w todo)) turns → Once qs turns
    reads a h = grind (arith, gives, goes_on, misses, ends)

  -- what follows a folder once its names were given
  entered_once : (turns : List Turn) (todo : List Task) (q : Names) (qs : List Names) (p : List ℕ) (level : ℕ) (ns : List Name) (w : Walk) → w.clears ≡ false → Tasks s todo → TasksAt todo qs → ApartAll q qs → AllApart qs
      → Tasks s (tasks_of w.clears level p ns) → Brings p level w.clears ns q → Rest (entered w p level todo ns) turns → Once (children q ns ++ qs) turns
  entered_once turns todo q qs p level ns w e tasks at first apart own b h =
      let leave : List Task = leaving w.clears level p in
      let all : List Task = tasks_of w.clears level p ns ++ leaving w.clears level p ++ todo in
      let kept : Tasks s (tasks_of w.clears level p ns ++ leaving w.clears level p ++ todo)
      = tasks_append s (tasks_of w.clears level p ns ++ leaving w.clears level p) todo (tasks_append s (tasks_of w.clears level p ns) (leaving w.clears level p) own (no_leaving s w.clears level p e)) tasks in
      let places : TasksAt (tasks_of w.clears level p ns ++ leaving w.clears level p ++ todo) (children q ns ++ qs)
      = at_append (tasks_of w.clears level p ns ++ leaving w.clears level p) todo (children q ns) qs (nothing_left w.clears level p (tasks_of w.clears level p ns) (children q ns) e b.at) at in
      let apart_all : AllApart (children q ns ++ qs) = children_apart q ns qs b.distinct first apart in
      let next : Walk = record w { left = w.left - length ns } in
      cond_leads (λ st. Rest st turns → Once (children q ns ++ qs) turns) (nat_le (length ns) w.left) (walk_on all next) (too_many w)
      (λ fits g. goes_on turns all (children q ns ++ qs) kept places apart_all next e g)
      (λ long g. too_many_ends turns all (children q ns ++ qs) kept places apart_all w e w e g) h
    where
      nothing_left : (clears : Bool) (level : ℕ) (p : List ℕ) (a : List Task) (ps : List Names) → clears ≡ false → TasksAt a ps → TasksAt (a ++ leaving clears level p) ps
      nothing_left true level p a ps e h = absurd cc
      nothing_left false level p a ps e h = subst (λ l. TasksAt l ps) (sym (append-nil a)) h

  -- what follows a folder, or its failure, with no names
  enter_once : (turn : Turn) (turns : List Turn) (todo : List Task) (q : Names) (qs : List Names) (p : List ℕ) (level : ℕ) (w : Walk) (a : Result (List Name) Refusal) → names_in turn.move.answer ≡ a
      → w.clears ≡ false → TurnHolds s turn → KeyedTurn s turn → steps.ReadDir p ≡ turn.move.step → Visits s (Enter p level) → Tasks s todo → names_of p ≡ Ok q → TasksAt todo qs → AllApart (q ∷ qs)
      → Rest (go_on a (miss w (walk_on todo)) (entered w p level todo)) turns → Once (q ∷ qs) (turn ∷ turns)
  enter_once turn turns todo q qs p level w (Ok ns) got e holds keyed is v tasks named at apart h =
      let b = brings turn p level ns w.clears e holds keyed is v got in
      let path : ◌≡◌ {A = Result Names Fault} (Ok b.0) (Ok q) = sym b.1.named ∙ named in
      let same : b.0 ≡ q = cc in
      once_more q qs ns turn turns (ap (λ x. names_of (step_path x)) (sym is) ∙ named) apart.0
      (entered_once turns todo q qs p level ns w e tasks at apart.0 apart.1 (folder_tasks s turn p level ns w.clears e holds keyed is v got) (subst (Brings p level w.clears ns) same b.1) h)
  enter_once turn turns todo q qs p level w (Err (refusals.Fault fault)) got e holds keyed is v tasks named at apart h =
      once_more q qs [] turn turns (ap (λ x. names_of (step_path x)) (sym is) ∙ named) apart.0 (misses turns todo qs tasks at apart.1 w e fault h)
  enter_once turn turns todo q qs p level w (Err refusals.Memory) got e holds keyed is v tasks named at apart h =
      once_more q qs [] turn turns (ap (λ x. names_of (step_path x)) (sym is) ∙ named) apart.0 (ends qs turns h)

  visit_once : (w : Walk) (v : Visit) (todo : List Task) (turn : Turn) (turns : List Turn) → TurnHolds s turn → KeyedTurn s turn → visit_step v ≡ turn.move.step → w.clears ≡ false → Visits s v → Tasks s todo
      → (q : Names) (qs : List Names) → names_of (step_path (visit_step v)) ≡ Ok q → TasksAt todo qs → AllApart (q ∷ qs) → Rest (after_visit w v todo turn.move.answer) turns → Once (q ∷ qs) (turn ∷ turns)
  visit_once w (Enter p level) todo turn turns holds keyed is e v tasks q qs named at apart h =
      enter_once turn turns todo q qs p level w (names_in turn.move.answer) refl e holds keyed is v tasks named at apart h
  visit_once w (ReadBucket p) todo turn turns holds keyed is e v tasks q qs named at apart h =
      once_more q qs [] turn turns (ap (λ x. names_of (step_path x)) (sym is) ∙ named) apart.0 (reads turns todo qs tasks at apart.1 w e (bytes_in turn.move.answer) h)
  visit_once w other todo turn turns holds keyed is e v tasks q qs named at apart h = absurd v

  before : (st : State) (turn : Turn) (turns : List Turn) → TurnHolds s turn → KeyedTurn s turn → wants st ≡ Some turn.move.step → Rest (after st turn.move.answer) turns → Rest st (turn ∷ turns)
  before (walking w v todo) turn turns holds keyed is h =
      λ e visits tasks q qs named at apart. visit_once w v todo turn turns holds keyed (same_Some (visit_step v) turn.move.step is) e visits tasks q qs named at apart h
  before (over reply) turn turns holds keyed is h = absurd cc
  before st turn turns holds keyed is h = tt

  none_made : (st : State) → Rest st []
  none_made st = grind (arith, common_steps)

  module _ (r : Reply) where
    runs_rest : (st : State) (turns : List Turn) → TurnsHold s turns → EachTurn (KeyedTurn s) turns → Runs st (made_in turns) r → Rest st turns
    runs_rest st [] hold keyed run = none_made st
    runs_rest st (turn ∷ turns) hold keyed run = before st turn turns hold.0 keyed.0 run.0 (runs_rest (after st turn.move.answer) turns hold.1 keyed.1 run.2)

    -- the top has no names: it can't be read
    first_alone : (turn : Turn) (turns : List Turn) → Once [] turns → NoneTwice (turn ∷ turns)
    unfolding Under
    first_alone turn turns h = (each_weaker (Under []) (λ later. later.move.step ≡ turn.move.step → ⊥) (λ later u same. u.2) turns h.0, h.1)

    unread : (turn : Turn) (turns : List Turn) (top : List ℕ) (w : Walk) (fault : Fault) → names_of top ≡ Err fault → TurnHolds s turn → steps.ReadDir top ≡ turn.move.step → w.clears ≡ false
        → (a : Result (List Name) Refusal) → names_in turn.move.answer ≡ a → Rest (go_on a (miss w (walk_on [])) (entered w top 0 [])) turns → Once [] turns
    unread turn turns top w fault none holds is e (Ok ns) got h =
        let answer : turn.move.answer ≡ (apply turn.place (steps.ReadDir top) turn.move.luck).0 = holds.answered ∙ ap (λ x. (apply turn.place x turn.move.luck).0) (sym is) in
        let told = names_told turn.place top turn.move.luck ns (ap names_in (sym answer) ∙ got) in
        let differ : ◌≡◌ {A = Result Names Fault} (Err fault) (Ok told.0) = sym none ∙ told.1 in
        absurd cc
    unread turn turns top w fault none holds is e (Err (refusals.Fault own)) got h = misses turns [] [] tt tt tt w e own h
    unread turn turns top w fault none holds is e (Err refusals.Memory) got h = ends [] turns h

    unnamed : (n : ℕ) (fault : Fault) (turns : List Turn) → names_of (join s.cache index_area) ≡ Err fault → TurnsHold s turns → EachTurn (KeyedTurn s) turns
        → Runs (opening (call_site s n) commands.Ls) (made_in turns) r → NoneTwice turns
    unnamed n fault [] none hold keyed run = tt
    unnamed n fault (turn ∷ turns) none hold keyed run =
        first_alone turn turns
        (unread turn turns (join s.cache index_area) (record { clears = false; items = []; left = most }) fault none hold.0 (same_Some (steps.ReadDir (join s.cache index_area)) turn.move.step run.0) refl
        (names_in turn.move.answer) refl (runs_rest (after (opening (call_site s n) commands.Ls) turn.move.answer) turns hold.1 keyed.1 run.2))

    pub none_twice : (n : ℕ) (turns : List Turn) → TurnsHold s turns → EachTurn (KeyedTurn s) turns → Runs (opening (call_site s n) commands.Ls) (made_in turns) r → NoneTwice turns
    none_twice n turns hold keyed run = by (names_of (join s.cache index_area)) refl
      where
        by : (x : Result Names Fault) → names_of (join s.cache index_area) ≡ x → NoneTwice turns
        by (Ok q) is =
            let top : IsIndexFolder s (join s.cache index_area) = ([], All-nil IsProperName, omega arith, refl) in
            (runs_rest (opening (call_site s n) commands.Ls) turns hold keyed run refl (top, ([], All-nil IsProperName, omega arith, refl, refl)) tt q [] is tt (tt, tt)).1
        by (Err fault) is = unnamed n fault turns is hold keyed run
