-- A listing answers what its turns gave.
use Rattle.std.proofs.{lemmas.{Grind.{common_steps}, Bool.{leb-true, leb-false, or_right}, List.{take_all, take_at, Elements.{All-nil}}, Option.{same_Some}}, Common.{rules, ◌≡◌, ◌⊎◌, inl, inr, ◌≤◌, ◌<◌, ◌+◌, ◌-◌, ℕ, true, false, cond, ◌||◌, List, [], ◌∷◌, ◌++◌, Option, None, Some, Result, Ok, Err, length, take, drop, nat_le, nat_lt, refl, sym, ap, subst, ◌∙◌, arith, append-nil, length-append}}
use Rattle.std.specs.Prelude.{All}
use Rattle.sha1.specs.Sha1.{sha1}
use Rattle.cacache_core.specs.{declared.errors.{Fault.{Fault}, Error.TheVariants.{OutOfMemory}}, Paths.{IsProperName, join, joined, bucket_names, index_area}}
use Rattle.cacache_core.specs.declared.errors.Fault.TheVariants as faults
use Rattle.hex.specs.Hex.{encode_lower}
use Rattle.cacache_store.specs.{declared.store.answer.Name.{Name}, Plain.{PlainStep, PlainAnswer, Fits}}
use Rattle.cacache_store.specs.declared.store.answer.Answer.TheVariants as answers
use Rattle.cacache_store.specs.declared.store.step.Step.TheVariants as steps
use Rattle.cacache_calls.specs.{declared.{answers.Refusal.{Refusal}, reply.Reply.{Reply, TheVariants.{Listed, Done, Refused}}, visit.{Visit.{Visit, TheVariants.{Enter, ReadBucket}}, Task.{Task, TheVariants.{Make, Stumble}}}}, Answers.{bytes_in, names_in}, Common.{fails, go_on}, Replies.{by_bucket, by_folder, given_by, too_deep}, Steps.{bucket_path}, Runs.{Runs, plain_reply}, State.{State, walking, over, Item, Walk}, Table.{wants, after, opening}, Walking.{most, failed, give, miss, walk_on, tasks_of, leaving, too_many, entered, unread_bucket, listed, items_in, visit_step, after_visit}}
use Rattle.cacache_calls.proofs.{Going.{cond_leads}, ListReplies.{pick}}
use Rattle.cacache_calls.specs.declared.answers.Refusal.TheVariants as refusals
use Rattle.cacache_calls.specs.declared.command.Command.TheVariants as commands
use Rattle.cacache_history.specs.{Setup.{Setup, call_site}, History.{Turn, History, IsLegal, Reaches}, Turns.{made_in, EachTurn, bucket_read, by_entries}, ListingTurns.{IsIndexFolder, IsFound, TurnGives, TurnsGive, count_in, is_past, listing_of, AnyTurn, HasBucket, TurnReadsBucket, FailsAbove, FindsBuckets, ListsHeld, ListsValue, ListingsReadValue}}
use Rattle.cacache_history.proofs.{Histories.{Holding.{TurnHolds, TurnsHold}, ShownTurns.{bucket_below, lists_bucket}, Places.{reached, reply_run, lost_run, memory_plain}}, Entries.{Owned.{bucket_found}, Bucketed.{KeyedTurn, turns_keyed}}, Listings.{Once.{none_twice}, ListedOnce.{no_key_twice, is_lt, far, ended, ended_now, far_more, ended_more}, ListingWalks.{Visits, Tasks, tasks_append, no_leaving, folder_tasks, CoversAny, covers_left, covers_right, folder_covers}}}

module _ (s : Setup) (r : Reply) where
  abbrev Sees : List ℕ → Turn → Type 0
  Sees key turn = TurnReadsBucket s key turn ⊎ FailsAbove s key turn

  -- the turns find each bucket that a task leads to
  abbrev Finds : Walk → List Task → List Turn → List Item → Type 0
  Finds w tasks turns items = far w.items w.left turns items ≡ false → (key : List ℕ) → EachTurn (HasBucket s key) turns → CoversAny s key tasks → AnyTurn (Sees key) turns

  -- what the further turns of a walk give with these tasks, and what it answers then
  abbrev Gives : Walk → List Task → List Turn → Type 0
  Gives w tasks turns = (items : List Item) × TurnsGive s turns items × ((r ≡ Refused OutOfMemory) ⊎ ((r ≡ Listed (ended w.items w.left turns items)) × Finds w tasks turns items))

  abbrev Rest : State → List Turn → Type 0
  Rest (walking w v todo) turns = w.clears ≡ false → length w.items ≤ most → Visits s v → Tasks s todo → Gives w (Make v ∷ todo) turns
  Rest (over reply) turns = (turns ≡ []) × ((r ≡ reply) ⊎ (r ≡ Refused OutOfMemory))
  Rest st turns = Unit {0}

  -- ---- the end

  no_more : (w : Walk) (turns : List Turn) → length w.items ≤ most → turns ≡ [] → (r ≡ Listed w.items) ⊎ (r ≡ Refused OutOfMemory) → Gives w [] turns
  no_more w turns le none is = search (rules, ended_now)

  -- past the most names or items
  past : (w : Walk) (tasks : List Task) (new list : List Item) (turn : Turn) (turns : List Turn) → TurnGives s turn turn.move.step new
      → (nat_lt w.left (count_in (names_in turn.move.answer) + 0) || nat_lt most (length (w.items ++ new))) ≡ true
      → list ≡ take most (w.items ++ new) ++ too_deep ∷ [] → turns ≡ [] → (r ≡ Listed list) ⊎ (r ≡ Refused OutOfMemory) → Gives w tasks (turn ∷ turns)
  past w tasks new list turn turns gives long is none end =
      let same : ended w.items w.left (turn ∷ []) (new ++ []) ≡ list
      = ap (λ l. ended w.items w.left (turn ∷ []) l) (append-nil new)
      ∙ ap (λ b. cond b (take most (w.items ++ new) ++ too_deep ∷ []) (w.items ++ new)) long ∙ sym is in
      let over : far w.items w.left (turn ∷ []) (new ++ []) ≡ true = ap (far w.items w.left (turn ∷ [])) (append-nil new) ∙ long in
      subst (λ l. Gives w tasks (turn ∷ l)) (sym none) (
        new ++ [],
        (new, [], refl, gives, refl),
        elim end [ inl e ↦ inr (e ∙ ap Listed (sym same), λ near key each covers. let differ : true ≡ false = sym over ∙ near in absurd cc) | inr e ↦ inl e ],
      )

  lost : (w : Walk) (tasks : List Task) (new : List Item) (turn : Turn) (turns : List Turn) → TurnGives s turn turn.move.step new → Rest (over (Refused OutOfMemory)) turns → Gives w tasks (turn ∷ turns)
  lost w tasks new turn turns gives h = subst (λ l. Gives w tasks (turn ∷ l)) (sym h.0) (new ++ [], (new, [], refl, gives, refl), elim h.1 [ inl e ↦ inl e | inr e ↦ inl e ])

  -- ---- a turn, and those after it

  -- what leads to a bucket that is there is followed, or leads on
  abbrev Follows : Turn → List Task → List Task → Type 0
  Follows turn tasks left = (key : List ℕ) → HasBucket s key turn → CoversAny s key tasks → Sees key turn ⊎ CoversAny s key left

  more : (w next : Walk) (tasks left : List Task) (new : List Item) (n : ℕ) (turn : Turn) (turns : List Turn) → next.items ≡ w.items ++ new → next.left ≡ w.left - n → n ≡ count_in (names_in turn.move.answer) → n ≤ w.left
      → TurnGives s turn turn.move.step new → Follows turn tasks left → Gives next left turns → Gives w tasks (turn ∷ turns)
  more w next tasks todo new n turn turns items left is le gives follows g =
      let same : ended next.items next.left turns g.0 ≡ ended w.items w.left (turn ∷ turns) (new ++ g.0)
      = ap (λ l. ended l next.left turns g.0) items ∙ ap (λ k. ended (w.items ++ new) k turns g.0) left ∙ ended_more w.items new w.left n turn turns g.0 is le in
      let alike : far next.items next.left turns g.0 ≡ far w.items w.left (turn ∷ turns) (new ++ g.0)
      = ap (λ l. far l next.left turns g.0) items ∙ ap (λ k. far (w.items ++ new) k turns g.0) left ∙ far_more w.items new w.left n turn turns g.0 is le in (
        new ++ g.0,
        (new, g.0, refl, gives, g.1),
        elim g.2 [
          | inl e ↦ inl e
          | inr e ↦ inr (e.0 ∙ ap Listed same, λ near key each covers. elim (follows key each.0 covers) [ inl sees ↦ inl sees | inr c ↦ inr (e.1 (alike ∙ near) key each.1 c) ])
        ],
      )

  goes_on : (turns : List Turn) (todo : List Task) → Tasks s todo → (w : Walk) → w.clears ≡ false → length w.items ≤ most → Rest (walk_on todo w) turns → Gives w todo turns
  goes_on turns [] tasks w e le h =
      let end : Rest (over (Listed w.items)) turns = pick (λ st. Rest st turns) w.clears (over Done) (over (Listed w.items)) e h in
      no_more w turns le end.0 end.1
  goes_on turns (Make v ∷ todo) tasks w e le h = h e le tasks.0 tasks.1
  goes_on turns (Stumble fault path ∷ todo) tasks w e le h = absurd tasks

  module _ (turn : Turn) (turns : List Turn) (v : Visit) (todo : List Task) (tasks : Tasks s todo) (w : Walk) (e : w.clears ≡ false) (le : length w.items ≤ most) where
    gives : (new : List Item) → count_in (names_in turn.move.answer) ≡ 0 → TurnGives s turn turn.move.step new → Follows turn (Make v ∷ todo) todo → Rest (give w new (walk_on todo)) turns → Gives w (Make v ∷ todo) (turn ∷ turns)
    gives new none own follows h =
        let next : Walk = record w { items = w.items ++ new } in
        let full : Walk = record w { items = take most (w.items ++ new) } in
        cond_leads (λ st. Rest st turns → Gives w (Make v ∷ todo) (turn ∷ turns)) (nat_le (length w.items + length new) most) (walk_on todo next) (too_many full)
        (λ fits g.
        let short : length (w.items ++ new) ≤ most = omega (arith, leb-true (length w.items + length new) most fits, length-append w.items new) in
        more w next (Make v ∷ todo) todo new 0 turn turns refl (omega arith) (sym none) (omega arith) own follows (goes_on turns todo tasks next e short g))
        (λ long g.
        let far : most < length (w.items ++ new) = omega (arith, leb-false (length w.items + length new) most long, length-append w.items new) in
        let end : Rest (over (Listed (take most (w.items ++ new) ++ too_deep ∷ []))) turns = pick (λ st. Rest st turns) w.clears (fails faults.TooDeep) (over (Listed (take most (w.items ++ new) ++ too_deep ∷ []))) e g in
        past w (Make v ∷ todo) new (take most (w.items ++ new) ++ too_deep ∷ []) turn turns own (ap (λ b. nat_lt w.left (count_in (names_in turn.move.answer) + 0) || b) (is_lt most (length (w.items ++ new)) far) ∙ or_right _ true refl) refl end.0 end.1)
        h

    misses : (fault : Fault) → count_in (names_in turn.move.answer) ≡ 0 → TurnGives s turn turn.move.step (failed fault ∷ []) → Follows turn (Make v ∷ todo) todo → Rest (miss w (walk_on todo) fault) turns → Gives w (Make v ∷ todo) (turn ∷ turns)
    misses fault none own follows h = gives (failed fault ∷ []) none own follows (pick (λ st. Rest st turns) w.clears (fails fault) (give w (failed fault ∷ []) (walk_on todo)) e h)

    skips : count_in (names_in turn.move.answer) ≡ 0 → TurnGives s turn turn.move.step [] → Follows turn (Make v ∷ todo) todo → Rest (walk_on todo w) turns → Gives w (Make v ∷ todo) (turn ∷ turns)
    skips none own follows h = more w w (Make v ∷ todo) todo [] 0 turn turns (sym (append-nil w.items)) (omega arith) (sym none) (omega arith) own follows (goes_on turns todo tasks w e le h)

    enters : (p : List ℕ) (level : ℕ) (a : Result (List Name) Refusal) → names_in turn.move.answer ≡ a → ((ns : List Name) → a ≡ Ok ns → Tasks s (tasks_of w.clears level p ns))
        → ((ns : List Name) → a ≡ Ok ns → Follows turn (Make v ∷ todo) (tasks_of w.clears level p ns ++ leaving w.clears level p ++ todo)) → ((refusal : Refusal) → a ≡ Err refusal → Follows turn (Make v ∷ todo) todo)
        → TurnGives s turn turn.move.step (by_folder a) → Rest (go_on a (miss w (walk_on todo)) (entered w p level todo)) turns → Gives w (Make v ∷ todo) (turn ∷ turns)
    enters p level (Ok ns) is brings leads missed own h =
        let next : Walk = record w { left = w.left - length ns } in
        let all : List Task = tasks_of w.clears level p ns ++ leaving w.clears level p ++ todo in
        let kept : Tasks s (tasks_of w.clears level p ns ++ leaving w.clears level p ++ todo)
        = tasks_append s (tasks_of w.clears level p ns ++ leaving w.clears level p) todo (tasks_append s (tasks_of w.clears level p ns) (leaving w.clears level p) (brings ns refl) (no_leaving s w.clears level p e)) tasks in
        let count : length ns ≡ count_in (names_in turn.move.answer) = ap count_in (sym is) in
        cond_leads (λ st. Rest st turns → Gives w (Make v ∷ todo) (turn ∷ turns)) (nat_le (length ns) w.left) (walk_on all next) (too_many w)
        (λ fits g. more w next (Make v ∷ todo) all [] (length ns) turn turns (sym (append-nil w.items)) refl count (leb-true (length ns) w.left fits) own (leads ns refl) (goes_on turns all kept next e le g))
        (λ long g.
        let far : w.left < length ns + 0 = omega (arith, leb-false (length ns) w.left long) in
        let end : Rest (over (Listed (w.items ++ too_deep ∷ []))) turns = pick (λ st. Rest st turns) w.clears (fails faults.TooDeep) (over (Listed (w.items ++ too_deep ∷ []))) e g in
        past w (Make v ∷ todo) [] (w.items ++ too_deep ∷ []) turn turns own
        (ap (λ b. b || nat_lt most (length (w.items ++ []))) (ap (λ n. nat_lt w.left (n + 0)) (sym count) ∙ is_lt w.left (length ns + 0) far))
        (ap (λ l. l ++ too_deep ∷ []) (sym (ap (take most) (append-nil w.items) ∙ take_all most w.items le))) end.0 end.1)
        h
    enters p level (Err (refusals.Fault fault)) is brings leads missed own h = misses fault (ap count_in is) own (missed (refusals.Fault fault) refl) h
    enters p level (Err refusals.Memory) is brings leads missed own h = lost w (Make v ∷ todo) [] turn turns own h

    reads : (a : Result (List ℕ) Refusal) → count_in (names_in turn.move.answer) ≡ 0 → TurnGives s turn turn.move.step (by_bucket a) → Follows turn (Make v ∷ todo) todo
        → Rest (go_on a (unread_bucket w todo) (listed w todo)) turns → Gives w (Make v ∷ todo) (turn ∷ turns)
    reads (Ok bytes) none own follows h = gives (items_in bytes) none own follows h
    reads (Err (refusals.Fault faults.NotFound)) none own follows h = skips none own follows h
    reads (Err (refusals.Fault fault)) none own follows h = misses fault none own follows h
    reads (Err refusals.Memory) none own follows h = lost w (Make v ∷ todo) [] turn turns own h

  -- ---- any visit

  -- a whole read gives no names
  no_names : (p : List ℕ) (a : PlainAnswer) → Fits (steps.ReadAll p) a → count_in (names_in a) ≡ 0
  no_names p a fits = grind (arith, common_steps)

  step_gives : (turn : Turn) (step : PlainStep) (items : List Item) → step ≡ turn.move.step → TurnGives s turn step items → TurnGives s turn turn.move.step items
  step_gives turn step items is h = subst (λ x. TurnGives s turn x items) is h

  -- what a bucket's turn gives is what the value holds
  bucket_gives : (turn : Turn) (p : List ℕ) (v : Visits s (ReadBucket p)) → TurnHolds s turn → KeyedTurn s turn → steps.ReadAll p ≡ turn.move.step → TurnGives s turn turn.move.step (by_bucket (bytes_in turn.move.answer))
  bucket_gives turn p v holds keyed is =
      let path : turn.move.step ≡ steps.ReadAll (bucket_path s.cache v.0) = sym is ∙ ap steps.ReadAll v.1 in
      let shown = lists_bucket s turn holds (bucket_path s.cache v.0) (sha1 v.0) path (bucket_below s v.0) in
      let same : by_bucket (bytes_in turn.move.answer) ≡ by_entries (bucket_read s (sha1 v.0) turn) = sym (ap (λ x. given_by x turn.move.answer) path) ∙ shown in
      step_gives turn (steps.ReadAll p) (by_bucket (bytes_in turn.move.answer)) is
      (v.0, v.1, same, subst (All (IsFound s turn)) (sym same) (bucket_found s turn v.0 turn.move.answer (keyed.own v.0)))

  module _ (turn : Turn) where
    -- the bucket that a visit leads to is read
    reads_follow : (p : List ℕ) (todo : List Task) → steps.ReadAll p ≡ turn.move.step → Follows turn (Make (ReadBucket p) ∷ todo) todo
    reads_follow p todo is key has h = grind (arith, common_steps)

    fails_follow : (p : List ℕ) (level : ℕ) (todo : List Task) (refusal : Refusal) → steps.ReadDir p ≡ turn.move.step → names_in turn.move.answer ≡ Err refusal
        → Follows turn (Make (Enter p level) ∷ todo) todo
    fails_follow p level todo refusal is e key has (inl c) =
        let front : index_area ∷ c.0 ≡ take (length (index_area ∷ c.0)) (bucket_names key)
        = sym (take_at (index_area ∷ c.0) (c.1 ∷ c.2) (length (index_area ∷ c.0)) refl) ∙ ap (take (length (index_area ∷ c.0))) c.4 in
        inl (inr (length (index_area ∷ c.0), refusal, sym is ∙ ap steps.ReadDir (c.3 ∙ ap (joined s.cache) front), e))
    fails_follow p level todo refusal is e key has (inr c) = inr c

    enters_follow : (p : List ℕ) (level : ℕ) (w : Walk) (todo : List Task) (ns : List Name) → w.clears ≡ false → TurnHolds s turn → steps.ReadDir p ≡ turn.move.step → names_in turn.move.answer ≡ Ok ns
        → Follows turn (Make (Enter p level) ∷ todo) (tasks_of w.clears level p ns ++ leaving w.clears level p ++ todo)
    enters_follow p level w todo ns no_clear holds is e key has (inl c) =
        inr (covers_left s key (tasks_of w.clears level p ns ++ leaving w.clears level p) todo
        (covers_left s key (tasks_of w.clears level p ns) (leaving w.clears level p) (folder_covers s turn p level ns w.clears no_clear holds is e key has c)))
    enters_follow p level w todo ns no_clear holds is e key has (inr c) = inr (covers_right s key (tasks_of w.clears level p ns ++ leaving w.clears level p) todo c)

  visit_gives : (w : Walk) (v : Visit) (todo : List Task) (turn : Turn) (turns : List Turn) → TurnHolds s turn → KeyedTurn s turn → visit_step v ≡ turn.move.step → w.clears ≡ false
      → length w.items ≤ most → Visits s v → Tasks s todo → Rest (after_visit w v todo turn.move.answer) turns → Gives w (Make v ∷ todo) (turn ∷ turns)
  visit_gives w (Enter p level) todo turn turns holds keyed is e le visits tasks h =
      enters turn turns (Enter p level) todo tasks w e le p level (names_in turn.move.answer) refl (λ ns k. folder_tasks s turn p level ns w.clears e holds keyed is visits k)
      (λ ns k. enters_follow turn p level w todo ns e holds is k) (λ refusal k. fails_follow turn p level todo refusal is k)
      (step_gives turn (steps.ReadDir p) (by_folder (names_in turn.move.answer)) is (visits.0, refl)) h
  visit_gives w (ReadBucket p) todo turn turns holds keyed is e le visits tasks h =
      reads turn turns (ReadBucket p) todo tasks w e le (bytes_in turn.move.answer) (no_names p turn.move.answer (subst (λ x. Fits x turn.move.answer) (sym is) holds.fits))
      (bucket_gives turn p visits holds keyed is) (reads_follow turn p todo is) h
  visit_gives w v todo turn turns holds keyed is e le visits tasks h = absurd visits

  -- ---- runs

  before : (st : State) (turn : Turn) (turns : List Turn) → TurnHolds s turn → KeyedTurn s turn → wants st ≡ Some turn.move.step → Rest (after st turn.move.answer) turns → Rest st (turn ∷ turns)
  before (walking w v todo) turn turns holds keyed is h = λ e le visits tasks. visit_gives w v todo turn turns holds keyed (same_Some (visit_step v) turn.move.step is) e le visits tasks h
  before (over reply) turn turns holds keyed is h = absurd cc
  before st turn turns holds keyed is h = tt

  memory_ends : (st : State) → r ≡ Refused OutOfMemory → Rest st []
  memory_ends st e = grind (arith, common_steps)

  runs_rest : (st : State) (turns : List Turn) → TurnsHold s turns → EachTurn (KeyedTurn s) turns → Runs st (made_in turns) r → Rest st turns
  runs_rest st [] hold keyed (inl e) = subst (λ x. Rest x []) (sym e) (refl, inl refl)
  runs_rest st [] hold keyed (inr e) = memory_ends st e
  runs_rest st (turn ∷ turns) hold keyed run = before st turn turns hold.0 keyed.0 run.0 (runs_rest (after st turn.move.answer) turns hold.1 keyed.1 run.2)

  -- the walk begins above each bucket
  top_covers : (key : List ℕ) → CoversAny s key (Make (Enter (join s.cache index_area) 0) ∷ [])
  top_covers key = inl ([], take 2 (encode_lower (sha1 key)), take 2 (drop 2 (encode_lower (sha1 key))) ∷ drop 4 (encode_lower (sha1 key)) ∷ [], refl, refl, refl)

  pub runs_list : (n : ℕ) (turns : List Turn) → TurnsHold s turns → EachTurn (KeyedTurn s) turns → Runs (opening (call_site s n) commands.Ls) (made_in turns) r
      → (items : List Item) × TurnsGive s turns items × ((r ≡ Refused OutOfMemory) ⊎ ((r ≡ Listed (listing_of turns items)) × (is_past turns items ≡ false → FindsBuckets s turns)))
  runs_list n turns hold keyed run =
      let top : IsIndexFolder s _ = ([], All-nil IsProperName, omega arith, refl) in
      let g = runs_rest (opening (call_site s n) commands.Ls) turns hold keyed run refl (omega arith) (top, ([], All-nil IsProperName, omega arith, refl, refl)) tt in
      (g.0, g.1, elim g.2 [ inl e ↦ inl e | inr e ↦ inr (e.0, λ near key each. e.1 near key each (top_covers key)) ])

-- ---- listings that are over

-- what a run answers, unless out of memory ended it
pub lists : (s : Setup) (n : ℕ) (turns : List Turn) (r : Reply) → TurnsHold s turns → EachTurn (KeyedTurn s) turns → Runs (opening (call_site s n) commands.Ls) (made_in turns) r
    → (r ≡ Refused OutOfMemory) ⊎ ListsHeld s turns r
lists s n turns r hold keyed run =
    let l = runs_list s r n turns hold keyed run in
    let none = none_twice s r n turns hold keyed run in
    elim l.2 [
      | inl e ↦ inl e
      | inr e ↦ inr (l.0, l.1, none, no_key_twice s turns l.0 keyed none l.1, record { answers = e.0; finds = e.1 })
    ]

-- ---- listings of a history

pub listings_read_value : (h : History) → IsLegal h → ListingsReadValue h
listings_read_value h legal call reply reaches is = by reply reaches
  where
    by : (reply : Option Reply) → Reaches h call reply → ListsValue h.setup call.turns reply
    by None reaches =
        let x = reached h legal call None reaches in
        let keyed = turns_keyed h legal call None reaches in
        let run = subst (λ command. Runs (opening (call_site h.setup call.number) command) (made_in call.turns) (Refused OutOfMemory)) is (lost_run h call None x) in
        let l = runs_list h.setup (Refused OutOfMemory) call.number call.turns x.holds.turns keyed run in
        let none = none_twice h.setup (Refused OutOfMemory) call.number call.turns x.holds.turns keyed run in
        (l.0, l.1, none, no_key_twice h.setup call.turns l.0 keyed none l.1, tt)
    by (Some r) reaches =
        let x = reached h legal call (Some r) reaches in
        let keyed = turns_keyed h legal call (Some r) reaches in
        elim (reply_run h call r x) [
          | inl e ↦
              let run = subst (λ command. Runs (opening (call_site h.setup call.number) command) (made_in call.turns) (Refused OutOfMemory)) is (lost_run h call (Some r) x) in
              let l = runs_list h.setup (Refused OutOfMemory) call.number call.turns x.holds.turns keyed run in
              let none = none_twice h.setup (Refused OutOfMemory) call.number call.turns x.holds.turns keyed run in
              (l.0, l.1, none, no_key_twice h.setup call.turns l.0 keyed none l.1, inl e)
          | inr made ↦
              let run = subst (λ command. Runs (opening (call_site h.setup call.number) command) (made_in call.turns) (plain_reply r)) is made in
              let l = runs_list h.setup (plain_reply r) call.number call.turns x.holds.turns keyed run in
              let none = none_twice h.setup (plain_reply r) call.number call.turns x.holds.turns keyed run in
              (l.0, l.1, none, no_key_twice h.setup call.turns l.0 keyed none l.1, elim l.2 [ inl e ↦ inl (memory_plain r e) | inr e ↦ inr (record { answers = e.0; finds = e.1 }) ])
        ]
