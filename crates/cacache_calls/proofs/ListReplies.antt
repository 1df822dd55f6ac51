-- A listing returns what its own steps returned.
use Rattle.std.proofs.{lemmas.{Grind.{common_steps}, Bool.{leb-false}, List.{length-take}}, Common.{rules, ◌≡◌, ◌⊎◌, inl, inr, ℕ, ◌+◌, ◌-◌, ◌<◌, List, [], ◌∷◌, ◌++◌, Option, Some, None, Bool, true, false, cond, nat_le, Result, Ok, Err, refl, ap, length, take, length-append, append-nil, arith}}
use Rattle.cacache_core.specs.{declared.errors.{Fault.{Fault}, Error.TheVariants.{OutOfMemory}}, Paths.{join}}
use Rattle.cacache_core.specs.declared.errors.Fault.TheVariants as faults
use Rattle.cacache_store.specs.{declared.store.answer.{Kind.{Kind}, Name.{Name}}, Plain.{PlainStep, PlainAnswer}}
use Rattle.cacache_calls.specs.{declared.{answers.Refusal.{Refusal}, reply.Reply.{Reply, TheVariants.{Listed, Done, Refused}}, visit.{Visit.{Visit, TheVariants.{Enter, ReadBucket, RemoveFile, RemoveFolder}}, Task.{Task, TheVariants.{Make, Stumble}}}}, Answers.{bytes_in, names_in}, State.{State, walking, over, Site, Item, Walk}, Common.{fails, go_on}, Walking.{most, failed, give, miss, walk_on, task_for_name, tasks_of, leaving, too_many, entered, unread_bucket, listed, items_in}, Table.{wants, after, opening}, Runs.{Moves, Runs}, Replies.{by_bucket, by_folder, given_by, items_given, too_deep, AddsTooDeep, ListsGiven}}
use Rattle.cacache_calls.proofs.Going.{cond_leads}
use Rattle.cacache_calls.specs.declared.answers.Refusal.TheVariants as refusals
use Rattle.cacache_calls.specs.declared.command.Command.TheVariants as commands

-- ---- the remaining tasks of a listing

abbrev Reads : Visit → Type 0
Reads (Enter p level) = Unit {0}
Reads (ReadBucket p) = Unit {0}
Reads (RemoveFile p) = ⊥
Reads (RemoveFolder p) = ⊥

abbrev Lists : List Task → Type 0
Lists [] = Unit {0}
Lists (Make v ∷ todo) = Reads v × Lists todo
Lists (Stumble fault path ∷ todo) = (fault ≡ faults.TooDeep) × Lists todo

lists_append : (a b : List Task) → Lists a → Lists b → Lists (a ++ b)
lists_append [] b h k = k
lists_append (Make v ∷ a) b h k = (h.0, lists_append a b h.1 k)
lists_append (Stumble fault path ∷ a) b h k = (h.0, lists_append a b h.1 k)

task_lists : (level : ℕ) (p : List ℕ) (kind : Kind) (todo : List Task) → Lists todo → Lists (task_for_name false level p kind ∷ todo)
task_lists level p kind todo h = grind (arith, common_steps)

tasks_list : (clears : Bool) → clears ≡ false → (level : ℕ) (p : List ℕ) (names : List Name) → Lists (tasks_of clears level p names)
tasks_list true e level p names = absurd cc
tasks_list false e level p [] = tt
tasks_list false e level p (n ∷ ns) = task_lists level (join p n.name) n.kind (tasks_of false level p ns) (tasks_list false refl level p ns)

leaving_lists : (clears : Bool) → clears ≡ false → (level : ℕ) (p : List ℕ) → Lists (leaving clears level p)
leaving_lists clears e level p = grind (arith, common_steps)

-- ---- what a walk has returned so far, and what its remaining steps return

abbrev Gives : Walk → List Item → Reply → Type 0
Gives w items (Listed list) = (most < length list) ⊎ ((tail : List Item) × (list ≡ w.items ++ tail) × AddsTooDeep tail items)
Gives w items (Refused e) = e ≡ OutOfMemory
Gives w items r = ⊥

-- what the remaining steps of a run from a state return
abbrev Given : State → List Item → Reply → Type 0
Given (walking w v todo) items r = w.clears ≡ false → Reads v → Lists todo → Gives w items r
Given (over reply) items r = (items ≡ []) × ((r ≡ reply) ⊎ (r ≡ Refused OutOfMemory))
Given s items r = Unit {0}

adds_same : (front tail items : List Item) → AddsTooDeep tail items → AddsTooDeep (front ++ tail) (front ++ items)
adds_same [] tail items h = h
adds_same (x ∷ front) tail items h = inr (front ++ items, refl, adds_same front tail items h)

pub pick : (P : State → Type 0) (b : Bool) (s t : State) → b ≡ false → P (cond b s t) → P t
pick P b s t e h = grind (arith, common_steps)

module _ (r : Reply) where
  no_memory : (w : Walk) (items more : List Item) → Given (over (Refused OutOfMemory)) items r → Gives w more r
  no_memory w items more h = grind (arith, common_steps)

  ends : (w : Walk) (tail items : List Item) → AddsTooDeep tail [] → Given (over (Listed (w.items ++ tail))) items r → Gives w items r
  ends w tail items h h2 = grind (arith, common_steps)

  too_many_gives : (w : Walk) (items : List Item) → w.clears ≡ false → Given (too_many w) items r → Gives w items r
  too_many_gives w items e h = ends w (too_deep ∷ []) items (inl (refl, refl)) (pick (λ s. Given s items r) w.clears (fails faults.TooDeep) (over (Listed (w.items ++ too_deep ∷ []))) e h)

  -- a walk past the most items
  full_gives : (w : Walk) (all items more : List Item) → w.clears ≡ false → most < length all → Given (too_many (record w { items = take most all })) items r → Gives w more r
  full_gives w all items more e long h = by_end (pick (λ s. Given s items r) w.clears (fails faults.TooDeep) (over (Listed (take most all ++ too_deep ∷ []))) e h)
    where
      longer : most < length (take most all ++ too_deep ∷ [])
      longer = omega (arith, length-append (take most all) (too_deep ∷ []), length-take most all)

      by_end : Given (over (Listed (take most all ++ too_deep ∷ []))) items r → Gives w more r
      by_end (k, inl same) = rw same (inl longer)
      by_end (k, inr same) = rw same refl

  adds : (w : Walk) (front items more : List Item) → ((tail : List Item) → AddsTooDeep tail items → AddsTooDeep (front ++ tail) more) → Gives (record w { items = w.items ++ front }) items r → Gives w more r
  adds w front items more k = grind (arith, common_steps)

  gives : (w : Walk) (front items more : List Item) (next : Walk → State) → w.clears ≡ false → ((tail : List Item) → AddsTooDeep tail items → AddsTooDeep (front ++ tail) more) → ((v : Walk) → v.clears ≡ false → Given (next v) items r → Gives v items r) → Given (give w front next) items r → Gives w more r
  gives w front items more next e k n h =
      let v : Walk = record w { items = w.items ++ front } in
      let full : Walk = record w { items = take most (w.items ++ front) } in
      cond_leads (λ s. Given s items r → Gives w more r) (nat_le (length w.items + length front) most) (next v) (too_many full)
      (λ _ g. adds w front items more k (n v e g))
      (λ long g. full_gives w (w.items ++ front) items more e (omega (arith, leb-false (length w.items + length front) most long, length-append w.items front)) g) h

  misses : (w : Walk) (items more : List Item) (fault : Fault) (next : Walk → State) → w.clears ≡ false → ((tail : List Item) → AddsTooDeep tail items → AddsTooDeep (failed fault ∷ tail) more) → ((v : Walk) → v.clears ≡ false → Given (next v) items r → Gives v items r) → Given (miss w next fault) items r → Gives w more r
  misses w items more fault next e k n h = gives w (failed fault ∷ []) items more next e k n (pick (λ s. Given s items r) w.clears (fails fault) (give w (failed fault ∷ []) next) e h)

  goes_on : (items : List Item) (todo : List Task) → Lists todo → (w : Walk) → w.clears ≡ false → Given (walk_on todo w) items r → Gives w items r
  goes_on items [] l w e h = ends w [] items refl (rw append-nil (pick (λ s. Given s items r) w.clears (over Done) (over (Listed w.items)) e h))
  goes_on items (Stumble fault path ∷ todo) l w e h = misses w items items fault (walk_on todo) e (λ tail k. inl (ap (failed) l.0, k)) (goes_on items todo l.1) h
  goes_on items (Make v ∷ todo) l w e h = h e l.0 l.1

  fails_on : (items : List Item) (todo : List Task) → Lists todo → (w : Walk) → w.clears ≡ false → (fault : Fault) → Given (miss w (walk_on todo) fault) items r → Gives w (failed fault ∷ items) r
  fails_on items todo l w e fault h = misses w items (failed fault ∷ items) fault (walk_on todo) e (λ tail k. inr (items, refl, k)) (goes_on items todo l) h

  enters : (w : Walk) (p : List ℕ) (level : ℕ) (todo : List Task) (items : List Item) (a : Result (List Name) Refusal) → w.clears ≡ false → Lists todo → Given (go_on a (miss w (walk_on todo)) (entered w p level todo)) items r → Gives w (by_folder a ++ items) r
  enters w p level todo items (Ok names) e l h =
      let v : Walk = record w { left = w.left - length names } in
      let tasks : List Task = tasks_of w.clears level p names ++ leaving w.clears level p ++ todo in
      cond_leads (λ s. Given s items r → Gives w items r) (nat_le (length names) w.left) (walk_on tasks v) (too_many w)
      (λ _ g. goes_on items tasks (lists_append (tasks_of w.clears level p names ++ leaving w.clears level p) todo (lists_append (tasks_of w.clears level p names) (leaving w.clears level p) (tasks_list w.clears e level p names) (leaving_lists w.clears e level p)) l) v e g)
      (λ _. too_many_gives w items e) h
  enters w p level todo items (Err (refusals.Fault fault)) e l h = fails_on items todo l w e fault h
  enters w p level todo items (Err refusals.Memory) e l h = no_memory w items items h

  reads : (w : Walk) (todo : List Task) (items : List Item) (a : Result (List ℕ) Refusal) → w.clears ≡ false → Lists todo → Given (go_on a (unread_bucket w todo) (listed w todo)) items r → Gives w (by_bucket a ++ items) r
  reads w todo items (Ok bytes) e l h = gives w (items_in bytes) items (items_in bytes ++ items) (walk_on todo) e (λ tail k. adds_same (items_in bytes) tail items k) (goes_on items todo l) h
  reads w todo items (Err (refusals.Fault faults.NotFound)) e l h = goes_on items todo l w e h
  reads w todo items (Err (refusals.Fault fault)) e l h = fails_on items todo l w e fault h
  reads w todo items (Err refusals.Memory) e l h = no_memory w items items h

-- ---- all states

abbrev with_given : Option PlainStep → PlainAnswer → List Item → List Item
with_given None t items = items
with_given (Some step) t items = given_by step t ++ items

given_before : (s : State) (t : PlainAnswer) (items : List Item) (r : Reply) → Given (after s t) items r → Given s (with_given (wants s) t items) r
given_before (walking w (Enter p level) todo) t items r = λ h e k l. enters r w p level todo items (names_in t) e l h
given_before (walking w (ReadBucket p) todo) t items r = λ h e k l. reads r w todo items (bytes_in t) e l h
given_before (walking w (RemoveFile p) todo) t items r = λ h e k l. absurd k
given_before (walking w (RemoveFolder p) todo) t items r = λ h e k l. absurd k
given_before (over reply) t items r = λ h. h
given_before s t items r = λ h. tt

memory_gives : (s : State) → Given s [] (Refused OutOfMemory)
memory_gives s = grind (arith, common_steps)

runs_give : (s : State) (moves : Moves) (r : Reply) → Runs s moves r → Given s (items_given moves) r
runs_give s [] r (inl e) = rw e (refl, inl refl)
runs_give s [] r (inr e) = rw e (memory_gives s)
runs_give s (m ∷ moves) r run =
    let h = given_before s m.1 (items_given moves) r (runs_give (after s m.1) moves r run.2) in
    rw run.0 at h

pub lists_shown : (site : Site) (moves : Moves) (r : Reply) → Runs (opening site commands.Ls) moves r → ListsGiven (items_given moves) r
lists_shown site moves r run = search (rules, runs_give)
