-- A call's `IoError` has a cause.
use Rattle.std.proofs.{Common.{arith, rules, ◌≡◌, ◌⊎◌, inl, inr, ℕ, ◌+◌, ◌-◌, ◌<◌, List, [], ◌∷◌, ◌++◌, Option, Some, None, Bool, false, nat_le, Result, Ok, Err, refl, length, take}, lemmas.{Grind.{common_steps}, Bool.{leb-false}}}
use Rattle.cacache_core.specs.{declared.{errors.{Fault.{Fault}, SerdeCause.{SerdeCause}, IntegrityFault.TheVariants.{Check}, Error.TheVariants.{IntegrityError, OutOfMemory}}, integrity.digest.Hash.{Hash}}, Integrity.{actual}, Paths.{join}, Matching.{meets}}
use Rattle.cacache_core.specs.declared.errors.Fault.TheVariants as faults
use Rattle.cacache_store.specs.{declared.store.{plain.{PlainTemp.{PlainTemp}, PlainFile.{PlainFile}}, answer.{Kind.{Kind}, Name.{Name}}}, Plain.{PlainStep, PlainAnswer, Fits}}
use Rattle.cacache_store.specs.declared.store.step.Step.TheVariants as steps
use Rattle.cacache_entry.specs.Bucket.{Found}
use Rattle.cacache_calls.specs.{declared.{answers.Refusal.{Refusal}, command.{Command.{Command}, Export.{Export}, How.{How, TheVariants.{Copy}}}, reply.Reply.{Reply, TheVariants.{Read, Exists, Copied, Listed, Done, Refused}}, carried.{Commit.{Commit}, Aim.{Aim}, Lookup.{Lookup}, Content.{Content}}, visit.{Visit.{Visit, TheVariants.{Enter, ReadBucket, RemoveFile, RemoveFolder}}, Task.{Task, TheVariants.{Make, Stumble}}}}, Answers.{done_in, temp_in, written_in, synced_in, there_in, taken_in, bytes_in, file_in, got_in, length_in, names_in}, Steps.{temp_path, content_path, bucket_path}, State.{State, doing, creating, writing, syncing, persisting, linking, confirming, appending, looking, reading, asking, sizing, opening_file, hashing, copying, walking, over, Site, Insertion, Hashing, to_verify, Errand, remove, sync_dir, Item, Walk}, Common.{ends_with, fails, go_on, errand_step, sync_up}, Inserting.{unless_refused, bucket_line, recorded, after_append}, Storing.{indexed, sized, compared, placed, secured, secured_found, move_in, write_rest, after_write, after_confirm}, Reading.{checked, answer_there, answer_absent, export_from, export_content, export, copied_count, found_in, found_for, after_bucket, no_bucket}, Linking.{after_size, hashed_path, hashed, after_read}, Walking.{most, failed, give, miss, walk_on, task_for_name, tasks_of, leaving, too_many, entered, unread_bucket, listed, visit_step, after_visit, items_in}, Table.{piece, wants, after, opening}, Runs.{Moves, Runs}, Promises.{Faults, HasCause, OfWalk, own_of}}
use Rattle.cacache_calls.proofs.Going.{cond_leads}
use Rattle.cacache_calls.specs.declared.answers.Refusal.TheVariants as refusals

-- ---- what a refusing answer reports

errand_faults : (e : Errand) (t : PlainAnswer) (f : Fault) → Fits (errand_step e) t → done_in t ≡ Err (refusals.Fault f) → Faults (errand_step e) t f
errand_faults e t f fits k = grind (arith, common_steps)

persist_faults : (file : PlainTemp) (p : List ℕ) (t : PlainAnswer) (f : Fault) → Fits (steps.Persist file p) t → done_in t ≡ Err (refusals.Fault f) → Faults (steps.Persist file p) t f
persist_faults file p t f fits e = grind (arith, common_steps)

symlink_faults : (q p : List ℕ) (t : PlainAnswer) (f : Fault) → Fits (steps.Symlink q p) t → done_in t ≡ Err (refusals.Fault f) → Faults (steps.Symlink q p) t f
symlink_faults q p t f fits e = grind (arith, common_steps)

remove_faults : (p : List ℕ) (t : PlainAnswer) (f : Fault) → Fits (steps.RemoveFile p) t → done_in t ≡ Err (refusals.Fault f) → Faults (steps.RemoveFile p) t f
remove_faults p t f fits e = errand_faults (remove p) t f fits e

remove_folder_faults : (p : List ℕ) (t : PlainAnswer) (f : Fault) → Fits (steps.RemoveDir p) t → done_in t ≡ Err (refusals.Fault f) → Faults (steps.RemoveDir p) t f
remove_folder_faults p t f fits e = grind (arith, common_steps)

temp_faults : (p : List ℕ) (t : PlainAnswer) (f : Fault) → Fits (steps.CreateTemp p) t → temp_in t ≡ Err (refusals.Fault f) → Faults (steps.CreateTemp p) t f
temp_faults p t f fits e = grind (arith, common_steps)

synced_faults : (file : PlainTemp) (t : PlainAnswer) (f : Fault) → Fits (steps.SyncTemp file) t → synced_in t ≡ Err (refusals.Fault f) → Faults (steps.SyncTemp file) t f
synced_faults file t f fits e = grind (arith, common_steps)

written_faults : (file : PlainTemp) (b : List ℕ) (t : PlainAnswer) (f : Fault) → Fits (steps.Write file b) t → written_in t ≡ Err (refusals.Fault f) → Faults (steps.Write file b) t f
written_faults file b t f fits e = grind (arith, common_steps)

zero_faults : (file : PlainTemp) (b : List ℕ) (t : PlainAnswer) (w : PlainTemp × ℕ) → written_in t ≡ Ok w → w.1 ≡ 0 → Faults (steps.Write file b) t faults.WriteZero
zero_faults file b t w e z = grind (arith, common_steps)

append_faults : (p line : List ℕ) (t : PlainAnswer) (f : Fault) → Fits (steps.Append p line) t → taken_in t ≡ Err (refusals.Fault f) → Faults (steps.Append p line) t f
append_faults p line t f fits e = grind (arith, common_steps)

short_faults : (p line : List ℕ) (t : PlainAnswer) (n : ℕ) → taken_in t ≡ Ok n → n < length line → Faults (steps.Append p line) t faults.ShortAppend
short_faults p line t n e short = grind (arith, common_steps)

copy_faults : (p q : List ℕ) (t : PlainAnswer) (f : Fault) → Fits (steps.Copy p q) t → taken_in t ≡ Err (refusals.Fault f) → Faults (steps.Copy p q) t f
copy_faults p q t f fits e = grind (arith, common_steps)

bytes_faults : (p : List ℕ) (t : PlainAnswer) (f : Fault) → Fits (steps.ReadAll p) t → bytes_in t ≡ Err (refusals.Fault f) → Faults (steps.ReadAll p) t f
bytes_faults p t f fits e = grind (arith, common_steps)

file_faults : (p : List ℕ) (t : PlainAnswer) (f : Fault) → Fits (steps.Open p) t → file_in t ≡ Err (refusals.Fault f) → Faults (steps.Open p) t f
file_faults p t f fits e = grind (arith, common_steps)

got_faults : (file : PlainFile) (n : ℕ) (t : PlainAnswer) (f : Fault) → Fits (steps.Read file n) t → got_in t ≡ Err (refusals.Fault f) → Faults (steps.Read file n) t f
got_faults file n t f fits e = grind (arith, common_steps)

length_faults : (p : List ℕ) (t : PlainAnswer) (f : Fault) → Fits (steps.Size p) t → length_in t ≡ Err (refusals.Fault f) → Faults (steps.Size p) t f
length_faults p t f fits e = grind (arith, common_steps)

names_faults : (p : List ℕ) (t : PlainAnswer) (f : Fault) → Fits (steps.ReadDir p) t → names_in t ≡ Err (refusals.Fault f) → Faults (steps.ReadDir p) t f
names_faults p t f fits e = grind (arith, common_steps)

-- ---- states

-- a reply that the state already holds isn't an `IoError`
abbrev Sound : State → Type 0
Sound (doing errand s) = Sound s
Sound (appending i) = HasCause (λ _. ⊥) [] i.reply
Sound (over reply) = HasCause (λ _. ⊥) [] reply
Sound s = Unit {0}

abbrev OwnTo : List Task → Fault → Type 0
OwnTo [] f = OfWalk f
OwnTo (Stumble g path ∷ todo) f = (f ≡ g) ⊎ OwnTo todo f
OwnTo (Make v ∷ todo) f = OwnTo todo f

-- the faults that a state already holds
abbrev own : State → Fault → Type 0
own (doing errand s) f = own s f
own (confirming c fault) f = f ≡ fault
own (walking w v todo) f = OwnTo todo f
own s f = ⊥

abbrev Causes : State → Moves → Reply → Type 0
Causes (over reply) moves r = (r ≡ reply) ⊎ (r ≡ Refused OutOfMemory)
Causes s moves r = Sound s → HasCause (own s) moves r

-- ---- states that hold no fault

abbrev IsClean : State → Type 0
IsClean s = Sound s × ((f : Fault) → own s f → ⊥)

clean_insert : (i : Insertion) (cause : Option SerdeCause) → HasCause (λ _. ⊥) [] i.reply → IsClean (unless_refused i cause)
clean_insert i cause k = grind (arith, common_steps)

clean_index : (c : Commit) (key : Option (List ℕ)) → IsClean (indexed c key)
clean_index c key = grind (arith, clean_insert)

clean_size : (c : Commit) (size : Option ℕ) → IsClean (sized c size)
clean_size c size = grind (arith, clean_index, cond_leads)

clean_integrity : (c : Commit) (i : Option (List Hash)) → IsClean (compared c i)
clean_integrity c i = grind (arith, clean_size, cond_leads)

clean_syncs : (folders : List (List ℕ)) (s : State) → IsClean s → IsClean (sync_up folders s)
clean_syncs [] s h = h
clean_syncs (p ∷ ps) s h = clean_syncs ps (doing (sync_dir p) s) h

clean_secured : (c : Commit) → IsClean (secured c)
clean_secured c = search (rules, cond_leads, clean_syncs, clean_integrity)

clean_moved : (c : Commit) (file : PlainTemp) → IsClean (move_in c file)
clean_moved c file = cond_leads IsClean c.options.durable (syncing c file) (persisting c file) (λ _. (tt, λ f x. x)) (λ _. (tt, λ f x. x))

module _ (O : Fault → Type 0) (a : PlainStep) (t : PlainAnswer) (moves : Moves) (r : Reply) where
  abbrev Now : Type 0
  Now = HasCause O ((a, t) ∷ moves) r

  later : (Q : Fault → Type 0) → ((f : Fault) → Q f → O f ⊎ Faults a t f) → HasCause Q moves r → Now
  later Q k = search rules

  over_now : (reply : Reply) → HasCause O ((a, t) ∷ moves) reply → Causes (over reply) moves r → Now
  over_now reply k h = grind (arith, common_steps)

  fails_now : (f : Fault) → O f ⊎ Faults a t f → Causes (fails f) moves r → Now
  fails_now f h2 h = grind (arith, over_now)

  goes : {X : Type 0} (res : Result X Refusal) (failed : Fault → State) (next : X → State) → ((f : Fault) → res ≡ Err (refusals.Fault f) → Causes (failed f) moves r → Now) → ((x : X) → res ≡ Ok x → Causes (next x) moves r → Now) → Causes (go_on res failed next) moves r → Now
  goes res failed next k n h = grind (arith, over_now)

  goes_or_fails : {X : Type 0} (res : Result X Refusal) (next : X → State) → ((f : Fault) → res ≡ Err (refusals.Fault f) → Faults a t f) → ((x : X) → res ≡ Ok x → Causes (next x) moves r → Now) → Causes (go_on res fails next) moves r → Now
  goes_or_fails res next k n h = goes res fails next (λ f e. fails_now f (inr (k f e))) n h

  -- a state that holds no fault
  holds_none : HasCause (λ _. ⊥) moves r → Now
  holds_none h = later (λ _. ⊥) (λ f x. absurd x) h

  inserts : (i : Insertion) (cause : Option SerdeCause) → HasCause (λ _. ⊥) [] i.reply → Causes (unless_refused i cause) moves r → Now
  inserts i cause k h = grind (arith, holds_none, over_now)

  by_key : (c : Commit) (key : Option (List ℕ)) → Causes (indexed c key) moves r → Now
  by_key c key h = grind (arith, over_now, inserts)

  by_size : (c : Commit) (size : Option ℕ) → Causes (sized c size) moves r → Now
  by_size c size h = grind (arith, by_key, cond_leads, over_now)

  by_integrity : (c : Commit) (i : Option (List Hash)) → Causes (compared c i) moves r → Now
  by_integrity c i h = grind (arith, by_size, cond_leads, over_now)

  places : (c : Commit) → Causes (placed c) moves r → Now
  places c h = by_integrity c c.options.integrity h

  -- the state after an errand, if it is clean
  clean_now : (s : State) → IsClean s → (Sound s → HasCause (own s) moves r) → Now
  clean_now s k h = later (own s) (λ f x. absurd (k.1 f x)) (h k.0)

  syncs : (folders : List (List ℕ)) (s : State) → IsClean s → (Causes s moves r → Now) → Causes (sync_up folders s) moves r → Now
  syncs [] s k g h = g h
  syncs (p ∷ ps) s k g h = syncs ps (doing (sync_dir p) s) k (clean_now s k) h

  secures : (c : Commit) → Causes (secured c) moves r → Now
  secures c h = search (rules, cond_leads, syncs, clean_integrity, places)

  secures_found : (c : Commit) → Causes (secured_found c) moves r → Now
  secures_found c h = search (rules, cond_leads, clean_now, clean_secured, secures)

  records : (i : Insertion) → HasCause O ((a, t) ∷ moves) i.reply → HasCause (λ _. ⊥) [] i.reply → Causes (recorded i) moves r → Now
  records i now k h = search (rules, cond_leads, clean_now, clean_syncs, over_now)

  writes_rest : (c : Commit) (file : PlainTemp) (rest : List ℕ) → Causes (write_rest c file rest) moves r → Now
  writes_rest c file rest h = grind (arith, clean_now, clean_moved, holds_none)

  exports_from : (how : How) (from to : List ℕ) (count : Option ℕ) → Causes (export_from how from to count) moves r → Now
  exports_from how from to count h = grind (arith, holds_none)

  hashes : (h : Hashing) (bytes : List ℕ) → Causes (hashed h bytes) moves r → Now
  hashes h bytes g = grind (arith, cond_leads, exports_from, over_now, holds_none)

  reads_on : (h : Hashing) (bytes : List ℕ) (file : PlainFile) (more : List ℕ) → Causes (after_read h bytes (file, more)) moves r → Now
  reads_on h bytes file more g = grind (arith, hashes, holds_none)

  exports : (k : Content) (e : Export) → Causes (export k e) moves r → Now
  exports k e h = cond_leads (λ s. Causes s moves r → Now) e.checked (opening_file (to_verify k e)) (export_content k e None) (λ _ g. holds_none (g tt)) (λ _. exports_from e.how (content_path k.cache k.integrity) e.to None) h

  founds : (l : Lookup) (aim : Aim) (found : Option Found) → Causes (found_for l aim found) moves r → Now
  founds l aim found h = grind (arith, over_now, exports, holds_none)

  unreads : (l : Lookup) (f : Fault) → Faults a t f → Causes (no_bucket l f) moves r → Now
  unreads l f x h = grind (arith, founds, fails_now)

  checks : (k : Content) (bytes : List ℕ) → Causes (checked k bytes) moves r → Now
  checks k bytes h = cond_leads (λ s. Causes s moves r → Now) (meets k.integrity bytes) (over (Read bytes)) (ends_with (IntegrityError (Check k.integrity (actual k.integrity bytes)))) (λ _. over_now (Read bytes) tt) (λ _. over_now (Refused (IntegrityError (Check k.integrity (actual k.integrity bytes)))) tt) h

-- ---- walks

own_base : (todo : List Task) (f : Fault) → OfWalk f → OwnTo todo f
own_base [] f o = o
own_base (Stumble g path ∷ todo) f o = inr (own_base todo f o)
own_base (Make v ∷ todo) f o = own_base todo f o

abbrev Ordinary : List Task → Type 0
Ordinary [] = Unit {0}
Ordinary (Stumble g path ∷ todo) = OfWalk g × Ordinary todo
Ordinary (Make v ∷ todo) = Ordinary todo

ordinary_append : (a b : List Task) → Ordinary a → Ordinary b → Ordinary (a ++ b)
ordinary_append [] b h k = k
ordinary_append (Stumble g path ∷ a) b h k = (h.0, ordinary_append a b h.1 k)
ordinary_append (Make v ∷ a) b h k = ordinary_append a b h k

own_rest : (a b : List Task) (f : Fault) → Ordinary a → OwnTo (a ++ b) f → OwnTo b f
own_rest [] b f h o = o
own_rest (Stumble g path ∷ a) b f h (inl e) = own_base b f (rw e h.0)
own_rest (Stumble g path ∷ a) b f h (inr o) = own_rest a b f h.1 o
own_rest (Make v ∷ a) b f h o = own_rest a b f h o

task_ordinary : (clears : Bool) (level : ℕ) (p : List ℕ) (kind : Kind) → Ordinary (task_for_name clears level p kind ∷ [])
task_ordinary clears level p kind = grind (arith, common_steps)

tasks_ordinary : (clears : Bool) (level : ℕ) (p : List ℕ) (names : List Name) → Ordinary (tasks_of clears level p names)
tasks_ordinary clears level p [] = tt
tasks_ordinary clears level p (n ∷ ns) = ordinary_append (task_for_name clears level (join p n.name) n.kind ∷ []) (tasks_of clears level p ns) (task_ordinary clears level (join p n.name) n.kind) (tasks_ordinary clears level p ns)

leaving_ordinary : (clears : Bool) (level : ℕ) (p : List ℕ) → Ordinary (leaving clears level p)
leaving_ordinary clears level p = search rules

module _ (O : Fault → Type 0) (a : PlainStep) (t : PlainAnswer) (moves : Moves) (r : Reply) where
  -- a fault whose cause is this step
  abbrev IsCaused : Fault → Type 0
  IsCaused f = O f ⊎ Faults a t f

  abbrev Becomes : State → Type 0
  Becomes s = Causes s moves r → HasCause O ((a, t) ∷ moves) r

  too_many_causes : (w : Walk) → IsCaused faults.TooDeep → Becomes (too_many w)
  too_many_causes w k = cond_leads Becomes w.clears (fails faults.TooDeep) (over (Listed (w.items ++ failed faults.TooDeep ∷ []))) (λ _. fails_now O a t moves r faults.TooDeep k) (λ _. over_now O a t moves r (Listed (w.items ++ failed faults.TooDeep ∷ [])) tt)

  gives : (w : Walk) (front : List Item) (next : Walk → State) → IsCaused faults.TooDeep → ((v : Walk) → Becomes (next v)) → Becomes (give w front next)
  gives w front next k n =
      let v : Walk = record w { items = w.items ++ front } in
      let full : Walk = record w { items = take most (w.items ++ front) } in
      cond_leads Becomes (nat_le (length w.items + length front) most) (next v) (too_many full) (λ _. n v) (λ _. too_many_causes full k)

  misses : (w : Walk) (next : Walk → State) (f : Fault) → IsCaused f → IsCaused faults.TooDeep → ((v : Walk) → Becomes (next v)) → Becomes (miss w next f)
  misses w next f e k n = cond_leads Becomes w.clears (fails f) (give w (failed f ∷ []) next) (λ _. fails_now O a t moves r f e) (λ _. gives w (failed f ∷ []) next k n)

  goes_on : (todo : List Task) → ((f : Fault) → OwnTo todo f → IsCaused f) → (w : Walk) → Becomes (walk_on todo w)
  goes_on [] k w = cond_leads Becomes w.clears (over Done) (over (Listed w.items)) (λ _. over_now O a t moves r Done tt) (λ _. over_now O a t moves r (Listed w.items) tt)
  goes_on (Stumble g path ∷ todo) k w = misses w (walk_on todo) g (k g (inl refl)) (k faults.TooDeep (inr (own_base todo faults.TooDeep (inl refl)))) (goes_on todo (λ f o. k f (inr o)))
  goes_on (Make v ∷ todo) k w = λ h. later O a t moves r (OwnTo todo) k (h tt)

visits : (w : Walk) (v : Visit) (todo : List Task) (t : PlainAnswer) (moves : Moves) (r : Reply) → Fits (visit_step v) t → Causes (after_visit w v todo t) moves r → HasCause (OwnTo todo) ((visit_step v, t) ∷ moves) r
visits w (Enter p level) todo t moves r fits =
    goes (OwnTo todo) (steps.ReadDir p) t moves r (names_in t) (miss w (walk_on todo)) (entered w p level todo)
    (λ f e. misses (OwnTo todo) (steps.ReadDir p) t moves r w (walk_on todo) f (inr (names_faults p t f fits e)) (inl (own_base todo faults.TooDeep (inl refl))) (goes_on (OwnTo todo) (steps.ReadDir p) t moves r todo (λ g o. inl o)))
    (λ names _.
    let front : List Task = tasks_of w.clears level p names ++ leaving w.clears level p in
    let v : Walk = record w { left = w.left - length names } in
    let ordinary : Ordinary front = ordinary_append (tasks_of w.clears level p names) (leaving w.clears level p) (tasks_ordinary w.clears level p names) (leaving_ordinary w.clears level p) in
    cond_leads (λ s. Causes s moves r → HasCause (OwnTo todo) ((steps.ReadDir p, t) ∷ moves) r) (nat_le (length names) w.left) (walk_on (front ++ todo) v) (too_many w)
    (λ _. goes_on (OwnTo todo) (steps.ReadDir p) t moves r (front ++ todo) (λ g o. inl (own_rest front todo g ordinary o)) v)
    (λ _. too_many_causes (OwnTo todo) (steps.ReadDir p) t moves r w (inl (own_base todo faults.TooDeep (inl refl)))))
visits w (ReadBucket p) todo t moves r fits =
    goes (OwnTo todo) (steps.ReadAll p) t moves r (bytes_in t) (unread_bucket w todo) (listed w todo)
    (λ f e. bucketless f (bytes_faults p t f fits e))
    (λ bytes _. gives (OwnTo todo) (steps.ReadAll p) t moves r w (items_in bytes) (walk_on todo) (inl (own_base todo faults.TooDeep (inl refl))) (goes_on (OwnTo todo) (steps.ReadAll p) t moves r todo (λ g o. inl o)))
  where
    bucketless : (f : Fault) → Faults (steps.ReadAll p) t f → Causes (unread_bucket w todo f) moves r → HasCause (OwnTo todo) ((steps.ReadAll p, t) ∷ moves) r
    bucketless faults.NotFound x = goes_on (OwnTo todo) (steps.ReadAll p) t moves r todo (λ g o. inl o) w
    bucketless f x = misses (OwnTo todo) (steps.ReadAll p) t moves r w (walk_on todo) f (inr x) (inl (own_base todo faults.TooDeep (inl refl))) (goes_on (OwnTo todo) (steps.ReadAll p) t moves r todo (λ g o. inl o))
visits w (RemoveFile p) todo t moves r fits =
    goes (OwnTo todo) (steps.RemoveFile p) t moves r (done_in t) (miss w (walk_on todo)) (λ _. walk_on todo w)
    (λ f e. misses (OwnTo todo) (steps.RemoveFile p) t moves r w (walk_on todo) f (inr (remove_faults p t f fits e)) (inl (own_base todo faults.TooDeep (inl refl))) (goes_on (OwnTo todo) (steps.RemoveFile p) t moves r todo (λ g o. inl o)))
    (λ _ _. goes_on (OwnTo todo) (steps.RemoveFile p) t moves r todo (λ g o. inl o) w)
visits w (RemoveFolder p) todo t moves r fits =
    goes (OwnTo todo) (steps.RemoveDir p) t moves r (done_in t) (miss w (walk_on todo)) (λ _. walk_on todo w)
    (λ f e. misses (OwnTo todo) (steps.RemoveDir p) t moves r w (walk_on todo) f (inr (remove_folder_faults p t f fits e)) (inl (own_base todo faults.TooDeep (inl refl))) (goes_on (OwnTo todo) (steps.RemoveDir p) t moves r todo (λ g o. inl o)))
    (λ _ _. goes_on (OwnTo todo) (steps.RemoveDir p) t moves r todo (λ g o. inl o) w)

-- ---- all states

abbrev with_item : Option PlainStep → PlainAnswer → Moves → Moves
with_item None t moves = moves
with_item (Some a) t moves = (a, t) ∷ moves

abbrev FitsWanted : Option PlainStep → PlainAnswer → Type 0
FitsWanted None t = Unit {0}
FitsWanted (Some a) t = Fits a t

-- a reply that isn't an `IoError`
no_fault : (O : Fault → Type 0) (moves : Moves) (reply : Reply) → HasCause (λ _. ⊥) [] reply → HasCause O moves reply
no_fault O moves reply h = grind (arith, common_steps)

-- after a step to a sound state, an `IoError` has a cause
carries : (s : State) (a : PlainStep) (t : PlainAnswer) (moves : Moves) (r : Reply) → Sound s → Causes s moves r → HasCause (own s) ((a, t) ∷ moves) r
carries s a t moves r k h = grind (arith, over_now, no_fault, later)

wrote : (c : Commit) (file : PlainTemp) (rest : List ℕ) (t : PlainAnswer) (moves : Moves) (r : Reply) (w : PlainTemp × ℕ) → written_in t ≡ Ok w → Causes (after_write c rest w) moves r → HasCause (λ _. ⊥) ((steps.Write file rest, t) ∷ moves) r
wrote c file rest t moves r w e h = search (rules, cond_leads, fails_now, zero_faults, writes_rest)

sent : (i : Insertion) (t : PlainAnswer) (moves : Moves) (r : Reply) (n : ℕ) → taken_in t ≡ Ok n → HasCause (λ _. ⊥) [] i.reply → Causes (after_append i n) moves r → HasCause (λ _. ⊥) ((steps.Append (bucket_path i.cache i.entry.key) (bucket_line i), t) ∷ moves) r
sent i t moves r n e k h =
    let a : PlainStep = steps.Append (bucket_path i.cache i.entry.key) (bucket_line i) in
    cond_leads (λ s. Causes s moves r → HasCause (λ _. ⊥) ((a, t) ∷ moves) r) (nat_le (length (bucket_line i)) n) (recorded i) (fails faults.ShortAppend)
    (λ _. records (λ _. ⊥) a t moves r i (no_fault (λ _. ⊥) ((a, t) ∷ moves) i.reply k) k)
    (λ short. fails_now (λ _. ⊥) a t moves r faults.ShortAppend (inr (short_faults (bucket_path i.cache i.entry.key) (bucket_line i) t n e (leb-false (length (bucket_line i)) n short)))) h

confirms : (c : Commit) (fault : Fault) (a : PlainStep) (t : PlainAnswer) (moves : Moves) (r : Reply) (there : Bool) → Causes (after_confirm c fault there) moves r → HasCause (λ f. f ≡ fault) ((a, t) ∷ moves) r
confirms c fault a t moves r there h = grind (arith, secures_found, fails_now)

causes_step : (s : State) (t : PlainAnswer) (moves : Moves) (r : Reply) → FitsWanted (wants s) t → Causes (after s t) moves r → Causes s (with_item (wants s) t moves) r
causes_step (doing errand s) t moves r fits h = λ k. goes_or_fails (own s) (errand_step errand) t moves r (done_in t) (λ _. s) (λ f e. errand_faults errand t f fits e) (λ _ _. carries s (errand_step errand) t moves r k) h
causes_step (creating number c rest) t moves r fits h = λ k. goes_or_fails (λ _. ⊥) (steps.CreateTemp (temp_path c.cache number)) t moves r (temp_in t) (λ file. write_rest c file rest) (λ f e. temp_faults (temp_path c.cache number) t f fits e) (λ file _. writes_rest (λ _. ⊥) (steps.CreateTemp (temp_path c.cache number)) t moves r c file rest) h
causes_step (writing c file rest) t moves r fits h = λ k. goes_or_fails (λ _. ⊥) (steps.Write file rest) t moves r (written_in t) (after_write c rest) (λ f e. written_faults file rest t f fits e) (λ w e. wrote c file rest t moves r w e) h
causes_step (syncing c file) t moves r fits h = λ k. goes_or_fails (λ _. ⊥) (steps.SyncTemp file) t moves r (synced_in t) (persisting c) (λ f e. synced_faults file t f fits e) (λ g _ q. holds_none (λ _. ⊥) (steps.SyncTemp file) t moves r (q tt)) h
causes_step (persisting c file) t moves r fits h = λ k. goes (λ _. ⊥) (steps.Persist file (content_path c.cache c.computed)) t moves r (done_in t) (confirming c) (λ _. secured c) (λ f e g. later (λ _. ⊥) (steps.Persist file (content_path c.cache c.computed)) t moves r (λ x. x ≡ f) (λ x same. inr (rw same (persist_faults file (content_path c.cache c.computed) t f fits e))) (g tt)) (λ _ _. secures (λ _. ⊥) (steps.Persist file (content_path c.cache c.computed)) t moves r c) h
causes_step (linking c target) t moves r fits h = λ k. goes (λ _. ⊥) (steps.Symlink target (content_path c.cache c.computed)) t moves r (done_in t) (confirming c) (λ _. secured c) (λ f e g. later (λ _. ⊥) (steps.Symlink target (content_path c.cache c.computed)) t moves r (λ x. x ≡ f) (λ x same. inr (rw same (symlink_faults target (content_path c.cache c.computed) t f fits e))) (g tt)) (λ _ _. secures (λ _. ⊥) (steps.Symlink target (content_path c.cache c.computed)) t moves r c) h
causes_step (confirming c fault) t moves r fits h = λ k. goes (λ f. f ≡ fault) (steps.Exists (content_path c.cache c.computed)) t moves r (there_in t) (λ _. fails fault) (after_confirm c fault) (λ f e. fails_now (λ f. f ≡ fault) (steps.Exists (content_path c.cache c.computed)) t moves r fault (inl refl)) (λ there _. confirms c fault (steps.Exists (content_path c.cache c.computed)) t moves r there) h
causes_step (appending i) t moves r fits h = λ k. goes_or_fails (λ _. ⊥) (steps.Append (bucket_path i.cache i.entry.key) (bucket_line i)) t moves r (taken_in t) (after_append i) (λ f e. append_faults _ _ t f fits e) (λ n e. sent i t moves r n e k) h
causes_step (looking l) t moves r fits h = λ k. goes (λ _. ⊥) (steps.ReadAll (bucket_path l.cache l.key)) t moves r (bytes_in t) (no_bucket l) (after_bucket l) (λ f e. unreads (λ _. ⊥) (steps.ReadAll (bucket_path l.cache l.key)) t moves r l f (bytes_faults _ t f fits e)) (λ bytes _. founds (λ _. ⊥) (steps.ReadAll (bucket_path l.cache l.key)) t moves r l l.aim (found_in l.key bytes)) h
causes_step (reading x) t moves r fits h = λ k. goes_or_fails (λ _. ⊥) (steps.ReadAll (content_path x.cache x.integrity)) t moves r (bytes_in t) (checked x) (λ f e. bytes_faults _ t f fits e) (λ bytes _. checks (λ _. ⊥) (steps.ReadAll (content_path x.cache x.integrity)) t moves r x bytes) h
causes_step (sizing target) t moves r fits h = λ k. goes_or_fails (λ _. ⊥) (steps.Size target.path) t moves r (length_in t) (after_size target) (λ f e. length_faults _ t f fits e) (λ n _ g. holds_none (λ _. ⊥) (steps.Size target.path) t moves r (g tt)) h
causes_step (opening_file x) t moves r fits h = λ k. goes_or_fails (λ _. ⊥) (steps.Open (hashed_path x)) t moves r (file_in t) (λ file. hashing x file []) (λ f e. file_faults _ t f fits e) (λ file _ g. holds_none (λ _. ⊥) (steps.Open (hashed_path x)) t moves r (g tt)) h
causes_step (hashing x file bytes) t moves r fits h = λ k. goes_or_fails (λ _. ⊥) (steps.Read file piece) t moves r (got_in t) (after_read x bytes) (λ f e. got_faults file piece t f fits e) (λ got _. reads_on (λ _. ⊥) (steps.Read file piece) t moves r x bytes got.0 got.1) h
causes_step (asking x) t moves r fits h = λ k. goes (λ _. ⊥) (steps.Exists (content_path x.cache x.integrity)) t moves r (there_in t) answer_absent answer_there (λ f e. over_now (λ _. ⊥) (steps.Exists (content_path x.cache x.integrity)) t moves r (Exists false) tt) (λ there _. over_now (λ _. ⊥) (steps.Exists (content_path x.cache x.integrity)) t moves r (Exists there) tt) h
causes_step (copying from to count) t moves r fits h = λ k. goes_or_fails (λ _. ⊥) (steps.Copy from to) t moves r (taken_in t) (λ n. over (Copied (copied_count count n))) (λ f e. copy_faults from to t f fits e) (λ n _. over_now (λ _. ⊥) (steps.Copy from to) t moves r (Copied (copied_count count n)) tt) h
causes_step (walking w v todo) t moves r fits h = λ k. visits w v todo t moves r fits h
causes_step (over reply) t moves r fits h = h

memory_causes : (s : State) → Causes s [] (Refused OutOfMemory)
memory_causes s = grind (arith, common_steps)

runs_cause : (s : State) (moves : Moves) (r : Reply) → Runs s moves r → Causes s moves r
runs_cause s [] r (inl e) = rw e (inl refl)
runs_cause s [] r (inr e) = rw e (memory_causes s)
runs_cause s (m ∷ moves) r run =
    let fits : FitsWanted (wants s) m.1 = rw run.0 run.1 in
    let h = causes_step s m.1 moves r fits (runs_cause (after s m.1) moves r run.2) in
    rw run.0 at h

over_caused : (O : Fault → Type 0) (reply : Reply) (moves : Moves) (r : Reply) → HasCause (λ _. ⊥) [] reply → Causes (over reply) moves r → HasCause O moves r
over_caused O reply moves r k h = grind (arith, no_fault)

pub io_errors_have_causes : (site : Site) (command : Command) (moves : Moves) (r : Reply) → Runs (opening site command) moves r → HasCause (own_of command) moves r
io_errors_have_causes site command moves r run = search (rules, runs_cause, over_caused, cond_leads)
