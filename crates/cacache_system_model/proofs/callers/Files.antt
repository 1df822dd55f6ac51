-- The temporary file and the open file of a state.
use Rattle.std.proofs.{lemmas.Grind.{common_steps}, Common.{rules, arith, ◌≡◌, ◌⊎◌, inl, inr, ℕ, List, [], ◌∷◌, Option, None, Some, Ok, length, take, nat_le, refl, sym, ◌∙◌}}
use Rattle.std.specs.Prelude.{◌++◌, ◌+◌, ◌-◌}
use Rattle.cacache_core.specs.declared.errors.Fault.{Fault}
use Rattle.cacache_core.specs.declared.errors.Fault.TheVariants as faults
use Rattle.cacache_store.specs.{declared.store.plain.{PlainFile.{PlainFile}, PlainTemp.{PlainTemp}}, Plain.{PlainStep, PlainAnswer}}
use Rattle.cacache_store.specs.declared.store.step.Step.TheVariants as steps
use Rattle.cacache_store.specs.declared.store.answer.Answer.TheVariants as answers
use Rattle.cacache_entry.specs.Bucket.{Found}
use Rattle.cacache_calls.specs.{declared.{command.{Command.{Command}, Export.{Export}, How.{How}}, carried.{Aim.{Aim}, Commit.{Commit}, Content.{Content}, Lookup.{Lookup}}, reply.Reply.TheVariants.{Done, Listed, Read}, visit.{Visit.{Visit, TheVariants.{Enter, ReadBucket, RemoveFile, RemoveFolder}}, Task.{Task, TheVariants.{Make, Stumble}}}}, Answers.{done_in, temp_in, written_in, synced_in, there_in, taken_in, bytes_in, file_in as file_answered, got_in, length_in, names_in}, Common.{fails, errand_step}, Reading.{checked, answer_there, answer_absent, export_from, export_content, export, found_for, no_bucket}, Inserting.{bucket_line, recorded, after_append, insert, refused_cause}, Linking.{after_size, after_read}, State.{State, doing, creating, writing, syncing, persisting, linking, confirming, appending, looking, reading, asking, sizing, opening_file, hashing, copying, walking, over, Site, Insertion, Errand, Item, Walk, Hashing, to_verify, sync_file, sync_dir}, Steps.{content_path}, Storing.{placed, secured, secured_found, write_rest, after_confirm}, Table.{wants, after, opening}, Walking.{most, failed, give, miss, walk_ends, walk_on, too_many, tasks_of, leaving, entered, unread_bucket, listed, items_in, visit_step, after_visit}}
use Rattle.cacache_calls.proofs.{Going.{cond_leads, go_on_leads, moves_on, secures, secures_found, records, places, inserts}, Sound.{some_is}}

-- the temporary file that a state is about
abbrev pub file_in : State → Option PlainTemp
file_in (doing errand s) = file_in s
file_in (writing c file rest) = Some file
file_in (syncing c file) = Some file
file_in (persisting c file) = Some file
file_in s = None

-- the open file that a state is about
abbrev pub open_in : State → Option PlainFile
open_in (doing errand s) = open_in s
open_in (hashing h file bytes) = Some file
open_in s = None

-- the temporary file of a step
abbrev pub file_of : PlainStep → Option PlainTemp
file_of (steps.Write f bytes) = Some f
file_of (steps.Persist f p) = Some f
file_of (steps.SyncTemp f) = Some f
file_of step = None

-- the open file of a step
abbrev pub open_of : PlainStep → Option PlainFile
open_of (steps.Read f max) = Some f
open_of step = None

-- the temporary file that an answer hands out
abbrev pub file_given : PlainAnswer → Option PlainTemp
file_given (answers.Temp f) = Some f
file_given (answers.Wrote f n) = Some f
file_given (answers.Synced f) = Some f
file_given answer = None

-- the open file that an answer hands out
abbrev pub open_given : PlainAnswer → Option PlainFile
open_given (answers.File f) = Some f
open_given (answers.Got f bytes) = Some f
open_given answer = None

-- ---- states without files

abbrev pub IsFree : State → Type 0
IsFree s = (file_in s ≡ None) × (open_in s ≡ None)

free_places : (c : Commit) → IsFree (placed c)
free_places c = places IsFree (λ reply. (refl, refl)) (λ folder i. (refl, refl)) c

free_syncs : (p : List ℕ) (s : State) → IsFree s → IsFree (doing (sync_file p) s) × IsFree (doing (sync_dir p) s)
free_syncs p s h = (h, h)

free_secured : (c : Commit) → IsFree (secured c)
free_secured c = secures IsFree free_syncs c (free_places c)

free_inserts : (i : Insertion) → IsFree (insert i)
free_inserts i = inserts IsFree (λ reply. (refl, refl)) (λ folder j. (refl, refl)) i (refused_cause i)

free_how : (how : How) (from to : List ℕ) (count : Option ℕ) → IsFree (export_from how from to count)
free_how how from to count = grind (arith, common_steps)

free_export : (k : Content) (e : Export) → IsFree (export k e)
free_export k e = cond_leads IsFree e.checked (opening_file (to_verify k e)) (export_content k e None) (λ _. (refl, refl)) (λ _. free_how e.how (content_path k.cache k.integrity) e.to None)

pub opens_free : (site : Site) (command : Command) → IsFree (opening site command)
opens_free site command = grind (arith, free_inserts, free_export)

free_found : (l : Lookup) (aim : Aim) (found : Option Found) → IsFree (found_for l aim found)
free_found l aim found = grind (arith, free_export)

free_unread : (l : Lookup) (fault : Fault) → IsFree (no_bucket l fault)
free_unread l fault = grind (arith, free_found)

-- ---- walks

free_ends : (w : Walk) → IsFree (walk_ends w)
free_ends w = cond_leads IsFree w.clears (over Done) (over (Listed w.items)) (λ _. (refl, refl)) (λ _. (refl, refl))

free_many : (w : Walk) → IsFree (too_many w)
free_many w = cond_leads IsFree w.clears (fails faults.TooDeep) (over (Listed (w.items ++ failed faults.TooDeep ∷ []))) (λ _. (refl, refl)) (λ _. (refl, refl))

free_gives : (w : Walk) (items : List Item) (next : Walk → State) → ((v : Walk) → IsFree (next v)) → IsFree (give w items next)
free_gives w items next h =
    let more : Walk = record w { items = w.items ++ items } in
    let full : Walk = record w { items = take most (w.items ++ items) } in
    cond_leads IsFree (nat_le (length w.items + length items) most) (next more) (too_many full) (λ _. h more) (λ _. free_many full)

free_misses : (w : Walk) (next : Walk → State) (fault : Fault) → ((v : Walk) → IsFree (next v)) → IsFree (miss w next fault)
free_misses w next fault h = cond_leads IsFree w.clears (fails fault) (give w (failed fault ∷ []) next) (λ _. (refl, refl)) (λ _. free_gives w (failed fault ∷ []) next h)

free_walk : (todo : List Task) (w : Walk) → IsFree (walk_on todo w)
free_walk [] w = free_ends w
free_walk (Make v ∷ todo) w = (refl, refl)
free_walk (Stumble fault path ∷ todo) w = free_misses w (walk_on todo) fault (free_walk todo)

free_bucket : (w : Walk) (todo : List Task) (fault : Fault) → IsFree (unread_bucket w todo fault)
free_bucket w todo faults.NotFound = free_walk todo w
free_bucket w todo fault = free_misses w (walk_on todo) fault (free_walk todo)

free_visit : (w : Walk) (v : Visit) (todo : List Task) (a : PlainAnswer) → IsFree (after_visit w v todo a)
free_visit w (Enter p level) todo a =
    go_on_leads IsFree (names_in a) (miss w (walk_on todo)) (entered w p level todo) (refl, refl) (λ fault. free_misses w (walk_on todo) fault (free_walk todo))
    (λ names e.
    let tasks = tasks_of w.clears level p names ++ leaving w.clears level p ++ todo in
    let less : Walk = record w { left = w.left - length names } in
    cond_leads IsFree (nat_le (length names) w.left) (walk_on tasks less) (too_many w) (λ _. free_walk tasks less) (λ _. free_many w))
free_visit w (ReadBucket p) todo a =
    go_on_leads IsFree (bytes_in a) (unread_bucket w todo) (listed w todo) (refl, refl) (free_bucket w todo) (λ bytes e. free_gives w (items_in bytes) (walk_on todo) (free_walk todo))
free_visit w (RemoveFile p) todo a =
    go_on_leads IsFree (done_in a) (miss w (walk_on todo)) (λ _. walk_on todo w) (refl, refl) (λ fault. free_misses w (walk_on todo) fault (free_walk todo)) (λ x e. free_walk todo w)
free_visit w (RemoveFolder p) todo a =
    go_on_leads IsFree (done_in a) (miss w (walk_on todo)) (λ _. walk_on todo w) (refl, refl) (λ fault. free_misses w (walk_on todo) fault (free_walk todo)) (λ x e. free_walk todo w)

-- ---- the state behind an answer

-- an errand comes before the state
abbrev pub IsErrand : State → Type 0
IsErrand (doing errand s) = Unit {0}
IsErrand s = ⊥

-- a file is the one that the answer hands out, or there is none; or an errand was done, and it is the one before
abbrev pub From : {A : Type 0} → Option A → Option A → Option A → State → Type 0
From new given before old =
    (new ≡ given) ⊎ ((new ≡ None) ⊎ ((new ≡ before) × (given ≡ None) × IsErrand old))

-- so are the files of the next state
abbrev pub Follows : State → PlainAnswer → State → Type 0
Follows old a s = From (file_in s) (file_given a) (file_in old) old × From (open_in s) (open_given a) (open_in old) old

module _ (old : State) (a : PlainAnswer) where
  free_follows : (s : State) → IsFree s → Follows old a s
  free_follows s h = (inr (inl h.0), inr (inl h.1))

  rest_follows : (c : Commit) (file : PlainTemp) (rest : List ℕ) → file_given a ≡ Some file → Follows old a (write_rest c file rest)
  rest_follows c file rest e = grind (arith, moves_on)

done_none : (a : PlainAnswer) (x : Unit {0}) → done_in a ≡ Ok x → (file_given a ≡ None) × (open_given a ≡ None)
done_none a x e = grind (arith, common_steps)

temp_given : (a : PlainAnswer) (file : PlainTemp) → temp_in a ≡ Ok file → file_given a ≡ Some file
temp_given a file e = grind (arith, common_steps)

written_given : (a : PlainAnswer) (w : PlainTemp × ℕ) → written_in a ≡ Ok w → file_given a ≡ Some w.0
written_given a w e = grind (arith, common_steps)

synced_given : (a : PlainAnswer) (file : PlainTemp) → synced_in a ≡ Ok file → file_given a ≡ Some file
synced_given a file e = grind (arith, common_steps)

opened_given : (a : PlainAnswer) (file : PlainFile) → file_answered a ≡ Ok file → open_given a ≡ Some file
opened_given a file e = grind (arith, common_steps)

got_given : (a : PlainAnswer) (g : PlainFile × List ℕ) → got_in a ≡ Ok g → open_given a ≡ Some g.0
got_given a g e = grind (arith, common_steps)

free_hashed : (h : Hashing) (bytes : List ℕ) (file : PlainFile) → IsFree (after_read h bytes (file, []))
free_hashed h bytes file = grind (arith, cond_leads, free_how)

read_follows : (old : State) (a : PlainAnswer) (h : Hashing) (bytes : List ℕ) (g : PlainFile × List ℕ) → open_given a ≡ Some g.0 → Follows old a (after_read h bytes g)
read_follows old a h bytes g e = grind (arith, free_follows, free_hashed)

pub follows_after : (s : State) (a : PlainAnswer) → Follows s a (after s a)
follows_after (doing errand s) a = search (rules, go_on_leads, done_none)
follows_after (creating number c rest) a = search (rules, go_on_leads, rest_follows, temp_given)
follows_after (writing c file rest) a = search (rules, go_on_leads, cond_leads, rest_follows, written_given)
follows_after (syncing c file) a = search (rules, go_on_leads, synced_given)
follows_after (persisting c file) a =
    free_follows (persisting c file) a (after (persisting c file) a) (go_on_leads IsFree (done_in a) (confirming c) (λ _. secured c) (refl, refl) (λ fault. (refl, refl)) (λ x e. free_secured c))
follows_after (linking c target) a =
    free_follows (linking c target) a (after (linking c target) a) (go_on_leads IsFree (done_in a) (confirming c) (λ _. secured c) (refl, refl) (λ fault. (refl, refl)) (λ x e. free_secured c))
follows_after (confirming c fault) a =
    free_follows (confirming c fault) a (after (confirming c fault) a) (go_on_leads IsFree (there_in a) (λ _. fails fault) (after_confirm c fault) (refl, refl) (λ other. (refl, refl))
    (λ there e. cond_leads IsFree there (secured_found c) (fails fault) (λ _. secures_found IsFree free_syncs c (free_places c)) (λ _. (refl, refl))))
follows_after (appending i) a =
    free_follows (appending i) a (after (appending i) a) (go_on_leads IsFree (taken_in a) fails (after_append i) (refl, refl) (λ fault. (refl, refl))
    (λ n e. cond_leads IsFree (nat_le (length (bucket_line i)) n) (recorded i) (fails faults.ShortAppend) (λ _. records IsFree free_syncs i (refl, refl)) (λ _. (refl, refl))))
follows_after (looking l) a = search (rules, free_follows, go_on_leads, free_unread, free_found)
follows_after (reading k) a = search (rules, free_follows, go_on_leads, cond_leads)
follows_after (asking k) a = free_follows (asking k) a (after (asking k) a) (go_on_leads IsFree (there_in a) answer_absent answer_there (refl, refl) (λ fault. (refl, refl)) (λ there e. (refl, refl)))
follows_after (sizing t) a = free_follows (sizing t) a (after (sizing t) a) (go_on_leads IsFree (length_in a) fails (after_size t) (refl, refl) (λ fault. (refl, refl)) (λ n e. (refl, refl)))
follows_after (opening_file h) a = search (rules, go_on_leads, opened_given)
follows_after (hashing h file bytes) a = search (rules, go_on_leads, read_follows, got_given)
follows_after (copying from to count) a = search (rules, free_follows, go_on_leads)
follows_after (walking w v todo) a = free_follows (walking w v todo) a (after_visit w v todo a) (free_visit w v todo a)
follows_after (over reply) a = (inr (inl refl), inr (inl refl))

-- ---- the step of a state

-- a step's file is the state's, if it has one
abbrev Keeps : {A : Type 0} → Option A → Option A → Type 0
Keeps {A} mine own = (file : A) → mine ≡ Some file → own ≡ Some file

abbrev Has : State → PlainStep → Type 0
Has s step = Keeps (file_of step) (file_in s) × Keeps (open_of step) (open_in s)

has_none : (s : State) (step : PlainStep) → file_of step ≡ None → open_of step ≡ None → Has s step
has_none s step none no_open = (λ file e. let no : None ≡ Some file = sym none ∙ e in absurd cc, λ file e. let no : None ≡ Some file = sym no_open ∙ e in absurd cc)

errand_has : (s : State) (errand : Errand) → Has s (errand_step errand)
errand_has s errand = grind (arith, has_none)

visit_has : (s : State) (v : Visit) → Has s (visit_step v)
visit_has s v = grind (arith, has_none)

-- what a state needs, the step that it asks for has
state_has : (s : State) (step : PlainStep) → wants s ≡ Some step → Has s step
state_has s step w = grind (arith, some_is, errand_has, visit_has, has_none)

-- a step's temporary file is the state's
pub wants_file : (s : State) (step : PlainStep) (f : PlainTemp) → wants s ≡ Some step → file_of step ≡ Some f → file_in s ≡ Some f
wants_file s step f w e = (state_has s step w).0 f e

-- so is its open file
pub wants_open : (s : State) (step : PlainStep) (f : PlainFile) → wants s ≡ Some step → open_of step ≡ Some f → open_in s ≡ Some f
wants_open s step f w e = (state_has s step w).1 f e

-- what holds of the errands that a state wants holds of its step
pub errand_steps : (s : State) (step : PlainStep) (P : PlainStep → Type 0) → IsErrand s → wants s ≡ Some step → ((errand : Errand) → wants s ≡ Some (errand_step errand) → P (errand_step errand)) → P step
errand_steps s step P e w all = grind (arith, some_is)
