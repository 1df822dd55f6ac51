-- Runs end: each answer lowers the bound on the remaining steps.
use Rattle.std.proofs.{Common.{◌≡◌, ℕ, zero, suc, ◌+◌, ◌*◌, ◌-◌, ◌^◌, ◌<◌, ◌≤◌, ◌==◌, List, [], ◌∷◌, ◌++◌, Option, Some, None, Bool, true, false, cond, nat_le, nat_lt, Ok, refl, ap, ◌∙◌, length, drop, take, arith, length-drop}, lemmas.Bool.{eqb-false, leb-true}}
use Rattle.cacache_core.specs.{declared.{errors.{Fault.{Fault}, SerdeCause.{SerdeCause}, IntegrityFault.TheVariants.{Check}, Error.TheVariants.{SizeMismatch, IntegrityError}}, integrity.digest.Hash.{Hash}}, Integrity.{actual, address}, Paths.{join, folders_to, content_names}, Matching.{meets}}
use Rattle.cacache_core.specs.declared.errors.Fault.TheVariants as faults
use Rattle.cacache_store.specs.{declared.store.{plain.{PlainTemp.{PlainTemp}, PlainFile.{PlainFile}}, answer.{Kind.{Kind}, Name.{Name}}}, Plain.{PlainStep, PlainAnswer, Fits}}
use Rattle.cacache_store.specs.declared.store.answer.Kind.TheVariants as kinds
use Rattle.cacache_store.specs.declared.store.answer.Answer.TheVariants as answers
use Rattle.cacache_store.specs.declared.store.step.Step.TheVariants as steps
use Rattle.cacache_entry.specs.Bucket.{Found}
use Rattle.cacache_calls.specs.{declared.{command.{Export.{Export}, How.{How, TheVariants.{Copy}}}, reply.Reply.TheVariants.{Read, Exists, Copied, Listed, Done}, carried.{Commit.{Commit}, Aim.{Aim}, Lookup.{Lookup}, Content.{Content}}, visit.{Visit.{Visit, TheVariants.{Enter, ReadBucket, RemoveFile, RemoveFolder}}, Task.{Task, TheVariants.{Make, Stumble}}}}, Answers.{done_in, temp_in, written_in, synced_in, there_in, taken_in, bytes_in, file_in, got_in, length_in, names_in}, Steps.{content_path, addressed, content_folders, bucket_path, bucket_folders}, State.{State, doing, creating, writing, syncing, persisting, linking, confirming, appending, looking, reading, asking, sizing, opening_file, hashing, copying, walking, over, Insertion, Hashing, to_verify, to_link, Item, Walk, sync_file, sync_dir}, Common.{ends_with, fails, sync_up}, Inserting.{unless_refused, refused_cause, bucket_line, recorded, after_append}, Storing.{insertion_of, indexed, sized, matches, compared, placed, secured, secured_found, move_in, write_rest, after_write, after_confirm}, Reading.{checked, export_from, export, copied_count, found_in, found_for, after_bucket, no_bucket}, Linking.{after_size, hashed_path, hashed, after_read}, Walking.{most, failed, give, miss, walk_on, go_deeper, task_for_name, tasks_of, leaving, too_many, entered, unread_bucket, after_visit, items_in}, Table.{piece, wants, after}, Runs.{weight, weights, effort}}
use Rattle.cacache_calls.proofs.Going.{cond_leads, go_on_leads}
use Rattle.cacache_calls.specs.declared.carried.Aim.TheVariants as aims

abbrev Below : ℕ → State → Type 0
Below n s = effort s < n

-- ---- syncs of folders

-- one step for each folder
synced_below : (folders : List (List ℕ)) (s : State) (n : ℕ) → effort s + length folders < n → Below n (sync_up folders s)
synced_below [] s n h = omega (arith, h)
synced_below (p ∷ ps) s n h = synced_below ps (doing (sync_dir p) s) n (omega (arith, h))

-- five folders lead to a content
content_count : (cache : List ℕ) (i : List Hash) → length (content_folders cache i) ≤ 5
unfolding content_folders
content_count cache i = by_address (address i)
  where
    by_address : (o : Option Hash) → length (addressed (λ h. folders_to cache (content_names h)) o) ≤ 5
    by_address None = omega arith
    by_address (Some h) = omega arith

-- and four to a bucket
bucket_count : (cache key : List ℕ) → length (bucket_folders cache key) ≤ 4
unfolding bucket_folders
bucket_count cache key = omega arith

-- ---- commits

inserts_below : (i : Insertion) (cause : Option SerdeCause) → Below 8 (unless_refused i cause)
inserts_below i None = omega arith
inserts_below i (Some cause) = omega arith

indexed_below : (c : Commit) (key : Option (List ℕ)) → Below 8 (indexed c key)
indexed_below c None = omega arith
indexed_below c (Some key) = inserts_below (insertion_of c key) (refused_cause (insertion_of c key))

sized_below : (c : Commit) (size : Option ℕ) → Below 8 (sized c size)
sized_below c None = indexed_below c c.key
sized_below c (Some wanted) = cond_leads (Below 8) (wanted == c.count) (indexed c c.key) (ends_with (SizeMismatch wanted c.count)) (λ _. indexed_below c c.key) (λ _. omega arith)

compared_below : (c : Commit) (expected : Option (List Hash)) → Below 8 (compared c expected)
compared_below c None = sized_below c c.options.size
compared_below c (Some expected) = cond_leads (Below 8) (matches expected c.computed) (sized c c.options.size) (ends_with (IntegrityError (Check expected c.computed))) (λ _. sized_below c c.options.size) (λ _. omega arith)

placed_below : (c : Commit) → Below 8 (placed c)
placed_below c = compared_below c c.options.integrity

secured_below : (c : Commit) → Below 13 (secured c)
secured_below c =
    cond_leads (Below 13) c.options.durable (sync_up (content_folders c.cache c.computed) (placed c)) (placed c)
    (λ _. synced_below (content_folders c.cache c.computed) (placed c) 13 (omega (arith, placed_below c, content_count c.cache c.computed))) (λ _. omega (arith, placed_below c))

secured_found_below : (c : Commit) → Below 14 (secured_found c)
secured_found_below c =
    cond_leads (Below 14) c.options.durable (doing (sync_file (content_path c.cache c.computed)) (secured c)) (secured c)
    (λ _. omega (arith, secured_below c)) (λ _. omega (arith, secured_below c))

moved_below : (c : Commit) (file : PlainTemp) → Below 17 (move_in c file)
moved_below c file = cond_leads (Below 17) c.options.durable (syncing c file) (persisting c file) (λ _. omega arith) (λ _. omega arith)

rest_below : (c : Commit) (file : PlainTemp) (rest : List ℕ) → Below (length rest + 19) (write_rest c file rest)
rest_below c file [] = omega (arith, moved_below c file)
rest_below c file (b ∷ bs) = omega arith

-- a write that took some bytes leaves fewer
less_below : (c : Commit) (file : PlainTemp) (rest : List ℕ) (n : ℕ) → 0 < n → Below (length rest + 18) (write_rest c file (drop n rest))
less_below c file rest zero h = absurd (omega arith)
less_below c file [] (suc n) h = omega (arith, moved_below c file)
less_below c file (b ∷ bs) (suc n) h = omega (arith, rest_below c file (drop (suc n) (b ∷ bs)), length-drop (suc n) (b ∷ bs))

wrote_below : (c : Commit) (rest : List ℕ) (w : PlainTemp × ℕ) → Below (length rest + 18) (after_write c rest w)
wrote_below c rest w =
    cond_leads (Below (length rest + 18)) (w.1 == 0) (fails faults.WriteZero) (write_rest c w.0 (drop w.1 rest)) (λ _. omega arith)
    (λ e. less_below c w.0 rest w.1 (omega (arith, eqb-false w.1 0 e)))

confirmed_below : (c : Commit) (fault : Fault) (there : Bool) → Below 14 (after_confirm c fault there)
confirmed_below c fault true = secured_found_below c
confirmed_below c fault false = omega arith

recorded_below : (i : Insertion) → Below 6 (recorded i)
recorded_below i =
    cond_leads (Below 6) i.durable (doing (sync_file (bucket_path i.cache i.entry.key)) (sync_up (bucket_folders i.cache i.entry.key) (over i.reply))) (over i.reply)
    (λ _. omega (arith, synced_below (bucket_folders i.cache i.entry.key) (over i.reply) 5 (omega (arith, bucket_count i.cache i.entry.key)))) (λ _. omega arith)

appended_below : (i : Insertion) (n : ℕ) → Below 6 (after_append i n)
appended_below i n = cond_leads (Below 6) (nat_le (length (bucket_line i)) n) (recorded i) (fails faults.ShortAppend) (λ _. recorded_below i) (λ _. omega arith)

-- ---- files that a call reads to their end

exports_below : (how : How) (from to : List ℕ) (count : Option ℕ) → Below 2 (export_from how from to count)
exports_below Copy from to count = omega arith
exports_below how from to count = omega arith

export_below : (k : Content) (e : Export) → Below (2 ^ 64 + 18) (export k e)
export_below k e =
    cond_leads (Below (2 ^ 64 + 18)) e.checked (opening_file (to_verify k e)) (export_from e.how (content_path k.cache k.integrity) e.to None)
    (λ _. omega arith) (λ _. omega (arith, exports_below e.how (content_path k.cache k.integrity) e.to None))

heard_below : (h : Hashing) (bytes : List ℕ) → Below 17 (hashed h bytes)
heard_below (to_verify k e) bytes =
    cond_leads (Below 17) (meets k.integrity bytes) (export_from e.how (content_path k.cache k.integrity) e.to (Some (length bytes))) (ends_with (IntegrityError (Check k.integrity (actual k.integrity bytes))))
    (λ _. omega (arith, exports_below e.how (content_path k.cache k.integrity) e.to (Some (length bytes)))) (λ _. omega arith)
heard_below (to_link t) bytes = omega arith

read_below : (h : Hashing) (bytes : List ℕ) (left : ℕ) (file : PlainFile) (more : List ℕ) → file.left + length more ≡ left → Below (left + 17) (after_read h bytes (file, more))
read_below h bytes left file [] e = omega (arith, heard_below h bytes)
read_below h bytes left file (b ∷ bs) e = omega arith

-- what a fitting answer says about the open file
pub opened : (path : List ℕ) (t : PlainAnswer) (file : PlainFile) → Fits (steps.Open path) t → file_in t ≡ Ok file → file.left < 2 ^ 64
opened path (answers.File g) file fits e = let same : g ≡ file = cc in rw (← same) fits
opened path t file fits e = absurd cc

-- and about what is left of it
pub left_after : (old : PlainFile) (t : PlainAnswer) (x : PlainFile × List ℕ) → Fits (steps.Read old piece) t → got_in t ≡ Ok x → x.0.left + length x.1 ≡ old.left
left_after old (answers.Got g b) x fits e = let same : (g, b) ≡ x = cc in rw (← same) fits.1
left_after old t x fits e = absurd cc

-- ---- lookups

found_below : (l : Lookup) (aim : Aim) (found : Option Found) → Below (2 ^ 64 + 18) (found_for l aim found)
found_below l aims.Read (Some f) = omega arith
found_below l aims.Read None = omega arith
found_below l (aims.Export e) (Some f) = export_below _ e
found_below l aims.Remove (Some f) = omega arith
found_below l aim found = omega arith

unread_below : (l : Lookup) (fault : Fault) → Below (2 ^ 64 + 18) (no_bucket l fault)
unread_below l faults.NotFound = found_below l l.aim None
unread_below l fault = omega arith

checked_below : (k : Content) (bytes : List ℕ) → Below 1 (checked k bytes)
checked_below k bytes = cond_leads (Below 1) (meets k.integrity bytes) (over (Read bytes)) (ends_with (IntegrityError (Check k.integrity (actual k.integrity bytes)))) (λ _. omega arith) (λ _. omega arith)

-- ---- walks

weights_append : (a b : List Task) → weights (a ++ b) ≡ weights a + weights b
weights_append [] b = omega arith
weights_append (Make v ∷ a) b = omega (arith, weights_append a b)
weights_append (Stumble fault path ∷ a) b = weights_append a b

too_many_below : (w : Walk) (n : ℕ) → 0 < n → Below n (too_many w)
too_many_below w n h = cond_leads (Below n) w.clears (fails faults.TooDeep) (over (Listed (w.items ++ failed faults.TooDeep ∷ []))) (λ _. h) (λ _. h)

give_below : (w : Walk) (items : List Item) (next : Walk → State) (n : ℕ) → 0 < n → ((v : Walk) → v.left ≡ w.left → Below n (next v)) → Below n (give w items next)
give_below w items next n h k =
    let v : Walk = record w { items = w.items ++ items } in
    let full : Walk = record w { items = take most (w.items ++ items) } in
    cond_leads (Below n) (nat_le (length w.items + length items) most) (next v) (too_many full) (λ _. k v refl) (λ _. too_many_below full n h)

miss_below : (w : Walk) (next : Walk → State) (fault : Fault) (n : ℕ) → 0 < n → ((v : Walk) → v.left ≡ w.left → Below n (next v)) → Below n (miss w next fault)
miss_below w next fault n h k =
    let items : List Item = failed fault ∷ [] in
    cond_leads (Below n) w.clears (fails fault) (give w items next) (λ _. h) (λ _. give_below w items next n h k)

on_below : (todo : List Task) (w : Walk) → Below (2 * w.left + weights todo + 1) (walk_on todo w)
on_below [] w = cond_leads (Below (2 * w.left + 0 + 1)) w.clears (over Done) (over (Listed w.items)) (λ _. omega arith) (λ _. omega arith)
on_below (Stumble fault path ∷ todo) w = miss_below w (walk_on todo) fault (2 * w.left + weights todo + 1) (omega arith) (λ v e. omega (arith, on_below todo v))
on_below (Make v ∷ todo) w = omega arith

deeper_light : (p : List ℕ) (level : ℕ) → weights (go_deeper p level ∷ []) ≤ 2
deeper_light p level = by_level (nat_lt level 16)
  where
    by_level : (b : Bool) → weights (cond b (Make (Enter p (level + 1))) (Stumble faults.TooDeep p) ∷ []) ≤ 2
    by_level true = omega arith
    by_level false = omega arith

file_light : (p : List ℕ) (b : Bool) → weights (cond b (Stumble faults.NotADirectory p) (Make (RemoveFile p)) ∷ []) ≤ 2
file_light p true = omega arith
file_light p false = omega arith

task_light : (clears : Bool) (level : ℕ) (p : List ℕ) (kind : Kind) → weights (task_for_name clears level p kind ∷ []) ≤ 2
task_light clears level p kinds.Folder = deeper_light p level
task_light false level p kinds.Link = omega arith
task_light true level p kinds.File = file_light p (level == 0)
task_light clears level p kind = omega arith

tasks_light : (clears : Bool) (level : ℕ) (p : List ℕ) (names : List Name) → weights (tasks_of clears level p names) ≤ 2 * length names
tasks_light clears level p [] = omega arith
tasks_light clears level p (n ∷ ns) =
    omega (arith, weights_append (task_for_name clears level (join p n.name) n.kind ∷ []) (tasks_of clears level p ns), task_light clears level (join p n.name) n.kind, tasks_light clears level p ns)

leaving_light : (clears : Bool) (level : ℕ) (p : List ℕ) → weights (leaving clears level p) ≤ 1
leaving_light clears level p = by_both clears (level == 0)
  where
    by_both : (b c : Bool) → weights (cond b (cond c [] (Make (RemoveFolder p) ∷ [])) []) ≤ 1
    by_both true true = omega arith
    by_both true false = omega arith
    by_both false c = omega arith

weights_three : (a b c : List Task) → weights (a ++ b ++ c) ≡ weights a + weights b + weights c
weights_three a b c = weights_append (a ++ b) c ∙ ap (λ n. n + weights c) (weights_append a b)

-- this many names, the folder's removal and the earlier tasks together weigh less than the folder did
enters_below : (w : Walk) (n : ℕ) (tasks leave todo : List Task) → n ≤ w.left → weights tasks ≤ 2 * n → weights leave ≤ 1 → Below (2 * w.left + 2 + weights todo) (walk_on (tasks ++ leave ++ todo) (record w { left = w.left - n }))
enters_below w n tasks leave todo h k l = omega (arith, on_below (tasks ++ leave ++ todo) (record w { left = w.left - n }), weights_three tasks leave todo)

entered_below : (w : Walk) (p : List ℕ) (level : ℕ) (todo : List Task) (names : List Name) → Below (2 * w.left + 2 + weights todo) (entered w p level todo names)
entered_below w p level todo names =
    let tasks : List Task = tasks_of w.clears level p names in
    let leave : List Task = leaving w.clears level p in
    cond_leads (Below (2 * w.left + 2 + weights todo)) (nat_le (length names) w.left) (walk_on (tasks ++ leave ++ todo) (record w { left = w.left - length names })) (too_many w)
    (λ e. enters_below w (length names) tasks leave todo (leb-true (length names) w.left e) (tasks_light w.clears level p names) (leaving_light w.clears level p))
    (λ _. too_many_below w (2 * w.left + 2 + weights todo) (omega arith))

same_left : (w : Walk) (todo : List Task) (n : ℕ) (v : Walk) → v.left ≡ w.left → Below (2 * w.left + suc n + weights todo) (walk_on todo v)
same_left w todo n v e = omega (arith, on_below todo v)

bucketless_below : (w : Walk) (todo : List Task) (fault : Fault) → Below (2 * w.left + 1 + weights todo) (unread_bucket w todo fault)
bucketless_below w todo faults.NotFound = same_left w todo 0 w refl
bucketless_below w todo fault = miss_below w (walk_on todo) fault (2 * w.left + 1 + weights todo) (omega arith) (same_left w todo 0)

visit_below : (w : Walk) (v : Visit) (todo : List Task) (t : PlainAnswer) → Below (2 * w.left + weight v + weights todo) (after_visit w v todo t)
visit_below w (Enter p level) todo t =
    go_on_leads (Below (2 * w.left + 2 + weights todo)) (names_in t) _ _ (omega arith) (λ fault. miss_below w (walk_on todo) fault _ (omega arith) (same_left w todo 1)) (λ names _. entered_below w p level todo names)
visit_below w (ReadBucket p) todo t =
    go_on_leads (Below (2 * w.left + 1 + weights todo)) (bytes_in t) _ _ (omega arith) (bucketless_below w todo) (λ bytes _. give_below w (items_in bytes) (walk_on todo) _ (omega arith) (same_left w todo 0))
visit_below w v todo t =
    go_on_leads (Below (2 * w.left + 1 + weights todo)) (done_in t) _ _ (omega arith) (λ fault. miss_below w (walk_on todo) fault _ (omega arith) (same_left w todo 0)) (λ _ _. same_left w todo 0 w refl)

-- ---- all states

pub falls : (s : State) (a : PlainStep) (t : PlainAnswer) → wants s ≡ Some a → Fits a t → effort (after s t) < effort s
falls (doing errand s) a t e fits = go_on_leads (Below (effort s + 1)) (done_in t) fails (λ _. s) (omega arith) (λ _. omega arith) (λ _ _. omega arith)
falls (creating number c rest) a t e fits = go_on_leads (Below (length rest + 19)) (temp_in t) fails (λ file. write_rest c file rest) (omega arith) (λ _. omega arith) (λ file _. rest_below c file rest)
falls (writing c file rest) a t e fits = go_on_leads (Below (length rest + 18)) (written_in t) fails (after_write c rest) (omega arith) (λ _. omega arith) (λ w _. wrote_below c rest w)
falls (syncing c file) a t e fits = go_on_leads (Below 16) (synced_in t) fails (persisting c) (omega arith) (λ _. omega arith) (λ _ _. omega arith)
falls (persisting c file) a t e fits = go_on_leads (Below 15) (done_in t) (confirming c) (λ _. secured c) (omega arith) (λ _. omega arith) (λ _ _. omega (arith, secured_below c))
falls (linking c target) a t e fits = go_on_leads (Below 15) (done_in t) (confirming c) (λ _. secured c) (omega arith) (λ _. omega arith) (λ _ _. omega (arith, secured_below c))
falls (confirming c fault) a t e fits = go_on_leads (Below 14) (there_in t) (λ _. fails fault) (after_confirm c fault) (omega arith) (λ _. omega arith) (λ there _. confirmed_below c fault there)
falls (appending i) a t e fits = go_on_leads (Below 6) (taken_in t) fails (after_append i) (omega arith) (λ _. omega arith) (λ n _. appended_below i n)
falls (looking l) a t e fits = go_on_leads (Below (2 ^ 64 + 18)) (bytes_in t) (no_bucket l) (after_bucket l) (omega arith) (unread_below l) (λ bytes _. found_below l l.aim (found_in l.key bytes))
falls (reading k) a t e fits = go_on_leads (Below 1) (bytes_in t) fails (checked k) (omega arith) (λ _. omega arith) (λ bytes _. checked_below k bytes)
falls (sizing target) a t e fits = go_on_leads (Below (2 ^ 64 + 18)) (length_in t) fails (after_size target) (omega arith) (λ _. omega arith) (λ n _. omega arith)
falls (opening_file h) a t e fits =
    go_on_leads (Below (2 ^ 64 + 17)) (file_in t) fails (λ file. hashing h file []) (omega arith) (λ _. omega arith) (λ file k. omega (arith, opened (hashed_path h) t file (let same : steps.Open (hashed_path h) ≡ a = cc in rw same fits) k))
falls (hashing h file bytes) a t e fits =
    go_on_leads (Below (file.left + 17)) (got_in t) fails (after_read h bytes) (omega arith) (λ _. omega arith)
    (λ x k. read_below h bytes file.left x.0 x.1 (left_after file t x (let same : steps.Read file piece ≡ a = cc in rw same fits) k))
falls (asking k) a t e fits = go_on_leads (Below 1) (there_in t) (λ _. over (Exists false)) (λ there. over (Exists there)) (omega arith) (λ _. omega arith) (λ _ _. omega arith)
falls (copying from to count) a t e fits = go_on_leads (Below 1) (taken_in t) fails (λ n. over (Copied (copied_count count n))) (omega arith) (λ _. omega arith) (λ _ _. omega arith)
falls (walking w v todo) a t e fits = visit_below w v todo t
falls (over reply) a t e fits = absurd cc
