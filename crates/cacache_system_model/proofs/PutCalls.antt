-- The parts of a put's calls, from each state on.
use Rattle.std.proofs.{lemmas.{Grind.{common_steps}, Bool.{leb-true}}, Common.{rules, arith, ◌≤◌, ◌≡◌, ℕ, Bool, true, false, if◌then◌else◌, nat_le, List, [], ◌∷◌, ◌++◌, length, map, refl, sym, ap, subst, ◌∙◌, inl, inr}}
use Rattle.std.specs.Prelude.{Option, None, Some, Result, Ok, Err}
use Rattle.cacache_core.specs.declared.{errors.{Fault.{Fault}, SerdeCause.{SerdeCause}, Error.{Error, TheVariants.{IoError, SerdeError, OutOfMemory}}}, integrity.digest.Hash.{Hash}}
use Rattle.cacache_core.specs.declared.errors.Fault.TheVariants as faults
use Rattle.cacache_store.specs.{declared.store.{plain.PlainTemp.{PlainTemp}, log.LogItem.{LogItem, TheVariants.{Made}}}, Plain.{PlainStep, PlainAnswer, Fits}}
use Rattle.cacache_store.specs.declared.store.step.Step.TheVariants as steps
use Rattle.cacache_store.specs.declared.store.answer.Answer.TheVariants as answers
use Rattle.cacache_system.specs.declared.call.CallItem.{CallItem}
use Rattle.cacache_system.specs.declared.call.SystemCall.TheVariants as asks
use Rattle.cacache_folder.specs.StepsMade.{StepMade, CallsInParts}
use Rattle.cacache_calls.specs.{declared.{answers.Refusal.{Refusal}, command.{Command.{Command}, Put.{Put}}, reply.Reply.{Reply, TheVariants.{Refused}}, carried.Commit.{Commit}}, Answers.{done_in, temp_in, written_in, synced_in, taken_in, there_in}, Steps.{temp_path, temp_folder, content_path, content_folder, content_folders, bucket_path, bucket_folders}, State.{State, doing, creating, writing, syncing, persisting, confirming, appending, over, Site, Insertion, Errand, make_folder, sync_file, sync_dir}, Common.{ends_with, fails, go_on, errand_step, sync_up}, Inserting.{bucket_line, refused_cause, unless_refused, insert, insertion, deletion, recorded, after_append}, Storing.{indexed, sized, compared, placed, secured, secured_found, move_in, persist, write_rest, after_write, after_confirm, put_commit, store}, Table.{wants, after, opening}, Runs.{Moves, Runs}, Effects.{IsRefused}, Licence.{looking_on}}
use Rattle.cacache_calls.proofs.Within.{calls_keep_to}
use Rattle.cacache_calls.specs.declared.answers.Refusal.TheVariants as refusals
use Rattle.cacache_system_model.specs.{CallForms.{writes_file, prepares, Form, Only, AnsweredInKind, One, Then, Perhaps, Part, Has, InParts, folders, creates, writes, syncs_temp, sends, syncs}, CallLaws.{synced_up, recorded_parts, insert_parts, index_parts, secured_parts, found_parts, place_parts, move_parts, put_parts, CallsOfCall, LastCalls}}
use Rattle.cacache_system_model.proofs.{StepCalls.{Sent, plain_of, Claim, step_claims, kinds_rest}, CallGroups.{Own, OwnEach, grouped, only_append, looks_each}}

abbrev Log : Type 0
Log = Option (List CallItem)

-- ---- what a call that answers Ok did from a state on

-- a reply that refuses nothing
abbrev Answered : Type 0
Answered = (reply : Reply) × (IsRefused reply → ⊥)

refuses_not : (i : Answered) (e : Error) → Refused e ≡ i.0 → ⊥
refuses_not i e is = i.1 (subst IsRefused is tt)

abbrev Gives : State → Form → Type 0
Gives s P = (run : Moves) (calls : List CallItem) (i : Answered) → Runs s run i.0 → OwnEach run calls → AnsweredInKind calls → P calls

kinds_first : (own rest : List CallItem) → AnsweredInKind (own ++ rest) → AnsweredInKind own
kinds_first [] rest kinds = tt
kinds_first (x ∷ own) rest kinds = (kinds.0, kinds_first own rest kinds.1)

claimed : (step given : PlainStep) (said : PlainAnswer) (own : List CallItem) → given ≡ step → AnsweredInKind own → Own given said own → Claim step said own
claimed step given said own is kinds (made, hint, end, runs, same, answer) = search (rules, plain_of, step_claims)

-- a state that needs a step
gives_step : (s : State) (step : PlainStep) (P : Form) → wants s ≡ Some step
    → ((said : PlainAnswer) (own : List CallItem) → Fits step said → Claim step said own → Gives (after s said) (λ rest. P (own ++ rest))) → Gives s P
gives_step s step P wanted go [] calls i (inl is) each kinds = let none : Some step ≡ None = sym wanted ∙ ap wants is in absurd cc
gives_step s step P wanted go [] calls i (inr is) each kinds = absurd (refuses_not i OutOfMemory (sym is))
gives_step s step P wanted go (m ∷ run) calls i (wants_m, fits, runs) (own, rest, same, mine, each) kinds =
    let some : Some step ≡ Some m.0 = sym wanted ∙ wants_m in
    let is : m.0 ≡ step = cc in
    let both = subst AnsweredInKind same kinds in
    subst P (sym same)
    (go m.1 own (subst (λ (x : PlainStep). Fits x m.1) is fits) (claimed step m.0 m.1 own is (kinds_first own rest both) mine) run rest i runs each (kinds_rest own rest both))

gives_over : (r : Reply) → Gives (over r) (λ calls. calls ≡ [])
gives_over r [] calls i runs each kinds = each
gives_over r (m ∷ run) calls i runs each kinds = let none : None ≡ Some m.0 = runs.0 in absurd cc

refused : (e : Error) (P : Form) → Gives (ends_with e) P
refused e P [] calls i (inl is) each kinds = let same : Refused e ≡ i.0 = cc in absurd (refuses_not i e same)
refused e P [] calls i (inr is) each kinds = absurd (refuses_not i OutOfMemory (sym is))
refused e P (m ∷ run) calls i runs each kinds = let none : None ≡ Some m.0 = runs.0 in absurd cc

gives_as : (s : State) (P Q : Form) → ((calls : List CallItem) → P calls → Q calls) → Gives s P → Gives s Q
gives_as s P Q into g run calls i runs each kinds = into calls (g run calls i runs each kinds)

-- a step that is answered well leads on
gives_on : {X : Type 0} (r : Result X Refusal) (next : X → State) (P : Form) → ((x : X) → r ≡ Ok x → Gives (next x) P) → Gives (go_on r fails next) P
gives_on (Ok x) next P k = k x refl
gives_on (Err (refusals.Fault fault)) next P k = refused (IoError fault []) P
gives_on (Err refusals.Memory) next P k = refused OutOfMemory P

gives_if : (b : Bool) (s t : State) (P : Form) → Gives s P → Gives t P → Gives (if b then s else t) P
gives_if b s t P g h = grind (arith, common_steps)

if_gives : (b : Bool) (s t : State) (ps qs : List Part) → Gives s (InParts ps) → Gives t (InParts qs) → Gives (if b then s else t) (InParts (if b then ps else qs))
if_gives b s t ps qs g h = grind (arith, common_steps)

done_is : (said : PlainAnswer) (u : Unit {0}) → done_in said ≡ Ok u → said ≡ answers.Done
done_is said u is = grind (arith, common_steps)

temp_is : (said : PlainAnswer) (f : PlainTemp) → temp_in said ≡ Ok f → said ≡ answers.Temp f
temp_is said f is = grind (arith, common_steps)

synced_is : (said : PlainAnswer) (f : PlainTemp) → synced_in said ≡ Ok f → said ≡ answers.Synced f
synced_is said f is = grind (arith, common_steps)

taken_is : (said : PlainAnswer) (n : ℕ) → taken_in said ≡ Ok n → said ≡ answers.Took n
taken_is said n is = grind (arith, common_steps)

-- an errand, and then the rest
gives_doing : (e : Errand) (part : Part) (s : State) (Q : Form) → ((own : List CallItem) → Claim (errand_step e) answers.Done own → Has part own) → Gives s Q → Gives (doing e s) (Then (Has part) Q)
gives_doing e part s Q has g =
    gives_step (doing e s) (errand_step e) (Then (Has part) Q) refl
    (λ said own fits claim. gives_on (done_in said) (λ _. s) (λ rest. Then (Has part) Q (own ++ rest))
    (λ u is run rest i runs each kinds.
    (own, rest, refl, has own (subst (λ (t : PlainAnswer). Claim (errand_step e) t own) (done_is said u is) claim), g run rest i runs each kinds)))

gives_folder : (p : List ℕ) (s : State) (Q : Form) → Gives s Q → Gives (doing (make_folder p) s) (Then (Has folders) Q)
gives_folder p s Q g = gives_doing (make_folder p) folders s Q (λ own claim. claim) g

gives_synced_up : (up : List (List ℕ)) (s : State) (parts : List Part) → Gives s (InParts parts) → Gives (sync_up up s) (InParts (synced_up up parts))
gives_synced_up [] s parts g = g
gives_synced_up (p ∷ up) s parts g =
    gives_synced_up up (doing (sync_dir p) s) (syncs p ∷ parts) (gives_doing (sync_dir p) (syncs p) s (InParts parts) (λ own claim. claim) g)

-- ---- the entry

gives_recorded : (i : Insertion) → Gives (recorded i) (InParts (recorded_parts i))
gives_recorded i =
    let path = bucket_path i.cache i.entry.key in
    let up = bucket_folders i.cache i.entry.key in
    if_gives i.durable (doing (sync_file path) (sync_up up (over i.reply))) (over i.reply) (syncs path ∷ synced_up up []) []
    (gives_doing (sync_file path) (syncs path) (sync_up up (over i.reply)) (InParts (synced_up up [])) (λ own claim. claim) (gives_synced_up up (over i.reply) [] (gives_over i.reply)))
    (gives_over i.reply)

-- if the condition holds, the first state goes on
gives_if_so : (b : Bool) (s t : State) (P : Form) → (b ≡ true → Gives s P) → Gives t P → Gives (if b then s else t) P
gives_if_so b s t P g h = grind (arith, common_steps)

sent_whole : (path line : List ℕ) (n : ℕ) (own : List CallItem) → length line ≤ n → Then (Only prepares) (Sent path line n) own → Has (sends path line) own
sent_whole path line n own whole (before, rest, same, all, (number, often, is)) = (before, rest, same, all, (number, often, n, whole, is))

gives_appending : (i : Insertion) → Gives (appending i) (InParts (sends (bucket_path i.cache i.entry.key) (bucket_line i) ∷ recorded_parts i))
gives_appending i =
    let path = bucket_path i.cache i.entry.key in
    let step : PlainStep = steps.Append path (bucket_line i) in
    let parts = sends path (bucket_line i) ∷ recorded_parts i in
    gives_step (appending i) step (InParts parts) refl
    (λ said own fits claim. gives_on (taken_in said) (after_append i) (λ rest. InParts parts (own ++ rest))
    (λ n is. gives_if_so (nat_le (length (bucket_line i)) n) (recorded i) (fails faults.ShortAppend) (λ rest. InParts parts (own ++ rest))
    (λ whole run rest j runs each kinds. (
      own,
      rest,
      refl,
      sent_whole path (bucket_line i) n own (leb-true (length (bucket_line i)) n whole) (subst (λ (t : PlainAnswer). Claim step t own) (taken_is said n is) claim),
      gives_recorded i run rest j runs each kinds,
    ))
    (refused (IoError faults.ShortAppend []) (λ rest. InParts parts (own ++ rest)))))

gives_unless : (i : Insertion) (cause : Option SerdeCause) → Gives (unless_refused i cause) (InParts (insert_parts i))
gives_unless i None = search (rules, gives_folder, gives_appending)
gives_unless i (Some cause) = refused (SerdeError cause []) (InParts (insert_parts i))

gives_insert : (i : Insertion) → Gives (insert i) (InParts (insert_parts i))
gives_insert i = gives_unless i (refused_cause i)

gives_indexed : (c : Commit) (key : Option (List ℕ)) → Gives (indexed c key) (InParts (index_parts c key))
gives_indexed c key = grind (arith, gives_over, gives_insert)

gives_sized : (c : Commit) (size : Option ℕ) → Gives (sized c size) (InParts (index_parts c c.key))
gives_sized c None = gives_indexed c c.key
gives_sized c (Some wanted) = search (rules, gives_if, gives_indexed, refused)

gives_compared : (c : Commit) (expected : Option (List Hash)) → Gives (compared c expected) (InParts (index_parts c c.key))
gives_compared c None = gives_sized c c.options.size
gives_compared c (Some expected) = search (rules, gives_if, gives_sized, refused)

gives_secured : (c : Commit) → Gives (secured c) (InParts (secured_parts c))
gives_secured c =
    let up = content_folders c.cache c.computed in
    let placed_gives = gives_compared c c.options.integrity in
    if_gives c.options.durable (sync_up up (placed c)) (placed c) (synced_up up (index_parts c c.key)) (index_parts c c.key)
    (gives_synced_up up (placed c) (index_parts c c.key) placed_gives) placed_gives

gives_found : (c : Commit) → Gives (secured_found c) (InParts (found_parts c))
gives_found c =
    let path = content_path c.cache c.computed in
    if_gives c.options.durable (doing (sync_file path) (secured c)) (secured c) (syncs path ∷ secured_parts c) (secured_parts c)
    (gives_doing (sync_file path) (syncs path) (secured c) (InParts (secured_parts c)) (λ own claim. claim) (gives_secured c)) (gives_secured c)

-- ---- the content

-- these parts, as the content was found or not
abbrev Found : (Bool → List Part) → Form
Found parts calls = (found : Bool) × InParts (parts found) calls

append_more : (xs ys zs : List CallItem) → xs ++ (ys ++ zs) ≡ (xs ++ ys) ++ zs
append_more [] ys zs = refl
append_more (x ∷ xs) ys zs = ap (λ (l : List CallItem). x ∷ l) (append_more xs ys zs)

found_first : (part : Part) (parts : Bool → List Part) (calls : List CallItem) → Then (Has part) (Found parts) calls → Found (λ f. part ∷ parts f) calls
found_first part parts calls (own, rest, same, has, (found, more)) = (found, (own, rest, same, has, more))

if_found : (b : Bool) (s t : State) (ps qs : Bool → List Part) → Gives s (Found ps) → Gives t (Found qs) → Gives (if b then s else t) (Found (λ f. if b then ps f else qs f))
if_found b s t ps qs g h = grind (arith, common_steps)

module _ (temp : List ℕ) (c : Commit) where
  abbrev Tried : Form
  Tried own = Then (Only prepares) (Perhaps (asks.Rename temp (content_path c.cache c.computed))) own

  abbrev Placed : List CallItem → Form
  Placed own rest = Found (λ f. place_parts f temp c) (own ++ rest)

  confirmed : (fault : Fault) (own more : List CallItem) → Tried own → One (asks.Stat (content_path c.cache c.computed)) more → (r : Result Bool Refusal)
      → Gives (go_on r (λ _. fails fault) (after_confirm c fault)) (λ rest. Placed own (more ++ rest))
  confirmed fault own more tried one (Ok true) =
      λ run rest i runs each kinds. (true, (own ++ more, rest, append_more own more rest, (own, more, refl, tried, one), gives_found c run rest i runs each kinds))
  confirmed fault own more tried one (Ok false) = refused (IoError fault []) (λ rest. Placed own (more ++ rest))
  confirmed fault own more tried one (Err (refusals.Fault other)) = refused (IoError fault []) (λ rest. Placed own (more ++ rest))
  confirmed fault own more tried one (Err refusals.Memory) = refused OutOfMemory (λ rest. Placed own (more ++ rest))

  gives_confirming : (fault : Fault) (own : List CallItem) → Tried own → Gives (confirming c fault) (Placed own)
  gives_confirming fault own tried =
      gives_step (confirming c fault) (steps.Exists (content_path c.cache c.computed)) (Placed own) refl (λ said more fits one. confirmed fault own more tried one (there_in said))

  persists : (file : PlainTemp) → file.path ≡ temp → (said : PlainAnswer) (own : List CallItem) → Claim (steps.Persist file (content_path c.cache c.computed)) said own
      → Gives (go_on (done_in said) (confirming c) (λ _. secured c)) (Placed own)
  persists file is answers.Done own claim = search (rules, gives_secured)
  persists file is (answers.Failed fault) own claim =
      gives_confirming fault own (subst (λ (p : List ℕ). Then (Only prepares) (Perhaps (asks.Rename p (content_path c.cache c.computed))) own) is claim)
  persists file is (answers.NoMemory step) own claim = refused OutOfMemory (Placed own)
  persists file is said own claim =
      gives_confirming faults.Device own (subst (λ (p : List ℕ). Then (Only prepares) (Perhaps (asks.Rename p (content_path c.cache c.computed))) own) is claim)

  gives_persisting : (file : PlainTemp) → file.path ≡ temp → Gives (persisting c file) (Found (λ f. place_parts f temp c))
  gives_persisting file is =
      gives_step (persisting c file) (steps.Persist file (content_path c.cache c.computed)) (Found (λ f. place_parts f temp c)) refl (λ said own fits claim. persists file is said own claim)

  gives_syncing : (file : PlainTemp) → file.path ≡ temp → Gives (syncing c file) (Found (λ f. syncs_temp ∷ place_parts f temp c))
  gives_syncing file is =
      let step : PlainStep = steps.SyncTemp file in
      gives_step (syncing c file) step (Found (λ f. syncs_temp ∷ place_parts f temp c)) refl
      (λ said own fits claim. gives_on (synced_in said) (persisting c) (λ rest. Found (λ f. syncs_temp ∷ place_parts f temp c) (own ++ rest))
      (λ u was run rest i runs each kinds.
      let same : u ≡ file = subst (λ (t : PlainAnswer). Fits step t) (synced_is said u was) fits in
      let more = gives_persisting u (ap (λ (t : PlainTemp). t.path) same ∙ is) run rest i runs each kinds in
      (more.0, (own, rest, refl, subst (λ (t : PlainAnswer). Claim step t own) (synced_is said u was) claim, more.1))))

  gives_moving : (file : PlainTemp) → file.path ≡ temp → Gives (move_in c file) (Found (λ f. move_parts f temp c))
  gives_moving file is = search (rules, if_found, gives_syncing, gives_persisting)

  abbrev Rest : Form
  Rest = Found (λ f. folders ∷ move_parts f temp c)

  gives_persist : (file : PlainTemp) → file.path ≡ temp → Gives (persist c file) Rest
  gives_persist file is =
      gives_as (persist c file) (Then (Has folders) (Found (λ f. move_parts f temp c))) Rest (found_first folders (λ f. move_parts f temp c))
      (gives_folder (content_folder c.cache c.computed) (move_in c file) (Found (λ f. move_parts f temp c)) (gives_moving file is))

  -- ---- writes

  abbrev Written : Form
  Written = Then (Has writes) Rest

  -- what is left to write, if anything
  goes_on : (file : PlainTemp) → file.path ≡ temp → (bytes : List ℕ) (run : Moves) (calls : List CallItem) (i : Answered)
      → ((bytes : List ℕ) → Runs (writing c file bytes) run i.0 → Written calls)
      → Runs (write_rest c file bytes) run i.0 → OwnEach run calls → AnsweredInKind calls → Written calls
  goes_on file is bytes run calls i again runs each kinds = grind (arith, gives_persist)

  writes_more : (own rest : List CallItem) → Only writes_file own → Written rest → Written (own ++ rest)
  writes_more own rest all (before, later, same, others, more) =
      (own ++ before, later, ap (λ (l : List CallItem). own ++ l) same ∙ append_more own before later, only_append writes_file own before all others, more)

  some_written : (b : Bool) (u : PlainTemp) → u.path ≡ temp → (left : List ℕ) (run : Moves) (calls : List CallItem) (i : Answered)
      → ((left : List ℕ) → Runs (writing c u left) run i.0 → Written calls)
      → Runs (if b then fails faults.WriteZero else write_rest c u left) run i.0 → OwnEach run calls → AnsweredInKind calls → Written calls
  some_written true u is left run calls i again runs each kinds = refused (IoError faults.WriteZero []) Written run calls i runs each kinds
  some_written false u is left run calls i again runs each kinds = goes_on u is left run calls i again runs each kinds

  after_writing : (file : PlainTemp) → file.path ≡ temp → (bytes : List ℕ) (said : PlainAnswer) (run : Moves) (calls : List CallItem) (i : Answered) → Fits (steps.Write file bytes) said
      → ((u : PlainTemp) (left : List ℕ) → u.path ≡ temp → Runs (writing c u left) run i.0 → Written calls)
      → Runs (go_on (written_in said) fails (after_write c bytes)) run i.0 → OwnEach run calls → AnsweredInKind calls → Written calls
  after_writing file is bytes (answers.Wrote u n) run calls i fits again runs each kinds = search (rules, some_written)
  after_writing file is bytes (answers.Failed fault) run calls i fits again runs each kinds = refused (IoError fault []) Written run calls i runs each kinds
  after_writing file is bytes (answers.NoMemory step) run calls i fits again runs each kinds = refused OutOfMemory Written run calls i runs each kinds
  after_writing file is bytes said run calls i fits again runs each kinds = refused (IoError faults.Device []) Written run calls i runs each kinds

  gives_writing : (run : Moves) (file : PlainTemp) (bytes : List ℕ) (calls : List CallItem) (i : Answered) → file.path ≡ temp
      → Runs (writing c file bytes) run i.0 → OwnEach run calls → AnsweredInKind calls → Written calls
  gives_writing [] file bytes calls i is (inl over_is) each kinds = absurd cc
  gives_writing [] file bytes calls i is (inr no_memory) each kinds = absurd (refuses_not i OutOfMemory (sym no_memory))
  gives_writing (m ∷ run) file bytes calls i is (wanted, fits, runs) (own, rest, same, mine, each) kinds =
      let some : Some (steps.Write file bytes) ≡ Some m.0 = wanted in
      let step_is : m.0 ≡ steps.Write file bytes = cc in
      let both = subst AnsweredInKind same kinds in
      subst Written (sym same)
      (writes_more own rest (claimed (steps.Write file bytes) m.0 m.1 own step_is (kinds_first own rest both) mine)
      (after_writing file is bytes m.1 run rest i (subst (λ (x : PlainStep). Fits x m.1) step_is fits)
      (λ u left at more. gives_writing run u left rest i at more each (kinds_rest own rest both)) runs each (kinds_rest own rest both)))

  gives_write_rest : (file : PlainTemp) (bytes : List ℕ) → file.path ≡ temp → Gives (write_rest c file bytes) Written
  gives_write_rest file bytes is run calls i runs each kinds = search (rules, goes_on, gives_writing)

-- ---- puts

gives_creating : (number : ℕ) (c : Commit) (bytes : List ℕ)
    → Gives (creating number c bytes) (Then (Has (creates (temp_path c.cache number))) (Written (temp_path c.cache number) c))
gives_creating number c bytes =
    let temp = temp_path c.cache number in
    let step : PlainStep = steps.CreateTemp temp in
    let P : Form = Then (Has (creates temp)) (Written temp c) in
    gives_step (creating number c bytes) step P refl
    (λ said own fits claim. gives_on (temp_in said) (λ file. write_rest c file bytes) (λ rest. P (own ++ rest))
    (λ file was run rest i runs each kinds. (
      own,
      rest,
      refl,
      subst (λ (t : PlainAnswer). Claim step t own) (temp_is said file was) claim,
      gives_write_rest temp c file bytes (subst (λ (t : PlainAnswer). Fits step t) (temp_is said file was) fits) run rest i runs each kinds,
    )))

gives_put : (site : Site) (p : Put) → Gives (store site p) (Found (λ f. put_parts f site p))
gives_put site p run calls i runs each kinds =
    let c = put_commit site.cache p in
    let temp = temp_path site.cache site.number in
    let (one, later, same, made, (two, more, kept_so, created, (three, others, is, written, (found, parts)))) =
    gives_folder (temp_folder site.cache) (creating site.number c p.data) (Then (Has (creates temp)) (Written temp c)) (gives_creating site.number c p.data) run calls i runs each kinds in
    (found, (one, later, same, made, (two, more, kept_so, created, (three, others, is, written, parts))))

-- ---- all calls

pub calls_of_call : (site : Site) (command : Command) (run : Moves) (reply : Reply) (calls : List CallItem) → Runs (opening site command) run reply → OwnEach run calls → CallsOfCall site command reply calls
calls_of_call site command run reply calls runs each = record {
  looks = λ keeps. looks_each run calls (calls_keep_to looking_on site command run reply keeps runs) each;
  puts = λ p is fine. gives_put site p run calls (reply, fine.0) (subst (λ (x : Command). Runs (opening site x) run reply) is runs) each fine.1;
  inserts = λ n is fine. gives_insert (insertion site.cache n) run calls (reply, fine.0) (subst (λ (x : Command). Runs (opening site x) run reply) is runs) each fine.1;
  deletes = λ d is fine. gives_insert (deletion site.cache d) run calls (reply, fine.0) (subst (λ (x : Command). Runs (opening site x) run reply) is runs) each fine.1;
}

pub last_calls : {Y F D : Type 0} (number : F → ℕ) (made : List (StepMade Y F D)) (began new : Log) (log : List LogItem) (site : Site) (command : Command) (run : Moves) (reply : Reply)
    → Runs (opening site command) run reply → CallsInParts number made began new log (map (λ m. Made m.0 m.1) run)
    → LastCalls number made began new log (map (λ m. Made m.0 m.1) run) (CallsOfCall site command reply)
last_calls number made began new log site command run reply runs parts =
    let (calls, logged, each) = grouped number parts.later run parts.between new parts.after parts.gained in
    (parts, calls, logged, calls_of_call site command run reply calls runs each)
