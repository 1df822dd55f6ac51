-- How the openings and the rest of a link follow the table, and that it stores its whole target.
use Rattle.std.proofs.{Common.{◌≡◌, ℕ, List, Option, Some, None, Result, Ok, Err, subst, ◌==◌, inl, inr, [], ◌∷◌, ◌++◌, map, length, true, false, refl, sym, ◌∙◌, ap, append_assoc, arith, append-nil}, lemmas.{Bool.{eqb-true}, List.{map-append}, Option.{same_Some}}}
use Rattle.std.specs.Prelude.{IfOk}
use Rattle.cacache_core.specs.declared.{errors.{Error.{Error, TheVariants.{IoError, OutOfMemory}}, Fault.{Fault}}, integrity.{digest.Hash.{Hash}, algorithm.Algorithm.TheVariants.{Sha256}}}
use Rattle.cacache_store.specs.{declared.store.{log.LogItem.{LogItem}, plain.PlainFile.{PlainFile}}, Plain.{Fits, Logs, PlainStep, PlainAnswer}}
use Rattle.cacache_calls.specs.{declared.{command.Options.{Options}, reply.Reply.{TheVariants.{Stored, Refused}, Reply}, answers.Refusal.{Refusal}, target.Target.{Target}}, Runs.{reply_of, Moves, Runs, Goes, Gone, Gains, Ran, EndsAs, without_message}, Linking.{based, link_target, after_read, with_size, commit_for, target_at}, Common.{blank, fails, refuse, ends_with, go_on}, Answers.{file_in, got_in, length_in, refusal_in}, State.{State, hashing, to_link}, Table.{wants, after, piece}, SingleSteps.{Does, FailsAt}, Promises.{Stores}, Verifying.{Gives}}
use Rattle.cacache_calls.proofs.{Going.{no_gain, gone_lost, made}, Promises.{runs_keep}}
use Rattle.cacache_jobs.{specs.{ReadFirst.{Linked, ReadsFirst}, JobStates.{site_of}}, proofs.Checking.{more_read}}
use Rattle.cacache_sync.specs.{put.OpenLinkers.{link_to, HoldsTarget, HasSize, OpensLinker, OpensSized, OpensTarget, LinkTarget, links, StoresWhole, stands_at}, declared.put.linker.SyncToLinker.{SyncToLinker}}
use Rattle.cacache_sync.proofs.content.StepAnswers.{read_refused, refused_fails}
use Rattle.cacache_calls.specs.declared.command.Command.TheVariants as commands
use Rattle.cacache_store.specs.declared.store.answer.Answer.TheVariants as answers
use Rattle.cacache_store.specs.declared.store.step.Step.TheVariants as steps
use Rattle.cacache_calls.specs.declared.answers.Refusal.TheVariants as refusals

-- a link of blank options, by what its parts are
linked_is : (cache base : List ℕ) (key : Option (List ℕ)) (named target : List ℕ) (moment : ℕ) (options : Options) (i : List Hash) (old new : Option (List LogItem)) → named ≡ target → options ≡ blank Sha256 → Linked (link_target (site_of cache base 0) (record { key = key; target = named; moment = moment; options = options })) (Stored i) old new → Linked (link_target (site_of cache base 0) (link_to key target moment)) (Stored i) old new
linked_is cache base key named target moment options i old new same blank_ones h =
    subst (λ t. Linked (link_target (site_of cache base 0) (link_to key t moment)) (Stored i) old new) same
    (subst (λ o. Linked (link_target (site_of cache base 0) (record { key = key; target = named; moment = moment; options = o })) (Stored i) old new) blank_ones h)

-- without an expected integrity the link has the computed one
holds_target : (cache base : List ℕ) (key : Option (List ℕ)) (target : List ℕ) (moment : ℕ) (i : List Hash) (old new : Option (List LogItem)) → Linked (link_target (site_of cache base 0) (link_to key target moment)) (Stored i) old new → HoldsTarget (based base target) i old new
holds_target cache base (Some key) target moment i old new x =
    let whole = x.2.3 in
    (x.0, x.1, (x.2.0, x.2.1, x.2.2, (whole.0, whole.1, whole.2, whole.3, whole.4, whole.5.0)))
holds_target cache base None target moment i old new x =
    let whole = x.2.3 in
    (x.0, x.1, (x.2.0, x.2.1, x.2.2, (whole.0, whole.1, whole.2, whole.3, whole.4, whole.5.0)))

-- so it has, if it was stored
pub links_hold : (cache base : List ℕ) (key : Option (List ℕ)) (named target : List ℕ) (moment : ℕ) (options : Options) (r : Result (List Hash) Error) (old new : Option (List LogItem)) → named ≡ target → options ≡ blank Sha256 → ReadsFirst (site_of cache base 0) (commands.Link (record { key = key; target = named; moment = moment; options = options })) (reply_of Stored r) old new → IfOk r (λ i. HoldsTarget (based base target) i old new)
links_hold cache base key named target moment options (Ok i) old new same blank_ones h = holds_target cache base key target moment i old new (linked_is cache base key named target moment options i old new same blank_ones h)
links_hold cache base key named target moment options (Err e) old new same blank_ones h = tt

-- ---- one part of a run after another

goes_through : (s t u : State) (one two : Moves) → Goes s one t → Goes t two u → Goes s (one ++ two) u
goes_through s t u [] two e g = rw e g
goes_through s t u (m ∷ one) two h g = (h.0, h.1, goes_through (after s m.1) t u one two h.2 g)

runs_through : (s t : State) (one two : Moves) (r : Reply) → Goes s one t → Runs t two r → Runs s (one ++ two) r
runs_through s t [] two r e g = rw e g
runs_through s t (m ∷ one) two r h g = (h.0, h.1, runs_through (after s m.1) t one two r h.2 g)

gains_through : (old mid new : Option (List LogItem)) (one two : Moves) → Gains old mid one → Gains mid new two → Gains old new (one ++ two)
gains_through None mid new one two e f = rw e at f
gains_through (Some log) mid new one two e f =
    let h : new ≡ Some ((log ++ map made one) ++ map made two) = rw e at f in
    h ∙ ap Some (append_assoc log (map made one) (map made two) ∙ ap (λ more. log ++ more) (sym (map-append made one two)))

pub gone_through : (s t u : State) (old mid new : Option (List LogItem)) → Gone s t old mid → Gone t u mid new → Gone s u old new
gone_through s t u old mid new x y =
    (x.0 ++ y.0, goes_through s t u x.0 y.0 x.1 y.1, gains_through old mid new x.0 y.0 x.2 y.2)

pub ran_through : (s t : State) (r : Reply) (old mid new : Option (List LogItem)) → Gone s t old mid → Ran t r mid new → Ran s r old new
ran_through s t r old mid new x y =
    (x.0 ++ y.0, runs_through s t x.0 y.0 r x.1 y.1, gains_through old mid new x.0 y.0 x.2 y.2)

-- ---- one step of a call

-- its answer took the call on
pub goes_by : (s u : State) (a : PlainStep) (t : PlainAnswer) (old new : Option (List LogItem)) → wants s ≡ Some a → Fits a t → after s t ≡ u → Does a t old new → Gone s u old new
goes_by s u a t old new w fits is does = ((a, t) ∷ [], (w, fits, is), does)

-- it failed, or memory was refused for it
pub fails_by : (s : State) (a : PlainStep) (e : Error) (old new : Option (List LogItem)) → wants s ≡ Some a → ((fault : Fault) → after s (answers.Failed fault) ≡ fails fault) → FailsAt a e old new → Ran s (Refused (without_message e)) old new
fails_by s a (IoError fault message) old new w ends does = ((a, answers.Failed fault) ∷ [], (w, record {}, inl (ends fault)), does)
fails_by s a OutOfMemory old new w ends (inl same) = ([], inr refl, same ∙ no_gain old)
fails_by s a OutOfMemory old new w ends (inr failed) = ((a, answers.Failed failed.0) ∷ [], (w, record {}, inr refl), failed.1)
fails_by s a e old new w ends never = absurd never

-- ---- the target is opened

-- the step that opened it
pub opened_so : (path at : List ℕ) (t : PlainAnswer) (f : PlainFile) (old new : Option (List LogItem)) → path ≡ at → file_in t ≡ Ok f → Fits (steps.Open path) t → Logs old new (steps.Open path) t → Fits (steps.Open at) (answers.File f) × Does (steps.Open at) (answers.File f) old new
opened_so path at (answers.File g) f old new same e fits logs = let is : f ≡ g = cc in rw (← same, is) (fits, logs)
opened_so path at t f old new same e fits logs = absurd cc

-- the step that gave its size
pub sized_so : (path at : List ℕ) (t : PlainAnswer) (n : ℕ) (old new : Option (List LogItem)) → path ≡ at → length_in t ≡ Ok n → Logs old new (steps.Size path) t → HasSize at n old new
sized_so path at (answers.Length m) n old new same e logs = let is : n ≡ m = cc in rw (← same, is) logs
sized_so path at t n old new same e logs = absurd cc

-- the size is given, and then the target opened
pub opened_after : {F : Type 0} (file : F → PlainFile) (time : Option ℕ) (start then : ℕ → State) (r : Result (SyncToLinker F) Error) (old mid new : Option (List LogItem)) → ((moment : ℕ) → Gone (start moment) (then moment) old mid) → OpensLinker file time then r mid new → OpensLinker file time start r old new
opened_after file time start then (Ok l) old mid new gone h =
    (h.0, h.1, λ moment. gone_through (start moment) (then moment) _ old mid new (gone moment) (h.2 moment))
opened_after file time start then (Err e) old mid new gone h =
    λ moment. ran_through (start moment) (then moment) _ old mid new (gone moment) (h moment)

-- the target is opened once its size was asked
pub opened_sized : {F : Type 0} (file : F → PlainFile) (l : LinkTarget) (size : ℕ) (r : Result (SyncToLinker F) Error) (old mid new : Option (List LogItem)) → HasSize l.path size old mid → OpensTarget file (with_size l size) r mid new → OpensSized file l r old new
opened_sized file l size (Ok linker) old mid new has opens = (size, mid, has, opens)
opened_sized file l size (Err e) old mid new has fails = inr (size, mid, has, fails)

-- ---- its rest is read

abbrev reads_to : Target ℕ → PlainFile → List ℕ → State
reads_to t file bytes = hashing (to_link t) file bytes

-- a read
read_so : (t : Target ℕ) (all more : List ℕ) (f g : PlainFile) (v : State) (answer : PlainAnswer) (old new : Option (List LogItem)) → Ok (g, more) ≡ got_in answer → Fits (steps.Read f piece) answer → Logs old new (steps.Read f piece) answer → after_read (to_link t) all (g, more) ≡ v → Gone (reads_to t f all) v old new
read_so t all more f g v (answers.Got h some) old new e fits logs is =
    let same : ◌≡◌ {A = PlainFile × List ℕ} (g, more) (h, some) = cc in
    goes_by (reads_to t f all) v (steps.Read f piece) (answers.Got h some) old new refl fits (subst (λ (got : PlainFile × List ℕ). after_read (to_link t) all got ≡ v) same is) logs
read_so t all more f g v answer old new e fits logs is = absurd cc

-- it gave bytes
pub more_taken : (s : State) (t : Target ℕ) (all more : List ℕ) (f g : PlainFile) (answer : PlainAnswer) (old mid new : Option (List LogItem)) → Gone s (reads_to t f all) old mid → Ok (g, more) ≡ got_in answer → Fits (steps.Read f piece) answer → Logs mid new (steps.Read f piece) answer → (length more == 0) ≡ false → Gone s (reads_to t g (all ++ more)) old new
more_taken s t all more f g answer old mid new gone e fits logs some =
    gone_through s (reads_to t f all) (reads_to t g (all ++ more)) old mid new gone (read_so t all more f g _ answer mid new e fits logs (more_read (to_link t) all more g some))

no_more : (t : Target ℕ) (all more : List ℕ) (g : PlainFile) → (length more == 0) ≡ true → after_read (to_link t) all (g, more) ≡ links t all
no_more t all [] g none = refl
no_more t all (b ∷ bs) g none =
    let zero : length (b ∷ bs) ≡ 0 = eqb-true (length (b ∷ bs)) 0 none in absurd (omega arith)

-- it gave none
pub all_taken : (s : State) (t : Target ℕ) (all more : List ℕ) (f g : PlainFile) (answer : PlainAnswer) (old mid new : Option (List LogItem)) → Gone s (reads_to t f all) old mid → Ok (g, more) ≡ got_in answer → Fits (steps.Read f piece) answer → Logs mid new (steps.Read f piece) answer → (length more == 0) ≡ true → Gone s (links t all) old new
all_taken s t all more f g answer old mid new gone e fits logs none =
    gone_through s (reads_to t f all) (links t all) old mid new gone (read_so t all more f g _ answer mid new e fits logs (no_more t all more g none))

-- it was refused
pub none_taken : (s : State) (t : Target ℕ) (all : List ℕ) (f : PlainFile) (answer : PlainAnswer) (refusal : Refusal) (e : Error) (old mid new : Option (List LogItem)) → Gone s (reads_to t f all) old mid → Err refusal ≡ got_in answer → Fits (steps.Read f piece) answer → Logs mid new (steps.Read f piece) answer → EndsAs e (refuse refusal fails) → Ran s (Refused (without_message e)) old new
none_taken s t all f answer refusal e old mid new gone is fits logs ends =
    let failed = refused_fails (steps.Read f piece) answer refusal e mid new (read_refused f piece answer refusal is fits) logs ends in
    ran_through s (reads_to t f all) _ old mid new gone (fails_by (reads_to t f all) (steps.Read f piece) e mid new refl (λ fault. refl) failed)

-- ---- the commit

-- a call may end out of memory wherever it is
pub lost_so : (s u : State) (e : Error) (old new : Option (List LogItem)) → Gone s u old new → e ≡ OutOfMemory → Ran s (Refused (without_message e)) old new
lost_so s u e old new gone is = rw is (gone_lost s u old new gone)

-- ---- a link that is made stores its whole target

module _ (t : Target ℕ) (i : List Hash) where
  -- a call that was refused stores nothing
  not_refused : (refusal : Refusal) (moves : Moves) → Runs (refuse refusal fails) moves (Stored i) → ⊥
  not_refused (refusals.Fault fault) moves run =
      absurd (let is : Stored i ≡ Refused (IoError fault []) = runs_keep (fails fault) moves (Stored i) run in cc)
  not_refused refusals.Memory moves run =
      absurd (let is : Stored i ≡ Refused OutOfMemory = runs_keep (ends_with OutOfMemory) moves (Stored i) run in cc)

  -- the moves read the file to its end, and what it gave is stored with the bytes before it
  abbrev Brings : PlainFile → List ℕ → Moves → Type 0
  Brings file bytes moves =
      (rest : List ℕ) × Gives file rest moves × Stores (commit_for t (bytes ++ rest)) (Stored i)

  brings : (file : PlainFile) (bytes : List ℕ) (moves : Moves) → Runs (hashing (to_link t) file bytes) moves (Stored i) → Brings file bytes moves
  brings file bytes [] (inl is) = absurd cc
  brings file bytes [] (inr is) = absurd cc
  brings file bytes ((a, answer) ∷ moves) run =
      let same : a ≡ steps.Read file piece = sym (same_Some _ _ run.0) in
      rw same (by_answer (λ g so_far. brings g so_far moves) answer run.2)
    where
      by_answer : ((g : PlainFile) (so_far : List ℕ) → Runs (hashing (to_link t) g so_far) moves (Stored i) → Brings g so_far moves) → (answer : PlainAnswer) → Runs (go_on (got_in answer) fails (after_read (to_link t) bytes)) moves (Stored i) → Brings file bytes ((steps.Read file piece, answer) ∷ moves)
      by_answer more (answers.Got g []) run =
          ([], (refl, refl), rw append-nil (runs_keep (links t bytes) moves (Stored i) run))
      by_answer more (answers.Got g (b ∷ bs)) run =
          let x = more g (bytes ++ b ∷ bs) run in
          ((b ∷ bs) ++ x.0, (refl, x.0, refl, x.1), rw (← append_assoc bytes (b ∷ bs) x.0) x.2)
      by_answer more answer run = absurd (not_refused (refusal_in answer) moves run)

-- a commit that isn't refused stores what it took with what its run read
stores_whole : {F : Type 0} (file : F → PlainFile) (l : SyncToLinker F) (bytes : List ℕ) (moment : ℕ) (r : Result (List Hash) Error) (old new : Option (List LogItem)) → Ran (stands_at file l bytes moment) (reply_of Stored r) old new → IfOk r (λ i. StoresWhole file l bytes i old new)
stores_whole file l bytes moment (Ok i) old new ran =
    let x = brings (target_at l.linked moment) i (file l.file) bytes ran.0 ran.1 in
    (ran.0, ran.2, x.0, x.1, moment, x.2)
stores_whole file l bytes moment (Err e) old new ran = tt

-- the same for a target that is the linker's at its moment
pub stores_whole_of : {F : Type 0} (file : F → PlainFile) (l : SyncToLinker F) (bytes : List ℕ) (moment : ℕ) (t : Target ℕ) (r : Result (List Hash) Error) (old new : Option (List LogItem)) → t ≡ target_at l.linked moment → Ran (hashing (to_link t) (file l.file) bytes) (reply_of Stored r) old new → IfOk r (λ i. StoresWhole file l bytes i old new)
stores_whole_of file l bytes moment t r old new same ran =
    stores_whole file l bytes moment r old new (subst (λ (u : Target ℕ). Ran (hashing (to_link u) (file l.file) bytes) (reply_of Stored r) old new) same ran)
