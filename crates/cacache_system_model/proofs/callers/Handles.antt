-- A caller's temporary file is open, and holds on the machine what the call's state says.
use Rattle.std.proofs.{lemmas.{Grind.{common_steps}, Bool.{false_from_ne_true}}, Common.{arith, ◌≡◌, ◌&&◌, not, ℕ, Bool, true, List, [], Option, None, Some, Ok, option_map, refl, sym, ap, subst, ◌∙◌}}
use Rattle.std.specs.Prelude.{Result, IfOk}
use Rattle.cacache_core.specs.{Errors.{fault_of}, declared.errors.Fault.{Fault}, Paths.{Names, names_of}}
use Rattle.cacache_store.specs.{declared.store.plain.{PlainFile.{PlainFile}, PlainTemp.{PlainTemp}}, Plain.{PlainStep, Fits}}
use Rattle.cacache_store.specs.declared.store.step.Step.TheVariants as steps
use Rattle.cacache_store.specs.declared.store.answer.Answer.TheVariants as answers
use Rattle.cacache_disk.specs.{declared.{luck.Luck.{Luck}, node.Node.{Node, TheVariants.{Folder, File}}}, Tree.{Tree, look, put, same_path, bytes_of, Rooted}, LedTo.{free}, Apply.{apply, unless, made_temp}}
use Rattle.cacache_disk.proofs.{Maps.{same_path-true}, FoundNodes.{free_ok}}
use Rattle.cacache_value.specs.{Kinds.{PathKind, Content, Temporary, Elsewhere, path_kind, IsFor}, Placed.{Placed, Proper}}
use Rattle.cacache_value.proofs.{Applying.{writable_out}, Shows.{apply_answer}}
use Rattle.cacache_system.specs.{declared.call.CallResult.{CallResult}, Seen.{NumberedFile, NumberedTemp, NumberedStep, NumberedAnswer}, AnswersOf.{Hint, answer_of, refuses_memory}}
use Rattle.cacache_system.specs.declared.call.CallResult.TheVariants as says
use Rattle.cacache_system_model.specs.{Machine.{Place, under, OpenFile, node_of, Machine}, StepLaws.{IsOpenAt}, Laws.{bytes_in, temp_on, file_on, step_on, answer_on}, Mirrors.{Mirrors, temps_after}, callers.{Storing.{IsHeld, HoldsTemp, HintStands}, Opened.{KeepsOpen, Avoids, IsApart, StillStores}, Seen.{step_seen, handed, handed_open, IsOnHeld}}}
use Rattle.cacache_system_model.proofs.{Steps.Opening.{file_under}, callers.{WithoutBytes.{step_without}, Fitting.{answer_if}, Covering.{still_there, hollow_file}, OpenTemps.{Misses, is_elsewhere, with_new_here}, Files.{file_of, open_of, file_given, open_given}, OpenCalls.{place_at}}}
use Rattle.cacache_folder.proofs.Answering.{temp_of}

-- ---- handles

-- a caller's temporary file is open, and holds on the machine what is said of it
pub record Handle (temps : Names → Bool) (m : Machine) (o : Option NumberedTemp) (file : PlainTemp) : Type 0 where
  pub temp : NumberedTemp
  pub is : o ≡ Some temp
  pub held : IsHeld temps m temp
  pub same : temp_on m temp ≡ file

bytes_same : (m n : Machine) (o p : Option OpenFile) (q : Names) → option_map place_at o ≡ Some (under q) → option_map place_at p ≡ Some (under q) → look n.tree q ≡ look m.tree q
    → option_map (bytes_in n) p ≡ option_map (bytes_in m) o
bytes_same m n o p q e f same =
    let one = file_under o (under q) e in
    let two = file_under p (under q) f in
    ap (option_map (bytes_in n)) two.1 ∙ ap (λ (x : Place). Some (bytes_of (node_of n.tree x))) two.2 ∙ ap (λ (x : Option Node). Some (bytes_of x)) same
    ∙ ap (λ (x : Place). Some (bytes_of (node_of m.tree x))) (sym one.2) ∙ ap (option_map (bytes_in m)) (sym one.1)

abbrev with_bytes : List ℕ → Option (List ℕ) → PlainTemp
with_bytes path bytes = record { path = path; bytes = bytes }

-- it still does, where its file stayed as it was
pub handle_kept : (temps later : Names → Bool) (m n : Machine) (o new : Option NumberedTemp) (file : PlainTemp) → new ≡ o → (g : Handle temps m o file)
    → KeepsOpen g.held.names m n → later g.held.names ≡ true → look n.tree g.held.names ≡ look m.tree g.held.names → Handle later n new file
handle_kept temps later m n o new file same g keeps is_temp stays =
    let opened = keeps g.temp.number g.held.opened in
    record {
      temp = g.temp;
      is = same ∙ g.is;
      held = record { names = g.held.names; named = g.held.named; is_temp = is_temp; opened = opened };
      same = ap (with_bytes g.temp.path)
          (bytes_same m n (m.files g.temp.number) (n.files g.temp.number) g.held.names g.held.opened opened stays)
          ∙ g.same;
    }

same_temp : (o : Option NumberedTemp) (a b : NumberedTemp) → o ≡ Some a → o ≡ Some b → a ≡ b
same_temp o a b e f = let is : Some a ≡ Some b = sym e ∙ f in cc

-- ---- the next step, with its handle

-- a caller was handed an open file that held this then
abbrev pub IsHanded : Option (NumberedFile × PlainFile) → PlainFile → Type 0
IsHanded opened file = (f : NumberedFile) × (opened ≡ Some (f, file))

module _ (temps : Names → Bool) (m : Machine) (o : Option NumberedTemp) (opened : Option (NumberedFile × PlainFile)) where
  on_open : (f : PlainFile) (g : NumberedFile) → IsHanded opened f → opened ≡ Some (g, file_on m g) → f ≡ file_on m g
  on_open f g (own, is) held = let same : Some f ≡ Some (file_on m g) = ap (option_map (λ (x : NumberedFile × PlainFile). x.1)) (sym is ∙ held) in cc

  on_handle : (f : PlainTemp) (t : NumberedTemp) → Handle temps m o f → o ≡ Some t → f ≡ temp_on m t
  on_handle f t g is = sym g.same ∙ ap (temp_on m) (same_temp o g.temp t g.is is)

  is_held : (f : PlainTemp) (t : NumberedTemp) → Handle temps m o f → o ≡ Some t → IsHeld temps m t
  is_held f t g is = subst (IsHeld temps m) (same_temp o g.temp t g.is is) g.held

  -- a wanted step that is the store's, but for what handles hold, is the store's with its handles as they are here
  pub next_on : (plain : PlainStep) (step : NumberedStep) → step_without plain ≡ step_without (step_seen step) → IsOnHeld m o opened step
      → ((f : PlainTemp) → file_of plain ≡ Some f → Handle temps m o f) → ((f : PlainFile) → open_of plain ≡ Some f → IsHanded opened f) → plain ≡ step_on m step
  next_on (steps.MakeDirs p) (steps.MakeDirs q) e held h k = e
  next_on (steps.CreateTemp p) (steps.CreateTemp q) e held h k = e
  next_on (steps.Write f bytes) (steps.Write t more) e held h k =
      let same : bytes ≡ more = cc in
      ap (λ (x : PlainTemp). steps.Write x bytes) (on_handle f t (h f refl) held) ∙ ap (λ (x : List ℕ). steps.Write (temp_on m t) x) same
  next_on (steps.Persist f p) (steps.Persist t q) e held h k =
      let same : p ≡ q = cc in
      ap (λ (x : PlainTemp). steps.Persist x p) (on_handle f t (h f refl) held) ∙ ap (λ (x : List ℕ). steps.Persist (temp_on m t) x) same
  next_on (steps.Append p bytes) (steps.Append q more) e held h k = e
  next_on (steps.ReadAll p) (steps.ReadAll q) e held h k = e
  next_on (steps.Open p) (steps.Open q) e held h k = e
  next_on (steps.Read f size) (steps.Read g most) e held h k =
      let same : size ≡ most = cc in
      ap (λ (x : PlainFile). steps.Read x size) (on_open f g (k f refl) held) ∙ ap (λ (x : ℕ). steps.Read (file_on m g) x) same
  next_on (steps.Exists p) (steps.Exists q) e held h k = e
  next_on (steps.Size p) (steps.Size q) e held h k = e
  next_on (steps.Symlink target p) (steps.Symlink other q) e held h k = e
  next_on (steps.Copy p q) (steps.Copy from to) e held h k = e
  next_on (steps.Reflink p q) (steps.Reflink from to) e held h k = e
  next_on (steps.HardLink p q) (steps.HardLink from to) e held h k = e
  next_on (steps.ReadDir p) (steps.ReadDir q) e held h k = e
  next_on (steps.RemoveFile p) (steps.RemoveFile q) e held h k = e
  next_on (steps.RemoveDir p) (steps.RemoveDir q) e held h k = e
  next_on (steps.SyncTemp f) (steps.SyncTemp t) e held h k = ap (λ (x : PlainTemp). steps.SyncTemp x) (on_handle f t (h f refl) held)
  next_on (steps.SyncFile p) (steps.SyncFile q) e held h k = e
  next_on (steps.SyncDir p) (steps.SyncDir q) e held h k = e
  next_on plain step e held h k = absurd cc

  pub holds_on : (step : NumberedStep) → IsOnHeld m o opened step → ((f : PlainTemp) → file_of (step_on m step) ≡ Some f → Handle temps m o f) → HoldsTemp temps m step
  holds_on (steps.Write t bytes) held h = is_held (temp_on m t) t (h (temp_on m t) refl) held
  holds_on (steps.Persist t p) held h = is_held (temp_on m t) t (h (temp_on m t) refl) held
  holds_on (steps.SyncTemp t) held h = is_held (temp_on m t) t (h (temp_on m t) refl) held
  holds_on step held h = tt

-- ---- the handle that an answer hands out

-- a failure hands out none
never_wrote : (step : NumberedStep) (fault : Fault) (b : Bool) (t : NumberedTemp) (n : ℕ) → answer_if step fault b ≡ answers.Wrote t n → ⊥
never_wrote step fault b t n e = grind (arith, common_steps)

never_synced : (step : NumberedStep) (fault : Fault) (b : Bool) (t : NumberedTemp) → answer_if step fault b ≡ answers.Synced t → ⊥
never_synced step fault b t e = grind (arith, common_steps)

pub wrote_same : (t u : NumberedTemp) (bytes : List ℕ) (end : CallResult) (n : ℕ) → answer_of (steps.Write t bytes) end ≡ answers.Wrote u n → t ≡ u
wrote_same t u bytes end n e = grind (arith, never_wrote)

pub synced_same : (t u : NumberedTemp) (end : CallResult) → answer_of (steps.SyncTemp t) end ≡ answers.Synced u → t ≡ u
synced_same t u end e = grind (arith, never_synced)

temp_there : (p : List ℕ) (t : Tree) (r : Result Names Fault) (f : PlainTemp) → ((names : Names) → r ≡ Ok names → names_of p ≡ Ok names)
    → (new : Names → Tree) → (unless r t (λ names. (answers.Temp (made_temp p), new names))).0 ≡ answers.Temp f → (names : Names) × (names_of p ≡ Ok names)
temp_there p t r f named new e = grind (arith, common_steps)

temp_named : (t : Tree) (p : List ℕ) (luck : Luck) (f : PlainTemp) → (apply t (steps.CreateTemp p) luck).0 ≡ answers.Temp f → (names : Names) × (names_of p ≡ Ok names)
temp_named t p luck f =
    apply_answer (λ a. a ≡ answers.Temp f → (names : Names) × (names_of p ≡ Ok names)) (λ fault e. absurd cc) t (steps.CreateTemp p) luck
    (λ most. temp_there p t (free t p) f (λ names is. (free_ok t p names is).0) (λ names. put t names (File [])))

stays_held : (temps : Names → Bool) (m n : Machine) (u : NumberedTemp) → ((q : Names) → KeepsOpen q m n) → IsHeld temps m u → IsHeld temps n u
stays_held temps m n u keeps g = record { names = g.names; named = g.named; is_temp = g.is_temp; opened = keeps g.names u.number g.opened }

-- a step that hands a temporary file back
abbrev pub HandsOut : NumberedStep → Type 0
HandsOut (steps.Write t bytes) = Unit {0}
HandsOut (steps.SyncTemp t) = Unit {0}
HandsOut step = ⊥

-- the handle behind a step, where the answer hands one out
pub handed_handle : (temps : Names → Bool) (m n : Machine) (step : NumberedStep) (answer : NumberedAnswer) (o : Option NumberedTemp) (file : PlainTemp) (t : Tree) (luck : Luck) → ((q : Names) → HandsOut step → KeepsOpen q m n)
    → ((p : List ℕ) (u : NumberedTemp) (names : Names) → step ≡ steps.CreateTemp p → answer ≡ answers.Temp u → names_of u.path ≡ Ok names → IsOpenAt n u.number names)
    → HoldsTemp temps m step
    → ((v u : NumberedTemp) (bytes : List ℕ) (k : ℕ) → step ≡ steps.Write v bytes → answer ≡ answers.Wrote u k → v ≡ u)
    → ((v u : NumberedTemp) → step ≡ steps.SyncTemp v → answer ≡ answers.Synced u → v ≡ u)
    → Fits (step_on m step) (answer_on n answer) → answer_on n answer ≡ (apply t (step_on m step) luck).0 → file_given (answer_on n answer) ≡ Some file
    → Handle (temps_after temps (step_on m step) (answer_on n answer)) n (handed answer o) file
handed_handle temps m n (steps.CreateTemp p) (answers.Temp u) o file t luck keeps opens holds wrote synced fits answered e =
    let g = temp_named t p luck (temp_on n u) (sym answered) in
    let named : names_of u.path ≡ Ok g.0 = ap names_of fits ∙ g.1 in
    let same : temp_on n u ≡ file = cc in
    record { temp = u; is = refl; held = record { names = g.0; named = named; is_temp = with_new_here temps (names_of p) g.0 g.1; opened = opens p u g.0 refl refl named }; same = same }
handed_handle temps m n (steps.Write v bytes) (answers.Wrote u k) o file t luck keeps opens holds wrote synced fits answered e =
    let same : temp_on n u ≡ file = cc in
    record { temp = u; is = refl; held = stays_held temps m n u (λ q. keeps q tt) (subst (IsHeld temps m) (wrote v u bytes k refl refl) holds); same = same }
handed_handle temps m n (steps.SyncTemp v) (answers.Synced u) o file t luck keeps opens holds wrote synced fits answered e =
    let same : temp_on n u ≡ file = cc in
    record { temp = u; is = refl; held = stays_held temps m n u (λ q. keeps q tt) (subst (IsHeld temps m) (synced v u refl refl) holds); same = same }
handed_handle temps m n step (answers.Temp u) o file t luck keeps opens holds wrote synced fits answered e = absurd fits
handed_handle temps m n step (answers.Wrote u k) o file t luck keeps opens holds wrote synced fits answered e = absurd fits
handed_handle temps m n step (answers.Synced u) o file t luck keeps opens holds wrote synced fits answered e = absurd fits
handed_handle temps m n step answer o file t luck keeps opens holds wrote synced fits answered e = let no : None ≡ Some file = e in absurd cc

pub handed_none : (n : Machine) (answer : NumberedAnswer) (o : Option NumberedTemp) → file_given (answer_on n answer) ≡ None → handed answer o ≡ o
handed_none n answer o e = grind (arith, common_steps)

-- the open file that an answer hands out
pub handed_file : (n : Machine) (answer : NumberedAnswer) (old : Option (NumberedFile × PlainFile)) (file : PlainFile) → open_given (answer_on n answer) ≡ Some file → IsHanded (handed_open n answer old) file
handed_file n (answers.File f) old file e = let same : file_on n f ≡ file = cc in (f, ap (λ (x : PlainFile). Some (f, x)) same)
handed_file n (answers.Got f bytes) old file e = let same : file_on n f ≡ file = cc in (f, ap (λ (x : PlainFile). Some (f, x)) same)
handed_file n answer old file e = let no : None ≡ Some file = e in absurd cc

pub handed_no_file : (n : Machine) (answer : NumberedAnswer) (old : Option (NumberedFile × PlainFile)) → open_given (answer_on n answer) ≡ None → handed_open n answer old ≡ old
handed_no_file n answer old e = grind (arith, common_steps)

never_temp : (step : NumberedStep) (fault : Fault) (b : Bool) (u : NumberedTemp) → answer_if step fault b ≡ answers.Temp u → ⊥
never_temp step fault b u e = grind (arith, common_steps)

pub temp_answer : (p : List ℕ) (u : NumberedTemp) (end : CallResult) → answer_of (steps.CreateTemp p) end ≡ answers.Temp u → (end ≡ says.Opened u.number) × (u.path ≡ p)
temp_answer p u (says.Opened k) e =
    let same : temp_of k p ≡ u = cc in (ap (λ (x : NumberedTemp). says.Opened x.number) same, ap (λ (x : NumberedTemp). x.path) (sym same))
temp_answer p u (says.Failed why) e = absurd (never_temp (steps.CreateTemp p) (fault_of why) (refuses_memory why && not true) u e)
temp_answer p u end e = absurd cc

kind_differs : (h : Option Names) (k : PathKind) (r : Result Names Fault) → (Temporary ≡ k → ⊥) → IfOk r (λ names. path_kind h names ≡ k) → IfOk r (λ names. path_kind h names ≡ Temporary → ⊥)
kind_differs h k r other is = grind (arith, common_steps)

-- what is for something else is no path of a temporary file
apart_from : (h : Option Names) (q : Names) (k : PathKind) (p : List ℕ) → path_kind h q ≡ Temporary → (Temporary ≡ k → ⊥) → IsFor h k p → Avoids q p
apart_from h q k p at other is = is_elsewhere h q (names_of p) at (kind_differs h k (names_of p) other is)

-- the target of a copy is outside
copies_outside : (h : Option Names) (t : Tree) (q : Names) (bytes to : List ℕ) → Placed h t → path_kind h q ≡ Temporary → look t q ≡ Some (File bytes) → IsFor h Elsewhere to → IsApart q t to
copies_outside h t q bytes to placed at here out = record {
  bytes = bytes;
  stands = here;
  avoids = apart_from h q Elsewhere to at (λ e. cc) out;
  leads = λ end leads.
      false_from_ne_true (same_path q end)
      (λ e. let no : Temporary ≡ Elsewhere = sym at ∙ ap (path_kind h) (same_path-true q end e) ∙ (writable_out h t to end placed out leads).0 in cc);
}

module _ (h : Option Names) (temps : Names → Bool) (m : Machine) (d : Tree) (mirrors : Mirrors temps m.tree d) (rooted : Rooted m.tree) where
  -- a step that hands its file back moves and removes nothing
  pub hands_back : (q : Names) (step : NumberedStep) → HoldsTemp temps m step → HandsOut step → StillStores q m step
  hands_back q step holds hands = grind (arith, still_there)

  -- nor does any step at another's temporary file
  pub still_stores : (q : Names) (hint : Hint) (step : NumberedStep) → HoldsTemp temps m step → HintStands m hint step → Placed h m.tree → path_kind h q ≡ Temporary → temps q ≡ true
      → (look m.tree q ≡ Some Folder → ⊥) → Proper h (step_on m step) → Misses q (step_on m step) → StillStores q m step
  still_stores q hint (steps.Write t bytes) holds stands placed at is_temp no_folder proper misses = still_there temps m d t mirrors rooted holds
  still_stores q hint (steps.Persist t p) holds stands placed at is_temp no_folder proper misses =
      (still_there temps m d t mirrors rooted holds, misses, apart_from h q Content p at (λ e. cc) proper.1)
  still_stores q hint (steps.Read f size) holds stands placed at is_temp no_folder proper misses = stands
  still_stores q hint (steps.Copy p to) holds stands placed at is_temp no_folder proper misses =
      let file = hollow_file (look m.tree q) (mirrors.files q is_temp) in copies_outside h m.tree q file.0 to placed at file.1 proper
  still_stores q hint (steps.ReadDir p) holds stands placed at is_temp no_folder proper misses = stands
  still_stores q hint (steps.RemoveFile p) holds stands placed at is_temp no_folder proper misses = misses
  still_stores q hint (steps.RemoveDir p) holds stands placed at is_temp no_folder proper misses = no_folder
  still_stores q hint (steps.SyncTemp t) holds stands placed at is_temp no_folder proper misses = still_there temps m d t mirrors rooted holds
  still_stores q hint step holds stands placed at is_temp no_folder proper misses = tt
