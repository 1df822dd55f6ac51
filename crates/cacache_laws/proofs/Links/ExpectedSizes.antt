-- A link's commit that expects no size goes on as one that expects the size of its bytes; and how it fails.
use Rattle.std.proofs.{Common.{arith, ◌≡◌, ◌⊎◌, inl, inr, ◌==◌, ℕ, true, cond, List, [], ◌∷◌, ◌++◌, Option, None, Some, length, refl, sym, ap, subst, ◌∙◌, append-nil, append_assoc}, lemmas.{Grind.{common_steps}, Bool.{eq-eqb, cond-true}}}
use Rattle.cacache_core.specs.declared.{errors.{Error.{Error, TheVariants.{IntegrityError, IoError, OutOfMemory, SizeMismatch}}, Fault.{Fault}, IntegrityFault.TheVariants.{Check}}, integrity.digest.Hash.{Hash}}
use Rattle.cacache_core.specs.declared.errors.Fault.TheVariants as faults
use Rattle.cacache_store.specs.declared.store.answer.Answer.TheVariants as answers
use Rattle.cacache_store.specs.{declared.store.plain.PlainFile.{PlainFile}, Plain.{PlainStep, PlainAnswer}}
use Rattle.cacache_store.specs.declared.store.step.Step.TheVariants as steps
use Rattle.cacache_disk.specs.Apply.{opened}
use Rattle.cacache_calls.specs.{declared.{reply.Reply.{Reply}, carried.Commit.{Commit}, target.Target.{Target}}, Common.{ends_with}, Linking.{commit_for, with_size}, Runs.{Moves, Runs}, State.{State, confirming, hashing, linking, over, to_link}, Storing.{compared, indexed, link, matches, placed, sized}, Table.{after, piece, wants}, Verifying.{Gives}}
use Rattle.cacache_calls.specs.declared.reply.Reply.TheVariants as replies
use Rattle.cacache_history.proofs.Contents.OpenedContents.{OnDisks, gives_all, run_asks}
use Rattle.cacache_laws.{specs.{CallErrors.{FailsOnly}, OpenLinkers.{SuitsSize}}, proofs.{Calls.CallErrors.{Plain as PlainCommit, calm_run}, Removing.Removed.{over_run}}}

-- ---- a size that a commit expects

-- the target with this size expected, or with none
abbrev pub of_size : Target ℕ → Option ℕ → Target ℕ
of_size t size = record t { options = record t.options { size = size } }

-- two commits of a link that are the same once the content is there go on the same
module _ (t : Target ℕ) (a b : Option ℕ) (bytes : List ℕ) (same : placed (commit_for (of_size t a) bytes) ≡ placed (commit_for (of_size t b) bytes)) where
  abbrev one : Commit
  one = commit_for (of_size t a) bytes

  abbrev other : Commit
  other = commit_for (of_size t b) bytes

  confirmed_same : (fault : Fault) (answer : PlainAnswer) → after (confirming one fault) answer ≡ after (confirming other fault) answer
  confirmed_same fault answer = grind (arith, common_steps)

  confirming_same : (fault : Fault) (moves : Moves) (r : Reply) → Runs (confirming one fault) moves r → Runs (confirming other fault) moves r
  confirming_same fault [] r (inl e) = absurd cc
  confirming_same fault [] r (inr e) = inr e
  confirming_same fault (m ∷ moves) r run = (run.0, run.1, subst (λ x. Runs x moves r) (confirmed_same fault m.1) run.2)

  linked_on : (answer : PlainAnswer) (moves : Moves) (r : Reply) → Runs (after (linking one t.path) answer) moves r → Runs (after (linking other t.path) answer) moves r
  linked_on answer moves r run = grind (arith, confirming_same)

  linking_same : (moves : Moves) (r : Reply) → Runs (linking one t.path) moves r → Runs (linking other t.path) moves r
  linking_same [] r (inl e) = absurd cc
  linking_same [] r (inr e) = inr e
  linking_same (m ∷ moves) r run = (run.0, run.1, linked_on m.1 moves r run.2)

  made_on : (answer : PlainAnswer) (moves : Moves) (r : Reply) → Runs (after (link one t.path) answer) moves r → Runs (after (link other t.path) answer) moves r
  made_on answer moves r run = grind (arith, linking_same)

  link_same : (moves : Moves) (r : Reply) → Runs (link one t.path) moves r → Runs (link other t.path) moves r
  link_same [] r (inl e) = absurd cc
  link_same [] r (inr e) = inr e
  link_same (m ∷ moves) r run = (run.0, run.1, made_on m.1 moves r run.2)

-- with no size expected, and with that of the bytes, they are the same
module _ (t : Target ℕ) (n : ℕ) (bytes : List ℕ) (is : n ≡ length bytes) where
  abbrev free : Commit
  free = commit_for (of_size t None) bytes

  abbrev sure : Commit
  sure = commit_for (of_size t (Some n)) bytes

  indexed_same : (key : Option (List ℕ)) → indexed free key ≡ indexed sure key
  indexed_same key = grind (arith, common_steps)

  sized_same : sized free None ≡ sized sure (Some n)
  sized_same = indexed_same t.key ∙ sym (cond-true (n == length bytes) (indexed sure t.key) (ends_with (SizeMismatch n (length bytes))) (eq-eqb n (length bytes) is))

  compared_same : (expected : Option (List Hash)) → compared free expected ≡ compared sure expected
  compared_same expected = grind (arith, sized_same)

  placed_same : placed free ≡ placed sure
  placed_same = compared_same t.options.integrity

size_is : (t : Target ℕ) (size : Option ℕ) → t.options.size ≡ size → t ≡ of_size t size
size_is t size is = ap (of_size t) is

-- ---- reads to the target's end

reads_end : (t : Target ℕ) (file : PlainFile) (rest : List ℕ) (step : PlainStep) (a : PlainAnswer) (moves : Moves) → wants (hashing (to_link t) file []) ≡ Some step
    → Gives file rest ((steps.Read file piece, a) ∷ moves) → Gives file rest ((step, a) ∷ moves)
reads_end t file rest step a moves w gives =
    let is : steps.Read file piece ≡ step = cc in
    subst (λ x. Gives file rest ((x, a) ∷ moves)) is gives

module _ (t : Target ℕ) (r : Reply) where
  -- the run is one for any size, or it reads the file to its end and is one for the size of all bytes
  abbrev SameRun : PlainFile → List ℕ → Moves → Type 0
  SameRun file bytes moves =
      ((n : ℕ) → Runs (hashing (to_link (of_size t (Some n))) file bytes) moves r)
      ⊎ ((rest : List ℕ) × Gives file rest moves × Runs (hashing (to_link (of_size t (Some (length (bytes ++ rest))))) file bytes) moves r)

  same_run : (file : PlainFile) (bytes : List ℕ) (moves : Moves) → Runs (hashing (to_link (of_size t None)) file bytes) moves r → SameRun file bytes moves
  same_run file bytes [] (inl e) = absurd cc
  same_run file bytes [] (inr e) = inl (λ n. inr e)
  same_run file bytes ((step, answers.Got g []) ∷ moves) run =
      let placed_so = placed_same t (length (bytes ++ [])) bytes (ap (λ (b : List ℕ). length b) (append-nil bytes)) in
      inr ([], reads_end t file [] step (answers.Got g []) moves run.0 (refl, refl), (run.0, run.1, link_same t None (Some (length (bytes ++ []))) bytes placed_so moves r run.2))
  same_run file bytes ((step, answers.Got g (b ∷ bs)) ∷ moves) run =
      elim (same_run g (bytes ++ b ∷ bs) moves run.2) [
        | inl any ↦ inl (λ n. (run.0, run.1, any n))
        | inr h ↦
            inr (
              (b ∷ bs) ++ h.0,
              reads_end t file ((b ∷ bs) ++ h.0) step (answers.Got g (b ∷ bs)) moves run.0 (refl, h.0, refl, h.1),
              (run.0, run.1, subst (λ l. Runs (hashing (to_link (of_size t (Some (length l)))) g (bytes ++ b ∷ bs)) moves r) (append_assoc bytes (b ∷ bs) h.0) h.2),
            )
      ]
  same_run file bytes ((step, a) ∷ moves) run = inl (λ n. run)

  sized_run : (bytes rest : List ℕ) (moves : Moves) → OnDisks moves → Runs (hashing (to_link (of_size t None)) (opened rest) bytes) moves r
      → Runs (hashing (to_link (of_size t (Some (length (bytes ++ rest))))) (opened rest) bytes) moves r
  sized_run bytes rest moves disks run =
      elim (same_run (opened rest) bytes moves run) [
        | inl any ↦ any (length (bytes ++ rest))
        | inr h ↦
            let same : h.0 ≡ rest = gives_all (opened rest) h.0 rest moves refl disks (run_asks (hashing (to_link (of_size t None)) (opened rest) bytes) moves r run) h.1 in
            subst (λ b. Runs (hashing (to_link (of_size t (Some (length (bytes ++ b))))) (opened rest) bytes) moves r) same h.2
      ]

  -- the call fails while it reads, or it reads the file to its end and makes the link
  abbrev EndsAs : PlainFile → List ℕ → Moves → Type 0
  EndsAs file bytes moves = FailsOnly r ⊎ ((rest : List ℕ) × Gives file rest moves × (more : Moves) × Runs (link (commit_for t (bytes ++ rest)) t.path) more r)

  lost : (q : Error) (moves : Moves) → FailsOnly (replies.Refused q) → Runs (over (replies.Refused q)) moves r → FailsOnly r
  lost q moves fails run = elim (over_run (replies.Refused q) r moves run).1 [ inl e ↦ subst FailsOnly (sym e) fails | inr e ↦ subst FailsOnly (sym e) tt ]

  ends_as : (file : PlainFile) (bytes : List ℕ) (moves : Moves) → Runs (hashing (to_link t) file bytes) moves r → EndsAs file bytes moves
  ends_as file bytes [] (inl e) = absurd cc
  ends_as file bytes [] (inr e) = inl (subst FailsOnly (sym e) tt)
  ends_as file bytes ((step, answers.Got g []) ∷ moves) run =
      inr ([], reads_end t file [] step (answers.Got g []) moves run.0 (refl, refl), moves, subst (λ b. Runs (link (commit_for t b) t.path) moves r) (sym (append-nil bytes)) run.2)
  ends_as file bytes ((step, answers.Got g (b ∷ bs)) ∷ moves) run =
      elim (ends_as g (bytes ++ b ∷ bs) moves run.2) [
        | inl fails ↦ inl fails
        | inr h ↦
            inr (
              (b ∷ bs) ++ h.0,
              reads_end t file ((b ∷ bs) ++ h.0) step (answers.Got g (b ∷ bs)) moves run.0 (refl, h.0, refl, h.1),
              h.2,
              subst (λ l. Runs (link (commit_for t l) t.path) h.2 r) (append_assoc bytes (b ∷ bs) h.0) h.3,
            )
      ]
  ends_as file bytes ((step, answers.Failed fault) ∷ moves) run = inl (lost (IoError fault []) moves tt run.2)
  ends_as file bytes ((step, answers.NoMemory back) ∷ moves) run = inl (lost OutOfMemory moves tt run.2)
  ends_as file bytes ((step, a) ∷ moves) run = inl (lost (IoError faults.Device []) moves tt run.2)

  -- a link that expects nothing else, with an entry that can be written, fails only for a step or for memory
  pub fails_only : (bytes rest : List ℕ) (moves : Moves) → SuitsSize t.options.size (length (bytes ++ rest)) → PlainCommit (commit_for (of_size t None) (bytes ++ rest)) → OnDisks moves
      → Runs (hashing (to_link t) (opened rest) bytes) moves r → FailsOnly r
  fails_only bytes rest moves size plain disks run =
      elim (ends_as (opened rest) bytes moves run) [
        | inl fails ↦ fails
        | inr h ↦
            let same : h.0 ≡ rest = gives_all (opened rest) h.0 rest moves refl disks (run_asks (hashing (to_link t) (opened rest) bytes) moves r run) h.1 in
            by size h.2 (subst (λ b. Runs (link (commit_for t (bytes ++ b)) t.path) h.2 r) same h.3)
      ]
    where
      by : SuitsSize t.options.size (length (bytes ++ rest)) → (more : Moves) → Runs (link (commit_for t (bytes ++ rest)) t.path) more r → FailsOnly r
      by (inl none) more linked =
          calm_run (link (commit_for (of_size t None) (bytes ++ rest)) t.path) more r plain
          (subst (λ (x : Target ℕ). Runs (link (commit_for x (bytes ++ rest)) x.path) more r) (size_is t None none) linked)
      by (inr some) more linked =
          let n = length (bytes ++ rest) in
          calm_run (link (commit_for (of_size t None) (bytes ++ rest)) t.path) more r plain
          (link_same t (Some n) None (bytes ++ rest) (sym (placed_same t n (bytes ++ rest) refl)) more r
          (subst (λ (x : Target ℕ). Runs (link (commit_for x (bytes ++ rest)) x.path) more r) (size_is t (Some n) some) linked))

-- the same if no size is expected, or theirs is
pub suited_run : (t : Target ℕ) (bytes rest : List ℕ) (moves : Moves) (r : Reply) → SuitsSize t.options.size (length (bytes ++ rest)) → OnDisks moves → Runs (hashing (to_link t) (opened rest) bytes) moves r
    → Runs (hashing (to_link (with_size t (length (bytes ++ rest)))) (opened rest) bytes) moves r
suited_run t bytes rest moves r h disks run = grind (arith, sized_run, size_is)
