-- Reads of open files, and files that are read whole.
use Rattle.std.proofs.{lemmas.Grind.{common_steps}, Common.{rules, ◌≡◌, ◌≤◌, ◌<◌, ◌+◌, ◌-◌, ◌==◌, ◌&&◌, not, ℕ, zero, suc, min, max, Bool, true, false, if◌then◌else◌, List, [], ◌⊎◌, length, take, drop, refl, sym, ap, subst, ◌∙◌, ⊎_elim, inl, inr, arith, drop_of_length-le, length-take, length-drop, drop-drop, eqb-true, eq-eqb, true≢false}}
use Rattle.std.specs.{Prelude.{Option, None, Some, option_map}, Option.{unwrap_or}}
use Rattle.std_io.specs.declared.io.kind.ErrorKind.TheVariants as kind
use Rattle.cacache_core.specs.declared.errors.Fault.TheVariants.{Closed}
use Rattle.cacache_store.specs.declared.store.step.Step.TheVariants as steps
use Rattle.cacache_store.specs.declared.store.answer.Answer.TheVariants as answers
use Rattle.cacache_store.specs.Plain.{PlainAnswer}
use Rattle.cacache_disk.specs.{declared.{luck.Luck.TheVariants.{Plain, Take}, node.Node.{Node}}, Tree.{Tree, bytes_of}, Apply.{apply, readable, given, rest_of}}
use Rattle.cacache_system.specs.declared.call.SystemCall.TheVariants as asks
use Rattle.cacache_system.specs.{declared.call.CallResult.{CallResult}, CallsOf.{trying, taking_memory}, Seen.{NumberedFile}, AnswersOf.{read_piece}}
use Rattle.cacache_system.specs.declared.call.CallResult.TheVariants as says
use Rattle.cacache_system_model.specs.{Machine.{OpenFile, node_of, Machine, ReadsFile, Gives, with_file}, Laws.{left_in, step_on, outcome, led_to, Leads, IsDone}, StepLaws.{StaysOpen, ReadBreaks, PiecesReadPlainly}}
use Rattle.cacache_system_model.proofs.{Refusing.{same_outcome, broken_agrees}, Leading.{Claim, over_leads, trying_leads}, Claims.{way_of, claim_of, Well, taking_leads, claim_broken, claim_memory}, Trying.{SaidWell, tried_so}, Steps.Opening.{newly_open, on_open, same_number}}
use Rattle.cacache_history.proofs.Contents.OpenedContents.{some_readable}

-- ---- counts

readable_within : (most : Option ℕ) (size : ℕ) → readable most size ≤ size
readable_within most size = grind (arith, common_steps)

pub either : (k n : ℕ) → (k ≤ n) ⊎ (n ≤ k)
either zero n = inl (omega arith)
either (suc k) zero = inr (omega arith)
either (suc k) (suc n) = ⊎_elim (λ (l : k ≤ n). inl (omega arith)) (λ (l : n ≤ k). inr (omega arith)) (either k n)

zero_or : (n : ℕ) → (n ≡ 0) ⊎ (0 < n)
zero_or n = grind (arith, common_steps)

-- a part of a piece is what a luck of so many bytes takes
taken_part : (most : Option ℕ) (size all : ℕ) → size ≤ all → (size ≡ 0 → all ≡ 0) → readable (Some (readable most size)) all ≡ readable most size
taken_part most size all within none =
    let l : readable most size ≤ size = readable_within most size in
    ⊎_elim
    (λ (z : size ≡ 0). let a : all ≡ 0 = none z in let r : readable most size ≡ 0 = omega (arith, l, z) in omega (arith, a, r))
    (λ (p : 0 < size). let r : 0 < readable most size = some_readable most size p in omega (arith, r, l, within))
    (zero_or size)

-- ---- a read in the disk's table

abbrev got : List ℕ → List ℕ → PlainAnswer
got rest next = answers.Got (record { left = length rest; bytes = Some rest }) next

given_known : (rest : List ℕ) (k : ℕ) → given (record { left = length rest; bytes = Some rest }) k (Some rest) ≡ got (drop k rest) (take k rest)
given_known rest k =
    ap (λ (b : Bool). if b then answers.Got (rest_of rest k) (take k rest) else answers.Failed Closed) (same_number (length rest))
    ∙ ap (λ (size : ℕ). answers.Got (record { left = size; bytes = Some (drop k rest) }) (take k rest)) (let l : length (drop k rest) ≡ length rest - k = length-drop k rest in omega (arith, l))

pub drop_taken : (rest : List ℕ) (k : ℕ) → drop (length (take k rest)) rest ≡ drop k rest
drop_taken rest k =
    ⊎_elim
    (λ (l : k ≤ length rest). ap (λ (n : ℕ). drop n rest) (let e : length (take k rest) ≡ min k (length rest) = length-take k rest in omega (arith, e, l)))
    (λ (l : length rest ≤ k). ap (λ (n : ℕ). drop n rest) (let e : length (take k rest) ≡ min k (length rest) = length-take k rest in omega (arith, e, l))
    ∙ drop_of_length-le rest {i = length rest} (omega arith) ∙ sym (drop_of_length-le rest {i = k} l))
    (either k (length rest))

file_known : (m : Machine) (file : NumberedFile) (found : OpenFile) (bytes : List ℕ) → StaysOpen m file found bytes → option_map (left_in m) (m.files file.number) ≡ Some (drop found.read bytes)
file_known m file found bytes ready = ap (option_map (left_in m)) ready.known ∙ ap (λ (o : Option Node). Some (drop found.read (bytes_of o))) ready.stands

abbrev read_known : Option (List ℕ) → ℕ → PlainAnswer
read_known bytes k = given (record { left = length (unwrap_or bytes []); bytes = bytes }) k bytes

apply_plain : (t : Tree) (bytes : Option (List ℕ)) (max : ℕ) → apply t (steps.Read (record { left = length (unwrap_or bytes []); bytes = bytes }) max) Plain ≡ outcome (read_known bytes max) t
unfolding apply
apply_plain t bytes max = refl

apply_take : (t : Tree) (bytes : Option (List ℕ)) (max most : ℕ) → apply t (steps.Read (record { left = length (unwrap_or bytes []); bytes = bytes }) max) (Take most) ≡ outcome (read_known bytes (readable (Some most) max)) t
unfolding apply
apply_take t bytes max most = refl

module _ (m : Machine) (file : NumberedFile) (found : OpenFile) (bytes : List ℕ) (max : ℕ) (ready : StaysOpen m file found bytes) where
  file_after : (n : Machine) (next : List ℕ) → n.tree ≡ m.tree → n.files ≡ with_file m.files file.number (record { place = found.place; read = found.read + length next })
      → option_map (left_in n) (n.files file.number) ≡ Some (drop (length next) (drop found.read bytes))
  file_after n next tree files =
      ap (option_map (left_in n)) (ap (λ (f : ℕ → Option OpenFile). f file.number) files ∙ newly_open m.files file.number (record { place = found.place; read = found.read + length next }))
      ∙ ap (λ (t : Tree). Some (drop (found.read + length next) (bytes_of (node_of t found.place)))) tree
      ∙ ap (λ (o : Option Node). Some (drop (found.read + length next) (bytes_of o))) ready.stands
      ∙ ap Some (sym (drop-drop (length next) found.read bytes))

  answer_after : (n : Machine) (k : ℕ) → Gives file.number found (take k (drop found.read bytes)) m (says.Bytes (take k (drop found.read bytes))) n
      → outcome (got (drop k (drop found.read bytes)) (take k (drop found.read bytes))) m.tree ≡ led_to (steps.Read file max) (says.Bytes (take k (drop found.read bytes))) n
  answer_after n k (same, became) =
      let rest = drop found.read bytes in
      let is = file_after n (take k rest) became.0 became.1 ∙ ap Some (drop_taken rest k) in
      sym (same_outcome
      (answers.Got (record { left = length (unwrap_or (option_map (left_in n) (n.files file.number)) []); bytes = option_map (left_in n) (n.files file.number) }) (take k rest))
      (got (drop k rest) (take k rest)) n.tree m.tree
      (ap (λ (o : Option (List ℕ)). answers.Got (record { left = length (unwrap_or o []); bytes = o }) (take k rest)) is) became.0)

  step_bytes : (k : ℕ) → outcome (read_known (option_map (left_in m) (m.files file.number)) k) m.tree ≡ outcome (got (drop k (drop found.read bytes)) (take k (drop found.read bytes))) m.tree
  step_bytes k = search (rules, file_known, given_known)

  -- as under plain luck, if all is read
  read_plain : (n : Machine) (k : ℕ) → k ≡ max → Gives file.number found (take k (drop found.read bytes)) m (says.Bytes (take k (drop found.read bytes))) n
      → apply m.tree (step_on m (steps.Read file max)) Plain ≡ led_to (steps.Read file max) (says.Bytes (take k (drop found.read bytes))) n
  read_plain n k all gives = search (rules, apply_plain, step_bytes, answer_after)

  -- as under the luck that moves a part
  read_part : (n : Machine) (k : ℕ) → readable (Some k) max ≡ k → Gives file.number found (take k (drop found.read bytes)) m (says.Bytes (take k (drop found.read bytes))) n
      → apply m.tree (step_on m (steps.Read file max)) (Take k) ≡ led_to (steps.Read file max) (says.Bytes (take k (drop found.read bytes))) n
  read_part n k part gives = search (rules, apply_take, step_bytes, answer_after)

-- what is claimed if a read doesn't fail without cause
abbrev ReadsWell : Bool → Machine → NumberedFile → OpenFile → List ℕ → ℕ → ℕ → Type 0
ReadsWell b m file found bytes max size =
    (most : Option ℕ) (n : Machine) → (b ≡ true → most ≡ None)
    → Gives file.number found (take (readable most size) (drop found.read bytes)) m (says.Bytes (take (readable most size) (drop found.read bytes))) n
    → claim_of b m (steps.Read file max) (says.Bytes (take (readable most size) (drop found.read bytes))) n

module _ (b : Bool) (m : Machine) (file : NumberedFile) (found : OpenFile) (bytes : List ℕ) (max size : ℕ) (ready : StaysOpen m file found bytes) (done : b ≡ false → IsDone m (steps.Read file max)) (holds : ReadsWell b m file found bytes max size) where
  read_well : (said : CallResult) (n : Machine) → Well b m (asks.Read file.number size) said n → SaidWell (claim_of b m (steps.Read file max)) said n
  read_well said n (most, all, well) =
      let reads = on_open m n file.number found said (λ f. ReadsFile (take (readable most size)) file.number f (node_of m.tree f.place) m) ready.known well in
      let gives : Gives file.number found (take (readable most size) (drop found.read bytes)) m said n
      = subst (λ (o : Option Node). ReadsFile (take (readable most size)) file.number found o m said n) ready.stands reads in
      record {
        is = says.Bytes (take (readable most size) (drop found.read bytes));
        same = gives.0;
        goes_on = refl;
        holds = holds most n all (refl, gives.1);
      }

  read_leads : Leads (way_of b) (taking_memory (trying false (asks.Read file.number size))) m (claim_of b m (steps.Read file max))
  read_leads =
      taking_leads (way_of b) (trying false (asks.Read file.number size)) m (claim_of b m (steps.Read file max)) (claim_memory b m (steps.Read file max) done m refl refl)
      (trying_leads (way_of b) (asks.Read file.number size) m (claim_of b m (steps.Read file max))
      (tried_so b m (asks.Read file.number size) (claim_of b m (steps.Read file max)) read_well
      (λ broke. claim_broken b m (steps.Read file max) done kind.Interrupted m broke refl refl refl)
      (λ why part n is left. left)
      (λ why part n broke fine whole. claim_broken b m (steps.Read file max) done why n broke refl fine (ap (λ (x : Machine). x.tree) whole))))

-- ---- the whole step

-- a read that asks for so many bytes, or that gives no more
piece_leads : (b c : Bool) (m : Machine) (file : NumberedFile) (size : ℕ) (P : Claim) → (file.left == 0 && not (size == 0)) ≡ c → (c ≡ true → P (says.Failed kind.FileTooLarge) m)
    → (c ≡ false → Leads (way_of b) (taking_memory (trying false (asks.Read file.number (min size file.left)))) m P) → Leads (way_of b) (read_piece file size) m P
piece_leads b c m file size P is over_now goes_on = grind (arith, way_of, over_leads)

asked_so : (x y : Bool) (left size : ℕ) → (left == 0) ≡ x → (size == 0) ≡ y → (x && not y) ≡ false → left ≡ 0 → size ≡ 0
asked_so x y left size l s is none = grind (arith, common_steps)

-- nothing is asked for only if nothing is wanted
nothing_asked : (left size all : ℕ) → (left == 0 && not (size == 0)) ≡ false → size ≡ min all 131072 → min size left ≡ 0 → all ≡ 0
nothing_asked left size all is same none =
    let none_left = asked_so (left == 0) (size == 0) left size refl refl is in
    ⊎_elim
    (λ (l : left ≡ 0). let s : size ≡ 0 = none_left l in omega (arith, s, same))
    (λ (l : 0 < left). omega (arith, l, same, none))
    (zero_or left)

gives_some : (x y : Bool) (left size all : ℕ) → (left == 0) ≡ x → (size == 0) ≡ y → (x && not y) ≡ true → size ≡ min all 131072 → all ≤ left → ⊥
gives_some true true left size all l s is same fits = absurd cc
gives_some true false left size all l s is same fits =
    let none : left ≡ 0 = eqb-true left 0 l in
    let nothing : size ≡ 0 = omega (arith, none, same, fits) in
    let zero : (size == 0) ≡ true = eq-eqb size 0 nothing in
    true≢false (sym zero ∙ s)
gives_some false y left size all l s is same fits = absurd cc

pub read_breaks : ReadBreaks
read_breaks m hint file found bytes max ready done =
    piece_leads false (file.left == 0 && not (min max 131072 == 0)) m file (min max 131072) (claim_of false m (steps.Read file max)) refl
    (λ e. broken_agrees (steps.Read file max) kind.FileTooLarge (says.Failed kind.FileTooLarge) m m refl refl refl done)
    (λ some. read_leads false m file found bytes max (min (min max 131072) file.left) ready (λ e. done)
    (λ most n all gives. inl (
      Take (readable most (min (min max 131072) file.left)),
      read_part m file found bytes max ready n (readable most (min (min max 131072) file.left))
          (taken_part most (min (min max 131072) file.left) max (omega arith) (λ none. nothing_asked file.left (min max 131072) max some refl none)) gives,
    )))

pub pieces_read_plainly : PiecesReadPlainly
pieces_read_plainly m hint file found bytes max ready piece fits =
    piece_leads true (file.left == 0 && not (min max 131072 == 0)) m file (min max 131072) (claim_of true m (steps.Read file max)) refl
    (λ e enough. absurd (gives_some (file.left == 0) (min max 131072 == 0) file.left (min max 131072) max refl refl e refl fits))
    (λ some. read_leads true m file found bytes max (min (min max 131072) file.left) ready (λ e. absurd cc)
    (λ most n all gives enough. read_plain m file found bytes max ready n (readable most (min (min max 131072) file.left))
    (ap (λ (o : Option ℕ). readable o (min (min max 131072) file.left)) (all refl) ∙ (let e : min (min max 131072) file.left ≡ max = omega arith in e)) gives))
