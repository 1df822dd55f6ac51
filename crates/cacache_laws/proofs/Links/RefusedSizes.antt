-- The commit of a linker that expects another size than its target's.
use Rattle.std.proofs.{lemmas.{Grind.{common_steps}, List.{length-take, nil_from_length}}, Common.{◌≡◌, inl, inr, ◌==◌, ℕ, Bool, true, false, cond, List, [], ◌∷◌, ◌++◌, Option, None, Some, length, take, drop, refl, sym, ap, subst, ◌∙◌, arith, append_assoc, append-nil, take-append-drop, eqb-true}}
use Rattle.cacache_core.specs.declared.{errors.{Error.TheVariants.{IntegrityError, IoError, OutOfMemory, SizeMismatch}, Fault.{Fault}, IntegrityFault.TheVariants.{Check}}, integrity.digest.Hash.{Hash}}
use Rattle.cacache_core.specs.declared.errors.Fault.TheVariants as faults
use Rattle.cacache_store.specs.declared.store.answer.Answer.TheVariants as answers
use Rattle.cacache_store.specs.declared.store.step.Step.TheVariants as steps
use Rattle.cacache_store.specs.Plain.{PlainAnswer}
use Rattle.cacache_disk.specs.{declared.luck.Luck.TheVariants.{Plain}, Apply.{apply, opened}, Tree.{Tree}, Replay.{tree_of}}
use Rattle.cacache_calls.specs.{declared.{carried.Commit.{Commit}, command.Link.{Link}, reply.Reply.{Reply}, target.Target.{Target}}, Common.{ends_with}, Linking.{after_read, commit_for, link_target}, Runs.{Moves, Runs}, State.{State, confirming, hashing, linking, over, to_link}, Storing.{compared, indexed, link, matches, placed, sized}, Table.{after, piece}, Effects.{IsRefused}}
use Rattle.cacache_calls.specs.declared.reply.Reply.TheVariants as replies
use Rattle.cacache_laws.specs.{OpenLinkers.{CommitsRest, LinkersRefuse}, Sequence.{AreAnswered}}
use Rattle.cacache_laws.proofs.{Calls.InParts.{logs_lead}, Links.OpenLinkers.{linkers_commit}, Removing.Removed.{over_run}, Sure.SureReads.{reads}}

-- ---- a commit that is refused once its content is there

-- a state that is over with a refusal
abbrev IsRefusal : State → Type 0
IsRefusal (over r) = IsRefused r
IsRefusal s = ⊥

sized_refused : (c : Commit) (n : ℕ) → (n ≡ c.count → ⊥) → (b : Bool) → (n == c.count) ≡ b → IsRefusal (cond b (indexed c c.key) (ends_with (SizeMismatch n c.count)))
sized_refused c n differ b is = grind (arith, common_steps)

compared_refused : (c : Commit) (n : ℕ) → c.options.size ≡ Some n → (n ≡ c.count → ⊥) → (expected : Option (List Hash)) → IsRefusal (compared c expected)
compared_refused c n is differ expected = grind (arith, sized_refused)

-- ---- the same moves as those of a link that expects nothing, until memory is refused

-- such a target
abbrev bare : Target ℕ → Target ℕ
bare t = record t { key = None; options = record t.options { size = None; integrity = None } }

module _ (r : Reply) where
  -- the call is refused, and these moves are a run of the other state
  abbrev Stops : State → Moves → Type 0
  Stops s moves = Runs s moves (replies.Refused OutOfMemory) × IsRefused r

  memory_stops : (s : State) → r ≡ replies.Refused OutOfMemory → Stops s []
  memory_stops s is = (inr refl, subst IsRefused (sym is) tt)

  over_stops : (from to : State) (moves : Moves) → IsRefusal from → Runs from moves r → Stops to moves
  over_stops (over q) to moves refused run =
      let o = over_run q r moves run in
      subst (Stops to) (sym o.0) (inr refl, elim o.1 [ inl e ↦ subst IsRefused (sym e) refused | inr e ↦ subst IsRefused (sym e) tt ])
  over_stops from to moves refused run = absurd refused

  module _ (t : Target ℕ) (held : List ℕ) (refused : IsRefusal (placed (commit_for t held))) where
    abbrev one : Commit
    one = commit_for t held

    abbrev other : Commit
    other = commit_for (bare t) held

    confirmed : (fault : Fault) (answer : PlainAnswer) → IsRefusal (after (confirming one fault) answer)
    confirmed fault answer = grind (arith, common_steps)

    confirming_stops : (fault : Fault) (moves : Moves) → Runs (confirming one fault) moves r → Stops (confirming other fault) moves
    confirming_stops fault [] (inl e) = absurd cc
    confirming_stops fault [] (inr e) = memory_stops (confirming other fault) e
    confirming_stops fault (m ∷ moves) run =
        let rest = over_stops (after (confirming one fault) m.1) (after (confirming other fault) m.1) moves (confirmed fault m.1) run.2 in
        ((run.0, run.1, rest.0), rest.1)

    linked_stops : (answer : PlainAnswer) (moves : Moves) → Runs (after (linking one t.path) answer) moves r → Stops (after (linking other t.path) answer) moves
    linked_stops answers.Done moves run = over_stops (placed one) (placed other) moves refused run
    linked_stops (answers.Failed fault) moves run = confirming_stops fault moves run
    linked_stops (answers.NoMemory step) moves run = over_stops (ends_with OutOfMemory) (ends_with OutOfMemory) moves tt run
    linked_stops answer moves run = confirming_stops faults.Device moves run

    linking_stops : (moves : Moves) → Runs (linking one t.path) moves r → Stops (linking other t.path) moves
    linking_stops [] (inl e) = absurd cc
    linking_stops [] (inr e) = memory_stops (linking other t.path) e
    linking_stops (m ∷ moves) run = let rest = linked_stops m.1 moves run.2 in ((run.0, run.1, rest.0), rest.1)

    made_stops : (answer : PlainAnswer) (moves : Moves) → Runs (after (link one t.path) answer) moves r → Stops (after (link other t.path) answer) moves
    made_stops answers.Done moves run = linking_stops moves run
    made_stops (answers.Failed fault) moves run = over_stops (ends_with (IoError fault [])) (ends_with (IoError fault [])) moves tt run
    made_stops (answers.NoMemory step) moves run = over_stops (ends_with OutOfMemory) (ends_with OutOfMemory) moves tt run
    made_stops answer moves run = over_stops (ends_with (IoError faults.Device [])) (ends_with (IoError faults.Device [])) moves tt run

    link_stops : (moves : Moves) → Runs (link one t.path) moves r → Stops (link other t.path) moves
    link_stops [] (inl e) = absurd cc
    link_stops [] (inr e) = memory_stops (link other t.path) e
    link_stops (m ∷ moves) run = let rest = made_stops m.1 moves run.2 in ((run.0, run.1, rest.0), rest.1)

    -- ---- reads to the target's end

    module _ (tree : Tree) where
      got_stops : (rest so_far got : List ℕ) (moves : Moves) → so_far ++ rest ≡ held → take piece rest ≡ got
          → ((rest so_far : List ℕ) → so_far ++ rest ≡ held → Runs (hashing (to_link t) (opened rest) so_far) moves r → AreAnswered tree moves → Stops (hashing (to_link (bare t)) (opened rest) so_far) moves)
          → Runs (after_read (to_link t) so_far (opened (drop piece rest), got)) moves r → AreAnswered tree moves → Stops (after_read (to_link (bare t)) so_far (opened (drop piece rest), got)) moves
      got_stops rest so_far [] moves all is deeper run answered =
          let none : length rest ≡ 0 = omega (arith, length-take piece rest, ap (λ (l : List ℕ). length l) is) in
          let whole : so_far ≡ held = sym (append-nil so_far) ∙ ap (λ l. so_far ++ l) (sym (nil_from_length rest none)) ∙ all in
          subst (λ b. Stops (link (commit_for (bare t) b) t.path) moves) (sym whole) (link_stops moves (subst (λ b. Runs (link (commit_for t b) t.path) moves r) whole run))
      got_stops rest so_far (c ∷ cs) moves all is deeper run answered =
          deeper (drop piece rest) (so_far ++ c ∷ cs)
          (append_assoc so_far (c ∷ cs) (drop piece rest) ∙ ap (λ l. so_far ++ (l ++ drop piece rest)) (sym is) ∙ ap (λ l. so_far ++ l) (take-append-drop piece rest) ∙ all) run answered

      hashing_stops : (rest so_far : List ℕ) (moves : Moves) → so_far ++ rest ≡ held → Runs (hashing (to_link t) (opened rest) so_far) moves r → AreAnswered tree moves
          → Stops (hashing (to_link (bare t)) (opened rest) so_far) moves
      hashing_stops rest so_far [] all (inl e) answered = absurd cc
      hashing_stops rest so_far [] all (inr e) answered = memory_stops (hashing (to_link (bare t)) (opened rest) so_far) e
      hashing_stops rest so_far ((step, a) ∷ moves) all run answered =
          let is : step ≡ steps.Read (opened rest) piece = cc in
          let read : apply tree step Plain ≡ (answers.Got (opened (drop piece rest)) (take piece rest), tree) = ap (λ x. apply tree x Plain) is ∙ reads tree rest in
          let told : a ≡ answers.Got (opened (drop piece rest)) (take piece rest) = answered.0 ∙ ap (λ (x : PlainAnswer × Tree). x.0) read in
          let same : (apply tree step Plain).1 ≡ tree = ap (λ (x : PlainAnswer × Tree). x.1) read in
          let next = got_stops rest so_far (take piece rest) moves all refl (λ more now. hashing_stops more now moves)
          (subst (λ x. Runs (after (hashing (to_link t) (opened rest) so_far) x) moves r) told run.2) (subst (λ x. AreAnswered x moves) same answered.1) in
          ((run.0, run.1, subst (λ x. Runs (after (hashing (to_link (bare t)) (opened rest) so_far) x) moves (replies.Refused OutOfMemory)) (sym told) next.0), next.1)

-- ---- on a store in memory

pub linkers_refuse : LinkersRefuse
linkers_refuse cache base l bytes rest first n r old new apart size differ o sound c =
    let t = link_target (record { cache = cache; base = base; number = 0 }) l in
    let held = bytes ++ rest in
    let plain : Link = record l { key = None; options = record l.options { size = None; integrity = None } } in
    let refused = compared_refused (commit_for t held) n size differ l.options.integrity in
    let stops = hashing_stops r t held refused (tree_of old) rest bytes c.ran.0 refl c.ran.1 (logs_lead old new c.ran.0 c.ran.2 c.logged).0 in
    let other : CommitsRest cache base plain bytes rest (replies.Refused OutOfMemory) old new = record { ran = (c.ran.0, stops.0, c.ran.2); plain = refl; logged = c.logged } in
    let left = linkers_commit cache base plain bytes rest first (replies.Refused OutOfMemory) old new (λ b small k is. absurd cc) apart (inl refl) tt o sound other in
    (left.0, left.1, left.2.beside, stops.1)
