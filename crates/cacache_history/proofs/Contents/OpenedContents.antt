-- A content that was opened and read to its end gave the bytes that the cache held then, and so did a checked export.
use Rattle.std.proofs.{lemmas.{Grind.{common_steps}, List.Elements.{All-head}}, Common.{◌≡◌, ◌==◌, ◌<◌, ℕ, Bool, true, false, cond, List, ◌∷◌, ◌++◌, Option, Some, length, take, drop, take-append-drop, refl, sym, ap, subst, ◌∙◌, arith, Result, Ok}}
use Rattle.std.specs.Prelude.{max, []}
use Rattle.cacache_store.specs.{declared.store.plain.PlainFile.{PlainFile}, Plain.{PlainStep, PlainAnswer}}
use Rattle.cacache_disk.specs.{declared.luck.Luck.{Luck}, Tree.{Tree}, Apply.{apply, given, readable, rest_of}}
use Rattle.cacache_calls.specs.{State.{State, Errand}, declared.{visit.Visit.{Visit}, answers.Refusal.{Refusal}, reply.Reply.{Reply}, command.Source.{Source}}, Common.{errand_step}, Runs.{Moves, Runs}, Table.{piece, wants, after}, Verifying.{Gives, Verifies, VerifiesContent}, Walking.{visit_step}, Steps.{bucket_path, content_path}, Replies.{bucket_shown, lookup}}
use Rattle.cacache_calls.proofs.Sound.{some_is}
use Rattle.cacache_value.{proofs.Shows.{apply_answer}, specs.Shows.{ShowsContent, blob_bytes}}
use Rattle.sha1.specs.Sha1.{sha1}
use Rattle.cacache_core.specs.{declared.{errors.Fault.{Fault}, integrity.digest.Hash.{Hash}}, Integrity.{IsHash, IsIntegrity}}
use Rattle.cacache_entry.specs.Bucket.{Found}
use Rattle.cacache_history.specs.{Setup.{Setup}, History.{Turn, NamesSource}, Turns.{made_in, entries_at, bucket_read, content_at}, TurnReplies.{VerifiesHeld, ExportsHeld}}
use Rattle.cacache_history.proofs.Histories.{Holding.{TurnHolds, TurnsHold}, ShownTurns.{bucket_below, content_below, shows, bucket_at_turn, first_turn, FoundHas, bucket_has}}
use Rattle.cacache_core.specs.declared.errors.Fault.TheVariants as faults
use Rattle.cacache_store.specs.declared.store.step.Step.TheVariants as steps
use Rattle.cacache_store.specs.declared.store.answer.Answer.TheVariants as answers
use Rattle.cacache_calls.specs.declared.command.Source.TheVariants as sources

-- ---- each read asks for a whole piece

abbrev pub AsksPiece : PlainStep → Type 0
AsksPiece (steps.Read file max) = max ≡ piece
AsksPiece step = Unit {0}

errand_asks : (errand : Errand) → AsksPiece (errand_step errand)
errand_asks errand = grind (arith, common_steps)

visit_asks : (v : Visit) → AsksPiece (visit_step v)
visit_asks v = grind (arith, common_steps)

state_asks : (s : State) (step : PlainStep) → wants s ≡ Some step → AsksPiece step
state_asks s step w = grind (arith, some_is, errand_asks, visit_asks)

abbrev pub EachAsks : Moves → Type 0
EachAsks [] = Unit {0}
EachAsks (m ∷ moves) = AsksPiece m.0 × EachAsks moves

pub run_asks : (s : State) (moves : Moves) (r : _) → Runs s moves r → EachAsks moves
run_asks s [] r run = tt
run_asks s (m ∷ moves) r run = (state_asks s m.0 run.0, run_asks (after s m.1) moves r run.2)

-- ---- one read

-- the answer gives the first of these bytes, at least one if there are any, and a file of the rest
abbrev pub GivesNext : List ℕ → PlainAnswer → Type 0
GivesNext all (answers.Got file bytes) = (rest : List ℕ) × (file.bytes ≡ Some rest) × (bytes ++ rest ≡ all) × (bytes ≡ [] → all ≡ [])
GivesNext all a = Unit {0}

pub no_first : (size : ℕ) (all : List ℕ) → 0 < size → take size all ≡ [] → all ≡ []
no_first size all lt e = grind (arith, common_steps)

given_next : (file : PlainFile) (size : ℕ) (all : List ℕ) → 0 < size → GivesNext all (given file size (Some all))
given_next file size all lt = by (file.left == length all)
  where
    by : (b : Bool) → GivesNext all (cond b (answers.Got (rest_of all size) (take size all)) (answers.Failed faults.Closed))
    by true = (drop size all, refl, take-append-drop size all, no_first size all lt)
    by false = tt

pub some_readable : (most : Option ℕ) (size : ℕ) → 0 < size → 0 < readable most size
some_readable most size lt = grind (arith, common_steps)

next_given : (t : Tree) (file : PlainFile) (size : ℕ) (luck : Luck) (all : List ℕ) → file.bytes ≡ Some all → 0 < size → GivesNext all (apply t (steps.Read file size) luck).0
next_given t file size luck all e lt =
    apply_answer (GivesNext all) (λ fault. tt) t (steps.Read file size) luck
    (λ most. subst (λ known. GivesNext all (given file (readable most size) known)) (sym e) (given_next file (readable most size) all (some_readable most size lt)))

-- ---- reads to the end

-- moves with the answers that a disk gave
abbrev pub OnDisks : Moves → Type 0
OnDisks [] = Unit {0}
OnDisks (m ∷ moves) = ((t : Tree) × (luck : Luck) × (m.1 ≡ (apply t m.0 luck).0)) × OnDisks moves

pub gives_all : (file : PlainFile) (bytes all : List ℕ) (moves : Moves) → file.bytes ≡ Some all → OnDisks moves → EachAsks moves → Gives file bytes moves → bytes ≡ all
gives_all file bytes all ((steps.Read f max, answers.Got g []) ∷ moves) e disks asks h =
    let n : GivesNext all (answers.Got g [])
    = subst (GivesNext all) (sym disks.0.2) (next_given disks.0.0 f max disks.0.1 all (ap (λ x. x.bytes) h.0 ∙ e) (subst (λ k. 0 < k) (sym asks.0) (omega arith))) in
    h.1 ∙ sym (n.3 refl)
gives_all file bytes all ((steps.Read f max, answers.Got g (b ∷ bs)) ∷ moves) e disks asks h =
    let n : GivesNext all (answers.Got g (b ∷ bs))
    = subst (GivesNext all) (sym disks.0.2) (next_given disks.0.0 f max disks.0.1 all (ap (λ x. x.bytes) h.0 ∙ e) (subst (λ k. 0 < k) (sym asks.0) (omega arith))) in
    h.2 ∙ ap (λ l. (b ∷ bs) ++ l) (gives_all g h.1 n.0 moves n.1 disks.1 asks.1 h.3) ∙ n.2
gives_all file bytes all moves e disks asks h = absurd h

-- ---- checked exports verified what the cache held when they opened it

found_integrity : (s : Setup) (found : Found) (r : Result (Option Found) Refusal) → r ≡ Ok (Some found) → FoundHas s r → IsIntegrity found.integrity
found_integrity s found r e h = let same : FoundHas s (Ok (Some found)) = subst (FoundHas s) e h in same

pub on_disks : (s : Setup) (turns : List Turn) → TurnsHold s turns → OnDisks (made_in turns)
on_disks s [] hold = tt
on_disks s (turn ∷ turns) hold = ((turn.place, turn.move.luck, hold.0.answered), on_disks s turns hold.1)

opened_bytes : (content : Result (List ℕ) Fault) (file : PlainFile) (a : PlainAnswer) → a ≡ answers.File file → ShowsContent content a → (all : List ℕ) × (content ≡ Ok all) × (file.bytes ≡ Some all)
opened_bytes content file a e h = subst (ShowsContent content) e h

-- the content that a turn opened
opened_content : (s : Setup) (turn : Turn) → TurnHolds s turn → (i : List Hash) (file : PlainFile) → IsIntegrity i → turn.move.step ≡ steps.Open (content_path s.cache i)
    → turn.move.answer ≡ answers.File file → (all : List ℕ) × (blob_bytes turn.place (content_at s i turn) ≡ Ok all) × (file.bytes ≡ Some all)
opened_content s turn h [] file integrity is answer = absurd (omega (arith, integrity.nonempty))
opened_content s turn h (a ∷ hs) file integrity is answer =
    let path = content_path s.cache (a ∷ hs) in
    opened_bytes (blob_bytes turn.place (content_at s (a ∷ hs) turn)) file turn.move.answer answer
    (subst (ShowsContent _) (sym (h.answered ∙ ap (λ x. (apply turn.place x turn.move.luck).0) is))
    ((shows s turn h).opened a path turn.move.luck (content_below s a hs (All-head IsHash a hs integrity.hashes))))

verifies : (s : Setup) (i : List Hash) (turns : List Turn) (r : Reply) → IsIntegrity i → TurnsHold s turns → EachAsks (made_in turns) → VerifiesContent s.cache i (made_in turns) r → VerifiesHeld s i turns r
verifies s i turns r integrity hold asks v =
    let f = first_turn (steps.Open (content_path s.cache i)) (answers.File v.0) v.2 turns v.3 in
    let holds = subst (TurnsHold s) f.all hold in
    let opened = opened_content s f.turn holds.0 i v.0 integrity f.step_is f.answer_is in
    let same : v.1 ≡ opened.0
    = gives_all v.0 v.1 opened.0 v.2 opened.2 (subst OnDisks f.rest_is (on_disks s f.rest holds.1)) (subst EachAsks v.3 asks).1 v.4 in
    (f.turn, f.rest, f.all, f.step_is, v.1, opened.1 ∙ ap Ok (sym same), v.5.0, v.5.1)

pub exports : (s : Setup) (source : Source) (turns : List Turn) (r : Reply) → NamesSource source → TurnsHold s turns → EachAsks (made_in turns) → Verifies s.cache source (made_in turns) r → ExportsHeld s source turns r
exports s (sources.Hash i) turns r named hold asks v = verifies s i turns r named hold asks v
exports s (sources.Key key) turns r named hold asks v =
    let f = first_turn (steps.ReadAll (bucket_path s.cache key)) v.0 v.1 turns v.2 in
    let holds = subst (TurnsHold s) f.all hold in
    let same : bucket_shown v.0 ≡ bucket_read s (sha1 key) f.turn
    = ap bucket_shown (sym f.answer_is) ∙ bucket_at_turn s f.turn holds.0 (bucket_path s.cache key) (sha1 key) f.step_is (bucket_below s key) in
    let found : lookup key (bucket_read s (sha1 key) f.turn) ≡ Ok (Some v.3) = ap (lookup key) (sym same) ∙ v.4 in
    let integrity : IsIntegrity v.3.integrity
    = found_integrity s v.3 _ found (bucket_has s key (entries_at s (sha1 key) f.turn) f.turn.move.answer (holds.0.formed (sha1 key))) in (
      f.turn,
      f.rest,
      f.all,
      f.step_is,
      v.3,
      found,
      verifies s v.3.integrity f.rest r integrity holds.1 (subst EachAsks (sym f.rest_is) (subst EachAsks v.2 asks).1)
          (subst (λ moves. VerifiesContent s.cache v.3.integrity moves r) (sym f.rest_is) v.5),
    )
