-- A call that is made in parts holds at each of them, and answers as a whole call.
-- What goes through a handle itself counts as steps of its call.
use Rattle.std.proofs.{lemmas.{Grind.{common_steps}, Bool.{eq-eqb, cond-true}, List.{take_all}}, Common.{rules, ◌≡◌, inl, inr, ℕ, List, [], ◌∷◌, ◌++◌, None, Some, refl, sym, ap, subst, ◌∙◌, append-nil, append_assoc, ◌==◌, Option, length, take, drop, arith, eqb-true}, Math.Seq.{drop-length}}
use Rattle.std.specs.Prelude.{map}
use Rattle.cacache_core.specs.declared.errors.{Error.TheVariants.{OutOfMemory}, Fault.{Fault}}
use Rattle.cacache_store.specs.{declared.store.{log.LogItem.TheVariants.{Made}, plain.{PlainFile.{PlainFile}, PlainTemp.{PlainTemp}}}, Plain.{Fits}}
use Rattle.cacache_disk.specs.{declared.luck.Luck.TheVariants.{Plain, Take}, Tree.{Tree, bare}, Apply.{apply, given, grown, rest_of, opened}, Replay.{replay, IsReplayable, tree_of, IsLog}}
use Rattle.cacache_calls.specs.{declared.{command.Command.{Command}, reply.Reply.{Reply, TheVariants.{Refused}}}, Runs.{Moves, Runs, Goes, plain_reply}, State.{State, Hashing, hashing}, Table.{piece, after, opening}, Promises.{Faulted, Faults}, Common.{fails}, Storing.{persist, write_rest}}
use Rattle.cacache_calls.proofs.{EarnedErrors.{io_errors_have_causes}, Going.{goes_lost, cond_leads}}
use Rattle.cacache_value.{specs.{Placed.{LieApart}, Value.{value_of_tree}}, proofs.Traces.{traces_act}}
use Rattle.cacache_history.specs.{Setup.{Setup, call_site, home}, History.{Turn, turn_of}, Turns.{made_in, EachTurn}, Commits.{deeds}}
use Rattle.cacache_history.proofs.{Entries.Bucketed.{KeyedTurn}, Histories.{Holding.{CallHolds, TurnsHold, begins_hold, moved_holds}, Places.{memory_plain}, TurnReplies.{reads_value}}, Contents.Commits.{cases, plain_refused}, durable.CommitPlaces.{goes_runs}, Each.{each_join}}
use Rattle.cacache_laws.specs.{Sequence.{tree_on, turns_on, AreAnswered, plain_moves, IsSound}, InParts.{Part, made, took, byte_read, moves_in, turns_in, AreParts, Begun, with_part, IsOnItsWay, Changes, AnswersInParts, LogsLead, CallsBegin, PartsGoOn, LeftAreCases, PartsAnswer, ReadsAreParts, WritesAreParts}}
use Rattle.cacache_laws.proofs.{Readings.Looks.{found_before}, Calls.{Replays.{replay_more, replayable_rest, moves_lead, moves_answered}, Sequence.{alone, on_its_way, run_ends, turns_made, moves_after, RunHolds, run_holds, moves_follow, holds_alone, keeps_alone, sound_alone}}}
use Rattle.cacache_store.specs.declared.store.step.Step.TheVariants as steps
use Rattle.cacache_history.specs.History as histories
use Rattle.cacache_core.specs.declared.errors.Fault.TheVariants as faults
use Rattle.cacache_store.specs.declared.store.answer.Answer.TheVariants as answers

-- ---- the log

pub logs_lead : LogsLead
unfolding tree_of IsLog
logs_lead old new moves gains logged =
    let items = map (λ m. Made m.0 m.1) moves in
    let is : new ≡ old ++ map (λ m. Made m.0 m.1) moves = cc in
    let all : new ≡ old ++ (items ++ []) = is ∙ ap (λ l. old ++ l) (sym (append-nil (map (λ m. Made m.0 m.1) moves))) in (
      moves_answered (replay bare old) moves [] (replayable_rest bare old (items ++ []) (subst (IsReplayable bare) all logged)),
      ap (replay bare) is ∙ replay_more bare old items ∙ moves_lead (replay bare old) moves,
    )

-- ---- runs in two parts

-- what goes so far, and then on
pub goes_through : (s t u : State) (one two : Moves) → Goes s one t → Goes t two u → Goes s (one ++ two) u
goes_through s t u [] two g h = subst (λ x. Goes x two u) (sym g) h
goes_through s t u (m ∷ one) two g h = (g.0, g.1, goes_through (after s m.1) t u one two g.2 h)

-- where the first moves lead, and what the others do from there
goes_apart : (s u : State) (one two : Moves) → Goes s (one ++ two) u → (t : State) × Goes s one t × Goes t two u
goes_apart s u [] two g = (s, refl, g)
goes_apart s u (m ∷ one) two g = let rest = goes_apart (after s m.1) u one two g.2 in (rest.0, (g.0, g.1, rest.1), rest.2)

-- where a run leads
pub run_goes : (s : State) (moves : Moves) (r : Reply) → Runs s moves r → (u : State) × Goes s moves u
run_goes s [] r run = (s, refl)
run_goes s (m ∷ moves) r run = let rest = run_goes (after s m.1) moves r run.2 in (rest.0, (run.0, run.1, rest.1))

-- ---- parts

moves_more : (parts more : List Part) → moves_in (parts ++ more) ≡ moves_in parts ++ moves_in more
moves_more [] more = refl
moves_more (made t moves ∷ parts) more = ap (λ l. moves ++ l) (moves_more parts more) ∙ sym (append_assoc moves (moves_in parts) (moves_in more))
moves_more (took t file ∷ parts) more = ap (λ l. byte_read file ∷ l) (moves_more parts more)

-- with one part more
pub moves_then : (parts : List Part) (t : Tree) (moves : Moves) → moves_in (parts ++ made t moves ∷ []) ≡ moves_in parts ++ moves
moves_then parts t moves = moves_more parts (made t moves ∷ []) ∙ ap (λ l. moves_in parts ++ l) (append-nil moves)

parts_more : (s : Setup) (parts more : List Part) → AreParts s parts → AreParts s more → AreParts s (parts ++ more)
parts_more s [] more h k = k
parts_more s (made t moves ∷ parts) more h k = (h.0, h.1, parts_more s parts more h.2 k)
parts_more s (took t file ∷ parts) more h k = (h.0, parts_more s parts more h.1 k)

pub made_more : (xs ys : List Turn) → made_in (xs ++ ys) ≡ made_in xs ++ made_in ys
made_more [] ys = refl
made_more (turn ∷ xs) ys = ap (λ l. (turn.move.step, turn.move.answer) ∷ l) (made_more xs ys)

pub all_made : (parts : List Part) → made_in (turns_in parts) ≡ moves_in parts
all_made [] = refl
all_made (made t moves ∷ parts) = made_more (turns_on t moves) (turns_in parts) ∙ ap (λ l. l ++ made_in (turns_in parts)) (turns_made t moves) ∙ ap (λ l. moves ++ l) (all_made parts)
all_made (took t file ∷ parts) = ap (λ l. byte_read file ∷ l) (all_made parts)

turns_hold_rest : (s : Setup) (xs ys : List Turn) → TurnsHold s (xs ++ ys) → TurnsHold s ys
turns_hold_rest s [] ys h = h
turns_hold_rest s (turn ∷ xs) ys h = turns_hold_rest s xs ys h.1

pub byte_answered : (t : Tree) (file : PlainFile) → given file 1 file.bytes ≡ (apply t (steps.Read file piece) (Take 1)).0
unfolding apply
byte_answered t file = refl

-- ---- what holds of a call on its way

module _ (s : Setup) (apart : LieApart (home s) s.outside) (command : Command) (number : ℕ) where
  -- the call after these turns
  abbrev pub stands : List Turn → State → histories.Call
  stands turns state = record { command = command; number = number; turns = turns; state = state }

  way_is : (t : Tree) (moves : Moves) (turns : List Turn) (state next : State) → Goes state moves next → on_its_way t moves (stands turns state) ≡ stands (turns ++ turns_on t moves) next
  way_is t [] turns state next g = ap (stands turns) g ∙ ap (λ l. stands l next) (sym (append-nil turns))
  way_is t (m ∷ moves) turns state next g =
      way_is (apply t m.0 Plain).1 moves (turns ++ turn_of t Plain m ∷ []) (after state m.1) next g.2
      ∙ ap (λ l. stands l next) (append_assoc turns (turn_of t Plain m ∷ []) (turns_on (apply t m.0 Plain).1 moves))

  -- what a part keeps, and what holds after it
  part_holds : (t : Tree) (moves : Moves) (turns : List Turn) (state next : State) → IsSound (home s) t → AreAnswered t moves → CallHolds s (stands turns state) → Goes state moves next
      → RunHolds s t moves (stands turns state) × CallHolds s (stands (turns ++ turns_on t moves) next)
  part_holds t moves turns state next sound answered mine g =
      let h = run_holds s apart t moves (Refused OutOfMemory) (stands turns state) (holds_alone s t sound) (keeps_alone s t sound) mine (goes_lost state moves next g) answered in
      (h, subst (CallHolds s) (way_is t moves turns state next g) h.calls)

  parts_hold : (parts : List Part) (turns : List Turn) (state next : State) → AreParts s parts → CallHolds s (stands turns state) → Goes state (moves_in parts) next
      → CallHolds s (stands (turns ++ turns_in parts) next) × EachTurn (KeyedTurn s) (turns_in parts)
  parts_hold [] turns state next h mine g = search rules
  parts_hold (made t moves ∷ parts) turns state next h mine g =
      let a = goes_apart state next moves (moves_in parts) g in
      let one = part_holds t moves turns state a.0 h.0 h.1 mine a.1 in
      let more = parts_hold parts (turns ++ turns_on t moves) a.0 next h.2 one.1 a.2 in (
        subst (λ l. CallHolds s (stands l next)) (append_assoc turns (turns_on t moves) (turns_in parts)) more.0,
        each_join (KeyedTurn s) (turns_on t moves) (turns_in parts) one.0.keyed more.1,
      )
  parts_hold (took t file ∷ parts) turns state next h mine g =
      let m = byte_read file in
      let e = run_ends (after state m.1) (moves_in parts) (Refused OutOfMemory) (goes_lost (after state m.1) (moves_in parts) next g.2) in
      let one = moved_holds s (alone t) (holds_alone s t h.0) (Take 1) (Some m) e.0 (stands turns state) mine (g.0, byte_answered t file, g.1, e.1) in
      let more = parts_hold parts (turns ++ turn_of t (Take 1) m ∷ []) (after state m.1) next h.1 one g.2 in
      (subst (λ l. CallHolds s (stands l next)) (append_assoc turns (turn_of t (Take 1) m ∷ []) (turns_in parts)) more.0, (keeps_alone s t h.0, more.1))

  -- what a part does to the tree
  part_changes : (t : Tree) (moves : Moves) (turns : List Turn) (state next : State) → IsSound (home s) t → AreAnswered t moves → CallHolds s (stands turns state) → Goes state moves next
      → Changes s t moves
  part_changes t moves turns state next sound answered mine g =
      let h = part_holds t moves turns state next sound answered mine g in
      let hold = turns_hold_rest s turns (turns_on t moves) h.1.turns in
      let acts = ap (value_of_tree (home s)) (sym (moves_after t moves)) ∙ traces_act (home s) t (plain_moves moves) sound.placed h.0.trace in
      record {
        sound = sound_alone s (tree_on t moves) h.0.tree h.0.keeps;
        acts = acts;
        follows = moves_follow s apart t moves acts;
        found = λ a more is e. found_before s a is more t moves sound.placed h.0.trace hold e;
      }

-- ---- the laws

pub calls_begin : CallsBegin
calls_begin s command number may named = record { may = may; named = named; goes = refl; parts = tt }

-- with some parts more
pub with_parts : (s : Setup) (call : Begun) (state next : State) (more : List Part) → IsOnItsWay s call state → AreParts s more → Goes state (moves_in more) next
    → IsOnItsWay s (record call { parts = call.parts ++ more }) next
with_parts s call state next more way are g = search (rules, moves_more, goes_through, parts_more)

pub with_part_goes : (s : Setup) (call : Begun) (state next : State) (t : Tree) (moves : Moves) → IsOnItsWay s call state → IsSound (home s) t → Goes state moves next → AreAnswered t moves
    → IsOnItsWay s (with_part call t moves) next
with_part_goes s call state next t moves way sound g answered = search (rules, with_parts)

module _ (s : Setup) (apart : LieApart (home s) s.outside) (call : Begun) where
  pub way_holds : (state : State) → IsOnItsWay s call state
      → CallHolds s (stands s apart call.command call.number (turns_in call.parts) state) × EachTurn (KeyedTurn s) (turns_in call.parts)
  way_holds state way =
      parts_hold s apart call.command call.number call.parts [] (opening (call_site s call.number) call.command) state way.parts (begins_hold s call.number call.command way.may way.named) way.goes

  -- parts that are a run answer as a whole call
  run_answers : (state : State) (reply : Reply) → IsOnItsWay s call state → Runs (opening (call_site s call.number) call.command) (moves_in call.parts) (plain_reply reply) → AnswersInParts s call reply
  run_answers state reply way run =
      let h = way_holds state way in
      let turns = turns_in call.parts in
      let ran : Runs (opening (call_site s call.number) call.command) (made_in (turns_in call.parts)) (plain_reply reply)
      = subst (λ l. Runs (opening (call_site s call.number) call.command) l (plain_reply reply)) (sym (all_made call.parts)) run in
      record {
        reads = elim (reads_value s call.number call.command turns (plain_reply reply) way.named h.0.turns h.1 ran) [
          | inl e ↦ inl (memory_plain reply e)
          | inr reads ↦ inr reads
        ];
        commits = cases s call.number (Some reply) (plain_reply reply) (plain_refused reply) call.command turns way.may h.0.turns h.0.makes ran;
        causes = io_errors_have_causes (call_site s call.number) call.command (moves_in call.parts) (plain_reply reply) run;
      }

pub parts_go_on : PartsGoOn
parts_go_on s call state next t moves apart way sound g answered = (
  with_part_goes s call state next t moves way sound g answered,
  part_changes s apart call.command call.number t moves (turns_in call.parts) state next sound answered (way_holds s apart call state way).0 g,
)

pub parts_answer : PartsAnswer
parts_answer s call state t moves reply apart way sound run answered =
    let u = run_goes state moves (plain_reply reply) run in
    let on = parts_go_on s call state u.0 t moves apart way sound u.1 answered in
    let whole = subst (λ l. Runs (opening (call_site s call.number) call.command) l (plain_reply reply)) (sym (moves_then call.parts t moves))
    (goes_runs (opening (call_site s call.number) call.command) state (moves_in call.parts) moves (plain_reply reply) way.goes run) in
    (run_answers s apart (with_part call t moves) u.0 reply on.0 whole, on.1)

pub left_are_cases : LeftAreCases
left_are_cases s call state apart way =
    let h = (way_holds s apart call state way).0 in
    cases s call.number None (Refused OutOfMemory) (λ e. tt) call.command (turns_in call.parts) way.may h.turns h.makes
    (goes_lost (opening (call_site s call.number) call.command) (made_in (turns_in call.parts)) state h.goes)

-- ---- bytes that a writer handed to its file

abbrev temp : List ℕ → Option (List ℕ) → PlainTemp
temp path bytes = record { path = path; bytes = bytes }

same_file : (a b : PlainTemp) → a.path ≡ b.path → a.bytes ≡ b.bytes → a ≡ b
same_file a b path_is bytes_are = ap (λ p. temp p a.bytes) path_is ∙ ap (temp b.path) bytes_are

grown_is : (file full : PlainTemp) (bytes : List ℕ) → full.path ≡ file.path → full.bytes ≡ Some bytes
    → answers.Wrote full (length bytes) ≡ grown file bytes (length bytes) (Some [])
grown_is file full bytes path_is bytes_are =
    ap (λ f. answers.Wrote f (length bytes))
    (same_file full (temp file.path (Some (take (length bytes) bytes))) path_is (bytes_are ∙ ap Some (sym (take_all (length bytes) bytes (omega arith)))))

written : (t : Tree) (file full : PlainTemp) (bytes : List ℕ) → file.bytes ≡ Some [] → full.path ≡ file.path → full.bytes ≡ Some bytes
    → answers.Wrote full (length bytes) ≡ (apply t (steps.Write file bytes) Plain).0
unfolding apply
written t file full bytes empty path_is bytes_are = grown_is file full bytes path_is bytes_are ∙ ap (grown file bytes (length bytes)) (sym empty)

pub writing_keeps : (t : Tree) (file : PlainTemp) (bytes : List ℕ) → (apply t (steps.Write file bytes) Plain).1 ≡ t
unfolding apply
writing_keeps t file bytes = refl

some_faultless : (file full : PlainTemp) (b : ℕ) (bs : List ℕ) (fault : Fault) → Faulted ((steps.Write file (b ∷ bs), answers.Wrote full (length (b ∷ bs))) ∷ []) fault → ⊥
some_faultless file full b bs fault h = grind (arith, common_steps)

pub writes_are_parts : WritesAreParts
writes_are_parts s call c file full [] t way sound empty path_is bytes_are =
    let same = same_file file full (sym path_is) (empty ∙ sym bytes_are) in
    ([], with_part_goes s call (persist c file) (persist c full) t [] way sound (ap (persist c) same) tt, record { tree = refl; nothing = refl; faultless = λ fault no. no })
writes_are_parts s call c file full (b ∷ bs) t way sound empty path_is bytes_are =
    let bytes = b ∷ bs in
    let moves : Moves = (steps.Write file (b ∷ bs), answers.Wrote full (length (b ∷ bs))) ∷ [] in
    let goes : Goes (write_rest c file (b ∷ bs)) ((steps.Write file (b ∷ bs), answers.Wrote full (length (b ∷ bs))) ∷ []) (persist c full)
    = (
      refl,
      (omega arith, path_is),
      cond_leads (λ next. next ≡ persist c full) (length (b ∷ bs) == 0) (fails faults.WriteZero) (write_rest c full (drop (length bs) bs)) (λ none. absurd (omega (arith, eqb-true (length (b ∷ bs)) 0 none)))
          (λ some. ap (write_rest c full) (drop-length bs)),
    ) in (
      moves,
      with_part_goes s call (write_rest c file bytes) (persist c full) t moves way sound goes (written t file full bytes empty path_is bytes_are, tt),
      record { tree = writing_keeps t file bytes; nothing = refl; faultless = some_faultless file full b bs },
    )

-- ---- bytes that were read of an open file

abbrev pub file_of : ℕ → List ℕ → PlainFile
file_of left bytes = record { left = left; bytes = Some bytes }

byte_rest : (b : ℕ) (all : List ℕ) → rest_of (b ∷ all) 1 ≡ opened all
byte_rest b all = ap (λ n. file_of n all) (omega arith)

byte_given : (b : ℕ) (all : List ℕ) → given (opened (b ∷ all)) 1 (Some (b ∷ all)) ≡ answers.Got (opened all) (b ∷ [])
byte_given b all = search (rules, byte_rest)

-- reads of these bytes, one by one
abbrev reads_of : Tree → List ℕ → List ℕ → List Part
reads_of t [] rest = []
reads_of t (b ∷ more) rest = took t (opened (b ∷ (more ++ rest))) ∷ reads_of t more rest

module _ (h : Hashing) (t : Tree) where
  reads_go : (bytes more rest : List ℕ) → Goes (hashing h (opened (more ++ rest)) bytes) (moves_in (reads_of t more rest)) (hashing h (opened rest) (bytes ++ more))
  reads_go bytes [] rest = ap (hashing h (opened rest)) (sym (append-nil bytes))
  reads_go bytes (b ∷ more) rest =
      let all = b ∷ (more ++ rest) in
      let moves = moves_in (reads_of t more rest) in
      let last = hashing h (opened rest) (bytes ++ b ∷ more) in
      let next : Goes (hashing h (opened (more ++ rest)) (bytes ++ b ∷ [])) (moves_in (reads_of t more rest)) (hashing h (opened rest) (bytes ++ b ∷ more))
      = subst (λ l. Goes (hashing h (opened (more ++ rest)) (bytes ++ b ∷ [])) (moves_in (reads_of t more rest)) (hashing h (opened rest) l)) (append_assoc bytes (b ∷ []) more) (reads_go (bytes ++ b ∷ []) more rest) in
      let both = subst (λ a. Fits (steps.Read (opened all) piece) a × Goes (after (hashing h (opened all) bytes) a) moves last) (sym (byte_given b (more ++ rest))) ((omega arith, omega arith), next) in
      (refl, both.0, both.1)

  reads_sound : (s : Setup) (more rest : List ℕ) → IsSound (home s) t → AreParts s (reads_of t more rest)
  reads_sound s [] rest sound = tt
  reads_sound s (b ∷ more) rest sound = (sound, reads_sound s more rest sound)

  reads_do : (more rest : List ℕ) → deeds (turns_in (reads_of t more rest)) ≡ []
  reads_do [] rest = refl
  reads_do (b ∷ more) rest = reads_do more rest

  -- none of them failed
  reads_faultless : (more rest : List ℕ) (fault : Fault) → Faulted (moves_in (reads_of t more rest)) fault → ⊥
  reads_faultless [] rest fault h = h
  reads_faultless (b ∷ more) rest fault (inl h) = subst (λ a. Faults (steps.Read (opened (b ∷ (more ++ rest))) piece) a fault) (byte_given b (more ++ rest)) h
  reads_faultless (b ∷ more) rest fault (inr h) = reads_faultless more rest fault h

-- bytes that were read are parts, and none of these failed
pub bytes_taken : (s : Setup) (call : Begun) (h : Hashing) (bytes more rest : List ℕ) (t : Tree) → IsOnItsWay s call (hashing h (opened (more ++ rest)) bytes) → IsSound (home s) t
    → (reads : List Part) × IsOnItsWay s (record call { parts = call.parts ++ reads }) (hashing h (opened rest) (bytes ++ more)) × (deeds (turns_in reads) ≡ [])
    × ((fault : Fault) → Faulted (moves_in reads) fault → ⊥)
bytes_taken s call h bytes more rest t way sound = (
  reads_of t more rest,
  with_parts s call (hashing h (opened (more ++ rest)) bytes) (hashing h (opened rest) (bytes ++ more)) (reads_of t more rest) way (reads_sound h t s more rest sound) (reads_go h t bytes more rest),
  reads_do h t more rest,
  reads_faultless h t more rest,
)

pub reads_are_parts : ReadsAreParts
reads_are_parts s call h bytes more rest t way sound = let taken = bytes_taken s call h bytes more rest t way sound in (taken.0, taken.1, taken.2)
