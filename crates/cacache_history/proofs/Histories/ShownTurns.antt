-- Replies read the value at the places of their turns.
use Rattle.std.{proofs.{lemmas.Grind.{common_steps}, Common.{rules, ◌≡◌, ℕ, List, [], ◌∷◌, Option, Some, Result, Ok, Err, refl, sym, ap, subst, ◌∙◌, arith}}, specs.Prelude.{All}}
use Rattle.sha1.specs.Sha1.{sha1}
use Rattle.cacache_core.specs.{declared.{errors.Fault.{Fault}, integrity.digest.Hash.{Hash}}, Integrity.{IsHash, IsIntegrity}, Paths.{content_names, bucket_names_of}}
use Rattle.cacache_core.proofs.{JoinedNames.{joined_texts_name}, PathLemmas.{keys_have_digests}, ProperNames.{names_are_proper}}
use Rattle.cacache_store.specs.declared.store.step.Step.TheVariants as steps
use Rattle.cacache_store.specs.declared.store.answer.Answer.TheVariants as answers
use Rattle.cacache_store.specs.Plain.{PlainStep, PlainAnswer, Fits}
use Rattle.cacache_disk.specs.Apply.{apply}
use Rattle.cacache_entry.specs.{Entry.{Entry}, FittingEntries.{IsEntry}, Bucket.{Found}}
use Rattle.cacache_calls.specs.{declared.{answers.Refusal.{Refusal}, reply.Reply.{Reply}}, Answers.{bytes_in, there_in}, Replies.{given_by, by_bucket, OneStep, ReadsContentOnce, ReadsOn, BeginsWithBucket, bucket_shown, find_reply, content_reply, there_reply, lookup}, Steps.{bucket_path, content_path}, Runs.{Moves}, Walking.{items_in}}
use Rattle.cacache_value.{specs.{Kinds.{NamesBelow}, Acts.{list_of}, Shows.{ReadsShow, ShowsBucket, ShowsContent, ShowsThere}}, proofs.Shows.{trees_show}}
use Rattle.cacache_history.specs.{Setup.{Setup, home}, History.{Turn}, Turns.{made_in, entries_at, unless_failed, shown_result, as_refusal, bucket_read, content_read, there_read, by_entries}, TurnReplies.{OneTurn, FindsHeld, ReadsHeld, AsksHeld, ReadsNext, GetsHeld}}
use Rattle.cacache_history.proofs.{Entries.Spelled.{HasIntegrity, latest_has}, Histories.Holding.{TurnHolds, TurnsHold}}

-- ---- what answers show

bucket_is : (bucket : Option (List Entry)) (path : List ℕ) (a : PlainAnswer) → Fits (steps.ReadAll path) a → ShowsBucket bucket a → bucket_shown a ≡ shown_result a (Ok (list_of bucket))
bucket_is bucket path a fits h = grind (arith, common_steps)

content_is : (content : Result (List ℕ) Fault) (path : List ℕ) (a : PlainAnswer) → Fits (steps.ReadAll path) a → ShowsContent content a → bytes_in a ≡ shown_result a (as_refusal content)
content_is content path a fits h = grind (arith, common_steps)

there_is : (content : PlainAnswer) (path : List ℕ) (a : PlainAnswer) → Fits (steps.Exists path) a → ShowsThere content a → there_in a ≡ unless_failed a (there_in content)
there_is content path a fits h = grind (arith, common_steps)

-- ---- places

pub bucket_below : (s : Setup) (key : List ℕ) → NamesBelow (home s) (bucket_names_of (sha1 key)) (bucket_path s.cache key)
unfolding bucket_path
bucket_below s key = joined_texts_name s.cache (bucket_names_of (sha1 key)) (names_are_proper.buckets (sha1 key) (keys_have_digests key)) (omega arith)

pub content_below : (s : Setup) (h : Hash) (hs : List Hash) → IsHash h → NamesBelow (home s) (content_names h) (content_path s.cache (h ∷ hs))
unfolding content_path
content_below s h hs is = joined_texts_name s.cache (content_names h) (names_are_proper.contents h is) (omega arith)

module _ (s : Setup) (turn : Turn) (h : TurnHolds s turn) where
  pub shows : ReadsShow (home s) turn.place
  shows = trees_show (home s) turn.place h.placed h.rooted

  -- the step is this one, and so answers what the disk answers to it
  module _ (step : PlainStep) (is : turn.move.step ≡ step) where
    answer_is : turn.move.answer ≡ (apply turn.place step turn.move.luck).0
    answer_is = h.answered ∙ ap (λ x. (apply turn.place x turn.move.luck).0) is

    fits_is : Fits step turn.move.answer
    fits_is = subst (λ x. Fits x turn.move.answer) is h.fits

  pub bucket_at_turn : (path digest : List ℕ) → turn.move.step ≡ steps.ReadAll path → NamesBelow (home s) (bucket_names_of digest) path
      → bucket_shown turn.move.answer ≡ bucket_read s digest turn
  bucket_at_turn path digest is below = search (rules, bucket_is, fits_is, answer_is, shows)

  content_at_turn : (i : List Hash) → IsIntegrity i → turn.move.step ≡ steps.ReadAll (content_path s.cache i) → bytes_in turn.move.answer ≡ content_read s i turn
  content_at_turn i integrity is = grind (arith, content_is, fits_is, answer_is, shows, content_below)

  pub there_at : (a : Hash) (hs : List Hash) → IsHash a → turn.move.step ≡ steps.Exists (content_path s.cache (a ∷ hs)) → there_in turn.move.answer ≡ there_read s (a ∷ hs) turn
  there_at a hs hash is =
      let path = content_path s.cache (a ∷ hs) in
      there_is _ path turn.move.answer (fits_is (steps.Exists path) is)
      (subst (ShowsThere _) (sym (answer_is (steps.Exists path) is)) (shows.there a path turn.move.luck (content_below s a hs hash)))

  there_at_turn : (i : List Hash) → IsIntegrity i → turn.move.step ≡ steps.Exists (content_path s.cache i) → there_in turn.move.answer ≡ there_read s i turn
  there_at_turn i integrity is = grind (arith, there_at)

-- ---- turns and moves

no_turn : (turns : List Turn) → made_in turns ≡ [] → turns ≡ []
no_turn [] e = refl
no_turn (turn ∷ turns) e = absurd cc

-- the first of the moves is the first turn's
pub record FirstTurn (step : PlainStep) (t : PlainAnswer) (more : Moves) (turns : List Turn) : Type 0 where
  pub turn : Turn
  pub rest : List Turn
  pub all : turns ≡ turn ∷ rest
  pub step_is : turn.move.step ≡ step
  pub answer_is : turn.move.answer ≡ t
  pub rest_is : made_in rest ≡ more

pub first_turn : (step : PlainStep) (t : PlainAnswer) (more : Moves) (turns : List Turn) → made_in turns ≡ (step, t) ∷ more → FirstTurn step t more turns
first_turn step t more [] e = absurd cc
first_turn step t more (turn ∷ rest) e =
    let pair : ◌≡◌ {A = PlainStep × PlainAnswer} (turn.move.step, turn.move.answer) (step, t) = cc in
    record { turn = turn; rest = rest; all = refl; step_is = ap (λ m. m.0) pair; answer_is = ap (λ m. m.1) pair; rest_is = cc }

-- ---- replies

one_turn : (s : Setup) (step : PlainStep) (reply : PlainAnswer → Reply) (Q : Turn → Type 0) (turns : List Turn) (r : Reply) → TurnsHold s turns
    → ((turn : Turn) → TurnHolds s turn → turn.move.step ≡ step → r ≡ reply turn.move.answer → Q turn) → OneStep step reply (made_in turns) r → OneTurn step turns Q
one_turn s step reply Q turns r hold to one =
    let f = first_turn step one.0 [] turns one.1 in
    let only : turns ≡ f.turn ∷ [] = f.all ∙ ap (λ l. f.turn ∷ l) (no_turn f.rest f.rest_is) in
    (f.turn, only, f.step_is, to f.turn (subst (TurnsHold s) only hold).0 f.step_is (one.2 ∙ ap reply (sym f.answer_is)))

module _ (s : Setup) where
  pub finds : (key : List ℕ) (turns : List Turn) (r : Reply) → TurnsHold s turns
      → OneStep (steps.ReadAll (bucket_path s.cache key)) (λ t. find_reply key (bucket_shown t)) (made_in turns) r → FindsHeld s key turns r
  finds key turns r hold one =
      one_turn s (steps.ReadAll (bucket_path s.cache key)) (λ t. find_reply key (bucket_shown t)) (λ turn. r ≡ find_reply key (bucket_read s (sha1 key) turn)) turns r hold
      (λ turn h is e. e ∙ ap (find_reply key) (bucket_at_turn s turn h (bucket_path s.cache key) (sha1 key) is (bucket_below s key))) one

  pub reads : (i : List Hash) (turns : List Turn) (r : Reply) → IsIntegrity i → TurnsHold s turns → ReadsContentOnce s.cache i (made_in turns) r → ReadsHeld s i turns r
  reads i turns r integrity hold one =
      one_turn s (steps.ReadAll (content_path s.cache i)) (λ t. content_reply i (bytes_in t)) (λ turn. r ≡ content_reply i (content_read s i turn)) turns r hold
      (λ turn h is e. e ∙ ap (content_reply i) (content_at_turn s turn h i integrity is)) one

  pub asks : (i : List Hash) (turns : List Turn) (r : Reply) → IsIntegrity i → TurnsHold s turns
      → OneStep (steps.Exists (content_path s.cache i)) (λ t. there_reply (there_in t)) (made_in turns) r → AsksHeld s i turns r
  asks i turns r integrity hold one =
      one_turn s (steps.Exists (content_path s.cache i)) (λ t. there_reply (there_in t)) (λ turn. r ≡ there_reply (there_read s i turn)) turns r hold
      (λ turn h is e. e ∙ ap there_reply (there_at_turn s turn h i integrity is)) one

  -- what was found at a place where entries are well-formed has an integrity
  abbrev pub FoundHas : Result (Option Found) Refusal → Type 0
  FoundHas (Ok found) = HasIntegrity found
  FoundHas (Err refusal) = Unit {0}

  pub bucket_has : (key : List ℕ) (entries : List Entry) (a : PlainAnswer) → All IsEntry entries → FoundHas (lookup key (shown_result a (Ok entries)))
  bucket_has key entries a all = grind (arith, latest_has)

  reads_on : (key : List ℕ) (found : Result (Option Found) Refusal) (turns : List Turn) (r : Reply) → FoundHas found → TurnsHold s turns
      → ReadsOn s.cache key found (made_in turns) r → ReadsNext s key found turns r
  reads_on key (Ok (Some f)) turns r has hold h = reads f.integrity turns r has hold h
  reads_on key found turns r has hold h = (no_turn turns h.0, h.1)

  pub gets : (key : List ℕ) (turns : List Turn) (r : Reply) (t : PlainAnswer) (more : Moves) → TurnsHold s turns → BeginsWithBucket s.cache key t more (made_in turns)
      → ReadsOn s.cache key (lookup key (bucket_shown t)) more r → GetsHeld s key turns r
  gets key turns r t more hold begins on =
      let f = first_turn (steps.ReadAll (bucket_path s.cache key)) t more turns begins in
      let holds = subst (TurnsHold s) f.all hold in
      let same : bucket_shown t ≡ bucket_read s (sha1 key) f.turn
      = ap bucket_shown (sym f.answer_is) ∙ bucket_at_turn s f.turn holds.0 (bucket_path s.cache key) (sha1 key) f.step_is (bucket_below s key) in (
        f.turn,
        f.rest,
        f.all,
        f.step_is,
        reads_on key (lookup key (bucket_read s (sha1 key) f.turn)) f.rest r (bucket_has key (entries_at s (sha1 key) f.turn) f.turn.move.answer (holds.0.formed (sha1 key))) holds.1
            (subst (λ moves. ReadsOn s.cache key (lookup key (bucket_read s (sha1 key) f.turn)) moves r) (sym f.rest_is) (subst (λ b. ReadsOn s.cache key (lookup key b) more r) same on)),
      )

-- ---- listings

-- a turn that reads the file of a bucket lists what the bucket holds
abbrev pub ListsBucket : Setup → Turn → Type 0
ListsBucket s turn =
    (path digest : List ℕ) → turn.move.step ≡ steps.ReadAll path
    → NamesBelow (home s) (bucket_names_of digest) path
    → given_by turn.move.step turn.move.answer ≡ by_entries (bucket_read s digest turn)

items_is : (a : PlainAnswer) (r : Result (List Entry) Refusal) → bucket_shown a ≡ r → by_bucket (bytes_in a) ≡ by_entries r
unfolding items_in
items_is a r e = search rules

pub lists_bucket : (s : Setup) (turn : Turn) → TurnHolds s turn → ListsBucket s turn
lists_bucket s turn h path digest is below = search (rules, items_is, bucket_at_turn)
