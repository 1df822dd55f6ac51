-- What reads answer in any cache, whether the content is there or not, whole or damaged.
-- What is known of a cache stays while it holds the same, and a lookup finds what its key leads to.
-- A question whether a content is there is answered by what the cache has.
use Rattle.std.proofs.{Common.{arith, rules, ◌≡◌, inl, inr, ℕ, Bool, true, false, cond, List, [], Option, None, Some, Result, Ok, Err, refl, sym, ap, subst, ◌∙◌, ◌⊎◌, ◌∷◌}, lemmas.Grind.{common_steps}}
use Rattle.cacache_laws.specs.{Caches.{AStepFailed, Called, IsCache, IsExcused, setup_at, ReadsKey, lies_under}, Beside.{found_under}, Looks.{bytes_under, GivesHeld, GivesOfKey, SameStaysKnown, GivesFound}, ReadAnswers.{UnlessFailed, read_on, get_on}, CallErrors.{FailsOnly}, Sequence.{turns_on}}
use Rattle.cacache_laws.proofs.{Readings.{Known.{Known, known, excuse, answered}, Standing.{caches_stand, standing_reads}, ReadAnswers.{no_moves}}, Putting.Deeds.{stays_known}}
use Rattle.cacache_core.specs.{Integrity.{IsIntegrity, Meets, actual}, declared.{errors.{Error.{TheVariants.{EntryNotFound, IoError, IntegrityError, OutOfMemory}, Error}, Fault.{Fault}, IntegrityFault.TheVariants.{Check}}, integrity.digest.Hash.{Hash}}, Matching.{meets}, Paths.{home_of}}
use Rattle.cacache_core.proofs.Meeting.{meets_finds}
use Rattle.cacache_store.specs.{declared.store.log.LogItem.{LogItem}, Plain.{PlainStep, PlainAnswer}}
use Rattle.cacache_disk.specs.{Replay.{tree_of}, declared.luck.Luck.TheVariants.{Plain}, Tree.{Tree}, Apply.{apply}}
use Rattle.cacache_entry.specs.Bucket.{Found}
use Rattle.cacache_calls.specs.{declared.{command.Command.{Command}, reply.Reply.{Reply}}, Promises.{own_of, Faults, Faulted}, Replies.{content_reply, there_reply}, Runs.{plain_reply, Moves}, Answers.{there_in}}
use Rattle.cacache_history.specs.{Turns.{as_refusal, unless_failed, there_read}, History.{Turn, turn_of}, TurnReplies.{AsksHeld, ReadsValue}}
use Rattle.cacache_value.specs.{Shows.{blob_there}, Acts.{list_of}, Value.{Blob}}
use Rattle.cacache_calls.specs.declared.command.Command.TheVariants as commands
use Rattle.cacache_calls.specs.declared.reply.Reply.TheVariants as replies
use Rattle.cacache_store.specs.declared.store.answer.Answer.TheVariants as answers

-- ---- what is to be answered

module _ (i : List Hash) (held : Result (List ℕ) Fault) where
  -- the bytes that are held, or why they aren't answered
  data Answer : Reply → Type 0 where
    whole : (bytes : List ℕ) → held ≡ Ok bytes → Meets i bytes → Answer (replies.Read bytes)
    damaged : (bytes : List ℕ) → held ≡ Ok bytes → (Meets i bytes → ⊥) → Answer (replies.Refused (IntegrityError (Check i (actual i bytes))))
    missing : (fault : Fault) → Answer (replies.Refused (IoError fault []))

tested : (i : List Hash) (held : Result (List ℕ) Fault) (bytes : List ℕ) → held ≡ Ok bytes → (b : Bool) → meets i bytes ≡ b
    → Answer i held (cond b (replies.Read bytes) (replies.Refused (IntegrityError (Check i (actual i bytes)))))
tested i held bytes is true e = whole bytes is ((meets_finds i bytes).0 e)
tested i held bytes is false e = damaged bytes is (λ m. let no : true ≡ false = sym ((meets_finds i bytes).1 m) ∙ e in absurd cc)

to_answer : (i : List Hash) (held : Result (List ℕ) Fault) → Answer i held (content_reply i (as_refusal held))
to_answer i (Ok bytes) = tested i (Ok bytes) bytes refl (meets i bytes) refl
to_answer i (Err fault) = missing fault

-- ---- what is answered

module _ (cache base : List ℕ) (command : Command) (old new : List LogItem) (none : (fault : Fault) → own_of command fault → ⊥) where
  excused : (fault : Fault) (message : List ℕ) → Known cache base command (replies.Refused (IoError fault message)) old new → IsExcused (IoError fault message) old new
  excused fault message k = excuse cache base command old new none (IoError fault message) k tt

  gives_held : (i : List Hash) {expected : Reply} → Answer i (bytes_under cache i old) expected → (r : Reply) → Known cache base command r old new → UnlessFailed expected (plain_reply r) → GivesHeld cache i r old new
  gives_held i (whole bytes is met) (replies.Read b) k h = let same : b ≡ bytes = cc in (is ∙ ap Ok (sym same), subst (Meets i) (sym same) met)
  gives_held i a (replies.Refused OutOfMemory) k h = tt
  gives_held i a (replies.Refused (IoError fault message)) k h = excused fault message k
  gives_held i (damaged bytes is unmet) (replies.Refused (IntegrityError f)) k h = (bytes, is, unmet, cc)
  gives_held i other another k h = absurd cc

-- what a read by integrity answers, whatever the cache holds
pub content_reads_give : (cache : List ℕ) (i : List Hash) (r : Reply) (old new : List LogItem) → IsIntegrity i → IsCache cache old
    → Called cache (commands.GetHash i) r old new → GivesHeld cache i r old new
content_reads_give cache i r old new formed sound c =
    let command = commands.GetHash i in
    let k = known cache (commands.GetHash i) r old new c tt formed sound in
    let expected = read_on (home_of cache) (tree_of old) i in
    gives_held cache c.base command old new (λ fault none. none) i (to_answer i (bytes_under cache i old)) r k (answered cache c.base command expected r old new k refl)

module _ (cache base key : List ℕ) (old new : List LogItem) where
  -- of a key that leads to nothing
  gives_none : found_under cache key old ≡ None → (r : Reply) → Known cache base (commands.Get key) r old new → UnlessFailed (replies.Refused (EntryNotFound cache key)) (plain_reply r)
      → GivesOfKey cache key r old new
  gives_none lacks r k h = grind (arith, excused)

  -- of one that leads to an entry
  gives_led : (found : Found) → found_under cache key old ≡ Some found → (r : Reply) → Known cache base (commands.Get key) r old new → GivesHeld cache found.integrity r old new → GivesOfKey cache key r old new
  gives_led found finds r k h = grind (arith, common_steps)

  gives_of_key : (o : Option Found) → found_under cache key old ≡ o → (r : Reply) → Known cache base (commands.Get key) r old new → UnlessFailed (get_on (setup_at cache base) (tree_of old) key o) (plain_reply r)
      → GivesOfKey cache key r old new
  gives_of_key None finds r k h = gives_none finds r k h
  gives_of_key (Some found) finds r k h = search (rules, gives_led, gives_held, to_answer)

-- what a read by key answers
pub key_reads_give : (cache key : List ℕ) (r : Reply) (old new : List LogItem) → IsCache cache old
    → Called cache (commands.Get key) r old new → GivesOfKey cache key r old new
key_reads_give cache key r old new sound c =
    let k = known cache (commands.Get key) r old new c tt tt sound in
    let expected = get_on (setup_at cache c.base) (tree_of old) key (found_under cache key old) in
    gives_of_key cache c.base key old new (found_under cache key old) refl r k (answered cache c.base (commands.Get key) expected r old new k refl)

-- ---- what is known to be there, or not to be

pub reads_key : ReadsKey
reads_key cache key bytes i r old new sound has c =
    ((known cache (commands.Get key) r old new c tt tt sound).sound, standing_reads cache key bytes i r old new (caches_stand cache old sound) has c)

pub same_stays_known : SameStaysKnown
same_stays_known cache old new same = stays_known cache old new (record { contents = λ a. ap (λ v. v.contents a) same; lists = λ d. ap (λ v. list_of (v.buckets d)) same })

fails_for : (there : Option Found) (e : Error) → UnlessFailed (replies.LookedUp there) (plain_reply (replies.Refused e)) → FailsOnly (replies.Refused e)
fails_for there e h = grind (arith, common_steps)

gives_found : (cache base key : List ℕ) (there : Option Found) (old new : List LogItem) (r : Reply) → Known cache base (commands.Find key) r old new
    → UnlessFailed (replies.LookedUp there) (plain_reply r) → GivesFound there r old new
gives_found cache base key there old new r k h = grind (arith, excuse, fails_for)

-- a lookup finds what the key leads to, or nothing if the key leads to nothing
pub finds_found : (cache key : List ℕ) (r : Reply) (old new : List LogItem) → IsCache cache old → Called cache (commands.Find key) r old new
    → GivesFound (found_under cache key old) r old new
finds_found cache key r old new sound c =
    let k = known cache (commands.Find key) r old new c tt tt sound in
    let expected = replies.LookedUp (found_under cache key old) in
    gives_found cache c.base key (found_under cache key old) old new r k (answered cache c.base (commands.Find key) expected r old new k refl)

-- the one step of a question, and the reply by its answer
record Asked (t : Tree) (blob : Option Blob) (moves : Moves) (r : Reply) : Type 0 where
  pub move : PlainStep × PlainAnswer
  pub only : moves ≡ move ∷ []
  pub reply : r ≡ there_reply (unless_failed move.1 (there_in (blob_there t blob)))

module _ (cache base : List ℕ) (i : List Hash) (blob : Option Blob) (old : List LogItem) (lies : lies_under cache i old ≡ blob) where
  asked : (moves : Moves) (r : Reply) → AsksHeld (setup_at cache base) i (turns_on (tree_of old) moves) r → Asked (tree_of old) blob moves r
  asked [] r h = absurd cc
  asked (m ∷ moves) r h =
      let t = tree_of old in
      let first : turn_of (tree_of old) Plain m ≡ h.0 = cc in
      let none : turns_on (apply (tree_of old) m.0 Plain).1 moves ≡ [] = cc in
      let no_more = no_moves (setup_at cache base) r (apply t m.0 Plain).1 moves none in
      record {
        move = m;
        only = ap (λ more. m ∷ more) no_more;
        reply =
            h.3
            ∙ ap (λ (turn : Turn). there_reply (there_read (setup_at cache base) i turn)) (sym first)
            ∙ ap (λ blob. there_reply (unless_failed m.1 (there_in (blob_there (tree_of old) blob)))) lies;
      }

  -- a call that asked did so, unless it ended out of memory
  call_asked : (r : Reply) (new : List LogItem) (k : Known cache base (commands.Exists i) r old new) → (r ≡ replies.Refused OutOfMemory) ⊎ Asked (tree_of old) blob k.call.moves (plain_reply r)
  call_asked r new k =
      let reads : (k.call.reply ≡ replies.Refused OutOfMemory) ⊎ ReadsValue (setup_at cache base) (commands.Exists i) (turns_on (tree_of old) k.call.moves) (plain_reply k.call.reply)
      = subst (λ (x : Command). (k.call.reply ≡ replies.Refused OutOfMemory) ⊎ ReadsValue (setup_at cache base) x (turns_on (tree_of old) k.call.moves) (plain_reply k.call.reply)) k.command_is k.answers.reads in
      elim reads [
        | inl e ↦ inl (sym k.reply_is ∙ e)
        | inr h ↦ inr (asked k.call.moves (plain_reply r) (subst (λ x. AsksHeld (setup_at cache base) i (turns_on (tree_of old) k.call.moves) (plain_reply x)) k.reply_is h))
      ]

-- a no about a content that is there comes from a failed step, and an error from want of memory
abbrev pub Says : Bool → Type 0 → Reply → Type 0
Says held Failed (replies.Exists there) = (there ≡ held) ⊎ ((there ≡ false) × Failed)
Says held Failed (replies.Refused e) = e ≡ OutOfMemory
Says held Failed r = ⊥

says_by : (held : Bool) (Failed : Type 0) (step : PlainStep) (a : PlainAnswer) → ((fault : Fault) → Faults step a fault → Failed)
    → Says held Failed (there_reply (unless_failed a (Ok held)))
says_by held Failed step (answers.Failed fault) fails = inr (refl, fails fault refl)
says_by held Failed step a fails = grind (arith, common_steps)

plainly_said : (held : Bool) (Failed : Type 0) (r : Reply) → Says held Failed (plain_reply r) → Says held Failed r
plainly_said held Failed r h = grind (arith, common_steps)

-- what a question answers, by whether something is there
pub asks_held : (held : Bool) (cache : List ℕ) (i : List Hash) (blob : Option Blob) (r : Reply) (old new : List LogItem) → IsCache cache old
    → IsIntegrity i → lies_under cache i old ≡ blob → there_in (blob_there (tree_of old) blob) ≡ Ok held
    → Called cache (commands.Exists i) r old new → Says held (AStepFailed old new) r
asks_held held cache i blob r old new sound formed lies there c =
    let k = known cache (commands.Exists i) r old new c tt formed sound in
    elim (call_asked cache c.base i blob old lies r new k) [
      | inl e ↦ subst (Says held (AStepFailed old new)) (sym e) refl
      | inr a ↦
          let reply = a.reply ∙ ap (λ x. there_reply (unless_failed a.move.1 x)) there in
          plainly_said held (AStepFailed old new) r
          (subst (Says held (AStepFailed old new)) (sym reply)
          (says_by held (AStepFailed old new) a.move.0 a.move.1 (λ fault f. (k.call.moves, k.gained, fault, subst (λ moves. Faulted moves fault) (sym a.only) (inl f)))))
    ]
