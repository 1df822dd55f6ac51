-- Reads and lookups if each thing is where it may be, whatever the bytes of contents and buckets.
use Rattle.std.proofs.{lemmas.{Grind.{common_steps}, List.Elements.{All-head}}, Common.{rules, ◌≡◌, ◌⊎◌, inl, inr, ℕ, Bool, true, false, cond, List, [], ◌∷◌, ◌++◌, Option, None, Some, Result, Ok, Err, map, option_map, refl, sym, ap, subst, ◌∙◌, arith}}
use Rattle.sha1.specs.Sha1.{sha1}
use Rattle.cacache_core.specs.{declared.{errors.{Error.TheVariants.{IntegrityError, IoError, OutOfMemory}, IntegrityFault.TheVariants.{Check}, Fault.{Fault}}, integrity.digest.Hash.{Hash}}, Integrity.{IsHash, IsIntegrity, Meets, actual, address}, Matching.{meets}, Paths.{home_of}}
use Rattle.cacache_core.proofs.Meeting.{meets_finds}
use Rattle.cacache_core.specs.declared.errors.Fault.TheVariants as faults
use Rattle.cacache_store.specs.declared.store.answer.Answer.TheVariants as answers
use Rattle.cacache_store.specs.{declared.store.log.LogItem.{LogItem, TheVariants.{Made}}, Plain.{PlainAnswer}}
use Rattle.cacache_store.specs.declared.store.step.Step.TheVariants as steps
use Rattle.cacache_disk.specs.{declared.luck.Luck.TheVariants.{Plain}, Apply.{apply}, Tree.{Rooted, Tree}, Replay.{tree_of}}
use Rattle.cacache_entry.specs.{Entry.{Entry}, Bucket.{Found, latest}}
use Rattle.cacache_calls.specs.{declared.{answers.Refusal.{Refusal}, command.Command.{Command}, reply.Reply.{Reply}}, Answers.{bytes_in, refusal_in}, Promises.{HasCause, own_of}, Replies.{ReadsOn, bucket_shown, content_reply, find_reply, lookup, refusal_reply}, Runs.{Moves}, State.{Site}, Steps.{bucket_path, content_path}}
use Rattle.cacache_calls.proofs.{EarnedErrors.{io_errors_have_causes}, Replies.{finds_shown, gets_shown}}
use Rattle.cacache_calls.specs.declared.answers.Refusal.TheVariants as refusals
use Rattle.cacache_calls.specs.declared.command.Command.TheVariants as commands
use Rattle.cacache_calls.specs.declared.reply.Reply.TheVariants as replies
use Rattle.cacache_value.specs.{Acts.{list_of}, Placed.{Placed}, Shows.{ReadsShow, ShowsBucket, ShowsContent, blob_bytes}, Value.{Value, value_of_tree}}
use Rattle.cacache_value.proofs.Shows.{trees_show}
use Rattle.cacache_history.{specs.Turns.{blob_at}, proofs.Histories.ShownTurns.{bucket_below, content_below}}
use Rattle.cacache_laws.specs.{Caches.{HasKey, Called, GivesBytes, IsExcused, setup_at}, Inserts.{leads_to}, Beside.{found_under}, Looks.{GivesFound, bytes_under}, Sequence.{AreAnswered}, Standing.{IsStanding, CachesStand, LooksLeaveStanding, StandingFinds, StandingReads}}
use Rattle.cacache_laws.proofs.{Calls.{InParts.{logs_lead}, Replays.{some_same}}, Readings.{Known.{excused_by, key_stays}, Looks.{looks_keep, tree_stays}, ReadAnswers.{reading_keeps}}}

pub caches_stand : CachesStand
caches_stand cache log sound = record { placed = sound.placed; rooted = sound.rooted }

pub looks_leave_standing : LooksLeaveStanding
looks_leave_standing cache command r old new looks c standing =
    let same = sym (tree_stays cache command r old new looks c) in
    record { placed = subst (Placed (home_of cache)) same standing.placed; rooted = subst Rooted same standing.rooted }

-- ---- what answers show

-- a lookup in what the answer shows finds what one in the bucket does, or the step was refused
pub found_shown : (key : List ℕ) (bucket : Option (List Entry)) (a : PlainAnswer) → ShowsBucket bucket a
    → (lookup key (bucket_shown a) ≡ Ok (latest key (list_of bucket))) ⊎ ((refusal : Refusal) × (lookup key (bucket_shown a) ≡ Err refusal))
found_shown key bucket a is = grind (arith, common_steps)

-- the same holds of a content's bytes
bytes_shown : (bytes : List ℕ) (content : Result (List ℕ) Fault) (a : PlainAnswer) → content ≡ Ok bytes → ShowsContent content a
    → (bytes_in a ≡ Ok bytes) ⊎ ((refusal : Refusal) × (bytes_in a ≡ Err refusal))
bytes_shown bytes content (answers.Bytes b) held is =
    let both : ◌≡◌ {A = Result (List ℕ) Fault} (Ok b) (Ok bytes) = sym is ∙ held in
    let same : b ≡ bytes = cc in
    inl (ap Ok same)
bytes_shown bytes content a held is = inr (refusal_in a, refl)

pub met_reply : (i : List Hash) (bytes : List ℕ) → Meets i bytes → content_reply i (Ok bytes) ≡ replies.Read bytes
met_reply i bytes met = search (rules, meets_finds)

found_reply : (key : List ℕ) (b : Result (List Entry) Refusal) (found : Option Found) → lookup key b ≡ Ok found → find_reply key b ≡ replies.LookedUp found
found_reply key b found e = grind (arith, common_steps)

refused_reply : (key : List ℕ) (b : Result (List Entry) Refusal) (refusal : Refusal) → lookup key b ≡ Err refusal → find_reply key b ≡ refusal_reply refusal
refused_reply key b refusal e = grind (arith, common_steps)

-- ---- a call if each thing is where it may be

module _ (cache : List ℕ) (command : Command) (r : Reply) (old new : List LogItem) (none : (fault : Fault) → own_of command fault → ⊥) (standing : IsStanding cache old) (c : Called cache command r old new) where
  abbrev site : Site
  site = record { cache = cache; base = c.base; number = c.number }

  abbrev t : Tree
  t = tree_of old

  abbrev held : Value
  held = value_of_tree (home_of cache) t

  shows : ReadsShow (home_of cache) t
  shows = trees_show (home_of cache) t standing.placed standing.rooted

  answered : AreAnswered t c.ran.0
  answered = (logs_lead old new c.ran.0 c.ran.2 c.logged).0

  -- a refused step excuses the error
  refused : (refusal : Refusal) → r ≡ refusal_reply refusal → (P : Reply → Type 0) → ((fault : Fault) → IsExcused (IoError fault []) old new → P (replies.Refused (IoError fault []))) → P (replies.Refused OutOfMemory) → P r
  refused (refusals.Fault fault) e P io memory =
      let cause = subst (HasCause (own_of command) c.ran.0) e (io_errors_have_causes site command c.ran.0 r c.ran.1) in
      subst P (sym e) (io fault (excused_by (own_of command) old new c.ran.0 none (some_same new (old ++ map (λ m. Made m.0 m.1) c.ran.0) c.ran.2) (IoError fault []) cause tt))
  refused refusals.Memory e P io memory = subst P (sym e) memory

  -- the first step read the key's bucket
  bucket_answer : (key : List ℕ) (a : PlainAnswer) (more : Moves) → c.ran.0 ≡ (steps.ReadAll (bucket_path cache key), a) ∷ more → ShowsBucket (held.buckets (sha1 key)) a × AreAnswered t more
  bucket_answer key a more is =
      let path = bucket_path cache key in
      let both : AreAnswered t ((steps.ReadAll (bucket_path cache key), a) ∷ more) = subst (AreAnswered t) is answered in (
        subst (ShowsBucket (held.buckets (sha1 key))) (sym both.0) (shows.bucket (sha1 key) path Plain (bucket_below (setup_at cache []) key)),
        subst (λ x. AreAnswered x more) (reading_keeps t path) both.1,
      )

  -- a step that read the content at the place of these bytes
  content_answer : (i : List Hash) (bytes : List ℕ) (a : PlainAnswer) → IsIntegrity i → blob_bytes t (blob_at held (address i)) ≡ Ok bytes → a ≡ (apply t (steps.ReadAll (content_path cache i)) Plain).0
      → (bytes_in a ≡ Ok bytes) ⊎ ((refusal : Refusal) × (bytes_in a ≡ Err refusal))
  content_answer [] bytes a formed lies is = absurd (omega (arith, formed.nonempty))
  content_answer (h ∷ hs) bytes a formed lies is =
      bytes_shown bytes (blob_bytes t (held.contents h)) a lies
      (subst (ShowsContent (blob_bytes t (held.contents h))) (sym is)
      (shows.content h (content_path cache (h ∷ hs)) Plain (content_below (setup_at cache []) h hs (All-head IsHash h hs formed.hashes))))

-- ---- lookups

pub standing_finds : StandingFinds
standing_finds cache key r old new standing c =
    elim (finds_shown (site cache (commands.Find key) r old new (λ fault own. own) standing c) key c.ran.0 r c.ran.1) [
      | inl memory ↦ subst (λ x. GivesFound (found_under cache key old) x old new) (sym memory) (inl refl)
      | inr one ↦
          let shown = bucket_answer cache (commands.Find key) r old new (λ fault own. own) standing c key one.0 [] one.1 in
          elim (found_shown key _ one.0 shown.0) [
            | inl is ↦ subst (λ x. GivesFound (found_under cache key old) x old new) (sym (one.2 ∙ found_reply key (bucket_shown one.0) _ is)) refl
            | inr why ↦
                refused cache (commands.Find key) r old new (λ fault own. own) standing c why.0 (one.2 ∙ refused_reply key (bucket_shown one.0) why.0 why.1)
                (λ x. GivesFound (found_under cache key old) x old new) (λ fault excused. excused) (inl refl)
          ]
    ]

-- ---- reads

-- the key leads to these bytes
module _ (cache key : List ℕ) (r : Reply) (old new : List LogItem) (standing : IsStanding cache old) (c : Called cache (commands.Get key) r old new) (Stays : Type 0) (stays : Stays) (bytes : List ℕ) (found : Found)
    (finds : found_under cache key old ≡ Some found) (formed : IsIntegrity found.integrity) (lies : bytes_under cache found.integrity old ≡ Ok bytes) (met : Meets found.integrity bytes) where
  abbrev Gives : Reply → Type 0
  Gives x = GivesBytes Stays bytes x old new

  by_refusal : (refusal : Refusal) → r ≡ refusal_reply refusal → Gives r
  by_refusal refusal e = refused cache (commands.Get key) r old new (λ fault own. own) standing c refusal e Gives (λ fault excused. excused) (inl refl)

  by_content : (a : PlainAnswer) → a ≡ (apply (tree_of old) (steps.ReadAll (content_path cache found.integrity)) Plain).0 → r ≡ content_reply found.integrity (bytes_in a) → Gives r
  by_content a is e =
      elim (content_answer cache (commands.Get key) r old new (λ fault own. own) standing c found.integrity bytes a formed lies is) [
        | inl given ↦ subst Gives (sym (e ∙ ap (content_reply found.integrity) given ∙ met_reply found.integrity bytes met)) (refl, stays)
        | inr why ↦ by_refusal why.0 (e ∙ ap (content_reply found.integrity) why.1)
      ]

  by_bucket : (a : PlainAnswer) (more : Moves) → c.ran.0 ≡ (steps.ReadAll (bucket_path cache key), a) ∷ more → ReadsOn cache key (lookup key (bucket_shown a)) more r → Gives r
  by_bucket a more begins on =
      let shown = bucket_answer cache (commands.Get key) r old new (λ fault own. own) standing c key a more begins in
      elim (found_shown key _ a shown.0) [
        | inl is ↦
            let read : ReadsOn cache key (Ok (Some found)) more r = subst (λ l. ReadsOn cache key l more r) (is ∙ ap Ok finds) on in
            let one : AreAnswered (tree_of old) ((steps.ReadAll (content_path cache found.integrity), read.0) ∷ []) = subst (AreAnswered (tree_of old)) read.1 shown.1 in
            by_content read.0 one.0 read.2
        | inr why ↦ by_refusal why.0 (subst (λ l. ReadsOn cache key l more r) why.1 on).1
      ]

  pub found_read : Gives r
  found_read =
      elim (gets_shown (site cache (commands.Get key) r old new (λ fault own. own) standing c) key c.ran.0 r c.ran.1) [
        | inl memory ↦ subst Gives (sym memory) (inl refl)
        | inr shown ↦ by_bucket shown.0 shown.1 shown.2 shown.3
      ]

pub standing_reads : StandingReads
standing_reads cache key bytes i r old new standing has c =
    let same = sym has.integrity in
    found_read cache key r old new standing c (HasKey cache key i bytes new) (key_stays cache key bytes i old new (looks_keep cache (commands.Get key) r old new tt c) has) bytes has.found has.finds
    (subst IsIntegrity same has.content.formed) (subst (λ j. bytes_under cache j old ≡ Ok bytes) same (ap (blob_bytes (tree_of old)) has.content.content)) (subst (λ j. Meets j bytes) same has.content.meets)

-- what lies under the integrity that a key leads to, or where a link there leads
module _ (cache key : List ℕ) (r : Reply) (old new : List LogItem) (standing : IsStanding cache old) (c : Called cache (commands.Get key) r old new) (i : List Hash) (bytes : List ℕ)
    (formed : IsIntegrity i) (lies : bytes_under cache i old ≡ Ok bytes) (met : Meets i bytes) where
  by_found : (o : Option Found) → found_under cache key old ≡ o → option_map (λ (found : Found). found.integrity) o ≡ Some i → GivesBytes (Unit {0}) bytes r old new
  by_found None is e = absurd cc
  by_found (Some found) is e =
      let same : i ≡ found.integrity = cc in
      found_read cache key r old new standing c (Unit {0}) tt bytes found is (subst IsIntegrity same formed) (subst (λ i. bytes_under cache i old ≡ Ok bytes) same lies) (subst (λ i. Meets i bytes) same met)

  pub left_read : leads_to cache key old ≡ Some i → GivesBytes (Unit {0}) bytes r old new
  left_read leads = by_found (found_under cache key old) refl leads
