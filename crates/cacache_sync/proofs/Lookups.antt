-- What a run of a lookup shows, and where the text of an entry is in its line.
use Rattle.std.proofs.{Common.{◌≡◌, ◌≢◌, ◌⊎◌, inl, inr, ℕ, List, [], Option, Result, Ok, Err, sym, ◌∙◌, ◌+◌, ◌*◌, ◌≤◌, ◌∷◌, ◌++◌, length, drop, subst, ap, arith, length-append}, Math.Seq.{drop-append-add}}
use Rattle.cacache_core.specs.{declared.errors.{Error.{Error, TheVariants.{IoError, OutOfMemory}}, Fault.{Fault}}, Integrity.{sha256_hex}}
use Rattle.cacache_store.specs.{declared.store.log.LogItem.{LogItem}, Plain.{PlainAnswer, Fits}}
use Rattle.cacache_entry.specs.{declared.metadata.Metadata.{Metadata}, Entry.{Entry, text_of, line_of}}
use Rattle.cacache_calls.specs.{declared.reply.Reply.TheVariants.{Refused}, Steps.{bucket_path}, Replies.{bucket_shown, entries_shown, find_reply, looked_up}, Runs.{Gains, Ran, reply_of, without_message}, State.{Site}, Table.{opening}}
use Rattle.cacache_calls.proofs.{Going.{no_gain}, Replies.{find_run}}
use Rattle.cacache_sync.specs.Lookups.{LooksUp, ReadsBucket}
use Rattle.hex.{specs.Hex.{lower_digits}, proofs.HexLemmas.{length-encode_with}}
use Rattle.sha2.{specs.Sha256.{sha256}, proofs.Facts256.{length-sha256}}
use Rattle.cacache_core.specs.declared.errors.Fault.TheVariants as faults
use Rattle.cacache_store.specs.declared.store.step.Step.TheVariants as steps
use Rattle.cacache_store.specs.declared.store.answer.Answer.TheVariants as answers
use Rattle.cacache_calls.specs.declared.answers.Refusal.TheVariants as refusals
use Rattle.cacache_calls.specs.declared.command.Command.TheVariants as commands

lost_after : (cache key : List ℕ) (t : PlainAnswer) (e : Error) (old new : Option (List LogItem)) → ReadsBucket cache key old new t ⊎ (new ≡ old) → Refused (without_message e) ≡ Refused OutOfMemory → LooksUp cache key old new (Err e)
lost_after cache key t OutOfMemory old new (inl reads) is = inr (t, reads)
lost_after cache key t OutOfMemory old new (inr same) is = inl same
lost_after cache key t e old new h is = absurd cc

failed_so : (cache key : List ℕ) (fault : Fault) (e : Error) (old new : Option (List LogItem)) → fault ≢ faults.NotFound → ReadsBucket cache key old new (answers.Failed fault) → Refused (without_message e) ≡ Refused (IoError fault []) → LooksUp cache key old new (Err e)
failed_so cache key fault (IoError g message) old new other reads is = let same : g ≡ fault = cc in rw same (reads, other)
failed_so cache key fault e old new other reads is = absurd cc

-- a bucket that isn't there is no failure
failed_by : (cache key : List ℕ) (fault : Fault) (e : Error) (old new : Option (List LogItem)) → ReadsBucket cache key old new (answers.Failed fault) → Refused (without_message e) ≡ find_reply key (entries_shown (Err (refusals.Fault fault))) → LooksUp cache key old new (Err e)
failed_by cache key faults.NotFound e old new reads is = absurd cc
failed_by cache key fault e old new reads is = failed_so cache key fault e old new (λ same. absurd cc) reads is

-- what the read of the bucket answered makes the result
told : (cache key : List ℕ) (t : PlainAnswer) (result : Result (Option Metadata) Error) (old new : Option (List LogItem)) → Fits (steps.ReadAll (bucket_path cache key)) t → ReadsBucket cache key old new t
    → (reply_of looked_up result ≡ find_reply key (bucket_shown t)) ⊎ (reply_of looked_up result ≡ Refused OutOfMemory) → LooksUp cache key old new result
told cache key (answers.Bytes bytes) (Ok found) old new fits reads (inl is) = inl (bytes, reads, cc)
told cache key (answers.Bytes bytes) (Ok found) old new fits reads (inr is) = absurd cc
told cache key (answers.Bytes bytes) (Err e) old new fits reads (inl is) = absurd cc
told cache key (answers.Bytes bytes) (Err e) old new fits reads (inr is) = lost_after cache key (answers.Bytes bytes) e old new (inl reads) is
told cache key (answers.Failed faults.NotFound) (Ok found) old new fits reads (inl is) = inr (reads, cc)
told cache key (answers.Failed fault) (Ok found) old new fits reads (inl is) = absurd cc
told cache key (answers.Failed fault) (Ok found) old new fits reads (inr is) = absurd cc
told cache key (answers.Failed fault) (Err e) old new fits reads (inl is) = failed_by cache key fault e old new reads is
told cache key (answers.Failed fault) (Err e) old new fits reads (inr is) = lost_after cache key (answers.Failed fault) e old new (inl reads) is
told cache key (answers.NoMemory back) (Ok found) old new fits reads (inl is) = absurd cc
told cache key (answers.NoMemory back) (Ok found) old new fits reads (inr is) = absurd cc
told cache key (answers.NoMemory back) (Err e) old new fits reads (inl is) = lost_after cache key (answers.NoMemory back) e old new (inl reads) is
told cache key (answers.NoMemory back) (Err e) old new fits reads (inr is) = lost_after cache key (answers.NoMemory back) e old new (inl reads) is
told cache key other result old new fits reads shown = absurd fits

unread : (cache key : List ℕ) (result : Result (Option Metadata) Error) (old new : Option (List LogItem)) → new ≡ old → reply_of looked_up result ≡ Refused OutOfMemory → LooksUp cache key old new result
unread cache key (Ok found) old new same is = absurd cc
unread cache key (Err e) old new same is = lost_after cache key answers.Done e old new (inr same) is

-- the log gained a run of a lookup
pub looks_up : (site : Site) (key : List ℕ) (result : Result (Option Metadata) Error) (old new : Option (List LogItem)) → Ran (opening site (commands.Find key)) (reply_of looked_up result) old new → LooksUp site.cache key old new result
looks_up site key result old new ran =
    elim (find_run site key ran.0 (reply_of looked_up result) ran.1) [
      | inl none ↦
          let gained : Gains old new [] = rw none.0 at ran.2 in
          unread site.cache key result old new (gained ∙ sym (no_gain old)) none.1
      | inr one ↦ told site.cache key one.0 result old new one.2 (rw one.1 at ran.2) one.3
    ]

-- ---- where the text of an entry is in its line

-- a digest has 64 digits
length-sha256_hex : (bytes : List ℕ) → length (sha256_hex bytes) ≡ 64
length-sha256_hex bytes = length-encode_with lower_digits (sha256 bytes) ∙ ap (λ n. 2 * n) (length-sha256 bytes)

-- the text comes after LF, 64 digits and TAB
pub text_in_line : (e : Entry) → drop 66 (line_of e) ≡ text_of e
text_in_line e =
    let digits = sha256_hex (text_of e) in
    subst (λ n. drop (n + 1) (digits ++ 9 ∷ text_of e) ≡ text_of e) (length-sha256_hex (text_of e)) (drop-append-add digits (9 ∷ text_of e) 1)

-- a line is at least that long
pub line_reaches_text : (e : Entry) → 66 ≤ length (line_of e)
line_reaches_text e =
    let digits = length-sha256_hex (text_of e) in
    let all = length-append (sha256_hex (text_of e)) (9 ∷ text_of e) in
    omega (arith, digits, all)
