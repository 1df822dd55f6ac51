-- What open writers did.
use Rattle.std.proofs.{lemmas.{Grind.{common_steps}, Bool.{eq-eqb}}, Common.{rules, ◌≡◌, inl, inr, ◌<◌, ◌^◌, ◌++◌, ℕ, List, Option, None, Some, Result, Ok, Err, length, refl, sym, ap, subst, ◌∙◌, arith, ◌==◌, true, false, cond}}
use Rattle.std.specs.{Prelude.{IsUtf8, IfErr}, Io.KnownBytes.{Appends}}
use Rattle.cacache_core.specs.{declared.{errors.{Error.{Error, TheVariants.{IoError, OutOfMemory, EntryNotFound, SizeMismatch, IntegrityError}}, IntegrityFault.TheVariants.{Check}, SerdeCause.{SerdeCause}}, integrity.digest.Hash.{Hash}}, Texts.{integrity_text}}
use Rattle.serde_json.specs.Data.{Data, null}
use Rattle.cacache_store.specs.{declared.{env.Env.{Env}, store.{log.LogItem.{LogItem}, plain.PlainTemp.{PlainTemp}}}, Plain.{PlainAnswer}}
use Rattle.cacache_disk.specs.Replay.{IsLog}
use Rattle.cacache_calls.specs.{declared.{command.Put.{Put}, reply.Reply.{Reply, TheVariants.{Stored, Refused}}, carried.Commit.{Commit}}, Inserting.{given_or, refused_cause, entry_of}, Promises.{answered}, Runs.{reply_of, without_message}, SingleSteps.{Does}, Steps.{temp_path}, Storing.{put_commit, insertion_of, matches}}
use Rattle.cacache_calls.proofs.Telling.{integrity_utf8}
use Rattle.cacache_sync.specs.{content.OpenWrites.{RemovesTemp, TriesToRemove, counted_bytes}, put.KeyedWriters.{CommitsWriter, OpensAt, Said, options_of}}
use Rattle.cacache_jobs.specs.Environment.{MomentOf}
use Rattle.cacache_entry.specs.{Entry.{Entry}, FittingEntries.{cause_of}}
use Rattle.cacache_laws.proofs.{Calls.CallErrors.{excused_error}, Putting.{Puts.{HasCommitted, commits_fail, commits_keep, commits_leave}, OpenWriters.{commits_last, writers_open}, Stored.{bare_written}}, Readings.Standing.{caches_stand}, Sure.Succeeds.{commits_answer, openings_succeed, either}, Spares.Unused.{giving_up_lasts}, results.{Told.{as_expected, suits_so, own_matches, plain_result}, SureResults.{for_memory, of_refused, or_as}, WriteResults.{early_of, untouched}}}
use Rattle.cacache_laws.specs.{Beside.{FitsEntry}, Caches.{IsCache}, OpenWriters.{GivesUpTemp, CommitsBytes}, Puts.{MayLeadToPut, entry_of_put}, OpenSucceeds.{FileAt}, Succeeds.{put_reply, unless_unwritable, compared_reply, keyed_reply, sized_reply}, results.{Handles.{CommitsMean, CommitsSucceed, FailedWritesMean, GivingUpMeans, IsText, IsWriting, LeadsToEntry, MayLeadToEntry, MemWriter, OpenedWriter, OpeningsMean, SaysFit, WritersGoOn, said_integrity, CommitsTell, FailsCommit}, Writes.{SaysPlain}}}
use Rattle.cacache_store.specs.declared.store.answer.Answer.TheVariants as answers
use Rattle.cacache_store.specs.declared.store.step.Step.TheVariants as steps

-- ---- openings

opened : (cache : List ℕ) (key : Option (List ℕ)) (s : Said) (number : ℕ) (r : Result MemWriter Error) (old new : List LogItem) → IsCache cache old → IsLog new
    → OpensAt (λ (f : PlainTemp). f) cache key s r (Some old) (Some new) number → OpenedWriter cache key s r old new
opened cache key s number (Ok w) old new sound logged h =
    let file_is : w.writer.file.path ≡ w.writer.path = (writers_open cache number (Ok w.writer.file) old new sound h.1 logged).1.0 ∙ sym h.0.fresh.path_is in
    let o = writers_open cache number (Ok w.writer.file) old new sound h.1 logged in
    record {
      leaves = o.0;
      writer = record {
        number = number;
        opened = o.1.2;
        here = h.0.fresh.cache_is;
        algorithm_is = h.0.fresh.algorithm_is;
        path_is = h.0.fresh.path_is;
        file_is = o.1.0;
        bytes_are = o.1.1;
        taken = h.0.fresh.empty;
        key_is = h.0.key_is;
        time_is = h.0.time_is;
        options_are = h.0.options_are;
      };
      fails = tt;
      succeeds = λ ready. tt;
      stands = λ ready.
          subst (λ p. FileAt p new) file_is (openings_succeed cache number (Ok w.writer.file) old new ready.folder (caches_stand cache old sound) (ready.tidy number) h.1 logged).0;
    }
opened cache key s number (Err e) old new sound logged h =
    let o = writers_open cache number (Err e) old new sound h logged in
    record {
      leaves = o.0;
      writer = tt;
      fails = o.1;
      succeeds = λ ready. (openings_succeed cache number (Err e) old new ready.folder (caches_stand cache old sound) (ready.tidy number) h logged).1;
      stands = λ ready. tt;
    }

pub openings_mean : {C N : Type 0} (numbers : N → Option (List ℕ)) (new : Env (List LogItem) C N) → IsLog new.store → OpeningsMean numbers new
openings_mean numbers new logged cache key s r old sound h = opened cache key s h.0 r old.store new.store sound logged h.2

-- ---- bytes that are handed over

-- known bytes that grew
grown : (old new : Option (List ℕ)) (xs more : List ℕ) → old ≡ Some xs → Appends old new more → new ≡ Some (xs ++ more)
grown old new xs more is h = grind (arith, common_steps)

pub writers_go_on : WritersGoOn
writers_go_on cache key s bytes more w v t appends takes on said = search (rules, opened, grown)

-- ---- commits

-- the put that a commit makes
abbrev pub put_of : Option (List ℕ) → Said → List ℕ → ℕ → Put
put_of key s bytes moment = record { key = key; «data» = bytes; moment = moment; options = options_of s }

pub fits : (cache : List ℕ) (key : Option (List ℕ)) (s : Said) (bytes : List ℕ) (moment : ℕ) → SaysFit s → IsText key → length bytes < 2 ^ 64 → FitsEntry cache (put_of key s bytes moment)
fits cache key s bytes moment says text small k is = grind (arith, integrity_utf8)

-- if nothing was said of an entry but its time, it can be written
pub said_written : (cache k : List ℕ) (key : Option (List ℕ)) (s : Said) (bytes : List ℕ) (moment : ℕ) → SaysPlain s → s.integrity ≡ None → IsUtf8 k
    → length bytes < 2 ^ 64 → moment < 2 ^ 64 → refused_cause (insertion_of (put_commit cache (put_of key s bytes moment)) k) ≡ None
unfolding refused_cause
said_written cache k key s bytes moment plain none utf8 small early =
    let of : Option (List Hash) → Data → Option (List ℕ) → Entry
    = λ i metadata raw.
    entry_of k (Some (integrity_text (given_or (said_integrity s bytes) i))) (length bytes) moment
    (record { algorithm = s.algorithm; size = None; integrity = i; metadata = metadata; raw_metadata = raw; durable = false }) in
    let written = bare_written k (Some (integrity_text (said_integrity s bytes))) moment (length bytes) utf8 (integrity_utf8 (said_integrity s bytes)) early small in
    ap cause_of (ap (λ i. of i s.metadata s.raw_metadata) none ∙ ap (λ m. of None m s.raw_metadata) plain.metadata ∙ ap (of None null) plain.raw_metadata) ∙ written.no_cause

moment_early : {C : Type 0} (moments : C → Option (List ℕ)) (key : Option (List ℕ)) (time : Option ℕ) (old new : C) (moment : ℕ) → ((t : ℕ) → time ≡ Some t → t < 2 ^ 64) → MomentOf moments key time old new moment → moment < 2 ^ 64
moment_early moments key time old new moment early h = grind (arith, early_of)

module _ (cache : List ℕ) (key : Option (List ℕ)) (s : Said) (bytes : List ℕ) (w : MemWriter) (t : IsWriting cache key s bytes w) (small : length bytes < 2 ^ 64) where
  pub commits_bytes : {C N : Type 0} (moments : C → Option (List ℕ)) (r : Result (List Hash) Error) (old new : Env (List LogItem) C N) → IsLog new.store
      → (h : CommitsWriter (λ (f : PlainTemp). f) (λ (log : List LogItem). Some log) moments old new w bytes (reply_of Stored r))
      → CommitsBytes cache (put_of key s bytes h.0) t.number (reply_of Stored r) old.store new.store
  commits_bytes moments r old new logged h =
      let count_is : counted_bytes bytes ≡ length bytes = omega arith in
      record {
        file = w.writer.file;
        path_is = t.file_is;
        bytes_are = t.bytes_are;
        ran = rw (t.here, t.key_is, t.algorithm_is, count_is, t.options_are) at h.2;
        plain = plain_result Stored (λ i. refl) r;
        logged = logged;
      }

leads_so : (cache : List ℕ) (key : Option (List ℕ)) (s : Said) (bytes : List ℕ) (moment : ℕ) (i : List Hash) (old new : List LogItem) → HasCommitted cache (put_of key s bytes moment) i old new
    → (k : List ℕ) → key ≡ Some k → LeadsToEntry cache k s i (length bytes) new
leads_so cache None s bytes moment i old new h k is = absurd cc
leads_so cache (Some key) s bytes moment i old new h k is =
    (entry_of_put cache (put_of (Some key) s bytes moment) k, h.entry k is, record { integrity = sym h.stored; size = refl; metadata = refl; raw_metadata = refl })

may_lead_so : (cache : List ℕ) (key : Option (List ℕ)) (s : Said) (bytes : List ℕ) (moment : ℕ) (old new : List LogItem) → MayLeadToPut cache (put_of key s bytes moment) old new
    → (k : List ℕ) → key ≡ Some k → MayLeadToEntry cache k s (answered (said_integrity s bytes) s.integrity key) (length bytes) old new
may_lead_so cache key s bytes moment old new may k is = grind (arith, common_steps)

pub commits_mean : {C N : Type 0} (moments : C → Option (List ℕ)) (new : Env (List LogItem) C N) → IsLog new.store → CommitsMean moments new
commits_mean moments new logged cache key s bytes w (Ok i) old sound t says text small h =
    let p = put_of key s bytes h.0 in
    let c = commits_bytes cache key s bytes w t small moments (Ok i) old new logged h in
    let fit = fits cache key s bytes h.0 says text small in
    let last = commits_last cache p t.number (Stored i) old.store new.store fit t.opened sound c in
    let left = commits_leave cache p t.number i old.store new.store fit says.formed t.opened sound c in
    let kept = commits_keep cache p t.number (Stored i) old.store new.store fit says.formed t.opened sound c in
    record {
      sound = last.0;
      grows = last.1;
      stored = left.stored;
      expected = as_expected cache key s bytes h.0 (suits_so (put_commit cache p) c.file i c.ran.0 c.ran.1);
      leads = leads_so cache key s bytes h.0 i old.store new.store left;
      may_lead = may_lead_so cache key s bytes h.0 old.store new.store kept.0;
      content = left.content;
      keeps = untouched cache key (said_integrity s bytes) bytes old.store new.store kept.1;
      fails = λ k is plain none. tt;
    }
commits_mean moments new logged cache key s bytes w (Err e) old sound t says text small h =
    let p = put_of key s bytes h.0 in
    let c = commits_bytes cache key s bytes w t small moments (Err e) old new logged h in
    let fit = fits cache key s bytes h.0 says text small in
    let last = commits_last cache p t.number (reply_of Stored (Err e)) old.store new.store fit t.opened sound c in
    let kept = commits_keep cache p t.number (reply_of Stored (Err e)) old.store new.store fit says.formed t.opened sound c in
    record {
      sound = last.0;
      grows = last.1;
      stored = tt;
      expected = tt;
      leads = tt;
      may_lead = may_lead_so cache key s bytes h.0 old.store new.store kept.0;
      content = tt;
      keeps = untouched cache key (said_integrity s bytes) bytes old.store new.store kept.1;
      fails = λ k is plain none.
          let early = moment_early moments w.key w.time old.clock new.clock h.0 (λ time at. plain.early time (sym t.time_is ∙ at)) h.1 in
          let written = said_written cache k key s bytes h.0 plain none (subst IsText is text) small early in
          excused_error e old.store new.store
          (commits_fail cache k p t.number (without_message e) old.store new.store fit (record { key_is = is; no_integrity = none; no_size = plain.size; written = written }) t.opened sound c);
    }

-- ---- commits that fail for memory alone

stores_at : (cache : List ℕ) (key : Option (List ℕ)) (s : Said) (bytes : List ℕ) (moment : ℕ) (at : Option (List ℕ)) → s.integrity ≡ None
    → ((k : List ℕ) → at ≡ Some k → refused_cause (insertion_of (put_commit cache (put_of key s bytes moment)) k) ≡ None)
    → keyed_reply (put_commit cache (put_of key s bytes moment)) at ≡ Stored (said_integrity s bytes)
stores_at cache key s bytes moment None none written = refl
stores_at cache key s bytes moment (Some k) none written =
    ap (unless_unwritable (insertion_of (put_commit cache (put_of key s bytes moment)) k).reply) (written k refl) ∙ ap (λ i. Stored (given_or (said_integrity s bytes) i)) none

-- a put that expects nothing, and says nothing, stores
said_plain : (cache : List ℕ) (key : Option (List ℕ)) (s : Said) (bytes : List ℕ) (moment : ℕ) → SaysPlain s → s.integrity ≡ None → IsText key → length bytes < 2 ^ 64 → moment < 2 ^ 64
    → put_reply cache (put_of key s bytes moment) ≡ Stored (said_integrity s bytes)
said_plain cache key s bytes moment plain none text small early =
    let c = put_commit cache (put_of key s bytes moment) in
    ap (compared_reply c) none ∙ ap (sized_reply c) plain.size
    ∙ stores_at cache key s bytes moment key none (λ k is. said_written cache k key s bytes moment plain none (subst IsText is text) small early)

pub commits_succeed : {C N : Type 0} (moments : C → Option (List ℕ)) (new : Env (List LogItem) C N) → IsLog new.store → CommitsSucceed moments new
commits_succeed moments new logged cache key s bytes w r old sound folder file t plain none text small h =
    let c = commits_bytes cache key s bytes w t small moments r old new logged h in
    let early = moment_early moments w.key w.time old.clock new.clock h.0 (λ time is. plain.early time (sym t.time_is ∙ is)) h.1 in
    let stands = subst (λ x. FileAt x old.store) t.path_is file in
    let answers = commits_answer cache (put_of key s bytes h.0) t.number (reply_of Stored r) old.store new.store folder (caches_stand cache old.store sound) stands c in
    for_memory Stored r (Stored (said_integrity s bytes)) tt (or_as (reply_of Stored r) (said_plain cache key s bytes h.0 plain none text small early) (either (reply_of Stored r) (λ x. x.0) answers))

-- ---- writers that are given up

module _ (cache : List ℕ) (number : ℕ) (path : List ℕ) (is : path ≡ temp_path cache number) (old new : List LogItem) where
  asked : (a : PlainAnswer) → Does (steps.RemoveFile path) a (Some old) (Some new) → GivesUpTemp cache number (Some old) (Some new)
  asked a h = inr (a, subst (λ p. Does (steps.RemoveFile p) a (Some old) (Some new)) is h)

  removed : (r : Result (Unit {0}) Error) → RemovesTemp path r (Some old) (Some new) → GivesUpTemp cache number (Some old) (Some new)
  removed r h = grind (arith, asked)

  tried : (e : Error) → TriesToRemove path e (Some old) (Some new) → GivesUpTemp cache number (Some old) (Some new)
  tried e h = grind (arith, asked)

pub giving_up_means : {C N : Type 0} (new : Env (List LogItem) C N) → IsLog new.store → GivingUpMeans new
giving_up_means new logged cache key s bytes w r old sound t h =
    giving_up_lasts cache t.number old.store new.store sound (removed cache t.number w.writer.path t.path_is old.store new.store r h) logged

pub failed_writes_mean : {C N : Type 0} (new : Env (List LogItem) C N) → IsLog new.store → FailedWritesMean new
failed_writes_mean new logged cache key s bytes w e old sound t h =
    giving_up_lasts cache t.number old.store new.store sound (tried cache t.number w.writer.path t.path_is old.store new.store e h) logged

-- ---- which errors the commit of a writer gives while its file is there

module _ (cache : List ℕ) (key : Option (List ℕ)) (s : Said) (bytes : List ℕ) (moment : ℕ) where
  abbrev commit : Commit
  commit = put_commit cache (put_of key s bytes moment)

  -- a refusal says why
  abbrev Tells : Reply → Type 0
  Tells (Refused e) = FailsCommit s bytes e
  Tells r = Unit {0}

  written : (r : Reply) (cause : Option SerdeCause) → Tells r → Tells (unless_unwritable r cause)
  written r cause h = grind (arith, common_steps)

  keyed_tells : (k : Option (List ℕ)) → Tells (keyed_reply commit k)
  keyed_tells k = grind (arith, written)

  sized_tells : (size : Option ℕ) → s.size ≡ size → Tells (sized_reply commit size)
  sized_tells size is = grind (arith, keyed_tells)

  compared_tells : (expected : Option (List Hash)) → s.integrity ≡ expected → Tells (compared_reply commit expected)
  compared_tells expected is = grind (arith, sized_tells, own_matches)

  -- what a reply says without its message, its error says
  plain_tells : (e : Error) → FailsCommit s bytes (without_message e) → FailsCommit s bytes e
  plain_tells e h = grind (arith, common_steps)

  told : (r : Result (List Hash) Error) → reply_of Stored r ≡ put_reply cache (put_of key s bytes moment) → IfErr r (FailsCommit s bytes)
  told r is = grind (arith, plain_tells, compared_tells)

lost : (s : Said) (bytes : List ℕ) (r : Result (List Hash) Error) → reply_of Stored r ≡ Refused OutOfMemory → IfErr r (FailsCommit s bytes)
lost s bytes r is = grind (arith, of_refused)

pub commits_tell : {C N : Type 0} (moments : C → Option (List ℕ)) (new : Env (List LogItem) C N) → IsLog new.store → CommitsTell moments new
commits_tell moments new logged cache key s bytes w r old sound folder file t small h =
    let c = commits_bytes cache key s bytes w t small moments r old new logged h in
    let stands = subst (λ x. FileAt x old.store) t.path_is file in
    elim (commits_answer cache (put_of key s bytes h.0) t.number (reply_of Stored r) old.store new.store folder (caches_stand cache old.store sound) stands c) [
      | inl m ↦ lost s bytes r m
      | inr done ↦ told cache key s bytes h.0 r done.0
    ]
