-- What a loss of power left of durable puts, and what a read of it gives.
-- What a loss of power left of durable puts, if their contents may be links.
use Rattle.std.proofs.Common.{◌≡◌, ℕ, List, [], ◌∷◌, ◌++◌, Option, None, Some, Vec, Global, Result, Contains, arith, option_map, refl, sym, ap, subst, ◌∙◌}
use Rattle.sha1.specs.Sha1.{sha1}
use Rattle.cacache_core.specs.{declared.{errors.Error.{Error}, integrity.digest.Hash.{Hash}}, Integrity.{digest, IsIntegrity, Meets, hash_of, integrity_under}, Paths.{Names, home_of}, Texts.{integrity_text}}
use Rattle.cacache_core.proofs.Printed.{printed}
use Rattle.cacache_store.specs.declared.{env.Env.{Env}, store.log.LogItem.{LogItem}}
use Rattle.cacache_disk.specs.{Tree.{Rooted, Tree}, Replay.{IsLog, tree_of}}
use Rattle.cacache_entry.{specs.{Entry.{Entry}, Bucket.{Found, NoneAnswers, answer_to, latest}}, proofs.Lookups.{last_answer_decides}}
use Rattle.cacache_calls.specs.{declared.{command.Put.{Put}, reply.Reply.TheVariants.{Read}}, Inserting.{given_or}, Runs.{reply_of}}
use Rattle.cacache_value.specs.{Acts.{list_of}, Placed.{Placed}, Value.{value_of_tree}, Shows.{blob_bytes}}
use Rattle.cacache_loss.specs.{Loss.{Lost}, LostValues.{HoldsContent}}
use Rattle.cacache_history.specs.{AddedEntries.{address_of_put}, Lookups.{found_of_put}, Setup.{home}, durable.Outlasting.{EntryOutlasts, KeyOutlasts, moment_at}}
use Rattle.cacache_history.proofs.{Contents.Digests.{own_integrity}, Histories.PlacedAnswers.{answers_so}, Entries.Spelled.{HasIntegrity}}
use Rattle.cacache_sync.specs.Reads.{bytes_read}
use Rattle.cacache_laws.specs.{Caches.{HasKey, setup_at}, Inserts.{leads_to}, Beside.{found_under}, ReadAnswers.{get_on, read_on}, results.{Reads.{LiesWhole}, Success.{FailsForMemory}, Losses.{LeadsToDigest, LeftReadMeans, LossesLeaveLast, LossesLeavePuts, LossesLeaveStanding, entry_written}, FoundLinks.{GivesDigest, LeadsThrough, LossesLeaveLastLinks, LossesLeaveLinks}}}
use Rattle.cacache_laws.proofs.{Readings.{GivenReads.{same_stays_known}, Looks.{looks_keep, tree_stays}, Standing.{left_read, looks_leave_standing, standing_reads}}, Sure.Succeeds.{standing_key_reads}, results.{ReadResults.{given, lies_whole, whole_gives}, SureResults.{for_memory, or_as}, Told.{called}}}
use Rattle.cacache_calls.specs.declared.command.Command.TheVariants as commands

pub losses_leave_standing : LossesLeaveStanding
losses_leave_standing h loss log outlives left =
    let cache = outlives.caches loss in
    let same : cache.one.tree ≡ tree_of log = sym (cache.one.only (tree_of log) left) in
    record { placed = subst (Placed (home h.setup)) same cache.placed; rooted = subst Rooted same cache.rooted }

-- ---- durable puts

-- if no integrity was expected, the put's entry answers to its key
pub put_answers : (cache key : List ℕ) (p : Put) → p.options.integrity ≡ None → answer_to key (entry_written cache key p) ≡ Some (Some (found_of_put cache key p))
put_answers cache key p none =
    let own = integrity_under p.options.algorithm p.data in
    answers_so key (integrity_text own) (entry_written cache key p) own refl (ap (λ o. Some (integrity_text (given_or own o))) none)
    (printed own (own_integrity p.options.algorithm p.data))

-- bytes that have the digest of the put's meet its integrity
pub met_by : (p : Put) (bytes : List ℕ) → digest p.options.algorithm bytes ≡ digest p.options.algorithm p.data → Meets (integrity_under p.options.algorithm p.data) bytes
met_by p bytes same =
    let own = hash_of p.options.algorithm (digest p.options.algorithm p.data) in
    let is : own ≡ hash_of p.options.algorithm (digest p.options.algorithm bytes) = ap (hash_of p.options.algorithm) (sym same) in
    subst (Contains (own ∷ [])) is (0, omega arith, refl)

-- the content at the put's address is what the key leads to
leads : (cache key : List ℕ) (p : Put) (folder : Names) (t : Tree) (before more : List Entry) → home_of cache ≡ Some folder → p.options.integrity ≡ None
    → HoldsContent (address_of_put p) (value_of_tree (Some folder) t)
    → list_of ((value_of_tree (home_of cache) t).buckets (sha1 key)) ≡ before ++ entry_written cache key p ∷ more → NoneAnswers key more
    → (log : List LogItem) → tree_of log ≡ t → LeadsToDigest cache key p log
leads cache key p folder t before more here none content bucket last log is =
    let same : digest p.options.algorithm content.0 ≡ digest p.options.algorithm p.data = ap (λ (x : Hash). x.digest) (sym content.2) in
    record {
      bytes = content.0;
      same = same;
      held = record {
        found = found_of_put cache key p;
        finds = ap (λ (x : Tree). latest key (list_of ((value_of_tree (home_of cache) x).buckets (sha1 key)))) is ∙ ap (latest key) bucket ∙ last_answer_decides key before more (entry_written cache key p) (Some (found_of_put cache key p)) (put_answers cache key p none) last;
        integrity = refl;
        content = record {
          content = ap (λ (x : Tree). (value_of_tree (home_of cache) x).contents (address_of_put p)) is ∙ ap (λ (o : Option Names). (value_of_tree o t).contents (address_of_put p)) here ∙ content.1;
          formed = own_integrity p.options.algorithm p.data;
          meets = met_by p content.0 same;
        };
      };
    }

pub losses_leave_puts : LossesLeavePuts
losses_leave_puts h loss folder key p t outlives few left here put keyed none =
    let v = value_of_tree (Some folder) t in
    let now = moment_at h h.records in
    let both = outlives.puts few folder p loss t here put (subst (λ (o : Option Names). Lost o now.tree now.fixed loss t) here left) in
    let entry : EntryOutlasts h put.before put.rest put.call.caller key (entry_written h.setup.cache key p) v
    = subst (λ (k : Option (List ℕ)). KeyOutlasts h put.before put.rest put.call.caller p k v) keyed both.1 in
    let bucket = ap (λ (o : Option Names). list_of ((value_of_tree o t).buckets (sha1 key))) here ∙ ap list_of entry.outlasts.bucket in (
      entry.outlasts.more,
      record { before = _; bucket = bucket },
      λ last. leads h.setup.cache key p folder t _ entry.outlasts.more here none both.0 bucket last,
    )

-- if nobody appended after its entry, the key leads to the put's bytes
pub losses_leave_last : LossesLeaveLast
losses_leave_last h loss folder key p t outlives few left here put keyed none last log is =
    let now = moment_at h h.records in
    let lost = subst (λ (o : Option Names). Lost o now.tree now.fixed loss t) here left in
    let both = outlives.puts few folder p loss t here put lost in
    let with = outlives.behind_puts folder p key loss t here put keyed lost in
    let entry = with.entry_is in
    let bucket = ap (λ (o : Option Names). list_of ((value_of_tree o t).buckets (sha1 key))) here ∙ ap list_of entry.outlasts.bucket in
    let alone : entry.outlasts.more ≡ [] = with.behind.none (last entry.between entry.append entry.later entry.is entry.is_append) in
    leads h.setup.cache key p folder t _ entry.outlasts.more here none both.0 bucket (subst (NoneAnswers key) (sym alone) tt) log is

-- ---- reads

-- what the key leads to has the integrity, and a read of it gives the bytes
led_read : (cache key : List ℕ) (i : List Hash) (bytes : List ℕ) (log : List LogItem) (o : Option Found) → option_map (λ (f : Found). f.integrity) o ≡ Some i → IsIntegrity i → LiesWhole cache i log bytes
    → HasIntegrity o × (get_on (setup_at cache []) (tree_of log) key o ≡ Read bytes)
led_read cache key i bytes log None leads formed lies = absurd cc
led_read cache key i bytes log (Some f) leads formed lies =
    let same : f.integrity ≡ i = cc in (
      subst IsIntegrity (sym same) formed,
      ap (read_on (home_of cache) (tree_of log)) same ∙ whole_gives cache i bytes log lies,
    )

pub left_read_means : {C N : Type 0} (cache key : List ℕ) (r : Result (Vec ℕ Global) Error) (new : Env (List LogItem) C N) → IsLog new.store → LeftReadMeans cache key r new
left_read_means cache key r new logged old standing ran =
    let c = called bytes_read (λ b. refl) r cache old.base 0 (commands.Get key) old.store new.store ran.0.0 logged in
    let succeeds : (folder : Names) (i : List Hash) (bytes : List ℕ) → home_of cache ≡ Some folder → leads_to cache key old.store ≡ Some i → IsIntegrity i → LiesWhole cache i old.store bytes → FailsForMemory r
    = λ folder i bytes home leads formed lies.
    let led = led_read cache key i bytes old.store (found_under cache key old.store) leads formed lies in
    for_memory bytes_read r (Read bytes) tt
    (or_as (reply_of bytes_read r) led.1 (standing_key_reads cache key folder (reply_of bytes_read r) old.store new.store home standing led.0 c)) in
    record {
      same = tree_stays cache (commands.Get key) (reply_of bytes_read r) old.store new.store tt c;
      standing = looks_leave_standing cache (commands.Get key) (reply_of bytes_read r) old.store new.store tt c standing;
      known = same_stays_known cache old.store new.store (looks_keep cache (commands.Get key) (reply_of bytes_read r) old.store new.store tt c);
      reads = λ i bytes leads formed lies. given r (Unit {0}) bytes old.store new.store (left_read cache key (reply_of bytes_read r) old.store new.store standing c i bytes formed lies.0 lies.1 leads);
      succeeds = λ folder i bytes home has.
          succeeds folder i bytes home
          (ap (option_map (λ (f : Found). f.integrity)) has.finds ∙ ap Some has.integrity) has.content.formed
          (lies_whole cache i bytes old.store has.content);
      reads_on = succeeds;
      gives = λ i bytes has. given r (HasKey cache key i bytes new.store) bytes old.store new.store (standing_reads cache key bytes i (reply_of bytes_read r) old.store new.store standing has c);
    }

-- what lies at the put's address is what the key leads to
through : (cache key : List ℕ) (p : Put) (folder : Names) (t : Tree) (before more : List Entry) → home_of cache ≡ Some folder → p.options.integrity ≡ None
    → GivesDigest folder (address_of_put p) t
    → list_of ((value_of_tree (home_of cache) t).buckets (sha1 key)) ≡ before ++ entry_written cache key p ∷ more → NoneAnswers key more
    → (log : List LogItem) → tree_of log ≡ t → LeadsThrough cache key p log
through cache key p folder t before more here none given bucket last log is =
    let same : digest p.options.algorithm given.0 ≡ digest p.options.algorithm p.data = ap (λ (x : Hash). x.digest) (sym given.1) in
    let finds : latest key (list_of ((value_of_tree (home_of cache) (tree_of log)).buckets (sha1 key))) ≡ Some (found_of_put cache key p)
    = ap (λ (x : Tree). latest key (list_of ((value_of_tree (home_of cache) x).buckets (sha1 key)))) is ∙ ap (latest key) bucket
    ∙ last_answer_decides key before more (entry_written cache key p) (Some (found_of_put cache key p)) (put_answers cache key p none) last in
    record {
      bytes = given.0;
      same = same;
      leads = ap (option_map (λ (found : Found). found.integrity)) finds;
      formed = own_integrity p.options.algorithm p.data;
      lies = (
        ap (λ (x : Tree). blob_bytes x ((value_of_tree (home_of cache) x).contents (address_of_put p))) is
            ∙ ap (λ (o : Option Names). blob_bytes t ((value_of_tree o t).contents (address_of_put p))) here ∙ given.2,
        met_by p given.0 same,
      );
    }

pub losses_leave_links : LossesLeaveLinks
losses_leave_links h loss folder key p t outlast few left here put keyed none unchanged =
    let v = value_of_tree (Some folder) t in
    let now = moment_at h h.records in
    let lost = subst (λ (o : Option Names). Lost o now.tree now.fixed loss t) here left in
    let given = outlast.gives few folder p loss t here put lost unchanged in
    let entry : EntryOutlasts h put.before put.rest put.call.caller key (entry_written h.setup.cache key p) v
    = subst (λ (k : Option (List ℕ)). KeyOutlasts h put.before put.rest put.call.caller p k v) keyed (outlast.puts few folder p loss t here put lost).1 in
    let bucket = ap (λ (o : Option Names). list_of ((value_of_tree o t).buckets (sha1 key))) here ∙ ap list_of entry.outlasts.bucket in (
      entry.outlasts.more,
      record { before = _; bucket = bucket },
      λ last. through h.setup.cache key p folder t _ entry.outlasts.more here none given bucket last,
    )

-- if nobody appended after its entry, the key leads there
pub losses_leave_last_links : LossesLeaveLastLinks
losses_leave_last_links h loss folder key p t outlast few left here put keyed none unchanged last log is =
    let now = moment_at h h.records in
    let lost = subst (λ (o : Option Names). Lost o now.tree now.fixed loss t) here left in
    let given = outlast.gives few folder p loss t here put lost unchanged in
    let with = outlast.behind folder p key loss t here put keyed lost in
    let entry = with.entry_is in
    let bucket = ap (λ (o : Option Names). list_of ((value_of_tree o t).buckets (sha1 key))) here ∙ ap list_of entry.outlasts.bucket in
    let alone : entry.outlasts.more ≡ [] = with.behind.none (last entry.between entry.append entry.later entry.is entry.is_append) in
    through h.setup.cache key p folder t _ entry.outlasts.more here none given bucket (subst (NoneAnswers key) (sym alone) tt) log is
