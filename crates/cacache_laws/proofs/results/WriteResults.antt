-- What writes and insertions gave and left.
-- What links gave and left.
use Rattle.std.proofs.{lemmas.Grind.{common_steps}, Common.{rules, ◌≡◌, ◌⊎◌, inl, inr, ◌<◌, ◌^◌, ℕ, List, Option, None, Some, option_map, Result, Ok, Err, length, refl, sym, ap, subst, ◌∙◌, arith, []}}
use Rattle.std.specs.Prelude.{IfOk, IfErr, IsUtf8}
use Rattle.serde_json.specs.Data.{Data, null}
use Rattle.cacache_core.specs.{declared.{errors.Error.{Error, TheVariants.{IoError, SerdeError}}, integrity.{algorithm.Algorithm.{Algorithm, TheVariants.{Sha256}}, digest.Hash.{Hash}}}, Integrity.{integrity_under}, Texts.{integrity_text}}
use Rattle.cacache_store.specs.declared.{env.Env.{Env}, store.log.LogItem.{LogItem}}
use Rattle.cacache_disk.specs.Replay.{IsLog, tree_of}
use Rattle.cacache_entry.specs.{Entry.{Entry}, Bucket.{Found, found_of}}
use Rattle.cacache_calls.specs.{declared.{command.Insert.{Insert}, reply.Reply.TheVariants.{Refused, Stored}, carried.Commit.{Commit}}, Inserting.{entry_of, given_size, given_text, insertion, refused_cause}, Runs.{reply_of, without_message, Ran}, Linking.{based, commit_for, link_target, with_size}, Replies.{OrMemory}, Table.{opening}}
use Rattle.cacache_calls.proofs.Telling.{integrity_utf8}
use Rattle.cacache_jobs.specs.{Environment.{HasMoment}, JobStates.{site_of}}
use Rattle.cacache_sync.specs.put.{KeyedWriters.{Said, options_of, insert_of, unkeyed_put}, OpenLinkers.{link_to}}
use Rattle.cacache_laws.specs.{Puts.{entry_of_put, MayLeadToPut}, Beside.{FitsEntry, KeepsBeside, found_under}, Caches.{Called, IsCache, HasContent, HasKey, IsExcused, plain_put, lies_under}, Inserts.{InsertsKey, leads_to}, Standing.{IsStanding, PutStands}, Succeeds.{NamesFolder, IsReady, put_reply, unless_unwritable}, results.{Success.{FailsForMemory}, Writes.{ContentWriteMeans, InsertionMeans, KeepsUntouched, SaysPlain, WriteMeans}, Losses.{LeftWriteMeans}, Links.{ContentLinkMeans, LiesLinked, LinkMeans, LinkedFile, LinksBytes}}, CallErrors.{IsPlainPut}, ExportEffects.{IsApart}, LinkAnswers.{link_reply, target_bytes}, Links.{FitsLink, put_like}}
use Rattle.cacache_laws.proofs.{Links.Linking.{HasLinked, LeavesLink, links_last}, Putting.{Puts.{plain_writes_fit, writes_keep, inserts_last, given_utf8}, Stored.{Written, bare_written, has_key}, StandingPuts.{standing_writes}}, Calls.{CallErrors.{contents_fail, excused_error}, Replays.{calls_grow}}, Readings.{Known.{excuse, known}, Standing.{caches_stand}}, Sure.{Succeeds.{puts_answer, insertions_answer, either}, SureLinks.{links_answer}}, Spares.Unused.{others_leave_none, puts_leave_tidy, stays_ready}, results.{SureResults.{for_memory, so_ready, fails_for, or_as, IsWritten, commit_succeeds, shown_read}, Told.{called}}}
use Rattle.cacache_value.specs.Value.{AtLink}
use Rattle.cacache_history.specs.Values.{IsThere}
use Rattle.cacache_calls.specs.declared.command.Command.TheVariants as commands

-- ---- what stays

-- if added bytes lie at the address of others, they are the same
pub untouched : (cache : List ℕ) (written : Option (List ℕ)) (own : List Hash) (added : List ℕ) (old new : List LogItem) → KeepsBeside cache written own added old new
    → KeepsUntouched cache written own added old new
untouched cache written own added old new k = search rules

-- ---- writes

pub leads_so : (cache key : List ℕ) (a : Algorithm) (bytes : List ℕ) (moment : ℕ) (old new : List LogItem) → MayLeadToPut cache (plain_put a key bytes moment) old new
    → (found_under cache key new ≡ found_under cache key old) ⊎ (leads_to cache key new ≡ Some (integrity_under a bytes))
leads_so cache key a bytes moment old new may = search rules

-- such a write stores, if memory isn't refused
pub keyed_succeeds : (a : Algorithm) (cache key bytes : List ℕ) (moment : ℕ) (r : Result (List Hash) Error) (old new : List LogItem) → IsUtf8 key → length bytes < 2 ^ 64 → moment < 2 ^ 64 → IsReady cache old → IsStanding cache old
    → Called cache (commands.Put (plain_put a key bytes moment)) (reply_of Stored r) old new → FailsForMemory r
unfolding refused_cause
keyed_succeeds a cache key bytes moment r old new utf8 small early ready standing c =
    let p = plain_put a key bytes moment in
    let w = bare_written key (Some (integrity_text (integrity_under a bytes))) moment (length bytes) utf8 (integrity_utf8 (integrity_under a bytes)) early small in
    let fits : put_reply cache (plain_put a key bytes moment) ≡ Stored (integrity_under a bytes) = ap (unless_unwritable (Stored (integrity_under a bytes))) w.no_cause in
    let answers = puts_answer cache p (reply_of Stored r) old new c ready.folder standing (ready.tidy c.number) in
    for_memory Stored r (Stored (integrity_under a bytes)) tt (or_as (reply_of Stored r) fits (either (reply_of Stored r) (λ h. h.0) answers))

-- what a write gave and left on a standing store
left_told : (a : Algorithm) (cache key bytes : List ℕ) (moment : ℕ) (r : Result (List Hash) Error) (old new : List LogItem) → PutStands cache (plain_put a key bytes moment) (reply_of Stored r) old new
    → IsPlainPut cache key (plain_put a key bytes moment)
    → IfOk r (λ i. (i ≡ integrity_under a bytes) × HasKey cache key i bytes new) × IfErr r (λ e. IsExcused e old new)
left_told a cache key bytes moment (Ok i) old new k plain =
    let h = k.stored i refl in
    ((h.stored, has_key a cache key bytes moment i new h.stored (h.entry key refl) h.content), tt)
left_told a cache key bytes moment (Err e) old new k plain = (tt, excused_error e old new (k.fails key (without_message e) plain refl))

pub left_write_means : {C N : Type 0} (moments : C → Option (List ℕ)) (numbers : N → Option (List ℕ)) (a : Algorithm) (cache key bytes : List ℕ) (r : Result (List Hash) Error) (new : Env (List LogItem) C N)
    → IsUtf8 key → length bytes < 2 ^ 64 → IsLog new.store → LeftWriteMeans moments numbers a cache key bytes r new
unfolding refused_cause
left_write_means moments numbers a cache key bytes r new utf8 small logged old standing ran =
    let p = plain_put a key bytes ran.0 in
    let c = called Stored (λ i. refl) r cache old.base ran.1 (commands.Put (plain_put a key bytes ran.0)) old.store new.store ran.4.0 logged in
    let w = bare_written key (Some (integrity_text (integrity_under a bytes))) ran.0 (length bytes) utf8 (integrity_utf8 (integrity_under a bytes)) ran.2.1 small in
    let k = standing_writes cache p (reply_of Stored r) old.store new.store (plain_writes_fit a cache key bytes ran.0 utf8 small ran.2.1) tt standing c in
    let told = left_told a cache key bytes ran.0 r old.store new.store k (record { key_is = refl; no_integrity = refl; no_size = refl; written = w.no_cause }) in
    record {
      standing = k.standing;
      stored = told.0;
      leads = leads_so cache key a bytes ran.0 old.store new.store k.may_lead;
      keeps = k.keeps;
      fails = told.1;
      succeeds = λ ready. keyed_succeeds a cache key bytes ran.0 r old.store new.store utf8 small ran.2.1 ready standing c;
    }

-- ---- on a cache

pub write_means : {C N : Type 0} (moments : C → Option (List ℕ)) (numbers : N → Option (List ℕ)) (a : Algorithm) (cache key bytes : List ℕ) (r : Result (List Hash) Error) (new : Env (List LogItem) C N)
    → IsUtf8 key → length bytes < 2 ^ 64 → IsLog new.store → WriteMeans moments numbers a cache key bytes r new
write_means moments numbers a cache key bytes r new utf8 small logged old sound ran =
    let p = plain_put a key bytes ran.0 in
    let c = called Stored (λ i. refl) r cache old.base ran.1 (commands.Put (plain_put a key bytes ran.0)) old.store new.store ran.4.0 logged in
    let fits = plain_writes_fit a cache key bytes ran.0 utf8 small ran.2.1 in
    let left = left_write_means moments numbers a cache key bytes r new utf8 small logged old (caches_stand cache old.store sound) ran in
    record {
      sound = (writes_keep cache p (reply_of Stored r) old.store new.store fits sound c).0;
      grows = calls_grow cache (commands.Put p) (reply_of Stored r) old.store new.store c;
      stored = left.stored;
      leads = left.leads;
      keeps = untouched cache (Some key) (integrity_under a bytes) bytes old.store new.store left.keeps;
      fails = left.fails;
      succeeds = left.succeeds;
      ready = λ ready. so_ready Stored (λ i. tt) cache r old.store new.store (λ ready. puts_leave_tidy cache p (reply_of Stored r) old.store new.store c ready.folder fits sound ready.tidy) ready;
    }

-- ---- without a key

no_entry : (a : Algorithm) (cache bytes : List ℕ) → FitsEntry cache (unkeyed_put a bytes)
no_entry a cache bytes key is = absurd cc

content_so : (a : Algorithm) (cache bytes : List ℕ) (r : Result (List Hash) Error) (old new : List LogItem) → IsCache cache old → Called cache (commands.Put (unkeyed_put a bytes)) (reply_of Stored r) old new
    → IfOk r (λ i. (i ≡ integrity_under a bytes) × HasContent cache i bytes new) × IfErr r (λ e. IsExcused e old new)
content_so a cache bytes (Ok i) old new sound c =
    let h = (standing_writes cache (unkeyed_put a bytes) (Stored i) old new (no_entry a cache bytes) tt (caches_stand cache old sound) c).stored i refl in
    ((h.stored, subst (λ j. HasContent cache j bytes new) (sym h.stored) h.content), tt)
content_so a cache bytes (Err e) old new sound c =
    let p = unkeyed_put a bytes in
    let k = known cache (commands.Put p) (Refused (without_message e)) old new c (no_entry a cache bytes) tt sound in (
      tt,
      excused_error e old new
          (excuse cache c.base (commands.Put p) old new (λ fault none. none) (without_message e) k
          (contents_fail (site_of cache c.base k.call.number) p k.call.moves (Refused (without_message e)) refl refl refl k.run)),
    )

pub content_write_means : {C N : Type 0} (moments : C → Option (List ℕ)) (numbers : N → Option (List ℕ)) (a : Algorithm) (cache bytes : List ℕ) (r : Result (List Hash) Error) (new : Env (List LogItem) C N)
    → IsLog new.store → ContentWriteMeans moments numbers a cache bytes r new
content_write_means moments numbers a cache bytes r new logged old sound ran =
    let p = unkeyed_put a bytes in
    let c = called Stored (λ i. refl) r cache old.base ran.0 (commands.Put (unkeyed_put a bytes)) old.store new.store ran.2.0 logged in
    let kept = writes_keep cache p (reply_of Stored r) old.store new.store (no_entry a cache bytes) sound c in
    let told = content_so a cache bytes r old.store new.store sound c in
    record {
      sound = kept.0;
      grows = calls_grow cache (commands.Put p) (reply_of Stored r) old.store new.store c;
      stored = told.0;
      keeps = untouched cache None (integrity_under a bytes) bytes old.store new.store kept.1;
      fails = told.1;
      succeeds = λ ready.
          for_memory Stored r (Stored (integrity_under a bytes)) tt
          (either (reply_of Stored r) (λ h. h.0) (puts_answer cache p (reply_of Stored r) old.store new.store c ready.folder (caches_stand cache old.store sound) (ready.tidy c.number)));
      ready = λ ready.
          so_ready Stored (λ i. tt) cache r old.store new.store (λ ready. puts_leave_tidy cache p (reply_of Stored r) old.store new.store c ready.folder (no_entry a cache bytes) sound ready.tidy) ready;
    }

-- ---- insertions

-- the integrity of an entry that is found
led_so : (e : Entry) (o : Option (List Hash)) → option_map (λ (f : Found). f.integrity) (option_map (found_of e) o) ≡ o
led_so e o = grind (arith, common_steps)

inserted_so : (r : Result (List Hash) Error) (cache : List ℕ) (i : Insert) (old new : List LogItem) → refused_cause (insertion cache i) ≡ None → InsertsKey cache i (reply_of Stored r) old new
    → IfOk r (λ j. leads_to cache i.key new ≡ i.options.integrity) × IfErr r (λ e. IsExcused e old new)
inserted_so r cache i old new fits h = grind (arith, led_so, excused_error)

pub early_of : {C : Type 0} (moments : C → Option (List ℕ)) (time : Option ℕ) (old new : C) (moment : ℕ) → ((t : ℕ) → time ≡ Some t → t < 2 ^ 64) → HasMoment moments time old new moment → moment < 2 ^ 64
early_of moments time old new moment early h = grind (arith, common_steps)

-- the entry of a plain insertion
entry_written : (key : List ℕ) (said : Said) (moment : ℕ) → IsUtf8 key → moment < 2 ^ 64 → SaysPlain said → Written (entry_of key (given_text said.integrity) (given_size said.size) moment (options_of said))
entry_written key said moment utf8 early plain =
    let at : Option ℕ → Data → Option (List ℕ) → Entry
    = λ size metadata raw. record { key = key; integrity = given_text said.integrity; time = moment; size = given_size size; metadata = metadata; raw_metadata = raw } in
    subst (λ s. Written (at s said.metadata said.raw_metadata)) (sym plain.size)
    (subst (λ m. Written (at None m said.raw_metadata)) (sym plain.metadata)
    (subst (λ raw. Written (at None null raw)) (sym plain.raw_metadata)
    (bare_written key (given_text said.integrity) moment 0 utf8 (given_utf8 said.integrity) early (omega arith))))

-- an insertion whose entry can be written is done, if memory isn't refused
insertion_succeeds : (cache : List ℕ) (i : Insert) (r : Result (List Hash) Error) (old new : List LogItem) → refused_cause (insertion cache i) ≡ None → NamesFolder cache → IsCache cache old
    → Called cache (commands.Insert i) (reply_of Stored r) old new → FailsForMemory r
insertion_succeeds cache i r old new fits folder sound c =
    for_memory Stored r (insertion cache i).reply tt
    (or_as (reply_of Stored r) (ap (unless_unwritable (insertion cache i).reply) fits) (insertions_answer cache i (reply_of Stored r) old new folder (caches_stand cache old sound) c))

pub insertion_means : {C N : Type 0} (moments : C → Option (List ℕ)) (numbers : N → Option (List ℕ)) (cache key : List ℕ) (said : Said) (r : Result (List Hash) Error) (new : Env (List LogItem) C N)
    → IsUtf8 key → IsLog new.store → InsertionMeans moments numbers cache key said r new
unfolding refused_cause
insertion_means moments numbers cache key said r new utf8 logged old plain sound ran =
    let i = insert_of key said ran.0 in
    let c = called Stored (λ i. refl) r cache old.base 0 (commands.Insert (insert_of key said ran.0)) old.store new.store ran.2.0 logged in
    let w = entry_written key said ran.0 utf8 (early_of moments said.time old.clock new.clock ran.0 plain.early ran.1) plain in
    let done = inserts_last cache i (reply_of Stored r) old.store new.store plain.formed (λ none. w.formed) sound c in
    let told = inserted_so r cache i old.store new.store w.no_cause done.1 in
    record {
      sound = done.0;
      grows = calls_grow cache (commands.Insert i) (reply_of Stored r) old.store new.store c;
      leads = told.0;
      others = done.2;
      fails = told.1;
      succeeds = λ folder. insertion_succeeds cache i r old.store new.store w.no_cause folder sound c;
      ready = stays_ready cache old.store new.store (others_leave_none cache (commands.Insert i) (reply_of Stored r) old.store new.store c (λ none. w.formed) tt tt sound);
    }

-- if nothing was said of a link, its integrity is that of its bytes
own_is : (cache : List ℕ) (key : Option (List ℕ)) (target : List ℕ) (moment : ℕ) (path held : List ℕ) (i : List Hash) (old new : List LogItem)
    → HasLinked cache (put_like (link_to key target moment) held) path i old new → i ≡ integrity_under Sha256 held
own_is cache key target moment path held i old new h = grind (arith, common_steps)

pub lies_so : (cache path : List ℕ) (own i : List Hash) (old new : List LogItem) → i ≡ own
    → (lies_under cache own new ≡ Some (AtLink path)) ⊎ (IsThere (lies_under cache own old) × (lies_under cache own new ≡ lies_under cache own old)) → LiesLinked cache i path old new
lies_so cache path own i old new is h none = grind (arith, common_steps)

module _ (cache : List ℕ) (key : Option (List ℕ)) (target : List ℕ) (moment : ℕ) (path held : List ℕ) (old new : List LogItem) where
  may_lead_so : (k : List ℕ) → (found_under cache k new ≡ found_under cache k old) ⊎ (found_under cache k new ≡ Some (entry_of_put cache (put_like (link_to key target moment) held) k))
      → (found_under cache k new ≡ found_under cache k old) ⊎ (leads_to cache k new ≡ Some (integrity_under Sha256 held))
  may_lead_so k may = elim may [ inl same ↦ inl same | inr entry ↦ inr (ap (option_map (λ (f : Found). f.integrity)) entry) ]

  links_bytes : (r : Result (List Hash) Error) → LeavesLink cache (put_like (link_to key target moment) held) path (reply_of Stored r) old new → LinksBytes cache key path held r old new
  links_bytes (Ok i) h =
      let l = h.links i refl in
      let own = own_is cache key target moment path held i old new l in
      record {
        stored = own;
        leads = λ k is. ap (option_map (λ (f : Found). f.integrity)) (l.entry k is) ∙ ap Some (sym own);
        lies = lies_so cache path (integrity_under Sha256 held) i old new own l.lies;
        may_lead = λ k is. may_lead_so k (h.leads k is);
        beside = h.beside;
      }
  links_bytes (Err e) h = record { stored = tt; leads = tt; lies = tt; may_lead = λ k is. may_lead_so k (h.leads k is); beside = h.beside }

-- ---- calls

-- what is linked once these bytes were read
abbrev link_commit : List ℕ → List ℕ → Option (List ℕ) → List ℕ → ℕ → List ℕ → Commit
link_commit cache base key target moment bytes =
    commit_for (with_size (link_target (record { cache = cache; base = base; number = 0 }) (link_to key target moment)) (length bytes)) bytes

link_written : (cache base key target : List ℕ) (moment : ℕ) (bytes : List ℕ) → IsUtf8 key → moment < 2 ^ 64 → length bytes < 2 ^ 64 → IsWritten (link_commit cache base (Some key) target moment bytes)
unfolding refused_cause
link_written cache base key target moment bytes utf8 early small k is =
    let same : key ≡ k = cc in
    (bare_written k (Some (integrity_text (integrity_under Sha256 bytes))) moment (length bytes) (subst IsUtf8 same utf8) (integrity_utf8 (integrity_under Sha256 bytes)) early small).no_cause

-- what a call left, by the law of links
module _ (cache : List ℕ) (key : Option (List ℕ)) (target : List ℕ) (moment : ℕ) (base : List ℕ) (r : Result (List Hash) Error) (old new : List LogItem) (logged : IsLog new)
    (fits : FitsLink cache (link_to key target moment)) (written : (bytes : List ℕ) → length bytes < 2 ^ 64 → IsWritten (link_commit cache base key target moment bytes)) (apart : IsApart cache (based base target)) (sound : IsCache cache old)
    (ran : Ran (opening (site_of cache base 0) (commands.Link (link_to key target moment))) (reply_of Stored r) (Some old) (Some new)) where
  linked_file : LinkedFile cache key (based base target) r old new
  linked_file =
      let l = link_to key target moment in
      let c = called Stored (λ i. refl) r cache base 0 (commands.Link (link_to key target moment)) old new ran logged in
      let w = links_last cache l (reply_of Stored r) old new c fits apart sound in
      let into = link_target (record { cache = cache; base = base; number = 0 }) (link_to key target moment) in
      let answers : NamesFolder cache → OrMemory (reply_of Stored r ≡ link_reply into old (target_bytes (based base target) old)) (reply_of Stored r)
      = λ folder. links_answer cache l (reply_of Stored r) old new c folder (caches_stand cache old sound) apart in
      record {
        sound = w.0;
        grows = calls_grow cache (commands.Link l) (reply_of Stored r) old new c;
        of = λ held shows. links_bytes cache key target moment (based base target) held old new r (w.1 held tt shows);
        succeeds = λ held folder shows small leads.
            commit_succeeds (link_commit cache base key target moment held) r old (written held small) refl (inr refl) leads
            (or_as (reply_of Stored r) (ap (link_reply into old) (shown_read (tree_of old) (based base target) held shows)) (answers folder));
        unread = λ fault folder is. fails_for Stored (λ i. tt) r (IoError fault []) (or_as (reply_of Stored r) (ap (link_reply into old) is) (answers folder));
      }

pub link_means : {C N : Type 0} (moments : C → Option (List ℕ)) (cache key target : List ℕ) (r : Result (List Hash) Error) (new : Env (List LogItem) C N) → IsUtf8 key → IsLog new.store
    → LinkMeans moments cache key target r new
link_means moments cache key target r new utf8 logged old apart sound ran = search (rules, linked_file, plain_writes_fit, link_written)

pub content_link_means : {C N : Type 0} (cache target : List ℕ) (r : Result (List Hash) Error) (new : Env (List LogItem) C N) → IsLog new.store → ContentLinkMeans cache target r new
content_link_means cache target r new logged old apart sound ran =
    linked_file cache None target 0 old.base r old.store new.store logged (λ bytes small k is. absurd cc) (λ bytes small k is. absurd cc) apart sound ran.0.0
