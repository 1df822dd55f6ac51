-- What reads and questions gave and left.
-- What a listing gave and left.
use Rattle.std.proofs.{Common.{arith, rules, ◌≡◌, inl, inr, ℕ, Bool, true, false, List, [], Option, None, Some, Vec, Global, Result, Ok, Err, refl, sym, ap, subst, ◌∙◌, ◌∷◌, map}, lemmas.{Grind.{common_steps}, List.Elements.{All-nil, All-cons, All-head, All-tail}}}
use Rattle.std.specs.Prelude.{IfOk, IfErr, MatchResult, option_map, All}
use Rattle.cacache_core.specs.{declared.{errors.{Error.{TheVariants.{IntegrityError, OutOfMemory}, Error}, Fault.{Fault}}, integrity.digest.Hash.{Hash}}, Integrity.{Meets, IsIntegrity}, Paths.{home_of}}
use Rattle.cacache_value.specs.{Value.{InFile}, Shows.{blob_bytes, blob_there}}
use Rattle.cacache_store.specs.declared.{env.Env.{Env}, store.log.LogItem.{LogItem}}
use Rattle.cacache_entry.specs.{declared.metadata.Metadata.{Metadata}, Bucket.{Found}, View.{found_view}}
use Rattle.cacache_calls.specs.{Replies.{looked_up, OrMemory, content_reply, In}, Runs.{reply_of, plain_item, plain_reply, without_message}, declared.reply.Reply.{Reply}, State.{Item}}
use Rattle.cacache_sync.specs.Reads.{bytes_read}
use Rattle.cacache_laws.specs.{Caches.{HasContent, HasKey, IsExcused, AStepFailed, GivesBytes, setup_at, Called}, Inserts.{leads_to}, Beside.{found_under}, Looks.{GivesFound, GivesHeld, GivesOfKey}, ReadAnswers.{get_on, read_on}, Succeeds.{NamesFolder, exists_reply, is_yes}, results.{Reads.{ContentReadMeans, GivesJust, GivesNoEntry, LinksToFile, LiesWhole, KeyLiesWhole, KeyReadMeans, LookupMeans, QuestionMeans}, Success.{FailsForMemory}, Lists.{AreAllEntries, FailsListing, GivesError, ListingMeans}}, ListedKeys.{AreAllFound, GivesKeys, IsShown, ListsKeys}}
use Rattle.cacache_laws.proofs.{Readings.{GivenReads.{Says, asks_held, content_reads_give, key_reads_give, reads_key, finds_found}, Known.{caches_last}, Looks.{tree_stays}, Standing.{caches_stand, met_reply}}, Links.TargetBytes.{links_show}, Sure.{Succeeds.{content_reads_answer, key_reads_answer, lookups_answer, questions_answer}, SureLists.{listings_answer}}, results.{SureResults.{for_memory, for_missing, or_as}, Told.{called, looks_leave}}, Calls.CallErrors.{missing_error, excused_error, memory_error, plain_error}, Listings.ListedKeys.{listings_give}}
use Rattle.cacache_disk.specs.Replay.{IsLog, tree_of}
use Rattle.cacache_history.specs.Turns.{as_refusal}
use Rattle.cacache_calls.specs.declared.command.Command.TheVariants as commands
use Rattle.cacache_calls.specs.declared.reply.Reply.TheVariants as replies

-- ---- reads

pub given : (r : Result (Vec ℕ Global) Error) (Stays : Type 0) (bytes : List ℕ) (old new : List LogItem) → GivesBytes Stays bytes (reply_of bytes_read r) old new → GivesJust bytes r old new
given r Stays bytes old new h = grind (arith, excused_error)

none_given : (r : Result (Vec ℕ Global) Error) (cache key : List ℕ) (old new : List LogItem) → found_under cache key old ≡ None → GivesOfKey cache key (reply_of bytes_read r) old new → GivesNoEntry cache key r old new
none_given r cache key old new lacks h = grind (arith, missing_error, excused_error)

whole_of : (r : Result (Vec ℕ Global) Error) (cache key : List ℕ) (old new : List LogItem) → GivesOfKey cache key (reply_of bytes_read r) old new → IfOk r (λ v. KeyLiesWhole cache key old v.items)
whole_of r cache key old new h = grind (arith, common_steps)

-- if a link lies there, whole bytes are those that its target shows
linked_whole : (cache target held bytes : List ℕ) (i : List Hash) (log : List LogItem) → LinksToFile cache i target held log → LiesWhole cache i log bytes → bytes ≡ held
linked_whole cache target held bytes i log at h = links_show cache target bytes held i log at.lies at.shows h.0

linked_of : (r : Result (Vec ℕ Global) Error) (cache key target held : List ℕ) (i : List Hash) (old : List LogItem) → leads_to cache key old ≡ Some i → LinksToFile cache i target held old
    → IfOk r (λ v. KeyLiesWhole cache key old v.items) → IfOk r (λ v. v.items ≡ held)
linked_of (Ok v) cache key target held i old leads at h =
    let led : Some h.0.integrity ≡ Some i = sym (ap (option_map (λ (f : Found). f.integrity)) h.1) ∙ leads in
    let same : h.0.integrity ≡ i = cc in
    linked_whole cache target held v.items i old at (subst (λ j. LiesWhole cache j old v.items) same h.2)
linked_of (Err e) cache key target held i old leads at h = tt

linked_held : (r : Result (Vec ℕ Global) Error) (cache target held : List ℕ) (i : List Hash) (old : List LogItem) → LinksToFile cache i target held old
    → IfOk r (λ v. LiesWhole cache i old v.items) → IfOk r (λ v. v.items ≡ held)
linked_held (Ok v) cache target held i old at h = linked_whole cache target held v.items i old at h
linked_held (Err e) cache target held i old at h = tt

-- a read of bytes that meet their integrity gives them, also through a link
pub whole_gives : (cache : List ℕ) (i : List Hash) (bytes : List ℕ) (log : List LogItem) → LiesWhole cache i log bytes → read_on (home_of cache) (tree_of log) i ≡ replies.Read bytes
whole_gives cache i bytes log lies = ap (λ held. content_reply i (as_refusal held)) lies.0 ∙ met_reply i bytes lies.1

pub lies_whole : (cache : List ℕ) (i : List Hash) (bytes : List ℕ) (log : List LogItem) → HasContent cache i bytes log → LiesWhole cache i log bytes
lies_whole cache i bytes log has = (ap (blob_bytes (tree_of log)) has.content, has.meets)

key_gives : (cache key : List ℕ) (i : List Hash) (bytes : List ℕ) (log : List LogItem) → HasKey cache key i bytes log → get_on (setup_at cache []) (tree_of log) key (found_under cache key log) ≡ replies.Read bytes
key_gives cache key i bytes log has = search (rules, whole_gives, lies_whole)

-- and so does a read by key
led_gives : (cache key : List ℕ) (i : List Hash) (bytes : List ℕ) (log : List LogItem) (o : Option Found) → option_map (λ (f : Found). f.integrity) o ≡ Some i → LiesWhole cache i log bytes
    → get_on (setup_at cache []) (tree_of log) key o ≡ replies.Read bytes
led_gives cache key i bytes log o leads lies = grind (arith, whole_gives)

pub key_read_means : {C N : Type 0} (cache key : List ℕ) (r : Result (Vec ℕ Global) Error) (new : Env (List LogItem) C N) → IsLog new.store → KeyReadMeans cache key r new
key_read_means cache key r new logged old sound ran =
    let c = called bytes_read (λ b. refl) r cache old.base 0 (commands.Get key) old.store new.store ran.0.0 logged in
    let any = key_reads_give cache key (reply_of bytes_read r) old.store new.store sound c in
    record {
      leaves = looks_leave cache (commands.Get key) (reply_of bytes_read r) old.store new.store tt c (caches_last cache (commands.Get key) (reply_of bytes_read r) old.store new.store c tt tt sound);
      same = tree_stays cache (commands.Get key) (reply_of bytes_read r) old.store new.store tt c;
      gives = λ i bytes has. given r (HasKey cache key i bytes new.store) bytes old.store new.store (reads_key cache key bytes i (reply_of bytes_read r) old.store new.store sound has c).1;
      lacks = λ lacks. none_given r cache key old.store new.store lacks any;
      whole = whole_of r cache key old.store new.store any;
      linked = λ i target held leads at. linked_of r cache key target held i old.store leads at (whole_of r cache key old.store new.store any);
      any = any;
      succeeds = λ i bytes folder has.
          for_memory bytes_read r (replies.Read bytes) tt (or_as (reply_of bytes_read r) (key_gives cache key i bytes old.store has) (key_reads_answer cache key (reply_of bytes_read r) old.store new.store folder sound c));
      reads_on = λ i bytes folder leads lies.
          for_memory bytes_read r (replies.Read bytes) tt
          (or_as (reply_of bytes_read r) (led_gives cache key i bytes old.store (found_under cache key old.store) leads lies) (key_reads_answer cache key (reply_of bytes_read r) old.store new.store folder sound c));
      missing = λ folder lacks.
          for_missing bytes_read r cache key (or_as (reply_of bytes_read r) (ap (get_on (setup_at cache []) (tree_of old.store) key) lacks) (key_reads_answer cache key (reply_of bytes_read r) old.store new.store folder sound c));
    }

held_whole : (r : Result (Vec ℕ Global) Error) (cache : List ℕ) (i : List Hash) (old new : List LogItem) → GivesHeld cache i (reply_of bytes_read r) old new → IfOk r (λ v. LiesWhole cache i old v.items)
held_whole r cache i old new h = grind (arith, common_steps)

held_gives : (r : Result (Vec ℕ Global) Error) (cache : List ℕ) (i : List Hash) (bytes : List ℕ) (old new : List LogItem) → LiesWhole cache i old bytes → GivesHeld cache i (reply_of bytes_read r) old new → GivesJust bytes r old new
held_gives (Ok v) cache i bytes old new lies h = let same : ◌≡◌ {A = Result (List ℕ) Fault} (Ok v.items) (Ok bytes) = sym h.0 ∙ lies.0 in cc
held_gives (Err (IntegrityError fault)) cache i bytes old new lies h =
    let same : ◌≡◌ {A = Result (List ℕ) Fault} (Ok h.0) (Ok bytes) = sym h.1 ∙ lies.0 in
    let is : bytes ≡ h.0 = cc in
    absurd (h.2 (subst (Meets i) is lies.1))
held_gives (Err e) cache i bytes old new lies h = grind (arith, excused_error)

pub content_read_means : {C N : Type 0} (cache : List ℕ) (i : List Hash) (r : Result (Vec ℕ Global) Error) (new : Env (List LogItem) C N) → IsIntegrity i → IsLog new.store → ContentReadMeans cache i r new
content_read_means cache i r new formed logged old sound ran =
    let c = called bytes_read (λ b. refl) r cache old.base 0 (commands.GetHash i) old.store new.store ran.0.0 logged in
    let any = content_reads_give cache i (reply_of bytes_read r) old.store new.store formed sound c in
    let reads_on : (bytes : List ℕ) → NamesFolder cache → LiesWhole cache i old.store bytes → FailsForMemory r
    = λ bytes folder lies.
    for_memory bytes_read r (replies.Read bytes) tt
    (or_as (reply_of bytes_read r) (whole_gives cache i bytes old.store lies) (content_reads_answer cache i (reply_of bytes_read r) old.store new.store folder (caches_stand cache old.store sound) formed c)) in
    record {
      leaves = looks_leave cache (commands.GetHash i) (reply_of bytes_read r) old.store new.store tt c (caches_last cache (commands.GetHash i) (reply_of bytes_read r) old.store new.store c tt formed sound);
      same = tree_stays cache (commands.GetHash i) (reply_of bytes_read r) old.store new.store tt c;
      gives = λ bytes has. held_gives r cache i bytes old.store new.store (lies_whole cache i bytes old.store has) any;
      whole = held_whole r cache i old.store new.store any;
      linked = λ target held at. linked_held r cache target held i old.store at (held_whole r cache i old.store new.store any);
      any = any;
      succeeds = λ bytes folder has. reads_on bytes folder (lies_whole cache i bytes old.store has);
      reads_on = reads_on;
    }

-- ---- questions

found : (r : Result (Option Metadata) Error) (there : Option Found) (old new : List LogItem) → GivesFound there (reply_of looked_up r) old new
    → IfOk r (λ found. option_map found_view found ≡ there) × IfErr r (λ e. IsExcused e old new)
found r there old new h = grind (arith, excused_error)

pub lookup_means : {C N : Type 0} (cache key : List ℕ) (r : Result (Option Metadata) Error) (new : Env (List LogItem) C N) → IsLog new.store → LookupMeans cache key r new
lookup_means cache key r new logged old sound ran =
    let c = called looked_up (λ b. refl) r cache old.base 0 (commands.Find key) old.store new.store ran.0.0 logged in
    let f = found r (found_under cache key old.store) old.store new.store (finds_found cache key (reply_of looked_up r) old.store new.store sound c) in
    record {
      leaves = looks_leave cache (commands.Find key) (reply_of looked_up r) old.store new.store tt c (caches_last cache (commands.Find key) (reply_of looked_up r) old.store new.store c tt tt sound);
      same = tree_stays cache (commands.Find key) (reply_of looked_up r) old.store new.store tt c;
      finds = f.0;
      fails = f.1;
      succeeds = λ folder.
          for_memory looked_up r (replies.LookedUp (found_under cache key old.store)) tt (lookups_answer cache key (reply_of looked_up r) old.store new.store folder (caches_stand cache old.store sound) c);
    }

said : (r : Result Bool Error) (Failed : Type 0) → Says true Failed (reply_of replies.Exists r) → MatchResult r (λ there. there ≡ false → Failed) (λ e. e ≡ OutOfMemory)
said r Failed h = grind (arith, memory_error)

-- a yes about bytes that lie there
held_yes : (r : Result Bool Error) (cache : List ℕ) (i : List Hash) (bytes : List ℕ) (log : List LogItem) → HasContent cache i bytes log → OrMemory (reply_of replies.Exists r ≡ exists_reply cache i log) (reply_of replies.Exists r)
    → IfOk r (λ there. there ≡ true)
held_yes r cache i bytes log has h = grind (arith, common_steps)

denied : (r : Result Bool Error) (Failed : Type 0) → Says false Failed (reply_of replies.Exists r) → MatchResult r (λ there. there ≡ false) (λ e. e ≡ OutOfMemory)
denied r Failed h = grind (arith, memory_error)

pub question_means : {C N : Type 0} (cache : List ℕ) (i : List Hash) (r : Result Bool Error) (new : Env (List LogItem) C N) → IsIntegrity i → IsLog new.store → QuestionMeans cache i r new
question_means cache i r new formed logged old sound ran =
    let c = called replies.Exists (λ b. refl) r cache old.base 0 (commands.Exists i) old.store new.store ran.0.0 logged in
    record {
      leaves = looks_leave cache (commands.Exists i) (reply_of replies.Exists r) old.store new.store tt c (caches_last cache (commands.Exists i) (reply_of replies.Exists r) old.store new.store c tt formed sound);
      same = tree_stays cache (commands.Exists i) (reply_of replies.Exists r) old.store new.store tt c;
      there = λ bytes has. said r (AStepFailed old.store new.store) (asks_held true cache i (Some (InFile bytes)) (reply_of replies.Exists r) old.store new.store sound formed has.content refl c);
      absent = λ none. denied r (AStepFailed old.store new.store) (asks_held false cache i None (reply_of replies.Exists r) old.store new.store sound formed none refl c);
      succeeds = λ folder.
          for_memory replies.Exists r (exists_reply cache i old.store) tt (questions_answer cache i (reply_of replies.Exists r) old.store new.store folder (caches_stand cache old.store sound) formed c);
      held = λ bytes folder has. held_yes r cache i bytes old.store has (questions_answer cache i (reply_of replies.Exists r) old.store new.store folder (caches_stand cache old.store sound) formed c);
    }

-- ---- replies without messages

item_plain : (item : Item) → plain_item (plain_item item) ≡ plain_item item
item_plain item = grind (arith, plain_error)

items_plain : (items : List Item) → map plain_item (map plain_item items) ≡ map plain_item items
items_plain [] = refl
items_plain (item ∷ items) = ap (λ x. x ∷ map plain_item (map plain_item items)) (item_plain item) ∙ ap (λ l. plain_item item ∷ l) (items_plain items)

reply_plain : (r : Reply) → plain_reply (plain_reply r) ≡ plain_reply r
reply_plain (replies.Listed items) = ap (λ l. replies.Listed l) (items_plain items)
reply_plain (replies.Refused e) = ap (λ x. replies.Refused x) (plain_error e)
reply_plain r = refl

-- ---- entries alone

plain_entries : (entries : List Found) → map plain_item (map (λ f. Ok f) entries) ≡ map (λ f. Ok f) entries
plain_entries [] = refl
plain_entries (f ∷ fs) = ap (λ l. Ok f ∷ l) (plain_entries fs)

are_found : (entries : List Found) → AreAllFound (map (λ f. Ok f) entries)
are_found [] = tt
are_found (f ∷ fs) = are_found fs

each_entry : (cache : List ℕ) (old new : List LogItem) (entries : List Found) → All (IsShown cache old new) (map (λ f. Ok f) entries) → All (λ entry. found_under cache entry.key old ≡ Some entry) entries
each_entry cache old new [] h = All-nil (λ entry. found_under cache entry.key old ≡ Some entry)
each_entry cache old new (f ∷ fs) h =
    All-cons (λ (entry : Found). found_under cache entry.key old ≡ Some entry) f fs (All-head (IsShown cache old new) (Ok f) (map (λ f. Ok f) fs) h)
    (each_entry cache old new fs (All-tail (IsShown cache old new) (Ok f) (map (λ f. Ok f) fs) h))

in_entries : (f : Found) (entries : List Found) → In {X = Item} (Ok f) (map (λ f. Ok f) entries) → In f entries
in_entries f [] i = i
in_entries f (g ∷ gs) (inl e) = inl cc
in_entries f (g ∷ gs) (inr i) = inr (in_entries f gs i)

are_entries : (cache : List ℕ) (r : Reply) (entries : List Found) (old new : List LogItem) → r ≡ replies.Listed (map (λ f. Ok f) entries) → GivesKeys cache (plain_reply r) old new → AreAllEntries cache old entries
are_entries cache r entries old new is h =
    let all : ListsKeys cache (map plain_item (map (λ f. Ok f) entries)) old new = subst (λ x. GivesKeys cache (plain_reply x) old new) is h in
    let lists : ListsKeys cache (map (λ f. Ok f) entries) old new = subst (λ l. ListsKeys cache l old new) (plain_entries entries) all in
    record { each = each_entry cache old new entries lists.shown; all = λ key entry leads. in_entries entry entries (lists.all (are_found entries) key entry leads) }

-- ---- errors

item_shown : (cache : List ℕ) (old new : List LogItem) (e : Error) (items : List Item) → All (IsShown cache old new) (map plain_item items) → In {X = Item} (Err e) items → IsShown cache old new (Err (without_message e))
item_shown cache old new e [] all i = absurd i
item_shown cache old new e (item ∷ items) all (inl is) = subst (λ (x : Item). IsShown cache old new (plain_item x)) (sym is) (All-head (IsShown cache old new) (plain_item item) (map plain_item items) all)
item_shown cache old new e (item ∷ items) all (inr i) = item_shown cache old new e items (All-tail (IsShown cache old new) (plain_item item) (map plain_item items) all) i

fails_so : (cache : List ℕ) (r : Reply) (old new : List LogItem) → GivesKeys cache (plain_reply r) old new → (e : Error) → GivesError r e → FailsListing e old new
fails_so cache (replies.Listed items) old new h e i = elim (item_shown cache old new e items h.shown i) [ inl f ↦ inl (inr f) | inr deep ↦ inr deep ]
fails_so cache (replies.Refused refusal) old new h e is = inl (inl (sym is ∙ memory_error refusal h))
fails_so cache r old new h e never = absurd never

pub listing_means : {C N : Type 0} (cache : List ℕ) (r : Reply) (new : Env (List LogItem) C N) → IsLog new.store → ListingMeans cache r new
listing_means cache r new logged old sound ran =
    let c : Called cache commands.Ls (plain_reply r) old.store new.store = record { base = old.base; number = 0; ran = ran; plain = reply_plain r; logged = logged } in
    let gives = listings_give cache (plain_reply r) old.store new.store sound c in
    record {
      leaves = looks_leave cache commands.Ls (plain_reply r) old.store new.store tt c (caches_last cache commands.Ls (plain_reply r) old.store new.store c tt tt sound);
      same = tree_stays cache commands.Ls (plain_reply r) old.store new.store tt c;
      entries = λ entries is. are_entries cache r entries old.store new.store is gives;
      fails = fails_so cache r old.store new.store gives;
      any = gives;
      succeeds = λ folder. listings_answer cache (plain_reply r) old.store new.store folder (caches_stand cache old.store sound) c;
    }
