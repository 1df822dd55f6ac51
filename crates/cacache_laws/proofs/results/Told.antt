-- What laws say of replies, as results say it; what was expected of a commit's bytes, and results of calls after one another.
use Rattle.std.proofs.{Common.{arith, rules, ◌≡◌, ℕ, List, [], Some, Result, Ok, Err, append-nil, map, sym, ap, ◌∙◌, Bool, true, false, cond, Option, None, length, refl, subst, inl, inr, ◌∷◌, ◌++◌}, lemmas.Grind.{common_steps}}
use Rattle.std.specs.Prelude.{Contains, IfSome, is_some}
use Rattle.cacache_core.specs.{declared.{errors.{Error.{Error}, Fault.{Fault}}, integrity.{algorithm.Algorithm.{Algorithm}, digest.Hash.{Hash}}}, Integrity.{digest, HasDigest, hash_of, integrity_under}, Matching.{matching}}
use Rattle.cacache_core.proofs.Meeting.{matching_finds}
use Rattle.cacache_store.specs.declared.{env.Env.{Env}, store.{log.LogItem.{LogItem, TheVariants.{Made}}, plain.PlainTemp.{PlainTemp}}}
use Rattle.cacache_disk.specs.Replay.{IsLog}
use Rattle.cacache_calls.specs.{declared.{command.Command.{Command}, reply.Reply.{Reply, TheVariants.{Refused, Stored}}, carried.Commit.{Commit}}, Runs.{Ran, plain_reply, reply_of, Moves, Runs}, Table.{opening}, Promises.{Promises, Stores, Suits, Faulted}, State.{persisting, syncing}, Storing.{matches, persist, put_commit}}
use Rattle.cacache_calls.proofs.Promises.{runs_keep}
use Rattle.cacache_jobs.specs.{Environment.{Steps}, JobStates.{site_of}}
use Rattle.cacache_laws.specs.{Caches.{Called, Grows, IsCache}, Looks.{OnlyLooks}, OpenWriters.{LeavesKnownCache}, results.{Handles.{AreAsExpected}, Composed.{ExcusesStay, KnownStays, LeavingsJoin, OthersStay, UntouchedJoin}}}
use Rattle.cacache_laws.proofs.{Calls.{Replays.{calls_grow, some_same, growths_join, joined}, CallErrors.{plain_error}}, Readings.{GivenReads.{same_stays_known}, Looks.{looks_keep}, OpenReaders.{log_front}}}
use Rattle.cacache_sync.specs.put.KeyedWriters.{Said, options_of}
use Rattle.cacache_history.proofs.Contents.Digests.{one_of}

pub plain_result : {X : Type 0} (answer : X → Reply) → ((x : X) → plain_reply (answer x) ≡ answer x) → (r : Result X Error) → plain_reply (reply_of answer r) ≡ reply_of answer r
plain_result answer plain r = grind (arith, plain_error)

-- the clause `ran` of a call, and that the log is a disk's, make it one that laws speak of
abbrev pub called : {X : Type 0} (answer : X → Reply) → ((x : X) → plain_reply (answer x) ≡ answer x)
    → (r : Result X Error) (cache base : List ℕ) (number : ℕ) (command : Command) (old new : List LogItem)
    → Ran (opening (site_of cache base number) command) (reply_of answer r) (Some old) (Some new) → IsLog new → Called cache command (reply_of answer r) old new
called answer plain r cache base number command old new ran logged =
    record { base = base; number = number; ran = ran; plain = plain_result answer plain r; logged = logged }

-- a call that only looks leaves what was known
pub looks_leave : (cache : List ℕ) (command : Command) (r : Reply) (old new : List LogItem) → OnlyLooks command → Called cache command r old new → IsCache cache new → LeavesKnownCache cache old new
looks_leave cache command r old new looks c sound = search (rules, same_stays_known, looks_keep, calls_grow)

-- ---- how a log grows by calls

pub steps_grow : {C N : Type 0} (cache : List ℕ) (number : ℕ) (command : Command) (r : Reply) (old new : Env (List LogItem) C N) → Steps (λ log. Some log) old new cache number command r → Grows old.store new.store
steps_grow cache number command r old new s = (s.0.0, some_same new.store _ s.0.2)

pub same_grows : {C N : Type 0} (old new : Env (List LogItem) C N) → new ≡ old → Grows old.store new.store
same_grows {C} {N} old new same = ([], ap (λ (e : Env (List LogItem) C N). e.store) same ∙ sym (append-nil old.store))

-- a log that grew to a disk's log is one
pub front : (old new : List LogItem) → Grows old new → IsLog new → IsLog old
front old new g logged = log_front old new (map (λ m. Made m.0 m.1) g.0) g.1 logged

-- ---- integrities

-- one that matches that of bytes lists their digest
pub lists_own : (expected : List Hash) (a : Algorithm) (bytes : List ℕ) → matches expected (integrity_under a bytes) ≡ true → HasDigest expected a (digest a bytes)
lists_own expected a bytes = by (matching expected (integrity_under a bytes)) refl
  where
    by : (m : Option Algorithm) → matching expected (integrity_under a bytes) ≡ m → is_some m ≡ true → HasDigest expected a (digest a bytes)
    by None e is = absurd cc
    by (Some b) e is =
        let shared = ((matching_finds expected (integrity_under a bytes) b).0 e).1 in
        subst (Contains expected) (sym (one_of (hash_of a (digest a bytes)) (hash_of b shared.0) shared.2)) shared.1

-- and one that lists it matches
pub own_matches : (expected : List Hash) (a : Algorithm) (bytes : List ℕ) → HasDigest expected a (digest a bytes) → matches expected (integrity_under a bytes) ≡ true
own_matches expected a bytes has =
    let found : matching expected (integrity_under a bytes) ≡ Some a = (matching_finds expected (integrity_under a bytes) a).1 (refl, (digest a bytes, has, (0, omega arith, refl))) in
    subst (λ m. is_some m ≡ true) (sym found) refl

-- ---- a commit that stored

pub suits_so : (c : Commit) (file : PlainTemp) (i : List Hash) (moves : Moves) → Runs (persist c file) moves (Stored i) → Suits c
suits_so c file i moves run = search (rules, runs_keep)

if_some : {A : Type 0} (P : A → Type 0) (o : Option A) → ((a : A) → o ≡ Some a → P a) → IfSome o P
if_some P o h = grind (arith, common_steps)

pub as_expected : (cache : List ℕ) (key : Option (List ℕ)) (s : Said) (bytes : List ℕ) (moment : ℕ) → Suits (put_commit cache (record { key = key; «data» = bytes; moment = moment; options = options_of s })) → AreAsExpected s bytes
as_expected cache key s bytes moment suits = search (rules, if_some, lists_own)

-- ---- what calls left after one another

pub leavings_join : LeavingsJoin
leavings_join cache old mid new a b = (
  b.0,
  record {
    finds = λ key. b.1.finds key ∙ a.1.finds key;
    lies = λ i. b.1.lies i ∙ a.1.lies i;
    key = λ key bytes i has. b.1.key key bytes i (a.1.key key bytes i has);
    content = λ i bytes has. b.1.content i bytes (a.1.content i bytes has);
  },
  growths_join old mid new a.2 b.2,
)

pub untouched_join : UntouchedJoin
untouched_join cache written own added old mid new a b = search rules

pub others_stay : OthersStay
others_stay cache except old mid new a b = search rules

pub known_stays : KnownStays
known_stays cache written own added old new h = search rules

faulted_first : (xs ys : Moves) (fault : Fault) → Faulted xs fault → Faulted (xs ++ ys) fault
faulted_first [] ys fault h = absurd h
faulted_first (m ∷ xs) ys fault (inl h) = inl h
faulted_first (m ∷ xs) ys fault (inr h) = inr (faulted_first xs ys fault h)

pub excuses_stay : ExcusesStay
excuses_stay e old mid new (inl is) g = inl is
excuses_stay e old mid new (inr h) g = inr (h.0 ++ g.0, joined old mid new h.0 g.0 h.1 g.1, h.2, faulted_first h.0 g.0 h.2 h.3)
