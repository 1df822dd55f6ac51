-- What comes of a read that fetches and stores what is lacking.
use Rattle.std.proofs.{Common.{arith, rules, ◌≡◌, inl, inr, ◌<◌, ◌^◌, ℕ, List, Option, None, Some, Vec, Global, Result, Ok, Err, length, refl, sym, ap, subst, ◌∙◌}, lemmas.Result.{IfOk-weaker}}
use Rattle.std.specs.Prelude.{IfOk, IsUtf8, MatchResult}
use Rattle.cacache_core.specs.{declared.{errors.Error.{Error, TheVariants.{OutOfMemory}}, integrity.{algorithm.Algorithm.TheVariants.{Sha256}, digest.Hash.{Hash}}}, Integrity.{integrity_under}}
use Rattle.cacache_store.specs.declared.{env.Env.{Env}, store.log.LogItem.{LogItem}}
use Rattle.cacache_disk.specs.Replay.{IsLog, tree_of}
use Rattle.cacache_calls.specs.declared.command.Command.TheVariants as commands
use Rattle.cacache_calls.specs.Runs.{reply_of}
use Rattle.cacache_sync.specs.{Reads.{lack_in, bytes_read}, Layers.{GetsOrPuts, GoesOnFrom, MakesUp, PutsBytes, PutsFetched, once_stored}, put.KeyedWriters.{keyed_put}}
use Rattle.cacache_jobs.specs.Environment.{Calls}
use Rattle.cacache_value.specs.Shows.{blob_bytes}
use Rattle.cacache_laws.specs.{Caches.{Grows, HasContent, HasKey, IsCache, lies_under}, Beside.{StaysKnown, found_under}, results.{Composed.{GotOrPut, LastsBeside}, Reads.{KeyLiesWhole, LiesWhole}, Writes.{DontClash}}}
use Rattle.cacache_laws.proofs.results.{ReadResults.{key_read_means, lies_whole}, Told.{front, same_grows, steps_grow}, WriteResults.{write_means}}

module _ {C N : Type 0} (moments : C → Option (List ℕ)) (numbers : N → Option (List ℕ)) (cache key : List ℕ) (utf8 : IsUtf8 key) where
  -- a cache is left, in which other keys lead where they led, and such bytes lie where they lay
  record Kept (Lasts : List Hash → List ℕ → Type 0) (old new : List LogItem) : Type 0 where
    sound : IsCache cache new
    others : (other : List ℕ) → (other ≡ key → ⊥) → found_under cache other new ≡ found_under cache other old
    content : (i : List Hash) (bytes : List ℕ) → Lasts i bytes → HasContent cache i bytes old → HasContent cache i bytes new

  -- the log grew, and a cache was left, in which the key leads to the bytes of the result, which come from there
  abbrev Leaves : (List Hash → List ℕ → Type 0) → Env (List LogItem) C N → Env (List LogItem) C N → Result (Vec ℕ Global) Error → (Vec ℕ Global → Type 0) → Type 0
  Leaves Lasts old new r From =
      Grows old.store new.store
      × (IsLog new.store → IsCache cache old.store → Kept Lasts old.store new.store × IfOk r (λ v. KeyLiesWhole cache key new.store v.items × From v))

  stopped : (Lasts : List Hash → List ℕ → Type 0) (old new : Env (List LogItem) C N) (r : Result (Vec ℕ Global) Error) (e : Error) (From : Vec ℕ Global → Type 0) → new ≡ old → r ≡ Err e → Leaves Lasts old new r From
  stopped Lasts old new r e From same is = (
    same_grows old new same,
    λ logged sound. (
      subst (λ (n : Env (List LogItem) C N). Kept Lasts old.store n.store) (sym same) (record { sound = sound; others = λ other differ. refl; content = λ i bytes lasts has. has }),
      subst (λ (x : Result (Vec ℕ Global) Error). IfOk x (λ v. KeyLiesWhole cache key new.store v.items × From v)) (sym is) tt,
    ),
  )

  -- ---- bytes that are put

  whole_key : (i : List Hash) (bytes : List ℕ) (log : List LogItem) → HasKey cache key i bytes log → KeyLiesWhole cache key log bytes
  whole_key i bytes log has = (has.found, has.finds, subst (λ j. LiesWhole cache j log bytes) (sym has.integrity) (lies_whole cache i bytes log has.content))

  stored_whole : (stored : Result (List Hash) Error) (own : List Hash) (v : Vec ℕ Global) (log : List LogItem) → IfOk stored (λ i. (i ≡ own) × HasKey cache key i v.items log)
      → IfOk (once_stored v stored) (λ w. KeyLiesWhole cache key log w.items × (w ≡ v))
  stored_whole stored own v log h = grind (arith, whole_key)

  puts : (old new : Env (List LogItem) C N) (v : Vec ℕ Global) (r : Result (Vec ℕ Global) Error) → length v.items < 2 ^ 64 → PutsBytes (λ log. Some log) cache moments numbers key old new v r
      → Leaves (λ i bytes. DontClash i bytes (integrity_under Sha256 v.items) v.items) old new r (λ w. w ≡ v)
  puts old new v r small (stored, ran, is) = (
    steps_grow cache ran.1 (commands.Put (keyed_put Sha256 key v.items ran.0)) _ old new ran.4,
    λ logged sound.
        let w = write_means moments numbers Sha256 cache key v.items stored new utf8 small logged old sound ran in (
          record { sound = w.sound; others = w.keeps.finds; content = w.keeps.content },
          subst (λ (x : Result (Vec ℕ Global) Error). IfOk x (λ y. KeyLiesWhole cache key new.store y.items × (y ≡ v))) (sym is) (stored_whole stored _ v new.store w.stored),
        ),
  )

  -- ---- bytes that are fetched

  module _ (Fetches : Result (Vec ℕ Global) Error → Type 0) (small : (v : Vec ℕ Global) → Fetches (Ok v) → length v.items < 2 ^ 64) where
    puts_fetched : (old new : Env (List LogItem) C N) (fetched r : Result (Vec ℕ Global) Error) → Fetches fetched
        → PutsFetched (λ log. Some log) cache moments numbers key old new fetched r → Leaves (LastsBeside Fetches) old new r (λ w. Fetches (Ok w))
    puts_fetched old new (Err e) r f h = stopped (LastsBeside Fetches) old new r e (λ w. Fetches (Ok w)) h.0 h.1
    puts_fetched old new (Ok v) r f h =
        let p = puts old new v r (small v f) h in (
          p.0,
          λ logged sound.
              let d = p.1 logged sound in (
                record { sound = d.0.sound; others = d.0.others; content = λ i bytes lasts. d.0.content i bytes (lasts v f) },
                IfOk-weaker r _ _ (λ w h. (h.0, subst (λ x. Fetches (Ok x)) (sym h.1) f)) d.1,
              ),
        )

    makes_up : (old new : Env (List LogItem) C N) (lack : Result (Unit {0}) Error) (r : Result (Vec ℕ Global) Error)
        → MakesUp (λ log. Some log) cache moments numbers key Fetches old new lack r → Leaves (LastsBeside Fetches) old new r (λ w. Fetches (Ok w))
    makes_up old new (Err e) r h = stopped (LastsBeside Fetches) old new r e (λ w. Fetches (Ok w)) h.0 h.1
    makes_up old new (Ok lack) r h = puts_fetched old new h.0 r h.1 h.2

    -- ---- the whole

    still_whole : (bytes : List ℕ) (old mid : List LogItem) → tree_of mid ≡ tree_of old → StaysKnown cache old mid → KeyLiesWhole cache key old bytes → KeyLiesWhole cache key mid bytes
    still_whole bytes old mid same k h = search rules

    -- memory that is refused to the read is the result
    refused : (old new : Env (List LogItem) C N) (e : Error) (bytes : List ℕ) (r : Result (Vec ℕ Global) Error) → e ≡ OutOfMemory → MakesUp (λ log. Some log) cache moments numbers key Fetches old new (lack_in e) r
        → MatchResult r (λ v. v.items ≡ bytes) (λ e. e ≡ OutOfMemory)
    refused old new e bytes r is h =
        let same = subst (λ (x : Error). MakesUp (λ log. Some log) cache moments numbers key Fetches old new (lack_in x) r) is h in
        subst (λ (x : Result (Vec ℕ Global) Error). MatchResult x (λ v. v.items ≡ bytes) (λ e. e ≡ OutOfMemory)) (sym same.1) refl

    ended : (old mid new : Env (List LogItem) C N) (read r : Result (Vec ℕ Global) Error) → IsLog new.store → IsCache cache old.store → Calls (λ log. Some log) old mid cache (commands.Get key) (reply_of bytes_read read)
        → GoesOnFrom (λ log. Some log) cache moments numbers key Fetches mid new read r → GotOrPut cache key Fetches r old.store new.store
    ended old mid new (Ok v) r logged sound ran h =
        let k = key_read_means cache key (Ok v) mid (subst (λ (n : Env (List LogItem) C N). IsLog n.store) h.0 logged) old sound ran in
        subst (λ (n : Env (List LogItem) C N). GotOrPut cache key Fetches r old.store n.store) (sym h.0)
        (subst (λ (x : Result (Vec ℕ Global) Error). GotOrPut cache key Fetches x old.store mid.store) (sym h.1)
        (record {
          sound = k.leaves.0;
          leads = still_whole v.items old.store mid.store k.same k.leaves.1 k.whole;
          from = inl k.whole;
          gives = λ i bytes folder has. k.gives i bytes has;
          others = λ other differ. k.leaves.1.finds other;
          keeps = λ i bytes lasts. k.leaves.1.content i bytes;
        }))
    ended old mid new (Err e) r logged sound ran h =
        let made = makes_up mid new (lack_in e) r h in
        let k = key_read_means cache key (Err e) mid (front mid.store new.store made.0 logged) old sound ran in
        let d = made.1 logged k.leaves.0 in
        record {
          sound = d.0.sound;
          leads = IfOk-weaker r _ _ (λ w h. h.0) d.1;
          from = IfOk-weaker r _ _ (λ w h. inr h.1) d.1;
          gives = λ i bytes folder has. refused mid new e bytes r (k.succeeds i bytes folder has) h;
          others = λ other differ. d.0.others other differ ∙ k.leaves.1.finds other;
          keeps = λ i bytes lasts has. d.0.content i bytes lasts (k.leaves.1.content i bytes has);
        }

    pub getting_means : (r : Result (Vec ℕ Global) Error) (old new : Env (List LogItem) C N) → IsLog new.store → IsCache cache old.store → GetsOrPuts (λ log. Some log) cache moments numbers key Fetches old new r
        → GotOrPut cache key Fetches r old.store new.store
    getting_means r old new logged sound (mid, read, ran, found, rest) = ended old mid new read r logged sound ran rest
