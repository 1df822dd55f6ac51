-- What comes of a question that is asked of one cache, and of another one if the first lacks this.
use Rattle.std.proofs.{Common.{arith, rules, ◌≡◌, inl, inr, ℕ, Bool, true, false, List, Option, None, Some, Vec, Global, Result, Ok, Err, refl, sym, subst}, lemmas.Grind.{common_steps}}
use Rattle.std.specs.Prelude.{MatchBool}
use Rattle.cacache_core.specs.{declared.{errors.{Error.{TheVariants.{EntryNotFound, IoError}, Error}, Fault.TheVariants.{NotFound}}, integrity.digest.Hash.{Hash}}, Integrity.{IsIntegrity}, Paths.{home_of}}
use Rattle.cacache_store.specs.declared.{env.Env.{Env}, store.log.LogItem.{LogItem}}
use Rattle.cacache_disk.specs.Replay.{IsLog, tree_of}
use Rattle.cacache_entry.specs.declared.metadata.Metadata.{Metadata}
use Rattle.cacache_calls.specs.declared.command.Command.TheVariants as commands
use Rattle.cacache_sync.specs.{declared.layers.Layered.{Layered}, Layers.{AsksHash, AsksLayers, FindsKey, ReadsHash, ReadsKey, finds_none, lacks_content, lacks_entry, says_no}}
use Rattle.cacache_laws.specs.{Caches.{Grows, IsCache, LacksKey}, Sequence.{IsSound}, results.{Composed.{GivesLayered, LacksContent, LayeredHashReads, LayeredLookups, LayeredQuestions, LayeredReads}, Reads.{AskedContent, ContentRead, EntryFound, KeyRead}}}
use Rattle.cacache_laws.proofs.results.{ReadResults.{content_read_means, key_read_means, lookup_means, question_means}, Told.{front, steps_grow}}

-- what one cache gives is given by one of two
module _ {C N R : Type 0} (asked : List ℕ → Env (List LogItem) C N → Env (List LogItem) C N → R → Type 0) (lacks : R → Bool) (Gives : List ℕ → R → List LogItem → List LogItem → Type 0) (Lacks : List ℕ → List LogItem → Type 0)
    (grows : (cache : List ℕ) (r : R) (old new : Env (List LogItem) C N) → asked cache old new r → Grows old.store new.store)
    (gives : (cache : List ℕ) (r : R) (old new : Env (List LogItem) C N) → IsLog new.store → IsCache cache old.store → asked cache old new r → Gives cache r old.store new.store)
    (same : (cache : List ℕ) (r : R) (old new : List LogItem) → Gives cache r old new → tree_of new ≡ tree_of old)
    (lack : (cache : List ℕ) (r : R) (old new : List LogItem) → lacks r ≡ true → Gives cache r old new → Lacks cache old) where
  layered : (l : Layered) (r : R) (old new : Env (List LogItem) C N) → IsLog new.store → IsCache l.upper.now old.store → IsCache l.lower.now old.store → AsksLayers l asked lacks old new r
      → GivesLayered lacks Gives Lacks l r old.store new.store
  layered l r old new logged upper lower (mid, first, one, rest) = search (rules, front)

-- ---- what an answer lacks

no_entry : (cache key : List ℕ) (r : Result (Vec ℕ Global) Error) (old new : List LogItem) → lacks_entry r ≡ true → KeyRead cache key r old new → LacksKey cache key old
no_entry cache key r old new is g = grind (arith, common_steps)

no_content : (cache : List ℕ) (i : List Hash) (r : Result (Vec ℕ Global) Error) (old new : List LogItem) → lacks_content r ≡ true → ContentRead cache i r old new → LacksContent i cache old
no_content cache i r old new is g = grind (arith, common_steps)

nothing : (cache key : List ℕ) (r : Result (Option Metadata) Error) (old new : List LogItem) → finds_none r ≡ true → EntryFound cache key r old new → LacksKey cache key old
nothing cache key r old new is g = grind (arith, common_steps)

denied : (cache : List ℕ) (i : List Hash) (r : Result Bool Error) (old new : List LogItem) → says_no r ≡ true → AskedContent cache i r old new → LacksContent i cache old
denied cache i r old new is g = grind (arith, common_steps)

-- ---- the laws

module _ {C N : Type 0} (new : Env (List LogItem) C N) (logged : IsLog new.store) where
  pub layered_reads : (key : List ℕ) → LayeredReads key new
  layered_reads key l r old upper lower asks =
      layered (ReadsKey (λ log. Some log) key) lacks_entry (λ cache. KeyRead cache key) (λ cache. LacksKey cache key)
      (λ cache r old new a. steps_grow cache 0 (commands.Get key) _ old new a.0.0)
      (λ cache r old new logged sound a. key_read_means cache key r new logged old sound a.0)
      (λ cache r old new g. g.same) (λ cache r old new is g. no_entry cache key r old new is g)
      l r old new logged upper lower asks

  pub layered_hash_reads : (i : List Hash) → IsIntegrity i → LayeredHashReads i new
  layered_hash_reads i formed l r old upper lower asks =
      layered (ReadsHash (λ log. Some log) i) lacks_content (λ cache. ContentRead cache i) (LacksContent i)
      (λ cache r old new a. steps_grow cache 0 (commands.GetHash i) _ old new a.0.0)
      (λ cache r old new logged sound a. content_read_means cache i r new formed logged old sound a.0)
      (λ cache r old new g. g.same) (λ cache r old new is g. no_content cache i r old new is g)
      l r old new logged upper lower asks

  pub layered_lookups : (key : List ℕ) → LayeredLookups key new
  layered_lookups key l r old upper lower asks =
      layered (FindsKey (λ log. Some log) key) finds_none (λ cache. EntryFound cache key) (λ cache. LacksKey cache key)
      (λ cache r old new a. steps_grow cache 0 (commands.Find key) _ old new a.0.0)
      (λ cache r old new logged sound a. lookup_means cache key r new logged old sound a.0)
      (λ cache r old new g. g.same) (λ cache r old new is g. nothing cache key r old new is g)
      l r old new logged upper lower asks

  pub layered_questions : (i : List Hash) → IsIntegrity i → LayeredQuestions i new
  layered_questions i formed l r old upper lower asks =
      layered (AsksHash (λ log. Some log) i) says_no (λ cache. AskedContent cache i) (LacksContent i)
      (λ cache r old new a. steps_grow cache 0 (commands.Exists i) _ old new a.0.0)
      (λ cache r old new logged sound a. question_means cache i r new formed logged old sound a.0)
      (λ cache r old new g. g.same) (λ cache r old new is g. denied cache i r old new is g)
      l r old new logged upper lower asks
