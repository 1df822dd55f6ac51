-- The premises can be met: by a call that asks whether a content is there, on any machine with a cache, by a clear of an
-- empty cache, and by each removal of a clear.
use Rattle.std.specs.Prelude.{◌≡◌, ◌<◌, ◌^◌, ℕ, List, [], ◌∷◌, Option, None, Some}
use Rattle.cacache_core.specs.{declared.integrity.digest.Hash.{Hash}, Integrity.{IsIntegrity}}
use Rattle.cacache_system.specs.AnswersOf.{answer_of}
use Rattle.cacache_disk.specs.Tree.{listing}
use Rattle.cacache_system_model.specs.{Machine.{Machine}, Laws.{HasRoom}, Listing.{ListsPlainly}, Chains.{StepMade}, callers.{Acts.{begins, steps}, Made.{now_left, CacheOn}, Seen.{SeenState, answer_seen, MakesSeenStep, EachSeen, seen_at}}}
use Rattle.cacache_calls.specs.declared.command.Command.TheVariants as commands
use Rattle.cacache_calls.specs.{declared.{reply.Reply.{Reply, TheVariants.{Done}}, visit.{Visit.{Visit, TheVariants.{RemoveFile, RemoveFolder}}, Task.{Task}}}, State.{Walk, walking}, Table.{after}}
use Rattle.cacache_history.specs.{Setup.{Setup}, History.{Ends}}

-- a caller begins such a call and makes its step
abbrev pub QuestionsCanBe : Type 0
QuestionsCanBe =
    (s : Setup) (m : Machine) (cache : CacheOn s m) (i : List Hash) → 0 < s.callers → IsIntegrity i
    → (now_left s cache.past).begun < 2 ^ 64
    → (made : StepMade) × (reply : Option Reply)
    × EachSeen s (seen_at s m cache) (begins 0 (commands.Exists i) ∷ steps 0 made reply ∷ [])

-- the cache's folder is empty, and can be listed
pub record IsEmptyCache (s : Setup) (m : Machine) : Type 0 where
  pub plain : ListsPlainly m.tree s.cache
  pub lists : listing m.tree plain.names ≡ []
  pub gives : m.order plain.names ≡ []

-- a caller clears such a cache
abbrev pub ClearsCanBe : Type 0
ClearsCanBe =
    (s : Setup) (m : Machine) (cache : CacheOn s m) → 0 < s.callers
    → (now_left s cache.past).begun < 2 ^ 64 → HasRoom m → IsEmptyCache s m
    → (made : StepMade)
    × EachSeen s (seen_at s m cache) (begins 0 commands.Clear ∷ steps 0 made (Some Done) ∷ [])

-- a clear's visit that removes something
abbrev pub Removes : Visit → Type 0
Removes (RemoveFile p) = Unit {0}
Removes (RemoveFolder p) = Unit {0}
Removes visit = ⊥

-- if no other call is on its way, a clear can make each of its removals, and ends after it or not
abbrev pub ClearsCanRemove : Type 0
ClearsCanRemove =
    (f : SeenState) (caller : ℕ) (w : Walk) (visit : Visit) (todo : List Task) → Removes visit
    → f.states caller ≡ Some (walking w visit todo)
    → ((k : ℕ) → (k ≡ caller → ⊥) → f.states k ≡ None)
    → (made : StepMade)
    × ((reply : Option Reply)
    → Ends (after (walking w visit todo) (answer_seen (answer_of made.step made.end))) reply
    → MakesSeenStep f caller made reply)
