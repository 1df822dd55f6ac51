-- What the values that calls give say about a cache in memory.
use Rattle.std.specs.{Prelude.{◌≡◌, ◌⊎◌, ℕ, List, [], Some, IfOk, MatchResult, Result, Vec, map, string_bytes}, Global.{Global}}
use Rattle.cacache_core.specs.{declared.{errors.Error.{Error, TheVariants.{OutOfMemory}}, integrity.digest.Hash.{Hash}}, Integrity.{Meets}, Paths.{Names, home_of}}
use Rattle.cacache_store.specs.declared.store.log.LogItem.{LogItem}
use Rattle.cacache_disk.specs.Replay.{tree_of}
use Rattle.cacache_entry.specs.{Bucket.{Found}, View.{found_view}}
use Rattle.cacache_calls.specs.declared.command.Command.TheVariants as commands
use Rattle.cacache_calls.specs.declared.reply.Reply.TheVariants as replies
use Rattle.cacache_calls.specs.State.{Site}
use Rattle.cacache_value.specs.Placed.{Placed}
use Rattle.cacache_jobs.specs.JobStates.{site_of}
use Rattle.cacache_laws.specs.{Caches.{HasKey, IsCache}, ExportEffects.{IsApart}, Standing.{IsStanding}, trees.{Answers.{AnswersOn}, Collecting.{LeavesLive, LinksLeadOut}, Contents.{content_in}, Housed.{Housed}, Idle.{Removed}, Verifying.{found_in, Judges}}}
use Rattle.cacache_keep.specs.{declared.{collecting.Collected.{Collected}, pruning.Pruned.{Pruned}, repairing.Repaired.{Repaired}, verifying.Verdict.{Verdict}}, Kept.{LeadsToGood, MendsCache}, Sparing.{HasKeyAmong}}

-- ---- verdicts

-- the verdict judges the cache
abbrev pub JudgesAs : Site → Names → List LogItem → Verdict → Type 0
JudgesAs site home log v =
    Judges site home (tree_of log) v.good v.damaged.items
    (map found_view v.dangling.items) (map string_bytes v.strange.items)

-- no content is damaged, and no entry lacks its content
abbrev pub IsMended : Verdict → Type 0
IsMended v = (v.damaged.items ≡ []) × (map found_view v.dangling.items ≡ [])

-- ---- collections

-- the contents that an entry has are left, and the value says what became of the others
abbrev pub LeavesAs : Site → Names → List LogItem → List LogItem → Collected → Type 0
LeavesAs site home old new c =
    LeavesLive site home (tree_of old) (tree_of new) c.kept c.dropped.items

-- a read gives the bytes that the key led to, or memory was refused
abbrev pub ReadsTidied :
    List ℕ → List ℕ → Result (Vec ℕ Global) Error → List LogItem → Type 0
ReadsTidied cache key result old =
    (i : List Hash) (bytes : List ℕ) → HasKey cache key i bytes old
    → MatchResult result (λ v. v.items ≡ bytes) (λ e. e ≡ OutOfMemory)

-- a read of the key may answer these bytes on what the log leads to
abbrev pub MayRead : Site → List ℕ → List LogItem → List ℕ → Type 0
MayRead site key log bytes =
    AnswersOn site (tree_of log) (commands.Get key) (replies.Read bytes)

-- if all links lead out of the cache, a read gives what it might have given on the older log
abbrev pub ReadsStill :
    {A : Type 0} → List ℕ → List ℕ → List ℕ → Result (Vec ℕ A) Error → List LogItem → Type 0
ReadsStill cache base key result old =
    (home : Names) → home_of cache ≡ Some home
    → LinksLeadOut home (tree_of old)
    → IfOk result (λ bytes. MayRead (site_of cache base 0) key old bytes.items)

-- so it does after the removal of another key, on what the older log and that removal lead to
abbrev pub ReadsAsRemoved : {A : Type 0} → List ℕ → List ℕ → List ℕ → List ℕ
    → Result (Vec ℕ A) Error → List LogItem → Type 0
ReadsAsRemoved cache base gone key result old =
    (home : Names) (other : List LogItem) → home_of cache ≡ Some home
    → LinksLeadOut home (tree_of old)
    → Removed cache (commands.RemoveFully gone) old other
    → IfOk result (λ bytes. MayRead (site_of cache base 0) key other bytes.items)

-- A content of a cache that only calls wrote to was exported apart from it, and these bytes were written under
-- another key. Then a read gives the bytes that the key led to on the older log, or what was written, if that meets
-- the integrity too
abbrev pub ReadsBeside : {A : Type 0} → List ℕ → List ℕ → List ℕ → List ℕ → List ℕ
    → Result (Vec ℕ A) Error → List LogItem → Type 0
ReadsBeside cache key to other added result old =
    (home : Names) (bytes : List ℕ) (i : List Hash) → home_of cache ≡ Some home
    → IsCache cache old → HasKey cache key i bytes old → IsApart cache to → (key ≡ other → ⊥)
    → IfOk result (λ v. Meets i v.items × ((v.items ≡ bytes) ⊎ (v.items ≡ added)))

-- In any store that stands a read gives the bytes that the key led to on the older log, where since then
-- another key was removed by a tombstone
abbrev pub ReadsSpared : {A : Type 0} → List ℕ → List ℕ → List ℕ → Result (Vec ℕ A) Error
    → List LogItem → Type 0
ReadsSpared cache gone key result old =
    (home : Names) (bytes : List ℕ) (i : List Hash) → home_of cache ≡ Some home
    → IsStanding cache old → HasKey cache key i bytes old → (gone ≡ key → ⊥)
    → IfOk result (λ v. v.items ≡ bytes)

-- In any store that stands a read gives the bytes that the key led to on the older log, unless an entry that was
-- dropped or left since then has the key
abbrev pub ReadsPruned : {A : Type 0} → List ℕ → List ℕ → Result (Pruned × Vec ℕ A) Error
    → List LogItem → Type 0
ReadsPruned cache key result old =
    (home : Names) (bytes : List ℕ) (i : List Hash) → home_of cache ≡ Some home
    → IsStanding cache old → HasKey cache key i bytes old
    → IfOk result (λ r. (HasKeyAmong (map found_view r.0.dropped.items) key → ⊥)
    → (HasKeyAmong (map found_view r.0.left.items) key → ⊥) → r.1.items ≡ bytes)

-- ---- compactions

-- if each thing lies in its place, a read gives what it might have given on the older log
abbrev pub ReadsHoused :
    {A : Type 0} → List ℕ → List ℕ → List ℕ → Result (Vec ℕ A) Error → List LogItem → Type 0
ReadsHoused cache base key result old =
    (home : Names) → home_of cache ≡ Some home
    → Housed (Some home) (tree_of old)
    → IfOk result (λ bytes. MayRead (site_of cache base 0) key old bytes.items)

-- ---- repairs

-- if each thing lies in its place, the cache is mended, and the value says how
abbrev pub MendsPlaced :
    List ℕ → List ℕ → Result Repaired Error → List LogItem → List LogItem → Type 0
MendsPlaced cache base result old new =
    (home : Names) → home_of cache ≡ Some home
    → Placed (Some home) (tree_of old) → IfOk result (λ (r : Repaired).
    MendsCache (site_of cache base 0) home (tree_of old) (tree_of new)
    r.damaged.items (map found_view r.dangling.items))

-- ---- a sweep, a repair and a compaction

-- In between a log led to a tree where the key leads to this entry, whose content is good and the old
-- one, and where a read may answer these bytes. On the new log too the key leads to it, and the content
-- is the old one.
abbrev pub KeepsGood : Site → Names → List ℕ → Found → Hash → List LogItem → List LogItem → List ℕ
    → Type 0
KeepsGood site home key found hash old new bytes =
    (between : List LogItem)
    × LeadsToGood home (tree_of between) key found × MayRead site key between bytes
    × (content_in home (tree_of between) hash ≡ content_in home (tree_of old) hash)
    × (found_in home (tree_of new) key ≡ Some found)
    × (content_in home (tree_of new) hash ≡ content_in home (tree_of old) hash)

-- so it is for a key that led to a good content, if each thing lay in its place
abbrev pub ReadsTended : {A : Type 0} → List ℕ → List ℕ → List ℕ → Result (Vec ℕ A) Error
    → List LogItem → List LogItem → Type 0
ReadsTended cache base key result old new =
    (home : Names) (found : Found) → home_of cache ≡ Some home
    → Housed (Some home) (tree_of old) → (led : LeadsToGood home (tree_of old) key found)
    → IfOk result
    (λ bytes. KeepsGood (site_of cache base 0) home key found led.hash old new bytes.items)
