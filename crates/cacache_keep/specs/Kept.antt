-- What the calls come to on a store in memory.
use Rattle.std.specs.Prelude.{◌≡◌, ◌⊎◌, ◌++◌, ℕ, List, [], ◌∷◌, Bool, Option, true, None, Some, Contains, filter, filter_map, map, not}
use Rattle.cacache_core.specs.{declared.{errors.Error.{Error}, integrity.digest.Hash.{Hash}}, Integrity.{address as address_of}, Laws.{IsKeyDigest}, Paths.{Names, home_of, bucket_names_of}}
use Rattle.cacache_store.specs.declared.store.log.LogItem.{LogItem}
use Rattle.cacache_disk.specs.{declared.node.Node.TheVariants.{File}, Tree.{Tree, look}, Replay.{tree_of, IsLog}}
use Rattle.cacache_entry.specs.Bucket.{Found}
use Rattle.cacache_calls.specs.{declared.{command.Command.{Command}, reply.Reply.{Reply}}, State.{Site}}
use Rattle.cacache_value.specs.Placed.{Placed}
use Rattle.cacache_laws.specs.{Caches.{Called}, Looks.{OnlyLooks}, trees.{Compacted.{Compacted, CutShort, KeepsFound}, Compacting.{compact_text}, Contents.{HoldsJust, content_in}, Housed.{Housed}, Verifying.{Judges, is_good, LeavesGood, found_in}, Collecting.{LeavesLive, LinksLeadOut, ReadsAsBefore}, Idle.{LacksIdle, Removed}, Temporary.{LeavesUntemporary}}}
use Rattle.cacache_walks.specs.Listing.{IsByHash, ListsContents}
use Rattle.cacache_keep.specs.{Compacting.{CompactsCache, StopsCompacting}, Keeping.{Collects, VerifiesCache}, Planning.{PlansCache, Sized}, Repairing.{RepairsCache}, Sweeping.{SweepsCache}}

-- the log leads to the tree that it led to
abbrev pub LeavesTree : List LogItem → List LogItem → Type 0
LeavesTree old new = tree_of new ≡ tree_of old

-- a listing lists what the cache holds, and changes nothing
abbrev pub ListsHold : Type 0
ListsHold =
    (cache : List ℕ) (home : Names) (addresses : List (List Hash)) (strange : List (List ℕ))
    (old new : List LogItem)
    → home_of cache ≡ Some home → IsLog new
    → ListsContents cache addresses strange (Some old) (Some new) → IsByHash addresses
    → ((hashes : List Hash) × (addresses ≡ map (λ h. h ∷ []) hashes)
    × HoldsJust cache home (tree_of old) hashes strange)
    × LeavesTree old new

-- a verification that answers Ok judges what the cache holds, and changes nothing
abbrev pub VerdictsJudge : Type 0
VerdictsJudge =
    (site : Site) (home : Names) (good : ℕ) (damaged : List (List Hash)) (dangling : List Found)
    (strange : List (List ℕ)) (old new : List LogItem)
    → home_of site.cache ≡ Some home → IsLog new
    → VerifiesCache site good damaged dangling strange (Some old) (Some new)
    → Judges site home (tree_of old) good damaged dangling strange × LeavesTree old new

-- a collection leaves what is live
abbrev pub CollectionsLeave : Type 0
CollectionsLeave =
    (site : Site) (home : Names) (kept : ℕ) (dropped : List (List Hash)) (old new : List LogItem)
    → home_of site.cache ≡ Some home → IsLog new
    → Collects site kept dropped (Some old) (Some new)
    → LeavesLive site home (tree_of old) (tree_of new) kept dropped

-- if links lead out of the cache, it leaves a tree that lacks only idle contents
abbrev pub CollectionsLackIdle : Type 0
CollectionsLackIdle =
    (site : Site) (home : Names) (kept : ℕ) (dropped : List (List Hash)) (old new : List LogItem)
    → home_of site.cache ≡ Some home → IsLog new → LinksLeadOut home (tree_of old)
    → Collects site kept dropped (Some old) (Some new)
    → LacksIdle site.cache home (tree_of old) (tree_of new)

-- and a second one, made on the tree that the first one left, drops nothing and keeps as many
abbrev pub CollectionsSettle : Type 0
CollectionsSettle =
    (site : Site) (home : Names) (kept again : ℕ) (dropped others : List (List Hash))
    (old collected later new : List LogItem)
    → home_of site.cache ≡ Some home → IsLog collected → IsLog new → LinksLeadOut home (tree_of old)
    → LeavesTree collected later
    → Collects site kept dropped (Some old) (Some collected)
    → Collects site again others (Some later) (Some new)
    → (again ≡ kept) × (others ≡ [])

-- a plan changes nothing
abbrev pub PlansLeave : Type 0
PlansLeave =
    (site : Site) (home : Names) (kept : ℕ) (unused : List Sized) (old new : List LogItem)
    → home_of site.cache ≡ Some home → IsLog new
    → PlansCache site kept unused (Some old) (Some new) → LeavesTree old new

-- what it finds unused is what a collection on the same tree drops
abbrev pub PlansForetell : Type 0
PlansForetell =
    (site : Site) (home : Names) (kept others : ℕ) (unused : List Sized)
    (dropped : List (List Hash)) (old planned mid collected : List LogItem)
    → home_of site.cache ≡ Some home → IsLog planned → IsLog collected
    → tree_of mid ≡ tree_of old
    → PlansCache site kept unused (Some old) (Some planned)
    → Collects site others dropped (Some mid) (Some collected)
    → (others ≡ kept) × (dropped ≡ map (λ u. u.0) unused)

-- a sweep takes the temporary files away, and leaves the rest
abbrev pub CachesAreSwept : Type 0
CachesAreSwept =
    (cache : List ℕ) (home : Names) (files bytes : ℕ) (strange : List (List ℕ))
    (old new : List LogItem)
    → home_of cache ≡ Some home → IsLog new
    → SweepsCache cache files bytes strange (Some old) (Some new)
    → LeavesUntemporary home (tree_of old) (tree_of new) files

-- the key of one of the entries
abbrev pub IsKeyOf : List Found → List ℕ → Type 0
IsKeyOf entries key = (f : Found) × Contains entries f × (f.key ≡ key)

-- the damaged contents are gone, and the good ones are left; the keys of these entries lead to nothing,
-- and each other key leads where it led
pub record MendsCache
    (site : Site) (home : Names) (t new : Tree)
    (damaged : List (List Hash)) (dangling : List Found) : Type 0 where
  pub hashes : List Hash
  pub strange : List (List ℕ)
  pub contents : HoldsJust site.cache home t hashes strange
  pub broken : damaged ≡ map (λ h. h ∷ []) (filter (λ h. not (is_good home t h)) hashes)
  pub leaves : LeavesGood home t new
  pub hidden : (key : List ℕ) → IsKeyOf dangling key → found_in home new key ≡ None
  pub keys : (key : List ℕ) → (IsKeyOf dangling key → ⊥)
      → found_in home new key ≡ found_in home t key

-- so does a repair, if each thing in the cache's folder lies in its place
abbrev pub RepairsMend : Type 0
RepairsMend =
    (site : Site) (home : Names) (damaged : List (List Hash)) (dangling : List Found)
    (old new : List LogItem)
    → home_of site.cache ≡ Some home → IsLog new → Placed (Some home) (tree_of old)
    → RepairsCache site damaged dangling (Some old) (Some new)
    → MendsCache site home (tree_of old) (tree_of new) damaged dangling

-- ---- a compaction

-- all is as it was, except that each key's bucket has its compacted bytes, and the folder of
-- temporary files may be new
pub record LeavesCompacted (durable : Bool) (home : Names) (t new : Tree) : Type 0 where
  pub tree : Compacted durable home t new
  pub buckets : (digest bytes : List ℕ) → IsKeyDigest digest
      → look t (home ++ bucket_names_of digest) ≡ Some (File bytes)
      → look new (home ++ bucket_names_of digest) ≡ Some (File (compact_text durable bytes))

-- so a compaction leaves it
abbrev pub CompactionsLeave : Type 0
CompactionsLeave =
    (durable : Bool) (cache : List ℕ) (home : Names) (count bytes : ℕ) (old new : List LogItem)
    → home_of cache ≡ Some home → IsLog new
    → CompactsCache durable cache count bytes (Some old) (Some new)
    → LeavesCompacted durable home (tree_of old) (tree_of new)

-- one that an error ends leaves each bucket as it was or compacted, and perhaps temporary files
abbrev pub CompactionsStop : Type 0
CompactionsStop =
    (durable : Bool) (cache : List ℕ) (home : Names) (e : Error) (old new : List LogItem)
    → home_of cache ≡ Some home → IsLog new
    → StopsCompacting durable cache e (Some old) (Some new)
    → CutShort durable home (tree_of old) (tree_of new)

-- the log gained a compaction, durable or not, or as much of one as came before an error
abbrev pub MayCompact : List ℕ → Option (List LogItem) → Option (List LogItem) → Type 0
MayCompact cache old new =
    ((durable : Bool) × (count bytes : ℕ) × CompactsCache durable cache count bytes old new)
    ⊎ ((durable : Bool) × (e : Error) × StopsCompacting durable cache e old new)

-- then each key leads where it led, and each address has the content that it had; and if each thing
-- lies in its place, lookups, reads by key and listings answer what they might have before
abbrev pub CompactionsAreUnseen : Type 0
CompactionsAreUnseen =
    (site : Site) (home : Names) (old new : List LogItem)
    → home_of site.cache ≡ Some home → IsLog new → MayCompact site.cache (Some old) (Some new)
    → KeepsFound home (tree_of old) (tree_of new)
    × (Housed (Some home) (tree_of old) → ReadsAsBefore site (tree_of old) (tree_of new))

-- ---- a verification after a repair

-- if each thing lies in its place, a verification of what a repair left finds no damaged content
-- and no entry whose content isn't there
abbrev pub RepairsVerify : Type 0
RepairsVerify =
    (site : Site) (home : Names) (damaged broken : List (List Hash)) (hidden dangling : List Found)
    (good : ℕ) (strange : List (List ℕ)) (old repaired later verified : List LogItem)
    → home_of site.cache ≡ Some home → IsLog repaired → IsLog verified
    → Housed (Some home) (tree_of old) → LeavesTree repaired later
    → RepairsCache site damaged hidden (Some old) (Some repaired)
    → VerifiesCache site good broken dangling strange (Some later) (Some verified)
    → (broken ≡ []) × (dangling ≡ [])

-- the key leads to this entry, whose content is good
pub record LeadsToGood (home : Names) (t : Tree) (key : List ℕ) (found : Found) : Type 0 where
  pub leads : found_in home t key ≡ Some found
  pub hash : Hash
  pub address : address_of found.integrity ≡ Some hash
  pub good : is_good home t hash ≡ true

-- so it does after a repair, if each thing lies in its place, and the content is what it was
abbrev pub RepairsKeepGood : Type 0
RepairsKeepGood =
    (site : Site) (home : Names) (damaged : List (List Hash)) (hidden : List Found)
    (old repaired : List LogItem) (key : List ℕ) (found : Found)
    → home_of site.cache ≡ Some home → IsLog repaired → Housed (Some home) (tree_of old)
    → RepairsCache site damaged hidden (Some old) (Some repaired)
    → (led : LeadsToGood home (tree_of old) key found)
    → LeadsToGood home (tree_of repaired) key found
    × (content_in home (tree_of repaired) led.hash ≡ content_in home (tree_of old) led.hash)

-- ---- calls after a collection

-- the log gained calls that only look, one after another: each its cache, its command, its reply
abbrev pub Looked : List (List ℕ × Command × Reply) → List LogItem → List LogItem → Type 0
Looked [] old new = new ≡ old
Looked (c ∷ calls) old new =
    (next : List LogItem) × OnlyLooks c.1 × Called c.0 c.1 c.2 old next × Looked calls next new

-- that leaves the tree that the log led to, as listings, verifications and plans do too
abbrev pub LooksStay : Type 0
LooksStay =
    (calls : List (List ℕ × Command × Reply)) (old new : List LogItem)
    → Looked calls old new → LeavesTree old new

-- the log gained these removals from the cache, one after another, none of which broke off; before,
-- between and after them it went on to lead to the same tree
abbrev pub Cleaned : List ℕ → List Command → List LogItem → List LogItem → Type 0
Cleaned cache [] old new = LeavesTree old new
Cleaned cache (removal ∷ removals) old new =
    (found : List LogItem) × LeavesTree old found
    × (left : List LogItem) × Removed cache removal found left × Cleaned cache removals left new

-- so it gained these removals, and a collection for each None
abbrev pub Tidied : Site → List (Option Command) → List LogItem → List LogItem → Type 0
Tidied site [] old new = LeavesTree old new
Tidied site (None ∷ events) old new =
    (found : List LogItem) × LeavesTree old found
    × (kept : ℕ) × (dropped : List (List Hash)) × (left : List LogItem) × IsLog left
    × Collects site kept dropped (Some found) (Some left) × Tidied site events left new
Tidied site (Some removal ∷ events) old new =
    (found : List LogItem) × LeavesTree old found
    × (left : List LogItem) × Removed site.cache removal found left × Tidied site events left new

-- if links lead out of the cache, after removals with a collection before them, and perhaps more
-- between them, each later lookup, verified read by key and listing answers what it may after these
-- removals alone
abbrev pub LaterReadsStay : Type 0
LaterReadsStay =
    (site : Site) (home : Names) (kept : ℕ) (dropped : List (List Hash))
    (events : List (Option Command)) (old collected later other : List LogItem)
    → home_of site.cache ≡ Some home → IsLog collected → LinksLeadOut home (tree_of old)
    → Collects site kept dropped (Some old) (Some collected)
    → Tidied site events collected later
    → Cleaned site.cache (filter_map (λ e. e) events) old other
    → ReadsAsBefore site (tree_of other) (tree_of later)
