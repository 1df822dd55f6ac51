-- What a user says about many callers, over memory, real folders and threads, of one bucket's file, and of a collection.
use Rattle.std.specs.Prelude.{◌≡◌, ◌⊎◌, ◌≤◌, ℕ, suc, List, [], ◌∷◌, Option, None, Some, ◌++◌, length}
use Rattle.cacache.specs.{Calls.{LookedUp, Read, Reply, Stored, Item}, Entries.{Found, Entry, line_of}, Histories.{AreRemovals, Call, CallIn, CommitsAs, DropsAmong, History, IsOneOfPuts, MoveAt, MovesAre, Put, PutBytes, Reaches, RemovesFound, SparesKey, WasWritten, content_path, deeds, digest, found_of_put, lookup_at, now_before, put_commit, AllSpareListed, LeadsToContent, ListsAllIn, SeenActsAre}, Integrities.{Hash, Meets}, Buckets.{AppendRan, Event, Happen, IsEntry, IsWritable, NoneAnswers, ReadRan, answer_to, entries_of, file_of, idle, latest, whole_entries}, Shared.{Taken}}
use Rattle.cacache.specs.Calls as commands

-- a put is answered, and since it began each other call spares its key; then a read of the key
-- begins, and is answered bytes: they have the digest of what was put
abbrev pub PutThenGet : History → Type 0
PutThenGet h =
    (key : List ℕ) (p : Put) (m between n putter reader : ℕ) (put get : Call) (i : List Hash)
    (bytes : List ℕ) → p.key ≡ Some key → p.options.integrity ≡ None
    → MovesAre h m n (λ c. SparesKey key c ⊎ IsOneOfPuts (p ∷ []) c)
    → put.command ≡ commands.Put p → CallIn h m between putter put (Some (Stored i))
    → get.command ≡ commands.Get key → CallIn h between n reader get (Some (Read bytes))
    → digest p.options.algorithm bytes ≡ digest p.options.algorithm p.data

-- if nobody else writes the key, a lookup finds the entry of one of the two puts
abbrev pub OneOfTwo : History → Type 0
OneOfTwo h =
    (key : List ℕ) (p q : Put) (n caller : ℕ) (call : Call) (found : Found)
    → MovesAre h 0 n (λ c. SparesKey key c ⊎ IsOneOfPuts (p ∷ q ∷ []) c)
    → call.command ≡ commands.Find key → CallIn h 0 n caller call (Some (LookedUp (Some found)))
    → (found ≡ found_of_put h.setup.cache key p) ⊎ (found ≡ found_of_put h.setup.cache key q)

-- a move of a put leaves what a lookup of another key finds
abbrev pub LeavesOthers : History → Type 0
LeavesOthers h =
    (place caller : ℕ) (call : Call) (p : Put) (other : List ℕ) → MoveAt h place caller
    → (now_before h place).calls caller ≡ Some call → call.command ≡ commands.Put p
    → (p.key ≡ Some other → ⊥) → lookup_at h (suc place) other ≡ lookup_at h place other

-- a put did nothing, its content, or its content and its entry, whether it is over or not; and other
-- keys are left
pub record CrashesAreSafe (h : History) : Type 0 where
  pub whole : (call : Call) (p : Put) (reply : Option Reply) → Reaches h call reply
      → call.command ≡ commands.Put p
      → CommitsAs (put_commit h.setup.cache p) (λ names. PutBytes names p.data) (deeds call.turns)
      reply
  pub others : LeavesOthers h

-- a removal, over or left on its way: by address it dropped at most that content; with a key, at most
-- the content that its own lookup found, and then the key's bucket; a clearing put and added nothing
pub record RemovalsAreSafe (h : History) : Type 0 where
  pub address : (call : Call) (i : List Hash) (reply : Option Reply) → Reaches h call reply
      → call.command ≡ commands.RemoveHash i
      → DropsAmong (content_path h.setup.cache i ∷ []) (deeds call.turns)
  pub key : (call : Call) (key : List ℕ) (reply : Option Reply) → Reaches h call reply
      → call.command ≡ commands.RemoveFully key → RemovesFound h.setup.cache key call.turns
  pub all : (call : Call) (reply : Option Reply) → Reaches h call reply
      → call.command ≡ commands.Clear → AreRemovals (deeds call.turns)

-- bytes that are read by a key meet the integrity of an entry of it that was written before
abbrev pub ReadersNeverLie : History → Type 0
ReadersNeverLie h =
    (n caller : ℕ) (call : Call) (key bytes : List ℕ)
    → CallIn h 0 n caller call (Some (Read bytes)) → call.command ≡ commands.Get key
    → (place : ℕ) × (found : Found) × (place ≤ n) × WasWritten h 0 place key (Some found)
    × Meets found.integrity bytes

-- ---- what a user says about several processes that use one bucket's file

-- a lookup reads the entries that are whole at a moment: never a part of a line, and none that nobody wrote
abbrev pub LookupsReadWhole : Type 0
LookupsReadWhole =
    (start : List ℕ) (events : List Event) (reader : ℕ) (bytes : List ℕ)
    → Happen (idle start) events → ReadRan reader bytes (idle start) events
    → (before : List Event) × (after : List Event) × (events ≡ before ++ after)
    × (entries_of bytes ≡ whole_entries start before)

-- bytes have an entry, and a lookup of its key finds it, if no newer one answers
abbrev pub IsFound : Entry → List ℕ → Type 0
IsFound e bytes =
    (older : List Entry) × (newer : List Entry) × (entries_of bytes ≡ older ++ e ∷ newer)
    × ((key : List ℕ) (found : Option Found) → answer_to key e ≡ Some found
    → NoneAnswers key newer → latest key (entries_of bytes) ≡ found)

-- if one process's append answered that it took an entry's line, each process's later lookup finds the entry
abbrev pub AppendedAreFound : Type 0
AppendedAreFound =
    (start : List ℕ) (writing reading : List Event) (process count reader : ℕ) (e : Entry)
    (bytes : List ℕ)
    → Happen (idle start) (writing ++ reading) → IsEntry e → IsWritable e
    → length (line_of e) ≤ count → AppendRan process e count (idle start) writing
    → ReadRan reader bytes (file_of start writing) reading → IsFound e bytes

-- ---- what a user says about a collection while others write

-- a put was answered; then a listing began, and answered no error. Since the put began each other
-- call spares its key, and no call removes a content that the listing names: so the key leads to the
-- entry of the put, and its content is there
abbrev pub CollectionsKeepPuts : History → Type 0
CollectionsKeepPuts h =
    (key : List ℕ) (p : Put) (m between after n putter lister : ℕ) (put list : Call) (i : List Hash)
    (items : List Item) → p.key ≡ Some key → p.options.integrity ≡ None
    → put.command ≡ commands.Put p → CallIn h m between putter put (Some (Stored i))
    → ListsAllIn h between after lister list items → after ≤ n
    → MovesAre h m n (λ c. SparesKey key c ⊎ IsOneOfPuts (p ∷ []) c) → AllSpareListed h m n items
    → LeadsToContent h n key (found_of_put h.setup.cache key p)

-- ---- what a user says about many callers over real folders

-- in a history no reader lies, and crashes are safe
pub record IsSafe (h : History) : Type 0 where
  pub readers : ReadersNeverLie h
  pub crashes : CrashesAreSafe h

-- so it is in the history of a cache and of callers over real folders on its machine
abbrev pub FoldersAreSafe : Type 0
FoldersAreSafe = SeenActsAre IsSafe

-- ---- what a user says about threads that shared a world

-- bytes that a thread which read only this content was answered meet its integrity
abbrev pub ReadIsRight : Taken → Type 0
ReadIsRight seat =
    (i : List Hash) (bytes : List ℕ) → seat.commands ≡ commands.GetHash i ∷ []
    → seat.replies ≡ Read bytes ∷ [] → Meets i bytes
