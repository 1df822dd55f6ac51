-- What a lookup finds at each place of a history: it goes by the last entry that was written.
use Rattle.std.specs.Prelude.{◌≡◌, ◌⊎◌, ◌≤◌, ◌<◌, ℕ, All, List, [], ◌∷◌, Option, None, Some, take}
use Rattle.sha1.specs.Sha1.{sha1}
use Rattle.cacache_core.specs.{declared.integrity.digest.Hash.{Hash}, Integrity.{Meets, integrity_under}}
use Rattle.cacache_entry.specs.{Entry.{Entry}, Bucket.{Found, found_of, answer_to, latest}}
use Rattle.cacache_calls.specs.{declared.{command.{Command.{Command}, Put.{Put}}, reply.Reply.TheVariants.{Stored, Read, LookedUp}}, Inserting.{insertion, deletion}, Linking.{commit_for, link_target}, State.{Site}, Storing.{insertion_of, put_commit}}
use Rattle.cacache_calls.specs.declared.command.Command.TheVariants as commands
use Rattle.cacache_history.specs.{History.{History, Call}, Places.{now_before, MoveAt, CallIn, TurnsAreOwn, MovesAreOfCalls, MovesAre}, Setup.{call_site}, Values.{bucket_at}}

-- ---- what is found

-- the entry that a lookup of the key finds at a place, if any
abbrev pub lookup_at : History → ℕ → List ℕ → Option Found
lookup_at h place key = latest key (bucket_at h (take place h.records) (sha1 key))

-- a lookup of the key finds this at a place from m to n
abbrev pub IsFoundIn : History → ℕ → ℕ → List ℕ → Option Found → Type 0
IsFoundIn h m n key found =
    (place : ℕ) × (m ≤ place) × (place ≤ n) × (lookup_at h place key ≡ found)

-- ---- what commands do to a key

-- a call of the command adds only such entries
abbrev pub WritesEntry : Site → Command → Entry → Type 0
WritesEntry site (commands.Put p) e =
    (key : List ℕ) × (p.key ≡ Some key) × (e ≡ (insertion_of (put_commit site.cache p) key).entry)
WritesEntry site (commands.Link l) e =
    (key bytes : List ℕ) × (l.key ≡ Some key)
    × (e ≡ (insertion_of (commit_for (link_target site l) bytes) key).entry)
WritesEntry site (commands.Insert i) e = e ≡ (insertion site.cache i).entry
WritesEntry site (commands.Delete d) e = e ≡ (deletion site.cache d).entry
WritesEntry site command e = ⊥

-- a call of the command doesn't remove the key's bucket
abbrev pub LeavesBucket : List ℕ → Command → Type 0
LeavesBucket key (commands.RemoveFully other) = sha1 other ≡ sha1 key → ⊥
LeavesBucket key commands.Clear = ⊥
LeavesBucket key command = Unit {0}

-- a call of the command spares the key: it writes other keys at most, and leaves the key's bucket
abbrev pub SparesKey : List ℕ → Command → Type 0
SparesKey key (commands.Put p) = p.key ≡ Some key → ⊥
SparesKey key (commands.Link l) = l.key ≡ Some key → ⊥
SparesKey key (commands.Insert i) = i.key ≡ key → ⊥
SparesKey key (commands.Delete d) = d.key ≡ key → ⊥
SparesKey key command = LeavesBucket key command

-- ---- entries and the calls that wrote them

-- from place m on and before place n a move added this entry; the command of its call writes it
pub record WrittenIn (h : History) (m n : ℕ) (e : Entry) : Type 0 where
  pub place : ℕ
  pub from : m ≤ place
  pub to : place < n
  pub caller : ℕ
  pub move : MoveAt h place caller
  pub call : Call
  pub is : (now_before h place).calls caller ≡ Some call
  pub writes : WritesEntry (call_site h.setup call.number) call.command e

-- such an entry answers a lookup of the key with this
abbrev pub WasWritten : History → ℕ → ℕ → List ℕ → Option Found → Type 0
WasWritten h m n key found =
    (e : Entry) × WrittenIn h m n e × (answer_to key e ≡ Some found)

-- ---- laws

-- each entry in a bucket was written before
abbrev pub EntriesAreWritten : History → Type 0
EntriesAreWritten h =
    (place : ℕ) (digest : List ℕ)
    → All (WrittenIn h 0 place) (bucket_at h (take place h.records) digest)

-- what a lookup finds was written before
abbrev pub FoundWasWritten : History → Type 0
FoundWasWritten h =
    (place : ℕ) (key : List ℕ) (found : Found) → lookup_at h place key ≡ Some found
    → WasWritten h 0 place key (Some found)

-- while the key's bucket isn't removed, a lookup finds what it found, or what was written since
abbrev pub LookupsFollowWrites : History → Type 0
LookupsFollowWrites h =
    (key : List ℕ) (m n : ℕ) → m ≤ n → MovesAre h m n (LeavesBucket key)
    → (lookup_at h n key ≡ lookup_at h m key) ⊎ WasWritten h m n key (lookup_at h n key)

-- while each move is of a call that spares the key, a lookup finds what it found
abbrev pub LookupsStay : History → Type 0
LookupsStay h =
    (key : List ℕ) (m n : ℕ) → m ≤ n → MovesAre h m n (SparesKey key)
    → lookup_at h n key ≡ lookup_at h m key

-- a lookup answers what is found at a place since it began
abbrev pub FindsArePlaced : History → Type 0
FindsArePlaced h =
    (m n caller : ℕ) (call : Call) (key : List ℕ) (found : Option Found)
    → CallIn h m n caller call (Some (LookedUp found)) → call.command ≡ commands.Find key
    → IsFoundIn h m n key found

-- a read by key answers bytes that meet the integrity of what is found there
abbrev pub GetsArePlaced : History → Type 0
GetsArePlaced h =
    (m n caller : ℕ) (call : Call) (key bytes : List ℕ)
    → CallIn h m n caller call (Some (Read bytes)) → call.command ≡ commands.Get key
    → (found : Found) × IsFoundIn h m n key (Some found) × Meets found.integrity bytes

-- what a lookup finds right after the entry of a put
abbrev pub found_of_put : List ℕ → List ℕ → Put → Found
found_of_put cache key p =
    found_of (insertion_of (put_commit cache p) key).entry
    (integrity_under p.options.algorithm p.data)

-- what is found is such an entry of one of these puts
abbrev pub FoundOfPuts : List ℕ → List ℕ → List Put → Option Found → Type 0
FoundOfPuts cache key [] found = ⊥
FoundOfPuts cache key (p ∷ ps) found =
    (found ≡ Some (found_of_put cache key p)) ⊎ FoundOfPuts cache key ps found

-- the command is one of these puts, and expects no integrity
abbrev pub IsOneOfPuts : List Put → Command → Type 0
IsOneOfPuts [] c = ⊥
IsOneOfPuts (p ∷ ps) c = ((c ≡ commands.Put p) × (p.options.integrity ≡ None)) ⊎ IsOneOfPuts ps c

-- if each move is of such a put, or of a call that spares the key, a lookup finds what it found, or
-- the entry of one of the puts
abbrev pub LookupsFollowPuts : History → Type 0
LookupsFollowPuts h =
    (key : List ℕ) (ps : List Put) (m n : ℕ) → m ≤ n
    → MovesAre h m n (λ c. SparesKey key c ⊎ IsOneOfPuts ps c)
    → (lookup_at h n key ≡ lookup_at h m key)
    ⊎ FoundOfPuts h.setup.cache key ps (lookup_at h n key)

-- a put that expects no integrity, and answers, is found at a place since it began
abbrev pub PutsArePlaced : History → Type 0
PutsArePlaced h =
    (m n caller : ℕ) (call : Call) (p : Put) (key : List ℕ) (i : List Hash)
    → CallIn h m n caller call (Some (Stored i)) → call.command ≡ commands.Put p
    → p.key ≡ Some key → p.options.integrity ≡ None
    → IsFoundIn h m n key (Some (found_of_put h.setup.cache key p))

-- at first a lookup finds nothing
abbrev pub NothingAtFirst : History → Type 0
NothingAtFirst h = (key : List ℕ) → lookup_at h 0 key ≡ None

-- ---- together

-- what holds of the places of a history, in the words of its callers
pub record PlaceLaws (h : History) : Type 0 where
  -- each turn of a call is its caller's, made since the call began
  pub own : TurnsAreOwn h
  -- each move is one of a call's
  pub moves : MovesAreOfCalls h
  -- each entry was written by such a move, and so was what a lookup finds
  pub written : EntriesAreWritten h
  pub wrote : FoundWasWritten h
  -- a lookup finds nothing at first, and then goes by the last entry that was written
  pub nothing : NothingAtFirst h
  pub follows : LookupsFollowWrites h
  pub puts : LookupsFollowPuts h
  -- it stays while each call spares the key
  pub stays : LookupsStay h
  -- what a call found or put holds at a place since the call began
  pub found : FindsArePlaced h
  pub got : GetsArePlaced h
  pub stored : PutsArePlaced h
