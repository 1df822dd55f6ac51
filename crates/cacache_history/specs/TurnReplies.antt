-- What lookups, reads and listings answer, by what their turns show.
use Rattle.std.specs.Prelude.{◌≡◌, ◌⊎◌, ℕ, List, [], ◌∷◌, Option, None, Some, Result, Ok, Err, Bool, true, false}
use Rattle.sha1.specs.Sha1.{sha1}
use Rattle.cacache_core.specs.{declared.{errors.Error.TheVariants.{EntryNotFound, OutOfMemory}, integrity.digest.Hash.{Hash}}, Integrity.{Meets}}
use Rattle.cacache_store.specs.declared.store.step.Step.TheVariants as steps
use Rattle.cacache_store.specs.Plain.{PlainStep}
use Rattle.cacache_entry.specs.Bucket.{Found}
use Rattle.cacache_calls.specs.{declared.{answers.Refusal.{Refusal}, command.{Command.{Command}, Source.{Source}}, reply.Reply.{Reply, TheVariants.{Refused}}}, Promises.{HasCause, own_of}, Steps.{bucket_path, content_path}, Replies.{find_reply, content_reply, there_reply, refusal_reply, lookup}, Runs.{plain_reply}, Verifying.{CountsAs, UnlessRefused}}
use Rattle.cacache_calls.specs.declared.command.Command.TheVariants as commands
use Rattle.cacache_calls.specs.declared.command.Source.TheVariants as sources
use Rattle.cacache_value.specs.Shows.{blob_bytes}
use Rattle.cacache_history.specs.{Setup.{Setup}, History.{History, Turn, Call, Reaches}, Turns.{made_in, content_at, bucket_read, content_read, there_read}, ListingTurns.{ListsHeld}}

-- ---- replies

-- the only turn makes this step, and shows this
abbrev pub OneTurn : PlainStep → List Turn → (Turn → Type 0) → Type 0
OneTurn step turns Shows = (turn : Turn) × (turns ≡ turn ∷ []) × (turn.move.step ≡ step) × Shows turn

-- a lookup answers by the key's bucket
abbrev pub FindsHeld : Setup → List ℕ → List Turn → Reply → Type 0
FindsHeld s key turns r =
    OneTurn (steps.ReadAll (bucket_path s.cache key)) turns
    (λ turn. r ≡ find_reply key (bucket_read s (sha1 key) turn))

-- a read answers the content's bytes if they meet the integrity
abbrev pub ReadsHeld : Setup → List Hash → List Turn → Reply → Type 0
ReadsHeld s i turns r =
    OneTurn (steps.ReadAll (content_path s.cache i)) turns
    (λ turn. r ≡ content_reply i (content_read s i turn))

-- a question answers whether the content is there; after a failed step it isn't
abbrev pub AsksHeld : Setup → List Hash → List Turn → Reply → Type 0
AsksHeld s i turns r =
    OneTurn (steps.Exists (content_path s.cache i)) turns
    (λ turn. r ≡ there_reply (there_read s i turn))

-- what follows a lookup: the content that it found, or nothing
abbrev pub ReadsNext :
    Setup → List ℕ → Result (Option Found) Refusal → List Turn → Reply → Type 0
ReadsNext s key (Ok (Some f)) turns r = ReadsHeld s f.integrity turns r
ReadsNext s key (Ok None) turns r = (turns ≡ []) × (r ≡ Refused (EntryNotFound s.cache key))
ReadsNext s key (Err refusal) turns r = (turns ≡ []) × (r ≡ refusal_reply refusal)

-- a read by key: the lookup at one place, and the content that it found at the next
abbrev pub GetsHeld : Setup → List ℕ → List Turn → Reply → Type 0
GetsHeld s key turns r =
    (turn : Turn) × (more : List Turn) × (turns ≡ turn ∷ more)
    × (turn.move.step ≡ steps.ReadAll (bucket_path s.cache key))
    × ReadsNext s key (lookup key (bucket_read s (sha1 key) turn)) more r

-- ---- checked exports

-- the first turn opened the content, and its bytes at that place meet the integrity; a copy answers
-- their count
abbrev pub VerifiesHeld : Setup → List Hash → List Turn → Reply → Type 0
VerifiesHeld s i turns r =
    (turn : Turn) × (more : List Turn) × (turns ≡ turn ∷ more)
    × (turn.move.step ≡ steps.Open (content_path s.cache i))
    × (bytes : List ℕ) × (blob_bytes turn.place (content_at s i turn) ≡ Ok bytes)
    × Meets i bytes × CountsAs bytes r

-- by key, the lookup before it found that integrity
abbrev pub ExportsHeld : Setup → Source → List Turn → Reply → Type 0
ExportsHeld s (sources.Hash i) turns r = VerifiesHeld s i turns r
ExportsHeld s (sources.Key key) turns r =
    (turn : Turn) × (more : List Turn) × (turns ≡ turn ∷ more)
    × (turn.move.step ≡ steps.ReadAll (bucket_path s.cache key))
    × (found : Found) × (lookup key (bucket_read s (sha1 key) turn) ≡ Ok (Some found))
    × VerifiesHeld s found.integrity more r

-- an unchecked export verifies nothing
abbrev pub IfChecked : Bool → Type 0 → Type 0
IfChecked true X = X
IfChecked false X = Unit {0}

-- ---- of a history

-- what a call that reads answers
abbrev pub ReadsValue : Setup → Command → List Turn → Reply → Type 0
ReadsValue s (commands.Find key) turns r = FindsHeld s key turns r
ReadsValue s (commands.Get key) turns r = GetsHeld s key turns r
ReadsValue s (commands.GetHash i) turns r = ReadsHeld s i turns r
ReadsValue s (commands.Exists i) turns r = AsksHeld s i turns r
ReadsValue s commands.Ls turns r = ListsHeld s turns r
ReadsValue s (commands.Export source e) turns r =
    IfChecked e.checked (UnlessRefused (ExportsHeld s source turns r) r)
ReadsValue s command turns r = Unit {0}

-- each reply of a call that reads, except out of memory, is what its turns show at their places
abbrev pub RepliesReadValue : History → Type 0
RepliesReadValue h =
    (call : Call) (r : Reply) → Reaches h call (Some r)
    → (r ≡ Refused OutOfMemory) ⊎ ReadsValue h.setup call.command call.turns (plain_reply r)

-- each `IoError` has a cause: a step of the call failed so, was short or took nothing, or a walk
-- went too deep or met a file in the cache's own folder
abbrev pub RepliesHaveCauses : History → Type 0
RepliesHaveCauses h =
    (call : Call) (r : Reply) → Reaches h call (Some r)
    → HasCause (own_of call.command) (made_in call.turns) (plain_reply r)
