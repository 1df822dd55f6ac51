-- Bytes that are written by polls, piece by piece, and a reader that is copied by them.
use Rattle.std.specs.{Prelude.{◌≡◌, ◌⊎◌, ◌<◌, ℕ, List, [], ◌∷◌, ◌++◌, Result, Ok, Err, ⊤, take, drop, length, min, ◌≢◌, ◌+◌, ◌-◌, ◌^◌, Option, None, Some, vec_len}, Io.KnownBytes.{Consumes, Keeps, IsAtEnd}, IoError.{error_kind}, declared.io.ErrorKind.{ErrorKind}}
use Rattle.futures.specs.declared.task.Poll.{Poll, TheVariants.{Ready, Pending}}
use Rattle.cacache_core.specs.{declared.errors.{Error.{Error}, Fault.TheVariants.{WriteZero}}, Errors.{fault_of}}
use Rattle.cacache_async.specs.Futures.{TellsFault}
use Rattle.cacache_writers.specs.declared.copying.Gathered.{Gathered}
use Rattle.cacache_store.specs.Outside as io

-- how many bytes a writer gets next, and which
abbrev pub piece_len : List ℕ → ℕ
piece_len rest = min (length rest) 65536

abbrev pub next_piece : List ℕ → List ℕ
next_piece rest = take (piece_len rest) rest

-- how many of them an answer takes, and what it leaves
abbrev pub took : List ℕ → Poll (Result ℕ Error) → ℕ
took rest (Ready (Ok n)) = min n (piece_len rest)
took rest a = 0

abbrev pub left : List ℕ → Poll (Result ℕ Error) → List ℕ
left rest a = drop (took rest a) rest

-- it says that no byte was taken
abbrev pub SaysZero : Poll (Result ⊤ Error) → Type 0
SaysZero (Ready (Err e)) = TellsFault WriteZero e
SaysZero r = ⊥

-- the answer of the whole write to the writer's answer about a piece, with what is left then: another poll, or the end
abbrev pub Tells : Poll (Result ℕ Error) → List ℕ → Poll (Result ⊤ Error) → Type 0
Tells (Ready (Ok n)) after r =
    ((n ≡ 0) × SaysZero r)
    ⊎ (((0 < n) × (after ≡ []) × (r ≡ Ready (Ok tt)))
    ⊎ ((0 < n) × (0 < length after) × (r ≡ Pending)))
Tells (Ready (Err e)) after r = r ≡ Ready (Err e)
Tells Pending after r = r ≡ Pending

-- the writer was asked about the next piece of what was left, once, and its answer decides; for no bytes it isn't asked
abbrev pub WritesOn :
    {W : Type 0} → (W → List ℕ → Poll (Result ℕ Error) → W → Type 0)
    → W → List ℕ → W → List ℕ → Poll (Result ⊤ Error) → Type 0
WritesOn polls old rest new after r =
    ((length rest ≡ 0) × (new ≡ old) × (after ≡ rest) × (r ≡ Ready (Ok tt)))
    ⊎ ((0 < length rest) × ((a : Poll (Result ℕ Error)) × polls old (next_piece rest) a new
    × (after ≡ left rest a) × Tells a after r))

-- ---- laws

-- the bytes that these answers take, one after another, and what is left after them
abbrev pub all_taken : List ℕ → List (Poll (Result ℕ Error)) → List ℕ
all_taken rest [] = []
all_taken rest (a ∷ rs) = take (took rest a) rest ++ all_taken (left rest a) rs

abbrev pub left_over : List ℕ → List (Poll (Result ℕ Error)) → List ℕ
left_over rest [] = rest
left_over rest (a ∷ rs) = left_over (left rest a) rs

-- once nothing is left, each byte was taken once, in order, whatever the answers were
abbrev pub AllTaken : Type 0
AllTaken =
    (rest : List ℕ) (rs : List (Poll (Result ℕ Error)))
    → left_over rest rs ≡ [] → all_taken rest rs ≡ rest

-- ---- a reader that is copied by polls: what each poll reads or writes

-- the bytes that are handed on together, and those of them that aren't taken yet
abbrev pub piece_of : Gathered → List ℕ
piece_of g = take g.read g.buffer.items

abbrev pub held_of : Gathered → List ℕ
held_of g = drop g.taken (piece_of g)

-- nothing was read yet
abbrev pub IsFresh : Gathered → Type 0
IsFresh g = (vec_len g.buffer ≡ 0) × (g.taken ≡ 0) × (g.count ≡ 0) × (g.ended ≡ None)

-- reads go on: there is room, nothing was taken yet, and no read ended the copy
abbrev pub IsFilling : Gathered → Type 0
IsFilling g = (length (piece_of g) < 65536) × (g.taken ≡ 0) × (g.ended ≡ None)

-- what a read gave, of what the reader had; nothing at the end, and after an error
abbrev pub Gives : Option (List ℕ) → Option (List ℕ) → List ℕ → Result ℕ io.Error → Type 0
Gives known after bs (Ok n) = Consumes known after bs × (length bs ≡ n) × (n ≡ 0 → IsAtEnd after)
Gives known after bs (Err e) = Keeps known after × (bs ≡ [])

-- what is noted of a read: how many bytes it gave, where a count of 2^64 - 1 stays, or that it ended the copy; one that
-- was interrupted ends nothing
abbrev pub Notes : Result ℕ io.Error → Gathered → Gathered → Type 0
Notes (Ok n) old new =
    ((n ≡ 0) × (new.count ≡ old.count) × (new.ended ≡ Some (Ok tt)))
    ⊎ ((0 < n) × (new.count ≡ min (old.count + n) (2 ^ 64 - 1)) × (new.ended ≡ old.ended))
Notes (Err e) old new =
    (new.count ≡ old.count)
    × (((error_kind e ≡ io.Interrupted) × (new.ended ≡ old.ended))
    ⊎ ((error_kind e ≢ io.Interrupted) × (new.ended ≡ Some (Err (error_kind e)))))

-- a read into a buffer: what it gave stands behind the front
abbrev pub ReadsBehind :
    Option (List ℕ) → List ℕ → Option (List ℕ) → List ℕ → Result ℕ io.Error → Type 0
ReadsBehind known front after buffer a =
    (bs : List ℕ) × Gives known after bs a × (take (length front + length bs) buffer ≡ front ++ bs)

-- one read: what it gave comes to the end of the piece
abbrev pub Fills :
    Option (List ℕ) → Gathered → Option (List ℕ) → Gathered → Result ℕ io.Error → Type 0
Fills known old after new a =
    (bs : List ℕ) × Gives known after bs a
    × (piece_of new ≡ piece_of old ++ bs) × (new.taken ≡ old.taken)

-- a read, and what is noted of it
abbrev pub ReadsNext : Option (List ℕ) → Gathered → Option (List ℕ) → Gathered → Type 0
ReadsNext known old after new =
    (a : Result ℕ io.Error) × Fills known old after new a × Notes a old new

-- it has the fault of an error of this kind
abbrev pub FailsAs : ErrorKind → Poll (Result ℕ Error) → Type 0
FailsAs kind (Ready (Err told)) = TellsFault (fault_of kind) told
FailsAs kind r = ⊥

-- all was taken: reads go on with an empty piece, or the copy ends as its reads did
abbrev pub GoesOn : Option (Result ⊤ ErrorKind) → Gathered → Poll (Result ℕ Error) → Type 0
GoesOn None new r = (piece_of new ≡ []) × (new.taken ≡ 0) × (r ≡ Pending)
GoesOn (Some (Ok u)) new r = r ≡ Ready (Ok new.count)
GoesOn (Some (Err kind)) new r = FailsAs kind r

-- the answer of the copy to that of a write
abbrev pub TellsWrite : Poll (Result ⊤ Error) → Gathered → Poll (Result ℕ Error) → Type 0
TellsWrite (Ready (Ok u)) new r = GoesOn new.ended new r
TellsWrite (Ready (Err e)) new r = r ≡ Ready (Err e)
TellsWrite Pending new r = r ≡ Pending

-- one write of what is held
abbrev pub WritesNext :
    {W : Type 0} → (W → List ℕ → Poll (Result ℕ Error) → W → Type 0)
    → W → Gathered → W → Gathered → Poll (Result ℕ Error) → Type 0
WritesNext polls old held new next r =
    (a : Poll (Result ⊤ Error)) × WritesOn polls old (held_of held) new (held_of next) a
    × (next.count ≡ held.count) × (next.ended ≡ held.ended) × TellsWrite a next r

-- one poll of a copy: while a piece fills, some bytes are read; otherwise what is held is written on
abbrev pub CopiesOn :
    {W : Type 0} → (W → List ℕ → Poll (Result ℕ Error) → W → Type 0)
    → W → Gathered → Option (List ℕ) → W → Gathered → Option (List ℕ) → Poll (Result ℕ Error)
    → Type 0
CopiesOn polls old held known new next after r =
    (IsFilling held × (new ≡ old) × ReadsNext known held after next × (r ≡ Pending))
    ⊎ (¬ (IsFilling held) × (after ≡ known) × WritesNext polls old held new next r)
