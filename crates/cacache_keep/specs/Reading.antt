-- Contents that are read in pieces, and which of them are good.
use Rattle.std.specs.Prelude.{◌≡◌, ◌⊎◌, ◌++◌, ◌+◌, ◌-◌, ◌^◌, ℕ, List, [], ◌∷◌, Bool, true, false, Option, filter, length, map, min, not}
use Rattle.cacache_core.specs.{declared.{errors.{Error.{Error, TheVariants.{IoError, OutOfMemory}}, Fault.TheVariants.{NotFound}}, integrity.digest.Hash.{Hash}}, Matching.{meets}}
use Rattle.cacache_store.specs.declared.store.answer.Answer.TheVariants as answers
use Rattle.cacache_store.specs.declared.store.{log.LogItem.{LogItem}, plain.PlainFile.{PlainFile}}
use Rattle.cacache_store.specs.declared.store.step.Step.TheVariants as steps
use Rattle.cacache_calls.specs.{declared.answers.Refusal.{Refusal}, Runs.{Moves, Gains}, SingleSteps.{Does, FailsAt}, Steps.{content_path}, Table.{piece}}
use Rattle.cacache_calls.specs.declared.answers.Refusal.TheVariants as refusals
use Rattle.cacache_laws.specs.trees.Temporary.{total}

-- ---- an open file

-- each of the moves is a read of a piece; they gave these bytes, and this is what is left of the file
abbrev pub Pieces : PlainFile → Moves → List ℕ → PlainFile → Type 0
Pieces file [] bytes left = (bytes ≡ []) × (left ≡ file)
Pieces file ((steps.Read f most, answers.Got g (b ∷ bs)) ∷ moves) bytes left =
    (f ≡ file) × (most ≡ piece)
    × (more : List ℕ) × (bytes ≡ (b ∷ bs) ++ more) × Pieces g moves more left
Pieces file moves bytes left = ⊥

-- the log gained such reads
abbrev pub Gave :
    PlainFile → List ℕ → PlainFile → Option (List LogItem) → Option (List LogItem) → Type 0
Gave file bytes left old new = (moves : Moves) × Pieces file moves bytes left × Gains old new moves

-- and then a read that gave nothing: these are all the bytes of the file
abbrev pub GaveAll : PlainFile → List ℕ → Option (List LogItem) → Option (List LogItem) → Type 0
GaveAll file bytes old new =
    (left last : PlainFile) × (mid : Option (List LogItem)) × Gave file bytes left old mid
    × Does (steps.Read left piece) (answers.Got last []) mid new

-- so it gave all, and whether these bytes meet the address, and how many they are; 2^64 - 1 if
-- there are more
abbrev pub JudgesBytes : List Hash → PlainFile → Bool → ℕ
    → Option (List LogItem) → Option (List LogItem) → Type 0
JudgesBytes i file good size old new =
    (bytes : List ℕ) × (good ≡ meets i bytes) × (size ≡ min (length bytes) (2 ^ 64 - 1))
    × GaveAll file bytes old new

-- the next read failed
abbrev pub FailsToGive : PlainFile → Error → Option (List LogItem) → Option (List LogItem) → Type 0
FailsToGive file e old new =
    (bytes : List ℕ) × (left : PlainFile) × (mid : Option (List LogItem))
    × Gave file bytes left old mid × FailsAt (steps.Read left piece) e mid new

-- so it did, or memory ran out once all was read
abbrev pub StopsGiving : PlainFile → Error → Option (List LogItem) → Option (List LogItem) → Type 0
StopsGiving file e old new =
    FailsToGive file e old new
    ⊎ ((e ≡ OutOfMemory) × (bytes : List ℕ) × GaveAll file bytes old new)

-- ---- a content

-- the error says that nothing was found
abbrev pub is_gone : Error → Bool
is_gone (IoError NotFound message) = true
is_gone error = false

-- a step was refused because nothing was found
abbrev pub finds_none : Refusal → Bool
finds_none (refusals.Fault NotFound) = true
finds_none refusal = false

module _ (cache : List ℕ) (i : List Hash) where
  -- the log gained an opening of the content, which gave this file
  abbrev pub Opens : PlainFile → Option (List LogItem) → Option (List LogItem) → Type 0
  Opens file old new = Does (steps.Open (content_path cache i)) (answers.File file) old new

  -- it is gone
  abbrev pub FindsNone : Option (List LogItem) → Option (List LogItem) → Type 0
  FindsNone old new = Does (steps.Open (content_path cache i)) (answers.Failed NotFound) old new

  -- it was opened and read to its end, and its bytes were judged so
  abbrev pub ReadsWhole : Bool → ℕ → Option (List LogItem) → Option (List LogItem) → Type 0
  ReadsWhole good size old new =
      (file : PlainFile) × (mid : Option (List LogItem)) × Opens file old mid
      × JudgesBytes i file good size mid new

  -- the content is good exactly if its bytes meet the address, and they are so many; one that is
  -- gone isn't good, and has none
  abbrev pub SaysGood : Bool → ℕ → Option (List LogItem) → Option (List LogItem) → Type 0
  SaysGood good size old new =
      ReadsWhole good size old new ⊎ ((good ≡ false) × (size ≡ 0) × FindsNone old new)

  -- the error ended that: the content couldn't be opened though it isn't gone, or not be read
  abbrev pub StopsContent : Error → Option (List LogItem) → Option (List LogItem) → Type 0
  StopsContent e old new =
      ((is_gone e ≡ false) × FailsAt (steps.Open (content_path cache i)) e old new)
      ⊎ ((file : PlainFile) × (mid : Option (List LogItem)) × Opens file old mid
      × StopsGiving file e mid new)

-- ---- contents, one after another

-- a content's address, whether it is good, and how many bytes it gave
abbrev pub Judged : Type 0
Judged = List Hash × Bool × ℕ

-- how many bytes the good ones of these gave; 2^64 - 1 if there are more
abbrev pub good_bytes_of : List Judged → ℕ
good_bytes_of reads = total (map (λ r. r.2) (filter (λ r. r.1) reads))

-- and how many the others gave
abbrev pub damaged_bytes_of : List Judged → ℕ
damaged_bytes_of reads = total (map (λ r. r.2) (filter (λ r. not r.1) reads))

-- the log gained what says so of each of these contents, in turn
abbrev pub SaysOfEach :
    List ℕ → List Judged → Option (List LogItem) → Option (List LogItem) → Type 0
SaysOfEach cache [] old new = new ≡ old
SaysOfEach cache (r ∷ reads) old new =
    (next : Option (List LogItem)) × SaysGood cache r.0 r.1 r.2 old next
    × SaysOfEach cache reads next new

-- The contents at these addresses were read, each in turn: so many are good, and these are damaged.
-- Together they are all of them.
pub record ReadsEach
    (cache : List ℕ) (addresses : List (List Hash)) (good : ℕ) (damaged : List (List Hash))
    (old new : Option (List LogItem)) : Type 0 where
  pub reads : List Judged
  pub each : map (λ r. r.0) reads ≡ addresses
  pub reading : SaysOfEach cache reads old new
  pub whole : good ≡ length (filter (λ r. r.1) reads)
  pub broken : damaged ≡ map (λ r. r.0) (filter (λ r. not r.1) reads)
  pub counts : good + length damaged ≡ length addresses

-- so they were, and the good ones and the damaged ones gave so many bytes
abbrev pub WeighsEach : List ℕ → List (List Hash) → ℕ → ℕ → List (List Hash) → ℕ
    → Option (List LogItem) → Option (List LogItem) → Type 0
WeighsEach cache addresses good good_bytes damaged damaged_bytes old new =
    (it : ReadsEach cache addresses good damaged old new)
    × (good_bytes ≡ good_bytes_of it.reads) × (damaged_bytes ≡ damaged_bytes_of it.reads)

-- the same, if the good ones aren't counted
abbrev pub WeighsOthers : List ℕ → List (List Hash) → ℕ → List (List Hash) → ℕ
    → Option (List LogItem) → Option (List LogItem) → Type 0
WeighsOthers cache addresses good_bytes damaged damaged_bytes old new =
    (good : ℕ) × WeighsEach cache addresses good good_bytes damaged damaged_bytes old new

-- the error ended the reading of the first of these contents; or there is none, and memory ran out
abbrev pub StopsNext :
    List ℕ → List (List Hash) → Error → Option (List LogItem) → Option (List LogItem) → Type 0
StopsNext cache [] e old new = (e ≡ OutOfMemory) × (new ≡ old)
StopsNext cache (i ∷ rest) e old new = StopsContent cache i e old new

-- some of the contents at these addresses were read, and the error ended the reading of the next
pub record StopsEach
    (cache : List ℕ) (addresses : List (List Hash)) (e : Error)
    (old new : Option (List LogItem)) : Type 0 where
  pub reads : List Judged
  pub rest : List (List Hash)
  pub split : addresses ≡ map (λ r. r.0) reads ++ rest
  pub between : Option (List LogItem)
  pub reading : SaysOfEach cache reads old between
  pub stop : StopsNext cache rest e between new
