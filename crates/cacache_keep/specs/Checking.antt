-- Lines of the index that this crate can't read, and what is done about them, over any store.
use Rattle.std.specs.{Prelude.{◌≡◌, ℕ, List, [], ◌∷◌, Bool, Option, None, Some, filter_map, if◌then◌else◌}, List.{list_any}}
use Rattle.cacache_core.specs.declared.errors.{Error.{Error}, Fault.TheVariants.{Unsupported}}
use Rattle.cacache_store.specs.declared.store.answer.Answer.TheVariants as answers
use Rattle.cacache_store.specs.{declared.store.log.LogItem.{LogItem}, Plain.{PlainStep, PlainAnswer}}
use Rattle.cacache_store.specs.declared.store.step.Step.TheVariants as steps
use Rattle.cacache_entry.specs.Bucket.{Found}
use Rattle.cacache_calls.specs.{Common.{fails}, Runs.{EndsAs, Moves}, State.{Site}}
use Rattle.cacache_laws.specs.trees.Compacting.{is_odd, lines_of}
use Rattle.cacache_keep.specs.{declared.checking.OddLines.{OddLines, TheVariants.{Refuse, Ignore}}, Calls.{ListsEntries}}

-- whether bytes have an odd line
abbrev pub has_odd : List ℕ → Bool
has_odd x = list_any is_odd (lines_of x)

-- the path and the bytes of the bucket that a move read
abbrev pub bucket_read : PlainStep → PlainAnswer → Option (List ℕ × List ℕ)
bucket_read (steps.ReadAll path) (answers.Bytes bytes) = Some (path, bytes)
bucket_read step answer = None

-- the path of a bucket, if the bucket has an odd line
abbrev pub odd_bucket : Option (List ℕ × List ℕ) → Option (List ℕ)
odd_bucket None = None
odd_bucket (Some (path, bytes)) = if has_odd bytes then Some path else None

-- the path of the bucket that a move read, if the bucket has an odd line
abbrev pub odd_read : PlainStep → PlainAnswer → Option (List ℕ)
odd_read step answer = odd_bucket (bucket_read step answer)

-- the paths of the buckets with odd lines that the moves read, in turn
abbrev pub odd_in : Moves → List (List ℕ)
odd_in moves = filter_map (λ m. odd_read m.0 m.1) moves

-- the log gained a listing of the index, which has these entries and these buckets with odd lines
abbrev pub ReadsIndex : Site → List Found → List (List ℕ)
    → Option (List LogItem) → Option (List LogItem) → Type 0
ReadsIndex site entries odd old new =
    (l : ListsEntries site entries old new) × (odd ≡ odd_in l.2.0)

-- there are none of these buckets, if odd lines are refused
abbrev pub Allows : OddLines → List (List ℕ) → Type 0
Allows Refuse odd = odd ≡ []
Allows Ignore odd = Unit {0}

-- there are some, and they are refused
abbrev pub RefusesOdd : OddLines → List (List ℕ) → Error → Type 0
RefusesOdd Refuse (path ∷ odd) e = EndsAs e (fails Unsupported)
RefusesOdd choice odd e = ⊥
