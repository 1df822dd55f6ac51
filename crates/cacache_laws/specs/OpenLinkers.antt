-- What an open linker does on a store in memory, in the words of its user. Between its opening and
-- its commit any calls may be made that leave a cache, and whatever becomes of the target, a linker
-- links the bytes that the target showed when it was opened.
use Rattle.std.specs.Prelude.{◌≡◌, ◌⊎◌, ◌<◌, ◌^◌, ◌++◌, ℕ, List, Option, None, Some, Result, Ok, Err, length}
use Rattle.cacache_core.specs.declared.errors.Error.{Error}
use Rattle.cacache_store.specs.declared.store.answer.Answer.TheVariants as answers
use Rattle.cacache_store.specs.declared.store.{log.LogItem.{LogItem}, plain.PlainFile.{PlainFile}}
use Rattle.cacache_store.specs.declared.store.step.Step.TheVariants as steps
use Rattle.cacache_disk.specs.{Apply.{opened}, Replay.{IsLog, shown, tree_of}}
use Rattle.cacache_calls.specs.{declared.{command.Link.{Link}, reply.Reply.{Reply, TheVariants.{Refused}}}, Inserting.{refused_cause}, Linking.{based, link_target}, Runs.{Ran, plain_reply}, SingleSteps.{Does, FailsAt}, State.{hashing, to_link}, Storing.{insertion_of, put_commit}, Effects.{IsRefused}}
use Rattle.cacache_laws.specs.{Beside.{own_integrity}, Caches.{IsCache, IsExcused, Grows}, ExportEffects.{IsApart}, Links.{FitsLink, KeepsBesideLink, put_like}}

-- ---- an opening

-- a target that showed these bytes was opened while this cache was sound
pub record TargetOpened (cache path held : List ℕ) (file : PlainFile) : Type 0 where
  pub old : List LogItem
  pub new : List LogItem
  pub sound : IsCache cache old
  pub shows : shown (tree_of old) path ≡ Some held
  pub opens : Does (steps.Open path) (answers.File file) (Some old) (Some new)
  pub small : file.left < 2 ^ 64
  pub logged : IsLog new

-- the target was opened, or an error says why not; its size was asked first, or not
module _ (path : List ℕ) where
  abbrev pub OpensTarget :
      Result PlainFile Error → Option (List LogItem) → Option (List LogItem) → Type 0
  OpensTarget (Ok file) old new = Does (steps.Open path) (answers.File file) old new
  OpensTarget (Err e) old new = FailsAt (steps.Open path) e old new

  -- the target reported this size
  abbrev pub TellsSize : ℕ → Option (List LogItem) → Option (List LogItem) → Type 0
  TellsSize size old new = Does (steps.Size path) (answers.Length size) old new

  abbrev pub OpensSized :
      Result (ℕ × PlainFile) Error → Option (List LogItem) → Option (List LogItem) → Type 0
  OpensSized (Ok (size, file)) old new =
      (mid : Option (List LogItem)) × TellsSize size old mid × OpensTarget (Ok file) mid new
  OpensSized (Err e) old new =
      FailsAt (steps.Size path) e old new
      ⊎ ((size : ℕ) × (mid : Option (List LogItem)) × TellsSize size old mid
      × OpensTarget (Err e) mid new)

-- ---- a commit

-- no size is expected, or the one that so many bytes have
abbrev pub SuitsSize : Option ℕ → ℕ → Type 0
SuitsSize size count = (size ≡ None) ⊎ (size ≡ Some count)

-- a linker took the first bytes and has the others to read, and the log gained a run of its commit
pub record CommitsRest (cache base : List ℕ) (l : Link) (bytes rest : List ℕ) (r : Reply)
    (old new : List LogItem) : Type 0 where
  pub ran :
      Ran
      (hashing (to_link (link_target (record { cache = cache; base = base; number = 0 }) l))
      (opened rest) bytes)
      r (Some old) (Some new)
  pub plain : plain_reply r ≡ r
  pub logged : IsLog new

-- ---- what it does

-- the entry that the commit of these bytes adds can be written
abbrev pub CanWrite : List ℕ → Link → List ℕ → Type 0
CanWrite cache l held =
    (key : List ℕ) → l.key ≡ Some key
    → refused_cause (insertion_of (put_commit cache (put_like l held)) key) ≡ None

-- a commit that expects no integrity, with an entry that can be written, fails only for a step of
-- its own or for memory
abbrev pub LinkersFail : Type 0
LinkersFail =
    (cache base : List ℕ) (l : Link) (bytes rest : List ℕ) (first : PlainFile) (e : Error)
    (old new : List LogItem)
    → FitsLink cache l → IsApart cache (based base l.target)
    → SuitsSize l.options.size (length (bytes ++ rest))
    → l.options.integrity ≡ None → CanWrite cache l (bytes ++ rest)
    → TargetOpened cache (based base l.target) (bytes ++ rest) first
    → IsCache cache old → CommitsRest cache base l bytes rest (Refused e) old new
    → IsExcused e old new

-- a commit that expects another size than that of the target's bytes is refused: all keys lead
-- where they led, and each content stays, but at the address of these bytes the link may lie
-- instead
abbrev pub LinkersRefuse : Type 0
LinkersRefuse =
    (cache base : List ℕ) (l : Link) (bytes rest : List ℕ) (first : PlainFile) (n : ℕ) (r : Reply)
    (old new : List LogItem)
    → IsApart cache (based base l.target) → l.options.size ≡ Some n
    → (n ≡ length (bytes ++ rest) → ⊥)
    → TargetOpened cache (based base l.target) (bytes ++ rest) first
    → IsCache cache old → CommitsRest cache base l bytes rest r old new
    → IsCache cache new × Grows old new
    × KeepsBesideLink cache None (own_integrity (put_like l (bytes ++ rest)))
    (based base l.target) old new
    × IsRefused r
