-- Calls that only look, on the tree of a store in memory.
use Rattle.std.specs.Prelude.{◌≡◌, ◌⊎◌, ℕ, List, [], ◌∷◌}
use Rattle.cacache_core.specs.declared.errors.Error.TheVariants.{OutOfMemory}
use Rattle.cacache_store.specs.declared.store.log.LogItem.{LogItem}
use Rattle.cacache_disk.specs.{declared.luck.Luck.TheVariants.{Plain}, Tree.{Tree, Rooted}, Apply.{apply}, Replay.{tree_of}}
use Rattle.cacache_calls.specs.{declared.{command.Command.{Command}, reply.Reply.{Reply, TheVariants.{Refused}}}, State.{Site}, Table.{opening}, Runs.{Moves, Runs}}
use Rattle.cacache_laws.specs.{Caches.{Called}, Looks.{OnlyLooks}}

-- each move has the answer of this tree
abbrev pub AnsweredBy : Tree → Moves → Type 0
AnsweredBy t [] = Unit {0}
AnsweredBy t (m ∷ moves) = (m.1 ≡ (apply t m.0 Plain).0) × AnsweredBy t moves

-- a call that is made on this tree, and leaves it, may answer so
abbrev pub AnswersOn : Site → Tree → Command → Reply → Type 0
AnswersOn site t command r =
    (moves : Moves) × Runs (opening site command) moves r × AnsweredBy t moves

-- ---- laws

-- the tree of a log is rooted, whatever was planted
abbrev pub TreesAreRooted : Type 0
TreesAreRooted = (log : List LogItem) → Rooted (tree_of log)

-- a call that only looks answers so on the tree of the log that it found
abbrev pub LooksAnswer : Type 0
LooksAnswer =
    (cache : List ℕ) (command : Command) (r : Reply) (old new : List LogItem)
    → OnlyLooks command → (c : Called cache command r old new)
    → AnswersOn (record { cache = cache; base = c.base; number = c.number }) (tree_of old) command r

-- out of memory
abbrev pub IsMemory : Reply → Type 0
IsMemory r = r ≡ Refused OutOfMemory

-- two answers of one call on one tree are the same, unless one is out of memory
abbrev pub AnswersAgree : Type 0
AnswersAgree =
    (site : Site) (t : Tree) (command : Command) (r other : Reply)
    → AnswersOn site t command r → AnswersOn site t command other
    → (r ≡ other) ⊎ (IsMemory r ⊎ IsMemory other)
