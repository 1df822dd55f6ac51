-- Moves of many callers one after another, what is fixed at each of their moments, and through which a durable commit is kept.
use Rattle.std.specs.Prelude.{List, [], ◌∷◌, Option, ◌≡◌, ℕ, None, Some, Bool, true, false, IfOk, Ok}
use Rattle.cacache_core.specs.Paths.{Names, names_of}
use Rattle.cacache_disk.specs.{declared.node.Node.{Node}, Tree.{Tree}, Apply.{apply}}
use Rattle.cacache_value.specs.{Acts.{Move, IsTrace}, Kinds.{Temporary, IsFor}, Placed.{Proper}}
use Rattle.cacache_loss.specs.{Fixing.{Fixed, fixed_after}, Loss.{Loss, lost_at}}
use Rattle.cacache_store.specs.{declared.store.{step.Step.TheVariants.{MakeDirs, CreateTemp, Write, Persist, Append, ReadAll, Open, Read, Exists, Size, Symlink, Copy, Reflink, HardLink, ReadDir, RemoveFile, RemoveDir, SyncTemp, SyncFile, SyncDir}, answer.Answer.TheVariants.{Done}}, Plain.{PlainStep, PlainAnswer}}

-- a tree, and what of it is fixed
pub record Moment : Type 0 where
  pub tree : Tree
  pub fixed : Fixed

-- the moment after a move
abbrev pub next : Moment → Move → Moment
next now m = record {
  tree = (apply now.tree m.step m.luck).1;
  fixed = fixed_after now.fixed now.tree (apply now.tree m.step m.luck).1 m.step m.answer;
}

-- the moment after these moves
abbrev pub after : Moment → List Move → Moment
after now [] = now
after now (m ∷ moves) = after (next now m) moves

-- what is at a path if the power goes at a moment
abbrev pub lost_then : Option Names → Moment → Loss → Names → Option Node
lost_then home now loss path = lost_at home now.tree now.fixed loss path

-- this holds of each move at its moment
abbrev pub EachMove : (Moment → Move → Type 0) → Moment → List Move → Type 0
EachMove Holds now [] = Unit {0}
EachMove Holds now (m ∷ moves) = Holds now m × EachMove Holds (next now m) moves

-- ---- moves through which a durable commit is kept: nothing is removed, linked or exported

-- whether a step removes, links and exports nothing
abbrev pub is_calm : PlainStep → Bool
is_calm (Symlink target p) = false
is_calm (Copy p q) = false
is_calm (Reflink p q) = false
is_calm (HardLink p q) = false
is_calm (RemoveFile p) = false
is_calm (RemoveDir p) = false
is_calm (MakeDirs p) = true
is_calm (CreateTemp p) = true
is_calm (Write f bytes) = true
is_calm (Persist f p) = true
is_calm (Append p bytes) = true
is_calm (ReadAll p) = true
is_calm (Open p) = true
is_calm (Read f most) = true
is_calm (Exists p) = true
is_calm (Size p) = true
is_calm (ReadDir p) = true
is_calm (SyncTemp f) = true
is_calm (SyncFile p) = true
is_calm (SyncDir p) = true

-- only temporary files are written and synced by their handles
abbrev pub HandlesTemp : Option Names → PlainStep → Type 0
HandlesTemp home (Write f bytes) = IsFor home Temporary f.path
HandlesTemp home (SyncTemp f) = IsFor home Temporary f.path
HandlesTemp home step = Unit {0}

-- a calm step
abbrev pub CalmStep : Option Names → PlainStep → Type 0
CalmStep home step = (is_calm step ≡ true) × HandlesTemp home step

-- a calm and proper step, answered as the disk answers at its moment
abbrev pub IsCalm : Option Names → Moment → Move → Type 0
IsCalm home now m =
    CalmStep home m.step × Proper home m.step × (m.answer ≡ (apply now.tree m.step m.luck).0)

-- each step is calm
abbrev pub CalmSteps : Option Names → List Move → Type 0
CalmSteps home [] = Unit {0}
CalmSteps home (m ∷ moves) = CalmStep home m.step × CalmSteps home moves

-- calm and proper steps, each answered as the disk answers at its moment
abbrev pub AreCalm : Option Names → Moment → List Move → Type 0
AreCalm home now moves = IsTrace home now.tree moves × CalmSteps home moves

-- ---- contents that are put

-- known bytes that are good
abbrev pub OfBytes : (List ℕ → Type 0) → Option (List ℕ) → Type 0
OfBytes Good None = ⊥
OfBytes Good (Some bytes) = Good bytes

-- a file that a step moves to this path is synced, and its bytes are good
abbrev pub PutsStep : (List ℕ → Type 0) → Names → Moment → PlainStep → PlainAnswer → Type 0
PutsStep Good path now (Persist f p) answer =
    answer ≡ Done → names_of p ≡ Ok path
    → OfBytes Good f.bytes × IfOk (names_of f.path) (λ from. (now.fixed.files from).whole ≡ true)
PutsStep Good path now step answer = Unit {0}

-- the same of a move
abbrev pub PutsMove : (List ℕ → Type 0) → Names → Moment → Move → Type 0
PutsMove Good path now m = PutsStep Good path now m.step m.answer

-- the same of each of these moves
abbrev pub PutWell : (List ℕ → Type 0) → Names → Moment → List Move → Type 0
PutWell Good path = EachMove (PutsMove Good path)
