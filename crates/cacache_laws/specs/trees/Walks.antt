-- What a walk shows of the trees that it read.
use Rattle.std.specs.Prelude.{◌≡◌, ◌<◌, ◌++◌, ◌∷◌, ◌↔◌, ℕ, List, [], Bool, true, false, Option, None, Some, Ok, IsTrue, All, Contains, length}
use Rattle.cacache_core.specs.Paths.{Names, IsProperName, names_of, joined}
use Rattle.cacache_disk.specs.{declared.{luck.Luck.{Luck}, node.Node.{Node, TheVariants.{Folder, File, Link}}}, Tree.{Tree, look, Rooted}, Apply.{apply}}
use Rattle.cacache_calls.specs.Runs.{Moves}
use Rattle.cacache_walks.specs.Reading.{ReadsFolders, top_folder, files_shown}

-- each move was answered by the tree at its place, under any luck
abbrev pub ReadAt : List Tree → Moves → Type 0
ReadAt [] [] = Unit {0}
ReadAt [] (m ∷ moves) = ⊥
ReadAt (t ∷ trees) [] = ⊥
ReadAt (t ∷ trees) (m ∷ moves) =
    Rooted t × ((luck : Luck) × (m.1 ≡ (apply t m.0 luck).0)) × ReadAt trees moves

-- whether a file or a link is there
abbrev pub is_leaf : Option Node → Bool
is_leaf None = false
is_leaf (Some Folder) = false
is_leaf (Some (File bytes)) = true
is_leaf (Some (Link target)) = true

-- for each path below the folder the walk found out, at one of its places, whether a file or link
-- is there
abbrev pub WalksFind : Type 0
WalksFind =
    (top : List ℕ) (base : Names) (moves : Moves) (trees : List Tree) (names : Names)
    → names_of top ≡ Ok base → ReadsFolders (top_folder top ∷ []) moves → ReadAt trees moves
    → All IsProperName names → 0 < length names
    → (t : Tree) × Contains trees t
    × (Contains (files_shown moves) (joined top names) ↔ IsTrue (is_leaf (look t (base ++ names))))

-- and it found nothing else
abbrev pub WalksStayBelow : Type 0
WalksStayBelow =
    (top : List ℕ) (base : Names) (moves : Moves) (trees : List Tree) (path : List ℕ)
    → names_of top ≡ Ok base → ReadsFolders (top_folder top ∷ []) moves → ReadAt trees moves
    → Contains (files_shown moves) path
    → (names : Names) × (0 < length names) × All IsProperName names × (path ≡ joined top names)
