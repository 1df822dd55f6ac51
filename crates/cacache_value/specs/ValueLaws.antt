-- The laws of the cache's value.
use Rattle.std.specs.Prelude.{◌≡◌, ◌≤◌, ◌<◌, ℕ, Bool, false, List, [], ◌∷◌, ◌++◌, Option, None, Some, Ok, length}
use Rattle.cacache_core.specs.Paths.{Names, names_of, bucket_names_of}
use Rattle.cacache_store.specs.{declared.store.step.Step.TheVariants.{Append}, Plain.{PlainStep, PlainAnswer}}
use Rattle.cacache_disk.specs.{declared.luck.Luck.{Luck}, Tree.{Tree, bare, Rooted}, Apply.{apply}}
use Rattle.cacache_entry.specs.{Entry.{Entry, line_of, closed_line}, FittingEntries.{IsEntry, IsWritable}}
use Rattle.cacache_value.specs.{Kinds.{is_path_of}, Value.{Value, wide_value, value_of_tree, cache_part}, Acts.{Act, Nothing, Drop, AddEntries, amount_left, act_of, change, list_of, Move, IsTrace, tree_after, acts}, Placed.{Placed, Proper, with_files, LieApart, IsOpening}, Shows.{ReadsShow}}

-- ---- one step

-- a proper step on a placed tree leaves a placed tree, under any luck
abbrev pub StepsKeepPlaced : Type 0
StepsKeepPlaced =
    (home : Option Names) (t : Tree) (step : PlainStep) (luck : Luck)
    → Placed home t → Proper home step
    → Placed home (apply t step luck).1

-- its value is that of the tree before, changed by the act of the step
abbrev pub StepsAct : Type 0
StepsAct =
    (home : Option Names) (t : Tree) (step : PlainStep) (luck : Luck)
    → Placed home t → Proper home step
    → wide_value home (apply t step luck).1
    ≡ change home (act_of step luck (apply t step luck).0) (wide_value home t)

-- each step, proper or not, leaves each node in a folder
abbrev pub StepsKeepRooted : Type 0
StepsKeepRooted =
    (t : Tree) (step : PlainStep) (luck : Luck) → Rooted t → Rooted (apply t step luck).1

-- on such a tree reading steps show its value
abbrev pub TreesShow : Type 0
TreesShow = (home : Option Names) (t : Tree) → Placed home t → Rooted t → ReadsShow home t

-- ---- appends

-- an append of an entry's line, durable or not, that left n bytes adds these entries
abbrev pub LineAdds : Entry → ℕ → List Entry → Type 0
LineAdds e n entries =
    (durable : Bool) (path : List ℕ) (names : Names) (luck : Luck) (answer : PlainAnswer)
    → names_of path ≡ Ok names → amount_left luck answer ≡ Some n
    → act_of (Append path (closed_line durable e)) luck answer ≡ AddEntries names entries

-- if all of the line was left, its entry; the LF that closes it may be missing
abbrev pub WholeLinesAdd : Type 0
WholeLinesAdd =
    (e : Entry) (n : ℕ) → IsEntry e → IsWritable e → length (line_of e) ≤ n → LineAdds e n (e ∷ [])

-- if less was left, none
abbrev pub TornLinesAddNone : Type 0
TornLinesAddNone =
    (e : Entry) (n : ℕ) → IsEntry e → IsWritable e → n < length (line_of e) → LineAdds e n []

-- and an append that changed nothing has no act
abbrev pub NothingLeftIsNothing : Type 0
NothingLeftIsNothing =
    (path bytes : List ℕ) (luck : Luck) (answer : PlainAnswer) → amount_left luck answer ≡ None
    → act_of (Append path bytes) luck answer ≡ Nothing

-- ---- steps one after another

-- after proper steps the cache's value is what their acts make of the value before
abbrev pub TracesAct : Type 0
TracesAct =
    (home : Option Names) (t : Tree) (moves : List Move) → Placed home t → IsTrace home t moves
    → value_of_tree home (tree_after t moves)
    ≡ cache_part home (acts home (wide_value home t) moves)

-- the value after these steps is what their acts made, and reading steps show it
pub record ShowsActs (home : Option Names) (t : Tree) (before : List Move) : Type 0 where
  pub value : wide_value home (tree_after t before) ≡ acts home (wide_value home t) before
  pub shows : ReadsShow home (tree_after t before)

-- so at each place reading steps show what the steps before it made
abbrev pub TracesShow : Type 0
TracesShow =
    (home : Option Names) (t : Tree) (before : List Move)
    → Placed home t → Rooted t → IsTrace home t before
    → ShowsActs home t before

-- an act that doesn't remove the bucket of a SHA-1
abbrev pub KeepsBucket : Option Names → List ℕ → Act → Type 0
KeepsBucket home digest (Drop path) = is_path_of home (bucket_names_of digest) path ≡ false
KeepsBucket home digest other = Unit {0}

-- steps with acts that don't
abbrev pub KeepBucket : Option Names → List ℕ → List Move → Type 0
KeepBucket home digest [] = Unit {0}
KeepBucket home digest (m ∷ moves) =
    KeepsBucket home digest (act_of m.step m.luck m.answer) × KeepBucket home digest moves

-- the second list is the first with more at its end
abbrev pub IsLonger : List Entry → List Entry → Type 0
IsLonger old new = (more : List Entry) × (new ≡ old ++ more)

-- between two removals of a bucket its list only grows at the end
abbrev pub BucketsGrow : Type 0
BucketsGrow =
    (home : Option Names) (v : Value) (digest : List ℕ) (moves : List Move)
    → KeepBucket home digest moves
    → IsLonger (list_of (v.buckets digest)) (list_of ((acts home v moves).buckets digest))

-- ---- the beginning

-- a tree of only outside files holds nothing of the cache
abbrev pub FilesOpen : Type 0
FilesOpen =
    (home : Option Names) (files : List (List ℕ × List ℕ)) (t : Tree) → LieApart home files
    → with_files bare files ≡ Ok t → IsOpening home t
