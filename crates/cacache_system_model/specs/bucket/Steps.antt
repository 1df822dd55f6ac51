-- The writes and reads of a bucket's file as steps of a disk, one after another.
use Rattle.std.specs.Prelude.{◌≡◌, ℕ, true, List, [], ◌∷◌, ◌++◌, Option, Some, Ok, length, map, flat_map, option_to_list}
use Rattle.cacache_core.specs.Paths.{Names, names_of, bucket_names_of}
use Rattle.cacache_store.specs.declared.store.{step.Step.TheVariants.{Append, ReadAll}, answer.Answer.TheVariants.{Took, Bytes}}
use Rattle.cacache_disk.specs.{declared.{luck.Luck.TheVariants.{Take, Plain}, node.Node.TheVariants.{File}}, Tree.{Tree, look, Rooted}, Apply.{apply}}
use Rattle.cacache_entry.specs.Bucket.{entries_of}
use Rattle.cacache_value.specs.{Kinds.{is_path_of}, Value.{Value}, Acts.{list_of, Move, tree_after, acts}}
use Rattle.cacache_system_model.specs.bucket.File.{LineWrite, BucketFile, Event, Answers, Stops, Ends, bytes_to_write, idle, next, file_after, file_of, Happen, whole_entries}

-- the write that an event ends
abbrev pub ended_by : BucketFile → Event → List LineWrite
ended_by s (Answers process count) = option_to_list s.writing
ended_by s (Stops process) = option_to_list s.writing
ended_by s other = []

-- the writes that events end
abbrev pub all_ended : BucketFile → List Event → List LineWrite
all_ended s [] = []
all_ended s (e ∷ es) = ended_by s e ++ all_ended (next s e) es

-- all writes, in the order in which they got the lock; the last one may not be over
abbrev pub all_writes : BucketFile → List Event → List LineWrite
all_writes s events = all_ended s events ++ option_to_list (file_after s events).writing

-- the bytes that writes leave, one after another
abbrev pub left_by : List LineWrite → List ℕ
left_by = flat_map (λ w. w.visible)

-- the file is what these writes leave if each is made whole before the next one
abbrev pub WritesAreAppends : Type 0
WritesAreAppends =
    (start : List ℕ) (events : List Event) → Happen (idle start) events
    → (file_of start events).bytes ≡ start ++ left_by (all_writes (idle start) events)

-- a write as a step of the disk at this path, which answers how many bytes it left
abbrev pub move_of : List ℕ → LineWrite → Move
move_of path w = record {
  step = Append path (bytes_to_write w);
  luck = Take (length w.visible);
  answer = Took (length w.visible);
}

-- the writes as such steps
abbrev pub steps_of : List ℕ → List ℕ → List Event → List Move
steps_of path start events = map (move_of path) (all_writes (idle start) events)

-- the whole entries are what a cache's value has after these steps, if it had those at the start
abbrev pub WholeAreOfSteps : Type 0
WholeAreOfSteps =
    (home : Option Names) (v : Value) (path digest : List ℕ) (names : Names) (start : List ℕ)
    (events : List Event)
    → names_of path ≡ Ok names → is_path_of home (bucket_names_of digest) names ≡ true
    → list_of (v.buckets digest) ≡ entries_of start → Happen (idle start) events
    → list_of ((acts home v (steps_of path start events)).buckets digest)
    ≡ whole_entries start events

-- the disk answers each of these steps so
abbrev pub AnswerSo : Tree → List Move → Type 0
AnswerSo t [] = Unit {0}
AnswerSo t (m ∷ moves) =
    (m.answer ≡ (apply t m.step m.luck).0) × AnswerSo (apply t m.step m.luck).1 moves

-- on a disk that has the file at the path these steps are answered so, and leave the file's bytes
abbrev pub StepsLeaveFile : Type 0
StepsLeaveFile =
    (t : Tree) (path : List ℕ) (names : Names) (start : List ℕ) (events : List Event)
    → Rooted t → names_of path ≡ Ok names → look t names ≡ Some (File start)
    → Happen (idle start) events
    → AnswerSo t (steps_of path start events)
    × (look (tree_after t (steps_of path start events)) names
    ≡ Some (File (file_of start events).bytes))

-- each reader reads what the disk answers to a `ReadAll` after these steps
abbrev pub ReadsAreOfDisk : Type 0
ReadsAreOfDisk =
    (t : Tree) (path : List ℕ) (names : Names) (start : List ℕ) (events after : List Event)
    (reader : ℕ)
    → Rooted t → names_of path ≡ Ok names → look t names ≡ Some (File start)
    → Happen (idle start) (events ++ Ends reader ∷ after)
    → (bytes : List ℕ) × ((file_of start events).read reader ≡ Some bytes)
    × ((apply (tree_after t (steps_of path start events)) (ReadAll path) Plain).0 ≡ Bytes bytes)
