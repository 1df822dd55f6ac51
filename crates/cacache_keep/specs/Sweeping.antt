-- What a sweep does, over any store.
use Rattle.std.specs.Prelude.{◌≡◌, ◌⊎◌, ◌++◌, ℕ, List, [], ◌∷◌, Option, None, Some, false, filter, length, map, not}
use Rattle.cacache_core.specs.{declared.errors.Error.{Error, TheVariants.{OutOfMemory}}, Paths.{join}}
use Rattle.cacache_store.specs.declared.store.answer.Answer.TheVariants as answers
use Rattle.cacache_store.specs.declared.store.answer.Kind.TheVariants as kinds
use Rattle.cacache_store.specs.{declared.store.{answer.{Kind.{Kind}, Name.{Name}}, log.LogItem.{LogItem}}, Plain.{PlainAnswer}}
use Rattle.cacache_store.specs.declared.store.step.Step.TheVariants as steps
use Rattle.cacache_calls.specs.{Runs.{Gains}, SingleSteps.{Does, FailsAt}}
use Rattle.cacache_walks.specs.WalkStates.{AnswerShows}
use Rattle.cacache_laws.specs.trees.Temporary.{area_of, cache_folder, is_temporary, sized_removals, temp_area_in, total}
use Rattle.cacache_keep.specs.Reading.{is_gone}

-- ---- temporary files, one after another

-- the log gained a listing of the folder, which has these names; one that isn't there has none
abbrev pub ListsFolder :
    List ℕ → List Name → Option (List LogItem) → Option (List LogItem) → Type 0
ListsFolder folder names old new = (t : PlainAnswer) × AnswerShows t names folder old new

-- the log gained the removals of these files of the folder, each with the size that it gave before
abbrev pub RemovesSized :
    List ℕ → List (Name × ℕ) → Option (List LogItem) → Option (List LogItem) → Type 0
RemovesSized folder removed old new = Gains old new (sized_removals folder removed)

-- the log gained the removal of the file at the path, and this is the size that it gave before
abbrev pub RemovesFile : List ℕ → ℕ → Option (List LogItem) → Option (List LogItem) → Type 0
RemovesFile path size old new =
    Gains old new
    ((steps.Size path, answers.Length size) ∷ (steps.RemoveFile path, answers.Done) ∷ [])

-- the log gained the removals of these files of the folder, and this is how many bytes they had
abbrev pub RemovesFiles :
    List ℕ → List Name → ℕ → Option (List LogItem) → Option (List LogItem) → Type 0
RemovesFiles folder files bytes old new =
    (removed : List (Name × ℕ))
    × (map (λ r. r.0) removed ≡ files) × (bytes ≡ total (map (λ r. r.1) removed))
    × RemovesSized folder removed old new

-- the paths of everything but the temporary files among these names of the folder
abbrev pub others_in : List ℕ → List Name → List (List ℕ)
others_in folder names = map (λ n. join folder n.name) (filter (λ n. not (is_temporary n)) names)

-- If a folder of temporary files is there, the log gained its listing, which gives these files and the paths of what else
-- lies there. If something else is there, that is strange itself.
abbrev pub ListsArea : Option Kind → List ℕ → List Name → List (List ℕ)
    → Option (List LogItem) → Option (List LogItem) → Type 0
ListsArea (Some kinds.Folder) folder files strange old new =
    (names : List Name) × ListsFolder folder names old new
    × (files ≡ filter is_temporary names) × (strange ≡ others_in folder names)
ListsArea None folder files strange old new = (files ≡ []) × (strange ≡ []) × (new ≡ old)
ListsArea (Some kind) folder files strange old new =
    (files ≡ []) × (strange ≡ folder ∷ []) × (new ≡ old)

-- the path of the folder of temporary files, from that of the cache folder
abbrev pub swept_folder : List ℕ → List ℕ
swept_folder cache = temp_area_in (cache_folder cache)

-- the log gained a listing of the cache folder, and of the folder of temporary files if the first named it as a
-- folder
abbrev pub FindsFiles : List ℕ → List Name → List (List ℕ)
    → Option (List LogItem) → Option (List LogItem) → Type 0
FindsFiles cache files strange old new =
    (around : List Name) × (looked : Option (List LogItem))
    × ListsFolder (cache_folder cache) around old looked
    × ListsArea (area_of around) (swept_folder cache) files strange looked new

-- The temporary files are found. Each is asked for its size and removed, in turn; the paths of what else lies there are
-- given.
pub record SweepsCache
    (cache : List ℕ) (files bytes : ℕ) (strange : List (List ℕ))
    (old new : Option (List LogItem)) : Type 0 where
  pub found : List Name
  pub listed : Option (List LogItem)
  pub listing : FindsFiles cache found strange old listed
  pub removed : List (Name × ℕ)
  pub each : map (λ r. r.0) removed ≡ found
  pub removing : RemovesSized (swept_folder cache) removed listed new
  pub counted : files ≡ length removed
  pub sized : bytes ≡ total (map (λ r. r.1) removed)

-- ---- errors

-- the file at the path didn't give its size, or wasn't removed then
abbrev pub StopsRemoval : List ℕ → Error → Option (List LogItem) → Option (List LogItem) → Type 0
StopsRemoval path e old new =
    FailsAt (steps.Size path) e old new
    ⊎ ((size : ℕ) × (told : Option (List LogItem))
    × Does (steps.Size path) (answers.Length size) old told
    × FailsAt (steps.RemoveFile path) e told new)

-- the error ended the removal of the first of these; or there is none, and memory ran out
abbrev pub StopsFirst :
    List ℕ → List Name → Error → Option (List LogItem) → Option (List LogItem) → Type 0
StopsFirst folder [] e old new = (e ≡ OutOfMemory) × (new ≡ old)
StopsFirst folder (n ∷ rest) e old new = StopsRemoval (join folder n.name) e old new

-- some of these files of the folder were removed, and the error ended the removal of the next
pub record StopsSized
    (folder : List ℕ) (files : List Name) (e : Error)
    (old new : Option (List LogItem)) : Type 0 where
  pub removed : List (Name × ℕ)
  pub rest : List Name
  pub split : files ≡ map (λ r. r.0) removed ++ rest
  pub between : Option (List LogItem)
  pub removing : RemovesSized folder removed old between
  pub stop : StopsFirst folder rest e between new

-- the error ended the listing of the folder, though that is there
abbrev pub StopsFolder : List ℕ → Error → Option (List LogItem) → Option (List LogItem) → Type 0
StopsFolder folder e old new = (is_gone e ≡ false) × FailsAt (steps.ReadDir folder) e old new

-- so it ended the one of the folder of temporary files, or memory ran out after it
abbrev pub StopsArea : List ℕ → Error → Option (List LogItem) → Option (List LogItem) → Type 0
StopsArea folder e old new =
    StopsFolder folder e old new
    ⊎ ((e ≡ OutOfMemory) × (names : List Name) × ListsFolder folder names old new)

-- the error ended the listing of the cache folder, or what came after it
abbrev pub StopsFinding : List ℕ → Error → Option (List LogItem) → Option (List LogItem) → Type 0
StopsFinding cache e old new =
    StopsFolder (cache_folder cache) e old new
    ⊎ ((around : List Name) × (looked : Option (List LogItem))
    × ListsFolder (cache_folder cache) around old looked
    × (((e ≡ OutOfMemory) × (new ≡ looked))
    ⊎ ((area_of around ≡ Some kinds.Folder) × StopsArea (swept_folder cache) e looked new)))

-- the error ended one of the listings, or the removals
abbrev pub StopsSweeping :
    List ℕ → Error → Option (List LogItem) → Option (List LogItem) → Type 0
StopsSweeping cache e old new =
    StopsFinding cache e old new
    ⊎ ((files : List Name) × (strange : List (List ℕ)) × (listed : Option (List LogItem))
    × FindsFiles cache files strange old listed
    × StopsSized (swept_folder cache) files e listed new)
