-- What an open writer does on a store in memory, in the words of its user. Between its opening and
-- its commit any calls may be made that leave a cache.
use Rattle.std.specs.Prelude.{◌≡◌, ◌⊎◌, ℕ, List, Option, Some, Result, Ok, Err}
use Rattle.cacache_store.specs.{Plain.{PlainAnswer, PlainStep}, declared.store.{log.LogItem.{LogItem}, plain.PlainTemp.{PlainTemp}}}
use Rattle.cacache_core.specs.declared.errors.Error.{Error}
use Rattle.cacache_store.specs.declared.store.answer.Answer.TheVariants as answers
use Rattle.cacache_store.specs.declared.store.step.Step.TheVariants as steps
use Rattle.cacache_disk.specs.{Apply.{made_temp}, Replay.{IsLog}}
use Rattle.cacache_calls.specs.{declared.{command.Put.{Put}, reply.Reply.{Reply}}, Steps.{temp_folder, temp_path}, Runs.{Ran, plain_reply}, SingleSteps.{Does, FailsAt}, Storing.{put_commit, persist}}
use Rattle.cacache_laws.specs.{Caches.{IsCache, Grows}, Beside.{StaysKnown}}

-- a cache is left, and all that was known of it still holds
abbrev pub LeavesKnownCache : List ℕ → List LogItem → List LogItem → Type 0
LeavesKnownCache cache old new = IsCache cache new × StaysKnown cache old new × Grows old new

-- ---- an opening

module _ (cache : List ℕ) (number : ℕ) where
  -- the folder of temporary files is made, and then the writer's own file
  abbrev pub make_folder : PlainStep
  make_folder = steps.MakeDirs (temp_folder cache)

  -- the step that makes the writer's file
  abbrev pub make_file : PlainStep
  make_file = steps.CreateTemp (temp_path cache number)

  -- a writer's file was made, or an error says why not
  abbrev pub OpensWriter :
      Result PlainTemp Error → Option (List LogItem) → Option (List LogItem) → Type 0
  OpensWriter (Ok file) old new =
      (mid : Option (List LogItem)) × Does make_folder answers.Done old mid
      × Does make_file (answers.Temp file) mid new
  OpensWriter (Err e) old new =
      FailsAt make_folder e old new
      ⊎ ((mid : Option (List LogItem)) × Does make_folder answers.Done old mid
      × FailsAt make_file e mid new)

  -- a writer with a file of this number was opened on this cache
  pub record IsOpened : Type 0 where
    pub old : List LogItem
    pub new : List LogItem
    pub sound : IsCache cache old
    pub opens : OpensWriter (Ok (made_temp (temp_path cache number))) (Some old) (Some new)
    pub logged : IsLog new

-- ---- a commit

-- a writer's file has the bytes of this put, and the log gained a run of the commit
pub record CommitsBytes (cache : List ℕ) (p : Put) (number : ℕ) (r : Reply) (old new : List LogItem)
    : Type 0 where
  pub file : PlainTemp
  pub path_is : file.path ≡ temp_path cache number
  pub bytes_are : file.bytes ≡ Some p.data
  pub ran : Ran (persist (put_commit cache p) file) r (Some old) (Some new)
  pub plain : plain_reply r ≡ r
  pub logged : IsLog new

-- ---- a writer that is given up

-- the step that removes the temporary file of this number
abbrev pub drop_temp : List ℕ → ℕ → PlainStep
drop_temp cache number = steps.RemoveFile (temp_path cache number)

-- the file was to be removed, whatever came of it; or there was no memory to ask for that
abbrev pub GivesUpTemp :
    List ℕ → ℕ → Option (List LogItem) → Option (List LogItem) → Type 0
GivesUpTemp cache number old new =
    (new ≡ old) ⊎ ((answer : PlainAnswer) × Does (drop_temp cache number) answer old new)
