-- What is seen of the files of a store with files that fail.
use Rattle.std.specs.Prelude.{None}
use Rattle.cacache_store.specs.{declared.store.{answer.Answer.{Answer}, plain.{PlainFile.{PlainFile}, PlainTemp.{PlainTemp}}, step.Step.{Step}}, Plain.{Fits, plain_answer, plain_step}}
use Rattle.row_places.specs.declared.faulty.{Failing.{Failing}, Short.{Short}}

-- an open file: the one that it stands for
abbrev pub failing_seen : Failing → PlainFile
failing_seen = λ (file : Failing). file.file

-- a temporary file: its path, and no bytes
abbrev pub short_seen : Short → PlainTemp
short_seen = λ (temp : Short). record { path = temp.path; bytes = None }

-- the answer fits the step
abbrev pub FitsSeen : Step Failing Short → Answer Failing Short → Type 0
FitsSeen step answer =
    Fits (plain_step failing_seen short_seen step) (plain_answer failing_seen short_seen answer)
