-- The runs that steps leave in a log.
use Rattle.std.specs.Prelude.{◌≡◌, ◌++◌, ℕ, List}
use Rattle.cacache_system.specs.{declared.call.{CallItem.{CallItem}, CallResult.{CallResult}}, Seen.{NumberedStep, NumberedAnswer}, CallsOf.{Runs}, AnswersOf.{Hint, first, answer_of}}
use Rattle.cacache_system_model.specs.declared.memory.state.MemoryFile.{MemoryFile}

-- the number of an open file
abbrev pub number_of : MemoryFile → ℕ
number_of file = file.number

-- a log gained a run of a step's calls, and the answer is that run's
abbrev pub LogsRun : NumberedStep → NumberedAnswer → List CallItem → List CallItem → Type 0
LogsRun step answer old new =
    (hint : Hint) × (end : CallResult) × (gained : List CallItem) × (new ≡ old ++ gained)
    × Runs (first hint step) gained end × (answer ≡ answer_of step end)

-- a log gained a run of one step's calls and then one of another's
abbrev pub LogsRuns : NumberedStep → NumberedAnswer → NumberedStep → NumberedAnswer
    → List CallItem → List CallItem → Type 0
LogsRuns one first two second old new =
    (between : List CallItem) × LogsRun one first old between × LogsRun two second between new
