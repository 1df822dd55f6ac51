-- What an answer means for a step of one kind: its value, or why the step was refused.
use Rattle.std.specs.Prelude.{ℕ, List, Result, Ok, Err, Bool}
use Rattle.cacache_core.specs.declared.errors.Fault.TheVariants.{Device}
use Rattle.cacache_store.specs.{declared.store.{plain.{PlainFile.{PlainFile}, PlainTemp.{PlainTemp}}, answer.Name.{Name}}, Plain.{PlainAnswer}}
use Rattle.cacache_store.specs.declared.store.answer.Answer.TheVariants as answers
use Rattle.cacache_calls.specs.declared.answers.Refusal.{Refusal, TheVariants.{Fault, Memory}}

-- why an answer refuses a step; an answer of the wrong kind counts as a failure of the device
abbrev pub refusal_in : PlainAnswer → Refusal
refusal_in (answers.Failed fault) = Fault fault
refusal_in (answers.NoMemory step) = Memory
refusal_in answer = Fault Device

-- that the step is done, without a value
abbrev pub done_in : PlainAnswer → Result (Unit {0}) Refusal
done_in answers.Done = Ok tt
done_in answer = Err (refusal_in answer)

-- the temporary file that was made
abbrev pub temp_in : PlainAnswer → Result PlainTemp Refusal
temp_in (answers.Temp file) = Ok file
temp_in answer = Err (refusal_in answer)

-- a temporary file after a write, and how many of the bytes it took
abbrev pub written_in : PlainAnswer → Result (PlainTemp × ℕ) Refusal
written_in (answers.Wrote file count) = Ok (file, count)
written_in answer = Err (refusal_in answer)

-- a temporary file whose bytes were synced
abbrev pub synced_in : PlainAnswer → Result PlainTemp Refusal
synced_in (answers.Synced file) = Ok file
synced_in answer = Err (refusal_in answer)

-- how many bytes were appended or copied
abbrev pub taken_in : PlainAnswer → Result ℕ Refusal
taken_in (answers.Took count) = Ok count
taken_in answer = Err (refusal_in answer)

-- the bytes of a whole file
abbrev pub bytes_in : PlainAnswer → Result (List ℕ) Refusal
bytes_in (answers.Bytes bytes) = Ok bytes
bytes_in answer = Err (refusal_in answer)

-- the file that was opened
abbrev pub file_in : PlainAnswer → Result PlainFile Refusal
file_in (answers.File file) = Ok file
file_in answer = Err (refusal_in answer)

-- an open file after a read, and the bytes that the read returned
abbrev pub got_in : PlainAnswer → Result (PlainFile × List ℕ) Refusal
got_in (answers.Got file bytes) = Ok (file, bytes)
got_in answer = Err (refusal_in answer)

-- whether a file or folder exists
abbrev pub there_in : PlainAnswer → Result Bool Refusal
there_in (answers.There there) = Ok there
there_in answer = Err (refusal_in answer)

-- how many bytes a file has
abbrev pub length_in : PlainAnswer → Result ℕ Refusal
length_in (answers.Length count) = Ok count
length_in answer = Err (refusal_in answer)

-- the names in a folder
abbrev pub names_in : PlainAnswer → Result (List Name) Refusal
names_in (answers.Names names) = Ok names
names_in answer = Err (refusal_in answer)
