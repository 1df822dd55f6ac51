-- All calls as one table: the next step of each state, the next state after each answer, and the first state of each call.
use Rattle.std.specs.Prelude.{ℕ, Option, None, Some, []}
use Rattle.cacache_store.specs.declared.store.step.Step.TheVariants as steps
use Rattle.cacache_store.specs.Plain.{PlainStep, PlainAnswer}
use Rattle.cacache_calls.specs.{declared.reply.Reply.TheVariants.{Copied}, Answers.{done_in, temp_in, written_in, synced_in, there_in, taken_in, bytes_in, file_in, got_in, length_in}, Steps.{temp_path, content_path, bucket_path}, State.{State, doing, creating, writing, syncing, persisting, linking, confirming, appending, looking, reading, asking, sizing, opening_file, hashing, copying, walking, over}, Common.{fails, go_on, errand_step}, Inserting.{bucket_line, after_append}, Storing.{secured, write_rest, after_write, after_confirm}, Reading.{after_bucket, no_bucket, checked, answer_there, answer_absent, copied_count}, Linking.{after_size, hashed_path, after_read}, Walking.{visit_step, after_visit}}
pub use Rattle.cacache_calls.specs.Commands.{opening}

-- the most bytes that one read requests
abbrev pub piece : ℕ
piece = 8192

-- the next step of a state, and none if the call is over
abbrev pub wants : State → Option PlainStep
wants (doing errand s) = Some (errand_step errand)
wants (creating number c rest) = Some (steps.CreateTemp (temp_path c.cache number))
wants (writing c file rest) = Some (steps.Write file rest)
wants (syncing c file) = Some (steps.SyncTemp file)
wants (persisting c file) = Some (steps.Persist file (content_path c.cache c.computed))
wants (linking c target) = Some (steps.Symlink target (content_path c.cache c.computed))
wants (confirming c fault) = Some (steps.Exists (content_path c.cache c.computed))
wants (appending i) = Some (steps.Append (bucket_path i.cache i.entry.key) (bucket_line i))
wants (looking l) = Some (steps.ReadAll (bucket_path l.cache l.key))
wants (reading k) = Some (steps.ReadAll (content_path k.cache k.integrity))
wants (asking k) = Some (steps.Exists (content_path k.cache k.integrity))
wants (sizing target) = Some (steps.Size target.path)
wants (opening_file h) = Some (steps.Open (hashed_path h))
wants (hashing h file bytes) = Some (steps.Read file piece)
wants (copying from to verified) = Some (steps.Copy from to)
wants (walking w v todo) = Some (visit_step v)
wants (over reply) = None

-- A fault ends the call as `IoError`, except in the last step of a content, its confirmation, a lookup,
-- a check that a content exists, and walks.
abbrev pub after : State → PlainAnswer → State
after (doing errand s) t = go_on (done_in t) fails (λ _. s)
after (creating number c rest) t = go_on (temp_in t) fails (λ file. write_rest c file rest)
after (writing c file rest) t = go_on (written_in t) fails (after_write c rest)
after (syncing c file) t = go_on (synced_in t) fails (persisting c)
after (persisting c file) t = go_on (done_in t) (confirming c) (λ _. secured c)
after (linking c target) t = go_on (done_in t) (confirming c) (λ _. secured c)
after (confirming c fault) t = go_on (there_in t) (λ _. fails fault) (after_confirm c fault)
after (appending i) t = go_on (taken_in t) fails (after_append i)
after (looking l) t = go_on (bytes_in t) (no_bucket l) (after_bucket l)
after (reading k) t = go_on (bytes_in t) fails (checked k)
after (asking k) t = go_on (there_in t) answer_absent answer_there
after (sizing target) t = go_on (length_in t) fails (after_size target)
after (opening_file h) t = go_on (file_in t) fails (λ file. hashing h file [])
after (hashing h file bytes) t = go_on (got_in t) fails (after_read h bytes)
after (copying from to verified) t =
    go_on (taken_in t) fails (λ n. over (Copied (copied_count verified n)))
after (walking w v todo) t = after_visit w v todo t
after (over reply) t = over reply
