-- The state to which an answer's value takes a call, what it brought, or the error with which it ends the call.
use Rattle.std.specs.Prelude.{◌≡◌, Result, Ok, Err, ℕ, List, [], Bool, Option, length}
use Rattle.cacache_core.specs.{declared.{errors.Error.{Error}, integrity.{checker.IntegrityChecker.{IntegrityChecker}, digest.Hash.{Hash}}}, Integrity.{integrity_under}, Hashers.{Compares}}
use Rattle.cacache_calls.specs.{declared.{answers.{Refusal.{Refusal}, Got.{Got}}, carried.{Commit.{Commit}, Content.{Content}}, command.{Export.{Export}, Link.{Link}}, target.Target.{Target}, visit.Visit.{Visit}}, Common.{fails, refuse, go_on}, Runs.{EndsAs}, State.{persisting, sizing, hashing}, Answers.{file_in}, Reading.{verified}, Inserting.{insert}, Linking.{after_read, commit_for, link_target}, Steps.{seen_by, got_as, content_path}, Storing.{link}, Walking.{after_visit}}
use Rattle.cacache_store.specs.{declared.store.{answer.Answer.{Answer}, log.LogItem.{LogItem}, plain.{PlainFile.{PlainFile}, PlainTemp.{PlainTemp}}, step.Step.{Step}}, Plain.{Logs, plain_step, plain_answer}}
use Rattle.cacache_entry.specs.{View.{entry_view}, declared.metadata.SerializableMetadata.{SerializableMetadata}}
use Rattle.cacache_walks.specs.{declared.walk.Walk.{Walk}, WalkStates.{Counts, pending, walk_of}}
use Rattle.cacache_jobs.specs.{declared.{hashing.Hashing.{Hashing}, phase.Phase.{Phase}}, JobStates.{HashesFor, Leads, insertion_reply, site_of}}
use Rattle.cacache_calls.specs.State as states

-- the step was refused, and the refusal ends a call with this error
abbrev pub EndsRefused : {Y : Type 0} → Result Y Refusal → Error → Type 0
EndsRefused (Ok y) e = ⊥
EndsRefused (Err refusal) e = EndsAs e (refuse refusal fails)

-- the step brought this value, viewed through `seen`, or it was refused
abbrev pub Brings : {X Y : Type 0} → (X → Y) → Result Y Refusal → Result X Error → Type 0
Brings seen answer (Ok x) = answer ≡ Ok (seen x)
Brings seen answer (Err e) = EndsRefused answer e

-- ---- the state to which an answer's value takes a call

module _ {F T : Type 0} (file : F → PlainFile) (temp : T → PlainTemp) where
  -- the log has this step and its answer, as they are viewed
  abbrev pub LogsSeen :
      Option (List LogItem) → Option (List LogItem) → Step F T → Answer F T → Type 0
  LogsSeen old new step answer =
      Logs old new (plain_step file temp step) (plain_answer file temp answer)

  -- ---- commits and entries

  -- a commit goes on from the sync of its file; the file then moves to the content's path
  abbrev pub LeadsSynced :
      Commit → List ℕ → Result T Refusal → Result (Phase F T) Error → Type 0
  LeadsSynced c path synced r =
      path ≡ content_path c.cache c.computed
      → Leads file temp r (go_on (seen_by temp synced) fails (persisting c))

  -- an entry is written into its bucket, and the call answers this integrity
  abbrev pub LeadsInsert :
      List ℕ → SerializableMetadata → Bool → Option (List Hash)
      → Result (Phase F T) Error → Type 0
  LeadsInsert cache entry durable integrity r =
      (j : states.Insertion) → j.cache ≡ cache → j.entry ≡ entry_view entry
      → j.durable ≡ durable → j.reply ≡ insertion_reply integrity
      → Leads file temp r (insert j)

  -- ---- files that are being hashed

  -- hashing begins after the file was opened; nothing of it has been hashed yet
  abbrev pub LeadsOpened : Hashing → Answer F T → Result (Phase F T) Error → Type 0
  LeadsOpened purpose answer r =
      (h : states.Hashing) → HashesFor purpose h []
      → Leads file temp r
      (go_on (file_in (plain_answer file temp answer)) fails (λ f. hashing h f []))

  -- hashing goes on after a read; this many bytes were hashed before it
  abbrev pub LeadsRead : Hashing → ℕ → Result (Got F) Refusal → Result (Phase F T) Error → Type 0
  LeadsRead purpose size got r =
      (h : states.Hashing) (bytes : List ℕ) → HashesFor purpose h bytes → size ≡ length bytes
      → Leads file temp r
      (go_on (seen_by (got_as file) got) fails (after_read h bytes))

  -- a content of this size was hashed to its end, and is verified and exported next
  abbrev pub LeadsVerified :
      IntegrityChecker → List ℕ → Export → ℕ → Result (Phase F T) Error → Type 0
  LeadsVerified checker from export size r =
      (k : Content) (bytes : List ℕ) → Compares checker k.integrity bytes
      → from ≡ content_path k.cache k.integrity → size ≡ length bytes
      → Leads file temp r (verified k export bytes)

  -- ---- links

  -- a link begins with the size of its target, whatever the number
  abbrev pub LeadsSizing : List ℕ → List ℕ → Link → Result (Phase F T) Error → Type 0
  LeadsSizing cache base l r =
      (number : ℕ)
      → Leads file temp r
      (sizing (link_target (site_of cache base number) l))

  -- a target with this integrity and size was hashed to its end, and is linked to next
  abbrev pub LeadsHashed :
      Target ℕ → List Hash → ℕ → Result (Phase F T) Error → Type 0
  LeadsHashed target computed count r =
      (bytes : List ℕ)
      → computed ≡ integrity_under target.options.algorithm bytes → count ≡ length bytes
      → Leads file temp r (link (commit_for target bytes) target.path)

  -- ---- walks

  -- a walk goes on from a visit; none of its items have been taken
  abbrev pub LeadsVisited : Walk → Visit → Answer F T → Result (Phase F T) Error → Type 0
  LeadsVisited walk visit answer r =
      Counts [] walk → Leads file temp r
      (after_visit (walk_of [] walk) visit (pending walk.todo.items)
      (plain_answer file temp answer))
