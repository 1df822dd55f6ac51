-- What may come in a legal history, case by case, and one history: whoever drops a case from
-- `IsLegal` breaks a law here.
use Rattle.std.specs.Prelude.{◌≡◌, ◌⊎◌, ◌<◌, ℕ, List, [], ◌∷◌, ◌++◌, Option, None, Some, true, codes}
use Rattle.sha1.specs.Sha1.{sha1}
use Rattle.cacache_core.specs.declared.errors.Error.TheVariants.{OutOfMemory}
use Rattle.cacache_store.specs.{declared.store.step.Step.TheVariants.{ReadAll}, Plain.{PlainStep}}
use Rattle.cacache_disk.specs.{declared.luck.Luck.{Luck}, Tree.{bare}, Apply.{apply}}
use Rattle.cacache_entry.specs.Bucket.{Found}
use Rattle.cacache_calls.specs.{declared.{command.{Command.{Command}, Source.{Source}, Export.{Export}, Link.{Link}}, reply.Reply.{Reply, TheVariants.{LookedUp, Refused}}}, Linking.{link_target}, Steps.{bucket_path}, Replies.{find_reply, bucket_shown}, Runs.{plain_reply}, State.{over}, Table.{wants, after}}
use Rattle.cacache_calls.specs.declared.command.Command.TheVariants as commands
use Rattle.cacache_history.specs.{declared.record.Record.{Record, TheVariants.{Began, Moved, Stopped}}, Setup.{call_site, may_export, is_outside}, History.{History, Call, Made, turn_of, now_at, IsLegal}, Turns.{bucket_read}}

-- the record comes right after these
abbrev pub Comes : History → List Record → Record → Type 0
Comes h before r = (later : List Record) × (h.records ≡ before ++ r ∷ later)

-- the call of a caller after the first records
abbrev pub call_at : History → List Record → ℕ → Option Call
call_at h before caller = (now_at h before).calls caller

-- ---- a caller that has a call

-- the move of a caller with its step
abbrev pub StepCases : History → List Record → ℕ → Luck → Made → Option Reply → Type 0
StepCases h before caller luck made reply = Comes h before (Moved caller luck (Some made) reply)

-- which records may come next from a caller with this call
pub record BusyCases (h : History) (before : List Record) (caller : ℕ) (call : Call) : Type 0 where
  -- it begins no second one
  pub second : (command : Command) → Comes h before (Began caller command) → ⊥
  -- its step is the one that the call wants
  pub step : (luck : Luck) (made : Made) (reply : Option Reply)
      → StepCases h before caller luck made reply → wants call.state ≡ Some made.0
  -- the answer is the disk's
  pub answer : (luck : Luck) (made : Made) (reply : Option Reply)
      → StepCases h before caller luck made reply
      → made.1 ≡ (apply (now_at h before).tree made.0 luck).0
  -- the last step has a reply
  pub last : (luck : Luck) (made : Made) (own : Reply) → after call.state made.1 ≡ over own
      → StepCases h before caller luck made None → ⊥
  -- and that is the call's own
  pub reply : (luck : Luck) (made : Made) (own r : Reply) → after call.state made.1 ≡ over own
      → StepCases h before caller luck made (Some r)
      → (plain_reply r ≡ own) ⊎ (r ≡ Refused OutOfMemory)
  -- no other step has one
  pub early : (luck : Luck) (made : Made) (more : PlainStep) (r : Reply)
      → wants (after call.state made.1) ≡ Some more → StepCases h before caller luck made (Some r)
      → r ≡ Refused OutOfMemory
  -- a move without a step is that of a call that wants none
  pub no_step : (luck : Luck) (reply : Option Reply)
      → Comes h before (Moved caller luck None reply) → wants call.state ≡ None
  -- a lookup answers by the bucket of its key
  pub lookup : (luck : Luck) (made : Made) (key : List ℕ) (r : Reply)
      → call.command ≡ commands.Find key → StepCases h before caller luck made (Some r)
      → (r ≡ Refused OutOfMemory)
      ⊎ (plain_reply r
      ≡ find_reply key (bucket_read h.setup (sha1 key) (turn_of (now_at h before).tree luck made)))

-- ---- a caller that has none

-- which records can't come next from a caller without a call
pub record IdleCases (h : History) (before : List Record) (caller : ℕ) : Type 0 where
  -- it neither moves nor stops
  pub moved : (luck : Luck) (made : Option Made) (reply : Option Reply)
      → Comes h before (Moved caller luck made reply) → ⊥
  pub stopped : Comes h before (Stopped caller) → ⊥

-- ---- a call that begins

-- which calls may begin after these records
pub record BeginCases (h : History) (before : List Record) (caller : ℕ) : Type 0 where
  -- it is that of one of the callers
  pub known : (command : Command) → Comes h before (Began caller command) → caller < h.setup.callers
  -- an export goes apart from the cache and from the outside files
  pub apart : (source : Source) (e : Export)
      → Comes h before (Began caller (commands.Export source e)) → may_export h.setup e.to ≡ true
  -- a link leads to an outside file
  pub outside : (l : Link) → Comes h before (Began caller (commands.Link l))
      → is_outside h.setup (link_target (call_site h.setup (now_at h before).begun) l).path ≡ true

-- ---- of each legal history

-- the cases of each caller, after any first records
pub record LegalCases (h : History) : Type 0 where
  pub busy : (before : List Record) (caller : ℕ) (call : Call) → call_at h before caller ≡ Some call
      → BusyCases h before caller call
  pub idle : (before : List Record) (caller : ℕ) → call_at h before caller ≡ None
      → IdleCases h before caller
  pub begins : (before : List Record) (caller : ℕ) → BeginCases h before caller

-- each legal history has these cases
abbrev pub CasesHold : Type 0
CasesHold = (h : History) → IsLegal h → LegalCases h

-- ---- one history

-- the step of a lookup with what a disk that holds nothing answers
abbrev pub lookup_made : List ℕ → List ℕ → Luck → Made
lookup_made cache key luck =
    (ReadAll (bucket_path cache key), (apply bare (ReadAll (bucket_path cache key)) luck).0)

-- its only caller looks a key up there, and has this reply
abbrev pub lookup_alone : List ℕ → List ℕ → Luck → Reply → History
lookup_alone cache key luck reply = record {
  setup = record { cache = cache; base = codes "/"; outside = []; callers = 1 };
  records =
      Began 0 (commands.Find key)
      ∷ Moved 0 luck (Some (lookup_made cache key luck)) (Some reply) ∷ [];
}

-- which replies such a lookup may have
pub record LookupCases (cache key : List ℕ) (luck : Luck) : Type 0 where
  -- it is legal with the reply that the answer gives
  pub own : IsLegal (lookup_alone cache key luck
      (find_reply key (bucket_shown (lookup_made cache key luck).1)))
  -- and not with an entry
  pub found : (found : Found) → IsLegal (lookup_alone cache key luck (LookedUp (Some found))) → ⊥
