-- Results of calls whose steps all go well.
-- Results of links whose steps all succeed.
-- The moves of one call whose steps all succeed, as records of a history.
use Rattle.std.proofs.{Common.{arith, rules, ◌≡◌, ◌⊎◌, inl, inr, ℕ, List, Result, Ok, Err, sym, subst, ◌∙◌, true, cond, [], Option, None, Some, refl, ap, ◌∷◌, ◌++◌, option_map}, lemmas.{Grind.{common_steps}, Bool.{eq-eqb}}}
use Rattle.std.specs.Prelude.{IfOk, IfErr, IfSome}
use Rattle.cacache_core.specs.{declared.{errors.{Error.{Error, TheVariants.{EntryNotFound, OutOfMemory, IoError, SizeMismatch}}, Fault.{Fault}}, integrity.digest.Hash.{Hash}}, Paths.{Names}}
use Rattle.cacache_store.specs.declared.store.log.LogItem.{LogItem}
use Rattle.cacache_calls.specs.{declared.{reply.Reply.{Reply, TheVariants.{Refused, Stored}}, carried.Commit.{Commit}, command.Command.{Command}}, Replies.{OrMemory}, Runs.{reply_of, without_message, Moves, Goes}, Inserting.{given_or, refused_cause}, Storing.{insertion_of}, State.{over}}
use Rattle.cacache_laws.specs.{Succeeds.{IsReady, IsTidy, compared_reply, is_yes, keyed_reply, sized_reply, unless_unwritable}, results.{Success.{FailsAs, FailsFor, FailsForMemory}, Links.{LeadsOn}}, Caches.{lies_under}, LinkAnswers.{linked_reply, unless_dangling}, Sequence.{AreAnswered}}
use Rattle.cacache_laws.proofs.Calls.CallErrors.{memory_error, missing_error}
use Rattle.cacache_disk.specs.{Apply.{apply, unless}, LedTo.{file_at}, Tree.{Tree}, Replay.{bytes_told, shown, tree_of}, declared.luck.Luck.TheVariants.{Plain}}
use Rattle.cacache_value.specs.{Shows.{blob_there}, Value.{Blob}}
use Rattle.cacache_history.specs.{declared.record.Record.{Record, TheVariants.{Moved}}, History.{Call, Legal, Made, Now, call_after, now_after, replayed}, Setup.{Setup}, durable.QuietMoves.{CallEndsWith, AreQuiet, IsQuietMove}}
use Rattle.cacache_calls.specs.declared.reply.Reply.TheVariants as replies
use Rattle.cacache_core.specs.declared.errors.Fault.TheVariants as faults
use Rattle.cacache_store.specs.declared.store.answer.Answer.TheVariants as answers

-- a reply that refuses nothing
abbrev pub IsGiven : Reply → Type 0
IsGiven (replies.Refused e) = ⊥
IsGiven r = Unit {0}

pub of_refused : (e : Error) → replies.Refused (without_message e) ≡ replies.Refused OutOfMemory → e ≡ OutOfMemory
of_refused e h = let same : without_message e ≡ OutOfMemory = cc in memory_error e same

-- a call that is to answer such a reply, if memory isn't refused, fails for memory
pub for_memory : {X : Type 0} (answer : X → Reply) (r : Result X Error) (wanted : Reply) → IsGiven wanted → OrMemory (reply_of answer r ≡ wanted) (reply_of answer r) → FailsForMemory r
for_memory answer r wanted given h = grind (arith, of_refused)

-- an answer that isn't a refusal for memory
pub so_ready : {X : Type 0} (answer : X → Reply) → ((x : X) → IsGiven (answer x)) → (cache : List ℕ) (r : Result X Error) (old new : List LogItem)
    → (IsReady cache old → OrMemory (IsTidy cache new) (reply_of answer r)) → IsReady cache old → IfOk r (λ x. IsReady cache new)
so_ready answer gives cache r old new tidy ready = grind (arith, common_steps)

-- a reply that is to be another one, which is this one
pub or_as : {wanted same : Reply} (r : Reply) → wanted ≡ same → OrMemory (r ≡ wanted) r → OrMemory (r ≡ same) r
or_as r e h = grind (arith, common_steps)

-- a call that is to find no entry, if memory isn't refused
pub for_missing : {X : Type 0} (answer : X → Reply) (r : Result X Error) (cache key : List ℕ) → OrMemory (reply_of answer r ≡ replies.Refused (EntryNotFound cache key)) (reply_of answer r)
    → IfErr r (λ e. (e ≡ EntryNotFound cache key) ⊎ (e ≡ OutOfMemory))
for_missing answer r cache key h = grind (arith, of_refused, missing_error)

-- a call that answers this error, if memory isn't refused, fails for nothing else
pub fails_for : {X : Type 0} (answer : X → Reply) → ((x : X) → IsGiven (answer x)) → (r : Result X Error) (wanted : Error) → OrMemory (reply_of answer r ≡ replies.Refused wanted) (reply_of answer r) → FailsFor wanted r
fails_for answer gives r wanted h = grind (arith, of_refused)

-- an error that is answered is one of these
pub fails_too : {X : Type 0} (wanted : Error) (IsSo : Error → Type 0) → ((e : Error) → without_message e ≡ wanted → IsSo e) → (r : Result X Error) → FailsFor wanted r → FailsAs IsSo r
fails_too wanted IsSo leads r h = grind (arith, common_steps)

-- what a path shows is read there
pub shown_read : (t : Tree) (path held : List ℕ) → shown t path ≡ Some held → file_at t path faults.IsADirectory ≡ Ok held
unfolding apply
shown_read t path held = search rules

leads_so : (stored : Reply) (t : Tree) (blob : Option Blob) → IfSome blob (λ (b : Blob). is_yes (blob_there t (Some b)) ≡ true) → unless_dangling stored t blob ≡ stored
leads_so stored t blob leads = grind (arith, common_steps)

-- the entry that a commit adds can be written, if it has a key
abbrev pub IsWritten : Commit → Type 0
IsWritten c = (key : List ℕ) → c.key ≡ Some key → refused_cause (insertion_of c key) ≡ None

-- no size is expected, or that of the bytes
sized_so : (c : Commit) (size : Option ℕ) → (size ≡ None) ⊎ (size ≡ Some c.count) → sized_reply c size ≡ keyed_reply c c.key
sized_so c size suits = grind (arith, common_steps)

module _ (c : Commit) (r : Result (List Hash) Error) (old : List LogItem) (written : IsWritten c) (plain : c.options.integrity ≡ None) (suits : (c.options.size ≡ None) ⊎ (c.options.size ≡ Some c.count))
    (leads : LeadsOn c.cache c.computed old) where
  -- so it answers by its key alone
  replies_so : linked_reply c old ≡ keyed_reply c c.key
  replies_so = search (rules, leads_so, sized_so)

  by_key : (key : Option (List ℕ)) → c.key ≡ key → OrMemory (reply_of Stored r ≡ keyed_reply c key) (reply_of Stored r) → FailsForMemory r
  by_key key is h = grind (arith, for_memory, or_as)

  pub commit_succeeds : OrMemory (reply_of Stored r ≡ linked_reply c old) (reply_of Stored r) → FailsForMemory r
  commit_succeeds h = by_key c.key refl (or_as (reply_of Stored r) replies_so h)

-- a first move and those after it, the last with this reply
abbrev pub records_of : Made → Moves → Reply → List Record
records_of m [] reply = Moved 0 Plain (Some m) (Some reply) ∷ []
records_of m (n ∷ more) reply = Moved 0 Plain (Some m) None ∷ records_of n more reply

module _ (s : Setup) (i : List Hash) where
  pub records_legal : (w : Now) (call : Call) (m : Made) (more : Moves) → w.calls 0 ≡ Some call → Goes call.state (m ∷ more) (over (Stored i)) → AreAnswered w.tree (m ∷ more)
      → Legal s w (records_of m more (Stored i))
  records_legal w call m [] is run answered = ((call, is, (run.0, answered.0, run.1, inl run.2)), tt)
  records_legal w call m (n ∷ more) is run answered = (
    (call, is, (run.0, answered.0, run.1, (n.0, run.2.0))),
    records_legal (now_after s w (Moved 0 Plain (Some m) None)) (call_after w.tree Plain (Some m) call) n more (ap (option_map (call_after w.tree Plain (Some m))) is) run.2 answered.1,
  )

  -- whatever comes after them
  pub records_end : (m : Made) (more : Moves) (behind : List Record) → CallEndsWith 0 (Stored i) (records_of m more (Stored i) ++ behind)
  records_end m [] behind = refl
  records_end m (n ∷ more) behind = records_end n more behind

  -- quiet moves of a command
  module _ (command : Command) (path : Names) (quiet : (call : Call) (m : Made) → call.command ≡ command → IsQuietMove path (Some call) (Some m)) where
    pub records_quiet : (w : Now) (call : Call) (m : Made) (more : Moves) → w.calls 0 ≡ Some call → call.command ≡ command → AreQuiet s path w (records_of m more (Stored i))
    records_quiet w call m [] is e = (subst (λ o. IsQuietMove path o (Some m)) (sym is) (quiet call m e), tt)
    records_quiet w call m (next ∷ more) is e = (
      subst (λ o. IsQuietMove path o (Some m)) (sym is) (quiet call m e),
      records_quiet (now_after s w (Moved 0 Plain (Some m) None)) (call_after w.tree Plain (Some m) call) next more (ap (option_map (call_after w.tree Plain (Some m))) is) e,
    )

-- quiet records, one part after another
pub quiet_more : (s : Setup) (path : Names) (w : Now) (records more : List Record) → AreQuiet s path w records → AreQuiet s path (replayed s w records) more → AreQuiet s path w (records ++ more)
quiet_more s path w [] more h k = k
quiet_more s path w (r ∷ records) more h k = (h.0, quiet_more s path (now_after s w r) records more h.1 k)
