-- What is known of a call that was made on a cache in a store in memory.
-- What reads answer by what a cache has, and that it stays.
use Rattle.std.proofs.{Common.{arith, rules, ◌≡◌, inl, inr, ℕ, List, [], ◌++◌, map, refl, sym, subst, Some, ap, ◌∙◌}, lemmas.Grind.{common_steps}}
use Rattle.cacache_core.specs.{declared.{errors.{Error.{Error, TheVariants.{IoError, OutOfMemory}}, Fault.{Fault}}, integrity.digest.Hash.{Hash}}, Paths.{home_of}, Integrity.{address}}
use Rattle.cacache_store.specs.declared.store.log.LogItem.{LogItem, TheVariants.{Made}}
use Rattle.cacache_disk.specs.{Tree.{bare}, Replay.{tree_of}}
use Rattle.cacache_calls.specs.{declared.{command.Command.{Command}, reply.Reply.{Reply}}, Promises.{HasCause, own_of}, Runs.{Moves, Runs, plain_reply}, Sound.{MayBegin}, Table.{opening}}
use Rattle.cacache_value.{proofs.OpeningTrees.{files_open}, specs.Acts.{list_of}}
use Rattle.cacache_history.specs.{Setup.{call_site, may_export, is_outside}, History.{NamesIntegrity}, Turns.{blob_at}}
use Rattle.cacache_laws.specs.{Sequence.{SequenceCall, IsMadeOn, tree_on, CallIsAnswered}, CallErrors.{FailsOnly}, Caches.{IsCache, IsExcused, Called, setup_at, FreshIsEmpty, HasContent, HasKey}, ReadAnswers.{reply_on, UnlessFailed}, Looks.{HoldsSame}}
use Rattle.cacache_laws.proofs.{Calls.Sequence.{openings_are_sound, calls_answer_alone}, Readings.ReadAnswers.{replies_follow}}
use Rattle.sha1.specs.Sha1.{sha1}
use Rattle.cacache_entry.specs.Bucket.{latest}
use Rattle.cacache_calls.specs.declared.reply.Reply.TheVariants as replies

pub fresh_is_empty : FreshIsEmpty
unfolding tree_of
fresh_is_empty cache =
    let o = files_open (home_of cache) [] bare tt refl in
    record { sound = openings_are_sound (home_of cache) bare o; nothing = o.nothing }

-- ---- a call that was made

-- what is known of it
pub record Known (cache base : List ℕ) (command : Command) (r : Reply) (old new : List LogItem) : Type 0 where
  pub call : SequenceCall
  pub command_is : call.command ≡ command
  pub reply_is : call.reply ≡ r
  pub gained : new ≡ old ++ map (λ m. Made m.0 m.1) call.moves
  pub run : Runs (opening (record { cache = cache; base = base; number = call.number }) command) call.moves r
  pub answers : CallIsAnswered (setup_at cache base) (tree_of old) call
  pub sound : IsCache cache new
  pub leads : tree_of new ≡ tree_on (tree_of old) call.moves

module _ (cache : List ℕ) (command : Command) (r : Reply) (old new : List LogItem) where
  pub known : (c : Called cache command r old new) → MayBegin (call_site (setup_at cache c.base) c.number) (may_export (setup_at cache c.base)) (is_outside (setup_at cache c.base)) command
      → NamesIntegrity command → IsCache cache old → Known cache c.base command r old new
  known c may named sound =
      let s = setup_at cache c.base in
      let call : SequenceCall = record { command = command; number = c.number; moves = c.ran.0; reply = r } in
      let made : IsMadeOn (setup_at cache c.base) old (record { command = command; number = c.number; moves = c.ran.0; reply = r }) new
      = record {
        run = subst (λ x. Runs (opening (call_site (setup_at cache c.base) c.number) command) c.ran.0 x) (sym c.plain) c.ran.1;
        gained = cc;
      } in
      let a = calls_answer_alone s call old new tt (may, named, tt) sound made c.logged in
      record {
        call = call;
        command_is = refl;
        reply_is = refl;
        gained = made.gained;
        run = c.ran.1;
        answers = a.0;
        sound = a.1;
        leads = a.2;
      }

-- a call that may begin leaves a cache on which calls may be made
pub caches_last : (cache : List ℕ) (command : Command) (r : Reply) (old new : List LogItem) (c : Called cache command r old new)
    → MayBegin (call_site (setup_at cache c.base) c.number) (may_export (setup_at cache c.base)) (is_outside (setup_at cache c.base)) command
    → NamesIntegrity command → IsCache cache old → IsCache cache new
caches_last cache command r old new c may named sound = (known cache command r old new c may named sound).sound

-- a failure has its cause among these steps, if the call has no fault of its own
pub excused_by : (own : Fault → Type 0) (old new : List LogItem) (moves : Moves) → ((fault : Fault) → own fault → ⊥) → new ≡ old ++ map (λ m. Made m.0 m.1) moves → (e : Error)
    → HasCause own moves (plain_reply (replies.Refused e)) → FailsOnly (replies.Refused e) → IsExcused e old new
excused_by own old new moves none gained e cause h = grind (arith, common_steps)

pub excuse : (cache base : List ℕ) (command : Command) (old new : List LogItem) → ((fault : Fault) → own_of command fault → ⊥) → (e : Error)
    → Known cache base command (replies.Refused e) old new → FailsOnly (replies.Refused e) → IsExcused e old new
excuse cache base command old new none e k h = search (rules, excused_by)

pub content_stays : (cache bytes : List ℕ) (i : List Hash) (old new : List LogItem) → HoldsSame cache old new → HasContent cache i bytes old → HasContent cache i bytes new
content_stays cache bytes i old new same h = search rules

pub key_stays : (cache key bytes : List ℕ) (i : List Hash) (old new : List LogItem) → HoldsSame cache old new → HasKey cache key i bytes old → HasKey cache key i bytes new
key_stays cache key bytes i old new same h = record {
  found = h.found;
  finds = ap (λ v. latest key (list_of (v.buckets (sha1 key)))) same ∙ h.finds;
  integrity = h.integrity;
  content = content_stays cache bytes i old new same h.content;
}

module _ (cache base : List ℕ) (command : Command) (expected r : Reply) (old new : List LogItem) (k : Known cache base command r old new)
    (is : reply_on (setup_at cache base) (tree_of old) command ≡ Some expected) where
  of_call : reply_on (setup_at cache base) (tree_of old) k.call.command ≡ Some expected
  of_call = ap (reply_on (setup_at cache base) (tree_of old)) k.command_is ∙ is

  pub answered : UnlessFailed expected (plain_reply r)
  answered = subst (λ x. UnlessFailed expected (plain_reply x)) k.reply_is (replies_follow (setup_at cache base) (tree_of old) k.call expected of_call k.answers)
