-- The value follows the acts of the records, and buckets only grow.
use Rattle.std.proofs.{Common.{arith, ◌≡◌, ℕ, Bool, cond, List, [], ◌∷◌, ◌++◌, Option, Some, refl, sym, ap, subst, ◌∙◌}, lemmas.Grind.{common_steps}}
use Rattle.cacache_disk.specs.declared.luck.Luck.{Luck}
use Rattle.cacache_calls.specs.declared.reply.Reply.{Reply}
use Rattle.cacache_core.specs.{declared.integrity.digest.Hash.{Hash}, Paths.{Names}}
use Rattle.cacache_value.specs.{Value.{Blob, Value, wide_value, value_of_tree}, Acts.{Act, act_of, change, list_of, Move, IsTrace, tree_after, acts}, Placed.{LieApart}}
use Rattle.cacache_value.proofs.Traces.{traces_act, traces_show, buckets_grow}
use Rattle.cacache_history.specs.{declared.record.Record.{Record, TheVariants.{Began, Moved, Stopped}}, Setup.{Setup, home}, History.{Call, Now, History, Made, initial, now_after, replayed, now_at, MayMove, Legal, IsLegal}, Values.{steps_of, ValueFollowsActs, BucketsOnlyGrow, KeepsContent, KeepContent, IsThere, ContentsStay, ContentsAreRight}}
use Rattle.cacache_history.proofs.Histories.Holding.{AllHold, of_caller, made_proper, next_holds, first_opens, first_holds, legal_front, replay_more, legal_before, legal_after, held_at}

-- the steps of these records are proper, have the disk's answers, and lead to the tree
pub record Traced (s : Setup) (w : Now) (records : List Record) : Type 0 where
  pub trace : IsTrace (home s) w.tree (steps_of records)
  pub leads : tree_after w.tree (steps_of records) ≡ (replayed s w records).tree

module _ (s : Setup) (apart : LieApart (home s) s.outside) where
  move_traced : (w : Now) (caller : ℕ) (luck : Luck) (made : Option Made) (reply : Option Reply) (records : List Record) (call : Call) → w.calls caller ≡ Some call
      → MayMove w.tree call.state luck made reply → AllHold s w → Traced s (now_after s w (Moved caller luck made reply)) records → Traced s w (Moved caller luck made reply ∷ records)
  move_traced w caller luck made reply records call e may h more = grind (arith, made_proper, of_caller)

  pub traced : (w : Now) (records : List Record) → Legal s w records → AllHold s w → Traced s w records
  traced w [] legal h = record { trace = tt; leads = refl }
  traced w (Began caller command ∷ records) legal h =
      let more = traced (now_after s w (Began caller command)) records legal.1 (next_holds s apart w (Began caller command) legal.0 h) in
      record { trace = more.trace; leads = more.leads }
  traced w (Moved caller luck made reply ∷ records) legal h =
      move_traced w caller luck made reply records legal.0.0 legal.0.1 legal.0.2 h
      (traced (now_after s w (Moved caller luck made reply)) records legal.1 (next_holds s apart w (Moved caller luck made reply) legal.0 h))
  traced w (Stopped caller ∷ records) legal h =
      let more = traced (now_after s w (Stopped caller)) records legal.1 (next_holds s apart w (Stopped caller) legal.0 h) in
      record { trace = more.trace; leads = more.leads }

pub value_follows_acts : (h : History) → IsLegal h → ValueFollowsActs h
value_follows_acts h legal = record {
  nothing = (first_opens h legal).nothing;
  acts = λ before later is.
      let m = traced h.setup legal.apart (initial h.setup) before (legal_before h legal before later is) (first_holds h legal) in
      ap (value_of_tree (home h.setup)) (sym m.leads)
      ∙ traces_act (home h.setup) (initial h.setup).tree (steps_of before) (first_opens h legal).placed m.trace;
}

pub buckets_only_grow : (h : History) → IsLegal h → BucketsOnlyGrow h
buckets_only_grow h legal before more later digest is keeps =
    let k = held_at h legal before (more ++ later) is in
    let m = traced h.setup legal.apart (now_at h before) more
    (legal_front h.setup (now_at h before) more later (legal_after h legal before (more ++ later) is)) k in
    let grown = buckets_grow (home h.setup) (wide_value (home h.setup) (now_at h before).tree) digest (steps_of more) keeps in
    let tree : tree_after (now_at h before).tree (steps_of more) ≡ (now_at h (before ++ more)).tree
    = m.leads ∙ ap (λ w. w.tree) (sym (replay_more h.setup (initial h.setup) before more)) in
    let acted = (traces_show (home h.setup) (now_at h before).tree (steps_of more) k.placed k.rooted m.trace).value in (
      grown.0,
      ap (λ t. list_of ((wide_value (home h.setup) t).buckets digest)) (sym tree)
          ∙ ap (λ v. list_of (v.buckets digest)) acted ∙ grown.1,
    )

-- ---- contents

put_there : (b : Bool) (old : Option Blob) (new : Blob) → IsThere old → IsThere (cond b (Some new) old)
put_there b old new h = grind (arith, common_steps)

change_stays : (folder : Option Names) (v : Value) (address : Hash) (act : Act) → KeepsContent folder address act → IsThere (v.contents address) → IsThere ((change folder act v).contents address)
change_stays folder v address act keeps h = grind (arith, put_there)

acts_stay : (folder : Option Names) (v : Value) (address : Hash) (moves : List Move) → KeepContent folder address moves → IsThere (v.contents address) → IsThere ((acts folder v moves).contents address)
acts_stay folder v address [] keep h = h
acts_stay folder v address (m ∷ moves) keep h =
    acts_stay folder (change folder (act_of m.step m.luck m.answer) v) address moves keep.1 (change_stays folder v address (act_of m.step m.luck m.answer) keep.0 h)

pub contents_stay : (h : History) → IsLegal h → ContentsStay h
contents_stay h legal before more later address is keeps there =
    let k = held_at h legal before (more ++ later) is in
    let m = traced h.setup legal.apart (now_at h before) more
    (legal_front h.setup (now_at h before) more later (legal_after h legal before (more ++ later) is)) k in
    let tree : tree_after (now_at h before).tree (steps_of more) ≡ (now_at h (before ++ more)).tree
    = m.leads ∙ ap (λ w. w.tree) (sym (replay_more h.setup (initial h.setup) before more)) in
    let acted = (traces_show (home h.setup) (now_at h before).tree (steps_of more) k.placed k.rooted m.trace).value in
    let same : (wide_value (home h.setup) (now_at h (before ++ more)).tree).contents address ≡ (acts (home h.setup) (wide_value (home h.setup) (now_at h before).tree) (steps_of more)).contents address
    = ap (λ t. (wide_value (home h.setup) t).contents address) (sym tree) ∙ ap (λ v. v.contents address) acted in
    subst IsThere (sym same) (acts_stay (home h.setup) (wide_value (home h.setup) (now_at h before).tree) address (steps_of more) keeps there)

pub contents_are_right : (h : History) → IsLegal h → ContentsAreRight h
contents_are_right h legal before later is = (held_at h legal before later is).right
