-- Each place of a legal history has a cache's moment, from which its steps are a trace.
use Rattle.std.proofs.Common.{rules, ◌≡◌, List, [], ◌∷◌, ◌++◌, None, Some, refl, ap}
use Rattle.cacache_disk.specs.{declared.luck.Luck.{Luck}, Apply.{apply}}
use Rattle.cacache_value.specs.Acts.{IsTrace, Move}
use Rattle.cacache_history.specs.{declared.record.Record.{Record, TheVariants.{Began, Moved, Stopped}}, Setup.{Setup, home}, History.{History, IsLegal, Made, Now, initial, now_after, now_at, replayed}, Values.{steps_of}, durable.Outlasting.{LossesLeaveCaches, moment_at}}
use Rattle.cacache_history.proofs.Histories.{Holding.{first_holds, held_at, legal_after, legal_before}, Values.{traced}}
use Rattle.cacache_loss.specs.{ChangedNames.{opening}, LostTrees.{OfCache, StoodWell}, Moments.{Moment, after}}
use Rattle.cacache_loss.proofs.{ChangedNames.{histories_leave_caches}, LostTrees.{moves_keep_moments, openings_stand_well}}
use Rattle.cacache_loss.specs.Moments as moments

-- the move that a caller made
abbrev pub made_move : Luck → Made → Move
made_move luck made = record { step = made.0; luck = luck; answer = made.1 }

same_tree : (s : Setup) (m : Moment) (w : Now) (records : List Record) → m.tree ≡ w.tree → (after m (steps_of records)).tree ≡ (replayed s w records).tree
same_tree s m w [] e = e
same_tree s m w (Began caller command ∷ records) e = same_tree s m (now_after s w (Began caller command)) records e
same_tree s m w (Moved caller luck None reply ∷ records) e = same_tree s m (now_after s w (Moved caller luck None reply)) records e
same_tree s m w (Moved caller luck (Some made) reply ∷ records) e = same_tree s (moments.next m (made_move luck made)) (now_after s w (Moved caller luck (Some made) reply)) records (ap (λ t. (apply t made.0 luck).1) e)
same_tree s m w (Stopped caller ∷ records) e = same_tree s m (now_after s w (Stopped caller)) records e

-- the tree of a moment is the one that the history has there
pub tree_at : (h : History) (before : List Record) → (moment_at h before).tree ≡ (now_at h before).tree
tree_at h before = same_tree h.setup (opening (initial h.setup).tree) (initial h.setup) before refl

after_more : (m : Moment) (before more : List Record) → after m (steps_of (before ++ more)) ≡ after (after m (steps_of before)) (steps_of more)
after_more m [] more = refl
after_more m (Began caller command ∷ before) more = after_more m before more
after_more m (Moved caller luck None reply ∷ before) more = after_more m before more
after_more m (Moved caller luck (Some made) reply ∷ before) more = after_more (moments.next m (made_move luck made)) before more
after_more m (Stopped caller ∷ before) more = after_more m before more

-- further records lead on from a moment
pub moment_more : (h : History) (before more : List Record) → moment_at h (before ++ more) ≡ after (moment_at h before) (steps_of more)
moment_more h before more = after_more (opening (initial h.setup).tree) before more

module _ (h : History) (legal : IsLegal h) where
  module _ (before rest : List Record) (is : h.records ≡ before ++ rest) where
    -- the steps from a place on are a trace
    pub trace_at : IsTrace (home h.setup) (moment_at h before).tree (steps_of rest)
    trace_at = search (rules, tree_at, traced, legal_after, held_at)

    -- each moment is one of a cache
    pub of_cache_at : OfCache (home h.setup) (moment_at h before) × StoodWell (home h.setup) (moment_at h before).fixed
    of_cache_at =
        let o = first_holds h legal in
        moves_keep_moments (home h.setup) (opening (initial h.setup).tree) (steps_of before) (o.placed, o.rooted) (openings_stand_well (home h.setup) (initial h.setup).tree)
        (traced h.setup legal.apart (initial h.setup) before (legal_before h legal before rest is) o).trace

  -- each loss at the end leaves a cache
  pub losses_leave_caches : LossesLeaveCaches h
  losses_leave_caches loss =
      let o = first_holds h legal in
      histories_leave_caches (home h.setup) (initial h.setup).tree (steps_of h.records) loss o.placed o.rooted
      (traced h.setup legal.apart (initial h.setup) h.records legal.legal o).trace
