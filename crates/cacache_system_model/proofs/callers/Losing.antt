-- A loss of power leaves on one machine what it leaves of the history of what callers did there.
use Rattle.std.proofs.{lemmas.Grind.{common_steps}, Common.{rules, arith, ◌≡◌, ◌⊎◌, inl, inr, ℕ, Bool, true, false, List, [], ◌∷◌, ◌++◌, refl, sym, ap, subst}}
use Rattle.std.specs.Prelude.{Option, None, Some}
use Rattle.cacache_core.specs.Paths.{Names}
use Rattle.cacache_disk.specs.{declared.node.Node.{Node}, Tree.{is_folder, Tree, look, bytes_of}, Apply.{apply}}
use Rattle.cacache_loss.specs.{Fixing.{Fixed, synced, all_fixed, fixed_after}, Loss.{Loss, Lost, lost_at}, LostValues.{HoldsContent}, Moments.{Moment, after, lost_then}}
use Rattle.cacache_value.{specs.{Kinds.{kind_below, path_kind, node_below}, Placed.{LieApart}, Value.{folders_below, value_of_tree}}, proofs.PathKinds.{kind-below}}
use Rattle.cacache_calls.specs.declared.reply.Reply.{Reply}
use Rattle.cacache_history.specs.{declared.record.Record.{Record, TheVariants.{Began, Moved, Stopped}}, Setup.{Setup, home}, History.{History, Now, now_after}, Values.{steps_of}, AddedEntries.{address_of_put}, durable.Outlasting.{Outlives, LossesLeaveCaches, moment_at}}
use Rattle.cacache_history.proofs.durable.{Traces.{tree_at}, Outlasting.{histories_outlive}}
use Rattle.cacache_system_model.specs.{Machine.{Machine}, Premises.{Premise}, Mirrors.{Mirrors}, Chains.{StepMade, temps_left, IsMade}, Fixing.{fixed_after_all, fixed_by, LosesAsTold, LeavesSame}, callers.{Acts.{Act, begins, steps as makes, ends, stops, SystemState, EndsFailed, step_of, after_act, after_acts, EachMay, IsMoved}, Made.{history_of, now_left, AreTemps, system_at}, Storing.{MakesStoringStep, MayStore}, Losing.{steps_made, is_temporary, LosesSame, KeepsPuts, LoseAsTold, StoringLose, SeenLose}}}
use Rattle.cacache_system_model.proofs.{Alike.{AlikeFixed, folder_alike, lost_alike}, Mirroring.{look_same_at}, callers.{Following.{Agree, Follows, FollowAll, step_follows, act_follows, then_all, first_agree, makes_history}, Covering.{before_mirrors, step_asked, step_so, lawful}, FixedSteps.{StepFacts, step_facts, moved_alike, failed_alike}, Seeing.{seen_acts_store}}}

-- ---- which record a step has

-- a step has its answer in a record, or it failed and its caller gives its call up
abbrev IsTold : ℕ → StepMade → Option Reply → Record → Type 0
IsTold caller made reply r =
    IsMoved caller made reply r ⊎ ((r ≡ Stopped caller) × EndsFailed made reply × Premise made.before made.hint made.step)

-- what a record leaves fixed in a history
abbrev fixed_record : Fixed → Tree → Record → Fixed
fixed_record g t (Moved caller luck (Some made) reply) = fixed_after g t (apply t made.0 luck).1 made.0 made.1
fixed_record g t r = g

abbrev moment : Tree → Fixed → Moment
moment t g = record { tree = t; fixed = g }

after_record : (s : Setup) (now : Now) (g : Fixed) (r : Record) (records : List Record)
    → after (moment now.tree g) (steps_of (r ∷ records)) ≡ after (moment (now_after s now r).tree (fixed_record g now.tree r)) (steps_of records)
after_record s now g r records = grind (arith, common_steps)

module _ (s : Setup) (apart : LieApart (home s) s.outside) where
  abbrev own : Names → Bool
  own path = is_temporary (path_kind (home s) path)

  owned : (temps : Names → Bool) → AreTemps (home s) temps → (q : Names) → temps q ≡ true → own q ≡ true
  owned temps are q e = ap is_temporary (are q e)

  -- what is fixed after a record
  recorded : (f g : Fixed) (t : Tree) (r known : Record) → r ≡ known → AlikeFixed own f (fixed_record g t known) → AlikeFixed own f (fixed_record g t r)
  recorded f g t r known is alike = subst (λ (x : Record). AlikeFixed own f (fixed_record g t x)) (sym is) alike

  -- ---- one act

  module _ (w : SystemState) (now : Now) (agree : Agree s w now) where
    step_told : (caller : ℕ) (made : StepMade) (reply : Option Reply) → MakesStoringStep (home s) w caller made reply
        → (g : Follows s w now (makes caller made reply)) × IsTold caller made reply g.r
    step_told caller made reply m = by (step_so s apart w now agree caller made reply m)
      where
        by : IsMade w.temps made ⊎ (EndsFailed made reply × Premise made.before made.hint made.step) → (g : Follows s w now (makes caller made reply)) × IsTold caller made reply g.r
        by (inl is_made) = let g = step_follows s apart w now agree caller made reply (lawful s apart w now agree caller made reply m (inl is_made)) in (g.0, inl g.1)
        by (inr (failed, premise)) = let g = step_follows s apart w now agree caller made reply (lawful s apart w now agree caller made reply m (inr failed)) in (g.0, inr (g.1, failed, premise))

    -- what a step leaves fixed on the machine is what its record leaves fixed
    record_alike : (f g : Fixed) → AlikeFixed own f g → (caller : ℕ) (made : StepMade) (reply : Option Reply) (m : MakesStoringStep (home s) w caller made reply) → LosesAsTold made
        → (r : Record) → IsTold caller made reply r → Mirrors (temps_left w.temps made) made.after.tree (now_after s now r).tree → AlikeFixed own (fixed_by f made) (fixed_record g now.tree r)
    record_alike f g alike caller made reply m none r told mirrors = by told
      where
        facts : StepFacts w.temps made
        facts = step_facts w.temps made none reply m.runs m.each m.luck (step_asked s apart w now agree caller made reply m)

        by : IsTold caller made reply r → AlikeFixed own (fixed_by f made) (fixed_record g now.tree r)
        by (inl (luck, answer, is, told)) =
            recorded (fixed_by f made) g now.tree r (Moved caller luck (Some (step_of made, answer)) reply) is
            (moved_alike own w.temps f g alike made none.0 facts now.tree luck answer (before_mirrors s apart w now agree caller made reply m) (owned w.temps agree.temps) told
            (subst (λ (x : Record). Mirrors (temps_left w.temps made) made.after.tree (now_after s now x).tree) is mirrors))
        by (inr (is, failed, premise)) =
            recorded (fixed_by f made) g now.tree r (Stopped caller) is (failed_alike own w.temps f g alike made none.0 facts reply failed premise)

  -- ---- many acts

  -- a history that follows acts, and what is fixed in it
  abbrev Loses : SystemState → Now → List Act → Fixed → Fixed → Type 0
  Loses w now acts last g =
      (all : FollowAll s w now acts) × AlikeFixed own last (after (moment now.tree g) (steps_of all.records)).fixed

  goes_on : (w : SystemState) (now : Now) (g : Fixed) (act : Act) (acts : List Act) (last : Fixed) → (one : Follows s w now act)
      → Loses (after_act s w act) (now_after s now one.r) acts last (fixed_record g now.tree one.r) → Loses w now (act ∷ acts) last g
  goes_on w now g act acts last one (all, alike) =
      (then_all s w now act acts one all, subst (λ (m : Moment). AlikeFixed own last m.fixed) (sym (after_record s now g one.r all.records)) alike)

  losing : (acts : List Act) (w : SystemState) (now : Now) (f g : Fixed) → Agree s w now → AlikeFixed own f g → LoseAsTold acts → EachMay (MayStore s) s w acts
      → Loses w now acts (fixed_after_all f (steps_made acts)) g
  losing [] w now f g agree alike none each = (record { records = []; of_acts = refl; legal = tt; agree = agree }, alike)
  losing (makes caller made reply ∷ acts) w now f g agree alike none (m, later) =
      let t = step_told w now agree caller made reply m in
      goes_on w now g (makes caller made reply) acts _ t.0
      (losing acts _ _ (fixed_by f made) _ t.0.agree (record_alike w now agree f g alike caller made reply m none.0 t.0.r t.1 t.0.agree.mirrors) none.1 later)
  losing (begins caller command ∷ acts) w now f g agree alike none (may, later) =
      let t = act_follows s apart w now agree (begins caller command) may in
      goes_on w now g (begins caller command) acts _ t (losing acts _ _ f _ t.agree (recorded f g now.tree t.r (Began caller command) t.of_act alike) none later)
  losing (ends caller reply ∷ acts) w now f g agree alike none (may, later) =
      let t = act_follows s apart w now agree (ends caller reply) may in
      goes_on w now g (ends caller reply) acts _ t (losing acts _ _ f _ t.agree (recorded f g now.tree t.r (Moved caller t.of_act.0 None (Some reply)) t.of_act.1 alike) none later)
  losing (stops caller ∷ acts) w now f g agree alike none (may, later) =
      let t = act_follows s apart w now agree (stops caller) may in
      goes_on w now g (stops caller) acts _ t (losing acts _ _ f _ t.agree (recorded f g now.tree t.r (Stopped caller) t.of_act alike) none later)

-- ---- what the cache holds after a loss

kept_same : (o : Bool) (a b : Option Node) → o ≡ false → LeavesSame o a b → b ≡ a
kept_same o a b e same = grind (arith, common_steps)

module _ (h : Option Names) (a b : Tree) (same : (path : Names) → LeavesSame (is_temporary (path_kind h path)) (look a path) (look b path)) where
  below_same : (home : Option Names) → h ≡ home → (names : Names) → is_temporary (kind_below names) ≡ false → node_below home a names ≡ node_below home b names
  below_same None is names none = refl
  below_same (Some folder) is names none = search (rules, kept_same, kind-below)

  folders_same : (home : Option Names) (names : Names) → folders_below home (λ path. is_folder (look a path)) names ≡ folders_below home (λ path. is_folder (look b path)) names
  folders_same None names = refl
  folders_same (Some folder) [] = refl
  folders_same (Some folder) (name ∷ rest) =
      let path : Names = folder ++ name ∷ rest in sym (folder_alike (is_temporary (path_kind h path)) (look a path) (look b path) (same path))

  value_same : value_of_tree h a ≡ value_of_tree h b
  value_same = search (rules, below_same, folders_same)

-- ---- from a machine on that holds only the outside files

module _ (h : History) (m : Machine) (fixed : Fixed) (nodes : (loss : Loss) (path : Names)
    → LeavesSame (is_temporary (path_kind (home h.setup) path)) (lost_at (home h.setup) m.tree fixed loss path) (lost_then (home h.setup) (moment_at h h.records) loss path)) where
  loses_same : LossesLeaveCaches h → LosesSame h m fixed
  loses_same caches = record {
    nodes = nodes;
    values = λ loss left lost.
        let one = (caches loss).one in (
          one.tree,
          one.left,
          value_same (home h.setup) left one.tree
              (λ path. subst (λ (o : Option Node). LeavesSame (is_temporary (path_kind (home h.setup) path)) o (look one.tree path)) (sym (lost path))
              (subst (λ (o : Option Node). LeavesSame (is_temporary (path_kind (home h.setup) path)) (lost_at (home h.setup) m.tree fixed loss path) o) (sym (one.left path)) (nodes loss path))),
        );
  }

puts_kept : (h : History) (m : Machine) (fixed : Fixed) → LosesSame h m fixed → Outlives h → KeepsPuts h m fixed
puts_kept h m fixed same outlives folder p loss left is few put lost =
    let v = same.values loss left (subst (λ (o : Option Names). Lost o m.tree fixed loss left) (sym is) lost) in
    let now : Moment = moment_at h h.records in
    let held = (outlives.puts few folder p loss v.0 is put (subst (λ (o : Option Names). Lost o now.tree now.fixed loss v.0) is v.1)).0 in
    subst (HoldsContent (address_of_put p)) (sym (subst (λ (o : Option Names). value_of_tree o left ≡ value_of_tree o v.0) is v.2)) held

-- before any record, all is fixed
first_moment : (s : Setup) (past records : List Record) → past ≡ []
    → moment_at (history_of s (past ++ records)) (past ++ records) ≡ after (moment (now_left s past).tree (all_fixed (now_left s past).tree)) (steps_of records)
first_moment s past records none = grind (arith, common_steps)

pub storing_lose : StoringLose
storing_lose s m cache acts nothing free none each =
    let t : Tree = (now_left s cache.past).tree in
    let same : (q : Names) → look t q ≡ look m.tree q = λ q. look_same_at cache.temps m.tree t q cache.mirrors (free q) in
    let first : AlikeFixed (own s cache.legal.apart) (all_fixed m.tree) (all_fixed t) = record { files = λ q. ap (λ (o : Option Node). synced (bytes_of o)) (same q); names = λ q. tt } in
    let l = losing s cache.legal.apart acts (system_at s m cache) (now_left s cache.past) (all_fixed m.tree) (all_fixed t) (first_agree s m cache) first none each in
    let made = makes_history s m cache acts l.0 in
    let h : History = history_of s (cache.past ++ made.records) in
    let last = after_acts s (system_at s m cache) acts in
    let fixed : Fixed = fixed_after_all (all_fixed m.tree) (steps_made acts) in
    let outlives : Outlives h = histories_outlive h made.headline.legal in
    let now : Moment = moment_at h h.records in
    let alike : AlikeFixed (own s cache.legal.apart) fixed now.fixed
    = subst (λ (x : Moment). AlikeFixed (own s cache.legal.apart) fixed x.fixed) (sym (first_moment s cache.past made.records nothing)) l.1 in
    let mirrors : Mirrors last.temps last.machine.tree now.tree = subst (Mirrors last.temps last.machine.tree) (sym (tree_at h h.records)) made.mirrors in
    let loses : LosesSame h last.machine fixed
    = loses_same h last.machine fixed
    (λ loss path. lost_alike (own s cache.legal.apart) last.temps last.machine.tree now.tree fixed now.fixed mirrors (owned s cache.legal.apart last.temps made.are_temps) alike (home s) loss path)
    outlives.caches in
    record { history = made; outlives = outlives; loses = loses; puts = puts_kept h last.machine fixed loses outlives }

pub seen_lose : SeenLose
seen_lose s m cache acts nothing free none each = storing_lose s m cache acts nothing free none (seen_acts_store s m cache acts each)
