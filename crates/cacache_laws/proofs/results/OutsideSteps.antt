-- If no call exports or removes, steps leave what lies apart from the cache.
use Rattle.std.proofs.{Common.{arith, rules, ◌≡◌, ◌==◌, ℕ, Bool, true, false, cond, List, [], ◌∷◌, Option, None, Some, option_map, refl, sym, ap, subst, ◌-◌, ◌++◌, Result, Ok, length, ◌∙◌, append_assoc}, lemmas.Grind.{common_steps}}
use Rattle.cacache_core.specs.{Paths.{Names, names_of, content_names}, declared.{errors.Fault.{Fault, TheVariants.{IsADirectory}}, integrity.digest.Hash.{Hash}}}
use Rattle.cacache_store.specs.Plain.{PlainStep, PlainAnswer}
use Rattle.cacache_disk.specs.{declared.{luck.Luck.{Luck}, node.Node.{TheVariants.{Link, Folder, File}, Node}}, Tree.{Tree, look, bare, put, same_path}, LedTo.{free, bytes_there, dirs_fault, file_at, followed, leads, on_link, or_fault, place, where_no_folder}, Apply.{apply, above_last, if_missing, make_some, planted}}
use Rattle.cacache_disk.proofs.{Changes.{apply_tree, unless_tree}, FoundNodes.{free_ok, and_then_ok, place_ok}, PutNodes.{look-put}, Roots.{look-bare}}
use Rattle.cacache_calls.specs.{declared.reply.Reply.{Reply}, Licence.{KeepsTo, May, allows}, Sound.{Allowed}, Table.{opening, wants}}
use Rattle.cacache_calls.proofs.{Within.{begins_within, goes_within, step_allowed}, Sound.{steps_allowed}}
use Rattle.cacache_value.specs.{Kinds.{Bucket, Content, Elsewhere, Temporary, IsFor, path_kind}, Placed.{LieApart, with_files, Placed, Proper, MayStand}, Value.{AtLink, blob_in, value_of_tree}}
use Rattle.cacache_value.proofs.{Applying.{of_names, suits}, PathKinds.{kind-below}}
use Rattle.cacache_history.specs.{declared.record.Record.{Record, TheVariants.{Began, Moved, Stopped}}, Setup.{Setup, call_site, home, is_outside, may_export}, History.{Call, History, IsLegal, Legal, Made, Now, call_after, initial, now_after, unless_over, now_at}, Turns.{made_in}, Values.{steps_of}, durable.Outlasting.{moment_at}, AddedEntries.{address_of_put}}
use Rattle.cacache_history.proofs.{Histories.Holding.{AllHold, CallHolds, first_holds, made_proper, next_holds, of_caller, held_at}, durable.{QuietSteps.{temp_for}, Traces.{made_move, tree_at}}, Contents.{Digests.{digest_hash}, LinkedContents.{links_were_right}}}
use Rattle.cacache_loss.specs.{Moments.{is_calm, EachMove, Moment, next, after}, Fixing.{moved_to, moves_file, rewrites_at, writes_at}, Syncs.{Leaves, LeavesStep}}
use Rattle.cacache_loss.proofs.{KeptPaths.{keeps, sync_tree}, StepCases.{make_apart, put_misses}, Reaching.{Misses, at_false, at_names, moved_false, rewrites_false, writes_false}}
use Rattle.cacache_laws.{specs.results.FoundLinks.{OnlyLinksIn, linking_in, LinksLeadUnchanged}, proofs.trees.Stepping.{file_there}}
use Rattle.cacache_store.specs.declared.store.step.Step.TheVariants as steps

-- ---- steps

-- such a step's own temporary file, if it writes one
abbrev WritesTemp : Option Names → PlainStep → Type 0
WritesTemp home (steps.Write f bytes) = IsFor home Temporary f.path
WritesTemp home step = Unit {0}

module _ (home : Option Names) (q : Names) (at : path_kind home q ≡ Elsewhere) (t : Tree) (placed : Placed home t) where
  -- it stays as it is
  abbrev Stays : PlainStep → Luck → PlainAnswer → Type 0
  Stays step luck answer =
      (look (apply t step luck).1 q ≡ look t q) × (writes_at step q ≡ false) × (rewrites_at t step q ≡ false) × (moved_to (moves_file step answer) q ≡ false)

  calm_stays : (step : PlainStep) (luck : Luck) (answer : PlainAnswer) → is_calm step ≡ true → Proper home step → Misses q step → Stays step luck answer
  calm_stays step luck answer calm is misses = (
    keeps home t placed q (look t q) refl (λ names count way. make_apart home Elsewhere t [] names q count at (λ e. cc) way) step luck calm is misses,
    writes_false step q misses,
    rewrites_false t step q calm,
    moved_false step answer q misses,
  )

  linked_stays : (target p : List ℕ) (luck : Luck) → IsFor home Content p → look (apply t (steps.Symlink target p) luck).1 q ≡ look t q
  linked_stays target p luck is =
      apply_tree (λ x. look x q ≡ look t q) t (steps.Symlink target p) luck refl
      (λ most. unless_tree (λ x. look x q ≡ look t q) (free t p) t _ refl (λ names found.
      put_misses t names q (Link target) (at_names p names q (at_false home Content Elsewhere q (names_of p) is at (λ e. cc)) (free_ok t p names found).0)))

  leaves_step : (now : Moment) → now.tree ≡ t → (step : PlainStep) (luck : Luck) (answer : PlainAnswer) → May (allows linking_in step) → Proper home step → WritesTemp home step
      → LeavesStep q (record { tree = t; fixed = now.fixed }) step (apply t step luck).1 answer
  leaves_step now same (steps.SyncTemp f) luck answer may is temp = tt
  leaves_step now same (steps.SyncFile p) luck answer may is temp = tt
  leaves_step now same (steps.SyncDir p) luck answer may is temp = tt
  leaves_step now same (steps.Symlink target p) luck answer may is temp = (linked_stays target p luck is.0, refl, refl, refl)
  leaves_step now same (steps.Copy p r) luck answer may is temp = absurd may
  leaves_step now same (steps.Reflink p r) luck answer may is temp = absurd may
  leaves_step now same (steps.HardLink p r) luck answer may is temp = absurd may
  leaves_step now same (steps.RemoveFile p) luck answer may is temp = absurd may
  leaves_step now same (steps.RemoveDir p) luck answer may is temp = absurd may
  leaves_step now same (steps.CreateTemp p) luck answer may is temp =
      calm_stays (steps.CreateTemp p) luck answer refl is (at_false home Temporary Elsewhere q (names_of p) is at (λ e. cc))
  leaves_step now same (steps.Write f bytes) luck answer may is temp =
      calm_stays (steps.Write f bytes) luck answer refl is (at_false home Temporary Elsewhere q (names_of f.path) temp at (λ e. cc))
  leaves_step now same (steps.Persist f p) luck answer may is temp =
      calm_stays (steps.Persist f p) luck answer refl is
      (at_false home Temporary Elsewhere q (names_of f.path) is.0 at (λ e. cc), at_false home Content Elsewhere q (names_of p) is.1 at (λ e. cc))
  leaves_step now same (steps.Append p line) luck answer may is temp =
      calm_stays (steps.Append p line) luck answer refl is (at_false home Bucket Elsewhere q (names_of p) is.0 at (λ e. cc))
  leaves_step now same step luck answer may is temp = calm_stays step luck answer refl is tt

-- ---- calls

-- a call that does no more than this, if there is one
abbrev LinksIn : Option Call → Type 0
LinksIn None = Unit {0}
LinksIn (Some call) = KeepsTo linking_in call.command

set_links : (b : Bool) (new old : Option Call) → LinksIn new → LinksIn old → LinksIn (cond b new old)
set_links b new old n o = grind (arith, common_steps)

after_links : (w : Now) (luck : Luck) (made : Option Made) (reply : Option Reply) (call : Option Call) → LinksIn call → LinksIn (unless_over reply (option_map (call_after w.tree luck made) call))
after_links w luck made reply call h = grind (arith, common_steps)

module _ (s : Setup) where
  writes_temp : (n : ℕ) (step : PlainStep) → Allowed (call_site s n) (may_export s) (is_outside s) step → WritesTemp (home s) step
  writes_temp n step a = grind (arith, temp_for)

  call_may : (call : Call) (step : PlainStep) → CallHolds s call → KeepsTo linking_in call.command → wants call.state ≡ Some step → May (allows linking_in step)
  call_may call step holds keeps w =
      step_allowed linking_in call.state step
      (goes_within linking_in (opening (call_site s call.number) call.command) call.state (made_in call.turns) (begins_within linking_in (call_site s call.number) call.command keeps) holds.goes) w

  module _ (apart : LieApart (home s) s.outside) (q : Names) (at : path_kind (home s) q ≡ Elsewhere) where
    leave_all : (w : Now) (now : Moment) (records : List Record) → now.tree ≡ w.tree → Legal s w records → AllHold s w → ((caller : ℕ) → LinksIn (w.calls caller)) → OnlyLinksIn records
        → EachMove (Leaves q) now (steps_of records)
    leave_all w now [] same legal h links only = tt
    leave_all w now (Began caller command ∷ records) same legal h links only =
        leave_all (now_after s w (Began caller command)) now records same legal.1 (next_holds s apart w (Began caller command) legal.0 h)
        (λ k. set_links (k == caller) _ (w.calls k) only.0 (links k)) only.1
    leave_all w now (Moved caller luck None reply ∷ records) same legal h links only =
        leave_all (now_after s w (Moved caller luck None reply)) now records same legal.1 (next_holds s apart w (Moved caller luck None reply) legal.0 h)
        (λ k. set_links (k == caller) _ (w.calls k) (after_links w luck None reply (w.calls caller) (links caller)) (links k)) only
    leave_all w now (Moved caller luck (Some made) reply ∷ records) same legal h links only =
        let call = legal.0.0 in
        let mine = of_caller s call _ legal.0.1 (h.calls caller) in
        let keeps : KeepsTo linking_in call.command = subst LinksIn legal.0.1 (links caller) in
        let wanted = legal.0.2.0 in (
          subst (λ t. LeavesStep q (record { tree = t; fixed = now.fixed }) made.0 (apply t made.0 luck).1 made.1) (sym same)
              (leaves_step (home s) q at w.tree h.placed now same made.0 luck made.1 (call_may call made.0 mine keeps wanted) (made_proper s apart w.tree luck made reply call mine legal.0.2)
              (writes_temp call.number made.0 (steps_allowed (call_site s call.number) (may_export s) (is_outside s) call.state made.0 mine.sound wanted))),
          leave_all (now_after s w (Moved caller luck (Some made) reply)) (next now (made_move luck made)) records (ap (λ t. (apply t made.0 luck).1) same) legal.1
              (next_holds s apart w (Moved caller luck (Some made) reply) legal.0 h)
              (λ k. set_links (k == caller) _ (w.calls k) (after_links w luck (Some made) reply (w.calls caller) (links caller)) (links k)) only,
        )
    leave_all w now (Stopped caller ∷ records) same legal h links only =
        leave_all (now_after s w (Stopped caller)) now records same legal.1 (next_holds s apart w (Stopped caller) legal.0 h)
        (λ k. set_links (k == caller) None (w.calls k) tt (links k)) only

pub all_leave : (h : History) → IsLegal h → OnlyLinksIn h.records → (q : Names) → path_kind (home h.setup) q ≡ Elsewhere → EachMove (Leaves q) (moment_at h []) (steps_of h.records)
all_leave h legal only q at = leave_all h.setup legal.apart q at (initial h.setup) (moment_at h []) h.records refl legal.legal (first_holds h legal) (λ caller. tt) only

-- ---- links of contents: what a history begins with has none

abbrev IsLink : Option Node → Type 0
IsLink (Some (Link target)) = Unit {0}
IsLink here = ⊥

abbrev NoneLinks : Tree → Type 0
NoneLinks t = (q : Names) → IsLink (look t q) → ⊥

put_none : (t : Tree) (p : Names) (node : Node) → (IsLink (Some node) → ⊥) → NoneLinks t → NoneLinks (put t p node)
put_none t p node not none q is = search (rules, look-put)

made_one : (t : Tree) (p : Names) (here : Option Node) (b : Bool) → NoneLinks t → NoneLinks (if_missing here (cond b t (put t p Folder)) t)
made_one t p here b none = grind (arith, put_none)

made_none : (t : Tree) (above rest : Names) (count : ℕ) → NoneLinks t → NoneLinks (make_some t above rest count)
made_none t above [] count none = none
made_none t above (name ∷ rest) count none =
    made_none (if_missing (look t (above ++ name ∷ [])) (cond (count == 0) t (put t (above ++ name ∷ []) Folder)) t) (above ++ name ∷ []) rest (if_missing (look t (above ++ name ∷ [])) (count - 1) count)
    (made_one t (above ++ name ∷ []) (look t (above ++ name ∷ [])) (count == 0) none)

planted_none : (t : Tree) (path bytes : List ℕ) (new : Tree) → planted t path bytes ≡ Ok new → NoneLinks t → NoneLinks new
unfolding planted
planted_none t path bytes new e none =
    let f = and_then_ok (names_of path) _ new e in
    let g = and_then_ok (or_fault (dirs_fault t [] (above_last f.0)) f.0) _ new f.2 in
    let h = and_then_ok (where_no_folder (look t g.0) g.0) _ new g.2 in
    let same : put (make_some t [] (above_last h.0) (length (above_last h.0))) h.0 (File bytes) ≡ new = (let is = h.2 in cc) in
    subst NoneLinks same (put_none (make_some t [] (above_last h.0) (length (above_last h.0))) h.0 (File bytes) (λ i. i) (made_none t [] (above_last h.0) (length (above_last h.0)) none))

files_none : (t new : Tree) (files : List (List ℕ × List ℕ)) → with_files t files ≡ Ok new → NoneLinks t → NoneLinks new
files_none t new [] e none = let same : t ≡ new = cc in subst NoneLinks same none
files_none t new (file ∷ files) e none =
    let f = and_then_ok (planted t file.0 file.1) (λ new. with_files new files) new e in
    files_none f.0 new files f.2 (planted_none t file.0 file.1 f.0 f.1 none)

bare_none : NoneLinks bare
bare_none q is = search (rules, look-bare)

-- ---- the file that a path leads to if no link is there

stays_here : (here : Option Node) (q end : Names) (go : List ℕ → Result Names Fault) → (IsLink here → ⊥) → on_link here q go ≡ Ok end → q ≡ end
stays_here here q end go none e = grind (arith, common_steps)

followed_none : (t : Tree) (q end : Names) → (IsLink (look t q) → ⊥) → followed 16 t q ≡ Ok end → q ≡ end
unfolding followed
followed_none t q end none e = stays_here (look t q) q end _ none e

pub record NamedFile (t : Tree) (path bytes : List ℕ) : Type 0 where
  pub names : Names
  pub named : names_of path ≡ Ok names
  pub there : (IsLink (look t names) → ⊥) → look t names ≡ Some (File bytes)

file_named : (t : Tree) (path bytes : List ℕ) → file_at t path IsADirectory ≡ Ok bytes → NamedFile t path bytes
unfolding file_at leads
file_named t path bytes e =
    let f = and_then_ok (leads t path) (λ names. bytes_there IsADirectory (look t names)) bytes e in
    let g = and_then_ok (place t path) (followed 16 t) f.0 f.1 in
    record {
      names = g.0;
      named = place_ok t path g.0 g.1;
      there = λ none. file_there (look t g.0) bytes (ap (λ q. bytes_there IsADirectory (look t q)) (followed_none t g.0 f.0 none g.2) ∙ f.2);
    }

-- ---- steps that leave a path

step_look : (q : Names) (w : Moment) (step : PlainStep) (luck : Luck) (answer : PlainAnswer) → LeavesStep q w step (apply w.tree step luck).1 answer → look (apply w.tree step luck).1 q ≡ look w.tree q
step_look q w step luck answer leaves = grind (arith, sync_tree)

look_stays : (q : Names) (w : Moment) (more later : List Record) → EachMove (Leaves q) w (steps_of (more ++ later)) → look (after w (steps_of more)).tree q ≡ look w.tree q
look_stays q w [] later leaves = refl
look_stays q w (Began caller command ∷ more) later leaves = look_stays q w more later leaves
look_stays q w (Moved caller luck None reply ∷ more) later leaves = look_stays q w more later leaves
look_stays q w (Moved caller luck (Some made) reply ∷ more) later leaves =
    look_stays q (next w (made_move luck made)) more later leaves.1 ∙ step_look q w made.0 luck made.1 leaves.0
look_stays q w (Stopped caller ∷ more) later leaves = look_stays q w more later leaves

-- ---- links of contents

link_node : (here : Option Node) (target : List ℕ) → blob_in here ≡ Some (AtLink target) → here ≡ Some (Link target)
link_node here target e = grind (arith, common_steps)

link_elsewhere : (home : Option Names) (t : Tree) (a : Hash) (target : List ℕ) → Placed home t → (value_of_tree home t).contents a ≡ Some (AtLink target) → IsFor home Elsewhere target
link_elsewhere None t a target placed e = absurd cc
link_elsewhere (Some folder) t a target placed e = search (rules, link_node, suits, kind-below)

pub links_lead_unchanged : (h : History) → IsLegal h → LinksLeadUnchanged h
links_lead_unchanged h legal only before later is p target was =
    let a = address_of_put p in
    let x = links_were_right h legal before later is a target (digest_hash p.options.algorithm p.data) was in
    let past = x.2.past in
    let whole : h.records ≡ past ++ (x.2.more ++ later) = is ∙ ap (λ l. l ++ later) x.2.is ∙ append_assoc past x.2.more later in
    let file = file_named (now_at h past).tree target x.0 x.2.held in
    let for : IsFor (home h.setup) Elsewhere target = link_elsewhere (home h.setup) (now_at h before).tree a target (held_at h legal before later is).placed was in
    let kind : path_kind (home h.setup) file.names ≡ Elsewhere = of_names (λ n. path_kind (home h.setup) n ≡ Elsewhere) target file.names for file.named in
    let leaves = all_leave h legal only file.names kind in
    let same : look (now_at h past).tree file.names ≡ look (initial h.setup).tree file.names
    = ap (λ t. look t file.names) (sym (tree_at h past))
    ∙ look_stays file.names (moment_at h []) past (x.2.more ++ later) (subst (λ records. EachMove (Leaves file.names) (moment_at h []) (steps_of records)) whole leaves) in
    let there = file.there (λ i. files_none bare (initial h.setup).tree h.setup.outside legal.opens bare_none file.names (subst IsLink same i)) in (
      x.0,
      record { path = file.names; named = file.named; first = sym same ∙ there; leaves = leaves },
    )
