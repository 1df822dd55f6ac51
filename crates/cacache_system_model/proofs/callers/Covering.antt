-- Where a machine and a history agree, each step of a call has what its law asks.
use Rattle.std.proofs.{lemmas.{Grind.{common_steps}, Bool.{false_from_ne_true}}, Common.{arith, ◌≡◌, ◌⊎◌, inl, inr, ℕ, zero, suc, Bool, false, List, [], ◌∷◌, ◌++◌, Option, None, Some, Ok, refl, sym, ap, subst, ◌∙◌, append-nil}}
use Rattle.std.specs.Prelude.{Result, Err, IfOk, IfSome}
use Rattle.cacache_core.specs.{declared.errors.Fault.{Fault}, Paths.{Names, names_of}}
use Rattle.cacache_store.specs.declared.store.step.Step.TheVariants as steps
use Rattle.cacache_disk.specs.{declared.node.Node.{Node, TheVariants.{Folder, File, Link}}, Tree.{Tree, look, StandsIn, AreProper, Rooted}, LedTo.{and_then, standing, followed, leads, place, on_link, writable}}
use Rattle.cacache_disk.proofs.{FoundNodes.{and_then_ok, place_ok, standing_ok}, Standing.{way_clear}}
use Rattle.cacache_system.specs.{Seen.{NumberedTemp, NumberedStep}, CallsOf.{Runs}, AnswersOf.{Hint, first}}
use Rattle.cacache_system_model.specs.{Machine.{Machine}, Calls.{OccursSomehow, EachCall}, Laws.{step_on}, StepLaws.{HasNoLink, EndsInNoLink, StillStands}, Premises.{IsStill, Premise}, Mirrors.{hollow, Mirrors, IsNoTemp, SparesOpen}, Chains.{StepMade, WritesTemp, IsMade}, callers.{Acts.{Act, SystemState, EndsFailed, step_of, MakesStep, MayAct}, Made.{AreTemps}, Storing.{IsNotFor, Stores, IsHeld, HoldsTemp, HintStands, IsExplained, MakesStoringStep, MayStore, StoringMakeHistories}}}
use Rattle.cacache_system_model.proofs.{Mirroring.{SameShape, shapes, leads_same, writable_same}, callers.Following.{Agree, has_call, make_histories}}
use Rattle.cacache_value.specs.{Kinds.{PathKind, Bucket, Temporary, Way, Elsewhere, path_kind, is_used, IsFor}, Placed.{LieApart, MayStand, Placed, Proper}}
use Rattle.cacache_value.proofs.{PathKinds.{above}, Applying.{of_names, suits, Reaches, found, missing, bucket_reached, unreachable, writable_out}}
use Rattle.cacache_calls.specs.{declared.reply.Reply.{Reply}, Table.{wants}}
use Rattle.cacache_history.{specs.{Setup.{Setup, home}, History.{Now}}, proofs.{Histories.Holding.{of_caller}, StepActs.{sound_proper}}}

-- ---- nodes by their shape

pub hollow_folder : (o : Option Node) → hollow o ≡ Some Folder → o ≡ Some Folder
hollow_folder o e = grind (arith, common_steps)

pub hollow_link : (o : Option Node) (target : List ℕ) → hollow o ≡ Some (Link target) → o ≡ Some (Link target)
hollow_link o target e = grind (arith, common_steps)

pub hollow_file : (o : Option Node) → hollow o ≡ Some (File []) → (bytes : List ℕ) × (o ≡ Some (File bytes))
hollow_file o e = grind (arith, common_steps)

hollow_none : (n : Node) → hollow (Some n) ≡ None → ⊥
hollow_none n e = grind (arith, common_steps)

same_stands : (ut ct ud cd : Option Node) → hollow ud ≡ hollow ut → hollow cd ≡ hollow ct → StandsIn ud cd → StandsIn ut ct
same_stands ut ct ud cd u c s = grind (arith, hollow_none, hollow_folder)

same_proper : (names : Names) (ct cd : Option Node) → hollow cd ≡ hollow ct → IfSome cd (λ node. AreProper names) → IfSome ct (λ node. AreProper names)
same_proper names ct cd c h = grind (arith, hollow_none)

-- a tree of the same shape is rooted too
pub rooted_same : (t d : Tree) → SameShape t d → Rooted d → Rooted t
rooted_same t d s r = record {
  top = hollow_folder (look t []) (sym (s []) ∙ ap hollow r.top);
  folders = λ above name. same_stands (look t above) (look t (above ++ name ∷ [])) (look d above) (look d (above ++ name ∷ [])) (s above) (s (above ++ name ∷ [])) (r.folders above name);
  proper = λ names. same_proper names (look t names) (look d names) (s names) (r.proper names);
}

-- ---- no links on the ways of a cache

front_way : (h : Option Names) (front rest : Names) → path_kind h (front ++ rest) ≡ Way → path_kind h front ≡ Way
front_way h front [] is = sym (ap (path_kind h) (append-nil front)) ∙ is
front_way h front (name ∷ rest) is = above h front rest name (ap is_used is)

no_way_link : (h : Option Names) (o : Option Node) (target : List ℕ) → MayStand h o Way → o ≡ Some (Link target) → ⊥
no_way_link h o target s e = subst (λ (x : Option Node). MayStand h x Way) e s

module _ (h : Option Names) (t d : Tree) (s : SameShape t d) (placed : Placed h d) where
  pub has_no_link : (p : List ℕ) → IsFor h Way p → HasNoLink t p
  has_no_link p is names front rest named split target here =
      let whole : path_kind h (front ++ rest) ≡ Way = sym (ap (path_kind h) split) ∙ of_names (λ n. path_kind h n ≡ Way) p names is named in
      no_way_link h (look d front) target (suits h d front Way (front_way h front rest whole) placed) (hollow_link (look d front) target (s front ∙ ap hollow here))

  pub ends_in_no_link : (p : List ℕ) → IsFor h Way p → EndsInNoLink t p
  ends_in_no_link p is names e target here = has_no_link p is names names [] (place_ok t p names e) (sym (append-nil names)) target here

-- ---- where a path leads

link_out : (h : Option Names) (target : List ℕ) (k : PathKind) → MayStand h (Some (Link target)) k → IsFor h Elsewhere target
link_out h target k s = grind (arith, common_steps)

-- a path leads to its own names, or out of the cache
abbrev LedOut : Option Names → Names → Names → Type 0
LedOut h names new = (names ≡ new) ⊎ (path_kind h new ≡ Elsewhere)

on_kind : (h : Option Names) (here : Option Node) (k : PathKind) (names new : Names) (go : List ℕ → Result Names Fault) → MayStand h here k
    → ((target : List ℕ) → IsFor h Elsewhere target → go target ≡ Ok new → path_kind h new ≡ Elsewhere)
    → on_link here names go ≡ Ok new → LedOut h names new
on_kind h here k names new go s on e = grind (arith, link_out)

end_kind : (h : Option Names) (names new : Names) → path_kind h names ≡ Elsewhere → LedOut h names new → path_kind h new ≡ Elsewhere
end_kind h names new k which = grind (arith, common_steps)

followed_kind : (h : Option Names) (t : Tree) (n : ℕ) (names new : Names) → Placed h t → followed n t names ≡ Ok new → LedOut h names new
unfolding followed
followed_kind h t zero names new placed e = on_kind h (look t names) (path_kind h names) names new _ (placed names) (λ target out is. absurd cc) e
followed_kind h t (suc n) names new placed e =
    on_kind h (look t names) (path_kind h names) names new (λ target. and_then (standing t target) (followed n t)) (placed names)
    (λ target out is.
    let f = and_then_ok (standing t target) (followed n t) new is in
    end_kind h f.0 new (of_names (λ n. path_kind h n ≡ Elsewhere) target f.0 out (standing_ok t target f.0 f.1)) (followed_kind h t n f.0 new placed f.2))
    e

leads_kind : (h : Option Names) (t : Tree) (p : List ℕ) (new : Names) → Placed h t → leads t p ≡ Ok new → (names : Names) × (names_of p ≡ Ok names) × LedOut h names new
unfolding leads
leads_kind h t p new placed e =
    let f = and_then_ok (place t p) (followed 16 t) new e in
    (f.0, place_ok t p f.0 f.1, followed_kind h t 16 f.0 new placed f.2)

module _ (h : Option Names) (temps : Names → Bool) (are : AreTemps h temps) where
  -- a path of another kind is no open temporary file
  no_temp : (names : Names) (k : PathKind) → path_kind h names ≡ k → (Temporary ≡ k → ⊥) → temps names ≡ false
  no_temp names k is apart = false_from_ne_true (temps names) (λ e. apart (sym (are names e) ∙ is))

  led_no_temp : (p : List ℕ) (names new : Names) → names_of p ≡ Ok names → IsNotFor h Temporary p → LedOut h names new → temps new ≡ false
  led_no_temp p names new named other which = grind (arith, of_names, no_temp)

  linked_spares : (t : Tree) (p : List ℕ) (r : Result Names Fault) → place t p ≡ r → IsNotFor h Temporary p → IsNoTemp temps r
  linked_spares t p r e other = grind (arith, led_no_temp, place_ok)

  pub links_spare : (t : Tree) (p : List ℕ) → IsNotFor h Temporary p → IsNoTemp temps (place t p)
  links_spare t p other = linked_spares t p (place t p) refl other

  module _ (t d : Tree) (s : SameShape t d) (placed : Placed h d) where
    spared : (p : List ℕ) (r : Result Names Fault) → leads d p ≡ r → IsNotFor h Temporary p → IsNoTemp temps r
    spared p (Ok new) e other = let f = leads_kind h d p new placed e in led_no_temp p f.0 new f.1 other f.2
    spared p (Err fault) e other = tt

    pub reads_spare : (p : List ℕ) → IsNotFor h Temporary p → IsNoTemp temps (leads t p)
    reads_spare p other = subst (IsNoTemp temps) (leads_same t d s p) (spared p (leads d p) refl other)

    reached_spares : (p : List ℕ) (names : Names) → path_kind h names ≡ Bucket → Reaches names (writable d p) → IsNoTemp temps (writable d p)
    reached_spares p names k holds = grind (arith, found, no_temp, missing)

    bucket_spares : (p : List ℕ) (r : Result Names Fault) → names_of p ≡ r → IfOk r (λ names. path_kind h names ≡ Bucket) → IsNoTemp temps (writable d p)
    bucket_spares p r named k = grind (arith, reached_spares, bucket_reached, unreachable)

    copied_spares : (p : List ℕ) (r : Result Names Fault) → writable d p ≡ r → IsFor h Elsewhere p → IsNoTemp temps r
    copied_spares p r e is = grind (arith, no_temp, writable_out)

    pub copies_spare : (p : List ℕ) → IsFor h Elsewhere p → IsNoTemp temps (writable t p)
    copies_spare p is = subst (IsNoTemp temps) (writable_same t d s p) (copied_spares p (writable d p) refl is)

    pub appends_spare : (p : List ℕ) → IsFor h Bucket p → IsNoTemp temps (writable t p)
    appends_spare p is = subst (IsNoTemp temps) (writable_same t d s p) (bucket_spares p (names_of p) refl is)

-- ---- steps

-- what a step's law asks, or that it writes a temporary file
abbrev pub HasAsked : (Names → Bool) → Machine → Hint → NumberedStep → Type 0
HasAsked temps m hint step = (Premise m hint step × SparesOpen temps m.tree (step_on m step)) ⊎ WritesTemp temps m step

held_there : (temps : Names → Bool) (m : Machine) (d : Tree) (temp : NumberedTemp) → Mirrors temps m.tree d → Rooted m.tree → (held : IsHeld temps m temp)
    → (bytes : List ℕ) × StillStands m temp held.names bytes
held_there temps m d temp mirrors rooted held =
    let f = hollow_file (look m.tree held.names) (mirrors.files held.names held.is_temp) in
    (f.0, record { named = held.named; way = way_clear m.tree [] held.names (File f.0) rooted f.1; stands = f.1; opened = held.opened })

pub still_there : (temps : Names → Bool) (m : Machine) (d : Tree) (temp : NumberedTemp) → Mirrors temps m.tree d → Rooted m.tree → IsHeld temps m temp → IsStill m temp
still_there temps m d temp mirrors rooted held = let f = held_there temps m d temp mirrors rooted held in (held.names, f.0, f.1)

module _ (h : Option Names) (temps : Names → Bool) (are : AreTemps h temps) (m : Machine) (d : Tree) (mirrors : Mirrors temps m.tree d) (placed : Placed h d) (in_folders : Rooted d) (hint : Hint) where
  shape : SameShape m.tree d
  shape = shapes temps m.tree d mirrors

  rooted : Rooted m.tree
  rooted = rooted_same m.tree d shape in_folders

  pub has_asked : (step : NumberedStep) → Stores h (step_on m step) → HoldsTemp temps m step → HintStands m hint step → Proper h (step_on m step) → HasAsked temps m hint step
  has_asked (steps.MakeDirs p) stores holds stands is = inl ((rooted, has_no_link h m.tree d shape placed p is), tt)
  has_asked (steps.Write t bytes) stores holds stands is =
      let g = held_there temps m d t mirrors rooted holds in inr (holds.names, g.0, g.1, holds.is_temp)
  has_asked (steps.Persist t p) stores holds stands is = inl ((still_there temps m d t mirrors rooted holds, stands), tt)
  has_asked (steps.Append p bytes) stores holds stands is = inl (stands, appends_spare h temps are m.tree d shape placed p is.0)
  has_asked (steps.ReadAll p) stores holds stands is = inl (tt, reads_spare h temps are m.tree d shape placed p stores)
  has_asked (steps.Open p) stores holds stands is = inl (tt, reads_spare h temps are m.tree d shape placed p stores)
  has_asked (steps.Read f size) stores holds stands is = inl (stands, tt)
  has_asked (steps.Size p) stores holds stands is = inl (tt, reads_spare h temps are m.tree d shape placed p stores)
  has_asked (steps.Copy p q) stores holds stands is = inl (stands, (reads_spare h temps are m.tree d shape placed p stores, copies_spare h temps are m.tree d shape placed q is))
  has_asked (steps.Reflink p q) stores holds stands is = inl (tt, reads_spare h temps are m.tree d shape placed p stores)
  has_asked (steps.HardLink p q) stores holds stands is = inl (tt, links_spare h temps are m.tree p stores)
  has_asked (steps.ReadDir p) stores holds (inl (absent, slashed)) is = inl (inl absent, tt)
  has_asked (steps.ReadDir p) stores holds (inr plain) is = inl (inr plain, tt)
  has_asked (steps.RemoveFile p) stores holds stands is = inl (stands, tt)
  has_asked (steps.RemoveDir p) stores holds stands is = inl (stands, tt)
  has_asked (steps.SyncTemp t) stores holds stands is = inl (still_there temps m d t mirrors rooted holds, tt)
  has_asked (steps.SyncFile p) stores holds stands is = inl (tt, reads_spare h temps are m.tree d shape placed p stores)
  has_asked (steps.SyncDir p) stores holds stands is = inl (ends_in_no_link h m.tree d shape placed p stores, tt)
  has_asked step stores holds stands is = inl (tt, tt)

made_so : (temps : Names → Bool) (made : StepMade) (reply : Option Reply) → Runs (first made.hint made.step) made.items made.end
    → EachCall OccursSomehow made.before made.items made.after → IsExplained made reply → HasAsked temps made.before made.hint made.step
    → IsMade temps made ⊎ (EndsFailed made reply × Premise made.before made.hint made.step)
made_so temps made reply runs each luck which = grind (arith, common_steps)

-- ---- acts

module _ (s : Setup) (apart : LieApart (home s) s.outside) (w : SystemState) (now : Now) (agree : Agree s w now) where
  module _ (caller : ℕ) (made : StepMade) (reply : Option Reply) (m : MakesStoringStep (home s) w caller made reply) where
    pub before_mirrors : Mirrors w.temps made.before.tree now.tree
    before_mirrors = subst (λ (x : Machine). Mirrors w.temps x.tree now.tree) (sym m.here) agree.mirrors

    pub step_asked : HasAsked w.temps made.before made.hint made.step
    step_asked =
        let c = has_call (now.calls caller) (w.states caller) m.state (agree.states caller) m.stands in
        let mine = of_caller s c.0 _ c.1 (agree.all.calls caller) in
        let proper : Proper (home s) (step_of made) = sound_proper s c.0.number apart c.0.state (step_of made) mine.sound (ap wants c.2 ∙ m.wanted) in
        has_asked (home s) w.temps agree.temps made.before now.tree before_mirrors agree.all.placed agree.all.rooted made.hint made.step m.stores m.holds m.hint proper

    pub step_so : IsMade w.temps made ⊎ (EndsFailed made reply × Premise made.before made.hint made.step)
    step_so = made_so w.temps made reply m.runs m.each m.luck step_asked

    -- the step as its law has it
    abbrev pub lawful : IsMade w.temps made ⊎ EndsFailed made reply → MakesStep w caller made reply
    lawful so = record {
      state = m.state;
      stands = m.stands;
      here = m.here;
      wanted = m.wanted;
      is_made = so;
      clean = m.clean;
      fits = m.fits;
      over = m.over;
    }

  pub may_act : (act : Act) → MayStore s w act → MayAct s w act
  may_act act m = grind (arith, step_so)

pub storing_makes_histories : StoringMakeHistories
storing_makes_histories = make_histories MayStore (λ s apart w now agree act may. may_act s apart w now agree act may)
