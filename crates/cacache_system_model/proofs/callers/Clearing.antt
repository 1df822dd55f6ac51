-- Clears whose steps can be made.
use Rattle.std.proofs.{Common.{rules, ◌≡◌, inl, inr, ◌≤◌, ◌^◌, ◌+◌, ℕ, Bool, true, false, cond, List, [], ◌∷◌, Option, None, Some, Result, Ok, Err, refl, sym, ap, subst, ◌∙◌, arith}, lemmas.List.{Elements.{All-nil}, Sorted.{IsPermutation-refl}}}
use Rattle.std.specs.Prelude.{IfNone, MatchOption, IsPermutation}
use Rattle.std_io.specs.declared.io.kind.ErrorKind.TheVariants as kind
use Rattle.cacache_core.specs.{declared.errors.Fault.{Fault, TheVariants.{Device}}, Paths.{Names, IsProperName}}
use Rattle.cacache_store.specs.declared.store.step.Step.TheVariants as store
use Rattle.cacache_store.specs.{declared.store.answer.Name.{Name}, Plain.{PlainAnswer}}
use Rattle.cacache_disk.specs.{declared.{luck.Luck.TheVariants.{Plain}, node.Node.{Node}}, Tree.{look, Tree, cut, listing}, LedTo.{standing, removable, emptied}, Apply.{fault_told}}
use Rattle.cacache_system.specs.{declared.call.{CallResult.{CallResult}, CallItem.{CallItem}}, Seen.{item}, CallsOf.{over, taking_memory, opening_folder, Runs}, AnswersOf.{no_hint, refuses_memory}}
use Rattle.cacache_system.specs.declared.call.SystemCall.TheVariants as asks
use Rattle.cacache_system.specs.declared.call.CallResult.TheVariants as says
use Rattle.cacache_system_model.specs.{Machine.{Machine, IsRefused, gone, placed, RemovesNode}, Folders.{HasLeft, OpensNames, OpensFolder, ReadsSome, ReadsFolder}, callers.{Made.{now_left}, Seen.{temp_of}, Example.{ClearsCanBe, ClearsCanRemove}}}
use Rattle.cacache_system_model.proofs.{Meetings.{folders_on, has_left}, Saying.{Sayable, removable_say, emptied_say}, Steps.Listing.{listed_apply}}
use Rattle.cacache_calls.specs.{declared.visit.Visit.TheVariants.{RemoveFile, RemoveFolder}, State.{State, walking}, Walking.{walk}}

-- ---- an empty cache

pub clears_can_be : ClearsCanBe
clears_can_be s m cache within fewer (number, room) empty =
    let p : List ℕ = s.cache in
    let plain = empty.plain in
    let few : (now_left s cache.past).begun + 1 ≤ 2 ^ 64 = omega (arith, fewer) in
    let m1 : Machine = folders_on m number [] in
    let h : HasLeft number [] m m1 = has_left m number [] in
    let still : HasLeft number [] m1 m1 = record { tree = refl; files = refl; synced = refl; left = h.left; others = λ k other. refl } in
    let items : List CallItem = item (asks.OpenFolder p) (says.Opened number) ∷ item (asks.ReadNames number 4096) (says.Bytes []) ∷ [] in
    let order : IsPermutation (listing m.tree plain.names) (m.order plain.names)
    = subst (λ (xs : List Name). IsPermutation xs (m.order plain.names)) (sym empty.lists) (subst (λ (xs : List Name). IsPermutation [] xs) (sym empty.gives) (IsPermutation-refl [])) in
    let opens : OpensFolder (standing m.tree p) m (says.Opened number) m1
    = subst (λ (r : Result Names Fault). OpensFolder r m (says.Opened number) m1) (sym plain.stands)
    (subst (λ (o : Option Node). OpensNames plain.names o m (says.Opened number) m1) (sym plain.there) (number, [], refl, room, order, empty.gives, h)) in
    let reads : ReadsFolder number m1 (says.Bytes []) m1
    = subst (λ (o : Option (List (List ℕ))). MatchOption o (IfNone (m1.files number) (IsRefused Device m1 (says.Bytes []) m1)) (λ left. ReadsSome number left m1 (says.Bytes []) m1)) (sym h.left)
    ([], [], refl, λ e. refl, refl, still) in (
      record { before = m; after = m1; step = store.ReadDir p; hint = no_hint; items = items; end = says.Names [] },
      (
        (within, refl, tt, tt, few),
        (
          record {
            state = walk true p;
            stands = refl;
            wanted = refl;
            held = tt;
            spares = tt;
            here = refl;
            runs = subst (λ (b : Bool). Runs (cond b (over (says.Failed kind.NotFound)) (taking_memory (opening_folder p))) items (says.Names [])) (sym plain.some) (refl, (refl, inr refl));
            each = (m1, (Plain, opens), (m1, (Plain, reads), refl));
            luck = inl (ap (λ (r : PlainAnswer × Tree). fault_told r.0) (listed_apply m.tree p plain.names plain.folder));
            hint = inr (
              plain,
              λ at is.
                  let both : Ok plain.names ≡ Ok at = sym plain.folder ∙ is in
                  let same : plain.names ≡ at = cc in
                  subst (λ (x : Names). m.order x ≡ listing m.tree x) same (empty.gives ∙ sym empty.lists),
            );
            clean = λ left. left;
            fits = All-nil (λ (entry : Name). IsProperName entry.name);
            over = inl refl;
          },
          tt,
        ),
      ),
    )

-- ---- what a clear removes

abbrev Removed : Result Names Fault → Machine → Type 0
Removed r m = (said : CallResult) × (after : Machine) × RemovesNode r m said after × (said ≡ says.Failed kind.OutOfMemory → ⊥)

removal_said : (m : Machine) (r : Result Names Fault) → Sayable r → Removed r m
removal_said m (Ok names) can = (
  says.Done,
  record m { tree = cut m.tree names; files = placed (gone (look m.tree names) names 0) m.files },
  (0, refl, (refl, refl, refl, λ k. refl)),
  λ e. absurd cc,
)
removal_said m (Err fault) (why, is, memory) = (
  says.Failed why,
  m,
  (why, refl, is, memory, refl),
  λ e.
      let same : why ≡ kind.OutOfMemory = cc in
      let no : true ≡ false = sym (ap refuses_memory same) ∙ memory in
      cc,
)

-- a call that is alone and has no temporary file spares all of them
none_spared : (states : ℕ → Option State) (caller : ℕ) (own : State) → states caller ≡ Some own → temp_of own ≡ None → ((k : ℕ) → (k ≡ caller → ⊥) → states k ≡ None)
    → (k : ℕ) (state : State) (path : List ℕ) → states k ≡ Some state → temp_of state ≡ Some path → ⊥
none_spared states caller own stands free alone k state path is at = search rules

pub clears_can_remove : ClearsCanRemove
clears_can_remove f caller w (RemoveFile p) todo removes stands alone =
    let g = removal_said f.machine (removable f.machine.tree p) (removable_say f.machine.tree p) in (
      record { before = f.machine; after = g.1; step = store.RemoveFile p; hint = no_hint; items = item (asks.RemoveFile p) g.0 ∷ []; end = g.0 },
      λ reply ended. record {
        state = walking w (RemoveFile p) todo;
        stands = stands;
        wanted = refl;
        held = tt;
        spares = λ k state path is at. absurd (none_spared f.states caller (walking w (RemoveFile p) todo) stands refl alone k state path is at);
        here = refl;
        runs = (refl, refl);
        each = (g.1, (Plain, g.2), refl);
        luck = inr (inl (tt, (g.1, g.2, refl), g.3));
        hint = tt;
        clean = λ left. left;
        fits = tt;
        over = ended;
      },
    )
clears_can_remove f caller w (RemoveFolder p) todo removes stands alone =
    let g = removal_said f.machine (emptied f.machine.tree p) (emptied_say f.machine.tree p) in (
      record { before = f.machine; after = g.1; step = store.RemoveDir p; hint = no_hint; items = item (asks.RemoveFolder p) g.0 ∷ []; end = g.0 },
      λ reply ended. record {
        state = walking w (RemoveFolder p) todo;
        stands = stands;
        wanted = refl;
        held = tt;
        spares = tt;
        here = refl;
        runs = (refl, refl);
        each = (g.1, (Plain, g.2), refl);
        luck = inr (inl (tt, (g.1, g.2, refl), g.3));
        hint = tt;
        clean = λ left. left;
        fits = tt;
        over = ended;
      },
    )
clears_can_remove f caller w visit todo removes stands alone = absurd removes
