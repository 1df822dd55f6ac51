use Rattle.std.{proofs.{Common.{◌≡◌, ◌++◌, ℕ, List, sym, ap₂, ◌∙◌}, lemmas.{List.{take-append-drop}, Slice.Eq.{slice_eq-Decides}}}, specs.Cmp.{unsigned_Decides}}
use Rattle.cacache_entry.proofs.parts.after.Goals as goal

pub returns-then-eq : goal.returns-then-eq
returns-then-eq c =
    let same : c.in_ok-begin.begin.now ≡ c.args.front.now = (slice_eq-Decides unsigned_Decides _ _ c.eq.result c.eq.ensures).0 c.if-eq.true in
    let split = c.in_ok-begin.ensures.cases in
    sym (take-append-drop _ c.args.bytes.now) ∙ ap₂ (λ (a b : List ℕ). a ++ b) (sym split.1 ∙ same) (sym split.2)
