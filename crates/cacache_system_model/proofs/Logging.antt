-- Runs that a log gained.
use Rattle.std.{proofs.Common.{◌≡◌, List, [], ◌∷◌, ◌++◌, sym, subst}, specs.Prelude.{Some}}
use Rattle.cacache_system.specs.{declared.call.CallItem.{CallItem}, Seen.{NumberedAnswer}}
use Rattle.cacache_system_model.{specs.{Calls.{OccursSomehow, EachCall}, CallForms.{IsDisks, LogsAgree}}, proofs.Covered.{each_may_break}}

-- equal lists with the same front have the same end
same_end : (old xs ys : List CallItem) → old ++ xs ≡ old ++ ys → xs ≡ ys
same_end [] xs ys same = same
same_end (x ∷ old) xs ys same = let rest : old ++ xs ≡ old ++ ys = cc in same_end old xs ys rest

pub logs_agree : LogsAgree
logs_agree m after hint step answer end old gained (items, runs, gains) is each premise done =
    let whole : old ++ gained ≡ old ++ items = let some : Some (old ++ gained) ≡ Some (old ++ items) = gains in cc in
    let happened : EachCall OccursSomehow m items after = subst (λ (l : List CallItem). EachCall OccursSomehow m l after) (same_end old gained items whole) each in
    subst (λ (a : NumberedAnswer). IsDisks m step a after) (sym is) (each_may_break m hint step premise done items end after runs happened)
