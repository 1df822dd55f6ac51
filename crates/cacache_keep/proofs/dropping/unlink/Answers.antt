use Rattle.std.proofs.Common.{ℕ, List, subst, sym, ◌∙◌}
use Rattle.cacache_store.specs.declared.store.answer.Answer.TheVariants as answers
use Rattle.cacache_store.specs.declared.store.step.Step.TheVariants as steps
use Rattle.cacache_core.specs.declared.errors.Fault.TheVariants.{NotFound}
use Rattle.cacache_calls.specs.SingleSteps.{Does}
use Rattle.cacache_keep.{specs.{Dropping.{StopsUnlinking}, Emptying.{EmptiesBoth}, Rewriting.{folder_of}}, proofs.Collections.Fates.{is_removed, was_gone, wasnt_removed}}
use Rattle.cacache_keep.proofs.dropping.unlink.Goals as goal

pub returns-else-says_gone-clause-stops : goal.returns-else-says_gone-clause-stops
returns-else-says_gone-clause-stops g c =
    let old = g.S.Store.log c.args.store.now in
    let new = g.S.Store.log c.step.new.self in
    let e = c.refused.result in
    subst (λ (p : List ℕ). StopsUnlinking p e old new) c.in_ok-place.ensures.cases
    (wasnt_removed c.in_ok-place.place _ c.in-Err.refusal e old new (sym c.says_gone.ensures ∙ c.if-says_gone.false) c.in-Err.ensures c.step.ensures.fits c.step.ensures.logged c.refused.ensures)

pub returns-then-says_gone-clause-unlinks : goal.returns-then-says_gone-clause-unlinks
returns-then-says_gone-clause-unlinks g c =
    let old = g.S.Store.log c.args.store.now in
    let new = g.S.Store.log c.step.new.self in
    subst (λ (p : List ℕ). Does (steps.RemoveFile p) (answers.Failed NotFound) old new) c.in_ok-place.ensures.cases
    (was_gone c.in_ok-place.place _ c.in-Err.refusal old new (sym c.says_gone.ensures ∙ c.if-says_gone.true) c.in-Err.ensures c.step.ensures.fits c.step.ensures.logged)

pub returns-in-Ok-clause-unlinks : goal.returns-in-Ok-clause-unlinks
returns-in-Ok-clause-unlinks g c =
    let old = g.S.Store.log c.args.store.now in
    let cut = g.S.Store.log c.step.new.self in
    let new = g.S.Store.log c.remove_folders.new.store in
    let path = c.args.path.now in
    let folders = c.in_ok-folders.folders in
    let does = subst (λ (p : List ℕ). Does (steps.RemoveFile p) answers.Done old cut) c.in_ok-place.ensures.cases (is_removed c.in_ok-place.place _ old cut c.in-Ok.ensures c.step.ensures.logged) in
    let lower = subst (λ (p : List ℕ). EmptiesBoth p folders.upper cut new) c.in_ok-folders.ensures.lower c.remove_folders.ensures in
    (cut, does, subst (λ (p : List ℕ). EmptiesBoth (folder_of path) p cut new) c.in_ok-folders.ensures.upper lower)
