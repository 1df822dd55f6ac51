use Rattle.std.proofs.Common.{◌≡◌, true, false, refl, rules, subst}
use Rattle.cacache_entry.specs.View.{found_view}
use Rattle.cacache_keep.{specs.Weighing.{NotesPath}, proofs.{Asked.{value_so}, Weights.{weighed_again, weighed_first}}}
use Rattle.cacache_keep.proofs.weighing.weight.Goals as goal

pub returns-then-not-fresh-clause-weighs : goal.returns-then-not-fresh-clause-weighs
returns-then-not-fresh-clause-weighs g c = λ newer has.
    let seen = c.args.seen.now in
    let now = c.note.new.seen in
    let no : c.in_ok-fresh.fresh ≡ false = search rules in
    let old = subst (λ b. NotesPath c.in_ok-path.path b seen now) no c.in_ok-fresh.ensures in
    weighed_again c.args.cache.now newer (found_view c.args.entry.now, 0) seen now has (g.S.Store.log c.args.store.now) _ (subst (λ p. NotesPath p false seen now) c.in_ok-path.ensures old) refl refl

pub returns-clause-weighs : goal.returns-clause-weighs
returns-clause-weighs g c =
    let seen = c.args.seen.now in
    let now = c.note.new.seen in
    let yes : c.in_ok-fresh.fresh ≡ true = search rules in
    let new = subst (λ b. NotesPath c.in_ok-path.path b seen now) yes c.in_ok-fresh.ensures in
    value_so c.size_of.result (λ bytes says newer has. weighed_first c.args.cache.now newer (found_view c.args.entry.now, bytes) seen now has (g.S.Store.log c.args.store.now) (g.S.Store.log c.size_of.new.store) (subst (λ p. NotesPath p true seen now) c.in_ok-path.ensures new) says) c.size_of.ensures.tells
