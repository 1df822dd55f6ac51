use Rattle.std.proofs.Common.{Some, string_bytes, sym, ◌∙◌}
use Rattle.cacache_entry.specs.View.{entry_view}
use Rattle.cacache_walks.{specs.Listing.{entry_in}, proofs.BucketItems.{has_none, takes_place, at_text}}
use Rattle.cacache_walks.proofs.deciding.note.Goals as goal

pub returns-in_ok-insert : goal.returns-in_ok-insert
returns-in_ok-insert c = λ key.
    let own = string_bytes c.args.entry.now.key in
    let text = c.as_str-key.result.now in
    takes_place (entry_view c.args.entry.now) (entry_in c.args.deciders.now) (entry_in c.insert.new.self) key
    (has_none c.args.deciders.now own text key c.as_str-key.ensures.value (sym c.contains_key.ensures ∙ c.if-not-contains_key.true))
    (sym c.in_ok-answers.ensures ∙ c.if-branch.true)
    (at_text c.args.deciders.now c.insert.new.self (Some c.args.entry) own text key c.as_str-key.ensures.value c.in_ok-insert.ensures.updates)
