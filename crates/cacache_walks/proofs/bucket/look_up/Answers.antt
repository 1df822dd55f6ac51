use Rattle.std.proofs.Common.{option_map, sym, ap, ◌∙◌}
use Rattle.cacache_entry.specs.{Bucket.{entries_of}, View.{found_view}}
use Rattle.cacache_walks.proofs.BucketItems.{last_answers}
use Rattle.cacache_walks.proofs.bucket.look_up.Goals as goal

pub returns-in-Some-clause-found : goal.returns-in-Some-clause-found
returns-in-Some-clause-found c =
    let said = sym c.in_ok-found.ensures ∙ ap (option_map (option_map found_view)) c.in-Some.is in
    sym (last_answers (entries_of c.args.bytes.now) c.args.entry.now c.args.later.now (option_map found_view c.in-Some.found) c.requires.ends c.requires.last said)
