use Rattle.std.proofs.{Common.{List, [], ◌∷◌, ◌++◌, map, string_bytes, ap, ◌∙◌, append_assoc}, lemmas.List.{nil_from_length}}
use Rattle.std.specs.{Option.{option_to_list, option_map}, Prelude.{Ok}}
use Rattle.cacache_entry.specs.{View.{entry_view}, declared.metadata.SerializableMetadata.{SerializableMetadata}}
use Rattle.cacache_calls.specs.{Runs.{plain_item}, State.{Item}}
use Rattle.cacache_walks.{specs.Listing.{keys_in, own_answer}, proofs.BucketItems.{removed, found_left, none_left, adds_found, adds_none, items_reversed}}
use Rattle.cacache_walks.proofs.bucket.items_of_many.Goals as goal

pub loop-entry-preserved-in_ok-push : goal.loop-entry-preserved-in_ok-push
loop-entry-preserved-in_ok-push c =
    let es = map entry_view c.args.entries.now in
    let e = c.in-Some.entry.now in
    let own = string_bytes e.key in
    let text = c.as_str.result.now in
    let later = c.loop-entry.invariant.0 in
    let left = found_left c.loop-entry.deciders es (keys_in later) own text c.in-Some-remove.decider c.as_str.ensures.value c.in-Some-remove.ensures.value c.loop-entry.invariant.2 in (
      e ∷ later,
      c.loop-entry.invariant.1 ∙ ap (λ (r : List SerializableMetadata). r ++ later) c.in-Some.ensures.cases.0 ∙ append_assoc c.in-Some.earlier.now (e ∷ []) later,
      removed c.loop-entry.deciders c.remove.new.self es (keys_in later) own text c.as_str.ensures.value c.in-Some-remove.ensures.updates c.loop-entry.invariant.2,
      c.in_ok-push.ensures.items
          ∙ ap (λ (items : List Item). items ++ option_to_list (option_map Ok (own_answer (entry_view c.in-Some-remove.decider.now)))) c.loop-entry.invariant.3
          ∙ adds_found es own (keys_in later) (entry_view c.in-Some-remove.decider.now) left,
    )

pub loop-entry-preserved : goal.loop-entry-preserved
loop-entry-preserved c =
    let es = map entry_view c.args.entries.now in
    let e = c.in-Some.entry.now in
    let own = string_bytes e.key in
    let text = c.as_str.result.now in
    let later = c.loop-entry.invariant.0 in
    let left = none_left c.loop-entry.deciders es (keys_in later) own text c.as_str.ensures.value c.in_default-remove.ensures.value c.loop-entry.invariant.2 in (
      e ∷ later,
      c.loop-entry.invariant.1 ∙ ap (λ (r : List SerializableMetadata). r ++ later) c.in-Some.ensures.cases.0 ∙ append_assoc c.in-Some.earlier.now (e ∷ []) later,
      removed c.loop-entry.deciders c.remove.new.self es (keys_in later) own text c.as_str.ensures.value c.in_default-remove.ensures.updates c.loop-entry.invariant.2,
      c.loop-entry.invariant.3 ∙ adds_none es own (keys_in later) left,
    )

pub returns-clause-items : goal.returns-clause-items
returns-clause-items c =
    let later = c.loop-entry.invariant.0 in
    let all = c.loop-entry.invariant.1 ∙ ap (λ (r : List SerializableMetadata). r ++ later) (nil_from_length c.loop-entry.rest.now c.in_default.ensures.cases) in
    ap (map plain_item) c.reverse.ensures.items ∙ items_reversed c.loop-entry.items.items (map entry_view c.args.entries.now) later (ap (map entry_view) all) c.loop-entry.invariant.3
