use Rattle.std.proofs.Common.{◌≡◌, List, [], ◌∷◌, ◌++◌, map, string_bytes, sym, ap, ◌∙◌, append_assoc}
use Rattle.cacache_entry.specs.{Bucket.{entries_of}, View.{entry_view}, declared.metadata.SerializableMetadata.{SerializableMetadata}}
use Rattle.cacache_calls.specs.{Runs.{plain_item}, State.{Item}, Walking.{once}}
use Rattle.cacache_walks.{specs.Listing.{keys_in, lookups, added_at}, proofs.BucketItems.{adds_first, all_items}}
use Rattle.cacache_walks.proofs.bucket.items_of_few.Goals as goal

pub loop-entry-init : goal.loop-entry-init
loop-entry-init c = record {
  items = rw c.new-items.ensures.items (all_items c.args.bytes.now c.args.entries.now c.requires);
  ends = ([], sym c.requires);
}

pub loop-entry-preserved : goal.loop-entry-preserved
loop-entry-preserved c =
    let es = entries_of c.args.bytes.now in
    let e = c.in-Some.entry.now in
    let later = c.in-Some.later.now in
    let front = c.loop-entry.invariant.ends.0 in
    let old = map plain_item c.loop-entry.items.items in
    let rest : c.loop-entry.rest.now ≡ e ∷ later = c.in-Some.ensures.cases.0 in
    record {
      items = ap (λ (l : List Item). l ++ lookups es (once (keys_in later))) c.in_ok-add.ensures.items
          ∙ append_assoc old (added_at es (string_bytes e.key) (keys_in later)) (lookups es (once (keys_in later)))
          ∙ ap (λ (l : List Item). old ++ l) (sym (adds_first es (string_bytes e.key) (keys_in later)))
          ∙ ap (λ (r : List SerializableMetadata). old ++ lookups es (once (keys_in r))) (sym rest) ∙ c.loop-entry.invariant.items;
      ends = (
        front ++ entry_view e ∷ [],
        c.loop-entry.invariant.ends.1 ∙ ap (λ (r : List SerializableMetadata). front ++ map entry_view r) rest
            ∙ sym (append_assoc front (entry_view e ∷ []) (map entry_view later)),
      );
    }
