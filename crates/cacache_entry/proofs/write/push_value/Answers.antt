use Rattle.std.{proofs.Common.{◌≡◌, ℕ, List, ◌++◌, ap, ◌∙◌, subst}, specs.Prelude.{IsUtf8, Some}}
use Rattle.serde_json.specs.{Read.{read}, View.{view}, Written.{compact_text}}
use Rattle.cacache_entry.proofs.{Pieces.{if_ok, appended}, WellRead.{IsJson-read}}
use Rattle.cacache_entry.proofs.write.push_value.Goals as goal

pub returns-in_ok-to_vec-in_default : goal.returns-in_ok-to_vec-in_default
returns-in_ok-to_vec-in_default c =
    let d = view c.args.value.now in
    let vec = c.in_ok-to_vec-in_default.ensures in
    let text = vec.text c.requires.whole in
    let utf8 : IsUtf8 (compact_text d) = subst IsUtf8 text vec.utf8 in
    let reads : read (compact_text d) ≡ Some d = subst (λ (t : List ℕ). read t ≡ Some d) text (vec.reads_back c.requires.flat) in
    let result = c.extend_from_slice-in_default.result in
    record {
      ok = appended result _ c.args.out.now.items _ _ c.extend_from_slice-in_default.ensures.items (ap (λ (l : List ℕ). c.args.out.now.items ++ l) (c.deref.ensures.value ∙ text));
      json = if_ok result _ (IsJson-read d utf8 reads);
    }
