use Rattle.std.proofs.Common.{List, ap, option_map, string_bytes, subst, sym, cond, bytes_eq, true, ℕ, ◌≡◌, ◌∷◌, ◌∙◌}
use Rattle.cacache_keep.specs.Lines.{decision_view, has_key, in_order, line_view}
use Rattle.cacache_keep.proofs.{NewBuckets.LineLoops.{Noted, has_after, in_order_more, noted_last, noted_odd}, lines.note.Goals.{in-Some+else-contains_key+in_ok-insert, in_default}}
use Rattle.cacache_keep.proofs.lines.note.Goals as goal

pub returns : goal.returns
returns c = λ later has so_far.
    let line = c.args.line.now in
    let met = c.args.last.now.items in
    let old = c.args.keys.now in
    let new = c.match-line.keys in
    let pushed : in_order c.push.new.self.items ≡ line_view line ∷ in_order met = ap in_order c.in_ok-push.ensures.items ∙ in_order_more met c.args.line in
    let noted : Noted old new later met has so_far line.text.items (option_map decision_view line.decided) (option_map decision_view line.decided) = elim c.match-line.branch [
      | in-Some+else-contains_key+in_ok-insert w ↦
          let d = w.in-Some.decided in
          let own = string_bytes d.entry.key in
          let text = w.as_str-key.result.now in
          noted_last old new later met has so_far line.text.items (option_map decision_view line.decided) (decision_view d) (ap (option_map decision_view) w.in-Some.is)
          (ap (has_key old) (sym w.as_str-key.ensures.value) ∙ sym w.contains_key.ensures ∙ w.if-contains_key.false)
          (subst (λ m. (key : List ℕ) → has_key m key ≡ cond (bytes_eq own key) true (has_key old key)) (sym w.keys-is)
          (has_after old w.insert.new.self own text tt w.as_str-key.ensures.value w.in_ok-insert.ensures.updates))
      | in_default w ↦ noted_odd old new later met has so_far line.text.items (option_map decision_view line.decided) (ap (option_map decision_view) w.in_default.is) w.keys-is
    ] in
    (noted.0, pushed ∙ noted.1)
