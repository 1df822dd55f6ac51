use Rattle.std.proofs.Common.{◌≡◌, ◌∙◌, List, sym, ap}
use Rattle.cacache_core.specs.{declared.integrity.digest.Hash.{Hash}, Matching.{lists}}
use Rattle.cacache_core.proofs.{Order.{once_more, with_there, with_new}, integrity.whole.making.push_new.Goals.{then-not-contains+in_ok-clone+in_ok-push, else-not-contains}}
use Rattle.cacache_core.proofs.integrity.whole.making.push_new.Goals as goal

pub loop-hash-preserved : goal.loop-hash-preserved
loop-hash-preserved c =
    let kept = c.loop-hash.kept.items in
    let h = c.hash-item.result in
    let more = once_more c.args.kept.now.items c.args.hashes.now kept c.loop-hash.hash-index h c.loop-hash-test.true c.hash-item.is c.loop-hash.invariant in
    let asked : lists kept h ≡ c.contains.result = ap (λ (l : List Hash). lists l h) (sym c.deref.ensures.value) ∙ sym c.contains.ensures.value in
    elim c.if-not-contains.branch [
      | then-not-contains+in_ok-clone+in_ok-push w ↦
          let push = w.in_ok-push.ensures.items in
          rw w.kept-is (with_new kept _ _ h w.in_ok-clone.field-0 (asked ∙ w.if-not-contains.true) push w.in_ok-clone.ensures.cases more)
      | else-not-contains w ↦ rw w.kept-is (with_there kept _ h (asked ∙ w.if-not-contains.false) more)
    ]
