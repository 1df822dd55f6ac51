use Rattle.std.proofs.{Common.{◌==◌, ◌++◌, ◌∷◌, [], lit<, length, sym, ap, ◌∙◌}, lemmas.{List.{length_push}, Iterator.{Consumers.{YieldsList-turn, YieldsList-end}, Splits.{YieldsList-from_str_split}}}}
use Rattle.std.specs.List.{list_any}
use Rattle.cacache_core.specs.Paths.{pieces, is_above, is_name}
use Rattle.cacache_disk.proofs.PathTexts.{filter_yes, filter_no, none_yet, one_passes, names_empty, names_nul, names_above, names_all, piece_proper}
use Rattle.cacache_disk.proofs.path.Path.of.Goals as goal

pub returns-then-is_empty-clause-err : goal.returns-then-is_empty-clause-err
returns-then-is_empty-clause-err c = sym (names_empty c.args.text.now (cc))

pub returns-then-contains-clause-err : goal.returns-then-contains-clause-err
returns-then-contains-clause-err c = sym (names_nul c.args.text.now (cc) (ap (list_any (λ b. b == 0)) (sym c.as_bytes.ensures.value) ∙ sym c.contains.ensures.value ∙ c.if-contains.true))

pub returns-then-is_above-clause-err : goal.returns-then-is_above-clause-err
unfolding pieces
returns-then-is_above-clause-err c =
    let turn = YieldsList-turn (YieldsList-from_str_split 47 c.args.text.now (lit< tt) (cc) (cc) (cc)) c.loop-piece.yielded _ c.loop-piece.yielded_by _ _ c.in-Some.piece c.in-Some.is c.next.ensures.steps in
    sym (names_above c.args.text.now (cc) (ap (list_any (λ b. b == 0)) (sym c.as_bytes.ensures.value) ∙ sym c.contains.ensures.value ∙ c.if-contains.false)
    (one_passes is_above (pieces c.args.text.now) (length c.loop-piece.yielded) c.in-Some.piece.now turn (cc)))

pub loop-piece-preserved-in_ok-push : goal.loop-piece-preserved-in_ok-push
unfolding pieces
loop-piece-preserved-in_ok-push c =
    let turn = YieldsList-turn (YieldsList-from_str_split 47 c.args.text.now (lit< tt) (cc) (cc) (cc)) c.loop-piece.yielded _ c.loop-piece.yielded_by _ _ c.in-Some.piece c.in-Some.is c.next.ensures.steps in
    let next = length_push c.loop-piece.yielded c.in-Some.piece in
    record {
      gathered = filter_yes is_name (pieces c.args.text.now) _ _ c.in-Some.piece.now c.loop-piece.names c.push.new.self turn next (cc) c.loop-piece.invariant.gathered (c.in_ok-push.ensures.ok ∙ ap (λ name. c.loop-piece.names ++ name ∷ []) (c.new.ensures ∙ c.in_ok-from_str.ensures));
      none_above = none_yet is_above (pieces c.args.text.now) _ _ c.in-Some.piece.now turn next (cc) c.loop-piece.invariant.none_above;
    }

pub loop-piece-preserved : goal.loop-piece-preserved
unfolding pieces
loop-piece-preserved c =
    let turn = YieldsList-turn (YieldsList-from_str_split 47 c.args.text.now (lit< tt) (cc) (cc) (cc)) c.loop-piece.yielded _ c.loop-piece.yielded_by _ _ c.in-Some.piece c.in-Some.is c.next.ensures.steps in
    let next = length_push c.loop-piece.yielded c.in-Some.piece in
    record {
      gathered = filter_no is_name (pieces c.args.text.now) _ _ c.in-Some.piece.now c.loop-piece.names turn next (cc) c.loop-piece.invariant.gathered;
      none_above = none_yet is_above (pieces c.args.text.now) _ _ c.in-Some.piece.now turn next (cc) c.loop-piece.invariant.none_above;
    }

pub returns-clause-ok : goal.returns-clause-ok
unfolding pieces
returns-clause-ok c =
    let last = YieldsList-end (YieldsList-from_str_split 47 c.args.text.now (lit< tt) (cc) (cc) (cc)) c.loop-piece.yielded _ c.loop-piece.yielded_by _ _ c.in-None.is c.next.ensures.steps in
    sym (names_all c.args.text.now c.loop-piece.names (length c.loop-piece.yielded) (cc) (ap (list_any (λ b. b == 0)) (sym c.as_bytes.ensures.value) ∙ sym c.contains.ensures.value ∙ c.if-contains.false)
    last.1 c.loop-piece.invariant.gathered c.loop-piece.invariant.none_above)

pub new-requires : goal.new-requires
unfolding pieces
new-requires c =
    let turn = YieldsList-turn (YieldsList-from_str_split 47 c.args.text.now (lit< tt) (cc) (cc) (cc)) c.loop-piece.yielded _ c.loop-piece.yielded_by _ _ c.in-Some.piece c.in-Some.is c.next.ensures.steps in
    piece_proper c.args.text.now (length c.loop-piece.yielded) c.in-Some.piece.now c.in_ok-from_str.field-0
    (ap (list_any (λ b. b == 0)) (sym c.as_bytes.ensures.value) ∙ sym c.contains.ensures.value ∙ c.if-contains.false)
    turn (cc) (cc) c.in_ok-from_str.ensures
