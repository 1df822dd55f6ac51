use Rattle.std.proofs.{Common.{◌==◌, ◌++◌, ◌∷◌, [], lit<, length, sym, ap, ◌∙◌}, lemmas.{List.{length_push}, Iterator.{Consumers.{YieldsList-turn, YieldsList-end}, Splits.{YieldsList-from_str_split}}}}
use Rattle.std.specs.List.{list_any}
use Rattle.cacache_core.specs.Paths.{pieces, is_above, is_name}
use Rattle.cacache_disk.proofs.PathTexts.{filter_yes, filter_no, none_yet, one_passes}
use Rattle.cacache_world.proofs.NamesOfPaths.{home_nul, home_above, home_all}
use Rattle.cacache_world.proofs.names.home_names.Goals as goal

pub returns-then-contains : goal.returns-then-contains
returns-then-contains c = home_nul c.args.text.now (ap (list_any (λ b. b == 0)) (sym c.as_bytes.ensures.value) ∙ sym c.contains.ensures.value ∙ c.if-contains.true)

pub returns-then-is_above : goal.returns-then-is_above
unfolding pieces
returns-then-is_above c =
    let turn = YieldsList-turn (YieldsList-from_str_split 47 c.args.text.now (lit< tt) (cc) (cc) (cc)) c.loop-piece.yielded _ c.loop-piece.yielded_by _ _ c.in-Some.piece c.in-Some.is c.next.ensures.steps in
    home_above c.args.text.now (ap (list_any (λ b. b == 0)) (sym c.as_bytes.ensures.value) ∙ sym c.contains.ensures.value ∙ c.if-contains.false)
    (one_passes is_above (pieces c.args.text.now) (length c.loop-piece.yielded) c.in-Some.piece.now turn (cc))

pub loop-piece-preserved-in_ok-push : goal.loop-piece-preserved-in_ok-push
unfolding pieces
loop-piece-preserved-in_ok-push c =
    let turn = YieldsList-turn (YieldsList-from_str_split 47 c.args.text.now (lit< tt) (cc) (cc) (cc)) c.loop-piece.yielded _ c.loop-piece.yielded_by _ _ c.in-Some.piece c.in-Some.is c.next.ensures.steps in
    let next = length_push c.loop-piece.yielded c.in-Some.piece in
    record {
      gathered = filter_yes is_name (pieces c.args.text.now) _ _ c.in-Some.piece.now c.loop-piece.names.items c.push.new.self.items turn next (cc) c.loop-piece.invariant.gathered
          (c.in_ok-push.ensures.items ∙ ap (λ name. c.loop-piece.names.items ++ name ∷ []) c.in_ok-from_str.ensures);
      none_above = none_yet is_above (pieces c.args.text.now) _ _ c.in-Some.piece.now turn next (cc) c.loop-piece.invariant.none_above;
    }

pub loop-piece-preserved : goal.loop-piece-preserved
unfolding pieces
loop-piece-preserved c =
    let turn = YieldsList-turn (YieldsList-from_str_split 47 c.args.text.now (lit< tt) (cc) (cc) (cc)) c.loop-piece.yielded _ c.loop-piece.yielded_by _ _ c.in-Some.piece c.in-Some.is c.next.ensures.steps in
    let next = length_push c.loop-piece.yielded c.in-Some.piece in
    record {
      gathered = filter_no is_name (pieces c.args.text.now) _ _ c.in-Some.piece.now c.loop-piece.names.items turn next (cc) c.loop-piece.invariant.gathered;
      none_above = none_yet is_above (pieces c.args.text.now) _ _ c.in-Some.piece.now turn next (cc) c.loop-piece.invariant.none_above;
    }

pub returns : goal.returns
unfolding pieces
returns c =
    let last = YieldsList-end (YieldsList-from_str_split 47 c.args.text.now (lit< tt) (cc) (cc) (cc)) c.loop-piece.yielded _ c.loop-piece.yielded_by _ _ c.in-None.is c.next.ensures.steps in
    home_all c.args.text.now c.loop-piece.names.items (length c.loop-piece.yielded) (ap (list_any (λ b. b == 0)) (sym c.as_bytes.ensures.value) ∙ sym c.contains.ensures.value ∙ c.if-contains.false)
    last.1 c.loop-piece.invariant.gathered c.loop-piece.invariant.none_above
