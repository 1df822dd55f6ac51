use Rattle.std.proofs.{Common.{◌+◌, Some, None, option_map, sym, ap, ◌∙◌, arith, length-take}, lemmas.List.{take_rest}}
use Rattle.cacache_entry.{specs.View.{found_view}, proofs.Lookups.{latest-last, latest-alone, pieces_read-last, pieces_read-alone}}
use Rattle.cacache_entry.proofs.search.latest.Goals as goal

pub returns-in-Some-2-clause-found : goal.returns-in-Some-2-clause-found
returns-in-Some-2-clause-found c =
    let rest = c.loop-at.rest.now in
    let at = c.in-Some.at in
    let said = ap (option_map (option_map found_view)) (sym c.in-Some-2.is) ∙ c.in_ok-found.ensures.answer in
    latest-last c.args.key.now rest _ at (Some (option_map found_view c.in-Some-2.found)) c.in-Some.ensures (take_rest rest (at + 1)) said ∙ c.loop-at.invariant.value

pub returns-in-Some-2-clause-pieces : goal.returns-in-Some-2-clause-pieces
returns-in-Some-2-clause-pieces c =
    let rest = c.loop-at.rest.now in
    let at = c.in-Some.at in
    let said = ap (option_map (option_map found_view)) (sym c.in-Some-2.is) ∙ c.in_ok-found.ensures.answer in
    let read = pieces_read-last c.args.key.now rest _ at (Some (option_map found_view c.in-Some-2.found)) c.in-Some.ensures (take_rest rest (at + 1)) said in
    omega (arith, read, c.loop-at.invariant.count, c.in_ok-found.ensures.pieces)

pub loop-at-preserved : goal.loop-at-preserved
loop-at-preserved c =
    let rest = c.loop-at.rest.now in
    let at = c.in-Some.at in
    let said = ap (option_map (option_map found_view)) (sym c.in_default-2.is) ∙ c.in_ok-found.ensures.answer in
    let read = pieces_read-last c.args.key.now rest _ at None c.in-Some.ensures (take_rest rest (at + 1)) said in
    record {
      within = omega (arith, length-take at rest, c.in-Some.ensures.0.high, c.loop-at.invariant.within);
      value = latest-last c.args.key.now rest _ at None c.in-Some.ensures (take_rest rest (at + 1)) said ∙ c.loop-at.invariant.value;
      count = omega (arith, read, c.loop-at.invariant.count);
    }

pub returns-clause-found : goal.returns-clause-found
returns-clause-found c =
    ap (option_map found_view) c.flatten-found.ensures ∙ latest-alone found_view c.args.key.now c.loop-at.rest.now _ c.in_default.ensures c.in_ok-piece_answer.ensures.answer ∙ c.loop-at.invariant.value

pub returns-clause-pieces : goal.returns-clause-pieces
returns-clause-pieces c = omega (arith, pieces_read-alone c.args.key.now c.loop-at.rest.now c.in_default.ensures, c.loop-at.invariant.count)
