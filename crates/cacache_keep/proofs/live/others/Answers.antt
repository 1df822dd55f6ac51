use Rattle.std.proofs.Common.{◌++◌, ◌∷◌, [], List, true, false, sym, subst}
use Rattle.cacache_core.specs.declared.integrity.digest.Hash.{Hash}
use Rattle.cacache_keep.{specs.Calls.{AreOthers}, proofs.Collections.Searching.{among_so, live_passed, other_taken}}
use Rattle.cacache_keep.proofs.live.others.Goals as goal

pub loop-sri-preserved-in-Continue-1 : goal.loop-sri-preserved-in-Continue-1
loop-sri-preserved-in-Continue-1 c =
    let none = among_so c.args.live.now c.in-Some.sri c.address.result.now c.is_live.result false c.address.ensures.address c.is_live.ensures c.if-not-is_live.true in
    let more = other_taken c.args.live.now c.loop-sri.yielded c.loop-sri.unused.items c.in-Some.sri c.loop-sri.invariant none in
    subst (λ (l : List (List Hash)). AreOthers c.args.live.now (c.loop-sri.yielded ++ c.in-Some.sri ∷ []) l) (sym c.in_ok-push.ensures.items) more

pub loop-sri-preserved : goal.loop-sri-preserved
loop-sri-preserved c =
    let among = among_so c.args.live.now c.in-Some.sri c.address.result.now c.is_live.result true c.address.ensures.address c.is_live.ensures c.if-not-is_live.false in
    live_passed c.args.live.now c.loop-sri.yielded c.loop-sri.unused.items c.in-Some.sri c.loop-sri.invariant among
