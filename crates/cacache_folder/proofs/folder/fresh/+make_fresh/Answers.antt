use Rattle.std.{proofs.Common.{◌≡◌, true, sym, ap, subst, ◌∙◌}, specs.Prelude.{Some}}
use Rattle.std_io.specs.IoError.{error_kind}
use Rattle.cacache_system.specs.declared.call.SystemCall.TheVariants as asks
use Rattle.cacache_system.specs.declared.call.CallResult.TheVariants as says
use Rattle.cacache_system.specs.CallsOf as calls
use Rattle.cacache_folder.{proofs.Making.{goes_call, taken_next}, specs.Goings.{GoesOrEnds}}
use Rattle.cacache_folder.proofs.folder.fresh.+make_fresh.Goals as goal

pub returns-then-already_exists : goal.returns-then-already_exists
returns-then-already_exists g t c =
    λ from.
    let left = c.args.left in
    let number = c.args.number in
    let path = c.args.path.now in
    let why = error_kind c.in-Err.error in
    let mid = g.Y.System.calls c.create_new.new.self in
    let new = g.Y.System.calls c.make_fresh.new.system in
    let taken : calls.already_exists why ≡ true = sym (ap calls.already_exists c.kind.ensures) ∙ sym c.already_exists.ensures ∙ c.if-already_exists.true in
    let named : c.as_str.result.now ≡ calls.fresh_beside path (calls.fresh_number left number) = c.as_str.ensures.same ∙ c.in-Ok.ensures in
    goes_call (calls.taking_memory (calls.making_fresh left number from path)) (λ fresh. calls.filling from fresh path) (asks.CreateNew c.as_str.result.now 384) (says.Failed why) c.make_fresh.result
    (g.Y.System.calls c.args.system.now) mid new c.in-Err.ensures (ap (λ p. Some (asks.CreateNew p 384)) (sym named))
    (subst (λ s. GoesOrEnds s (λ fresh. calls.filling from fresh path) c.make_fresh.result mid new) (taken_next left number why from path c.if-left-gt0.true taken) (c.make_fresh.ensures from))
