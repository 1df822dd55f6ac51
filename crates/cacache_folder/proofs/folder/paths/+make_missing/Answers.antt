use Rattle.std.{proofs.Common.{◌≡◌, true, false, ◌∷◌, sym, ap, ◌∙◌}, specs.Prelude.{None, Some}}
use Rattle.std_io.specs.IoError.{error_kind}
use Rattle.cacache_system.specs.declared.call.CallResult.TheVariants as says
use Rattle.cacache_system.specs.CallsOf.{over, making, below, is_absent}
use Rattle.cacache_folder.{specs.Goings.{made, onward}, proofs.{CallRuns.{calls_as, calls_on}, Making.{made_again, made_climbs, made_fails}}}
use Rattle.cacache_folder.proofs.folder.paths.+make_missing.Goals as goal

pub returns-in-None : goal.returns-in-None
returns-in-None g t c =
    λ todo.
    let path = c.args.path.now in
    let why = error_kind c.in-Err.error in
    let absent : is_absent why ≡ true = sym (ap is_absent c.kind.ensures) ∙ sym c.is_absent.ensures ∙ c.if-is_absent.true in
    calls_as (making false path todo) _ (over (says.Failed why))
    (g.Y.System.calls c.args.system.now) (g.Y.System.calls c.make_dir.new.system)
    (c.in-Err.ensures false todo) (made_climbs path todo why None absent c.in-None.ensures.value)

pub returns-in-Ok-make_missing : goal.returns-in-Ok-make_missing
returns-in-Ok-make_missing g t c =
    λ todo.
    let path = c.args.path.now in
    let upper = c.in-Some.upper.now in
    let why = error_kind c.in-Err.error in
    let last = c.make_dir-in-Ok-make_missing.result in
    let old = g.Y.System.calls c.args.system.now in
    let mid = g.Y.System.calls c.make_dir.new.system in
    let next = g.Y.System.calls c.make_missing.new.system in
    let new = g.Y.System.calls c.make_dir-in-Ok-make_missing.new.system in
    let absent : is_absent why ≡ true = sym (ap is_absent c.kind.ensures) ∙ sym c.is_absent.ensures ∙ c.if-is_absent.true in
    let climbs = calls_as (making false path todo) _ (making false upper (path ∷ todo)) old mid
    (c.in-Err.ensures false todo) (made_climbs path todo why (Some upper) absent c.in-Some.ensures.value) in
    let above = calls_on (making false path todo) (making false upper (path ∷ todo)) (making true path todo) old mid next climbs (c.in-Ok-make_missing.ensures (path ∷ todo)) in
    calls_as (making false path todo) (made true path todo last) (onward (λ _. below todo) last) old new
    (calls_on (making false path todo) (making true path todo) (made true path todo last) old next new above (c.make_dir-in-Ok-make_missing.ensures true todo))
    (made_again path todo last)

pub returns-in-Err-make_missing : goal.returns-in-Err-make_missing
returns-in-Err-make_missing g t c =
    λ todo.
    let path = c.args.path.now in
    let upper = c.in-Some.upper.now in
    let why = error_kind c.in-Err.error in
    let old = g.Y.System.calls c.args.system.now in
    let mid = g.Y.System.calls c.make_dir.new.system in
    let new = g.Y.System.calls c.make_missing.new.system in
    let absent : is_absent why ≡ true = sym (ap is_absent c.kind.ensures) ∙ sym c.is_absent.ensures ∙ c.if-is_absent.true in
    let climbs = calls_as (making false path todo) _ (making false upper (path ∷ todo)) old mid
    (c.in-Err.ensures false todo) (made_climbs path todo why (Some upper) absent c.in-Some.ensures.value) in
    calls_on (making false path todo) (making false upper (path ∷ todo)) (over (says.Failed (error_kind c.in-Err-make_missing.other))) old mid new
    climbs (c.in-Err-make_missing.ensures (path ∷ todo))

pub returns-else-is_absent : goal.returns-else-is_absent
returns-else-is_absent g t c =
    λ todo.
    let path = c.args.path.now in
    let why = error_kind c.in-Err.error in
    let never : is_absent why ≡ false = sym (ap is_absent c.kind.ensures) ∙ sym c.is_absent.ensures ∙ c.if-is_absent.false in
    calls_as (making false path todo) _ (over (says.Failed why))
    (g.Y.System.calls c.args.system.now) (g.Y.System.calls c.make_dir.new.system)
    (c.in-Err.ensures false todo) (made_fails path todo why never)
