use Rattle.std.{proofs.Common.{◌≡◌, true, false, if◌then◌else◌, sym, ap, ◌∙◌}, specs.Prelude.{Some}}
use Rattle.std_io.specs.IoError.{error_kind}
use Rattle.cacache_system.specs.declared.call.SystemCall.TheVariants as asks
use Rattle.cacache_system.specs.declared.call.CallResult.TheVariants as says
use Rattle.cacache_system.specs.CallsOf.{over, asking_kind, next_name, is_absent}
use Rattle.cacache_folder.proofs.Listings.{leads_as, leads_call, fails_call}
use Rattle.cacache_folder.proofs.folder.entries.kind_at.Goals as goal

pub returns-in-Ok : goal.returns-in-Ok
returns-in-Ok g c =
    λ r name names found at. leads_call (asking_kind r name names found) (asks.StatLink c.args.path.now) (says.Info c.in-Ok.info)
    (g.Y.System.calls c.args.system.now) (g.Y.System.calls c.stat_link.new.self) c.in-Ok.ensures (ap (λ path. Some (asks.StatLink path)) (sym at))

pub returns-then-is_absent : goal.returns-then-is_absent
returns-then-is_absent g c =
    let why = error_kind c.in-Err.error in
    let absent : is_absent why ≡ true = sym (ap is_absent c.kind.ensures) ∙ sym c.is_absent.ensures ∙ c.if-is_absent.true in
    λ r name names found at. leads_as (asking_kind r name names found) (if is_absent why then next_name r names found else over (says.Failed why)) (next_name r names found)
    (g.Y.System.calls c.args.system.now) (g.Y.System.calls c.stat_link.new.self)
    (leads_call (asking_kind r name names found) (asks.StatLink c.args.path.now) (says.Failed why)
    (g.Y.System.calls c.args.system.now) (g.Y.System.calls c.stat_link.new.self) c.in-Err.ensures (ap (λ path. Some (asks.StatLink path)) (sym at)))
    (ap (λ is. if is then next_name r names found else over (says.Failed why)) absent)

pub returns-else-is_absent : goal.returns-else-is_absent
returns-else-is_absent g c =
    let why = error_kind c.in-Err.error in
    let stands : is_absent why ≡ false = sym (ap is_absent c.kind.ensures) ∙ sym c.is_absent.ensures ∙ c.if-is_absent.false in
    λ r name names found at. fails_call (asking_kind r name names found) (asks.StatLink c.args.path.now) (says.Failed why) c.kind-else-is_absent.result
    (g.Y.System.calls c.args.system.now) (g.Y.System.calls c.stat_link.new.self) c.in-Err.ensures (ap (λ path. Some (asks.StatLink path)) (sym at))
    (ap (λ is. if is then next_name r names found else over (says.Failed why)) stands ∙ ap (λ told. over (says.Failed told)) (sym c.kind-else-is_absent.ensures))
