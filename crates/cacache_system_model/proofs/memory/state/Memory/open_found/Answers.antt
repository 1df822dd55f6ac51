use Rattle.std.{proofs.Common.{◌∙◌, ap, sym}, specs.Option.{option_copied}}
use Rattle.cacache_disk.specs.LedTo.{found}
use Rattle.cacache_system_model.{specs.memory.Files.{Opens}, proofs.memory.{Displacing.{failed_as}, Places.{found_bad}, Openings.{opens_bad, opens_found}}}
use Rattle.cacache_system_model.proofs.memory.state.Memory.open_found.Goals as goal

pub returns-in_err-names : goal.returns-in_err-names
returns-in_err-names c =
    failed_as (λ r. Opens (found c.args.self.now.disk c.args.path.now) (λ names. c.args.self.now.disk) c.args.self.now r c.args.self.now) c.from_residual.result c.in_err-names.field-0.0 c.from_residual.ensures.1
    (opens_bad (found c.args.self.now.disk c.args.path.now) (λ names. c.args.self.now.disk) c.args.self.now c.in_err-names.field-0.0 (found_bad c.args.self.now.disk c.args.path.now c.in_err-names.field-0.0 c.in_err-names.ensures.err))

pub returns-in-Some : goal.returns-in-Some
returns-in-Some c =
    opens_found c.args.path.now c.in_ok-names.names c.in-Some.field-0.now c.args.self.now c.open.new.self c.open.result c.in_ok-names.ensures.ok
    (ap option_copied (sym c.in-Some.is) ∙ c.in_ok-names.ensures.node) c.open.ensures
