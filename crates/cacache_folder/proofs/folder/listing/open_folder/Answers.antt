use Rattle.std.proofs.Common.{sym, ap, ◌∙◌}
use Rattle.std_io.specs.IoError.{error_kind}
use Rattle.cacache_system.specs.CallsOf.{is_no_folder}
use Rattle.cacache_folder.proofs.ListedFolders.{led_opens}
use Rattle.cacache_folder.proofs.folder.listing.open_folder.Goals as goal

pub returns-then-is_no_folder : goal.returns-then-is_no_folder
returns-then-is_no_folder g c =
    λ at. led_opens g.Y.System.folder_number c.args.path.now (error_kind c.in-Err.error) c.open_led.result (g.Y.System.calls c.args.system.now)
    (g.Y.System.calls c.open_folder.new.self) (g.Y.System.calls c.open_led.new.system) c.in-Err.ensures
    (sym (ap is_no_folder c.kind.ensures) ∙ sym c.is_no_folder.ensures ∙ c.if-is_no_folder.true) (c.open_led.ensures c.args.path.now at)
