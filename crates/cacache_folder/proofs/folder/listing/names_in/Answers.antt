use Rattle.std.proofs.Common.{◌∙◌, length}
use Rattle.cacache_folder.proofs.ListedFolders.{not_empty, lists_folder, lists_not}
use Rattle.cacache_folder.proofs.folder.listing.names_in.Goals as goal

pub returns-in-Ok-open_folder-clause-ran : goal.returns-in-Ok-open_folder-clause-ran
returns-in-Ok-open_folder-clause-ran g c =
    lists_folder g.Y.System.folder_number c.in-Ok-open_folder.opened c.args.path.now c.in-Ok.folder.bytes.items (λ names. names.items)
    c.names_from.result (g.Y.System.calls c.args.system.now) (g.Y.System.calls c.open_folder.new.system) (g.Y.System.calls c.names_from.new.system)
    (not_empty (length c.args.path.now) c.if-is_empty.ensures) (c.in-Ok-open_folder.ensures (c.as_str.ensures.value ∙ c.in-Ok.ensures)) c.in-Ok.ensures
    c.names_from.ensures.ran

pub returns-in-Err-open_folder-clause-ran : goal.returns-in-Err-open_folder-clause-ran
returns-in-Err-open_folder-clause-ran g c =
    lists_not g.Y.System.folder_number c.args.path.now c.in-Err-open_folder.why
    (g.Y.System.calls c.args.system.now) (g.Y.System.calls c.open_folder.new.system)
    (not_empty (length c.args.path.now) c.if-is_empty.ensures) (c.in-Err-open_folder.ensures (c.as_str.ensures.value ∙ c.in-Ok.ensures))
