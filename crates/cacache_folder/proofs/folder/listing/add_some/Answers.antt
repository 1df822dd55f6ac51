use Rattle.std.{proofs.Common.{◌∙◌, take, length, refl, sym, subst}, specs.Prelude.{Err}}
use Rattle.std_io.specs.declared.io.kind.ErrorKind.{ErrorKind}
use Rattle.cacache_system.specs.declared.call.CallResult.TheVariants as says
use Rattle.cacache_folder.{specs.{Goings.{Insists}, Listings.{ReadsNames}}, proofs.ListedFolders.{reads_none, reads_some, reads_stops, reads_fails}}
use Rattle.cacache_system.specs.declared.call.SystemCall.TheVariants.{ReadNames}
use Rattle.cacache_folder.proofs.folder.listing.add_some.Goals as goal

pub returns-then-count-eq0-clause-ran : goal.returns-then-count-eq0-clause-ran
returns-then-count-eq0-clause-ran g c =
    reads_none (g.Y.System.folder_number c.args.open.now) (length c.args.buf.now) c.args.folder.now.items (take c.in-Ok.count c.ask_for_names.new.buf)
    c.args.names.now.items (g.Y.System.calls c.args.system.now) (g.Y.System.calls c.ask_for_names.new.system) c.in-Ok.ensures.made c.requires
    (sym c.in-Ok.ensures.bound.1 ∙ c.if-count-eq0.true)

pub returns-in-Ok-add_all-clause-ran : goal.returns-in-Ok-add_all-clause-ran
returns-in-Ok-add_all-clause-ran g c =
    reads_some (g.Y.System.folder_number c.args.open.now) (length c.args.buf.now) c.args.folder.now.items (take c.in-Ok.count c.ask_for_names.new.buf) _
    c.args.names.now.items c.add_all.new.names.items tt (g.Y.System.calls c.args.system.now) (g.Y.System.calls c.ask_for_names.new.system)
    (g.Y.System.calls c.add_all.new.system) c.in-Ok.ensures.made c.requires (λ none. c.if-count-eq0.false (c.in-Ok.ensures.bound.1 ∙ none)) refl
    c.in-Ok-add_all.ensures.ran

pub returns-in-Err-add_all-clause-ran : goal.returns-in-Err-add_all-clause-ran
returns-in-Err-add_all-clause-ran g c =
    reads_stops (g.Y.System.folder_number c.args.open.now) (length c.args.buf.now) c.args.folder.now.items (take c.in-Ok.count c.ask_for_names.new.buf) _
    c.args.names.now.items c.add_all.new.names.items c.in-Err-add_all.why (g.Y.System.calls c.args.system.now)
    (g.Y.System.calls c.ask_for_names.new.system) (g.Y.System.calls c.add_all.new.system) c.in-Ok.ensures.made c.requires
    (λ none. c.if-count-eq0.false (c.in-Ok.ensures.bound.1 ∙ none)) refl c.in-Err-add_all.ensures.ran

pub returns-in-Err-clause-ran : goal.returns-in-Err-clause-ran
returns-in-Err-clause-ran g c =
    subst (λ (k : ErrorKind). ReadsNames (g.Y.System.folder_number c.args.open.now) c.args.folder.now.items c.args.names.now.items
    c.args.names.now.items (Err k) (g.Y.System.calls c.args.system.now) (g.Y.System.calls c.ask_for_names.new.system)) (sym c.broken_off.ensures)
    (reads_fails (g.Y.System.folder_number c.args.open.now) (length c.args.buf.now) c.args.folder.now.items c.args.names.now.items
    c.args.names.now.items c.kind.result (g.Y.System.calls c.args.system.now) (g.Y.System.calls c.ask_for_names.new.system)
    (subst (λ why. Insists (ReadNames (g.Y.System.folder_number c.args.open.now) (length c.args.buf.now)) (says.Failed why) (g.Y.System.calls c.args.system.now)
    (g.Y.System.calls c.ask_for_names.new.system)) (sym c.kind.ensures) c.in-Err.ensures.made) c.requires)
