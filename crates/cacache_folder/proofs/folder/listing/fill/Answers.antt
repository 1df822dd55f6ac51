use Rattle.std.proofs.Common.{◌∙◌, ◌-◌, ◌^◌, refl}
use Rattle.cacache_system.specs.CallsOf.{more_names}
use Rattle.cacache_folder.{specs.Listings.{reader_of}, proofs.ListedFolders.{fills_more, fills_last, fills_fails, fills_over}}
use Rattle.cacache_folder.proofs.folder.listing.fill.Goals as goal

pub loop-left-preserved : goal.loop-left-preserved
loop-left-preserved g c = record {
  room = c.in-Ok-true.ensures.room;
  number = c.in-Ok-true.ensures.number ∙ c.loop-left.invariant.number;
  proper = λ before. c.in-Ok-true.ensures.proper (c.loop-left.invariant.proper before);
  same = c.in-Ok-true.ensures.same ∙ c.loop-left.invariant.same;
  ran = fills_more (more_names (reader_of (g.Y.System.folder_number c.args.open.now) c.args.folder.now.items (2 ^ 64 - 1)) c.args.names.now.items)
      c.in-Ok-true.field-0 (g.Y.System.folder_number c.args.open.now) (g.Y.System.folder_number c.loop-left.open) c.loop-left.left (c.loop-left.left - 1)
      c.args.folder.now.items c.loop-left.folder.items c.loop-left.names.items c.add_some.new.names.items
      (g.Y.System.calls c.args.system.now) (g.Y.System.calls c.loop-left.system) (g.Y.System.calls c.add_some.new.system)
      c.loop-left.invariant.ran c.loop-left-test.true c.loop-left.invariant.number c.loop-left.invariant.same refl c.in-Ok-true.ensures.ran
      c.in-Ok-true.field-0-test;
}

pub returns-in-Ok-false-clause-ran : goal.returns-in-Ok-false-clause-ran
returns-in-Ok-false-clause-ran g c =
    fills_last (more_names (reader_of (g.Y.System.folder_number c.args.open.now) c.args.folder.now.items (2 ^ 64 - 1)) c.args.names.now.items)
    c.in-Ok-false.field-0 (g.Y.System.folder_number c.args.open.now) (g.Y.System.folder_number c.loop-left.open) c.loop-left.left
    c.args.folder.now.items c.loop-left.folder.items c.loop-left.names.items c.add_some.new.names.items
    (g.Y.System.calls c.args.system.now) (g.Y.System.calls c.loop-left.system) (g.Y.System.calls c.add_some.new.system)
    c.loop-left.invariant.ran c.loop-left-test.true c.loop-left.invariant.number c.loop-left.invariant.same c.in-Ok-false.ensures.ran
    c.in-Ok-false.field-0-test

pub returns-in-Err-clause-ran : goal.returns-in-Err-clause-ran
returns-in-Err-clause-ran g c =
    fills_fails (more_names (reader_of (g.Y.System.folder_number c.args.open.now) c.args.folder.now.items (2 ^ 64 - 1)) c.args.names.now.items)
    (g.Y.System.folder_number c.args.open.now) (g.Y.System.folder_number c.loop-left.open) c.loop-left.left
    c.args.folder.now.items c.loop-left.folder.items c.loop-left.names.items c.add_some.new.names.items c.in-Err.why
    (g.Y.System.calls c.args.system.now) (g.Y.System.calls c.loop-left.system) (g.Y.System.calls c.add_some.new.system)
    c.loop-left.invariant.ran c.loop-left-test.true c.loop-left.invariant.number c.loop-left.invariant.same c.in-Err.ensures.ran

pub returns-clause-ran : goal.returns-clause-ran
returns-clause-ran g c =
    fills_over (more_names (reader_of (g.Y.System.folder_number c.args.open.now) c.args.folder.now.items (2 ^ 64 - 1)) c.args.names.now.items)
    (g.Y.System.folder_number c.args.open.now) c.loop-left.left c.args.folder.now.items c.loop-left.names.items
    (g.Y.System.calls c.args.system.now) (g.Y.System.calls c.loop-left.system) c.loop-left.invariant.ran c.loop-left-test.false
