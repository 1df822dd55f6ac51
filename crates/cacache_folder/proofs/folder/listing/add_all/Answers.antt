use Rattle.std.proofs.Common.{◌≡◌, ◌∙◌, rules, length}
use Rattle.cacache_system.specs.{CallsOf.{next_name}, Seen.{names_in}}
use Rattle.cacache_folder.proofs.Entries.{lists_more, lists_fails, lists_all}
use Rattle.cacache_folder.proofs.folder.listing.add_all.Goals as goal

pub returns-in-Err-clause-ran : goal.returns-in-Err-clause-ran
returns-in-Err-clause-ran g c =
    λ r at. lists_fails (next_name r (names_in c.args.read.now) c.args.names.now.items) r c.names.folder.items c.names.rest.now
    c.first_name.result.0.now c.first_name.result.1.now c.names.names.items c.add.new.names.items c.in-Err.why
    (g.Y.System.calls c.args.system.now) (g.Y.System.calls c.names.system) (g.Y.System.calls c.add.new.system)
    (c.names.invariant.ran r at) c.first_name.ensures.cut c.in-Err.ensures.ran (c.names.invariant.same ∙ at)

pub names-preserved : goal.names-preserved
names-preserved g c = record {
  proper = λ before. c.in-Ok.ensures.proper (c.names.invariant.proper before);
  same = c.in-Ok.ensures.same ∙ c.names.invariant.same;
  ran = λ r at. lists_more (next_name r (names_in c.args.read.now) c.args.names.now.items) r c.names.folder.items c.names.rest.now
      c.first_name.result.0.now c.first_name.result.1.now c.names.names.items c.add.new.names.items tt
      (g.Y.System.calls c.args.system.now) (g.Y.System.calls c.names.system) (g.Y.System.calls c.add.new.system)
      (c.names.invariant.ran r at) c.first_name.ensures.cut c.in-Ok.ensures.ran (c.names.invariant.same ∙ at);
}

pub returns-clause-ran : goal.returns-clause-ran
returns-clause-ran g c =
    let none : length c.names.rest.now ≡ 0 = search rules in
    λ r at. lists_all (next_name r (names_in c.args.read.now) c.args.names.now.items) r c.names.rest.now c.names.names.items
    (g.Y.System.calls c.args.system.now) (g.Y.System.calls c.names.system) (c.names.invariant.ran r at) none
