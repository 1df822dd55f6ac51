use Rattle.std.proofs.{Common.{◌∙◌, ◌++◌, ◌∷◌, [], Err, refl, sym, append-nil}, lemmas.List.{nil_from_length}}
use Rattle.cacache_core.specs.declared.errors.Error.TheVariants.{OutOfMemory}
use Rattle.cacache_walks.{specs.Iterating.{IsListing, item_view}, proofs.Filling.{given_one, given_last, given_fewer, all_given, same_gave}}
use Rattle.cacache_walks.proofs.iterator.LsIterator.next.Goals as goal

pub returns-in-Err-clause-goes : goal.returns-in-Err-clause-goes
returns-in-Err-clause-goes g c =
    let r = c.requires in
    let f = c.in-Err.ensures.filled r.0 r.1 r.2 r.3 in
    let can : IsListing g.S.Store.log c.fill.new.self = (r.0, r.1, r.2 ++ Err OutOfMemory ∷ [], given_last g.S.Store.log r.0 r.1 c.fill.new.self r.2 f.2 f.3 f.1) in
    record {
      on = λ finite. (can, tt, rw c.in-Err.ensures.rests.0 c.in-Err.ensures.rests.1);
      keeps = can;
      rests = λ finite. tt;
    }

pub returns-in-Some-clause-steps : goal.returns-in-Some-clause-steps
returns-in-Some-clause-steps g c = (
  λ cache old given h.
      let f = c.in_default.ensures.filled cache old given h in
      rw c.metadata_of.ensures (given_one g.S.Store.log cache old c.fill.new.self (record c.fill.new.self { ready = c.pop.new.self }) given c.in-Some.item refl refl refl c.in-Some.ensures.items f.0),
  c.in_default.ensures.keeps,
)

pub returns-in-Some-clause-goes : goal.returns-in-Some-clause-goes
returns-in-Some-clause-goes g c =
    let r = c.requires in
    let f = c.in_default.ensures.filled r.0 r.1 r.2 r.3 in
    let can : IsListing g.S.Store.log (record c.fill.new.self { ready = c.pop.new.self }) = (r.0, r.1, r.2 ++ item_view c.metadata_of.result ∷ [], rw c.metadata_of.ensures (given_one g.S.Store.log r.0 r.1 c.fill.new.self (record c.fill.new.self { ready = c.pop.new.self }) r.2 c.in-Some.item refl refl refl c.in-Some.ensures.items f.0)) in
    record {
      on = λ finite. (can, tt, given_fewer c.fill.new.self (record c.fill.new.self { ready = c.pop.new.self }) c.in-Some.item _ refl refl c.in-Some.ensures.items c.in_default.ensures.fewer);
      keeps = can;
      rests = λ finite. tt;
    }

pub returns-in-None-clause-steps : goal.returns-in-None-clause-steps
returns-in-None-clause-steps g c =
    let none = nil_from_length c.fill.new.self.ready.items (sym c.fill.new.self.ready.ok.0 ∙ c.in-None.ensures.cases.0) in (
      λ cache old given h.
          let f = c.in_default.ensures.filled cache old given h in (
            all_given g.S.Store.log cache old c.fill.new.self given (f.1 none) none f.0,
            same_gave g.S.Store.log cache old c.fill.new.self (record c.fill.new.self { ready = c.pop.new.self }) given refl refl refl (sym (c.in-None.ensures.items ∙ append-nil c.pop.new.self.items)) f.0,
          ),
      c.in_default.ensures.keeps,
    )
