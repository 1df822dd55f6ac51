use Rattle.std.proofs.Common.{Ok, Err, subst}
use Rattle.cacache.specs.{Histories.{IsStanding, LeftRead, LeftWritten}, Integrities.{Sha256}}
use Rattle.uses_worlds.{specs.Losses.{GivesWritten, GoesOn}, proofs.Losses.{before_here, first_failed, second_failed, since_here, told_on, write_failed}}
use Rattle.uses_worlds.proofs.losing.goes_on.Goals as goal

-- memory was refused before the write
pub returns-in_err-env : goal.returns-in_err-env
returns-in_err-env g c =
    let h = c.args.world.now in
    let e = c.in_err-env.field-0.0 in
    let r = c.from_residual.result in
    record {
      since = told_on (GivesWritten c.args.data.now) r e c.from_residual.ensures.1 tt;
      before = told_on (GoesOn h c.args.loss.now c.args.written.now c.args.key.now) r e c.from_residual.ensures.1 (λ folder p home put keyed none last differ ready. c.in_err-env.ensures.memory);
    }

pub returns-in_err-write_left : goal.returns-in_err-write_left
returns-in_err-write_left g c =
    let h = c.args.world.now in
    let written = c.args.written.now in
    let added = c.args.data.now in
    let old = c.in_ok-env.env.store in
    let late = c.write_left.new.env.store in
    let e = c.in_err-write_left.field-0.0 in
    let r = c.from_residual-in_err-write_left.result in
    let same = c.from_residual-in_err-write_left.ensures.1 in
    let write = subst (λ cache. IsStanding cache old → LeftWritten Sha256 cache written added (Err e) old late) c.cache-cache.ensures c.in_err-write_left.ensures in
    record {
      since = told_on (GivesWritten added) r e same tt;
      before = told_on (GoesOn h c.args.loss.now written c.args.key.now) r e same
          (write_failed h c.args.loss.now written added c.args.key.now old late c.stands.ensures.durable c.loss_results.ensures.stands c.in_ok-env.ensures.tree e write);
    }

pub returns-in_err-since : goal.returns-in_err-since
returns-in_err-since g c =
    let h = c.args.world.now in
    let written = c.args.written.now in
    let added = c.args.data.now in
    let old = c.in_ok-env.env.store in
    let late = c.write_left.new.env.store in
    let read = c.read_left.new.env.store in
    let i = c.in_ok-write_left.field-0 in
    let e = c.in_err-since.field-0.0 in
    let r = c.from_residual-in_err-since.result in
    let same = c.from_residual-in_err-since.ensures.1 in
    let write = subst (λ cache. IsStanding cache old → LeftWritten Sha256 cache written added (Ok i) old late) c.cache-cache.ensures c.in_ok-write_left.ensures in
    let first = subst (λ cache. IsStanding cache late → LeftRead cache written (Err e) late read) c.cache-cache.ensures c.in_err-since.ensures in
    record {
      since = told_on (GivesWritten added) r e same tt;
      before = told_on (GoesOn h c.args.loss.now written c.args.key.now) r e same
          (first_failed h c.args.loss.now written added c.args.key.now old late c.stands.ensures.durable c.loss_results.ensures.stands c.in_ok-env.ensures.tree i write e read first);
    }

pub returns-in_err-before : goal.returns-in_err-before
returns-in_err-before g c =
    let h = c.args.world.now in
    let written = c.args.written.now in
    let added = c.args.data.now in
    let key = c.args.key.now in
    let old = c.in_ok-env.env.store in
    let late = c.write_left.new.env.store in
    let read = c.read_left.new.env.store in
    let new = c.read_left-2.new.env.store in
    let i = c.in_ok-write_left.field-0 in
    let since = c.in_ok-since.since in
    let e = c.in_err-before.field-0.0 in
    let r = c.from_residual-in_err-before.result in
    let same = c.from_residual-in_err-before.ensures.1 in
    let write = subst (λ cache. IsStanding cache old → LeftWritten Sha256 cache written added (Ok i) old late) c.cache-cache.ensures c.in_ok-write_left.ensures in
    let first = subst (λ cache. IsStanding cache late → LeftRead cache written (Ok since) late read) c.cache-cache.ensures c.in_ok-since.ensures in
    let second = subst (λ cache. IsStanding cache read → LeftRead cache key (Err e) read new) c.cache-cache.ensures c.in_err-before.ensures in
    record {
      since = told_on (GivesWritten added) r e same tt;
      before = told_on (GoesOn h c.args.loss.now written key) r e same
          (second_failed h c.args.loss.now written added key old late c.stands.ensures.durable c.loss_results.ensures.stands c.in_ok-env.ensures.tree i write since read new first
          c.stands.ensures.few c.loss_results.ensures.last c.digest_laws.ensures.same e second);
    }

pub returns : goal.returns
returns g c =
    let h = c.args.world.now in
    let written = c.args.written.now in
    let added = c.args.data.now in
    let key = c.args.key.now in
    let old = c.in_ok-env.env.store in
    let late = c.write_left.new.env.store in
    let read = c.read_left.new.env.store in
    let new = c.read_left-2.new.env.store in
    let i = c.in_ok-write_left.field-0 in
    let since = c.in_ok-since.since in
    let before = c.in_ok-before.before in
    let write = subst (λ cache. IsStanding cache old → LeftWritten Sha256 cache written added (Ok i) old late) c.cache-cache.ensures c.in_ok-write_left.ensures in
    let first = subst (λ cache. IsStanding cache late → LeftRead cache written (Ok since) late read) c.cache-cache.ensures c.in_ok-since.ensures in
    let second = subst (λ cache. IsStanding cache read → LeftRead cache key (Ok before) read new) c.cache-cache.ensures c.in_ok-before.ensures in
    record {
      since = since_here h c.args.loss.now written added key old late c.stands.ensures.durable c.loss_results.ensures.stands c.in_ok-env.ensures.tree i write since read new first;
      before = before_here h c.args.loss.now written added key old late c.stands.ensures.durable c.loss_results.ensures.stands c.in_ok-env.ensures.tree i write since read new first
          c.stands.ensures.few c.loss_results.ensures.last c.digest_laws.ensures.same before second;
    }
