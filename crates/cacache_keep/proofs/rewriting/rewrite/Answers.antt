use Rattle.std.proofs.Common.{inr, inl}
use Rattle.cacache_keep.{specs.Rewriting.{StopsRewriting}, proofs.{Asked.{done_so}, NewBuckets.Rewrites.{secured, unmoved, unsecured, unsynced}, Stopped.{error_so, error_as}}}
use Rattle.cacache_keep.proofs.rewriting.rewrite.Goals as goal

pub returns-in_err-file-2-clause-stops : goal.returns-in_err-file-2-clause-stops
returns-in_err-file-2-clause-stops g c =
    let seen = g.S.Temp.TempHandle.seen in
    let old = g.S.Store.log c.args.store.now in
    let made = g.S.Store.log c.make_temp.new.store in
    let new = g.S.Store.log c.write_all.new.store in
    let e = c.in_err-file-2.field-0.0 in
    error_as (λ x. StopsRewriting c.args.durable c.args.cache.now c.args.path.now c.args.bytes x old new) c.from_residual-in_err-file-2.result e c.from_residual-in_err-file-2.ensures.1
    (inr (seen c.in_ok-file.file, made, c.in_ok-file.ensures.makes, inl c.in_err-file-2.ensures.stops))

pub returns-in_err-file-3-clause-stops : goal.returns-in_err-file-3-clause-stops
returns-in_err-file-3-clause-stops g c =
    let seen = g.S.Temp.TempHandle.seen in
    let old = g.S.Store.log c.args.store.now in
    let made = g.S.Store.log c.make_temp.new.store in
    let written = g.S.Store.log c.write_all.new.store in
    let new = g.S.Store.log c.sync_temp.new.store in
    let e = c.in_err-file-3.field-0.0 in
    error_as (λ x. StopsRewriting c.args.durable c.args.cache.now c.args.path.now c.args.bytes x old new) c.from_residual-in_err-file-3.result e c.from_residual-in_err-file-3.ensures.1
    (unsynced c.args.durable c.args.cache.now c.args.path.now c.args.bytes (seen c.in_ok-file.file) (seen c.in_ok-file-2.file) old made written e new c.in_ok-file.ensures.makes c.in_ok-file-2.ensures.writes c.in_err-file-3.ensures.stops)

pub returns-in_err-move_to-clause-stops : goal.returns-in_err-move_to-clause-stops
returns-in_err-move_to-clause-stops g c =
    let seen = g.S.Temp.TempHandle.seen in
    let old = g.S.Store.log c.args.store.now in
    let made = g.S.Store.log c.make_temp.new.store in
    let written = g.S.Store.log c.write_all.new.store in
    let synced = g.S.Store.log c.sync_temp.new.store in
    let new = g.S.Store.log c.move_to.new.store in
    let e = c.in_err-move_to.field-0.0 in
    error_as (λ x. StopsRewriting c.args.durable c.args.cache.now c.args.path.now c.args.bytes x old new) c.from_residual-in_err-move_to.result e c.from_residual-in_err-move_to.ensures.1
    (unmoved c.args.durable c.args.cache.now c.args.path.now c.args.bytes (seen c.in_ok-file.file) (seen c.in_ok-file-2.file) (seen c.in_ok-file-3.file) old made written synced c.in_ok-file.ensures.makes c.in_ok-file-2.ensures.writes c.in_ok-file-3.ensures.syncs c.in_ok-file-3.ensures.same e new c.in_err-move_to.ensures.stops)

pub returns : goal.returns
returns g c =
    let seen = g.S.Temp.TempHandle.seen in
    let old = g.S.Store.log c.args.store.now in
    let made = g.S.Store.log c.make_temp.new.store in
    let written = g.S.Store.log c.write_all.new.store in
    let synced = g.S.Store.log c.sync_temp.new.store in
    let moved = g.S.Store.log c.move_to.new.store in
    let new = g.S.Store.log c.secure.new.store in
    record {
      rewrites = done_so c.secure.result
          (λ secures. secured c.args.durable c.args.cache.now c.args.path.now c.args.bytes (seen c.in_ok-file.file) (seen c.in_ok-file-2.file) (seen c.in_ok-file-3.file) old made written synced c.in_ok-file.ensures.makes c.in_ok-file-2.ensures.writes c.in_ok-file-3.ensures.syncs c.in_ok-file-3.ensures.same moved new c.in_ok-move_to.ensures.moves secures)
          c.secure.ensures.syncs;
      stops = error_so c.secure.result
          (λ e stop. unsecured c.args.durable c.args.cache.now c.args.path.now c.args.bytes (seen c.in_ok-file.file) (seen c.in_ok-file-2.file) (seen c.in_ok-file-3.file) old made written synced c.in_ok-file.ensures.makes c.in_ok-file-2.ensures.writes c.in_ok-file-3.ensures.syncs c.in_ok-file-3.ensures.same moved e new c.in_ok-move_to.ensures.moves stop)
          c.secure.ensures.stops;
    }
