-- The file was stored, or given up.
use Rattle.std.proofs.Common.{List, ℕ, subst}
use Rattle.cacache.specs.OpenHandles.{OpensFile}
use Rattle.cacache_program.{specs.WordWrite.{AreAllOf}, proofs.TakenFiles.{filled_ends, given_up_ends, unfilled, unmade}}
use Rattle.cacache_program.proofs.storing.store_file.Goals as goal

pub returns-in_err-created : goal.returns-in_err-created
returns-in_err-created g c =
    let log = g.S.Store.log in
    let given = g.N.Names.given in
    let temp = g.S.Temp.TempHandle.seen in
    let moments = g.C.Clock.given in
    let cache = c.args.cache.now in
    let key = c.args.key.now in
    let path = c.args.path.now in
    let old = c.args.env.now in
    let opened = c.open.new.env in
    let made = c.create.new.env in
    let file = g.S.File.FileHandle.seen c.in_ok-file.file in
    let opens = subst (λ (p : List ℕ). OpensFile p file (log old.store) (log opened.store)) c.in_ok-path.ensures c.in_ok-file.ensures.opens in
    let rest = c.in_ok-file.ensures.rest in
    let e = c.in_err-created.field-0.0 in
    let gives = unmade log given temp moments cache key path file old opened made opens rest c.create.result e c.in_err-created.ensures.err c.create.ensures.opens in
    record { ends = given_up_ends log given temp moments cache key path old made c.from_residual-in_err-created.result e c.from_residual-in_err-created.ensures.1 gives }

pub returns-in_err-filled : goal.returns-in_err-filled
returns-in_err-filled g c =
    let log = g.S.Store.log in
    let given = g.N.Names.given in
    let temp = g.S.Temp.TempHandle.seen in
    let moments = g.C.Clock.given in
    let cache = c.args.cache.now in
    let key = c.args.key.now in
    let path = c.args.path.now in
    let old = c.args.env.now in
    let opened = c.open.new.env in
    let made = c.create.new.env in
    let file = g.S.File.FileHandle.seen c.in_ok-file.file in
    let opens = subst (λ (p : List ℕ). OpensFile p file (log old.store) (log opened.store)) c.in_ok-path.ensures c.in_ok-file.ensures.opens in
    let rest = c.in_ok-file.ensures.rest in
    let new = c.fill.new.env in
    let first = c.in_ok-created.created.0 in
    let e = c.in_err-filled.field-0.0 in
    let failed = c.in_err-filled.ensures in
    let gives = unfilled log given temp moments cache key path file old opened made opens rest c.create.result e first new c.in_ok-created.ensures.ok.0 c.create.ensures.opens failed.removed failed.clock failed.names failed.base in
    record { ends = given_up_ends log given temp moments cache key path old new c.from_residual-in_err-filled.result e c.from_residual-in_err-filled.ensures.1 gives }

pub returns : goal.returns
returns g c =
    let log = g.S.Store.log in
    let given = g.N.Names.given in
    let temp = g.S.Temp.TempHandle.seen in
    let moments = g.C.Clock.given in
    let cache = c.args.cache.now in
    let key = c.args.key.now in
    let path = c.args.path.now in
    let old = c.args.env.now in
    let opened = c.open.new.env in
    let made = c.create.new.env in
    let file = g.S.File.FileHandle.seen c.in_ok-file.file in
    let opens = subst (λ (p : List ℕ). OpensFile p file (log old.store) (log opened.store)) c.in_ok-path.ensures c.in_ok-file.ensures.opens in
    let rest = c.in_ok-file.ensures.rest in
    let first = c.in_ok-created.created.0 in
    let filled = c.in_ok-filled.ensures in
    let went = filled.went in
    let all = subst (λ f. AreAllOf (g.S.File.FileHandle.seen f).bytes went.0) c.in_ok-created.ensures.ok.1 went.1 in
    let done = c.commit.ensures in
    record {
      ends = filled_ends log given temp moments cache key path file old opened made opens rest c.create.result went.0 first c.in_ok-filled.filled c.fill.new.env c.commit.new.env c.commit.result
          c.in_ok-created.ensures.ok.0 c.create.ensures.opens all went.2 filled.quiet filled.clock filled.names filled.base done.stored done.ran done.names done.base;
    }
