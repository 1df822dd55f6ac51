use Rattle.std.proofs.Common.{IfErr, OnOk, ℕ, List, inl, refl, subst}
use Rattle.cacache_core.specs.declared.errors.Error.TheVariants.{OutOfMemory}
use Rattle.cacache_keep.{specs.Rewriting.{Rewrites, StopsRewriting}, proofs.Stopped.{error_as}}
use Rattle.cacache_keep.proofs.settling.write_anew.Goals as goal

pub returns-in_err-bytes-clause-stops : goal.returns-in_err-bytes-clause-stops
returns-in_err-bytes-clause-stops g c =
    let log = g.S.Store.log c.args.env.now.store in
    error_as (λ x. StopsRewriting c.args.durable c.args.cache.now c.args.path.now c.args.text.items x log log) c.from_residual.result OutOfMemory c.from_residual.ensures.1 (inl (inl (inl refl)))

pub returns-clause-rewrites : goal.returns-clause-rewrites
returns-clause-rewrites g c =
    let old = g.S.Store.log c.args.env.now.store in
    let new = g.S.Store.log c.rewrite.new.store in
    subst (λ (b : List ℕ). OnOk c.rewrite.result (Rewrites c.args.durable c.args.cache.now c.args.path.now b old new)) c.in_ok-bytes.ensures c.rewrite.ensures.rewrites

pub returns-clause-stops : goal.returns-clause-stops
returns-clause-stops g c =
    let old = g.S.Store.log c.args.env.now.store in
    let new = g.S.Store.log c.rewrite.new.store in
    subst (λ (b : List ℕ). IfErr c.rewrite.result (λ e. StopsRewriting c.args.durable c.args.cache.now c.args.path.now b e old new)) c.in_ok-bytes.ensures c.rewrite.ensures.stops
