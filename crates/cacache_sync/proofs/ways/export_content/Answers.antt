use Rattle.std.proofs.Common.{rules, refl}
use Rattle.cacache_sync.proofs.ways.export_content.Goals as goal

pub returns-in_err-ask_free-clause-exports : goal.returns-in_err-ask_free-clause-exports
returns-in_err-ask_free-clause-exports g c =
    (c.ask_free.new.env, c.ask_free.result, c.ask_free.ensures.asks, c.ask_free.ensures.rest, rw c.in_err-ask_free.was (refl, search rules))

pub returns-clause-exports : goal.returns-clause-exports
returns-clause-exports g c =
    (c.ask_free.new.env, c.ask_free.result, c.ask_free.ensures.asks, c.ask_free.ensures.rest, rw c.in_ok-ask_free.was c.export_free.ensures.tries)
