-- Each folder was asked for.
use Rattle.std.proofs.Common.{rules}
use Rattle.cacache_program.proofs.keep.missing.is_bare.Goals as goal

pub returns-then-index : goal.returns-then-index
returns-then-index g c =
    record { asks = (c.lacks-contents.result, c.lacks-index.result, c.lacks-temps.result, c.lacks-contents.new.env, c.lacks-index.new.env, c.lacks-contents.ensures.asks, c.lacks-index.ensures.asks, c.lacks-temps.ensures.asks, search rules) }

pub returns-else-index : goal.returns-else-index
returns-else-index g c =
    record { asks = (c.lacks-contents.result, c.lacks-index.result, c.lacks-temps.result, c.lacks-contents.new.env, c.lacks-index.new.env, c.lacks-contents.ensures.asks, c.lacks-index.ensures.asks, c.lacks-temps.ensures.asks, search rules) }
