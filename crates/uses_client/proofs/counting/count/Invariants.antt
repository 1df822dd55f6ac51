use Rattle.std.proofs.Common.{◌≡◌}
use Rattle.uses_client.proofs.counting.count.Given as goal

-- the listing lends the same environment, of which the store alone may have changed
abbrev pub invariant-items : goal.invariant-items
invariant-items g l =
    (l.listing.env.ghost_name ≡ l.initial.listing.env.ghost_name)
    × (l.listing.env.now.clock ≡ l.fn.env.clock) × (l.listing.env.now.names ≡ l.fn.env.names)
    × (l.listing.env.now.base ≡ l.fn.env.base)
