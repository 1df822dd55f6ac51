use Rattle.std.{proofs.Common.{List, ℕ, option_map}, specs.Borrow.{Bor}}
use Rattle.cacache_entry.proofs.PlainEntries.{piece-is_entry}
use Rattle.cacache_entry.proofs.written.written_entry.Goals as goal

pub returns : goal.returns
returns c =
    let parts = c.in-Some.parts in
    let known = c.in-Some.ensures in
    piece-is_entry c.in_ok-entry_of.field-0 parts.key.now (option_map (λ (t : Bor (List ℕ)). t.now) parts.integrity) parts.time parts.size c.args.piece.now
    c.in_ok-entry_of.ensures known.piece known.fits.0 known.fits.1
