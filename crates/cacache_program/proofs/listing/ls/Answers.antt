-- What was listed was printed.
use Rattle.cacache_program.{specs.WordLs.{listing_reply}, proofs.PrintedLines.{plain_listing, plain_puts}}
use Rattle.cacache_program.proofs.listing.ls.Goals as goal

pub returns-in-Ok-listing_of-clause-does : goal.returns-in-Ok-listing_of-clause-does
returns-in-Ok-listing_of-clause-does g c =
    let items = c.in-Ok.items.items in
    let text = c.in-Ok-listing_of.listing.text.items in
    let puts = plain_puts items _ text (g.W.Write.contents c.args.output.now) (g.W.Write.contents c.print.new.output) c.print.result c.in-Ok-listing_of.ensures.error c.print.ensures.put in
    (listing_reply items, c.in-Ok.ensures.ran, (text, plain_listing items text c.in-Ok-listing_of.ensures.text, puts))
