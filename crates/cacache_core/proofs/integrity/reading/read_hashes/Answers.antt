use Rattle.std.proofs.{Common.{◌∙◌}, lemmas.List.Elements.{All-push}}
use Rattle.cacache_core.{specs.{Integrity.{IsHash}, Texts.{words}}, proofs.Reading.{read_more}}
use Rattle.cacache_core.proofs.integrity.reading.read_hashes.Goals as goal

pub loop-word-preserved : goal.loop-word-preserved
loop-word-preserved c =
    let hashes = c.loop-word.hashes.items in
    let hash = c.in_ok-read_hash.field-0 in
    let items = c.in_ok-push.ensures.items in
    record {
      read = rw items (c.loop-word.invariant.read
          ∙ read_more hashes hash c.in-Some.word.now (words c.in-Some.others.now) (words c.loop-word.rest.now) c.in-Some.ensures.words c.in_ok-read_hash.ensures.ok);
      hashes = rw items (All-push IsHash hashes hash c.loop-word.invariant.hashes c.in_ok-read_hash.ensures.hash);
    }
