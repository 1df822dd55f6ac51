use Rattle.std.{proofs.Common.{◌≡◌, length}, specs.Prelude.{All}}
use Rattle.cacache_core.{proofs.Reading.{before}, specs.{Integrity.{IsHash}, Texts.{words, read_words}}}
use Rattle.cacache_core.proofs.integrity.reading.read_hashes.Given as goal

abbrev pub invariant-loop-word : goal.invariant-loop-word
invariant-loop-word l = record {
  read : read_words (words l.fn.text) ≡ before l.hashes.items (read_words (words l.rest));
  hashes : All IsHash l.hashes.items;
}

abbrev pub decreases-loop-word : goal.decreases-loop-word
decreases-loop-word l = length l.rest
