use Rattle.cacache_laws.proofs.trees.Compactions.{CompactTexts.{compact_texts_answer}, CompactTwice.{compact_texts_keep_found, compact_closes, compact_twice}}
use Rattle.cacache_laws.proofs.trees.laws.compact_laws.Goals as goal

pub returns : goal.returns
returns c = record {
  answer = compact_texts_answer;
  settle = compact_twice;
  closes = compact_closes;
  found = compact_texts_keep_found;
}
