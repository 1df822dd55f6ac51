-- The law of a read that fetches, and that of the read after it.
use Rattle.std.{proofs.{Common.{◌≡◌, ℕ, List, Some, Ok, sym, ap, ◌∙◌}, lemmas.Result.{IfOk-at_ok}}, specs.Result.{result_from_control_flow}}
use Rattle.cacache_store.specs.declared.store.log.LogItem.{LogItem}
use Rattle.cacache_entry.specs.Bucket.{Found}
use Rattle.cacache_laws.specs.{Looks.{bytes_under}, results.Reads.{KeyLiesWhole}}
use Rattle.uses_keep.proofs.several.fetch_then_read.Goals as goal

-- a key leads to one text
one_text : (cache key a b : List ℕ) (log : List LogItem) → KeyLiesWhole cache key log a → KeyLiesWhole cache key log b → b ≡ a
one_text cache key a b log x y =
    let both : Some x.0 ≡ Some y.0 = sym x.1 ∙ y.1 in
    let same : x.0 ≡ y.0 = cc in
    let lies : Ok a ≡ Ok b = sym x.2.0 ∙ ap (λ (f : Found). bytes_under cache f.integrity log) same ∙ y.2.0 in
    cc

pub returns : goal.returns
returns g c = record {
  reads = λ small.
      let cache = c.args.cache.now in
      let key = c.args.key.now in
      let got = c.get_or_put_sync-got in
      let w = c.after_get_or_put.ensures c.args.fetch c.args.env.now small c.requires.cache got.ensures.gets in
      let read = c.after_read.ensures got.new.env w.sound c.read_sync-read.ensures.ran in
      let whole = IfOk-at_ok _ (c.branch-read.ensures ∙ ap (λ b. result_from_control_flow b) c.in_ok-read.is) read.whole in
      (one_text cache key _ _ got.new.env.store (IfOk-at_ok _ (c.branch-got.ensures ∙ ap (λ b. result_from_control_flow b) c.in_ok-got.is) w.leads) whole, IfOk-at_ok _ (c.branch-got.ensures ∙ ap (λ b. result_from_control_flow b) c.in_ok-got.is) w.from);
}
