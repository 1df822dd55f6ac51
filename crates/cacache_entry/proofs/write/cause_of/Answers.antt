use Rattle.std.{proofs.{Common.{◌≡◌, ◌<◌, ◌^◌, ℕ, false, Result, Ok, Err, sym, ◌∙◌}, lemmas.Bool.{leb-true, not-true}}, specs.Result.{OkIff, is_err}}
use Rattle.cacache_entry.{specs.View.{entry_view}, proofs.EntryCauses.{cause_of-none}}
use Rattle.cacache_entry.proofs.write.cause_of.Goals as goal

converted : {E : Type 0} (r : Result ℕ E) (t : ℕ) → OkIff r (t < 2 ^ 64) t → is_err r ≡ false → t < 2 ^ 64
converted (Ok n) t h e = h.0
converted (Err x) t h e = absurd cc

pub returns-else-not-nests_within : goal.returns-else-not-nests_within
returns-else-not-nests_within c =
    cause_of-none (entry_view c.args.entry.now) (converted c.try_from.result c.args.entry.now.time c.try_from.ensures (sym c.is_err.ensures.value ∙ c.if-is_err.false))
    (not-true _ (sym c.is_whole.ensures ∙ c.if-not-is_whole.false)) (leb-true _ _ (sym c.nests_within.ensures ∙ c.if-not-nests_within.false))
