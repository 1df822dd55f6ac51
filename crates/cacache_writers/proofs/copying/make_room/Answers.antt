use Rattle.std.proofs.{Common.{◌≡◌, ◌-◌, ◌≤◌, ℕ, List, ◌++◌, length, take, replicate, vec_len, ap, ◌∙◌, arith}, lemmas.List.{take_all}}
use Rattle.cacache_writers.proofs.copying.make_room.Goals as goal

grown : (n : ℕ) (old new more : List ℕ) → length old ≤ n → new ≡ take n old ++ more → (m : List ℕ) × (new ≡ old ++ m)
grown n old new more short e = (more, e ∙ ap (λ xs. xs ++ more) (take_all n old short))

pub returns-in_ok-resize-clause-front : goal.returns-in_ok-resize-clause-front
returns-in_ok-resize-clause-front c =
    let old = c.args.buffer.now.items in
    let short : length old ≤ 65536 = omega arith in
    grown 65536 old _ (replicate (65536 - vec_len c.args.buffer.now) 0) short c.in_ok-resize.ensures.items
