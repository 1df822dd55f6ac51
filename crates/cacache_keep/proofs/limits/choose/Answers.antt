use Rattle.std.proofs.Common.{◌≡◌, ◌∙◌, ◌+◌, ◌≤◌, ℕ, List, ap, drop, length, map, subst}
use Rattle.cacache_keep.{specs.{declared.weighing.Weighed.{Weighed}, Limits.{Keeps, told_bytes, weight_of}}, proofs.Aging.{split_so}}
use Rattle.cacache_keep.proofs.limits.choose.Goals as goal

pub returns : goal.returns
returns c =
    let limits = c.args.limits in
    let all = c.args.weighed.items in
    let first = c.first_kept-first.result in
    let f = c.first_kept-first.ensures in
    let same = c.as_slice-2.ensures.value in
    let parts =
    split_so limits all c.split_off.new.self.items c.in_ok-kept.kept.items first c.in_ok-kept.ensures.items c.in_ok-kept.ensures.tail
    (subst (λ (l : List Weighed). c.first_kept-first.result ≤ length l) same f.bound)
    (subst (λ (l : List Weighed). Keeps c.args.limits (map weight_of (drop c.first_kept-first.result l))) same f.within)
    (subst (λ (l : List Weighed). (n : ℕ) → c.first_kept-first.result ≡ n + 1 → Keeps c.args.limits (map weight_of (drop n l)) → ⊥) same f.needed) in
    record {
      chooses = record {
        dropped = map weight_of c.split_off.new.self.items;
        kept = map weight_of c.in_ok-kept.kept.items;
        split = parts.both;
        most = parts.most;
        gone = c.in_ok-dropped.ensures;
        left = c.in_ok-kept-2.ensures;
        before = c.bytes_of-bytes_before.ensures ∙ ap (λ (l : List Weighed). told_bytes (map weight_of l)) c.as_slice.ensures.value;
        behind = c.bytes_of-bytes_after.ensures ∙ ap (λ (l : List Weighed). told_bytes (map weight_of l)) c.as_slice-3.ensures.value;
      };
    }
