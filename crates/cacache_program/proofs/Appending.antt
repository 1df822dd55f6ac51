-- What one write after another puts on an output.
use Rattle.std.proofs.{Common.{◌⊎◌, inl, inr, OnErr, OnOk, Result, Ok, Err, ℕ, ◌+◌, ◌-◌, List, [], Option, length, take, drop, subst, append-nil}, Math.Seq.{take-add}, lemmas.List.{take_rest}, KnownBytes.{Appends-nil, Appends-trans, Appends-kept}}
use Rattle.std.specs.Io.KnownBytes.{Appends, Keeps}
use Rattle.cacache_program.specs.Output.{AppendsPart}

-- bytes that are kept grow by none
pub kept_appends : (a b : Option (List ℕ)) → Keeps a b → Appends a b []
kept_appends a b k = Appends-kept a a b [] (Appends-nil a) k

-- the first n bytes, and then m more of the rest
pub appends_more : (a b c : Option (List ℕ)) (bytes : List ℕ) (n m : ℕ) → Appends a b (take n bytes) → Appends b c (take m (take (length bytes - n) (drop n bytes))) → Appends a c (take (n + m) bytes)
appends_more a b c bytes n m p q =
    let more : Appends b c (take m (drop n bytes)) = subst (λ l. Appends b c (take m l)) (take_rest bytes n) q in
    rw (take-add n m bytes) (Appends-trans a b c (take n bytes) (take m (drop n bytes)) p more)

-- some bytes, and then none
pub appends_no_more : (a b c : Option (List ℕ)) (bytes : List ℕ) → Appends a b bytes → Appends b c [] → Appends a c bytes
appends_no_more a b c bytes p q = subst (Appends a c) (append-nil bytes) (Appends-trans a b c bytes [] p q)

-- whatever a write of all the bytes returned, the output has them or a beginning of them
pub written_so_far : {X E : Type 0} (r : Result X E) (a b : Option (List ℕ)) (bytes : List ℕ) → OnOk r (Appends a b bytes) → OnErr r (AppendsPart a b bytes) → Appends a b bytes ⊎ AppendsPart a b bytes
written_so_far (Ok x) a b bytes whole part = inl whole
written_so_far (Err e) a b bytes whole part = inr part
