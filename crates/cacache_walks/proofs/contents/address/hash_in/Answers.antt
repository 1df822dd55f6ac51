use Rattle.std.proofs.Common.{◌≡◌, ◌+◌, ℕ, List, Some, None, length, sym, ap, ◌∙◌, arith}
use Rattle.cacache_core.specs.Texts.{name_of}
use Rattle.cacache_walks.{specs.Addresses.{digits_of}, proofs.TakenApart.{taken, same_digest, decodes, rest_all}}
use Rattle.cacache_walks.proofs.contents.address.hash_in.Goals as goal

pub returns-in_default-clause-hash : goal.returns-in_default-clause-hash
returns-in_default-clause-hash c = λ h hash is.
    let t = taken c.args.text.now h hash is in
    let wrong : None ≡ Some h.algorithm = sym c.in_default.is ∙ c.algorithm_in.ensures ∙ t.letter in cc

pub returns-then-text-skipped-clause-hash : goal.returns-then-text-skipped-clause-hash
returns-then-text-skipped-clause-hash c = λ h hash is.
    let t = taken c.args.text.now h hash is in
    let same : c.in-Some.algorithm ≡ h.algorithm = (let e : Some c.in-Some.algorithm ≡ Some h.algorithm = c.in-Some.ensures ∙ t.letter in cc) in
    let len : length c.name.result.now ≡ length (name_of h.algorithm) = ap length c.name.ensures ∙ ap (λ a. length (name_of a)) same in
    let long = t.long in
    let short = c.if-text-skipped.true in
    omega (arith, len, long, short)

pub returns-then-len-lt3-clause-hash : goal.returns-then-len-lt3-clause-hash
returns-then-len-lt3-clause-hash c = λ h hash is.
    let t = taken c.args.text.now h hash is in
    let same : c.in-Some.algorithm ≡ h.algorithm = (let e : Some c.in-Some.algorithm ≡ Some h.algorithm = c.in-Some.ensures ∙ t.letter in cc) in
    let decoded = rw c.in-Some-2.is at c.in_ok-digest.ensures.bytes in
    let digest = same_digest c.args.text.now h c.in-Some.algorithm _ c.deref.result.now c.in-Some-2.digest.items t same (ap (λ (l : List ℕ). length l + 1) c.name.ensures) (c.deref.ensures.value ∙ c.in_ok-digits.ensures ∙ ap digits_of (rest_all (length c.name.result.now + 1) c.args.text.now)) decoded in
    let long = hash.long_enough in
    let short = c.if-len-lt3.true in
    let len = c.len.ensures in
    let size = ap length digest in
    omega (arith, long, short, len, size)

pub returns-in-Some-2-clause-hash : goal.returns-in-Some-2-clause-hash
returns-in-Some-2-clause-hash c = (
  let short = c.if-len-lt3.false in let len = c.len.ensures in omega (arith, short, len),
  λ h hash is.
      let t = taken c.args.text.now h hash is in
      let same : c.in-Some.algorithm ≡ h.algorithm = (let e : Some c.in-Some.algorithm ≡ Some h.algorithm = c.in-Some.ensures ∙ t.letter in cc) in
      let decoded = rw c.in-Some-2.is at c.in_ok-digest.ensures.bytes in
      (same, same_digest c.args.text.now h c.in-Some.algorithm _ c.deref.result.now c.in-Some-2.digest.items t same (ap (λ (l : List ℕ). length l + 1) c.name.ensures) (c.deref.ensures.value ∙ c.in_ok-digits.ensures ∙ ap digits_of (rest_all (length c.name.result.now + 1) c.args.text.now)) decoded),
)

pub returns-clause-hash : goal.returns-clause-hash
returns-clause-hash c = λ h hash is.
    let t = taken c.args.text.now h hash is in
    let same : c.in-Some.algorithm ≡ h.algorithm = (let e : Some c.in-Some.algorithm ≡ Some h.algorithm = c.in-Some.ensures ∙ t.letter in cc) in
    let none = rw c.in-None.is at c.in_ok-digest.ensures.bytes in
    none h.digest hash.bytes (decodes c.args.text.now h c.in-Some.algorithm _ c.deref.result.now t same (ap (λ (l : List ℕ). length l + 1) c.name.ensures) (c.deref.ensures.value ∙ c.in_ok-digits.ensures ∙ ap digits_of (rest_all (length c.name.result.now + 1) c.args.text.now)))
