use Rattle.std.proofs.{Common.{rules, ◌≡◌, true, false, length, drop, sym, ap, ◌∙◌, bytes_eq}, lemmas.Slice.Eq.{bytes_eq-Decides}}
use Rattle.cacache_core.specs.Integrity.{hash_of}
use Rattle.cacache_walks.proofs.TakenApart.{behind_top, not_shorter, same_path_of, rest_all, lie_of, memory_alone}
use Rattle.cacache_walks.proofs.contents.address.address_at.Goals as goal

pub returns-then-path-top-clause-address : goal.returns-then-path-top-clause-address
returns-then-path-top-clause-address c = λ h hash is. not_shorter c.args.cache.now c.args.top.now c.args.path.now h c.requires hash is c.if-path-top.true

pub returns-in_default-clause-address : goal.returns-in_default-clause-address
returns-in_default-clause-address c = λ h hash is.
    let none = rw c.in_default.is at c.in_ok-algorithm.ensures.hash in
    none h hash (rest_all (length c.args.top.now) c.as_bytes.result.now ∙ ap (drop (length c.args.top.now)) c.as_bytes.ensures.value ∙ behind_top c.args.cache.now c.args.top.now c.args.path.now h c.requires hash is)

pub returns-clause-address : goal.returns-clause-address
returns-clause-address c = λ h hash is.
    let some = rw c.in-Some.is at c.in_ok-algorithm.ensures.hash in
    let parts = some.1 h hash (rest_all (length c.args.top.now) c.as_bytes.result.now ∙ ap (drop (length c.args.top.now)) c.as_bytes.ensures.value ∙ behind_top c.args.cache.now c.args.top.now c.args.path.now h c.requires hash is) in
    let one = c.in_ok-sri.ensures.is in
    let same = same_path_of c.args.cache.now c.in_ok-lies.lies c.args.path.now c.in_ok-sri.sri c.in-Some.algorithm c.in-Some.digest.items h one c.in_ok-lies.ensures parts.0 parts.1 is in
    let equal : bytes_eq c.as_str.result.now c.args.path.now ≡ true = (bytes_eq-Decides c.as_str.result.now c.args.path.now).1 (c.as_str.ensures.same ∙ same) in
    let wrong : true ≡ false = sym equal ∙ sym c.eq.ensures ∙ c.if-eq.false in cc

pub returns-then-eq-clause-address : goal.returns-then-eq-clause-address
returns-then-eq-clause-address c =
    let one = c.in_ok-sri.ensures.is in
    let equal = (bytes_eq-Decides c.as_str.result.now c.args.path.now).0 (sym c.eq.ensures ∙ c.if-eq.true) in (
      hash_of c.in-Some.algorithm c.in-Some.digest.items,
      c.in_ok-sri.ensures.hash,
      one,
      sym equal ∙ c.as_str.ensures.same ∙ lie_of c.args.cache.now c.in_ok-lies.lies c.in_ok-sri.sri c.in-Some.algorithm c.in-Some.digest.items one c.in_ok-lies.ensures,
    )

pub returns-in_err-sri-clause-memory : goal.returns-in_err-sri-clause-memory
returns-in_err-sri-clause-memory c =
    let some = rw c.in-Some.is at c.in_ok-algorithm.ensures.hash in
    let memory = memory_alone c.in-Some.algorithm c.in-Some.digest.items c.in_err-sri.field-0.0 some.0 c.in_err-sri.ensures.refused in
    search rules
