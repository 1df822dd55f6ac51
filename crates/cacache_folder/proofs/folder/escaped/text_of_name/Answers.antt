use Rattle.std.{proofs.Common.{arith, sym, ap, ◌∙◌}, specs.{Bool.{nat_eq}, List.{starts_with}}}
use Rattle.cacache_folder.proofs.{FolderNames.{stands, told_as}, Entries.{odd_mark, odd_bytes, even_bytes}}
use Rattle.cacache_folder.proofs.folder.escaped.text_of_name.Goals as goal

pub returns-then-starts_with-clause-raw : goal.returns-then-starts_with-clause-raw
returns-then-starts_with-clause-raw c =
    stands c.escaped.result c.args.name.now (λ i. omega (arith, c.type_inv.name i)) c.escaped.ensures

pub returns-in-Err-clause-raw : goal.returns-in-Err-clause-raw
returns-in-Err-clause-raw c =
    stands c.escaped-in-Err.result c.args.name.now (λ i. omega (arith, c.type_inv.name i)) c.escaped-in-Err.ensures

pub returns-then-starts_with-clause-told : goal.returns-then-starts_with-clause-told
returns-then-starts_with-clause-told c =
    told_as c.escaped.result _ _ c.escaped.ensures
    (sym (odd_mark c.args.name.now (sym (c.starts_with.ensures.value ∙ ap (λ bytes. starts_with nat_eq c.args.name.now bytes) c.as_bytes.ensures.value) ∙ c.if-starts_with.true)))

pub returns-in-Err-clause-told : goal.returns-in-Err-clause-told
returns-in-Err-clause-told c =
    told_as c.escaped-in-Err.result _ _ c.escaped-in-Err.ensures
    (sym (odd_bytes c.args.name.now (sym (c.starts_with.ensures.value ∙ ap (λ bytes. starts_with nat_eq c.args.name.now bytes) c.as_bytes.ensures.value) ∙ c.if-starts_with.false) c.in-Err.ensures.cases.0))

pub returns-in-Ok-clause-told : goal.returns-in-Ok-clause-told
returns-in-Ok-clause-told c =
    told_as c.from_str.result _ _ c.from_str.ensures
    (c.in-Ok.ensures.cases.0 ∙ sym (even_bytes c.args.name.now (sym (c.starts_with.ensures.value ∙ ap (λ bytes. starts_with nat_eq c.args.name.now bytes) c.as_bytes.ensures.value) ∙ c.if-starts_with.false) c.in-Ok.ensures.cases.1))
