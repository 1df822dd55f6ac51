use Rattle.std.{proofs.Common.{◌∙◌, ◌++◌, refl, sym, ap, subst}, specs.Prelude.{Result, Ok, Err, OnOk, OnErr, Some, IsSome}}
use Rattle.std.specs.FinMap as map
use Rattle.cacache_disk.{specs.{declared.node.Node.TheVariants.{File}, Tree.{put, bytes_of}}, proofs.Maps.{get_map, written_map, put_same}}
use Rattle.cacache_disk.proofs.nodes.Nodes.lengthen.Goals as goal

on_ok : {X E : Type 0} {A B : Type 0} (r : Result X E) → (A → B) → OnOk r A → OnOk r B
on_ok (Ok x) f a = f a
on_ok (Err e) f a = tt

on_err : {X E : Type 0} {A B : Type 0} (r : Result X E) → (A → B) → OnErr r A → OnErr r B
on_err (Ok x) f a = tt
on_err (Err e) f a = f a

pub returns-in-Some-clause-ok : goal.returns-in-Some-clause-ok
returns-in-Some-clause-ok c =
    let there = c.in-Some.ensures.value in
    let found = there ∙ sym (get_map c.self.inside.nodes c.args.path) ∙ ap (λ t. map.get t c.args.path) c.self.view_is in
    on_ok c.lengthen.result (λ made. written_map c.self.inside.nodes (c.get_mut.follows.lender c.lengthen.new.self) c.args.path c.lengthen.new.self (subst IsSome there refl) (c.get_mut.follows.holds c.lengthen.new.self)
    ∙ ap (λ t. put t c.args.path c.lengthen.new.self) c.self.view_is
    ∙ ap (put c.args.self.now c.args.path) (made ∙ ap (λ o. File (bytes_of o ++ c.args.more)) found)) c.lengthen.ensures.ok

pub returns-in-Some-clause-err : goal.returns-in-Some-clause-err
returns-in-Some-clause-err c =
    let there = c.in-Some.ensures.value in
    let found = there ∙ sym (get_map c.self.inside.nodes c.args.path) ∙ ap (λ t. map.get t c.args.path) c.self.view_is in
    on_err c.lengthen.result (λ kept. written_map c.self.inside.nodes (c.get_mut.follows.lender c.lengthen.new.self) c.args.path c.lengthen.new.self (subst IsSome there refl) (c.get_mut.follows.holds c.lengthen.new.self)
    ∙ ap (λ t. put t c.args.path c.lengthen.new.self) c.self.view_is
    ∙ put_same c.args.self.now c.args.path c.lengthen.new.self (ap Some kept ∙ found)) c.lengthen.ensures.err

pub returns-clause-ok : goal.returns-clause-ok
returns-clause-ok c =
    let found = c.in_default.ensures.value ∙ sym (get_map c.self.inside.nodes c.args.path) ∙ ap (λ t. map.get t c.args.path) c.self.view_is in
    let same = ap (λ n. map.from_entries n.entries) c.get_mut.follows.holds-at-none ∙ c.self.view_is in
    on_ok c.put_file.result (λ made. made ∙ ap (λ t. put t c.args.path (File c.args.more)) same
    ∙ ap (λ o. put c.args.self.now c.args.path (File (bytes_of o ++ c.args.more))) found) c.put_file.ensures.ok
