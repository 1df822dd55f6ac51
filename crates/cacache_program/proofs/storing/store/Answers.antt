-- What became of the file was printed.
use Rattle.std.proofs.Common.{inl, inr, refl, ap, subst, List, ◌++◌, ◌∷◌, []}
use Rattle.cacache_core.specs.declared.integrity.digest.Hash.{Hash}
use Rattle.cacache.specs.{Calls.{Stored}, Integrities.{integrity_text}}
use Rattle.cacache_program.specs.Output.{PutsOut}
use Rattle.cacache_program.proofs.storing.store.Goals as goal

pub returns-in-Ok-clause-does : goal.returns-in-Ok-clause-does
returns-in-Ok-clause-does g c =
    elim c.in-Ok.ensures.ends [
      | inl x ↦ let differ = x.1 in absurd cc
      | inr y ↦
          let is = y.2 in
          let put = subst (λ (i : List Hash). PutsOut (integrity_text i ++ 10 ∷ []) (g.W.Write.contents c.args.output.now) (g.W.Write.contents c.print.new.output) c.print.result) is c.print.ensures.put in
          inr (y.0, Stored c.in-Ok.integrity, y.1, inl (ap Stored is, put))
    ]

pub returns-in-Err-clause-does : goal.returns-in-Err-clause-does
returns-in-Err-clause-does g c =
    elim c.in-Err.ensures.ends [
      | inl x ↦ inl (x.0, x.2, c.tell_failed_call.ensures, refl)
      | inr y ↦ inr (y.0, _, y.1, inr (_, refl, c.tell_failed_call.ensures, refl))
    ]
