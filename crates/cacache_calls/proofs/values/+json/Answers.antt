use Rattle.std.proofs.{Common.{sym, subst}, lemmas.Str.{IsUtf8-string_bytes}}
use Rattle.serde_json.specs.View.{view, members_view}
use Rattle.cacache_entry.specs.FittingEntries.{IsJson}
use Rattle.cacache_calls.{specs.JsonCode.{NamedJson}, proofs.Telling.{of_null, of_boolean, of_number, of_string, of_array, of_object}}
use Rattle.cacache_calls.proofs.values.+json.Goals as goal

pub look_through-returns-in-Null : goal.look_through-returns-in-Null
look_through-returns-in-Null t c = subst (λ v. IsJson (view v)) (sym c.in-Null.is) of_null

pub look_through-returns-in-Bool : goal.look_through-returns-in-Bool
look_through-returns-in-Bool t c = subst (λ v. IsJson (view v)) (sym c.in-Bool.is) (of_boolean c.in-Bool.field-0)

pub look_through-returns-in-Number : goal.look_through-returns-in-Number
look_through-returns-in-Number t c = subst (λ v. IsJson (view v)) (sym c.in-Number.is) (of_number c.in-Number.number c.look_at_number.ensures)

pub look_through-returns-in-String : goal.look_through-returns-in-String
look_through-returns-in-String t c = subst (λ v. IsJson (view v)) (sym c.in-String.is) (of_string c.in-String.field-0)

pub look_through-returns-in-Array : goal.look_through-returns-in-Array
look_through-returns-in-Array t c = subst (λ v. IsJson (view v)) (sym c.in-Array.is) (of_array c.in-Array.items c.look_through_items.ensures)

pub look_through-returns-in-Object : goal.look_through-returns-in-Object
look_through-returns-in-Object t c = subst (λ v. IsJson (view v)) (sym c.in-Object.is) (of_object c.in-Object.members c.look_through_members.ensures.ordered c.look_through_members.ensures.named)

pub look_through_members-loop-name-preserved : goal.look_through_members-loop-name-preserved
look_through_members-loop-name-preserved t c = λ rest. c.loop-name.invariant
    (subst (λ es. NamedJson (members_view es)) (sym c.in-Some.ensures.steps) (IsUtf8-string_bytes c.in-Some._name.now, c.look_through.ensures, rest))
