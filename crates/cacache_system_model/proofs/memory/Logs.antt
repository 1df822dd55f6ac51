-- Runs of steps in a log that is kept.
use Rattle.std.{proofs.Common.{List, [], ◌∷◌, refl, ◌≡◌, ◌++◌}, specs.Prelude.{Some}}
use Rattle.cacache_system.specs.{declared.call.CallItem.{CallItem}, Seen.{NumberedStep, NumberedAnswer}, AnswersOf.{StepRuns}}
use Rattle.cacache_system_model.specs.memory.Runs.{LogsRun}
use seplogic.Ra.Ura.{Ura}
use mir.Val.{Val, vstruct, vnil}
use types.Logic.{Logic}
use types.Kit.{Goal, Step, step, Item, ‵, ◌$◌, fjoin, fpack, feq_i}
use denote.RattleType.{RattleType, Valss}
use denote.Steps.{nothing}
use denote.Struct.Struct.{Struct, within}

abbrev pub none : Val
none = vstruct vnil

abbrev pub fieldless : RattleType
fieldless = Struct (record { name = []; args = []; types = []; fields = [] })

-- a value without fields is there
pub none_made : {M : Type 1} {𝓤 : Ura M} {𝓛 : Logic 𝓤} {K : Type 0} {Γ : List (Item 𝓤)} {G : Goal 𝓤 𝓛.H} → K → Step K 𝓛 (‵ (fieldless.own_val tt (none ∷ [])) ∷ Γ) G Γ G
none_made t = step (λ s.
    nothing t $ feq_i t (List Val) (none ∷ []) (none ∷ []) refl $ fjoin t $
    fpack t (Valss []) (within (record { name = []; args = []; types = []; fields = [] }) tt (none ∷ [])) tt $ s)

-- ---- a run of a step's calls in a log that is kept

same_log : (one other : List CallItem) → Some one ≡ Some other → one ≡ other
same_log one other e = cc

pub logs_run : (step : NumberedStep) (answer : NumberedAnswer) (old new : List CallItem) → StepRuns step answer (Some old) (Some new) → LogsRun step answer old new
logs_run step answer old new (hint, end, (gained, runs, gains), is) = (hint, end, gained, same_log new (old ++ gained) gains, runs, is)
