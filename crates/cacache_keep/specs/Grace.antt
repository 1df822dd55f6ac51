-- What the time of a content's last change makes of it in a collection, over any store.
use Rattle.std.specs.Prelude.{◌≡◌, ◌-◌, ℕ, List, Option, None, Some, Result, Ok, Err, if◌then◌else◌, nat_le}
use Rattle.cacache_core.specs.declared.errors.Fault.{Fault, TheVariants.{NotFound}}
use Rattle.cacache_jobs.specs.Environment.{AsksMoment}
use Rattle.cacache_keep.specs.declared.grace.Fate.{Fate, TheVariants.{Dropped, Young, Gone}}

-- the limit is the time that the clock was asked for once, less the grace; without a grace there is none
abbrev pub LimitedBy :
    {C : Type 0} → (C → Option (List ℕ)) → Option ℕ → C → C → Option ℕ → Type 0
LimitedBy moments None old new limit = (new ≡ old) × (limit ≡ None)
LimitedBy moments (Some grace) old new limit =
    (moment : ℕ) × AsksMoment moments old new moment × (limit ≡ Some (moment - grace))

-- so it is, and the clock may be asked again later
abbrev pub LimitedFirst : {C : Type 0} → (C → Option (List ℕ)) → Option ℕ → C → Option ℕ → Type 0
LimitedFirst {C} moments grace old limit =
    (next : C) × LimitedBy moments grace old next limit

-- a file that changed before the limit goes; one whose change isn't known stays
abbrev pub fate_by : ℕ → Result ℕ Fault → Fate
fate_by limit (Ok stamp) = if nat_le limit stamp then Young else Dropped
fate_by limit (Err NotFound) = Gone
fate_by limit (Err fault) = Young

-- the store's answer makes this of a content; without a limit it isn't asked, and each goes
abbrev pub JudgedBy : Option ℕ → Fate → Type 0
JudgedBy None fate = fate ≡ Dropped
JudgedBy (Some limit) fate = (changed : Result ℕ Fault) × (fate ≡ fate_by limit changed)
