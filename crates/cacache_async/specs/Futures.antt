-- Futures of calls: what one waits with, what it says after its answer, and what an opening is to link.
use Rattle.std.specs.{Prelude.{◌≡◌, Option, Some, None, Result, Ok, Err, ⊤, ℕ, List, option_map}, Borrow.{MutBor}}
use Rattle.cacache_core.specs.declared.errors.{Error.{Error, TheVariants.{IoError, OutOfMemory}}, Fault.{Fault, TheVariants.{Closed}}}
use Rattle.cacache_store.specs.declared.env.Env.{Env}
use Rattle.cacache_async.specs.declared.{future.CallFuture.{CallFuture}, linking.{SizedTargetCall.{SizedTargetCall}, TargetCall.{TargetCall}}}
use Rattle.cacache_sync.specs.put.{OpenLinkers.{LinkTarget, linked_by}, KeyedWriters.{nothing_said}}

-- this error has the fault, or says that there was no memory for its message
abbrev pub TellsFault : Fault → Error → Type 0
TellsFault fault (IoError f message) = f ≡ fault
TellsFault fault OutOfMemory = ⊤
TellsFault fault e = ⊥

-- this answer says that the call was made before, or that there was no memory to say so
abbrev pub SaysOver : {A : Type 0} → Result A Error → Type 0
SaysOver (Ok x) = ⊥
SaysOver (Err e) = TellsFault Closed e

-- what a poll may answer: the call's own answer in this environment, or that it was made before
abbrev pub MayAnswer :
    {S C N K A : Type 0} → (K → Env S C N → Result A Error → Env S C N → Type 0)
    → Option K → Env S C N → Result A Error → Type 0
MayAnswer makes (Some call) env r = (after : _) × makes call env r after
MayAnswer makes None env r = SaysOver r

-- the future waits to make this call in this environment, which is lent to it
abbrev pub Waits : {S C N K : Type 0} → CallFuture S C N K → MutBor (Env S C N) → K → Type 0
Waits f env call =
    (f.env.ghost_name ≡ env.ghost_name) × (f.env.now ≡ env.now) × (f.call ≡ Some call)

-- ---- what an opening is to link, by what it is called with

-- by its options
abbrev pub target_said : TargetCall → List ℕ → LinkTarget
target_said c base = linked_by base c.cache.now (option_map (λ key. key.now) c.key) c.target.now c.opts

-- without any
abbrev pub target_asked : SizedTargetCall → List ℕ → LinkTarget
target_asked c base =
    linked_by base c.cache.now (option_map (λ key. key.now) c.key) c.target.now nothing_said
