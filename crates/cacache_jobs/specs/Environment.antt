-- What a call does to its environment: its times and numbers are those of the environment, before and after.
use Rattle.std.specs.Prelude.{◌≡◌, ◌<◌, ◌^◌, ℕ, List, Option, None, Some}
use Rattle.cacache_store.specs.{declared.{env.Env.{Env}, store.log.LogItem.{LogItem}}, Outside.{AddsAnswer}}
use Rattle.cacache_calls.specs.{declared.{command.{Put.{Put}, Command.{Command}}, reply.Reply.{Reply}}, Table.{opening}, Runs.{Ran}}
use Rattle.cacache_calls.specs.declared.command.Command.TheVariants as commands
use Rattle.cacache_jobs.specs.JobStates.{site_of}

-- only the store of the environment may have changed
abbrev pub KeepsRest : {S C N : Type 0} → Env S C N → Env S C N → Type 0
KeepsRest old new =
    (new.clock ≡ old.clock) × (new.names ≡ old.names) × (new.base ≡ old.base)

-- ---- times

-- the clock was read once, and returned this time
abbrev pub AsksMoment : {C : Type 0} → (C → Option (List ℕ)) → C → C → ℕ → Type 0
AsksMoment moments old new moment =
    AddsAnswer (moments old) (moments new) moment × (moment < 2 ^ 64)

-- the time is the one that was set; if none was set, the clock was read once and returned it
abbrev pub HasMoment : {C : Type 0} → (C → Option (List ℕ)) → Option ℕ → C → C → ℕ → Type 0
HasMoment moments None old new moment = AsksMoment moments old new moment
HasMoment moments (Some time) old new moment = (new ≡ old) × (moment ≡ time)

-- the time of a commit: without a key the clock isn't read
abbrev pub MomentOf :
    {C : Type 0} → (C → Option (List ℕ)) → Option (List ℕ) → Option ℕ → C → C → ℕ → Type 0
MomentOf moments None time old new moment = (new ≡ old) × (moment ≡ 0)
MomentOf moments (Some key) time old new moment = HasMoment moments time old new moment

-- ---- runs

module _ {S C N : Type 0} (log : S → Option (List LogItem)) where
  -- the log gained a run of the command with this reply, and the base folder is unchanged
  abbrev pub Steps : Env S C N → Env S C N → List ℕ → ℕ → Command → Reply → Type 0
  Steps old new cache number command reply =
      Ran (opening (site_of cache old.base number) command) reply (log old.store) (log new.store)
      × (new.base ≡ old.base)

  -- the same for a call that needs neither a time nor a number
  abbrev pub Calls : Env S C N → Env S C N → List ℕ → Command → Reply → Type 0
  Calls old new cache command reply =
      Steps old new cache 0 command reply × (new.clock ≡ old.clock) × (new.names ≡ old.names)

  -- the same for a call that takes one number and no time
  abbrev pub RunsNumbered :
      (N → Option (List ℕ)) → Env S C N → Env S C N → List ℕ → Command → Reply → Type 0
  RunsNumbered numbers old new cache command reply =
      (number : ℕ) × AddsAnswer (numbers old.names) (numbers new.names) number
      × Steps old new cache number command reply × (new.clock ≡ old.clock)

  -- the same for a call that has a time and takes no number
  abbrev pub RunsTimed :
      (C → Option (List ℕ)) → Option ℕ → Env S C N → Env S C N → List ℕ
      → (ℕ → Command) → Reply → Type 0
  RunsTimed moments time old new cache command reply =
      (moment : ℕ) × HasMoment moments time old.clock new.clock moment
      × Steps old new cache 0 (command moment) reply × (new.names ≡ old.names)

  -- the same for a put, which takes one time and one number
  abbrev pub RunsPut :
      (C → Option (List ℕ)) → (N → Option (List ℕ)) → Env S C N → Env S C N → List ℕ
      → (ℕ → Put) → Reply → Type 0
  RunsPut moments numbers old new cache put reply =
      (moment number : ℕ)
      × AsksMoment moments old.clock new.clock moment
      × AddsAnswer (numbers old.names) (numbers new.names) number
      × Steps old new cache number (commands.Put (put moment)) reply
