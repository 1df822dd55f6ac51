-- Calls that read do nothing to the value, and answer bytes that meet their integrity.
use native.Mathlib.Omega.{arith}
use Rattle.std.proofs.Common.{◌≡◌, inl, inr, ℕ, List, [], ◌∷◌, Some, refl, sym, ap, subst, ◌∙◌}
use Rattle.sha1.specs.Sha1.{sha1}
use Rattle.cacache_core.specs.declared.integrity.digest.Hash.{Hash}
use Rattle.cacache_store.specs.declared.store.step.Step.TheVariants as steps
use Rattle.cacache_store.specs.Plain.{PlainStep, PlainAnswer}
use Rattle.cacache_disk.specs.declared.luck.Luck.{Luck}
use Rattle.cacache_calls.specs.{declared.{command.{Command.{Command}, How.{How, TheVariants.{Copy, Reflink, HardLink}}}, reply.Reply.TheVariants.{Read}}, Steps.{bucket_path}, Promises.{Exports}, Replies.{bucket_shown, lookup, BeginsWithBucket, MeetsFound}, Runs.{Moves, Runs, Goes}, State.{State, Site}, Table.{opening}, Licence.{May, allows, handing_out, AllMay}}
use Rattle.cacache_calls.proofs.{Within.{begins_within, goes_allowed}, Promises.{calls_answer}, Replies.{gets_meet}}
use Rattle.cacache_calls.specs.declared.command.Command.TheVariants as commands
use Rattle.cacache_calls.specs.declared.command.Source.TheVariants as sources
use Rattle.cacache_value.specs.Acts.{Nothing, act_of}
use Rattle.cacache_history.specs.{Setup.{Setup, call_site}, History.{History, Turn, IsLegal}, Turns.{made_in, EachTurn, bucket_read}, ReadingCalls.{IsReading, TurnDoesNothing, ReadersDoNothing, MeetsLookup, IsVerified, ReadsAreVerified}}
use Rattle.cacache_history.proofs.Histories.{Holding.{TurnsHold}, ShownTurns.{bucket_below, bucket_at_turn, first_turn}, Places.{reached, reply_run}}

-- ---- they do nothing

-- a step that hands out at most does nothing, whatever its luck and its answer
step_idle : (step : PlainStep) → May (allows handing_out step) → (luck : Luck) (a : PlainAnswer) → act_of step luck a ≡ Nothing
step_idle (steps.ReadAll p) may luck a = refl
step_idle (steps.Open p) may luck a = refl
step_idle (steps.Read f max) may luck a = refl
step_idle (steps.Exists p) may luck a = refl
step_idle (steps.Size p) may luck a = refl
step_idle (steps.Copy p q) may luck a = refl
step_idle (steps.Reflink p q) may luck a = refl
step_idle (steps.HardLink p q) may luck a = refl
step_idle (steps.ReadDir p) may luck a = refl
step_idle step may luck a = absurd may

each_idle : (turns : List Turn) → AllMay handing_out (made_in turns) → EachTurn TurnDoesNothing turns
each_idle [] may = tt
each_idle (turn ∷ turns) may = (step_idle turn.move.step may.0 turn.move.luck turn.move.answer, each_idle turns may.1)

pub readings_do_nothing : (site : Site) (command : Command) (end : State) (turns : List Turn) → IsReading command → Goes (opening site command) (made_in turns) end → EachTurn TurnDoesNothing turns
readings_do_nothing site command end turns reads goes =
    each_idle turns (goes_allowed handing_out (opening site command) end (made_in turns) (begins_within handing_out site command reads) goes)

pub readers_do_nothing : (h : History) → IsLegal h → ReadersDoNothing h
readers_do_nothing h legal call reply reaches reads =
    readings_do_nothing (call_site h.setup call.number) call.command call.state call.turns reads (reached h legal call reply reaches).holds.goes

-- ---- bytes that a read answers

looked : (s : Setup) (key : List ℕ) (turns : List Turn) (bytes : List ℕ) (t : PlainAnswer) (more : Moves) → TurnsHold s turns → BeginsWithBucket s.cache key t more (made_in turns)
    → MeetsFound key t bytes → MeetsLookup s key turns bytes
looked s key turns bytes t more hold begins met =
    let f = first_turn (steps.ReadAll (bucket_path s.cache key)) t more turns begins in
    let holds = subst (TurnsHold s) f.all hold in
    let same : bucket_shown t ≡ bucket_read s (sha1 key) f.turn
    = ap bucket_shown (sym f.answer_is) ∙ bucket_at_turn s f.turn holds.0 (bucket_path s.cache key) (sha1 key) f.step_is (bucket_below s key) in
    (f.turn, f.rest, f.all, f.step_is, met.0, ap (lookup key) (sym same) ∙ met.1, met.2)

-- an export answers no bytes
no_bytes : (how : How) (bytes : List ℕ) → Exports how (Read bytes) → ⊥
no_bytes Copy bytes h = h
no_bytes how bytes h = absurd cc

module _ (s : Setup) (n : ℕ) (turns : List Turn) (bytes : List ℕ) (hold : TurnsHold s turns) where
  is_verified : (command : Command) → Runs (opening (call_site s n) command) (made_in turns) (Read bytes) → IsVerified s command turns bytes
  is_verified (commands.GetHash i) run = calls_answer (call_site s n) (commands.GetHash i) (made_in turns) (Read bytes) run
  is_verified (commands.Get key) run =
      let m = gets_meet (call_site s n) key (made_in turns) bytes run in
      looked s key turns bytes m.0 m.1 hold m.2 m.3
  is_verified (commands.Export (sources.Key key) e) run =
      absurd (no_bytes e.how bytes (calls_answer (call_site s n) (commands.Export (sources.Key key) e) (made_in turns) (Read bytes) run))
  is_verified (commands.Export (sources.Hash i) e) run =
      absurd (no_bytes e.how bytes (calls_answer (call_site s n) (commands.Export (sources.Hash i) e) (made_in turns) (Read bytes) run).0)
  is_verified command run = let h = calls_answer (call_site s n) command (made_in turns) (Read bytes) run in grind arith

pub reads_are_verified : (h : History) → IsLegal h → ReadsAreVerified h
reads_are_verified h legal call bytes reaches =
    let x = reached h legal call (Some (Read bytes)) reaches in
    elim (reply_run h call (Read bytes) x) [
      | inl e ↦ absurd cc
      | inr run ↦ is_verified h.setup call.number call.turns bytes x.holds.turns call.command run
    ]
