-- Each reply of a call that reads is what its turns show.
use Rattle.std.proofs.{Common.{arith, rules, ◌≡◌, ◌⊎◌, inl, inr, ℕ, List, Some, sym, subst, Bool, true}, lemmas.Grind.{common_steps}}
use Rattle.cacache_core.specs.declared.errors.Error.TheVariants.{OutOfMemory}
use Rattle.cacache_calls.specs.{declared.{command.Command.{Command}, reply.Reply.{Reply, TheVariants.{Refused}}}, Promises.{HasCause, own_of}, Runs.{Runs, plain_reply}, Table.{opening}, Verifying.{UnlessRefused}}
use Rattle.cacache_calls.proofs.{Replies.{finds_shown, gets_shown, reads_shown, exists_shown}, EarnedErrors.{io_errors_have_causes}, Verifying.{exports_verify}}
use Rattle.cacache_calls.specs.declared.command.Command.TheVariants as commands
use Rattle.cacache_history.specs.{Setup.{Setup, call_site}, History.{Turn, History, NamesIntegrity, IsLegal}, Turns.{made_in, EachTurn}, TurnReplies.{ReadsValue, RepliesReadValue, RepliesHaveCauses, IfChecked}}
use Rattle.cacache_history.proofs.{Histories.{Holding.{TurnsHold}, Places.{reached, reply_run, memory_plain}, ShownTurns.{finds, reads, asks, gets}}, Contents.OpenedContents.{run_asks, exports}, Entries.Bucketed.{KeyedTurn, turns_keyed}, Listings.ListingTurns.{lists}}

module _ (s : Setup) (n : ℕ) where
  if_checked : (b : Bool) (X : Type 0) → (b ≡ true → X) → IfChecked b X
  if_checked b X h = grind (arith, common_steps)

  unless_refused : (X Y : Type 0) (r : Reply) → (X → Y) → UnlessRefused X r → UnlessRefused Y r
  unless_refused X Y r h x = grind (arith, common_steps)

  pub reads_value : (command : Command) (turns : List Turn) (r : Reply) → NamesIntegrity command → TurnsHold s turns → EachTurn (KeyedTurn s) turns → Runs (opening (call_site s n) command) (made_in turns) r
      → (r ≡ Refused OutOfMemory) ⊎ ReadsValue s command turns r
  reads_value (commands.Find key) turns r named hold keyed run =
      elim (finds_shown (call_site s n) key (made_in turns) r run) [ inl e ↦ inl e | inr h ↦ inr (finds s key turns r hold h) ]
  reads_value (commands.Get key) turns r named hold keyed run =
      elim (gets_shown (call_site s n) key (made_in turns) r run) [ inl e ↦ inl e | inr h ↦ inr (gets s key turns r h.0 h.1 hold h.2 h.3) ]
  reads_value (commands.GetHash i) turns r named hold keyed run =
      elim (reads_shown (call_site s n) i (made_in turns) r run) [ inl e ↦ inl e | inr h ↦ inr (reads s i turns r named hold h) ]
  reads_value (commands.Exists i) turns r named hold keyed run =
      elim (exists_shown (call_site s n) i (made_in turns) r run) [ inl e ↦ inl e | inr h ↦ inr (asks s i turns r named hold h) ]
  reads_value commands.Ls turns r named hold keyed run = lists s n turns r hold keyed run
  reads_value (commands.Export source e) turns r named hold keyed run = search (rules, if_checked, unless_refused, exports, run_asks, exports_verify)
  reads_value other turns r named hold keyed run = inr tt

pub replies_read_value : (h : History) → IsLegal h → RepliesReadValue h
replies_read_value h legal call r reaches =
    let x = reached h legal call (Some r) reaches in
    elim (reply_run h call r x) [
      | inl e ↦ inl e
      | inr run ↦
          elim (reads_value h.setup call.number call.command call.turns (plain_reply r) x.holds.named x.holds.turns (turns_keyed h legal call (Some r) reaches) run) [
            | inl e ↦ inl (memory_plain r e)
            | inr reads ↦ inr reads
          ]
    ]

pub io_errors_are_caused : (h : History) → IsLegal h → RepliesHaveCauses h
io_errors_are_caused h legal call r reaches =
    let x = reached h legal call (Some r) reaches in
    elim (reply_run h call r x) [
      | inl e ↦ subst (λ reply. HasCause (own_of call.command) (made_in call.turns) (plain_reply reply)) (sym e) tt
      | inr run ↦ io_errors_have_causes (call_site h.setup call.number) call.command (made_in call.turns) (plain_reply r) run
    ]
