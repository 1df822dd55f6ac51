-- A content that is a link is of bytes that its target held when its call opened it.
use Rattle.std.proofs.{Common.{arith, rules, ◌≡◌, inl, inr, ℕ, true, List, [], ◌∷◌, ◌++◌, Option, None, Some, option_map, Result, Ok, refl, sym, ap, subst, ◌∙◌, append_assoc, append-nil}, lemmas.Grind.{common_steps}}
use Rattle.cacache_core.specs.{declared.{errors.{Fault.{Fault}, Error.TheVariants.{OutOfMemory}}, integrity.digest.Hash.{Hash}}, Integrity.{IsHash}, Paths.{Names, content_names}}
use Rattle.cacache_core.specs.declared.errors.Fault.TheVariants as faults
use Rattle.cacache_store.specs.{declared.store.plain.PlainFile.{PlainFile}, Plain.{PlainAnswer}}
use Rattle.cacache_store.specs.declared.store.step.Step.TheVariants as steps
use Rattle.cacache_store.specs.declared.store.answer.Answer.TheVariants as answers
use Rattle.cacache_disk.specs.{declared.luck.Luck.{Luck}, Tree.{Tree}, LedTo.{file_at}, Apply.{apply, unless, opened, made_up}}
use Rattle.cacache_calls.specs.{declared.{command.Command.{Command}, reply.Reply.{Reply, TheVariants.{Refused}}}, Linking.{link_target, commit_for}, Table.{opening}}
use Rattle.cacache_calls.specs.declared.command.Command.TheVariants as commands
use Rattle.cacache_value.specs.{Acts.{PutLink, act_of, change}, Kinds.{is_path_of}, Shows.{ShowsContent}, Value.{AtLink, Value, wide_value}}
use Rattle.cacache_value.proofs.{Shows.{apply_answer}, Traces.{steps_act}}
use Rattle.cacache_history.specs.{declared.record.Record.{Record, TheVariants.{Began, Moved, Stopped}}, Setup.{call_site, home}, History.{History, Turn, Call, Made, initial, turn_of, call_after, now_at, IsLegal, Reaches}, Turns.{made_in, EachTurn, TurnAt}, Values.{value_at, HasDigest}, Commits.{does, deeds, ReadsTarget, LinksTo, IsCase}, AddedEntries.{IsAmong}, LinkedContents.{HeldOnce, OnceHeld, LinksWereRight, LinksAreRight}}
use Rattle.cacache_history.proofs.{Contents.{Carrying.{own_of, Makes, carries_makes}, Commits.{commits_are_cases, link_step, from_act, among_last, link_deed, not_among, committed}, OpenedContents.{on_disks, EachAsks, OnDisks, run_asks, gives_all}, Righted.{put_at}}, Histories.{Holding.{TurnsHold, of_caller, made_proper, replay_more, legal_before, legal_after, held_at}, ShownTurns.{first_turn}, Places.{reached, lost_run, reached_turns}, Values.{value_follows_acts}}}

-- ---- what an opening shows

made_up_file : (r : Result (List ℕ) Fault) (fault : Fault) → ShowsContent r (answers.Failed (made_up fault))
made_up_file r fault = grind (arith, common_steps)

file_shown : (t : Tree) (r : Result (List ℕ) Fault) → ShowsContent r (unless r t (λ bytes. (answers.File (opened bytes), t))).0
file_shown t r = grind (arith, common_steps)

-- the open file has the bytes of the one that the path leads to
file_given : (t : Tree) (path : List ℕ) (luck : Luck) (a : PlainAnswer) (file : PlainFile) → a ≡ (apply t (steps.Open path) luck).0 → a ≡ answers.File file
    → ShowsContent (file_at t path faults.IsADirectory) (answers.File file)
file_given t path luck a file is answer =
    subst (ShowsContent (file_at t path faults.IsADirectory)) (sym is ∙ answer)
    (apply_answer (ShowsContent (file_at t path faults.IsADirectory)) (made_up_file (file_at t path faults.IsADirectory)) t (steps.Open path) luck
    (λ most. file_shown t (file_at t path faults.IsADirectory)))

-- ---- the target when a call opened it

module _ (h : History) (legal : IsLegal h) (call : Call) (reply : Option Reply) (reaches : Reaches h call reply) where
  target_held : (path : List ℕ) (P : List ℕ → Type 0) → ReadsTarget path P (made_in call.turns) → (bytes : List ℕ) × P bytes × HeldOnce h h.records path bytes
  target_held path P read =
      let x = reached h legal call reply reaches in
      let w = read.3 in
      let f = first_turn (steps.Size path) (answers.Length read.0) read.1 call.turns read.2 in
      let g = first_turn (steps.Open path) (answers.File w.0) w.2 f.rest (f.rest_is ∙ w.3) in
      let hold = subst (TurnsHold h.setup) g.all (subst (TurnsHold h.setup) f.all x.holds.turns).1 in
      let at = (subst (EachTurn (TurnAt h)) g.all (subst (EachTurn (TurnAt h)) f.all (reached_turns h call reply reaches)).1).0 in
      let asks = (subst EachAsks w.3 (subst EachAsks read.2 (run_asks (opening (call_site h.setup call.number) call.command) (made_in call.turns) (Refused OutOfMemory) (lost_run h call reply x))).1).1 in
      let given = file_given g.turn.place path g.turn.move.luck g.turn.move.answer w.0
      (hold.0.answered ∙ ap (λ step. (apply g.turn.place step g.turn.move.luck).0) g.step_is) g.answer_is in
      let same : w.1 ≡ given.0 = gives_all w.0 w.1 given.0 w.2 given.2 (subst OnDisks g.rest_is (on_disks h.setup g.rest hold.1)) asks w.4 in
      let place : g.turn.place ≡ (now_at h at.before).tree = ap (λ (t : Turn). t.place) at.turn_is in (
        w.1,
        w.5,
        record {
          past = at.before;
          more = Moved at.caller at.luck (Some at.made) at.reply ∷ at.later;
          is = at.is;
          held = ap (λ t. file_at t path faults.IsADirectory) (sym place) ∙ given.1 ∙ ap Ok (sym same);
        },
      )

-- ---- the last record of a history

module _ (h : History) (legal : IsLegal h) (past : List Record) (caller : ℕ) (luck : Luck) (made : Made) (reply : Option Reply)
    (is : h.records ≡ past ++ Moved caller luck (Some made) reply ∷ []) (a : Hash) (is_hash : IsHash a) (names : Names) (target : List ℕ)
    (puts : act_of made.0 luck made.1 ≡ PutLink names target) (here : is_path_of (home h.setup) (content_names a) names ≡ true) where
  by_command : (call : Call) → Reaches h call reply → IsAmong (does (PutLink names target)) (deeds call.turns) → (path : List ℕ) (command : Command)
      → Makes (own_of (call_site h.setup call.number) command) (steps.Symlink target path) → IsCase (call_site h.setup call.number) command call.turns reply → OnceHeld h h.records a target
  by_command call reaches among path (commands.Link l) makes (inl nothing) = absurd (not_among names target (deeds call.turns) nothing.0 among)
  by_command call reaches among path (commands.Link l) makes (inr read) =
      let t = link_target (call_site h.setup call.number) l in
      let k = target_held h legal call reply reaches t.path (LinksTo t call.turns reply) read in
      let place = committed names target (commit_for t k.0) t.path (deeds call.turns) reply k.1.1 among in
      (k.0, put_at h.setup.cache l.options.algorithm k.0 names place a is_hash here, subst (λ p. HeldOnce h h.records p k.0) (sym makes) k.2)
  by_command call reaches among path command makes case = absurd makes

  put_last : OnceHeld h h.records a target
  put_last =
      let last = Moved caller luck (Some made) reply in
      let may = (legal_after h legal past (last ∷ []) is).0 in
      let mine = of_caller h.setup may.0 _ may.1 ((held_at h legal past (last ∷ []) is).calls caller) in
      let step = link_step made.0 luck made.1 names target puts in
      let own = own_of (call_site h.setup may.0.number) may.0.command in
      let makes = subst (Makes own) step.1 (carries_makes own may.0.state made.0 mine.carries may.2.0) in
      let call = call_after (now_at h past).tree luck (Some made) may.0 in
      let reaches : Reaches h (call_after (now_at h past).tree luck (Some made) may.0) reply
      = record { before = past; later = []; caller = caller; luck = luck; made = Some made; is = is; stands = ap (option_map (call_after (now_at h past).tree luck (Some made))) may.1 } in
      let among = among_last (does (PutLink names target)) may.0.turns (turn_of (now_at h past).tree luck made) (link_deed names target (turn_of (now_at h past).tree luck made).move puts) in
      by_command call reaches among step.0 may.0.command makes (commits_are_cases h legal call reply reaches)

-- ---- all records

-- the links after these records
abbrev WereRight : History → List Record → Type 0
WereRight h before = (a : Hash) (target : List ℕ) → IsHash a → (value_at h before).contents a ≡ Some (AtLink target) → OnceHeld h before a target

module _ (h : History) (legal : IsLegal h) where
  still_held : (past : List Record) (r : Record) (a : Hash) (target : List ℕ) → OnceHeld h past a target → OnceHeld h (past ++ r ∷ []) a target
  still_held past r a target x = (
    x.0,
    x.1,
    record { past = x.2.past; more = x.2.more ++ r ∷ []; is = ap (λ l. l ++ r ∷ []) x.2.is ∙ append_assoc x.2.past x.2.more (r ∷ []); held = x.2.held },
  )

  -- a record that leaves the tree
  same_tree : (past : List Record) (r : Record) → (now_at h (past ++ r ∷ [])).tree ≡ (now_at h past).tree → WereRight h past → WereRight h (past ++ r ∷ [])
  same_tree past r tree right a target is_hash e = search (rules, still_held)

  move_right : (past later : List Record) (caller : ℕ) (luck : Luck) (made : Made) (reply : Option Reply) → h.records ≡ past ++ Moved caller luck (Some made) reply ∷ later
      → WereRight h past → WereRight h (past ++ Moved caller luck (Some made) reply ∷ [])
  move_right past later caller luck made reply is right a target is_hash e =
      let last = Moved caller luck (Some made) reply in
      let short : History = record { setup = h.setup; records = past ++ Moved caller luck (Some made) reply ∷ [] } in
      let front : IsLegal short
      = record { apart = legal.apart; opens = legal.opens; legal = legal_before h legal (past ++ last ∷ []) later (is ∙ sym (append_assoc past (last ∷ []) later)) } in
      let may = (legal_after h legal past (last ∷ later) is).0 in
      let all = held_at h legal past (last ∷ later) is in
      let mine = of_caller h.setup may.0 _ may.1 (all.calls caller) in
      let t = (now_at h past).tree in
      let tree : (now_at h (past ++ Moved caller luck (Some made) reply ∷ [])).tree ≡ (apply (now_at h past).tree made.0 luck).1
      = ap (λ w. w.tree) (replay_more h.setup (initial h.setup) past (last ∷ [])) in
      let act = steps_act (home h.setup) t made.0 luck all.placed (made_proper h.setup legal.apart t luck made reply may.0 mine may.2) in
      let changed : (change (home h.setup) (act_of made.0 luck made.1) (wide_value (home h.setup) (now_at h past).tree)).contents a ≡ Some (AtLink target)
      = ap (λ x. (change (home h.setup) (act_of made.0 luck x) (wide_value (home h.setup) (now_at h past).tree)).contents a) may.2.1
      ∙ ap (λ (v : Value). v.contents a) (sym act) ∙ ap (λ x. (wide_value (home h.setup) x).contents a) (sym tree) ∙ e in
      elim (from_act (home h.setup) (wide_value (home h.setup) t) (act_of made.0 luck made.1) a target changed) [
        | inl old ↦ still_held past last a target (right a target is_hash old)
        | inr new ↦
            let x = put_last short front past caller luck made reply refl a is_hash new.0 target new.1 new.2 in
            (x.0, x.1, record { past = x.2.past; more = x.2.more; is = x.2.is; held = x.2.held })
      ]

  next_right : (past later : List Record) (r : Record) → h.records ≡ past ++ r ∷ later → WereRight h past → WereRight h (past ++ r ∷ [])
  next_right past later (Began caller command) is right = search (rules, same_tree, replay_more)
  next_right past later (Moved caller luck None reply) is right = search (rules, same_tree, replay_more)
  next_right past later (Moved caller luck (Some made) reply) is right = move_right past later caller luck made reply is right
  next_right past later (Stopped caller) is right = search (rules, same_tree, replay_more)

  all_right : (past todo later : List Record) → h.records ≡ past ++ (todo ++ later) → WereRight h past → WereRight h (past ++ todo)
  all_right past [] later is right = subst (WereRight h) (sym (append-nil past)) right
  all_right past (r ∷ todo) later is right =
      subst (WereRight h) (append_assoc past (r ∷ []) todo)
      (all_right (past ++ r ∷ []) todo later (is ∙ sym (append_assoc past (r ∷ []) (todo ++ later))) (next_right past (todo ++ later) r is right))

  pub links_were_right : LinksWereRight h
  links_were_right before later is =
      all_right [] before later is
      (λ a target is_hash e. let none : None ≡ Some (AtLink target) = ap (λ (v : Value). v.contents a) (sym (value_follows_acts h legal).nothing) ∙ e in absurd cc)

  pub links_are_right : LinksAreRight h
  links_are_right target bytes always before later is a is_hash e =
      let x = links_were_right before later is a target is_hash e in
      let whole : h.records ≡ x.2.past ++ (x.2.more ++ later) = is ∙ ap (λ l. l ++ later) x.2.is ∙ append_assoc x.2.past x.2.more later in
      let same : Ok x.0 ≡ Ok bytes = sym x.2.held ∙ always x.2.past (x.2.more ++ later) whole in
      let is_bytes : x.0 ≡ bytes = cc in
      subst (HasDigest a) is_bytes x.1
