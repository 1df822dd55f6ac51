-- What a durable put moves to its content's place is synced, and has the digest of its address.
use Rattle.std.proofs.{lemmas.{Grind.{common_steps}, List.{append_cancel_left}}, Common.{◌≡◌, ℕ, true, List, [], ◌∷◌, ◌++◌, Option, None, Some, Result, Ok, Err, refl, sym, ap, subst, ◌∙◌, arith, append_assoc, append-nil}}
use Rattle.std.specs.Prelude.{IfOk}
use Rattle.cacache_core.specs.{declared.{errors.Fault.{Fault, TheVariants.{NotFound}}, integrity.digest.Hash.{Hash}}, Integrity.{IsHash}, Paths.{Names, home_of, names_below, names_of, content_names, joined}}
use Rattle.cacache_core.proofs.{JoinedNames.{joined_texts_name}, PathTexts.{paths_differ}, ProperNames.{names_are_proper}}
use Rattle.cacache_store.specs.{declared.store.plain.PlainTemp.{PlainTemp}, Plain.{PlainStep, PlainAnswer}}
use Rattle.cacache_store.specs.declared.store.step.Step.TheVariants as steps
use Rattle.cacache_store.specs.declared.store.answer.Answer.TheVariants as answers
use Rattle.cacache_disk.specs.{declared.luck.Luck.{Luck}, Tree.{Tree, look}, LedTo.{kept, known}, Apply.{apply, unless}}
use Rattle.cacache_calls.specs.{declared.{command.{Command.{Command}, Put.{Put}}, reply.Reply.{Reply}}, Steps.{content_path}, Table.{wants}}
use Rattle.cacache_calls.specs.declared.command.Command.TheVariants as commands
use Rattle.cacache_value.proofs.Shows.{apply_answer}
use Rattle.cacache_history.specs.{declared.record.Record.{Record, TheVariants.{Moved}}, AddedEntries.{address_of_put}, Setup.{call_site, home}, History.{Call, History, IsLegal, Made, initial, now_after, now_at}, Values.{steps_of}, durable.{QuietMoves.{FewCalls, AreQuiet, IsQuiet, IsQuietMove, PutsDurably}, Outlasting.{moment_at}}}
use Rattle.cacache_history.proofs.{Contents.{Carrying.{Makes, carries_makes, own_of}, Digests.{digest_hash}}, Histories.Holding.{CallHolds, held_at, legal_after, of_caller, replay_more}, durable.{DurableStates.{ready_file}, HeldTemps.{IsSynced, TempAt, temps_at}, Traces.{moment_more}}}
use Rattle.cacache_loss.specs.{Moments.{OfBytes, PutWell, PutsMove, PutsStep, EachMove, after}, LossLaws.{HasDigest}}

-- ---- no file is moved that isn't there

kept_none : (t : Tree) (path : List ℕ) (q : Names) → names_of path ≡ Ok q → look t q ≡ None → kept t path ≡ Err NotFound
unfolding kept
kept_none t path q named none = rw (named, none) refl

unmoved : (t : Tree) (here : Result (List ℕ) Fault) (old : Result Names Fault) (go : List ℕ → Names → PlainAnswer × Tree) → old ≡ Err NotFound
    → (unless here t (λ bytes. unless old t (go bytes))).0 ≡ answers.Done → ⊥
unmoved t here old go e done = grind (arith, common_steps)

moves_there : (t : Tree) (f : PlainTemp) (to : List ℕ) (luck : Luck) (q : Names) → names_of f.path ≡ Ok q → look t q ≡ None → (apply t (steps.Persist f to) luck).0 ≡ answers.Done → ⊥
moves_there t f to luck q named none =
    apply_answer (λ a. a ≡ answers.Done → ⊥) (λ fault e. absurd cc) t (steps.Persist f to) luck
    (λ most. unmoved t (known f.bytes) (kept t f.path) _ (kept_none t f.path q named none))

-- ---- addresses and their paths

content_named : (cache : List ℕ) (a : Hash) → IsHash a → names_of (content_path cache (a ∷ [])) ≡ names_below (home_of cache) (content_names a)
unfolding content_path
content_named cache a is = joined_texts_name cache (content_names a) (names_are_proper.contents a is) (omega arith)

-- two addresses with contents at one path are one
pub same_address : (cache : List ℕ) (folder : Names) (a b : Hash) (to : List ℕ) → home_of cache ≡ Some folder → IsHash a → IsHash b → to ≡ content_path cache (b ∷ [])
    → names_of to ≡ Ok (folder ++ content_names a) → a ≡ b
same_address cache folder a b to here is of to_is named =
    let whole : Ok (folder ++ content_names a) ≡ Ok (folder ++ content_names b)
    = sym named ∙ ap names_of to_is ∙ content_named cache b of ∙ ap (λ h. names_below h (content_names b)) here in
    let names : folder ++ content_names a ≡ folder ++ content_names b = cc in
    (paths_differ.contents cache a b is of).0 (ap (joined cache) (append_cancel_left folder (content_names a) (content_names b) names))

put_hash : (p : Put) → IsHash (address_of_put p)
put_hash p = digest_hash p.options.algorithm p.data

-- ---- what a durable put moves

-- the file goes to the content's place, has its digest, and is synced
pub record PersistsSynced (h : History) (before : List Record) (p : Put) (f : PlainTemp) (to : List ℕ) : Type 0 where
  pub to_is : to ≡ content_path h.setup.cache (address_of_put p ∷ [])
  pub good : OfBytes (HasDigest (address_of_put p)) f.bytes
  pub whole : IfOk (names_of f.path) (λ from. ((moment_at h before).fixed.files from).whole ≡ true)

put_bytes : (p : Put) (o : Option (List ℕ)) → o ≡ Some p.data → OfBytes (HasDigest (address_of_put p)) o
put_bytes p o e = subst (OfBytes (HasDigest (address_of_put p))) (sym e) refl

module _ (h : History) (legal : IsLegal h) (few : FewCalls h) (before rest : List Record) (is : h.records ≡ before ++ rest) (caller : ℕ) (call : Call)
    (at : (now_at h before).calls caller ≡ Some call) where
  mine : CallHolds h.setup call
  mine = of_caller h.setup call _ at ((held_at h legal before rest is).calls caller)

  makes : (f : PlainTemp) (to : List ℕ) → wants call.state ≡ Some (steps.Persist f to) → Makes (own_of (call_site h.setup call.number) call.command) (steps.Persist f to)
  makes f to w = carries_makes (own_of (call_site h.setup call.number) call.command) call.state (steps.Persist f to) mine.carries w

  synced_file : (f : PlainTemp) (to : List ℕ) (p : Put) → wants call.state ≡ Some (steps.Persist f to) → call.command ≡ commands.Put p → p.options.durable ≡ true
      → IsSynced (moment_at h before) f
  synced_file f to p w put durable =
      let temp : TempAt (moment_at h before) (Some call) = subst (TempAt (moment_at h before)) at ((temps_at h legal few before rest is).temps caller) in
      ready_file (IsSynced (moment_at h before)) call.state f to (temp p put durable) w

  whole_there : (f : PlainTemp) (to : List ℕ) (luck : Luck) (r : Result Names Fault) → names_of f.path ≡ r → (apply (now_at h before).tree (steps.Persist f to) luck).0 ≡ answers.Done
      → IsSynced (moment_at h before) f → IfOk r (λ from. ((moment_at h before).fixed.files from).whole ≡ true)
  whole_there f to luck r named done synced = grind (arith, moves_there, temps_at)

  put_makes : (f : PlainTemp) (to : List ℕ) (p : Put) → wants call.state ≡ Some (steps.Persist f to) → call.command ≡ commands.Put p
      → Makes (own_of (call_site h.setup call.number) (commands.Put p)) (steps.Persist f to)
  put_makes f to p w put = subst (λ c. Makes (own_of (call_site h.setup call.number) c) (steps.Persist f to)) put (makes f to w)

  pub persists : (f : PlainTemp) (to : List ℕ) (luck : Luck) (p : Put) → wants call.state ≡ Some (steps.Persist f to)
      → (apply (now_at h before).tree (steps.Persist f to) luck).0 ≡ answers.Done → call.command ≡ commands.Put p → p.options.durable ≡ true → PersistsSynced h before p f to
  persists f to luck p w done put durable =
      let m = put_makes f to p w put in
      record {
        to_is = m.1;
        good = put_bytes p f.bytes (m.0.1 ∙ ap Some (sym (append-nil m.0.0) ∙ m.0.2));
        whole = whole_there f to luck (names_of f.path) refl done (synced_file f to p w put durable);
      }

  -- a file that is moved to a content's path is that of a durable put of its address
  module _ (folder : Names) (here : home h.setup ≡ Some folder) (a : Hash) (is_hash : IsHash a) where
    abbrev path : Names
    path = folder ++ content_names a

    put_good : (f : PlainTemp) (to : List ℕ) (luck : Luck) (p : Put) → PersistsSynced h before p f to → names_of to ≡ Ok path
        → OfBytes (HasDigest a) f.bytes × IfOk (names_of f.path) (λ from. ((moment_at h before).fixed.files from).whole ≡ true)
    put_good f to luck p s named =
        let same = same_address h.setup.cache folder a (address_of_put p) to here is_hash (put_hash p) s.to_is named in
        (subst (λ b. OfBytes (HasDigest b) f.bytes) (sym same) s.good, s.whole)

    no_names : (to : List ℕ) (q : Names) → to ≡ [] → names_of to ≡ Ok q → ⊥
    unfolding names_of
    no_names to q none named = let e : Err NotFound ≡ Ok q = ap names_of (sym none) ∙ named in absurd cc

    moved_good : (f : PlainTemp) (to : List ℕ) (luck : Luck) (command : Command) → wants call.state ≡ Some (steps.Persist f to)
        → (apply (now_at h before).tree (steps.Persist f to) luck).0 ≡ answers.Done → call.command ≡ command → Makes (own_of (call_site h.setup call.number) command) (steps.Persist f to)
        → PutsDurably path command (steps.Persist f to) → names_of to ≡ Ok path
        → OfBytes (HasDigest a) f.bytes × IfOk (names_of f.path) (λ from. ((moment_at h before).fixed.files from).whole ≡ true)
    moved_good f to luck (commands.Put p) w done put own durable named = put_good f to luck p (persists f to luck p w done put (durable named)) named
    moved_good f to luck (commands.Link l) w done put own durable named = absurd own.0.2
    moved_good f to luck command w done put own durable named = absurd (no_names to path own.1 named)

    pub step_puts : (step : PlainStep) (answer : PlainAnswer) (luck : Luck) → wants call.state ≡ Some step → answer ≡ (apply (now_at h before).tree step luck).0
        → PutsDurably path call.command step → PutsStep (HasDigest a) path (moment_at h before) step answer
    step_puts step answer luck w told durable = grind (arith, moved_good, makes)

-- ---- all moves of quiet calls

module _ (h : History) (legal : IsLegal h) (few : FewCalls h) (folder : Names) (here : home h.setup ≡ Some folder) (a : Hash) (is_hash : IsHash a) where
  abbrev path_of : Names
  path_of = folder ++ content_names a

  move_puts : (past todo : List Record) (caller : ℕ) (luck : Luck) (made : Made) (told : Option Reply) → h.records ≡ past ++ Moved caller luck (Some made) told ∷ todo
      → IsQuietMove path_of ((now_at h past).calls caller) (Some made) → PutsStep (HasDigest a) path_of (moment_at h past) made.0 made.1
  move_puts past todo caller luck made told is quiet =
      let may = (legal_after h legal past (Moved caller luck (Some made) told ∷ todo) is).0 in
      step_puts h legal few past (Moved caller luck (Some made) told ∷ todo) is caller may.0 may.1 folder here a is_hash made.0 made.1 luck may.2.0 may.2.1
      (subst (λ o. IsQuietMove path_of o (Some made)) may.1 quiet).1

  -- after one record more
  on_from : (past todo : List Record) (r : Record) → AreQuiet h.setup path_of (now_after h.setup (now_at h past) r) todo → AreQuiet h.setup path_of (now_at h (past ++ r ∷ [])) todo
  on_from past todo r quiet = subst (λ w. AreQuiet h.setup path_of w todo) (sym (replay_more h.setup (initial h.setup) past (r ∷ []))) quiet

  puts_well : (past todo : List Record) → h.records ≡ past ++ todo → AreQuiet h.setup path_of (now_at h past) todo
      → EachMove (PutsMove (HasDigest a) path_of) (moment_at h past) (steps_of todo)
  puts_well past [] is quiet = tt
  puts_well past (r ∷ todo) is quiet =
      by r is quiet.0
      (subst (λ m. EachMove (PutsMove (HasDigest a) path_of) m (steps_of todo)) (moment_more h past (r ∷ []))
      (puts_well (past ++ r ∷ []) todo (is ∙ sym (append_assoc past (r ∷ []) todo)) (on_from past todo r quiet.1)))
    where
      by : (r : Record) → h.records ≡ past ++ r ∷ todo → IsQuiet path_of (now_at h past) r
          → EachMove (PutsMove (HasDigest a) path_of) (after (moment_at h past) (steps_of (r ∷ []))) (steps_of todo) → EachMove (PutsMove (HasDigest a) path_of) (moment_at h past) (steps_of (r ∷ todo))
      by (Moved caller luck (Some made) told) is quiet more = (move_puts past todo caller luck made told is quiet, more)
      by r is quiet more = more

-- what quiet moves move to a content's path has its digest, and is synced
pub put_well_at : (h : History) → IsLegal h → FewCalls h → (before rest : List Record) → h.records ≡ before ++ rest → (folder : Names) → home h.setup ≡ Some folder → (a : Hash) → IsHash a
    → AreQuiet h.setup (folder ++ content_names a) (now_at h before) rest → PutWell (HasDigest a) (folder ++ content_names a) (moment_at h before) (steps_of rest)
put_well_at h legal few before rest is folder here a is_hash quiet = puts_well h legal few folder here a is_hash before rest is quiet
