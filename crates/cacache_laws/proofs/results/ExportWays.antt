-- What comes of an export by the first way that is open, to a path that was asked for first.
use Rattle.std.proofs.{Common.{arith, ◌≡◌, ◌⊎◌, inl, inr, ℕ, Bool, true, false, List, [], ◌∷◌, Option, Some, option_map, Result, Ok, Err, refl, sym, ap, subst, ◌∙◌}, lemmas.Grind.{common_steps}}
use Rattle.std.specs.Prelude.{IfErr, MatchBool, MatchResult}
use Rattle.cacache_core.specs.{declared.{errors.{Error.{Error, TheVariants.{EntryNotFound, IoError, IntegrityError, OutOfMemory}}, Fault.{Fault, TheVariants.{NotFound}}}, integrity.digest.Hash.{Hash}}, Integrity.{address}, Paths.{Names, home_of}}
use Rattle.cacache_store.specs.{declared.{env.Env.{Env}, store.log.LogItem.{LogItem}}, Plain.{PlainAnswer}}
use Rattle.cacache_store.specs.declared.store.answer.Answer.TheVariants as answers
use Rattle.cacache_store.specs.declared.store.step.Step.TheVariants as steps
use Rattle.cacache_disk.specs.{declared.{luck.Luck.TheVariants.{Plain}, node.Node.{Node}}, Apply.{apply}, LedTo.{and_then, free, linked, linked_in, place, where_free}, Tree.{Tree, look}, Replay.{IsLog, tree_of}}
use Rattle.cacache_entry.specs.Bucket.{Found}
use Rattle.cacache_calls.specs.{Answers.{done_in}, SingleSteps.{Does}, declared.{answers.Refusal.{Refusal}, command.{How.{How, TheVariants.{HardLink}}, Source.{Source}}}, Runs.{plain_reply, reply_of}}
use Rattle.cacache_calls.specs.declared.answers.Refusal.TheVariants as refusals
use Rattle.cacache_sync.specs.{declared.ways.{Exported.{Exported}, ExportMode.{ExportMode}}, Exports.{checked_export, Asks, AsksFree, ExportsBy, GoesOn, Tries, export_reply, free_in, is_closed, ways}}
use Rattle.cacache_sync.specs.declared.ways.Exported.TheVariants as exporteds
use Rattle.cacache_calls.specs.declared.command.Source.TheVariants as sources
use Rattle.cacache_value.specs.{Shows.{blob_bytes}, Value.{value_of_tree}}
use Rattle.cacache_history.specs.{History.{NamesSource}, Turns.{blob_at}}
use Rattle.cacache_laws.specs.{Caches.{Grows, IsCache, IsExcused}, ExportEffects.{IsApart, NamesBytes, Arrives}, Beside.{StaysKnown}, Looks.{bytes_under}, OpenSucceeds.{MayTake, exported}, OpenWriters.{LeavesKnownCache}, Sequence.{IsSound}, Succeeds.{NamesFolder}, results.{Composed.{ExportMeans, IsTaken, WentOut}, Exports.{FailsExport, NamesHeld, RefusesSource}, Success.{FailsFor, FailsForMemory}}}
use Rattle.cacache_laws.proofs.{Calls.{InParts.{logs_lead}, Replays.{excuses_last, growths_join, some_same}, CallErrors.{excused_error}}, Putting.OpenWriters.{excused_step, gains_grow}, Readings.{GivenReads.{same_stays_known}, Standing.{caches_stand}}, Spares.Unused.{unchanged}, Exports.Exported.{exports_arrive}, Sure.{SureCopies.{exports_succeed}, SureExports.{exports_answer}}, results.{ExportResults.{Answered, fails_so, is_given, leaves, may_take, refuses_so}, Told.{leavings_join, called, front, steps_grow}, SureResults.{IsGiven, for_memory}}}

plain : (e : Exported) → plain_reply (export_reply e) ≡ export_reply e
plain e = grind (arith, common_steps)

given : (e : Exported) → IsGiven (export_reply e)
given e = grind (arith, common_steps)

-- ---- a way that is closed

closed_told : (tried : Result Exported Error) (wanted : Error) → is_closed tried ≡ true → FailsFor wanted tried → (fault : Fault) × (wanted ≡ IoError fault [])
closed_told tried wanted closed h = grind (arith, common_steps)

closed_memory : (tried : Result Exported Error) → is_closed tried ≡ true → FailsForMemory tried → ⊥
closed_memory tried closed wrong = grind (arith, common_steps)

closed_tree : (tried : Result Exported Error) (old mid : List LogItem) → is_closed tried ≡ true → IfErr tried (λ e. (e ≡ OutOfMemory) ⊎ (tree_of mid ≡ tree_of old)) → tree_of mid ≡ tree_of old
closed_tree (Err (IoError fault message)) old mid closed (inl wrong) = absurd cc
closed_tree (Err (IoError fault message)) old mid closed (inr same) = same
closed_tree tried old mid closed stays = absurd cc

module _ (cache : List ℕ) (source : Source) (to : List ℕ) where
  -- what comes of the ways, whatever is at the path
  record Went (r : Result Exported Error) (old new : List LogItem) : Type 0 where
    leaves : LeavesKnownCache cache old new
    arrives : (bytes : List ℕ) → NamesBytes cache source bytes old → MatchResult r (λ e. Arrives bytes to (export_reply e) old new) (λ e. IsExcused e old new)
    succeeds : (bytes : List ℕ) → NamesFolder cache → NamesBytes cache source bytes old → MayTake HardLink to old → FailsForMemory r
    refuses : NamesFolder cache → RefusesSource cache source true r old
    stays : NamesFolder cache → IfErr r (λ e. (e ≡ OutOfMemory) ⊎ (tree_of new ≡ tree_of old))

  -- ---- one way

  arrived : (r : Result Exported Error) (bytes : List ℕ) (old new : List LogItem) → Arrives bytes to (reply_of export_reply r) old new
      → MatchResult r (λ e. Arrives bytes to (export_reply e) old new) (λ e. IsExcused e old new)
  arrived r bytes old new h = grind (arith, excused_error)

  stays : (how : How) (r : Result Exported Error) (old new : List LogItem) → IfErr r (λ e. FailsExport cache source how true to e old new) → IfErr r (λ e. (e ≡ OutOfMemory) ⊎ (tree_of new ≡ tree_of old))
  stays how r old new h = grind (arith, common_steps)

  -- ---- the next one

  names : (s : Source) (bytes : List ℕ) (old mid : List LogItem) → StaysKnown cache old mid → NamesBytes cache s bytes old → NamesBytes cache s bytes mid
  names s bytes old mid k has = grind (arith, common_steps)

  later : (r : Result Exported Error) (bytes : List ℕ) (old mid new : List LogItem) → Grows old mid → MatchResult r (λ e. Arrives bytes to (export_reply e) mid new) (λ e. IsExcused e mid new)
      → MatchResult r (λ e. Arrives bytes to (export_reply e) old new) (λ e. IsExcused e old new)
  later (Ok (exporteds.Copied count)) bytes old mid new g h = h
  later (Ok e) bytes old mid new g h = h
  later (Err e) bytes old mid new g h = excuses_last e old mid new g h

  stays_on : (r : Result Exported Error) (old mid new : List LogItem) → tree_of mid ≡ tree_of old → IfErr r (λ e. (e ≡ OutOfMemory) ⊎ (tree_of new ≡ tree_of mid)) → IfErr r (λ e. (e ≡ OutOfMemory) ⊎ (tree_of new ≡ tree_of old))
  stays_on r old mid new same h = grind (arith, common_steps)

  next : (tried r : Result Exported Error) (old mid new : List LogItem) → is_closed tried ≡ true → Went tried old mid → Went r mid new → Went r old new
  next tried r old mid new closed a b = record {
    leaves = leavings_join cache old mid new a.leaves b.leaves;
    arrives = λ bytes has. later r bytes old mid new a.leaves.2 (b.arrives bytes (names source bytes old mid a.leaves.1 has));
    succeeds = λ bytes folder has may. absurd (closed_memory tried closed (a.succeeds bytes folder has may));
    refuses = λ folder. record {
      damaged = λ i fault first leads d. absurd (let no = closed_told tried (IntegrityError fault) closed ((a.refuses folder).damaged i fault first leads d) in let wrong : IntegrityError fault ≡ IoError no.0 [] = no.1 in cc);
      lacks = λ key is lacks. absurd (let no = closed_told tried (EntryNotFound cache key) closed ((a.refuses folder).lacks key is lacks) in let wrong : EntryNotFound cache key ≡ IoError no.0 [] = no.1 in cc);
    };
    stays = λ folder. stays_on r old mid new (closed_tree tried old mid closed (a.stays folder)) (b.stays folder);
  }

-- ---- all ways

module _ {C N : Type 0} (cache : List ℕ) (source : Source) (to : List ℕ) (apart : IsApart cache to) (named : NamesSource source) where
  one : (how : How) (r : Result Exported Error) (old new : Env (List LogItem) C N) → IsLog new.store → IsCache cache old.store → ExportsBy (λ log. Some log) cache source to how old new r → Went cache source to r old.store new.store
  one how r old new logged sound by =
      let reply = reply_of export_reply r in
      let c = called export_reply plain r cache old.base 0 (checked_export how source to) old.store new.store by.0.0.0 logged in
      let answers : NamesFolder cache → Answered cache source how true to (reply_of export_reply r) old.store new.store
      = λ folder. exports_answer cache source (record { how = how; checked = true; to = to }) (reply_of export_reply r) old.store new.store folder named sound c in
      record {
        leaves = leaves cache source how true to reply old.store new.store apart named sound c;
        arrives = λ bytes has. arrived cache source to r bytes old.store new.store (exports_arrive cache bytes to how source true reply old.store new.store apart sound has c);
        succeeds = λ bytes folder has may.
            for_memory export_reply r (exported how bytes) (is_given how bytes)
            (exports_succeed cache bytes to how source true reply old.store new.store folder (caches_stand cache old.store sound) has (may_take how to old.store may) c);
        refuses = λ folder. refuses_so export_reply given r cache source how true to old.store new.store (answers folder);
        stays = λ folder. stays cache source to how r old.store new.store (fails_so export_reply r cache source how true to old.store new.store (answers folder));
      }

  -- the log grew, and then such an export went out
  abbrev Goes : Env (List LogItem) C N → Env (List LogItem) C N → Result Exported Error → Type 0
  Goes old new r = Grows old.store new.store × (IsLog new.store → IsCache cache old.store → Went cache source to r old.store new.store)

  goes : (hows : List How) (old new : Env (List LogItem) C N) (r : Result Exported Error) → Tries (λ log. Some log) cache source to hows old new r → Goes old new r
  goes [] old new r tries = absurd tries
  goes (how ∷ []) old new r by = (steps_grow cache 0 (checked_export how source to) _ old new by.0.0, λ logged sound. one how r old new logged sound by)
  goes (how ∷ other ∷ others) old new r (mid, tried, by, rest) = then (is_closed tried) (λ t. goes (other ∷ others) mid new r t) refl rest
    where
      grew : Grows old.store mid.store
      grew = steps_grow cache 0 (checked_export how source to) _ old mid by.0.0

      then : (b : Bool) → (Tries (λ log. Some log) cache source to (other ∷ others) mid new r → Goes mid new r) → is_closed tried ≡ b → MatchBool b (Tries (λ log. Some log) cache source to (other ∷ others) mid new r) ((new ≡ mid) × (r ≡ tried)) → Goes old new r
      then true on closed rest =
          let b = on rest in (
            growths_join old.store mid.store new.store grew b.0,
            λ logged sound.
                let a = one how tried old mid (front mid.store new.store b.0 logged) sound by in
                next cache source to tried r old.store mid.store new.store closed a (b.1 logged a.leaves.0),
          )
      then false on is_open same = subst (λ n. Goes old n r) (sym same.0) (subst (λ x. Goes old mid x) (sym same.1) (grew, λ logged sound. one how tried old mid logged sound by))

-- ---- the question of the path

no_node : (n names : Names) (here : Option Node) → where_free here n ≡ Ok names → linked_in here ≡ Err NotFound
no_node n names here e = grind (arith, common_steps)

no_names : (t : Tree) (p : Result Names Fault) (names : Names) → and_then p (λ n. where_free (look t n) n) ≡ Ok names → and_then p (λ n. linked_in (look t n)) ≡ Err NotFound
no_names t (Ok n) names e = no_node n names (look t n) e
no_names t (Err fault) names e = absurd cc

missing : (t : Tree) (to : List ℕ) (names : Names) → free t to ≡ Ok names → linked t to ≡ Err NotFound
unfolding free linked
missing t to names e = no_names t (place t to) names e

-- the fault of a hard link of a path to itself
abbrev fault_at : Result Names Fault → Fault
fault_at (Ok names) = NotFound
fault_at (Err fault) = fault

answered_by : (t : Tree) (to : List ℕ) (f : Result Names Fault) → free t to ≡ f → apply t (steps.HardLink to to) Plain ≡ (answers.Failed (fault_at f), t)
unfolding apply
answered_by t to (Ok names) e = rw (e, missing t to names e) refl
answered_by t to (Err fault) e = rw e refl

told_free : (fault : Fault) → free_in (Err (refusals.Fault fault)) ≡ Ok tt → fault ≡ NotFound
told_free fault e = grind (arith, common_steps)

told_taken : (fault told : Fault) → free_in (Err (refusals.Fault fault)) ≡ Err (refusals.Fault told) → (fault ≡ told) × (told ≡ NotFound → ⊥)
told_taken fault told e = grind (arith, common_steps)

taken_so : (f : Result Names Fault) (fault : Fault) → fault_at f ≡ fault → (fault ≡ NotFound → ⊥) → f ≡ Err fault
taken_so (Ok names) fault is other = absurd (other (sym is))
taken_so (Err g) fault is other = cc

module _ (to : List ℕ) (old mid : List LogItem) (logged : IsLog mid) where
  abbrev own : Fault
  own = fault_at (free (tree_of old) to)

  -- it changed nothing, and told this
  record Asked (told : Result (Unit {0}) Refusal) : Type 0 where
    same : tree_of mid ≡ tree_of old
    grew : Grows old mid
    does : Does (steps.HardLink to to) (answers.Failed own) (Some old) (Some mid)
    tells : free_in (Err (refusals.Fault own)) ≡ told

  asked : (told : Result (Unit {0}) Refusal) → Asks to told (Some old) (Some mid) → Asked told
  asked told (answer, does, is) =
      let lead = logs_lead old mid ((steps.HardLink to to, answer) ∷ []) does logged in
      let by = answered_by (tree_of old) to (free (tree_of old) to) refl in
      let answers_so : answer ≡ answers.Failed own = lead.0.0 ∙ ap (λ (x : PlainAnswer × Tree). x.0) by in
      record {
        same = lead.1 ∙ ap (λ (x : PlainAnswer × Tree). x.1) by;
        grew = gains_grow old mid ((steps.HardLink to to, answer) ∷ []) does;
        does = subst (λ a. Does (steps.HardLink to to) a (Some old) (Some mid)) answers_so does;
        tells = subst (λ a. free_in (done_in a) ≡ told) answers_so is;
      }

module _ (cache : List ℕ) (source : Source) (to : List ℕ) (old mid : List LogItem) (same : tree_of mid ≡ tree_of old) (grew : Grows old mid) (sound : IsCache cache old) where
  known : StaysKnown cache old mid
  known = same_stays_known cache old mid (ap (value_of_tree (home_of cache)) same)

  left : LeavesKnownCache cache old mid
  left = (subst (IsSound (home_of cache)) (sym same) sound, known, grew)

  bytes_same : (i : List Hash) → bytes_under cache i mid ≡ bytes_under cache i old
  bytes_same i = ap (λ (t : Tree). blob_bytes t (blob_at (value_of_tree (home_of cache) t) (address i))) same

  held_too : (s : Source) (i : List Hash) → NamesHeld cache s i old → NamesHeld cache s i mid
  held_too (sources.Hash held) i h = h
  held_too (sources.Key key) i h = ap (λ (f : Option Found). option_map (λ (f : Found). f.integrity) f) (known.finds key) ∙ h

  -- the ways went from there, and nothing was at the path
  went_on : (r : Result Exported Error) (new : List LogItem) → ((fault : Fault) → IsTaken to fault old → ⊥) → Went cache source to r mid new → WentOut cache source to r old new
  went_on r new free_there w = record {
    leaves = leavings_join cache old mid new left w.leaves;
    arrives = λ bytes has. later cache source to r bytes old mid new grew (w.arrives bytes (names cache source to source bytes old mid known has));
    succeeds = λ bytes folder has may. w.succeeds bytes folder (names cache source to source bytes old mid known has) (may.0, ap (λ (t : Tree). free t to) same ∙ may.1);
    taken = λ fault t. absurd (free_there fault t);
    refuses = λ nothing folder. record {
      damaged = λ i fault first leads d. (w.refuses folder).damaged i fault first (held_too source i leads) (d.0, bytes_same i ∙ d.1, d.2, d.3);
      lacks = λ key is lacks. (w.refuses folder).lacks key is (known.finds key ∙ lacks);
    };
    stays = λ folder. stays_on cache source to r old mid new same (w.stays folder);
  }

  -- something is at the path, and the error says so
  went_not : (fault : Fault) (message : List ℕ) → IsTaken to fault old → IsExcused (IoError fault message) old mid → WentOut cache source to (Err (IoError fault message)) old mid
  went_not fault message taken excused = record {
    leaves = left;
    arrives = λ bytes has. excused;
    succeeds = λ bytes folder has may. absurd (let no : Ok may.0 ≡ Err fault = sym may.1 ∙ taken.0 in cc);
    taken = λ other t. (let one : Err other ≡ Err fault = sym t.0 ∙ taken.0 in inr (ap (λ (r : Result Names Fault). IoError (fault_at r) []) (sym one)), same);
    refuses = λ nothing folder. absurd (nothing fault taken);
    stays = λ folder. inr same;
  }

-- memory was refused before the question
went_nowhere : (cache : List ℕ) (source : Source) (to : List ℕ) (log : List LogItem) → IsCache cache log → WentOut cache source to (Err OutOfMemory) log log
went_nowhere cache source to log sound = record {
  leaves = unchanged cache log log sound refl;
  arrives = λ bytes has. inl refl;
  succeeds = λ bytes folder has may. refl;
  taken = λ fault t. (inl refl, refl);
  refuses = λ nothing folder. record { damaged = λ i fault first leads d. inl refl; lacks = λ key is lacks. inl refl };
  stays = λ folder. inl refl;
}

module _ {C N : Type 0} (cache : List ℕ) (source : Source) (to : List ℕ) (apart : IsApart cache to) (named : NamesSource source) (mode : ExportMode) (r : Result Exported Error) (old mid new : Env (List LogItem) C N) (logged : IsLog new.store) (sound : IsCache cache old.store) where
  ended : (asked_for : Result (Unit {0}) Error) → AsksFree to (Some old.store) (Some mid.store) asked_for → GoesOn (λ log. Some log) cache source to mode asked_for mid new r → WentOut cache source to r old.store new.store
  ended (Ok nothing) asks rest =
      let g = goes cache source to apart named (ways mode) mid new r rest in
      let a = asked to old.store mid.store (front mid.store new.store g.0 logged) (Ok tt) asks in
      let is = told_free _ a.tells in
      went_on cache source to old.store mid.store a.same a.grew sound r new.store
      (λ fault t. t.1 (sym (ap fault_at t.0) ∙ is))
      (g.1 logged (left cache source to old.store mid.store a.same a.grew sound).0)
  ended (Err (IoError fault message)) asks (same, is) =
      let a = asked to old.store mid.store (subst (λ (n : Env (List LogItem) C N). IsLog n.store) same logged) (Err (refusals.Fault fault)) asks in
      let t = told_taken _ fault a.tells in
      let excused = excused_step old.store mid.store ((steps.HardLink to to, answers.Failed _) ∷ []) a.does (IoError fault message) _ (inl refl) (inr (message, ap (λ (f : Fault). IoError f message) (sym t.0))) in
      subst (λ (n : Env (List LogItem) C N). WentOut cache source to r old.store n.store) (sym same)
      (subst (λ (x : Result Exported Error). WentOut cache source to x old.store mid.store) (sym is)
      (went_not cache source to old.store mid.store a.same a.grew sound fault message (taken_so (free (tree_of old.store) to) fault t.0 t.1, t.1) excused))
  ended (Err OutOfMemory) asks (same, is) =
      let one : mid.store ≡ old.store = some_same mid.store old.store asks in
      subst (λ (n : Env (List LogItem) C N). WentOut cache source to r old.store n.store) (sym same)
      (subst (λ (x : Result Exported Error). WentOut cache source to x old.store mid.store) (sym is)
      (subst (λ (l : List LogItem). WentOut cache source to (Err OutOfMemory) old.store l) (sym one) (went_nowhere cache source to old.store sound)))
  ended (Err e) asks rest = absurd asks

pub export_means : {C N : Type 0} (cache to : List ℕ) (r : Result Exported Error) (new : Env (List LogItem) C N) → IsLog new.store → ExportMeans cache to r new
export_means cache to r new logged source mode old apart named sound (mid, asked_for, asks, rest, on) =
    ended cache source to apart named mode r old mid new logged sound asked_for asks on
