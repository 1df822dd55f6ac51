-- What a put leaves if each thing is where it may be, even with ill-formed entries, which a loss may leave.
-- What a write leaves in a cache.
use Rattle.std.proofs.{Common.{arith, rules, ◌≡◌, ◌⊎◌, inl, inr, ℕ, List, [], ◌∷◌, ◌++◌, Option, None, Some, Result, Ok, Err, map, refl, sym, ap, subst, ◌∙◌, append-nil, length}, lemmas.{Grind.{common_steps}, List.Elements.{All-nil}}}
use Rattle.std.specs.Prelude.{IfOk}
use Rattle.cacache_laws.specs.{Puts.{ExpectsIntegrity, HasPut}, Caches.{Called, IsExcused, setup_at, plain_put, WritesKey, WritesLast}, Beside.{FitsEntry, own_integrity}, CallErrors.{IsPlainPut}, Sequence.{Alike, AreAnswered, after_deeds, plain_moves, tree_on, turns_on}, Standing.{IsStanding, PutStands, StandingWrites}}
use Rattle.cacache_laws.proofs.{Readings.{Standing.{caches_stand}, Known.{excused_by, known}}, Putting.{Puts.{put_keeps, has_or_found, plain_writes_fit}, Persisting.{puts_find_nothing}, Deeds.{commit_leads, may_lead}, Stored.{bare_written, has_key}}, Calls.{CallErrors.{calls_fail_only}, InParts.{logs_lead}, Replays.{some_same}, Sequence.{moves_after, moves_follow, turns_made}}}
use Rattle.cacache_core.specs.{declared.{errors.{Error.{Error}, Fault.{Fault}}, integrity.{digest.Hash.{Hash}, algorithm.Algorithm.{Algorithm}}}, Paths.{Names, names_of, home_of}, Integrity.{integrity_under}, Texts.{integrity_text}}
use Rattle.cacache_store.specs.{Plain.{Fits, PlainAnswer}, declared.store.log.LogItem.{LogItem, TheVariants.{Made}}}
use Rattle.cacache_disk.specs.{declared.{luck.Luck.TheVariants.{Plain}, node.Node.{Node, TheVariants.{Link}}}, Apply.{apply}, Tree.{Rooted, Tree, look}, Replay.{tree_of}}
use Rattle.cacache_disk.proofs.KeptFolders.{steps_keep_rooted}
use Rattle.cacache_entry.{specs.FittingEntries.{IsEntry}, proofs.EntryCauses.{Fits-no_cause}}
use Rattle.cacache_calls.specs.{declared.{command.{Command.{Command}, Put.{Put}}, reply.Reply.{Reply}}, Promises.{HasCause, own_of as faults_of, Stores}, Effects.{Commits, Effect, Indexes, Inserts, IsRefused, TookAll, effects_of, sent, stored}, Inserting.{bucket_line, refused_cause}, Runs.{Moves, Runs, plain_reply}, Sound.{FormedIfWritten, Sound}, State.{Insertion, Site, State}, Steps.{bucket_path, content_path}, Storing.{insertion_of, put_commit}, Table.{after, opening}}
use Rattle.cacache_calls.proofs.{EarnedErrors.{io_errors_have_causes}, Effects.{puts_commit}, Promises.{calls_answer}, Sound.{begins_sound, stays_sound}, Telling.{integrity_utf8}}
use Rattle.cacache_value.specs.{Acts.{AddEntries, PutBytes, IsTrace}, Kinds.{Elsewhere, path_kind}, Placed.{LieApart, MayStand, Placed}, Value.{InFile, value_of_tree}}
use Rattle.cacache_value.proofs.Traces.{steps_keep_placed, traces_act}
use Rattle.cacache_history.specs.{Commits.{AddsAfter, CommitsAs, Deed, InsertionAdds, IsNotOk, PutsContent, deeds, does, finds}, History.{Turn, turn_of}, Setup.{Setup, call_site, home, is_outside, may_export}, Turns.{EachTurn, made_in}}
use Rattle.cacache_history.proofs.{Contents.{Carrying.{Carries, Makes, Own, carries_makes, carries_on, opening_carries, own_bytes, own_of}, Deeds.{PutsAt, Realizes, SendsEntry, took_entry, turns_realize}}, Entries.Spelled.{TreeFormed}, Histories.Holding.{TurnHolds, TurnsHold}, StepActs.{sound_proper}}
use Rattle.cacache_calls.specs.declared.command.Command.TheVariants as commands
use Rattle.cacache_calls.specs.declared.reply.Reply.TheVariants as replies

-- ---- turns of a cache that names no folder: whatever is on the disk, it holds no entry

abbrev pub nowhere : Setup
nowhere = setup_at (0 ∷ []) []

no_home : home nowhere ≡ None
unfolding home_of
no_home = refl

any_target : (r : Result Names Fault) → IfOk r (λ names. path_kind None names ≡ Elsewhere)
any_target r = grind (arith, common_steps)

any_node : (o : Option Node) → MayStand None o Elsewhere
any_node o = grind (arith, any_target)

held_there : (turn : Turn) → Rooted turn.place → turn.move.answer ≡ (apply turn.place turn.move.step turn.move.luck).0 → Fits turn.move.step turn.move.answer → TurnHolds nowhere turn
held_there turn rooted answered fits = search (rules, no_home, any_node, answered)

-- turns of any cache are such
pub turns_there : (s : Setup) (turns : List Turn) → TurnsHold s turns → TurnsHold nowhere turns
turns_there s [] h = tt
turns_there s (turn ∷ turns) h = (held_there turn h.0.rooted h.0.answered h.0.fits, turns_there s turns h.1)

-- ---- a run

module _ (s : Setup) (apart : LieApart (home s) s.outside) (n : ℕ) (command : Command) where
  abbrev own : Own
  own = own_of (call_site s n) command

  -- what its moves are, and that they leave things where they may stand
  pub record Went (t : Tree) (moves : Moves) : Type 0 where
    pub trace : IsTrace (home s) t (plain_moves moves)
    pub hold : TurnsHold nowhere (turns_on t moves)
    pub makes : EachTurn (λ turn. Makes (own_of (call_site s n) command) turn.move.step) (turns_on t moves)
    pub placed : Placed (home s) t → Placed (home s) (tree_on t moves)
    pub rooted : Rooted (tree_on t moves)

  pub went : (t : Tree) (state : State) (moves : Moves) (r : Reply) → Rooted t → Sound (call_site s n) (may_export s) (is_outside s) state → Carries (own_of (call_site s n) command) state
      → Runs state moves r → AreAnswered t moves → Went t moves
  went t state [] r rooted sound carries run answered = record { trace = tt; hold = tt; makes = tt; placed = λ h. h; rooted = rooted }
  went t state (m ∷ moves) r rooted sound carries run answered =
      let still = stays_sound (call_site s n) (may_export s) (is_outside s) state m.0 m.1 sound run.0 run.1 in
      let carried = carries_on (own_of (call_site s n) command) t Plain m.1 state m.0 carries run.0 answered.0 in
      let more = went (apply t m.0 Plain).1 (after state m.1) moves r (steps_keep_rooted t m.0 Plain rooted) still carried run.2 answered.1 in
      let proper = sound_proper s n apart state m.0 sound run.0 in
      record {
        trace = (proper, answered.0, more.trace);
        hold = (held_there (turn_of t Plain m) rooted answered.0 run.1, more.hold);
        makes = (carries_makes (own_of (call_site s n) command) state m.0 carries run.0, more.makes);
        placed = λ h. more.placed (steps_keep_placed (home s) t m.0 Plain h proper);
        rooted = more.rooted;
      }

-- ---- what an insertion and a put did

refused : (r : Reply) → IsRefused r → IsNotOk (Some r)
refused r h = grind (arith, common_steps)

sent_adds : (i : Insertion) (r : Reply) (a : PlainAnswer) (new : List Deed) → IsRefused r ⊎ TookAll (bucket_line i) a → SendsEntry (bucket_path i.cache i.entry.key) i.entry a new → InsertionAdds i new (Some r)
unfolding bucket_line
sent_adds i r a new h h2 = grind (arith, refused, took_entry)

pub insertion_adds : (i : Insertion) (own : Own) (r : Reply) (es : List Effect) (ds : List Deed) → FormedIfWritten i → Realizes own es ds → Inserts i es r → InsertionAdds i ds (Some r)
unfolding bucket_line refused_cause
insertion_adds i own r es ds fits real (inl h) = inl (subst (λ x. Realizes own x ds) h.0 real, refused r h.1)
insertion_adds i own r es ds fits real (inr h) =
    let formed = fits h.0 in
    let k : Realizes own (sent (bucket_path i.cache i.entry.key) (bucket_line i) h.1.0 ∷ []) ds = subst (λ x. Realizes own x ds) h.1.1 real in
    let all : ds ≡ k.0 = k.2 ∙ ap (λ more. k.0 ++ more) k.4 ∙ append-nil k.0 in
    subst (λ x. InsertionAdds i x (Some r)) (sym all) (sent_adds i r h.1.0 k.0 h.1.2 (k.3 i.entry i.durable formed (Fits-no_cause i.entry formed h.0) refl))

module _ (cache : List ℕ) (p : Put) (r : Reply) (fits : FitsEntry cache p) where
  abbrev pub put_own : Own
  put_own = own_bytes p.data (content_path cache (own_integrity p))

  put_deed : (d : Deed) → PutsAt put_own (content_path cache (own_integrity p)) d → PutsContent (put_commit cache p) (λ names. PutBytes names p.data) d
  put_deed d h = grind (arith, common_steps)

  put_adds : (key : List ℕ) (es : List Effect) (ds : List Deed) → p.key ≡ Some key → Realizes put_own es ds → Inserts (insertion_of (put_commit cache p) key) es r
      → InsertionAdds (insertion_of (put_commit cache p) key) ds (Some r)
  put_adds key es ds keyed real h = insertion_adds (insertion_of (put_commit cache p) key) put_own r es ds (fits key keyed) real h

  put_after : (key : Option (List ℕ)) (es : List Effect) (ds : List Deed) → p.key ≡ key → Realizes put_own es ds → Indexes (put_commit cache p) key es r → AddsAfter (put_commit cache p) key ds (Some r)
  put_after key es ds keyed real h = grind (arith, put_adds)

  pub put_commits : (es : List Effect) (ds : List Deed) → Realizes put_own es ds → Commits (put_commit cache p) es r → CommitsAs (put_commit cache p) (λ names. PutBytes names p.data) ds (Some r)
  put_commits es ds real h = grind (arith, refused, put_deed, put_after)

-- ---- a put that was made

module _ (cache : List ℕ) (p : Put) (r : Reply) (old new : List LogItem) (fits : FitsEntry cache p) (expects : ExpectsIntegrity p) (standing : IsStanding cache old) (c : Called cache (commands.Put p) r old new) where
  abbrev s : Setup
  s = setup_at cache c.base

  abbrev site : Site
  site = call_site s c.number

  abbrev t : Tree
  t = tree_of old

  abbrev moves : Moves
  moves = c.ran.0

  abbrev ds : List Deed
  ds = deeds (turns_on t moves)

  answered : AreAnswered t moves
  answered = (logs_lead old new c.ran.0 c.ran.2 c.logged).0

  led : tree_of new ≡ tree_on t moves
  led = (logs_lead old new c.ran.0 c.ran.2 c.logged).1

  goes : Went s tt c.number (commands.Put p) t moves
  goes = search (rules, went, begins_sound, opening_carries, answered)

  run : Runs (opening site (commands.Put p)) (made_in (turns_on t moves)) r
  run = subst (λ (ms : Moves). Runs (opening site (commands.Put p)) ms r) (sym (turns_made t moves)) c.ran.1

  commits : CommitsAs (put_commit cache p) (λ names. PutBytes names p.data) ds (Some r)
  commits =
      put_commits cache p r fits (effects_of (made_in (turns_on t moves))) ds (turns_realize nowhere (put_own cache p r fits) (turns_on t moves) goes.hold goes.makes)
      (puts_commit site p (made_in (turns_on t moves)) r run)

  follows : Alike (value_of_tree (home_of cache) (tree_of new)) (after_deeds (home_of cache) ds (value_of_tree (home_of cache) t))
  follows =
      subst (λ (x : Tree). Alike (value_of_tree (home_of cache) x) (after_deeds (home_of cache) ds (value_of_tree (home_of cache) t))) (sym led)
      (moves_follow s tt t moves (ap (value_of_tree (home_of cache)) (sym (moves_after t moves)) ∙ traces_act (home_of cache) t (plain_moves moves) standing.placed goes.trace))

  -- if it stored
  has_put : (i : List Hash) → r ≡ replies.Stored i → HasPut cache p i new
  has_put i is =
      let ok : IsNotOk (Some r) → ⊥ = λ no. subst (λ (x : Reply). IsNotOk (Some x)) is no in
      record {
        stored = (calls_answer site (commands.Put p) moves (replies.Stored i) (subst (Runs (opening site (commands.Put p)) moves) is c.ran.1)).0;
        entry = commit_leads cache p (InFile p.data) old new ds (Some r) commits follows expects ok;
        content = elim (has_or_found cache p old new ds (Some r) commits follows ok) [
          | inl has ↦ has
          | inr found ↦ absurd (puts_find_nothing (home_of cache) site p t moves r (content_path cache (own_integrity p)) found.0 standing.rooted standing.placed goes.trace c.ran.1 found.1)
        ];
      }

  -- if it is a plain one, each error has a cause
  excused : (key : List ℕ) (e : Error) → IsPlainPut cache key p → r ≡ replies.Refused e → IsExcused e old new
  excused key e plain is =
      let ran : Runs (opening site (commands.Put p)) moves (replies.Refused e) = subst (Runs (opening site (commands.Put p)) moves) is c.ran.1 in
      let gained = some_same new (old ++ map (λ m. Made m.0 m.1) c.ran.0) c.ran.2 in
      let cause = subst (HasCause (faults_of (commands.Put p)) moves) (sym c.plain ∙ ap plain_reply is) (io_errors_have_causes site (commands.Put p) moves r c.ran.1) in
      excused_by (faults_of (commands.Put p)) old new moves (λ fault none. none) gained e cause
      (calls_fail_only.puts site key p moves (replies.Refused e) plain ran)

  stands : PutStands cache p r old new
  stands = record {
    standing = record { placed = subst (Placed (home_of cache)) (sym led) (goes.placed standing.placed); rooted = subst Rooted (sym led) goes.rooted };
    stored = has_put;
    may_lead = may_lead cache p (InFile p.data) old new ds (Some r) commits follows expects;
    keeps = put_keeps cache p old new ds (Some r) commits follows;
    fails = excused;
  }

pub standing_writes : StandingWrites
standing_writes cache p r old new fits expects standing c = stands cache p r old new fits expects standing c

writes : (a : Algorithm) (cache key bytes : List ℕ) (moment : ℕ) (r : Reply) (old new : List LogItem) → PutStands cache (plain_put a key bytes moment) r old new → IsPlainPut cache key (plain_put a key bytes moment)
    → Stores (put_commit cache (plain_put a key bytes moment)) r → WritesKey cache key bytes r old new
writes a cache key bytes moment (replies.Stored i) old new k plain answers = let h = k.stored i refl in has_key a cache key bytes moment i new h.stored (h.entry key refl) h.content
writes a cache key bytes moment (replies.Refused e) old new k plain answers = k.fails key e plain refl
writes a cache key bytes moment r old new k plain answers = absurd answers

pub writes_last : WritesLast
unfolding refused_cause
writes_last a cache key bytes moment r old new utf8 small early sound c =
    let fits = plain_writes_fit a cache key bytes moment utf8 small early in
    let w = bare_written key (Some (integrity_text (integrity_under a bytes))) moment (length bytes) utf8 (integrity_utf8 (integrity_under a bytes)) early small in
    let k = known cache (commands.Put (plain_put a key bytes moment)) r old new c fits tt sound in (
      k.sound,
      writes a cache key bytes moment r old new (standing_writes cache (plain_put a key bytes moment) r old new fits tt (caches_stand cache old sound) c)
          (record { key_is = refl; no_integrity = refl; no_size = refl; written = w.no_cause })
          (calls_answer (call_site (setup_at cache c.base) k.call.number) (commands.Put (plain_put a key bytes moment)) k.call.moves r k.run),
    )
