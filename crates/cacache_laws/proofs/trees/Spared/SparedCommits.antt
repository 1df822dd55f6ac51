-- What a writer's commit leaves of a key that it spares, on a store that stands.
use Rattle.std.proofs.Common.{rules, ◌≡◌, ℕ, List, [], ◌∷◌, ◌++◌, Some, refl, sym, ap, subst, ◌∙◌, append-nil}
use Rattle.cacache_core.specs.{declared.integrity.digest.Hash.{Hash}, Paths.{home_of}}
use Rattle.cacache_store.specs.declared.store.answer.Answer.TheVariants as answers
use Rattle.cacache_store.specs.declared.store.log.LogItem.{LogItem}
use Rattle.cacache_disk.specs.{Apply.{made_temp}, Tree.{Rooted, Tree}, Replay.{tree_of}}
use Rattle.cacache_calls.specs.declared.command.Command.TheVariants as commands
use Rattle.cacache_calls.specs.{declared.{command.Put.{Put}, reply.Reply.{Reply}}, Effects.{effects_of}, Runs.{Moves, Runs}, State.{Site, State}, Steps.{temp_folder, temp_path}, Storing.{persist, put_commit}, Table.{opening}}
use Rattle.cacache_calls.proofs.Effects.{puts_commit}
use Rattle.cacache_value.{specs.{Acts.{PutBytes}, Placed.{Placed}, Value.{value_of_tree}}, proofs.Traces.{traces_act}}
use Rattle.cacache_history.specs.{Commits.{CommitsAs, Deed, deeds}, History.{Turn}, Setup.{Setup, call_site}, Turns.{made_in}}
use Rattle.cacache_history.proofs.{Contents.{Carrying.{Makes, own_of}, Deeds.{turns_realize}}, Histories.Holding.{CallHolds, TurnHolds}, durable.CommitPlaces.{goes_runs}, Each.{each_join}}
use Rattle.cacache_laws.specs.{Beside.{FitsEntry, own_integrity}, Caches.{setup_at}, InParts.{AreSilent, Begun, IsOnItsWay, turns_in, with_part}, OpenWriters.{CommitsBytes, IsOpened, make_file}, Sequence.{Alike, AreAnswered, after_deeds, plain_moves, tree_on, turns_on}, Standing.{IsStanding}}
use Rattle.cacache_laws.proofs.{Calls.{InParts.{writes_are_parts, logs_lead, made_more, way_holds}, Sequence.{moves_after, moves_follow, turns_made}}, Putting.{Puts.{put_keeps}, OpenWriters.{deeds_later, is_opened, opened, opened_by, folder_first}, StandingPuts.{Went, nowhere, put_commits, turns_there, went}}, trees.Spared.SparedCalls.{Left, beside_left, other_of}}

module _ (cache : List ℕ) (p : Put) (number : ℕ) (fits : FitsEntry cache p) (o : IsOpened cache number) (r : Reply) (old new : List LogItem) (standing : IsStanding cache old) (c : CommitsBytes cache p number r old new) where
  abbrev s : Setup
  s = setup_at cache []

  abbrev site : Site
  site = call_site (setup_at cache []) number

  abbrev begins : State
  begins = opening (call_site (setup_at cache []) number) (commands.Put p)

  abbrev t : Tree
  t = tree_of old

  abbrev turns : List Turn
  turns = turns_on (tree_of old) c.ran.0

  -- the writes that came before, wherever they were made
  hidden : (moves : Moves) × IsOnItsWay (setup_at cache []) (with_part (opened cache p number fits o) (tree_of o.old) moves) (persist (put_commit cache p) c.file) × AreSilent (tree_of o.old) moves
  hidden =
      writes_are_parts s (opened cache p number fits o) (put_commit cache p) (made_temp (temp_path cache number)) c.file p.data (tree_of o.old) (is_opened cache p number fits o) o.sound refl c.path_is c.bytes_are

  abbrev call : Begun
  call = with_part (opened cache p number fits o) (tree_of o.old) hidden.0

  abbrev before : List Turn
  before = turns_in call.parts

  holds : CallHolds (setup_at cache []) (record { command = commands.Put p; number = number; turns = before; state = persist (put_commit cache p) c.file })
  holds = (way_holds s tt call (persist (put_commit cache p) c.file) hidden.1).0

  leads : AreAnswered (tree_of old) c.ran.0 × (tree_of new ≡ tree_on (tree_of old) c.ran.0)
  leads = logs_lead old new c.ran.0 c.ran.2 c.logged

  goes : Went (setup_at cache []) tt number (commands.Put p) (tree_of old) c.ran.0
  goes = went s tt number (commands.Put p) t (persist (put_commit cache p) c.file) c.ran.0 r standing.rooted holds.sound holds.carries c.ran.1 leads.0

  run : Runs begins (made_in (before ++ turns)) r
  run = search (rules, made_more, turns_made, goes_runs, holds)

  -- only the commit itself did something to contents or buckets
  silent : deeds (before ++ turns) ≡ deeds turns
  silent =
      let first = turns_on (tree_of o.old) (opened_by cache p number fits o) in
      let writes = turns_on (tree_of o.old) hidden.0 in
      let none : deeds first ≡ [] = folder_first (tree_of o.old) (temp_folder cache) answers.Done ((make_file cache number, answers.Temp (made_temp (temp_path cache number))) ∷ []) refl in
      let nothing : deeds (writes ++ []) ≡ [] = ap deeds (append-nil writes) ∙ hidden.2.nothing in
      let all : deeds before ≡ [] = deeds_later first (writes ++ []) none ∙ nothing in
      deeds_later before turns all

  commits : CommitsAs (put_commit cache p) (λ names. PutBytes names p.data) (deeds turns) (Some r)
  commits =
      let own = own_of site (commands.Put p) in
      let hold = each_join (TurnHolds nowhere) before turns (turns_there s before holds.turns) goes.hold in
      let makes = each_join (λ (turn : Turn). Makes (own_of site (commands.Put p)) turn.move.step) before turns holds.makes goes.makes in
      subst (λ (ds : List Deed). CommitsAs (put_commit cache p) (λ names. PutBytes names p.data) ds (Some r)) silent
      (put_commits cache p r fits (effects_of (made_in (before ++ turns))) (deeds (before ++ turns)) (turns_realize nowhere own (before ++ turns) hold makes) (puts_commit site p (made_in (before ++ turns)) r run))

  follows : Alike (value_of_tree (home_of cache) (tree_of new)) (after_deeds (home_of cache) (deeds turns) (value_of_tree (home_of cache) (tree_of old)))
  follows =
      subst (λ (x : Tree). Alike (value_of_tree (home_of cache) x) (after_deeds (home_of cache) (deeds turns) (value_of_tree (home_of cache) t))) (sym leads.1)
      (moves_follow s tt t c.ran.0 (ap (value_of_tree (home_of cache)) (sym (moves_after t c.ran.0)) ∙ traces_act (home_of cache) t (plain_moves c.ran.0) standing.placed goes.trace))

  stands : IsStanding cache new
  stands = record { placed = subst (Placed (home_of cache)) (sym leads.1) (goes.placed standing.placed); rooted = subst Rooted (sym leads.1) goes.rooted }

  pub commit_left : (key : List ℕ) (i : List Hash) → (p.key ≡ Some key → ⊥) → Left cache key i (Some p.data) old new
  commit_left key i differ = beside_left cache key i p.key (own_integrity p) p.data old new (other_of cache key i p.key differ) stands (put_keeps cache p old new (deeds turns) (Some r) commits follows)
