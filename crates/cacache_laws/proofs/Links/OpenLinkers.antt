-- What the commit of a linker leaves: it reads the rest of what its target showed, and makes the link.
use Rattle.std.proofs.Common.{arith, rules, ◌≡◌, inl, inr, ◌<◌, ◌^◌, ℕ, List, [], ◌∷◌, ◌++◌, Some, Result, Ok, Err, length, refl, sym, ap, subst, ◌∙◌, append-nil}
use Rattle.std.specs.Prelude.{IfSome}
use Rattle.cacache_laws.specs.{OpenLinkers.{SuitsSize, LinkersFail, CommitsRest, TargetOpened}, Caches.{IsCache, IsExcused, Grows}, ExportEffects.{IsApart}, InParts.{Begun, Changes, AnswersInParts, IsOnItsWay, Part, made, moves_in, turns_in, with_part}, Links.{FitsLink, put_like}, Puts.{ExpectsIntegrity, stored_as}, Sequence.{Alike, AreAnswered, IsSound, after_deeds, tree_on, turns_on}, Inserts.{own_hash}}
use Rattle.cacache_laws.proofs.{Links.{Linking.{LeavesLink, is_there, leaves_by, nothing_shown, on_disks, setup_to}, TargetBytes.{ReadOf, file_held, held_of, parts_on_disks, told_held, turns_more}, ExpectedSizes.{fails_only, suited_run}}, Putting.OpenWriters.{cause_later, deeds_later, gains_grow}, Calls.{InParts.{bytes_taken, all_made, calls_begin, logs_lead, moves_then, parts_answer, parts_go_on, run_goes}, Replays.{some_same}}, Readings.{Known.{excused_by}, ReadAnswers.{sizing_keeps}}}
use Rattle.cacache_core.specs.{declared.{errors.Fault.{Fault}, integrity.digest.Hash.{Hash}}, Integrity.{IsIntegrity}, Paths.{Names, home_of, names_of}}
use Rattle.cacache_store.specs.declared.store.answer.Answer.TheVariants as answers
use Rattle.cacache_store.specs.declared.store.{log.LogItem.{LogItem}, plain.PlainFile.{PlainFile}}
use Rattle.cacache_store.specs.declared.store.step.Step.TheVariants as steps
use Rattle.cacache_disk.specs.{declared.luck.Luck.TheVariants.{Plain}, Apply.{apply, opened}, Replay.{tree_of}}
use Rattle.cacache_calls.specs.declared.command.Command.TheVariants as commands
use Rattle.cacache_calls.specs.{declared.{command.Link.{Link}, reply.Reply.{Reply}, target.Target.{Target}}, Promises.{Faulted, HasCause, own_of, Stores}, Linking.{based, commit_for, link_target, with_size}, Runs.{Goes, Moves, Runs, plain_reply}, Sound.{SoundTarget}, State.{Site, hashing, to_link}, Storing.{put_commit}, Table.{opening}}
use Rattle.cacache_calls.proofs.Verifying.{links_read_whole}
use Rattle.cacache_calls.specs.declared.reply.Reply.TheVariants as replies
use Rattle.cacache_value.specs.{Acts.{PutLink}, Placed.{LieApart}, Value.{value_of_tree}}
use Rattle.cacache_history.specs.{Commits.{CommitsAs, DidNothing, LinksTo, ReadsTarget, deeds}, Setup.{Setup, home}}
use Rattle.cacache_history.proofs.{Contents.{Digests.{digest_hash}, OpenedContents.{run_asks}}, durable.CommitPlaces.{goes_runs}}

-- ---- a commit, as the last part of a link

module _ (cache base : List ℕ) (l : Link) (bytes rest : List ℕ) (first : PlainFile) (fits : FitsLink cache l) (apart : IsApart cache (based base l.target))
    (o : TargetOpened cache (based base l.target) (bytes ++ rest) first) (names : Names) (named : names_of (based base l.target) ≡ Ok names) where
  abbrev site : Site
  site = record { cache = cache; base = base; number = 0 }

  abbrev path : List ℕ
  path = based base l.target

  abbrev held : List ℕ
  held = bytes ++ rest

  -- the target, of the size that it has
  abbrev target : Target ℕ
  target = with_size (link_target site l) (length held)

  abbrev s : Setup
  s = setup_to cache base path

  abbrev started : Begun
  started = record { command = commands.Link l; number = 0; parts = [] }

  -- its size is asked, and then it is opened
  abbrev opened_by : Moves
  opened_by = (steps.Size path, answers.Length (length held)) ∷ (steps.Open path, answers.File (opened held)) ∷ []

  abbrev begun : Begun
  begun = with_part started (tree_of o.old) opened_by

  lies_apart : LieApart (home s) s.outside
  lies_apart = (apart, tt)

  open_told : answers.File first ≡ (apply (tree_of o.old) (steps.Open path) Plain).0
  open_told = (logs_lead o.old o.new ((steps.Open path, answers.File first) ∷ []) o.opens o.logged).0.0

  first_is : first ≡ opened held
  first_is = file_held (tree_of o.old) path held first o.shows open_told

  opening_answered : AreAnswered (tree_of o.old) opened_by
  opening_answered = search (rules, told_held, sizing_keeps, first_is, open_told)

  opening_goes : Goes (opening site (commands.Link l)) opened_by (hashing (to_link target) (opened held) [])
  opening_goes = (refl, tt, (refl, subst (λ (f : PlainFile). f.left < 2 ^ 64) first_is o.small, refl))

  is_opened : IsOnItsWay s begun (hashing (to_link target) (opened held) [])
  is_opened =
      let sound_target : SoundTarget site (link_target site l) = record { here = refl; formed = fits } in
      let way = calls_begin s (commands.Link l) 0 (sound_target, is_there path names (names_of path) named) tt in
      (parts_go_on s started (opening site (commands.Link l)) (hashing (to_link target) (opened held) []) (tree_of o.old) opened_by lies_apart way o.sound opening_goes opening_answered).0

  -- the bytes that the linker took are parts of their own
  reads : (parts : List Part) × IsOnItsWay s (record begun { parts = begun.parts ++ parts }) (hashing (to_link target) (opened rest) bytes) × (deeds (turns_in parts) ≡ [])
      × ((fault : Fault) → Faulted (moves_in parts) fault → ⊥)
  reads = bytes_taken s begun (to_link target) [] bytes rest (tree_of o.old) is_opened o.sound

  abbrev taken : Begun
  taken = record begun { parts = begun.parts ++ reads.0 }

  module _ (r : Reply) (old new : List LogItem) (expects : ExpectsIntegrity (put_like l held)) (sound : IsCache cache old) (c : CommitsRest cache base l bytes rest r old new)
      (run : Runs (hashing (to_link target) (opened rest) bytes) c.ran.0 r) where
    abbrev moves : Moves
    moves = c.ran.0

    abbrev call : Begun
    call = with_part taken (tree_of old) moves

    lead : AreAnswered (tree_of old) moves × (tree_of new ≡ tree_on (tree_of old) moves)
    lead = logs_lead old new moves c.ran.2 c.logged

    answered : AnswersInParts s call r × Changes s (tree_of old) moves
    answered =
        parts_answer s taken (hashing (to_link target) (opened rest) bytes) (tree_of old) moves r lies_apart reads.1 sound
        (subst (Runs (hashing (to_link target) (opened rest) bytes) moves) (sym c.plain) run) lead.0

    -- the steps of all parts are a run of a link
    whole : Runs (opening site (commands.Link l)) (moves_in call.parts) r
    whole = search (rules, moves_then, goes_runs, reads)

    -- and what they read is what the target showed
    read_so : ReadOf held (moves_in call.parts)
    read_so =
        let end = run_goes (hashing (to_link target) (opened rest) bytes) moves r run in
        let way = (parts_go_on s taken (hashing (to_link target) (opened rest) bytes) end.0 (tree_of old) moves lies_apart reads.1 sound end.1 lead.0).0 in
        (refl, parts_on_disks s (reads.0 ++ made (tree_of old) moves ∷ []) way.parts.2, (run_asks (opening site (commands.Link l)) (moves_in call.parts) r whole).1.1)

    own_deeds : deeds (turns_in call.parts) ≡ deeds (turns_on (tree_of old) moves)
    own_deeds = search (rules, deeds_later, reads, turns_more)

    commits : CommitsAs (put_commit cache (put_like l held)) (λ names. PutLink names path) (deeds (turns_on (tree_of old) moves)) (Some r)
    commits =
        elim answered.0.commits [
          | inl nothing ↦ inl (subst (λ ds. DidNothing ds (Some r)) own_deeds nothing)
          | inr read ↦
              subst (λ ds. CommitsAs (put_commit cache (put_like l held)) (λ names. PutLink names path) ds (Some r)) own_deeds
              (held_of path held (LinksTo (link_target site l) (turns_in call.parts) (Some r)) (moves_in call.parts) read_so
              (subst (λ ms. ReadsTarget path (LinksTo (link_target site l) (turns_in call.parts) (Some r)) ms) (all_made call.parts) read)).1
        ]

    follows : Alike (value_of_tree (home_of cache) (tree_of new)) (after_deeds (home_of cache) (deeds (turns_on (tree_of old) moves)) (value_of_tree (home_of cache) (tree_of old)))
    follows =
        subst (λ t. Alike (value_of_tree (home_of cache) t) (after_deeds (home_of cache) (deeds (turns_on (tree_of old) moves)) (value_of_tree (home_of cache) (tree_of old)))) (sym lead.1) answered.1.follows

    stored : (i : List Hash) → r ≡ replies.Stored i → i ≡ stored_as (put_like l held)
    stored i is =
        let w = links_read_whole site l (moves_in call.parts) (replies.Stored i) (subst (Runs (opening site (commands.Link l)) (moves_in call.parts)) is whole) in
        (held_of path held (λ b. Stores (commit_for (with_size (link_target site l) w.0) b) (replies.Stored i)) (moves_in call.parts) read_so (w.0, w.1, w.2, w.3)).0

    leaves : IsCache cache new × Grows old new × LeavesLink cache (put_like l held) path r old new
    leaves = (
      subst (IsSound (home_of cache)) (sym lead.1) answered.1.sound,
      gains_grow old new moves c.ran.2,
      leaves_by cache (put_like l held) path old new (deeds (turns_on (tree_of old) moves)) r commits follows expects stored
          (λ more e. answered.1.found (own_hash (put_like l held)) more (digest_hash l.options.algorithm held) e),
    )

    taken_faultless : (fault : Fault) → Faulted (moves_in taken.parts) fault → ⊥
    taken_faultless fault h = grind (arith, reads)

    -- an `IoError` has its cause among the steps of the commit
    cause : HasCause (own_of (commands.Link l)) moves (plain_reply r)
    cause =
        cause_later (own_of (commands.Link l)) (moves_in taken.parts) moves (plain_reply r) taken_faultless
        (subst (λ ms. HasCause (own_of (commands.Link l)) ms (plain_reply r)) (moves_then taken.parts (tree_of old) moves) answered.0.causes)

-- the commit of a linker leaves a cache, and so much of all the bytes of its target
pub linkers_commit : (cache base : List ℕ) (l : Link) (bytes rest : List ℕ) (first : PlainFile) (r : Reply) (old new : List LogItem)
    → FitsLink cache l → IsApart cache (based base l.target) → SuitsSize l.options.size (length (bytes ++ rest))
    → ExpectsIntegrity (put_like l (bytes ++ rest)) → TargetOpened cache (based base l.target) (bytes ++ rest) first → IsCache cache old
    → CommitsRest cache base l bytes rest r old new → IsCache cache new × Grows old new
    × LeavesLink cache (put_like l (bytes ++ rest)) (based base l.target) r old new
linkers_commit cache base l bytes rest first r old new fits apart size expects o sound c = by (names_of (based base l.target)) refl
  where
    by : (n : Result Names Fault) → names_of (based base l.target) ≡ n
        → IsCache cache new × Grows old new × LeavesLink cache (put_like l (bytes ++ rest)) (based base l.target) r old new
    by (Ok names) e =
        let t = link_target (record { cache = cache; base = base; number = 0 }) l in
        let told = on_disks (tree_of old) c.ran.0 (logs_lead old new c.ran.0 c.ran.2 c.logged).0 in
        leaves cache base l bytes rest first fits apart o names e r old new expects sound c (suited_run t bytes rest c.ran.0 r size told c.ran.1)
    by (Err fault) e = absurd (nothing_shown (tree_of o.old) (based base l.target) (bytes ++ rest) fault e o.shows)

pub linkers_fail : LinkersFail
linkers_fail cache base l bytes rest first e old new fits apart size none written o sound c = by (names_of (based base l.target)) refl
  where
    by : (n : Result Names Fault) → names_of (based base l.target) ≡ n → IsExcused e old new
    by (Ok names) named =
        let t = link_target (record { cache = cache; base = base; number = 0 }) l in
        let told = on_disks (tree_of old) c.ran.0 (logs_lead old new c.ran.0 c.ran.2 c.logged).0 in
        let run = suited_run t bytes rest c.ran.0 (replies.Refused e) size told c.ran.1 in
        let expects : ExpectsIntegrity (put_like l (bytes ++ rest)) = subst (λ i. IfSome i IsIntegrity) (sym none) tt in
        excused_by (own_of (commands.Link l)) old new c.ran.0 (λ fault no. no) (some_same new _ c.ran.2) e
        (cause cache base l bytes rest first fits apart o names named (replies.Refused e) old new expects sound c run)
        (fails_only t (replies.Refused e) bytes rest c.ran.0 size (record { no_integrity = none; no_size = refl; written = written }) told c.ran.1)
    by (Err fault) named = absurd (nothing_shown (tree_of o.old) (based base l.target) (bytes ++ rest) fault named o.shows)
