-- A touch makes its key's entry a new one, and leaves all else.
use Rattle.std.proofs.{Common.{◌≡◌, inl, inr, ◌<◌, ◌^◌, ℕ, Bool, true, false, cond, List, [], ◌∷◌, ◌++◌, Option, None, Some, Result, Ok, Err, map, fold, unwrap_or, option_map, refl, sym, ap, subst, ◌∙◌}, lemmas.{List.Elements.{All-head, All-tail}, Slice.Eq.{bytes_eq-Decides}}}
use Rattle.std.specs.Prelude.{All, IfErr, IfOk, IfSome, IsUtf8, MatchOption, bytes_eq}
use Rattle.sha1.specs.Sha1.{sha1}
use Rattle.cacache_core.specs.{declared.{errors.Error.{Error, TheVariants.{IoError, OutOfMemory}}, integrity.digest.Hash.{Hash}}, Paths.{home_of}}
use Rattle.cacache_store.specs.declared.store.answer.Answer.TheVariants as answers
use Rattle.cacache_store.specs.declared.store.step.Step.TheVariants as steps
use Rattle.cacache_store.specs.{declared.{env.Env.{Env}, store.log.LogItem.{LogItem, TheVariants.{Made as Logged}}}, Plain.{PlainAnswer, PlainStep}}
use Rattle.cacache_disk.specs.Replay.{IsLog, tree_of}
use Rattle.cacache_entry.specs.{Entry.{Entry}, FittingEntries.{AreBytes, IsEntry, IsJson}, Bucket.{Found, after_entry, answer_of, answer_of_integrity, found_of}}
use Rattle.cacache_calls.specs.declared.command.Command.TheVariants as commands
use Rattle.cacache_calls.specs.declared.reply.Reply.TheVariants as replies
use Rattle.cacache_calls.specs.{declared.{command.{Command.{Command}, Insert.{Insert}}, reply.Reply.{Reply}}, Inserting.{insertion}, Runs.{Ran, plain_reply, without_message}, SingleSteps.{FailsAt}, Sound.{FormedIfWritten}, Steps.{bucket_path}, Table.{opening}}
use Rattle.cacache_calls.proofs.Telling.{integrity_utf8}
use Rattle.cacache_jobs.specs.{Environment.{AsksMoment}, JobStates.{site_of}}
use Rattle.cacache_sync.specs.put.KeyedWriters.{insert_of}
use Rattle.cacache_history.proofs.Entries.Spelled.{HasIntegrity, latest_has}
use Rattle.cacache_laws.specs.{Caches.{Called, IsCache}, Inserts.{InsertsKey}, Beside.{KeepsOthers, StaysKnown, found_under}, Looks.{GivesFound}, OpenWriters.{LeavesKnownCache}, ReadAnswers.{entries_on}}
use Rattle.cacache_laws.proofs.{Calls.{InParts.{logs_lead}, Replays.{some_same}, CallErrors.{plain_error}}, Putting.Puts.{inserts_last}, Readings.{Known.{caches_last}, GivenReads.{finds_found}, Looks.{tree_stays}, OpenReaders.{leaves, log_front}}, results.Told.{looks_leave}}
use Rattle.cacache_keep.specs.{Touched.{LeadsAnew, LeavesTouched, TouchMeans, at_moment}, Touching.{ReadsClean, StopsChecking, StopsTouching, Touches, TouchesKey, is_found, renewed, said_of}}
use Rattle.cacache_keep.proofs.Stopped.{Keeps, Look, gained, gains_none}

-- ---- an entry that is found

-- it is one of the key, and well-formed
abbrev Fit : List ℕ → Option Found → Type 0
Fit key found = IfSome found (λ f. (f.key ≡ key) × (f.size < 2 ^ 64) × IsJson f.metadata × AreBytes f.raw_metadata)

answer_fits : (key : List ℕ) (e : Entry) (found : Option Found) (answer : Option (Option (List Hash))) → e.key ≡ key → IsEntry e → Fit key found → Fit key (unwrap_or (option_map (option_map (found_of e)) answer) found)
answer_fits key e found None same formed h = h
answer_fits key e found (Some None) same formed h = tt
answer_fits key e found (Some (Some i)) same formed h = (same, formed.size, formed.metadata, formed.raw_metadata)

one_fits : (key : List ℕ) (e : Entry) (found : Option Found) (b : Bool) → bytes_eq e.key key ≡ b → IsEntry e → Fit key found → Fit key (unwrap_or (cond b (answer_of e e.integrity) None) found)
one_fits key e found true is formed h = answer_fits key e found (answer_of_integrity e.integrity) ((bytes_eq-Decides e.key key).0 is) formed h
one_fits key e found false is formed h = h

all_fit : (key : List ℕ) (found : Option Found) (es : List Entry) → All IsEntry es → Fit key found → Fit key (fold (after_entry key) found es)
all_fit key found [] all h = h
all_fit key found (e ∷ es) all h = all_fit key (after_entry key found e) es (All-tail IsEntry e es all) (one_fits key e found (bytes_eq e.key key) refl (All-head IsEntry e es all) h)

-- ---- the key's bucket

-- a step that only looks and failed
pub failed_keep : (step : PlainStep) (e : Error) (old new : Option (List LogItem)) → ((answer : PlainAnswer) → Look ((step, answer) ∷ [])) → FailsAt step e old new → Keeps old new
failed_keep step (IoError fault message) old new looks does = gained old new ((step, answers.Failed fault) ∷ []) does (looks (answers.Failed fault))
failed_keep step OutOfMemory old new looks (inl same) = record { moves = []; gains = gains_none old new same; stays = λ t. refl }
failed_keep step OutOfMemory old new looks (inr (fault, does)) = gained old new ((step, answers.Failed fault) ∷ []) does (looks (answers.Failed fault))
failed_keep step e old new looks fails = absurd fails

-- a reading leaves the tree
reads_keep : (cache key : List ℕ) (old new : Option (List LogItem)) → ReadsClean cache key old new → Keeps old new
reads_keep cache key old new (bytes, clean, does) = gained old new ((steps.ReadAll (bucket_path cache key), answers.Bytes bytes) ∷ []) does (tt, tt)

checking_keeps : (cache key : List ℕ) (e : Error) (old new : Option (List LogItem)) → StopsChecking cache key e old new → Keeps old new
checking_keeps cache key e old new (inl fails) = failed_keep (steps.ReadAll (bucket_path cache key)) e old new (λ answer. (tt, tt)) fails
checking_keeps cache key e old new (inr (bytes, does, why)) = gained old new ((steps.ReadAll (bucket_path cache key), answers.Bytes bytes) ∷ []) does (tt, tt)

module _ {C N : Type 0} (moments : C → Option (List ℕ)) (cache key : List ℕ) (utf8 : IsUtf8 key) (old new : Env (List LogItem) C N) (logged : IsLog new.store) (cached : IsCache cache old.store) where
  -- ---- a lookup

  abbrev Made : Command → Reply → Option (List LogItem) → Option (List LogItem) → Type 0
  Made command reply before then = Ran (opening (site_of cache old.base 0) command) reply before then

  called : (command : Command) (reply : Reply) (before then : List LogItem) → plain_reply reply ≡ reply → IsLog then → Made command reply (Some before) (Some then) → Called cache command reply before then
  called command reply before then plain is_log ran = record { base = old.base; number = 0; ran = ran; plain = plain; logged = is_log }

  looked : (reply : Reply) (then : List LogItem) → plain_reply reply ≡ reply → IsLog then → Made (commands.Find key) reply (Some old.store) (Some then)
      → (tree_of then ≡ tree_of old.store) × LeavesKnownCache cache old.store then × GivesFound (found_under cache key old.store) reply old.store then
  looked reply then plain is_log ran =
      let c = called (commands.Find key) reply old.store then plain is_log ran in (
        tree_stays cache (commands.Find key) reply old.store then tt c,
        looks_leave cache (commands.Find key) reply old.store then tt c (caches_last cache (commands.Find key) reply old.store then c tt tt cached),
        finds_found cache key reply old.store then cached c,
      )

  all_known : StaysKnown cache old.store new.store → KeepsOthers cache key old.store new.store
  all_known k = record { finds = λ other differ. k.finds other; lies = k.lies; key = λ other bytes i differ has. k.key other bytes i has; content = k.content }

  -- ---- an insertion after it

  -- it says of the content what was found
  abbrev anew : Found → ℕ → Insert
  anew f moment = insert_of key (said_of f) moment

  record Inserted (f : Found) (moment : ℕ) (reply : Reply) : Type 0 where
    found : found_under cache key old.store ≡ Some f
    same : f.key ≡ key
    sound : IsCache cache new.store
    others : KeepsOthers cache key old.store new.store
    between : List LogItem
    inserts : InsertsKey cache (anew f moment) reply between new.store

  inserted : (f : Found) (moment : ℕ) (reply : Reply) (mid read : Option (List LogItem)) → plain_reply reply ≡ reply → Made (commands.Find key) (replies.LookedUp (Some f)) (Some old.store) mid → Keeps mid read → Made (renewed key f moment) reply read (Some new.store)
      → Inserted f moment reply
  inserted f moment reply mid read plain first stays second =
      let log = old.store ++ map (λ m. Logged m.0 m.1) first.0 in
      let k : Keeps (Some (old.store ++ map (λ m. Logged m.0 m.1) first.0)) read = subst (λ x. Keeps x read) first.2 stays in
      let late = log ++ map (λ m. Logged m.0 m.1) k.moves in
      let rest : Made (renewed key f moment) reply (Some (log ++ map (λ m. Logged m.0 m.1) k.moves)) (Some new.store) = subst (λ x. Made (renewed key f moment) reply x (Some new.store)) k.gains second in
      let late_log = log_front late new.store (map (λ m. Logged m.0 m.1) rest.0) (some_same new.store _ rest.2) logged in
      let is_log = log_front log late (map (λ m. Logged m.0 m.1) k.moves) refl late_log in
      let l = looked (replies.LookedUp (Some f)) log refl is_log (first.0, first.1, refl) in
      let finds : found_under cache key old.store ≡ Some f = sym l.2 in
      let es = entries_on (home_of cache) (tree_of old.store) key in
      let fit = subst (Fit key) finds (all_fit key None es (cached.formed (sha1 key)) tt) in
      let has = subst HasIntegrity finds (latest_has key es (cached.formed (sha1 key))) in
      let formed : FormedIfWritten (insertion cache (anew f moment)) = λ none. record { key = utf8; integrity = integrity_utf8 f.integrity; size = fit.1; metadata = fit.2; raw_metadata = fit.3 } in
      let same : tree_of (log ++ map (λ m. Logged m.0 m.1) k.moves) ≡ tree_of log = (logs_lead log late k.moves refl late_log).1 ∙ k.stays (tree_of log) in
      let still = leaves cache log late l.1.0 same (k.moves, refl) in
      let w = inserts_last cache (anew f moment) reply late new.store has formed still.0 (called (renewed key f moment) reply late new.store plain logged rest) in
      let one = l.1.1 in
      let two = still.1 in
      record {
        found = finds;
        same = fit.0;
        sound = w.0;
        others = record {
          finds = λ other differ. w.2.finds other differ ∙ two.finds other ∙ one.finds other;
          lies = λ i. w.2.lies i ∙ two.lies i ∙ one.lies i;
          key = λ other bytes i differ has. w.2.key other bytes i differ (two.key other bytes i (one.key other bytes i has));
          content = λ i bytes has. w.2.content i bytes (two.content i bytes (one.content i bytes has));
        };
        between = late;
        inserts = w.1;
      }

  -- ---- a touch

  done : (touched : Bool) (found : Option Found) (moment : ℕ) → touched ≡ is_found found → MatchOption found (new.clock ≡ old.clock) (λ f. AsksMoment moments old.clock new.clock moment)
      → TouchesKey (site_of cache old.base 0) key found moment (Some old.store) (Some new.store) → LeavesTouched moments cache key (Ok touched) old new
  done touched None moment is asked calls =
      let l = looked (replies.LookedUp None) new.store refl logged calls in
      let none : found_under cache key old.store ≡ None = sym l.2 in
      record {
        sound = l.1.0;
        others = all_known l.1.1;
        tells = is ∙ ap is_found l.2;
        anew = λ f finds. absurd (let no : None ≡ Some f = l.2 ∙ finds in cc);
        keeps = λ i bytes has. l.1.1.key key bytes i has;
        none = λ lacks. l.0;
      }
  done touched (Some f) moment is asked calls =
      let a = inserted f moment (replies.Stored f.integrity) calls.0 calls.1 refl calls.2 (reads_keep cache key calls.0 calls.1 calls.3) calls.4 in
      let leads : found_under cache key new.store ≡ Some (at_moment moment f)
      = a.inserts ∙ ap (λ k. Some (record { key = k; integrity = f.integrity; time = moment; size = f.size; metadata = f.metadata; raw_metadata = f.raw_metadata })) (sym a.same) in
      let is_it : (g : Found) → found_under cache key old.store ≡ Some g → f ≡ g = λ g finds. let both : Some f ≡ Some g = sym a.found ∙ finds in cc in
      record {
        sound = a.sound;
        others = a.others;
        tells = is ∙ ap is_found (sym a.found);
        anew = λ g finds. subst (λ x. LeadsAnew moments cache key x old new) (is_it g finds) (record { moment = moment; asked = asked; leads = leads });
        keeps = λ i bytes has.
            record { found = at_moment moment f; finds = leads; integrity = ap (λ (x : Found). x.integrity) (is_it has.found has.finds) ∙ has.integrity; content = a.others.content i bytes has.content };
        none = λ lacks. absurd (let no : Some f ≡ None = sym a.found ∙ lacks in cc);
      }

  failed : (e : Error) → StopsTouching (site_of cache old.base 0) key e (Some old.store) (Some new.store) → LeavesTouched moments cache key (Err e) old new
  failed e (inl ran) =
      let l = looked (replies.Refused (without_message e)) new.store (ap replies.Refused (plain_error e)) logged ran in
      record { sound = l.1.0; others = all_known l.1.1; tells = tt; anew = λ f finds. tt; keeps = λ i bytes has. tt; none = λ lacks. l.0 }
  failed e (inr (f, found, first, inl stop)) =
      let log = old.store ++ map (λ m. Logged m.0 m.1) first.0 in
      let k : Keeps (Some (old.store ++ map (λ m. Logged m.0 m.1) first.0)) (Some new.store) = subst (λ x. Keeps x (Some new.store)) first.2 (checking_keeps cache key e found (Some new.store) stop) in
      let is_log = log_front log new.store (map (λ m. Logged m.0 m.1) k.moves) (some_same new.store _ k.gains) logged in
      let l = looked (replies.LookedUp (Some f)) log refl is_log (first.0, first.1, refl) in
      let same : tree_of new.store ≡ tree_of log = (logs_lead log new.store k.moves k.gains logged).1 ∙ k.stays (tree_of log) in
      let still = leaves cache log new.store l.1.0 same (k.moves, some_same new.store _ k.gains) in
      let one = l.1.1 in
      let two = still.1 in
      let known : StaysKnown cache old.store new.store = record {
        finds = λ other. two.finds other ∙ one.finds other;
        lies = λ i. two.lies i ∙ one.lies i;
        key = λ other bytes i has. two.key other bytes i (one.key other bytes i has);
        content = λ i bytes has. two.content i bytes (one.content i bytes has);
      } in
      record { sound = still.0; others = all_known known; tells = tt; anew = λ f finds. tt; keeps = λ i bytes has. tt; none = λ lacks. same ∙ l.0 }
  failed e (inr (f, mid, first, inr (moment, read, clean, second))) =
      let a = inserted f moment (replies.Refused (without_message e)) mid read (ap replies.Refused (plain_error e)) first (reads_keep cache key mid read clean) second in
      record { sound = a.sound; others = a.others; tells = tt; anew = λ f finds. tt; keeps = λ i bytes has. tt; none = λ lacks. absurd (let no : Some f ≡ None = sym a.found ∙ lacks in cc) }

  by_result : (r : Result Bool Error) → IfOk r (λ touched. Touches (λ log. Some log) moments cache key touched old new) → IfErr r (λ e. StopsTouching (site_of cache old.base 0) key e (Some old.store) (Some new.store))
      → LeavesTouched moments cache key r old new
  by_result (Ok touched) t stops = done touched t.found t.moment t.which t.asked t.calls
  by_result (Err e) t stops = failed e stops

pub touch_means : {C N : Type 0} (moments : C → Option (List ℕ)) (cache key : List ℕ) (r : Result Bool Error) (new : Env (List LogItem) C N) → IsUtf8 key → IsLog new.store → TouchMeans moments cache key r new
touch_means moments cache key r new utf8 logged old sound touches stops = by_result moments cache key utf8 old new logged sound r touches stops
