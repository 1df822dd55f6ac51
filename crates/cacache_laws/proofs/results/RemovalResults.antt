-- What removals and clearings gave and left.
use Rattle.std.proofs.{lemmas.Grind.{common_steps}, Common.{rules, ◌≡◌, inl, inr, ℕ, List, [], Option, None, Some, Result, Ok, Err, refl, ap, ◌∙◌, arith}}
use Rattle.std.specs.Prelude.{OnOk, IfErr, IsUtf8}
use Rattle.cacache_core.specs.{declared.{errors.{Error.{Error, TheVariants.{IoError, OutOfMemory}}, Fault.TheVariants.{NotFound, TooDeep}}, integrity.digest.Hash.{Hash}}, Integrity.{IsIntegrity}, Paths.{home_of}}
use Rattle.cacache_disk.specs.{declared.node.Node.{Node}, Replay.{IsLog, tree_of}}
use Rattle.cacache_value.specs.{Kinds.{node_below}, Value.{Blob}}
use Rattle.cacache_store.specs.declared.{env.Env.{Env}, store.log.LogItem.{LogItem}}
use Rattle.cacache_calls.specs.declared.command.Command.TheVariants as commands
use Rattle.cacache_calls.specs.{Inserting.{refused_cause}, Replies.{OrMemory, done}, Runs.{reply_of, without_message}, declared.reply.Reply.TheVariants.{Done, Refused}}
use Rattle.cacache_sync.specs.Lookups.{delete_of}
use Rattle.cacache_laws.specs.{Caches.{HasKey, IsEmptyCache, IsExcused, LacksKey, Empties, lies_under}, Beside.{found_under}, Succeeds.{Clears, fully_reply, removal_reply, unless_unwritable}, results.Removals.{FailsClearing, ClearingMeans, ContentRemovalMeans, FullRemovalMeans, RemovalMeans}}
use Rattle.cacache_laws.proofs.{Removing.{RemovedKeys.{RemovesKey, clearings_empty, removals_last, keys_go}, Removed.{RemovesContent, contents_go}}, Putting.{Puts.{removals_keep}, Stored.{bare_written}}, Calls.{Replays.{calls_grow}, CallErrors.{memory_error, excused_error}}, Readings.Standing.{caches_stand}, Sure.{Succeeds.{deletions_answer, removals_answer}, SureRemovals.{clearings_answer, full_removals_answer}}, Spares.Unused.{others_leave_none, stays_ready}, results.{SureResults.{for_memory, or_as}, Told.{called}}}
use Rattle.cacache_history.specs.Values.{IsThere}

gone : (r : Result (Unit {0}) Error) (cache key : List ℕ) (old new : List LogItem) → RemovesKey cache key (reply_of done r) old new → OnOk r (LacksKey cache key new) × IfErr r (λ e. IsExcused e old new)
gone r cache key old new h = grind (arith, excused_error)

removed_if : (blob : Option Blob) → IsThere blob → removal_reply blob ≡ Done
removed_if blob there = grind (arith, common_steps)

-- what a key leads to lies there
fully_done : (cache key : List ℕ) (i : List Hash) (bytes : List ℕ) (log : List LogItem) → HasKey cache key i bytes log → fully_reply (home_of cache) (tree_of log) key (found_under cache key log) ≡ Done
fully_done cache key i bytes log has = search rules

pub removal_means : {C N : Type 0} (moments : C → Option (List ℕ)) (cache key : List ℕ) (r : Result (Unit {0}) Error) (new : Env (List LogItem) C N) → IsUtf8 key → IsLog new.store → RemovalMeans moments cache key r new
unfolding refused_cause
removal_means moments cache key r new utf8 logged old sound ran =
    let c = called done (λ u. refl) r cache old.base 0 (commands.Delete (delete_of key ran.0)) old.store new.store ran.2.0 logged in
    let d = delete_of key ran.0 in
    let w_written = bare_written key None ran.0 0 utf8 tt ran.1.1 (omega arith) in
    let w = removals_last cache key ran.0 (reply_of done r) old.store new.store utf8 ran.1.1 sound c in
    let told = gone r cache key old.store new.store w.1 in
    record {
      sound = w.0;
      grows = calls_grow cache (commands.Delete (delete_of key ran.0)) (reply_of done r) old.store new.store c;
      gone = told.0;
      others = removals_keep cache key ran.0 (reply_of done r) old.store new.store utf8 ran.1.1 sound c;
      fails = told.1;
      succeeds = λ folder.
          for_memory done r Done tt
          (or_as (reply_of done r) (ap (unless_unwritable Done) w_written.no_cause) (deletions_answer cache d (reply_of done r) old.store new.store folder (caches_stand cache old.store sound) c));
      ready = stays_ready cache old.store new.store (others_leave_none cache (commands.Delete d) (reply_of done r) old.store new.store c (λ none. w_written.formed) tt tt sound);
    }

content_gone : (r : Result (Unit {0}) Error) (cache : List ℕ) (i : List Hash) (old new : List LogItem) → RemovesContent cache i (reply_of done r) old new
    → OnOk r (lies_under cache i new ≡ None) × IfErr r (λ e. IsExcused e old new)
content_gone r cache i old new h = grind (arith, excused_error)

pub content_removal_means : {C N : Type 0} (cache : List ℕ) (i : List Hash) (r : Result (Unit {0}) Error) (new : Env (List LogItem) C N) → IsIntegrity i → IsLog new.store → ContentRemovalMeans cache i r new
content_removal_means cache i r new formed logged old sound ran =
    let c = called done (λ u. refl) r cache old.base 0 (commands.RemoveHash i) old.store new.store ran.0.0 logged in
    let w = contents_go cache i (reply_of done r) old.store new.store formed sound c in
    let told = content_gone r cache i old.store new.store w.1 in
    record {
      sound = w.0;
      grows = calls_grow cache (commands.RemoveHash i) (reply_of done r) old.store new.store c;
      gone = told.0;
      apart = w.2;
      fails = told.1;
      succeeds = λ folder there.
          for_memory done r Done tt (or_as (reply_of done r) (removed_if (lies_under cache i old.store) there) (removals_answer cache i (reply_of done r) old.store new.store folder (caches_stand cache old.store sound) formed c));
      ready = stays_ready cache old.store new.store (others_leave_none cache (commands.RemoveHash i) (reply_of done r) old.store new.store c tt formed tt sound);
    }

pub full_removal_means : {C N : Type 0} (cache key : List ℕ) (r : Result (Unit {0}) Error) (new : Env (List LogItem) C N) → IsLog new.store → FullRemovalMeans cache key r new
full_removal_means cache key r new logged old sound ran =
    let c = called done (λ u. refl) r cache old.base 0 (commands.RemoveFully key) old.store new.store ran.0.0 logged in
    let w = keys_go cache key (reply_of done r) old.store new.store sound c in
    let told = gone r cache key old.store new.store w.1 in
    record {
      sound = w.0;
      grows = calls_grow cache (commands.RemoveFully key) (reply_of done r) old.store new.store c;
      gone = told.0;
      apart = w.2;
      fails = told.1;
      succeeds = λ i bytes folder has.
          for_memory done r Done tt (or_as (reply_of done r) (fully_done cache key i bytes old.store has) (full_removals_answer cache key (reply_of done r) old.store new.store folder sound c));
      ready = stays_ready cache old.store new.store (others_leave_none cache (commands.RemoveFully key) (reply_of done r) old.store new.store c tt tt tt sound);
    }

empty_after : (r : Result (Unit {0}) Error) (cache : List ℕ) (old new : List LogItem) → Empties cache (reply_of done r) old new → OnOk r (IsEmptyCache cache new)
empty_after r cache old new h = grind (arith, common_steps)

-- why a clearing may fail
clearing_by : (cache : List ℕ) (old : List LogItem) (e : Error) (here : Option Node) → node_below (home_of cache) (tree_of old) [] ≡ here → Clears here (Refused (without_message e)) → FailsClearing cache old e
clearing_by cache old e here is h = grind (arith, common_steps)

clearing_fails : (cache : List ℕ) (r : Result (Unit {0}) Error) (old : List LogItem) → OrMemory (Clears (node_below (home_of cache) (tree_of old) []) (reply_of done r)) (reply_of done r) → IfErr r (λ e. FailsClearing cache old e)
clearing_fails cache r old h = grind (arith, memory_error, clearing_by)

pub clearing_means : {C N : Type 0} (cache : List ℕ) (r : Result (Unit {0}) Error) (new : Env (List LogItem) C N) → IsLog new.store → ClearingMeans cache r new
clearing_means cache r new logged old sound ran =
    let c = called done (λ u. refl) r cache old.base 0 commands.Clear old.store new.store ran.0.0 logged in
    let w = clearings_empty cache (reply_of done r) old.store new.store sound c in
    record {
      sound = w.0;
      grows = calls_grow cache commands.Clear (reply_of done r) old.store new.store c;
      empty = empty_after r cache old.store new.store w.1;
      succeeds = λ folder. clearing_fails cache r old.store (clearings_answer cache (reply_of done r) old.store new.store folder (caches_stand cache old.store sound) c);
      ready = stays_ready cache old.store new.store (others_leave_none cache commands.Clear (reply_of done r) old.store new.store c tt tt tt sound);
    }
