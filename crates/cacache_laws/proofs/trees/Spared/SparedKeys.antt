-- Where a key leads after later calls that spare it, on a store that stands.
use Rattle.std.proofs.Common.{rules, ◌≡◌, inl, inr, ℕ, List, [], ◌∷◌, Option, None, Some, Result, arith, filter_map, refl, sym, ap, subst, ◌∙◌}
use Rattle.std.specs.{Prelude.{Contains}, List.{cons_option}}
use Rattle.cacache_core.specs.{declared.{errors.Error.{Error, TheVariants.{OutOfMemory}}, integrity.digest.Hash.{Hash}}, Paths.{home_of}}
use Rattle.cacache_store.specs.declared.store.{log.LogItem.{LogItem}, plain.PlainTemp.{PlainTemp}}
use Rattle.cacache_store.specs.declared.store.step.Step.TheVariants as steps
use Rattle.cacache_disk.{specs.{declared.luck.Luck.TheVariants.{Plain}, Tree.{Rooted}, Replay.{IsLog, tree_of}}, proofs.KeptFolders.{steps_keep_rooted}}
use Rattle.cacache_calls.{specs.{Inserting.{refused_cause}, Runs.{Moves}, Steps.{temp_path}, Table.{opening}}, proofs.Going.{goes_lost}}
use Rattle.cacache_calls.specs.declared.command.Command.TheVariants as commands
use Rattle.cacache_calls.specs.declared.reply.Reply.TheVariants as replies
use Rattle.cacache_value.{specs.{Placed.{Placed}, Value.{value_of_tree}}, proofs.Traces.{steps_keep_placed}}
use Rattle.cacache_history.specs.Setup.{call_site}
use Rattle.cacache_laws.specs.{Caches.{Called, HasKey, setup_at}, OpenWriters.{GivesUpTemp, drop_temp, OpensWriter}, Beside.{found_under}, Sequence.{Alike, after_deeds}, Standing.{IsStanding}, trees.Later.{AllSpare, Later, ReadsOf, Spares, SparedKeysStay, StaysRead, TombstonesFit, calls, commits, gives_up, looks, opens, written}}
use Rattle.cacache_laws.proofs.{Calls.{InParts.{logs_lead}, Replays.{some_same}}, Putting.{Stored.{bare_written}, Deeds.{stays_known}, OpenWriters.{put_nothing, opening_made}}, Readings.{GivenReads.{same_stays_known}, Standing.{standing_reads}}, Spares.Unused.{still_alike, temp_for}, trees.{Members.{contains_member, member_contains}, Spared.{SparedCalls.{Left, call_left, idle, known_left, stands}, SparedCommits.{commit_left}}}}

-- ---- the tree as it was

tree_stands : (cache : List ℕ) (old new : List LogItem) → tree_of new ≡ tree_of old → IsStanding cache old → IsStanding cache new
tree_stands cache old new same standing = record { placed = subst (Placed (home_of cache)) (sym same) standing.placed; rooted = subst Rooted (sym same) standing.rooted }

tree_left : (cache key : List ℕ) (i : List Hash) (old new : List LogItem) → tree_of new ≡ tree_of old → IsStanding cache old → Left cache key i None old new
tree_left cache key i old new same standing = search (rules, known_left, tree_stands, same_stays_known)

-- ---- a writer's opening

-- it is a put of nothing that was broken off, and did nothing to contents or buckets
opening_left : (cache key : List ℕ) (i : List Hash) (number : ℕ) (r : Result PlainTemp Error) (old new : List LogItem) → IsLog new → IsStanding cache old → OpensWriter cache number r (Some old) (Some new)
    → Left cache key i None old new
opening_left cache key i number r old new logged standing opened =
    let o = opening_made cache number old new logged r opened in
    let command = commands.Put put_nothing in
    let lost = replies.Refused OutOfMemory in
    let begins = opening (call_site (setup_at cache []) number) (commands.Put put_nothing) in
    let c : Called cache (commands.Put put_nothing) (replies.Refused OutOfMemory) old new
    = record { base = []; number = number; ran = (o.moves, goes_lost begins o.moves o.next o.goes, o.gains); plain = refl; logged = logged } in
    known_left cache key i None old new (stands cache command lost old new standing c (λ key e. absurd cc))
    (idle cache command lost old new standing c (λ key e. absurd cc) (ap (λ ds. after_deeds (home_of cache) ds (value_of_tree (home_of cache) (tree_of old))) o.nothing))

-- ---- a writer that is given up

given_up : (cache key : List ℕ) (i : List Hash) (number : ℕ) (old new : List LogItem) → IsLog new → IsStanding cache old → GivesUpTemp cache number (Some old) (Some new) → Left cache key i None old new
given_up cache key i number old new logged standing (inl same) = tree_left cache key i old new (ap tree_of (some_same new old same)) standing
given_up cache key i number old new logged standing (inr h) =
    let path = temp_path cache number in
    let t = tree_of old in
    let moves : Moves = (drop_temp cache number, h.0) ∷ [] in
    let lead = logs_lead old new moves h.1 logged in
    let alike : Alike (value_of_tree (home_of cache) (tree_of new)) (value_of_tree (home_of cache) (tree_of old))
    = subst (λ x. Alike (value_of_tree (home_of cache) x) (value_of_tree (home_of cache) (tree_of old))) (sym lead.1) (still_alike cache path t standing.placed h.0 (temp_for cache number) lead.0.0) in
    known_left cache key i None old new
    (record {
      placed = subst (Placed (home_of cache)) (sym lead.1) (steps_keep_placed (home_of cache) t (steps.RemoveFile path) Plain standing.placed tt);
      rooted = subst Rooted (sym lead.1) (steps_keep_rooted t (steps.RemoveFile path) Plain standing.rooted);
    })
    (stays_known cache old new alike)

-- ---- one after another

pub more_texts : (o : Option (List ℕ)) (t : List ℕ) (ts : List (List ℕ)) → Contains ts t → Contains (cons_option o ts) t
more_texts None t ts c = c
more_texts (Some u) t ts c = contains_member t (u ∷ ts) (inr (member_contains t ts c))

pub first_text : (o : Option (List ℕ)) (t : List ℕ) (ts : List (List ℕ)) → o ≡ Some t → Contains (cons_option o ts) t
first_text o t ts e = grind (arith, contains_member)

module _ (cache key : List ℕ) (i : List Hash) where
  one_left : (e : Later) (bytes : List ℕ) (old new : List LogItem) → IsLog new → IsStanding cache old → HasKey cache key i bytes old → Spares cache key i e old new → Left cache key i (written e) old new
  one_left looks bytes old new logged standing has same = tree_left cache key i old new same standing
  one_left (calls command) bytes old new logged standing has call =
      call_left cache key i has.content.formed call.reply old new standing command call.called call.may call.key_spared call.content_spared
  one_left (opens number) bytes old new logged standing has (r, opened) = opening_left cache key i number r old new logged standing opened
  one_left (commits number p) bytes old new logged standing has (differ, fits, opened, r, made) = commit_left cache p number fits opened r old new standing made key i differ
  one_left (gives_up number) bytes old new logged standing has gives = given_up cache key i number old new logged standing gives

  reads_of : (bytes : List ℕ) (log : List LogItem) → IsStanding cache log → HasKey cache key i bytes log → ReadsOf cache key i bytes log
  reads_of bytes log standing has r new c = standing_reads cache key bytes i r log new standing has c

  -- after a call that kept the bytes, and after one that wrote others
  kept_then : (e : Later) (later : List Later) (bytes : List ℕ) (old next new : List LogItem) → found_under cache key next ≡ found_under cache key old
      → StaysRead cache key i bytes (filter_map written later) next new → StaysRead cache key i bytes (filter_map written (e ∷ later)) old new
  kept_then e later bytes old next new finds s = search (rules, more_texts)

  wrote_then : (e : Later) (later : List Later) (bytes text : List ℕ) (old next new : List LogItem) → found_under cache key next ≡ found_under cache key old → written e ≡ Some text
      → StaysRead cache key i text (filter_map written later) next new → StaysRead cache key i bytes (filter_map written (e ∷ later)) old new
  wrote_then e later bytes text old next new finds wrote s = search (rules, first_text, more_texts)

  all_left : (later : List Later) (bytes : List ℕ) (old new : List LogItem) → IsStanding cache old → HasKey cache key i bytes old → AllSpare cache key i later old new
      → StaysRead cache key i bytes (filter_map written later) old new
  all_left [] bytes old new standing has same =
      let known = same_stays_known cache old new (ap (value_of_tree (home_of cache)) same) in
      let there = tree_stands cache old new same standing in
      let still = known.key key bytes i has in
      record { standing = there; finds = known.finds key; held = bytes; which = inl refl; has = still; reads = reads_of bytes new there still }
  all_left (e ∷ later) bytes old new standing has (next, logged, spares, more) =
      let l = one_left e bytes old next logged standing has spares in
      elim (l.leads bytes has) [
        | inl still ↦ kept_then e later bytes old next new l.finds (all_left later bytes next new l.standing still more)
        | inr wrote ↦ wrote_then e later bytes wrote.0 old next new l.finds wrote.1 (all_left later wrote.0 next new l.standing wrote.2 more)
      ]

pub spared_keys_stay : SparedKeysStay
spared_keys_stay cache key i bytes later old new standing has spares = all_left cache key i later bytes old new standing has spares

pub tombstones_fit : TombstonesFit
unfolding refused_cause
tombstones_fit cache d utf8 early none = (bare_written d.key None d.moment 0 utf8 tt early (omega arith)).formed
