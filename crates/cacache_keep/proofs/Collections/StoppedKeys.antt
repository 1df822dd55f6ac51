-- A collection that an error ended leaves a cache in which each key leads where it led.
use Rattle.std.proofs.{Common.{◌≡◌, inl, inr, ℕ, List, [], ◌∷◌, ◌++◌, true, false, Option, Some, map, refl, sym, ap, ap₂, subst, ◌∙◌, arith, filter}, lemmas.List.Elements.{All-cons, All-head, All-nil, All-tail}}
use Rattle.std.specs.Prelude.{All, Contains, not}
use Rattle.sha1.specs.Sha1.{sha1}
use Rattle.cacache_core.specs.{declared.{errors.Error.{Error}, integrity.{algorithm.Algorithm.{Algorithm, TheVariants.{Sha1}}, digest.Hash.{Hash}}}, Integrity.{IsHash, IsIntegrity, address, strongest_first}, Paths.{Names, home_of}}
use Rattle.cacache_core.proofs.PathLemmas.{keys_have_digests}
use Rattle.cacache_store.specs.declared.store.log.LogItem.{LogItem, TheVariants.{Made}}
use Rattle.cacache_disk.specs.{Tree.{Tree}, Replay.{tree_of, IsLog}}
use Rattle.cacache_entry.specs.Bucket.{Found, latest}
use Rattle.cacache_calls.specs.declared.command.Command.TheVariants as commands
use Rattle.cacache_calls.specs.declared.reply.Reply.TheVariants as replies
use Rattle.cacache_calls.specs.{declared.{command.Command.{Command}, reply.Reply.{Reply}}, Runs.{Gains, Moves, Ran, without_message}, State.{Site}, Table.{opening}, Walking.{most}}
use Rattle.cacache_value.specs.Value.{value_of_tree}
use Rattle.cacache_walks.specs.{Listing.{ListsContents, content_area_in}, Reading.{top_folder}}
use Rattle.cacache_laws.specs.{Beside.{ShareAddress, found_under}, Caches.{Called, HasKey, IsCache}, Looks.{OnlyLooks}, ReadAnswers.{entries_on}, Sequence.{IsSound}, trees.{Collecting.{IsCollected, Removes, is_live}, Contents.{content_in}, Verifying.{found_in}}}
use Rattle.cacache_laws.proofs.{Calls.{InParts.{logs_lead}, Replays.{some_same}, CallErrors.{plain_error}}, Readings.{GivenReads.{same_stays_known}, OpenReaders.{log_front}}, Removing.Removed.{contents_go}, trees.{Collected.{from_kept, live_so}, Keeping.{removals_leave}, Led.{found_listed}, Logged.{gains_join, log_rooted}, Members.{Member, contains_member, member_contains}, Removed.{removals_leave_sound}}}
use Rattle.cacache_keep.specs.{Behind.{KeepsKeys, StoppedKeepKeys}, Calls.{Asks, ListsEntries, MadeCalls, StopsReading, StopsRemoving, has_entry, removal}, Keeping.{Chooses, StopsEarly}}
use Rattle.cacache_keep.proofs.{Collections.{Behind.{found_same, key_same}, Leaving.{Choice, choice, removals, removals_gain, removed_by, unused_ones}}, Stopped.{AllLook, folders_look, index_keeps, stops_look, gained, then_keeps, Keeps, made_looks}}

-- ---- moves that only look

asks_look : (command : Command) → Asks command → OnlyLooks command
asks_look (commands.Exists i) h = tt
asks_look command h = absurd h

all_look : (calls : List (Command × Reply)) → All (λ (c : Command × Reply). Asks c.0) calls → AllLook calls
all_look [] h = tt
all_look (c ∷ calls) h = (asks_look c.0 (All-head (λ (c : Command × Reply). Asks c.0) c calls h), all_look calls (All-tail (λ (c : Command × Reply). Asks c.0) c calls h))

module _ (site : Site) where
  pub listing_keeps : (entries : List Found) (old new : Option (List LogItem)) → ListsEntries site entries old new → Keeps old new
  listing_keeps entries old new l = index_keeps site (replies.Listed l.0) old new l.2

  reading_keeps : (e : Error) (old new : Option (List LogItem)) → StopsReading site e old new → Keeps old new
  reading_keeps e old new (inl stop) = index_keeps site stop.0 old new stop.1
  reading_keeps e old new (inr (entries, listed, l, q)) = then_keeps old listed new (listing_keeps entries old listed l) (made_looks site q.calls listed new (all_look q.calls q.harmless) q.made).keeps

  contents_keep : (addresses : List (List Hash)) (strange : List (List ℕ)) (old new : Option (List LogItem)) → ListsContents site.cache addresses strange old new → Keeps old new
  contents_keep addresses strange old new c = gained old new c.0 c.1 (folders_look (top_folder (content_area_in site.cache) ∷ []) c.0 c.2)

  pub early_keeps : (e : Error) (old new : Option (List LogItem)) → StopsEarly site e old new → Keeps old new
  early_keeps e old new (inl (moves, gains, stops)) = gained old new moves gains (stops_look most (top_folder (content_area_in site.cache) ∷ []) moves e stops)
  early_keeps e old new (inr (addresses, strange, found, contents, reading)) = then_keeps old found new (contents_keep addresses strange old found contents) (reading_keeps e found new reading)

  pub chooses_keep : (kept : ℕ) (dropped : List (List Hash)) (old new : Option (List LogItem)) → Chooses site kept dropped old new → Keeps old new
  chooses_keep kept dropped old new c = then_keeps old c.found new (contents_keep c.addresses c.strange old c.found c.contents) (listing_keeps c.entries c.found new c.listing)

  -- all that was known stays
  kept_cache : (old new : List LogItem) → IsLog new → IsCache site.cache old → Keeps (Some old) (Some new) → KeepsKeys site.cache old new
  kept_cache old new logged sound k =
      let same : tree_of new ≡ tree_of old = (logs_lead old new k.moves k.gains logged).1 ∙ k.stays (tree_of old) in
      let known = same_stays_known site.cache old new (ap (value_of_tree (home_of site.cache)) same) in
      record { sound = subst (IsSound (home_of site.cache)) (sym same) sound; finds = known.finds; key = known.key }

-- ---- removals that an error ended

ordered : (h : Hash) (a : Algorithm) → h.algorithm ≡ a → strongest_first (h ∷ []) ≡ h ∷ []
ordered h Sha1 e = rw e refl
ordered h a e = rw e refl

single : (h : Hash) → IsHash h → IsIntegrity (h ∷ [])
single h is = record { nonempty = omega arith; ordered = ordered h h.algorithm refl; hashes = All-cons IsHash h [] is (All-nil IsHash) }

-- addresses of which the first are gone, and the next one was to go
pub record Parts (gone : List (List Hash)) (next : List Hash) (us : List Hash) : Type 0 where
  pub hashes : List Hash
  pub hash : Hash
  pub gone_are : gone ≡ map (λ h. h ∷ []) hashes
  pub next_is : next ≡ hash ∷ []
  pub first : (x : Hash) → Member x hashes → Member x us
  pub one : Member hash us

pub parts : (gone : List (List Hash)) (next : List Hash) (rest : List (List Hash)) (us : List Hash) → map (λ h. h ∷ []) us ≡ gone ++ next ∷ rest → Parts gone next us
parts [] next rest (u ∷ us) e = record { hashes = []; hash = u; gone_are = refl; next_is = cc; first = λ x m. absurd m; one = inl refl }
parts (g ∷ gone) next rest (u ∷ us) e =
    let tail : map (λ h. h ∷ []) us ≡ gone ++ next ∷ rest = cc in
    let head : g ≡ u ∷ [] = cc in
    let p = parts gone next rest us tail in
    record {
      hashes = u ∷ p.hashes;
      hash = p.hash;
      gone_are = ap₂ (λ (x : List Hash) (l : List (List Hash)). x ∷ l) head p.gone_are;
      next_is = p.next_is;
      first = λ x m. elim m [ inl is ↦ inl is | inr more ↦ inr (p.first x more) ];
      one = inr p.one;
    }
parts _ next rest _ e = absurd cc

module _ (site : Site) (home : Names) (kept : ℕ) (dropped : List (List Hash)) (e : Error) (old new : List LogItem) (chosen : Option (List LogItem))
    (is : home_of site.cache ≡ Some home) (logged : IsLog new)
    (c : Chooses site kept dropped (Some old) chosen) (s : StopsRemoving site dropped e chosen (Some new)) where
  abbrev t : Tree
  t = tree_of old

  abbrev unused : List Hash
  unused = filter (λ h. not (is_live c.entries h)) c.order.hashes

  split : Parts s.gone s.next unused
  split = parts s.gone s.next s.rest unused (sym (c.unused.which ∙ ap (λ l. filter (λ i. not (has_entry c.entries i)) l) c.order.single ∙ unused_ones c.entries c.order.hashes) ∙ s.split)

  abbrev gone : List Hash
  gone = split.hashes

  -- one that is live isn't among them
  dead : (h : Hash) → is_live c.entries h ≡ true → Member h unused → ⊥
  dead h live m = let no : not (is_live c.entries h) ≡ true = (from_kept (λ x. not (is_live c.entries x)) h c.order.hashes m).1 in let wrong : false ≡ true = ap not (sym live) ∙ no in absurd cc

  -- the log before the last removal
  first_moves : Moves
  first_moves = (chooses_keep site kept dropped (Some old) chosen c).moves ++ removals site.cache gone

  abbrev mid : List LogItem
  mid = old ++ map (λ m. Made m.0 m.1) first_moves

  removing : Gains chosen s.between (removals site.cache gone)
  removing = removals_gain site gone chosen s.between (subst (λ d. MadeCalls site (map removal d) chosen s.between) split.gone_are s.removing)

  here : s.between ≡ Some mid
  unfolding first_moves chooses_keep
  here =
      let k = chooses_keep site kept dropped (Some old) chosen c in
      gains_join (Some old) chosen s.between k.moves (removals site.cache gone) k.gains removing

  refused : Ran (opening site (commands.RemoveHash (split.hash ∷ []))) (replies.Refused (without_message e)) (Some mid) (Some new)
  refused =
      subst (λ i. Ran (opening site (commands.RemoveHash i)) (replies.Refused (without_message e)) (Some mid) (Some new)) split.next_is
      (subst (λ l. Ran (opening site (commands.RemoveHash s.next)) (replies.Refused (without_message e)) l (Some new)) here s.refused)

  mid_logged : IsLog mid
  mid_logged = log_front mid new (map (λ m. Made m.0 m.1) refused.0) (some_same new (mid ++ map (λ m. Made m.0 m.1) refused.0) refused.2) logged

  shown : Choice site home kept dropped old mid chosen is mid_logged c (removals site.cache gone)
  shown = choice site home kept dropped old mid chosen is mid_logged c (removals site.cache gone) (subst (λ l. Gains chosen l (removals site.cache gone)) here removing)

  removes : Removes site.cache gone t (tree_of mid)
  removes = subst (Removes site.cache gone t) (sym shown.leads) (removed_by site.cache gone t shown.answered)

  in_unused : (h : Hash) → Contains gone h → Member h unused
  in_unused h inside = split.first h (member_contains h gone inside)

  hash_of : (h : Hash) → Member h unused → IsHash h
  hash_of h m = shown.holds.formed h (contains_member h c.order.hashes (from_kept (λ x. not (is_live c.entries x)) h c.order.hashes m).0)

  collected : IsCollected home gone t (tree_of mid)
  collected = removals_leave site.cache home gone t (tree_of mid) is (λ h inside. hash_of h (in_unused h inside)) removes

  left : (h : Hash) → IsHash h → is_live c.entries h ≡ true → content_in home (tree_of mid) h ≡ content_in home t h
  left h hash live = collected.kept h hash (λ inside. dead h live (in_unused h inside))

  -- what a key leads to is live
  apart : (key bytes : List ℕ) (i : List Hash) → HasKey site.cache key i bytes old → ShareAddress i (split.hash ∷ []) → ⊥
  apart key bytes i has share =
      let led : found_in home (tree_of old) key ≡ Some has.found = subst (λ (f : Option Names). latest key (entries_on f (tree_of old) key) ≡ Some has.found) is has.finds in
      let listed = found_listed site home (tree_of old) is (log_rooted old) c.entries key has.found shown.index led in
      dead split.hash (live_so c.entries has.found split.hash (member_contains has.found c.entries listed) (ap address has.integrity ∙ share)) split.one

  called : Called site.cache (commands.RemoveHash (split.hash ∷ [])) (replies.Refused (without_message e)) mid new
  called = record { base = site.base; number = site.number; ran = refused; plain = ap (λ x. replies.Refused x) (plain_error e); logged = logged }

  whole : IsIntegrity (split.hash ∷ [])
  whole = single split.hash (hash_of split.hash split.one)

  finds_same : (key : List ℕ) → found_under site.cache key mid ≡ found_under site.cache key old
  finds_same key = found_same site home old mid is key (collected.buckets (sha1 key) (keys_have_digests key))

  keys_same : (key bytes : List ℕ) (i : List Hash) → HasKey site.cache key i bytes old → HasKey site.cache key i bytes mid
  keys_same = key_same site home old mid is c.entries shown.index left collected.buckets

  removals_stopped : IsCache site.cache old → KeepsKeys site.cache old new
  removals_stopped sound =
      let last = contents_go site.cache (split.hash ∷ []) (replies.Refused (without_message e)) mid new whole (removals_leave_sound site.cache gone t (tree_of mid) removes sound) called in
      record {
        sound = last.0;
        finds = λ key. last.2.finds key ∙ finds_same key;
        key = λ key bytes i has. last.2.key key bytes i (apart key bytes i has) (keys_same key bytes i has);
      }

pub stopped_keep_keys : StoppedKeepKeys
stopped_keep_keys odd site home e old new is logged sound (inl early) = kept_cache site old new logged sound (early_keeps site e (Some old) (Some new) early)
stopped_keep_keys odd site home e old new is logged sound (inr (kept, dropped, chosen, c, inl (refuses, same))) =
    kept_cache site old new logged sound (subst (λ l. Keeps (Some old) l) (sym same) (chooses_keep site kept dropped (Some old) chosen c))
stopped_keep_keys odd site home e old new is logged sound (inr (kept, dropped, chosen, c, inr (allows, s))) = removals_stopped site home kept dropped e old new chosen is logged c s sound
