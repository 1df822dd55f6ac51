-- What a listing names, and the contents that stay while other calls spare them.
use Rattle.std.proofs.{Common.{◌≡◌, inl, inr, ℕ, List, [], ◌∷◌, Some, Ok, Err, map, refl, sym, ap, subst, ◌∙◌, ◌==◌, cond, eq-eqb, ◌++◌, Option, None, append-nil, ◌≤◌, ◌+◌, ◌-◌, zero, suc, take, drop, take-append-drop, arith}, lemmas.{List.Elements.{All-head}, Grind.{common_steps}}}
use Rattle.std.specs.Prelude.{IfSome, slice_get}
use Rattle.sha1.specs.Sha1.{sha1}
use Rattle.cacache_core.specs.{declared.{errors.Error.TheVariants.{OutOfMemory}, integrity.digest.Hash.{Hash}}, Integrity.{IsHash, IsIntegrity, address}, Paths.{Names, names_below, names_of, content_names}}
use Rattle.cacache_entry.specs.Bucket.{Found, latest}
use Rattle.cacache_calls.specs.{declared.reply.Reply.TheVariants.{Listed, Refused}, Replies.{In}, Runs.{plain_item, plain_reply}, State.{Item}, Steps.{content_path}}
use Rattle.cacache_value.specs.{Acts.{list_of}, Value.{value_of_tree, blob_in, Blob, InFile, AtLink}, Kinds.{node_below}}
use Rattle.cacache_history.specs.{History.{History, Turn, Call, IsLegal, Reaches, Legal, Now, initial, new_call, now_after, now_at, replayed}, ListingTurns.{TurnsGive, TurnsList, is_past, listing_of}, Places.{TurnIn, MoveAt, now_before}, Setup.{home, Setup}, Turns.{EachTurn}, declared.record.Record.{Record, TheVariants.{Moved}}, Values.{IsThere, steps_of, value_at, KeepContent, HasDigest, bucket_at}, AddedEntries.{IsContentOf}, Lookups.{lookup_at}}
use Rattle.cacache_history.proofs.{Each.{each_weaker}, Histories.{PlacedAnswers.{reaches_in}, Places.{turns_are_own, reached, split_at, at_place}, Holding.{held_at, replay_more}, ShownTurns.{content_below}, Values.{contents_are_right, contents_stay}}, Listings.ListingTurns.{listings_read_value}, Entries.{Lookups.{lookups_stay}, Spelled.{latest_has}}}
use Rattle.cacache_laws.specs.{ListedKeys.{AreAllFound}, Meanwhile.{LeadsWhile, ListsAllIn, ListingsName, RemovalsMayCome, removal_of, AllSpare, CollectionsKeep, HoldsContent, SparesAddress}}
use Rattle.cacache_laws.proofs.{Listings.{ListedKeys.{unless_past}, ListedTurns.{TurnFinds, has_bucket, turns_list}}, Sure.SureRuns.{place_at}, Interleaved.SparedContents.{move_keeps}}
use Rattle.cacache_store.specs.Plain.{PlainStep, PlainAnswer}
use Rattle.cacache_disk.specs.{declared.{luck.Luck.TheVariants.{Plain}, node.Node.{Node, TheVariants.{Folder}}}, Apply.{apply}, LedTo.{removable}, Tree.{Rooted, Tree, cut, look}}
use Rattle.cacache_disk.proofs.{PutNodes.{look-cut}, Roots.{same_self}}
use Rattle.cacache_store.specs.declared.store.step.Step.TheVariants as steps
use Rattle.cacache_store.specs.declared.store.answer.Answer.TheVariants as answers
use Rattle.cacache_calls.specs.declared.command.Command.TheVariants as commands

-- entries have no messages
plain_found : (items : List Item) → AreAllFound items → map plain_item items ≡ items
plain_found [] h = refl
plain_found (Ok f ∷ items) h = ap (λ l. Ok f ∷ l) (plain_found items h)
plain_found (Err e ∷ items) h = absurd h

module _ (h : History) (legal : IsLegal h) (m n caller : ℕ) (call : Call) (items : List Item) (key : List ℕ) (found : Found) (lists : ListsAllIn h m n caller call items) (leads : LeadsWhile h m n key found) where
  reaches : Reaches h call (Some (Listed items))
  reaches = reaches_in h m n caller call (Some (Listed items)) lists.answered

  turn_finds : (turn : Turn) → TurnIn h m n caller turn → TurnFinds h.setup key found turn
  turn_finds turn t = ap (λ (u : Turn). latest key (list_of ((value_of_tree (home h.setup) u.place).buckets (sha1 key)))) t.turn_is ∙ leads t.place t.from t.to

  finds : EachTurn (TurnFinds h.setup key found) call.turns
  finds = each_weaker (TurnIn h m n caller) (TurnFinds h.setup key found) turn_finds call.turns (turns_are_own h m n caller call (Some (Listed items)) lists.answered)

  named : (its : List Item) → TurnsGive h.setup call.turns its → TurnsList h.setup call.turns its (plain_reply (Listed items)) → In (Ok found) items
  named its gives t =
      let answers : Listed (map plain_item items) ≡ Listed (listing_of call.turns its) = t.answers in
      let plain : map plain_item items ≡ listing_of call.turns its = cc in
      let same : items ≡ listing_of call.turns its = sym (plain_found items lists.all) ∙ plain in
      let hold = (reached h legal call (Some (Listed items)) reaches).holds.turns in
      subst (In (Ok found)) (sym same)
      (unless_past (In (Ok found)) (is_past call.turns its) its
      (λ near all. turns_list h.setup key found call.turns its hold finds gives all (t.finds near key (has_bucket h.setup key found call.turns finds)))
      (subst AreAllFound same lists.all))

pub listings_name : ListingsName
listings_name h legal m n caller call items key found lists leads =
    let r = reaches h legal m n caller call items key found lists leads in
    let v = listings_read_value h legal call (Some (Listed items)) r lists.command_is in
    elim v.4 [
      | inl lost ↦ (let no : Listed items ≡ Refused OutOfMemory = lost in absurd cc)
      | inr t ↦ named h legal m n caller call items key found lists leads v.0 v.1 t
    ]

-- ---- a removal of a content that is there may come next in each legal history, and then the content is gone

-- what is there is removed
gone_at : (t : Tree) (path : List ℕ) (names : Names) (here : Option Node) → Rooted t → names_of path ≡ Ok names → look t names ≡ here → IsThere (blob_in here) → apply t (steps.RemoveFile path) Plain ≡ (answers.Done, cut t names)
unfolding apply removable
gone_at t path names None rooted is e there = absurd there
gone_at t path names (Some Folder) rooted is e there = absurd there
gone_at t path names (Some node) rooted is e there = rw (place_at t path names node rooted is e, e) refl

legal_join : (s : Setup) (w : Now) (past records : List Record) → Legal s w past → Legal s (replayed s w past) records → Legal s w (past ++ records)
legal_join s w [] records old legal = legal
legal_join s w (r ∷ past) records old legal = (old.0, legal_join s (now_after s w r) past records old.1 legal)

module _ (h : History) (legal : IsLegal h) (a : Hash) (hs : List Hash) where
  abbrev now : Now
  now = now_at h h.records

  abbrev step : PlainStep
  step = steps.RemoveFile (content_path h.setup.cache (a ∷ hs))

  -- the removal is done, and leaves no content there
  abbrev Removes : Option Names → Type 0
  Removes folder = ((apply now.tree step Plain).0 ≡ answers.Done) × (blob_in (node_below folder (apply now.tree step Plain).1 (content_names a)) ≡ None)

  by_home : (folder : Option Names) → names_of (content_path h.setup.cache (a ∷ hs)) ≡ names_below folder (content_names a) → IsThere (blob_in (node_below folder now.tree (content_names a))) → Removes folder
  by_home None named there = absurd there
  by_home (Some folder) named there =
      let names = folder ++ content_names a in
      let held = held_at h legal h.records [] (sym (append-nil h.records)) in
      let is = gone_at now.tree (content_path h.setup.cache (a ∷ hs)) names (look now.tree names) held.rooted named refl there in (
        ap (λ (r : PlainAnswer × Tree). r.0) is,
        ap (λ (r : PlainAnswer × Tree). blob_in (look r.1 names)) is
            ∙ ap blob_in (look-cut now.tree names names ∙ ap (λ b. cond b None (look now.tree names)) (same_self names)),
      )

pub removals_may_come : RemovalsMayCome
removals_may_come h legal caller a hs known idle formed there =
    let s = h.setup in
    let now = now_at h h.records in
    let records = removal_of h caller (a ∷ hs) in
    let call = new_call s now.begun (commands.RemoveHash (a ∷ hs)) in
    let done = by_home h legal a hs (home h.setup) (content_below s a hs (All-head IsHash a hs formed.hashes)) there in
    let has : cond (caller == caller) (Some call) (now.calls caller) ≡ Some call = ap (λ b. cond b (Some call) (now.calls caller)) (eq-eqb caller caller refl) in (
      record {
        apart = legal.apart;
        opens = legal.opens;
        legal = legal_join s (initial s) h.records records legal.legal ((known, idle, tt, formed), ((call, has, (refl, sym done.0, tt, inl refl)), tt));
      },
      ap (λ (w : Now). blob_in (node_below (home h.setup) w.tree (content_names a))) (replay_more s (initial s) h.records records) ∙ done.1,
    )

-- ---- contents

is_there : (a : Hash) (blob : Option Blob) → IsContentOf a blob → IsThere blob
is_there a blob is = grind (arith, common_steps)

right_blob : (a : Hash) (blob : Option Blob) → IsThere blob → ((bytes : List ℕ) → blob ≡ Some (InFile bytes) → HasDigest a bytes) → IsContentOf a blob
right_blob a blob there right = grind (arith, common_steps)

module _ (h : History) (legal : IsLegal h) (a : Hash) (is_hash : IsHash a) where
  abbrev pub Here : ℕ → Type 0
  Here place = IsThere ((value_at h (take place h.records)).contents a)

  record_keeps : (n : ℕ) (r : Record) → slice_get h.records n ≡ Some r → ((caller : ℕ) (call : Call) → MoveAt h n caller → (now_before h n).calls caller ≡ Some call → SparesAddress h.setup a call.turns call.command)
      → KeepContent (home h.setup) a (steps_of (r ∷ []))
  record_keeps n r is spares = grind (arith, move_keeps)

  here_next : (m n : ℕ) → m ≤ n → AllSpare h m (suc n) a → Here n → Here (suc n)
  here_next m n from spares there =
      elim (at_place h.records n) [
        | inl at ↦
            let s = split_at h.records n at.0 at.1 in
            let keeps = record_keeps n at.0 at.1 (λ caller call move is. spares n caller call from (omega arith) move is) in
            subst (λ rs. IsThere ((value_at h rs).contents a)) (sym s.next) (contents_stay h legal (take n h.records) (at.0 ∷ []) (drop (suc n) h.records) a s.all keeps there)
        | inr none ↦ subst (λ rs. IsThere ((value_at h rs).contents a)) (sym none) there
      ]

  here_on : (m k : ℕ) → AllSpare h m (m + k) a → Here m → Here (m + k)
  here_on m zero spares there = let same : m ≡ m + 0 = omega arith in subst Here same there
  here_on m (suc k) spares there =
      let same : suc (m + k) ≡ m + suc k = omega arith in
      subst Here same
      (here_next m (m + k) (omega arith) (subst (λ n. AllSpare h m n a) (sym same) spares)
      (here_on m k (λ place caller call from to. spares place caller call from (omega (arith, to))) there))

  -- what is there stays
  pub stays_here : (m n : ℕ) → m ≤ n → AllSpare h m n a → Here m → Here n
  stays_here m n le spares there = let same : m + (n - m) ≡ n = omega (arith, le) in subst Here same (here_on m (n - m) (subst (λ l. AllSpare h m l a) (sym same) spares) there)

  -- and is a content of its address
  pub right_here : (place : ℕ) → Here place → HoldsContent h place a
  right_here place there =
      right_blob a ((value_at h (take place h.records)).contents a) there
      (contents_are_right h legal (take place h.records) (drop place h.records) (sym (take-append-drop place h.records)) a is_hash)

-- ---- collections

-- the address of what a lookup finds
found_hash : (h : History) → IsLegal h → (place : ℕ) (key : List ℕ) (found : Found) (a : Hash) → lookup_at h place key ≡ Some found → address found.integrity ≡ Some a → IsHash a
found_hash h legal place key found a is at =
    let all = (held_at h legal (take place h.records) (drop place h.records) (sym (take-append-drop place h.records))).formed (sha1 key) in
    let integrity : IsIntegrity found.integrity = subst (λ o. IfSome o (λ (f : Found). IsIntegrity f.integrity)) is (latest_has key (bucket_at h (take place h.records) (sha1 key)) all) in
    first found.integrity integrity at
  where
    first : (i : List Hash) → IsIntegrity i → address i ≡ Some a → IsHash a
    first [] integrity e = absurd cc
    first (b ∷ hs) integrity e = let same : b ≡ a = cc in subst IsHash same (All-head IsHash b hs integrity.hashes)

pub collections_keep : CollectionsKeep
collections_keep h legal m between n caller call items key found lists le spares removals leads =
    let is_hash = found_hash h legal m key found leads.1 leads.0 leads.2 in
    let began : m ≤ n = omega (arith, lists.answered.from, lists.answered.to, le) in
    let stays : (place : ℕ) → m ≤ place → place ≤ n → lookup_at h place key ≡ Some found
    = λ place from to. lookups_stay h legal key m place from (λ p c k f t. spares p c k f (omega (arith, t, to))) ∙ leads.0 in
    let named = listings_name h legal m between caller call items key found lists (λ place from to. stays place from (omega (arith, to, le))) in
    let there = stays_here h legal leads.1 is_hash m n began (removals found leads.1 named leads.2) (is_there leads.1 _ leads.3) in
    (stays n began (omega arith), leads.1, leads.2, right_here h legal leads.1 is_hash n there)
