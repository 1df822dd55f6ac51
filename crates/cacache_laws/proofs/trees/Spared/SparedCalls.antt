-- What a call leaves of a key that it spares, on a store that stands.
use Rattle.std.proofs.{lemmas.{Grind.{common_steps}, List.Elements.{All-head}}, Common.{rules, ◌≡◌, ◌⊎◌, inl, inr, ℕ, true, false, List, [], ◌∷◌, Option, None, Some, Result, Ok, refl, sym, ap, subst, ◌∙◌, arith}}
use Rattle.std.specs.List.{AllByRecursion}
use Rattle.sha1.specs.Sha1.{sha1}
use Rattle.cacache_core.specs.{declared.{errors.Fault.{Fault}, integrity.digest.Hash.{Hash}}, Integrity.{IsHash, IsIntegrity, address}, Paths.{Names, home_of}}
use Rattle.cacache_store.specs.declared.store.log.LogItem.{LogItem}
use Rattle.cacache_store.specs.declared.store.step.Step.TheVariants as steps
use Rattle.cacache_disk.specs.{declared.luck.Luck.TheVariants.{Plain}, Apply.{apply}, Tree.{Rooted, Tree}, Replay.{tree_of}}
use Rattle.cacache_entry.specs.Bucket.{Found, latest}
use Rattle.cacache_calls.specs.{declared.{command.{Command.{Command}, Delete.{Delete}, Insert.{Insert}, Put.{Put}}, reply.Reply.{Reply}}, Effects.{effects_of}, Inserting.{deletion, insertion}, Replies.{bucket_shown, lookup}, Runs.{Goes, Moves, Runs}, Sound.{MayBegin}, State.{Insertion, Site}, Steps.{bucket_path, content_path}, Storing.{put_commit}, Table.{opening}}
use Rattle.cacache_calls.proofs.{Effects.{deletes_send, inserts_send, puts_commit}, Sound.{begins_sound}}
use Rattle.cacache_calls.specs.declared.command.Command.TheVariants as commands
use Rattle.cacache_value.specs.{Acts.{Drop, act_at, list_of}, Placed.{Placed}, Shows.{ShowsBucket}, Value.{Value, value_of_tree}}
use Rattle.cacache_value.proofs.{Shows.{trees_show}, Traces.{traces_act}}
use Rattle.cacache_history.specs.{Commits.{CommitsAs, Deed, DropsAmong, FoundFirst, InsertionAdds, deeds, deeds_of_act, does}, History.{Turn, turn_of}, Lookups.{SparesKey}, ReadingCalls.{IsReading}, Setup.{Setup, call_site, is_outside, may_export}, Turns.{made_in}}
use Rattle.cacache_history.proofs.{Contents.{Carrying.{own_bytes, own_of, opening_carries}, Deeds.{Realizes, turns_realize}, Removals.{hash_removed, key_removed}}, Histories.{ReadingCalls.{readings_do_nothing}, ShownTurns.{bucket_below, content_below}}}
use Rattle.cacache_laws.specs.{Beside.{IsOther, KeepsBeside, ShareAddress, own_integrity, KeepsOthers, StaysKnown, found_under}, Caches.{Called, HasKey, lies_under, setup_at}, Sequence.{Alike, AreAnswered, after_deeds, plain_moves, tree_on, turns_on}, Standing.{IsStanding}, trees.Later.{IsApartFrom, SparesContent, written, calls}}
use Rattle.cacache_laws.proofs.{Calls.{InParts.{logs_lead, run_goes}, Sequence.{moves_after, moves_follow, turns_made}}, Exports.ExportEffects.{nothing_done}, Putting.{Puts.{put_keeps}, Deeds.{adds_keep, stays_known}, StandingPuts.{Went, insertion_adds, nowhere, put_commits, went}}, Readings.Standing.{found_shown}, Removing.Removed.{cut_buckets, cut_contents, removed_at, uncut_buckets, uncut_contents}}

-- ---- a call on a store that stands

module _ (cache : List ℕ) (command : Command) (r : Reply) (old new : List LogItem) (standing : IsStanding cache old) (c : Called cache command r old new)
    (may : MayBegin (call_site (setup_at cache c.base) c.number) (may_export (setup_at cache c.base)) (is_outside (setup_at cache c.base)) command) where
  abbrev s : Setup
  s = setup_at cache c.base

  abbrev site : Site
  site = call_site (setup_at cache c.base) c.number

  abbrev t : Tree
  t = tree_of old

  abbrev turns : List Turn
  turns = turns_on (tree_of old) c.ran.0

  leads : AreAnswered (tree_of old) c.ran.0 × (tree_of new ≡ tree_on (tree_of old) c.ran.0)
  leads = logs_lead old new c.ran.0 c.ran.2 c.logged

  goes : Went (setup_at cache c.base) tt c.number command (tree_of old) c.ran.0
  goes =
      went s tt c.number command t (opening site command) c.ran.0 r standing.rooted (begins_sound site (may_export s) (is_outside s) command may) (opening_carries site command)
      c.ran.1 leads.0

  run : Runs (opening site command) (made_in turns) r
  run = subst (λ (ms : Moves). Runs (opening site command) ms r) (sym (turns_made t c.ran.0)) c.ran.1

  realizes : Realizes (own_of site command) (effects_of (made_in turns)) (deeds turns)
  realizes = turns_realize nowhere (own_of site command) turns goes.hold goes.makes

  follows : Alike (value_of_tree (home_of cache) (tree_of new)) (after_deeds (home_of cache) (deeds turns) (value_of_tree (home_of cache) (tree_of old)))
  follows =
      subst (λ (x : Tree). Alike (value_of_tree (home_of cache) x) (after_deeds (home_of cache) (deeds turns) (value_of_tree (home_of cache) t))) (sym leads.1)
      (moves_follow s tt t c.ran.0 (ap (value_of_tree (home_of cache)) (sym (moves_after t c.ran.0)) ∙ traces_act (home_of cache) t (plain_moves c.ran.0) standing.placed goes.trace))

  pub stands : IsStanding cache new
  stands = record { placed = subst (Placed (home_of cache)) (sym leads.1) (goes.placed standing.placed); rooted = subst Rooted (sym leads.1) goes.rooted }

  -- one that does nothing
  pub idle : after_deeds (home_of cache) (deeds turns) (value_of_tree (home_of cache) (tree_of old)) ≡ value_of_tree (home_of cache) (tree_of old) → StaysKnown cache old new
  idle none = stays_known cache old new (subst (Alike (value_of_tree (home_of cache) (tree_of new))) none follows)

  -- one that reads, or exports
  reading : IsReading command → StaysKnown cache old new
  reading reads =
      let w = run_goes (opening site command) c.ran.0 r c.ran.1 in
      let made : Goes (opening site command) (made_in turns) w.0 = subst (λ moves. Goes (opening site command) moves w.0) (sym (turns_made t c.ran.0)) w.1 in
      idle (nothing_done (home_of cache) turns (value_of_tree (home_of cache) t) (readings_do_nothing site command w.0 turns reads made))

  -- one that adds an entry
  adding : (i : Insertion) → InsertionAdds i (deeds turns) (Some r) → KeepsOthers cache i.entry.key old new
  adding i adds = adds_keep cache i old new (deeds turns) (Some r) adds follows

-- ---- what removals take away

module _ (cache key : List ℕ) (a : Hash) (is : IsHash a) where
  -- the bucket and the content are the same in both
  record Same (v w : Value) : Type 0 where
    bucket : w.buckets (sha1 key) ≡ v.buckets (sha1 key)
    content : w.contents a ≡ v.contents a

  -- what lies at this path may be removed
  abbrev MayGo : List ℕ → Type 0
  MayGo path = (v : Value) → Same v (after_deeds (home_of cache) (removed_at path) v)

  both : (u v w : Value) → Same u v → Same v w → Same u w
  both u v w h k = record { bucket = k.bucket ∙ h.bucket; content = k.content ∙ h.content }

  dropped : (paths : List (List ℕ)) (ds : List Deed) (v : Value) → AllByRecursion MayGo paths → DropsAmong paths ds → Same v (after_deeds (home_of cache) ds v)
  dropped [] ds v go none = subst (λ (x : List Deed). Same v (after_deeds (home_of cache) x v)) (sym none) (record { bucket = refl; content = refl })
  dropped (path ∷ paths) ds v go (inl h) = dropped paths ds v go.1 h
  dropped (path ∷ paths) ds v go (inr (names, more, at, first, h)) =
      let w = after_deeds (home_of cache) (does (Drop names) ∷ []) v in
      let one : Same v (after_deeds (home_of cache) (does (Drop names) ∷ []) v) = subst (λ (x : Result Names Fault). Same v (after_deeds (home_of cache) (deeds_of_act (act_at x Drop)) v)) at (go.0 v) in
      subst (λ (x : List Deed). Same v (after_deeds (home_of cache) x v)) (sym first)
      (both v w (after_deeds (home_of cache) more w) one (dropped paths more w go.1 h))

  -- another content
  content_goes : (j : List Hash) → IsIntegrity j → (Some a ≡ address j → ⊥) → MayGo (content_path cache j)
  content_goes [] formed apart v = absurd (omega (arith, formed.nonempty))
  content_goes (b ∷ bs) formed apart v =
      let path = content_path cache (b ∷ bs) in
      let hash = All-head IsHash b bs formed.hashes in
      let below = content_below (setup_at cache []) b bs hash in
      record {
        bucket = uncut_buckets cache path v b hash below (sha1 key);
        content = elim (cut_contents cache path v b hash below a is) [ inl stays ↦ stays | inr gone ↦ absurd (apart (ap Some gone.0)) ];
      }

  -- another bucket
  bucket_goes : (other : List ℕ) → (sha1 other ≡ sha1 key → ⊥) → MayGo (bucket_path cache other)
  bucket_goes other differ v =
      let path = bucket_path cache other in
      let below = bucket_below (setup_at cache []) other in
      record {
        bucket = elim (cut_buckets cache path v other below key) [ inl stays ↦ stays | inr gone ↦ absurd (differ (sym gone.0)) ];
        content = uncut_contents cache path v other below a;
      }

-- ---- what is left of a key

module _ (cache key : List ℕ) (i : List Hash) where
  -- it leads to the same entry, and to the same bytes or to this text
  pub record Left (text : Option (List ℕ)) (old new : List LogItem) : Type 0 where
    pub standing : IsStanding cache new
    pub finds : found_under cache key new ≡ found_under cache key old
    pub leads : (held : List ℕ) → HasKey cache key i held old → HasKey cache key i held new ⊎ ((t : List ℕ) × (text ≡ Some t) × HasKey cache key i t new)

  pub known_left : (text : Option (List ℕ)) (old new : List LogItem) → IsStanding cache new → StaysKnown cache old new → Left text old new
  known_left text old new standing known = record { standing = standing; finds = known.finds key; leads = λ held has. inl (known.key key held i has) }

  others_left : (text : Option (List ℕ)) (other : List ℕ) (old new : List LogItem) → (other ≡ key → ⊥) → IsStanding cache new → KeepsOthers cache other old new → Left text old new
  others_left text other old new differ standing keeps = search (rules, leads)

  pub beside_left : (o : Option (List ℕ)) (own : List Hash) (added : List ℕ) (old new : List LogItem) → IsOther o key → IsStanding cache new → KeepsBeside cache o own added old new → Left (Some added) old new
  beside_left o own added old new other standing keeps = search (rules, leads)

  -- where the bucket and the content are the same
  same_left : (text : Option (List ℕ)) (old new : List LogItem) → IsStanding cache new → found_under cache key new ≡ found_under cache key old → lies_under cache i new ≡ lies_under cache i old → Left text old new
  same_left text old new standing finds lies = search (rules, leads)

  -- a key that isn't the written one
  pub other_of : (o : Option (List ℕ)) → (o ≡ Some key → ⊥) → IsOther o key
  other_of o differ = grind (arith, common_steps)

-- ---- calls

module _ (cache key : List ℕ) (i : List Hash) (formed : IsIntegrity i) (r : Reply) (old new : List LogItem) (standing : IsStanding cache old) where
  abbrev May : (command : Command) → Called cache command r old new → Type 0
  May command c = MayBegin (call_site (setup_at cache c.base) c.number) (may_export (setup_at cache c.base)) (is_outside (setup_at cache c.base)) command

  put_left : (p : Put) (c : Called cache (commands.Put p) r old new) → May (commands.Put p) c → (p.key ≡ Some key → ⊥) → Left cache key i (Some p.data) old new
  put_left p c may differ =
      let command = commands.Put p in
      let commits : CommitsAs (put_commit cache p) _ (deeds (turns cache command r old new standing c may)) (Some r)
      = put_commits cache p r may (effects_of (made_in (turns cache command r old new standing c may))) (deeds (turns cache command r old new standing c may)) (realizes cache command r old new standing c may)
      (puts_commit (site cache command r old new standing c may) p (made_in (turns cache command r old new standing c may)) r (run cache command r old new standing c may)) in
      beside_left cache key i p.key (own_integrity p) p.data old new (other_of cache key i p.key differ) (stands cache command r old new standing c may)
      (put_keeps cache p old new (deeds (turns cache command r old new standing c may)) (Some r) commits (follows cache command r old new standing c may))

  insert_left : (x : Insert) (c : Called cache (commands.Insert x) r old new) → May (commands.Insert x) c → (x.key ≡ key → ⊥) → Left cache key i None old new
  insert_left x c may differ =
      let command = commands.Insert x in
      let ts = turns cache (commands.Insert x) r old new standing c may in
      let sends = inserts_send (site cache command r old new standing c may) x (made_in ts) r (run cache command r old new standing c may) in
      let adds = insertion_adds (insertion cache x) (own_bytes [] []) r (effects_of (made_in ts)) (deeds ts) may (realizes cache command r old new standing c may) sends in
      others_left cache key i None x.key old new differ (stands cache command r old new standing c may) (adding cache command r old new standing c may (insertion cache x) adds)

  delete_left : (d : Delete) (c : Called cache (commands.Delete d) r old new) → May (commands.Delete d) c → (d.key ≡ key → ⊥) → Left cache key i None old new
  delete_left d c may differ =
      let command = commands.Delete d in
      let ts = turns cache (commands.Delete d) r old new standing c may in
      let sends = deletes_send (site cache command r old new standing c may) d (made_in ts) r (run cache command r old new standing c may) in
      let adds = insertion_adds (deletion cache d) (own_bytes [] []) r (effects_of (made_in ts)) (deeds ts) may (realizes cache command r old new standing c may) sends in
      others_left cache key i None d.key old new differ (stands cache command r old new standing c may) (adding cache command r old new standing c may (deletion cache d) adds)

  read_left : (command : Command) (c : Called cache command r old new) → May command c → IsReading command → Left cache key i None old new
  read_left command c may reads = known_left cache key i None old new (stands cache command r old new standing c may) (reading cache command r old new standing c may reads)

  -- a removal of these
  removal_left : (command : Command) (c : Called cache command r old new) (may : May command c) (a : Hash) (hs : List Hash) → i ≡ a ∷ hs → (is : IsHash a) (paths : List (List ℕ)) → AllByRecursion (MayGo cache key a is) paths
      → DropsAmong paths (deeds (turns cache command r old new standing c may)) → Left cache key i None old new
  removal_left command c may a hs at is paths go drops =
      let v = value_of_tree (home_of cache) (tree_of old) in
      let same = dropped cache key a is paths (deeds (turns cache command r old new standing c may)) v go drops in
      let all = follows cache command r old new standing c may in
      same_left cache key i None old new (stands cache command r old new standing c may)
      (ap (latest key) (all.lists (sha1 key)) ∙ ap (λ o. latest key (list_of o)) same.bucket)
      (subst (λ (j : List Hash). lies_under cache j new ≡ lies_under cache j old) (sym at) (all.contents a ∙ same.content))

  -- an integrity has an address
  at_first : (P : Type 0) → ((a : Hash) (hs : List Hash) → i ≡ a ∷ hs → IsHash a → P) → P
  at_first P go = by i refl formed
    where
      by : (j : List Hash) → i ≡ j → IsIntegrity j → P
      by [] same f = absurd (omega (arith, f.nonempty))
      by (a ∷ hs) same f = go a hs same (All-head IsHash a hs f.hashes)

  apart_at : (other : List Hash) (a : Hash) (hs : List Hash) → i ≡ a ∷ hs → (ShareAddress i other → ⊥) → Some a ≡ address other → ⊥
  apart_at other a hs at apart same = apart (ap address at ∙ same)

  hash_left : (other : List Hash) (c : Called cache (commands.RemoveHash other) r old new) → May (commands.RemoveHash other) c → IsApartFrom i other → Left cache key i None old new
  hash_left other c may apart =
      let command = commands.RemoveHash other in
      let drops = hash_removed (site cache command r old new standing c may) other (turns cache command r old new standing c may) r (run cache command r old new standing c may) in
      at_first (Left cache key i None old new)
      (λ a hs at is. removal_left command c may a hs at is (content_path cache other ∷ []) (content_goes cache key a is other apart.0 (apart_at other a hs at apart.1), tt) drops)

  -- what a full removal finds first is what its key leads to
  finds_first : (gone : List ℕ) (moves : Moves) (found : Found) → AreAnswered (tree_of old) moves → FoundFirst cache gone (turns_on (tree_of old) moves) found → found_under cache gone old ≡ Some found
  finds_first gone [] found answered (turn, more, begins, step, looked) = absurd cc
  finds_first gone (m ∷ moves) found answered (turn, more, begins, step, looked) =
      let t = tree_of old in
      let is : turn ≡ turn_of t Plain m = cc in
      let asks : m.0 ≡ steps.ReadAll (bucket_path cache gone) = ap (λ (x : Turn). x.move.step) (sym is) ∙ step in
      let told : m.1 ≡ (apply (tree_of old) (steps.ReadAll (bucket_path cache gone)) Plain).0 = answered.0 ∙ ap (λ x. (apply (tree_of old) x Plain).0) asks in
      let shows = trees_show (home_of cache) t standing.placed standing.rooted in
      let shown : ShowsBucket ((value_of_tree (home_of cache) (tree_of old)).buckets (sha1 gone)) m.1
      = subst (ShowsBucket ((value_of_tree (home_of cache) (tree_of old)).buckets (sha1 gone))) (sym told) (shows.bucket (sha1 gone) (bucket_path cache gone) Plain (bucket_below (setup_at cache []) gone)) in
      let looks : lookup gone (bucket_shown m.1) ≡ Ok (Some found) = ap (λ (x : Turn). lookup gone (bucket_shown x.move.answer)) (sym is) ∙ looked in
      elim (found_shown gone ((value_of_tree (home_of cache) (tree_of old)).buckets (sha1 gone)) m.1 shown) [
        | inl there ↦ (let both = sym there ∙ looks in let same : found_under cache gone old ≡ Some found = cc in same)
        | inr why ↦ (let no = sym why.1 ∙ looks in absurd cc)
      ]

  fully_left : (gone : List ℕ) (c : Called cache (commands.RemoveFully gone) r old new) → May (commands.RemoveFully gone) c → (sha1 gone ≡ sha1 key → ⊥)
      → ((found : Found) → found_under cache gone old ≡ Some found → IsApartFrom i found.integrity) → Left cache key i None old new
  fully_left gone c may differ apart =
      let command = commands.RemoveFully gone in
      let ts = turns cache (commands.RemoveFully gone) r old new standing c may in
      at_first (Left cache key i None old new)
      (λ a hs at is.
      let bucket = bucket_goes cache key a is gone differ in
      elim (key_removed (site cache command r old new standing c may) gone ts r (run cache command r old new standing c may)) [
        | inl drops ↦ removal_left command c may a hs at is (bucket_path cache gone ∷ []) (bucket, tt) drops
        | inr (found, first, drops) ↦
            let from = apart found (finds_first gone c.ran.0 found (leads cache command r old new standing c may).0 first) in
            removal_left command c may a hs at is (content_path cache found.integrity ∷ bucket_path cache gone ∷ [])
            (content_goes cache key a is found.integrity from.0 (apart_at found.integrity a hs at from.1), (bucket, tt)) drops
      ])

  -- a call of any command that spares the key
  pub call_left : (command : Command) (c : Called cache command r old new) → May command c → SparesKey key command → SparesContent cache i old command → Left cache key i (written (calls command)) old new
  call_left (commands.Put p) c may spares content = put_left p c may spares
  call_left (commands.Insert x) c may spares content = insert_left x c may spares
  call_left (commands.Delete d) c may spares content = delete_left d c may spares
  call_left (commands.Link l) c may spares content = absurd (let no : false ≡ true = may.1 in cc)
  call_left (commands.RemoveHash other) c may spares content = hash_left other c may content
  call_left (commands.RemoveFully gone) c may spares content = fully_left gone c may spares content
  call_left commands.Clear c may spares content = absurd spares
  call_left command c may spares content = read_left command c may tt
