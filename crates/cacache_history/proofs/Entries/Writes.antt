-- What a move adds to a bucket is what its call's command writes; and which buckets it removes.
use Rattle.std.proofs.{lemmas.{Grind.{common_steps}, List.{append_cancel_left, Elements.{All-head}}}, Common.{◌≡◌, ◌⊎◌, inl, inr, ℕ, true, false, List, [], ◌∷◌, ◌++◌, Option, None, Some, Ok, refl, sym, ap, subst, ◌∙◌, arith}}
use Rattle.sha1.specs.Sha1.{sha1}
use Rattle.cacache_core.specs.{declared.integrity.digest.Hash.{Hash}, Integrity.{IsHash, IsIntegrity}, Paths.{Names, names_of, names_below, joined, content_names, bucket_names_of}}
use Rattle.cacache_core.proofs.{PathLemmas.{keys_have_digests}, PathTexts.{paths_differ}, ProperNames.{not_true}}
use Rattle.cacache_disk.proofs.Maps.{same_path-true}
use Rattle.cacache_entry.specs.{Entry.{Entry}, Bucket.{Found}}
use Rattle.cacache_calls.specs.{declared.{carried.Commit.{Commit}, command.{Command.{Command}, Link.{Link}}, reply.Reply.{Reply}}, Inserting.{insertion, deletion}, Linking.{commit_for, link_target}, Replies.{lookup}, State.{Site, Insertion}, Steps.{content_path, bucket_path}, Storing.{insertion_of, put_commit}}
use Rattle.cacache_calls.specs.declared.command.Command.TheVariants as commands
use Rattle.cacache_value.specs.{Acts.{Act, PutBytes, PutLink, AddEntries, Drop, act_of}, Kinds.{is_path_of}}
use Rattle.cacache_history.specs.{AddedEntries.{IsAmong}, Commits.{Deed, does, finds_in, deeds_of_act, deeds_of, deeds, InsertionAdds, AddsAfter, CommitsAs, LinksAs, DropsAmong, FoundFirst, IsRemoval, AreRemovals, IsCase}, History.{History, Call, Turn, NamesIntegrity, IsLegal, Reaches}, Lookups.{WritesEntry, LeavesBucket}, ReadingCalls.{IsReading, TurnDoesNothing}, Setup.{Setup, call_site, home}, Turns.{entries_at, bucket_read, EachTurn}}
use Rattle.cacache_history.proofs.{Entries.AddedEntries.{not_found, either}, Contents.Commits.{commits_are_cases}, Histories.{Holding.{TurnsHold, CallHolds}, ReadingCalls.{readers_do_nothing}, Places.{reached}, ShownTurns.{FoundHas, bucket_at_turn, bucket_below, bucket_has, content_below}}}

-- ---- deeds among others

none_among : {X : Type 0} (d : Deed) (ds : List Deed) → ds ≡ [] → IsAmong d ds → X
none_among d ds none among = absurd (subst (IsAmong d) none among)

-- turns that do nothing did no act
idle_among : {X : Type 0} (act : Act) (turns : List Turn) → EachTurn TurnDoesNothing turns → IsAmong (does act) (deeds turns) → X
idle_among act [] idle among = absurd among
idle_among act (turn ∷ turns) idle among =
    elim (either (does act) (deeds_of turn.move) (deeds turns) among) [
      | inl here ↦
          elim (either (does act) (deeds_of_act (act_of turn.move.step turn.move.luck turn.move.answer)) (finds_in turn.move.step turn.move.answer) here) [
            | inl did ↦ absurd (subst (λ a. IsAmong (does act) (deeds_of_act a)) idle.0 did)
            | inr found ↦ absurd (not_found act turn.move.step turn.move.answer found)
          ]
      | inr more ↦ idle_among act turns idle.1 more
    ]

-- ---- commits

-- it puts a content, or adds this entry
abbrev PutsOrAdds : Commit → (Names → Act) → Act → Type 0
PutsOrAdds c put act =
    ((names : Names) × (act ≡ put names))
    ⊎ ((key : List ℕ) × (names : Names) × (c.key ≡ Some key) × (act ≡ AddEntries names ((insertion_of c key).entry ∷ [])))

inserted : (i : Insertion) (ds : List Deed) (reply : Option Reply) (act : Act) → InsertionAdds i ds reply → IsAmong (does act) ds → (names : Names) × (act ≡ AddEntries names (i.entry ∷ []))
inserted i ds reply act h among = grind (arith, none_among)

followed : (c : Commit) (o : Option (List ℕ)) (ds : List Deed) (reply : Option Reply) (act : Act) → AddsAfter c o ds reply → IsAmong (does act) ds
    → (key : List ℕ) × (names : Names) × (o ≡ Some key) × (act ≡ AddEntries names ((insertion_of c key).entry ∷ []))
followed c o ds reply act after among = grind (arith, none_among, inserted)

committed : (c : Commit) (put : Names → Act) (ds : List Deed) (reply : Option Reply) (act : Act) → CommitsAs c put ds reply → IsAmong (does act) ds → PutsOrAdds c put act
committed c put ds reply act h among = grind (arith, none_among, followed)

-- a link's commit is one of bytes that it read
linked : {X : Type 0} (site : Site) (l : Link) (turns : List Turn) (reply : Option Reply) (act : Act) → LinksAs (link_target site l) turns reply → IsAmong (does act) (deeds turns)
    → ((bytes : List ℕ) → PutsOrAdds (commit_for (link_target site l) bytes) (λ names. PutLink names (link_target site l).path) act → X) → X
linked site l turns reply act (inl nothing) among to = none_among (does act) (deeds turns) nothing.0 among
linked site l turns reply act (inr h) among to =
    to h.3.1 (committed (commit_for (link_target site l) h.3.1) (λ names. PutLink names (link_target site l).path) (deeds turns) reply act h.3.5.1 among)

-- ---- what is added

-- the entries are one that the command writes
abbrev AreOwn : Site → Command → Entry → List Entry → Type 0
AreOwn site command e es = (es ≡ []) × WritesEntry site command e

module _ (site : Site) (command : Command) (names : Names) (e : Entry) (es : List Entry) where
  own_entry : (at : Names) (x : Entry) → WritesEntry site command x → AddEntries names (e ∷ es) ≡ AddEntries at (x ∷ []) → AreOwn site command e es
  own_entry at x writes is =
      let same : e ≡ x = cc in
      let rest : es ≡ [] = cc in
      (rest, subst (WritesEntry site command) (sym same) writes)

  own_commit : (c : Commit) (put : Names → Act) → ((at : Names) → AddEntries names (e ∷ es) ≡ put at → ⊥) → ((key : List ℕ) → c.key ≡ Some key → WritesEntry site command (insertion_of c key).entry)
      → PutsOrAdds c put (AddEntries names (e ∷ es)) → AreOwn site command e es
  own_commit c put not writes h = grind (arith, own_entry)

no_drops : (paths : List (List ℕ)) (ds : List Deed) (names : Names) (e : Entry) (es : List Entry) → DropsAmong paths ds → IsAmong (does (AddEntries names (e ∷ es))) ds → ⊥
no_drops [] ds names e es drops among = none_among (does (AddEntries names (e ∷ es))) ds drops among
no_drops (path ∷ paths) ds names e es (inl rest) among = no_drops paths ds names e es rest among
no_drops (path ∷ paths) ds names e es (inr h) among =
    elim (subst (IsAmong (does (AddEntries names (e ∷ es)))) h.3 among) [
      | inl same ↦ absurd cc
      | inr more ↦ no_drops paths h.1 names e es h.4 more
    ]

no_removals : (ds : List Deed) (names : Names) (e : Entry) (es : List Entry) → AreRemovals ds → IsAmong (does (AddEntries names (e ∷ es))) ds → ⊥
no_removals [] names e es removals among = among
no_removals (d ∷ ds) names e es removals (inl same) = subst IsRemoval (sym same) removals.0
no_removals (d ∷ ds) names e es removals (inr more) = no_removals ds names e es removals.1 more

module _ (h : History) (legal : IsLegal h) (call : Call) (reply : Option Reply) (reaches : Reaches h call reply) where
  abbrev site : Site
  site = call_site h.setup call.number

  idle : {X : Type 0} (act : Act) → EachTurn TurnDoesNothing call.turns → IsAmong (does act) (deeds call.turns) → X
  idle act none among = idle_among act call.turns none among

  -- what the call added is what its command writes
  pub adds_own : (names : Names) (e : Entry) (es : List Entry) → IsAmong (does (AddEntries names (e ∷ es))) (deeds call.turns) → AreOwn site call.command e es
  adds_own names e es among = by call.command (commits_are_cases h legal call reply reaches) (λ reads. readers_do_nothing h legal call reply reaches reads)
    where
      act : Act
      act = AddEntries names (e ∷ es)

      by : (c : Command) → IsCase site c call.turns reply → (IsReading c → EachTurn TurnDoesNothing call.turns) → AreOwn site c e es
      by (commands.Put p) case reads =
          own_commit site (commands.Put p) names e es (put_commit h.setup.cache p) (λ at. PutBytes at p.data) (λ at is. cc) (λ key is. (key, is, refl))
          (committed (put_commit h.setup.cache p) (λ at. PutBytes at p.data) (deeds call.turns) reply act case among)
      by (commands.Link l) case reads =
          linked site l call.turns reply act case among
          (λ bytes. own_commit site (commands.Link l) names e es (commit_for (link_target site l) bytes) (λ at. PutLink at (link_target site l).path) (λ at is. cc) (λ key is. (key, bytes, is, refl)))
      by (commands.Insert i) case reads = let it = inserted (insertion h.setup.cache i) (deeds call.turns) reply act case among in own_entry site (commands.Insert i) names e es it.0 (insertion h.setup.cache i).entry refl it.1
      by (commands.Delete d) case reads = let it = inserted (deletion h.setup.cache d) (deeds call.turns) reply act case among in own_entry site (commands.Delete d) names e es it.0 (deletion h.setup.cache d).entry refl it.1
      by (commands.RemoveHash i) case reads = absurd (no_drops (content_path h.setup.cache i ∷ []) (deeds call.turns) names e es case among)
      by (commands.RemoveFully key) (inl case) reads = absurd (no_drops (bucket_path h.setup.cache key ∷ []) (deeds call.turns) names e es case among)
      by (commands.RemoveFully key) (inr case) reads = absurd (no_drops (content_path h.setup.cache case.0.integrity ∷ bucket_path h.setup.cache key ∷ []) (deeds call.turns) names e es case.2 among)
      by commands.Clear case reads = absurd (no_removals (deeds call.turns) names e es case among)
      by c case reads = idle act (reads tt) among

-- ---- what is removed

-- names below the cache are those of one path
pub one_path : (folder : Option Names) (mine others names : Names) → names_below folder mine ≡ Ok names → is_path_of folder others names ≡ true → others ≡ mine
one_path None mine others names e is = absurd cc
one_path (Some folder) mine others names e is =
    let there : folder ++ mine ≡ names = cc in
    append_cancel_left folder others mine (same_path-true (folder ++ others) names is ∙ sym there)

not_content : (a : Hash) (d : List ℕ) → bucket_names_of d ≡ content_names a → ⊥
not_content a d e = absurd cc

module _ (s : Setup) (key : List ℕ) where
  -- the path isn't that of the key's bucket
  abbrev IsApart : Names → Type 0
  IsApart names = is_path_of (home s) (bucket_names_of (sha1 key)) names ≡ false

  content_apart : (i : List Hash) → IsIntegrity i → (names : Names) → names_of (content_path s.cache i) ≡ Ok names → IsApart names
  content_apart [] is names e = absurd (omega (arith, is.nonempty))
  content_apart (a ∷ hs) is names e =
      not_true (is_path_of (home s) (bucket_names_of (sha1 key)) names)
      (λ here. not_content a (sha1 key) (one_path (home s) (content_names a) (bucket_names_of (sha1 key)) names (sym (content_below s a hs (All-head IsHash a hs is.hashes)) ∙ e) here))

  bucket_apart : (other : List ℕ) → (sha1 other ≡ sha1 key → ⊥) → (names : Names) → names_of (bucket_path s.cache other) ≡ Ok names → IsApart names
  bucket_apart other differ names e =
      not_true (is_path_of (home s) (bucket_names_of (sha1 key)) names)
      (λ here. differ ((paths_differ.buckets [] (sha1 other) (sha1 key) (keys_have_digests other) (keys_have_digests key)).0
      (ap (joined []) (sym (one_path (home s) (bucket_names_of (sha1 other)) (bucket_names_of (sha1 key)) names (sym (bucket_below s other) ∙ e) here)))))

  -- each of these paths is apart
  abbrev AreApart : List (List ℕ) → Type 0
  AreApart [] = Unit {0}
  AreApart (path ∷ paths) = ((names : Names) → names_of path ≡ Ok names → IsApart names) × AreApart paths

  drops_apart : (paths : List (List ℕ)) (ds : List Deed) (names : Names) → AreApart paths → DropsAmong paths ds → IsAmong (does (Drop names)) ds → IsApart names
  drops_apart [] ds names apart drops among = none_among (does (Drop names)) ds drops among
  drops_apart (path ∷ paths) ds names apart (inl rest) among = drops_apart paths ds names apart.1 rest among
  drops_apart (path ∷ paths) ds names apart (inr d) among =
      elim (subst (IsAmong (does (Drop names))) d.3 among) [
        | inl same ↦ let there : d.0 ≡ names = cc in subst IsApart there (apart.0 d.0 d.2)
        | inr more ↦ drops_apart paths d.1 names apart.1 d.4 more
      ]

-- a commit removes nothing
puts_no_drop : {X : Type 0} (c : Commit) (put : Names → Act) (names : Names) → ((at : Names) → Drop names ≡ put at → ⊥) → PutsOrAdds c put (Drop names) → X
puts_no_drop c put names not h = grind (arith, common_steps)

-- what the first turn of a call found has an integrity
found_formed : (s : Setup) (key : List ℕ) (turns : List Turn) (found : Found) → TurnsHold s turns → FoundFirst s.cache key turns found → IsIntegrity found.integrity
found_formed s key turns found hold first =
    let holds = subst (TurnsHold s) first.2 hold in
    let turn = first.0 in
    let read : lookup key (bucket_read s (sha1 key) turn) ≡ Ok (Some found)
    = ap (lookup key) (sym (bucket_at_turn s turn holds.0 (bucket_path s.cache key) (sha1 key) first.3 (bucket_below s key))) ∙ first.4 in
    subst (FoundHas s) read (bucket_has s key (entries_at s (sha1 key) turn) turn.move.answer (holds.0.formed (sha1 key)))

module _ (h : History) (legal : IsLegal h) (call : Call) (reply : Option Reply) (reaches : Reaches h call reply) (key : List ℕ) where
  -- what the call removed isn't the key's bucket
  pub drops_others : LeavesBucket key call.command → (names : Names) → IsAmong (does (Drop names)) (deeds call.turns) → IsApart h.setup key names
  drops_others leaves names among = by call.command (commits_are_cases h legal call reply reaches) (λ reads. readers_do_nothing h legal call reply reaches reads) leaves holds.named
    where
      act : Act
      act = Drop names

      holds : CallHolds h.setup call
      holds = (reached h legal call reply reaches).holds

      by : (c : Command) → IsCase (call_site h.setup call.number) c call.turns reply → (IsReading c → EachTurn TurnDoesNothing call.turns) → LeavesBucket key c → NamesIntegrity c → IsApart h.setup key names
      by (commands.Put p) case reads l named =
          puts_no_drop (put_commit h.setup.cache p) (λ at. PutBytes at p.data) names (λ at is. cc) (committed (put_commit h.setup.cache p) (λ at. PutBytes at p.data) (deeds call.turns) reply act case among)
      by (commands.Link k) case reads l named =
          linked (call_site h.setup call.number) k call.turns reply act case among
          (λ bytes. puts_no_drop (commit_for (link_target (call_site h.setup call.number) k) bytes) (λ at. PutLink at (link_target (call_site h.setup call.number) k).path) names (λ at is. cc))
      by (commands.Insert i) case reads l named = let it = inserted (insertion h.setup.cache i) (deeds call.turns) reply act case among in absurd (let no : Drop names ≡ AddEntries it.0 ((insertion h.setup.cache i).entry ∷ []) = it.1 in cc)
      by (commands.Delete d) case reads l named = let it = inserted (deletion h.setup.cache d) (deeds call.turns) reply act case among in absurd (let no : Drop names ≡ AddEntries it.0 ((deletion h.setup.cache d).entry ∷ []) = it.1 in cc)
      by (commands.RemoveHash i) case reads l named =
          drops_apart h.setup key (content_path h.setup.cache i ∷ []) (deeds call.turns) names (content_apart h.setup key i named, tt) case among
      by (commands.RemoveFully other) (inl case) reads l named =
          drops_apart h.setup key (bucket_path h.setup.cache other ∷ []) (deeds call.turns) names (bucket_apart h.setup key other l, tt) case among
      by (commands.RemoveFully other) (inr case) reads l named =
          drops_apart h.setup key (content_path h.setup.cache case.0.integrity ∷ bucket_path h.setup.cache other ∷ []) (deeds call.turns) names
          (content_apart h.setup key case.0.integrity (found_formed h.setup other call.turns case.0 holds.turns case.1), (bucket_apart h.setup key other l, tt)) case.2 among
      by commands.Clear case reads l named = absurd l
      by c case reads l named = idle_among act call.turns (reads tt) among
