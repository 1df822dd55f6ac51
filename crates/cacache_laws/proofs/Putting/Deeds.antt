-- An added entry leaves what other keys lead to, and all contents.
-- What the deeds of a commit leave, whether it puts a file or a link.
use Rattle.std.proofs.{Common.{arith, rules, ◌≡◌, inl, inr, ℕ, Bool, true, cond, List, [], ◌∷◌, ◌++◌, Option, None, Some, refl, sym, ap, ◌∙◌, ◌⊎◌, option_map, subst}, lemmas.{Grind.{common_steps}, List.{Sums.{fold-append}, Elements.{All-head}}, Bool.{cond-true}}}
use Rattle.std.specs.{Prelude.{IfSome}, Option.{unwrap_or}}
use Rattle.sha1.specs.Sha1.{sha1}
use Rattle.cacache_core.specs.{declared.integrity.digest.Hash.{Hash}, Integrity.{address, IsHash, IsIntegrity}, Paths.{content_names, Names, home_of, names_of}}
use Rattle.cacache_core.proofs.{Printed.{printed}, ProperNames.{not_true}}
use Rattle.cacache_store.specs.declared.store.log.LogItem.{LogItem}
use Rattle.cacache_disk.specs.Replay.{tree_of}
use Rattle.cacache_entry.specs.{Entry.{Entry}, Bucket.{answer_of, answer_to, after_entry, latest, answer_read, found_of}}
use Rattle.cacache_calls.specs.{declared.{reply.Reply.{Reply}, command.Put.{Put}}, State.{Insertion}, Inserting.{given_or}, Steps.{content_path}, Storing.{insertion_of, put_commit}}
use Rattle.cacache_value.specs.{Kinds.{is_path_of}, Value.{Value, value_of_tree, AtLink, Blob, InFile}, Acts.{change, list_of, Act, PutBytes, PutLink}}
use Rattle.cacache_history.specs.{Turns.{blob_at}, Commits.{Deed, does, finds, IsAdded, InsertionAdds, PutsContent, AddsAfter, CommitsAs, IsNotOk}}
use Rattle.cacache_history.proofs.{Contents.{Digests.{digest_hash, own_integrity as own_formed}, Righted.{one_address}}, Histories.ShownTurns.{content_below}}
use Rattle.cacache_laws.specs.{Sequence.{Alike, after_deeds}, Caches.{HasContent, HasKey, lies_under, setup_at}, Beside.{found_under, StaysKnown, KeepsOthers, IsOther, ShareAddress, own_integrity}, Puts.{ExpectsIntegrity, LeadsToPut, MayLeadToPut, entry_of_put}, ReadAnswers.{entries_on}, Inserts.{own_hash}}
use Rattle.cacache_laws.proofs.{Putting.Stored.{adds_entry, below_is, first_deed}, Readings.Looks.{finds_last}}

-- ---- lookups

-- an entry of another key answers nothing
other_answers : (other : List ℕ) (e : Entry) → (other ≡ e.key → ⊥) → answer_to other e ≡ None
other_answers other e differ = search (rules, not_true)

one_more : (other : List ℕ) (es : List Entry) (e : Entry) → (other ≡ e.key → ⊥) → latest other (es ++ e ∷ []) ≡ latest other es
one_more other es e differ =
    fold-append (after_entry other) None es (e ∷ []) ∙ ap (λ a. unwrap_or a (latest other es)) (other_answers other e differ)

perhaps_more : (other : List ℕ) (b : Bool) (o : Option (List Entry)) (e : Entry) → (other ≡ e.key → ⊥) → latest other (list_of (cond b (Some (list_of o ++ e ∷ [])) o)) ≡ latest other (list_of o)
perhaps_more other b o e differ = grind (arith, one_more)

-- ---- values

-- lookups of other keys find the same in both
abbrev pub SameLookups : List ℕ → Value → Value → Type 0
SameLookups key v w = (other : List ℕ) → (other ≡ key → ⊥) → latest other (list_of (w.buckets (sha1 other))) ≡ latest other (list_of (v.buckets (sha1 other)))

-- the contents are the same in both
abbrev pub SameContents : Value → Value → Type 0
SameContents v w = (a : Hash) → w.contents a ≡ v.contents a

module _ (home : Option Names) (i : Insertion) where
  added_lookups : (d : Deed) (v : Value) → IsAdded i d → SameLookups i.entry.key v (after_deeds home (d ∷ []) v)
  added_lookups d v is = grind (arith, perhaps_more)

  added_contents : (d : Deed) (v : Value) → IsAdded i d → SameContents v (after_deeds home (d ∷ []) v)
  added_contents (finds path) v is = absurd is
  added_contents (does act) v is = λ a. ap (λ x. (change home x v).contents a) is.2

  pub adds_lookups : (ds : List Deed) (reply : Option Reply) (v : Value) → InsertionAdds i ds reply → SameLookups i.entry.key v (after_deeds home ds v)
  adds_lookups ds reply v h = grind (arith, added_lookups)

  pub adds_contents : (ds : List Deed) (reply : Option Reply) (v : Value) → InsertionAdds i ds reply → SameContents v (after_deeds home ds v)
  adds_contents ds reply v (inl h) = λ a. ap (λ (x : List Deed). (after_deeds home x v).contents a) h.0
  adds_contents ds reply v (inr h) = λ a. ap (λ (x : List Deed). (after_deeds home x v).contents a) h.2 ∙ added_contents h.0 v h.1 a

-- ---- logs

pub alike_lookup : (other : List ℕ) (v w : Value) → Alike w v → latest other (list_of (w.buckets (sha1 other))) ≡ latest other (list_of (v.buckets (sha1 other)))
alike_lookup other v w alike = ap (latest other) (alike.lists (sha1 other))

at_address : (v w : Value) (o : Option Hash) → ((a : Hash) → w.contents a ≡ v.contents a) → blob_at w o ≡ blob_at v o
at_address v w o h = grind (arith, common_steps)

module _ (cache : List ℕ) (old new : List LogItem) where
  -- a content that stays the same at its place
  content_kept : (i : List Hash) (bytes : List ℕ) → lies_under cache i new ≡ lies_under cache i old → HasContent cache i bytes old → HasContent cache i bytes new
  content_kept i bytes same h = record { content = same ∙ h.content; formed = h.formed; meets = h.meets }

  -- a key that leads to the same entry
  key_kept : (key bytes : List ℕ) (i : List Hash) → found_under cache key new ≡ found_under cache key old → lies_under cache i new ≡ lies_under cache i old → HasKey cache key i bytes old
      → HasKey cache key i bytes new
  key_kept key bytes i same lies h = record { found = h.found; finds = same ∙ h.finds; integrity = h.integrity; content = content_kept i bytes lies h.content }

  lies_kept : SameContents (value_of_tree (home_of cache) (tree_of old)) (value_of_tree (home_of cache) (tree_of new)) → (i : List Hash) → lies_under cache i new ≡ lies_under cache i old
  lies_kept contents i = at_address (value_of_tree (home_of cache) (tree_of old)) (value_of_tree (home_of cache) (tree_of new)) (address i) contents

  others_kept : (key : List ℕ) → SameLookups key (value_of_tree (home_of cache) (tree_of old)) (value_of_tree (home_of cache) (tree_of new))
      → SameContents (value_of_tree (home_of cache) (tree_of old)) (value_of_tree (home_of cache) (tree_of new)) → KeepsOthers cache key old new
  others_kept key lookups contents =
      let lies = lies_kept contents in
      record {
        finds = lookups;
        lies = lies;
        key = λ other bytes i differ has. key_kept other bytes i (lookups other differ) (lies i) has;
        content = λ i bytes has. content_kept i bytes (lies i) has;
      }

  -- if contents and entries are the same, all that was known still holds
  pub stays_known : Alike (value_of_tree (home_of cache) (tree_of new)) (value_of_tree (home_of cache) (tree_of old)) → StaysKnown cache old new
  stays_known alike =
      let lies = lies_kept (λ a. alike.contents a) in
      let finds : (key : List ℕ) → found_under cache key new ≡ found_under cache key old
      = λ key. alike_lookup key (value_of_tree (home_of cache) (tree_of old)) (value_of_tree (home_of cache) (tree_of new)) alike in
      record {
        finds = finds;
        lies = lies;
        key = λ key bytes i has. key_kept key bytes i (finds key) (lies i) has;
        content = λ i bytes has. content_kept i bytes (lies i) has;
      }

-- an insertion keeps all else
pub adds_keep : (cache : List ℕ) (i : Insertion) (old new : List LogItem) (ds : List Deed) (reply : Option Reply) → InsertionAdds i ds reply
    → Alike (value_of_tree (home_of cache) (tree_of new)) (after_deeds (home_of cache) ds (value_of_tree (home_of cache) (tree_of old))) → KeepsOthers cache i.entry.key old new
adds_keep cache i old new ds reply adds follows =
    let v = value_of_tree (home_of cache) (tree_of old) in
    let w = value_of_tree (home_of cache) (tree_of new) in
    let mid = after_deeds (home_of cache) ds (value_of_tree (home_of cache) (tree_of old)) in
    others_kept cache old new i.entry.key (λ other differ. alike_lookup other mid w follows ∙ adds_lookups (home_of cache) i ds reply v adds other differ)
    (λ a. follows.contents a ∙ adds_contents (home_of cache) i ds reply v adds a)

-- the act that puts this at an address
abbrev pub put_of : Blob → Names → Act
put_of (InFile bytes) names = PutBytes names bytes
put_of (AtLink path) names = PutLink names path

put_contents : (folder : Option Names) (names : Names) (blob : Blob) (v : Value) (a : Hash)
    → (change folder (put_of blob names) v).contents a ≡ cond (is_path_of folder (content_names a) names) (Some blob) (v.contents a)
put_contents folder names blob v a = grind (arith, common_steps)

put_buckets : (folder : Option Names) (names : Names) (blob : Blob) (v : Value) (digest : List ℕ) → (change folder (put_of blob names) v).buckets digest ≡ v.buckets digest
put_buckets folder names blob v digest = grind (arith, common_steps)

-- ---- values

module _ (cache : List ℕ) (p : Put) where
  -- what comes after the first deed leaves contents, and lookups of other keys
  later_contents : (key : Option (List ℕ)) (more : List Deed) (reply : Option Reply) (v : Value) → AddsAfter (put_commit cache p) key more reply → (a : Hash)
      → (after_deeds (home_of cache) more v).contents a ≡ v.contents a
  later_contents None more reply v none a = ap (λ (x : List Deed). (after_deeds (home_of cache) x v).contents a) none
  later_contents (Some key) more reply v adds a = adds_contents (home_of cache) (insertion_of (put_commit cache p) key) more reply v adds a

  later_lookups : (key : Option (List ℕ)) (more : List Deed) (reply : Option Reply) (v : Value) → AddsAfter (put_commit cache p) key more reply → (other : List ℕ) → IsOther key other
      → latest other (list_of ((after_deeds (home_of cache) more v).buckets (sha1 other))) ≡ latest other (list_of (v.buckets (sha1 other)))
  later_lookups None more reply v none other differ = ap (λ (x : List Deed). latest other (list_of ((after_deeds (home_of cache) x v).buckets (sha1 other)))) none
  later_lookups (Some key) more reply v adds other differ = adds_lookups (home_of cache) (insertion_of (put_commit cache p) key) more reply v adds other differ

module _ (cache : List ℕ) (p : Put) (blob : Blob) where
  -- the deeds of its commit, and the first of them
  abbrev pub PutsIt : List Deed → Option Reply → Type 0
  PutsIt ds reply = CommitsAs (put_commit cache p) (λ names. put_of blob names) ds reply

  abbrev IsFirst : Deed → Type 0
  IsFirst d = PutsContent (put_commit cache p) (λ names. put_of blob names) d

  -- a content is what it was, or what is put at this address
  abbrev Kept : Hash → Option Blob → Option Blob → Type 0
  Kept a old new = (new ≡ old) ⊎ ((a ≡ own_hash p) × (new ≡ Some blob))

  by_place : (a : Hash) (old : Option Blob) (b : Bool) → (b ≡ true → a ≡ own_hash p) → Kept a old (cond b (Some blob) old)
  by_place a old b here = grind (arith, common_steps)

  -- it goes to the address of its bytes
  first_content : (d : Deed) (v : Value) → IsFirst d → (a : Hash) → IsHash a → Kept a (v.contents a) ((after_deeds (home_of cache) (d ∷ []) v).contents a)
  first_content (finds path) v puts a is = inl refl
  first_content (does act) v puts a is =
      let below = sym (content_below (setup_at cache []) (own_hash p) [] (digest_hash p.options.algorithm p.data)) ∙ puts.1 in
      subst (Kept a (v.contents a)) (sym (ap (λ x. (change (home_of cache) x v).contents a) puts.2 ∙ put_contents (home_of cache) puts.0 blob v a))
      (by_place a (v.contents a) (is_path_of (home_of cache) (content_names a) puts.0)
      (λ here. one_address cache (home_of cache) (own_hash p) a puts.0 (digest_hash p.options.algorithm p.data) is below here))

  first_entries : (d : Deed) (v : Value) (digest : List ℕ) → IsFirst d → (after_deeds (home_of cache) (d ∷ []) v).buckets digest ≡ v.buckets digest
  first_entries d v digest puts = grind (arith, put_buckets)

  module _ (ds : List Deed) (reply : Option Reply) (v : Value) where
    lookups : PutsIt ds reply → (other : List ℕ) → IsOther p.key other
        → latest other (list_of ((after_deeds (home_of cache) ds v).buckets (sha1 other))) ≡ latest other (list_of (v.buckets (sha1 other)))
    lookups h other differ = grind (arith, first_deed, later_lookups, first_entries)

    -- what the first deed left at an address is there in the end
    first_last : (d : Deed) (more : List Deed) → ds ≡ d ∷ more → AddsAfter (put_commit cache p) p.key more reply → (a : Hash)
        → (after_deeds (home_of cache) ds v).contents a ≡ (after_deeds (home_of cache) (d ∷ []) v).contents a
    first_last d more is adds a =
        ap (λ (x : List Deed). (after_deeds (home_of cache) x v).contents a) is
        ∙ ap (λ (w : Value). w.contents a) (first_deed (home_of cache) d more v)
        ∙ later_contents cache p p.key more reply (after_deeds (home_of cache) (d ∷ []) v) adds a

    contents : PutsIt ds reply → (a : Hash) → IsHash a → Kept a (v.contents a) ((after_deeds (home_of cache) ds v).contents a)
    contents (inl h) a is = inl (ap (λ (x : List Deed). (after_deeds (home_of cache) x v).contents a) h.0)
    contents (inr h) a is = subst (Kept a (v.contents a)) (sym (first_last h.0 h.1 h.3 h.4 a)) (first_content h.0 v h.2 a is)

    -- the key's bucket has its entries, or the commit's entry after them
    pub bucket_entries : (key : List ℕ) → p.key ≡ Some key → PutsIt ds reply
        → ((list_of ((after_deeds (home_of cache) ds v).buckets (sha1 key)) ≡ list_of (v.buckets (sha1 key))) × IsNotOk reply)
        ⊎ (list_of ((after_deeds (home_of cache) ds v).buckets (sha1 key)) ≡ list_of (v.buckets (sha1 key)) ++ (insertion_of (put_commit cache p) key).entry ∷ [])
    bucket_entries key keyed (inl h) = inl (ap (λ (x : List Deed). list_of ((after_deeds (home_of cache) x v).buckets (sha1 key))) h.0, h.1)
    bucket_entries key keyed (inr h) =
        let i = insertion_of (put_commit cache p) key in
        let adds : InsertionAdds (insertion_of (put_commit cache p) key) h.1 reply = subst (λ k. AddsAfter (put_commit cache p) k h.1 reply) keyed h.4 in
        let w = after_deeds (home_of cache) (h.0 ∷ []) v in
        let step : list_of ((after_deeds (home_of cache) ds v).buckets (sha1 key)) ≡ list_of ((after_deeds (home_of cache) h.1 (after_deeds (home_of cache) (h.0 ∷ []) v)).buckets (sha1 key))
        = ap (λ (x : List Deed). list_of ((after_deeds (home_of cache) x v).buckets (sha1 key))) h.3
        ∙ ap (λ (x : Value). list_of (x.buckets (sha1 key))) (first_deed (home_of cache) h.0 h.1 v) in
        let before = first_entries h.0 v (sha1 key) h.2 in
        elim adds [
          | inl none ↦ inl (step ∙ ap (λ (x : List Deed). list_of ((after_deeds (home_of cache) x w).buckets (sha1 key))) none.0 ∙ ap list_of before, none.1)
          | inr e ↦
              inr
              (step ∙ ap (λ (x : List Deed). list_of ((after_deeds (home_of cache) x w).buckets (sha1 key))) e.2 ∙ adds_entry (setup_at cache []) i e.0 w refl e.1
              ∙ ap (λ o. list_of o ++ (insertion_of (put_commit cache p) key).entry ∷ []) before)
        ]

    -- once it is done, it is the content, or a content was found there
    abbrev PutOrFound : Type 0
    PutOrFound =
        ((after_deeds (home_of cache) ds v).contents (own_hash p) ≡ Some blob)
        ⊎ ((more : List Deed) × (ds ≡ finds (content_path cache (own_integrity p)) ∷ more)
        × ((after_deeds (home_of cache) ds v).contents (own_hash p) ≡ v.contents (own_hash p)))

    by_first : (d : Deed) (more : List Deed) → IsFirst d → ds ≡ d ∷ more → (after_deeds (home_of cache) ds v).contents (own_hash p) ≡ (after_deeds (home_of cache) (d ∷ []) v).contents (own_hash p) → PutOrFound
    by_first (finds path) more puts is same = inr (more, is ∙ ap (λ x. finds x ∷ more) puts, same)
    by_first (does act) more puts is same =
        let at = below_is (home_of cache) (content_names (own_hash p)) puts.0 (names_of (content_path cache (own_integrity p)))
        (content_below (setup_at cache []) (own_hash p) [] (digest_hash p.options.algorithm p.data)) puts.1 in
        inl
        (same ∙ ap (λ x. (change (home_of cache) x v).contents (own_hash p)) puts.2 ∙ put_contents (home_of cache) puts.0 blob v (own_hash p)
        ∙ cond-true (is_path_of (home_of cache) (content_names (own_hash p)) puts.0) (Some blob) (v.contents (own_hash p)) at)

    pub put_or_found : (IsNotOk reply → ⊥) → PutsIt ds reply → PutOrFound
    put_or_found ok (inl h) = absurd (ok h.1)
    put_or_found ok (inr h) = by_first h.0 h.1 h.2 h.3 (first_last h.0 h.1 h.3 h.4 (own_hash p))

-- ---- logs

given_formed : (p : Put) (o : Option (List Hash)) → IfSome o IsIntegrity → IsIntegrity (given_or (own_integrity p) o)
given_formed p None h = own_formed p.options.algorithm p.data
given_formed p (Some i) h = h

-- a key leads to the entry that comes after its others
led_by : (cache : List ℕ) (p : Put) → ExpectsIntegrity p → (old new : List LogItem) (key : List ℕ)
    → entries_on (home_of cache) (tree_of new) key ≡ entries_on (home_of cache) (tree_of old) key ++ (insertion_of (put_commit cache p) key).entry ∷ []
    → found_under cache key new ≡ Some (entry_of_put cache p key)
led_by cache p expects old new key entries =
    let e = (insertion_of (put_commit cache p) key).entry in
    let j = given_or (own_integrity p) p.options.integrity in
    let answer : answer_of e e.integrity ≡ Some (Some (found_of e j))
    = ap (λ r. option_map (option_map (found_of e)) (answer_read r)) (printed j (given_formed p p.options.integrity expects)) in
    finds_last key e (Some (found_of e j)) (entries_on (home_of cache) (tree_of old) key) (entries_on (home_of cache) (tree_of new) key) refl answer entries

module _ (cache : List ℕ) (p : Put) (blob : Blob) (old new : List LogItem) (ds : List Deed) (reply : Option Reply) (commits : PutsIt cache p blob ds reply)
    (follows : Alike (value_of_tree (home_of cache) (tree_of new)) (after_deeds (home_of cache) ds (value_of_tree (home_of cache) (tree_of old)))) where
  abbrev v : Value
  v = value_of_tree (home_of cache) (tree_of old)

  pub lies_so : (i : List Hash) → IsIntegrity i → (lies_under cache i new ≡ lies_under cache i old) ⊎ (ShareAddress i (own_integrity p) × (lies_under cache i new ≡ Some blob))
  lies_so [] formed = inl refl
  lies_so (a ∷ hs) formed =
      elim (contents cache p blob ds reply v commits a (All-head IsHash a hs formed.hashes)) [
        | inl same ↦ inl (follows.contents a ∙ same)
        | inr h ↦ inr (ap Some h.0, follows.contents a ∙ h.1)
      ]

  pub finds_so : (other : List ℕ) → IsOther p.key other → found_under cache other new ≡ found_under cache other old
  finds_so other differ =
      alike_lookup other (after_deeds (home_of cache) ds v) (value_of_tree (home_of cache) (tree_of new)) follows ∙ lookups cache p blob ds reply v commits other differ

  pub may_lead : ExpectsIntegrity p → MayLeadToPut cache p old new
  may_lead expects key keyed = search (rules, bucket_entries, led_by)

  pub commit_leads : ExpectsIntegrity p → (IsNotOk reply → ⊥) → LeadsToPut cache p new
  commit_leads expects ok key keyed =
      elim (bucket_entries cache p blob ds reply v key keyed commits) [
        | inl same ↦ absurd (ok same.1)
        | inr more ↦ led_by cache p expects old new key (follows.lists (sha1 key) ∙ more)
      ]

  pub lies_or_found : (IsNotOk reply → ⊥)
      → (lies_under cache (own_integrity p) new ≡ Some blob)
      ⊎ ((more : List Deed) × (ds ≡ finds (content_path cache (own_integrity p)) ∷ more) × (lies_under cache (own_integrity p) new ≡ lies_under cache (own_integrity p) old))
  lies_or_found ok =
      elim (put_or_found cache p blob ds reply v ok commits) [
        | inl put ↦ inl (follows.contents (own_hash p) ∙ put)
        | inr found ↦ inr (found.0, found.1, follows.contents (own_hash p) ∙ found.2)
      ]
