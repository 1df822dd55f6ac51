-- Entries without metadata, and what an insertion and a removal that are done leave in the cache.
use Rattle.std.proofs.Common.{◌≡◌, ℕ, ◌<◌, ◌^◌, List, Option, None, Some, refl, sym, subst, inl, inr, Bool, true, false, cond, [], ◌∷◌, ◌++◌, Result, Ok, Err, ap, ◌∙◌}
use Rattle.std.specs.Prelude.{IsUtf8}
use Rattle.cacache_core.specs.{declared.{integrity.{algorithm.Algorithm.{Algorithm}, digest.Hash.{Hash}}, errors.Fault.{Fault}}, Integrity.{integrity_under}, Paths.{Names, names_of, names_below, bucket_names_of}}
use Rattle.cacache_store.specs.declared.store.log.LogItem.{LogItem}
use Rattle.cacache_laws.specs.{Caches.{HasContent, HasKey, plain_put}, Beside.{found_under}, Puts.{entry_of_put}, Sequence.{turns_on, tree_on, Alike, after_deeds}, ReadAnswers.{entries_on}, Inserts.{InsertsAdd, DeletesAdd}}
use Rattle.cacache_entry.{specs.{Entry.{Entry}, FittingEntries.{IsUtf8IfAny, IsEntry, cause_of}, EntryLaws.{bare_entry}}, proofs.EntryCauses.{no_cause_is_fit, bare_entries_fit}}
use Rattle.sha1.specs.Sha1.{sha1}
use Rattle.cacache_disk.{specs.Tree.{Tree}, proofs.Roots.{same_self}}
use Rattle.cacache_calls.specs.{declared.reply.Reply.{Reply}, Inserting.{insertion, deletion}, Steps.{bucket_path}, State.{Insertion}}
use Rattle.cacache_value.specs.{Kinds.{is_path_of}, Value.{Value, value_of_tree}, Acts.{change, list_of}}
use Rattle.cacache_history.specs.{Setup.{Setup, call_site, home}, Commits.{Deed, does, finds, deeds, IsAdded, IsNotOk, InsertionAdds, IsCase}}
use Rattle.cacache_history.proofs.Histories.ShownTurns.{bucket_below}
use Rattle.cacache_calls.specs.declared.command.Command.TheVariants as commands
use Rattle.cacache_calls.specs.declared.reply.Reply.TheVariants as replies

-- what holds of an entry that can be written
pub record Written (e : Entry) : Type 0 where
  pub formed : IsEntry e
  pub no_cause : cause_of e ≡ None

pub bare_written : (key : List ℕ) (integrity : Option (List ℕ)) (time size : ℕ) → IsUtf8 key → IsUtf8IfAny integrity → time < 2 ^ 64 → size < 2 ^ 64 → Written (bare_entry key integrity time size)
bare_written key integrity time size utf8 spelled early small =
    let e = bare_entries_fit key integrity time size utf8 spelled early small in
    record { formed = e.0; no_cause = (no_cause_is_fit (bare_entry key integrity time size) e.0).1 e.1 }

pub keyed_formed : (P : List ℕ → Type 0) (key k : List ℕ) → Some key ≡ Some k → P key → P k
keyed_formed P key k e h = let same : key ≡ k = cc in subst P same h

-- a put whose entry leads to the integrity of its bytes, which lie there
pub has_key : (a : Algorithm) (cache key bytes : List ℕ) (moment : ℕ) (i : List Hash) (new : List LogItem) → i ≡ integrity_under a bytes → found_under cache key new ≡ Some (entry_of_put cache (plain_put a key bytes moment) key)
    → HasContent cache (integrity_under a bytes) bytes new → HasKey cache key i bytes new
has_key a cache key bytes moment i new is leads content =
    let has : HasKey cache key (integrity_under a bytes) bytes new = record { found = entry_of_put cache (plain_put a key bytes moment) key; finds = leads; integrity = refl; content = content } in
    subst (λ j. HasKey cache key j bytes new) (sym is) has

-- ---- what an insertion and a removal that are done leave in the cache

-- a path that names these below the cache is the path of these names in its folder
pub below_is : (folder : Option Names) (names all : Names) (r : Result Names Fault) → r ≡ names_below folder names → r ≡ Ok all → is_path_of folder names all ≡ true
below_is None names all r e f = let no : Err _ ≡ Ok all = sym e ∙ f in absurd cc
below_is (Some folder) names all r e f =
    let is : Ok (folder ++ names) ≡ Ok all = sym e ∙ f in
    let same : folder ++ names ≡ all = cc in
    subst (λ p. is_path_of (Some folder) names p ≡ true) same (same_self (folder ++ names))

more_entries : (b : Bool) (o : Option (List Entry)) (new : List Entry) → b ≡ true → list_of (cond b (Some (list_of o ++ new)) o) ≡ list_of o ++ new
more_entries true o new e = refl
more_entries false o new e = absurd cc

-- deeds are done one after another
pub first_deed : (folder : Option Names) (d : Deed) (more : List Deed) (w : Value) → after_deeds folder (d ∷ more) w ≡ after_deeds folder more (after_deeds folder (d ∷ []) w)
first_deed folder (does act) more w = refl
first_deed folder (finds path) more w = refl

module _ (s : Setup) where
  -- an entry that is added
  pub adds_entry : (i : Insertion) (d : Deed) (v : Value) → i.cache ≡ s.cache → IsAdded i d
      → list_of ((after_deeds (home s) (d ∷ []) v).buckets (sha1 i.entry.key)) ≡ list_of (v.buckets (sha1 i.entry.key)) ++ i.entry ∷ []
  adds_entry i (finds path) v here is = absurd is
  adds_entry i (does act) v here is =
      let at = below_is (home s) (bucket_names_of (sha1 i.entry.key)) is.0 (names_of (bucket_path i.cache i.entry.key))
      (ap (λ c. names_of (bucket_path c i.entry.key)) here ∙ bucket_below s i.entry.key) is.1 in
      ap (λ x. list_of ((change (home s) x v).buckets (sha1 i.entry.key))) is.2
      ∙ more_entries (is_path_of (home s) (bucket_names_of (sha1 i.entry.key)) is.0) (v.buckets (sha1 i.entry.key)) (i.entry ∷ []) at

  -- the entry of an insertion that is done
  entry_after : (i : Insertion) (more : List Deed) (r : Reply) → InsertionAdds i more (Some r) → (IsNotOk (Some r) → ⊥) → (d : Deed) × IsAdded i d × (more ≡ d ∷ [])
  entry_after i more r (inl h) ok = absurd (ok h.1)
  entry_after i more r (inr h) ok = h

  -- what these deeds did to a tree's value
  module _ (t new : Tree) (ds : List Deed) (follows : Alike (value_of_tree (home s) new) (after_deeds (home s) ds (value_of_tree (home s) t))) where
    pub adds : (i : Insertion) (r : Reply) → i.cache ≡ s.cache → InsertionAdds i ds (Some r) → (IsNotOk (Some r) → ⊥) → entries_on (home s) new i.entry.key ≡ entries_on (home s) t i.entry.key ++ i.entry ∷ []
    adds i r here h ok =
        let e = entry_after i ds r h ok in
        follows.lists (sha1 i.entry.key)
        ∙ ap (λ ds. list_of ((after_deeds (home s) ds (value_of_tree (home s) t)).buckets (sha1 i.entry.key))) e.2
        ∙ adds_entry i e.0 (value_of_tree (home s) t) here e.1

pub inserts_add : InsertsAdd
inserts_add s t call i answered command reply answers =
    let case : InsertionAdds (insertion s.cache i) (deeds (turns_on t call.moves)) (Some (replies.Stored answered))
    = subst (λ r. IsCase (call_site s call.number) (commands.Insert i) (turns_on t call.moves) (Some r)) reply
    (subst (λ c. IsCase (call_site s call.number) c (turns_on t call.moves) (Some call.reply)) command answers.commits) in
    adds s t (tree_on t call.moves) (deeds (turns_on t call.moves)) answers.follows (insertion s.cache i) (replies.Stored answered) refl case (λ no. no)

pub deletes_add : DeletesAdd
deletes_add s t call d command reply answers =
    let case : InsertionAdds (deletion s.cache d) (deeds (turns_on t call.moves)) (Some replies.Done)
    = subst (λ r. IsCase (call_site s call.number) (commands.Delete d) (turns_on t call.moves) (Some r)) reply
    (subst (λ c. IsCase (call_site s call.number) c (turns_on t call.moves) (Some call.reply)) command answers.commits) in
    adds s t (tree_on t call.moves) (deeds (turns_on t call.moves)) answers.follows (deletion s.cache d) replies.Done refl case (λ no. no)
