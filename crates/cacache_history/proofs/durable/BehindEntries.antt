-- What a loss leaves after an entry that a durable commit appended as a whole line.
use Rattle.std.proofs.{Common.{◌≡◌, ◌+◌, ◌-◌, ◌≤◌, inl, inr, ℕ, Bool, true, false, List, [], ◌∷◌, ◌++◌, Some, length, take, refl, sym, ap, subst, ◌∙◌, arith, append_assoc, append-nil}, Math.Seq.{take-append-add}, lemmas.{List.{append_cancel_left}, Option.{same_Some}}}
use Rattle.sha1.specs.Sha1.{sha1}
use Rattle.cacache_core.specs.Paths.{Names, bucket_names_of}
use Rattle.cacache_disk.specs.{declared.node.Node.TheVariants.{File}, Tree.{Tree, bytes_of, look}}
use Rattle.cacache_entry.{specs.{Entry.{Entry, closed_line}, Bucket.{entries_of}}, proofs.Lookups.{empty_holds_nothing}}
use Rattle.cacache_value.{specs.{Kinds.{Bucket, path_kind}, Acts.{Move}, Value.{bucket_in, value_of_tree}, ValueLaws.{IsLonger}}, proofs.PathKinds.{kind-below}}
use Rattle.cacache_calls.specs.Steps.{bucket_path}
use Rattle.cacache_history.specs.{declared.record.Record.{Record}, History.{History}, Values.{bucket_at, steps_of}, durable.{Behind.{NoneAppends, StaysSynced}, Outlasting.{Outlasts, OutlastsWith, moment_at}}}
use Rattle.cacache_history.proofs.durable.{DoneSyncs.{cache_here, calm_later, calm_move, here, leads_to_end, own_move}, DurableEntries.{WholeEntry, bucket_is, bucket_named, bucket_outlasts, bucket_synced, bucket_way, entry_outlasts}, GrownBuckets.{Stands, grown_after, kept_synced, left_as_fixed, still_after, whole_synced}, LineParts.{HoldsFirst, none_first}}
use Rattle.cacache_loss.specs.{declared.fixing.Fixing.{Fixing}, Loss.{Loss, bytes_left, node_left}, LostValues.{LeftOf}, Moments.{IsCalm, EachMove, Moment, after, lost_then}, Syncs.{SyncsFile}}
use Rattle.cacache_loss.proofs.{Buckets.{closed_entries, line_stands}, KeptPaths.{cache_next, each_calm}}
use Rattle.cacache_loss.specs.Moments as moments

-- ---- what is left of bytes

-- a file with this much fixed, and no tail, begins with the first bytes and some of the others
some_left : (z more : List ℕ) (f : Fixing) → length z ≤ f.kept → (k : ℕ) × (take f.kept (z ++ more) ++ [] ≡ z ++ take k more)
some_left z more f kept =
    let same : f.kept ≡ length z + (f.kept - length z) = omega (arith, kept) in
    (f.kept - length z, append-nil (take f.kept (z ++ more)) ∙ ap (λ n. take n (z ++ more)) same ∙ take-append-add z more (f.kept - length z))

whole_left : (f : Fixing) (bytes tail : List ℕ) → f.whole ≡ true → bytes_left f bytes tail ≡ bytes
whole_left f bytes tail e = rw e refl

open_left : (f : Fixing) (bytes tail : List ℕ) → f.whole ≡ false → tail ≡ [] → bytes_left f bytes tail ≡ take f.kept bytes ++ []
open_left f bytes tail e none = rw (e, none) refl

-- a sync is the last word if nobody appends
none_stays : (path : Names) (moves : List Move) → SyncsFile path moves → NoneAppends path moves → StaysSynced path moves
none_stays path [] syncs none = absurd syncs
none_stays path (m ∷ moves) (inl is) none = inl (is, none.1)
none_stays path (m ∷ moves) (inr syncs) none = inr (none_stays path moves syncs none.1)

same_rest : (e : Entry) (a b : List Entry) → e ∷ a ≡ e ∷ b → a ≡ b
same_rest e a b same = cc

same_bytes : (a b : List ℕ) → Some (File a) ≡ Some (File b) → a ≡ b
same_bytes a b e = cc

-- ---- at the place of the append

module _ {h : History} {folder path : Names} {before rest : List Record} {caller : ℕ} (entry : Entry) (e : WholeEntry h folder path before rest caller entry) where
  abbrev digest : List ℕ
  digest = sha1 entry.key

  abbrev bucket : Names
  bucket = folder ++ bucket_names_of digest

  is_bucket : path_kind (Some folder) bucket ≡ Bucket
  is_bucket = kind-below folder (bucket_names_of digest)

  abbrev then : Moment
  then = moment_at h (here e.at)

  abbrev begun : Moment
  begun = moments.next then (own_move e.at)

  abbrev moves : List Move
  moves = steps_of e.at.place.later

  abbrev end : Moment
  end = after begun moves

  abbrev fixing : Fixing
  fixing = end.fixed.files bucket

  -- what the bucket held, and the line
  abbrev old : List ℕ
  old = bytes_of (look then.tree bucket)

  abbrev front : List ℕ
  front = old ++ closed_line true entry

  starts : Stands (Some folder) bucket is_bucket front begun
  starts =
      let calm = calm_move e.at in (
        cache_next (Some folder) then (own_move e.at) (cache_here e.at) calm.1,
        line_stands (Some folder) then.tree bucket (bucket_path h.setup.cache entry.key) (closed_line true entry) e.at.place.luck (cache_here e.at).0 calm.1
            (bucket_named entry.key h folder e.at.home_is) (sym calm.2),
      )

  calm : EachMove (IsCalm (Some folder)) begun moves
  calm = each_calm (Some folder) begun moves (calm_later e.at)

  grown : (more : List ℕ) × HoldsFirst more × Stands (Some folder) bucket is_bucket (front ++ more) end
  grown =
      grown_after (Some folder) bucket is_bucket front [] begun moves (subst (λ b. Stands (Some folder) bucket is_bucket b begun) (sym (append-nil front)) starts) none_first calm

  -- what was added after it
  more_is : (other : List ℕ) → entries_of (front ++ other) ≡ bucket_at h (here e.at) digest ++ entry ∷ entries_of other
  more_is other =
      closed_entries old other entry e.formed e.fits ∙ append_assoc (entries_of old) (entry ∷ []) (entries_of other)
      ∙ ap (λ es. es ++ entry ∷ entries_of other) (bucket_is h folder e.at.home_is (here e.at) digest)

  had : bucket_at h h.records digest ≡ bucket_at h (here e.at) digest ++ entry ∷ entries_of grown.0
  had =
      sym (bucket_is h folder e.at.home_is h.records digest) ∙ ap (λ (w : Moment). entries_of (bytes_of (look w.tree bucket))) (leads_to_end e.at)
      ∙ ap (λ o. entries_of (bytes_of o)) grown.2.1 ∙ more_is grown.0

  -- at least its own line is fixed
  kept : length front ≤ fixing.kept
  kept = kept_synced (Some folder) bucket is_bucket (length front) front begun moves starts (omega arith) calm (bucket_synced entry e)

  module _ (loss : Loss) (left : Tree) (left_of : LeftOf folder (moment_at h h.records) loss left) where
    stands_left : look left bucket ≡ Some (File (bytes_left fixing (front ++ grown.0) (loss.tail bucket)))
    stands_left =
        left_of bucket ∙ ap (λ (w : Moment). lost_then (Some folder) w loss bucket) (leads_to_end e.at)
        ∙ left_as_fixed (Some folder) bucket is_bucket front begun moves loss starts calm (bucket_way entry e) ∙ ap (node_left fixing (loss.tail bucket)) grown.2.1

    abbrev outlasts : Outlasts entry.key (bucket_at h (here e.at) digest) entry (value_of_tree (Some folder) left)
    outlasts = bucket_outlasts entry e loss left left_of

    abbrev more : List Entry
    more = outlasts.more

    -- these are the entries of what is left after the line
    more_left : (other : List ℕ) → bytes_left fixing (front ++ grown.0) (loss.tail bucket) ≡ front ++ other → more ≡ entries_of other
    more_left other same =
        let there = ap bucket_in (stands_left ∙ ap (λ b. Some (File b)) same) ∙ ap Some (more_is other) in
        let lists = same_Some (bucket_at h (here e.at) digest ++ entry ∷ more) (bucket_at h (here e.at) digest ++ entry ∷ entries_of other) (sym outlasts.bucket ∙ there) in
        same_rest entry more (entries_of other) (append_cancel_left (bucket_at h (here e.at) digest) (entry ∷ more) (entry ∷ entries_of other) lists)

    all_left : fixing.whole ≡ true → more ≡ entries_of grown.0
    all_left whole = more_left grown.0 (whole_left fixing (front ++ grown.0) (loss.tail bucket) whole)

    -- without a tail the first of what was added is left
    first_left : loss.tail bucket ≡ [] → IsLonger more (entries_of grown.0)
    first_left none = by fixing.whole refl
      where
        by : (b : Bool) → fixing.whole ≡ b → IsLonger more (entries_of grown.0)
        by true whole = ([], sym (all_left whole) ∙ sym (append-nil more))
        by false more_may =
            let some = some_left front grown.0 fixing kept in
            subst (λ es. IsLonger es (entries_of grown.0))
            (sym (more_left (take some.0 grown.0) (open_left fixing (front ++ grown.0) (loss.tail bucket) more_may none ∙ some.1))) (grown.1 some.0)

    -- if nobody appended since a sync, all of it is
    all_synced : StaysSynced bucket moves → more ≡ entries_of grown.0
    all_synced stays = all_left (whole_synced (Some folder) bucket is_bucket front begun moves starts calm stays)

    -- if nobody appended at all, there is none
    none_left : NoneAppends bucket moves → more ≡ []
    none_left none =
        let still = still_after (Some folder) bucket is_bucket front begun moves starts calm none in
        let bytes = same_bytes (front ++ grown.0) (front ++ []) (sym grown.2.1 ∙ still.1 ∙ ap (λ b. Some (File b)) (sym (append-nil front))) in
        all_synced (none_stays bucket moves (bucket_synced entry e) none) ∙ ap entries_of (append_cancel_left front grown.0 [] bytes) ∙ empty_holds_nothing

    pub entry_behind : OutlastsWith h folder before rest caller entry.key entry loss (value_of_tree (Some folder) left)
    entry_behind = record {
      entry_is = entry_outlasts entry e loss left left_of;
      behind = record {
        added = entries_of grown.0;
        had = had;
        first = first_left;
        all = all_synced;
        none = none_left;
      };
    }
