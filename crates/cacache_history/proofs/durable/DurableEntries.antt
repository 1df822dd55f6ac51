-- An entry that a durable commit appended as a whole line outlasts a loss, once its bucket is synced.
use Rattle.std.proofs.{Common.{rules, ◌≡◌, ℕ, true, List, [], ◌∷◌, ◌++◌, Option, None, Some, Ok, fold, length, refl, sym, ap, subst, ◌∙◌, append_assoc, arith}, lemmas.List.Sums.{fold-append}}
use Rattle.std.specs.Prelude.{unwrap_or}
use Rattle.sha1.specs.Sha1.{sha1}
use Rattle.cacache_core.specs.Paths.{Names, names_below, names_of, bucket_names_of}
use Rattle.cacache_core.proofs.{JoinedNames.{joined_texts_name}, PathLemmas.{keys_have_digests}, ProperNames.{names_are_proper}}
use Rattle.cacache_store.specs.declared.store.step.Step.TheVariants as steps
use Rattle.cacache_store.specs.declared.store.answer.Answer.TheVariants as answers
use Rattle.cacache_disk.specs.{declared.node.Node.{Node}, Tree.{Tree, bytes_of, look}}
use Rattle.cacache_entry.{specs.{Entry.{Entry, closed_line}, Bucket.{entries_of, after_entry, latest}, FittingEntries.{IsEntry, IsWritable}}, proofs.Lookups.{empty_holds_nothing}}
use Rattle.cacache_calls.specs.{Runs.{Moves}, Steps.{bucket_folders, bucket_path}}
use Rattle.cacache_value.{specs.{Acts.{list_of}, Value.{bucket_in, value_of_tree}}, proofs.PathKinds.{kind-below}}
use Rattle.cacache_history.specs.{declared.record.Record.{Record}, Setup.{home}, History.{History, Made}, Values.{bucket_at, steps_of}, durable.Outlasting.{EntryOutlasts, Outlasts, moment_at}}
use Rattle.cacache_history.proofs.durable.{DoneSyncs.{QuietPlace, cache_here, cache_text, calm_later, calm_move, here, leads_to_end, own_move, own_record, texts_here, syncs_file}, CommitMoves.{HasDirs}, Ending.{Has}, Traces.{tree_at}}
use Rattle.cacache_loss.specs.{Loss.{Loss}, LossLaws.{HoldsEntries}, LostValues.{LeftOf}, Moments.{lost_then}, Syncs.{SyncsFile, SyncsFolders}}
use Rattle.cacache_loss.proofs.{Buckets.{entries_survive}, SyncedFolders.{four_for_buckets}, LostTrees.{entries_are_held}}

-- the append of an entry's closed line, which was taken whole
abbrev pub whole_append : List ℕ → Entry → Made
whole_append cache entry =
    (steps.Append (bucket_path cache entry.key) (closed_line true entry), answers.Took (length (closed_line true entry)))

-- the entries of a bucket are those of its bytes
bucket_bytes : (here : Option Node) → entries_of (bytes_of here) ≡ list_of (bucket_in here)
bucket_bytes here = grind (arith, empty_holds_nothing)

-- where the bucket of a key lies
pub bucket_named : (key : List ℕ) (h : History) (folder : Names) → home h.setup ≡ Some folder → names_of (bucket_path h.setup.cache key) ≡ Ok (folder ++ bucket_names_of (sha1 key))
unfolding bucket_path
bucket_named key h folder home_is =
    joined_texts_name h.setup.cache (bucket_names_of (sha1 key)) (names_are_proper.buckets (sha1 key) (keys_have_digests key)) (omega arith)
    ∙ ap (λ o. names_below o (bucket_names_of (sha1 key))) home_is

-- what a bucket holds at a place of a history
pub bucket_is : (h : History) (folder : Names) → home h.setup ≡ Some folder → (at : List Record) (digest : List ℕ)
    → entries_of (bytes_of (look (moment_at h at).tree (folder ++ bucket_names_of digest))) ≡ bucket_at h at digest
bucket_is h folder home_is at digest = search (rules, bucket_bytes, tree_at)

-- the line of an entry was taken whole, and then its bucket was synced with its folders, while others remove, link
-- and export nothing
pub record WholeEntry (h : History) (folder path : Names) (before rest : List Record) (caller : ℕ) (entry : Entry) : Type 0 where
  pub more : Moves
  pub at : QuietPlace h folder path before rest caller (whole_append h.setup.cache entry) more
  pub formed : IsEntry entry
  pub fits : IsWritable entry
  pub file : Has (steps.SyncFile (bucket_path h.setup.cache entry.key), answers.Done) more
  pub dirs : HasDirs (bucket_folders h.setup.cache entry.key) more

module _ {h : History} {folder path : Names} {before rest : List Record} {caller : ℕ} (entry : Entry) (e : WholeEntry h folder path before rest caller entry) where
  abbrev at : List Record
  at = here e.at

  abbrev bucket : Names
  bucket = folder ++ bucket_names_of (sha1 entry.key)

  -- the bucket's folders are synced
  pub bucket_way : SyncsFolders (Some folder) [] bucket (steps_of e.at.place.later)
  unfolding bucket_folders
  bucket_way =
      (four_for_buckets h.setup.cache folder (sha1 entry.key) (cache_text e.at e.dirs.0) (keys_have_digests entry.key)).enough (steps_of e.at.place.later)
      (texts_here e.at (bucket_folders h.setup.cache entry.key) e.dirs)

  -- and so is its file
  pub bucket_synced : SyncsFile bucket (steps_of e.at.place.later)
  bucket_synced =
      syncs_file (bucket_path h.setup.cache entry.key) bucket (steps_of e.at.place.later) (bucket_named entry.key h folder e.at.home_is)
      (e.at.place.has (steps.SyncFile (bucket_path h.setup.cache entry.key), answers.Done) e.file)

  module _ (loss : Loss) (left : Tree) (left_of : LeftOf folder (moment_at h h.records) loss left) where
    abbrev old : List Entry
    old = entries_of (bytes_of (look (moment_at h at).tree bucket))

    held : HoldsEntries (old ++ entry ∷ []) (lost_then (Some folder) (moment_at h h.records) loss bucket)
    held =
        subst (λ w. HoldsEntries (old ++ entry ∷ []) (lost_then (Some folder) w loss bucket))
        (sym (leads_to_end e.at))
        (entries_survive (Some folder) bucket entry (moment_at h at) (own_move e.at) (steps_of e.at.place.later) loss
        (kind-below folder (bucket_names_of (sha1 entry.key))) (cache_here e.at) e.formed e.fits (calm_move e.at)
        (bucket_named entry.key h folder e.at.home_is, refl, refl) (calm_later e.at) bucket_synced bucket_way)

    -- what its bucket held at the append
    old_is : old ≡ bucket_at h at (sha1 entry.key)
    old_is = bucket_is h folder e.at.home_is at (sha1 entry.key)

    -- so a lookup of the key finds it, or a later one
    pub bucket_outlasts : Outlasts entry.key (bucket_at h at (sha1 entry.key)) entry (value_of_tree (Some folder) left)
    bucket_outlasts =
        let v = entries_are_held folder (sha1 entry.key) (old ++ entry ∷ []) (moment_at h h.records) loss left left_of held in
        record {
          more = v.0;
          bucket = v.1 ∙ ap Some (append_assoc old (entry ∷ []) v.0) ∙ ap (λ (es : List Entry). Some (es ++ entry ∷ v.0)) old_is;
          finds = λ found answers.
              fold-append (after_entry entry.key) None (bucket_at h at (sha1 entry.key)) (entry ∷ v.0)
              ∙ ap (λ a. fold (after_entry entry.key) (unwrap_or a (latest entry.key (bucket_at h at (sha1 entry.key)))) v.0) answers;
        }

    abbrev pub entry_outlasts : EntryOutlasts h before rest caller entry.key entry (value_of_tree (Some folder) left)
    entry_outlasts = record {
      between = e.at.place.between;
      append = own_record e.at;
      later = e.at.place.later;
      is = e.at.place.is;
      is_append = (refl, refl, refl);
      outlasts = bucket_outlasts;
    }
