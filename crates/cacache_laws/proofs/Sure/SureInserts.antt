-- An insertion in which all steps succeed.
use Rattle.std.proofs.{Common.{rules, ◌≡◌, ℕ, true, false, nat_le, List, [], ◌∷◌, ◌++◌, Option, None, Some, Ok, length, take, drop, refl, sym, ap, ◌∙◌, arith, append_assoc}, lemmas.Bool.{le-leb}}
use Rattle.std.specs.Prelude.{All}
use Rattle.hex.specs.Hex.{encode_lower}
use Rattle.sha1.specs.Sha1.{sha1}
use Rattle.cacache_core.specs.{declared.errors.{Error.TheVariants.{SerdeError}, SerdeCause.{SerdeCause}}, Paths.{Names, names_of, IsProperName, home_of, bucket_names, folder_names}}
use Rattle.cacache_core.proofs.{PathLemmas.{keys_have_digests}, ProperNames.{names_are_proper}}
use Rattle.cacache_core.specs.declared.errors.Fault.TheVariants as faults
use Rattle.cacache_store.specs.declared.store.step.Step.TheVariants as steps
use Rattle.cacache_store.specs.declared.store.answer.Answer.TheVariants as answers
use Rattle.cacache_store.specs.Plain.{PlainAnswer}
use Rattle.cacache_disk.specs.{declared.{luck.Luck.TheVariants.{Plain}, node.Node.{Node, TheVariants.{File}}}, Tree.{Tree, look, put, bytes_of, Rooted}, LedTo.{place}, Apply.{apply, make_some}}
use Rattle.cacache_disk.proofs.KeptFolders.{outcome_rooted}
use Rattle.cacache_calls.specs.{declared.reply.Reply.{Reply, TheVariants.{Refused}}, Common.{fails, sync_up}, Inserting.{bucket_line, insert, recorded, refused_cause, unless_refused}, State.{doing, appending, over, Insertion, make_folder, sync_file}, Steps.{bucket_path, bucket_folder, bucket_folders}}
use Rattle.cacache_calls.proofs.Going.{cond_leads}
use Rattle.cacache_value.{specs.Kinds.{Bucket, Temporary, Way, path_kind}, proofs.{Applying.{suits}, PathKinds.{proper_folder}}}
use Rattle.cacache_laws.specs.Succeeds.{insertion_reply, unless_unwritable}
use Rattle.cacache_laws.proofs.{Sure.{SurePlays.{Plays, ends, goes, syncs}, SureSpares.{dirs_spare, put_other}, SureRuns.{Ground, Lies, SyncsAll, joined_lies, is_for, place_at, place_in, makes_dirs, dirs_ground, dirs_stand, syncs_folders, look_own, appends, syncs_file}}, trees.Covering.{home_named}}

-- no temporary file is at a place that had none
abbrev pub Spares : Names → Tree → Tree → Type 0
Spares home t new = (q : Names) → path_kind (Some home) q ≡ Temporary → look t q ≡ None → look new q ≡ None

-- ---- the paths of a key's bucket

module _ (cache : List ℕ) (home : Names) (is : home_of cache ≡ Some home) (key : List ℕ) where
  key_names : All IsProperName (bucket_names key)
  key_names = names_are_proper.buckets (sha1 key) (keys_have_digests key)

  pub bucket_lies : Lies home (bucket_path cache key) (bucket_names key) Bucket
  unfolding bucket_path
  bucket_lies = joined_lies cache home (bucket_names key) Bucket is key_names (omega arith) refl

  pub bucket_folder_lies : Lies home (bucket_folder cache key) (folder_names (bucket_names key)) Way
  unfolding bucket_folder
  bucket_folder_lies = joined_lies cache home (folder_names (bucket_names key)) Way is (proper_folder (bucket_names key) key_names) (omega arith) refl

-- the folders that lead to a bucket that is there are synced
module _ (cache : List ℕ) (home : Names) (is : names_of cache ≡ Ok home) (key : List ℕ) where
  synced_folders : (t : Tree) (node : Node) → Rooted t → look t (home ++ bucket_names key) ≡ Some node → SyncsAll t (bucket_folders cache key)
  unfolding bucket_folders
  synced_folders t node rooted there = syncs_folders t cache home (bucket_names key) node rooted is (key_names cache home (home_named cache home is) key) there

-- one more name after those of a folder
pub one_behind : (home front : Names) (name : List ℕ) → home ++ (front ++ name ∷ []) ≡ (home ++ front) ++ name ∷ []
one_behind home front name = sym (append_assoc home front (name ∷ []))

-- ---- an insertion

module _ (i : Insertion) (home : Names) (is : names_of i.cache ≡ Ok home) (t : Tree) (g : Ground home t) where
  -- what the call is to leave and answer
  abbrev pub Inserted : Reply → Tree → Reply → Type 0
  Inserted wanted new r = (r ≡ wanted) × Spares home t new

  folder_lies : Lies home (bucket_folder i.cache i.entry.key) (folder_names (bucket_names i.entry.key)) Way
  folder_lies = bucket_folder_lies i.cache home (home_named i.cache home is) i.entry.key

  lies : Lies home (bucket_path i.cache i.entry.key) (bucket_names i.entry.key) Bucket
  lies = bucket_lies i.cache home (home_named i.cache home is) i.entry.key

  abbrev front : Names
  front = folder_names (bucket_names i.entry.key)

  -- the tree with the bucket's folders
  abbrev made : Tree
  made = make_some t [] (home ++ front) (length (home ++ front))

  made_ground : Ground home made
  made_ground = dirs_ground home t g (bucket_folder i.cache i.entry.key) front folder_lies

  led : place made (bucket_path i.cache i.entry.key) ≡ Ok (home ++ bucket_names i.entry.key)
  led =
      let name = drop 4 (encode_lower (sha1 i.entry.key)) in
      place_in made (bucket_path i.cache i.entry.key) (home ++ front) (drop 4 (encode_lower (sha1 i.entry.key))) made_ground.rooted
      (lies.named ∙ ap Ok (one_behind home front name)) (dirs_stand home t g (bucket_folder i.cache i.entry.key) front folder_lies)
      ∙ ap Ok (sym (one_behind home front name))

  -- the tree with the line
  abbrev done : Tree
  done = put made (home ++ bucket_names i.entry.key) (File (bytes_of (look made (home ++ bucket_names i.entry.key)) ++ take (length (bucket_line i)) (bucket_line i)))

  appended : apply made (steps.Append (bucket_path i.cache i.entry.key) (bucket_line i)) Plain ≡ (answers.Took (length (bucket_line i)), done)
  appended = search (rules, appends, suits, lies, made_ground, led)

  done_rooted : Rooted done
  done_rooted = outcome_rooted made done (steps.Append (bucket_path i.cache i.entry.key) (bucket_line i)) Plain (answers.Took (length (bucket_line i))) made_ground.rooted appended

  spares : Spares home t done
  spares q temporary e =
      let folders = dirs_spare (Some home) q temporary t (bucket_folder i.cache i.entry.key) g.placed (is_for home (bucket_folder i.cache i.entry.key) front Way folder_lies) e in
      let same = ap (λ (r : PlainAnswer × Tree). r.1) (makes_dirs home t g (bucket_folder i.cache i.entry.key) front folder_lies) in
      put_other (Some home) q temporary made Bucket (home ++ bucket_names i.entry.key) _ lies.kind (λ differ. absurd cc) (ap (λ x. look x q) (sym same) ∙ folders)

  is_recorded : Plays (Inserted i.reply) done (recorded i)
  is_recorded =
      let path = bucket_path i.cache i.entry.key in
      let names = home ++ bucket_names i.entry.key in
      let bytes = bytes_of (look made (home ++ bucket_names i.entry.key)) ++ take (length (bucket_line i)) (bucket_line i) in
      let there : look done (home ++ bucket_names i.entry.key) ≡ Some (File bytes) = look_own made (home ++ bucket_names i.entry.key) (File bytes) in
      let over_now = ends (Inserted i.reply) done i.reply (refl, spares) in
      cond_leads (Plays (Inserted i.reply) done) i.durable _ _
      (λ durable.
      goes (Inserted i.reply) done done (doing (sync_file path) (sync_up (bucket_folders i.cache i.entry.key) (over i.reply))) (steps.SyncFile path) answers.Done refl
      (syncs_file done path names bytes (place_at done path names (File bytes) done_rooted lies.named there) there) tt
      (syncs (Inserted i.reply) done (over i.reply) (bucket_folders i.cache i.entry.key) (synced_folders i.cache home is i.entry.key done (File bytes) done_rooted there) over_now))
      (λ plain. over_now)

  pub insertion_ends : Plays (Inserted i.reply) t (doing (make_folder (bucket_folder i.cache i.entry.key)) (appending i))
  insertion_ends =
      let path = bucket_path i.cache i.entry.key in
      goes (Inserted i.reply) t made (doing (make_folder (bucket_folder i.cache i.entry.key)) (appending i)) (steps.MakeDirs (bucket_folder i.cache i.entry.key)) answers.Done refl
      (makes_dirs home t g (bucket_folder i.cache i.entry.key) front folder_lies) tt
      (goes (Inserted i.reply) made done (appending i) (steps.Append path (bucket_line i)) (answers.Took (length (bucket_line i))) refl appended (omega arith)
      (cond_leads (Plays (Inserted i.reply) done) (nat_le (length (bucket_line i)) (length (bucket_line i))) (recorded i) (fails faults.ShortAppend)
      (λ whole. is_recorded)
      (λ short. let differ : true ≡ false = sym (le-leb (length (bucket_line i)) (length (bucket_line i)) (omega arith)) ∙ short in absurd cc)))

  by_cause : (cause : Option SerdeCause) → Plays (Inserted (unless_unwritable i.reply cause)) t (unless_refused i cause)
  by_cause None = insertion_ends
  by_cause (Some cause) = ends (Inserted (unless_unwritable i.reply (Some cause))) t (Refused (SerdeError cause [])) (refl, λ q temporary e. e)

  -- so does an insertion, or its entry can't be written
  pub inserts_so : Plays (Inserted (insertion_reply i)) t (insert i)
  inserts_so = by_cause (refused_cause i)
