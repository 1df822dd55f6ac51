-- The paths of contents and temporary files, and how a temporary file is made.
use Rattle.std.{proofs.Common.{◌≡◌, ℕ, List, [], ◌∷◌, ◌++◌, None, Some, Ok, length, refl, sym, ap, ◌∙◌, arith}, specs.{Prelude.{All, codes}, Int.{to_be_bytes, w64}}}
use Rattle.hex.specs.Hex.{encode_lower}
use Rattle.cacache_core.specs.{declared.integrity.digest.Hash.{Hash}, Integrity.{IsHash}, Paths.{Names, names_of, IsProperName, home_of, content_names, folder_names, temp_names}}
use Rattle.cacache_core.proofs.ProperNames.{names_are_proper}
use Rattle.cacache_store.specs.{declared.store.plain.PlainTemp.{PlainTemp}, Plain.{PlainAnswer}}
use Rattle.cacache_store.specs.declared.store.step.Step.TheVariants as steps
use Rattle.cacache_store.specs.declared.store.answer.Answer.TheVariants as answers
use Rattle.cacache_disk.specs.{declared.{luck.Luck.TheVariants.{Plain}, node.Node.{Node, TheVariants.{File}}}, Tree.{Tree, look, put, Rooted}, Apply.{apply, make_some, made_temp}}
use Rattle.cacache_calls.specs.Steps.{temp_path, temp_folder, content_path, content_folder, content_folders}
use Rattle.cacache_value.{specs.Kinds.{Content, Temporary, Way, path_kind}, proofs.PathKinds.{proper_folder}}
use Rattle.cacache_laws.proofs.{Putting.WrittenFiles.{Stands}, Sure.{SureInserts.{one_behind}, SureSpares.{dirs_spare}, SureRuns.{Ground, Lies, SyncsAll, goes_to, joined_lies, is_for, makes_dirs, dirs_ground, dirs_stand, creates, look_own, syncs_folders}}, trees.Covering.{home_named}}

-- ---- paths

pub content_lies : (cache : List ℕ) (home : Names) → home_of cache ≡ Some home → (h : Hash) (hs : List Hash) → IsHash h → Lies home (content_path cache (h ∷ hs)) (content_names h) Content
unfolding content_path
content_lies cache home is h hs hash = joined_lies cache home (content_names h) Content is (names_are_proper.contents h hash) (omega arith) refl

module _ (cache : List ℕ) (home : Names) (is : names_of cache ≡ Ok home) where
  temp_proper : (number : ℕ) → All IsProperName (temp_names number)
  temp_proper number = names_are_proper.temporaries number

  pub temp_lies : (number : ℕ) → Lies home (temp_path cache number) (temp_names number) Temporary
  unfolding temp_path
  temp_lies number = joined_lies cache home (temp_names number) Temporary (home_named cache home is) (temp_proper number) (omega arith) refl

  pub temp_folder_lies : Lies home (temp_folder cache) (folder_names (temp_names 0)) Way
  unfolding temp_folder
  temp_folder_lies = joined_lies cache home (folder_names (temp_names 0)) Way (home_named cache home is) (proper_folder (temp_names 0) (temp_proper 0)) (omega arith) refl

  module _ (h : Hash) (hs : List Hash) (hash : IsHash h) where
    pub content_folder_lies : Lies home (content_folder cache (h ∷ hs)) (folder_names (content_names h)) Way
    unfolding content_folder
    content_folder_lies = joined_lies cache home (folder_names (content_names h)) Way (home_named cache home is) (proper_folder (content_names h) (names_are_proper.contents h hash)) (omega arith) refl

    pub content_synced : (t : Tree) (node : Node) → Rooted t → look t (home ++ content_names h) ≡ Some node → SyncsAll t (content_folders cache (h ∷ hs))
    unfolding content_folders
    content_synced t node rooted there = syncs_folders t cache home (content_names h) node rooted is (names_are_proper.contents h hash) there

-- a temporary file's path is one
pub own_temporary_at : (cache : List ℕ) (home : Names) (is : names_of cache ≡ Ok home) (number : ℕ) → path_kind (Some home) (home ++ temp_names number) ≡ Temporary
own_temporary_at cache home is number = (temp_lies cache home is number).kind

-- ---- a new temporary file

module _ (cache : List ℕ) (home : Names) (is : names_of cache ≡ Ok home) (number : ℕ) (t : Tree) (g : Ground home t) (none : look t (home ++ temp_names number) ≡ None) where
  -- the tree with the folder of temporary files
  abbrev pub with_folder : Tree
  with_folder = make_some t [] (home ++ folder_names (temp_names 0)) (length (home ++ folder_names (temp_names 0)))

  folder_ground : Ground home with_folder
  folder_ground = dirs_ground home t g (temp_folder cache) (folder_names (temp_names 0)) (temp_folder_lies cache home is)

  still_none : look with_folder (home ++ temp_names number) ≡ None
  still_none =
      let spared = dirs_spare (Some home) (home ++ temp_names number) (own_temporary_at cache home is number) t (temp_folder cache) g.placed (is_for home (temp_folder cache) (folder_names (temp_names 0)) Way (temp_folder_lies cache home is)) none in
      ap (λ (r : PlainAnswer × Tree). look r.1 (home ++ temp_names number)) (sym (makes_dirs home t g (temp_folder cache) (folder_names (temp_names 0)) (temp_folder_lies cache home is))) ∙ spared

  abbrev name : List ℕ
  name = codes ".tmp" ++ encode_lower (to_be_bytes w64 number)

  -- the tree with the empty temporary file
  abbrev pub with_file : Tree
  with_file = put with_folder (home ++ temp_names number) (File [])

  pub made_file : apply with_folder (steps.CreateTemp (temp_path cache number)) Plain ≡ (answers.Temp (made_temp (temp_path cache number)), with_file)
  made_file =
      let seam = one_behind home (folder_names (temp_names 0)) name in
      let made = creates with_folder (temp_path cache number) (home ++ folder_names (temp_names 0)) name folder_ground.rooted ((temp_lies cache home is number).named ∙ ap Ok seam)
      (dirs_stand home t g (temp_folder cache) (folder_names (temp_names 0)) (temp_folder_lies cache home is)) (ap (look with_folder) (sym seam) ∙ still_none) in
      made ∙ ap (λ n. (answers.Temp (made_temp (temp_path cache number)), put with_folder n (File []))) (sym seam)

  pub file_ground : Ground home with_file
  file_ground =
      goes_to home with_folder with_file (steps.CreateTemp (temp_path cache number)) (answers.Temp (made_temp (temp_path cache number))) folder_ground
      (is_for home (temp_path cache number) (temp_names number) Temporary (temp_lies cache home is number)) made_file

  -- a file at this path of these bytes
  abbrev pub full : List ℕ → PlainTemp
  full bytes = record { path = temp_path cache number; bytes = Some bytes }

  pub stands : (bytes : List ℕ) → Stands with_file (full bytes)
  stands bytes = record {
    names = home ++ temp_names number;
    bytes = bytes;
    was = [];
    known_to_be = refl;
    named = (temp_lies cache home is number).named;
    there = look_own with_folder (home ++ temp_names number) (File []);
  }
