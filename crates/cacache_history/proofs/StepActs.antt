-- Which acts a step may have; each step that a sound call may make is proper.
use Rattle.std.proofs.Common.{◌≡◌, ℕ, Option, None, Some, Result, Ok, Err, take, refl, arith, rules, Bool, true, false, ◌||◌, cond, List, ◌∷◌, bytes_eq, sym, subst}
use Rattle.std.specs.Prelude.{IfOk, []}
use Rattle.cacache_core.specs.{declared.{errors.Fault.{Fault}, integrity.algorithm.Algorithm.{Algorithm}}, Paths.{Names, names_of, home_of}, Integrity.{digest, hash_of, integrity_under}}
use Rattle.cacache_core.proofs.PathLemmas.{keys_have_digests}
use Rattle.cacache_store.specs.{declared.store.{step.Step.TheVariants.{MakeDirs, Persist, Append, Symlink, RemoveFile, RemoveDir}, answer.Answer.TheVariants.{Done}}, Plain.{PlainStep, PlainAnswer}}
use Rattle.cacache_disk.{specs.declared.luck.Luck.{Luck}, proofs.Maps.{same_path-true}}
use Rattle.cacache_entry.specs.Bucket.{entries_of}
use Rattle.cacache_value.specs.{Acts.{Act, Nothing, PutBytes, PutLink, AddEntries, Drop, MakeFolders, DropFolder, act_at, act_with, act_if_done, folders_left, amount_left, act_of}, Kinds.{Content, Bucket, Temporary, Way, Elsewhere, kind_beside, path_kind, IsFor}, Placed.{IsEntryLine, Proper, LieApart}}
use Rattle.cacache_value.proofs.PathKinds.{paths_are_for, folders_are_ways}
use Rattle.cacache_calls.specs.{Steps.{temp_path, temp_folder, content_path, content_folder, bucket_path, bucket_folder}, State.{State}, Table.{wants}}
use Rattle.cacache_calls.proofs.Sound.{steps_allowed}
use Rattle.cacache_history.specs.Setup.{Setup, call_site, home, are_apart, apart_from_home, may_take, may_export, same_place, has_file, is_outside}
use Rattle.cacache_history.proofs.Contents.Digests.{digest_hash}
use Rattle.cacache_calls.specs.Sound as calls

-- the step's kind has this act, at the names of its path
abbrev pub MayAct : Act → PlainStep → Type 0
MayAct Nothing step = Unit {0}
MayAct (MakeFolders names count) (MakeDirs p) = names_of p ≡ Ok names
MayAct (PutBytes names bytes) (Persist f p) = (names_of p ≡ Ok names) × (f.bytes ≡ Some bytes)
MayAct (AddEntries names new) (Append p bytes) = (names_of p ≡ Ok names) × ((count : ℕ) × (new ≡ entries_of (take count bytes)))
MayAct (PutLink names target) (Symlink to p) = (names_of p ≡ Ok names) × (to ≡ target)
MayAct (Drop names) (RemoveFile p) = names_of p ≡ Ok names
MayAct (DropFolder names) (RemoveDir p) = names_of p ≡ Ok names
MayAct act step = ⊥

module _ (step : PlainStep) where
  at_names : (r : Result Names Fault) (act : Names → Act) → ((names : Names) → r ≡ Ok names → MayAct (act names) step) → MayAct (act_at r act) step
  at_names (Ok names) act h = h names refl
  at_names (Err fault) act h = tt

  with_known : {A : Type 0} (o : Option A) (act : A → Act) → ((x : A) → o ≡ Some x → MayAct (act x) step) → MayAct (act_with o act) step
  with_known None act h = tt
  with_known (Some x) act h = h x refl

  if_done : (a : PlainAnswer) (act : Act) → MayAct act step → MayAct (act_if_done a act) step
  if_done Done act h = h
  if_done a act h = tt

pub acts_so : (step : PlainStep) (luck : Luck) (a : PlainAnswer) → MayAct (act_of step luck a) step
acts_so (MakeDirs p) luck a = at_names (MakeDirs p) (names_of p) _ (λ names is. with_known (MakeDirs p) (folders_left names luck a) (MakeFolders names) (λ count left. is))
acts_so (Persist f p) luck a = if_done (Persist f p) a _ (at_names (Persist f p) (names_of p) _ (λ names is. with_known (Persist f p) f.bytes (PutBytes names) (λ bytes has. (is, has))))
acts_so (Append p bytes) luck a = at_names (Append p bytes) (names_of p) _ (λ names is. with_known (Append p bytes) (amount_left luck a) _ (λ count left. (is, (count, refl))))
acts_so (Symlink target p) luck a = if_done (Symlink target p) a _ (at_names (Symlink target p) (names_of p) _ (λ names is. (is, refl)))
acts_so (RemoveFile p) luck a = if_done (RemoveFile p) a _ (at_names (RemoveFile p) (names_of p) Drop (λ names is. is))
acts_so (RemoveDir p) luck a = if_done (RemoveDir p) a _ (at_names (RemoveDir p) (names_of p) DropFolder (λ names is. is))
acts_so step luck a = tt

-- ---- exports and links

beside_apart : (folder path : Names) → are_apart folder path ≡ true → kind_beside folder path ≡ Elsewhere
beside_apart [] path e = absurd cc
beside_apart (n ∷ ns) [] e = absurd cc
beside_apart (n ∷ ns) (m ∷ ms) e = by (bytes_eq n m) (beside_apart ns ms) e
  where
    by : (b : Bool) → (are_apart ns ms ≡ true → kind_beside ns ms ≡ Elsewhere) → cond b (are_apart ns ms) true ≡ true → cond b (kind_beside ns ms) Elsewhere ≡ Elsewhere
    by true rest is = rest is
    by false rest is = refl

home_apart : (h : Option Names) (path : Names) → apart_from_home h path ≡ true → path_kind h path ≡ Elsewhere
home_apart h path e = grind (arith, beside_apart)

taken_elsewhere : (s : Setup) (r : Result Names Fault) → may_take s r ≡ true → IfOk r (λ path. path_kind (home s) path ≡ Elsewhere)
taken_elsewhere s r e = grind (arith, home_apart)

-- a path that an export may take lies elsewhere
pub export_elsewhere : (s : Setup) (path : List ℕ) → may_export s path ≡ true → IsFor (home s) Elsewhere path
export_elsewhere s path e = taken_elsewhere s (names_of path) e

same_kind : (h : Option Names) (a b : Result Names Fault) → same_place a b ≡ true
    → IfOk a (λ path. path_kind h path ≡ Elsewhere) → IfOk b (λ path. path_kind h path ≡ Elsewhere)
same_kind h (Ok a) (Ok b) e k = subst (λ p. path_kind h p ≡ Elsewhere) (same_path-true a b e) k
same_kind h (Ok a) (Err fault) e k = tt
same_kind h (Err fault) b e k = absurd cc

among_elsewhere : (h : Option Names) (files : List (List ℕ × List ℕ)) (path : List ℕ) → LieApart h files → has_file files path ≡ true → IsFor h Elsewhere path
among_elsewhere h [] path apart e = absurd cc
among_elsewhere h (file ∷ files) path apart e = by (same_place (names_of file.0) (names_of path)) refl (among_elsewhere h files path apart.1) e
  where
    by : (b : Bool) → same_place (names_of file.0) (names_of path) ≡ b → (has_file files path ≡ true → IsFor h Elsewhere path) → (b || has_file files path) ≡ true → IsFor h Elsewhere path
    by true here rest is = same_kind h (names_of file.0) (names_of path) here apart.0
    by false here rest is = rest is

-- ---- places

module _ (cache : List ℕ) where
  temp_for : (n : ℕ) → IsFor (home_of cache) Temporary (temp_path cache n)
  unfolding temp_path
  temp_for n = (paths_are_for cache).temporary n

  temps_for : IsFor (home_of cache) Way (temp_folder cache)
  unfolding temp_folder
  temps_for = (folders_are_ways cache).temporary 0

  content_for : (a : Algorithm) (bytes : List ℕ) → IsFor (home_of cache) Content (content_path cache (integrity_under a bytes))
  unfolding content_path
  content_for a bytes = (paths_are_for cache).content (hash_of a (digest a bytes)) (digest_hash a bytes)

  contents_for : (a : Algorithm) (bytes : List ℕ) → IsFor (home_of cache) Way (content_folder cache (integrity_under a bytes))
  unfolding content_folder
  contents_for a bytes = (folders_are_ways cache).content (hash_of a (digest a bytes)) (digest_hash a bytes)

  bucket_for : (key : List ℕ) → IsFor (home_of cache) Bucket (bucket_path cache key)
  unfolding bucket_path
  bucket_for key = (paths_are_for cache).bucket _ (keys_have_digests key)

  buckets_for : (key : List ℕ) → IsFor (home_of cache) Way (bucket_folder cache key)
  unfolding bucket_folder
  buckets_for key = (folders_are_ways cache).bucket _ (keys_have_digests key)

-- ---- steps

module _ (s : Setup) (n : ℕ) (apart : LieApart (home s) s.outside) where
  folder_for : (p : List ℕ) → calls.IsFolder (call_site s n) p → IsFor (home s) Way p
  folder_for p h = grind (arith, temps_for, contents_for, buckets_for)

  content_of : (p : List ℕ) → calls.IsContent (call_site s n) p → IsFor (home s) Content p
  content_of p c = subst (IsFor (home s) Content) (sym c.2) (content_for s.cache c.0 c.1)

  temp_of : (p : List ℕ) → p ≡ temp_path s.cache n → IsFor (home s) Temporary p
  temp_of p e = subst (IsFor (home s) Temporary) (sym e) (temp_for s.cache n)

  line_of : (p line : List ℕ) → calls.IsLine (call_site s n) p line → IsFor (home s) Bucket p × IsEntryLine line
  line_of p line l = search (rules, bucket_for)

  allowed_proper : (step : PlainStep) → calls.Allowed (call_site s n) (may_export s) (is_outside s) step → Proper (home s) step
  allowed_proper step a = grind (arith, folder_for, temp_of, content_of, line_of, among_elsewhere, export_elsewhere)

  -- the step that a sound state wants
  pub sound_proper : (state : State) (step : PlainStep) → calls.Sound (call_site s n) (may_export s) (is_outside s) state
      → wants state ≡ Some step → Proper (home s) step
  sound_proper state step sound w = allowed_proper step (steps_allowed (call_site s n) (may_export s) (is_outside s) state step sound w)
