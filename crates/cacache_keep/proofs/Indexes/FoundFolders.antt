-- The folders that hold the paths of buckets, by their texts.
-- The names of a key's bucket are hex digits.
use Rattle.std.proofs.{Common.{◌≡◌, ℕ, suc, List, [], ◌∷◌, ◌++◌, Bool, true, false, cond, Option, Some, Ok, length, map, filter, refl, sym, ap, subst, ◌∙◌, arith, append_assoc, eqb-true, ◌<◌, ◌/◌, ◌%◌, zero, take, drop, slice_index, length-drop}, lemmas.{Bool.{and_parts, and_from, eq-eqb}, List.{length-take-le, Folds.{list_any_at}}}, ByRecursion.{All-append}}
use Rattle.std.specs.{List.{AllByRecursion, flat_map, list_all, list_any}, Prelude.{IfOk, not}}
use Rattle.cacache_core.specs.{Paths.{Names, names_of, home_of, IsProperName, index_area, join}, Laws.{IsKeyDigest}}
use Rattle.cacache_store.specs.declared.store.{answer.Name.{Name}, log.LogItem.{LogItem}}
use Rattle.cacache_value.specs.Kinds.{Bucket, path_kind}
use Rattle.cacache_laws.{specs.trees.Temporary.{is_file}, proofs.trees.Covering.{named_on}}
use Rattle.cacache_keep.specs.{Buckets.{FindsBuckets, Listed, ListsParts, belongs, index_area_in, is_folder, is_hex_digit, is_hex_name, parts_in}, Rewriting.{folder_of}}
use Rattle.cacache_keep.proofs.Indexes.{FoundBuckets.{InIndex, area_named, bucket_kind, longer, AreBucketNames}, ParentTexts.{EndsHex, digits_end, digits_proper, folder_is, joined_ends}}
use Rattle.cacache_disk.proofs.Roots.{same_folder}
use Rattle.base64.specs.GeneralPurpose.{IsBytes}
use Rattle.hex.{specs.Hex.{encode_with, encode_lower, lower_digits}, proofs.HexLemmas.{length-encode_with}}

-- ---- hex names

-- a name of hex digits
abbrev IsHex : List ℕ → Type 0
IsHex name = (list_all is_hex_digit name ≡ true) × EndsHex name × IsProperName name

hex_of : (digits : ℕ) (name : List ℕ) → length name ≡ suc digits → list_all is_hex_digit name ≡ true → IsHex name
hex_of digits [] size all = absurd (omega (arith, size))
hex_of digits (c ∷ x) size all = (all, digits_end c x all, digits_proper c x all)

hex_name : (digits : ℕ) (n : Name) → is_hex_name (suc digits) n ≡ true → IsHex n.name
hex_name digits n is = let both = and_parts _ _ is in hex_of digits n.name (eqb-true (length n.name) (suc digits) both.0) both.1

-- ---- parts

module _ (P Q : List ℕ → Type 0) (last : Bool) (each : (f : List ℕ) (n : Name) → P f → belongs last n ≡ true → Q (join f n.name)) where
  parts_of : (f : List ℕ) (ns : List Name) → P f → AllByRecursion Q (map (λ (n : Name). join f n.name) (filter (belongs last) ns))
  parts_of f [] here = tt
  parts_of f (n ∷ ns) here = by (belongs last n) refl (parts_of f ns here)
    where
      by : (b : Bool) → belongs last n ≡ b → AllByRecursion Q (map (λ (n : Name). join f n.name) (filter (belongs last) ns))
          → AllByRecursion Q (map (λ (n : Name). join f n.name) (cond b (n ∷ filter (belongs last) ns) (filter (belongs last) ns)))
      by true is rest = (each f n here is, rest)
      by false is rest = rest

  all_parts : (listings : List Listed) → AllByRecursion P (map (λ (l : Listed). l.0) listings) → AllByRecursion Q (flat_map (parts_in last) listings)
  all_parts [] all = tt
  all_parts (l ∷ listings) all = All-append Q (parts_in last l) (flat_map (parts_in last) listings) (parts_of l.0 l.1 all.0) (all_parts listings all.1)

  -- what holds of the folders' paths gives what holds of the paths found there
  parts_have : (folders paths : List (List ℕ)) (old new : Option (List LogItem)) → ListsParts last folders paths old new → AllByRecursion P folders → AllByRecursion Q paths
  parts_have folders paths old new p all = subst (AllByRecursion Q) (sym p.which) (all_parts p.listings (subst (AllByRecursion P) (sym p.each) all))

-- ---- buckets

abbrev LiesHex : Names → ℕ → List ℕ → Type 0
LiesHex home depth f = InIndex home depth f × EndsHex f

-- the text of the folder that holds what is at the path names it
abbrev pub FolderNamed : List ℕ → Type 0
FolderNamed p = (folder : Names) (name : List ℕ) → names_of p ≡ Ok (folder ++ name ∷ []) → names_of (folder_of p) ≡ Ok folder

module _ (home : Names) where
  -- one name more
  name_lies : (depth : ℕ) (f : List ℕ) (n : Name) → InIndex home depth f → IsHex n.name → LiesHex home (suc depth) (join f n.name)
  name_lies depth f n (ns, named, size) hex =
      ((ns ++ n.name ∷ [], named_on f (home ++ index_area ∷ ns) n.name named hex.2 ∙ ap Ok (append_assoc home (index_area ∷ ns) (n.name ∷ [])), longer ns n.name depth size), joined_ends f n.name hex.1)

  folder_part : (depth : ℕ) (f : List ℕ) (n : Name) → InIndex home depth f → belongs false n ≡ true → LiesHex home (suc depth) (join f n.name)
  folder_part depth f n lies is = name_lies depth f n lies (hex_name 1 n (and_parts (is_folder n.kind) (is_hex_name 2 n) is).1)

  abbrev IsBucketPath : List ℕ → Type 0
  IsBucketPath p = FolderNamed p × InIndex home 3 p

  bucket_part : (f : List ℕ) (n : Name) → LiesHex home 2 f → belongs true n ≡ true → IsBucketPath (join f n.name)
  bucket_part f n (lies, ends) is =
      let hex = hex_name 35 n (and_parts (is_file n.kind) (is_hex_name 36 n) is).1 in (
        λ folder name e.
            let both : Ok ((home ++ index_area ∷ lies.0) ++ n.name ∷ []) ≡ Ok (folder ++ name ∷ []) = sym (named_on f (home ++ index_area ∷ lies.0) n.name lies.1 hex.2) ∙ e in
            let same : (home ++ index_area ∷ lies.0) ++ n.name ∷ [] ≡ folder ++ name ∷ [] = cc in
            ap names_of (folder_is f n.name ends hex.1 hex.0) ∙ lies.1 ∙ ap Ok (same_folder (home ++ index_area ∷ lies.0) folder n.name name same),
        (name_lies 2 f n lies hex).0,
      )

  paths_are : (cache : List ℕ) (tops paths : List (List ℕ)) (old new : Option (List LogItem)) → home_of cache ≡ Some home → FindsBuckets cache tops paths old new → AllByRecursion IsBucketPath paths
  paths_are cache tops paths old new is (lows, one, two, a, b, c) =
      parts_have (LiesHex home 2) IsBucketPath true bucket_part lows paths two new c
      (parts_have (InIndex home 1) (LiesHex home 2) false (folder_part 1) tops lows one two b
      (parts_have (InIndex home 0) (InIndex home 1) false (λ f n lies is. (folder_part 0 f n lies is).0) (index_area_in cache ∷ []) tops old one a (([], area_named cache home is, refl), tt)))

each_of : (P Q : List ℕ → Type 0) → ((p : List ℕ) → P p → Q p) → (paths : List (List ℕ)) → AllByRecursion P paths → AllByRecursion Q paths
each_of P Q so [] all = tt
each_of P Q so (p ∷ paths) all = (so p all.0, each_of P Q so paths all.1)

-- so it is for each bucket that is found
pub folders_named : (cache : List ℕ) (home : Names) (tops paths : List (List ℕ)) (old new : Option (List LogItem)) → home_of cache ≡ Some home → FindsBuckets cache tops paths old new → AllByRecursion FolderNamed paths
folders_named cache home tops paths old new is finds = each_of (IsBucketPath home) FolderNamed (λ p both. both.0) paths (paths_are home cache tops paths old new is finds)

-- each has the path of a bucket
abbrev pub HasBucketName : Names → List ℕ → Type 0
HasBucketName home p = IfOk (names_of p) (λ names. path_kind (Some home) names ≡ Bucket)

pub paths_lie : (cache : List ℕ) (home : Names) (tops paths : List (List ℕ)) (old new : Option (List LogItem)) → home_of cache ≡ Some home → FindsBuckets cache tops paths old new → AllByRecursion (HasBucketName home) paths
paths_lie cache home tops paths old new is finds =
    each_of (IsBucketPath home) (HasBucketName home)
    (λ p both. subst (λ r. IfOk r (λ names. path_kind (Some home) names ≡ Bucket)) (sym both.1.1) (bucket_kind home both.1.0 both.1.2)) paths (paths_are home cache tops paths old new is finds)

-- ---- digits

digit_is : (d : ℕ) → d < 16 → is_hex_digit (slice_index lower_digits d) ≡ true
digit_is d small = by (is_hex_digit (slice_index lower_digits d)) (λ e. list_any_at (λ c. not (is_hex_digit c)) lower_digits d 0 small e)
  where
    by : (b : Bool) → (not b ≡ true → list_any (λ c. not (is_hex_digit c)) lower_digits ≡ true) → b ≡ true
    by true h = refl
    by false h = absurd (let wrong : false ≡ true = h refl in cc)

digits_are : (d : List ℕ) → IsBytes d → list_all is_hex_digit (encode_lower d) ≡ true
unfolding encode_with
digits_are [] bytes = refl
digits_are (b ∷ d) bytes = and_from _ _ (digit_is (b / 16) (omega (arith, bytes 0))) (and_from _ _ (digit_is (b % 16) (omega arith)) (digits_are d (λ k. bytes (suc k))))

take_digits : (n : ℕ) (x : List ℕ) → list_all is_hex_digit x ≡ true → list_all is_hex_digit (take n x) ≡ true
take_digits (suc n) (c ∷ x) h = let p = and_parts _ _ h in and_from _ _ p.0 (take_digits n x p.1)
take_digits _ x h = refl

drop_digits : (n : ℕ) (x : List ℕ) → list_all is_hex_digit x ≡ true → list_all is_hex_digit (drop n x) ≡ true
drop_digits zero x h = h
drop_digits (suc n) [] h = refl
drop_digits (suc n) (c ∷ x) h = drop_digits n x (and_parts _ _ h).1

-- ---- names

pub bucket_names_hex : (digest : List ℕ) → IsKeyDigest digest → AreBucketNames (take 2 (encode_lower digest)) (take 2 (drop 2 (encode_lower digest))) (drop 4 (encode_lower digest))
bucket_names_hex digest d =
    let x = encode_lower digest in
    let all = digits_are digest d.bytes in
    let size : length (encode_lower digest) ≡ 40 = omega (arith, length-encode_with lower_digits digest, d.size) in
    let rest : length (drop 2 (encode_lower digest)) ≡ 38 = omega (arith, length-drop 2 (encode_lower digest), size) in
    let one : length (take 2 (encode_lower digest)) ≡ 2 = length-take-le 2 (encode_lower digest) (omega (arith, size)) in
    let two : length (take 2 (drop 2 (encode_lower digest))) ≡ 2 = length-take-le 2 (drop 2 (encode_lower digest)) (omega (arith, rest)) in
    let three : length (drop 4 (encode_lower digest)) ≡ 36 = omega (arith, length-drop 4 (encode_lower digest), size) in (
      and_from _ _ (eq-eqb (length (take 2 (encode_lower digest))) 2 one) (take_digits 2 (encode_lower digest) all),
      and_from _ _ (eq-eqb (length (take 2 (drop 2 (encode_lower digest)))) 2 two) (take_digits 2 (drop 2 (encode_lower digest)) (drop_digits 2 (encode_lower digest) all)),
      and_from _ _ (eq-eqb (length (drop 4 (encode_lower digest))) 36 three) (drop_digits 4 (encode_lower digest) all),
    )
