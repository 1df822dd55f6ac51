-- Paths as texts: below one cache, equal paths have equal names.
use Rattle.std.proofs.{Common.{◌≡◌, ◌≢◌, ℕ, ◌<◌, ◌≤◌, ◌+◌, ◌-◌, ◌^◌, ◌==◌, Bool, true, false, cond, List, ◌∷◌, ◌++◌, length, get_or, slice_index, take, drop, codes, refl, sym, ap, ap₂, ◌∙◌, subst, arith, append_assoc, append-nil, length-append}, lemmas.{Bool.{ne_eqb}, List.{append_cancel_left, get_or-append-add, Elements.{All-head, All-tail}, Folds.{list_any_at}}, Nat.{from_be_bytes-to_be_bytes_8}}}
use Rattle.std.specs.{Prelude.{All, []}, Int.{w64, to_be_bytes, from_be_bytes}}
use Rattle.hex.specs.Hex.{encode_lower}
use Rattle.cacache_core.proofs.{PathLemmas.{same_bytes}, ProperNames.{proper_content_folder, proper_content, proper_bucket_folder, proper_bucket, proper_temp_folder, proper_temp, be_bytes, long_digits}}
use Rattle.cacache_core.specs.{declared.integrity.{algorithm.Algorithm.{Algorithm, TheVariants.{Sha1, Sha256, Sha384, Sha512}}, digest.Hash.{Hash}}, Integrity.{IsHash, hash_of}, Laws.{IsKeyDigest, PathsDiffer, JoinedTextsSpell}, Paths.{ends_name, IsProperName, join, joined, slashed, cut_digits, content_area, index_area, temp_area, content_names, bucket_names_of, temp_names}, Texts.{name_of}}

-- ---- names, each after a slash

-- a text to which a further name is joined by a slash
pub record IsOpen (p : List ℕ) : Type 0 where
  pub some : 0 < length p
  pub no_slash : slice_index p (length p - 1) ≢ 47

-- a proper name is such a text
pub open_name : (n : List ℕ) → IsProperName n → IsOpen n
open_name [] proper = absurd (let clash : false ≡ true = proper.0 in cc)
open_name (c ∷ n) proper = record {
  some = omega arith;
  no_slash
      = λ e. let slash : ends_name (slice_index (c ∷ n) (length (c ∷ n) - 1)) ≡ true = rw e refl in
      let clash : false ≡ true = sym proper.2 ∙ list_any_at ends_name (c ∷ n) (length (c ∷ n) - 1) 0 (omega arith) slash in cc;
}

pub open_after : (p n : List ℕ) → IsOpen n → IsOpen (p ++ n)
open_after p n is = record {
  some = omega (arith, length-append p n, is.some);
  no_slash
      = let place : length (p ++ n) - 1 ≡ length p + (length n - 1) = omega (arith, length-append p n, is.some) in
      λ e. is.no_slash (sym (get_or-append-add p n (length n - 1) 0) ∙ ap (λ (k : ℕ). get_or (p ++ n) k 0) (sym place) ∙ e);
}

pub open_below : (p n : List ℕ) → IsOpen n → IsOpen (p ++ 47 ∷ n)
open_below p n is = subst IsOpen (append_assoc p (47 ∷ []) n) (open_after (p ++ 47 ∷ []) n is)

pub join_open : (p n : List ℕ) → IsOpen p → join p n ≡ p ++ 47 ∷ n
unfolding join
join_open p n is =
    rw (ne_eqb (length p) 0 (λ e. absurd (omega (arith, is.some))), ne_eqb (slice_index p (length p - 1)) 47 is.no_slash) refl

pub joined_open : (p : List ℕ) (ns : List (List ℕ)) → IsOpen p → All IsProperName ns → joined p ns ≡ p ++ slashed ns
joined_open p [] is all = sym (append-nil p)
joined_open p (n ∷ ns) is all =
    ap (λ (q : List ℕ). joined q ns) (join_open p n is)
    ∙ joined_open (p ++ 47 ∷ n) ns (open_below p n (open_name n (All-head IsProperName n ns all))) (All-tail IsProperName n ns all)
    ∙ append_assoc p (47 ∷ n) (slashed ns)

-- the part of a path's text before the first name joined to it
lead : List ℕ → List ℕ
lead p = cond (length p == 0) [] (cond (slice_index p (length p - 1) == 47) p (p ++ 47 ∷ []))

spread : (a b : Bool) (p n : List ℕ) → cond a n (cond b (p ++ n) (p ++ 47 ∷ n)) ≡ cond a [] (cond b p (p ++ 47 ∷ [])) ++ n
spread true b p n = refl
spread false true p n = refl
spread false false p n = sym (append_assoc p (47 ∷ []) n)

join_lead : (p n : List ℕ) → join p n ≡ lead p ++ n
unfolding join lead
join_lead p n = spread (length p == 0) (slice_index p (length p - 1) == 47) p n

joined_lead : (p n : List ℕ) (ns : List (List ℕ)) → IsProperName n → All IsProperName ns → joined p (n ∷ ns) ≡ (lead p ++ n) ++ slashed ns
joined_lead p n ns is all =
    ap (λ (q : List ℕ). joined q ns) (join_lead p n) ∙ joined_open (lead p ++ n) ns (open_after (lead p) n (open_name n is)) all

pub joined_texts_spell : JoinedTextsSpell
joined_texts_spell p n ns is all = joined_lead p n ns is all ∙ sym (ap (λ (q : List ℕ). q ++ slashed ns) (join_lead p n))

-- if two paths below one path are equal and share their first name, the texts of their other names are equal
same_below : (p n : List ℕ) (ns ms : List (List ℕ)) → IsProperName n → All IsProperName ns → All IsProperName ms
    → joined p (n ∷ ns) ≡ joined p (n ∷ ms) → slashed ns ≡ slashed ms
same_below p n ns ms is all every e =
    append_cancel_left (lead p ++ n) (slashed ns) (slashed ms) (sym (joined_lead p n ns is all) ∙ e ∙ joined_lead p n ms is every)

-- ---- digits

-- the digits, read from the text of the names that hold them
digits_in : List ℕ → List ℕ
digits_in t = take 2 (drop 1 t) ++ (take 2 (drop 4 t) ++ drop 7 t)

digits_in-cut : (h : List ℕ) → 4 < length h → digits_in (slashed (cut_digits h)) ≡ h
unfolding digits_in
digits_in-cut (a ∷ b ∷ c ∷ d ∷ h) long = ap (λ (t : List ℕ). a ∷ b ∷ c ∷ d ∷ t) (append-nil h)
digits_in-cut (a ∷ b ∷ c ∷ []) long = absurd (omega arith)
digits_in-cut (a ∷ b ∷ []) long = absurd (omega arith)
digits_in-cut (a ∷ []) long = absurd (omega arith)
digits_in-cut [] long = absurd (omega arith)

same_digits : (g h : List ℕ) → 4 < length g → 4 < length h → slashed (cut_digits g) ≡ slashed (cut_digits h) → g ≡ h
same_digits g h long long' e = sym (digits_in-cut g long) ∙ ap digits_in e ∙ digits_in-cut h long'

-- ---- contents

-- the algorithm, found by the fourth character of its name
abbrev by_digit : ℕ → Algorithm
by_digit n = cond (n == 49) Sha1 (cond (n == 50) Sha256 (cond (n == 51) Sha384 Sha512))

-- the algorithm whose name follows a slash in a text, and the text after that name
abbrev algorithm_in : List ℕ → Algorithm
algorithm_in t = by_digit (get_or t 4 0)

abbrev after_name : List ℕ → List ℕ
after_name t = drop (length (name_of (algorithm_in t)) + 1) t

algorithm_in-name : (a : Algorithm) (t : List ℕ) → algorithm_in (47 ∷ name_of a ++ t) ≡ a
algorithm_in-name Sha1 t = refl
algorithm_in-name Sha256 t = refl
algorithm_in-name Sha384 t = refl
algorithm_in-name Sha512 t = refl

after_name-name : (a : Algorithm) (t : List ℕ) → after_name (47 ∷ name_of a ++ t) ≡ t
after_name-name Sha1 t = refl
after_name-name Sha256 t = refl
after_name-name Sha384 t = refl
after_name-name Sha512 t = refl

-- the text of a content's names below the folder of contents
text_in : Hash → List ℕ
text_in h = slashed (name_of h.algorithm ∷ cut_digits (encode_lower h.digest))

same_hash : (h g : Hash) → IsHash h → IsHash g → text_in h ≡ text_in g → h ≡ g
unfolding text_in
same_hash h g p q e =
    let a : h.algorithm ≡ g.algorithm = sym (algorithm_in-name h.algorithm _) ∙ ap algorithm_in e ∙ algorithm_in-name g.algorithm _ in
    let cut : slashed (cut_digits (encode_lower h.digest)) ≡ slashed (cut_digits (encode_lower g.digest)) = sym (after_name-name h.algorithm _) ∙ ap after_name e ∙ after_name-name g.algorithm _ in
    ap₂ (λ (a : Algorithm) (d : List ℕ). hash_of a d) a
    (same_bytes h.digest g.digest p.bytes q.bytes
    (same_digits (encode_lower h.digest) (encode_lower g.digest) (long_digits h.digest p.long_enough) (long_digits g.digest q.long_enough) cut))

same_content : (cache : List ℕ) (h g : Hash) → IsHash h → IsHash g → joined cache (content_names h) ≡ joined cache (content_names g) → h ≡ g
unfolding text_in
same_content cache h g p q e =
    let hs = name_of h.algorithm ∷ cut_digits (encode_lower h.digest) in
    let gs = name_of g.algorithm ∷ cut_digits (encode_lower g.digest) in
    same_hash h g p q (same_below cache content_area hs gs proper_content_folder (proper_content h p) (proper_content g q) e)

-- ---- buckets

same_bucket : (cache d e : List ℕ) → IsKeyDigest d → IsKeyDigest e → joined cache (bucket_names_of d) ≡ joined cache (bucket_names_of e) → d ≡ e
same_bucket cache d e p q same =
    let cut = same_below cache index_area (cut_digits (encode_lower d)) (cut_digits (encode_lower e)) proper_bucket_folder (proper_bucket d p) (proper_bucket e q) same in
    same_bytes d e p.bytes q.bytes (same_digits _ _ (long_digits d (omega (arith, p.size))) (long_digits e (omega (arith, q.size))) cut)

-- ---- temporary files

-- a number's digits, read from the text of its name
digits_behind : List ℕ → List ℕ
digits_behind t = drop 5 t

digits_behind-name : (d : List ℕ) → digits_behind (slashed ((codes ".tmp" ++ d) ∷ [])) ≡ d
unfolding digits_behind
digits_behind-name d = append-nil d

same_temp : (cache : List ℕ) (n m : ℕ) → n < 2 ^ 64 → m < 2 ^ 64 → joined cache (temp_names n) ≡ joined cache (temp_names m) → n ≡ m
same_temp cache n m p q same =
    let a = to_be_bytes w64 n in
    let b = to_be_bytes w64 m in
    let cut = same_below cache temp_area ((codes ".tmp" ++ encode_lower a) ∷ []) ((codes ".tmp" ++ encode_lower b) ∷ []) proper_temp_folder (proper_temp n) (proper_temp m) same in
    let bytes = same_bytes a b (be_bytes n) (be_bytes m) (sym (digits_behind-name (encode_lower a)) ∙ ap digits_behind cut ∙ digits_behind-name (encode_lower b)) in
    sym (from_be_bytes-to_be_bytes_8 n p) ∙ ap (from_be_bytes w64) bytes ∙ from_be_bytes-to_be_bytes_8 m q

-- ---- all of them

pub paths_differ : PathsDiffer
paths_differ = record {
  contents = λ cache h g p q. (same_content cache h g p q, ap (λ (x : Hash). joined cache (content_names x)));
  buckets = λ cache d e p q. (same_bucket cache d e p q, ap (λ (x : List ℕ). joined cache (bucket_names_of x)));
  temporaries = λ cache n m p q. (same_temp cache n m p q, ap (λ (x : ℕ). joined cache (temp_names x)));
}
