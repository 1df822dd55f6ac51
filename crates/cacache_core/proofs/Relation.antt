-- A text reads as an integrity exactly if it is one of that integrity's texts.
use Rattle.std.proofs.{Common.{◌≡◌, ◌≤◌, ◌<◌, ℕ, zero, suc, Bool, true, false, cond, List, [], ◌∷◌, ◌++◌, length, drop, nat_eq, nat_lt, codes, Result, Ok, Err, refl, sym, ap, ap₂, subst, ◌∙◌, inl, inr, arith, ◌⊎◌}, lemmas.{Bool.{cases_Bool, ltb-false, Decides.{Decides-eqb}}, List.{Elements.{All-nil, All-cons, All-head, All-tail, All-filter, All-same}, Splits.{slice_split-cons_yes, slice_split-cons_no}}, Slice.Eq.{starts_is}}}
use Rattle.std.specs.{Prelude.{All}, List.{starts_with, slice_split, onto_first}}
use Rattle.base64.{specs.{declared.decode.DecodeError.{DecodeError}, Engines.{standard}, GeneralPurpose.{decode_of, IsBytes}}, proofs.EngineFacts.{decode_of_strict}}
use Rattle.cacache_core.specs.{declared.{errors.IntegrityFault.{IntegrityFault, TheVariants.{ShortDigest}}, integrity.{algorithm.Algorithm.{Algorithm, TheVariants.{Sha1, Sha256, Sha384, Sha512}}, digest.Hash.{Hash}}}, Integrity.{IsHash, IsIntegrity, hash_of}, Texts.{name_of, hash_text, is_blank, is_some_text, words, long_hash, decoded_hash, hash_behind, read_word, first_and, read_words, kept_hashes, read_integrity, AreHashes, IsIntegrityText}}
use Rattle.cacache_core.proofs.{Decoded.{bytes_drop, decoded_is_bytes}, Order.{ordered_is_integrity}, Printed.{read_word-hash_text}, Reading.{read_some}}

-- ---- a text in the relation reads as its integrity

are_read : (ws : List (List ℕ)) (hs : List Hash) → AreHashes ws hs → read_words ws ≡ Ok hs
are_read [] [] are = refl
are_read [] (h ∷ hs) are = absurd are
are_read (w ∷ ws) [] are = absurd are
are_read (w ∷ ws) (h ∷ hs) are =
    ap₂ first_and (ap read_word are.0 ∙ read_word-hash_text h are.1) (are_read ws hs are.2)

pub text_reads : (t : List ℕ) (i : List Hash) → IsIntegrityText t i → read_integrity t ≡ Ok i
text_reads t i is =
    read_some t is.written (are_read (words t) is.written is.spelled) is.nonempty ∙ ap (λ (l : List Hash). Ok l) (sym is.ordered)

-- ---- the converse, for one word: if it reads as a hash, it is in the relation

choose : {A : Type 0} (b : Bool) (x y z : A) → cond b x y ≡ z → ((b ≡ true) × (x ≡ z)) ⊎ ((b ≡ false) × (y ≡ z))
choose true x y z e = inl (refl, e)
choose false x y z e = inr (refl, e)

begins : (w p : List ℕ) → starts_with nat_eq w p ≡ true → w ≡ p ++ drop (length p) w
begins w p = (starts_is Decides-eqb w p (starts_with nat_eq w p) refl).0

-- the word is the text of the hash, and the digest is long enough
abbrev IsTextOf : List ℕ → Hash → Type 0
IsTextOf w h = (w ≡ hash_text h) × IsHash h

inner_hash : (r : Result Hash IntegrityFault) (h g : Hash) → r ≡ Ok h → r ≡ Ok g → h ≡ g
inner_hash r h g p q = cc

decoded_text : (a : Algorithm) (w s d : List ℕ) (h : Hash) → IsBytes s → w ≡ name_of a ++ 45 ∷ s → decode_of standard s ≡ Ok d → long_hash a d ≡ Ok h → IsTextOf w h
decoded_text a w s d h bytes cut decoded long = elim (choose (nat_lt (length d) 3) (Err ShortDigest) (Ok (hash_of a d)) (Ok h) long) [
  | inl p ↦ absurd (cc (p.1))
  | inr p ↦
      let same : hash_of a d ≡ h = inner_hash _ (hash_of a d) h refl p.1 in
      let text : w ≡ hash_text (hash_of a d) = cut ∙ ap (λ (t : List ℕ). name_of a ++ 45 ∷ t) (decode_of_strict standard s d (refl, refl) bytes decoded) in
      let long_enough : 3 ≤ length d = ltb-false (length d) 3 p.0 in
      (text ∙ ap hash_text same, subst IsHash same (record { bytes = decoded_is_bytes s d bytes decoded; long_enough = long_enough }))
]

behind : (a : Algorithm) (n : ℕ) (w : List ℕ) (h : Hash) → IsBytes w → w ≡ name_of a ++ 45 ∷ drop n w → hash_behind a n w ≡ Ok h → IsTextOf w h
behind a n w h bytes cut e =
    elim (decode_of standard (drop n w)) as (λ (r : Result (List ℕ) DecodeError). decode_of standard (drop n w) ≡ r → decoded_hash a r ≡ Ok h → IsTextOf w h) [
      | Ok d ↦ λ p q. decoded_text a w (drop n w) d h (bytes_drop n w bytes) cut p q
      | Err x ↦ λ p q. absurd cc
    ] refl e

word_is_text : (w : List ℕ) (h : Hash) → IsBytes w → read_word w ≡ Ok h → IsTextOf w h
word_is_text w h bytes e = elim (choose (starts_with nat_eq w (codes "sha1-")) _ _ (Ok h) e) [
  | inl p ↦ behind Sha1 5 w h bytes (begins w (codes "sha1-") p.0) p.1
  | inr p ↦ elim (choose (starts_with nat_eq w (codes "sha256-")) _ _ (Ok h) p.1) [
    | inl q ↦ behind Sha256 7 w h bytes (begins w (codes "sha256-") q.0) q.1
    | inr q ↦ elim (choose (starts_with nat_eq w (codes "sha384-")) _ _ (Ok h) q.1) [
      | inl r ↦ behind Sha384 7 w h bytes (begins w (codes "sha384-") r.0) r.1
      | inr r ↦ elim (choose (starts_with nat_eq w (codes "sha512-")) _ _ (Ok h) r.1) [
        | inl s ↦ behind Sha512 7 w h bytes (begins w (codes "sha512-") s.0) s.1
        | inr s ↦ absurd (cc (s.1))
      ]
    ]
  ]
]

-- ---- the words of a text of bytes consist of bytes

cons_bytes : (b : ℕ) (s : List ℕ) → b < 256 → IsBytes s → IsBytes (b ∷ s)
cons_bytes b s small bytes zero = small
cons_bytes b s small bytes (suc i) = bytes i

onto_bytes : (b : ℕ) (ps : List (List ℕ)) → b < 256 → All IsBytes ps → All IsBytes (onto_first b ps)
onto_bytes b [] small all = All-cons IsBytes (b ∷ []) [] (cons_bytes b [] small (λ i. omega arith)) (All-nil IsBytes)
onto_bytes b (p ∷ ps) small all = All-cons IsBytes (b ∷ p) ps (cons_bytes b p small (All-head IsBytes p ps all)) (All-tail IsBytes p ps all)

split_bytes : (t : List ℕ) → IsBytes t → All IsBytes (slice_split is_blank t)
split_bytes [] bytes = All-cons IsBytes [] [] (λ i. omega arith) (All-nil IsBytes)
split_bytes (b ∷ t) bytes = elim (cases_Bool (is_blank b)) [
  | inl p ↦ All-same IsBytes _ _ (slice_split-cons_yes is_blank b t p)
      (All-cons IsBytes [] (slice_split is_blank t) (λ i. omega arith) (split_bytes t (λ k. bytes (suc k))))
  | inr p ↦ All-same IsBytes _ _ (slice_split-cons_no is_blank b t p)
      (onto_bytes b (slice_split is_blank t) (bytes 0) (split_bytes t (λ k. bytes (suc k))))
]

-- ---- the converse, for all words

first_ok : (r : Result Hash IntegrityFault) (s : Result (List Hash) IntegrityFault) (l : List Hash) → first_and r s ≡ Ok l
    → (h : Hash) × (hs : List Hash) × (r ≡ Ok h) × (s ≡ Ok hs) × (h ∷ hs ≡ l)
first_ok (Ok h) (Ok hs) l e = (h, hs, refl, refl, cc)
first_ok (Ok h) (Err x) l e = absurd cc
first_ok (Err x) s l e = absurd cc

are_hashes : (ws : List (List ℕ)) (hs : List Hash) → All IsBytes ws → read_words ws ≡ Ok hs → AreHashes ws hs
are_hashes [] [] bytes e = tt
are_hashes [] (h ∷ hs) bytes e = absurd cc
are_hashes (w ∷ ws) hs bytes e =
    let p = first_ok (read_word w) (read_words ws) hs e in
    let word = word_is_text w p.0 (All-head IsBytes w ws bytes) p.2 in
    subst (λ (l : List Hash). AreHashes (w ∷ ws) l) p.4 (word.0, word.1, are_hashes ws p.1 (All-tail IsBytes w ws bytes) p.3)

kept_text : (t : List ℕ) (hs i : List Hash) → IsBytes t → read_words (words t) ≡ Ok hs → kept_hashes (Ok hs) ≡ Ok i → IsIntegrityText t i
kept_text t [] i bytes read kept = absurd cc
kept_text t (h ∷ hs) i bytes read kept = record {
  written = h ∷ hs;
  spelled = are_hashes (words t) (h ∷ hs) (All-filter is_some_text IsBytes (slice_split is_blank t) (split_bytes t bytes)) read;
  nonempty = omega arith;
  ordered = cc;
}

pub is_text : (t : List ℕ) (i : List Hash) → IsBytes t → read_integrity t ≡ Ok i → IsIntegrityText t i
unfolding read_integrity
is_text t i bytes e =
    elim (read_words (words t)) as (λ (r : Result (List Hash) IntegrityFault). read_words (words t) ≡ r → kept_hashes r ≡ Ok i → IsIntegrityText t i) [
      | Ok hs ↦ λ p q. kept_text t hs i bytes p q
      | Err x ↦ λ p q. absurd cc
    ] refl e

-- ---- the hashes of a text are an integrity

are_long : (ws : List (List ℕ)) (hs : List Hash) → AreHashes ws hs → All IsHash hs
are_long [] [] are = All-nil IsHash
are_long [] (h ∷ hs) are = absurd are
are_long (w ∷ ws) [] are = absurd are
are_long (w ∷ ws) (h ∷ hs) are = All-cons IsHash h hs are.1 (are_long ws hs are.2)

pub read_is_integrity : (t : List ℕ) (i : List Hash) → IsBytes t → read_integrity t ≡ Ok i → IsIntegrity i
read_is_integrity t i bytes e =
    let is = is_text t i bytes e in
    subst IsIntegrity (sym is.ordered) (ordered_is_integrity is.written is.nonempty (are_long (words t) is.written is.spelled))
