-- The texts of integrities: how one is printed, and what a text reads as.
use Rattle.std.specs.{Prelude.{◌≡◌, ◌<◌, ◌||◌, ◌==◌, ℕ, List, [], ◌∷◌, ◌++◌, Bool, if◌then◌else◌, not, nat_lt, Result, Ok, Err, length, drop, filter, codes}, List.{slice_split, starts_with}, Bool.{nat_eq}}
use Rattle.base64.specs.{Engines.{standard}, GeneralPurpose.{encode_of, decode_of}, declared.decode.DecodeError.{DecodeError}}
use Rattle.cacache_core.specs.{declared.{errors.IntegrityFault.{IntegrityFault, TheVariants.{BadText, ShortDigest}}, integrity.{algorithm.Algorithm.{Algorithm, TheVariants.{Sha1, Sha256, Sha384, Sha512}}, digest.Hash.{Hash}}}, Integrity.{IsHash, hash_of, strongest_first}}

-- ---- printing

-- an algorithm's name
abbrev pub name_of : Algorithm → List ℕ
name_of Sha1 = codes "sha1"
name_of Sha256 = codes "sha256"
name_of Sha384 = codes "sha384"
name_of Sha512 = codes "sha512"

-- the name, a dash, and the digest in padded base64 (RFC 4648, section 4)
abbrev pub hash_text : Hash → List ℕ
hash_text h = name_of h.algorithm ++ 45 ∷ encode_of standard h.digest

-- the hashes' texts, separated by single spaces
abbrev pub integrity_text : List Hash → List ℕ
integrity_text [] = []
integrity_text (h ∷ []) = hash_text h
integrity_text (h ∷ g ∷ hs) = hash_text h ++ 32 ∷ integrity_text (g ∷ hs)

-- ---- reading

-- a space, TAB, LF, FF or CR
abbrev pub is_blank : ℕ → Bool
is_blank b = b == 32 || b == 9 || b == 10 || b == 12 || b == 13

-- the text isn't empty
abbrev pub is_some_text : List ℕ → Bool
is_some_text s = not (length s == 0)

-- the parts of a text between runs of blanks
abbrev pub words : List ℕ → List (List ℕ)
words t = filter is_some_text (slice_split is_blank t)

-- the hash with this digest, or a fault if the digest is too short
abbrev pub long_hash : Algorithm → List ℕ → Result Hash IntegrityFault
long_hash a d = if nat_lt (length d) 3 then Err ShortDigest else Ok (hash_of a d)

-- the hash whose digest was decoded from base64, or the fault
abbrev pub decoded_hash : Algorithm → Result (List ℕ) DecodeError → Result Hash IntegrityFault
decoded_hash a (Ok d) = long_hash a d
decoded_hash a (Err e) = Err BadText

-- the hash in a word, after the n bytes of the name and the dash
abbrev pub hash_behind : Algorithm → ℕ → List ℕ → Result Hash IntegrityFault
hash_behind a n word = decoded_hash a (decode_of standard (drop n word))

-- what a word reads as
abbrev pub read_word : List ℕ → Result Hash IntegrityFault
read_word w =
    if starts_with nat_eq w (codes "sha1-") then hash_behind Sha1 5 w
    else if starts_with nat_eq w (codes "sha256-") then hash_behind Sha256 7 w
    else if starts_with nat_eq w (codes "sha384-") then hash_behind Sha384 7 w
    else if starts_with nat_eq w (codes "sha512-") then hash_behind Sha512 7 w
    else Err BadText

-- the first word's hash, then those of the others; the leftmost fault decides
abbrev pub first_and : Result Hash IntegrityFault → Result (List Hash) IntegrityFault
    → Result (List Hash) IntegrityFault
first_and (Ok h) (Ok hs) = Ok (h ∷ hs)
first_and (Ok h) (Err e) = Err e
first_and (Err e) others = Err e

-- the words' hashes, or the fault of the first word that isn't a hash
abbrev pub read_words : List (List ℕ) → Result (List Hash) IntegrityFault
read_words [] = Ok []
read_words (w ∷ ws) = first_and (read_word w) (read_words ws)

-- a text without a hash is refused; hashes are kept strongest first
abbrev pub kept_hashes : Result (List Hash) IntegrityFault → Result (List Hash) IntegrityFault
kept_hashes (Ok []) = Err BadText
kept_hashes (Ok (h ∷ hs)) = Ok (strongest_first (h ∷ hs))
kept_hashes (Err e) = Err e

-- what a text reads as: its integrity, or the fault of the leftmost wrong hash
unfoldable pub read_integrity : List ℕ → Result (List Hash) IntegrityFault
read_integrity t = kept_hashes (read_words (words t))

-- ---- the same as a relation

-- each word is its hash's text, and the digest is long enough
abbrev pub AreHashes : List (List ℕ) → List Hash → Type 0
AreHashes [] [] = Unit {0}
AreHashes [] (h ∷ hs) = ⊥
AreHashes (w ∷ ws) [] = ⊥
AreHashes (w ∷ ws) (h ∷ hs) = (w ≡ hash_text h) × IsHash h × AreHashes ws hs

-- the text spells the integrity: its words are one or more hashes, which the integrity has strongest first
pub record IsIntegrityText (t : List ℕ) (i : List Hash) : Type 0 where
  pub written : List Hash
  pub spelled : AreHashes (words t) written
  pub nonempty : 0 < length written
  pub ordered : i ≡ strongest_first written
