-- Laws of integrities, of their texts, and of the paths of contents, buckets and temporary files.
use Rattle.std.specs.Prelude.{◌≡◌, ◌↔◌, ℕ, List, true, Some, Contains, Ok, ◌<◌, ◌^◌, ◌++◌, ◌∷◌, length, All}
use Rattle.cacache_core.specs.{declared.integrity.{algorithm.Algorithm.{Algorithm}, digest.Hash.{Hash}}, Integrity.{Meets, ShareDigest, strongest, integrity_under, IsIntegrity, IsHash}, Matching.{lists, meets, matching}, Texts.{integrity_text, read_integrity, IsIntegrityText}, Paths.{Names, names_of, home_of, names_below, IsProperName, join, joined, slashed, content_names, bucket_names_of, temp_names, Begins, AreApart}}
use Rattle.base64.specs.GeneralPurpose.{IsBytes}
use Rattle.sha1.specs.Sha1.{sha1}

-- the test on a list finds each of its hashes and no other
abbrev pub ListsFindsHashes : Type 0
ListsFindsHashes = (hashes : List Hash) (h : Hash) → (lists hashes h ≡ true) ↔ Contains hashes h

-- bytes pass the test of an integrity exactly if they meet it
abbrev pub MeetsFindsBytes : Type 0
MeetsFindsBytes = (i : List Hash) (b : List ℕ) → (meets i b ≡ true) ↔ Meets i b

-- one integrity matches another exactly if they share a digest of the other's strongest algorithm
abbrev pub MatchingFindsShared : Type 0
MatchingFindsShared =
    (i j : List Hash) (a : Algorithm)
    → (matching i j ≡ Some a) ↔ ((strongest j ≡ Some a) × ShareDigest a i j)

-- bytes meet their own integrity
abbrev pub OwnIsMet : Type 0
OwnIsMet = (a : Algorithm) (b : List ℕ) → Meets (integrity_under a b) b

-- ---- laws of the texts of integrities

-- the printed text of an integrity reads as that integrity
abbrev pub PrintedTextsRead : Type 0
PrintedTextsRead = (i : List Hash) → IsIntegrity i → read_integrity (integrity_text i) ≡ Ok i

-- a text reads as an integrity exactly if it is one of its texts
abbrev pub IntegrityTextsRead : Type 0
IntegrityTextsRead =
    (t : List ℕ) (i : List Hash) → IsBytes t → (read_integrity t ≡ Ok i) ↔ IsIntegrityText t i

-- if a text can be read, the result is an integrity
abbrev pub ReadTextsAreIntegrities : Type 0
ReadTextsAreIntegrities =
    (t : List ℕ) (i : List Hash) → IsBytes t → read_integrity t ≡ Ok i → IsIntegrity i

-- ---- laws of the paths of contents, buckets and temporary files

-- a possible digest of a key: 20 bytes
pub record IsKeyDigest (digest : List ℕ) : Type 0 where
  pub bytes : IsBytes digest
  pub size : length digest ≡ 20

-- the SHA-1 of a key is such a digest
abbrev pub KeysHaveDigests : Type 0
KeysHaveDigests = (key : List ℕ) → IsKeyDigest (sha1 key)

-- below one cache, two paths of one kind are equal exactly if their hashes, key digests or numbers are
pub record PathsDiffer : Type 0 where
  pub contents : (cache : List ℕ) (h g : Hash) → IsHash h → IsHash g
      → (joined cache (content_names h) ≡ joined cache (content_names g)) ↔ (h ≡ g)
  pub buckets : (cache d e : List ℕ) → IsKeyDigest d → IsKeyDigest e
      → (joined cache (bucket_names_of d) ≡ joined cache (bucket_names_of e)) ↔ (d ≡ e)
  pub temporaries : (cache : List ℕ) (n m : ℕ) → n < 2 ^ 64 → m < 2 ^ 64
      → (joined cache (temp_names n) ≡ joined cache (temp_names m)) ↔ (n ≡ m)

-- no path is below another of its kind
pub record NoneBegins : Type 0 where
  pub contents : (h g : Hash) → Begins (content_names h) (content_names g)
      → content_names h ≡ content_names g
  pub buckets : (d e : List ℕ) → Begins (bucket_names_of d) (bucket_names_of e)
      → bucket_names_of d ≡ bucket_names_of e
  pub temporaries : (n m : ℕ) → Begins (temp_names n) (temp_names m) → temp_names n ≡ temp_names m

-- no path is below one of another kind
pub record KindsAreApart : Type 0 where
  pub contents_buckets : (h : Hash) (d : List ℕ) → AreApart (content_names h) (bucket_names_of d)
  pub contents_temporaries : (h : Hash) (n : ℕ) → AreApart (content_names h) (temp_names n)
  pub buckets_temporaries : (d : List ℕ) (n : ℕ) → AreApart (bucket_names_of d) (temp_names n)

-- each name in these paths is a proper name
pub record NamesAreProper : Type 0 where
  pub contents : (h : Hash) → IsHash h → All IsProperName (content_names h)
  pub buckets : (d : List ℕ) → IsKeyDigest d → All IsProperName (bucket_names_of d)
  pub temporaries : (n : ℕ) → All IsProperName (temp_names n)

-- the text of proper names below a cache reads as the names of the cache's folder, then these names
abbrev pub JoinedTextsName : Type 0
JoinedTextsName =
    (cache : List ℕ) (names : Names) → All IsProperName names → 0 < length names
    → names_of (joined cache names) ≡ names_below (home_of cache) names

-- in the text of proper names below a cache, the first name is joined to the cache, and each later one follows a slash
abbrev pub JoinedTextsSpell : Type 0
JoinedTextsSpell =
    (cache name : List ℕ) (names : Names) → IsProperName name → All IsProperName names
    → joined cache (name ∷ names) ≡ join cache name ++ slashed names
