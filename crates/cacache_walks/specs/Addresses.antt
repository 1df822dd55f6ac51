-- Which content a path belongs to.
use Rattle.std.specs.Prelude.{◌≡◌, ◌≢◌, ◌==◌, ◌++◌, ◌∷◌, ◌≤◌, ℕ, List, [], Option, None, Some, Ok, if◌then◌else◌, take, drop, length}
use Rattle.base64.specs.GeneralPurpose.{IsBytes}
use Rattle.hex.specs.Hex.{decode_of, encode_lower}
use Rattle.cacache_core.specs.{declared.integrity.{algorithm.Algorithm.{Algorithm, TheVariants.{Sha1, Sha256, Sha384, Sha512}}, digest.Hash.{Hash}}, Integrity.{IsHash}, Paths.{joined, slashed, content_names, cut_digits}, Texts.{name_of}}

-- ---- what is known of a path

-- it is the content path of this integrity, which has one hash
abbrev pub IsContentPath : List ℕ → List ℕ → List Hash → Type 0
IsContentPath cache path i =
    (h : Hash) × IsHash h × (i ≡ h ∷ []) × (path ≡ joined cache (content_names h))

-- it is the content path of no integrity
abbrev pub IsStrange : List ℕ → List ℕ → Type 0
IsStrange cache path = (h : Hash) → IsHash h → path ≢ joined cache (content_names h)

-- ---- how a path is taken apart

-- the algorithm whose name has this fourth letter
abbrev pub by_letter : ℕ → Option Algorithm
by_letter letter =
    if letter == 49 then Some Sha1
    else if letter == 50 then Some Sha256
    else if letter == 51 then Some Sha384
    else if letter == 53 then Some Sha512
    else None

-- the digits in a text of two, two and the rest, each after a slash
abbrev pub digits_of : List ℕ → List ℕ
digits_of t = take 2 (drop 1 t) ++ (take 2 (drop 4 t) ++ drop 7 t)

-- the digits decode to no bytes
abbrev pub HasNoBytes : List ℕ → Type 0
HasNoBytes digits = (bytes : List ℕ) → IsBytes bytes → decode_of digits ≢ Ok bytes

-- the names of a content after its folder, as a text
unfoldable pub names_text : Hash → List ℕ
names_text h = slashed (name_of h.algorithm ∷ cut_digits (encode_lower h.digest))

-- the text is made of no content's names
abbrev pub HasNoNames : List ℕ → Type 0
HasNoNames text = (h : Hash) → IsHash h → text ≢ names_text h

-- the digest isn't short; with the algorithm, it is that of every content with this text as its names
abbrev pub HasParts : List ℕ → Algorithm → List ℕ → Type 0
HasParts text algorithm digest =
    (3 ≤ length digest)
    × ((h : Hash) → IsHash h → text ≡ names_text h
    → (algorithm ≡ h.algorithm) × (digest ≡ h.digest))
