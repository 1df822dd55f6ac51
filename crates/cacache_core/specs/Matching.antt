-- Tests on integrities, what two of them share, and integrities made from hex digits and from two others.
use Rattle.std.specs.{Prelude.{◌&&◌, if◌then◌else◌, ℕ, List, [], ◌∷◌, Bool, false, Option, None, Some, ◌++◌, Result, Ok, Err}, List.{list_any, fold}}
use Rattle.cacache_core.specs.{declared.{integrity.{algorithm.Algorithm.{Algorithm}, digest.Hash.{Hash}}, errors.IntegrityFault.{IntegrityFault, TheVariants.{BadText}}}, Integrity.{digest, is_of, hash_of, strongest_first}, Comparing.{same_hash}, Texts.{long_hash}}
use Rattle.hex.specs.{Hex.{decode_of}, declared.error.FromHexError.{FromHexError}}

-- the hash is one of these
abbrev pub lists : List Hash → Hash → Bool
lists hashes h = list_any (λ g. same_hash g h) hashes

-- the bytes' digest under the strongest algorithm is listed with that algorithm
unfoldable pub meets : List Hash → List ℕ → Bool
meets [] b = false
meets (h ∷ hs) b = lists (h ∷ hs) (hash_of h.algorithm (digest h.algorithm b))

-- both list the same hash of the algorithm
abbrev pub share : Algorithm → List Hash → List Hash → Bool
share a i j = list_any (λ h. is_of a h && lists i h) j

-- the strongest algorithm of the second, if both list the same hash of it
unfoldable pub matching : List Hash → List Hash → Option Algorithm
matching i [] = None
matching i (h ∷ hs) = if share h.algorithm i (h ∷ hs) then Some h.algorithm else None

-- ---- integrities made from hex digits, and from two other integrities

-- the hash whose digest was decoded from hex digits, or the fault
abbrev pub hex_hash : Algorithm → Result (List ℕ) FromHexError → Result Hash IntegrityFault
hex_hash a (Ok d) = long_hash a d
hex_hash a (Err e) = Err BadText

-- an integrity with one hash
abbrev pub only_hash : Result Hash IntegrityFault → Result (List Hash) IntegrityFault
only_hash (Ok h) = Ok (h ∷ [])
only_hash (Err e) = Err e

-- what hex digits, upper or lower case, read as under an algorithm
abbrev pub read_hex : Algorithm → List ℕ → Result (List Hash) IntegrityFault
read_hex a digits = only_hash (hex_hash a (decode_of digits))

-- the hashes with this one added at the end, unless they list it already
abbrev pub with_hash : List Hash → Hash → List Hash
with_hash hashes h = if lists hashes h then hashes else hashes ++ h ∷ []

-- each hash once, at its first position
abbrev pub each_once : List Hash → List Hash
each_once hashes = fold with_hash [] hashes

-- the hashes of both, strongest algorithm first, each once
abbrev pub joined_hashes : List Hash → List Hash → List Hash
joined_hashes i j = strongest_first (each_once (i ++ j))
