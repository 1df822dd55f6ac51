-- The reading of hex digits, derived from the decoding of their bytes.
use Rattle.std.{proofs.{Common.{inl, inr, ◌≡◌, ◌≤◌, ℕ, List, [], ◌∷◌, length, nat_lt, refl, ap, arith}, lemmas.Bool.{cases_Bool, ltb-true}}, specs.Prelude.{Result, Ok}}
use Rattle.hex.specs.Hex.{decode_of}
use Rattle.cacache_core.specs.{declared.{errors.{Error.{Error, TheVariants.{EntryNotFound, SizeMismatch, IoError, SerdeError, IntegrityError, OutOfMemory}}, IntegrityFault.{IntegrityFault}}, integrity.{algorithm.Algorithm.{Algorithm}, digest.Hash.{Hash}}}, Integrity.{hash_of, IsHash}, Matching.{only_hash, read_hex}, Errors.{IsReadFailure}, Texts.{long_hash}}

long : (a : Algorithm) (d : List ℕ) → 3 ≤ length d → only_hash (long_hash a d) ≡ Ok (hash_of a d ∷ [])
long a d enough = elim (cases_Bool (nat_lt (length d) 3)) [
  | inl short ↦ absurd (omega (arith, ltb-true (length d) 3 short))
  | inr not ↦ rw not refl
]

pub read_ok : (a : Algorithm) (t d : List ℕ) → decode_of t ≡ Ok d → IsHash (hash_of a d) → read_hex a t ≡ Ok (hash_of a d ∷ [])
read_ok a t d decoded is = rw decoded (long a d is.long_enough)

refused : (r : Result Hash IntegrityFault) (e : Error) → IsReadFailure r e → IsReadFailure (only_hash r) e
refused r (EntryNotFound c k) f = f
refused r (SizeMismatch w n) f = f
refused r (IoError fault t) f = f
refused r (SerdeError cause t) f = f
refused r (IntegrityError fault) f = ap only_hash f
refused r OutOfMemory f = tt

pub read_refused : (a : Algorithm) (t d : List ℕ) (e : Error) → decode_of t ≡ Ok d → IsReadFailure (long_hash a d) e → IsReadFailure (read_hex a t) e
read_refused a t d e decoded f = rw decoded (refused (long_hash a d) e f)
