-- Bytes are answered, and a content is exported, if and only if they meet their integrity.
use Rattle.std.proofs.Common.{◌≡◌, ℕ, ◌==◌, List, [], ◌∷◌, ◌++◌, false, length, refl, inl, inr, Bool, true, Option, None, Some, sym, ◌∙◌}
use Rattle.std.specs.Prelude.{IfSome, IsSome, is_some}
use Rattle.cacache_store.specs.declared.store.plain.PlainFile.{PlainFile}
use Rattle.cacache_calls.specs.{Linking.{after_read}, State.{Hashing, hashing, over}, declared.{reply.Reply.TheVariants.{Read}, carried.Content.{Content}, command.Export.{Export}}, Reading.{checked, verified, export_content}, Runs.{EndsAs}}
use Rattle.cacache_core.specs.{declared.{errors.Error.{Error, TheVariants.{OutOfMemory, IntegrityError}}, integrity.{algorithm.Algorithm.{Algorithm}, digest.Hash.{Hash}}}, Integrity.{Meets, actual, strongest, ShareDigest}, Matching.{meets, matching}, Errors.{IsCheckFailure}, Laws.{MatchingFindsShared}}
use Rattle.cacache_core.proofs.Meeting.{meets_finds}

-- a read that returned bytes isn't at the end
pub more_read : (h : Hashing) (before more : List ℕ) (file : PlainFile) → (length more == 0) ≡ false → after_read h before (file, more) ≡ hashing h file (before ++ more)
more_read h before [] file e = absurd cc
more_read h before (b ∷ bs) file e = refl

-- ---- bytes are answered if and only if they meet their integrity

-- bytes that meet the integrity are answered
pub checked_met : (k : Content) (b : List ℕ) → Meets k.integrity b → checked k b ≡ over (Read b)
checked_met k b m = rw ((meets_finds k.integrity b).1 m) refl

pub unmet_test : (k : Content) (b : List ℕ) → (Meets k.integrity b → ⊥) → meets k.integrity b ≡ false
unmet_test k b unmet = by_test (meets k.integrity b) refl
  where
    by_test : (v : Bool) → meets k.integrity b ≡ v → v ≡ false
    by_test true e = absurd (unmet ((meets_finds k.integrity b).0 e))
    by_test false e = refl

-- bytes that don't meet it are refused; the error has the expected integrity and the actual one
pub checked_unmet : (k : Content) (b : List ℕ) (e : Error) → (Meets k.integrity b → ⊥) → IsCheckFailure k.integrity (actual k.integrity b) e → EndsAs e (checked k b)
checked_unmet k b OutOfMemory unmet is = inr refl
checked_unmet k b (IntegrityError fault) unmet is =
    rw (is, unmet_test k b unmet) (inl refl)
checked_unmet k b e unmet is = absurd is

-- ---- a test that decides whether integrities match

-- an algorithm that is found is the strongest one, and both integrities share a digest of it
abbrev pub FindsShared : List Hash → List Hash → Option Algorithm → Type 0
FindsShared i j r = IfSome r (λ a. (strongest j ≡ Some a) × ShareDigest a i j)

-- a shared digest of the strongest algorithm is always found
abbrev pub MissesNone : List Hash → List Hash → Option Algorithm → Type 0
MissesNone i j r = (a : Algorithm) → strongest j ≡ Some a → ShareDigest a i j → IsSome r

cases : (r m : Option Algorithm) (i j : List Hash) → m ≡ matching i j → MatchingFindsShared
    → FindsShared i j r → MissesNone i j r → is_some r ≡ is_some m
cases None None i j e law shared found = refl
cases None (Some a) i j e law shared found = let s = (law i j a).0 (sym e) in found a s.0 s.1
cases (Some a) None i j e law shared found =
    let wrong : None ≡ Some a = e ∙ (law i j a).1 shared in absurd cc
cases (Some a) (Some b) i j e law shared found = refl

-- a search that finds exactly the shared digests answers as the test does
pub same_answer : (r : Option Algorithm) (i j : List Hash) → MatchingFindsShared
    → FindsShared i j r → MissesNone i j r → is_some r ≡ is_some (matching i j)
same_answer r i j law shared found = cases r (matching i j) i j refl law shared found

-- ---- a content is exported if and only if its bytes meet its integrity

-- bytes that meet the integrity are exported
pub verified_met : (k : Content) (e : Export) (b : List ℕ) → Meets k.integrity b → verified k e b ≡ export_content k e (Some (length b))
verified_met k e b m = rw ((meets_finds k.integrity b).1 m) refl

-- bytes that don't meet it are refused; the error has the expected integrity and the actual one
pub verified_unmet : (k : Content) (x : Export) (b : List ℕ) (e : Error) → (Meets k.integrity b → ⊥) → IsCheckFailure k.integrity (actual k.integrity b) e → EndsAs e (verified k x b)
verified_unmet k x b OutOfMemory unmet is = inr refl
verified_unmet k x b (IntegrityError fault) unmet is = rw (is, unmet_test k b unmet) (inl refl)
verified_unmet k x b e unmet is = absurd is
