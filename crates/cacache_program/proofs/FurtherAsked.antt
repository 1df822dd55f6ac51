-- The further words, if others were asked for.
use Rattle.std.proofs.Common.{◌≡◌, ℕ, List, [], ◌∷◌, Option, String, string_bytes, get_or, codes, false, nat_eq, subst, sym, ap, ◌∙◌}
use Rattle.std.specs.Cmp.Lexicographic.{other_text, pointwise}
use Rattle.cacache_store.specs.declared.store.plain.PlainTemp.{PlainTemp}
use Rattle.cacache.specs.{Stores.{LogItem}, Calls.{Env}}
use Rattle.cacache_program.{specs.{FurtherWords.{DoesFurther, Filed}, Words.{Asked, asked_of}}, proofs.Asking.{other_keyed}}

-- four words ask for none with a cache and a key alone
pub not_filed : {A : Type 0} (words : List (String A)) (name other : List ℕ) (P : List ℕ → List ℕ → List ℕ → Type 0) → (asked_of words).name ≡ other → false ≡ pointwise nat_eq other [] → Filed words name P
not_filed [] name other P is some = tt
not_filed (a ∷ []) name other P is some = tt
not_filed (a ∷ b ∷ []) name other P is some = tt
not_filed (a ∷ b ∷ c ∷ []) name other P is some = tt
not_filed (a ∷ b ∷ c ∷ d ∷ []) name other P is some = absurd (other_text other [] some (sym is))
not_filed (a ∷ b ∷ c ∷ d ∷ e ∷ more) name other P is some = tt

-- so it does whatever the further words would ask for
pub other_further :
    {A S C N T : Type 0} {log : S → Option (List LogItem)} {moments : C → Option (List ℕ)} {numbers : N → Option (List ℕ)} {temp : T → PlainTemp}
    {words : List (String A)} {input : Option (List ℕ)} {old new : Env S C N} {before after : Option (List ℕ)} {status : ℕ} {parsed : Asked} {other : List ℕ}
    → asked_of words ≡ parsed → parsed.name ≡ other → false ≡ pointwise nat_eq other (codes "read-hash") → false ≡ pointwise nat_eq other (codes "write-hash")
    → false ≡ pointwise nat_eq other (codes "exists") → false ≡ pointwise nat_eq other [] → DoesFurther log moments numbers temp words input old new before after status
other_further {words = words} {other = other} is named reads writes asks some =
    let called : (asked_of words).name ≡ other = ap (λ (it : Asked). it.name) is ∙ named in
    record {
      reads = other_keyed (codes "read-hash") _ is named reads;
      writes = other_keyed (codes "write-hash") _ is named writes;
      asks = other_keyed (codes "exists") _ is named asks;
      copies = not_filed words (codes "copy") other _ called some;
      stores = not_filed words (codes "store") other _ called some;
    }

-- four words ask for what was done with the last three
pub filed_by : {A : Type 0} (words : List (String A)) (b c d : String A) (cache key file name : List ℕ) (P : List ℕ → List ℕ → List ℕ → Type 0) → b ≡ get_or words 1 b → c ≡ get_or words 2 c → d ≡ get_or words 3 d
    → cache ≡ string_bytes b → key ≡ string_bytes c → file ≡ string_bytes d → P cache key file → Filed words name P
filed_by [] b c d cache key file name P ib ic id cb kc fd p = tt
filed_by (w ∷ []) b c d cache key file name P ib ic id cb kc fd p = tt
filed_by (w ∷ x ∷ []) b c d cache key file name P ib ic id cb kc fd p = tt
filed_by (w ∷ x ∷ y ∷ []) b c d cache key file name P ib ic id cb kc fd p = tt
filed_by (w ∷ x ∷ y ∷ z ∷ []) b c d cache key file name P ib ic id cb kc fd p =
    λ named. subst (λ (k : List ℕ). P k (string_bytes y) (string_bytes z)) (cb ∙ ap string_bytes ib)
    (subst (λ (k : List ℕ). P cache k (string_bytes z)) (kc ∙ ap string_bytes ic) (subst (P cache key) (fd ∙ ap string_bytes id) p))
filed_by (w ∷ x ∷ y ∷ z ∷ v ∷ more) b c d cache key file name P ib ic id cb kc fd p = tt
