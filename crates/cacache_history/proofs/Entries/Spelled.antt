-- Each entry of each bucket is well-formed, and what a lookup finds among them has an integrity.
use Rattle.std.proofs.{Common.{ℕ, nat_le, List, Option, length, take, refl, sym, subst, ap, ◌∙◌, rules, ◌≡◌, ◌⊎◌, inl, inr, ◌≤◌, ◌<◌, ◌+◌, ◌/◌, ◌%◌, Bool, true, false, cond, [], ◌∷◌, None, Some, option_map, fold, Result, bytes_eq, arith}, lemmas.{List.Elements.{All-nil, All-head, All-tail}, Grind.{common_steps}, Bool.{and_parts}}}
use Rattle.std.specs.Prelude.{All, IsUtf8, IfSome, unwrap_or}
use Rattle.cacache_core.specs.{Paths.{Names}, declared.{integrity.digest.Hash.{Hash}, errors.IntegrityFault.{IntegrityFault}}, Integrity.{IsIntegrity}, Texts.{read_integrity}}
use Rattle.cacache_core.proofs.{Decoded.{bytes_append}, Relation.{read_is_integrity}}
use Rattle.cacache_store.specs.Plain.{PlainStep}
use Rattle.cacache_disk.specs.{declared.luck.Luck.{Luck}, Tree.{Tree}, Apply.{apply}}
use Rattle.cacache_entry.specs.{Entry.{Entry, line_of}, Bucket.{entries_of, Found, answer_read, answer_of, after_entry, latest, found_of}, FittingEntries.{IsEntry, IsUtf8IfAny}}
use Rattle.cacache_value.{specs.{Value.{wide_value}, Acts.{act_of, list_of, Act, AddEntries}, Placed.{Placed, Proper, IsOpening}}, proofs.Traces.{steps_act}}
use Rattle.cacache_history.proofs.{Entries.Owned.{Adds, change_all, left_own}, StepActs.{MayAct, acts_so}}
use Rattle.base64.specs.GeneralPurpose.{IsBytes}
use Rattle.cacache_store.specs.declared.store.step.Step.TheVariants as steps
use lib.Utf8.{scalar, scalars, encode, encodes}

abbrev pub Formed : (List ℕ → Option (List Entry)) → Type 0
Formed buckets = (digest : List ℕ) → All IsEntry (list_of (buckets digest))

formed_act : (home : Option Names) (digest : List ℕ) (act : Act) (step : PlainStep) → MayAct act step → Proper home step → Adds IsEntry home digest act
formed_act home digest (AddEntries names new) (steps.Append p bytes) is proper = λ here.
    let line = proper.1 in
    subst (All IsEntry) (ap (λ b. entries_of (take is.1.0 b)) (sym line.same) ∙ sym is.1.1)
    (left_own IsEntry line.durable line.entry is.1.0 (nat_le (length (line_of line.entry)) is.1.0) line.formed line.fits line.formed refl)
formed_act home digest (AddEntries names new) step is proper = absurd is
formed_act home digest act step is proper = tt

-- ---- trees

abbrev pub TreeFormed : Option Names → Tree → Type 0
TreeFormed home t = Formed (wide_value home t).buckets

pub step_formed : (home : Option Names) (t : Tree) (step : PlainStep) (luck : Luck) → Placed home t → Proper home step → TreeFormed home t → TreeFormed home (apply t step luck).1
step_formed home t step luck placed proper h =
    subst (λ v. Formed v.buckets) (sym (steps_act home t step luck placed proper))
    (λ digest. change_all IsEntry home (wide_value home t) (act_of step luck (apply t step luck).0) digest
    (formed_act home digest (act_of step luck (apply t step luck).0) step (acts_so step luck (apply t step luck).0) proper) (h digest))

pub opening_formed : (home : Option Names) (t : Tree) → IsOpening home t → TreeFormed home t
opening_formed home t o digest =
    subst (λ v. All IsEntry (list_of (v.buckets digest))) (sym o.nothing) (All-nil IsEntry)

-- ---- UTF-8 is bytes

bytes_cons : (b : ℕ) (bs : List ℕ) → b < 256 → IsBytes bs → IsBytes (b ∷ bs)
bytes_cons b bs h rest h2 = grind (arith, common_steps)

no_bytes : IsBytes []
no_bytes i = omega arith

one_byte : (a : ℕ) → a < 256 → IsBytes (a ∷ [])
one_byte a h = bytes_cons a [] h no_bytes

two_bytes : (a b : ℕ) → a < 256 → b < 256 → IsBytes (a ∷ b ∷ [])
two_bytes a b h k = bytes_cons a (b ∷ []) h (one_byte b k)

three_bytes : (a b c : ℕ) → a < 256 → b < 256 → c < 256 → IsBytes (a ∷ b ∷ c ∷ [])
three_bytes a b c h k l = bytes_cons a (b ∷ c ∷ []) h (two_bytes b c k l)

-- a byte that goes on, with six bits of a character
next_byte : (n : ℕ) → 128 + n % 64 < 256
next_byte n = omega arith

wide_char : (c : ℕ) → (c < 55296) ⊎ ((57344 ≤ c) × (c < 1114112)) → IsBytes ((240 + c / 262144) ∷ (128 + (c / 4096) % 64) ∷ (128 + (c / 64) % 64) ∷ (128 + c % 64) ∷ [])
wide_char c range =
    let small : c < 1114112 = elim range [ inl h ↦ omega (arith, h) | inr h ↦ h.1 ] in
    bytes_cons (240 + c / 262144) ((128 + (c / 4096) % 64) ∷ (128 + (c / 64) % 64) ∷ (128 + c % 64) ∷ []) (omega (arith, small))
    (three_bytes (128 + (c / 4096) % 64) (128 + (c / 64) % 64) (128 + c % 64) (next_byte (c / 4096)) (next_byte (c / 64)) (next_byte c))

char_bytes : (c : ℕ) → scalar c ≡ true → IsBytes (encode c)
unfolding encode
char_bytes c is = search (rules, one_byte, two_bytes, next_byte, three_bytes, wide_char)

chars_bytes : (cs : List ℕ) → scalars cs ≡ true → IsBytes (encodes cs)
chars_bytes [] is = no_bytes
chars_bytes (c ∷ cs) is =
    let both = and_parts (scalar c) (scalars cs) is in
    bytes_append (encode c) (encodes cs) (char_bytes c both.0) (chars_bytes cs both.1)

utf8_bytes : (t : List ℕ) → IsUtf8 t → IsBytes t
utf8_bytes t u = subst IsBytes u.1.1 (chars_bytes u.0 u.1.0)

-- ---- lookups

-- what was found, if anything, has an integrity
abbrev pub HasIntegrity : Option Found → Type 0
HasIntegrity found = IfSome found (λ f. IsIntegrity f.integrity)

read_has : (e : Entry) (text : List ℕ) (found : Option Found) (r : Result (List Hash) IntegrityFault) → IsBytes text → read_integrity text ≡ r → HasIntegrity found
    → HasIntegrity (unwrap_or (option_map (option_map (found_of e)) (answer_read r)) found)
read_has e text found r bytes is h = grind (arith, read_is_integrity)

answer_has : (e : Entry) (found : Option Found) (integrity : Option (List ℕ)) → IsUtf8IfAny integrity → HasIntegrity found → HasIntegrity (unwrap_or (answer_of e integrity) found)
answer_has e found None utf8 h = tt
answer_has e found (Some text) utf8 h = read_has e text found (read_integrity text) (utf8_bytes text utf8) refl h

one_has : (key : List ℕ) (e : Entry) (found : Option Found) (b : Bool) → IsEntry e → HasIntegrity found
    → HasIntegrity (unwrap_or (cond b (answer_of e e.integrity) None) found)
one_has key e found true formed h = answer_has e found e.integrity formed.integrity h
one_has key e found false formed h = h

fold_has : (key : List ℕ) (found : Option Found) (es : List Entry) → All IsEntry es → HasIntegrity found → HasIntegrity (fold (after_entry key) found es)
fold_has key found [] all h = h
fold_has key found (e ∷ es) all h =
    fold_has key (after_entry key found e) es (All-tail IsEntry e es all) (one_has key e found (bytes_eq e.key key) (All-head IsEntry e es all) h)

pub latest_has : (key : List ℕ) (es : List Entry) → All IsEntry es → HasIntegrity (latest key es)
latest_has key es all = fold_has key None es all tt
