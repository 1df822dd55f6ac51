-- The entries of a listing, name by name.
use Rattle.std.proofs.{Common.{◌≡◌, ◌==◌, ◌||◌, ◌&&◌, not, ◌⊎◌, suc, ◌<◌, ◌≤◌, ◌+◌, ◌-◌, ◌↔◌, ℕ, Bool, true, false, if◌then◌else◌, List, [], ◌∷◌, ◌++◌, length, take, drop, length-drop, refl, sym, ap, subst, ◌∙◌, inl, inr, arith}, lemmas.{Str.{is_utf8-from_IsUtf8, IsUtf8-from_is_utf8}, List.{take_all, nil_from_length, Splits.{slice_split-cons_no, slice_split_first}}, Bool.Decides.{leb_tells}}, Math.Dec.{leb}}
use Rattle.std.specs.{Prelude.{Option, None, Some, Result, Ok, Err, OnOk, IfErr, IsTrue, IsUtf8}, Bool.{nat_eq}, List.{starts_with, list_any, position, prefix_len, position_or_len, onto_first}, Str.{is_utf8}, Option.{unwrap_or}}
use Rattle.hex.specs.Hex.{encode_lower}
use Rattle.std_io.specs.declared.io.kind.ErrorKind.{ErrorKind}
use Rattle.std_io.specs.declared.io.kind.ErrorKind.TheVariants as kind
use Rattle.cacache_core.specs.Paths.{is_name, is_above, ends_name, IsProperName}
use Rattle.cacache_store.specs.declared.store.answer.{Kind.{Kind, TheVariants.{File}}, Name.{Name}}
use Rattle.cacache_system.specs.{declared.call.CallResult.TheVariants.{Failed}, Seen.{mark, is_odd, text_of, is_proper, is_passed, names_in}, CallsOf.{Stage, Reader, over, taking_memory, asking_kind, entered, ask_kind, next_name, more_names, RunLogged}}
use Rattle.cacache_folder.specs.Listings.{Log, LeadsTo, NamesEntry, EntersName, entering, with_kind, AsksKind, AsksKindIfText, FindsKind, ListsName, CutsName}
use Rattle.cacache_folder.proofs.Listings.{leads_on, leads_run, leads_as, leads_same, leads_took, refused, fails, proceeds_on, proceeds_from}

-- ---- texts of names

odd_if : (name : List ℕ) (b : Bool) → is_odd name ≡ b → text_of name ≡ (if b then mark ++ encode_lower name else name)
unfolding text_of
odd_if name b is = ap (λ (x : Bool). if x then mark ++ encode_lower name else name) is

marked : (name : List ℕ) (a b : Bool) → starts_with nat_eq name mark ≡ a → is_utf8 name ≡ b → is_odd name ≡ (a || not b)
unfolding is_odd
marked name a b first second = ap (λ (x : Bool). x || not (is_utf8 name)) first ∙ ap (λ (x : Bool). a || not x) second

-- one that begins with the mark
pub odd_mark : (name : List ℕ) → starts_with nat_eq name mark ≡ true → text_of name ≡ mark ++ encode_lower name
odd_mark name first = odd_if name true (marked name true (is_utf8 name) first refl)

not_utf8 : (name : List ℕ) (b : Bool) → is_utf8 name ≡ b → ¬ (IsUtf8 name) → b ≡ false
not_utf8 name true is none = absurd (none (IsUtf8-from_is_utf8 name is))
not_utf8 name false is none = refl

-- one that is no text
pub odd_bytes : (name : List ℕ) → starts_with nat_eq name mark ≡ false → ¬ (IsUtf8 name) → text_of name ≡ mark ++ encode_lower name
odd_bytes name first none = odd_if name true (marked name false false first (not_utf8 name (is_utf8 name) refl none))

-- any other
pub even_bytes : (name : List ℕ) → starts_with nat_eq name mark ≡ false → IsUtf8 name → text_of name ≡ name
even_bytes name first some = odd_if name false (marked name false true first (is_utf8-from_IsUtf8 name some))

three : (a b c : Bool) → (a && (not b && not c)) ≡ true → (a ≡ true) × (b ≡ false) × (c ≡ false)
three true false false is = (refl, refl, refl)
three true true c is = absurd (let no_way : false ≡ true = is in cc)
three true false true is = absurd (let no_way : false ≡ true = is in cc)
three false b c is = absurd (let no_way : false ≡ true = is in cc)

proper_one : (text : List ℕ) → is_proper text ≡ true → IsProperName text
unfolding is_proper
proper_one text is = three (is_name text) (is_above text) (list_any ends_name text) is

proper_true : (text : List ℕ) → IsProperName text → is_proper text ≡ true
unfolding is_proper
proper_true text (a, b, c) =
    ap (λ (x : Bool). x && (not (is_above text) && not (list_any ends_name text))) a
    ∙ ap (λ (x : Bool). not x && not (list_any ends_name text)) b ∙ ap (λ (x : Bool). not x) c

proper_false : (text : List ℕ) (b : Bool) → is_proper text ≡ b → ¬ (IsProperName text) → b ≡ false
proper_false text true is none = absurd (none (proper_one text is))
proper_false text false is none = refl

-- ---- entries

entered_if : (name : List ℕ) (what : Kind) (go : Name → Stage) (b : Bool) → is_proper (text_of name) ≡ b
    → taking_memory (if b then go (record { name = text_of name; kind = what }) else over (Failed kind.InvalidFilename)) ≡ entered name what go
entered_if name what go b is =
    ap (λ (x : Bool). taking_memory (if x then go (record { name = text_of name; kind = what }) else over (Failed kind.InvalidFilename))) (sym is)

-- a name is given
pub names_proper : (name text same : List ℕ) (what : Kind) → text ≡ text_of name → same ≡ text → (IsTrue true ↔ IsProperName same)
    → NamesEntry name what (Ok (record { name = text; kind = what }))
names_proper name text same what is at proper go log =
    subst (λ (s : Stage). LeadsTo s (go (record { name = text; kind = what })) log log)
    (entered_if name what go true (proper_true (text_of name) (subst (λ (t : List ℕ). IsProperName t) (at ∙ is) (proper.0 refl))))
    (leads_as (taking_memory (go (record { name = text_of name; kind = what }))) (go (record { name = text_of name; kind = what }))
    (go (record { name = text; kind = what })) log log
    (leads_took (go (record { name = text_of name; kind = what })) log)
    (ap (λ (t : List ℕ). go (record { name = t; kind = what })) (sym is)))

-- it is refused
pub names_odd : (name text same : List ℕ) (what : Kind) → text ≡ text_of name → same ≡ text → (IsTrue false ↔ IsProperName same)
    → NamesEntry name what (Err kind.InvalidFilename)
names_odd name text same what is at proper go log =
    leads_run (entered name what go) (over (Failed kind.InvalidFilename)) (Failed kind.InvalidFilename) log log log
    (subst (λ (s : Stage). LeadsTo s (over (Failed kind.InvalidFilename)) log log)
    (entered_if name what go false (proper_false (text_of name) (is_proper (text_of name)) refl (subst (λ (t : List ℕ). ¬ (IsProperName t)) (at ∙ is) (λ one. absurd (let no_way : false ≡ true = proper.1 one in cc)))))
    (leads_took (over (Failed kind.InvalidFilename)) log))
    (fails (over (Failed kind.InvalidFilename)) kind.InvalidFilename log refl)

-- it is added, or memory is refused
pub enters : (name : List ℕ) (what : Kind) (olds news : List Name) (entry : Name) (r : Result (Unit {0}) ErrorKind) → NamesEntry name what (Ok entry)
    → OnOk r (news ≡ olds ++ entry ∷ []) → IfErr r (λ why. why ≡ kind.OutOfMemory) → EntersName name what olds news r
enters name what olds news entry (Ok value) named grown none go log =
    leads_as (entered name what (λ entry. go (olds ++ entry ∷ []))) (go (olds ++ entry ∷ [])) (go news) log log
    (named (λ entry. go (olds ++ entry ∷ [])) log) (ap go (sym grown))
enters name what olds news entry (Err why) named grown none go log = refused _ why log none

-- ---- kinds

-- what is asked for if the path is text
pub text_asks : (path same : List ℕ) (result : Result (Option Kind) ErrorKind) (old new : Log) → IsUtf8 path → same ≡ path → AsksKind same result old new
    → AsksKindIfText path result old new
text_asks path same result old new some is asks r name names found at =
    proceeds_from (ask_kind r name names found (entering r names found)) (asking_kind r name names found) (with_kind r name names found) result old new
    (ap (λ (b : Bool). if b then asking_kind r name names found else entered name File (entering r names found))
    (is_utf8-from_IsUtf8 (r.folder ++ name) (subst (λ (bytes : List ℕ). IsUtf8 bytes) at some)))
    (asks r name names found (is ∙ at))

-- and if it is none
pub no_text : (path : List ℕ) (log : Log) → ¬ (IsUtf8 path) → AsksKindIfText path (Ok (Some File)) log log
no_text path log none r name names found at =
    leads_same (ask_kind r name names found (entering r names found)) (entered name File (entering r names found)) log
    (ap (λ (b : Bool). if b then asking_kind r name names found else entered name File (entering r names found))
    (not_utf8 (r.folder ++ name) (is_utf8 (r.folder ++ name)) refl (subst (λ (bytes : List ℕ). ¬ (IsUtf8 bytes)) at none)))

-- the same under a folder
pub below_asks : (folder name path : List ℕ) (result : Result (Option Kind) ErrorKind) (old new : Log) → path ≡ folder ++ name
    → AsksKindIfText path result old new → FindsKind folder name result old new
below_asks folder name path result old new is asks r names found at =
    proceeds_on (taking_memory (ask_kind r name names found (entering r names found))) (ask_kind r name names found (entering r names found))
    (with_kind r name names found) result old old new (leads_took (ask_kind r name names found (entering r names found)) old)
    (asks r name names found (is ∙ ap (λ (bytes : List ℕ). bytes ++ name) at))

-- ---- names

next_is : (r : Reader) (name : List ℕ) (names : List (List ℕ)) (found : List Name) → is_passed name ≡ false
    → next_name r (name ∷ names) found ≡ taking_memory (ask_kind r name names found (entering r names found))
next_is r name names found is =
    ap (λ (b : Bool). if b then next_name r names found else taking_memory (ask_kind r name names found (entering r names found))) is

-- a name with a kind that was found
pub adds_kind : (folder name : List ℕ) (found : Option Kind) (what : Kind) (olds news : List Name) (r : Result (Unit {0}) ErrorKind) (old new : Log)
    → is_passed name ≡ false → FindsKind folder name (Ok found) old new → found ≡ Some what → EntersName name what olds news r → ListsName folder name olds news r old new
adds_kind folder name found what olds news r old new is finds some enters reader names at =
    proceeds_from (next_name reader (name ∷ names) olds) (taking_memory (ask_kind reader name names olds (entering reader names olds)))
    (λ _. next_name reader names news) r old new (next_is reader name names olds is)
    (proceeds_on (taking_memory (ask_kind reader name names olds (entering reader names olds))) (entered name what (entering reader names olds))
    (λ _. next_name reader names news) r old new new (subst (λ (f : Option Kind). FindsKind folder name (Ok f) old new) some finds reader names olds at)
    (enters (next_name reader names) new))

-- one that was removed
pub adds_none : (folder name : List ℕ) (found : Option Kind) (olds : List Name) (value : Unit {0}) (old new : Log) → is_passed name ≡ false
    → FindsKind folder name (Ok found) old new → found ≡ None → ListsName {A = Unit {0}} folder name olds olds (Ok value) old new
adds_none folder name found olds value old new is finds gone reader names at =
    proceeds_from {A = Unit {0}} (next_name reader (name ∷ names) olds) (taking_memory (ask_kind reader name names olds (entering reader names olds)))
    (λ _. next_name reader names olds) (Ok value) old new (next_is reader name names olds is)
    (subst (λ (f : Option Kind). FindsKind folder name (Ok f) old new) gone finds reader names olds at)

-- one with a kind that can't be had
pub adds_fails : (folder name : List ℕ) (olds news : List Name) (why : ErrorKind) (old new : Log) → is_passed name ≡ false
    → FindsKind folder name (Err why) old new → ListsName {A = Unit {0}} folder name olds news (Err why) old new
adds_fails folder name olds news why old new is finds reader names at =
    proceeds_from {A = Unit {0}} (next_name reader (name ∷ names) olds) (taking_memory (ask_kind reader name names olds (entering reader names olds)))
    (λ _. next_name reader names news) (Err why) old new (next_is reader name names olds is) (finds reader names olds at)

-- ---- names in bytes

one_more : (x : ℕ) (xs : List ℕ) (b : Bool) → (x == 0) ≡ b → length (x ∷ xs) ≤ (if not b then 1 + prefix_len (λ y. not (y == 0)) xs else 0)
    → (length xs ≤ prefix_len (λ y. not (y == 0)) xs → names_in xs ≡ xs ∷ []) → names_in (x ∷ xs) ≡ (x ∷ xs) ∷ []
one_more x xs true is long rest = absurd (omega (arith, long))
one_more x xs false is long rest =
    slice_split-cons_no (λ y. y == 0) x xs is ∙ ap (λ (pieces : List (List ℕ)). onto_first x pieces) (rest (omega (arith, long)))

one_name : (bytes : List ℕ) → length bytes ≤ prefix_len (λ y. not (y == 0)) bytes → names_in bytes ≡ bytes ∷ []
one_name [] long = refl
one_name (x ∷ xs) long = one_more x xs (x == 0) refl long (one_name xs)

some_so : (k n at : ℕ) → ((leb (suc k) n ≡ true) × (suc k ≤ n)) ⊎ ((leb (suc k) n ≡ false) × (n < suc k)) → Some at ≡ (if leb (suc k) n then Some k else None)
    → (k ≡ at) × (k < n)
some_so k n at (inl holds) is =
    let same : Some at ≡ Some k = is ∙ ap (λ (b : Bool). if b then Some k else None) holds.0 in
    (sym (ap (λ (o : Option ℕ). unwrap_or o 0) same), omega (arith, holds.1))
some_so k n at (inr fails_it) is =
    absurd (let no_way : Some at ≡ None = is ∙ ap (λ (b : Bool). if b then Some k else None) fails_it.0 in cc)

none_so : (k n : ℕ) → ((leb (suc k) n ≡ true) × (suc k ≤ n)) ⊎ ((leb (suc k) n ≡ false) × (n < suc k)) → None ≡ (if leb (suc k) n then Some k else None)
    → n ≤ k
none_so k n (inl holds) is =
    absurd (let no_way : None ≡ Some k = is ∙ ap (λ (b : Bool). if b then Some k else None) holds.0 in cc)
none_so k n (inr fails_it) is = omega (arith, fails_it.1)

abbrev nul_at : List ℕ → ℕ
nul_at bytes = position_or_len (λ b. b == 0) bytes

cut_back : (names : List ℕ) (n : ℕ) → take (length names - n) (drop n names) ≡ drop n names
cut_back names n = take_all (length names - n) (drop n names) (omega (arith, length-drop n names))

-- the first name is taken off
pub cuts_some : (bytes name later : List ℕ) (at : ℕ) → Some at ≡ position (λ b. b == 0) bytes → name ≡ take at bytes
    → later ≡ take (length bytes - (at + 1)) (drop (at + 1) bytes) → CutsName bytes name later
cuts_some bytes name later at is front back =
    let found : (nul_at bytes ≡ at) × (nul_at bytes < length bytes) = some_so (nul_at bytes) (length bytes) at (leb_tells (suc (nul_at bytes)) (length bytes)) is in
    inl (slice_split_first (λ b. b == 0) bytes 0 found.1
    ∙ ap (λ (k : ℕ). take k bytes ∷ names_in (drop (k + 1) bytes)) found.0
    ∙ ap (λ (n : List ℕ). n ∷ names_in (drop (at + 1) bytes)) (sym front) ∙ ap (λ (l : List ℕ). name ∷ names_in l) (sym (back ∙ cut_back bytes (at + 1))))

-- there is only one
pub cuts_none : (bytes later : List ℕ) → None ≡ position (λ b. b == 0) bytes → later ≡ take (length bytes - length bytes) (drop (length bytes) bytes)
    → CutsName bytes bytes later
cuts_none bytes later is none =
    inr (
      one_name bytes (none_so (nul_at bytes) (length bytes) (leb_tells (suc (nul_at bytes)) (length bytes)) is),
      nil_from_length later (ap (λ (l : List ℕ). length l) (none ∙ cut_back bytes (length bytes)) ∙ length-drop (length bytes) bytes ∙ omega arith),
    )

-- one more name of some bytes
pub lists_more : (s : Stage) (reader : Reader) (folder bytes name later : List ℕ) (olds news : List Name) (value : Unit {0}) (old mid new : Log)
    → LeadsTo s (next_name reader (names_in bytes) olds) old mid → CutsName bytes name later → ListsName {A = Unit {0}} folder name olds news (Ok value) mid new
    → folder ≡ reader.folder → LeadsTo s (next_name reader (names_in later) news) old new
lists_more s reader folder bytes name later olds news value old mid new before (inl cut) lists at =
    leads_on s (next_name reader (name ∷ names_in later) olds) (next_name reader (names_in later) news) old mid new
    (leads_as s (next_name reader (names_in bytes) olds) (next_name reader (name ∷ names_in later) olds) old mid before
    (ap (λ (names : List (List ℕ)). next_name reader names olds) cut))
    (lists reader (names_in later) at)
lists_more s reader folder bytes name later olds news value old mid new before (inr cut) lists at =
    leads_as s (more_names reader news) (next_name reader (names_in later) news) old new
    (leads_on s (next_name reader (name ∷ []) olds) (more_names reader news) old mid new
    (leads_as s (next_name reader (names_in bytes) olds) (next_name reader (name ∷ []) olds) old mid before
    (ap (λ (names : List (List ℕ)). next_name reader names olds) cut.0))
    (lists reader [] at))
    (ap (λ (l : List ℕ). next_name reader (names_in l) news) (sym cut.1))

-- one that can't be listed
pub lists_fails : (s : Stage) (reader : Reader) (folder bytes name later : List ℕ) (olds news : List Name) (why : ErrorKind) (old mid new : Log)
    → LeadsTo s (next_name reader (names_in bytes) olds) old mid → CutsName bytes name later → ListsName {A = Unit {0}} folder name olds news (Err why) mid new
    → folder ≡ reader.folder → RunLogged s (Failed why) old new
lists_fails s reader folder bytes name later olds news why old mid new before (inl cut) lists at =
    leads_run s (next_name reader (name ∷ names_in later) olds) (Failed why) old mid new
    (leads_as s (next_name reader (names_in bytes) olds) (next_name reader (name ∷ names_in later) olds) old mid before
    (ap (λ (names : List (List ℕ)). next_name reader names olds) cut))
    (lists reader (names_in later) at)
lists_fails s reader folder bytes name later olds news why old mid new before (inr cut) lists at =
    leads_run s (next_name reader (name ∷ []) olds) (Failed why) old mid new
    (leads_as s (next_name reader (names_in bytes) olds) (next_name reader (name ∷ []) olds) old mid before
    (ap (λ (names : List (List ℕ)). next_name reader names olds) cut.0))
    (lists reader [] at)

-- all of them
pub lists_all : (s : Stage) (reader : Reader) (bytes : List ℕ) (news : List Name) (old new : Log) → LeadsTo s (next_name reader (names_in bytes) news) old new
    → length bytes ≡ 0 → LeadsTo s (more_names reader news) old new
lists_all s reader bytes news old new before is =
    leads_as s (next_name reader (names_in bytes) news) (more_names reader news) old new before
    (ap (λ (l : List ℕ). next_name reader (names_in l) news) (nil_from_length bytes is))
