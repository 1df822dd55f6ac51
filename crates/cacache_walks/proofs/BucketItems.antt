-- How the items of a bucket are collected, and which entry decides the lookup of a key.
use Rattle.std.proofs.{Common.{◌≡◌, string_bytes, ℕ, List, [], ◌∷◌, ◌++◌, Bool, true, false, cond, Option, Some, None, bytes_eq, refl, sym, ap, ◌∙◌, map, ◌||◌, option_map, fold, append-nil}, lemmas.{Slice.Eq.{bytes_eq-Decides}, List.{map-append, reverse-append, reverse-reverse}, Map.Text.{btree_map_updates_str}}}
use Rattle.std.specs.{List.{list_any}, Prelude.{Ok, unwrap_or, is_some, if◌then◌else◌, reverse}, Option.{option_or, option_flatten, option_to_list}, BTreeMap.{BTreeMap, get_by, UpdatesBy}, Borrow.{Bor}, Cmp.Lexicographic.{slice_cmp}, Ordering.{nat_cmp}}
use Rattle.cacache_entry.specs.{Entry.{Entry}, Bucket.{Found, answer_of, answer_to, latest, NoneAnswers, entries_of, after_entry}, View.{entry_view}, declared.metadata.SerializableMetadata.{SerializableMetadata}}
use Rattle.cacache_entry.proofs.Lookups.{last_answer_decides}
use Rattle.cacache_calls.specs.{Walking.{once, items_of, items_in}, State.{Item}, Runs.{plain_item}}
use Rattle.cacache_walks.specs.Listing.{keys_in, lookups, added_at, EndsWith, own_answer, decider, entry_in}

-- entries have the same keys as the values that stand for them
pub keys_in_view : (es : List SerializableMetadata) → map (λ (e : Entry). e.key) (map entry_view es) ≡ keys_in es
keys_in_view [] = refl
keys_in_view (e ∷ es) = rw (keys_in_view es) refl

-- an entry adds its item before those of the later entries
pub adds_first : (es : List Entry) (key : List ℕ) (later : List (List ℕ)) → lookups es (once (key ∷ later)) ≡ added_at es key later ++ lookups es (once later)
adds_first es key later = by_test (list_any (bytes_eq key) later)
  where
    by_found : (found : Option Found) → latest key es ≡ found → lookups es (key ∷ once later) ≡ lookups es (key ∷ []) ++ lookups es (once later)
    by_found None e = rw e refl
    by_found (Some f) e = rw e refl

    by_test : (b : Bool) → lookups es (cond b (once later) (key ∷ once later)) ≡ cond b [] (lookups es (key ∷ [])) ++ lookups es (once later)
    by_test true = refl
    by_test false = by_found (latest key es) refl

-- the lookups of all keys are the items
pub all_items : (bytes : List ℕ) (es : List SerializableMetadata) → map entry_view es ≡ entries_of bytes → lookups (entries_of bytes) (once (keys_in es)) ≡ items_in bytes
unfolding items_in
all_items bytes es e =
    ap (λ (keys : List (List ℕ)). lookups (entries_of bytes) (once keys)) (sym (keys_in_view es) ∙ ap (map (λ (e : Entry). e.key)) e)

-- the items of a bucket's entries are those of its bytes
pub items_in-of : (bytes : List ℕ) (es : List SerializableMetadata) → map entry_view es ≡ entries_of bytes → items_of (map entry_view es) ≡ items_in bytes
unfolding items_in
items_in-of bytes es e = ap items_of e

-- ---- the last entry of a key

-- an entry of another key doesn't answer
other_silent : (key : List ℕ) (e : Entry) → bytes_eq key e.key ≡ false → answer_to key e ≡ None
other_silent key e differs = by (bytes_eq e.key key) refl
  where
    by : (b : Bool) → bytes_eq e.key key ≡ b → cond b (answer_of e e.integrity) None ≡ None
    by false is = refl
    by true is = let same : bytes_eq key e.key ≡ true = (bytes_eq-Decides key e.key).1 (sym ((bytes_eq-Decides e.key key).0 is)) in absurd cc

later_silent : (key : List ℕ) (later : List SerializableMetadata) → list_any (bytes_eq key) (keys_in later) ≡ false → NoneAnswers key (map entry_view later)
later_silent key [] none = tt
later_silent key (e ∷ later) none = by (bytes_eq key (string_bytes e.key)) refl (later_silent key later)
  where
    by : (b : Bool) → bytes_eq key (string_bytes e.key) ≡ b → (list_any (bytes_eq key) (keys_in later) ≡ false → NoneAnswers key (map entry_view later)) → NoneAnswers key (map entry_view (e ∷ later))
    by true is rest = let no : true ≡ false = rw is at none in absurd cc
    by false is rest = (other_silent key (entry_view e) is, rest (rw is at none))

-- the lookup of a key finds what the key's last entry answers
pub last_answers : (es : List Entry) (e : SerializableMetadata) (later : List SerializableMetadata) (found : Option Found) → EndsWith es e later
    → list_any (bytes_eq (string_bytes e.key)) (keys_in later) ≡ false → answer_of (entry_view e) (entry_view e).integrity ≡ Some found → latest (string_bytes e.key) es ≡ found
last_answers es e later found ends last is =
    let key = string_bytes e.key in
    let own : answer_to key (entry_view e) ≡ Some found
    = ap (λ b. cond b (answer_of (entry_view e) (entry_view e).integrity) None) ((bytes_eq-Decides key key).1 refl) ∙ is in
    ap (latest key) ends.1 ∙ last_answer_decides key ends.0 (map entry_view later) (entry_view e) found own (later_silent key later last)

-- ---- which entry decides the lookup of a key, and what many entries list

-- a decider's answer replaces what was found before
abbrev Decides : List ℕ → List Entry → Option Found → Option Entry → Type 0
Decides key es found None = fold (after_entry key) found es ≡ found
Decides key es found (Some e) = answer_to key e ≡ Some (fold (after_entry key) found es)

decides : (key : List ℕ) (es : List Entry) (found : Option Found) → Decides key es found (decider key es)
decides key [] found = refl
decides key (e ∷ es) found = by (decider key es) (answer_to key e) refl (decides key es (after_entry key found e))
  where
    by : (o : Option Entry) (a : Option (Option Found)) → answer_to key e ≡ a → Decides key es (after_entry key found e) o
        → Decides key (e ∷ es) found (option_or o (if is_some a then Some e else None))
    by (Some d) a is h = h
    by None (Some f) is h = is ∙ ap Some (sym (h ∙ ap (λ a. unwrap_or a found) is))
    by None None is h = h ∙ ap (λ a. unwrap_or a found) is

-- ---- the deciders from the end

-- an entry that answers decides its key, if no later entry did
pub takes_place : (e : Entry) (old new : List ℕ → Option Entry) (key : List ℕ)
    → (bytes_eq e.key key ≡ true → old key ≡ None) → is_some (answer_of e e.integrity) ≡ true → new key ≡ cond (bytes_eq e.key key) (Some e) (old key)
    → new key ≡ option_or (old key) (if is_some (answer_to key e) then Some e else None)
takes_place e old new key free answers h = h ∙ by (bytes_eq e.key key) refl
  where
    keeps : (o : Option Entry) → o ≡ option_or o None
    keeps None = refl
    keeps (Some d) = refl

    by : (b : Bool) → bytes_eq e.key key ≡ b → cond b (Some e) (old key) ≡ option_or (old key) (if is_some (cond b (answer_of e e.integrity) None) then Some e else None)
    by true is = rw (free is, answers) refl
    by false is = keeps (old key)

-- a key is looked up by its own text; if a map has nothing at a text, it has no entry there
pub has_none : (old : BTreeMap (Bor (List ℕ)) (Bor SerializableMetadata)) (own text key : List ℕ) → text ≡ own
    → is_some (get_by (λ k. slice_cmp nat_cmp text k.now) old) ≡ false → bytes_eq own key ≡ true → entry_in old key ≡ None
has_none old own text key is free same =
    ap (entry_in old) (sym (is ∙ (bytes_eq-Decides own key).0 same)) ∙ none (get_by (λ k. slice_cmp nat_cmp text k.now) old) free
  where
    none : (o : Option (Bor SerializableMetadata)) → is_some o ≡ false → option_map (λ e. entry_view e.now) o ≡ None
    none None e = refl
    none (Some i) e = absurd cc

-- after a change at a key, the map has the new value there, and elsewhere what it had before
pub at_text : (old new : BTreeMap (Bor (List ℕ)) (Bor SerializableMetadata)) (w : Option (Bor SerializableMetadata)) (own text key : List ℕ) → text ≡ own
    → UpdatesBy (λ x y. slice_cmp nat_cmp x.now y.now) (λ k. slice_cmp nat_cmp text k.now) old new w
    → entry_in new key ≡ cond (bytes_eq own key) (option_map (λ e. entry_view e.now) w) (entry_in old key)
at_text old new w own text key is updates =
    ap (option_map (λ e. entry_view e.now)) (btree_map_updates_str text old new w updates key)
    ∙ apart (bytes_eq text key) (get_by (λ k. slice_cmp nat_cmp key k.now) old)
    ∙ ap (λ t. cond (bytes_eq t key) (option_map (λ e. entry_view e.now) w) (entry_in old key)) is
  where
    apart : (b : Bool) (o : Option (Bor SerializableMetadata)) → option_map (λ e. entry_view e.now) (cond b w o) ≡ cond b (option_map (λ e. entry_view e.now) w) (option_map (λ e. entry_view e.now) o)
    apart true o = refl
    apart false o = refl

-- ---- the items from the end

-- the decider that is left at a key, if the later entries have these keys
abbrev pub decider_left : List Entry → List (List ℕ) → List ℕ → Option Entry
decider_left es later key = if list_any (bytes_eq key) later then None else decider key es

-- a key that was already met has no decider left
pub removed : (old new : BTreeMap (Bor (List ℕ)) (Bor SerializableMetadata)) (es : List Entry) (later : List (List ℕ)) (own text : List ℕ) → text ≡ own
    → UpdatesBy (λ x y. slice_cmp nat_cmp x.now y.now) (λ k. slice_cmp nat_cmp text k.now) old new None
    → ((key : List ℕ) → entry_in old key ≡ decider_left es later key) → (key : List ℕ) → entry_in new key ≡ decider_left es (own ∷ later) key
removed old new es later own text is updates left key =
    at_text old new None own text key is updates ∙ ap (cond (bytes_eq own key) None) (left key) ∙ by (bytes_eq own key) (bytes_eq key own) refl refl
  where
    by : (a b : Bool) → bytes_eq own key ≡ a → bytes_eq key own ≡ b → cond a None (decider_left es later key) ≡ (if b || list_any (bytes_eq key) later then None else decider key es)
    by true false h i = let no : true ≡ false = sym ((bytes_eq-Decides key own).1 (sym ((bytes_eq-Decides own key).0 h))) ∙ i in absurd cc
    by false true h i = let no : true ≡ false = sym ((bytes_eq-Decides own key).1 (sym ((bytes_eq-Decides key own).0 i))) ∙ h in absurd cc
    by a b h i = refl

-- a removal returns the decider that was left
pub found_left : (old : BTreeMap (Bor (List ℕ)) (Bor SerializableMetadata)) (es : List Entry) (later : List (List ℕ)) (own text : List ℕ) (d : Bor SerializableMetadata) → text ≡ own
    → Some d ≡ get_by (λ k. slice_cmp nat_cmp text k.now) old → ((key : List ℕ) → entry_in old key ≡ decider_left es later key) → decider_left es later own ≡ Some (entry_view d.now)
found_left old es later own text d is found left = sym (left own) ∙ ap (entry_in old) (sym is) ∙ sym (ap (option_map (λ e. entry_view e.now)) found)

pub none_left : (old : BTreeMap (Bor (List ℕ)) (Bor SerializableMetadata)) (es : List Entry) (later : List (List ℕ)) (own text : List ℕ) → text ≡ own
    → None ≡ get_by (λ k. slice_cmp nat_cmp text k.now) old → ((key : List ℕ) → entry_in old key ≡ decider_left es later key) → decider_left es later own ≡ None
none_left old es later own text is found left = sym (left own) ∙ ap (entry_in old) (sym is) ∙ sym (ap (option_map (λ e. entry_view e.now)) found)

one : (o : Option Item) → reverse (option_to_list o) ≡ option_to_list o
one None = refl
one (Some i) = refl

-- an entry adds its item after those of the later entries
adds_last : (es : List Entry) (key : List ℕ) (later : List (List ℕ)) (o : Option Item) → added_at es key later ≡ option_to_list o
    → reverse (lookups es (once later)) ++ option_to_list o ≡ reverse (lookups es (once (key ∷ later)))
adds_last es key later o is =
    sym (ap reverse (adds_first es key later) ∙ reverse-append (added_at es key later) (lookups es (once later))
    ∙ ap (λ l. reverse (lookups es (once later)) ++ l) (ap reverse is ∙ one o))

looked_up : (es : List Entry) (key : List ℕ) (found : Option Found) → latest key es ≡ found → lookups es (key ∷ []) ≡ option_to_list (option_map Ok found)
looked_up es key None is = rw is refl
looked_up es key (Some f) is = rw is refl

own : (key : List ℕ) (e : Entry) (found : Option Found) → answer_to key e ≡ Some found → found ≡ own_answer e
own key e found = by (bytes_eq e.key key)
  where
    by : (b : Bool) → cond b (answer_of e e.integrity) None ≡ Some found → found ≡ own_answer e
    by true is = sym (ap option_flatten is)
    by false is = absurd cc

-- a decider that is left adds what it answers
pub adds_found : (es : List Entry) (key : List ℕ) (later : List (List ℕ)) (e : Entry) → decider_left es later key ≡ Some e
    → reverse (lookups es (once later)) ++ option_to_list (option_map Ok (own_answer e)) ≡ reverse (lookups es (once (key ∷ later)))
adds_found es key later e left = adds_last es key later (option_map Ok (own_answer e)) (by (list_any (bytes_eq key) later) left)
  where
    answers : (o : Option Entry) → o ≡ Some e → Decides key es None o → latest key es ≡ own_answer e
    answers None is h = absurd cc
    answers (Some d) is h = own key e (latest key es) (ap (answer_to key) (sym (ap (λ (o : Option Entry). unwrap_or o d) is)) ∙ h)

    by : (b : Bool) → (if b then None else decider key es) ≡ Some e → (if b then [] else lookups es (key ∷ [])) ≡ option_to_list (option_map Ok (own_answer e))
    by true is = absurd cc
    by false is = looked_up es key (own_answer e) (answers (decider key es) is (decides key es None))

-- if no decider is left, there is no item
pub adds_none : (es : List Entry) (key : List ℕ) (later : List (List ℕ)) → decider_left es later key ≡ None → reverse (lookups es (once later)) ≡ reverse (lookups es (once (key ∷ later)))
adds_none es key later left = sym (append-nil (reverse (lookups es (once later)))) ∙ adds_last es key later None (by (list_any (bytes_eq key) later) left)
  where
    nothing : (o : Option Entry) → o ≡ None → Decides key es None o → latest key es ≡ None
    nothing None is h = h
    nothing (Some d) is h = absurd cc

    by : (b : Bool) → (if b then None else decider key es) ≡ None → (if b then [] else lookups es (key ∷ [])) ≡ []
    by true is = refl
    by false is = looked_up es key None (nothing (decider key es) is (decides key es None))

map_reverse : {A B : Type 0} (f : A → B) (xs : List A) → map f (reverse xs) ≡ reverse (map f xs)
map_reverse f [] = refl
map_reverse f (x ∷ xs) =
    ap (map f) (reverse-append (x ∷ []) xs) ∙ map-append f (reverse xs) (x ∷ []) ∙ ap (λ l. l ++ f x ∷ []) (map_reverse f xs) ∙ sym (reverse-append (f x ∷ []) (map f xs))

-- at the end, what was collected is the items, reversed
pub items_reversed : (items : List Item) (es : List Entry) (later : List SerializableMetadata) → es ≡ map entry_view later
    → map plain_item items ≡ reverse (lookups es (once (keys_in later))) → map plain_item (reverse items) ≡ items_of es
items_reversed items es later is h =
    map_reverse plain_item items ∙ ap reverse h ∙ reverse-reverse (lookups es (once (keys_in later)))
    ∙ ap (λ (keys : List (List ℕ)). lookups es (once keys)) (sym (keys_in_view later) ∙ ap (map (λ (e : Entry). e.key)) (sym is))
