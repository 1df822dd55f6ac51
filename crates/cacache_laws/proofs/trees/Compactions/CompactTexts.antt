-- What our own lookups and listings answer in compacted bytes.
use Rattle.std.proofs.{Common.{rules, ◌≡◌, ℕ, suc, List, [], ◌∷◌, Bool, true, false, cond, not, ◌&&◌, ◌||◌, Option, Some, None, option_map, map, filter_map, length, refl, sym, ap, ◌∙◌, bytes_eq}, lemmas.Slice.Eq.{bytes_eq-Decides}}
use Rattle.std.specs.{Prelude.{Ok, filter, is_some, option_and_then}, List.{cons_option, list_any}, Option.{option_flatten}}
use Rattle.cacache_entry.specs.{Entry.{Entry}, Bucket.{without_cr, entry_of_piece, entries_of, Found, answer_of, latest}}
use Rattle.cacache_calls.specs.{State.{Item}, Walking.{once, items_of, items_in}}
use Rattle.cacache_laws.specs.trees.Compacting.{CompactTextsAnswer, Decision, Line, compact_text, decided, decision, decision_of, found_at, found_by, is_odd, kept, lines_of, odd_lines}
use Rattle.cacache_laws.proofs.trees.Compactions.{CompactLines.{ArePieces, pieces_are, texts, kept_decided, kept_odd, kept_once}, CompactTwice.{compact_lines, kept_are, after, in_bytes, next}, CompactAnswers.{finds_same, found_as, found_in, hidden, keys, keys_of, latest_is, ours, own_key, same_items, undecided}}

same_filter : {X Y : Type 0} (f g : X → Option Y) (xs : List X) → ((x : X) → f x ≡ g x) → filter_map f xs ≡ filter_map g xs
same_filter f g [] same = refl
same_filter f g (x ∷ xs) same = ap (λ o. cons_option o (filter_map f xs)) (same x) ∙ ap (cons_option (g x)) (same_filter f g xs same)

lists_same : (durable : Bool) (x : List ℕ) → items_of (entries_of (compact_text durable x)) ≡ items_of (entries_of x)
lists_same durable x =
    let y = compact_text durable x in
    let item : List ℕ → Option Item = λ key. option_map Ok (latest key (entries_of x)) in
    let are = pieces_are x in
    let hides = hidden item (λ key. found_by decision key x) (λ key. None) (lines_of x) are (λ key none. ap (option_map Ok) (latest_is key x ∙ ap found_as none)) (λ key. in_bytes decision ours key x) in
    same_filter (λ key. option_map Ok (latest key (entries_of y))) item (once (map (λ (e : Entry). e.key) (entries_of y))) (λ key. ap (option_map Ok) (finds_same durable x key))
    ∙ ap (λ (ks : List (List ℕ)). filter_map item (once ks)) (keys_of y ∙ ap keys (compact_lines durable x)) ∙ same_items item false (lines_of x) are hides
    ∙ sym (ap (λ (ks : List (List ℕ)). filter_map item (once ks)) (keys_of x))

-- ---- without odd lines

-- each line finds an entry, and no later one decides its key
abbrev Bare : List Line → Type 0
Bare [] = Unit {0}
Bare ((t, None) ∷ ls) = ⊥
Bare ((t, Some d) ∷ ls) = (d.1 ≡ true) × (list_any (bytes_eq d.0) (decided ls) ≡ false) × Bare ls

kept_bare : (ls : List Line) → filter is_odd ls ≡ [] → Bare (kept false ls)
kept_bare [] none = tt
kept_bare ((t, None) ∷ ls) none = absurd cc
kept_bare ((t, Some d) ∷ ls) none = by (list_any (bytes_eq d.0) (decided ls)) refl d.1 refl (kept_bare ls none)
  where
    by : (a : Bool) → list_any (bytes_eq d.0) (decided ls) ≡ a → (b : Bool) → d.1 ≡ b → Bare (kept false ls) → Bare (cond (not a && (b || false)) ((t, Some d) ∷ kept false ls) (kept false ls))
    by true e b f rest = rest
    by false e false f rest = rest
    by false e true f rest = (f, kept_decided d.0 false ls e, rest)

-- what finds an entry is found
finds : (t : List ℕ) (d : Decision) → decision t ≡ Some d → d.1 ≡ true → (f : Found) × (found_in t ≡ Some f)
finds t d is so = by (entry_of_piece (without_cr t)) is
  where
    at : (e : Entry) (a : Option (Option Found)) → option_map (λ (x : Option Found). (e.key, is_some x)) a ≡ Some d → (f : Found) × (option_flatten a ≡ Some f)
    at e None h = absurd cc
    at e (Some None) h = absurd (let no : Some false ≡ Some true = ap (option_map (λ (c : Decision). c.1)) h ∙ ap Some so in cc)
    at e (Some (Some f)) h = (f, refl)

    by : (o : Option Entry) → option_and_then decision_of o ≡ Some d → (f : Found) × (option_and_then (λ (e : Entry). option_flatten (answer_of e e.integrity)) o ≡ Some f)
    by None h = absurd cc
    by (Some e) h = at e (answer_of e e.integrity) h

-- their keys are those of their entries
bare_keys : (ls : List Line) → ArePieces ls → Bare ls → keys ls ≡ decided ls
bare_keys [] are bare = refl
bare_keys ((t, None) ∷ ls) are bare = absurd bare
bare_keys ((t, Some d) ∷ ls) are bare = ap (λ (o : Option (List ℕ)). cons_option o (keys ls)) (own_key t d are.0.2) ∙ ap (λ (ks : List (List ℕ)). d.0 ∷ ks) (bare_keys ls are.1 bare.2)

-- and each has an item
bare_items : (item : List ℕ → Option Item) (start : List ℕ → Option (List ℕ)) (ls : List Line) → ArePieces ls → Bare ls
    → ((key : List ℕ) → item key ≡ option_map Ok (found_as (after decision ours key (start key) (texts ls)))) → length (filter_map item (decided ls)) ≡ length (decided ls)
bare_items item start [] are bare is = refl
bare_items item start ((t, None) ∷ ls) are bare is = absurd bare
bare_items item start ((t, Some d) ∷ ls) are bare is =
    let last : after decision ours d.0 (start d.0) (t ∷ texts ls) ≡ Some t
    = undecided d.0 ls (next decision ours d.0 (start d.0) t) are.1 bare.1 ∙ ap (found_at d.0 (start d.0) t) are.0.2
    ∙ ap (λ (c : Bool). cond c (cond d.1 (Some t) None) (start d.0)) ((bytes_eq-Decides d.0 d.0).1 refl) ∙ ap (λ (c : Bool). cond c (Some t) None) bare.0 in
    ap (λ (o : Option Item). length (cons_option o (filter_map item (decided ls)))) (is d.0 ∙ ap (λ (o : Option (List ℕ)). option_map Ok (found_as o)) last ∙ ap (option_map Ok) (finds t d are.0.2 bare.0).1)
    ∙ ap suc (bare_items item (λ key. next decision ours key (start key) t) ls are.1 bare.2 is)

same_count : (es : List Entry) → length es ≡ length (map (λ (e : Entry). e.key) es)
same_count [] = refl
same_count (e ∷ es) = ap suc (same_count es)

-- compacted bytes without odd lines have one entry for each item
lean_bytes : (durable : Bool) (x : List ℕ) → odd_lines x ≡ [] → length (entries_of (compact_text durable x)) ≡ length (items_of (entries_of x))
lean_bytes durable x none =
    let y = compact_text durable x in
    let ls = kept false (lines_of x) in
    let bare = kept_bare (lines_of x) none in
    let item : List ℕ → Option Item = λ key. option_map Ok (latest key (entries_of y)) in
    let own = keys_of y ∙ ap keys (compact_lines durable x) ∙ bare_keys ls (kept_are x) bare in
    let found : (key : List ℕ) → item key ≡ option_map Ok (found_as (after decision ours key None (texts ls)))
    = λ key. ap (option_map Ok) (latest_is key y ∙ ap found_as (in_bytes decision ours key y ∙ ap (λ (l : List Line). after decision ours key None (texts l)) (compact_lines durable x))) in
    same_count (entries_of y) ∙ ap length own ∙ sym (bare_items item (λ key. None) ls (kept_are x) bare found)
    ∙ sym (ap (λ (ks : List (List ℕ)). length (filter_map item ks)) (ap once own ∙ kept_once false (lines_of x))) ∙ ap length (lists_same durable x)

-- ---- compacted bytes

-- each lookup and the listing of compacted bytes are those of the bytes
pub compact_texts_answer : CompactTextsAnswer
unfolding items_in
compact_texts_answer durable x = search (rules, finds, finds_same, lists_same, compact_lines, kept_odd, kept_once, lean_bytes)
