-- What our own lookups find in lines, and which keys a listing looks up.
use Rattle.std.proofs.{Common.{arith, rules, ◌≡◌, ◌⊎◌, inl, inr, ℕ, List, [], ◌∷◌, Bool, true, false, cond, not, ◌&&◌, ◌||◌, Option, Some, None, option_map, fold, map, filter_map, refl, sym, ap, subst, ◌∙◌, bytes_eq}, lemmas.{Grind.{common_steps}, Slice.Eq.{bytes_eq-Decides}, Bool.{or_parts}}}
use Rattle.std.specs.{Prelude.{is_some, option_and_then, unwrap_or}, List.{cons_option, list_any}, Option.{option_flatten}, Str.{is_utf8}}
use Rattle.cacache_entry.specs.{Entry.{Entry}, EntryTexts.{read_entry}, Bucket.{cut, without_cr, entry_of_parts, entry_of_piece, entries_of, Found, answer_of, after_entry, latest}}
use Rattle.cacache_calls.specs.{State.{Item}, Walking.{once}}
use Rattle.cacache_laws.specs.trees.Compacting.{Decision, Line, ReadsLines, compact_text, decided, decision, decision_of, found_at, found_by, is_line, kept, line_of_piece, lines_of, signed_parts}
use Rattle.cacache_laws.proofs.trees.Compactions.{CompactLines.{ArePieces, texts}, CompactTwice.{after, compact_texts_keep_found, next}}

-- ---- we are such a reader

none_either : (b : Bool) → cond {A = Option Entry} b None None ≡ None
none_either b = grind (arith, common_steps)

unsigned : (parts : List (List ℕ)) → signed_parts parts ≡ false → entry_of_parts parts ≡ None
unsigned parts is = grind (arith, common_steps)

-- what is no line is no entry
pub no_entry : (p : List ℕ) → is_line p ≡ false → entry_of_piece (without_cr p) ≡ None
no_entry p is = search (rules, unsigned, none_either)

pub ours : ReadsLines decision
ours = record { lines = λ p is. ap (option_and_then decision_of) (no_entry p is); decisions = λ p d is. is }

-- ---- lookups

-- what the entry of a piece is found as
abbrev pub found_in : List ℕ → Option Found
found_in p = option_and_then (λ (e : Entry). option_flatten (answer_of e e.integrity)) (entry_of_piece (without_cr p))

-- a lookup finds the entry of the line that we find
abbrev pub found_as : Option (List ℕ) → Option Found
found_as o = option_and_then found_in o

pub same_key : (a b : List ℕ) → bytes_eq a b ≡ bytes_eq b a
same_key a b = search rules

-- an entry answers what its piece decides
answers : (key p : List ℕ) (e : Entry) (o : Option (List ℕ)) → entry_of_piece (without_cr p) ≡ Some e → after_entry key (found_as o) e ≡ found_as (next decision ours key o p)
answers key p e o is =
    ap (λ (c : Bool). unwrap_or (cond c (answer_of e e.integrity) None) (found_as o)) (same_key e.key key)
    ∙ by (answer_of e e.integrity) refl (bytes_eq key e.key) refl ∙ sym (ap (λ (x : Option Entry). found_as (found_at key o p (option_and_then decision_of x))) is)
  where
    entry_found : (a : Option (Option Found)) → answer_of e e.integrity ≡ a → found_in p ≡ option_flatten a
    entry_found a h = ap (option_and_then (λ (e : Entry). option_flatten (answer_of e e.integrity))) is ∙ ap option_flatten h

    by : (a : Option (Option Found)) → answer_of e e.integrity ≡ a → (c : Bool) → bytes_eq key e.key ≡ c
        → unwrap_or (cond c (answer_of e e.integrity) None) (found_as o) ≡ found_as (found_at key o p (option_map (λ (x : Option Found). (e.key, is_some x)) (answer_of e e.integrity)))
    by None h true k = rw h refl
    by None h false k = rw h refl
    by (Some f) h false k = rw (h, k) refl
    by (Some None) h true k = rw (h, k) refl
    by (Some (Some f)) h true k = rw (h, k) (sym (entry_found (Some (Some f)) h))

in_entries : (key : List ℕ) (ps : List (List ℕ)) (o : Option (List ℕ)) → fold (after_entry key) (found_as o) (filter_map entry_of_piece (map without_cr ps)) ≡ found_as (after decision ours key o ps)
in_entries key [] o = refl
in_entries key (p ∷ ps) o = by (entry_of_piece (without_cr p)) refl (λ f. in_entries key ps f)
  where
    by : (x : Option Entry) → entry_of_piece (without_cr p) ≡ x
        → ((f : Option (List ℕ)) → fold (after_entry key) (found_as f) (filter_map entry_of_piece (map without_cr ps)) ≡ found_as (after decision ours key f ps))
        → fold (after_entry key) (found_as o) (cons_option x (filter_map entry_of_piece (map without_cr ps))) ≡ found_as (after decision ours key (next decision ours key o p) ps)
    by None is rest = rest o ∙ ap (λ (x : Option Entry). found_as (after decision ours key (found_at key o p (option_and_then decision_of x)) ps)) (sym is)
    by (Some e) is rest = ap (λ (f : Option Found). fold (after_entry key) f (filter_map entry_of_piece (map without_cr ps))) (answers key p e o is) ∙ rest (next decision ours key o p)

-- a lookup finds the line that we find as a reader
pub latest_is : (key x : List ℕ) → latest key (entries_of x) ≡ found_as (found_by decision key x)
latest_is key x = in_entries key (cut 10 x) None

pub finds_same : (durable : Bool) (x key : List ℕ) → latest key (entries_of (compact_text durable x)) ≡ latest key (entries_of x)
finds_same durable x key = latest_is key (compact_text durable x) ∙ ap found_as (compact_texts_keep_found decision durable x key ours) ∙ sym (latest_is key x)

-- ---- the keys of entries

-- the key of a piece's entry
abbrev pub key_at : List ℕ → Option (List ℕ)
key_at p = option_map (λ (e : Entry). e.key) (entry_of_piece (without_cr p))

abbrev pub keys : List Line → List (List ℕ)
keys ls = filter_map key_at (texts ls)

entry_keys : (ps : List (List ℕ)) → map (λ (e : Entry). e.key) (filter_map entry_of_piece (map without_cr ps)) ≡ filter_map key_at ps
entry_keys [] = refl
entry_keys (p ∷ ps) = by (entry_of_piece (without_cr p)) (entry_keys ps)
  where
    by : (o : Option Entry) → map (λ (e : Entry). e.key) (filter_map entry_of_piece (map without_cr ps)) ≡ filter_map key_at ps
        → map (λ (e : Entry). e.key) (cons_option o (filter_map entry_of_piece (map without_cr ps))) ≡ cons_option (option_map (λ (e : Entry). e.key) o) (filter_map key_at ps)
    by None rest = rest
    by (Some e) rest = ap (λ (ks : List (List ℕ)). e.key ∷ ks) rest

line_keys : (ps : List (List ℕ)) → filter_map key_at ps ≡ keys (filter_map line_of_piece ps)
line_keys [] = refl
line_keys (p ∷ ps) = by (is_line p) refl (line_keys ps)
  where
    by : (b : Bool) → is_line p ≡ b → filter_map key_at ps ≡ keys (filter_map line_of_piece ps)
        → cons_option (key_at p) (filter_map key_at ps) ≡ keys (cons_option (cond b (Some (p, decision p)) None) (filter_map line_of_piece ps))
    by true is rest = ap (cons_option (key_at p)) rest
    by false is rest = ap (λ (o : Option Entry). cons_option (option_map (λ (e : Entry). e.key) o) (filter_map key_at ps)) (no_entry p is) ∙ rest

-- the keys of the entries of bytes are those of their lines
pub keys_of : (x : List ℕ) → map (λ (e : Entry). e.key) (entries_of x) ≡ keys (lines_of x)
keys_of x = entry_keys (cut 10 x) ∙ line_keys (cut 10 x)

-- a piece decides the key of its entry
pub own_key : (p : List ℕ) (d : Decision) → decision p ≡ Some d → key_at p ≡ Some d.0
own_key p d = search rules

-- ---- what a listing looks up

module _ (item : List ℕ → Option Item) where
  -- the keys of tombstones that decide them have no item
  abbrev pub Hides : List Line → Type 0
  Hides [] = Unit {0}
  Hides ((t, None) ∷ ls) = Hides ls
  Hides ((t, Some d) ∷ ls) = (list_any (bytes_eq d.0) (decided ls) ≡ false → d.1 ≡ false → item d.0 ≡ None) × Hides ls

  -- the items of keys, each once
  abbrev pub items : List (List ℕ) → List Item
  items ks = filter_map item (once ks)

  -- a key that comes later too, or has no item, adds none
  adds_none : (k : List ℕ) (ks : List (List ℕ)) → item k ≡ None → items (k ∷ ks) ≡ items ks
  adds_none k ks is = search rules

  comes_again : (k : List ℕ) (ks : List (List ℕ)) → list_any (bytes_eq k) ks ≡ true → items (k ∷ ks) ≡ items ks
  comes_again k ks is = ap (λ (b : Bool). filter_map item (cond b (once ks) (k ∷ once ks))) is

  -- the key is among both or neither, or has no item
  abbrev Alike : List ℕ → List (List ℕ) → List (List ℕ) → Type 0
  Alike k ks ms = (list_any (bytes_eq k) ks ≡ list_any (bytes_eq k) ms) ⊎ (item k ≡ None)

  adds_alike : (k : List ℕ) (ks ms : List (List ℕ)) → Alike k ks ms → items ks ≡ items ms → items (k ∷ ks) ≡ items (k ∷ ms)
  adds_alike k ks ms h rest = grind (arith, adds_none)

  -- a key that lines decide is among theirs
  decided_keys : (k : List ℕ) (ls : List Line) → ArePieces ls → list_any (bytes_eq k) (decided ls) ≡ true → list_any (bytes_eq k) (keys ls) ≡ true
  decided_keys k [] are is = is
  decided_keys k ((t, None) ∷ ls) are is = by (key_at t) (decided_keys k ls are.1 is)
    where
      by : (o : Option (List ℕ)) → list_any (bytes_eq k) (keys ls) ≡ true → list_any (bytes_eq k) (cons_option o (keys ls)) ≡ true
      by None rest = rest
      by (Some q) rest = one (bytes_eq k q) rest
        where
          one : (b : Bool) → list_any (bytes_eq k) (keys ls) ≡ true → (b || list_any (bytes_eq k) (keys ls)) ≡ true
          one true rest = refl
          one false rest = rest
  decided_keys k ((t, Some d) ∷ ls) are is =
      ap (λ (o : Option (List ℕ)). list_any (bytes_eq k) (cons_option o (keys ls))) (own_key t d are.0.2) ∙ by (bytes_eq k d.0) is (λ h. decided_keys k ls are.1 h)
    where
      by : (b : Bool) → (b || list_any (bytes_eq k) (decided ls)) ≡ true → (list_any (bytes_eq k) (decided ls) ≡ true → list_any (bytes_eq k) (keys ls) ≡ true) → (b || list_any (bytes_eq k) (keys ls)) ≡ true
      by true is rest = refl
      by false is rest = rest is

  -- each key is among those that stay, or has no item
  still_there : (k : List ℕ) (odd : Bool) (ls : List Line) → ArePieces ls → Hides ls → Alike k (keys (kept odd ls)) (keys ls)
  still_there k odd [] are hides = inl refl
  still_there k odd ((t, None) ∷ ls) are hides = by (key_at t) (still_there k true ls are.1 hides)
    where
      by : (o : Option (List ℕ)) → Alike k (keys (kept true ls)) (keys ls) → Alike k (cons_option o (keys (kept true ls))) (cons_option o (keys ls))
      by None rest = rest
      by (Some q) (inl same) = inl (ap (λ (b : Bool). bytes_eq k q || b) same)
      by (Some q) (inr none) = inr none
  still_there k odd ((t, Some d) ∷ ls) are hides =
      subst (λ (o : Option (List ℕ)). Alike k (keys (kept odd ((t, Some d) ∷ ls))) (cons_option o (keys ls))) (sym named)
      (by (list_any (bytes_eq d.0) (decided ls)) refl (d.1 || odd) refl (bytes_eq k d.0) refl (still_there k odd ls are.1 hides.1))
    where
      named : key_at t ≡ Some d.0
      named = own_key t d are.0.2

      by : (a : Bool) → list_any (bytes_eq d.0) (decided ls) ≡ a → (b : Bool) → (d.1 || odd) ≡ b → (c : Bool) → bytes_eq k d.0 ≡ c → Alike k (keys (kept odd ls)) (keys ls)
          → Alike k (keys (cond (not a && b) ((t, Some d) ∷ kept odd ls) (kept odd ls))) (d.0 ∷ keys ls)
      by a e b f c g (inr none) = inr none
      by true e b f false g (inl same) = inl (same ∙ sym (ap (λ (x : Bool). x || list_any (bytes_eq k) (keys ls)) g))
      by true e b f true g (inl same) =
          let later = ap (λ (q : List ℕ). list_any (bytes_eq q) (decided ls)) ((bytes_eq-Decides k d.0).0 g) ∙ e in
          inl (same ∙ decided_keys k ls are.1 later ∙ sym (ap (λ (x : Bool). x || list_any (bytes_eq k) (keys ls)) g))
      by false e true f c g (inl same) =
          inl (ap (λ (o : Option (List ℕ)). list_any (bytes_eq k) (cons_option o (keys (kept odd ls)))) named ∙ ap (λ (x : Bool). bytes_eq k d.0 || x) same)
      by false e false f false g (inl same) = inl (same ∙ sym (ap (λ (x : Bool). x || list_any (bytes_eq k) (keys ls)) g))
      by false e false f true g (inl same) = inr (ap item ((bytes_eq-Decides k d.0).0 g) ∙ hides.0 e (or_parts d.1 odd f).0)

  -- so they have the same items
  pub same_items : (odd : Bool) (ls : List Line) → ArePieces ls → Hides ls → items (keys (kept odd ls)) ≡ items (keys ls)
  same_items odd [] are hides = refl
  same_items odd ((t, None) ∷ ls) are hides = by (key_at t) (λ k. still_there k true ls are.1 hides) (same_items true ls are.1 hides)
    where
      by : (o : Option (List ℕ)) → ((k : List ℕ) → Alike k (keys (kept true ls)) (keys ls)) → items (keys (kept true ls)) ≡ items (keys ls) → items (cons_option o (keys (kept true ls))) ≡ items (cons_option o (keys ls))
      by None there rest = rest
      by (Some q) there rest = adds_alike q (keys (kept true ls)) (keys ls) (there q) rest
  same_items odd ((t, Some d) ∷ ls) are hides =
      by (list_any (bytes_eq d.0) (decided ls)) refl (d.1 || odd) refl (still_there d.0 odd ls are.1 hides.1) (same_items odd ls are.1 hides.1)
      ∙ sym (ap (λ (o : Option (List ℕ)). items (cons_option o (keys ls))) named)
    where
      named : key_at t ≡ Some d.0
      named = own_key t d are.0.2

      by : (a : Bool) → list_any (bytes_eq d.0) (decided ls) ≡ a → (b : Bool) → (d.1 || odd) ≡ b → Alike d.0 (keys (kept odd ls)) (keys ls) → items (keys (kept odd ls)) ≡ items (keys ls)
          → items (keys (cond (not a && b) ((t, Some d) ∷ kept odd ls) (kept odd ls))) ≡ items (d.0 ∷ keys ls)
      by true e b f there rest = rest ∙ sym (comes_again d.0 (keys ls) (decided_keys d.0 ls are.1 e))
      by false e true f there rest =
          ap (λ (o : Option (List ℕ)). items (cons_option o (keys (kept odd ls)))) named ∙ adds_alike d.0 (keys (kept odd ls)) (keys ls) there rest
      by false e false f there rest = rest ∙ sym (adds_none d.0 (keys ls) (hides.0 e (or_parts d.1 odd f).0))

-- ---- tombstones that decide their keys

-- lines that don't decide the key find nothing for it
pub undecided : (key : List ℕ) (ls : List Line) (o : Option (List ℕ)) → ArePieces ls → list_any (bytes_eq key) (decided ls) ≡ false → after decision ours key o (texts ls) ≡ o
undecided key [] o are none = refl
undecided key ((t, None) ∷ ls) o are none = ap (λ (f : Option (List ℕ)). after decision ours key f (texts ls)) (ap (found_at key o t) are.0.2) ∙ undecided key ls o are.1 none
undecided key ((t, Some d) ∷ ls) o are none =
    let parts = or_parts (bytes_eq key d.0) (list_any (bytes_eq key) (decided ls)) none in
    ap (λ (f : Option (List ℕ)). after decision ours key f (texts ls)) (ap (found_at key o t) are.0.2 ∙ ap (λ (c : Bool). cond c (cond d.1 (Some t) None) o) parts.0) ∙ undecided key ls o are.1 parts.1

pub hidden : (item : List ℕ → Option Item) (last start : List ℕ → Option (List ℕ)) (ls : List Line) → ArePieces ls → ((key : List ℕ) → last key ≡ None → item key ≡ None)
    → ((key : List ℕ) → last key ≡ after decision ours key (start key) (texts ls)) → Hides item ls
hidden item last start [] are quiet is = tt
hidden item last start ((t, None) ∷ ls) are quiet is =
    hidden item last start ls are.1 quiet (λ key. is key ∙ ap (λ (f : Option (List ℕ)). after decision ours key f (texts ls)) (ap (found_at key (start key) t) are.0.2))
hidden item last start ((t, Some d) ∷ ls) are quiet is = (
  λ none tomb.
      quiet d.0
      (is d.0 ∙ undecided d.0 ls (next decision ours d.0 (start d.0) t) are.1 none ∙ ap (found_at d.0 (start d.0) t) are.0.2
      ∙ ap (λ (c : Bool). cond c (cond d.1 (Some t) None) (start d.0)) ((bytes_eq-Decides d.0 d.0).1 refl) ∙ ap (λ (c : Bool). cond c (Some t) None) tomb),
  hidden item last (λ key. next decision ours key (start key) t) ls are.1 quiet is,
)
