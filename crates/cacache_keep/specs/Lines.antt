-- What a line of a bucket stands for, and which lines are chosen in two passes.
use Rattle.std.specs.{Prelude.{◌≡◌, ◌||◌, ℕ, List, [], ◌∷◌, Bool, false, None, Some, if◌then◌else◌, bytes_eq, is_some, map, option_map, reverse}, List.{list_any}, BTreeMap.{BTreeMap, get_by}, Borrow.{Bor}, Cmp.Lexicographic.{slice_cmp}, Ordering.{nat_cmp}}
use Rattle.cacache_entry.specs.View.{entry_view}
use Rattle.cacache_laws.specs.trees.Compacting.{Decision, Line, decided, is_odd}
use Rattle.cacache_keep.specs.declared.lines.{Decided.{Decided}, Line.{Line as Held}}

-- ---- views

-- the key of the entry, and whether it is found
abbrev pub decision_view : Decided → Decision
decision_view d = ((entry_view d.entry).key, d.finds)

-- its bytes, and what it decides
abbrev pub line_view : Held → Line
line_view l = (l.text.items, option_map decision_view l.decided)

-- ---- from the last line to the first

-- whether one of the lines decides the key that this one decides
abbrev pub comes_again : Line → List Line → Bool
comes_again (text, None) later = false
comes_again (text, Some d) later = list_any (bytes_eq d.0) (decided later)

-- the odd lines, and each key's last line that decides it
abbrev pub last_lines : List Line → List Line
last_lines [] = []
last_lines (l ∷ ls) = if comes_again l ls then last_lines ls else l ∷ last_lines ls

-- whether the map has the key
abbrev pub has_key : {X : Type 0} → BTreeMap (Bor (List ℕ)) X → List ℕ → Bool
has_key keys key = is_some (get_by (λ k. slice_cmp nat_cmp key k.now) keys)

-- the map has the keys that these lines decide
abbrev pub HasKeys : {X : Type 0} → List Line → BTreeMap (Bor (List ℕ)) X → Type 0
HasKeys lines keys = (key : List ℕ) → has_key keys key ≡ list_any (bytes_eq key) (decided lines)

-- the lines that were met from the end, in the order of the bytes
abbrev pub in_order : List (Bor Held) → List Line
in_order met = map (λ l. line_view l.now) (reverse met)

-- ---- from the first to the last

-- whether the line finds an entry
abbrev pub finds : Line → Bool
finds (text, None) = false
finds (text, Some d) = d.1

-- the lines without tombstones that no odd line comes before; the first argument says whether one
-- came before them
abbrev pub without_tombstones : Bool → List Line → List Line
without_tombstones odd [] = []
without_tombstones odd (l ∷ ls) =
    let now = odd || is_odd l in
    if now || finds l then l ∷ without_tombstones now ls else without_tombstones now ls
