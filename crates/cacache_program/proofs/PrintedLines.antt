-- Lines that come together item by item, lines in order, and items without their messages.
use Rattle.std.proofs.{Common.{◌≡◌, ℕ, ◌+◌, ◌<◌, List, [], ◌∷◌, ◌++◌, ◌||◌, Bool, Ok, Err, Option, map, is_err, refl, sym, subst, ap, ◌∙◌, length, take, get_or, filter_map, option_to_list, arith, append-nil, append_assoc}, lemmas.{List.{get_or-map, length-map, map_more, Elements.{filter_map-append}, Folds.{list_any-append}}, Grind.{flat_map-append}}}
use Rattle.std.specs.List.Sorted.{IsSortedBy}
use Rattle.cacache.specs.Calls.{Item, plain_item}
use Rattle.cacache_program.specs.{declared.lines.Line.{Line as HeldLine}, WordLs.{Line, IsPrintedListing, PutsListing, line_in, has_error, listing_text}, Lines.{line_view}}

-- ---- item by item

-- one line more is its text and a line feed more
pub text_more : (lines : List HeldLine) (i : ℕ) (one : HeldLine) → i < length lines → one ≡ get_or lines i one → listing_text (map line_view (take (i + 1) lines)) ≡ (listing_text (map line_view (take i lines)) ++ one.text.items) ++ 10 ∷ []
text_more lines i one below is =
    let before = listing_text (map line_view (take i lines)) in
    let with_feed : Line → List ℕ = λ l. l.text ++ 10 ∷ [] in
    let last = get_or lines i one in
    ap listing_text (map_more line_view lines i one below)
    ∙ flat_map-append with_feed (map line_view (take i lines)) (line_view last ∷ [])
    ∙ ap (λ (end : List ℕ). before ++ end) (append-nil (with_feed (line_view last)))
    ∙ ap (λ (line : HeldLine). before ++ (line.text.items ++ 10 ∷ [])) (sym is)
    ∙ sym (append_assoc before one.text.items (10 ∷ []))

-- one item more is its line more, if it has one
pub lines_more : (items : List Item) (item : Item) → filter_map line_in (items ++ item ∷ []) ≡ filter_map line_in items ++ option_to_list (line_in item)
lines_more items item = filter_map-append line_in items (item ∷ []) ∙ ap (λ (end : List Line). filter_map line_in items ++ end) (one item)
  where
    one : (i : Item) → filter_map line_in (i ∷ []) ≡ option_to_list (line_in i)
    one (Ok found) = refl
    one (Err error) = refl

-- one item more may be an error
pub errors_more : (items : List Item) (item : Item) → has_error (items ++ item ∷ []) ≡ (has_error items || is_err item)
errors_more items item = list_any-append is_err items (item ∷ []) ∙ ap (λ (b : Bool). has_error items || b) (one item)
  where
    one : (i : Item) → has_error (i ∷ []) ≡ is_err i
    one (Ok found) = refl
    one (Err error) = refl

-- ---- lines in order

-- values that are sorted by what they stand for stand for a sorted list
pub IsSortedBy-map : {X Y : Type 0} (f : X → Y) (lt : Y → Y → Bool) (xs : List X) → IsSortedBy (λ a b. lt (f a) (f b)) xs → IsSortedBy lt (map f xs)
IsSortedBy-map f lt [] up k d low high = absurd (omega (arith, high))
IsSortedBy-map f lt (x ∷ xs) up k d low high =
    let in_xs : k + 1 < length (x ∷ xs) = subst (λ (n : ℕ). k + 1 < n) (length-map (x ∷ xs) f) high in
    rw (get_or-map f (x ∷ xs) (k + 1) x d in_xs, get_or-map f (x ∷ xs) k x d (omega (arith, in_xs))) (up k x low in_xs)

-- ---- items without their messages

-- a message is in no line
plain_lines : (items : List Item) → filter_map line_in (map plain_item items) ≡ filter_map line_in items
plain_lines [] = refl
plain_lines (Ok found ∷ items) = rw (plain_lines items) refl
plain_lines (Err error ∷ items) = plain_lines items

-- an error without its message is an error
plain_errors : (items : List Item) → has_error (map plain_item items) ≡ has_error items
plain_errors [] = refl
plain_errors (Ok found ∷ items) = plain_errors items
plain_errors (Err error ∷ items) = refl

-- a listing of items is one of the items without their messages
pub plain_listing : (items : List Item) (text : List ℕ) → IsPrintedListing items text → IsPrintedListing (map plain_item items) text
plain_listing items text (lines, (permuted, sorted), is) =
    (lines, (rw (plain_lines items) permuted, sorted), is)

-- what is put out for a listing of items is put out for one without their messages
pub plain_puts : (items : List Item) (told : Bool) (text : List ℕ) (before after : Option (List ℕ)) (status : ℕ) → told ≡ has_error items → PutsListing told text before after status → PutsListing (has_error (map plain_item items)) text before after status
plain_puts items told text before after status is put =
    subst (λ (b : Bool). PutsListing b text before after status) (is ∙ sym (plain_errors items)) put
