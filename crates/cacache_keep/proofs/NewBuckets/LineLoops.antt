-- How the lines of a bucket come together, and which are chosen.
use Rattle.std.proofs.{Common.{◌≡◌, ◌+◌, ℕ, List, [], ◌∷◌, ◌++◌, Bool, true, false, cond, not, ◌&&◌, ◌||◌, Option, Some, None, map, filter_map, drop, take, refl, sym, ap, subst, ◌∙◌, bytes_eq}, lemmas.{List.{reverse-append}, Map.Text.{btree_map_updates_str}, Bool.{or_right}}}
use Rattle.std.specs.{Prelude.{is_some}, List.{cons_option, list_any}, Option.{option_to_list}, BTreeMap.{BTreeMap, UpdatesBy, get_by}, Borrow.{Bor}, Cmp.Lexicographic.{slice_cmp}, Ordering.{nat_cmp}}
use Rattle.cacache_entry.specs.Bucket.{CutsAt}
use Rattle.cacache_laws.{specs.trees.Compacting.{Decision, Line, decided, kept, line_of_piece, lines_of}, proofs.trees.Compactions.CompactAnswers.{same_key}}
use Rattle.cacache_keep.specs.{Lines.{HasKeys, has_key, in_order, last_lines, line_view, without_tombstones}, declared.lines.Line.{Line as Held}}
use Rattle.cacache_loss.proofs.PathMaps.{or_false}

onto : (o : Option Line) (ls : List Line) → cons_option o ls ≡ option_to_list o ++ ls
onto None ls = refl
onto (Some l) ls = refl

-- the line of the first piece, and those of what follows it
pub lines_first : (bs : List ℕ) (i : ℕ) → CutsAt 10 bs i → lines_of bs ≡ option_to_list (line_of_piece (take i bs)) ++ lines_of (drop (i + 1) bs)
lines_first bs i h = ap (filter_map line_of_piece) h.2 ∙ onto (line_of_piece (take i bs)) (lines_of (drop (i + 1) bs))

-- ---- two passes

either_way : (a b : Bool) → (a || b) ≡ (b || a)
either_way true true = refl
either_way true false = refl
either_way false true = refl
either_way false false = refl

-- the two passes choose the lines that stay
pub two_passes : (odd : Bool) (ls : List Line) → without_tombstones odd (last_lines ls) ≡ kept odd ls
two_passes odd [] = refl
two_passes odd ((t, None) ∷ ls) =
    ap (λ (b : Bool). cond (b || false) ((t, None) ∷ without_tombstones b (last_lines ls)) (without_tombstones b (last_lines ls))) (or_right odd true refl)
    ∙ ap (λ (xs : List Line). (t, None) ∷ xs) (two_passes true ls)
two_passes odd ((t, Some d) ∷ ls) = by (list_any (bytes_eq d.0) (decided ls)) (two_passes odd ls)
  where
    last : without_tombstones odd (last_lines ls) ≡ kept odd ls → without_tombstones odd ((t, Some d) ∷ last_lines ls) ≡ cond (d.1 || odd) ((t, Some d) ∷ kept odd ls) (kept odd ls)
    last rest =
        ap (λ (b : Bool). cond (b || d.1) ((t, Some d) ∷ without_tombstones b (last_lines ls)) (without_tombstones b (last_lines ls))) (or_false odd)
        ∙ ap (λ (xs : List Line). cond (odd || d.1) ((t, Some d) ∷ xs) xs) rest ∙ ap (λ (b : Bool). cond b ((t, Some d) ∷ kept odd ls) (kept odd ls)) (either_way odd d.1)

    by : (a : Bool) → without_tombstones odd (last_lines ls) ≡ kept odd ls
        → without_tombstones odd (cond a (last_lines ls) ((t, Some d) ∷ last_lines ls)) ≡ cond (not a && (d.1 || odd)) ((t, Some d) ∷ kept odd ls) (kept odd ls)
    by true rest = rest
    by false rest = last rest

-- ---- from the last line to the first

-- one line more comes before the others
pub in_order_more : (met : List (Bor Held)) (l : Bor Held) → in_order (met ++ l ∷ []) ≡ line_view l.now ∷ in_order met
in_order_more met l = ap (map (λ (b : Bor Held). line_view b.now)) (reverse-append met (l ∷ []))

module _ {X : Type 0} (old new : BTreeMap (Bor (List ℕ)) X) where
  -- after an insertion the map has the key too
  pub has_after : (own text : List ℕ) (x : X) → text ≡ own → UpdatesBy (λ a b. slice_cmp nat_cmp a.now b.now) (λ k. slice_cmp nat_cmp text k.now) old new (Some x) → (key : List ℕ) → has_key new key ≡ cond (bytes_eq own key) true (has_key old key)
  has_after own text x is updates key =
      ap is_some (btree_map_updates_str text old new (Some x) updates key) ∙ apart (bytes_eq text key) (get_by (λ k. slice_cmp nat_cmp key k.now) old) ∙ ap (λ (t : List ℕ). cond (bytes_eq t key) true (has_key old key)) is
    where
      apart : (b : Bool) (o : Option X) → is_some (cond b (Some x) o) ≡ cond b true (is_some o)
      apart true o = refl
      apart false o = refl

  module _ (later : List Line) (met : List (Bor Held)) (has : HasKeys later old) (so_far : in_order met ≡ last_lines later) (t : List ℕ) (o : Option Decision) where
    -- the line is noted
    abbrev pub Noted : Option Decision → Type 0
    Noted d = HasKeys ((t, d) ∷ later) new × ((t, d) ∷ in_order met ≡ last_lines ((t, d) ∷ later))

    -- an odd one
    pub noted_odd : o ≡ None → new ≡ old → Noted o
    noted_odd is same = subst Noted (sym is) (λ key. ap (λ m. has_key m key) same ∙ has key, ap (λ (ls : List Line). (t, None) ∷ ls) so_far)

    -- one that decides a key that no later line decides
    pub noted_last : (d : Decision) → o ≡ Some d → has_key old d.0 ≡ false → ((key : List ℕ) → has_key new key ≡ cond (bytes_eq d.0 key) true (has_key old key)) → Noted o
    noted_last d is free after = subst Noted (sym is) (
      λ key. after key ∙ ap (λ (b : Bool). cond b true (has_key old key)) (same_key d.0 key) ∙ by (bytes_eq key d.0) key,
      ap (λ (ls : List Line). (t, Some d) ∷ ls) so_far ∙ sym (ap (λ (b : Bool). cond b (last_lines later) ((t, Some d) ∷ last_lines later)) (sym (has d.0) ∙ free)),
    )
      where
        by : (b : Bool) (key : List ℕ) → cond b true (has_key old key) ≡ (b || list_any (bytes_eq key) (decided later))
        by true key = refl
        by false key = has key
