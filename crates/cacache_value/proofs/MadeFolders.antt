-- What folders that are made on a way of the cache leave, and appends to a bucket.
use Rattle.std.proofs.{Common.{◌≡◌, ◌-◌, ◌==◌, ℕ, Bool, true, false, cond, [], ◌∷◌, ◌++◌, Option, None, Some, refl, sym, ap, subst, ◌∙◌, eqb-true, rules, ◌≤◌, ◌<◌, ◌+◌, length, zero, suc, nat_le, arith, length-append, List, Ok, take, append-nil}, lemmas.{Grind.{common_steps}, List.{take_all, take-append-le}, Bool.{leb-true, leb-false}}}
use Rattle.std.specs.Prelude.{Result}
use Rattle.cacache_disk.specs.{declared.{node.Node.{Node, TheVariants.{Folder, File, Link}}, luck.Luck.{Luck}}, Tree.{Tree, Names, look, put, is_folder, bytes_of}, LedTo.{dirs_fault, is_in_way}, Apply.{make_some, if_missing}}
use Rattle.cacache_disk.proofs.PathTexts.{make_none}
use Rattle.cacache_value.specs.{Kinds.{Way, path_kind}, Value.{wide_value, bucket_in}, Acts.{make_folders, set_folder, with_folders, Act, Nothing, AddEntries, act_at, act_with, amount_left, act_of, list_of}, Placed.{MayStand, Placed}, ValueLaws.{WholeLinesAdd, TornLinesAddNone, NothingLeftIsNothing}}
use Rattle.cacache_value.proofs.{PathKinds.{further, way_here}, PutValues.{placed_put, put_folder}}
use Rattle.cacache_core.specs.{declared.errors.Fault.{Fault}, Paths.{names_of}}
use Rattle.cacache_store.specs.{declared.store.step.Step.TheVariants.{Append}, Plain.{PlainAnswer}}
use Rattle.cacache_entry.specs.{Entry.{Entry, line_of, closing, closed_line}, FittingEntries.{IsEntry, IsWritable}, Bucket.{entries_of}}
use Rattle.cacache_entry.proofs.{Pieces.{entries_split}, Lookups.{lines_append, empty_holds_nothing, torn_lines_add_nothing}}

-- the folders of a tree
abbrev folders_of : Tree → Names → Bool
folders_of t names = is_folder (look t names)

-- a placed tree with the same value, except for its folders
abbrev pub HasFolders : Option Names → Tree → Tree → (Names → Bool) → Type 0
HasFolders home t new folders = Placed home new × (wide_value home new ≡ with_folders folders (wide_value home t))

module _ (home : Option Names) (above rest : Names) where
  made_at : (t : Tree) (here : Option Node) (count : ℕ) (b : Bool) → path_kind home above ≡ Way → look t above ≡ here → (count == 0) ≡ b
      → MayStand home here Way → Placed home t
      → ((new : Tree) (count : ℕ) → Placed home new → HasFolders home new (make_some new above rest count) (make_folders (folders_of new) above rest count))
      → HasFolders home t (make_some (if_missing here (cond b t (put t above Folder)) t) above rest (if_missing here (count - 1) count))
      (cond (is_folder here) (make_folders (folders_of t) above rest count) (cond b (folders_of t) (make_folders (set_folder true above (folders_of t)) above rest (count - 1))))
  made_at t None count true k is none s placed more =
      let no : count ≡ 0 = eqb-true count 0 none in
      rw (no, make_none t above rest) (placed, refl)
  made_at t None count false k is none s placed more =
      let one = put_folder home t above k in
      let all = more (put t above Folder) (count - 1) (placed_put home t above Folder (subst (MayStand home (Some Folder)) (sym k) tt) placed) in
      (all.0, all.1 ∙ ap (λ v. with_folders (make_folders v.folders above rest (count - 1)) v) one)
  made_at t (Some Folder) count b k is none s placed more = more t count placed
  made_at t here count b k is none s placed more = absurd s

pub made : (home : Option Names) (t : Tree) (above rest : Names) (count : ℕ) → path_kind home (above ++ rest) ≡ Way → Placed home t
    → HasFolders home t (make_some t above rest count) (make_folders (folders_of t) above rest count)
made home t above [] count k placed = (placed, refl)
made home t above (name ∷ rest) count k placed =
    let here = way_here home above rest name k in
    made_at home (above ++ name ∷ []) rest t (look t (above ++ name ∷ [])) count (count == 0) here refl refl (subst (MayStand home (look t (above ++ name ∷ []))) here (placed (above ++ name ∷ []))) placed
    (λ new count there. made home new (above ++ name ∷ []) rest count (further home Way above rest name k) there)

clear_way : (home : Option Names) (here : Option Node) → MayStand home here Way → is_in_way here ≡ false
clear_way home (Some (File bytes)) s = absurd s
clear_way home (Some (Link target)) s = absurd s
clear_way home here s = refl

-- nothing is in the way
pub no_dirs_fault : (home : Option Names) (t : Tree) (above rest : Names) → path_kind home (above ++ rest) ≡ Way → Placed home t
    → dirs_fault t above rest ≡ None
no_dirs_fault home t above [] k placed = refl
no_dirs_fault home t above (name ∷ rest) k placed =
    let here = way_here home above rest name k in
    rw (clear_way home (look t (above ++ name ∷ [])) (subst (MayStand home (look t (above ++ name ∷ []))) here (placed (above ++ name ∷ []))))
    (no_dirs_fault home t (above ++ name ∷ []) rest (further home Way above rest name k) placed)

-- ---- what an append leaves of a bucket

-- bytes that begin with a line feed add the entries of as many of them as are left
entries_left : (x y : List ℕ) (n : ℕ) → entries_of (x ++ take n (10 ∷ y)) ≡ entries_of x ++ entries_of (take n (10 ∷ y))
entries_left x y zero = ap entries_of (append-nil x) ∙ sym (append-nil (entries_of x)) ∙ ap (λ es. entries_of x ++ es) (sym empty_holds_nothing)
entries_left x y (suc n) = entries_split x (take n y) ∙ ap (λ es. entries_of x ++ es) (sym (entries_split [] (take n y) ∙ ap (λ es. es ++ entries_of (take n y)) empty_holds_nothing))

-- after a bucket's bytes too
pub bucket_left : (here : Option Node) (y : List ℕ) (n : ℕ)
    → entries_of (bytes_of here ++ take n (10 ∷ y)) ≡ list_of (bucket_in here) ++ entries_of (take n (10 ∷ y))
bucket_left here y n = grind (arith, entries_left)

-- what is left of a line holds its entry if all of it is there
pub whole_line : (e : Entry) (n : ℕ) → IsEntry e → IsWritable e → length (line_of e) ≤ n → entries_of (take n (line_of e)) ≡ e ∷ []
whole_line e n formed fits long =
    ap entries_of (take_all n (line_of e) long) ∙ lines_append [] e formed fits ∙ ap (λ es. es ++ e ∷ []) empty_holds_nothing

-- and no entry if less is
pub torn_line : (e : Entry) (n : ℕ) → IsEntry e → IsWritable e → n < length (line_of e) → entries_of (take n (line_of e)) ≡ []
torn_line e n formed fits short = torn_lines_add_nothing [] e n formed fits short ∙ empty_holds_nothing

-- a line feed after a line closes it and adds nothing
closed : (e : Entry) → IsEntry e → IsWritable e → entries_of (line_of e ++ 10 ∷ []) ≡ e ∷ []
closed e formed fits =
    entries_split (line_of e) []
    ∙ ap (λ es. es ++ entries_of []) (ap entries_of (sym (take_all (length (line_of e)) (line_of e) (omega arith))) ∙ whole_line e (length (line_of e)) formed fits (omega arith))
    ∙ ap (λ es. e ∷ es) empty_holds_nothing

-- the same of a line as a commit appends it
pub whole_closed : (durable : Bool) (e : Entry) (n : ℕ) → IsEntry e → IsWritable e → length (line_of e) ≤ n → entries_of (take n (closed_line durable e)) ≡ e ∷ []
whole_closed false e n formed fits long = ap (λ (line : List ℕ). entries_of (take n line)) (append-nil (line_of e)) ∙ whole_line e n formed fits long
whole_closed true e n formed fits long = by (nat_le (length (line_of e) + 1) n) refl
  where
    by : (b : Bool) → nat_le (length (line_of e) + 1) n ≡ b → entries_of (take n (line_of e ++ 10 ∷ [])) ≡ e ∷ []
    by true is =
        ap entries_of (take_all n (line_of e ++ 10 ∷ []) (omega (arith, length-append (line_of e) (10 ∷ []), leb-true (length (line_of e) + 1) n is)))
        ∙ closed e formed fits
    by false is =
        ap entries_of (take-append-le n (line_of e) (10 ∷ []) (omega (arith, leb-false (length (line_of e) + 1) n is)))
        ∙ whole_line e n formed fits long

pub torn_closed : (durable : Bool) (e : Entry) (n : ℕ) → IsEntry e → IsWritable e → n < length (line_of e) → entries_of (take n (closed_line durable e)) ≡ []
torn_closed durable e n formed fits short =
    ap entries_of (take-append-le n (line_of e) (closing durable) (omega (arith, short))) ∙ torn_line e n formed fits short

-- the act of an append that left so much
pub append_act : (path : List ℕ) (names : Names) (bytes : List ℕ) (luck : Luck) (answer : PlainAnswer) (n : ℕ) → names_of path ≡ Ok names
    → amount_left luck answer ≡ Some n → act_of (Append path bytes) luck answer ≡ AddEntries names (entries_of (take n bytes))
append_act path names bytes luck answer n is left = search rules

pub whole_lines_add : WholeLinesAdd
whole_lines_add e n formed fits long durable path names luck answer is left = search (rules, append_act, whole_closed)

pub torn_lines_add_none : TornLinesAddNone
torn_lines_add_none e n formed fits short durable path names luck answer is left = search (rules, append_act, torn_closed)

nothing_at : (r : Result Names Fault) (names : Names → ℕ → Act) → act_at r (λ n. act_with None (names n)) ≡ Nothing
nothing_at r names = grind (arith, common_steps)

pub nothing_left_is_nothing : NothingLeftIsNothing
nothing_left_is_nothing path bytes luck answer left = search (rules, nothing_at)
