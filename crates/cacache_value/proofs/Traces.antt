-- Steps one after another.
use Rattle.std.proofs.Common.{rules, ◌≡◌, ℕ, Bool, true, false, cond, List, [], ◌∷◌, ◌++◌, Option, Some, refl, sym, ap, ◌∙◌, append-nil, append_assoc}
use Rattle.cacache_entry.specs.Entry.{Entry}
use Rattle.cacache_core.specs.Paths.{bucket_names_of}
use Rattle.cacache_value.specs.{Kinds.{is_path_of}, Value.{Value, wide_value, cache_part}, Acts.{Act, AddEntries, Drop, act_of, change, list_of, Move, IsTrace, tree_after, acts}, Placed.{Placed}, ValueLaws.{StepsKeepPlaced, StepsAct, TracesAct, TracesShow, KeepsBucket, IsLonger, BucketsGrow}}
use Rattle.cacache_value.proofs.{Shows.{trees_show}, Steps.{step_kept}}
use Rattle.cacache_disk.{specs.{Tree.{Rooted, Tree, Names}, Apply.{apply}}, proofs.KeptFolders.{steps_keep_rooted}}

pub steps_keep_placed : StepsKeepPlaced
steps_keep_placed home t step luck placed proper = (step_kept home t placed step luck proper).0

pub steps_act : StepsAct
steps_act home t step luck placed proper = (step_kept home t placed step luck proper).1

whole_after : (home : Option Names) (t : Tree) (moves : List Move) → Placed home t → IsTrace home t moves
    → wide_value home (tree_after t moves) ≡ acts home (wide_value home t) moves
whole_after home t [] placed made = refl
whole_after home t (m ∷ moves) placed made =
    let one = step_kept home t placed m.step m.luck made.0 in
    whole_after home (apply t m.step m.luck).1 moves one.0 made.2
    ∙ ap (λ v. acts home v moves) (one.1 ∙ ap (λ a. change home (act_of m.step m.luck a) (wide_value home t)) (sym made.1))

pub traces_act : TracesAct
traces_act home t moves placed made = ap (cache_part home) (whole_after home t moves placed made)

pub whole_rooted : (t : Tree) (moves : List Move) → Rooted t → Rooted (tree_after t moves)
whole_rooted t [] rooted = rooted
whole_rooted t (m ∷ moves) rooted = whole_rooted (apply t m.step m.luck).1 moves (steps_keep_rooted t m.step m.luck rooted)

whole_placed : (home : Option Names) (t : Tree) (moves : List Move) → Placed home t → IsTrace home t moves → Placed home (tree_after t moves)
whole_placed home t [] placed made = placed
whole_placed home t (m ∷ moves) placed made = whole_placed home (apply t m.step m.luck).1 moves (step_kept home t placed m.step m.luck made.0).0 made.2

pub traces_show : TracesShow
traces_show home t before placed rooted made = search (rules, whole_after, trees_show, whole_placed, whole_rooted)

-- ---- buckets grow

same_list : (l : List Entry) → IsLonger l l
same_list l = ([], sym (append-nil l))

added_list : (b : Bool) (o : Option (List Entry)) (new : List Entry) → IsLonger (list_of o) (list_of (cond b (Some (list_of o ++ new)) o))
added_list true o new = (new, refl)
added_list false o new = ([], sym (append-nil (list_of o)))

change_grows : (home : Option Names) (v : Value) (hash : List ℕ) (act : Act) → KeepsBucket home hash act
    → IsLonger (list_of (v.buckets hash)) (list_of ((change home act v).buckets hash))
change_grows home v hash (AddEntries path new) keeps = added_list (is_path_of home (bucket_names_of hash) path) (v.buckets hash) new
change_grows home v hash (Drop path) keeps = rw keeps (same_list (list_of (v.buckets hash)))
change_grows home v hash act keeps = same_list (list_of (v.buckets hash))

pub buckets_grow : BucketsGrow
buckets_grow home v hash [] keep = same_list (list_of (v.buckets hash))
buckets_grow home v hash (m ∷ moves) keep =
    let act = act_of m.step m.luck m.answer in
    let one = change_grows home v hash (act_of m.step m.luck m.answer) keep.0 in
    let more = buckets_grow home (change home (act_of m.step m.luck m.answer) v) hash moves keep.1 in
    (one.0 ++ more.0, more.1 ∙ ap (λ l. l ++ more.0) one.1 ∙ append_assoc (list_of (v.buckets hash)) one.0 more.0)
