-- Contents that a durable commit put survive, and so do links at a content's path.
use Rattle.std.proofs.{lemmas.Grind.{common_steps}, Common.{rules, arith, ◌≡◌, ◌⊎◌, inl, ℕ, Bool, true, false, cond, List, [], ◌∷◌, Option, None, Some, Ok, refl, sym, ap, subst, ◌∙◌}}
use Rattle.std.specs.Prelude.{Result, IfOk, unwrap_or}
use Rattle.cacache_core.specs.{declared.errors.Fault.{Fault}, Paths.{Names, names_of}}
use Rattle.cacache_store.specs.{declared.store.{plain.PlainTemp.{PlainTemp}, step.Step.TheVariants.{CreateTemp, Write, Persist, Append, SyncTemp, SyncFile, SyncDir}, answer.Answer.TheVariants.{Done, Failed}}, Plain.{PlainStep, PlainAnswer}}
use Rattle.cacache_disk.specs.{declared.{luck.Luck.{Luck}, node.Node.{Node, TheVariants.{File, Link}}}, Tree.{Tree, look, put, cut, same_path}, Apply.{apply, make_some}}
use Rattle.cacache_disk.proofs.{Maps.{same_path-true}, PutNodes.{look-put}, Roots.{same_self}}
use Rattle.cacache_value.specs.{Kinds.{Content, Bucket, Temporary, path_kind, is_used, IsFor, Way}, Placed.{Placed, Proper}, Acts.{Move}}
use Rattle.cacache_loss.specs.{Fixing.{Fixed, Fixing, Place, changed, fixed_after, is_at, is_sync, moved_to, moves_file, place_now}, Loss.{Loss, node_left}, Moments.{Moment, after, lost_then, next, AreCalm, CalmStep, IsCalm, OfBytes, PutWell, PutsMove, PutsStep, is_calm}, LostTrees.{OfCache}, Syncs.{SyncsFolders}, LossLaws.{ContentsSurvive, GoodNode, HasDigest, IsSafe}}
use Rattle.cacache_loss.proofs.{StepCases.{PersistCase, refused, moved, persist_case, make_apart}, Reaching.{at_false, Misses, file_kept, name_kept}, KeptPaths.{cond_whole, keeps, files_keep, names_kept, sync_tree, cache_next, each_calm}, SyncedFolders.{IsLeft, survives}}

-- ---- a good file, or a link

-- a link to one of these targets
abbrev pub LinksTo : (List ℕ → Type 0) → Option Node → Type 0
LinksTo Links here = (target : List ℕ) × Links target × (here ≡ Some (Link target))

-- a file with good bytes, or such a link
abbrev pub GoodOrLink : (Good Links : List ℕ → Type 0) → Option Node → Type 0
GoodOrLink Good Links here = GoodNode Good here ⊎ LinksTo Links here

-- a file with good bytes, all of them synced, or such a link
abbrev pub SafeOrLink : (Good Links : List ℕ → Type 0) → Place → Type 0
SafeOrLink Good Links place = IsSafe Good place ⊎ LinksTo Links place.node

-- if no link may be there it is a file
pub only_good : (Good : List ℕ → Type 0) (here : Option Node) → GoodOrLink Good (λ target. ⊥) here → GoodNode Good here
only_good Good here which = grind (arith, common_steps)

-- a good node is a file
abbrev pub IsGoodFile : (List ℕ → Type 0) → Option Node → Type 0
IsGoodFile Good here = (bytes : List ℕ) × (here ≡ Some (File bytes)) × Good bytes

pub good_file : (Good : List ℕ → Type 0) (here : Option Node) → GoodNode Good here → IsGoodFile Good here
good_file Good here g = grind (arith, common_steps)

of_bytes : (Good : List ℕ → Type 0) (o : Option (List ℕ)) (bytes : List ℕ) → o ≡ Some bytes → OfBytes Good o → Good bytes
of_bytes Good o bytes e g = grind (arith, common_steps)

whole_at : (fixed : Fixed) (r : Result Names Fault) (from : Names) → r ≡ Ok from → IfOk r (λ n. (fixed.files n).whole ≡ true) → (fixed.files from).whole ≡ true
whole_at fixed r from e h = grind (arith, common_steps)

-- ---- calm moves

module _ (home : Option Names) (c : Names) (at : path_kind home c ≡ Content) (Good Links : List ℕ → Type 0) where
  abbrev Either : Place → Type 0
  Either = SafeOrLink Good Links

  -- what was at a name when its folder was fixed was one of these too
  abbrev Was : Option Place → Type 0
  Was None = Unit {0}
  Was (Some place) = Either place

  was_or_now : (o : Option Place) (now : Place) → Was o → Either now → Either (unwrap_or o now)
  was_or_now o now w s = grind (arith, common_steps)

  cond_was : (b : Bool) (o : Option Place) → Was o → Was (cond b None o)
  cond_was b o w = grind (arith, common_steps)

  -- the same node, fixed as far or further
  either_so : (old new : Place) → new.node ≡ old.node → (old.fixing.whole ≡ true → new.fixing.whole ≡ true) → Either old → Either new
  either_so old new node whole which = grind (arith, common_steps)

  some_node : (place : Place) → Either place → (n : Node) × (place.node ≡ Some n)
  some_node place which = grind (arith, good_file)

  abbrev Holds : Moment → Type 0
  Holds w = OfCache home w × Either (place_now w.tree w.fixed c)

  -- what a step makes of what is at the path, and of what was at its name
  abbrev Keeps : Tree → Fixed → Tree → Fixed → Type 0
  Keeps t fixed new later = Either (place_now new later c) × (Was (fixed.names c) → Was (later.names c))

  module _ (t : Tree) (fixed : Fixed) (placed : Placed home t) (node : Node) (there : look t c ≡ Some node) (now : Either (place_now t fixed c)) where
    made : (names : Names) (count : ℕ) → path_kind home names ≡ Way → look (make_some t [] names count) c ≡ Some node
    made names count way = make_apart home Content t [] names c count at (λ e. cc) way ∙ there

    -- a step that doesn't reach it
    missed : (step : PlainStep) (luck : Luck) (answer : PlainAnswer) → is_calm step ≡ true → Proper home step → Misses c step
        → Keeps t fixed (apply t step luck).1 (changed fixed t (apply t step luck).1 step answer)
    missed step luck answer calm is misses = (
      either_so (place_now t fixed c) (place_now (apply t step luck).1 (changed fixed t (apply t step luck).1 step answer) c)
          (keeps home t placed c (Some node) there made step luck calm is misses ∙ sym there)
          (λ whole. ap (λ (f : Fixing). f.whole) (files_keep home t placed c (Some node) there made fixed step luck answer calm is misses) ∙ whole) now,
      subst Was (sym (names_kept home t placed c (Some node) there made fixed step luck answer calm is misses)),
    )

    -- a file that moves there
    module _ (f : PlainTemp) (p : List ℕ) (answer : PlainAnswer) (from_temp : IsFor home Temporary f.path)
        (puts : answer ≡ Done → names_of p ≡ Ok c → OfBytes Good f.bytes × IfOk (names_of f.path) (λ from. (fixed.files from).whole ≡ true)) where
      arrived : (new : List ℕ) (old to : Names) → f.bytes ≡ Some new → names_of f.path ≡ Ok old → names_of p ≡ Ok to → answer ≡ Done → c ≡ to
          → Keeps t fixed (put (cut t old) to (File new)) (changed fixed t (put (cut t old) to (File new)) (Persist f p) answer)
      arrived new old to has is names done same =
          let g = puts done (names ∙ ap Ok (sym same)) in
          let here : same_path c to ≡ true = ap (same_path c) (sym same) ∙ same_self c in (
            inl (
              subst (GoodNode Good) (sym (look-put (cut t old) to (File new) c ∙ ap (λ b. cond b (Some (File new)) (look (cut t old) c)) here)) (of_bytes Good f.bytes new has g.0),
              rw (done, is, names, here) (whole_at fixed (names_of f.path) old is g.1),
            ),
            (λ w. rw (done, is, names, here) (was_or_now (fixed.names c) (place_now t fixed c) w now)),
          )

      stayed : (fault : Fault) → answer ≡ Failed fault → Keeps t fixed t (changed fixed t t (Persist f p) answer)
      stayed fault failed =
          let unmoved : moved_to (moves_file (Persist f p) answer) c ≡ false = rw failed refl in (
            either_so (place_now t fixed c) (place_now t (changed fixed t t (Persist f p) answer) c) refl
                (λ whole. ap (λ (f : Fixing). f.whole) (file_kept fixed t t (Persist f p) answer c (Some node) there there unmoved refl refl) ∙ whole) now,
            subst Was (sym (name_kept fixed t t (Persist f p) answer c (Some node) there there unmoved)),
          )

      reached : (o : PlainAnswer × Tree) → is_at (names_of p) c ≡ true → answer ≡ o.0 → PersistCase t f p o
          → Keeps t fixed o.1 (changed fixed t o.1 (Persist f p) answer)
      reached o here told holds = grind (arith, refused, stayed, moved, arrived, same_path-true)

      persisted : (luck : Luck) (b : Bool) → is_at (names_of p) c ≡ b → IsFor home Content p → answer ≡ (apply t (Persist f p) luck).0
          → Keeps t fixed (apply t (Persist f p) luck).1 (changed fixed t (apply t (Persist f p) luck).1 (Persist f p) answer)
      persisted luck false misses is told = missed (Persist f p) luck answer refl (from_temp, is) (at_false home Temporary Content c (names_of f.path) from_temp at (λ e. cc), misses)
      persisted luck true here is told = reached (apply t (Persist f p) luck) here told (persist_case t f p luck)

    -- ---- syncs

    sync_keeps : (b : Bool) (later : Fixed) → Keeps t fixed t later → Keeps t fixed t (cond b later fixed)
    sync_keeps b later kept = grind (arith, common_steps)

    by_sync : (step : PlainStep) (luck : Luck) (b : Bool) (later : Fixed) → is_sync step ≡ true → Keeps t fixed t later
        → Keeps t fixed (apply t step luck).1 (cond b later fixed)
    by_sync step luck b later is kept = subst (λ new. Keeps t fixed new (cond b later fixed)) (sym (sync_tree t step luck is)) (sync_keeps b later kept)

    -- ---- each step

    each_keeps : (step : PlainStep) (luck : Luck) (answer : PlainAnswer) → CalmStep home step → Proper home step
        → PutsStep Good c (record { tree = t; fixed = fixed }) step answer → answer ≡ (apply t step luck).0
        → Keeps t fixed (apply t step luck).1 (fixed_after fixed t (apply t step luck).1 step answer)
    each_keeps (Persist f p) luck answer calm is puts told = persisted f p answer is.0 puts luck (is_at (names_of p) c) refl is.1 told
    each_keeps (Append p line) luck answer calm is puts told = missed (Append p line) luck answer refl is (at_false home Bucket Content c (names_of p) is.0 at (λ e. cc))
    each_keeps (SyncTemp f) luck answer calm is puts told = search (rules, by_sync, either_so, cond_whole)
    each_keeps (SyncFile p) luck answer calm is puts told = search (rules, by_sync, either_so, cond_whole)
    each_keeps (SyncDir p) luck answer calm is puts told = search (rules, by_sync, either_so, cond_was)
    each_keeps (CreateTemp p) luck answer calm is puts told = missed (CreateTemp p) luck answer refl is (at_false home Temporary Content c (names_of p) is at (λ e. cc))
    each_keeps (Write f bytes) luck answer calm is puts told = missed (Write f bytes) luck answer refl is (at_false home Temporary Content c (names_of f.path) calm.1 at (λ e. cc))
    each_keeps step luck answer calm is puts told = missed step luck answer calm.0 is tt

  kept_in : (w : Moment) (m : Move) → Holds w → IsCalm home w m → PutsMove Good c w m → Keeps w.tree w.fixed (next w m).tree (next w m).fixed
  kept_in w m h calm puts =
      let n = some_node (place_now w.tree w.fixed c) h.1 in
      each_keeps w.tree w.fixed h.0.0 n.0 n.1 h.1 m.step m.luck m.answer calm.0 calm.1 puts calm.2

  holds_next : (w : Moment) (m : Move) → Holds w → IsCalm home w m → PutsMove Good c w m → Holds (next w m)
  holds_next w m h calm puts = (cache_next home w m h.0 calm.1, (kept_in w m h calm puts).0)

  -- ---- losses

  not_top : (h : Option Names) → path_kind h [] ≡ Content → ⊥
  not_top None e = cc
  not_top (Some []) e = cc
  not_top (Some (n ∷ rest)) e = cc

  left_either : (place : Place) (tail : List ℕ) → Either place → GoodOrLink Good Links (node_left place.fixing tail place.node)
  left_either place tail which = grind (arith, good_file)

  left_here : (here : Option Node) (tail : List ℕ) → IsLeft Either tail here → GoodOrLink Good Links here
  left_here here tail left = subst (GoodOrLink Good Links) (sym left.2) (left_either left.0 tail left.1)

  -- what a loss leaves at the path, once its folders are synced
  pub content_survives : (w : Moment) (moves : List Move) (loss : Loss) → OfCache home w → Either (place_now w.tree w.fixed c) → AreCalm home w moves → PutWell Good c w moves → SyncsFolders home [] c moves
      → GoodOrLink Good Links (lost_then home (after w moves) loss c)
  content_survives w moves loss of_cache now calm puts way =
      left_here (lost_then home (after w moves) loss c) (loss.tail c)
      (survives home c (ap is_used at) (λ e. not_top home (ap (path_kind home) (sym e) ∙ at)) Holds (PutsMove Good c) Was (λ w h. h.0.0) (λ w h. h.0.1)
      (λ w h. some_node (place_now w.tree w.fixed c) h.1)
      holds_next tt (λ w m h calm puts. (kept_in w m h calm puts).1) w moves loss (of_cache, now) (each_calm home w moves calm) puts
      Either way (λ end. end.1) (λ place was. was))

pub contents_survive : ContentsSurvive
contents_survive home a c w moves loss at of_cache safe calm puts way =
    only_good (HasDigest a) (lost_then home (after w moves) loss c)
    (content_survives home c at (HasDigest a) (λ target. ⊥) w moves loss of_cache (inl safe) calm puts way)
