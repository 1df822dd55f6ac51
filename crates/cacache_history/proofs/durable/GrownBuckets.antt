-- A bucket through calm moves: it grows by parts of lines, and a loss leaves it as far as its file is fixed.
use Rattle.std.proofs.{lemmas.Grind.{common_steps}, Common.{rules, ◌≡◌, ◌≤◌, inl, inr, ℕ, Bool, true, false, cond, List, [], ◌∷◌, ◌++◌, Option, None, Some, length, take, refl, sym, ap, subst, ◌∙◌, arith, append_assoc, append-nil, length-append}}
use Rattle.std.specs.Prelude.{bytes_eq}
use Rattle.cacache_core.specs.Paths.{Names, names_of}
use Rattle.cacache_store.specs.{declared.store.step.Step.TheVariants.{CreateTemp, Write, Persist, Append, SyncTemp, SyncFile, SyncDir}, Plain.{PlainStep, PlainAnswer}}
use Rattle.cacache_disk.specs.{declared.{luck.Luck.{Luck}, node.Node.{Node, TheVariants.{File}}}, Tree.{Tree, look, same_path, bytes_of, Rooted}, Apply.{apply, make_some}}
use Rattle.cacache_disk.proofs.{Maps.{same_path-true}, PutNodes.{look-put}, Roots.{same_self}}
use Rattle.cacache_value.specs.{Kinds.{Content, Bucket, Temporary, path_kind, is_used, Way}, Placed.{IsEntryLine, Placed, Proper}, Acts.{Move}}
use Rattle.cacache_loss.specs.{declared.fixing.{Fixing.{Fixing}, Place.{Place}}, Fixing.{Fixed, changed, fixed_after, is_at, is_sync, is_synced, place_now, refixed, synced, temp_synced}, Loss.{Loss, node_left}, Moments.{EachMove, Moment, after, lost_then, next, CalmStep, IsCalm, is_calm}, LostTrees.{OfCache}, Syncs.{IsFileSync, SyncsFile, SyncsFolders}}
use Rattle.cacache_loss.proofs.{Buckets.{leads_file}, StepCases.{AppendCase, unsent, took, torn, append_case, grown, make_apart}, Reaching.{at_false, Misses, file_kept, name_kept}, KeptPaths.{cond_none, cond_whole, keeps, files_keep, names_kept, sync_tree, cache_next}, SyncedFolders.{IsLeft, survives, Any, any, not_top}}
use Rattle.cacache_history.{specs.durable.Behind.{NoneAppends, StaysSynced, appends_at}, proofs.durable.LineParts.{HoldsFirst, IsPart, more_first}}

module _ (home : Option Names) (c : Names) (at : path_kind home c ≡ Bucket) where
  -- this much of the file is fixed
  abbrev pub Kept : ℕ → Fixed → Type 0
  Kept size fixed = size ≤ (fixed.files c).kept

  abbrev pub IsWhole : Fixed → Type 0
  IsWhole fixed = (fixed.files c).whole ≡ true

  -- what a step makes of a bucket with these bytes: a part comes after them, none unless it appends here
  record Grows (b : List ℕ) (old : Fixed) (new : Tree) (later : Fixed) (appends : Bool) : Type 0 where
    part : List ℕ
    is_part : IsPart part
    stands : look new c ≡ Some (File (b ++ part))
    kept : (size : ℕ) → size ≤ length b → Kept size old → Kept size later
    names : old.names c ≡ None → later.names c ≡ None
    still : appends ≡ false → (part ≡ []) × (IsWhole old → IsWhole later)

  module _ (t : Tree) (fixed : Fixed) (placed : Placed home t) (b : List ℕ) (there : look t c ≡ Some (File b)) where
    made : (names : Names) (count : ℕ) → path_kind home names ≡ Way → look (make_some t [] names count) c ≡ Some (File b)
    made names count way = make_apart home Bucket t [] names c count at (λ e. cc) way ∙ there

    -- a step that leaves it
    unchanged : (new : Tree) (later : Fixed) (appends : Bool) → look new c ≡ Some (File b)
        → ((size : ℕ) → size ≤ length b → Kept size fixed → Kept size later) → (fixed.names c ≡ None → later.names c ≡ None) → (IsWhole fixed → IsWhole later)
        → Grows b fixed new later appends
    unchanged new later appends stays kept names whole = search rules

    same_fixed : (new : Tree) (later : Fixed) (appends : Bool) → look new c ≡ Some (File b) → later.files c ≡ fixed.files c → later.names c ≡ fixed.names c
        → Grows b fixed new later appends
    same_fixed new later appends stays files names = search (rules, unchanged)

    missed : (step : PlainStep) (luck : Luck) (answer : PlainAnswer) (appends : Bool) → is_calm step ≡ true → Proper home step → Misses c step
        → Grows b fixed (apply t step luck).1 (changed fixed t (apply t step luck).1 step answer) appends
    missed step luck answer appends calm is misses = search (rules, same_fixed, keeps, made, files_keep, names_kept)

    -- ---- appends

    lengthened : (size : ℕ) (same : Bool) (f : Fixing) → size ≤ f.kept → size ≤ (refixed false same true f).kept
    lengthened size same f k = grind (arith, common_steps)

    appended_to : (b : Bool) → b ≡ true → b ≡ false → ⊥
    appended_to b here none = grind (arith, common_steps)

    behind : (p line : List ℕ) (answer : PlainAnswer) (names : Names) (n : ℕ) (appends : Bool) → IsEntryLine line → c ≡ names → appends ≡ true
        → Grows b fixed (grown t names line n) (changed fixed t (grown t names line n) (Append p line) answer) appends
    behind p line answer names n appends is same here =
        let at_self : same_path c names ≡ true = ap (same_path c) (sym same) ∙ same_self c in
        let bytes : bytes_of (look t names) ++ take n line ≡ b ++ take n line
        = ap (λ q. bytes_of (look t q) ++ take n line) (sym same) ∙ ap (λ o. bytes_of o ++ take n line) there in
        let stands : look (grown t names line n) c ≡ Some (File (bytes_of (look t names) ++ take n line))
        = look-put t names (File (bytes_of (look t names) ++ take n line)) c ∙ ap (λ b. cond b (Some (File (bytes_of (look t names) ++ take n line))) (look t c)) at_self in
        record {
          part = take n line;
          is_part = inr (line, n, is, refl);
          stands = stands ∙ ap (λ l. Some (File l)) bytes;
          kept = λ size short k. rw (stands, there) (lengthened size (bytes_eq b (bytes_of (look t names) ++ take n line)) (fixed.files c) k);
          names = λ e. rw (stands, there) e;
          still = λ none. absurd (appended_to appends here none);
        }

    unmoved : (p line : List ℕ) (answer : PlainAnswer) (appends : Bool) → Grows b fixed t (changed fixed t t (Append p line) answer) appends
    unmoved p line answer appends = search (rules, same_fixed, file_kept, name_kept)

    reached : (p line : List ℕ) (answer : PlainAnswer) (o : PlainAnswer × Tree) → IsEntryLine line → is_at (names_of p) c ≡ true → AppendCase t p line o
        → Grows b fixed o.1 (changed fixed t o.1 (Append p line) answer) (is_at (names_of p) c)
    reached p line answer o is here h = grind (arith, unsent, unmoved, took, behind, same_path-true, torn)

    appended : (p line : List ℕ) (luck : Luck) (answer : PlainAnswer) (hit : Bool) → is_at (names_of p) c ≡ hit → Proper home (Append p line)
        → Grows b fixed (apply t (Append p line) luck).1 (changed fixed t (apply t (Append p line) luck).1 (Append p line) answer) (is_at (names_of p) c)
    appended p line luck answer false misses is = missed (Append p line) luck answer (is_at (names_of p) c) refl is misses
    appended p line luck answer true here is = reached p line answer (apply t (Append p line) luck) is.1 here (append_case home t p line luck placed is.0)

    -- ---- syncs

    sync_grows : (done : Bool) (later : Fixed) (appends : Bool) → Grows b fixed t later appends → Grows b fixed t (cond done later fixed) appends
    sync_grows done later appends g = grind (arith, same_fixed)

    by_sync : (step : PlainStep) (luck : Luck) (done : Bool) (later : Fixed) (appends : Bool) → is_sync step ≡ true → Grows b fixed t later appends
        → Grows b fixed (apply t step luck).1 (cond done later fixed) appends
    by_sync step luck done later appends is g = subst (λ new. Grows b fixed new (cond done later fixed) appends) (sym (sync_tree t step luck is)) (sync_grows done later appends g)

    cond_kept : (size : ℕ) (done : Bool) (f : Fixing) → size ≤ length b → size ≤ f.kept → size ≤ (cond done (synced (bytes_of (look t c))) f).kept
    cond_kept size done f short k = grind (arith, common_steps)

    -- ---- each step

    each_grows : (step : PlainStep) (luck : Luck) (answer : PlainAnswer) → CalmStep home step → Proper home step
        → Grows b fixed (apply t step luck).1 (fixed_after fixed t (apply t step luck).1 step answer) (appends_at step c)
    each_grows (Append p line) luck answer calm is = appended p line luck answer (is_at (names_of p) c) refl is
    each_grows (Persist f p) luck answer calm is =
        missed (Persist f p) luck answer false refl is (at_false home Temporary Bucket c (names_of f.path) is.0 at (λ e. cc), at_false home Content Bucket c (names_of p) is.1 at (λ e. cc))
    each_grows (SyncTemp f) luck answer calm is =
        by_sync (SyncTemp f) luck (is_synced answer) (temp_synced fixed f) false refl
        (same_fixed t (temp_synced fixed f) false there (rw (at_false home Temporary Bucket c (names_of f.path) calm.1 at (λ e. cc)) refl) refl)
    each_grows (SyncFile p) luck answer calm is = search (rules, by_sync, unchanged, cond_kept, cond_whole)
    each_grows (SyncDir p) luck answer calm is = search (rules, by_sync, unchanged, cond_none)
    each_grows (CreateTemp p) luck answer calm is = missed (CreateTemp p) luck answer false refl is (at_false home Temporary Bucket c (names_of p) is at (λ e. cc))
    each_grows (Write f bytes) luck answer calm is = missed (Write f bytes) luck answer false refl is (at_false home Temporary Bucket c (names_of f.path) calm.1 at (λ e. cc))
    each_grows step luck answer calm is = missed step luck answer false calm.0 is tt

    -- a sync of the file fixes all that it has
    sync_fixes : (rooted : Rooted t) (new : Tree) (step : PlainStep) (answer : PlainAnswer) → IsFileSync c step answer
        → (fixed_after fixed t new step answer).files c ≡ synced b
    sync_fixes rooted new (SyncFile p) answer is = rw (is.1, leads_file t p b c rooted is.0 there, same_self c, there) refl
    sync_fixes rooted new step answer is = absurd is

  -- ---- moves

  -- a bucket with these bytes, in a tree of the cache
  abbrev pub Stands : List ℕ → Moment → Type 0
  Stands b w = OfCache home w × (look w.tree c ≡ Some (File b))

  grows_in : (b : List ℕ) (w : Moment) (m : Move) → Stands b w → IsCalm home w m → Grows b w.fixed (next w m).tree (next w m).fixed (appends_at m.step c)
  grows_in b w m s calm = each_grows w.tree w.fixed s.0.0 b s.1 m.step m.luck m.answer calm.0 calm.1

  stands_next : (b : List ℕ) (w : Moment) (m : Move) (s : Stands b w) (calm : IsCalm home w m) → Stands (b ++ (grows_in b w m s calm).part) (next w m)
  stands_next b w m s calm = (cache_next home w m s.0 calm.1, (grows_in b w m s calm).stands)

  -- what comes after its bytes holds the first of its entries, wherever it is cut
  pub grown_after : (z m : List ℕ) (w : Moment) (moves : List Move) → Stands (z ++ m) w → HoldsFirst m → EachMove (IsCalm home) w moves
      → (more : List ℕ) × HoldsFirst more × Stands (z ++ more) (after w moves)
  grown_after z m w [] s first calm = (m, first, s)
  grown_after z m w (move ∷ moves) s first calm =
      let g = grows_in (z ++ m) w move s calm.0 in
      grown_after z (m ++ g.part) (next w move) moves (subst (λ b. Stands b (next w move)) (append_assoc z m g.part) (stands_next (z ++ m) w move s calm.0))
      (more_first m g.part first g.is_part) calm.1

  -- if nobody appends to it, it stays
  pub still_after : (b : List ℕ) (w : Moment) (moves : List Move) → Stands b w → EachMove (IsCalm home) w moves → NoneAppends c moves → Stands b (after w moves)
  still_after b w [] s calm none = s
  still_after b w (m ∷ moves) s calm none =
      let g = grows_in b w m s calm.0 in
      still_after b (next w m) moves
      (subst (λ b. Stands b (next w m)) (ap (λ x. b ++ x) (g.still none.0).0 ∙ append-nil b) (stands_next b w m s calm.0)) calm.1 none.1

  -- ---- what is fixed of it

  shorter : (size : ℕ) (b x : List ℕ) → size ≤ length b → size ≤ length (b ++ x)
  shorter size b x short = omega (arith, short, length-append b x)

  kept_after : (size : ℕ) (b : List ℕ) (w : Moment) (moves : List Move) → Stands b w → size ≤ length b → EachMove (IsCalm home) w moves → Kept size w.fixed
      → Kept size (after w moves).fixed
  kept_after size b w [] s short calm k = k
  kept_after size b w (m ∷ moves) s short calm k =
      let g = grows_in b w m s calm.0 in
      kept_after size (b ++ g.part) (next w m) moves (stands_next b w m s calm.0) (shorter size b g.part short) calm.1 (g.kept size short k)

  fixed_by : (b : List ℕ) (w : Moment) (m : Move) → Stands b w → IsFileSync c m.step m.answer → (next w m).fixed.files c ≡ synced b
  fixed_by b w m s is = sync_fixes w.tree w.fixed s.0.0 b s.1 s.0.1 (apply w.tree m.step m.luck).1 m.step m.answer is

  -- what it has before a sync of it is fixed
  pub kept_synced : (size : ℕ) (b : List ℕ) (w : Moment) (moves : List Move) → Stands b w → size ≤ length b → EachMove (IsCalm home) w moves → SyncsFile c moves
      → Kept size (after w moves).fixed
  kept_synced size b w [] s short calm syncs = absurd syncs
  kept_synced size b w (m ∷ moves) s short calm (inl is) =
      let g = grows_in b w m s calm.0 in
      kept_after size (b ++ g.part) (next w m) moves (stands_next b w m s calm.0) (shorter size b g.part short) calm.1
      (subst (λ (f : Fixing). size ≤ f.kept) (sym (fixed_by b w m s is)) short)
  kept_synced size b w (m ∷ moves) s short calm (inr syncs) =
      let g = grows_in b w m s calm.0 in
      kept_synced size (b ++ g.part) (next w m) moves (stands_next b w m s calm.0) (shorter size b g.part short) calm.1 syncs

  whole_after : (b : List ℕ) (w : Moment) (moves : List Move) → Stands b w → EachMove (IsCalm home) w moves → NoneAppends c moves → IsWhole w.fixed → IsWhole (after w moves).fixed
  whole_after b w [] s calm none whole = whole
  whole_after b w (m ∷ moves) s calm none whole =
      let g = grows_in b w m s calm.0 in
      whole_after (b ++ g.part) (next w m) moves (stands_next b w m s calm.0) calm.1 none.1 ((g.still none.0).1 whole)

  -- and all of it if nobody appends after the sync
  pub whole_synced : (b : List ℕ) (w : Moment) (moves : List Move) → Stands b w → EachMove (IsCalm home) w moves → StaysSynced c moves → IsWhole (after w moves).fixed
  whole_synced b w [] s calm stays = absurd stays
  whole_synced b w (m ∷ moves) s calm (inl is) =
      let g = grows_in b w m s calm.0 in
      whole_after (b ++ g.part) (next w m) moves (stands_next b w m s calm.0) calm.1 is.1 (ap (λ (f : Fixing). f.whole) (fixed_by b w m s is.0))
  whole_synced b w (m ∷ moves) s calm (inr stays) =
      let g = grows_in b w m s calm.0 in
      whole_synced (b ++ g.part) (next w m) moves (stands_next b w m s calm.0) calm.1 stays

  -- ---- after a loss

  abbrev StandsSome : Moment → Type 0
  StandsSome w = (b : List ℕ) × Stands b w

  some_node : (w : Moment) → StandsSome w → (n : Node) × (look w.tree c ≡ Some n)
  some_node w s = (File s.0, s.1.1)

  some_next : (w : Moment) (m : Move) → StandsSome w → IsCalm home w m → StandsSome (next w m)
  some_next w m s calm = (_, stands_next s.0 w m s.1 calm)

  left_is : (now : Place) (tail : List ℕ) (here : Option Node) → IsLeft (λ place. place ≡ now) tail here → here ≡ node_left now.fixing tail now.node
  left_is now tail here l = l.2 ∙ ap (λ (place : Place). node_left place.fixing tail place.node) l.1

  -- once its folders are synced, what is there is left, as far as it is fixed
  pub left_as_fixed : (b : List ℕ) (w : Moment) (moves : List Move) (loss : Loss) → Stands b w → EachMove (IsCalm home) w moves → SyncsFolders home [] c moves
      → lost_then home (after w moves) loss c ≡ node_left ((after w moves).fixed.files c) (loss.tail c) (look (after w moves).tree c)
  left_as_fixed b w moves loss s calm way =
      let end = after w moves in
      left_is (place_now end.tree end.fixed c) (loss.tail c) (lost_then home end loss c)
      (survives home c (ap is_used at) (λ e. not_top home (ap (path_kind home) (sym e) ∙ at)) StandsSome Any (λ o. o ≡ None) (λ w s. s.1.0.0) (λ w s. s.1.0.1) some_node
      (λ w m s calm x. some_next w m s calm) refl (λ w m s calm x. (grows_in s.0 w m s.1 calm).names) w moves loss (b, s) calm (any w moves)
      (λ place. place ≡ place_now end.tree end.fixed c) way (λ s. refl) (λ place e. absurd cc))
