-- What a proper step does at a path of a kind.
use Rattle.std.proofs.{Common.{arith, ◌≡◌, ℕ, Bool, true, List, [], ◌∷◌, ◌++◌, Option, None, Some, Result, Ok, refl, sym, ap, ◌∙◌}, lemmas.Grind.{common_steps}}
use Rattle.std.specs.Prelude.{IfOk, ◌||◌}
use Rattle.cacache_core.specs.{declared.errors.Fault.{Fault}, Paths.{names_of}}
use Rattle.cacache_store.specs.{declared.store.step.Step.TheVariants.{MakeDirs, CreateTemp, Persist, Append, Symlink, Copy, Reflink, HardLink, RemoveFile, RemoveDir}, Plain.{PlainStep}}
use Rattle.cacache_disk.specs.{declared.{luck.Luck.{Luck}, node.Node.{Node, TheVariants.{File}}}, Apply.{apply}, LedTo.{writable}, Tree.{Names, Tree, fronts, is_among, look, same_path}}
use Rattle.cacache_disk.proofs.{Changes.{Cuts, CutNode, MakeFolders, Makes, MoveFile, NoChange, PutNode, Puts, StepAt, TreeChange, at_cut, at_put, at_rest, step_at}, FoundNodes.{dirs_ok, emptied_ok, free_none, free_ok, kept_ok, removable_ok, replaceable_ok}, Maps.{same_path-true}}
use Rattle.cacache_value.specs.{Kinds.{Bucket, Content, Elsewhere, IsFor, PathKind, Temporary, Way, path_kind}, Placed.{Placed, Proper}}
use Rattle.cacache_value.proofs.{Applying.{Reaches, bucket_reached, found, missing, of_names, unreachable, writable_out}, PathKinds.{further, way_here}}

-- such a step makes a temporary file there
abbrev pub Creates : Names → PlainStep → Type 0
Creates q (CreateTemp p) = names_of p ≡ Ok q
Creates q step = ⊥

-- such a step may take away what is there
abbrev pub Takes : Names → PlainStep → Type 0
Takes q (Persist f p) = names_of f.path ≡ Ok q
Takes q (RemoveFile p) = names_of p ≡ Ok q
Takes q (RemoveDir p) = names_of p ≡ Ok q
Takes q step = ⊥

-- what is there is as it was, an empty file was made where nothing was, or it was taken away
pub data TempAt (t : Tree) (step : PlainStep) (q : Names) (new : Tree) : Type 0 where
  as_was : look new q ≡ look t q → TempAt t step q new
  came : Creates q step → look t q ≡ None → look new q ≡ Some (File []) → TempAt t step q new
  went : Takes q step → look new q ≡ None → TempAt t step q new

-- ---- the kind of the paths at which a proper step puts something

either_way : {A : Type 0} (b c : Bool) → (b ≡ true → A) → (c ≡ true → A) → (b || c) ≡ true → A
either_way b c here later is = grind (arith, common_steps)

front_way : (home : Option Names) (above rest q : Names) → path_kind home (above ++ rest) ≡ Way → is_among q (fronts above rest) ≡ true → path_kind home q ≡ Way
front_way home above [] q way is = absurd cc
front_way home above (name ∷ rest) q way is =
    either_way (same_path q (above ++ name ∷ [])) (is_among q (fronts (above ++ name ∷ []) rest))
    (λ e. ap (path_kind home) (same_path-true q (above ++ name ∷ []) e) ∙ way_here home above rest name way)
    (front_way home (above ++ name ∷ []) rest q (further home Way above rest name way)) is

-- the kind of the path at which a step puts something
abbrev pub put_kind : PlainStep → PathKind
put_kind (MakeDirs p) = Way
put_kind (CreateTemp p) = Temporary
put_kind (Persist f p) = Content
put_kind (Append p bytes) = Bucket
put_kind (Symlink target p) = Content
put_kind step = Elsewhere

module _ (home : Option Names) (t : Tree) (placed : Placed home t) where
  named : (k : PathKind) (p : List ℕ) (names q : Names) → IsFor home k p → names_of p ≡ Ok names → q ≡ names → path_kind home q ≡ k
  named k p names q for is e = ap (path_kind home) e ∙ of_names (λ n. path_kind home n ≡ k) p names for is

  own_path : (p : List ℕ) (names own : Names) → names_of p ≡ Ok own → writable t p ≡ Ok names → Reaches own (writable t p) → names_of p ≡ Ok names
  own_path p names own is e h = grind (arith, found, missing)

  -- an append writes at its own path
  pub written : (p : List ℕ) (names : Names) (r : Result Names Fault) → IfOk r (λ n. path_kind home n ≡ Bucket) → names_of p ≡ r → writable t p ≡ Ok names → names_of p ≡ Ok names
  written p names r kind is e = grind (arith, own_path, bucket_reached, unreachable)

  -- a proper step puts something only at a path of that kind
  pub put_for : (step : PlainStep) (c : TreeChange) (q : Names) (node : Node) → Proper home step → Makes t step c → Puts t c q node → path_kind home q ≡ put_kind step
  put_for (MakeDirs p) (MakeFolders names most) q node is m put = front_way home [] names q (of_names (λ n. path_kind home n ≡ Way) p names is (dirs_ok t p names m)) put.2
  put_for (CreateTemp p) (PutNode names new) q node is m put = named Temporary p names q is (free_ok t p names m.0).0 put.0
  put_for (Persist f p) (MoveFile from to bytes) q node is m put = named Content p to q is.1 (replaceable_ok t p to m.2).0 put.0
  put_for (Append p bytes) (PutNode names new) q node is m put = named Bucket p names q is.0 (written p names (names_of p) is.0 refl m) put.0
  put_for (Symlink target p) (PutNode names new) q node is m put = named Content p names q is.0 (free_ok t p names m.0).0 put.0
  put_for (Copy p r) (PutNode names new) q node is m put = ap (path_kind home) put.0 ∙ (writable_out home t r names placed is m).0
  put_for (Reflink p r) (PutNode names new) q node is m put = named Elsewhere r names q is (free_ok t r names m).0 put.0
  put_for (HardLink p r) (PutNode names new) q node is m put = named Elsewhere r names q is (free_ok t r names m.0).0 put.0
  put_for step NoChange q node is m put = absurd put
  put_for step (CutNode names) q node is m put = absurd put
  put_for step c q node is m put = absurd m

-- ---- at a temporary path

creates : (t : Tree) (step : PlainStep) (c : TreeChange) (q : Names) (node : Node) → Temporary ≡ put_kind step → Makes t step c → Puts t c q node → Creates q step × (look t q ≡ None) × (node ≡ File [])
creates t (CreateTemp p) (PutNode names new) q node k m put =
    ((free_ok t p names m.0).0 ∙ ap Ok (sym put.0), ap (look t) put.0 ∙ free_none t p names m.0, put.1 ∙ m.1)
creates t (CreateTemp p) NoChange q node k m put = absurd put
creates t (CreateTemp p) c q node k m put = absurd m
creates t step c q node k m put = absurd cc

pub takes : (t : Tree) (step : PlainStep) (c : TreeChange) (q : Names) → Makes t step c → Cuts c q → Takes q step
takes t (Persist f p) (MoveFile from to bytes) q m cut = (kept_ok t f.path from m.1).0 ∙ ap Ok (sym cut)
takes t (RemoveFile p) (CutNode names) q m cut = (removable_ok t p names m).0 ∙ ap Ok (sym cut)
takes t (RemoveDir p) (CutNode names) q m cut = (emptied_ok t p names m).0 ∙ ap Ok (sym cut)
takes t step (MoveFile from to bytes) q m cut = absurd m
takes t step (CutNode names) q m cut = absurd m
takes t step c q m cut = absurd cut

-- what a proper step does at a temporary path
pub temp_at : (home : Option Names) (t : Tree) (step : PlainStep) (luck : Luck) (q : Names) → path_kind home q ≡ Temporary → Placed home t → Proper home step → TempAt t step q (apply t step luck).1
temp_at home t step luck q temporary placed proper = at (step_at t step luck q)
  where
    at : {new : Tree} → StepAt t step q new → TempAt t step q new
    at {new} (c, makes, here) =
        elim here [
          | at_rest e ↦ as_was e
          | at_put node put e ↦ (
              let new = creates t step c q node (sym temporary ∙ put_for home t placed step c q node proper makes put) makes put in
              came new.0 new.1 (e ∙ ap Some new.2)
              )
          | at_cut cut e ↦ went (takes t step c q makes cut) e
        ]
