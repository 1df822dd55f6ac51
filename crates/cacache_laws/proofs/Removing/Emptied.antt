-- A clearing that ends as done leaves an empty cache.
use Rattle.std.proofs.{Common.{arith, ◌≡◌, inl, inr, ℕ, true, false, List, [], ◌∷◌, ◌++◌, None, Some, refl, sym, ap, subst, ◌∙◌, append_assoc}, lemmas.Grind.{common_steps}}
use Rattle.cacache_core.specs.Paths.{Names, home_of}
use Rattle.cacache_disk.{specs.Tree.{is_folder, Rooted, Tree, look}, proofs.Standing.{above_missing}}
use Rattle.cacache_calls.specs.declared.command.Command.TheVariants as commands
use Rattle.cacache_calls.specs.{declared.reply.Reply.TheVariants.{Done}, Walking.{walk}, Runs.{Moves, Runs}}
use Rattle.cacache_value.{specs.Value.{blob_in, bucket_in, folders_below, empty_value, value_of_tree}, proofs.PutValues.{same_value}}
use Rattle.cacache_laws.specs.{Sequence.{tree_on, AreAnswered}, trees.Idle.{BreaksOff}}
use Rattle.cacache_laws.proofs.{Removing.Sheds.{ShedAll, child_gone}, trees.{Twins.Cleared.{Cleared, cleared, kept, swept}, Covering.{home_named}}}

-- ---- an empty folder

module _ (t : Tree) (home : Names) (rooted : Rooted t) (none : (name : List ℕ) → look t (home ++ name ∷ []) ≡ None) where
  inner_none : (name : List ℕ) (rest : Names) → look t (home ++ name ∷ rest) ≡ None
  inner_none name rest = ap (look t) (sym (append_assoc home (name ∷ []) rest)) ∙ above_missing t (home ++ name ∷ []) rest rooted (none name)

  inner_folders : (q : Names) → folders_below (Some home) (λ n. is_folder (look t n)) q ≡ false
  inner_folders q = grind (arith, inner_none)

  holds_nothing : value_of_tree (Some home) t ≡ empty_value
  holds_nothing = same_value _ _ (λ a. ap blob_in (inner_none _ _)) (λ d. ap bucket_in (inner_none _ _)) (λ q. inner_folders q)

-- ---- a clearing

emptied : (cache : List ℕ) (t new : Tree) → Rooted new → Cleared Done cache t new → value_of_tree (home_of cache) new ≡ empty_value
emptied cache t new still (swept p named there sheds (inl all)) =
    let gone = subst (λ ns. ShedAll t new p ns) all.0 sheds in
    subst (λ home. value_of_tree home new ≡ empty_value) (sym (home_named cache p named))
    (holds_nothing new p still (λ name. child_gone t new p name (look t (p ++ name ∷ [])) gone refl))
emptied cache t new still (swept p named there sheds (inr unfinished)) = absurd (unfinished.0 refl)
emptied cache t new still (kept never same unfinished) = absurd (unfinished refl)

never_broken : BreaksOff commands.Clear Done → ⊥
never_broken h = grind (arith, common_steps)

pub clears_all : (cache : List ℕ) (t : Tree) (moves : Moves) → Rooted t → Runs (walk true cache) moves Done → AreAnswered t moves → Rooted (tree_on t moves) → value_of_tree (home_of cache) (tree_on t moves) ≡ empty_value
clears_all cache t moves rooted run answered still =
    emptied cache t (tree_on t moves) still (cleared Done never_broken cache t rooted (record { moves = moves; run = run; answered = answered }))
