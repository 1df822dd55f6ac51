use Rattle.std.proofs.{Common.{◌≡◌, ◌++◌, ℕ, List, [], ◌∷◌, Result, take, refl, sym, ap, ◌∙◌}, lemmas.List.{append_assoc, append-nil, take-append-drop}}
use Rattle.futures.specs.declared.task.Poll.{Poll}
use Rattle.cacache_core.specs.declared.errors.Error.{Error}
use Rattle.cacache_writers.specs.Writing.{took, left, all_taken, left_over, AllTaken}
use Rattle.cacache_writers.proofs.laws.write_laws.Goals as goal

-- what was taken and what is left are all there was
parted : (rest : List ℕ) (rs : List (Poll (Result ℕ Error))) → all_taken rest rs ++ left_over rest rs ≡ rest
parted rest [] = refl
parted rest (a ∷ rs) =
    append_assoc (take (took rest a) rest) (all_taken (left rest a) rs) (left_over (left rest a) rs)
    ∙ (ap (λ more. take (took rest a) rest ++ more) (parted (left rest a) rs) ∙ take-append-drop (took rest a) rest)

nothing_left : AllTaken
nothing_left rest rs over =
    sym (append-nil (all_taken rest rs)) ∙ (ap (λ more. all_taken rest rs ++ more) (sym over) ∙ parted rest rs)

pub returns : goal.returns
returns c = record { all = nothing_left }
