-- How contents are removed that are old enough, over any store.
use Rattle.std.specs.Prelude.{◌≡◌, ◌+◌, ◌-◌, ◌^◌, ◌++◌, ℕ, List, [], ◌∷◌, Bool, true, false, Option, filter, length, map, min}
use Rattle.cacache_core.specs.declared.{errors.{Error.{Error}, Fault.TheVariants.{NotFound}}, integrity.digest.Hash.{Hash}}
use Rattle.cacache_store.specs.declared.store.answer.Answer.TheVariants as answers
use Rattle.cacache_store.specs.declared.store.log.LogItem.{LogItem}
use Rattle.cacache_store.specs.declared.store.step.Step.TheVariants as steps
use Rattle.cacache_calls.specs.{SingleSteps.{Does, FailsAt}, Steps.{content_path}}
use Rattle.cacache_keep.specs.{declared.{dropping.Tally.{Tally}, grace.Fate.{Fate, TheVariants.{Dropped, Young, Gone}}}, Emptying.{EmptiesBoth}, Grace.{JudgedBy}, Reading.{is_gone}, Rewriting.{folder_of}}

-- ---- one content

-- the content at the path was removed, then the folders above it that were empty; or nothing was there
abbrev pub Unlinks : List ℕ → Fate → Option (List LogItem) → Option (List LogItem) → Type 0
Unlinks path Dropped old new =
    (cut : Option (List LogItem)) × Does (steps.RemoveFile path) answers.Done old cut
    × EmptiesBoth (folder_of path) (folder_of (folder_of path)) cut new
Unlinks path Gone old new = Does (steps.RemoveFile path) (answers.Failed NotFound) old new
Unlinks path Young old new = ⊥

-- one that is to go is removed, and any other is left
abbrev pub Follows :
    List ℕ → Fate → Fate → Option (List LogItem) → Option (List LogItem) → Type 0
Follows path Dropped fate old new = Unlinks path fate old new
Follows path judged fate old new = (fate ≡ judged) × (new ≡ old)

-- the content at the path was judged by its age, and this became of it
abbrev pub Drops :
    Option ℕ → List ℕ → Fate → Option (List LogItem) → Option (List LogItem) → Type 0
Drops limit path fate old new =
    (judged : Fate) × JudgedBy limit judged × Follows path judged fate old new

-- the removal failed, but not since nothing was there; or memory ran out
abbrev pub StopsUnlinking :
    List ℕ → Error → Option (List LogItem) → Option (List LogItem) → Type 0
StopsUnlinking path e old new =
    (is_gone e ≡ false) × FailsAt (steps.RemoveFile path) e old new

-- ---- contents, one after another

-- a content's address, and what became of it
abbrev pub Met : Type 0
Met = List Hash × Fate

-- so it did with each of these, in turn
abbrev pub DropsEach :
    Option ℕ → List ℕ → List Met → Option (List LogItem) → Option (List LogItem) → Type 0
DropsEach limit cache [] old new = new ≡ old
DropsEach limit cache (m ∷ met) old new =
    (next : Option (List LogItem)) × Drops limit (content_path cache m.0) m.1 old next
    × DropsEach limit cache met next new

-- whether these are the same fate
abbrev pub is_fate : Fate → Fate → Bool
is_fate Dropped Dropped = true
is_fate Young Young = true
is_fate Gone Gone = true
is_fate a b = false

-- how many have the fate
abbrev pub count_of : Fate → List Met → ℕ
count_of fate met = min (length (filter (λ m. is_fate fate m.1) met)) (2 ^ 64 - 1)

-- one more, up to what 64 bits hold
abbrev pub one_more : ℕ → ℕ
one_more count = min (count + 1) (2 ^ 64 - 1)

-- the tally of one content more
abbrev pub tally_with : Tally → Fate → Tally
tally_with t Dropped = record t { dropped = one_more t.dropped }
tally_with t Young = record t { young = one_more t.young }
tally_with t Gone = record t { gone = one_more t.gone }

-- the tally counts these
pub record Counts (t : Tally) (met : List Met) : Type 0 where
  pub dropped : t.dropped ≡ count_of Dropped met
  pub young : t.young ≡ count_of Young met
  pub gone : t.gone ≡ count_of Gone met

-- the contents of these addresses met their fates in turn, and the tally counts them
pub record DropsAll
    (limit : Option ℕ) (cache : List ℕ) (addresses : List (List Hash)) (t : Tally)
    (old new : Option (List LogItem)) : Type 0 where
  pub met : List Met
  pub each : map (λ m. m.0) met ≡ addresses
  pub dropping : DropsEach limit cache met old new
  pub counts : Counts t met

-- the first of the addresses met their fates, and the error ended the removal of the next
pub record StopsDropping
    (limit : Option ℕ) (cache : List ℕ) (addresses : List (List Hash)) (e : Error)
    (old new : Option (List LogItem)) : Type 0 where
  pub met : List Met
  pub next : List Hash
  pub rest : List (List Hash)
  pub split : addresses ≡ map (λ m. m.0) met ++ next ∷ rest
  pub between : Option (List LogItem)
  pub dropping : DropsEach limit cache met old between
  pub stop : StopsUnlinking (content_path cache next) e between new
