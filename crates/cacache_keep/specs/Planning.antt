-- What a plan of a collection does, over any store.
use Rattle.std.specs.Prelude.{◌≡◌, ◌⊎◌, ◌++◌, ℕ, List, [], ◌∷◌, Option, false, map}
use Rattle.cacache_core.specs.declared.{errors.{Error.{Error, TheVariants.{OutOfMemory}}, Fault.TheVariants.{NotFound}}, integrity.digest.Hash.{Hash}}
use Rattle.cacache_store.specs.declared.store.answer.Answer.TheVariants as answers
use Rattle.cacache_store.specs.declared.store.log.LogItem.{LogItem}
use Rattle.cacache_store.specs.declared.store.step.Step.TheVariants as steps
use Rattle.cacache_calls.specs.{SingleSteps.{Does, FailsAt}, State.{Site}, Steps.{content_path}}
use Rattle.cacache_keep.specs.{declared.planning.Unused.{Unused}, Keeping.{Chooses, StopsEarly}, Reading.{is_gone}}

-- ---- sizes of contents, one after another

-- a content's address, and how many bytes it has
abbrev pub Sized : Type 0
Sized = List Hash × ℕ

-- an unused content as that
abbrev pub sized_of : Unused → Sized
sized_of u = (u.address, u.bytes)

-- the log gained a question for the content's size; a link that leads to nothing has none
abbrev pub TellsSize :
    List ℕ → List Hash → ℕ → Option (List LogItem) → Option (List LogItem) → Type 0
TellsSize cache i size old new =
    Does (steps.Size (content_path cache i)) (answers.Length size) old new
    ⊎ ((size ≡ 0) × Does (steps.Size (content_path cache i)) (answers.Failed NotFound) old new)

-- the log gained a question for the size of each of these contents, in turn
abbrev pub TellsSizes :
    List ℕ → List Sized → Option (List LogItem) → Option (List LogItem) → Type 0
TellsSizes cache [] old new = new ≡ old
TellsSizes cache (u ∷ told) old new =
    (next : Option (List LogItem)) × TellsSize cache u.0 u.1 old next
    × TellsSizes cache told next new

-- the contents that no entry has are chosen as a collection does, and each is asked for its size
abbrev pub PlansCache :
    Site → ℕ → List Sized → Option (List LogItem) → Option (List LogItem) → Type 0
PlansCache site kept unused old new =
    (chosen : Option (List LogItem)) × Chooses site kept (map (λ u. u.0) unused) old chosen
    × TellsSizes site.cache unused chosen new

-- ---- errors

-- the content didn't give its size, though something is there
abbrev pub HidesSize :
    List ℕ → List Hash → Error → Option (List LogItem) → Option (List LogItem) → Type 0
HidesSize cache i e old new =
    (is_gone e ≡ false) × FailsAt (steps.Size (content_path cache i)) e old new

-- the first of the contents doesn't give its size; or there is none, and memory ran out
abbrev pub HidesFirst :
    List ℕ → List (List Hash) → Error → Option (List LogItem) → Option (List LogItem) → Type 0
HidesFirst cache [] e old new = (e ≡ OutOfMemory) × (new ≡ old)
HidesFirst cache (i ∷ rest) e old new = HidesSize cache i e old new

-- some of these contents gave their sizes, and the error ended the question for the next
pub record StopsTelling
    (cache : List ℕ) (addresses : List (List Hash)) (e : Error)
    (old new : Option (List LogItem)) : Type 0 where
  pub told : List Sized
  pub rest : List (List Hash)
  pub split : addresses ≡ map (λ u. u.0) told ++ rest
  pub between : Option (List LogItem)
  pub telling : TellsSizes cache told old between
  pub stop : HidesFirst cache rest e between new

-- the error ended the choice, or the questions
abbrev pub StopsPlanning :
    Site → Error → Option (List LogItem) → Option (List LogItem) → Type 0
StopsPlanning site e old new =
    StopsEarly site e old new
    ⊎ ((kept : ℕ) × (unused : List (List Hash)) × (chosen : Option (List LogItem))
    × Chooses site kept unused old chosen × StopsTelling site.cache unused e chosen new)
