-- What is said if there is no cache.
use Rattle.std.specs.{Prelude.{◌≡◌, ◌⊎◌, ◌++◌, ◌&&◌, ℕ, List, Option, None, Some, Bool, true, false, codes, cond, not}, Io.KnownBytes.{Appends}}
use Rattle.cacache_core.specs.Paths.{content_area, index_area, join, temp_area}
use Rattle.cacache_store.specs.declared.store.answer.Answer.TheVariants as answers
use Rattle.cacache_store.specs.declared.store.step.Step.TheVariants as steps
use Rattle.cacache_calls.specs.SingleSteps.{Does}
use Rattle.cacache.specs.{Stores.{LogItem, PlainAnswer}, Calls.{Env, KeepsRest}}
use Rattle.cacache_program.specs.{declared.keep.names.Word.{Word, TheVariants.{Verify, Plan, Collect, PlanPrune}}, Orders.{Order}, Output.{AppendsPart}, WordCollect.{is_plain}}

-- the word changes a cache in a way of this program's own
abbrev pub changes_by : Word → Order → Bool
changes_by Verify o = false
changes_by Plan o = false
changes_by PlanPrune o = false
changes_by Collect o = not (is_plain o)
changes_by word o = true

-- the line was put out, or a beginning of it
abbrev pub PutsLine : List ℕ → Option (List ℕ) → Option (List ℕ) → Type 0
PutsLine line before after = Appends before after line ⊎ AppendsPart before after line

-- so was one about a path at which nothing is, or about a folder that isn't a cache; or nothing was
abbrev pub TellsMissing : List ℕ → Bool → Bool → Option (List ℕ) → Option (List ℕ) → Type 0
TellsMissing cache true bare before after =
    PutsLine (codes "no cache at " ++ (cache ++ codes "\n")) before after
TellsMissing cache false true before after =
    PutsLine (codes "not a cache: " ++ (cache ++ codes "\n")) before after
TellsMissing cache false false before after = after ≡ before

-- the store says that nothing is there
abbrev pub says_missing : PlainAnswer → Bool
says_missing (answers.There false) = true
says_missing answer = false

module _ {S C N : Type 0} (log : S → Option (List LogItem)) where
  -- one step asked whether anything is at the path, and the store says so; or none was made
  abbrev pub AsksMissing : List ℕ → Bool → Env S C N → Env S C N → Type 0
  AsksMissing path missing old new =
      KeepsRest old new
      × (((answer : PlainAnswer) × Does (steps.Exists path) answer (log old.store) (log new.store)
      × (missing ≡ says_missing answer))
      ⊎ ((log new.store ≡ log old.store) × (missing ≡ false)))

  -- so it was asked for each of a cache's folders, and none is there
  abbrev pub AsksBare : List ℕ → Bool → Env S C N → Env S C N → Type 0
  AsksBare folder bare old new =
      (contents index temps : Bool) × (one two : Env S C N)
      × AsksMissing (join folder content_area) contents old one
      × AsksMissing (join folder index_area) index one two
      × AsksMissing (join folder temp_area) temps two new
      × (bare ≡ (contents && index && temps))

  -- so it was if the cache is to be changed; otherwise nothing was asked
  abbrev pub AsksIfChanged : Bool → List ℕ → Bool → Env S C N → Env S C N → Type 0
  AsksIfChanged true folder bare old new = AsksBare folder bare old new
  AsksIfChanged false folder bare old new = (bare ≡ false) × (new ≡ old)

  -- it was asked whether the cache is missing, and if not whether it is none, and that was reported;
  -- the status is that of a failed call if it is none
  abbrev pub AsksFor : Order → Option ℕ → Env S C N → Env S C N
      → Option (List ℕ) → Option (List ℕ) → Type 0
  AsksFor o status old new before after =
      (missing bare : Bool) × (mid : Env S C N) × AsksMissing o.cache missing old mid
      × AsksIfChanged (not missing && changes_by o.word o) o.cache bare mid new
      × TellsMissing o.cache missing bare before after × (status ≡ cond bare (Some 1) None)
