-- What each word of the program `cacache-keep` does.
use Rattle.std.specs.Prelude.{ℕ, Bool, true, false, List, Option}
use Rattle.cacache.specs.{Stores.{LogItem}, Calls.{Env}}
use Rattle.cacache_program.specs.{declared.keep.names.Word.{Word, TheVariants.{Verify, Plan, Sweep, Repair, Compact, Collect, Prune, PlanPrune, Touch, Tidy}}, Orders.{Order}, WordCollect.{CollectsAs, is_plain, odd_by}, WordCompact.{Compacts}, WordList.{ListsVerdict}, WordPlan.{Plans}, WordPrune.{PlansPruning, Prunes}, WordRepair.{Repairs}, WordSweep.{Sweeps}, WordTidy.{Tidies}, WordTouch.{TouchesEntry}, WordVerify.{Verifies}}

module _ {S C N : Type 0} (log : S → Option (List LogItem)) (moments : C → Option (List ℕ)) where
  -- a verification printed its counts, and the list after them if it is to be there
  abbrev pub VerifiesAs :
      Bool → List ℕ → Env S C N → Env S C N → Option (List ℕ) → Option (List ℕ) → ℕ → Type 0
  VerifiesAs true cache = ListsVerdict log cache
  VerifiesAs false cache = Verifies log cache

  -- the word did this with its cache and its options
  abbrev pub DoesWord :
      Word → Order → Env S C N → Env S C N → Option (List ℕ) → Option (List ℕ) → ℕ → Type 0
  DoesWord Verify o = VerifiesAs o.lists o.cache
  DoesWord Plan o = Plans log o.cache
  DoesWord Sweep o = Sweeps log o.cache
  DoesWord Repair o = Repairs log (odd_by o.anyway) o.cache
  DoesWord Compact o = Compacts log o.durable o.cache
  DoesWord Collect o = CollectsAs log moments (is_plain o) o
  DoesWord Prune o = Prunes log moments o
  DoesWord PlanPrune o = PlansPruning log moments o.size o.age o.cache
  DoesWord Touch o = TouchesEntry log moments o.cache o.key
  DoesWord Tidy o = Tidies log moments o
