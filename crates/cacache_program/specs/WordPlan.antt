-- The word `plan` of the program `cacache-keep`.
use Rattle.std.specs.{Prelude.{◌⊎◌, ◌++◌, ℕ, List, [], ◌∷◌, Option, codes, length}, List.{flat_map}}
use Rattle.cacache.specs.{Stores.{LogItem}, Calls.{Env, KeepsRest}}
use Rattle.cacache_jobs.specs.JobStates.{site_of}
use Rattle.cacache_keep.specs.{Checking.{odd_in}, Planning.{PlansCache, Sized, StopsPlanning}}
use Rattle.cacache_program.specs.{Counts.{counts_text}, KeepFails.{Fails}, Output.{PutsOut}, WordList.{odd_line}}

-- how many contents a collection would keep, and how many no entry has, a line each, and a line for
-- each bucket with an odd line
abbrev pub planned_text : ℕ → ℕ → List (List ℕ) → List ℕ
planned_text kept unused odd =
    counts_text ((codes "kept", kept) ∷ (codes "unused", unused) ∷ []) ++ flat_map odd_line odd

module _ {S C N : Type 0} (log : S → Option (List LogItem)) where
  -- the log gained a plan, and its counts were told, with the buckets that have odd lines
  abbrev pub PrintsPlan :
      List ℕ → Env S C N → Env S C N → Option (List ℕ) → Option (List ℕ) → ℕ → Type 0
  PrintsPlan cache old new before after status =
      (kept : ℕ) × (unused : List Sized)
      × (it : PlansCache (site_of cache old.base 0) kept unused (log old.store) (log new.store))
      × PutsOut (planned_text kept (length unused) (odd_in it.1.listing.2.0)) before after status

  -- an error ended the plan, and nothing was put out
  abbrev pub FailsToPlan :
      List ℕ → Env S C N → Env S C N → Option (List ℕ) → Option (List ℕ) → ℕ → Type 0
  FailsToPlan cache old new before after status =
      Fails log (StopsPlanning (site_of cache old.base 0)) old new before after status

  -- one of the two, and in the environment only the store may have changed
  abbrev pub Plans :
      List ℕ → Env S C N → Env S C N → Option (List ℕ) → Option (List ℕ) → ℕ → Type 0
  Plans cache old new before after status =
      KeepsRest old new
      × (PrintsPlan cache old new before after status
      ⊎ FailsToPlan cache old new before after status)
