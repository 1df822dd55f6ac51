-- The word `sweep` of the program `cacache-keep`.
use Rattle.std.specs.Prelude.{◌⊎◌, ℕ, List, [], ◌∷◌, Option, codes, length}
use Rattle.cacache.specs.{Stores.{LogItem}, Calls.{Env, KeepsRest}}
use Rattle.cacache_keep.specs.Sweeping.{StopsSweeping, SweepsCache}
use Rattle.cacache_program.specs.{Counts.{counts_text}, KeepFails.{Fails}, Output.{PutsOut}}

-- how many files were removed, how many bytes they had, and how many others are there, a line each
abbrev pub swept_text : ℕ → ℕ → ℕ → List ℕ
swept_text files bytes strange =
    counts_text ((codes "files", files) ∷ (codes "bytes", bytes) ∷ (codes "strange", strange) ∷ [])

module _ {S C N : Type 0} (log : S → Option (List LogItem)) where
  -- the log gained a sweep, and its counts were printed
  abbrev pub PrintsSweep :
      List ℕ → Env S C N → Env S C N → Option (List ℕ) → Option (List ℕ) → ℕ → Type 0
  PrintsSweep cache old new before after status =
      (files bytes : ℕ) × (strange : List (List ℕ))
      × SweepsCache cache files bytes strange (log old.store) (log new.store)
      × PutsOut (swept_text files bytes (length strange)) before after status

  -- an error ended the sweep, and nothing was put out
  abbrev pub FailsToSweep :
      List ℕ → Env S C N → Env S C N → Option (List ℕ) → Option (List ℕ) → ℕ → Type 0
  FailsToSweep cache old new before after status =
      Fails log (StopsSweeping cache) old new before after status

  -- one of the two; in the environment only the store may have changed
  abbrev pub Sweeps :
      List ℕ → Env S C N → Env S C N → Option (List ℕ) → Option (List ℕ) → ℕ → Type 0
  Sweeps cache old new before after status =
      KeepsRest old new
      × (PrintsSweep cache old new before after status
      ⊎ FailsToSweep cache old new before after status)
