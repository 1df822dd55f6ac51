-- The word `verify` of the program `cacache-keep`.
use Rattle.std.specs.Prelude.{◌⊎◌, ◌==◌, ◌&&◌, ℕ, Bool, cond, List, [], ◌∷◌, Option, codes, length}
use Rattle.cacache_core.specs.declared.integrity.digest.Hash.{Hash}
use Rattle.cacache.specs.{Stores.{LogItem}, Calls.{Env, KeepsRest}, Entries.{Found}}
use Rattle.cacache_jobs.specs.JobStates.{site_of}
use Rattle.cacache_keep.specs.{Checking.{odd_in}, Keeping.{StopsVerifying, VerifiesCache}}
use Rattle.cacache_program.specs.{Counts.{counts_text}, KeepFails.{Fails}, Output.{PutsOutWith}}

-- how many contents are good and damaged, entries dangle, and other files are there, a line each
abbrev pub verdict_text : ℕ → ℕ → ℕ → ℕ → List ℕ
verdict_text good damaged dangling strange =
    counts_text ((codes "good", good) ∷ (codes "damaged", damaged) ∷ (codes "dangling", dangling)
    ∷ (codes "strange", strange) ∷ [])

-- there is nothing but good contents
abbrev pub is_all_good : ℕ → ℕ → ℕ → Bool
is_all_good damaged dangling strange = damaged == 0 && dangling == 0 && strange == 0

-- the status of a verdict: 0 if all is good, otherwise 3
abbrev pub verdict_status : ℕ → ℕ → ℕ → ℕ
verdict_status damaged dangling strange = cond (is_all_good damaged dangling strange) 0 3

-- the counts were put out with the verdict's status, or a beginning of them with status 1
abbrev pub TellsVerdict :
    ℕ → ℕ → ℕ → ℕ → Option (List ℕ) → Option (List ℕ) → ℕ → Type 0
TellsVerdict good damaged dangling strange before after status =
    PutsOutWith (verdict_status damaged dangling strange)
    (verdict_text good damaged dangling strange) before after status

-- what a verification found: good and damaged contents, entries without one, other files, and buckets
-- with odd lines
abbrev pub Findings : Type 0
Findings = ℕ × List (List Hash) × List Found × List (List ℕ) × List (List ℕ)

-- so were the counts of these findings, without the buckets
abbrev pub TellsCounts : Findings → Option (List ℕ) → Option (List ℕ) → ℕ → Type 0
TellsCounts (good, damaged, dangling, strange, odd) before after status =
    TellsVerdict good (length damaged) (length dangling) (length strange) before after status

module _ {S C N : Type 0} (log : S → Option (List LogItem)) where
  -- the log gained a verification, and what it found was printed in this way
  abbrev pub PrintsFindings :
      (Findings → Option (List ℕ) → Option (List ℕ) → ℕ → Type 0)
      → List ℕ → Env S C N → Env S C N → Option (List ℕ) → Option (List ℕ) → ℕ → Type 0
  PrintsFindings Tells cache old new before after status =
      (good : ℕ) × (damaged : List (List Hash)) × (dangling : List Found)
      × (strange : List (List ℕ))
      × (it : VerifiesCache (site_of cache old.base 0) good damaged dangling strange
      (log old.store) (log new.store))
      × Tells (good, damaged, dangling, strange, odd_in it.listing.2.0) before after status

  -- an error ended the verification, and nothing was put out
  abbrev pub FailsToVerify :
      List ℕ → Env S C N → Env S C N → Option (List ℕ) → Option (List ℕ) → ℕ → Type 0
  FailsToVerify cache old new before after status =
      Fails log (StopsVerifying (site_of cache old.base 0)) old new before after status

  -- one of the two, and in the environment only the store may have changed
  abbrev pub VerifiesTelling :
      (Findings → Option (List ℕ) → Option (List ℕ) → ℕ → Type 0)
      → List ℕ → Env S C N → Env S C N → Option (List ℕ) → Option (List ℕ) → ℕ → Type 0
  VerifiesTelling Tells cache old new before after status =
      KeepsRest old new
      × (PrintsFindings Tells cache old new before after status
      ⊎ FailsToVerify cache old new before after status)

  -- so it is, and the counts are printed
  abbrev pub Verifies :
      List ℕ → Env S C N → Env S C N → Option (List ℕ) → Option (List ℕ) → ℕ → Type 0
  Verifies cache old new before after status =
      VerifiesTelling TellsCounts cache old new before after status
