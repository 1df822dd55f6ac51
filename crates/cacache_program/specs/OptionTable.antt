-- The names of the words, and which options go with each.
use Rattle.std.specs.{Prelude.{if◌then◌else◌, ℕ, Bool, true, false, List, Option, None, Some, codes, nat_eq}, Cmp.Lexicographic.{pointwise}}
use Rattle.cacache_program.specs.declared.keep.{names.Word.{Word, TheVariants.{Verify, Plan, Sweep, Repair, Compact, Collect, Prune, PlanPrune, Touch, Tidy}}, options.Flag.{Flag, TheVariants.{Grace, Keep, Size, Age, List as Lists, Durable, Anyway}}}

-- the word is this text
abbrev pub is : List ℕ → List ℕ → Bool
is word text = pointwise nat_eq word text

-- which name it is
abbrev pub word_in : List ℕ → Option Word
word_in word =
    if is word (codes "verify") then Some Verify
    else (if is word (codes "plan") then Some Plan
    else (if is word (codes "sweep") then Some Sweep
    else (if is word (codes "repair") then Some Repair
    else (if is word (codes "compact") then Some Compact
    else (if is word (codes "collect") then Some Collect
    else (if is word (codes "prune") then Some Prune
    else (if is word (codes "plan-prune") then Some PlanPrune
    else (if is word (codes "touch") then Some Touch
    else (if is word (codes "tidy") then Some Tidy
    else None)))))))))

-- a value follows the option
abbrev pub takes_value : Flag → Bool
takes_value Lists = false
takes_value Durable = false
takes_value Anyway = false
takes_value flag = true

-- the option goes with the name
abbrev pub allowed : Word → Flag → Bool
allowed Verify Lists = true
allowed Repair Anyway = true
allowed Compact Durable = true
allowed Collect Grace = true
allowed Collect Keep = true
allowed Collect Durable = true
allowed Collect Anyway = true
allowed Prune Grace = true
allowed Prune Keep = true
allowed Prune Durable = true
allowed Tidy Grace = true
allowed Tidy Keep = true
allowed Tidy Size = true
allowed Tidy Age = true
allowed name flag = false
