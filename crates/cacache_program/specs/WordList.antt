-- The words `verify --list` of the program `cacache-keep`.
use Rattle.std.specs.{Prelude.{◌++◌, ℕ, List, [], ◌∷◌, Option, codes, length}, List.{flat_map}}
use Rattle.cacache_core.specs.declared.integrity.digest.Hash.{Hash}
use Rattle.cacache.specs.{Stores.{LogItem}, Calls.{Env}, Entries.{Found}, Integrities.{integrity_text}}
use Rattle.cacache_program.specs.{Escaping.{escaped}, Output.{PutsOutWith}, PrintedEntries.{entry_text}, WordVerify.{Findings, VerifiesTelling, verdict_status, verdict_text}}

-- the line of a damaged content: its address
abbrev pub damaged_line : List Hash → List ℕ
damaged_line i = codes "damaged " ++ (integrity_text i ++ 10 ∷ [])

-- a word and an entry in a line: its text, as `ls` prints it
abbrev pub entry_line : List ℕ → Found → List ℕ
entry_line word f = word ++ (entry_text f ++ 10 ∷ [])

-- a word and a path in a line: the path is escaped
abbrev pub path_line : List ℕ → List ℕ → List ℕ
path_line word path = word ++ (escaped path ++ 10 ∷ [])

-- the line of what else lies among the contents
abbrev pub strange_line : List ℕ → List ℕ
strange_line path = path_line (codes "strange ") path

-- the line of a bucket with an odd line
abbrev pub odd_line : List ℕ → List ℕ
odd_line path = path_line (codes "odd ") path

-- a line each
abbrev pub list_text : Findings → List ℕ
list_text (good, damaged, dangling, strange, odd) =
    flat_map damaged_line damaged
    ++ (flat_map (entry_line (codes "dangling ")) dangling
    ++ (flat_map strange_line strange ++ flat_map odd_line odd))

-- what `verify` prints, and the list after it
abbrev pub listed_text : Findings → List ℕ
listed_text (good, damaged, dangling, strange, odd) =
    verdict_text good (length damaged) (length dangling) (length strange)
    ++ list_text (good, damaged, dangling, strange, odd)

-- that was put out with the verdict's status, or a beginning of it with status 1
abbrev pub TellsList : Findings → Option (List ℕ) → Option (List ℕ) → ℕ → Type 0
TellsList (good, damaged, dangling, strange, odd) before after status =
    PutsOutWith (verdict_status (length damaged) (length dangling) (length strange))
    (listed_text (good, damaged, dangling, strange, odd)) before after status

module _ {S C N : Type 0} (log : S → Option (List LogItem)) where
  -- the cache was verified, and the counts are told with the list after them
  abbrev pub ListsVerdict :
      List ℕ → Env S C N → Env S C N → Option (List ℕ) → Option (List ℕ) → ℕ → Type 0
  ListsVerdict cache old new before after status =
      VerifiesTelling log TellsList cache old new before after status
