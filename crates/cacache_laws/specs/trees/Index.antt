-- What a listing of the index shows of a tree that nobody else changes.
use Rattle.std.specs.Prelude.{◌≡◌, ℕ, List, [], ◌∷◌, Bool, true, false, Some, Ok, Err, Contains}
use Rattle.cacache_core.specs.{declared.errors.{Error.TheVariants.{IoError}, Fault.TheVariants.{NotFound}}, Paths.{Names, home_of}}
use Rattle.cacache_disk.specs.{declared.luck.Luck.TheVariants.{Plain}, Tree.{Tree, Rooted}, Apply.{apply}}
use Rattle.cacache_store.specs.declared.store.{step.Step.TheVariants.{ReadAll}, answer.Answer.TheVariants.{Bytes}}
use Rattle.cacache_entry.specs.Bucket.{entries_of, Found, latest}
use Rattle.cacache_calls.specs.{Steps.{bucket_path}, declared.reply.Reply.TheVariants.{Listed}, State.{Site, Item}}
use Rattle.cacache_calls.specs.declared.command.Command.TheVariants as commands
use Rattle.cacache_laws.specs.trees.Answers.{AnswersOn}

-- an error other than that a file or a folder is missing
abbrev pub is_failure : Item → Bool
is_failure (Ok found) = false
is_failure (Err (IoError NotFound message)) = false
is_failure (Err error) = true

-- the entries among items
abbrev pub entries_in : List Item → List Found
entries_in [] = []
entries_in (Ok found ∷ items) = found ∷ entries_in items
entries_in (Err error ∷ items) = entries_in items

-- a listing of the index that is made on this tree has these entries, and no error but that a file
-- or a folder is missing
pub record IndexLists (site : Site) (t : Tree) (entries : List Found) : Type 0 where
  pub items : List Item
  pub answers : AnswersOn site t commands.Ls (Listed items)
  pub clean : (item : Item) → Contains items item → is_failure item ≡ false
  pub those : entries ≡ entries_in items

-- it has what the lookup of each key finds
abbrev pub IndexesFind : Type 0
IndexesFind =
    (site : Site) (home : Names) (t : Tree) (entries : List Found)
    (key bytes : List ℕ) (found : Found)
    → home_of site.cache ≡ Some home → Rooted t → IndexLists site t entries
    → (apply t (ReadAll (bucket_path site.cache key)) Plain).0 ≡ Bytes bytes
    → latest key (entries_of bytes) ≡ Some found
    → Contains entries found

-- one tree has one list of entries
abbrev pub IndexesAgree : Type 0
IndexesAgree =
    (site : Site) (t : Tree) (entries others : List Found)
    → IndexLists site t entries → IndexLists site t others → entries ≡ others
