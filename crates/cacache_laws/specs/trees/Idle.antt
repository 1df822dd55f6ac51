-- Two trees, one of which lacks contents that no lookup leads to; and removals, made on both.
use Rattle.std.specs.Prelude.{◌≡◌, ◌⊎◌, ℕ, List, [], Bool, true, None, Some, Ok, IsTrue}
use Rattle.cacache_core.specs.{declared.errors.{Error.TheVariants.{IoError, OutOfMemory}, Fault.TheVariants.{TooDeep}}, Integrity.{IsIntegrity}, Paths.{Names, names_of}}
use Rattle.cacache_store.specs.declared.store.{log.LogItem.{LogItem}, step.Step.TheVariants.{ReadAll}, answer.Answer.TheVariants.{Bytes}}
use Rattle.cacache_disk.specs.{declared.luck.Luck.TheVariants.{Plain}, Tree.{Tree, look}, Apply.{apply}}
use Rattle.cacache_entry.specs.Bucket.{entries_of, Found, latest}
use Rattle.cacache_calls.specs.{declared.{command.Command.{Command}, reply.Reply.{Reply, TheVariants.{Refused}}}, Licence.{licence}, Steps.{bucket_path, content_path}}
use Rattle.cacache_calls.specs.declared.command.Command.TheVariants as commands
use Rattle.cacache_value.specs.Kinds.{Content, path_kind}
use Rattle.cacache_laws.specs.{Caches.{Called}, trees.{Walks.{is_leaf}, Collecting.{LinksLeadOut}}}

-- ---- idle contents

-- a lookup of the key in the tree finds the entry
abbrev pub Finds : List ℕ → Tree → List ℕ → Found → Type 0
Finds cache t key found =
    (bytes : List ℕ) × ((apply t (ReadAll (bucket_path cache key)) Plain).0 ≡ Bytes bytes)
    × (latest key (entries_of bytes) ≡ Some found)

-- the content of an entry that some lookup finds lies at these names
abbrev pub IsNeeded : List ℕ → Tree → Names → Type 0
IsNeeded cache t names =
    (key : List ℕ) × (found : Found) × Finds cache t key found
    × (names_of (content_path cache found.integrity) ≡ Ok names)

-- a content is at these names, a file or a link, and no lookup leads to it
pub record IsIdle (cache : List ℕ) (home : Names) (t : Tree) (names : Names) : Type 0 where
  pub kind : path_kind (Some home) names ≡ Content
  pub stands : IsTrue (is_leaf (look t names))
  pub idle : IsNeeded cache t names → ⊥

-- the lean tree has all that the full one has, except idle contents; in the full one links lead out
-- of the cache, and each entry that a lookup finds has an integrity
pub record LacksIdle (cache : List ℕ) (home : Names) (full lean : Tree) : Type 0 where
  pub nodes : (names : Names)
      → (look lean names ≡ look full names)
      ⊎ ((look lean names ≡ None) × IsIdle cache home full names)
  pub links : LinksLeadOut home full
  pub formed : (key : List ℕ) (found : Found)
      → Finds cache full key found → IsIntegrity found.integrity

-- ---- removals

-- the command removes a content, a key with its content, or everything
abbrev pub removes : Command → Bool
removes command = (licence command).removes

-- the call broke off: memory ran out, or a clearing came to too many names or levels
abbrev pub BreaksOff : Command → Reply → Type 0
BreaksOff commands.Clear r = (r ≡ Refused OutOfMemory) ⊎ (r ≡ Refused (IoError TooDeep []))
BreaksOff command r = r ≡ Refused OutOfMemory

-- the log gained a call that removes, and that didn't break off
pub record Removed (cache : List ℕ) (command : Command) (old new : List LogItem) : Type 0 where
  pub removal : removes command ≡ true
  pub reply : Reply
  pub called : Called cache command reply old new
  pub whole : BreaksOff command reply → ⊥
