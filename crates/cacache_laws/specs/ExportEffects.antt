-- What an export takes, by what its source leads to, and what it leaves at its path.
use Rattle.std.specs.Prelude.{ℕ, Bool, List, ◌≡◌, Some, length}
use Rattle.cacache_disk.specs.Replay.{shown, tree_of}
use Rattle.cacache_calls.specs.declared.{command.{How.{How}, Command.{Command}, Source.{Source, TheVariants.{Hash as OfHash, Key as OfKey}}}, reply.Reply.{Reply, TheVariants.{Copied, Done, Refused}}}
use Rattle.cacache_laws.specs.Caches.{IsExcused, HasContent, HasKey}
use Rattle.cacache_core.specs.{declared.integrity.digest.Hash.{Hash}, Paths.{home_of}}
use Rattle.cacache_store.specs.declared.store.log.LogItem.{LogItem}
use Rattle.cacache_calls.specs.declared.command.Command.TheVariants as commands
use Rattle.cacache_value.specs.Kinds.{Elsewhere, IsFor}

-- the path is apart from the cache: neither lies in the other
abbrev pub IsApart : List ℕ → List ℕ → Type 0
IsApart cache path = IsFor (home_of cache) Elsewhere path

-- the source leads to these bytes
abbrev pub NamesBytes : List ℕ → Source → List ℕ → List LogItem → Type 0
NamesBytes cache (OfHash i) bytes log = HasContent cache i bytes log
NamesBytes cache (OfKey key) bytes log = (i : List Hash) × HasKey cache key i bytes log

-- what the source names goes to the path: as a copy, by shared storage or as one more name, verified first or
-- not
abbrev pub export_by : How → Source → Bool → List ℕ → Command
export_by how source checked to =
    commands.Export source (record { how = how; checked = checked; to = to })

-- unless it is refused, the path shows the bytes, and a count is theirs
abbrev pub Arrives : List ℕ → List ℕ → Reply → List LogItem → List LogItem → Type 0
Arrives bytes to (Copied n) old new = (shown (tree_of new) to ≡ Some bytes) × (n ≡ length bytes)
Arrives bytes to Done old new = shown (tree_of new) to ≡ Some bytes
Arrives bytes to (Refused e) old new = IsExcused e old new
Arrives bytes to r old new = ⊥
