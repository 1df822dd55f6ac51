-- Open writers and exports on a store in memory if all of their steps succeed.
use Rattle.std.specs.Prelude.{◌≡◌, ◌<◌, ◌^◌, ℕ, Bool, true, false, List, Some, Result, Ok, IfOk, IfErr, length}
use Rattle.cacache_core.specs.{declared.errors.Error.{Error, TheVariants.{OutOfMemory}}, Paths.{Names, names_of}}
use Rattle.cacache_store.specs.declared.store.{log.LogItem.{LogItem}, plain.PlainTemp.{PlainTemp}}
use Rattle.cacache_disk.specs.{declared.node.Node.TheVariants.{File}, LedTo.{free, writable}, Tree.{look}, Replay.{tree_of, IsLog}}
use Rattle.cacache_calls.specs.{declared.{command.{Command.{Command}, How.{How, TheVariants.{Copy, Reflink, HardLink}}, Put.{Put}, Source.{Source}}, reply.Reply.{Reply, TheVariants.{Copied, Done}}}, Licence.{KeepsTo, Licence}, Replies.{OrMemory}, Sound.{MayBegin}, Steps.{temp_path}}
use Rattle.cacache_calls.specs.declared.command.Command.TheVariants as commands
use Rattle.cacache_history.specs.{History.{NamesIntegrity}, Setup.{call_site, is_outside, may_export}}
use Rattle.cacache_laws.specs.{Caches.{Called, IsCache, setup_at}, ExportEffects.{NamesBytes, export_by}, OpenWriters.{CommitsBytes, OpensWriter}, Standing.{IsStanding}, Succeeds.{NamesFolder, IsUnused, put_reply}}

-- a file is at this path
abbrev pub FileAt : List ℕ → List LogItem → Type 0
FileAt path log =
    (names : Names) × (bytes : List ℕ) × (names_of path ≡ Ok names)
    × (look (tree_of log) names ≡ Some (File bytes))

-- a writer's file is made and is then at its path, or memory was refused
abbrev pub OpeningsSucceed : Type 0
OpeningsSucceed =
    (cache : List ℕ) (number : ℕ) (r : Result PlainTemp Error) (old new : List LogItem)
    → NamesFolder cache → IsStanding cache old → IsUnused cache number old
    → OpensWriter cache number r (Some old) (Some new) → IsLog new
    → IfOk r (λ file. FileAt file.path new) × IfErr r (λ e. e ≡ OutOfMemory)

-- as long as its file is there, a writer's commit answers what its options say, and leaves no
-- temporary file, or memory was refused
abbrev pub CommitsAnswer : Type 0
CommitsAnswer =
    (cache : List ℕ) (p : Put) (number : ℕ) (r : Reply) (old new : List LogItem)
    → NamesFolder cache → IsStanding cache old → FileAt (temp_path cache number) old
    → CommitsBytes cache p number r old new
    → OrMemory ((r ≡ put_reply cache p) × IsUnused cache number new) r

-- ---- what keeps a writer's file

-- everything except writing and moving temporary files, and removing
abbrev pub without_takings : Licence
without_takings = record {
  prepares = true;
  commits = false;
  links = true;
  inserts = true;
  lists = true;
  exports = true;
  removes = false;
}

-- a call that may begin, is no put and removes nothing leaves a writer's file
abbrev pub OthersKeepFiles : Type 0
OthersKeepFiles =
    (cache : List ℕ) (command : Command) (r : Reply) (old new : List LogItem)
    (c : Called cache command r old new) (number : ℕ)
    → MayBegin (call_site (setup_at cache c.base) c.number) (may_export (setup_at cache c.base))
    (is_outside (setup_at cache c.base)) command
    → NamesIntegrity command → KeepsTo without_takings command → IsCache cache old
    → FileAt (temp_path cache number) old → FileAt (temp_path cache number) new

-- so does a put of another number
abbrev pub PutsKeepFiles : Type 0
PutsKeepFiles =
    (cache : List ℕ) (p : Put) (r : Reply) (old new : List LogItem)
    (c : Called cache (commands.Put p) r old new) (number : ℕ)
    → MayBegin (call_site (setup_at cache c.base) c.number) (may_export (setup_at cache c.base))
    (is_outside (setup_at cache c.base)) (commands.Put p)
    → IsCache cache old → number < 2 ^ 64 → c.number < 2 ^ 64 → (number ≡ c.number → ⊥)
    → FileAt (temp_path cache number) old → FileAt (temp_path cache number) new

-- ---- exports

-- where an export may go: a copy to a file or to a place for one, any other to a place where
-- nothing is
abbrev pub MayTake : How → List ℕ → List LogItem → Type 0
MayTake Copy to log = (names : Names) × (writable (tree_of log) to ≡ Ok names)
MayTake Reflink to log = (names : Names) × (free (tree_of log) to ≡ Ok names)
MayTake HardLink to log = (names : Names) × (free (tree_of log) to ≡ Ok names)

-- what such an export of these bytes answers
abbrev pub exported : How → List ℕ → Reply
exported Copy bytes = Copied (length bytes)
exported Reflink bytes = Done
exported HardLink bytes = Done

-- an export of bytes that are there is done, verified first or not, if the path may take it
abbrev pub ExportsSucceed : Type 0
ExportsSucceed =
    (cache bytes to : List ℕ) (how : How) (source : Source) (checked : Bool) (r : Reply)
    (old new : List LogItem)
    → NamesFolder cache → IsStanding cache old → NamesBytes cache source bytes old
    → MayTake how to old → Called cache (export_by how source checked to) r old new
    → OrMemory (r ≡ exported how bytes) r
