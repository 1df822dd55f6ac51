-- Whether the keys of entries of the index lead to them, over any store.
use Rattle.std.specs.Prelude.{◌≡◌, ◌++◌, ◌&&◌, All, List, ◌∷◌, Bool, true, false, Option, None, Some, map, nat_eq}
use Rattle.cacache_core.specs.{declared.errors.{Error.{Error}, Fault.TheVariants.{Unsupported}}, Comparing.{same_hashes}}
use Rattle.cacache_store.specs.declared.store.log.LogItem.{LogItem}
use Rattle.cacache_entry.specs.Bucket.{Found}
use Rattle.cacache_calls.specs.{declared.{command.Command.{Command}, reply.Reply.{Reply}}, State.{Site}, Table.{opening}, Common.{fails}, Runs.{EndsAs, Ran, without_message}}
use Rattle.cacache_calls.specs.declared.command.Command.TheVariants as commands
use Rattle.cacache_calls.specs.declared.reply.Reply.TheVariants as replies
use Rattle.cacache_keep.specs.Calls.{MadeCalls}

-- what a lookup found is the entry: it has the same moment, size and content
abbrev pub is_led : Found → Option Found → Bool
is_led entry None = false
is_led entry (Some found) =
    nat_eq found.time entry.time && nat_eq found.size entry.size
    && same_hashes found.integrity entry.integrity

-- an entry of the index, and what the lookup of its key found
abbrev pub Lookup : Type 0
Lookup = Found × Option Found

-- the lookup, as a call
abbrev pub finding : Lookup → Command × Reply
finding l = (commands.Find l.0.key, replies.LookedUp l.1)

-- it found the entry
abbrev pub Leads : Lookup → Type 0
Leads l = is_led l.0 l.1 ≡ true

-- the log gained a lookup of the key of each of these entries, in turn, which found it
pub record Confirms
    (site : Site) (entries : List Found) (old new : Option (List LogItem)) : Type 0 where
  pub lookups : List Lookup
  pub each : map (λ l. l.0) lookups ≡ entries
  pub lead : All Leads lookups
  pub calls : MadeCalls site (map finding lookups) old new

-- the lookup failed with the error; or it didn't find the entry, and the error says so
abbrev pub LeadsAway : Found → Reply → Error → Type 0
LeadsAway entry (replies.LookedUp found) e =
    (is_led entry found ≡ false) × EndsAs e (fails Unsupported)
LeadsAway entry (replies.Refused error) e = error ≡ without_message e
LeadsAway entry reply e = ⊥

-- the first of these entries were found so, and the lookup of the next one's key ended it
pub record StopsConfirming
    (site : Site) (entries : List Found) (e : Error)
    (old new : Option (List LogItem)) : Type 0 where
  pub done : List Found
  pub next : Found
  pub rest : List Found
  pub split : entries ≡ done ++ next ∷ rest
  pub between : Option (List LogItem)
  pub confirms : Confirms site done old between
  pub reply : Reply
  pub looked : Ran (opening site (commands.Find next.key)) reply between new
  pub why : LeadsAway next reply e
