-- What is fixed for each command: where its call begins, and which kinds of steps that call may make.
use Rattle.std.specs.Prelude.{ℕ, List, [], Bool, true, false}
use Rattle.cacache_core.specs.Paths.{index_area, join}
use Rattle.cacache_calls.specs.{declared.{command.{Command.{Command}, Export.{Export}, Source.{Source}}, carried.Aim.{Aim}, reply.Reply.TheVariants.{Done}}, State.{State, looking, reading, asking, sizing, over, Site}, Inserting.{insert, insertion, deletion}, Storing.{store}, Reading.{export}, Linking.{link_target}, Removing.{remove_content}, Walking.{walk}}
use Rattle.cacache_calls.specs.declared.command.Command.TheVariants as commands
use Rattle.cacache_calls.specs.declared.command.Source.TheVariants as sources
use Rattle.cacache_calls.specs.declared.carried.Aim.TheVariants as aims

-- ---- permissions

-- the kinds of steps that a call may make; it may always read a file or check that one exists
pub record Licence : Type 0 where
  -- makes folders, and syncs files and folders
  pub prepares : Bool
  -- writes a temporary file, and moves it to a content's path
  pub commits : Bool
  -- makes a symbolic link at a content's path
  pub links : Bool
  -- appends to a bucket
  pub inserts : Bool
  -- lists folders
  pub lists : Bool
  -- copies a content to a second path, or links it there
  pub exports : Bool
  -- removes files and folders
  pub removes : Bool

-- only to read files and to check that they exist
abbrev pub looking_up : Licence
looking_up = record {
  prepares = false;
  commits = false;
  links = false;
  inserts = false;
  lists = false;
  exports = false;
  removes = false;
}

-- ---- commands

-- where a command's call begins, and what it may do
pub record Plan : Type 0 where
  pub first : State
  pub may : Licence

-- a lookup of a key
abbrev pub looks_up : Site → List ℕ → Aim → State
looks_up site key aim = looking (record { cache = site.cache; key = key; aim = aim })

-- where an export begins: with a lookup, if a key names its content
abbrev pub opens_export : Site → Source → Export → State
opens_export site (sources.Key key) e = looks_up site key (aims.Export e)
opens_export site (sources.Hash i) e = export (record { cache = site.cache; integrity = i }) e

-- each command's plan at a site
abbrev pub plan : Site → Command → Plan
plan site (commands.Put p) =
    record { first = store site p; may = record looking_up { prepares = true; commits = true; inserts = true } }
plan site (commands.Link l) =
    record { first = sizing (link_target site l); may = record looking_up { prepares = true; links = true; inserts = true } }
plan site (commands.Insert i) =
    record { first = insert (insertion site.cache i); may = record looking_up { prepares = true; inserts = true } }
plan site (commands.Delete d) =
    record { first = insert (deletion site.cache d); may = record looking_up { prepares = true; inserts = true } }
plan site (commands.Find key) = record { first = looks_up site key aims.Report; may = looking_up }
plan site (commands.Get key) = record { first = looks_up site key aims.Read; may = looking_up }
plan site (commands.GetHash i) =
    record { first = reading (record { cache = site.cache; integrity = i }); may = looking_up }
plan site (commands.Exists i) =
    record { first = asking (record { cache = site.cache; integrity = i }); may = looking_up }
plan site commands.Ls =
    record { first = walk false (join site.cache index_area); may = record looking_up { lists = true } }
plan site (commands.Export source e) =
    record { first = opens_export site source e; may = record looking_up { exports = true } }
plan site (commands.RemoveHash i) =
    record { first = remove_content site.cache i (over Done); may = record looking_up { removes = true } }
plan site (commands.RemoveFully key) =
    record { first = looks_up site key aims.Remove; may = record looking_up { removes = true } }
plan site commands.Clear =
    record { first = walk true site.cache; may = record looking_up { lists = true; removes = true } }

-- the first state of a call
abbrev pub opening : Site → Command → State
opening site command = (plan site command).first

-- what each command may do, at any site
abbrev pub licence : Command → Licence
licence command = (plan (record { cache = []; base = []; number = 0 }) command).may
