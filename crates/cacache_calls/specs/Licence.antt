-- What each command's call may do: each kind of step that changes something, and listing folders.
use Rattle.std.specs.Prelude.{[], ◌∷◌, Bool, true, false, if◌then◌else◌}
use Rattle.cacache_store.specs.declared.store.step.Step.TheVariants as steps
use Rattle.cacache_store.specs.Plain.{PlainStep}
use Rattle.cacache_calls.specs.{declared.{command.Command.{Command}, reply.Reply.{Reply}}, Runs.{Moves, Runs}, State.{Site}}
pub use Rattle.cacache_calls.specs.Commands.{Licence, looking_up, licence, opening}

-- ---- permissions

-- it is allowed
abbrev pub May : Bool → Type 0
May true = Unit {0}
May false = ⊥

-- whether the licence allows a step of this kind
abbrev pub allows : Licence → PlainStep → Bool
allows l (steps.MakeDirs p) = l.prepares
allows l (steps.CreateTemp p) = l.commits
allows l (steps.Write f bytes) = l.commits
allows l (steps.Persist f p) = l.commits
allows l (steps.Append p bytes) = l.inserts
allows l (steps.ReadAll p) = true
allows l (steps.Open p) = true
allows l (steps.Read f max) = true
allows l (steps.Exists p) = true
allows l (steps.Size p) = true
allows l (steps.Symlink target p) = l.links
allows l (steps.Copy p q) = l.exports
allows l (steps.Reflink p q) = l.exports
allows l (steps.HardLink p q) = l.exports
allows l (steps.ReadDir p) = l.lists
allows l (steps.RemoveFile p) = l.removes
allows l (steps.RemoveDir p) = l.removes
allows l (steps.SyncTemp f) = l.commits
allows l (steps.SyncFile p) = l.prepares
allows l (steps.SyncDir p) = l.prepares

-- ---- licences

-- it may also list folders: nothing in the store changes
abbrev pub looking_on : Licence
looking_on = record looking_up { lists = true }

-- it may also export contents: nothing in the cache changes
abbrev pub handing_out : Licence
handing_out = record looking_on { exports = true }

-- it may also add bytes and entries, but it exports, links and removes nothing
abbrev pub taking_in : Licence
taking_in = record looking_on { prepares = true; commits = true; inserts = true }

-- the second allows what the first does, and the rest holds
abbrev pub as_far : Bool → Bool → Bool → Bool
as_far a b rest = if a then (if b then rest else false) else rest

-- whether the first allows all that the second does
abbrev pub covers : Licence → Licence → Bool
covers m l =
    as_far l.prepares m.prepares (as_far l.commits m.commits (as_far l.links m.links
    (as_far l.inserts m.inserts (as_far l.lists m.lists (as_far l.exports m.exports
    (as_far l.removes m.removes true))))))

-- whether a command's call stays within this licence
abbrev pub keeps_to : Licence → Command → Bool
keeps_to m command = covers m (licence command)

-- a command whose call stays within this licence
abbrev pub KeepsTo : Licence → Command → Type 0
KeepsTo m command = May (keeps_to m command)

-- ---- law

-- the licence allows each of these steps
abbrev pub AllMay : Licence → Moves → Type 0
AllMay l [] = Unit {0}
AllMay l (m ∷ moves) = May (allows l m.0) × AllMay l moves

-- a call that stays within a licence makes only steps that it allows, whatever the answers are
abbrev pub CallsKeepTo : Type 0
CallsKeepTo =
    (m : Licence) (site : Site) (command : Command) (moves : Moves) (r : Reply)
    → KeepsTo m command → Runs (opening site command) moves r → AllMay m moves
