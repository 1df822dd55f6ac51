-- Calls of many callers on one disk, as a list of records: what each leads to, and which lists are
-- legal.
use Rattle.std.specs.Prelude.{◌≡◌, ◌⊎◌, ◌<◌, ◌+◌, ◌==◌, ℕ, List, [], ◌∷◌, ◌++◌, Option, None, Some, Result, Ok, Err, option_map, if◌then◌else◌}
use Rattle.cacache_core.specs.{declared.errors.{Fault.{Fault}, Error.TheVariants.{OutOfMemory}}, Integrity.{IsIntegrity}}
use Rattle.cacache_store.specs.Plain.{PlainStep, PlainAnswer, Fits}
use Rattle.cacache_disk.specs.{declared.luck.Luck.{Luck}, Tree.{Tree, bare}, Apply.{apply}}
use Rattle.cacache_calls.specs.{declared.{command.{Command.{Command}, Source.{Source}}, reply.Reply.{Reply, TheVariants.{Refused}}}, State.{State, over}, Table.{wants, after, opening}, Runs.{plain_reply}, Sound.{MayBegin}}
use Rattle.cacache_calls.specs.declared.command.Command.TheVariants as commands
use Rattle.cacache_calls.specs.declared.command.Source.TheVariants as sources
use Rattle.cacache_value.specs.{Acts.{Move}, Placed.{with_files, LieApart}}
use Rattle.cacache_history.specs.{declared.record.Record.{Record, TheVariants.{Began, Moved, Stopped}}, Setup.{Setup, call_site, home, may_export, is_outside}}

-- what callers share, and what happened, oldest first
pub record History : Type 0 where
  pub setup : Setup
  -- what happened, oldest first
  pub records : List Record

-- ---- what there is at a place

-- a step that a call made: the tree that it found, the step, its luck and its answer
pub record Turn : Type 0 where
  pub place : Tree
  pub move : Move

-- a call: its command, its number, its turns so far, and the state that it is in
pub record Call : Type 0 where
  pub command : Command
  pub number : ℕ
  pub turns : List Turn
  pub state : State

-- the tree, the call of each caller that has one, and how many calls began
pub record Now : Type 0 where
  pub tree : Tree
  pub calls : ℕ → Option Call
  pub begun : ℕ

-- the tree, or a bare one if there is none
abbrev pub tree_in : Result Tree Fault → Tree
tree_in (Ok t) = t
tree_in (Err fault) = bare

-- before any record: the outside files alone
abbrev pub initial : Setup → Now
initial s = record { tree = tree_in (with_files bare s.outside); calls = λ caller. None; begun = 0 }

-- ---- what comes after a record

-- one caller's call is another one, or none
abbrev pub set_call : ℕ → Option Call → (ℕ → Option Call) → ℕ → Option Call
set_call caller call calls k = if k == caller then call else calls k

-- a call that begins
abbrev pub new_call : Setup → ℕ → Command → Call
new_call s number command = record {
  command = command;
  number = number;
  turns = [];
  state = opening (call_site s number) command;
}

-- a step with its answer
abbrev pub Made : Type 0
Made = PlainStep × PlainAnswer

-- the turn of a step that was made on this tree
abbrev pub turn_of : Tree → Luck → Made → Turn
turn_of t luck made = record {
  place = t;
  move = record { step = made.0; luck = luck; answer = made.1 };
}

-- a call after a move on this tree
abbrev pub call_after : Tree → Luck → Option Made → Call → Call
call_after t luck None call = call
call_after t luck (Some made) call = record {
  command = call.command;
  number = call.number;
  turns = call.turns ++ turn_of t luck made ∷ [];
  state = after call.state made.1;
}

-- a call with a reply is over
abbrev pub unless_over : Option Reply → Option Call → Option Call
unless_over None call = call
unless_over (Some reply) call = None

-- the tree after a move
abbrev pub moved_tree : Tree → Luck → Option Made → Tree
moved_tree t luck None = t
moved_tree t luck (Some made) = (apply t made.0 luck).1

-- the caller's call after its move
abbrev pub moved_call : Now → ℕ → Luck → Option Made → Option Call
moved_call w caller luck made = option_map (call_after w.tree luck made) (w.calls caller)

-- calls are numbered as they begin
abbrev pub now_after : Setup → Now → Record → Now
now_after s w (Began caller command) = record {
  tree = w.tree;
  calls = set_call caller (Some (new_call s w.begun command)) w.calls;
  begun = w.begun + 1;
}
now_after s w (Moved caller luck made reply) = record {
  tree = moved_tree w.tree luck made;
  calls = set_call caller (unless_over reply (moved_call w caller luck made)) w.calls;
  begun = w.begun;
}
now_after s w (Stopped caller) = record {
  tree = w.tree;
  calls = set_call caller None w.calls;
  begun = w.begun;
}

-- after these records
abbrev pub replayed : Setup → Now → List Record → Now
replayed s w [] = w
replayed s w (r ∷ records) = replayed s (now_after s w r) records

-- the tree and the calls after the first records of a history
abbrev pub now_at : History → List Record → Now
now_at h before = replayed h.setup (initial h.setup) before

-- ---- which records may come

-- there is a reply exactly when the call is over; out of memory may end it at any move
abbrev pub Ends : State → Option Reply → Type 0
Ends s None = (step : PlainStep) × (wants s ≡ Some step)
Ends s (Some reply) = (s ≡ over (plain_reply reply)) ⊎ (reply ≡ Refused OutOfMemory)

-- the call's wanted step, with the answer that the disk gives here; none only if the call was over
-- before any step
abbrev pub MayMove : Tree → State → Luck → Option Made → Option Reply → Type 0
MayMove t s luck None reply = (wants s ≡ None) × Ends s reply
MayMove t s luck (Some made) reply =
    (wants s ≡ Some made.0) × (made.1 ≡ (apply t made.0 luck).0) × Fits made.0 made.1
    × Ends (after s made.1) reply

-- an integrity of a command is one, as each value of the program's type
abbrev pub NamesSource : Source → Type 0
NamesSource (sources.Key key) = Unit {0}
NamesSource (sources.Hash i) = IsIntegrity i

-- so is that of a content which a command reads, asks about, exports or removes
abbrev pub NamesIntegrity : Command → Type 0
NamesIntegrity (commands.GetHash i) = IsIntegrity i
NamesIntegrity (commands.Exists i) = IsIntegrity i
NamesIntegrity (commands.Export source e) = NamesSource source
NamesIntegrity (commands.RemoveHash i) = IsIntegrity i
NamesIntegrity (commands.Put p) = Unit {0}
NamesIntegrity (commands.Link l) = Unit {0}
NamesIntegrity (commands.Insert i) = Unit {0}
NamesIntegrity (commands.Delete d) = Unit {0}
NamesIntegrity (commands.Find key) = Unit {0}
NamesIntegrity (commands.Get key) = Unit {0}
NamesIntegrity commands.Ls = Unit {0}
NamesIntegrity (commands.RemoveFully key) = Unit {0}
NamesIntegrity commands.Clear = Unit {0}

-- a caller without a call begins one; one with a call moves it, or gives it up
abbrev pub MayCome : Setup → Now → Record → Type 0
MayCome s w (Began caller command) =
    (caller < s.callers) × (w.calls caller ≡ None)
    × MayBegin (call_site s w.begun) (may_export s) (is_outside s) command × NamesIntegrity command
MayCome s w (Moved caller luck made reply) =
    (call : Call) × (w.calls caller ≡ Some call) × MayMove w.tree call.state luck made reply
MayCome s w (Stopped caller) = (call : Call) × (w.calls caller ≡ Some call)

-- each record may come at its place
abbrev pub Legal : Setup → Now → List Record → Type 0
Legal s w [] = Unit {0}
Legal s w (r ∷ records) = MayCome s w r × Legal s (now_after s w r) records

-- the outside files lie apart from the cache, and each record may come at its place
pub record IsLegal (h : History) : Type 0 where
  pub apart : LieApart (home h.setup) h.setup.outside
  pub opens : with_files bare h.setup.outside ≡ Ok (initial h.setup).tree
  pub legal : Legal h.setup (initial h.setup) h.records

-- ---- calls of a history

-- one of the records is a move, with this reply if any, and it left the call like this
pub record Reaches (h : History) (call : Call) (reply : Option Reply) : Type 0 where
  pub before : List Record
  pub later : List Record
  pub caller : ℕ
  pub luck : Luck
  pub made : Option Made
  pub is : h.records ≡ before ++ Moved caller luck made reply ∷ later
  pub stands : moved_call (now_at h before) caller luck made ≡ Some call
