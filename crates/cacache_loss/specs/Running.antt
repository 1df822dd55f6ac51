-- What the code keeps of a moment, what it takes a loss for, and what it leaves.
use Rattle.std.specs.{Prelude.{ℕ, List, [], ◌∷◌, if◌then◌else◌, ◌≡◌, map, Bool, true, false, ◌||◌, not, Option, None, Some, unwrap_or, is_some}, List.{list_any}, BTreeMap.{BTreeMap, get}, BTreeSet.{contains}}
use Rattle.cacache_core.specs.Paths.{Names, names_of}
use Rattle.cacache_loss.specs.{Fixing.{is_at, Fixing, Place, Fixed, synced, refixed, opened_if, same_node, same_thing, moves_file, renamed}, Loss.{Loss, left_at}, declared.{effect.Effect.{Effect}, running.Running.{Running}, loss.Taken.{Taken}, left.Losing.{Losing}}, Moments.{Moment, lost_then}, Reached.{is_among}}
use Rattle.cacache_store.specs.{declared.store.{step.Step.TheVariants.{Write, Persist, Copy}, answer.Answer.TheVariants.{Done}}, Plain.{PlainStep, PlainAnswer}}
use Rattle.cacache_disk.specs.{declared.{luck.Luck.{Luck}, node.Node.{Node}}, Tree.{Tree, look, names_cmp, same_path, bytes_of}}
use Rattle.cacache_value.specs.Acts.{Move}

-- the tail of a path from the first of these texts that names it, none if none does
abbrev pub tail_at : List (List ℕ × List ℕ) → Names → List ℕ
tail_at [] path = []
tail_at (file ∷ files) path =
    if is_at (names_of file.0) path then file.1 else tail_at files path

-- the loss in which these names are undone, and these tails follow
abbrev pub chosen : List (List ℕ) → List (List ℕ × List ℕ) → Loss
chosen undone tails = record {
  undone = λ path. list_any (λ text. is_at (names_of text) path) undone;
  tail = tail_at tails;
}

-- ---- what is kept

-- how far files are fixed: as the map says, or as the first tree had them
abbrev pub files_in : Tree → BTreeMap Names Fixing → Names → Fixing
files_in first files path = unwrap_or (get names_cmp files path) (synced (bytes_of (look first path)))

-- the files here are fixed this far, whatever the first tree was, and all others as before
abbrev pub FixesFiles : BTreeMap Names Fixing → BTreeMap Names Fixing → (Names → Bool)
    → (Names → Fixing) → Type 0
FixesFiles old new here fixing = (first : Tree) (q : Names)
    → files_in first new q ≡ if here q then fixing q else files_in first old q

-- what was at a path is kept if its name changed and nothing is kept yet; other paths stay as kept
abbrev pub KeepsPlace : BTreeMap Names Place → BTreeMap Names Place → Names → Bool → Place → Type 0
KeepsPlace old new path renames was = (q : Names) → get names_cmp new q
    ≡ if same_path q path then renamed renames was (get names_cmp old path) else get names_cmp old q

-- what is fixed, if the first tree was and these changed since
abbrev pub fixed_in : Tree → BTreeMap Names Fixing → BTreeMap Names Place → Fixed
fixed_in first files names = record {
  files = files_in first files;
  names = get names_cmp names;
}

-- the moment that a running disk has reached
abbrev pub moment_of : Running → Moment
moment_of r = record { tree = r.disk; fixed = fixed_in r.first r.files r.names }

-- ---- what a step does

-- whether a step that moves a file did so
abbrev pub is_done : PlainAnswer → Bool
is_done Done = true
is_done answer = false

-- where a file moved to, and how far it is fixed
abbrev pub arrival : (Names → Fixing) → Option (Names × Names) → Option (Names × Fixing)
arrival files None = None
arrival files (Some (from, to)) = Some (to, files from)

-- what a step with this answer does at the paths that it reaches
abbrev pub effect_of : (Names → Fixing) → PlainStep → PlainAnswer → Effect
effect_of files (Write f bytes) answer = record { rewrites = false; writes = true; moved = None }
effect_of files (Copy p to) answer = record { rewrites = true; writes = false; moved = None }
effect_of files (Persist f p) answer = record {
  rewrites = false;
  writes = false;
  moved = arrival files (moves_file (Persist f p) answer);
}
effect_of files step answer = record { rewrites = false; writes = false; moved = None }

-- how far the file that moved to a path is fixed, if one moved there
abbrev pub arrived : Option (Names × Fixing) → Names → Option Fixing
arrived None path = None
arrived (Some (to, fixing)) path = if same_path path to then Some fixing else None

-- how far a file is fixed after a step of this effect
abbrev pub fixing_by : Effect → Place → Option Node → Names → Fixing
fixing_by e was here path =
    unwrap_or (arrived e.moved path)
    (refixed e.rewrites (same_node was.node here) (same_thing was.node here)
    (opened_if e.writes was.fixing))

-- whether another thing is at a path after it
abbrev pub renames : Effect → Place → Option Node → Names → Bool
renames e was here path = is_some (arrived e.moved path) || not (same_thing was.node here)

-- a step with its luck and its answer
abbrev pub move_of : PlainStep → Luck → PlainAnswer → Move
move_of step luck answer = record { step = step; luck = luck; answer = answer }

-- at the reached ones of these paths, which had these places, files are fixed as the effect says,
-- otherwise as before
abbrev pub FilesSettleAt : Effect → Tree → List Names → List Place → List Names → (Names → Fixing)
    → (Names → Fixing) → Type 0
FilesSettleAt e t paths places reached old new =
    (place : Names → Place) → places ≡ map place paths → (q : Names)
    → new q ≡ if is_among q reached then fixing_by e (place q) (look t q) q else old q

-- and so is what was at names
abbrev pub NamesSettleAt : Effect → Tree → List Names → List Place → List Names
    → (Names → Option Place) → (Names → Option Place) → Type 0
NamesSettleAt e t paths places reached old new =
    (place : Names → Place) → places ≡ map place paths → (q : Names)
    → new q ≡ if is_among q reached
    then renamed (renames e (place q) (look t q) q) (place q) (old q)
    else old q

-- at all of them
abbrev pub FilesSettle : Effect → Tree → List Names → List Place → (Names → Fixing)
    → (Names → Fixing) → Type 0
FilesSettle e t paths places old new = FilesSettleAt e t paths places paths old new

-- at all of them
abbrev pub NamesSettle : Effect → Tree → List Names → List Place → (Names → Option Place)
    → (Names → Option Place) → Type 0
NamesSettle e t paths places old new = NamesSettleAt e t paths places paths old new

-- ---- what the code takes a loss for, and what it leaves

-- the loss in which these paths are undone, and these tails follow
abbrev pub loss_of : Taken → Loss
loss_of taken = record {
  undone = contains names_cmp taken.undone;
  tail = λ path. unwrap_or (get names_cmp taken.tails path) [];
}

-- what is left at a path, if its folder is left
abbrev pub left_of : Losing → Names → Place
left_of l =
    left_at l.home l.running.disk (fixed_in l.running.first l.running.files l.running.names)
    (loss_of l.taken)

-- what is at a path after the loss
abbrev pub lost_of : Losing → Names → Option Node
lost_of l path = lost_then l.home (moment_of l.running) (loss_of l.taken) path
