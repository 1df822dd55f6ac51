-- What each call says and leaves, as POSIX has it if no folder on the way is a link.
use Rattle.std.specs.Prelude.{◌≡◌, ◌||◌, ℕ, Bool, true, false, List, [], ◌∷◌, Option, None, Some, Result, Ok, MatchResult, take}
use Rattle.std_io.specs.declared.io.kind.ErrorKind.{ErrorKind}
use Rattle.cacache_core.specs.{Errors.{fault_of}, declared.errors.Fault.{Fault, TheVariants.{InvalidInput}}, Paths.{Names}}
use Rattle.cacache_disk.specs.{declared.{luck.Luck.{Luck, TheVariants.{Plain, Fail, Take}}, node.Node.TheVariants.{Folder, File, Link}}, Tree.{Tree, look, put}, LedTo.{place, standing, leads, found, writable, free, replaceable, file_at, linked, removable, emptied}, Apply.{taken, readable}}
use Rattle.cacache_system.specs.{declared.call.{SystemCall.{SystemCall}, CallItem.{CallItem}, CallResult.{CallResult}}, CallsOf.{already_exists, interrupts}, AnswersOf.{misses, refuses_memory}}
use Rattle.cacache_system.specs.declared.call.SystemCall.TheVariants as asks
use Rattle.cacache_system.specs.declared.call.CallResult.TheVariants as says
use Rattle.cacache_system_model.specs.{Folders.{OpensFolder, ReadsFolder}, Machine.{OpenFile, SyncedNode, Machine, Became, HasTree, IsRefused, ChangesTree, RemovesNode, OpensIf, with_empty, ShowsEnd, ShowsOpen, ReadsOpen, Grows, WritesOpen, with_sync, SyncsOpen, GivesRights, LinksNode, found_bytes, CopiesBytes, MovesNode, SpellsEnd}}

-- the bytes that a copy brings, or why it brings none
abbrev pub brought : Tree → List ℕ → List ℕ → Result (List ℕ) Fault
brought t from to = found_bytes (leads t from) (writable t to) (file_at t from InvalidInput)

-- What a call says and leaves if it doesn't fail without cause. A read or a write moves all the bytes that it may, or at
-- most so many. A folder gives its names in any order.
abbrev pub GoesWell : Option ℕ → Machine → SystemCall → CallResult → Machine → Type 0
GoesWell most m (asks.OpenToRead path) said after =
    OpensIf (found m.tree path) (λ names. m.tree) m said after
GoesWell most m (asks.CreateNew path mode) said after =
    OpensIf (free m.tree path) (λ names. put m.tree names (File [])) m said after
GoesWell most m (asks.OpenToAppend path) said after =
    OpensIf (writable m.tree path) (with_empty m.tree) m said after
GoesWell most m (asks.Read number size) said after =
    ReadsOpen (take (readable most size)) number m said after
GoesWell most m (asks.ReadRest number) said after = ReadsOpen (λ bytes. bytes) number m said after
GoesWell most m (asks.Write number bytes) said after = WritesOpen most bytes number m said after
GoesWell most m (asks.Sync number) said after = SyncsOpen number m said after
GoesWell most m (asks.SetOwner number owner group) said after = GivesRights number m said after
GoesWell most m (asks.SetMode number mode) said after = GivesRights number m said after
GoesWell most m (asks.StatFile number) said after = ShowsOpen number m said after
GoesWell most m (asks.Stat path) said after = ShowsEnd (found m.tree path) m said after
GoesWell most m (asks.StatLink path) said after = ShowsEnd (standing m.tree path) m said after
GoesWell most m (asks.Rename from to) said after =
    MatchResult (place m.tree from)
    (λ old. MovesNode old (look m.tree old) (replaceable m.tree to) m said after)
    (λ fault. IsRefused fault m said after)
GoesWell most m (asks.MakeFolder path) said after =
    ChangesTree (free m.tree path) (λ names. put m.tree names Folder) m said after
GoesWell most m (asks.RemoveFile path) said after =
    RemovesNode (removable m.tree path) m said after
GoesWell most m (asks.RemoveFolder path) said after =
    RemovesNode (emptied m.tree path) m said after
GoesWell most m (asks.Symlink target path) said after =
    ChangesTree (free m.tree path) (λ names. put m.tree names (Link target)) m said after
GoesWell most m (asks.HardLink from to) said after =
    LinksNode (linked m.tree from) (free m.tree to) m said after
GoesWell most m (asks.CopyFile from to) said after =
    CopiesBytes (brought m.tree from to) (writable m.tree to) m said after
GoesWell most m (asks.RealPath path) said after = SpellsEnd (found m.tree path) m said after
GoesWell most m (asks.OpenFolder path) said after =
    OpensFolder (standing m.tree path) m said after
GoesWell most m (asks.ReadNames number size) said after = ReadsFolder number m said after

-- ---- failures without cause

-- what a write leaves that did so many bytes of an open file
abbrev pub PartWritten : Option OpenFile → List ℕ → Option ℕ → Machine → Machine → Type 0
PartWritten (Some file) bytes (Some part) m after =
    Grows file.place (take (taken (Some part) bytes) bytes) m after
PartWritten file bytes part m after = HasTree m m.tree after

-- the tree after a copy that did
abbrev pub part_copied : Result (List ℕ) Fault → Result Names Fault → Option ℕ → Tree → Tree
part_copied (Ok bytes) (Ok names) (Some part) t =
    put t names (File (take (taken (Some part) bytes) bytes))
part_copied source ends part t = t

-- the tree after an opening that did: it may have made the file
abbrev pub part_opened : Result Names Fault → Option ℕ → Tree → Tree
part_opened (Ok names) (Some part) t = with_empty t names
part_opened ends part t = t

-- what is synced after a sync that fails, and may leave its file in doubt
abbrev pub part_synced : Option OpenFile → Option ℕ → List SyncedNode → List SyncedNode
part_synced (Some file) (Some part) syncs = with_sync file.place None syncs
part_synced file part syncs = syncs

-- an error that a call says before it moved a byte: a signal came, or memory was refused
abbrev pub did_nothing : ErrorKind → Bool
did_nothing why = interrupts why || refuses_memory why

-- what a write that fails without cause leaves, after so many bytes were taken
abbrev pub LeavesWritten : Bool → ℕ → List ℕ → Option ℕ → Machine → Machine → Type 0
LeavesWritten true number bytes part m after = after ≡ m
LeavesWritten false number bytes part m after =
    PartWritten (m.files number) bytes part m after

-- what an opening leaves that fails to make a new file: it may have made it, unless it says that something is there
abbrev pub LeavesCreated : Bool → List ℕ → Option ℕ → Machine → Machine → Type 0
LeavesCreated true path part m after = after ≡ m
LeavesCreated false path part m after =
    HasTree m (part_opened (free m.tree path) part m.tree) after

-- What a call that fails without cause leaves, after so many bytes were moved. An opening may leave a new file, and a sync
-- what it couldn't write.
abbrev pub LeavesPart : Machine → SystemCall → ErrorKind → Option ℕ → Machine → Type 0
LeavesPart m (asks.CreateNew path mode) why part after =
    LeavesCreated (already_exists why) path part m after
LeavesPart m (asks.OpenToAppend path) why part after =
    HasTree m (part_opened (writable m.tree path) part m.tree) after
LeavesPart m (asks.Sync number) why part after =
    Became m m.tree m.files (part_synced (m.files number) part m.synced) after
LeavesPart m (asks.Write number bytes) why part after =
    LeavesWritten (did_nothing why) number bytes part m after
LeavesPart m (asks.CopyFile from to) why part after =
    HasTree m (part_copied (brought m.tree from to) (writable m.tree to) part m.tree) after
LeavesPart m call why part after = after ≡ m

-- A call fails without cause, with any error. That nothing is there is never made up.
abbrev pub Breaks : Fault → Option ℕ → Machine → SystemCall → CallResult → Machine → Type 0
Breaks fault part m call said after =
    (why : ErrorKind) × (said ≡ says.Failed why) × (fault_of why ≡ fault)
    × (misses why ≡ false) × LeavesPart m call why part after

-- ---- calls

-- a call happens under this luck
abbrev pub Occurs : Luck → Machine → SystemCall → CallResult → Machine → Type 0
Occurs Plain = GoesWell None
Occurs (Take most) = GoesWell (Some most)
Occurs (Fail fault part) = Breaks fault part

-- a call happens under some luck
abbrev pub OccursSomehow : Machine → SystemCall → CallResult → Machine → Type 0
OccursSomehow m call said after = (luck : Luck) × Occurs luck m call said after

-- calls happen in this way one after the other
abbrev pub EachCall : (Machine → SystemCall → CallResult → Machine → Type 0) → Machine
    → List CallItem → Machine → Type 0
EachCall Happens m [] after = m ≡ after
EachCall Happens m (item ∷ items) after =
    (next : Machine) × Happens m item.call item.result next × EachCall Happens next items after
