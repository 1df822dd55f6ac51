-- Which states a call at a site can reach, which steps it may make there, and which entries it may add.
use Rattle.std.specs.Prelude.{All, ◌≡◌, ◌⊎◌, ◌<◌, ◌+◌, ◌^◌, ℕ, List, None, Some, Bool, true, length, Option}
use Rattle.cacache_core.specs.{declared.integrity.{algorithm.Algorithm.{Algorithm}, digest.Hash.{Hash}}, Integrity.{integrity_under}, Paths.{joined, Names, IsProperName}}
use Rattle.cacache_store.specs.{declared.store.plain.PlainTemp.{PlainTemp}, Plain.{PlainStep, PlainAnswer, Fits}}
use Rattle.cacache_entry.specs.{Entry.{Entry, closed_line}, FittingEntries.{IsEntry, cause_of, IsUtf8IfAny}}
use Rattle.cacache_calls.specs.{declared.{command.{Command.{Command}, Options.{Options}}, carried.{Commit.{Commit}, Aim.{Aim}}, target.Target.{Target}, visit.{Visit.{Visit, TheVariants.{Enter, ReadBucket, RemoveFile, RemoveFolder}}, Task.{Task}}}, Steps.{temp_path, temp_folder, content_path, content_folder, bucket_path, bucket_folder}, State.{State, doing, creating, writing, syncing, persisting, linking, confirming, appending, looking, reading, asking, sizing, opening_file, hashing, copying, walking, over, Site, Insertion, Hashing, to_verify, to_link}, Common.{errand_step}, Inserting.{insertion, deletion, refused_cause, entry_of}, Storing.{insertion_of, put_commit}, Linking.{commit_for, link_target}, Table.{wants, after, opening}, Walking.{EachVisit}}
use Rattle.cacache_store.specs.declared.store.step.Step.TheVariants as steps
use Rattle.cacache_calls.specs.declared.command.Command.TheVariants as commands
use Rattle.cacache_calls.specs.declared.carried.Aim.TheVariants as aims

-- ---- what a state carries

-- the entry is well-formed, unless it is refused because it can't be written
abbrev pub FormedIfWritten : Insertion → Type 0
FormedIfWritten i = refused_cause i ≡ None → IsEntry i.entry

-- a commit of some bytes at this site
pub record SoundCommit (site : Site) (c : Commit) : Type 0 where
  pub here : c.cache ≡ site.cache
  pub bytes : List ℕ
  pub computed_of : c.computed ≡ integrity_under c.options.algorithm bytes
  pub formed : (key : List ℕ) → c.key ≡ Some key → FormedIfWritten (insertion_of c key)

-- an entry that goes into a bucket at this site
pub record SoundInsertion (site : Site) (i : Insertion) : Type 0 where
  pub here : i.cache ≡ site.cache
  pub formed : FormedIfWritten i

-- a target, whatever is read from it
pub record SoundTarget (site : Site) (t : Target ℕ) : Type 0 where
  pub here : t.cache ≡ site.cache
  pub formed :
      (bytes : List ℕ) → length bytes < 2 ^ 64 → (key : List ℕ) → t.key ≡ Some key
      → FormedIfWritten (insertion_of (commit_for t bytes) key)

-- the call's own temporary file
abbrev pub IsTemp : Site → PlainTemp → Type 0
IsTemp site file = file.path ≡ temp_path site.cache site.number

-- the cache folder, or a path of proper names below it
abbrev pub IsBelow : Site → List ℕ → Type 0
IsBelow site p = (names : Names) × All IsProperName names × (p ≡ joined site.cache names)

-- the path of a content
abbrev pub IsContent : Site → List ℕ → Type 0
IsContent site p =
    (a : Algorithm) × (bytes : List ℕ) × (p ≡ content_path site.cache (integrity_under a bytes))

-- the folder of a content
abbrev pub IsContentFolder : Site → List ℕ → Type 0
IsContentFolder site p =
    (a : Algorithm) × (bytes : List ℕ) × (p ≡ content_folder site.cache (integrity_under a bytes))

-- the folder of a key's bucket
abbrev pub IsBucketFolder : Site → List ℕ → Type 0
IsBucketFolder site p = (key : List ℕ) × (p ≡ bucket_folder site.cache key)

-- a folder that the cache needs
abbrev pub IsFolder : Site → List ℕ → Type 0
IsFolder site p = (p ≡ temp_folder site.cache) ⊎ (IsContentFolder site p ⊎ IsBucketFolder site p)

-- the line of a well-formed entry that can be written, durable or not, and its bucket
abbrev pub IsLine : Site → List ℕ → List ℕ → Type 0
IsLine site p line =
    (e : Entry) × (durable : Bool) × IsEntry e × (cause_of e ≡ None)
    × (p ≡ bucket_path site.cache e.key) × (line ≡ closed_line durable e)

-- a content, a bucket or anything below the cache folder
abbrev pub IsRemovable : Site → List ℕ → Type 0
IsRemovable site p =
    ((i : List Hash) × (p ≡ content_path site.cache i))
    ⊎ (((key : List ℕ) × (p ≡ bucket_path site.cache key)) ⊎ IsBelow site p)

-- a visit to the cache folder, or to something below it
abbrev pub SoundVisit : Site → Visit → Type 0
SoundVisit site (Enter p level) = IsBelow site p
SoundVisit site (ReadBucket p) = IsBelow site p
SoundVisit site (RemoveFile p) = IsBelow site p
SoundVisit site (RemoveFolder p) = IsBelow site p

-- each visit among the tasks is such a visit
abbrev pub SoundTasks : Site → List Task → Type 0
SoundTasks site = EachVisit (SoundVisit site)

-- exports go only where `apart` says so, and links only lead where `outside` does
module _ (site : Site) (apart outside : List ℕ → Bool) where
  -- a step that a call at this site may make
  abbrev pub Allowed : PlainStep → Type 0
  Allowed (steps.MakeDirs p) = IsFolder site p
  Allowed (steps.CreateTemp p) = p ≡ temp_path site.cache site.number
  Allowed (steps.Write file bytes) = IsTemp site file
  Allowed (steps.Persist file p) = IsTemp site file × IsContent site p
  Allowed (steps.Append p line) = IsLine site p line
  Allowed (steps.Symlink target p) = (outside target ≡ true) × IsContent site p
  Allowed (steps.Copy p q) = apart q ≡ true
  Allowed (steps.Reflink p q) = apart q ≡ true
  Allowed (steps.HardLink p q) = apart q ≡ true
  Allowed (steps.RemoveFile p) = IsRemovable site p
  Allowed (steps.RemoveDir p) = IsBelow site p
  Allowed (steps.SyncTemp file) = IsTemp site file
  Allowed (steps.SyncFile p) = Unit {0}
  Allowed (steps.SyncDir p) = Unit {0}
  Allowed (steps.ReadAll p) = Unit {0}
  Allowed (steps.Open p) = Unit {0}
  Allowed (steps.Read file most) = Unit {0}
  Allowed (steps.Exists p) = Unit {0}
  Allowed (steps.Size p) = Unit {0}
  Allowed (steps.ReadDir p) = Unit {0}

  -- the lookup's export, if any, goes apart
  abbrev pub SoundAim : Aim → Type 0
  SoundAim (aims.Export e) = apart e.to ≡ true
  SoundAim aim = Unit {0}

  -- the call reads a file for an export that goes apart, or for a link that leads outside
  abbrev pub SoundHashing : Hashing → Type 0
  SoundHashing (to_verify k e) = apart e.to ≡ true
  SoundHashing (to_link t) = SoundTarget site t × (outside t.path ≡ true)

  -- the next step of the state is allowed, and so are all later ones
  abbrev pub Sound : State → Type 0
  Sound (doing errand s) = Allowed (errand_step errand) × Sound s
  Sound (creating number c rest) = (number ≡ site.number) × SoundCommit site c
  Sound (writing c file rest) = SoundCommit site c × IsTemp site file
  Sound (syncing c file) = SoundCommit site c × IsTemp site file
  Sound (persisting c file) = SoundCommit site c × IsTemp site file
  Sound (linking c target) = SoundCommit site c × (outside target ≡ true)
  Sound (confirming c fault) = SoundCommit site c
  Sound (appending i) = SoundInsertion site i × (refused_cause i ≡ None)
  Sound (looking l) = (l.cache ≡ site.cache) × SoundAim l.aim
  Sound (reading k) = k.cache ≡ site.cache
  Sound (asking k) = k.cache ≡ site.cache
  Sound (sizing t) = SoundTarget site t × (outside t.path ≡ true)
  Sound (opening_file h) = SoundHashing h
  Sound (hashing h file bytes) = SoundHashing h × (file.left + length bytes < 2 ^ 64)
  Sound (copying from to verified) = apart to ≡ true
  Sound (walking w v todo) = SoundVisit site v × SoundTasks site todo
  Sound (over reply) = Unit {0}

  -- a command whose entry is well-formed or refused, whose export goes apart, and whose link leads
  -- outside
  abbrev pub MayBegin : Command → Type 0
  MayBegin (commands.Put p) =
      (key : List ℕ) → p.key ≡ Some key
      → FormedIfWritten (insertion_of (put_commit site.cache p) key)
  MayBegin (commands.Link l) =
      SoundTarget site (link_target site l) × (outside (link_target site l).path ≡ true)
  MayBegin (commands.Insert i) = FormedIfWritten (insertion site.cache i)
  MayBegin (commands.Delete d) = FormedIfWritten (deletion site.cache d)
  MayBegin (commands.Export source e) = apart e.to ≡ true
  MayBegin command = Unit {0}

-- ---- laws

-- the first state of a call that may begin is sound
abbrev pub BeginsSound : Type 0
BeginsSound =
    (site : Site) (apart outside : List ℕ → Bool) (command : Command)
    → MayBegin site apart outside command → Sound site apart outside (opening site command)

-- the next step of a sound state is allowed
abbrev pub StepsAllowed : Type 0
StepsAllowed =
    (site : Site) (apart outside : List ℕ → Bool) (s : State) (step : PlainStep)
    → Sound site apart outside s → wants s ≡ Some step → Allowed site apart outside step

-- a sound state stays sound after any fitting answer
abbrev pub StaysSound : Type 0
StaysSound =
    (site : Site) (apart outside : List ℕ → Bool)
    (s : State) (step : PlainStep) (answer : PlainAnswer)
    → Sound site apart outside s → wants s ≡ Some step → Fits step answer
    → Sound site apart outside (after s answer)

-- ---- which entries a command or a commit may add: well-formed ones, if they can be written

-- an entry that is well-formed if it can be written
abbrev pub IsFormed : Entry → Type 0
IsFormed e = cause_of e ≡ None → IsEntry e

-- each entry of this key, time and options, whatever its integrity and its size
abbrev pub FormsEntries : List ℕ → ℕ → Options → Type 0
FormsEntries key moment o =
    (integrity : Option (List ℕ)) (size : ℕ) → IsUtf8IfAny integrity → size < 2 ^ 64
    → IsFormed (entry_of key integrity size moment o)

-- the entry that a commit adds, if any
abbrev pub FormsCommit : Commit → Type 0
FormsCommit c = (key : List ℕ) → c.key ≡ Some key → FormedIfWritten (insertion_of c key)

-- each entry that the command's call may add at this site; for a link, whatever it reads from its target
abbrev pub FormsCommand : Site → Command → Type 0
FormsCommand site (commands.Put p) = FormsCommit (put_commit site.cache p)
FormsCommand site (commands.Link l) =
    (bytes : List ℕ) → length bytes < 2 ^ 64 → FormsCommit (commit_for (link_target site l) bytes)
FormsCommand site (commands.Insert i) = FormedIfWritten (insertion site.cache i)
FormsCommand site (commands.Delete d) = FormedIfWritten (deletion site.cache d)
FormsCommand site command = Unit {0}
