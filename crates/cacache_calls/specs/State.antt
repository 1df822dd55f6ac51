-- The states of a call, and what each needs for the rest of the call.
use Rattle.std.specs.Prelude.{ℕ, List, Option, Bool, Result}
use Rattle.cacache_core.specs.declared.errors.{Fault.{Fault}, Error.{Error}}
use Rattle.cacache_store.specs.declared.store.plain.{PlainFile.{PlainFile}, PlainTemp.{PlainTemp}}
use Rattle.cacache_entry.specs.{Entry.{Entry}, Bucket.{Found}}
use Rattle.cacache_calls.specs.declared.{command.Export.{Export}, reply.Reply.{Reply}, carried.{Commit.{Commit}, Lookup.{Lookup}, Content.{Content}}, target.Target.{Target}, visit.{Visit.{Visit}, Task.{Task}}}

-- the folders and the number that a call works with
pub record Site : Type 0 where
  pub cache : List ℕ
  -- the folder that a relative link target starts from
  pub base : List ℕ
  -- the number of the call's temporary file
  pub number : ℕ

-- an entry that goes into its bucket, and the call's reply once it is there
pub record Insertion : Type 0 where
  pub cache : List ℕ
  pub entry : Entry
  pub durable : Bool
  pub reply : Reply

-- why a call reads a file to its end, piece by piece
pub data Hashing : Type 0 where
  to_verify : Content → Export → Hashing
  to_link : Target ℕ → Hashing

-- a step whose plain answer is `Done`; none of them makes a content or an entry
pub data Errand : Type 0 where
  make_folder : List ℕ → Errand
  remove : List ℕ → Errand
  reflink : List ℕ → List ℕ → Errand
  hard_link : List ℕ → List ℕ → Errand
  sync_file : List ℕ → Errand
  sync_dir : List ℕ → Errand

-- an item of a listing: an entry, or why the listing couldn't read it
abbrev pub Item : Type 0
Item = Result Found Error

-- a walk: a listing collects items, a clearing removes; `left` is how many names it may still take
pub record Walk : Type 0 where
  pub clears : Bool
  pub items : List Item
  pub left : ℕ

-- what a call is doing
pub data State : Type 0 where
  -- an errand, and the state after it
  doing : Errand → State → State
  -- a commit, by the number of its temporary file, with the bytes still to write
  creating : ℕ → Commit → List ℕ → State
  writing : Commit → PlainTemp → List ℕ → State
  -- its temporary file is synced, if the commit is durable
  syncing : Commit → PlainTemp → State
  -- its temporary file, or a link to this target, becomes the content
  persisting : Commit → PlainTemp → State
  linking : Commit → List ℕ → State
  -- that failed with this fault: does the content exist all the same?
  confirming : Commit → Fault → State
  appending : Insertion → State
  looking : Lookup → State
  reading : Content → State
  -- does the content exist?
  asking : Content → State
  -- the size of the target; then a file read to its end, with the bytes so far
  sizing : Target ℕ → State
  opening_file : Hashing → State
  hashing : Hashing → PlainFile → List ℕ → State
  -- the source, the destination, and the verified count
  copying : List ℕ → List ℕ → Option ℕ → State
  walking : Walk → Visit → List Task → State
  over : Reply → State
