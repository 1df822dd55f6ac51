-- How many steps calls take, for answers that a store would return.
use Rattle.std.specs.Prelude.{◌≡◌, ℕ, zero, suc, List, [], ◌∷◌, Option, None, Some, Ok, true, false, codes, length}
use Rattle.serde_json.specs.Data.{null}
use Rattle.cacache_core.specs.declared.errors.Fault.TheVariants as faults
use Rattle.cacache_core.specs.{declared.{errors.Error.TheVariants.{IoError}, integrity.{algorithm.Algorithm.TheVariants.{Sha256}, digest.Hash.{Hash}}}, Integrity.{integrity_under}, Paths.{content_area, index_area, temp_area}, Matching.{meets}}
use Rattle.cacache_store.specs.{declared.store.{plain.{PlainTemp.{PlainTemp}, PlainFile.{PlainFile}}, answer.{Kind.{Kind, TheVariants.{File, Folder}}, Name.{Name}}}, Plain.{PlainStep, PlainAnswer}}
use Rattle.cacache_store.specs.declared.store.answer.Answer.TheVariants as answers
use Rattle.cacache_entry.specs.Bucket.{Found}
use Rattle.cacache_calls.specs.{declared.{command.{Options.{Options}, Put.{Put}, Link.{Link}, Export.{Export}, How.TheVariants.{Copy}, Command.{Command}}, reply.Reply.{Reply, TheVariants.{Stored, Read, Exists, Copied, Listed, Done, Refused}}}, State.{State, over, Site, Insertion}, Inserting.{bucket_line, refused_cause}, Storing.{insertion_of, put_commit}, Linking.{commit_for, with_size, link_target}, Reading.{found_in}, Walking.{items_in, failed}, Table.{wants, after, opening}}
use Rattle.cacache_calls.specs.declared.command.Command.TheVariants as commands
use Rattle.cacache_calls.specs.declared.command.Source.TheVariants as sources

-- nothing if the call has no next step
abbrev pub played : Option PlainStep → Option State → Option State
played None s = None
played (Some step) s = s

-- the state after exactly this many steps
abbrev pub plays : State → List PlainAnswer → Option State
plays s [] = Some s
plays s (t ∷ ts) = played (wants s) (plays (after s t) ts)

-- after exactly this many steps the call returns this
abbrev pub Replies : Site → Command → List PlainAnswer → Reply → Type 0
Replies site command ts r = plays (opening site command) ts ≡ Some (over r)

-- ---- the calls of the rows

-- the digest is a SHA-256, and nothing is expected of the content
abbrev pub no_options : Options
no_options = record {
  algorithm = Sha256;
  size = None;
  integrity = None;
  metadata = null;
  raw_metadata = None;
  durable = false;
}

-- a put of one byte, with or without a key
abbrev pub put_of : Option (List ℕ) → ℕ → Put
put_of key b = record { key = key; «data» = b ∷ []; moment = 0; options = no_options }

-- the same, durable
abbrev pub durable_put_of : Option (List ℕ) → ℕ → Put
durable_put_of key b = record (put_of key b) { options = record no_options { durable = true } }

-- a link to this target, with or without a key
abbrev pub link_of : Option (List ℕ) → List ℕ → Link
link_of key target = record { key = key; target = target; moment = 0; options = no_options }

-- a checked copy to this path
abbrev pub copy_to : List ℕ → Export
copy_to to = record { how = Copy; checked = true; to = to }

-- ---- their answers

-- a name in a folder, with its kind
abbrev pub name : List ℕ → Kind → Name
name text kind = record { name = text; kind = kind }

-- a folder that holds one thing of this kind
abbrev pub one_name : Kind → PlainAnswer
one_name kind = answers.Names (name (codes "x") kind ∷ [])

-- the open file of these answers
abbrev pub file : PlainFile
file = record { left = 0; bytes = None }

-- the call opens a file with one byte, and reads it to its end
abbrev pub one_byte : ℕ → List PlainAnswer → List PlainAnswer
one_byte b later = answers.File file ∷ answers.Got file (b ∷ []) ∷ answers.Got file [] ∷ later

-- the call makes a folder, and appends the whole line
abbrev pub appended : Insertion → List PlainAnswer
appended i = answers.Done ∷ answers.Took (length (bucket_line i)) ∷ []

-- two folders, a temporary file, a write and a persist
abbrev pub stored : PlainTemp → PlainTemp → List PlainAnswer → List PlainAnswer
stored t u later =
    answers.Done ∷ answers.Temp t ∷ answers.Wrote u 1 ∷ answers.Done ∷ answers.Done ∷ later

-- this many steps with this answer
abbrev pub times : ℕ → PlainAnswer → List PlainAnswer → List PlainAnswer
times zero t later = later
times (suc n) t later = t ∷ times n t later

-- the same, with a sync of the temporary file, and of five folders after the persist
abbrev pub stored_durably : PlainTemp → PlainTemp → List PlainAnswer → List PlainAnswer
stored_durably t u later =
    answers.Done ∷ answers.Temp t ∷ answers.Wrote u 1 ∷ answers.Done ∷ answers.Synced u
    ∷ answers.Done ∷ times 5 answers.Done later

-- the call makes a folder, appends the whole line, and syncs the bucket and four folders
abbrev pub appended_durably : Insertion → List PlainAnswer
appended_durably i =
    answers.Done ∷ answers.Took (length (bucket_line i)) ∷ times 5 answers.Done []

-- the size, three steps that read the file, and the content's folder
abbrev pub read_target : ℕ → List PlainAnswer → List PlainAnswer
read_target b later = answers.Length 1 ∷ one_byte b (answers.Done ∷ later)

-- ---- puts and reads

-- a put without a key takes five steps
abbrev pub PutRow : Type 0
PutRow =
    (site : Site) (b : ℕ) (t u : PlainTemp)
    → Replies site (commands.Put (put_of None b)) (stored t u [])
    (Stored (integrity_under Sha256 (b ∷ [])))

-- with a key, seven
abbrev pub KeyedPutRow : Type 0
KeyedPutRow =
    (site : Site) (key : List ℕ) (b : ℕ) (t u : PlainTemp)
    → let i = insertion_of (put_commit site.cache (put_of (Some key) b)) key in
    refused_cause i ≡ None
    → Replies site (commands.Put (put_of (Some key) b)) (stored t u (appended i))
    (Stored (integrity_under Sha256 (b ∷ [])))

-- a durable put without a key takes eleven
abbrev pub DurablePutRow : Type 0
DurablePutRow =
    (site : Site) (b : ℕ) (t u : PlainTemp)
    → Replies site (commands.Put (durable_put_of None b)) (stored_durably t u [])
    (Stored (integrity_under Sha256 (b ∷ [])))

-- with a key, eighteen
abbrev pub DurableKeyedPutRow : Type 0
DurableKeyedPutRow =
    (site : Site) (key : List ℕ) (b : ℕ) (t u : PlainTemp)
    → let i = insertion_of (put_commit site.cache (durable_put_of (Some key) b)) key in
    refused_cause i ≡ None
    → Replies site (commands.Put (durable_put_of (Some key) b))
    (stored_durably t u (appended_durably i)) (Stored (integrity_under Sha256 (b ∷ [])))

-- a get takes two
abbrev pub GetRow : Type 0
GetRow =
    (site : Site) (key bucket bytes : List ℕ) (f : Found)
    → found_in key bucket ≡ Some f → meets f.integrity bytes ≡ true
    → Replies site (commands.Get key) (answers.Bytes bucket ∷ answers.Bytes bytes ∷ []) (Read bytes)

-- an existence check takes one, even if it fails
abbrev pub ExistsRow : Type 0
ExistsRow =
    (site : Site) (i : List Hash)
    → Replies site (commands.Exists i) (answers.Failed faults.TooDeep ∷ []) (Exists false)

-- a checked copy by key takes five, and returns the count that it read
abbrev pub CopyRow : Type 0
CopyRow =
    (site : Site) (key bucket to : List ℕ) (f : Found) (b n : ℕ)
    → found_in key bucket ≡ Some f → meets f.integrity (b ∷ []) ≡ true
    → Replies site (commands.Export (sources.Key key) (copy_to to))
    (answers.Bytes bucket ∷ one_byte b (answers.Took n ∷ [])) (Copied 1)

-- ---- links

-- a link without a key takes six steps
abbrev pub LinkRow : Type 0
LinkRow =
    (site : Site) (target : List ℕ) (b : ℕ)
    → Replies site (commands.Link (link_of None target)) (read_target b (answers.Done ∷ []))
    (Stored (integrity_under Sha256 (b ∷ [])))

-- the entry of a link's one byte
abbrev pub link_entry : Site → List ℕ → List ℕ → ℕ → Insertion
link_entry site key target b =
    let t = with_size (link_target site (link_of (Some key) target)) 1 in
    insertion_of (commit_for t (b ∷ [])) key

-- with a key, eight
abbrev pub KeyedLinkRow : Type 0
KeyedLinkRow =
    (site : Site) (key target : List ℕ) (b : ℕ)
    → let i = link_entry site key target b in
    refused_cause i ≡ None
    → Replies site (commands.Link (link_of (Some key) target))
    (read_target b (answers.Done ∷ appended i)) (Stored (integrity_under Sha256 (b ∷ [])))

-- and one more if the link already exists
abbrev pub SecondLinkRow : Type 0
SecondLinkRow =
    (site : Site) (key target : List ℕ) (b : ℕ)
    → let i = link_entry site key target b in
    refused_cause i ≡ None
    → Replies site (commands.Link (link_of (Some key) target))
    (read_target b (answers.Failed faults.AlreadyExists ∷ answers.There true ∷ appended i))
    (Stored (integrity_under Sha256 (b ∷ [])))

-- ---- removals and walks

-- removing a key with its content takes three steps
abbrev pub RemoveFullyRow : Type 0
RemoveFullyRow =
    (site : Site) (key bucket : List ℕ) (f : Found) → found_in key bucket ≡ Some f
    → Replies site (commands.RemoveFully key)
    (answers.Bytes bucket ∷ answers.Done ∷ answers.Done ∷ []) Done

-- listing the bucket of a key, three folders down, takes four
abbrev pub LsRow : Type 0
LsRow =
    (site : Site) (bytes : List ℕ) (f : Found) → items_in bytes ≡ Ok f ∷ []
    → Replies site commands.Ls
    (one_name Folder ∷ one_name Folder ∷ one_name File ∷ answers.Bytes bytes ∷ [])
    (Listed (Ok f ∷ []))

-- a listing without an index folder
abbrev pub NoLsRow : Type 0
NoLsRow =
    (site : Site)
    → Replies site commands.Ls (answers.Failed faults.NotFound ∷ [])
    (Listed (failed faults.NotFound ∷ []))

-- the folders of a cache with one content and one entry
abbrev pub cache_names : List Name
cache_names =
    name temp_area Folder ∷ name content_area Folder ∷ name index_area Folder ∷ []

-- clearing such a cache takes 19 steps
abbrev pub ClearRow : Type 0
ClearRow =
    (site : Site)
    → Replies site commands.Clear
    (answers.Names cache_names ∷ answers.Names [] ∷ answers.Done
    ∷ times 3 (one_name Folder) (one_name File ∷ times 5 answers.Done
    (times 2 (one_name Folder) (one_name File ∷ times 4 answers.Done [])))) Done

-- a plain file directly in the cache folder ends the clearing
abbrev pub PlainFileRow : Type 0
PlainFileRow =
    (site : Site)
    → Replies site commands.Clear (one_name File ∷ []) (Refused (IoError faults.NotADirectory []))

-- a walk enters a folder at level 16, but none below it
abbrev pub DeepRow : Type 0
DeepRow =
    (site : Site)
    → Replies site commands.Clear (times 17 (one_name Folder) [])
    (Refused (IoError faults.TooDeep []))

-- ---- all rows

-- each call of the rows takes this many steps
pub record Rows : Type 0 where
  pub put : PutRow
  pub keyed_put : KeyedPutRow
  pub durable_put : DurablePutRow
  pub durable_keyed_put : DurableKeyedPutRow
  pub get : GetRow
  pub exists : ExistsRow
  pub copy : CopyRow
  pub link : LinkRow
  pub keyed_link : KeyedLinkRow
  pub second_link : SecondLinkRow
  pub remove_fully : RemoveFullyRow
  pub ls : LsRow
  pub no_ls : NoLsRow
  pub clear : ClearRow
  pub plain_file : PlainFileRow
  pub deep : DeepRow
