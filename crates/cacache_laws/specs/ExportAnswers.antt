-- What an export answers if all of its steps succeed, by what lies under its source and what is at
-- its path.
use Rattle.std.specs.Prelude.{◌≡◌, ℕ, List, [], Option, None, Some, Result, Ok, Err, if◌then◌else◌, length}
use Rattle.cacache_core.specs.{declared.{errors.{Error.TheVariants.{EntryNotFound, IoError, IntegrityError}, Fault.{Fault, TheVariants.{NotFound, InvalidInput}}, IntegrityFault.TheVariants.{Check}}, integrity.digest.Hash.{Hash}}, Integrity.{actual}, Matching.{meets}}
use Rattle.cacache_store.specs.declared.store.log.LogItem.{LogItem}
use Rattle.cacache_disk.specs.{LedTo.{and_then, bytes_there, free, writable}, Tree.{Tree, look}, Replay.{tree_of}}
use Rattle.cacache_entry.specs.Bucket.{Found}
use Rattle.cacache_calls.specs.declared.command.Command.TheVariants as commands
use Rattle.cacache_calls.specs.{declared.{command.{Export.{Export}, How.{How, TheVariants.{Copy, HardLink, Reflink}}, Source.{Source, TheVariants.{Hash as OfHash, Key as OfKey}}}, reply.Reply.{Reply, TheVariants.{Copied, Done, Refused}}}, Replies.{OrMemory}}
use Rattle.cacache_value.specs.{Shows.{blob_bytes, link_end}, Value.{AtLink, Blob, InFile}}
use Rattle.cacache_history.specs.History.{NamesSource}
use Rattle.cacache_laws.specs.{Caches.{Called, IsCache, lies_under}, Beside.{found_under}, Succeeds.{NamesFolder}}

-- ---- what lies there

-- the bytes of a content, read through its link; a folder at the end of the link is the given fault
abbrev pub blob_read : Fault → Tree → Option Blob → Result (List ℕ) Fault
blob_read folder t None = Err NotFound
blob_read folder t (Some (InFile bytes)) = Ok bytes
blob_read folder t (Some (AtLink target)) =
    and_then (link_end t target) (λ names. bytes_there folder (look t names))

-- the content itself, even if it is a link
abbrev pub blob_named : Option Blob → Result Blob Fault
blob_named None = Err NotFound
blob_named (Some blob) = Ok blob

-- ---- what is answered

-- goes on with what was found, or answers why there is nothing
abbrev pub or_told : {X : Type 0} → Result X Fault → (X → Reply) → Reply
or_told (Ok x) next = next x
or_told (Err fault) next = Refused (IoError fault [])

-- the step that makes something at the path: a copy asks first what lies there, any other its path
abbrev pub made_reply : How → List ℕ → Tree → Option Blob → Reply
made_reply Copy to t blob =
    or_told (blob_read InvalidInput t blob) (λ bytes.
    or_told (writable t to) (λ names. Copied (length bytes)))
made_reply Reflink to t blob =
    or_told (free t to) (λ names. or_told (blob_bytes t blob) (λ bytes. Done))
made_reply HardLink to t blob =
    or_told (free t to) (λ names. or_told (blob_named blob) (λ named. Done))

-- bytes that were read before it are to meet the integrity
abbrev pub verified_reply : List Hash → Reply → List ℕ → Reply
verified_reply i made bytes =
    if meets i bytes then made else Refused (IntegrityError (Check i (actual i bytes)))

-- an export of what lies under an integrity; a checked one reads it first
abbrev pub exported_reply : List Hash → Export → Tree → Option Blob → Reply
exported_reply i e t blob =
    if e.checked
    then or_told (blob_bytes t blob) (verified_reply i (made_reply e.how e.to t blob))
    else made_reply e.how e.to t blob

-- by key that of the integrity that the key leads to
abbrev pub led_reply : List ℕ → List ℕ → Export → List LogItem → Option Found → Reply
led_reply cache key e log None = Refused (EntryNotFound cache key)
led_reply cache key e log (Some found) =
    exported_reply found.integrity e (tree_of log) (lies_under cache found.integrity log)

-- an export of what a source leads to
abbrev pub export_reply : List ℕ → Source → Export → List LogItem → Reply
export_reply cache (OfHash i) e log = exported_reply i e (tree_of log) (lies_under cache i log)
export_reply cache (OfKey key) e log = led_reply cache key e log (found_under cache key log)

-- ---- the law

-- after a refusal the tree is as it was
abbrev pub StaysIfRefused : Reply → Tree → Tree → Type 0
StaysIfRefused (Refused e) old new = new ≡ old
StaysIfRefused r old new = Unit {0}

-- an export answers so, and one that is refused changes nothing, or memory was refused
abbrev pub ExportsAnswer : Type 0
ExportsAnswer =
    (cache : List ℕ) (source : Source) (e : Export) (r : Reply) (old new : List LogItem)
    → NamesFolder cache → NamesSource source → IsCache cache old
    → Called cache (commands.Export source e) r old new
    → OrMemory
    ((r ≡ export_reply cache source e old) × StaysIfRefused r (tree_of old) (tree_of new)) r
