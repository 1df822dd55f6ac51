-- What links, open linkers and the openings of readers answer if all of their steps succeed.
use Rattle.std.specs.Prelude.{◌≡◌, ◌⊎◌, ℕ, List, [], ◌++◌, Option, None, Some, Result, Ok, Err, if◌then◌else◌, length}
use Rattle.cacache_core.specs.{declared.{errors.{Error.{Error, TheVariants.{EntryNotFound, IoError, OutOfMemory}}, Fault.{Fault, TheVariants.{AlreadyExists, IsADirectory}}}, integrity.digest.Hash.{Hash}}, Integrity.{IsIntegrity}}
use Rattle.cacache_store.specs.declared.store.{log.LogItem.{LogItem}, plain.PlainFile.{PlainFile}}
use Rattle.cacache_disk.specs.{Apply.{opened}, LedTo.{file_at}, Tree.{Tree}, Replay.{tree_of, IsLog}}
use Rattle.cacache_entry.specs.Bucket.{Found}
use Rattle.cacache_calls.specs.{declared.{carried.Commit.{Commit}, command.Link.{Link}, reply.Reply.{Reply, TheVariants.{Refused}}, target.Target.{Target}}, Linking.{based, commit_for, link_target, with_size}, Replies.{OrMemory}, Runs.{without_message}}
use Rattle.cacache_calls.specs.declared.command.Command.TheVariants as commands
use Rattle.cacache_value.specs.{Shows.{blob_there}, Value.{Blob}}
use Rattle.cacache_laws.specs.{Caches.{Called, IsCache, lies_under}, ExportEffects.{IsApart}, Beside.{found_under}, Looks.{bytes_under}, OpenLinkers.{CommitsRest, OpensSized, OpensTarget}, OpenReaders.{OpensByKey, OpensContent}, Standing.{IsStanding}, Succeeds.{NamesFolder, compared_reply, is_yes}}

-- ---- openings

-- a file of these bytes was opened, or the fault says why none was, or memory was refused
abbrev pub OpensAs : Result (List ℕ) Fault → Result PlainFile Error → Type 0
OpensAs (Ok bytes) (Ok file) = file ≡ opened bytes
OpensAs (Ok bytes) (Err e) = e ≡ OutOfMemory
OpensAs (Err fault) (Ok file) = ⊥
OpensAs (Err fault) (Err e) = (e ≡ OutOfMemory) ⊎ (without_message e ≡ IoError fault [])

-- none was, since the key leads to nothing
abbrev pub OpensNone : List ℕ → List ℕ → Result PlainFile Error → Type 0
OpensNone cache key (Ok file) = ⊥
OpensNone cache key (Err e) = (e ≡ OutOfMemory) ⊎ (e ≡ EntryNotFound cache key)

-- by what the key leads to
abbrev pub OpensLed :
    List ℕ → List ℕ → Option Found → Result PlainFile Error → List LogItem → Type 0
OpensLed cache key None r log = OpensNone cache key r
OpensLed cache key (Some found) r log = OpensAs (bytes_under cache found.integrity log) r

-- a reader has the bytes that lie under its integrity, or there are none
abbrev pub ReadersAnswer : Type 0
ReadersAnswer =
    (cache : List ℕ) (i : List Hash) (r : Result PlainFile Error) (old new : List LogItem)
    → NamesFolder cache → IsStanding cache old → IsIntegrity i
    → OpensContent cache i r (Some old) (Some new) → IsLog new
    → OpensAs (bytes_under cache i old) r

-- by key those of the integrity that the key leads to
abbrev pub KeyReadersAnswer : Type 0
KeyReadersAnswer =
    (cache base key : List ℕ) (r : Result PlainFile Error) (old new : List LogItem)
    → NamesFolder cache → IsCache cache old
    → OpensByKey cache base key r (Some old) (Some new) → IsLog new
    → OpensLed cache key (found_under cache key old) r old

-- the bytes of the file that a path leads to, or why there are none
abbrev pub target_bytes : List ℕ → List LogItem → Result (List ℕ) Fault
target_bytes path log = file_at (tree_of log) path IsADirectory

-- a linker has those of its target
abbrev pub LinkerOpeningsAnswer : Type 0
LinkerOpeningsAnswer =
    (path : List ℕ) (r : Result PlainFile Error) (old new : List LogItem)
    → OpensTarget path r (Some old) (Some new) → IsLog new → OpensAs (target_bytes path old) r

-- so has one that asks the size first
abbrev pub OpensSizedAs : Result (List ℕ) Fault → Result (ℕ × PlainFile) Error → Type 0
OpensSizedAs content (Ok (size, file)) = OpensAs content (Ok file)
OpensSizedAs content (Err e) = OpensAs content (Err e)

abbrev pub SizedOpeningsAnswer : Type 0
SizedOpeningsAnswer =
    (path : List ℕ) (r : Result (ℕ × PlainFile) Error) (old new : List LogItem)
    → OpensSized path r (Some old) (Some new) → IsLog new
    → OpensSizedAs (target_bytes path old) r

-- ---- commits

-- a content that is there already stays, and the link counts as made if that content leads to
-- something
abbrev pub unless_dangling : Reply → Tree → Option Blob → Reply
unless_dangling stored t None = stored
unless_dangling stored t (Some blob) =
    if is_yes (blob_there t (Some blob)) then stored else Refused (IoError AlreadyExists [])

-- a link stores as a put does, unless a link that leads nowhere lies there
abbrev pub linked_reply : Commit → List LogItem → Reply
linked_reply c log =
    unless_dangling (compared_reply c c.options.integrity) (tree_of log)
    (lies_under c.cache c.computed log)

-- the reply of a link by the bytes that its target shows, or by why it shows none
abbrev pub link_reply : Target ℕ → List LogItem → Result (List ℕ) Fault → Reply
link_reply t log (Ok held) = linked_reply (commit_for (with_size t (length held)) held) log
link_reply t log (Err fault) = Refused (IoError fault [])

-- a link to a file apart from the cache answers so
abbrev pub LinksAnswer : Type 0
LinksAnswer =
    (cache : List ℕ) (l : Link) (r : Reply) (old new : List LogItem)
    (c : Called cache (commands.Link l) r old new)
    → NamesFolder cache → IsStanding cache old → IsApart cache (based c.base l.target)
    → OrMemory
    (r ≡ link_reply
    (link_target (record { cache = cache; base = c.base; number = c.number }) l) old
    (target_bytes (based c.base l.target) old))
    r

-- so does the commit of a linker, by all bytes that its target showed; it is refused if another
-- size is expected
abbrev pub LinkersAnswer : Type 0
LinkersAnswer =
    (cache base : List ℕ) (l : Link) (bytes rest : List ℕ) (r : Reply) (old new : List LogItem)
    → NamesFolder cache → IsStanding cache old → IsApart cache (based base l.target)
    → CommitsRest cache base l bytes rest r old new
    → OrMemory
    (r ≡ linked_reply
    (commit_for (link_target (record { cache = cache; base = base; number = 0 }) l) (bytes ++ rest))
    old)
    r
