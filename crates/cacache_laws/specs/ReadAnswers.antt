-- What a call that reads answers by what the cache holds, and that it leaves the tree.
use Rattle.std.specs.Prelude.{◌≡◌, ◌⊎◌, ℕ, List, Option, None, Some}
use Rattle.sha1.specs.Sha1.{sha1}
use Rattle.cacache_core.specs.{declared.{errors.Error.TheVariants.{EntryNotFound, IoError, OutOfMemory}, integrity.digest.Hash.{Hash}}, Integrity.{address}, Paths.{Names}}
use Rattle.cacache_disk.specs.Tree.{Tree}
use Rattle.cacache_entry.specs.{Entry.{Entry}, Bucket.{Found, latest}}
use Rattle.cacache_calls.specs.{declared.{command.Command.{Command}, reply.Reply.{Reply, TheVariants.{LookedUp, Refused}}}, Replies.{content_reply}, Runs.{plain_reply}}
use Rattle.cacache_calls.specs.declared.command.Command.TheVariants as commands
use Rattle.cacache_value.specs.{Acts.{list_of}, Shows.{blob_bytes}, Value.{value_of_tree}}
use Rattle.cacache_history.specs.{Setup.{Setup, home}, Turns.{blob_at, as_refusal}}
use Rattle.cacache_laws.specs.Sequence.{SequenceCall, tree_on, CallIsAnswered}

-- ---- what a command that reads is to answer

-- the entries of the key's bucket; none if it doesn't exist
abbrev pub entries_on : Option Names → Tree → List ℕ → List Entry
entries_on folder t key = list_of ((value_of_tree folder t).buckets (sha1 key))

-- the bytes of a content if they meet the integrity, or why there are none
abbrev pub read_on : Option Names → Tree → List Hash → Reply
read_on folder t i =
    content_reply i (as_refusal (blob_bytes t (blob_at (value_of_tree folder t) (address i))))

-- the same of the content that a lookup of the key found
abbrev pub get_on : Setup → Tree → List ℕ → Option Found → Reply
get_on s t key None = Refused (EntryNotFound s.cache key)
get_on s t key (Some found) = read_on (home s) t found.integrity

-- the reply of a lookup or a read, and None for every other command
abbrev pub reply_on : Setup → Tree → Command → Option Reply
reply_on s t (commands.Find key) = Some (LookedUp (latest key (entries_on (home s) t key)))
reply_on s t (commands.Get key) = Some (get_on s t key (latest key (entries_on (home s) t key)))
reply_on s t (commands.GetHash i) = Some (read_on (home s) t i)
reply_on s t command = None

-- ---- what holds of each call

-- the call answered so, unless a step failed or memory was refused
abbrev pub UnlessFailed : Reply → Reply → Type 0
UnlessFailed expected (Refused OutOfMemory) = Unit {0}
UnlessFailed expected (Refused (IoError fault message)) = Unit {0}
UnlessFailed expected r = r ≡ expected

-- a lookup or a read answers by what the cache held before it
abbrev pub RepliesFollow : Type 0
RepliesFollow =
    (s : Setup) (t : Tree) (call : SequenceCall) (expected : Reply)
    → reply_on s t call.command ≡ Some expected → CallIsAnswered s t call
    → UnlessFailed expected (plain_reply call.reply)

-- it leaves the tree, unless it ends out of memory
abbrev pub ReadsKeep : Type 0
ReadsKeep =
    (s : Setup) (t : Tree) (call : SequenceCall) (expected : Reply)
    → reply_on s t call.command ≡ Some expected → CallIsAnswered s t call
    → (call.reply ≡ Refused OutOfMemory) ⊎ (tree_on t call.moves ≡ t)
