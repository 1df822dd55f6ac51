-- How the keys of entries are dropped, also if there may be no room for a tombstone, over any store.
use Rattle.std.specs.{Prelude.{◌≡◌, ◌⊎◌, ◌++◌, ◌<◌, ◌^◌, ◌&&◌, IsUtf8, ℕ, List, [], ◌∷◌, Bool, true, false, Option, None, Some, Result, Ok, Err, bytes_eq, filter, map, not}, List.{list_any}}
use Rattle.cacache_core.specs.{declared.errors.{Error.{Error, TheVariants.{OutOfMemory}}, Fault.{Fault, TheVariants.{Device, ShortAppend, WriteZero}}}, Errors.{fault_in}}
use Rattle.cacache_store.specs.declared.store.answer.Answer.TheVariants as answers
use Rattle.cacache_store.specs.declared.store.log.LogItem.{LogItem}
use Rattle.cacache_store.specs.declared.store.step.Step.TheVariants as steps
use Rattle.cacache_entry.specs.Bucket.{entries_of, Found, latest}
use Rattle.cacache_calls.specs.{declared.reply.Reply.{Reply}, Runs.{Ran, without_message}, SingleSteps.{Does, FailsAt}, State.{Site}, Steps.{bucket_path}, Table.{opening}}
use Rattle.cacache_calls.specs.declared.reply.Reply.TheVariants as replies
use Rattle.cacache_laws.specs.trees.Compacting.{Line, lines_of}
use Rattle.cacache_keep.specs.{Confirming.{is_led}, Repairing.{tombstone}, Rewriting.{StopsSecuring, SyncsFolder}}

-- ---- tombstones

-- the log gained a call that adds a tombstone for the entry's key, with this reply
abbrev pub Entombs :
    Site → Found → Reply → Option (List LogItem) → Option (List LogItem) → Type 0
Entombs site entry reply old new =
    (moment : ℕ) × IsUtf8 entry.key × (moment < 2 ^ 64)
    × Ran (opening site (tombstone entry.key moment).0) reply old new

-- a full disk may be why a step failed so: no fault says that alone
abbrev pub may_be_full : Option Fault → Bool
may_be_full (Some Device) = true
may_be_full (Some ShortAppend) = true
may_be_full (Some WriteZero) = true
may_be_full other = false

-- ---- a bucket

-- whether a line is odd, or decides another key
abbrev pub is_other : List ℕ → Line → Bool
is_other key (text, None) = true
is_other key (text, Some d) = not (bytes_eq d.0 key)

-- whether bytes have such a line
abbrev pub has_other : List ℕ → List ℕ → Bool
has_other key x = list_any (is_other key) (lines_of x)

-- whether a bucket's bytes have lines of the entry's key alone, and it leads to the entry
abbrev pub leads_alone : Found → List ℕ → Bool
leads_alone entry x =
    not (has_other entry.key x) && is_led entry (latest entry.key (entries_of x))

-- the log gained the removal of the bucket, and a sync of its folder if that is to be durable
abbrev pub RemovesBucket :
    Bool → List ℕ → Option (List LogItem) → Option (List LogItem) → Type 0
RemovesBucket durable path old new =
    (cut : Option (List LogItem)) × Does (steps.RemoveFile path) answers.Done old cut
    × SyncsFolder durable path cut new

-- so it did, if the bucket is to go
abbrev pub RemovesIf :
    Bool → Bool → List ℕ → Option (List LogItem) → Option (List LogItem) → Type 0
RemovesIf true durable path old new = RemovesBucket durable path old new
RemovesIf false durable path old new = new ≡ old

-- the error ended the removal, or the sync after it
abbrev pub StopsRemovingBucket :
    Bool → List ℕ → Error → Option (List LogItem) → Option (List LogItem) → Type 0
StopsRemovingBucket durable path e old new =
    FailsAt (steps.RemoveFile path) e old new
    ⊎ ((cut : Option (List LogItem)) × Does (steps.RemoveFile path) answers.Done old cut
    × StopsSecuring durable path e cut new)

-- the bucket of the entry's key was read, and removed if it leads to the entry alone
abbrev pub UnlinksKey :
    Bool → List ℕ → Found → Bool → Option (List LogItem) → Option (List LogItem) → Type 0
UnlinksKey durable cache entry gone old new =
    (bytes : List ℕ) × (read : Option (List LogItem))
    × Does (steps.ReadAll (bucket_path cache entry.key)) (answers.Bytes bytes) old read
    × (gone ≡ leads_alone entry bytes)
    × RemovesIf gone durable (bucket_path cache entry.key) read new

-- the error ended the reading; or memory ran out after it; or the error ended the removal
abbrev pub StopsUnlinkingKey :
    Bool → List ℕ → Found → Error → Option (List LogItem) → Option (List LogItem) → Type 0
StopsUnlinkingKey durable cache entry e old new =
    FailsAt (steps.ReadAll (bucket_path cache entry.key)) e old new
    ⊎ ((bytes : List ℕ) × (read : Option (List LogItem))
    × Does (steps.ReadAll (bucket_path cache entry.key)) (answers.Bytes bytes) old read
    × (((e ≡ OutOfMemory) × (new ≡ read))
    ⊎ ((leads_alone entry bytes ≡ true)
    × StopsRemovingBucket durable (bucket_path cache entry.key) e read new)))

-- ---- a key

-- after its tombstone was refused with the error: if the disk may be full, the bucket was removed, stayed
-- or wasn't reached, as `tried` says; otherwise nothing was done
abbrev pub TriesKey : Bool → Bool → List ℕ → Found → Error → Result Bool Error
    → Option (List LogItem) → Option (List LogItem) → Type 0
TriesKey false durable cache entry e tried old new = (tried ≡ Err e) × (new ≡ old)
TriesKey true durable cache entry e (Ok gone) old new = UnlinksKey durable cache entry gone old new
TriesKey true durable cache entry e (Err x) old new = StopsUnlinkingKey durable cache entry x old new

-- an error leaves the key as it is, except want of memory
abbrev pub unless_memory : Result Bool Error → Result Bool Error
unless_memory (Ok gone) = Ok gone
unless_memory (Err OutOfMemory) = Err OutOfMemory
unless_memory (Err e) = Ok false

-- the entry's key got a tombstone; or that was refused, and this became of what was tried then
abbrev pub DropsKey : Bool → Site → Found → Result Bool Error
    → Option (List LogItem) → Option (List LogItem) → Type 0
DropsKey durable site entry r old new =
    ((r ≡ Ok true) × Entombs site entry replies.Done old new)
    ⊎ ((e : Error) × (tried : Result Bool Error) × (refused : Option (List LogItem))
    × Entombs site entry (replies.Refused (without_message e)) old refused
    × TriesKey (may_be_full (fault_in e)) durable site.cache entry e tried refused new
    × (r ≡ unless_memory tried))

-- ---- keys, one after another

-- an entry, and whether its key is dropped
abbrev pub Parting : Type 0
Parting = Found × Bool

-- these entries
abbrev pub parted : List Parting → List Found
parted partings = map (λ p. p.0) partings

-- those whose keys are dropped
abbrev pub gone_in : List Parting → List Found
gone_in partings = parted (filter (λ p. p.1) partings)

-- the others
abbrev pub left_in : List Parting → List Found
left_in partings = parted (filter (λ p. not p.1) partings)

-- so it did with each of these keys, in turn
abbrev pub DropsKeys :
    Bool → Site → List Parting → Option (List LogItem) → Option (List LogItem) → Type 0
DropsKeys durable site [] old new = new ≡ old
DropsKeys durable site (p ∷ partings) old new =
    (next : Option (List LogItem)) × DropsKey durable site p.0 (Ok p.1) old next
    × DropsKeys durable site partings next new

-- so it did with those of the entries: these were dropped, and these are left
pub record Parts (durable : Bool) (site : Site) (entries gone left : List Found)
    (old new : Option (List LogItem)) : Type 0 where
  pub partings : List Parting
  pub each : parted partings ≡ entries
  pub dropped : gone ≡ gone_in partings
  pub spared : left ≡ left_in partings
  pub dropping : DropsKeys durable site partings old new

-- memory ran out at the key of the next entry, or right before it
abbrev pub StopsNextKey :
    Bool → Site → List Found → Option (List LogItem) → Option (List LogItem) → Type 0
StopsNextKey durable site [] old new = new ≡ old
StopsNextKey durable site (entry ∷ rest) old new =
    (new ≡ old) ⊎ DropsKey durable site entry (Err OutOfMemory) old new

-- so it did with the first of these entries, and then memory ran out
pub record StopsParting (durable : Bool) (site : Site) (entries : List Found) (e : Error)
    (old new : Option (List LogItem)) : Type 0 where
  pub done : List Parting
  pub rest : List Found
  pub split : entries ≡ parted done ++ rest
  pub between : Option (List LogItem)
  pub dropping : DropsKeys durable site done old between
  pub stop : StopsNextKey durable site rest between new
  pub memory : e ≡ OutOfMemory
