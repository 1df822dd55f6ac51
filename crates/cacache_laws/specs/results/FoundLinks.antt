-- What losses of power leave of a durable put whose content may be a link.
use Rattle.std.specs.Prelude.{◌≡◌, ℕ, List, [], ◌∷◌, ◌++◌, Some, true, Ok, None}
use Rattle.cacache_core.specs.{declared.integrity.digest.Hash.{Hash}, Paths.{Names, names_of}, Integrity.{digest, IsIntegrity}}
use Rattle.cacache_disk.specs.{declared.node.Node.TheVariants.{File}, Tree.{Tree, look}, Replay.{tree_of}}
use Rattle.cacache_calls.specs.{declared.command.Put.{Put}, Licence.{KeepsTo, Licence, taking_in}}
use Rattle.cacache_value.specs.{Shows.{blob_bytes}, Value.{AtLink, value_of_tree}}
use Rattle.cacache_loss.specs.{Loss.{Loss}, LossLaws.{HasDigest}, LostValues.{LeftOf}, Moments.{EachMove}, Syncs.{Leaves}}
use Rattle.cacache_history.specs.{declared.record.Record.{Record, TheVariants.{Began, Moved, Stopped}}, AddedEntries.{address_of_put}, History.{History, IsLegal, initial}, Setup.{home}, Values.{steps_of, value_at}, durable.{QuietMoves.{FewCalls}, Outlasting.{AnsweredPut, EntriesHaveBehind, PutsOrLinksOutlast, moment_at}}}
use Rattle.cacache_store.specs.declared.store.log.LogItem.{LogItem}
use Rattle.cacache_entry.specs.{Entry.{Entry}, Bucket.{NoneAnswers}}
use Rattle.cacache_laws.specs.{Inserts.{leads_to}, results.{Losses.{IsLast, IsLeft, StandsBefore}, Reads.{LiesWhole}}, Beside.{own_integrity}}

-- ---- what is left

-- a target was, when the history began, the path of a file of these bytes, which no step changed
pub record StaysUnchanged (h : History) (target bytes : List ℕ) : Type 0 where
  pub path : Names
  pub named : names_of target ≡ Ok path
  pub first : look (initial h.setup).tree path ≡ Some (File bytes)
  pub leaves : EachMove (Leaves path) (moment_at h []) (steps_of h.records)

-- each link that was at an address after the first records leads to such a file
abbrev pub LeadsUnchanged : History → List Record → Hash → Type 0
LeadsUnchanged h before address =
    (target : List ℕ) → (value_at h before).contents address ≡ Some (AtLink target)
    → (bytes : List ℕ) × StaysUnchanged h target bytes

-- bytes, entries and links may come in, but nothing goes out or is removed
abbrev pub linking_in : Licence
linking_in = record taking_in { links = true }

-- each call that begins in these records does no more than this
abbrev pub OnlyLinksIn : List Record → Type 0
OnlyLinksIn [] = Unit {0}
OnlyLinksIn (Began caller command ∷ records) =
    KeepsTo linking_in command × OnlyLinksIn records
OnlyLinksIn (Moved caller luck made reply ∷ records) = OnlyLinksIn records
OnlyLinksIn (Stopped caller ∷ records) = OnlyLinksIn records

-- what lies at an address, or where a link there leads, is bytes with its digest
abbrev pub GivesDigest : Names → Hash → Tree → Type 0
GivesDigest folder address t =
    (bytes : List ℕ) × HasDigest address bytes
    × (blob_bytes t ((value_of_tree (Some folder) t).contents address) ≡ Ok bytes)

-- ---- the laws

-- a file that no step changed is there after each loss, with its bytes
abbrev pub UnchangedFilesStay : History → Type 0
UnchangedFilesStay h =
    (folder : Names) (target bytes : List ℕ) (loss : Loss) (left : Tree)
    → home h.setup ≡ Some folder → (file : StaysUnchanged h target bytes)
    → LeftOf folder (moment_at h h.records) loss left
    → look left file.path ≡ Some (File bytes)

-- so if the link leads to such a file, what lies at the put's address gives bytes with its digest
abbrev pub PutsOrLinksGive : History → Type 0
PutsOrLinksGive h =
    (folder : Names) (p : Put) (loss : Loss) (left : Tree) → home h.setup ≡ Some folder
    → (put : AnsweredPut h folder p) → LeftOf folder (moment_at h h.records) loss left
    → LeadsUnchanged h put.before (address_of_put p) → GivesDigest folder (address_of_put p) left

-- if no call exports or removes, each link at a put's address leads to such a file
abbrev pub LinksLeadUnchanged : History → Type 0
LinksLeadUnchanged h =
    OnlyLinksIn h.records → (before later : List Record) → h.records ≡ before ++ later
    → (p : Put) → LeadsUnchanged h before (address_of_put p)

-- what a loss of power leaves of durable puts that found a link
pub record LinksOutlast (h : History) : Type 0 where
  -- the content or the link, if each call has a temporary file of its own
  pub puts : FewCalls h → PutsOrLinksOutlast h
  -- what is left after the entry of such a put
  pub behind : EntriesHaveBehind h
  -- the link's target
  pub files : UnchangedFilesStay h
  -- which no step changes, if no call exports or removes
  pub unchanged : LinksLeadUnchanged h
  -- and so what both give
  pub gives : FewCalls h → PutsOrLinksGive h

-- so it is for every legal history
abbrev pub HistoriesKeepLinks : Type 0
HistoriesKeepLinks = (h : History) → IsLegal h → LinksOutlast h

-- ---- what is left

-- the key leads to bytes that have the digest of the put's, which lie there or where a link leads
pub record LeadsThrough (cache key : List ℕ) (p : Put) (log : List LogItem) : Type 0 where
  pub bytes : List ℕ
  pub same : digest p.options.algorithm bytes ≡ digest p.options.algorithm p.data
  pub leads : leads_to cache key log ≡ Some (own_integrity p)
  pub formed : IsIntegrity (own_integrity p)
  pub lies : LiesWhole cache (own_integrity p) log bytes

-- the put's entry is there; if none after it answers to the key, the key leads to such bytes in each
-- store with this tree
abbrev pub LinkIsLeft : List ℕ → List ℕ → Put → Tree → Type 0
LinkIsLeft cache key p t =
    (more : List Entry) × StandsBefore cache key p more t
    × (NoneAnswers key more → (log : List LogItem) → tree_of log ≡ t → LeadsThrough cache key p log)

-- ---- laws

-- if a durable put answered, and no integrity was expected, what it stored is left; if a link was
-- at its address, one to a file that no step of the history changed
abbrev pub LossesLeaveLinks : Type 0
LossesLeaveLinks =
    (h : History) (loss : Loss) (folder : Names) (key : List ℕ) (p : Put) (t : Tree)
    → LinksOutlast h → FewCalls h → IsLeft h loss t → home h.setup ≡ Some folder
    → (put : AnsweredPut h folder p) → p.key ≡ Some key → p.options.integrity ≡ None
    → LeadsUnchanged h put.before (address_of_put p) → LinkIsLeft h.setup.cache key p t

-- and if its entry is the last of its bucket, the key leads to its bytes in each such store
abbrev pub LossesLeaveLastLinks : Type 0
LossesLeaveLastLinks =
    (h : History) (loss : Loss) (folder : Names) (key : List ℕ) (p : Put) (t : Tree)
    → LinksOutlast h → FewCalls h → IsLeft h loss t → home h.setup ≡ Some folder
    → (put : AnsweredPut h folder p) → p.key ≡ Some key → p.options.integrity ≡ None
    → LeadsUnchanged h put.before (address_of_put p)
    → IsLast h folder put.rest put.call.caller key p
    → (log : List LogItem) → tree_of log ≡ t → LeadsThrough h.setup.cache key p log
