-- What durable commits leave after a loss of power.
use Rattle.std.specs.Prelude.{◌≡◌, ◌⊎◌, ℕ, List, [], ◌∷◌, ◌++◌, Option, None, Some, true, fold, length}
use Rattle.sha1.specs.Sha1.{sha1}
use Rattle.cacache_core.specs.{declared.integrity.digest.Hash.{Hash}, Paths.{Names, bucket_names, content_names, joined}}
use Rattle.cacache_store.specs.declared.store.step.Step.TheVariants as steps
use Rattle.cacache_store.specs.declared.store.answer.Answer.TheVariants as answers
use Rattle.cacache_disk.specs.Tree.{Tree}
use Rattle.cacache_entry.specs.{Entry.{Entry, closed_line}, Bucket.{Found, answer_to, after_entry, latest}}
use Rattle.cacache_calls.specs.declared.command.Command.TheVariants as commands
use Rattle.cacache_calls.specs.{declared.{command.{Insert.{Insert}, Put.{Put}}, reply.Reply.{Reply, TheVariants.{Stored}}}, Inserting.{insertion}, Steps.{bucket_path}, Storing.{insertion_of, put_commit}}
use Rattle.cacache_value.specs.Value.{AtLink, Value, value_of_tree}
use Rattle.cacache_history.specs.{declared.record.Record.{Record, TheVariants.{Moved}}, AddedEntries.{address_of_put}, History.{History, IsLegal, initial, now_at}, Setup.{home}, Values.{bucket_at, steps_of, value_at}, durable.{Behind.{Behind}, QuietMoves.{EndsFrom, FewCalls, AreQuiet}}}
use Rattle.cacache_loss.specs.{ChangedNames.{LeavesCache, opening}, Loss.{Loss}, LostValues.{HoldsContent, LeftOf}, Moments.{Moment, after}}

-- the tree after the first records of a history, and what of it is fixed
abbrev pub moment_at : History → List Record → Moment
moment_at h before = after (opening (initial h.setup).tree) (steps_of before)

-- ---- what is left

-- a bucket of this key holds these entries and this one after them; if this one answers a lookup of
-- the key, the lookup finds it or a later one
pub record Outlasts (key : List ℕ) (old : List Entry) (entry : Entry) (v : Value) : Type 0 where
  pub more : List Entry
  pub bucket : v.buckets (sha1 key) ≡ Some (old ++ entry ∷ more)
  pub finds : (found : Option Found) → answer_to key entry ≡ Some found
      → latest key (old ++ entry ∷ more) ≡ fold (after_entry key) found more

-- the caller's append of the entry's whole line, which was taken whole
abbrev pub IsAppendOf : ℕ → List ℕ → List ℕ → Entry → Record → Type 0
IsAppendOf caller cache key entry (Moved other luck (Some made) told) =
    (other ≡ caller) × (made.0 ≡ steps.Append (bucket_path cache key) (closed_line true entry))
    × (made.1 ≡ answers.Took (length (closed_line true entry)))
IsAppendOf caller cache key entry r = ⊥

-- the entry outlasts a loss, after what its bucket held at the place of the caller's append
pub record EntryOutlasts (h : History) (before rest : List Record) (caller : ℕ) (key : List ℕ)
    (entry : Entry) (v : Value) : Type 0 where
  pub between : List Record
  pub append : Record
  pub later : List Record
  pub is : rest ≡ between ++ append ∷ later
  pub is_append : IsAppendOf caller h.setup.cache key entry append
  pub outlasts : Outlasts key (bucket_at h (before ++ between) (sha1 key)) entry v

-- the entry outlasts a loss, and so much of what the history added is left after it
pub record OutlastsWith (h : History) (folder : Names) (before rest : List Record) (caller : ℕ)
    (key : List ℕ) (entry : Entry) (loss : Loss) (v : Value) : Type 0 where
  pub entry_is : EntryOutlasts h before rest caller key entry v
  pub behind :
      Behind h (folder ++ bucket_names key) key (bucket_at h (before ++ entry_is.between) (sha1 key))
      entry entry_is.later loss entry_is.outlasts.more

-- with a key a put has an entry, which outlasts the loss too
abbrev pub KeyOutlasts : History → List Record → List Record → ℕ → Put → Option (List ℕ) → Value
    → Type 0
KeyOutlasts h before rest caller p None v = Unit {0}
KeyOutlasts h before rest caller p (Some key) v =
    EntryOutlasts h before rest caller key (insertion_of (put_commit h.setup.cache p) key).entry v

-- ---- which commits

-- there is no link at this address
abbrev pub IsNoLink : Hash → Value → Type 0
IsNoLink address v = (target : List ℕ) → v.contents address ≡ Some (AtLink target) → ⊥

-- the caller's sync of the content itself, which it makes only if it found the content there
abbrev pub IsSyncOf : ℕ → List ℕ → Record → Type 0
IsSyncOf caller path (Moved other luck (Some made) told) =
    (other ≡ caller) × (made ≡ (steps.SyncFile path, answers.Done))
IsSyncOf caller path r = ⊥

-- among these records is such a sync: the caller put nothing at this path, but found what was there
pub record FindsThere (caller : ℕ) (path : List ℕ) (rest : List Record) : Type 0 where
  pub between : List Record
  pub sync : Record
  pub later : List Record
  pub is : rest ≡ between ++ sync ∷ later
  pub is_sync : IsSyncOf caller path sync

-- a durable put that answers, from a place on where it had put nothing: from there on others
-- remove, link and export nothing, and put its content durably. Anything may be at its address
-- there
pub record AnsweredPut (h : History) (folder : Names) (p : Put) : Type 0 where
  pub before : List Record
  pub rest : List Record
  pub is : h.records ≡ before ++ rest
  pub durable : p.options.durable ≡ true
  pub reply : List Hash
  pub call : EndsFrom h before rest (commands.Put p) (Stored reply)
  pub quiet :
      AreQuiet h.setup (folder ++ content_names (address_of_put p)) (now_at h before) rest

-- such a put that found no link: if it found its content instead of putting it, no link was at its
-- address
pub record DurablePut (h : History) (folder : Names) (p : Put) : Type 0 where
  pub answered : AnsweredPut h folder p
  pub open answered use *
  pub no_link :
      FindsThere call.caller (joined h.setup.cache (content_names (address_of_put p))) rest
      → IsNoLink (address_of_put p) (value_at h before)

-- a durable insertion that answers, from a place on where its entry wasn't added: from there on
-- others remove, link and export nothing
pub record DurableInsert (h : History) (i : Insert) : Type 0 where
  pub before : List Record
  pub rest : List Record
  pub is : h.records ≡ before ++ rest
  pub durable : i.options.durable ≡ true
  pub reply : Reply
  pub call : EndsFrom h before rest (commands.Insert i) reply
  pub stored : (hashes : List Hash) × (reply ≡ Stored hashes)
  pub quiet : AreQuiet h.setup [] (now_at h before) rest

-- ---- what is left if a put found a link

-- after the first records a link to this target was at an address, and in this value it still is
pub record KeepsLink (h : History) (before : List Record) (address : Hash) (v : Value)
    : Type 0 where
  pub target : List ℕ
  pub was : (value_at h before).contents address ≡ Some (AtLink target)
  pub is : v.contents address ≡ Some (AtLink target)

-- the caller put nothing there, but found the link that was there before, and it still is
abbrev pub FoundLink :
    History → List Record → List Record → ℕ → Hash → Value → Type 0
FoundLink h before rest caller address v =
    FindsThere caller (joined h.setup.cache (content_names address)) rest
    × KeepsLink h before address v

-- ---- the laws

-- after each later loss a durable put's address holds bytes with its digest, or still the link
-- that the put found there; with a key its entry is there too
abbrev pub PutsOrLinksOutlast : History → Type 0
PutsOrLinksOutlast h =
    (folder : Names) (p : Put) (loss : Loss) (left : Tree) → home h.setup ≡ Some folder
    → (put : AnsweredPut h folder p) → LeftOf folder (moment_at h h.records) loss left
    → (HoldsContent (address_of_put p) (value_of_tree (Some folder) left)
    ⊎ FoundLink h put.before put.rest put.call.caller (address_of_put p)
    (value_of_tree (Some folder) left))
    × KeyOutlasts h put.before put.rest put.call.caller p p.key (value_of_tree (Some folder) left)

-- so if it found no link its content is there, and with a key its entry
abbrev pub PutsOutlast : History → Type 0
PutsOutlast h =
    (folder : Names) (p : Put) (loss : Loss) (left : Tree) → home h.setup ≡ Some folder
    → (put : DurablePut h folder p) → LeftOf folder (moment_at h h.records) loss left
    → HoldsContent (address_of_put p) (value_of_tree (Some folder) left)
    × KeyOutlasts h put.before put.rest put.call.caller p p.key (value_of_tree (Some folder) left)

-- the entry of a durable insertion is there too
abbrev pub InsertsOutlast : History → Type 0
InsertsOutlast h =
    (folder : Names) (i : Insert) (loss : Loss) (left : Tree) → home h.setup ≡ Some folder
    → (put : DurableInsert h i) → LeftOf folder (moment_at h h.records) loss left
    → EntryOutlasts h put.before put.rest put.call.caller i.key (insertion h.setup.cache i).entry
    (value_of_tree (Some folder) left)

-- after the entry of a durable put come the first of those that the history added there
abbrev pub EntriesHaveBehind : History → Type 0
EntriesHaveBehind h =
    (folder : Names) (p : Put) (key : List ℕ) (loss : Loss) (left : Tree)
    → home h.setup ≡ Some folder → (put : AnsweredPut h folder p) → p.key ≡ Some key
    → LeftOf folder (moment_at h h.records) loss left
    → OutlastsWith h folder put.before put.rest put.call.caller key
    (insertion_of (put_commit h.setup.cache p) key).entry loss (value_of_tree (Some folder) left)

-- so they do if the put found no link
abbrev pub PutsHaveBehind : History → Type 0
PutsHaveBehind h =
    (folder : Names) (p : Put) (key : List ℕ) (loss : Loss) (left : Tree)
    → home h.setup ≡ Some folder → (put : DurablePut h folder p) → p.key ≡ Some key
    → LeftOf folder (moment_at h h.records) loss left
    → OutlastsWith h folder put.before put.rest put.call.caller key
    (insertion_of (put_commit h.setup.cache p) key).entry loss (value_of_tree (Some folder) left)

-- and after the entry of a durable insertion
abbrev pub InsertsHaveBehind : History → Type 0
InsertsHaveBehind h =
    (folder : Names) (i : Insert) (loss : Loss) (left : Tree) → home h.setup ≡ Some folder
    → (put : DurableInsert h i) → LeftOf folder (moment_at h h.records) loss left
    → OutlastsWith h folder put.before put.rest put.call.caller i.key
    (insertion h.setup.cache i).entry loss (value_of_tree (Some folder) left)

-- each loss leaves one tree, that of a cache, on which reading steps show what it holds
abbrev pub LossesLeaveCaches : History → Type 0
LossesLeaveCaches h =
    (loss : Loss) → LeavesCache (home h.setup) (moment_at h h.records) loss

-- what a loss of power leaves of a history
pub record Outlives (h : History) : Type 0 where
  -- each loss leaves one tree, that of a cache
  pub caches : LossesLeaveCaches h
  -- what a durable put that answered Ok stored is there after it, if it found no link, no other call
  -- since removes, links, exports or puts that content plainly, and each call has its own temporary file
  pub puts : FewCalls h → PutsOutlast h
  -- and so is the entry of a durable insertion, if no other call since removes, links or exports
  pub inserts : InsertsOutlast h
  -- what is left after the entry of a durable put
  pub behind_puts : PutsHaveBehind h
  -- and after that of a durable insertion
  pub behind_inserts : InsertsHaveBehind h

-- this holds of every legal history
abbrev pub HistoriesOutlive : Type 0
HistoriesOutlive = (h : History) → IsLegal h → Outlives h
