-- Which buckets are in a cache, which entries commits add, and the contents that these name.
use Rattle.std.specs.Prelude.{◌≡◌, ◌≤◌, ℕ, All, List, ◌∷◌, ◌++◌, Option, Some, Ok, length, ◌⊎◌, [], None}
use Rattle.sha1.specs.Sha1.{sha1}
use Rattle.cacache_core.specs.{Paths.{Names, names_below, bucket_names, index_area}, declared.integrity.digest.Hash.{Hash}, Integrity.{digest, address, hash_of}, Texts.{integrity_text}}
use Rattle.cacache_disk.specs.{declared.node.Node.{Node, TheVariants.{Folder}}, Tree.{Tree, look}}
use Rattle.cacache_entry.specs.Entry.{Entry}
use Rattle.cacache_value.specs.{Acts.{list_of, AddEntries}, Kinds.{Bucket, path_kind}, Value.{Blob, InFile, AtLink}}
use Rattle.cacache_history.specs.{declared.record.Record.{Record}, Setup.{home}, History.{History, now_at, Call, Reaches}, Values.{value_at, steps_of, KeepContent, HasDigest}, Commits.{Deed, does, deeds}}
use Rattle.cacache_calls.specs.declared.{command.{Command.{Command}, Put.{Put}}, reply.Reply.{Reply, TheVariants.{Stored}}}
use Rattle.cacache_calls.specs.declared.command.Command.TheVariants as commands

-- the path is that of the bucket of some key
abbrev pub IsOfKey : Option Names → Names → Type 0
IsOfKey home path = (key : List ℕ) × (names_below home (bucket_names key) ≡ Ok path)

-- what is where a bucket may be is the bucket of some key
abbrev pub BucketsHaveKeys : Option Names → Tree → Type 0
BucketsHaveKeys home t =
    (path : Names) (node : Node) → path_kind home path ≡ Bucket → look t path ≡ Some node
    → IsOfKey home path

-- this holds at each place of a history
abbrev pub BucketsAreOfKeys : History → Type 0
BucketsAreOfKeys h =
    (before later : List Record) → h.records ≡ before ++ later
    → BucketsHaveKeys (home h.setup) (now_at h before).tree

-- and each folder of the index lies at most two names below the index folder, so none lies too deep
abbrev pub IndexIsShallow : History → Type 0
IndexIsShallow h =
    (before later : List Record) → h.records ≡ before ++ later
    → (folder names : Names) → home h.setup ≡ Some folder
    → look (now_at h before).tree (folder ++ index_area ∷ names) ≡ Some Folder
    → length names ≤ 2

-- each entry in the bucket of a key has a key of this bucket
abbrev pub HoldOwn : (List ℕ → Option (List Entry)) → Type 0
HoldOwn buckets =
    (key : List ℕ) → All (λ e. sha1 e.key ≡ sha1 key) (list_of (buckets (sha1 key)))

-- this holds at each place of a history
abbrev pub BucketsHoldOwn : History → Type 0
BucketsHoldOwn h =
    (before later : List Record) → h.records ≡ before ++ later
    → HoldOwn (value_at h before).buckets

-- ---- entries that commits add, and the contents that they name

-- a put or a link without an expected integrity: its entry names its own content
abbrev pub NamesOwn : Command → Type 0
NamesOwn (commands.Put p) = p.options.integrity ≡ None
NamesOwn (commands.Link l) = l.options.integrity ≡ None
NamesOwn command = ⊥

-- it is one of these deeds
abbrev pub IsAmong : Deed → List Deed → Type 0
IsAmong d [] = ⊥
IsAmong d (first ∷ ds) = (d ≡ first) ⊎ IsAmong d ds

-- the call added this entry to a bucket
abbrev pub Added : Entry → Call → Type 0
Added e call = (names : Names) × IsAmong (does (AddEntries names (e ∷ []))) (deeds call.turns)

-- a content of this address: a link, or bytes with the digest of the address
abbrev pub IsContentOf : Hash → Option Blob → Type 0
IsContentOf a None = ⊥
IsContentOf a (Some (InFile bytes)) = HasDigest a bytes
IsContentOf a (Some (AtLink target)) = Unit {0}

-- there is one at the end, unless a step removed it
abbrev pub IsLeft : History → Hash → Type 0
IsLeft h a =
    KeepContent (home h.setup) a (steps_of h.records)
    → IsContentOf a ((value_at h h.records).contents a)

-- what an entry names is there, unless a step removed it
abbrev pub NamesContent : History → Entry → Type 0
NamesContent h e =
    (i : List Hash) × (a : Hash) × (e.integrity ≡ Some (integrity_text i)) × (address i ≡ Some a)
    × IsLeft h a

-- each entry of such a commit names a content that is there, unless a step removed it
abbrev pub EntriesNameContents : History → Type 0
EntriesNameContents h =
    (call : Call) (reply : Option Reply) → Reaches h call reply → NamesOwn call.command
    → (e : Entry) → Added e call → NamesContent h e

-- the address of a put's bytes
abbrev pub address_of_put : Put → Hash
address_of_put p = hash_of p.options.algorithm (digest p.options.algorithm p.data)

-- what a put that answered stored is there, with or without a key, unless a step removed it
abbrev pub PutsLeaveContents : History → Type 0
PutsLeaveContents h =
    (call : Call) (i : List Hash) (p : Put) → Reaches h call (Some (Stored i))
    → call.command ≡ commands.Put p → IsLeft h (address_of_put p)
