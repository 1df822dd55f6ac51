-- Insertions: a check of the entry, the bucket's folder, one append.
use Rattle.std.specs.Prelude.{ℕ, List, [], ◌∷◌, Option, None, Some, false, if◌then◌else◌, nat_le, length}
use Rattle.serde_json.specs.Data.{null}
use Rattle.cacache_core.specs.declared.errors.Fault.TheVariants as faults
use Rattle.cacache_core.specs.{declared.{errors.{SerdeCause.{SerdeCause}, Error.TheVariants.{SerdeError}}, integrity.{digest.Hash.{Hash}, algorithm.Algorithm.TheVariants.{Sha1}}}, Integrity.{hash_of}, Texts.{integrity_text}}
use Rattle.cacache_entry.specs.{Entry.{Entry, closed_line}, FittingEntries.{cause_of}}
use Rattle.cacache_calls.specs.{declared.{command.{Options.{Options}, Insert.{Insert}, Delete.{Delete}}, reply.Reply.TheVariants.{Stored, Done}}, Steps.{bucket_path, bucket_folder, bucket_folders}, State.{State, doing, appending, over, Insertion, make_folder, sync_file}, Common.{ends_with, fails, sync_up}}

-- the line that the call appends; a durable one is closed
unfoldable pub bucket_line : Insertion → List ℕ
bucket_line i = closed_line i.durable i.entry

-- why the entry can't be written, if it can't
unfoldable pub refused_cause : Insertion → Option SerdeCause
refused_cause i = cause_of i.entry

-- the call refuses an entry that can't be written before any step
abbrev pub unless_refused : Insertion → Option SerdeCause → State
unless_refused i None = doing (make_folder (bucket_folder i.cache i.entry.key)) (appending i)
unless_refused i (Some cause) = ends_with (SerdeError cause [])

-- the first state of an insertion
abbrev pub insert : Insertion → State
insert i = unless_refused i (refused_cause i)

-- a durable insertion syncs its bucket, and the folders on the path to it
abbrev pub recorded : Insertion → State
recorded i =
    if i.durable then doing (sync_file (bucket_path i.cache i.entry.key))
    (sync_up (bucket_folders i.cache i.entry.key) (over i.reply))
    else over i.reply

-- the call doesn't continue an append that took less than the line
abbrev pub after_append : Insertion → ℕ → State
after_append i n =
    if nat_le (length (bucket_line i)) n then recorded i else fails faults.ShortAppend

-- ---- first states

-- the entry that these options describe
abbrev pub entry_of : List ℕ → Option (List ℕ) → ℕ → ℕ → Options → Entry
entry_of key integrity size moment o = record {
  key = key;
  integrity = integrity;
  time = moment;
  size = size;
  metadata = o.metadata;
  raw_metadata = o.raw_metadata;
}

-- the integrity that an insertion without one returns: `sha1-deadbeef`
abbrev pub no_integrity : List Hash
no_integrity = hash_of Sha1 (117 ∷ 230 ∷ 157 ∷ 109 ∷ 231 ∷ 159 ∷ []) ∷ []

-- the integrity that was given, otherwise this one
abbrev pub given_or : List Hash → Option (List Hash) → List Hash
given_or i None = i
given_or i (Some j) = j

-- the text of an integrity that was given
abbrev pub given_text : Option (List Hash) → Option (List ℕ)
given_text None = None
given_text (Some i) = Some (integrity_text i)

-- the size that was given, otherwise 0
abbrev pub given_size : Option ℕ → ℕ
given_size None = 0
given_size (Some n) = n

-- an insertion from its options; without an integrity it is a tombstone
abbrev pub insertion : List ℕ → Insert → Insertion
insertion cache i =
    let o = i.options in
    record {
      cache = cache;
      entry = entry_of i.key (given_text o.integrity) (given_size o.size) i.moment o;
      durable = o.durable;
      reply = Stored (given_or no_integrity o.integrity);
    }

-- a tombstone
abbrev pub deletion : List ℕ → Delete → Insertion
deletion cache d = record {
  cache = cache;
  entry = record {
    key = d.key;
    integrity = None;
    time = d.moment;
    size = 0;
    metadata = null;
    raw_metadata = None;
  };
  durable = false;
  reply = Done;
}
