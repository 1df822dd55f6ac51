-- A single case, which meets the premises of the laws: a read that ends within a line.
use Rattle.std.specs.Prelude.{◌≡◌, ◌<◌, ℕ, List, [], ◌∷◌, false, length, take, drop}
use Rattle.cacache_entry.specs.{Entry.{Entry, line_of, closed_line}, FittingEntries.{IsEntry, IsWritable}, Bucket.{entries_of}}
use Rattle.cacache_system_model.specs.bucket.{File.{Event, OpensToAppend, Starts, Shows, Answers, Opens, Reads, Ends, idle, file_after, Happen}, Calls.{AppendRan, ReadRan}}

-- an append of an entry's line in two parts, with a read between them
abbrev pub in_parts : Entry → ℕ → List Event
in_parts e n =
    OpensToAppend 1 ∷ Starts 1 false e ∷ Opens 2 ∷ Shows (take n (line_of e))
    ∷ Reads 2 (take n (line_of e)) ∷ Ends 2 ∷ Shows (drop n (closed_line false e))
    ∷ Answers 1 (length (closed_line false e)) ∷ []

-- these are runs of an `Append` and of a `ReadAll`; the read has no entry, and in the end the file has one
pub record ReadWithinLine (e : Entry) (n : ℕ) : Type 0 where
  pub happen : Happen (idle []) (in_parts e n)
  pub append : AppendRan 1 e (length (closed_line false e)) (idle []) (in_parts e n)
  pub read : ReadRan 2 (take n (line_of e)) (idle []) (in_parts e n)
  pub none : entries_of (take n (line_of e)) ≡ []
  pub whole : entries_of (file_after (idle []) (in_parts e n)).bytes ≡ e ∷ []

-- each entry's line can be read so, up to each of its bytes
abbrev pub TornReadsHappen : Type 0
TornReadsHappen =
    (e : Entry) (n : ℕ) → IsEntry e → IsWritable e → n < length (line_of e) → ReadWithinLine e n
