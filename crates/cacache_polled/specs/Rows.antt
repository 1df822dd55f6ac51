-- Rows: polls and completions of a new core, and its answers.
use Rattle.std.specs.Prelude.{◌≡◌, ℕ, List, [], ◌∷◌}
use Rattle.cacache_core.specs.declared.errors.Fault.TheVariants.{Device, OtherBytes, Closed}
use Rattle.cacache_polled.specs.declared.kinds.Work.TheVariants as work
use Rattle.cacache_polled.specs.{declared.kinds.{Polled.TheVariants.{Pending, Start, Done, Failed as Says, Wrote as Took}, Completion.TheVariants.{Wrote, Failed, Flushed}}, Table.{ask_write, ask_flush, ask_close}, Events.{asks, ends, Answer, says, accepted, refused, answers, seen}}

abbrev pub abc : List ℕ
abc = 97 ∷ 98 ∷ 99 ∷ []

abbrev pub xyz : List ℕ
xyz = 120 ∷ 121 ∷ 122 ∷ []

abbrev pub starts : List ℕ → Answer
starts b = says (Start (work.Write b))

-- a write is answered with its bytes alone, and a flush in between doesn't forget it
abbrev pub FlushKeepsWrite : Type 0
FlushKeepsWrite =
    answers (asks (ask_write abc) ∷ ends (Wrote 3) ∷ asks (ask_write xyz) ∷ asks ask_flush ∷ ends Flushed
    ∷ asks ask_flush ∷ asks (ask_write abc) ∷ [])
    ≡ starts abc ∷ accepted ∷ says (Says OtherBytes) ∷ says (Start work.Flush) ∷ accepted ∷ says Done
    ∷ says (Took 3) ∷ []

-- a failed write is reported after a flush
abbrev pub FlushKeepsFault : Type 0
FlushKeepsFault =
    answers (asks (ask_write abc) ∷ ends (Failed Device) ∷ asks ask_flush ∷ ends Flushed ∷ asks (ask_write abc) ∷ [])
    ≡ starts abc ∷ accepted ∷ says (Start work.Flush) ∷ accepted ∷ says (Says Device) ∷ []

-- no write takes more than it has
abbrev pub NoLongWrite : Type 0
NoLongWrite =
    answers (asks (ask_write abc) ∷ ends (Wrote 4) ∷ asks (ask_write abc) ∷ [])
    ≡ starts abc ∷ refused ∷ says Pending ∷ []

-- a short write, and other bytes before it is answered
abbrev pub ShortWrite : Type 0
ShortWrite =
    answers (asks (ask_write abc) ∷ ends (Wrote 2) ∷ asks (ask_write []) ∷ asks (ask_write abc) ∷ [])
    ≡ starts abc ∷ accepted ∷ says (Says OtherBytes) ∷ says (Took 2) ∷ []

abbrev pub ShortHeld : Type 0
ShortHeld =
    (seen (asks (ask_write abc) ∷ ends (Wrote 2) ∷ asks (ask_write []) ∷ asks (ask_write abc) ∷ [])).held
    ≡ 97 ∷ 98 ∷ []

-- a close waits for the write that is out, and its fault is reported once
abbrev pub CloseWaits : Type 0
CloseWaits =
    answers (asks (ask_write abc) ∷ asks ask_close ∷ ends (Wrote 3) ∷ asks ask_close ∷ asks (ask_write xyz)
    ∷ ends (Failed Device) ∷ asks ask_close ∷ asks ask_close ∷ [])
    ≡ starts abc ∷ says Pending ∷ accepted ∷ says (Start work.Remove) ∷ says (Says Closed)
    ∷ accepted ∷ says (Says Device) ∷ says Done ∷ []

-- no completion fits a core that has no work out
abbrev pub IdleRefuses : Type 0
IdleRefuses = answers (ends Flushed ∷ []) ≡ refused ∷ []
