-- What callers do on one machine makes a legal history.
use Rattle.std.specs.Prelude.{◌≡◌, ◌≤◌, ◌^◌, ℕ, Bool, true, false, List, [], ◌++◌, Option, None, Ok}
use Rattle.cacache_core.specs.Paths.{Names}
use Rattle.cacache_disk.specs.Tree.{bare}
use Rattle.cacache_value.specs.{Kinds.{Temporary, path_kind}, Placed.{with_files, LieApart}}
use Rattle.cacache_system_model.specs.{Machine.{Machine}, Mirrors.{Mirrors}, callers.Acts.{Act, SystemState, after_acts, MayAct, EachMay, AreRecordsOf}}
use Rattle.cacache_history.specs.{declared.record.Record.{Record}, Setup.{Setup, home}, History.{History, Now, initial, replayed, IsLegal}, Headline.{Headline}}

-- the history of these records
abbrev pub history_of : Setup → List Record → History
history_of s records = record { setup = s; records = records }

-- what these records lead to
abbrev pub now_left : Setup → List Record → Now
now_left s records = replayed s (initial s) records

-- the open temporary files lie where temporary files belong
abbrev pub AreTemps : Option Names → (Names → Bool) → Type 0
AreTemps home temps = (names : Names) → temps names ≡ true → path_kind home names ≡ Temporary

-- the cache on a machine is as a legal history left it, with no call on its way; temporary files that calls left open
-- may still be there, with any bytes; at most 2^64 calls began
pub record CacheOn (s : Setup) (m : Machine) : Type 0 where
  pub past : List Record
  pub temps : Names → Bool
  pub legal : IsLegal (history_of s past)
  pub over : (caller : ℕ) → (now_left s past).calls caller ≡ None
  pub few : (now_left s past).begun ≤ 2 ^ 64
  pub mirrors : Mirrors temps m.tree (now_left s past).tree
  pub are_temps : AreTemps (home s) temps

-- a machine that holds only the outside files is one on which nothing happened, and no temporary file is open
abbrev pub CachesBegin : Type 0
CachesBegin =
    (s : Setup) (m : Machine) → LieApart (home s) s.outside → with_files bare s.outside ≡ Ok m.tree
    → (cache : CacheOn s m) × (cache.past ≡ []) × ((names : Names) → cache.temps names ≡ false)

-- before any act no call is on its way
abbrev pub system_at : (s : Setup) (m : Machine) → CacheOn s m → SystemState
system_at s m cache = record {
  machine = m;
  temps = cache.temps;
  states = λ caller. None;
  begun = (now_left s cache.past).begun;
}

-- the acts have records, one each; with those of the past they are a legal history, with all that each has; its last
-- tree mirrors the machine's, and a caller without a call has none there
pub record MakesHistory (s : Setup) (past : List Record) (acts : List Act) (last : SystemState) : Type 0 where
  pub records : List Record
  pub of_acts : AreRecordsOf acts records
  pub headline : Headline (history_of s (past ++ records))
  pub mirrors : Mirrors last.temps last.machine.tree (now_left s (past ++ records)).tree
  pub are_temps : AreTemps (home s) last.temps
  pub over : (caller : ℕ) → last.states caller ≡ None
      → (now_left s (past ++ records)).calls caller ≡ None
  pub begun : last.begun ≡ (now_left s (past ++ records)).begun

-- once no call is on its way, what acts left is such a cache again
abbrev pub CachesGoOn : Type 0
CachesGoOn =
    (s : Setup) (past : List Record) (acts : List Act) (last : SystemState)
    → (made : MakesHistory s past acts last) → ((caller : ℕ) → last.states caller ≡ None)
    → last.begun ≤ 2 ^ 64 → (cache : CacheOn s last.machine) × (cache.past ≡ past ++ made.records)

-- acts that this rule allows have such records, on a machine with a cache
abbrev pub MakeHistories : (Setup → SystemState → Act → Type 0) → Type 0
MakeHistories May =
    (s : Setup) (m : Machine) (cache : CacheOn s m) (acts : List Act)
    → EachMay (May s) s (system_at s m cache) acts
    → MakesHistory s cache.past acts (after_acts s (system_at s m cache) acts)

-- so do acts of any commands, if each step has what its law asks
abbrev pub SystemsMakeHistories : Type 0
SystemsMakeHistories = MakeHistories MayAct
