-- What a user says about a loss of power.
use Rattle.std.specs.{Prelude.{◌≡◌, ℕ, List, None, Some, Ok, Vec, Result, IfOk, MatchResult}, Global.{Global}}
use Rattle.cacache.specs.{Calls.{Error}, Entries.{Entry}, Histories.{AnsweredPut, DurablePut, FewCalls, GoElsewhere, History, IsLast, IsLegal, LeadsToDigest, LeadsUnchanged, LeftBy, Loss, Names, NoneAnswers, OnlyLinksIn, Put, Record, StandsBefore, StandsIn, StoresDurably, Tree, address_of_put, digest, followed_by, home, names_of}, Laws.{IsReady, OutOfMemory, tree_of}, Stores.{LogItem}}
use Rattle.uses_worlds.specs.declared.losing.Reads.{Reads}

-- bytes with the digest of the put's, unless memory was refused
abbrev pub GivesPut : Put → Result (Vec ℕ Global) Error → Type 0
GivesPut p r =
    MatchResult r (λ v. digest p.options.algorithm v.items ≡ digest p.options.algorithm p.data)
    (λ e. e ≡ OutOfMemory)

-- what a durable put that answered stored is read after a loss of power, if in what is left no entry after its own
-- answers to its key
abbrev pub Survives : History → Loss → List ℕ → Result (Vec ℕ Global) Error → Type 0
Survives h loss key r =
    (folder : Names) (p : Put) → home h.setup ≡ Some folder → DurablePut h folder p
    → p.key ≡ Some key → p.options.integrity ≡ None
    → (left : Tree) × LeftBy h loss left × (more : List Entry)
    × StandsBefore h.setup.cache key p more left × (NoneAnswers key more → GivesPut p r)

-- it is read without asking what is left, if nobody appended to the key's bucket after its entry
abbrev pub SurvivesAlone : History → List ℕ → Result (Vec ℕ Global) Error → Type 0
SurvivesAlone h key r =
    (folder : Names) (p : Put) → home h.setup ≡ Some folder → (put : DurablePut h folder p)
    → p.key ≡ Some key → p.options.integrity ≡ None
    → IsLast h folder put.rest put.call.caller key p → GivesPut p r

-- so it is whatever was at the address of its content, if a link there led to a file that no step of the history
-- changed
abbrev pub LinkSurvives : History → List ℕ → Result (Vec ℕ Global) Error → Type 0
LinkSurvives h key r =
    (folder : Names) (p : Put) → home h.setup ≡ Some folder → (put : AnsweredPut h folder p)
    → p.key ≡ Some key → p.options.integrity ≡ None
    → LeadsUnchanged h put.before (address_of_put p)
    → IsLast h folder put.rest put.call.caller key p → GivesPut p r

-- it is read without asking about links, if no call of the history exports or removes
abbrev pub LinkedSurvives : History → List ℕ → Result (Vec ℕ Global) Error → Type 0
LinkedSurvives h key r =
    (folder : Names) (p : Put) → OnlyLinksIn h.records → home h.setup ≡ Some folder
    → (put : AnsweredPut h folder p) → p.key ≡ Some key → p.options.integrity ≡ None
    → IsLast h folder put.rest put.call.caller key p → GivesPut p r

-- ---- writes after a loss

-- what a loss leaves is ready for a write: the cache's text names a folder, and no temporary file is
-- left in it
abbrev pub LeavesReady : History → Loss → Type 0
LeavesReady h loss =
    (log : List LogItem) → LeftBy h loss (tree_of log) → IsReady h.setup.cache log

-- the first read gives what was written
abbrev pub GivesWritten : List ℕ → Result Reads Error → Type 0
GivesWritten added r = IfOk r (λ reads. reads.since.items ≡ added)

-- the second one gives what a durable put stored before under another key, where nobody appended to that
-- key's bucket behind its entry: bytes with the digest of the put's. Where what is left is ready for a
-- write, only memory fails the write and the reads
abbrev pub GoesOn : History → Loss → List ℕ → List ℕ → Result Reads Error → Type 0
GoesOn h loss written key r =
    (folder : Names) (p : Put) → home h.setup ≡ Some folder → (put : DurablePut h folder p)
    → p.key ≡ Some key → p.options.integrity ≡ None
    → IsLast h folder put.rest put.call.caller key p → (key ≡ written → ⊥)
    → MatchResult r
    (λ reads. digest p.options.algorithm reads.before.items ≡ digest p.options.algorithm p.data)
    (λ e. LeavesReady h loss → e ≡ OutOfMemory)

-- ---- histories that this is about

-- each loss of a legal history leaves the key leading to bytes with the digest of the put's
abbrev pub LosesNothing : History → List ℕ → Put → Type 0
LosesNothing h key p =
    IsLegal h → FewCalls h → (loss : Loss) (log : List LogItem) → LeftBy h loss (tree_of log)
    → LeadsToDigest h.setup.cache key p log

-- so does some history of each durable put that expects nothing, whatever goes elsewhere after it
abbrev pub SomeSurvive : Type 0
SomeSurvive =
    (cache : List ℕ) (folder : Names) (key : List ℕ) (p : Put) → names_of cache ≡ Ok folder
    → StoresDurably cache key p
    → StandsIn cache (λ h. (more : List Record) → GoElsewhere h folder key p more
    → LosesNothing (followed_by h more) key p)
