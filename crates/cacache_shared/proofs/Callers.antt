-- In a legal history each record is one of the callers', so that their counts add up to all records.
use Rattle.std.proofs.{Common.{◌≡◌, ℕ, zero, suc, ◌+◌, ◌<◌, ◌≤◌, ◌==◌, List, [], ◌∷◌, ◌++◌, refl, sym, ◌∙◌, ap, subst, arith, length, Option, Some, None, Bool, true, false, cond}, lemmas.{Bool.{eqb-true, Decides.{nat_tests}}, List.Sums.{sum_by-cons}}}
use Rattle.std.specs.Prelude.{if◌then◌else◌, nat_lt, count_by}
use Rattle.cacache_history.specs.{declared.record.Record.{Record, TheVariants.{Began, Moved, Stopped}}, Setup.{Setup}, History.{History, Call, Now, IsLegal, Legal, now_after, initial, set_call}}
use Rattle.cacache_shared.specs.{Lines.{caller_of, is_record_of, records_of, is_move_of, moves_of}, Seats.{Taken, fresh_seat, fresh_seats}}

-- the records of the first callers
abbrev pub records_below : List Record → ℕ → ℕ
records_below rs zero = 0
records_below rs (suc n) = records_below rs n + records_of n rs

-- each call is one of the first n callers'
abbrev CallsBelow : ℕ → (ℕ → Option Call) → Type 0
CallsBelow n calls = (k : ℕ) (call : Call) → calls k ≡ Some call → k < n

set_below : (n c : ℕ) (new : Option Call) (calls : ℕ → Option Call) → c < n → CallsBelow n calls → CallsBelow n (set_call c new calls)
set_below n c new calls lt below k call e = by (k == c) refl e
  where
    by : (b : Bool) → (k == c) ≡ b → (if b then new else calls k) ≡ Some call → k < n
    by true same e = subst (λ j. j < n) (sym (eqb-true k c same)) lt
    by false same e = below k call e

one : (p : Record → Bool) (r : Record) (rs : List Record) → count_by p (r ∷ rs) ≡ cond (p r) 1 0 + count_by p rs
one p r rs = sum_by-cons (λ x. cond (p x) 1 0) r rs

empty : (n : ℕ) → records_below [] n ≡ 0
empty zero = refl
empty (suc n) = omega (arith, empty n)

-- a record is its caller's, and nobody else's
mine : (k : ℕ) (r : Record) (rs : List Record)
    → records_below (r ∷ rs) k ≡ (if nat_lt (caller_of r) k then records_below rs k + 1 else records_below rs k)
mine zero r rs = grind (arith, nat_tests)
mine (suc k) r rs =
    let a = mine k r rs in let b = one (is_record_of k) r rs in grind (arith, nat_tests, a, b)

-- one of the first callers' adds one
adds : (k : ℕ) (r : Record) (rs : List Record) → caller_of r < k → records_below (r ∷ rs) k ≡ records_below rs k + 1
adds k r rs lt = let m = mine k r rs in grind (arith, nat_tests, m, lt)

counted : (s : Setup) (w : Now) (rs : List Record) → CallsBelow s.callers w.calls → Legal s w rs → records_below rs s.callers ≡ length rs
counted s w [] below legal = empty s.callers
counted s w (Began c command ∷ rs) below legal =
    let more = counted s (now_after s w (Began c command)) rs (set_below s.callers c _ w.calls legal.0.0 below) legal.1 in
    let a = adds s.callers (Began c command) rs legal.0.0 in
    omega (arith, more, a)
counted s w (Stopped c ∷ rs) below legal =
    let lt : c < s.callers = below c legal.0.0 legal.0.1 in
    let more = counted s (now_after s w (Stopped c)) rs (set_below s.callers c None w.calls lt below) legal.1 in
    let a = adds s.callers (Stopped c) rs lt in
    omega (arith, more, a)
counted s w (Moved c luck made reply ∷ rs) below legal =
    let lt : c < s.callers = below c legal.0.0 legal.0.1 in
    let more = counted s (now_after s w (Moved c luck made reply)) rs (set_below s.callers c _ w.calls lt below) legal.1 in
    let a = adds s.callers (Moved c luck made reply) rs lt in
    omega (arith, more, a)

pub all_counted : (h : History) → IsLegal h → records_below h.records h.setup.callers ≡ length h.records
all_counted h legal = counted h.setup (initial h.setup) h.records (λ k call e. absurd cc) legal.legal

-- a caller's moves are among its records
pub moves_few : (c : ℕ) (rs : List Record) → moves_of c rs ≤ records_of c rs
moves_few c [] = omega arith
moves_few c (r ∷ rs) = by r (moves_few c rs) (one (is_move_of c) r rs) (one (is_record_of c) r rs)
  where
    by : (r : Record) → moves_of c rs ≤ records_of c rs
        → moves_of c (r ∷ rs) ≡ cond (is_move_of c r) 1 0 + moves_of c rs
        → records_of c (r ∷ rs) ≡ cond (is_record_of c r) 1 0 + records_of c rs
        → moves_of c (r ∷ rs) ≤ records_of c (r ∷ rs)
    by (Began b command) few m all = omega (arith, few, m, all)
    by (Moved b luck made reply) few m all = omega (arith, few, m, all)
    by (Stopped b) few m all = omega (arith, few, m, all)

-- ---- one caller more

pub below_more : (rs : List Record) (n : ℕ) → records_below rs (n + 1) ≡ records_below rs n + records_of n rs
below_more rs n = let next : n + 1 ≡ suc n = omega arith in ap (records_below rs) next

pub seats_more : (rs : List Record) (n : ℕ) → fresh_seats rs (n + 1) ≡ fresh_seats rs n ++ fresh_seat rs n ∷ []
seats_more rs n = let next : n + 1 ≡ suc n = omega arith in ap (fresh_seats rs) next

-- a seat that counts the caller's records and moves, and nothing else yet, is a fresh one
pub is_fresh : (rs : List Record) (n told moved : ℕ) (seat : Taken) → seat ≡ record { caller = n; records = told; count = moved; commands = []; replies = [] }
    → told ≡ records_of n rs → moved ≡ moves_of n rs → seat ≡ fresh_seat rs n
is_fresh rs n told moved seat is own moves =
    is ∙ ap (λ (x : ℕ). record { caller = n; records = x; count = moved; commands = []; replies = [] }) own
    ∙ ap (λ (x : ℕ). record { caller = n; records = records_of n rs; count = x; commands = []; replies = [] }) moves
