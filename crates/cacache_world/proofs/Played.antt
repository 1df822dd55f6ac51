-- One more event, and what a loss of power leaves of a world's disk.
use Rattle.std.proofs.{Common.{◌≡◌, ◌<◌, ◌+◌, ℕ, zero, suc, List, [], ◌∷◌, ◌++◌, Some, take, length, get_or, slice_get, refl, sym, ap, subst, ◌∙◌, arith, None, Ok}, lemmas.List.{take_more}}
use Rattle.std.specs.Prelude.{IfOk, Result, Err}
use Rattle.cacache_history.specs.{History.{History, IsLegal, initial, tree_in}, declared.record.Record.{Record, TheVariants.{Began, Moved, Stopped}}, Setup.{home}, Values.{steps_of}}
use Rattle.cacache_history.proofs.Histories.{Holding.{first_holds, first_opens}, Values.{traced}}
use Rattle.cacache_world.specs.{declared.event.{Event.{Event}, WorldFault.{WorldFault}}, Played.{Happens, HappenAll, CantBe, StopAt, LeftBy}, WorldKept.{history_of, setup_of}}
use Rattle.cacache_core.specs.Paths.{home_of}
use Rattle.cacache_disk.specs.Tree.{Rooted, Tree, bare}
use Rattle.cacache_value.specs.{Placed.{with_files}, Acts.{Move}}
use Rattle.cacache_loss.specs.{declared.loss.Loss.{Loss}, ChangedNames.{opening}, Running.{chosen}, Loss.{Lost}, Moments.{Moment, after, next}}
use Rattle.cacache_loss.proofs.ChangedNames.{histories_leave_caches}

happen_more : (events : List Event) (event : Event) (h m h' : History) → HappenAll events h m → Happens event m h' → HappenAll (events ++ event ∷ []) h h'
happen_more [] event h m h' all one = (h', subst (λ x. Happens event x h') all one, refl)
happen_more (e ∷ events) event h m h' all one = (all.0, all.1, happen_more events event all.0 m h' all.2 one)

-- the event at a place comes after those before it
pub play_more : (events : List Event) (k : ℕ) (event : Event) (h m h' : History) → k < length events → event ≡ get_or events k event → HappenAll (take k events) h m → Happens event m h'
    → HappenAll (take (k + 1) events) h h'
play_more events k event h m h' below is all one =
    let taken : take (k + 1) events ≡ take k events ++ event ∷ [] = take_more events k event below ∙ ap (λ (e : Event). take k events ++ e ∷ []) (sym is) in
    subst (λ es. HappenAll es h h') (sym taken) (happen_more (take k events) event h m h' all one)

-- ---- the end of playing

-- the item at a place of a list
found_at : (events : List Event) (k : ℕ) (event other : Event) → k < length events → event ≡ get_or events k other → slice_get events k ≡ Some event
found_at [] k event other below is = absurd (omega arith)
found_at (e ∷ events) zero event other below is = ap Some (sym is)
found_at (e ∷ events) (suc k) event other below is = found_at events k event other (omega arith) is

pub stops_at : (events : List Event) (k : ℕ) (event : Event) (h m h' : History) (fault : WorldFault) → k < length events → event ≡ get_or events k event → HappenAll (take k events) h m
    → h' ≡ m → CantBe event m fault → StopAt events h h' fault
stops_at events k event h m h' fault below is all same cant =
    (k, event, found_at events k event event below is, subst (HappenAll (take k events) h) (sym same) all, subst (λ x. CantBe event x fault) (sym same) cant)

-- ---- one record after another

after_more : (now : Moment) (moves more : List Move) → after now (moves ++ more) ≡ after (after now moves) more
after_more now [] more = refl
after_more now (m ∷ moves) more = after_more (next now m) moves more

steps_more : (records more : List Record) → steps_of (records ++ more) ≡ steps_of records ++ steps_of more
steps_more [] more = refl
steps_more (Began caller command ∷ records) more = steps_more records more
steps_more (Moved caller luck None reply ∷ records) more = steps_more records more
steps_more (Moved caller luck (Some made) reply ∷ records) more =
    ap (λ (ms : List Move). record { step = made.0; luck = luck; answer = made.1 } ∷ ms) (steps_more records more)
steps_more (Stopped caller ∷ records) more = steps_more records more

pub record_more : (now later : Moment) (records : List Record) (i : ℕ) (r : Record) → i < length records → r ≡ get_or records i r
    → now ≡ after later (steps_of (take i records)) → (new : Moment) → new ≡ after now (steps_of (r ∷ []))
    → new ≡ after later (steps_of (take (i + 1) records))
record_more now later records i r below is so new made =
    made ∙ ap (λ n. after n (steps_of (r ∷ []))) so
    ∙ sym (after_more later (steps_of (take i records)) (steps_of (r ∷ [])))
    ∙ ap (after later) (sym (steps_more (take i records) (r ∷ [])))
    ∙ ap (λ rs. after later (steps_of rs)) (ap (λ (x : Record). take i records ++ x ∷ []) is ∙ sym (take_more records i r below))

-- ---- a tree of a cache is left

pub left_rooted : (h : History) (loss : Loss) (t : Tree) → IsLegal h → LeftBy h loss t → Rooted t
left_rooted h loss t legal left =
    let opens = first_opens h legal in
    let trace = (traced h.setup legal.apart (initial h.setup) h.records legal.legal (first_holds h legal)).trace in
    let cache = histories_leave_caches (home h.setup) (initial h.setup).tree (steps_of h.records) (chosen loss.undone.items loss.tails.items) opens.placed opens.rooted trace in
    subst Rooted (sym (cache.one.only t left)) cache.rooted

-- what is left of the moment after all records is left of their history
pub lost_left : {E : Type 0} (cache : List ℕ) (outside : List (List ℕ × List ℕ)) (records : List Record) (loss : Loss) (disk : Tree) (m : Moment) (r : Result Tree E)
    → with_files bare outside ≡ Ok disk → m ≡ after (opening disk) (steps_of records)
    → IfOk r (λ t. Lost (home_of cache) m.tree m.fixed (chosen loss.undone.items loss.tails.items) t)
    → IfOk r (λ t. (callers : ℕ) → LeftBy (history_of (setup_of cache outside callers) records) loss t)
lost_left cache outside records loss disk m (Ok t) opens is left = λ callers.
    subst (λ (n : Moment). Lost (home_of cache) n.tree n.fixed (chosen loss.undone.items loss.tails.items) t)
    (is ∙ ap (λ d. after (opening d) (steps_of records)) (sym (ap tree_in opens))) left
lost_left cache outside records loss disk m (Err e) opens is left = tt

-- what is left of the parts of a history is left of the history
pub told_left : (cache cache' : List ℕ) (outside outside' : List (List ℕ × List ℕ)) (records records' : List Record) (callers : ℕ) (loss : Loss) (t : Tree)
    → cache' ≡ cache → outside' ≡ outside → records' ≡ records
    → ((callers : ℕ) → LeftBy (history_of (setup_of cache' outside' callers) records') loss t)
    → LeftBy (history_of (setup_of cache outside callers) records) loss t
told_left cache cache' outside outside' records records' callers loss t same_cache same_outside same_records left =
    subst (λ c. LeftBy (history_of (setup_of c outside callers) records) loss t) same_cache
    (subst (λ o. LeftBy (history_of (setup_of cache' o callers) records) loss t) same_outside
    (subst (λ r. LeftBy (history_of (setup_of cache' outside' callers) r) loss t) same_records (left callers)))
