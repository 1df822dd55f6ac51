-- What a walk answers after it gave some items, and that a listing names no key twice.
use Rattle.std.proofs.{Common.{rules, ◌≡◌, ◌≤◌, ◌<◌, ◌+◌, ◌-◌, ℕ, Bool, true, false, cond, ◌||◌, List, [], ◌∷◌, ◌++◌, length, take, nat_lt, refl, ap, ◌∙◌, arith, append_assoc, append-nil, inr, Option, None, Some, option_map, filter_map, map, Result, Ok, Err, sym, subst}, lemmas.{Grind.{common_steps}, List.Elements.{All-nil, All-append, All-head, All-tail, All-weaker}}}
use Rattle.std.specs.{Prelude.{All}, List.{cons_option}}
use Rattle.cacache_calls.specs.{Answers.{names_in}, Replies.{too_deep, by_folder, In, Distinct, keys_of}, State.{Item}, Walking.{most, once, items_of}, declared.answers.Refusal.{Refusal}, Steps.{bucket_path}}
use Rattle.cacache_calls.proofs.Keys.{each_key_once}
use Rattle.cacache_history.specs.{History.{Turn}, ListingTurns.{count_in, names_given, TurnGives, TurnsGive, NoneTwice, OtherKey, NoKeyTwice}, Setup.{Setup}, Turns.{EachTurn, entries_at, shown_result, bucket_read, by_entries}}
use Rattle.cacache_history.proofs.Entries.{Owned.{OfBucket, latest_key, once_all, all_keys}, Bucketed.{KeyedTurn}}
use Rattle.sha1.specs.Sha1.{sha1}
use Rattle.cacache_core.specs.Paths.{joined, bucket_names_of}
use Rattle.cacache_store.specs.{declared.store.answer.Name.{Name}, Plain.{PlainStep, PlainAnswer}}
use Rattle.cacache_entry.specs.{Entry.{Entry}, Bucket.{Found, latest}}
use Rattle.cacache_core.specs.declared.errors.Fault.TheVariants as faults
use Rattle.cacache_store.specs.declared.store.answer.Answer.TheVariants as answers
use Rattle.cacache_store.specs.declared.store.step.Step.TheVariants as steps
use Rattle.cacache_calls.specs.declared.answers.Refusal.TheVariants as refusals

-- ---- tests on numbers

not_lt : (a b : ℕ) → b ≤ a → nat_lt a b ≡ false
not_lt a b le = search rules

pub is_lt : (a b : ℕ) → a < b → nat_lt a b ≡ true
is_lt a b lt = search rules

less_left : (left n m : ℕ) → n ≤ left → nat_lt (left - n) m ≡ nat_lt left (n + m)
less_left left n m le = search (rules, is_lt, not_lt)

-- ---- what a walk answers after it gave these items, if it may still take so many names

abbrev pub far : List Item → ℕ → List Turn → List Item → Bool
far front left turns items = nat_lt left (names_given turns) || nat_lt most (length (front ++ items))

abbrev pub ended : List Item → ℕ → List Turn → List Item → List Item
ended front left turns items =
    cond (far front left turns items) (take most (front ++ items) ++ too_deep ∷ []) (front ++ items)

-- a walk that took and gave nothing more
pub ended_now : (front : List Item) (left : ℕ) → length front ≤ most → ended front left [] [] ≡ front
ended_now front left le = rw (append-nil front, not_lt left 0 (omega arith), not_lt most (length front) le) refl

pub far_more : (front new : List Item) (left n : ℕ) (turn : Turn) (turns : List Turn) (items : List Item) → n ≡ count_in (names_in turn.move.answer) → n ≤ left
    → far (front ++ new) (left - n) turns items ≡ far front left (turn ∷ turns) (new ++ items)
far_more front new left n turn turns items is le =
    ap (λ l. nat_lt (left - n) (names_given turns) || nat_lt most (length l)) (append_assoc front new items)
    ∙ ap (λ b. b || nat_lt most (length (front ++ (new ++ items)))) (less_left left n (names_given turns) le ∙ ap (λ m. nat_lt left (m + names_given turns)) is)

-- a turn that gave these names and items
pub ended_more : (front new : List Item) (left n : ℕ) (turn : Turn) (turns : List Turn) (items : List Item) → n ≡ count_in (names_in turn.move.answer) → n ≤ left
    → ended (front ++ new) (left - n) turns items ≡ ended front left (turn ∷ turns) (new ++ items)
ended_more front new left n turn turns items is le =
    ap (λ l. cond (far (front ++ new) (left - n) turns items) (take most l ++ too_deep ∷ []) l) (append_assoc front new items)
    ∙ ap (λ b. cond b (take most (front ++ (new ++ items)) ++ too_deep ∷ []) (front ++ (new ++ items))) (far_more front new left n turn turns items is le)

-- ---- one bucket

-- an entry's key has this bucket, or another one
abbrev OfKey : List ℕ → Item → Type 0
OfKey key (Ok f) = sha1 f.key ≡ sha1 key
OfKey key (Err e) = Unit {0}

abbrev OtherSha : List ℕ → Item → Type 0
OtherSha key (Ok f) = sha1 f.key ≡ sha1 key → ⊥
OtherSha key (Err e) = Unit {0}

module _ (es : List Entry) where
  key_of : (key k : List ℕ) → sha1 k ≡ sha1 key → (o : Option Found) → latest k es ≡ o → (rest : List Item) → All (OfKey key) rest → All (OfKey key) (cons_option (option_map Ok o) rest)
  key_of key k own o is rest h = grind (arith, latest_key)

  keys_of_bucket : (key : List ℕ) (ks : List (List ℕ)) → All (λ k. sha1 k ≡ sha1 key) ks → All (OfKey key) (filter_map (λ k. option_map Ok (latest k es)) ks)
  keys_of_bucket key [] all = All-nil (OfKey key)
  keys_of_bucket key (k ∷ ks) all =
      key_of key k (All-head (λ j. sha1 j ≡ sha1 key) k ks all) (latest k es) refl (filter_map (λ j. option_map Ok (latest j es)) ks)
      (keys_of_bucket key ks (All-tail (λ j. sha1 j ≡ sha1 key) k ks all))

  items_of_bucket : (key : List ℕ) → All (OfBucket key) es → All (OfKey key) (items_of es)
  items_of_bucket key all = keys_of_bucket key (once (map (λ e. e.key) es)) (once_all (λ k. sha1 k ≡ sha1 key) (map (λ e. e.key) es) (all_keys key es all))

  other_at : (key k j : List ℕ) (js : List (List ℕ)) → key ≡ k → (In k (j ∷ js) → ⊥) → (o : Option Found) → latest j es ≡ o → (rest : List Item) → All (OtherKey key) rest
      → All (OtherKey key) (cons_option (option_map Ok o) rest)
  other_at key k j js same none o is rest h = grind (arith, latest_key)

  others : (key k : List ℕ) (ks : List (List ℕ)) → key ≡ k → (In k ks → ⊥) → All (OtherKey key) (filter_map (λ j. option_map Ok (latest j es)) ks)
  others key k [] same none = All-nil (OtherKey key)
  others key k (j ∷ js) same none = other_at key k j js same none (latest j es) refl (filter_map (λ i. option_map Ok (latest i es)) js) (others key k js same (λ i. none (inr i)))

  once_at : (k : List ℕ) (ks : List (List ℕ)) → (In k ks → ⊥) → (o : Option Found) → latest k es ≡ o → NoKeyTwice (filter_map (λ j. option_map Ok (latest j es)) ks)
      → NoKeyTwice (cons_option (option_map Ok o) (filter_map (λ j. option_map Ok (latest j es)) ks))
  once_at k ks none None is h = h
  once_at k ks none (Some f) is h = (others f.key k ks (latest_key k es f is) none, h)

  keys_once : (ks : List (List ℕ)) → Distinct ks → NoKeyTwice (filter_map (λ k. option_map Ok (latest k es)) ks)
  keys_once [] d = tt
  keys_once (k ∷ ks) d = once_at k ks d.0 (latest k es) refl (keys_once ks d.1)

  items_once : NoKeyTwice (items_of es)
  items_once = keys_once (once (keys_of es)) (each_key_once es).0

refused_of : (key : List ℕ) (refusal : Refusal) → All (OfKey key) (by_entries (Err refusal))
refused_of key refusal = grind (arith, common_steps)

refused_once : (refusal : Refusal) → NoKeyTwice (by_entries (Err refusal))
refused_once refusal = grind (arith, common_steps)

bucket_of : (key : List ℕ) (es : List Entry) (a : PlainAnswer) → All (OfBucket key) es → All (OfKey key) (by_entries (shown_result a (Ok es)))
bucket_of key es (answers.Failed faults.NotFound) all = items_of_bucket es key all
bucket_of key es (answers.Failed fault) all = refused_of key (refusals.Fault fault)
bucket_of key es (answers.NoMemory step) all = refused_of key refusals.Memory
bucket_of key es other all = items_of_bucket es key all

bucket_once : (es : List Entry) (a : PlainAnswer) → NoKeyTwice (by_entries (shown_result a (Ok es)))
bucket_once es a = grind (arith, items_once, refused_once)

-- ---- many turns

folder_other : (key : List ℕ) (a : Result (List Name) Refusal) → All (OtherSha key) (by_folder a)
folder_other key a = grind (arith, common_steps)

folder_once : (a : Result (List Name) Refusal) (rest : List Item) → NoKeyTwice rest → NoKeyTwice (by_folder a ++ rest)
folder_once a rest h = grind (arith, common_steps)

other_weaker : (key other : List ℕ) → (sha1 other ≡ sha1 key → ⊥) → (item : Item) → OfKey other item → OtherSha key item
other_weaker key other differ item own = grind (arith, common_steps)

key_weaker : (key : List ℕ) (f : Found) → sha1 f.key ≡ sha1 key → (item : Item) → OtherSha key item → OtherKey f.key item
key_weaker key f own item other = grind (arith, common_steps)

append_once : (key : List ℕ) (first rest : List Item) → All (OfKey key) first → All (OtherSha key) rest → NoKeyTwice first → NoKeyTwice rest → NoKeyTwice (first ++ rest)
append_once key [] rest own other h k = k
append_once key (Ok f ∷ first) rest own other h k = (
  All-append (OtherKey f.key) first rest h.0 (All-weaker (OtherSha key) (OtherKey f.key) (key_weaker key f (All-head (OfKey key) (Ok f) first own)) rest other),
  append_once key first rest (All-tail (OfKey key) (Ok f) first own) other h.1 k,
)
append_once key (Err e ∷ first) rest own other h k = append_once key first rest (All-tail (OfKey key) (Err e) first own) other h k

module _ (s : Setup) where
  same_path : (key other : List ℕ) → sha1 other ≡ sha1 key → bucket_path s.cache other ≡ bucket_path s.cache key
  unfolding bucket_path
  same_path key other e = ap (λ d. joined s.cache (bucket_names_of d)) e

  turn_other : (key : List ℕ) (turn : Turn) (step : PlainStep) (items : List Item) → KeyedTurn s turn → (step ≡ steps.ReadAll (bucket_path s.cache key) → ⊥) → TurnGives s turn step items → All (OtherSha key) items
  turn_other key turn (steps.ReadDir p) items keyed differ g = subst (All (OtherSha key)) (sym g.1) (folder_other key (names_in turn.move.answer))
  turn_other key turn (steps.ReadAll p) items keyed differ g =
      subst (All (OtherSha key)) (sym g.2)
      (All-weaker (OfKey g.0) (OtherSha key) (other_weaker key g.0 (λ e. differ (ap steps.ReadAll (g.1 ∙ same_path key g.0 e)))) (by_entries (bucket_read s (sha1 g.0) turn))
      (bucket_of g.0 (entries_at s (sha1 g.0) turn) turn.move.answer (keyed.own g.0)))
  turn_other key turn step items keyed differ g = absurd g

  later_other : (key : List ℕ) (turn : Turn) (turns : List Turn) (items : List Item) → turn.move.step ≡ steps.ReadAll (bucket_path s.cache key) → EachTurn (λ later. later.move.step ≡ turn.move.step → ⊥) turns
      → EachTurn (KeyedTurn s) turns → TurnsGive s turns items → All (OtherSha key) items
  later_other key turn [] items is differ keyed g = subst (All (OtherSha key)) (sym g) (All-nil (OtherSha key))
  later_other key turn (t ∷ turns) items is differ keyed g =
      subst (All (OtherSha key)) (sym g.2)
      (All-append (OtherSha key) g.0 g.1 (turn_other key t t.move.step g.0 keyed.0 (λ e. differ.0 (e ∙ sym is)) g.3) (later_other key turn turns g.1 is differ.1 keyed.1 g.4))

  turn_once : (turn : Turn) (step : PlainStep) (turns : List Turn) (first rest : List Item) → turn.move.step ≡ step → KeyedTurn s turn → EachTurn (KeyedTurn s) turns → EachTurn (λ later. later.move.step ≡ turn.move.step → ⊥) turns
      → TurnGives s turn step first → TurnsGive s turns rest → NoKeyTwice rest → NoKeyTwice (first ++ rest)
  turn_once turn (steps.ReadDir p) turns first rest is keyed more differ g gs h = subst (λ l. NoKeyTwice (l ++ rest)) (sym g.1) (folder_once (names_in turn.move.answer) rest h)
  turn_once turn (steps.ReadAll p) turns first rest is keyed more differ g gs h =
      subst (λ l. NoKeyTwice (l ++ rest)) (sym g.2)
      (append_once g.0 (by_entries (bucket_read s (sha1 g.0) turn)) rest (bucket_of g.0 (entries_at s (sha1 g.0) turn) turn.move.answer (keyed.own g.0))
      (later_other g.0 turn turns rest (is ∙ ap steps.ReadAll g.1) differ more gs) (bucket_once (entries_at s (sha1 g.0) turn) turn.move.answer) h)
  turn_once turn step turns first rest is keyed more differ g gs h = absurd g

  pub no_key_twice : (turns : List Turn) (items : List Item) → EachTurn (KeyedTurn s) turns → NoneTwice turns → TurnsGive s turns items → NoKeyTwice items
  no_key_twice [] items keyed none g = subst NoKeyTwice (sym g) tt
  no_key_twice (turn ∷ turns) items keyed none g =
      subst NoKeyTwice (sym g.2)
      (turn_once turn turn.move.step turns g.0 g.1 refl keyed.0 keyed.1 none.0 g.3 g.4 (no_key_twice turns g.1 keyed.1 none.1 g.4))
