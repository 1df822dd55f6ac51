-- A walk that took an entry from a bucket: the bucket lists one. A bucket that lists one and has one line has no odd line.
use Rattle.std.proofs.{Common.{◌≡◌, ◌+◌, ◌≤◌, ℕ, zero, suc, List, [], ◌∷◌, ◌++◌, Bool, true, false, cond, nat_le, Option, None, Some, Ok, filter_map, length, map, option_map, take, refl, ap, subst, ◌∙◌, append-nil, arith}, lemmas.{List.{length-map}, Option.{slice_get_past}}}
use Rattle.std.specs.List.{cons_option, list_any}
use Rattle.cacache_core.specs.declared.errors.{Error.{Error}, Fault.{Fault, TheVariants.{TooDeep}}}
use Rattle.cacache_store.specs.Plain.{PlainAnswer}
use Rattle.cacache_store.specs.declared.store.answer.Answer.TheVariants as answers
use Rattle.cacache_entry.specs.{Entry.{Entry}, Bucket.{entries_of, latest}}
use Rattle.cacache_calls.specs.{declared.{reply.Reply.TheVariants.{Done, Listed, Refused}, visit.{Visit.{Visit, TheVariants.{ReadBucket}}, Task.{Task, TheVariants.{Make, Stumble}}}}, Common.{fails}, Runs.{plain_item}, State.{Item, State, Walk, over, walking}, Walking.{after_visit, failed, give, items_in, most, once, visit_step, walk_on}}
use Rattle.cacache_walks.specs.{declared.walk.Walk.{Walk as Walked}, WalkStates.{WalksAt, walk_of}}
use Rattle.cacache_laws.specs.trees.Compacting.{Line, decision, is_odd, lines_of}
use Rattle.cacache_laws.proofs.trees.Compactions.{CompactAnswers.{found_as, latest_is, ours, undecided}, CompactLines.{ArePieces, pieces_are, texts}, CompactTwice.{after, in_bytes}}
use Rattle.cacache_keep.specs.{Checking.{bucket_read, has_odd}, Walking.{IsTold, entry_at}}

-- ---- places without an entry

past_end : (n : ℕ) (items : List Item) → length items ≤ n → entry_at items n ≡ false
past_end n items h = rw (slice_get_past items n h) refl

none_more : (n : ℕ) (items : List Item) (fault : Fault) → entry_at items n ≡ false → entry_at (items ++ failed fault ∷ []) n ≡ false
none_more zero [] fault e = refl
none_more (suc n) [] fault e = refl
none_more zero (i ∷ items) fault e = e
none_more (suc n) (i ∷ items) fault e = none_more n items fault e

none_less : (n m : ℕ) (items : List Item) → entry_at items n ≡ false → entry_at (take m items) n ≡ false
none_less n zero items e = refl
none_less n (suc m) [] e = refl
none_less zero (suc m) (i ∷ items) e = e
none_less (suc n) (suc m) (i ∷ items) e = none_less n m items e

-- ---- a walk that goes on without an entry there

module _ (n : ℕ) (u : Walked) (next : Option Visit) where
  abbrev taken : List Item
  taken = map plain_item u.items.items

  abbrev NotDone : State → Type 0
  NotDone s = s ≡ over Done → ⊥

  over_none : (items : List Item) → entry_at items n ≡ false → WalksAt [] u next (over (Listed items)) → entry_at taken n ≡ false
  over_none items e h = by next h
    where
      at_end : (b : Bool) → over (Listed items) ≡ cond b (over Done) (over (Listed taken)) → entry_at taken n ≡ false
      at_end true is = cc
      at_end false is = let same : items ≡ taken = cc in subst (λ (l : List Item). entry_at l n ≡ false) same e

      by : (o : Option Visit) → WalksAt [] u o (over (Listed items)) → entry_at taken n ≡ false
      by None k = at_end u.clears k.1
      by (Some v) k = let wrong = k.1 in cc

  refused_none : (e : Error) → WalksAt [] u next (over (Refused e)) → ⊥
  refused_none e h = by next h
    where
      at_end : (b : Bool) → over (Refused e) ≡ cond b (over Done) (over (Listed taken)) → ⊥
      at_end true is = cc
      at_end false is = cc

      by : (o : Option Visit) → WalksAt [] u o (over (Refused e)) → ⊥
      by None k = at_end u.clears k.1
      by (Some v) k = let wrong = k.1 in cc

  make_none : (w : Walk) (v : Visit) (todo : List Task) → entry_at w.items n ≡ false → WalksAt [] u next (walking w v todo) → entry_at taken n ≡ false
  make_none w v todo e h = by next h
    where
      at_end : (b : Bool) → walking w v todo ≡ cond b (over Done) (over (Listed taken)) → entry_at taken n ≡ false
      at_end true is = cc
      at_end false is = cc

      by : (o : Option Visit) → WalksAt [] u o (walking w v todo) → entry_at taken n ≡ false
      by None k = at_end u.clears k.1
      by (Some x) k = let wants = k.1 in let same : w ≡ walk_of [] u = cc in subst (λ (y : Walk). entry_at y.items n ≡ false) same e

  -- what a walk gives if there is room for the items, and if not, by whether it clears
  abbrev given : Walk → List Item → (Walk → State) → Bool → Bool → State
  given w items go room clears = cond room (go (record w { items = w.items ++ items })) (cond clears (fails TooDeep) (over (Listed (take most (w.items ++ items) ++ failed TooDeep ∷ []))))

  give_none : (w : Walk) (items : List Item) (go : Walk → State) → entry_at (w.items ++ items) n ≡ false
      → ((x : Walk) → entry_at x.items n ≡ false → NotDone (go x) → WalksAt [] u next (go x) → entry_at taken n ≡ false)
      → NotDone (give w items go) → WalksAt [] u next (give w items go) → entry_at taken n ≡ false
  give_none w items go e rest = by (nat_le (length w.items + length items) most) w.clears
    where
      by : (room clears : Bool) → NotDone (given w items go room clears) → WalksAt [] u next (given w items go room clears) → entry_at taken n ≡ false
      by true clears not_done h = rest (record w { items = w.items ++ items }) e not_done h
      by false true not_done h = absurd (refused_none _ h)
      by false false not_done h =
          over_none (take most (w.items ++ items) ++ failed TooDeep ∷ []) (none_more n (take most (w.items ++ items)) TooDeep (none_less n most (w.items ++ items) e)) h

  walk_none : (todo : List Task) (w : Walk) → entry_at w.items n ≡ false → NotDone (walk_on todo w) → WalksAt [] u next (walk_on todo w) → entry_at taken n ≡ false
  walk_none [] w e = by w.clears
    where
      by : (b : Bool) → NotDone (cond b (over Done) (over (Listed w.items))) → WalksAt [] u next (cond b (over Done) (over (Listed w.items))) → entry_at taken n ≡ false
      by true not_done h = absurd (not_done refl)
      by false not_done h = over_none w.items e h
  walk_none (Make v ∷ todo) w e = λ not_done h. make_none w v todo e h
  walk_none (Stumble fault path ∷ todo) w e = by (λ x. walk_none todo x) w.clears
    where
      by : ((x : Walk) → entry_at x.items n ≡ false → NotDone (walk_on todo x) → WalksAt [] u next (walk_on todo x) → entry_at taken n ≡ false) → (b : Bool)
          → NotDone (cond b (fails fault) (give w (failed fault ∷ []) (walk_on todo))) → WalksAt [] u next (cond b (fails fault) (give w (failed fault ∷ []) (walk_on todo))) → entry_at taken n ≡ false
      by rest true not_done h = absurd (refused_none _ h)
      by rest false not_done h = give_none w (failed fault ∷ []) (walk_on todo) (none_more n w.items fault e) rest not_done h

-- ---- a bucket that was read

-- a bucket that lists nothing gives no entry
listed_none : (w u : Walked) (next : Option Visit) (todo : List Task) (p bytes : List ℕ) → items_in bytes ≡ [] → (after_visit (walk_of [] w) (ReadBucket p) todo (answers.Bytes bytes) ≡ over Done → ⊥)
    → WalksAt [] u next (after_visit (walk_of [] w) (ReadBucket p) todo (answers.Bytes bytes)) → entry_at (map plain_item u.items.items) (length w.items.items) ≡ false
listed_none w u next todo p bytes none not_done h =
    let own = map plain_item w.items.items in
    let within : length own ≤ length w.items.items = omega (arith, length-map w.items.items plain_item) in
    let before : entry_at (own ++ items_in bytes) (length w.items.items) ≡ false = rw (none, append-nil own) (past_end (length w.items.items) own within) in
    give_none (length w.items.items) u next (walk_of [] w) (items_in bytes) (walk_on todo) before (walk_none (length w.items.items) u next todo) not_done h

-- an entry at the place of the next item is the bucket's
pub told : (w u : Walked) (next : Option Visit) (todo : List Task) (v : Visit) (t : PlainAnswer) (lists : Bool) → (after_visit (walk_of [] w) v todo t ≡ over Done → ⊥)
    → WalksAt [] u next (after_visit (walk_of [] w) v todo t) → lists ≡ entry_at (map plain_item u.items.items) (length w.items.items) → IsTold lists (bucket_read (visit_step v) t)
told w u next todo (ReadBucket p) (answers.Bytes bytes) lists not_done h is = λ yes none. let no = listed_none w u next todo p bytes none not_done h in cc
told w u next todo v t lists not_done h is = tt

-- ---- one line

no_items : (item : List ℕ → Option Item) (keys : List (List ℕ)) → ((key : List ℕ) → item key ≡ None) → filter_map item keys ≡ []
no_items item [] none = refl
no_items item (k ∷ keys) none = ap (λ (o : Option Item). cons_option o (filter_map item keys)) (none k) ∙ no_items item keys none

-- an odd line alone lists nothing
odd_alone : (x t : List ℕ) → lines_of x ≡ (t, None) ∷ [] → items_in x ≡ []
unfolding items_in
odd_alone x t is = no_items (λ key. option_map Ok (latest key (entries_of x))) (once (map (λ (e : Entry). e.key) (entries_of x))) (λ key. ap (option_map Ok) (lost key))
  where
    lost : (key : List ℕ) → latest key (entries_of x) ≡ None
    lost key =
        latest_is key x ∙ ap found_as (in_bytes decision ours key x ∙ ap (λ (ls : List Line). after decision ours key None (texts ls)) is
        ∙ undecided key ((t, None) ∷ []) None (subst ArePieces is (pieces_are x)) refl)

-- one line of a bucket that lists something isn't odd
pub one_line : (x : List ℕ) → length (lines_of x) ≤ 1 → (items_in x ≡ [] → ⊥) → has_odd x ≡ false
one_line x few lists = by (lines_of x) refl few
  where
    by : (ls : List Line) → lines_of x ≡ ls → length ls ≤ 1 → list_any is_odd ls ≡ false
    by [] is h = refl
    by ((t, Some d) ∷ []) is h = refl
    by ((t, None) ∷ []) is h = absurd (lists (odd_alone x t is))
    by (l ∷ m ∷ ls) is h = absurd (omega arith)
