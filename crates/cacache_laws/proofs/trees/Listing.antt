-- A run of a listing reads each folder and each bucket that its walk comes to, and lists what they hold.
-- Two listings of one tree are the same.
use Rattle.std.proofs.{Common.{arith, rules, ◌≡◌, ◌⊎◌, inl, inr, ℕ, ◌+◌, ◌-◌, List, [], ◌∷◌, ◌++◌, Some, None, Bool, true, false, cond, nat_le, nat_lt, Result, Ok, Err, refl, ap, subst, ◌∙◌, length, take, append-nil, ap₂, sym}, lemmas.Grind.{common_steps}}
use Rattle.std.specs.{List.{AllByRecursion, Sorted.{IsStrictlySortedBy}}, declared.cmp.Ordering.{Ordering, TheVariants.{Less, Greater}}, Ordering.{ordering_reverse}, Cmp.{IsTotalOrder, nat_cmp_total, on_total, then_total, Lexicographic.{nat_list_cmp_total}}}
use Rattle.cacache_core.specs.{declared.{errors.{Fault.{Fault, TheVariants.{NotFound, TooDeep}}, Error.TheVariants.{OutOfMemory}}, integrity.digest.Hash.{Hash}}, Paths.{join}, Integrity.{rank}}
use Rattle.cacache_store.specs.{declared.store.{answer.{Kind.{Kind}, Name.{Name}}, step.Step.TheVariants.{ReadDir, ReadAll}}, Plain.{PlainStep, PlainAnswer}}
use Rattle.cacache_calls.specs.{declared.{answers.Refusal.{Refusal}, reply.Reply.{Reply, TheVariants.{Listed, Refused}}, visit.{Visit.{Visit, TheVariants.{Enter, ReadBucket, RemoveFile, RemoveFolder}}, Task.{Task, TheVariants.{Make, Stumble}}}}, Answers.{bytes_in, names_in}, State.{walking, over, Item, Walk}, Common.{go_on}, Walking.{most, failed, miss, walk_on, task_for_name, tasks_of, too_many, entered, unread_bucket, listed, items_in}, Runs.{Moves, Runs}, Replies.{by_bucket, by_folder, given_by, items_given}}
use Rattle.cacache_walks.specs.{Reading.{names_shown}, Listing.{hash_cmp}}
use Rattle.cacache_laws.proofs.trees.{Members.{Member, in_left, in_right, in_either, contains_member, member_contains}, Looks.{answers_agree}}
use Rattle.cacache_laws.specs.trees.{Index.{is_failure, IndexesAgree, entries_in}, Answers.{IsMemory}, Contents.{HoldingsAgree}}
use Rattle.cacache_store.specs.declared.store.answer.Kind.TheVariants as kinds
use Rattle.cacache_store.specs.declared.store.answer.Answer.TheVariants as answers
use Rattle.cacache_calls.specs.declared.answers.Refusal.TheVariants as refusals
use Rattle.cacache_calls.specs.declared.command.Command.TheVariants as commands

-- the moves read these folders and buckets, and all that lies below the folders
abbrev pub ReadsAll : List Task → Moves → Type 0
ReadsAll [] [] = Unit {0}
ReadsAll (Make (Enter p level) ∷ todo) (m ∷ moves) =
    (m.0 ≡ ReadDir p) × ((names : List Name) × (names_shown m.1 ≡ Some names) × ReadsAll (tasks_of false level p names ++ todo) moves)
ReadsAll (Make (ReadBucket p) ∷ todo) (m ∷ moves) = (m.0 ≡ ReadAll p) × ReadsAll todo moves
ReadsAll todo moves = ⊥

-- what a listing has to do
abbrev pub Fine : List Task → Type 0
Fine [] = Unit {0}
Fine (Make (Enter p level) ∷ todo) = Fine todo
Fine (Make (ReadBucket p) ∷ todo) = Fine todo
Fine (Stumble fault path ∷ todo) = (fault ≡ TooDeep) × Fine todo
Fine todo = ⊥

deeper_fine : (b : Bool) (p : List ℕ) (level : ℕ) (todo : List Task) → Fine todo → Fine (cond b (Make (Enter p level)) (Stumble TooDeep p) ∷ todo)
deeper_fine b p level todo h = grind (arith, common_steps)

task_fine : (kind : Kind) (level : ℕ) (p : List ℕ) (todo : List Task) → Fine todo → Fine (task_for_name false level p kind ∷ todo)
task_fine kind level p todo h = grind (arith, deeper_fine)

tasks_fine : (level : ℕ) (p : List ℕ) (names : List Name) (todo : List Task) → Fine todo → Fine (tasks_of false level p names ++ todo)
tasks_fine level p [] todo h = h
tasks_fine level p (n ∷ ns) todo h = task_fine n.kind level (join p n.name) (tasks_of false level p ns ++ todo) (tasks_fine level p ns todo h)

-- ---- answers

shown_ok : (t : PlainAnswer) (names : List Name) → names_in t ≡ Ok names → names_shown t ≡ Some names
shown_ok t names e = grind (arith, common_steps)

shown_missing : (t : PlainAnswer) → names_in t ≡ Err (refusals.Fault NotFound) → names_shown t ≡ Some []
shown_missing t e = grind (arith, common_steps)

abbrev pub lists : List Item → ℕ → Walk
lists items left = record { clears = false; items = items; left = left }

module _ (list : List Item) where
  -- it lists a bad item
  abbrev pub Bad : Type 0
  Bad = (x : Item) × Member x list × (is_failure x ≡ true)

  pub record Good (moves : Moves) (todo : List Task) (items : List Item) : Type 0 where
    pub reads : ReadsAll todo moves
    pub keeps : (x : Item) → Member x items → Member x list
    pub gives : (x : Item) → Member x (items_given moves) → Member x list

  abbrev pub Outcome : Moves → List Task → List Item → Type 0
  Outcome moves todo items = Bad ⊎ Good moves todo items

  ended : (moves : Moves) (r : Reply) → Runs (over r) moves (Listed list) → (moves ≡ []) × (r ≡ Listed list)
  ended [] r (inl e) = (refl, cc)
  ended [] r (inr e) = absurd cc
  ended (m ∷ moves) r run = absurd (let e : None ≡ Some m.0 = run.0 in cc)

  bad_member : (items : List Item) (x : Item) → is_failure x ≡ true → Listed (items ++ x ∷ []) ≡ Listed list → Bad
  bad_member items x bad e = let same : items ++ x ∷ [] ≡ list = cc in (x, subst (Member x) same (in_right x items (x ∷ []) (inl refl)), bad)

  full : (moves : Moves) (items : List Item) (left : ℕ) → Runs (too_many (lists items left)) moves (Listed list) → Bad
  full moves items left run = bad_member items (failed TooDeep) refl (ended moves (Listed (items ++ failed TooDeep ∷ [])) run).1

  -- a walk that goes on from here with these items
  abbrev GoesOn : Moves → List Task → Type 0
  GoesOn moves todo = (items : List Item) (left : ℕ) → Runs (walk_on todo (lists items left)) moves (Listed list) → Outcome moves todo items

  given_on : (b : Bool) (moves : Moves) (todo : List Task) (items more : List Item) (left : ℕ) → GoesOn moves todo → Runs (cond b (walk_on todo (lists (items ++ more) left)) (too_many (lists (take most (items ++ more)) left))) moves (Listed list) → Outcome moves todo (items ++ more)
  given_on true moves todo items more left next run = next (items ++ more) left run
  given_on false moves todo items more left next run = inl (full moves (take most (items ++ more)) left run)

  missed : (moves : Moves) (todo : List Task) (items : List Item) (left : ℕ) (fault : Fault) → GoesOn moves todo → Runs (miss (lists items left) (walk_on todo) fault) moves (Listed list) → Outcome moves todo (items ++ failed fault ∷ [])
  missed moves todo items left fault next run = given_on (nat_le (length items + length (failed fault ∷ [])) most) moves todo items (failed fault ∷ []) left next run

  -- a fault that was given is bad
  spoiled : (moves : Moves) (todo rest : List Task) (items : List Item) (fault : Fault) (more : Moves) → is_failure (failed fault) ≡ true → Outcome moves todo (items ++ failed fault ∷ []) → Outcome more rest items
  spoiled moves todo rest items fault more bad (inl b) = inl b
  spoiled moves todo rest items fault more bad (inr g) = inl (failed fault, g.keeps (failed fault) (in_right (failed fault) items (failed fault ∷ []) (inl refl)), bad)

  -- the first visit of a walk
  abbrev Visits : Moves → Type 0
  Visits moves = (v : Visit) (todo : List Task) (items : List Item) (left : ℕ) → Fine (Make v ∷ todo) → Runs (walking (lists items left) v todo) moves (Listed list) → Outcome moves (Make v ∷ todo) items

  goes_on : (moves : Moves) → Visits moves → (todo : List Task) → Fine todo → GoesOn moves todo
  goes_on moves visits [] fine items left run =
      let e = ended moves (Listed items) run in
      let same : items ≡ list = (let l : Listed items ≡ Listed list = e.1 in cc) in
      inr (record {
        reads = rw e.0 tt;
        keeps = λ x m. subst (Member x) same m;
        gives = λ x m. absurd (subst (λ ms. Member x (items_given ms)) e.0 m);
      })
  goes_on moves visits (Make v ∷ todo) fine items left run = visits v todo items left fine run
  goes_on moves visits (Stumble fault path ∷ todo) fine items left run =
      spoiled moves todo (Stumble fault path ∷ todo) items fault moves (rw fine.0 refl) (missed moves todo items left fault (goes_on moves visits todo fine.1) run)

  module _ (m : PlainStep × PlainAnswer) (moves : Moves) (visits : Visits moves) where
    entering : (p : List ℕ) (level : ℕ) (todo : List Task) (items : List Item) (left : ℕ) (a : Result (List Name) Refusal) → names_in m.1 ≡ a → m.0 ≡ ReadDir p → Fine todo → Runs (go_on a (miss (lists items left) (walk_on todo)) (entered (lists items left) p level todo)) moves (Listed list) → Outcome (m ∷ moves) (Make (Enter p level) ∷ todo) items
    entering p level todo items left (Ok names) is step fine run = by_count (nat_le (length names) left) run
      where
        by_count : (b : Bool) → Runs (cond b (walk_on ((tasks_of false level p names ++ []) ++ todo) (lists items (left - length names))) (too_many (lists items left))) moves (Listed list) → Outcome (m ∷ moves) (Make (Enter p level) ∷ todo) items
        by_count true run =
            elim (goes_on moves visits (tasks_of false level p names ++ todo) (tasks_fine level p names todo fine) items (left - length names) (rw (append-nil (tasks_of false level p names)) at run)) [
              | inl bad ↦ inl bad
              | inr g ↦ inr (record {
                reads = (step, (names, shown_ok m.1 names is, g.reads));
                keeps = g.keeps;
                gives = λ x k. g.gives x (subst (λ (l : List Item). Member x (l ++ items_given moves)) (ap (λ s. given_by s m.1) step ∙ ap by_folder is) k);
              })
            ]
        by_count false run = inl (full moves items left run)
    entering p level todo items left (Err (refusals.Fault NotFound)) is step fine run =
        elim (missed moves todo items left NotFound (goes_on moves visits todo fine) run) [
          | inl bad ↦ inl bad
          | inr g ↦ inr (record {
            reads = (step, ([], shown_missing m.1 is, g.reads));
            keeps = λ x k. g.keeps x (in_left x items (failed NotFound ∷ []) k);
            gives = λ x k. elim (in_either x (failed NotFound ∷ []) (items_given moves) (subst (λ (l : List Item). Member x (l ++ items_given moves)) (ap (λ s. given_by s m.1) step ∙ ap by_folder is) k)) [
              | inl first ↦ g.keeps x (in_right x items (failed NotFound ∷ []) first)
              | inr later ↦ g.gives x later
            ];
          })
        ]
    entering p level todo items left (Err (refusals.Fault fault)) is step fine run =
        spoiled moves todo (Make (Enter p level) ∷ todo) items fault (m ∷ moves) refl (missed moves todo items left fault (goes_on moves visits todo fine) run)
    entering p level todo items left (Err refusals.Memory) is step fine run = absurd (let e : Refused OutOfMemory ≡ Listed list = (ended moves (Refused OutOfMemory) run).1 in cc)

    reading : (p : List ℕ) (todo : List Task) (items : List Item) (left : ℕ) (a : Result (List ℕ) Refusal) → bytes_in m.1 ≡ a → m.0 ≡ ReadAll p → Fine todo → Runs (go_on a (unread_bucket (lists items left) todo) (listed (lists items left) todo)) moves (Listed list) → Outcome (m ∷ moves) (Make (ReadBucket p) ∷ todo) items
    reading p todo items left (Ok bytes) is step fine run =
        elim (given_on (nat_le (length items + length (items_in bytes)) most) moves todo items (items_in bytes) left (goes_on moves visits todo fine) run) [
          | inl bad ↦ inl bad
          | inr g ↦ inr (record {
            reads = (step, g.reads);
            keeps = λ x k. g.keeps x (in_left x items (items_in bytes) k);
            gives = λ x k. elim (in_either x (items_in bytes) (items_given moves) (subst (λ (l : List Item). Member x (l ++ items_given moves)) (ap (λ s. given_by s m.1) step ∙ ap by_bucket is) k)) [
              | inl first ↦ g.keeps x (in_right x items (items_in bytes) first)
              | inr later ↦ g.gives x later
            ];
          })
        ]
    reading p todo items left (Err (refusals.Fault NotFound)) is step fine run = search (rules, goes_on)
    reading p todo items left (Err (refusals.Fault fault)) is step fine run =
        spoiled moves todo (Make (ReadBucket p) ∷ todo) items fault (m ∷ moves) refl (missed moves todo items left fault (goes_on moves visits todo fine) run)
    reading p todo items left (Err refusals.Memory) is step fine run = absurd (let e : Refused OutOfMemory ≡ Listed list = (ended moves (Refused OutOfMemory) run).1 in cc)

  visits_all : (moves : Moves) → Visits moves
  visits_all [] v todo items left fine (inl e) = absurd cc
  visits_all [] v todo items left fine (inr e) = absurd cc
  visits_all (m ∷ moves) (Enter p level) todo items left fine run =
      entering m moves (visits_all moves) p level todo items left (names_in m.1) refl (let e : Some (ReadDir p) ≡ Some m.0 = run.0 in cc) fine run.2
  visits_all (m ∷ moves) (ReadBucket p) todo items left fine run =
      reading m moves (visits_all moves) p todo items left (bytes_in m.1) refl (let e : Some (ReadAll p) ≡ Some m.0 = run.0 in cc) fine run.2
  visits_all (m ∷ moves) (RemoveFile p) todo items left fine run = absurd fine
  visits_all (m ∷ moves) (RemoveFolder p) todo items left fine run = absurd fine

  -- a run of a listing from its folder
  pub listing_runs : (moves : Moves) (top : List ℕ) → Runs (walking (lists [] most) (Enter top 0) []) moves (Listed list) → Outcome moves (Make (Enter top 0) ∷ []) []
  listing_runs moves top run = visits_all moves (Enter top 0) [] [] most tt run

-- ---- sorted lists

module _ {K : Type 0} (c : K → K → Ordering) (order : IsTotalOrder c) where
  not_both : (x y : K) → c x y ≡ Less → c y x ≡ Less → ⊥
  not_both x y one two = let wrong : Less ≡ Greater = sym one ∙ order.antisymm x y ∙ ap ordering_reverse two in cc

  above : (x y : K) (xs : List K) → AllByRecursion (λ z. c x z ≡ Less) xs → Member y xs → c x y ≡ Less
  above x y [] all m = absurd m
  above x y (z ∷ xs) all (inl same) = ap (c x) same ∙ all.0
  above x y (z ∷ xs) all (inr m) = above x y xs all.1 m

  -- two that come first and are among the other list's are the same
  same_first : (x y : K) (xs ys : List K) → AllByRecursion (λ z. c x z ≡ Less) xs → AllByRecursion (λ z. c y z ≡ Less) ys → Member x (y ∷ ys) → Member y (x ∷ xs) → x ≡ y
  same_first x y xs ys low high h m = grind (arith, not_both, above)

  -- after the first one
  behind : (x y z : K) (xs ys : List K) → x ≡ y → AllByRecursion (λ z. c x z ≡ Less) xs → Member z xs → Member z (y ∷ ys) → Member z ys
  behind x y z xs ys same low m h = grind (arith, above, not_both)

  pub same_sorted : (xs ys : List K) → IsStrictlySortedBy c xs → IsStrictlySortedBy c ys → ((z : K) → Member z xs → Member z ys) → ((z : K) → Member z ys → Member z xs) → xs ≡ ys
  unfolding IsStrictlySortedBy
  same_sorted [] [] one two there back = refl
  same_sorted [] (y ∷ ys) one two there back = absurd (back y (inl refl))
  same_sorted (x ∷ xs) [] one two there back = absurd (there x (inl refl))
  same_sorted (x ∷ xs) (y ∷ ys) one two there back =
      let first = same_first x y xs ys one.0 two.0 (there x (inl refl)) (back y (inl refl)) in
      ap₂ (λ (z : K) (zs : List K). z ∷ zs) first
      (same_sorted xs ys one.1 two.1 (λ z m. behind x y z xs ys first one.0 m (there z (inr m))) (λ z m. behind y x z ys xs (sym first) two.0 m (back z (inr m))))

-- ---- contents

hash_total : IsTotalOrder hash_cmp
hash_total = then_total (on_total (λ (h : Hash). rank h.algorithm) nat_cmp_total) (on_total (λ (h : Hash). h.digest) nat_list_cmp_total)

pub holdings_agree : HoldingsAgree
holdings_agree cache home t hashes others strange stranger one two = search (rules, same_sorted, hash_total, contains_member, member_contains)

-- ---- entries

items_agree : (items others : List Item) → (Listed items ≡ Listed others) ⊎ (IsMemory (Listed items) ⊎ IsMemory (Listed others)) → items ≡ others
items_agree items others h = grind (arith, common_steps)

pub indexes_agree : IndexesAgree
indexes_agree site t entries others one two =
    one.those ∙ ap entries_in (items_agree one.items two.items (answers_agree site t commands.Ls (Listed one.items) (Listed two.items) one.answers two.answers)) ∙ sym two.those
