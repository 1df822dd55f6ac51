-- A listing looks up each key of a bucket once, and what holds of each visit among a walk's tasks.
use Rattle.std.proofs.{Common.{◌≡◌, inl, inr, ℕ, List, [], ◌∷◌, Bool, true, false, cond, bytes_eq, refl, arith, rules, ◌+◌, ◌++◌}, lemmas.{Slice.Eq.{bytes_eq-Decides}, Grind.{common_steps}, List.Elements.{All-head, All-tail}}}
use Rattle.std.specs.{Prelude.{◌↔◌, All}, List.{list_any}}
use Rattle.cacache_entry.specs.Entry.{Entry}
use Rattle.cacache_calls.specs.{Walking.{once, EachVisit, task_for_name, tasks_of, leaving}, Replies.{In, Distinct, keys_of}, declared.visit.{Visit.{Visit, TheVariants.{Enter, ReadBucket, RemoveFile, RemoveFolder}}, Task.{Task, TheVariants.{Make, Stumble}}}}
use Rattle.cacache_core.specs.Paths.{join}
use Rattle.cacache_store.specs.declared.store.answer.{Kind.{Kind}, Name.{Name}}

any_in : (k : List ℕ) (ks : List (List ℕ)) → list_any (bytes_eq k) ks ≡ true → In k ks
any_in k [] h = absurd cc
any_in k (j ∷ ks) h = first_or_later (bytes_eq k j) refl (any_in k ks)
  where
    first_or_later : (b : Bool) → bytes_eq k j ≡ b → (list_any (bytes_eq k) ks ≡ true → In k ks) → In k (j ∷ ks)
    first_or_later true e later = inl ((bytes_eq-Decides k j).0 e)
    first_or_later false e later = inr (later (rw e at h))

none_in : (k : List ℕ) (ks : List (List ℕ)) → list_any (bytes_eq k) ks ≡ false → In k ks → ⊥
none_in k [] h i = i
none_in k (j ∷ ks) h i = first_or_later (bytes_eq k j) refl (none_in k ks) i
  where
    first_or_later : (b : Bool) → bytes_eq k j ≡ b → (list_any (bytes_eq k) ks ≡ false → In k ks → ⊥) → In k (j ∷ ks) → ⊥
    first_or_later true e later i = let no : true ≡ false = rw e at h in absurd cc
    first_or_later false e later (inl same) = let yes : bytes_eq k j ≡ true = (bytes_eq-Decides k j).1 same in absurd cc
    first_or_later false e later (inr more) = later (rw e at h) more

once_in : (key : List ℕ) (ks : List (List ℕ)) → In key (once ks) → In key ks
once_in key [] i = i
once_in key (k ∷ ks) i = by_test (list_any (bytes_eq k) ks) (once_in key ks) i
  where
    by_test : (b : Bool) → (In key (once ks) → In key ks) → In key (cond b (once ks) (k ∷ once ks)) → In key (k ∷ ks)
    by_test true later i = inr (later i)
    by_test false later (inl e) = inl e
    by_test false later (inr i) = inr (later i)

in_once : (key : List ℕ) (ks : List (List ℕ)) → In key ks → In key (once ks)
in_once key [] i = i
in_once key (k ∷ ks) i = by_test (list_any (bytes_eq k) ks) refl (λ j. in_once j ks) i
  where
    by_test : (b : Bool) → list_any (bytes_eq k) ks ≡ b → ((j : List ℕ) → In j ks → In j (once ks)) → In key (k ∷ ks) → In key (cond b (once ks) (k ∷ once ks))
    by_test true e later (inl same) = rw same (later k (any_in k ks e))
    by_test true e later (inr i) = later key i
    by_test false e later (inl same) = inl same
    by_test false e later (inr i) = inr (later key i)

once_distinct : (ks : List (List ℕ)) → Distinct (once ks)
once_distinct [] = tt
once_distinct (k ∷ ks) = by_test (list_any (bytes_eq k) ks) refl (once_distinct ks)
  where
    by_test : (b : Bool) → list_any (bytes_eq k) ks ≡ b → Distinct (once ks) → Distinct (cond b (once ks) (k ∷ once ks))
    by_test true e later = later
    by_test false e later = ((λ i. none_in k ks e (once_in k ks i)), later)

pub each_key_once : (es : List Entry) → Distinct (once (keys_of es)) × ((key : List ℕ) → In key (once (keys_of es)) ↔ In key (keys_of es))
each_key_once es = (once_distinct (keys_of es), λ key. (once_in key (keys_of es), in_once key (keys_of es)))

-- ---- what holds of each visit among a walk's tasks

pub each_append : (V : Visit → Type 0) (xs ys : List Task) → EachVisit V xs → EachVisit V ys → EachVisit V (xs ++ ys)
each_append V [] ys h k = k
each_append V (Make v ∷ xs) ys h k = (h.0, each_append V xs ys h.1 k)
each_append V (Stumble fault path ∷ xs) ys h k = each_append V xs ys h k

-- every visit satisfies this
abbrev pub AnyVisit : Visit → Type 0
AnyVisit v = Unit {0}

pub any_visits : (todo : List Task) → EachVisit AnyVisit todo
any_visits [] = tt
any_visits (Make v ∷ todo) = (tt, any_visits todo)
any_visits (Stumble fault path ∷ todo) = any_visits todo

-- ---- the tasks of a folder at this path and level

module _ (V : Visit → Type 0) (level : ℕ) (p : List ℕ) where
  -- what a walk may do with a name in the folder
  abbrev pub MayMeet : Bool → Name → Type 0
  MayMeet clears n = V (Enter (join p n.name) (level + 1)) × V (cond clears (RemoveFile (join p n.name)) (ReadBucket (join p n.name)))

  one_of : (b : Bool) (x y : Task) → EachVisit V (x ∷ []) → EachVisit V (y ∷ []) → EachVisit V (cond b x y ∷ [])
  one_of b x y h k = grind (arith, common_steps)

  each_kind : (b : Bool) (q : List ℕ) (kind : Kind) → V (Enter q (level + 1)) → V (cond b (RemoveFile q) (ReadBucket q)) → EachVisit V (task_for_name b level q kind ∷ [])
  each_kind b q kind h k = grind (arith, one_of)

  pub each_name : (b : Bool) (names : List Name) → All (MayMeet b) names → EachVisit V (tasks_of b level p names)
  each_name b [] h = tt
  each_name b (n ∷ ns) h =
      let k : MayMeet b n = All-head (MayMeet b) n ns h in
      each_append V (task_for_name b level (join p n.name) n.kind ∷ []) (tasks_of b level p ns) (each_kind b (join p n.name) n.kind k.0 k.1) (each_name b ns (All-tail (MayMeet b) n ns h))

  pub each_leaving : V (RemoveFolder p) → EachVisit V (leaving true level p)
  each_leaving h = search rules
