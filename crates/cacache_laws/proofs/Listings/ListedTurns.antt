-- The items of a listing, if all of its turns find one tree.
use Rattle.std.proofs.{Common.{arith, ◌≡◌, ◌⊎◌, inl, inr, ℕ, suc, Bool, true, false, cond, List, [], ◌∷◌, ◌++◌, Option, None, Some, Ok, Err, option_map, map, take, fold, refl, sym, ap, Result, subst, ◌∙◌}, lemmas.{Grind.{common_steps}, List.Elements.{All-nil, All-cons, All-head, All-tail, All-append, All-take, All-weaker}, Slice.Eq.{bytes_eq-Decides}}}
use Rattle.std.specs.{Prelude.{All, bytes_eq, unwrap_or}, List.{filter_map, cons_option}}
use Rattle.cacache_entry.specs.{Entry.{Entry}, Bucket.{Found, answer_of, after_entry, latest}}
use Rattle.cacache_calls.specs.{Replies.{In, keys_of, too_deep, by_folder}, State.{Item}, Walking.{once, items_of, failed}, declared.answers.Refusal.{Refusal}, Answers.{names_in}, Promises.{Faults, Faulted}, Steps.{bucket_path}}
use Rattle.cacache_calls.proofs.Keys.{each_key_once}
use Rattle.cacache_history.specs.{ListingTurns.{OtherKey, NoKeyTwice, IsFound, TurnGives, TurnsGive, AnyTurn, HasBucket, TurnReadsBucket, FailsAbove}, Setup.{Setup, home}, History.{Turn}, Turns.{entries_at, held, shown_result, bucket_read, by_entries, made_in, EachTurn}}
use Rattle.cacache_history.proofs.{Histories.{Holding.{TurnHolds, TurnsHold}, ShownTurns.{bucket_below, bucket_at_turn}}, Each.{each_weaker}}
use Rattle.cacache_laws.{specs.{ListedKeys.{AreAllFound}, ReadAnswers.{entries_on}}, proofs.{trees.Members.{mapped, in_left, in_right}, Readings.ReadAnswers.{is_shown}}}
use Rattle.sha1.specs.Sha1.{sha1}
use Rattle.cacache_core.specs.{declared.errors.Fault.{Fault}, Paths.{bucket_names_of}}
use Rattle.cacache_store.specs.{declared.store.answer.Name.{Name}, Plain.{PlainStep, PlainAnswer, Fits}}
use Rattle.cacache_disk.specs.{Tree.{Tree, listing}, LedTo.{file_at, folder}, Apply.{apply, unless}}
use Rattle.cacache_value.{specs.{Acts.{list_of}, Kinds.{NamesBelow}}, proofs.Shows.{apply_answer}}
use Rattle.cacache_core.specs.declared.errors.Fault.TheVariants as faults
use Rattle.cacache_store.specs.declared.store.answer.Answer.TheVariants as answers
use Rattle.cacache_store.specs.declared.store.step.Step.TheVariants as steps
use Rattle.cacache_calls.specs.declared.answers.Refusal.TheVariants as refusals

-- ---- lists

pub both_all : {X : Type 0} (P Q R : X → Type 0) → ((x : X) → P x → Q x → R x) → (xs : List X) → All P xs → All Q xs → All R xs
both_all P Q R f [] p q = All-nil R
both_all P Q R f (x ∷ xs) p q = All-cons R x xs (f x (All-head P x xs p) (All-head Q x xs q)) (both_all P Q R f xs (All-tail P x xs p) (All-tail Q x xs q))

-- ---- lists without errors

pub entries_left : (xs ys : List Item) → AreAllFound (xs ++ ys) → AreAllFound xs
entries_left [] ys h = tt
entries_left (Ok f ∷ xs) ys h = entries_left xs ys h
entries_left (Err e ∷ xs) ys h = absurd h

pub entries_right : (xs ys : List Item) → AreAllFound (xs ++ ys) → AreAllFound ys
entries_right [] ys h = h
entries_right (Ok f ∷ xs) ys h = entries_right xs ys h
entries_right (Err e ∷ xs) ys h = absurd h

-- the first items and an error have no key twice
pub once_front : (n : ℕ) (items : List Item) → NoKeyTwice items → NoKeyTwice (take n items ++ too_deep ∷ [])
once_front (suc n) (Ok f ∷ items) h =
    (All-append (OtherKey f.key) (take n items) (too_deep ∷ []) (All-take (OtherKey f.key) n items h.0) (All-cons (OtherKey f.key) too_deep [] tt (All-nil (OtherKey f.key))), once_front n items h.1)
once_front (suc n) (Err e ∷ items) h = once_front n items h
once_front n items h = tt

-- ---- what a bucket lists

module _ (P : Item → Type 0) (entry : (f : Found) → P (Ok f)) (es : List Entry) where
  one_entry : (o : Option Found) (rest : List Item) → All P rest → All P (cons_option (option_map Ok o) rest)
  one_entry o rest h = grind (arith, common_steps)

  each_entry : (ks : List (List ℕ)) → All P (filter_map (λ key. option_map Ok (latest key es)) ks)
  each_entry [] = All-nil P
  each_entry (k ∷ ks) = one_entry (latest k es) (filter_map (λ key. option_map Ok (latest key es)) ks) (each_entry ks)

  -- entries alone
  pub lists_entries : All P (items_of es)
  lists_entries = each_entry (once (map (λ e. e.key) es))

-- what is found is an entry of the key
fold_in : (key : List ℕ) (found : Option Found) (es : List Entry) (f : Found) → fold (after_entry key) found es ≡ Some f → (found ≡ Some f) ⊎ In key (keys_of es)
fold_in key found [] f is = inl is
fold_in key found (e ∷ es) f is =
    elim (fold_in key (after_entry key found e) es f is) [
      | inl here ↦ by (bytes_eq e.key key) refl here
      | inr later ↦ inr (inr later)
    ]
  where
    by : (b : Bool) → bytes_eq e.key key ≡ b → unwrap_or (cond b (answer_of e e.integrity) None) found ≡ Some f → (found ≡ Some f) ⊎ In key (keys_of (e ∷ es))
    by true same here = inr (inl (sym ((bytes_eq-Decides e.key key).0 same)))
    by false same here = inl here

pub found_in : (key : List ℕ) (es : List Entry) (f : Found) → latest key es ≡ Some f → In key (keys_of es)
found_in key es f is = elim (fold_in key None es f is) [ inl e ↦ absurd cc | inr i ↦ i ]

-- and it is listed
pub lists_found : (key : List ℕ) (es : List Entry) (f : Found) → latest key es ≡ Some f → In (Ok f) (items_of es)
lists_found key es f is = mapped (λ k. option_map Ok (latest k es)) key (Ok f) (once (keys_of es)) (((each_key_once es).1 key).1 (found_in key es f is)) (ap (option_map Ok) is)

-- ---- errors come from steps

-- an error has such a fault
abbrev pub Explained : (Fault → Type 0) → Item → Type 0
Explained Why (Ok f) = Unit {0}
Explained Why (Err e) = (fault : Fault) × Why fault

explained_later : (Why More : Fault → Type 0) → ((fault : Fault) → Why fault → More fault) → (item : Item) → Explained Why item → Explained More item
explained_later Why More f item h = grind (arith, common_steps)

failed_so : (step : PlainStep) (fault : Fault) → All (Explained (Faults step (answers.Failed fault))) (failed fault ∷ [])
failed_so step fault = All-cons (Explained (Faults step (answers.Failed fault))) (failed fault) [] (fault, refl) (All-nil (Explained (Faults step (answers.Failed fault))))

folder_explained : (step : PlainStep) (path : List ℕ) (a : PlainAnswer) → Fits (steps.ReadDir path) a → All (Explained (Faults step a)) (by_folder (names_in a))
folder_explained step path (answers.Names names) fits = All-nil (Explained (Faults step (answers.Names names)))
folder_explained step path (answers.Failed fault) fits = failed_so step fault
folder_explained step path (answers.NoMemory back) fits = All-nil (Explained (Faults step (answers.NoMemory back)))
folder_explained step path other fits = absurd fits

bucket_explained : (step : PlainStep) (es : List Entry) (a : PlainAnswer) → All (Explained (Faults step a)) (by_entries (shown_result a (Ok es)))
bucket_explained step es (answers.Failed faults.NotFound) = lists_entries (Explained (Faults step (answers.Failed faults.NotFound))) (λ f. tt) es
bucket_explained step es (answers.Failed fault) = failed_so step fault
bucket_explained step es (answers.NoMemory back) = All-nil (Explained (Faults step (answers.NoMemory back)))
bucket_explained step es other = lists_entries (Explained (Faults step other)) (λ f. tt) es

module _ (s : Setup) where
  turn_explained : (turn : Turn) (step : PlainStep) (items : List Item) → turn.move.step ≡ step → TurnHolds s turn → TurnGives s turn step items → All (Explained (Faults turn.move.step turn.move.answer)) items
  turn_explained turn (steps.ReadDir path) items is holds g =
      subst (All (Explained (Faults turn.move.step turn.move.answer))) (sym g.1) (folder_explained turn.move.step path turn.move.answer (subst (λ x. Fits x turn.move.answer) is holds.fits))
  turn_explained turn (steps.ReadAll path) items is holds g =
      subst (All (Explained (Faults turn.move.step turn.move.answer))) (sym g.2) (bucket_explained turn.move.step (entries_at s (sha1 g.0) turn) turn.move.answer)
  turn_explained turn step items is holds g = absurd g

  pub turns_explained : (turns : List Turn) (items : List Item) → TurnsHold s turns → TurnsGive s turns items → All (Explained (Faulted (made_in turns))) items
  turns_explained [] items hold g = subst (All (Explained (Faulted []))) (sym g) (All-nil (Explained (Faulted [])))
  turns_explained (turn ∷ turns) items hold g =
      let why = Faulted (made_in (turn ∷ turns)) in
      subst (All (Explained (Faulted (made_in (turn ∷ turns))))) (sym g.2)
      (All-append (Explained why) g.0 g.1
      (All-weaker (Explained (Faults turn.move.step turn.move.answer)) (Explained why) (explained_later (Faults turn.move.step turn.move.answer) why (λ fault h. inl h)) g.0 (turn_explained turn turn.move.step g.0 refl hold.0 g.3))
      (All-weaker (Explained (Faulted (made_in turns))) (Explained why) (explained_later (Faulted (made_in turns)) why (λ fault h. inr h)) g.1 (turns_explained turns g.1 hold.1 g.4)))

-- ---- entries are what their keys lead to

abbrev pub Leads : Setup → Tree → Item → Type 0
Leads s t (Ok f) = latest f.key (entries_on (home s) t f.key) ≡ Some f
Leads s t (Err e) = Unit {0}

module _ (s : Setup) (t : Tree) where
  abbrev IsHere : Turn → Type 0
  IsHere turn = turn.place ≡ t

  found_leads : (turn : Turn) → IsHere turn → (item : Item) → IsFound s turn item → Leads s t item
  found_leads turn here item h = grind (arith, common_steps)

  folder_leads : (a : Result (List Name) Refusal) → All (Leads s t) (by_folder a)
  folder_leads a = grind (arith, common_steps)

  turn_leads : (turn : Turn) (step : PlainStep) (items : List Item) → IsHere turn → TurnGives s turn step items → All (Leads s t) items
  turn_leads turn step items here g = grind (arith, folder_leads, found_leads)

  pub turns_lead : (turns : List Turn) (items : List Item) → EachTurn IsHere turns → TurnsGive s turns items → All (Leads s t) items
  turns_lead [] items here g = subst (All (Leads s t)) (sym g) (All-nil (Leads s t))
  turns_lead (turn ∷ turns) items here g =
      subst (All (Leads s t)) (sym g.2) (All-append (Leads s t) g.0 g.1 (turn_leads turn turn.move.step g.0 here.0 g.3) (turns_lead turns g.1 here.1 g.4))

-- ---- a disk never wants memory

abbrev IsGiven : PlainAnswer → Type 0
IsGiven (answers.NoMemory back) = ⊥
IsGiven other = Unit {0}

unless_given : {A : Type 0} (t : Tree) (answer : A → PlainAnswer) → ((x : A) → IsGiven (answer x)) → (r : Result A Fault) → IsGiven (unless r t (λ x. (answer x, t))).0
unless_given t answer given r = grind (arith, common_steps)

module _ (s : Setup) (turn : Turn) (holds : TurnHolds s turn) (path : List ℕ) where
  folder_given : turn.move.step ≡ steps.ReadDir path → IsGiven turn.move.answer
  folder_given is =
      subst IsGiven (sym (holds.answered ∙ ap (λ x. (apply turn.place x turn.move.luck).0) is))
      (apply_answer IsGiven (λ fault. tt) turn.place (steps.ReadDir path) turn.move.luck
      (λ most. unless_given turn.place (λ names. answers.Names (listing turn.place names)) (λ names. tt) (folder turn.place path)))

  bucket_given : turn.move.step ≡ steps.ReadAll path → IsGiven turn.move.answer
  bucket_given is =
      subst IsGiven (sym (holds.answered ∙ ap (λ x. (apply turn.place x turn.move.luck).0) is))
      (apply_answer IsGiven (λ fault. tt) turn.place (steps.ReadAll path) turn.move.luck
      (λ most. unless_given turn.place answers.Bytes (λ bytes. tt) (file_at turn.place path faults.IsADirectory)))

-- ---- what fails gives an error

folder_errs : (a : PlainAnswer) (refusal : Refusal) → IsGiven a → names_in a ≡ Err refusal → AreAllFound (by_folder (names_in a)) → ⊥
folder_errs a refusal given is h = grind (arith, common_steps)

bucket_errs : (es : List Entry) (a : PlainAnswer) (refusal : Refusal) → IsGiven a → shown_result a (Ok es) ≡ Err refusal → AreAllFound (by_entries (shown_result a (Ok es))) → ⊥
bucket_errs es a refusal given is h = grind (arith, common_steps)

-- ---- what a key leads to is found

-- at the turn's place the key leads to this entry
abbrev pub TurnFinds : Setup → List ℕ → Found → Turn → Type 0
TurnFinds s key f turn = latest key (entries_at s (sha1 key) turn) ≡ Some f

-- so it does at each turn that finds one tree
pub all_find : (s : Setup) (t : Tree) (key : List ℕ) (f : Found) → latest key (entries_on (home s) t key) ≡ Some f → (turns : List Turn) → EachTurn (IsHere s t) turns → EachTurn (TurnFinds s key f) turns
all_find s t key f leads = each_weaker (IsHere s t) (TurnFinds s key f) (λ turn here. ap (λ p. latest key (entries_on (home s) p key)) here ∙ leads)

module _ (s : Setup) (key : List ℕ) (f : Found) where
  is_bucket : (bucket : Option (List Entry)) → latest key (list_of bucket) ≡ Some f → (entries : List Entry) × (bucket ≡ Some entries)
  is_bucket bucket h = grind (arith, common_steps)

  pub has_bucket : (turns : List Turn) → EachTurn (TurnFinds s key f) turns → EachTurn (HasBucket s key) turns
  has_bucket [] finds = tt
  has_bucket (turn ∷ turns) finds = (is_bucket ((held s turn).buckets (sha1 key)) finds.0, has_bucket turns finds.1)

  module _ (turn : Turn) (holds : TurnHolds s turn) (finds : TurnFinds s key f turn) where
    -- of the key's bucket, whichever key the turn names it by
    reads_same : (other : List ℕ) → turn.move.step ≡ steps.ReadAll (bucket_path s.cache key) → bucket_path s.cache key ≡ bucket_path s.cache other
        → bucket_read s (sha1 other) turn ≡ bucket_read s (sha1 key) turn
    reads_same other is same =
        sym (bucket_at_turn s turn holds (bucket_path s.cache key) (sha1 other) is (subst (NamesBelow (home s) (bucket_names_of (sha1 other))) (sym same) (bucket_below s other)))
        ∙ bucket_at_turn s turn holds (bucket_path s.cache key) (sha1 key) is (bucket_below s key)

    bucket_lists : (items : List Item) → turn.move.step ≡ steps.ReadAll (bucket_path s.cache key) → TurnGives s turn (steps.ReadAll (bucket_path s.cache key)) items → AreAllFound items → In (Ok f) items
    bucket_lists items is g entries =
        let es = entries_at s (sha1 key) turn in
        let same : items ≡ by_entries (shown_result turn.move.answer (Ok (entries_at s (sha1 key) turn))) = g.2 ∙ ap by_entries (reads_same g.0 is g.1) in
        elim (is_shown turn.move.answer (Ok es)) [
          | inl e ↦ subst (In (Ok f)) (sym (same ∙ ap by_entries e)) (lists_found key es f finds)
          | inr e ↦ absurd (bucket_errs es turn.move.answer e.0 (bucket_given s turn holds (bucket_path s.cache key) is) e.1 (subst AreAllFound same entries))
        ]

    folder_lists : (path : List ℕ) (items : List Item) (refusal : Refusal) → turn.move.step ≡ steps.ReadDir path → names_in turn.move.answer ≡ Err refusal → TurnGives s turn (steps.ReadDir path) items → AreAllFound items
        → In (Ok f) items
    folder_lists path items refusal is fails g entries = absurd (folder_errs turn.move.answer refusal (folder_given s turn holds path is) fails (subst AreAllFound g.1 entries))

    turn_lists : (items : List Item) → TurnGives s turn turn.move.step items → AreAllFound items → TurnReadsBucket s key turn ⊎ FailsAbove s key turn → In (Ok f) items
    turn_lists items g entries h = grind (arith, bucket_lists, folder_lists)

  pub turns_list : (turns : List Turn) (items : List Item) → TurnsHold s turns → EachTurn (TurnFinds s key f) turns → TurnsGive s turns items → AreAllFound items
      → AnyTurn (λ turn. TurnReadsBucket s key turn ⊎ FailsAbove s key turn) turns → In (Ok f) items
  turns_list [] items hold finds g entries any = absurd any
  turns_list (turn ∷ turns) items hold finds g entries (inl sees) =
      let all = subst AreAllFound g.2 entries in
      subst (In (Ok f)) (sym g.2) (in_left (Ok f) g.0 g.1 (turn_lists turn hold.0 finds.0 g.0 g.3 (entries_left g.0 g.1 all) sees))
  turns_list (turn ∷ turns) items hold finds g entries (inr later) =
      let all = subst AreAllFound g.2 entries in
      subst (In (Ok f)) (sym g.2) (in_right (Ok f) g.0 g.1 (turns_list turns g.1 hold.1 finds.1 g.4 (entries_right g.0 g.1 all) later))
