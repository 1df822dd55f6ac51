-- The entries of a bucket are those of its own keys.
use Rattle.std.proofs.{Common.{arith, rules, ◌≡◌, ℕ, Bool, true, false, cond, nat_le, List, ◌∷◌, ◌++◌, Option, None, Some, option_map, fold, filter_map, map, Ok, Err, bytes_eq, length, take, refl, sym, ap, subst, ◌∙◌}, lemmas.{Grind.{common_steps}, List.{append_cancel_left, Elements.{All-nil, All-cons, All-head, All-tail}}, Slice.Eq.{bytes_eq-Decides}}}
use Rattle.std.specs.{Prelude.{All, IfSome, unwrap_or, []}, List.{cons_option, list_any}}
use Rattle.sha1.specs.Sha1.{sha1}
use Rattle.cacache_core.specs.{declared.integrity.digest.Hash.{Hash}, Paths.{Names, names_of, names_below, joined, bucket_names, bucket_names_of}}
use Rattle.cacache_core.proofs.{PathLemmas.{keys_have_digests}, PathTexts.{paths_differ}}
use Rattle.cacache_store.specs.declared.store.step.Step.TheVariants as steps
use Rattle.cacache_store.specs.Plain.{PlainStep, PlainAnswer}
use Rattle.cacache_disk.{specs.{declared.luck.Luck.{Luck}, Tree.{Tree}, Apply.{apply}}, proofs.Maps.{same_path-true}}
use Rattle.cacache_entry.specs.{Entry.{Entry, line_of, closed_line}, Bucket.{entries_of, Found, found_of, answer_of_integrity, answer_of, after_entry, latest}, FittingEntries.{IsEntry, IsWritable}}
use Rattle.cacache_calls.specs.{declared.answers.Refusal.{Refusal}, State.{Item}, Walking.{once, items_of}}
use Rattle.cacache_value.specs.{Kinds.{is_path_of}, Value.{Value, wide_value}, Acts.{Act, AddEntries, Drop, act_of, change, list_of}, Placed.{Placed, Proper, IsOpening}}
use Rattle.cacache_value.proofs.{MadeFolders.{whole_closed, torn_closed}, Traces.{steps_act}}
use Rattle.cacache_history.specs.{Setup.{Setup}, History.{Turn}, Turns.{entries_at, shown_result, by_entries}, AddedEntries.{HoldOwn}, ListingTurns.{IsFound}}
use Rattle.cacache_history.proofs.StepActs.{MayAct, acts_so}

-- an entry of this bucket
abbrev pub OfBucket : List ℕ → Entry → Type 0
OfBucket key e = sha1 e.key ≡ sha1 key

-- ---- acts

-- an act that adds only such entries to this bucket
abbrev pub Adds : (Entry → Type 0) → Option Names → List ℕ → Act → Type 0
Adds P home digest (AddEntries path new) = is_path_of home (bucket_names_of digest) path ≡ true → All P new
Adds P home digest act = Unit {0}

added_own : (P : Entry → Type 0) (b : Bool) (o : Option (List Entry)) (new : List Entry) → (b ≡ true → All P new) → All P (list_of o) → All P (list_of (cond b (Some (list_of o ++ new)) o))
added_own P b o new n h = grind (arith, common_steps)

dropped_own : (P : Entry → Type 0) (b : Bool) (o : Option (List Entry)) → All P (list_of o) → All P (list_of (cond b None o))
dropped_own P b o h = grind (arith, common_steps)

pub change_all : (P : Entry → Type 0) (home : Option Names) (v : Value) (act : Act) (digest : List ℕ) → Adds P home digest act → All P (list_of (v.buckets digest))
    → All P (list_of ((change home act v).buckets digest))
change_all P home v (AddEntries path new) digest a h = added_own P (is_path_of home (bucket_names_of digest) path) (v.buckets digest) new a h
change_all P home v (Drop path) digest a h = dropped_own P (is_path_of home (bucket_names_of digest) path) (v.buckets digest) h
change_all P home v act digest a h = h

-- ---- the acts of steps

-- an append is of an entry's line, to the bucket of its key
pub record OwnLine (home : Option Names) (path bytes : List ℕ) : Type 0 where
  pub entry : Entry
  pub formed : IsEntry entry
  pub fits : IsWritable entry
  pub durable : Bool
  pub same : bytes ≡ closed_line durable entry
  pub here : names_of path ≡ names_below home (bucket_names entry.key)

abbrev pub AppendsOwn : Option Names → PlainStep → Type 0
AppendsOwn home (steps.Append p bytes) = OwnLine home p bytes
AppendsOwn home step = Unit {0}

-- two keys with buckets at one path
one_bucket : (cache : List ℕ) (home : Option Names) (a key : List ℕ) (names : Names) → names_below home (bucket_names a) ≡ Ok names → is_path_of home (bucket_names key) names ≡ true → sha1 a ≡ sha1 key
one_bucket cache None a key names e is = absurd cc
one_bucket cache (Some folder) a key names e is =
    let there : folder ++ bucket_names a ≡ names = cc in
    let same = append_cancel_left folder (bucket_names key) (bucket_names a) (same_path-true (folder ++ bucket_names key) names is ∙ sym there) in
    (paths_differ.buckets cache (sha1 a) (sha1 key) (keys_have_digests a) (keys_have_digests key)).0 (ap (joined cache) (sym same))

pub left_own : (P : Entry → Type 0) (durable : Bool) (e : Entry) (count : ℕ) (b : Bool) → IsEntry e → IsWritable e → P e → nat_le (length (line_of e)) count ≡ b → All P (entries_of (take count (closed_line durable e)))
left_own P durable e count b formed fits own is = grind (arith, whole_closed, torn_closed)

own_act : (home : Option Names) (key : List ℕ) (act : Act) (step : PlainStep) → MayAct act step → AppendsOwn home step → Adds (OfBucket key) home (sha1 key) act
own_act home key (AddEntries names new) (steps.Append p bytes) is line = λ here.
    subst (All (OfBucket key)) (ap (λ b. entries_of (take is.1.0 b)) (sym line.same) ∙ sym is.1.1)
    (left_own (OfBucket key) line.durable line.entry is.1.0 (nat_le (length (line_of line.entry)) is.1.0) line.formed line.fits
    (one_bucket [] home line.entry.key key names (sym line.here ∙ is.0) here) refl)
own_act home key (AddEntries names new) step is own = absurd is
own_act home key act step is own = tt

-- ---- trees

abbrev pub TreeOwn : Option Names → Tree → Type 0
TreeOwn home t = HoldOwn (wide_value home t).buckets

pub step_own : (home : Option Names) (t : Tree) (step : PlainStep) (luck : Luck) → Placed home t → Proper home step → AppendsOwn home step → TreeOwn home t → TreeOwn home (apply t step luck).1
step_own home t step luck placed proper own h =
    subst (λ v. HoldOwn v.buckets) (sym (steps_act home t step luck placed proper))
    (λ key. change_all (OfBucket key) home (wide_value home t) (act_of step luck (apply t step luck).0) (sha1 key)
    (own_act home key (act_of step luck (apply t step luck).0) step (acts_so step luck (apply t step luck).0) own) (h key))

pub opening_own : (home : Option Names) (t : Tree) → IsOpening home t → TreeOwn home t
opening_own home t o key = subst (λ v. All (OfBucket key) (list_of (v.buckets (sha1 key)))) (sym o.nothing) (All-nil (OfBucket key))

-- ---- what is listed is what a lookup finds

abbrev HasKey : List ℕ → Option Found → Type 0
HasKey key found = IfSome found (λ f. f.key ≡ key)

answered_key : (key : List ℕ) (e : Entry) (found : Option Found) (o : Option (Option (List Hash))) → e.key ≡ key → HasKey key found → HasKey key (unwrap_or (option_map (option_map (found_of e)) o) found)
answered_key key e found o is h = grind (arith, common_steps)

entry_key : (key : List ℕ) (e : Entry) (found : Option Found) (b : Bool) → bytes_eq e.key key ≡ b → HasKey key found → HasKey key (unwrap_or (cond b (answer_of e e.integrity) None) found)
entry_key key e found true is h = answered_key key e found (answer_of_integrity e.integrity) ((bytes_eq-Decides e.key key).0 is) h
entry_key key e found false is h = h

fold_key : (key : List ℕ) (found : Option Found) (es : List Entry) → HasKey key found → HasKey key (fold (after_entry key) found es)
fold_key key found [] h = h
fold_key key found (e ∷ es) h = fold_key key (after_entry key found e) es (entry_key key e found (bytes_eq e.key key) refl h)

pub latest_key : (key : List ℕ) (es : List Entry) (f : Found) → latest key es ≡ Some f → f.key ≡ key
latest_key key es f is = subst (HasKey key) is (fold_key key None es tt)

pub once_all : (P : List ℕ → Type 0) (ks : List (List ℕ)) → All P ks → All P (once ks)
once_all P [] all = all
once_all P (k ∷ ks) all = by (list_any (bytes_eq k) ks) (once_all P ks (All-tail P k ks all))
  where
    by : (b : Bool) → All P (once ks) → All P (cond b (once ks) (k ∷ once ks))
    by true h = h
    by false h = All-cons P k (once ks) (All-head P k ks all) h

pub all_keys : (key : List ℕ) (es : List Entry) → All (OfBucket key) es → All (λ k. sha1 k ≡ sha1 key) (map (λ e. e.key) es)
all_keys key [] all = All-nil (λ k. sha1 k ≡ sha1 key)
all_keys key (e ∷ es) all = All-cons (λ k. sha1 k ≡ sha1 key) e.key (map (λ e. e.key) es) (All-head (OfBucket key) e es all) (all_keys key es (All-tail (OfBucket key) e es all))

module _ (s : Setup) (turn : Turn) (key : List ℕ) where
  key_found : (k : List ℕ) → sha1 k ≡ sha1 key → (o : Option Found) → latest k (entries_at s (sha1 key) turn) ≡ o → (rest : List Item) → All (IsFound s turn) rest
      → All (IsFound s turn) (cons_option (option_map Ok o) rest)
  key_found k own o is rest h = grind (arith, latest_key)

  keys_found : (ks : List (List ℕ)) → All (λ k. sha1 k ≡ sha1 key) ks → All (IsFound s turn) (filter_map (λ k. option_map Ok (latest k (entries_at s (sha1 key) turn))) ks)
  keys_found [] all = All-nil (IsFound s turn)
  keys_found (k ∷ ks) all =
      key_found k (All-head (λ j. sha1 j ≡ sha1 key) k ks all) (latest k (entries_at s (sha1 key) turn)) refl
      (filter_map (λ j. option_map Ok (latest j (entries_at s (sha1 key) turn))) ks) (keys_found ks (All-tail (λ j. sha1 j ≡ sha1 key) k ks all))

  items_found : All (OfBucket key) (entries_at s (sha1 key) turn) → All (IsFound s turn) (items_of (entries_at s (sha1 key) turn))
  items_found all = search (rules, keys_found, once_all, all_keys)

  refused_found : (refusal : Refusal) → All (IsFound s turn) (by_entries (Err refusal))
  refused_found refusal = grind (arith, common_steps)

  pub bucket_found : (a : PlainAnswer) → All (OfBucket key) (entries_at s (sha1 key) turn) → All (IsFound s turn) (by_entries (shown_result a (Ok (entries_at s (sha1 key) turn))))
  bucket_found a all = grind (arith, items_found, refused_found)
