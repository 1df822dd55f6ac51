-- What the steps that write a bucket anew leave of a tree.
use Rattle.std.proofs.{Common.{◌≡◌, inl, inr, ◌==◌, ℕ, List, [], ◌∷◌, ◌++◌, Bool, true, false, cond, drop, take, Option, None, Some, Result, Ok, Err, refl, sym, ap, subst, ◌∙◌, arith, append-nil, append_assoc, take-append-drop}, lemmas.List.Elements.{All-cons, All-nil}}
use Rattle.cacache_core.specs.{declared.errors.Fault.{Fault}, Paths.{Names, names_of, home_of, IsProperName, temp_area, temp_names}}
use Rattle.cacache_core.proofs.{JoinedNames.{joined_texts_name}, ProperNames.{names_are_proper, proper_temp_folder}}
use Rattle.cacache_store.specs.declared.store.answer.Answer.TheVariants as answers
use Rattle.cacache_store.specs.declared.store.plain.PlainTemp.{PlainTemp}
use Rattle.cacache_store.specs.declared.store.step.Step.TheVariants as steps
use Rattle.cacache_disk.specs.{declared.{luck.Luck.TheVariants.{Plain}, node.Node.{Node, TheVariants.{Folder, File}}}, Tree.{Tree, cut, look, put, same_path, Rooted}, LedTo.{dirs, dirs_fault, free, or_fault, place, where_free}, Apply.{apply, grown, made_temp, make_some, making, taken, unless}}
use Rattle.cacache_disk.proofs.{FoundNodes.{and_then_ok, place_ok}, Maps.{same_path-true}, PutNodes.{look-cut, look-put}, Roots.{same_self}, Standing.{upper_folder}}
use Rattle.cacache_calls.specs.{Runs.{Moves}, Steps.{temp_folder, temp_path}}
use Rattle.cacache_laws.specs.{Sequence.{tree_on, AreAnswered}, trees.{Compacted.{Compacted}, Temporary.{is_temp_name, temp_at}}}
use Rattle.cacache_laws.proofs.{trees.Compactions.LeanTrees.{Becomes, EndsUp, compacted_none, ends}, Calls.InParts.{writing_keeps}, Sure.SureLinks.{make_step}}
use Rattle.cacache_keep.{specs.Rewriting.{Takes}, proofs.NewBuckets.MovedFiles.{MovedTo}}

-- ---- the folder of temporary files is made

-- what is on the way to a node
stands_on : (t : Tree) (p above : Names) (name : List ℕ) (node : Node) → Rooted t → look t (p ++ name ∷ above) ≡ Some node → (here : Node) × (look t (p ++ name ∷ []) ≡ Some here)
stands_on t p [] name node rooted e = (node, e)
stands_on t p (next ∷ above) name node rooted e =
    (Folder, upper_folder t (p ++ name ∷ []) above next node rooted (ap (look t) (append_assoc p (name ∷ []) (next ∷ above)) ∙ e))

-- folders that are there are passed by
make_to : (t : Tree) (p above rest : Names) (node : Node) (most : ℕ) → Rooted t → look t (p ++ above) ≡ Some node → make_some t p (above ++ rest) most ≡ make_some t (p ++ above) rest most
make_to t p [] rest node most rooted e = ap (λ (q : Names). make_some t q rest most) (sym (append-nil p))
make_to t p (a ∷ above) rest node most rooted e =
    let here = stands_on t p above a node rooted e in
    let same : (p ++ a ∷ []) ++ above ≡ p ++ a ∷ above = append_assoc p (a ∷ []) above in
    make_step t p (above ++ rest) a here.0 most here.1
    ∙ make_to t (p ++ a ∷ []) above rest node most rooted (ap (look t) same ∙ e)
    ∙ ap (λ (q : Names). make_some t q rest most) same

temp_folder_named : (cache : List ℕ) (home : Names) → home_of cache ≡ Some home → names_of (temp_folder cache) ≡ Ok (home ++ temp_area ∷ [])
unfolding temp_folder
temp_folder_named cache home is = joined_texts_name cache (temp_area ∷ []) (All-cons IsProperName temp_area [] proper_temp_folder (All-nil IsProperName)) (omega arith) ∙ rw is refl

pub temp_path_named : (cache : List ℕ) (number : ℕ) (home : Names) → home_of cache ≡ Some home → names_of (temp_path cache number) ≡ Ok (home ++ temp_names number)
unfolding temp_path
temp_path_named cache number home is = joined_texts_name cache (temp_names number) (names_are_proper.temporaries number) (omega arith) ∙ rw is refl

module _ (durable : Bool) (home : Names) (t : Tree) where
  abbrev temps : Names
  temps = home ++ temp_area ∷ []

  put_at : (q : Names) (b : Bool) → same_path q temps ≡ b → look t temps ≡ None → Becomes durable home q (look t q) (cond b (Some Folder) (look t q))
  put_at q true same none = let is = same_path-true q temps same in inr (inr (is, ap (look t) is ∙ none, refl))
  put_at q false same none = inl refl

  put_folder : look t temps ≡ None → Compacted durable home t (put t temps Folder)
  put_folder none q = subst (λ o. Becomes durable home q (look t q) o) (sym (look-put t temps Folder q)) (put_at q (same_path q temps) refl none)

  some_made : (most : ℕ) (here : Option Node) (b : Bool) → look t temps ≡ here → (most == 0) ≡ b → Compacted durable home t (make_some t home (temp_area ∷ []) most)
  some_made most (Some node) b is e = subst (λ (u : Tree). Compacted durable home t u) (sym (make_step t home [] temp_area node most is)) (compacted_none durable home t)
  some_made most None true is e = subst (λ (u : Tree). Compacted durable home t u) (sym (rw (is, e) refl)) (compacted_none durable home t)
  some_made most None false is e = subst (λ (u : Tree). Compacted durable home t u) (sym (rw (is, e) refl)) (put_folder is)

-- if the cache's folder is there, nothing else is made, whatever is answered
pub folder_made : (durable : Bool) (cache : List ℕ) (home : Names) (t : Tree) → home_of cache ≡ Some home → Rooted t → look t home ≡ Some Folder → Compacted durable home t (apply t (steps.MakeDirs (temp_folder cache)) Plain).1
unfolding apply dirs
folder_made durable cache home t is rooted stands =
    rw (temp_folder_named cache home is) (by (dirs_fault t [] (home ++ temp_area ∷ [])))
  where
    by : (o : Option Fault) → Compacted durable home t (unless (or_fault o (home ++ temp_area ∷ [])) t (λ names. (answers.Done, make_some t [] names (making None names)))).1
    by (Some fault) = compacted_none durable home t
    by None =
        let most = making None (home ++ temp_area ∷ []) in
        subst (λ (u : Tree). Compacted durable home t u) (sym (make_to t [] home (temp_area ∷ []) Folder most rooted stands))
        (some_made durable home t most (look t (home ++ temp_area ∷ [])) (most == 0) refl refl)

-- ---- a temporary file is made

-- it is there, and nothing was there before
pub record HasTemp (home : Names) (file : PlainTemp) (t new : Tree) : Type 0 where
  pub name : List ℕ
  pub temp : is_temp_name name ≡ true
  pub none : look t (temp_at home name) ≡ None
  pub leads : new ≡ put t (temp_at home name) (File [])
  pub named : names_of file.path ≡ Ok (temp_at home name)
  pub empty : file.bytes ≡ Some []

free_none : (here : Option Node) (old new : Names) → where_free here old ≡ Ok new → (here ≡ None) × (old ≡ new)
free_none None old new e = (refl, cc)
free_none (Some node) old new e = absurd cc

temp_at_free : (t : Tree) (path : List ℕ) (names : Names) → free t path ≡ Ok names → (names_of path ≡ Ok names) × (look t names ≡ None)
unfolding free
temp_at_free t path names e =
    let f = and_then_ok (place t path) (λ n. where_free (look t n) n) names e in
    let g = free_none (look t f.0) f.0 names f.2 in
    (place_ok t path f.0 f.1 ∙ ap Ok g.1, ap (look t) (sym g.1) ∙ g.0)

pub temp_made : (cache : List ℕ) (number : ℕ) (home : Names) (file : PlainTemp) (t : Tree) → home_of cache ≡ Some home → answers.Temp file ≡ (apply t (steps.CreateTemp (temp_path cache number)) Plain).0 → HasTemp home file t (apply t (steps.CreateTemp (temp_path cache number)) Plain).1
unfolding apply
temp_made cache number home file t is e = by (free t (temp_path cache number)) (λ names ok. temp_at_free t (temp_path cache number) names ok) e
  where
    by : (r : Result Names Fault) → ((names : Names) → r ≡ Ok names → (names_of (temp_path cache number) ≡ Ok names) × (look t names ≡ None))
        → answers.Temp file ≡ (unless r t (λ names. (answers.Temp (made_temp (temp_path cache number)), put t names (File [])))).0
        → HasTemp home file t (unless r t (λ names. (answers.Temp (made_temp (temp_path cache number)), put t names (File [])))).1
    by (Err fault) found e = absurd cc
    by (Ok names) found e =
        let f = found names refl in
        let file_is : made_temp (temp_path cache number) ≡ file = cc in
        let named = temp_path_named cache number home is in
        let at : home ++ temp_names number ≡ names = (let both : Ok (home ++ temp_names number) ≡ Ok names = sym named ∙ f.0 in cc) in
        record {
          name = _;
          temp = refl;
          none = ap (look t) at ∙ f.1;
          leads = ap (λ (n : Names). put t n (File [])) (sym at);
          named = ap (λ (x : PlainTemp). names_of x.path) (sym file_is) ∙ named;
          empty = ap (λ (x : PlainTemp). x.bytes) (sym file_is);
        }

-- one that isn't leaves the tree
pub temp_failed : (path : List ℕ) (fault : Fault) (t : Tree) → answers.Failed fault ≡ (apply t (steps.CreateTemp path) Plain).0 → (apply t (steps.CreateTemp path) Plain).1 ≡ t
unfolding apply
temp_failed path fault t e = by (free t path) e
  where
    by : (r : Result Names Fault) → answers.Failed fault ≡ (unless r t (λ names. (answers.Temp (made_temp path), put t names (File [])))).0 → (unless r t (λ names. (answers.Temp (made_temp path), put t names (File [])))).1 ≡ t
    by (Err f) e = refl
    by (Ok names) e = absurd cc

-- ---- it is written

pub writes_stay : (moves : Moves) (t : Tree) (file last : PlainTemp) (bytes rest : List ℕ) → Takes file bytes moves last rest → tree_on t moves ≡ t
writes_stay [] t file last bytes rest takes = refl
writes_stay ((steps.Write f b, answers.Wrote g n) ∷ moves) t file last bytes rest takes =
    ap (λ (u : Tree). tree_on u moves) (writing_keeps t f b) ∙ writes_stay moves t g last (drop n bytes) rest takes.2
writes_stay moves t file last bytes rest takes = absurd takes

-- what it has, and where it lies
pub record Has (file : PlainTemp) (path bytes : List ℕ) : Type 0 where
  pub path_is : file.path ≡ path
  pub bytes_are : file.bytes ≡ Some bytes

grown_has : (file g : PlainTemp) (bytes : List ℕ) (n m : ℕ) (path : List ℕ) (o : Option (List ℕ)) → file.bytes ≡ o → (had : List ℕ) → Has file path had → answers.Wrote g n ≡ grown file bytes m o → Has g path (had ++ take n bytes)
grown_has file g bytes n m path None is had has e = absurd cc
grown_has file g bytes n m path (Some old) is had has e =
    let both = e in
    let same : g ≡ record { path = file.path; bytes = Some (old ++ take m bytes) } = cc in
    let count : n ≡ m = cc in
    let before : old ≡ had = (let k : Some old ≡ Some had = sym is ∙ has.bytes_are in cc) in
    record {
      path_is = ap (λ (x : PlainTemp). x.path) same ∙ has.path_is;
      bytes_are = ap (λ (x : PlainTemp). x.bytes) same ∙ ap (λ (l : List ℕ). Some (l ++ take m bytes)) before ∙ ap (λ (k : ℕ). Some (had ++ take k bytes)) (sym count);
    }

pub wrote_has : (t : Tree) (file g : PlainTemp) (bytes : List ℕ) (n : ℕ) (path had : List ℕ) → Has file path had → answers.Wrote g n ≡ (apply t (steps.Write file bytes) Plain).0 → Has g path (had ++ take n bytes)
unfolding apply
wrote_has t file g bytes n path had has e = grown_has file g bytes n (taken None bytes) path file.bytes refl had has e

-- after writes the file has what they took
pub record TookSo (path had bytes : List ℕ) (last : PlainTemp) (rest : List ℕ) : Type 0 where
  pub has : List ℕ
  pub file : Has last path has
  pub all : has ++ rest ≡ had ++ bytes

pub writes_take : (moves : Moves) (t : Tree) (file last : PlainTemp) (path had bytes rest : List ℕ) → Takes file bytes moves last rest → AreAnswered t moves → Has file path had → (tree_on t moves ≡ t) × TookSo path had bytes last rest
writes_take [] t file last path had bytes rest takes a has =
    (refl, record { has = had; file = subst (λ (f : PlainTemp). Has f path had) (sym takes.0) has; all = ap (λ (l : List ℕ). had ++ l) takes.1 })
writes_take ((steps.Write f b, answers.Wrote g n) ∷ moves) t file last path had bytes rest takes a has =
    let here = subst (λ (x : PlainTemp). Has x path had) (sym takes.0) has in
    let next = wrote_has t f g b n path had here a.0 in
    let later = subst (λ (u : Tree). AreAnswered u moves) (writing_keeps t f b) a.1 in
    let more = writes_take moves t g last path (had ++ take n bytes) (drop n bytes) rest takes.2 later (subst (λ (l : List ℕ). Has g path (had ++ take n l)) takes.1 next) in (
      ap (λ (u : Tree). tree_on u moves) (writing_keeps t f b) ∙ more.0,
      record {
        has = more.1.has;
        file = more.1.file;
        all = more.1.all ∙ append_assoc had (take n bytes) (drop n bytes) ∙ ap (λ (l : List ℕ). had ++ l) (take-append-drop n bytes);
      },
    )
writes_take moves t file last path had bytes rest takes a has = absurd takes

-- ---- what they come to

-- the file at the path has these bytes, and all else is as a compaction may leave it
pub record IsRewritten (durable : Bool) (home : Names) (path bytes : List ℕ) (t new : Tree) : Type 0 where
  pub to : Names
  pub at : names_of path ≡ Ok to
  pub there : look new to ≡ Some (File bytes)
  pub others : (q : Names) → (q ≡ to → ⊥) → Becomes durable home q (look t q) (look new q)

apart_at : (b : Bool) (q p : Names) → same_path q p ≡ b → (q ≡ p → ⊥) → b ≡ false
apart_at true q p is apart = absurd (apart (same_path-true q p is))
apart_at false q p is apart = refl

module _ (durable : Bool) (home : Names) (t mid made new : Tree) (file full : PlainTemp) (path bytes : List ℕ) (one : Compacted durable home t mid) (temp : HasTemp home file mid made) (has : Has full file.path bytes) (two : MovedTo full path made new) where
  abbrev spot : Names
  spot = temp_at home temp.name

  from_spot : two.old ≡ spot
  from_spot = let both : Ok two.old ≡ Ok spot = sym two.from ∙ ap names_of has.path_is ∙ temp.named in cc

  these : two.bytes ≡ bytes
  these = let both : Some two.bytes ≡ Some bytes = sym two.has ∙ has.bytes_are in cc

  new_is : new ≡ put (cut (put mid spot (File [])) spot) two.to (File bytes)
  new_is =
      two.leads ∙ ap (λ (n : Names). put (cut made n) two.to (File two.bytes)) from_spot ∙ ap (λ (b : List ℕ). put (cut made spot) two.to (File b)) these
      ∙ ap (λ (u : Tree). put (cut u spot) two.to (File bytes)) temp.leads

  gone_at : (q : Names) (b : Bool) → same_path q spot ≡ b → cond b None (cond b (Some (File [])) (look mid q)) ≡ look mid q
  gone_at q true is = sym (ap (look mid) (same_path-true q spot is) ∙ temp.none)
  gone_at q false is = refl

  as_mid : (q : Names) → look (cut (put mid spot (File [])) spot) q ≡ look mid q
  as_mid q =
      look-cut (put mid spot (File [])) spot q ∙ ap (λ o. cond (same_path q spot) None o) (look-put mid spot (File []) q)
      ∙ gone_at q (same_path q spot) refl

  pub rewritten : IsRewritten durable home path bytes t new
  rewritten = record {
    to = two.to;
    at = two.at;
    there = ap (λ (u : Tree). look u two.to) new_is ∙ look-put (cut (put mid spot (File [])) spot) two.to (File bytes) two.to ∙ ap (λ b. cond b (Some (File bytes)) (look (cut (put mid spot (File [])) spot) two.to)) (same_self two.to);
    others = λ q apart.
        let off : same_path q two.to ≡ false = apart_at (same_path q two.to) q two.to refl apart in
        let same : look new q ≡ look mid q
        = ap (λ (u : Tree). look u q) new_is ∙ look-put (cut (put mid spot (File [])) spot) two.to (File bytes) q
        ∙ ap (λ b. cond b (Some (File bytes)) (look (cut (put mid spot (File [])) spot) q)) off ∙ as_mid q in
        subst (λ o. Becomes durable home q (look t q) o) (sym same) (one q);
  }

-- a temporary file that is left is all that was added
left_old : (durable : Bool) (home q : Names) (old mid : Option Node) → Becomes durable home q old mid → mid ≡ None → old ≡ None
left_old durable home q old mid (inl same) none = sym same ∙ none
left_old durable home q old mid (inr (inl lean)) none = absurd (let wrong = sym none ∙ lean.3 in cc)
left_old durable home q old mid (inr (inr made)) none = absurd (let wrong = sym none ∙ made.2 in cc)

module _ (durable : Bool) (home : Names) (t mid made : Tree) (file : PlainTemp) (one : Compacted durable home t mid) (temp : HasTemp home file mid made) where
  left_at : (q : Names) (b : Bool) → same_path q (temp_at home temp.name) ≡ b → EndsUp durable home q (look t q) (cond b (Some (File [])) (look mid q))
  left_at q true is =
      let here = same_path-true q (temp_at home temp.name) is in
      inr (inr (inr (temp.name, here, temp.temp, left_old durable home q (look t q) (look mid q) (one q) (ap (look mid) here ∙ temp.none), refl)))
  left_at q false is = ends durable home q (look t q) (look mid q) (one q)

  pub left_over : (q : Names) → EndsUp durable home q (look t q) (look made q)
  left_over q =
      subst (λ o. EndsUp durable home q (look t q) o) (sym (ap (λ (u : Tree). look u q) temp.leads ∙ look-put mid (temp_at home temp.name) (File []) q))
      (left_at q (same_path q (temp_at home temp.name)) refl)
