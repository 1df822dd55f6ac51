-- Lookups, reads by key and listings answer on one tree what they may answer on another, if reads do.
-- Lookups, reads by key and listings don't see that a tree lacks idle contents.
use Rattle.std.proofs.{lemmas.{Grind.{common_steps}, List.Elements.{All-cons, All-head, All-nil, All-tail}, Slice.Eq.{bytes_eq-Decides}}, Common.{rules, ◌≡◌, ◌⊎◌, inl, inr, ℕ, ◌+◌, ◌-◌, List, [], ◌∷◌, ◌++◌, Bool, true, false, cond, nat_le, nat_lt, Option, Some, None, Result, Ok, Err, length, take, refl, sym, ap, subst, ◌∙◌, arith, append-nil, append_assoc, zero, suc, bytes_eq, ap₂}}
use Rattle.hex.specs.Hex.{encode_lower}
use Rattle.sha1.specs.Sha1.{sha1}
use Rattle.cacache_core.specs.{declared.errors.Fault.{Fault, TheVariants.{NotFound, TooDeep, IsADirectory, Device}}, Matching.{meets}, Paths.{Names, names_of, home_of, IsProperName, join, bucket_names, cut_digits, index_area, content_area, temp_area}}
use Rattle.cacache_core.proofs.{JoinedNames.{joined_texts_name}, PathLemmas.{keys_have_digests}, ProperNames.{names_are_proper, proper_bucket_folder}}
use Rattle.cacache_store.specs.{declared.store.{answer.{Kind.{Kind}, Name.{Name}}, step.Step.TheVariants.{ReadAll, ReadDir}}, Plain.{Fits, AreProperNames, PlainStep, PlainAnswer}}
use Rattle.cacache_disk.specs.{declared.luck.Luck.TheVariants.{Plain}, Tree.{Tree}, LedTo.{file_at}, Apply.{apply}}
use Rattle.cacache_entry.specs.Bucket.{Found}
use Rattle.cacache_calls.specs.{declared.{carried.{Aim.{Aim}, Lookup.{Lookup}}, reply.Reply.{Reply}, visit.{Task.{Task, TheVariants.{Make, Stumble}}, Visit.{Visit, TheVariants.{Enter, ReadBucket}}}}, Reading.{found_in, found_for, found_content}, Runs.{Moves, Runs}, State.{Item, Site, State, Walk, looking, over, reading, walking}, Steps.{bucket_path, content_path}, Table.{after, opening, wants}, Walking.{EachVisit, after_visit, failed, give, items_in, most, task_for_name, tasks_of, too_many, visit_step, walk_on}}
use Rattle.cacache_laws.specs.trees.{Answers.{AnsweredBy}, Collecting.{ReadsAsBefore}, Compacting.{compact_text}, Idle.{Finds, LacksIdle}}
use Rattle.cacache_laws.proofs.trees.{Twins.{Agreeing.{said}, Twice.{content_read}}, Compactions.{CompactTexts.{compact_texts_answer}, LeanReads.{Clear, InArea, NoneLean, SameOrLean, Sees, clear_area, dir_alike, file_alike, sees_clear}}, Covering.{named_on}, Stepping.{read_answer}, Listing.{lists}}
use Rattle.cacache_value.specs.Kinds.{PathKind, Bucket, Content, Elsewhere, Stray, Temporary, kind_below, kind_beside, kind_in_area}
use Rattle.cacache_store.specs.declared.store.answer.Answer.TheVariants as answers
use Rattle.cacache_store.specs.declared.store.answer.Kind.TheVariants as kinds
use Rattle.cacache_calls.specs.declared.carried.Aim.TheVariants as aims
use Rattle.cacache_calls.specs.declared.carried.Content as carried
use Rattle.cacache_calls.specs.declared.command.Command.TheVariants as commands

fits_said : (path : List ℕ) (r : Result (List ℕ) Fault) → Fits (ReadAll path) (said r)
fits_said path r = grind (arith, common_steps)

abbrev IsReadAim : Aim → Type 0
IsReadAim aims.Report = Unit {0}
IsReadAim aims.Read = Unit {0}
IsReadAim other = ⊥

-- two answers to a read are the same, or those of a bucket and of its compacted bytes
abbrev pub Alike : PlainAnswer → PlainAnswer → Type 0
Alike x y = (x ≡ y) ⊎ ((durable : Bool) × (b : List ℕ) × (x ≡ answers.Bytes (compact_text durable b)) × (y ≡ answers.Bytes b))

-- so it is in the index; folders there are listed alike, and contents that lookups lead to are read alike
pub record ReadsAlike (cache : List ℕ) (home : Names) (t new : Tree) : Type 0 where
  pub folders : (path : List ℕ) (ns : Names) → names_of path ≡ Ok (home ++ index_area ∷ ns) → (apply new (ReadDir path) Plain).0 ≡ (apply t (ReadDir path) Plain).0
  pub files : (path : List ℕ) (ns : Names) → names_of path ≡ Ok (home ++ index_area ∷ ns) → Alike (apply new (ReadAll path) Plain).0 (apply t (ReadAll path) Plain).0
  pub contents : (key : List ℕ) (f : Found) → Finds cache t key f → (apply new (ReadAll (content_path cache f.integrity)) Plain).0 ≡ (apply t (ReadAll (content_path cache f.integrity)) Plain).0

module _ (site : Site) (home : Names) (t new : Tree) (at_home : home_of site.cache ≡ Some home) (alike : ReadsAlike site.cache home t new) where
  -- ---- states on the way

  -- a path in the index
  abbrev InIndex : List ℕ → Type 0
  InIndex path = (names : Names) × (names_of path ≡ Ok (home ++ index_area ∷ names))

  abbrev Visits : Visit → Type 0
  Visits (Enter p level) = InIndex p
  Visits (ReadBucket p) = InIndex p
  Visits other = ⊥

  abbrev Ready : State → Type 0
  Ready (looking l) = (l.cache ≡ site.cache) × IsReadAim l.aim
  Ready (reading k) = (apply new (ReadAll (content_path k.cache k.integrity)) Plain).0 ≡ (apply t (ReadAll (content_path k.cache k.integrity)) Plain).0
  Ready (walking w v todo) = (w.clears ≡ false) × Visits v × EachVisit Visits todo
  Ready (over reply) = Unit {0}
  Ready other = ⊥

  -- ---- paths

  bucket_named : (key : List ℕ) → names_of (bucket_path site.cache key) ≡ Ok (home ++ bucket_names key)
  unfolding bucket_path
  bucket_named key = joined_texts_name site.cache (bucket_names key) (names_are_proper.buckets (sha1 key) (keys_have_digests key)) (omega arith) ∙ rw at_home refl

  index_named : InIndex (join site.cache index_area)
  index_named = ([], joined_texts_name site.cache (index_area ∷ []) (All-cons IsProperName index_area [] proper_bucket_folder (All-nil IsProperName)) (omega arith) ∙ rw at_home refl)

  deeper : (p name : List ℕ) → InIndex p → IsProperName name → InIndex (join p name)
  deeper p name (ns, named) proper = (ns ++ name ∷ [], named_on p (home ++ index_area ∷ ns) name named proper ∙ ap Ok (append_assoc home (index_area ∷ ns) (name ∷ [])))

  -- ---- one step

  record Steps (s : State) (a : PlainStep) (x : PlainAnswer) : Type 0 where
    same : after s (apply t a Plain).0 ≡ after s x
    fits : Fits a (apply t a Plain).0
    ready : Ready (after s (apply t a Plain).0)

  fits_read : (path : List ℕ) → Fits (ReadAll path) (apply t (ReadAll path) Plain).0
  fits_read path = subst (Fits (ReadAll path)) (sym (read_answer t path)) (fits_said path (file_at t path IsADirectory))

  after_alike : (s : State) (x y : PlainAnswer) → ((durable : Bool) (b : List ℕ) → after s (answers.Bytes b) ≡ after s (answers.Bytes (compact_text durable b))) → Alike x y → after s y ≡ after s x
  after_alike s x y lean h = grind (arith, common_steps)

  -- ---- lookups

  ready_for : (l : Lookup) (aim : Aim) (o : Option Found) → IsReadAim aim → ((f : Found) → o ≡ Some f → Ready (reading (found_content l f))) → Ready (found_for l aim o)
  ready_for l aim o ok fixed = grind (arith, common_steps)

  ready_found : (l : Lookup) (u : PlainAnswer) → l.cache ≡ site.cache → IsReadAim l.aim → (apply t (ReadAll (bucket_path site.cache l.key)) Plain).0 ≡ u → Ready (after (looking l) u)
  unfolding found_in
  ready_found l (answers.Bytes b) at ok e =
      ready_for l l.aim (found_in l.key b) ok (λ f found.
      subst (λ (c : List ℕ). (apply new (ReadAll (content_path c f.integrity)) Plain).0 ≡ (apply t (ReadAll (content_path c f.integrity)) Plain).0) (sym at)
      (alike.contents l.key f (b, e, found)))
  ready_found l (answers.Failed NotFound) at ok e = ready_for l l.aim None ok (λ f wrong. absurd cc)
  ready_found l u at ok e = tt

  lean_found : (l : Lookup) (durable : Bool) (b : List ℕ) → after (looking l) (answers.Bytes b) ≡ after (looking l) (answers.Bytes (compact_text durable b))
  unfolding found_in
  lean_found l durable b = ap (found_for l l.aim) (sym ((compact_texts_answer durable b).finds l.key))

  -- ---- contents

  ready_checked : (b : Bool) (x y : Reply) → Ready (cond b (over x) (over y))
  ready_checked b x y = grind (arith, common_steps)

  ready_read : (k : carried.Content) (u : PlainAnswer) → Ready (after (reading k) u)
  ready_read k u = grind (arith, ready_checked)

  -- ---- walks

  ready_given : (b : Bool) (items more : List Item) (left : ℕ) (todo : List Task) → ((items : List Item) → Ready (walk_on todo (lists items left))) → Ready (cond b (walk_on todo (lists (items ++ more) left)) (too_many (lists (take most (items ++ more)) left)))
  ready_given b items more left todo next = grind (arith, common_steps)

  ready_on : (todo : List Task) (items : List Item) (left : ℕ) → EachVisit Visits todo → Ready (walk_on todo (lists items left))
  ready_on [] items left each = tt
  ready_on (Stumble fault path ∷ todo) items left each = ready_given (nat_le (length items + length (failed fault ∷ [])) most) items (failed fault ∷ []) left todo (λ items. ready_on todo items left each)
  ready_on (Make v ∷ todo) items left each = (refl, each.0, each.1)

  ready_miss : (todo : List Task) (items : List Item) (left : ℕ) (fault : Fault) → EachVisit Visits todo → Ready (give (lists items left) (failed fault ∷ []) (walk_on todo))
  ready_miss todo items left fault each = ready_given (nat_le (length items + length (failed fault ∷ [])) most) items (failed fault ∷ []) left todo (λ items. ready_on todo items left each)

  folder_visits : (b : Bool) (p : List ℕ) (level : ℕ) (todo : List Task) → InIndex p → EachVisit Visits todo → EachVisit Visits (cond b (Make (Enter p level)) (Stumble TooDeep p) ∷ todo)
  folder_visits b p level todo at each = grind (arith, common_steps)

  name_visits : (kind : Kind) (level : ℕ) (p : List ℕ) (todo : List Task) → InIndex p → EachVisit Visits todo → EachVisit Visits (task_for_name false level p kind ∷ todo)
  name_visits kind level p todo at each = grind (arith, folder_visits)

  names_visit : (ns : List Name) (level : ℕ) (p : List ℕ) (todo : List Task) → InIndex p → AreProperNames ns → EachVisit Visits todo → EachVisit Visits (tasks_of false level p ns ++ todo)
  names_visit [] level p todo at proper each = each
  names_visit (n ∷ ns) level p todo at proper each =
      name_visits n.kind level (join p n.name) (tasks_of false level p ns ++ todo) (deeper p n.name at (All-head (λ (e : Name). IsProperName e.name) n ns proper))
      (names_visit ns level p todo at (All-tail (λ (e : Name). IsProperName e.name) n ns proper) each)

  ready_entered : (b : Bool) (todo : List Task) (items : List Item) (left less : ℕ) → EachVisit Visits todo → Ready (cond b (walk_on todo (lists items less)) (too_many (lists items left)))
  ready_entered b todo items left less each = grind (arith, ready_on)

  ready_folder : (p : List ℕ) (level : ℕ) (todo : List Task) (items : List Item) (left : ℕ) (x : PlainAnswer) → InIndex p → EachVisit Visits todo → Fits (ReadDir p) x → Ready (after_visit (lists items left) (Enter p level) todo x)
  ready_folder p level todo items left (answers.Names ns) at each fits = search (rules, ready_entered, names_visit)
  ready_folder p level todo items left (answers.Failed fault) at each fits = ready_miss todo items left fault each
  ready_folder p level todo items left (answers.NoMemory step) at each fits = tt
  ready_folder p level todo items left other at each fits = ready_miss todo items left Device each

  ready_bucket : (p : List ℕ) (todo : List Task) (items : List Item) (left : ℕ) (x : PlainAnswer) → EachVisit Visits todo → Ready (after_visit (lists items left) (ReadBucket p) todo x)
  ready_bucket p todo items left x each = grind (arith, ready_given, ready_on, ready_miss)

  lean_listed : (w : Walk) (p : List ℕ) (todo : List Task) (durable : Bool) (b : List ℕ) → after (walking w (ReadBucket p) todo) (answers.Bytes b) ≡ after (walking w (ReadBucket p) todo) (answers.Bytes (compact_text durable b))
  lean_listed w p todo durable b = ap (λ items. give w items (walk_on todo)) (sym ((compact_texts_answer durable b).lists))

  -- a walk that lists
  as_list : (w : Walk) → w.clears ≡ false → lists w.items w.left ≡ w
  as_list w e = ap (λ (b : Bool). record { clears = b; items = w.items; left = w.left }) (sym e)

  -- ---- each step

  abbrev Goes : State → PlainStep → Type 0
  Goes s a = (x : PlainAnswer) → Fits a x → x ≡ (apply new a Plain).0 → Steps s a x

  look_goes : (l : Lookup) → l.cache ≡ site.cache → IsReadAim l.aim → Goes (looking l) (ReadAll (bucket_path site.cache l.key))
  look_goes l at ok x fits e =
      let path = bucket_path site.cache l.key in
      let both = alike.files (bucket_path site.cache l.key) (cut_digits (encode_lower (sha1 l.key))) (bucket_named l.key) in
      record {
        same = after_alike (looking l) x (apply t (ReadAll path) Plain).0 (lean_found l) (subst (λ z. Alike z (apply t (ReadAll path) Plain).0) (sym e) both);
        fits = fits_read (bucket_path site.cache l.key);
        ready = ready_found l (apply t (ReadAll path) Plain).0 at ok refl;
      }

  read_goes : (k : carried.Content) → Ready (reading k) → Goes (reading k) (ReadAll (content_path k.cache k.integrity))
  read_goes k fixed x fits e = search (rules, fits_read, ready_read)

  walk_goes : (items : List Item) (left : ℕ) (v : Visit) (todo : List Task) → Visits v → EachVisit Visits todo → Goes (walking (lists items left) v todo) (visit_step v)
  walk_goes items left (Enter p level) todo at each x fits e =
      let same = alike.folders p at.0 at.1 in
      let fit = subst (Fits (ReadDir p)) (e ∙ same) fits in
      record {
        same = ap (after (walking (lists items left) (Enter p level) todo)) (sym (e ∙ same));
        fits = fit;
        ready = ready_folder p level todo items left (apply t (ReadDir p) Plain).0 at each fit;
      }
  walk_goes items left (ReadBucket p) todo at each x fits e =
      record {
        same = after_alike (walking (lists items left) (ReadBucket p) todo) x (apply t (ReadAll p) Plain).0 (lean_listed (lists items left) p todo) (subst (λ z. Alike z (apply t (ReadAll p) Plain).0) (sym e) (alike.files p at.0 at.1));
        fits = fits_read p;
        ready = ready_bucket p todo items left (apply t (ReadAll p) Plain).0 each;
      }
  walk_goes items left v todo at each x fits e = absurd at

  goes : (s : State) (a : PlainStep) → Ready s → wants s ≡ Some a → Goes s a
  goes (looking l) a ready w =
      let step : ReadAll (bucket_path l.cache l.key) ≡ a = (let e : Some (ReadAll (bucket_path l.cache l.key)) ≡ Some a = w in cc) in
      subst (λ b. Goes (looking l) b) (ap (λ (c : List ℕ). ReadAll (bucket_path c l.key)) (sym ready.0) ∙ step) (look_goes l ready.0 ready.1)
  goes (reading k) a ready w =
      let step : ReadAll (content_path k.cache k.integrity) ≡ a = (let e : Some (ReadAll (content_path k.cache k.integrity)) ≡ Some a = w in cc) in
      subst (λ b. Goes (reading k) b) step (read_goes k ready)
  goes (walking w v todo) a ready e =
      let step : visit_step v ≡ a = (let f : Some (visit_step v) ≡ Some a = e in cc) in
      subst (λ b. Goes (walking w v todo) b) step
      (subst (λ (x : Walk). Goes (walking x v todo) (visit_step v)) (as_list w ready.0) (walk_goes w.items w.left v todo ready.1 ready.2))
  goes (over reply) a ready w = absurd (let wrong : None ≡ Some a = w in cc)
  goes other a ready w = absurd ready

  follows : (moves : Moves) (s : State) (r : Reply) → Ready s → Runs s moves r → AnsweredBy new moves → (other : Moves) × Runs s other r × AnsweredBy t other
  follows [] s r ready run a = ([], run, tt)
  follows (m ∷ moves) s r ready run a =
      let k = goes s m.0 ready run.0 m.1 run.1 a.0 in
      let rest = follows moves (after s (apply t m.0 Plain).0) r k.ready (subst (λ x. Runs x moves r) (sym k.same) run.2) a.1 in
      ((m.0, ((apply t m.0 Plain).0)) ∷ rest.0, (run.0, k.fits, rest.1), (refl, rest.2))

-- if reads are alike, calls answer as before
pub reads_as_before : (site : Site) (home : Names) (t new : Tree) → home_of site.cache ≡ Some home → ReadsAlike site.cache home t new → ReadsAsBefore site t new
reads_as_before site home t new at_home alike = record {
  finds = λ key r a. follows site home t new at_home alike a.0 (opening site (commands.Find key)) r (refl, tt) a.1 a.2;
  gets = λ key r a. follows site home t new at_home alike a.0 (opening site (commands.Get key)) r (refl, tt) a.1 a.2;
  lists = λ r a. follows site home t new at_home alike a.0 (opening site commands.Ls) r (refl, index_named site home t new at_home alike, tt) a.1 a.2;
}

-- ---- contents lie in their area

not_content : (file : PathKind) (n : ℕ) (rest : Names) → (file ≡ Content → ⊥) → kind_in_area file n rest ≡ Content → ⊥
not_content file zero [] other e = other e
not_content file (suc n) (name ∷ rest) other e = not_content file n rest other e
not_content file n rest other e = cc

other_area : (b c : Bool) (rest : Names) → cond b (kind_in_area Bucket 3 rest) (cond c (kind_in_area Temporary 1 rest) Stray) ≡ Content → ⊥
other_area b c rest e = grind (arith, not_content)

inner : (q : Names) → kind_below q ≡ Content → (rest : Names) × (q ≡ content_area ∷ rest)
inner [] e = absurd cc
inner (area ∷ rest) e = by (bytes_eq area content_area) refl e
  where
    by : (b : Bool) → bytes_eq area content_area ≡ b → cond b (kind_in_area Content 4 rest) (cond (bytes_eq area index_area) (kind_in_area Bucket 3 rest) (cond (bytes_eq area temp_area) (kind_in_area Temporary 1 rest) Stray)) ≡ Content
        → (more : Names) × (area ∷ rest ≡ content_area ∷ more)
    by true is k = (rest, ap (λ (a : List ℕ). a ∷ rest) ((bytes_eq-Decides area content_area).0 is))
    by false is k = absurd (other_area (bytes_eq area index_area) (bytes_eq area temp_area) rest k)

in_area : (home q : Names) → kind_beside home q ≡ Content → InArea home content_area q
in_area [] q e = inner q e
in_area (n ∷ home) [] e = absurd cc
in_area (n ∷ home) (first ∷ q) e = by (bytes_eq n first) refl e (in_area home q)
  where
    by : (b : Bool) → bytes_eq n first ≡ b → cond b (kind_beside home q) Elsewhere ≡ Content → (kind_beside home q ≡ Content → InArea home content_area q) → InArea (n ∷ home) content_area (first ∷ q)
    by true is k more = let rest = more k in (rest.0, ap₂ (λ (a : List ℕ) (l : Names). a ∷ l) (sym ((bytes_eq-Decides n first).0 is)) rest.1)
    by false is k more = absurd cc

-- ---- both trees

module _ (cache : List ℕ) (home : Names) (full lean : Tree) (is : home_of cache ≡ Some home) (l : LacksIdle cache home full lean) where
  -- except for the contents
  at_clear : (q : Names) → Clear home content_area q → SameOrLean NoneLean full lean q
  at_clear q clear = elim (l.nodes q) [ inl same ↦ inl same | inr gap ↦ absurd (clear (in_area home q gap.1.kind)) ]

  sees : Sees home full lean NoneLean (Clear home content_area)
  sees = sees_clear home full lean NoneLean content_area at_clear (λ q x y none k. none) l.links

  clear : (ns : Names) → Clear home content_area (home ++ index_area ∷ ns)
  clear ns = clear_area home content_area ns index_area refl refl

  files_alike : (path : List ℕ) (ns : Names) → names_of path ≡ Ok (home ++ index_area ∷ ns) → Alike (apply lean (ReadAll path) Plain).0 (apply full (ReadAll path) Plain).0
  files_alike path ns named =
      elim (file_alike home full lean NoneLean (Clear home content_area) sees path (home ++ index_area ∷ ns) named (clear ns) (at_clear (home ++ index_area ∷ ns) (clear ns))) [
        | inl same ↦ inl (read_answer lean path ∙ ap said same ∙ sym (read_answer full path))
        | inr none ↦ absurd none.2
      ]

  folders_alike : (path : List ℕ) (ns : Names) → names_of path ≡ Ok (home ++ index_area ∷ ns) → (apply lean (ReadDir path) Plain).0 ≡ (apply full (ReadDir path) Plain).0
  folders_alike path ns named =
      dir_alike home full lean NoneLean (Clear home content_area) sees path (home ++ index_area ∷ ns) named (clear ns) (at_clear (home ++ index_area ∷ ns) (clear ns))
      (λ name. subst (SameOrLean NoneLean full lean) (sym (append_assoc home (index_area ∷ ns) (name ∷ []))) (at_clear (home ++ index_area ∷ (ns ++ name ∷ [])) (clear (ns ++ name ∷ []))))

  alike : ReadsAlike cache home full lean
  alike = record { folders = folders_alike; files = files_alike; contents = content_read cache home full lean is l }

-- each lookup and each verified read by key answers on the lean tree what it may answer on the full
pub idle_is_unseen : (site : Site) (home : Names) (full lean : Tree) → home_of site.cache ≡ Some home → LacksIdle site.cache home full lean
    → ReadsAsBefore site full lean
idle_is_unseen site home full lean is l = reads_as_before site home full lean is (alike site.cache home full lean is l)
