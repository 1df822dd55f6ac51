-- A listing reads folders of the index and buckets of keys, and answers what they give.
use Rattle.std.proofs.{lemmas.{Grind.{common_steps}, Bool.{ltb-false}, List.{append_cancel_left, take_at, Elements.{All-nil, All-cons, All-append, All-head, All-tail, All-take}}}, Common.{rules, ◌≡◌, ◌⊎◌, inl, inr, ◌≤◌, ◌<◌, ◌+◌, ℕ, zero, suc, Bool, true, false, cond, List, [], ◌∷◌, ◌++◌, Option, Some, Ok, length, take, nat_lt, refl, sym, ap, subst, ◌∙◌, arith, append_assoc, length-append}}
use Rattle.std.specs.Prelude.{All}
use Rattle.sha1.specs.Sha1.{sha1}
use Rattle.cacache_core.specs.declared.errors.Fault.TheVariants as faults
use Rattle.cacache_core.specs.Paths.{Names, names_of, names_below, IsProperName, join, joined, bucket_names, index_area}
use Rattle.cacache_core.proofs.{JoinedNames.{joined_texts_name}, PathLemmas.{keys_have_digests}, ProperNames.{names_are_proper}}
use Rattle.cacache_store.specs.{declared.store.answer.{Kind.{Kind}, Name.{Name}}, Plain.{PlainAnswer, Fits, AreProperNames}}
use Rattle.cacache_store.specs.declared.store.answer.Kind.TheVariants as kinds
use Rattle.cacache_store.specs.declared.store.step.Step.TheVariants as steps
use Rattle.cacache_disk.specs.{declared.node.Node.{Node, TheVariants.{Folder, File, Link}}, Tree.{Tree, look, kind_of, listing, Rooted}, Apply.{apply}}
use Rattle.cacache_disk.proofs.Standing.{upper_folder}
use Rattle.cacache_entry.specs.Entry.{Entry}
use Rattle.cacache_calls.specs.{Answers.{names_in}, Steps.{bucket_path}, declared.visit.{Visit.{Visit, TheVariants.{Enter, ReadBucket}}, Task.{Task, TheVariants.{Make, Stumble}}}, Walking.{task_for_name, tasks_of, leaving}}
use Rattle.cacache_value.{specs.{Kinds.{Bucket, kind_in_area, kind_beside, path_kind, node_below}, Value.{bucket_in}, Placed.{MayStand, Placed}}, proofs.PathKinds.{kind-below}}
use Rattle.cacache_history.specs.{Setup.{Setup, home}, History.{Turn, History, now_at, IsLegal}, AddedEntries.{BucketsHaveKeys, IndexIsShallow}, ListingTurns.{IsIndexFolder, HasBucket}}
use Rattle.cacache_history.proofs.{Histories.Holding.{TurnHolds, held_at}, Listings.ToldFolders.{Told, IsAmong, names_told, child_listed}, Entries.Bucketed.{KeyedTurn}, Each.{Each}}

-- ---- what a walk has to do

-- a folder of the index at its level, or the bucket of a key
abbrev pub Visits : Setup → Visit → Type 0
Visits s (Enter p level) = IsIndexFolder s p × ((names : Names) × All IsProperName names × (length names ≤ 2) × (p ≡ joined s.cache (index_area ∷ names)) × (level ≡ length names))
Visits s (ReadBucket p) = (key : List ℕ) × (p ≡ bucket_path s.cache key)
Visits s v = ⊥

abbrev pub Tasks : Setup → List Task → Type 0
Tasks s [] = Unit {0}
Tasks s (Make v ∷ todo) = Visits s v × Tasks s todo
Tasks s (Stumble fault path ∷ todo) = ⊥

pub tasks_append : (s : Setup) (a b : List Task) → Tasks s a → Tasks s b → Tasks s (a ++ b)
tasks_append s [] b h k = k
tasks_append s (Make v ∷ a) b h k = (h.0, tasks_append s a b h.1 k)
tasks_append s (Stumble fault path ∷ a) b h k = absurd h

-- ---- what may be below the index folder

folder_high : (home : Option Names) (n : ℕ) (rest : Names) → MayStand home (Some Folder) (kind_in_area Bucket n rest) → length rest < n
folder_high home zero [] s = absurd s
folder_high home zero (x ∷ rest) s = absurd s
folder_high home (suc n) [] s = omega arith
folder_high home (suc n) (x ∷ rest) s = omega (arith, folder_high home n rest s)

file_bucket : (home : Option Names) (bytes : List ℕ) (n : ℕ) (rest : Names) → MayStand home (Some (File bytes)) (kind_in_area Bucket n rest) → kind_in_area Bucket n rest ≡ Bucket
file_bucket home bytes zero [] s = refl
file_bucket home bytes (suc n) (x ∷ rest) s = file_bucket home bytes n rest s
file_bucket home bytes n rest s = absurd s

no_link : (home : Option Names) (target : List ℕ) (n : ℕ) (rest : Names) → MayStand home (Some (Link target)) (kind_in_area Bucket n rest) → ⊥
no_link home target zero [] s = s
no_link home target (suc n) (x ∷ rest) s = no_link home target n rest s
no_link home target n rest s = s

-- no folder of the index lies deeper
folder_low : (t : Tree) (home : Option Names) (folder names : Names) → Placed home t → home ≡ Some folder → look t (folder ++ index_area ∷ names) ≡ Some Folder → length names ≤ 2
folder_low t home folder names placed here there =
    let suits : MayStand (Some folder) (Some Folder) (path_kind (Some folder) (folder ++ index_area ∷ names))
    = subst (λ o. MayStand (Some folder) o (path_kind (Some folder) (folder ++ index_area ∷ names))) there (subst (λ o. Placed o t) here placed (folder ++ index_area ∷ names)) in
    let low = folder_high (Some folder) 3 names (subst (MayStand (Some folder) (Some Folder)) (kind-below folder (index_area ∷ names)) suits) in
    omega (arith, low)

pub index_is_shallow : (h : History) → IsLegal h → IndexIsShallow h
index_is_shallow h legal before later is folder names here there = folder_low (now_at h before).tree (home h.setup) folder names (held_at h legal before later is).placed here there

pub joined_more : (path : List ℕ) (names : Names) (n : List ℕ) → joined path (names ++ n ∷ []) ≡ join (joined path names) n
joined_more path [] n = refl
joined_more path (m ∷ names) n = joined_more (join path m) names n

-- the names of a path below a folder that has names
pub below_is : (home : Option Names) (names path : Names) → names_below home names ≡ Ok path → (folder : Names) × (home ≡ Some folder) × (folder ++ names ≡ path)
below_is home names path e = grind (arith, common_steps)

module _ (s : Setup) (t : Tree) (folder names : Names) (placed : Placed (Some folder) t) (keyed : BucketsHaveKeys (Some folder) t)
    (proper : All IsProperName names) (high : length names ≤ 2) (p : List ℕ) (is : p ≡ joined s.cache (index_area ∷ names)) where
  -- the path of a name in the folder
  child : List ℕ → Names
  child n = (folder ++ index_area ∷ names) ++ n ∷ []

  child_kind : (n : List ℕ) → path_kind (Some folder) (child n) ≡ kind_in_area Bucket 3 (names ++ n ∷ [])
  unfolding child
  child_kind n = ap (kind_beside folder) (append_assoc folder (index_area ∷ names) (n ∷ [])) ∙ kind-below folder (index_area ∷ names ++ n ∷ [])

  child_path : (n : List ℕ) → joined s.cache (index_area ∷ names ++ n ∷ []) ≡ join p n
  child_path n = joined_more s.cache (index_area ∷ names) n ∙ ap (λ q. join q n) (sym is)

  child_suits : (n : List ℕ) (node : Node) → look t (child n) ≡ Some node → MayStand (Some folder) (Some node) (kind_in_area Bucket 3 (names ++ n ∷ []))
  child_suits n node there = subst (MayStand (Some folder) (Some node)) (child_kind n) (subst (λ here. MayStand (Some folder) here (path_kind (Some folder) (child n))) there (placed (child n)))

  child_enters : (n : List ℕ) (level : ℕ) → IsProperName n → level ≡ length names → length (names ++ n ∷ []) < 3 → Visits s (Enter (join p n) (level + 1))
  child_enters n level own at low =
      let all : All IsProperName (names ++ n ∷ []) = All-append IsProperName names (n ∷ []) proper (All-cons IsProperName n [] own (All-nil IsProperName)) in
      let le : length (names ++ n ∷ []) ≤ 2 = omega (arith, low) in
      ((names ++ n ∷ [], all, le, sym (child_path n)), (names ++ n ∷ [], all, le, sym (child_path n), omega (arith, at, length-append names (n ∷ []))))

  child_reads : (n : List ℕ) (node : Node) → look t (child n) ≡ Some node → kind_in_area Bucket 3 (names ++ n ∷ []) ≡ Bucket → Visits s (ReadBucket (join p n))
  unfolding child bucket_path
  child_reads n node there k =
      let own = keyed (child n) node (child_kind n ∙ k) there in
      let whole : folder ++ bucket_names own.0 ≡ child n = (let e = own.1 in cc) in
      let same : bucket_names own.0 ≡ index_area ∷ names ++ n ∷ []
      = append_cancel_left folder (bucket_names own.0) (index_area ∷ names ++ n ∷ []) (whole ∙ append_assoc folder (index_area ∷ names) (n ∷ [])) in
      (own.0, sym (ap (joined s.cache) same ∙ child_path n))

  node_task : (n : List ℕ) (level : ℕ) (node : Node) (todo : List Task) → IsProperName n → level ≡ length names → look t (child n) ≡ Some node → Tasks s todo
      → Tasks s (task_for_name false level (join p n) (kind_of node) ∷ todo)
  node_task n level Folder todo own at there h = by (nat_lt level 16) refl
    where
      by : (b : Bool) → nat_lt level 16 ≡ b → Tasks s (cond b (Make (Enter (join p n) (level + 1))) (Stumble faults.TooDeep (join p n)) ∷ todo)
      by true e = (child_enters n level own at (folder_high (Some folder) 3 (names ++ n ∷ []) (child_suits n Folder there)), h)
      by false e = absurd (omega (arith, ltb-false level 16 e, at, high))
  node_task n level (File bytes) todo own at there h =
      (child_reads n (File bytes) there (file_bucket (Some folder) bytes 3 (names ++ n ∷ []) (child_suits n (File bytes) there)), h)
  node_task n level (Link target) todo own at there h = absurd (no_link (Some folder) target 3 (names ++ n ∷ []) (child_suits n (Link target) there))

  name_tasks : (level : ℕ) (ns : List Name) → level ≡ length names → AreProperNames ns → Each (Told t (folder ++ index_area ∷ names)) ns → Tasks s (tasks_of false level p ns)
  unfolding child
  name_tasks level [] at all told = tt
  name_tasks level (n ∷ ns) at all told =
      subst (λ k. Tasks s (task_for_name false level (join p n.name) k ∷ tasks_of false level p ns)) (sym told.0.kind)
      (node_task n.name level told.0.node (tasks_of false level p ns) (All-head (λ entry. IsProperName entry.name) n ns all) at told.0.stands
      (name_tasks level ns at (All-tail (λ entry. IsProperName entry.name) n ns all) told.1))

-- the names of the path of a name in a folder of the index
pub child_named : (s : Setup) (p : List ℕ) (folder names : Names) (n : List ℕ) → All IsProperName names → home s ≡ Some folder → p ≡ joined s.cache (index_area ∷ names) → IsProperName n
    → names_of (join p n) ≡ Ok ((folder ++ index_area ∷ names) ++ n ∷ [])
child_named s p folder names n proper here is own =
    let all : All IsProperName (index_area ∷ names ++ n ∷ [])
    = All-cons IsProperName index_area (names ++ n ∷ []) (refl, refl, refl) (All-append IsProperName names (n ∷ []) proper (All-cons IsProperName n [] own (All-nil IsProperName))) in
    let path : joined s.cache (index_area ∷ names ++ n ∷ []) ≡ join p n = joined_more s.cache (index_area ∷ names) n ∙ ap (λ q. join q n) (sym is) in
    ap names_of (sym path) ∙ joined_texts_name s.cache (index_area ∷ names ++ n ∷ []) all (omega arith)
    ∙ ap (λ o. names_below o (index_area ∷ names ++ n ∷ [])) here ∙ ap Ok (sym (append_assoc folder (index_area ∷ names) (n ∷ [])))

-- a listing leaves no task after a folder
pub no_leaving : (s : Setup) (clears : Bool) (level : ℕ) (p : List ℕ) → clears ≡ false → Tasks s (leaving clears level p)
no_leaving s clears level p e = grind (arith, common_steps)

-- what a fitting answer says of the names
pub proper_names : (p : List ℕ) (a : PlainAnswer) (ns : List Name) → Fits (steps.ReadDir p) a → names_in a ≡ Ok ns → AreProperNames ns
proper_names p a ns fits e = grind (arith, common_steps)

-- the tasks that a folder brings
pub folder_tasks : (s : Setup) (turn : Turn) (p : List ℕ) (level : ℕ) (ns : List Name) (clears : Bool) → clears ≡ false → TurnHolds s turn → KeyedTurn s turn
    → steps.ReadDir p ≡ turn.move.step → Visits s (Enter p level) → names_in turn.move.answer ≡ Ok ns → Tasks s (tasks_of clears level p ns)
folder_tasks s turn p level ns true no_clear holds keyed step v e = absurd cc
folder_tasks s turn p level ns false no_clear holds keyed step v e =
    let answer : turn.move.answer ≡ (apply turn.place (steps.ReadDir p) turn.move.luck).0 = holds.answered ∙ ap (λ x. (apply turn.place x turn.move.luck).0) (sym step) in
    let told = names_told turn.place p turn.move.luck ns (ap names_in (sym answer) ∙ e) in
    let some : All IsProperName (index_area ∷ v.1.0) = All-cons IsProperName index_area v.1.0 (refl, refl, refl) v.1.1 in
    let here : names_below (home s) (index_area ∷ v.1.0) ≡ Ok told.0
    = sym (joined_texts_name s.cache (index_area ∷ v.1.0) some (omega arith)) ∙ ap names_of (sym v.1.3) ∙ told.1 in
    let f = below_is (home s) (index_area ∷ v.1.0) told.0 here in
    name_tasks s turn.place f.0 v.1.0 (subst (λ o. Placed o turn.place) f.1 holds.placed) (subst (λ o. BucketsHaveKeys o turn.place) f.1 keyed.keyed) v.1.1 v.1.2 p v.1.3 level ns v.1.4
    (proper_names p turn.move.answer ns (subst (λ x. Fits x turn.move.answer) (sym step) holds.fits) e)
    (subst (λ q. Each (Told turn.place q) ns) (sym f.2) told.2)

-- ---- a bucket that is there is found

-- a visit that leads to the bucket of a key
abbrev pub Covers : Setup → List ℕ → Visit → Type 0
Covers s key (Enter p level) =
    (names : Names) × (x : List ℕ) × (rest : Names) × (p ≡ joined s.cache (index_area ∷ names)) × (index_area ∷ names ++ x ∷ rest ≡ bucket_names key) × (level ≡ length names)
Covers s key (ReadBucket p) = p ≡ bucket_path s.cache key
Covers s key v = ⊥

abbrev pub CoversAny : Setup → List ℕ → List Task → Type 0
CoversAny s key [] = ⊥
CoversAny s key (Make v ∷ todo) = Covers s key v ⊎ CoversAny s key todo
CoversAny s key (Stumble fault path ∷ todo) = CoversAny s key todo

pub covers_left : (s : Setup) (key : List ℕ) (a b : List Task) → CoversAny s key a → CoversAny s key (a ++ b)
covers_left s key [] b h = absurd h
covers_left s key (Make v ∷ a) b (inl c) = inl c
covers_left s key (Make v ∷ a) b (inr h) = inr (covers_left s key a b h)
covers_left s key (Stumble fault path ∷ a) b h = covers_left s key a b h

pub covers_right : (s : Setup) (key : List ℕ) (a b : List Task) → CoversAny s key b → CoversAny s key (a ++ b)
covers_right s key [] b h = h
covers_right s key (Make v ∷ a) b h = inr (covers_right s key a b h)
covers_right s key (Stumble fault path ∷ a) b h = covers_right s key a b h

among_covers : (s : Setup) (key : List ℕ) (level : ℕ) (p : List ℕ) (n : Name) (ns : List Name) → IsAmong n ns → CoversAny s key (task_for_name false level (join p n.name) n.kind ∷ [])
    → CoversAny s key (tasks_of false level p ns)
among_covers s key level p n [] among c = absurd among
among_covers s key level p n (m ∷ ns) (inl same) c = search (rules, covers_left)
among_covers s key level p n (m ∷ ns) (inr among) c =
    covers_right s key (task_for_name false level (join p m.name) m.kind ∷ []) (tasks_of false level p ns) (among_covers s key level p n ns among c)

-- the file of a bucket that the value holds
bucket_file : (o : Option Node) (entries : List Entry) → bucket_in o ≡ Some entries → (bytes : List ℕ) × (o ≡ Some (File bytes))
bucket_file o entries e = grind (arith, common_steps)

-- the first names of a bucket's path are proper
front_proper : (key : List ℕ) (front rest : Names) → front ++ rest ≡ bucket_names key → All IsProperName front
front_proper key front rest e =
    subst (All IsProperName) (ap (take (length front)) (sym e) ∙ take_at front rest (length front) refl)
    (All-take IsProperName (length front) (bucket_names key) (names_are_proper.buckets (sha1 key) (keys_have_digests key)))

module _ (s : Setup) (key : List ℕ) (t : Tree) (rooted : Rooted t) (p : List ℕ) (level : ℕ) (ns : List Name) (folder names : Names) (x : List ℕ) where
  child_at : (kind : Kind) → IsAmong (record { name = x; kind = kind }) ns → CoversAny s key (task_for_name false level (join p x) kind ∷ []) → CoversAny s key (tasks_of false level p ns)
  child_at kind among c = among_covers s key level p (record { name = x; kind = kind }) ns among c

  -- what leads on to the bucket is listed
  leads_on : (rest : Names) (bytes : List ℕ) → p ≡ joined s.cache (index_area ∷ names) → index_area ∷ names ++ x ∷ rest ≡ bucket_names key → level ≡ length names
      → look t (folder ++ x ∷ rest) ≡ Some (File bytes) → listing t folder ≡ ns → CoversAny s key (tasks_of false level p ns)
  unfolding bucket_path
  leads_on [] bytes is whole at there all =
      child_at kinds.File (subst (IsAmong (record { name = x; kind = kinds.File })) all (child_listed t folder x (File bytes) there))
      (inl (ap (λ q. join q x) is ∙ sym (joined_more s.cache (index_area ∷ names) x) ∙ ap (joined s.cache) whole))
  leads_on (y ∷ ys) bytes is whole at there all =
      let upper : look t (folder ++ x ∷ []) ≡ Some Folder = upper_folder t (folder ++ x ∷ []) ys y (File bytes) rooted (ap (look t) (append_assoc folder (x ∷ []) (y ∷ ys)) ∙ there) in
      child_at kinds.Folder (subst (IsAmong (record { name = x; kind = kinds.Folder })) all (child_listed t folder x Folder upper)) (by (nat_lt level 16) refl)
    where
      deeper : Covers s key (Enter (join p x) (level + 1))
      deeper = (
        names ++ x ∷ [],
        y,
        ys,
        ap (λ q. join q x) is ∙ sym (joined_more s.cache (index_area ∷ names) x),
        append_assoc (index_area ∷ names) (x ∷ []) (y ∷ ys) ∙ whole,
        omega (arith, at, length-append names (x ∷ [])),
      )

      by : (b : Bool) → nat_lt level 16 ≡ b → CoversAny s key (cond b (Make (Enter (join p x) (level + 1))) (Stumble faults.TooDeep (join p x)) ∷ [])
      by true e = inl deeper
      by false e =
          let four : length (index_area ∷ names ++ x ∷ y ∷ ys) ≡ 4 = ap (λ (l : Names). length l) whole in
          absurd (omega (arith, ltb-false level 16 e, at, four, length-append names (x ∷ y ∷ ys)))

-- a folder on the way to a bucket that is there brings what leads on to it
pub folder_covers : (s : Setup) (turn : Turn) (p : List ℕ) (level : ℕ) (ns : List Name) (clears : Bool) → clears ≡ false → TurnHolds s turn
    → steps.ReadDir p ≡ turn.move.step → names_in turn.move.answer ≡ Ok ns → (key : List ℕ) → HasBucket s key turn → Covers s key (Enter p level) → CoversAny s key (tasks_of clears level p ns)
folder_covers s turn p level ns true no_clear holds step e key has c = absurd cc
folder_covers s turn p level ns false no_clear holds step e key has c =
    let answer : turn.move.answer ≡ (apply turn.place (steps.ReadDir p) turn.move.luck).0 = holds.answered ∙ ap (λ x. (apply turn.place x turn.move.luck).0) (sym step) in
    let told = names_told turn.place p turn.move.luck ns (ap names_in (sym answer) ∙ e) in
    let front : Names = index_area ∷ c.0 in
    let here : names_below (home s) (index_area ∷ c.0) ≡ Ok told.0
    = sym (joined_texts_name s.cache (index_area ∷ c.0) (front_proper key (index_area ∷ c.0) (c.1 ∷ c.2) c.4) (omega arith)) ∙ ap names_of (sym c.3) ∙ told.1 in
    let f = below_is (home s) (index_area ∷ c.0) told.0 here in
    let file = bucket_file (node_below (home s) turn.place (bucket_names key)) has.0 has.1 in
    let there : look turn.place (told.0 ++ c.1 ∷ c.2) ≡ Some (File file.0)
    = ap (λ q. look turn.place (q ++ c.1 ∷ c.2)) (sym f.2) ∙ ap (look turn.place) (append_assoc f.0 (index_area ∷ c.0) (c.1 ∷ c.2) ∙ ap (λ q. f.0 ++ q) c.4)
    ∙ ap (λ o. node_below o turn.place (bucket_names key)) (sym f.1) ∙ file.1 in
    leads_on s key turn.place holds.rooted p level ns told.0 c.0 c.1 c.2 file.0 c.3 c.4 c.5 there told.3
