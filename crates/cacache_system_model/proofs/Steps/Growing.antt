-- Trees in which the folders of a path are made one by one.
use Rattle.std.proofs.Common.{◌≡◌, ◌⊎◌, ◌≤◌, ◌==◌, ◌+◌, ◌-◌, ℕ, zero, suc, Bool, false, cond, List, [], ◌∷◌, ◌++◌, length, refl, sym, ap, subst, ◌∙◌, inl, inr, arith, append-nil, append_assoc, ne_eqb, zero-add, add-zero}
use Rattle.std.specs.Prelude.{Option, None, Some}
use Rattle.cacache_core.specs.{declared.errors.Fault.{Fault, TheVariants.{NotFound, AlreadyExists, NotADirectory}}, Paths.{Names}}
use Rattle.cacache_disk.specs.{declared.node.Node.{Node, TheVariants.{Folder, File, Link}}, Tree.{Tree, look, put, Rooted, AreProper, is_folder}, LedTo.{way_fault, through, dirs_fault, is_in_way}, Apply.{make_some}}
use Rattle.cacache_disk.proofs.{PutNodes.{look-put}, Roots.{put_rooted, front_proper, same_folder, same_self, no_fault, dirs_fault-put}, Standing.{upper_folder, way_clear, above_missing}, PathTexts.{make_none}}

-- ---- what is on the way

-- if folders can be made, only folders are on the path
clear_below : (t : Tree) (p above rest : Names) → is_in_way (look t p) ≡ false → dirs_fault t p (above ++ rest) ≡ None → is_in_way (look t (p ++ above)) ≡ false
clear_below t p [] rest here none = ap (λ (n : Names). is_in_way (look t n)) (append-nil p) ∙ here
clear_below t p (name ∷ above) rest here none =
    let g = no_fault (is_in_way (look t (p ++ name ∷ []))) (cond (length (above ++ rest) == 0) AlreadyExists NotADirectory) (dirs_fault t (p ++ name ∷ []) (above ++ rest)) none in
    ap (λ (n : Names). is_in_way (look t n)) (sym (append_assoc p (name ∷ []) above)) ∙ clear_below t (p ++ name ∷ []) above rest g.0 g.1

pub clear_at : (t : Tree) (all front rest : Names) → Rooted t → dirs_fault t [] all ≡ None → all ≡ front ++ rest → is_in_way (look t front) ≡ false
clear_at t all front rest rooted none cut = clear_below t [] front rest (ap is_in_way rooted.top) (ap (dirs_fault t []) (sym cut) ∙ none)

-- the way there is clear, or something on it is missing
abbrev pub WayOrGone : Option Fault → Type 0
WayOrGone fault = (fault ≡ None) ⊎ (fault ≡ Some NotFound)

way_here : (t : Tree) (here : Option Node) (later : Option Fault) → is_in_way here ≡ false → WayOrGone later → WayOrGone (through here later)
way_here t None later none rest = inr refl
way_here t (Some Folder) later none rest = rest
way_here t here later none rest = absurd cc

way_below : (t : Tree) (p front rest : Names) → dirs_fault t p (front ++ rest) ≡ None → WayOrGone (way_fault t p front)
way_below t p (name ∷ next ∷ front) rest none =
    let g = no_fault (is_in_way (look t (p ++ name ∷ []))) (cond (length (next ∷ front ++ rest) == 0) AlreadyExists NotADirectory) (dirs_fault t (p ++ name ∷ []) (next ∷ front ++ rest)) none in
    way_here t (look t (p ++ name ∷ [])) (way_fault t (p ++ name ∷ []) (next ∷ front)) g.0 (way_below t (p ++ name ∷ []) (next ∷ front) rest g.1)
way_below t p front rest none = inl refl

pub way_at : (t : Tree) (all front rest : Names) → dirs_fault t [] all ≡ None → all ≡ front ++ rest → WayOrGone (way_fault t [] front)
way_at t all front rest none cut = way_below t [] front rest (ap (dirs_fault t []) (sym cut) ∙ none)

-- the way to a name in a folder is clear
way_in : (t : Tree) (p above : Names) (name : List ℕ) → Rooted t → look t (p ++ above) ≡ Some Folder → way_fault t p (above ++ name ∷ []) ≡ None
way_in t p [] name rooted is = refl
way_in t p (a ∷ []) name rooted is = ap (λ (o : Option Node). through o None) is
way_in t p (a ∷ b ∷ above) name rooted is =
    let deeper = ap (look t) (append_assoc p (a ∷ []) (b ∷ above)) ∙ is in
    ap (λ (o : Option Node). through o (way_fault t (p ++ a ∷ []) (b ∷ above ++ name ∷ []))) (upper_folder t (p ++ a ∷ []) above b Folder rooted deeper)
    ∙ way_in t (p ++ a ∷ []) (b ∷ above) name rooted deeper

-- the way to a folder, or to a name in it
pub way_more : (t : Tree) (base next : Names) → Rooted t → look t base ≡ Some Folder → (next ≡ base) ⊎ ((name : List ℕ) × (next ≡ base ++ name ∷ [])) → way_fault t [] next ≡ None
way_more t base next rooted is (inl same) = ap (way_fault t []) same ∙ way_clear t [] base Folder rooted is
way_more t base next rooted is (inr (name, same)) = ap (way_fault t []) same ∙ way_in t [] base name rooted is

-- ---- folders that are made

stands_on : (t : Tree) (p above : Names) (name : List ℕ) (node : Node) → Rooted t → look t (p ++ name ∷ above) ≡ Some node → (here : Node) × (look t (p ++ name ∷ []) ≡ Some here)
stands_on t p [] name node rooted is = (node, is)
stands_on t p (next ∷ above) name node rooted is =
    (Folder, upper_folder t (p ++ name ∷ []) above next node rooted (ap (look t) (append_assoc p (name ∷ []) (next ∷ above)) ∙ is))

make_over : (t : Tree) (p rest : Names) (name : List ℕ) (node : Node) (most : ℕ) → look t (p ++ name ∷ []) ≡ Some node → make_some t p (name ∷ rest) most ≡ make_some t (p ++ name ∷ []) rest most
make_over t p rest name node most is = rw (is, make_some) refl

make_here : (t : Tree) (p rest : Names) (name : List ℕ) (most : ℕ) → look t (p ++ name ∷ []) ≡ None → make_some t p (name ∷ rest) (suc most) ≡ make_some (put t (p ++ name ∷ []) Folder) (p ++ name ∷ []) rest most
make_here t p rest name most is =
    let some : (suc most == 0) ≡ false = ne_eqb (suc most) 0 (λ e. omega arith) in
    let less : suc most - 1 ≡ most = omega arith in
    rw (is, make_some) (rw (some, less) refl)

make_to : (t : Tree) (p above rest : Names) (node : Node) (most : ℕ) → Rooted t → look t (p ++ above) ≡ Some node → make_some t p (above ++ rest) most ≡ make_some t (p ++ above) rest most
make_to t p [] rest node most rooted is = ap (λ (q : Names). make_some t q rest most) (sym (append-nil p))
make_to t p (a ∷ above) rest node most rooted is =
    let here = stands_on t p above a node rooted is in
    let same : (p ++ a ∷ []) ++ above ≡ p ++ a ∷ above = append_assoc p (a ∷ []) above in
    make_over t p (above ++ rest) a here.0 most here.1
    ∙ make_to t (p ++ a ∷ []) above rest node most rooted (ap (look t) same ∙ is)
    ∙ ap (λ (q : Names). make_some t q rest most) same

make_enough_at : (t : Tree) (p rest : Names) (name : List ℕ) (n l : ℕ) (here : Option Node) → look t (p ++ name ∷ []) ≡ here → length rest ≤ n → length rest ≤ l
    → ((u : Tree) → make_some u (p ++ name ∷ []) rest n ≡ make_some u (p ++ name ∷ []) rest l) → make_some t (p ++ name ∷ []) rest (suc n) ≡ make_some t (p ++ name ∷ []) rest (suc l)
    → make_some t p (name ∷ rest) (suc n) ≡ make_some t p (name ∷ rest) (suc l)
make_enough_at t p rest name n l None is more enough missing there =
    make_here t p rest name n is ∙ missing (put t (p ++ name ∷ []) Folder) ∙ sym (make_here t p rest name l is)
make_enough_at t p rest name n l (Some node) is more enough missing there =
    make_over t p rest name node (suc n) is ∙ there ∙ sym (make_over t p rest name node (suc l) is)

-- as many folders as there are names are enough
pub make_enough : (t : Tree) (p rest : Names) (n l : ℕ) → length rest ≤ n → length rest ≤ l → make_some t p rest n ≡ make_some t p rest l
make_enough t p [] n l more enough = refl
make_enough t p (name ∷ rest) zero l more enough = absurd (omega arith)
make_enough t p (name ∷ rest) n zero more enough = absurd (omega arith)
make_enough t p (name ∷ rest) (suc n) (suc l) more enough = make_enough_at t p rest name n l (look t (p ++ name ∷ [])) refl (omega arith) (omega arith)
    (λ u. make_enough u (p ++ name ∷ []) rest n l (omega arith) (omega arith)) (make_enough t (p ++ name ∷ []) rest (suc n) (suc l) (omega arith) (omega arith))

-- a tree in which so many folders of a path were made
pub record Grown (t : Tree) (all : Names) (count : ℕ) (new : Tree) : Type 0 where
  pub rooted : Rooted new
  pub clear : dirs_fault new [] all ≡ None
  pub made : (more : ℕ) → make_some t [] all (count + more) ≡ make_some new [] all more

-- none yet
pub none_grown : (t : Tree) (all : Names) → Rooted t → dirs_fault t [] all ≡ None → Grown t all 0 t
none_grown t all rooted none = record { rooted = rooted; clear = none; made = λ more. ap (make_some t [] all) (zero-add more) }

-- what was made is what is left of a part
pub grown_left : (t new : Tree) (all : Names) (count : ℕ) → Grown t all count new → make_some t [] all count ≡ new
grown_left t new all count grown = ap (make_some t [] all) (sym (add-zero count)) ∙ grown.made 0 ∙ make_none new [] all

-- all are made if the last one is there
pub grown_whole : (t new : Tree) (all : Names) (count : ℕ) → Grown t all count new → look new all ≡ Some Folder → make_some t [] all (length all) ≡ new
grown_whole t new all count grown stands =
    make_enough t [] all (length all) (count + length all) (omega arith) (omega arith)
    ∙ grown.made (length all)
    ∙ ap (λ (q : Names). make_some new [] q (length all)) (sym (append-nil all))
    ∙ make_to new [] all [] Folder (length all) grown.rooted stands

-- one more
pub grown_more : (t new : Tree) (base rest all : Names) (name : List ℕ) (count : ℕ) → Grown t all count new → AreProper all → all ≡ (base ++ name ∷ []) ++ rest
    → look new base ≡ Some Folder → look new (base ++ name ∷ []) ≡ None → Grown t all (suc count) (put new (base ++ name ∷ []) Folder)
grown_more t new base rest all name count grown proper cut stands missing =
    let next = base ++ name ∷ [] in
    let same : look (put new next Folder) next ≡ Some Folder = look-put new next Folder next ∙ ap (λ (b : Bool). cond b (Some Folder) (look new next)) (same_self next) in
    let rooted : Rooted (put new next Folder) = put_rooted new next Folder grown.rooted
    (record {
      parent = λ above other is. ap (look new) (sym (same_folder base above name other is)) ∙ stands;
      proper = front_proper next rest (subst AreProper cut proper);
    })
    (ap is_folder missing) in
    let split : all ≡ base ++ name ∷ rest = cut ∙ append_assoc base (name ∷ []) rest in
    record {
      rooted = rooted;
      clear = dirs_fault-put new next [] all (ap is_in_way missing) ∙ grown.clear;
      made = λ more.
          ap (make_some t [] all) (let e : suc count + more ≡ count + suc more = omega arith in e)
          ∙ grown.made (suc more)
          ∙ ap (λ (q : Names). make_some new [] q (suc more)) split
          ∙ make_to new [] base (name ∷ rest) Folder (suc more) grown.rooted stands
          ∙ make_here new base rest name more missing
          ∙ sym (make_to (put new next Folder) [] next rest Folder more rooted same)
          ∙ ap (λ (q : Names). make_some (put new next Folder) [] q more) (sym cut);
    }

-- ---- why none can be made

dirs_none : (t : Tree) (p rest : Names) → Rooted t → look t p ≡ None → dirs_fault t p rest ≡ None
dirs_none t p [] rooted is = refl
dirs_none t p (name ∷ rest) rooted is =
    let none : look t (p ++ name ∷ []) ≡ None = above_missing t p (name ∷ []) rooted is in
    ap (λ (o : Option Node). cond (is_in_way o) (Some (cond (length rest == 0) AlreadyExists NotADirectory)) (dirs_fault t (p ++ name ∷ []) rest)) none ∙ dirs_none t (p ++ name ∷ []) rest rooted none

-- a file on the way, or at the last name
pub data Blocked (t : Tree) (p rest : Names) (fault : Fault) : Type 0 where
  on_way : fault ≡ NotADirectory → way_fault t p rest ≡ Some NotADirectory → Blocked t p rest fault
  at_last : (bytes : List ℕ) → fault ≡ AlreadyExists → way_fault t p rest ≡ None → look t (p ++ rest) ≡ Some (File bytes) → Blocked t p rest fault

blocked_here : (t : Tree) (p rest : Names) (name bytes : List ℕ) (fault : Fault) → look t (p ++ name ∷ []) ≡ Some (File bytes) → Some (cond (length rest == 0) AlreadyExists NotADirectory) ≡ Some fault → Blocked t p (name ∷ rest) fault
blocked_here t p [] name bytes fault is same = at_last bytes (let e : AlreadyExists ≡ fault = cc in sym e) refl is
blocked_here t p (next ∷ rest) name bytes fault is same =
    let some : (length (next ∷ rest) == 0) ≡ false = ne_eqb (length (next ∷ rest)) 0 (λ e. omega arith) in
    let f : NotADirectory ≡ fault = let g : Some NotADirectory ≡ Some fault = ap (λ (c : Bool). Some (cond c AlreadyExists NotADirectory)) (sym some) ∙ same in cc in
    on_way (sym f) (ap (λ (o : Option Node). through o (way_fault t (p ++ name ∷ []) (next ∷ rest))) is)

blocked_on : (t : Tree) (p rest : Names) (name : List ℕ) (fault : Fault) → look t (p ++ name ∷ []) ≡ Some Folder → Blocked t (p ++ name ∷ []) rest fault → dirs_fault t (p ++ name ∷ []) rest ≡ Some fault → Blocked t p (name ∷ rest) fault
blocked_on t p [] name fault is later same = absurd cc
blocked_on t p (next ∷ rest) name fault is (on_way f way) same = on_way f (ap (λ (o : Option Node). through o (way_fault t (p ++ name ∷ []) (next ∷ rest))) is ∙ way)
blocked_on t p (next ∷ rest) name fault is (at_last bytes f way stands) same =
    at_last bytes f (ap (λ (o : Option Node). through o (way_fault t (p ++ name ∷ []) (next ∷ rest))) is ∙ way) (ap (look t) (sym (append_assoc p (name ∷ []) (next ∷ rest))) ∙ stands)

blocked_at : (t : Tree) (p rest : Names) (name : List ℕ) (fault : Fault) (here : Option Node) → Rooted t → look t (p ++ name ∷ []) ≡ here → ((target : List ℕ) → here ≡ Some (Link target) → ⊥)
    → (dirs_fault t (p ++ name ∷ []) rest ≡ Some fault → Blocked t (p ++ name ∷ []) rest fault)
    → cond (is_in_way here) (Some (cond (length rest == 0) AlreadyExists NotADirectory)) (dirs_fault t (p ++ name ∷ []) rest) ≡ Some fault → Blocked t p (name ∷ rest) fault
blocked_at t p rest name fault None rooted is link next same = absurd (let none = dirs_none t (p ++ name ∷ []) rest rooted is in cc)
blocked_at t p rest name fault (Some Folder) rooted is link next same = blocked_on t p rest name fault is (next same) same
blocked_at t p rest name fault (Some (File bytes)) rooted is link next same = blocked_here t p rest name bytes fault is same
blocked_at t p rest name fault (Some (Link target)) rooted is link next same = absurd (link target refl)

-- no link is at a front of a path
abbrev pub NoLinkOn : Tree → Names → Type 0
NoLinkOn t all = (front rest : Names) → all ≡ front ++ rest → (target : List ℕ) → look t front ≡ Some (Link target) → ⊥

blocked_from : (t : Tree) (all p rest : Names) (fault : Fault) → Rooted t → NoLinkOn t all → all ≡ p ++ rest → dirs_fault t p rest ≡ Some fault → Blocked t p rest fault
blocked_from t all p [] fault rooted link cut same = absurd cc
blocked_from t all p (name ∷ rest) fault rooted link cut same =
    let more : all ≡ (p ++ name ∷ []) ++ rest = cut ∙ sym (append_assoc p (name ∷ []) rest) in
    blocked_at t p rest name fault (look t (p ++ name ∷ [])) rooted refl (link (p ++ name ∷ []) rest more) (λ f. blocked_from t all (p ++ name ∷ []) rest fault rooted link more f) same

-- why no folders of a path can be made
pub blocked : (t : Tree) (all : Names) (fault : Fault) → Rooted t → NoLinkOn t all → dirs_fault t [] all ≡ Some fault → Blocked t [] all fault
blocked t all fault rooted link same = blocked_from t all [] all fault rooted link refl same
