-- Which contents their reads count as good, and which entries questions count as dangling.
use Rattle.std.proofs.Common.{◌≡◌, ◌==◌, ◌<◌, ◌-◌, ◌^◌, inl, inr, ℕ, zero, suc, List, [], ◌∷◌, ◌++◌, Bool, true, false, cond, Option, Some, Result, Ok, Err, map, length, filter, take, drop, take-append-drop, append_assoc, refl, sym, ap, ap₂, subst, ◌∙◌, arith, append-nil}
use Rattle.std.specs.Prelude.{min, not}
use Rattle.cacache_core.specs.declared.errors.Error.TheVariants as errors
use Rattle.cacache_core.specs.{declared.{errors.Fault.{Fault, TheVariants.{Closed, IsADirectory, NotFound}}, integrity.digest.Hash.{Hash}}, Integrity.{IsHash}, Paths.{Names, home_of}}
use Rattle.cacache_store.specs.declared.store.answer.Answer.TheVariants as answers
use Rattle.cacache_store.specs.{declared.store.{log.LogItem.{LogItem}, plain.PlainFile.{PlainFile}}, Plain.{PlainAnswer}}
use Rattle.cacache_store.specs.declared.store.step.Step.TheVariants as steps
use Rattle.cacache_disk.specs.{declared.luck.Luck.TheVariants.{Plain}, Apply.{apply, given, opened, rest_of, unless}, LedTo.{file_at}, Tree.{Tree, Rooted}}
use Rattle.cacache_entry.specs.Bucket.{Found}
use Rattle.cacache_calls.specs.declared.command.Command.TheVariants as commands
use Rattle.cacache_calls.specs.declared.reply.Reply.TheVariants as replies
use Rattle.cacache_calls.specs.{Answers.{there_in}, Replies.{there_reply}, Runs.{Moves, Gains}, State.{Site, Item}, Steps.{content_path}, Table.{piece}}
use Rattle.cacache_calls.proofs.Replies.{exists_shown}
use Rattle.cacache_laws.specs.{Sequence.{AreAnswered, tree_on}, trees.{Contents.{IsHeld, content_in}, Answers.{AnsweredBy, AnswersOn}, Index.{IndexLists, entries_in, is_failure}, Verifying.{is_good, is_met, says_yes, has_content}}}
use Rattle.cacache_laws.proofs.{trees.{Logged.{answered_rest, answered_split, gains_join, looked, tree_rest}, Members.{Member, member_contains}, Verified.{content_file}}, Readings.ReadAnswers.{opening_keeps, piece_keeps}}
use Rattle.cacache_value.specs.Shows.{blob_bytes}
use Rattle.cacache_keep.{specs.{Calls.{AreEntries, ListsEntries, question_of}, Reading.{Judged, Pieces, SaysGood, SaysOfEach}}, proofs.Stopped.{EachOn, gains_none}}

-- ---- reads of an open file

-- bytes and a file, or the answer of a closed one
abbrev got_or_closed : Bool → List ℕ → ℕ → PlainAnswer
got_or_closed whole all size = cond whole (answers.Got (rest_of all size) (take size all)) (answers.Failed Closed)

abbrev got : PlainFile → List ℕ → PlainAnswer
got g b = answers.Got g b

given_gives : (f g : PlainFile) (size : ℕ) (all b : List ℕ) → answers.Got g b ≡ given f size (Some all) → (b ≡ take size all) × (g.bytes ≡ Some (drop size all))
given_gives f g size all b = by (f.left == length all)
  where
    by : (whole : Bool) → got g b ≡ got_or_closed whole all size → (b ≡ take size all) × (g.bytes ≡ Some (drop size all))
    by true e = let same : g ≡ rest_of all size = cc in (cc, ap (λ (x : PlainFile). x.bytes) same)
    by false e = absurd cc

read_gives : (t : Tree) (f g : PlainFile) (size : ℕ) (all b : List ℕ) → f.bytes ≡ Some all → answers.Got g b ≡ (apply t (steps.Read f size) Plain).0 → (b ≡ take size all) × (g.bytes ≡ Some (drop size all))
unfolding apply
read_gives t f g size all b known e = given_gives f g size all b (e ∙ ap (given f size) known)

-- the bytes that were given, and those that are left, are all that there were; the tree stays
record AllGiven (t : Tree) (left : PlainFile) (moves : Moves) (bytes all : List ℕ) : Type 0 where
  pub rest : List ℕ
  pub known : left.bytes ≡ Some rest
  pub whole : bytes ++ rest ≡ all
  pub stays : tree_on t moves ≡ t

pieces_given : (t : Tree) (file left : PlainFile) (moves : Moves) (bytes all : List ℕ) → file.bytes ≡ Some all → Pieces file moves bytes left → AreAnswered t moves → AllGiven t left moves bytes all
pieces_given t file left [] bytes all known h a = record {
  rest = all;
  known = ap (λ (x : PlainFile). x.bytes) h.1 ∙ known;
  whole = ap (λ (l : List ℕ). l ++ all) h.0;
  stays = refl;
}
pieces_given t file left ((steps.Read f most, answers.Got g (b ∷ bs)) ∷ moves) bytes all known h a =
    let gives = read_gives t f g most all (b ∷ bs) (ap (λ (x : PlainFile). x.bytes) h.0 ∙ known) a.0 in
    let stays = piece_keeps t f most in
    let more = pieces_given t g left moves h.2 (drop most all) gives.1 h.4 (subst (λ (x : Tree). AreAnswered x moves) stays a.1) in
    record {
      rest = more.rest;
      known = more.known;
      whole = ap (λ (l : List ℕ). l ++ more.rest) h.3 ∙ append_assoc (b ∷ bs) h.2 more.rest ∙ ap (λ (l : List ℕ). (b ∷ bs) ++ l) more.whole ∙ ap (λ (l : List ℕ). l ++ drop most all) gives.0 ∙ take-append-drop most all;
      stays = ap (λ (x : Tree). tree_on x moves) stays ∙ more.stays;
    }
pieces_given t file left moves bytes all known h a = absurd h

no_rest : (size : ℕ) (rest : List ℕ) → 0 < size → [] ≡ take size rest → rest ≡ []
no_rest zero rest lt e = absurd (omega (arith, lt))
no_rest (suc size) [] lt e = refl
no_rest (suc size) (b ∷ bs) lt e = absurd cc

-- ---- the opening

open_gives : (t : Tree) (path : List ℕ) (file : PlainFile) → answers.File file ≡ (apply t (steps.Open path) Plain).0 → (all : List ℕ) × (file_at t path IsADirectory ≡ Ok all) × (file.bytes ≡ Some all)
unfolding apply
open_gives t path file = by (file_at t path IsADirectory)
  where
    by : (r : Result (List ℕ) Fault) → answers.File file ≡ (unless r t (λ bytes. (answers.File (opened bytes), t))).0 → (all : List ℕ) × (r ≡ Ok all) × (file.bytes ≡ Some all)
    by (Ok bytes) e = let same : file ≡ opened bytes = cc in (bytes, refl, ap (λ (x : PlainFile). x.bytes) same)
    by (Err fault) e = absurd cc

open_finds_none : (t : Tree) (path : List ℕ) → answers.Failed NotFound ≡ (apply t (steps.Open path) Plain).0 → file_at t path IsADirectory ≡ Err NotFound
unfolding apply
open_finds_none t path = by (file_at t path IsADirectory)
  where
    by : (r : Result (List ℕ) Fault) → answers.Failed NotFound ≡ (unless r t (λ bytes. (answers.File (opened bytes), t))).0 → r ≡ Err NotFound
    by (Ok bytes) e = absurd cc
    by (Err fault) e = let same : fault ≡ NotFound = cc in ap Err same

-- ---- contents

-- how many bytes a content has; none if it can't be read
abbrev pub size_given : Result (List ℕ) Fault → ℕ
size_given (Ok bytes) = min (length bytes) (2 ^ 64 - 1)
size_given (Err fault) = 0

module _ (site : Site) (home : Names) (t : Tree) (is : home_of site.cache ≡ Some home) (rooted : Rooted t) where
  -- how many bytes the content at the address has
  abbrev pub size_in : Hash → ℕ
  size_in h = size_given (blob_bytes t (content_in home t h))

  -- Moves that a log gained. On a tree that holds the content and answers them they say whether it
  -- is good, and how many bytes it has, and it stays.
  record Tells (h : Hash) (good : Bool) (size : ℕ) (old new : Option (List LogItem)) : Type 0 where
    pub moves : Moves
    pub gains : Gains old new moves
    pub tells : IsHash h × IsHeld home t h → AreAnswered t moves → (good ≡ is_good home t h) × (size ≡ size_in h) × (tree_on t moves ≡ t)

  good_told : (h : Hash) (good : Bool) (size : ℕ) (old new : Option (List LogItem)) → SaysGood site.cache (h ∷ []) good size old new → Tells h good size old new
  good_told h good size old new (inl (file, mid, opens, judges)) =
      let bytes = judges.0 in
      let left = judges.3.0 in
      let last = judges.3.1 in
      let late = judges.3.2 in
      let gave = judges.3.3 in
      let path = content_path site.cache (h ∷ []) in
      let opening : Moves = (steps.Open path, answers.File file) ∷ [] in
      let ending : Moves = (steps.Read left piece, answers.Got last []) ∷ [] in
      record {
        moves = opening ++ (gave.0 ++ ending);
        gains = gains_join old mid new opening (gave.0 ++ ending) opens (gains_join mid late new gave.0 ending gave.2 judges.3.4);
        tells = λ held a.
            let there = content_file site home t h held.1.0 is rooted held.0 held.1.1 in
            let stays = opening_keeps t path in
            let opened_as = open_gives t path file a.0 in
            let behind = subst (λ (x : Tree). AreAnswered x (gave.0 ++ ending)) stays a.1 in
            let parts = answered_split t gave.0 ending behind in
            let given_all = pieces_given t file left gave.0 bytes opened_as.0 opened_as.2 gave.1 parts.0 in
            let late_part = answered_rest t gave.0 ending given_all.stays behind in
            let at_end = read_gives t left last piece given_all.rest [] given_all.known late_part.0 in
            let none = no_rest piece given_all.rest (omega arith) at_end.0 in
            let all_bytes : bytes ≡ opened_as.0 = sym (append-nil bytes) ∙ ap (λ (l : List ℕ). bytes ++ l) (sym none) ∙ given_all.whole in (
              judges.1 ∙ ap (λ (r : Result (List ℕ) Fault). is_met (h ∷ []) r) (ap Ok all_bytes ∙ sym opened_as.1 ∙ there),
              judges.2 ∙ ap size_given (ap Ok all_bytes ∙ sym opened_as.1 ∙ there),
              ap (λ (x : Tree). tree_on x (gave.0 ++ ending)) stays ∙ tree_rest t gave.0 ending given_all.stays ∙ piece_keeps t left piece,
            );
      }
  good_told h good size old new (inr (bad, none, finds)) =
      let path = content_path site.cache (h ∷ []) in
      record {
        moves = (steps.Open path, answers.Failed NotFound) ∷ [];
        gains = finds;
        tells = λ held a.
            let there = content_file site home t h held.1.0 is rooted held.0 held.1.1 in
            let failed = sym (open_finds_none t path a.0) ∙ there in
            (bad ∙ ap (λ (r : Result (List ℕ) Fault). is_met (h ∷ []) r) failed, none ∙ ap size_given failed, opening_keeps t path);
      }

  abbrev pub judged : Hash → Judged
  judged h = (h ∷ [], is_good home t h, size_in h)

  abbrev read_of : List Hash → Bool → ℕ → Judged
  read_of i good size = (i, good, size)

  same_read : (i j : List Hash) (a b : Bool) (m n : ℕ) → i ≡ j → a ≡ b → m ≡ n → read_of i a m ≡ read_of j b n
  same_read i j a b m n one two three = rw (one, two, three) refl

  -- Moves that a log gained. On a tree that holds these contents and answers them they judge them,
  -- and it stays.
  pub record JudgesEach (hs : List Hash) (reads : List Judged) (old new : Option (List LogItem)) : Type 0 where
    pub moves : Moves
    pub gains : Gains old new moves
    pub tells : ((h : Hash) → Member h hs → IsHash h × IsHeld home t h) → AreAnswered t moves → (reads ≡ map judged hs) × (tree_on t moves ≡ t)

  pub reads_judged : (hs : List Hash) (reads : List Judged) (old new : Option (List LogItem)) → map (λ r. r.0) reads ≡ map (λ h. h ∷ []) hs → SaysOfEach site.cache reads old new → JudgesEach hs reads old new
  reads_judged [] [] old new each says = record { moves = []; gains = gains_none old new says; tells = λ held a. (refl, refl) }
  reads_judged (h ∷ hs) (r ∷ rs) old new each says =
      let first : r.0 ≡ h ∷ [] = cc in
      let later : map (λ (x : Judged). x.0) rs ≡ map (λ (x : Hash). x ∷ []) hs = cc in
      let one = good_told h r.1 r.2 old says.0 (subst (λ (i : List Hash). SaysGood site.cache i r.1 r.2 old says.0) first says.1) in
      let more = reads_judged hs rs says.0 new later says.2 in
      record {
        moves = one.moves ++ more.moves;
        gains = gains_join old says.0 new one.moves more.moves one.gains more.gains;
        tells = λ held a.
            let told = one.tells (held h (inl refl)) (answered_split t one.moves more.moves a).0 in
            let rest = more.tells (λ x m. held x (inr m)) (answered_rest t one.moves more.moves told.2 a) in (
              ap₂ (λ (x : Judged) (l : List Judged). x ∷ l) (same_read r.0 (h ∷ []) r.1 (is_good home t h) r.2 (size_in h) first told.0 told.1) rest.0,
              tree_rest t one.moves more.moves told.2 ∙ rest.1,
            );
      }
  reads_judged _ _ old new each says = absurd cc

  -- ---- the good ones are counted, and the others are named

  pub good_counted : (hs : List Hash) → length (filter (λ (r : Judged). r.1) (map judged hs)) ≡ length (filter (is_good home t) hs)
  good_counted [] = refl
  good_counted (h ∷ hs) = by (is_good home t h) _ _ (good_counted hs)
    where
      by : (b : Bool) (F : List Judged) (G : List Hash) → length F ≡ length G → length (cond b (judged h ∷ F) F) ≡ length (cond b (h ∷ G) G)
      by true F G e = omega (arith, e)
      by false F G e = e

  pub others_named : (hs : List Hash) → map (λ (r : Judged). r.0) (filter (λ (r : Judged). not r.1) (map judged hs)) ≡ map (λ h. h ∷ []) (filter (λ h. not (is_good home t h)) hs)
  others_named [] = refl
  others_named (h ∷ hs) = by (not (is_good home t h)) _ _ (others_named hs)
    where
      by : (b : Bool) (F : List Judged) (G : List Hash) → map (λ (r : Judged). r.0) F ≡ map (λ (x : Hash). x ∷ []) G → map (λ (r : Judged). r.0) (cond b (judged h ∷ F) F) ≡ map (λ (x : Hash). x ∷ []) (cond b (h ∷ G) G)
      by true F G e = ap (λ (l : List (List Hash)). (h ∷ []) ∷ l) e
      by false F G e = e

-- ---- questions

says_so : (a : PlainAnswer) (b : Bool) → replies.Exists b ≡ there_reply (there_in a) → b ≡ says_yes a
says_so (answers.NoMemory step) b e = absurd cc
says_so a b e = cc

module _ (site : Site) (t : Tree) where
  pub there_told : (f : Found) (b : Bool) → AnswersOn site t (commands.Exists f.integrity) (replies.Exists b) → b ≡ has_content site.cache t f
  there_told f b on = elim (exists_shown site f.integrity on.0 (replies.Exists b) on.1) [
    | inl memory ↦ absurd cc
    | inr shown ↦
        let at = subst (AnsweredBy t) shown.1 on.2 in
        says_so shown.0 b shown.2 ∙ ap says_yes at.0
  ]

  pub asks_told : (asks : List (Found × Bool)) → EachOn site t (map question_of asks) → map (λ a. a.0) (filter (λ a. not a.1) asks) ≡ filter (λ f. not (has_content site.cache t f)) (map (λ a. a.0) asks)
  asks_told [] on = refl
  asks_told (a ∷ asks) on = told_on (not a.1) (not (has_content site.cache t a.0)) (filter (λ x. not x.1) asks) (filter (λ f. not (has_content site.cache t f)) (map (λ x. x.0) asks)) (ap not (there_told a.0 a.1 on.0)) (asks_told asks on.1)
    where
      told_on : (b c : Bool) (F : List (Found × Bool)) (G : List Found) → b ≡ c → map (λ (x : Found × Bool). x.0) F ≡ G → map (λ (x : Found × Bool). x.0) (cond b (a ∷ F) F) ≡ cond c (a.0 ∷ G) G
      told_on true true F G e h = ap (λ l. a.0 ∷ l) h
      told_on false false F G e h = h
      told_on _ _ _ _ e h = absurd cc

-- ---- the index

entries_back : (entries : List Found) → entries ≡ entries_in (map Ok entries)
entries_back [] = refl
entries_back (f ∷ fs) = ap (λ l. f ∷ l) (entries_back fs)

clean_ok : (entries : List Found) (item : Item) → Member item (map Ok entries) → is_failure item ≡ false
clean_ok [] item m = absurd m
clean_ok (f ∷ fs) item (inl e) = ap is_failure e
clean_ok (f ∷ fs) item (inr m) = clean_ok fs item m

clean_one : (item given : Item) → is_failure given ≡ false → Member item (given ∷ []) → is_failure item ≡ false
clean_one item given e (inl same) = ap is_failure same ∙ e
clean_one item given e (inr m) = absurd m

-- its items have no error but that its folder is missing
index_clean : (items : List Item) (entries : List Found) → AreEntries items entries → (item : Item) → Member item items → is_failure item ≡ false
index_clean items entries (inl e) item m = clean_ok entries item (subst (Member item) e m)
index_clean items entries (inr e) item m = clean_one item (Err (errors.IoError NotFound e.0.0)) refl (subst (Member item) e.0.1 m)

-- a listing of the index that this tree answers lists it, and leaves the tree
pub index_looked : (site : Site) (t : Tree) (entries : List Found) (old new : Option (List LogItem)) (l : ListsEntries site entries old new) → AreAnswered t l.2.0 → IndexLists site t entries × (tree_on t l.2.0 ≡ t)
index_looked site t entries old new (items, are, (moves, run, gains)) answered =
    let index = looked site t commands.Ls (replies.Listed items) moves tt run answered in
    (record { items = items; answers = index.0; clean = λ item c. index_clean items entries are item (member_contains item items c); those = entries_told items entries are }, index.1)
  where
    entries_told : (items : List Item) (entries : List Found) → AreEntries items entries → entries ≡ entries_in items
    entries_told items entries (inl e) = entries_back entries ∙ ap entries_in (sym e)
    entries_told items entries (inr e) = e.1 ∙ ap entries_in (sym e.0.1)
