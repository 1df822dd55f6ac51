-- Looks at the contents: what they show, and that they leave the tree.
-- A listing lists, and a verification judges, what the cache holds in the tree of the log.
-- Reads of an open content, one after another, and why they end.
use Rattle.std.proofs.{Common.{◌≡◌, ◌+◌, ℕ, zero, suc, List, [], ◌∷◌, false, Option, Some, arith, refl, sym, ap, ap₂, subst, ◌∙◌, map, get_or, Bool, ◌++◌, length, filter, ◌==◌, ◌-◌, ◌^◌, inl, inr, true, Result, Ok, Err, length-append, append_assoc, append-nil}, lemmas.Bool.{eqb-true}}
use Rattle.std.specs.{declared.cmp.Ordering.{Ordering, TheVariants.{Less}}, List.Sorted.{IsSorted, IsStrictlySortedBy}, Ordering.{is_lt, ordering_reverse}, Prelude.{not, min}}
use Rattle.cacache_core.specs.{declared.{integrity.digest.Hash.{Hash}, errors.{Error.{Error, TheVariants.{IoError, OutOfMemory}}, Fault.TheVariants.{NotFound}}}, Integrity.{address, Meets}, Paths.{Names, home_of}, Matching.{meets}}
use Rattle.cacache_core.proofs.Meeting.{meets_finds}
use Rattle.cacache_store.specs.{declared.store.{log.LogItem.{LogItem}, plain.PlainFile.{PlainFile}}, Plain.{Fits, Logs, PlainStep, PlainAnswer}}
use Rattle.cacache_disk.specs.{Tree.{Tree}, Replay.{tree_of, IsLog}}
use Rattle.cacache_entry.specs.Bucket.{Found}
use Rattle.cacache_calls.specs.{Runs.{Gains, Moves, EndsAs}, State.{Site}, declared.answers.Refusal.{Refusal}, Answers.{file_in, got_in}, Common.{fails, refuse}, SingleSteps.{FailsAt}, Steps.{content_path}, Table.{piece}}
use Rattle.cacache_calls.proofs.Going.{no_gain}
use Rattle.cacache_laws.specs.{Sequence.{tree_on, AreAnswered}, trees.{Contents.{HoldsJust}, Verifying.{Judges, has_content}}}
use Rattle.cacache_laws.proofs.{trees.{Logged.{walked, answered_rest, answered_split, gains_join, log_rooted, tree_rest}, Members.{contains_member}, Indexed.{holds_just}}, Calls.InParts.{logs_lead}}
use Rattle.cacache_walks.specs.{Listing.{IsByHash, content_area_in, hash_cmp}, Reading.{top_folder}}
use Rattle.cacache_keep.specs.{Missing.{Look}, Repairing.{BuriesAll, BuriesEach, RepairsFrom}, Calls.{question_of}, Keeping.{VerifiesCache}, Kept.{LeavesTree, ListsHold, VerdictsJudge}, Reading.{Judged, FindsNone, Gave, GaveAll, Opens, Pieces, StopsContent, StopsGiving, finds_none, is_gone}}
use Rattle.cacache_keep.proofs.{Stopped.{gains_none, AllLook, made_looks}, Collections.Searching.{hash_total}, Repairs.{Tombs.{none_buried}, Judged.{asks_told, good_counted, index_looked, others_named, reads_judged}}}
use Rattle.cacache_sync.proofs.content.StepAnswers.{refused_fails, read_refused, file_refused}
use Rattle.cacache_store.specs.declared.store.answer.Answer.TheVariants as answers
use Rattle.cacache_store.specs.declared.store.step.Step.TheVariants as steps
use Rattle.cacache_calls.specs.declared.answers.Refusal.TheVariants as refusals

-- ---- a look leaves the tree

-- moves that look, and the tombstones after them
pub record Burial (site : Site) (entries buried : List Found) (old new : Option (List LogItem)) : Type 0 where
  pub moves : Moves
  pub looked : Option (List LogItem)
  pub gains : Gains old looked moves
  pub stays : (t : Tree) → AreAnswered t moves → tree_on t moves ≡ t
  pub look : Look
  pub each : BuriesEach site look entries buried looked new

burial : (site : Site) (entries buried : List Found) (old new : Option (List LogItem)) → BuriesAll site entries buried old new → Burial site entries buried old new
burial site [] buried old new (none, same) = record {
  moves = [];
  looked = old;
  gains = gains_none old old refl;
  stays = λ t a. refl;
  look = ([], []);
  each = subst (λ (log : Option (List LogItem)). BuriesEach site ([], []) [] buried old log) (sym same) (none_buried site ([], []) buried old none);
}
burial site (f ∷ entries) buried old new (look, looked, walk, each) = record {
  moves = walk.0;
  looked = looked;
  gains = walk.1;
  stays = λ t answered. (walked t walk.0 (top_folder (content_area_in site.cache) ∷ []) walk.2 answered).1;
  look = look;
  each = each;
}

pub burial_of : {site : Site} {entries : List Found} {damaged : List (List Hash)} {buried : List Found} {old new : Option (List LogItem)} (v : RepairsFrom site entries damaged buried old new) → Burial site v.dangling buried v.asked new
burial_of {site} {entries} {damaged} {buried} {old} {new} v = burial site v.dangling buried v.asked new v.burying

-- ---- the contents that a walk shows

later_first : (r : Ordering) → r ≡ Less → is_lt (ordering_reverse r) ≡ false
later_first Less e = refl
later_first r e = absurd cc

not_lower : (x y : Hash) → hash_cmp x y ≡ Less → is_lt (hash_cmp y x) ≡ false
not_lower x y up = ap is_lt (hash_total.antisymm y x) ∙ later_first (hash_cmp x y) up

-- what strictly ascends is sorted
sorted_strictly : (hs : List Hash) → IsStrictlySortedBy hash_cmp hs → IsSorted hash_cmp hs
unfolding IsStrictlySortedBy
sorted_strictly (x ∷ y ∷ hs) up zero d low high = not_lower x y up.0.0
sorted_strictly (x ∷ y ∷ hs) up (suc k) d low high =
    let next : suc k + 1 ≡ suc (k + 1) = omega arith in
    subst (λ (n : ℕ). is_lt (hash_cmp (get_or (x ∷ y ∷ hs) n d) (get_or (y ∷ hs) k d)) ≡ false) (sym next) (sorted_strictly (y ∷ hs) up.1 k d (omega arith) (omega (arith, high)))
sorted_strictly hs up k d low high = absurd (omega (arith, high))

same_hashes : (hs gs : List Hash) → map Some hs ≡ map address (map (λ h. h ∷ []) gs) → hs ≡ gs
same_hashes [] [] e = refl
same_hashes (h ∷ hs) (g ∷ gs) e =
    let first : h ≡ g = cc in
    let rest : map Some hs ≡ map address (map (λ (x : Hash). x ∷ []) gs) = cc in
    ap₂ (λ (x : Hash) (l : List Hash). x ∷ l) first (same_hashes hs gs rest)
same_hashes _ _ e = absurd cc

hashes_are : (hs : List Hash) (addresses : List (List Hash)) (order : IsByHash addresses) → map Some hs ≡ map address addresses → hs ≡ order.hashes
hashes_are hs addresses order e = same_hashes hs order.hashes (e ∙ ap (map address) order.single)

-- the hashes of the addresses that a walk lists are in order
pub sorted_hashes : (hs : List Hash) (addresses : List (List Hash)) → IsByHash addresses → map Some hs ≡ map address addresses → IsSorted hash_cmp hs
sorted_hashes hs addresses order e = subst (IsSorted hash_cmp) (sym (hashes_are hs addresses order e)) (sorted_strictly order.hashes order.ascend)

-- and these addresses have one hash each
pub single_hashes : (hs : List Hash) (addresses : List (List Hash)) → IsByHash addresses → map Some hs ≡ map address addresses → addresses ≡ map (λ h. h ∷ []) hs
single_hashes hs addresses order e = order.single ∙ ap (map (λ (h : Hash). h ∷ [])) (sym (hashes_are hs addresses order e))

pub lists_hold : ListsHold
lists_hold cache home addresses strange old new is logged lists order =
    let lead = logs_lead old new lists.0 lists.1 logged in
    let walk = walked (tree_of old) lists.0 (top_folder (content_area_in cache) ∷ []) lists.2 lead.0 in (
      (order.hashes, order.single, holds_just cache home (tree_of old) lists.0 is (log_rooted old) lists.2 walk.0 addresses strange lists.3 order),
      lead.1 ∙ walk.1,
    )

pub all_questions : (asks : List (Found × Bool)) → AllLook (map question_of asks)
all_questions [] = tt
all_questions (a ∷ asks) = (tt, all_questions asks)

module _ (site : Site) (home : Names) (good : ℕ) (damaged : List (List Hash)) (dangling : List Found) (strange : List (List ℕ)) (old new : List LogItem)
    (is : home_of site.cache ≡ Some home) (logged : IsLog new) (v : VerifiesCache site good damaged dangling strange (Some old) (Some new)) where
  abbrev t : Tree
  t = tree_of old

  abbrev hashes : List Hash
  hashes = v.order.hashes

  judges : Judges site home t good damaged dangling strange × LeavesTree old new
  judges =
      let c = v.contents in
      let r = reads_judged site home t is (log_rooted old) hashes v.reading.reads v.found v.read (v.reading.each ∙ v.order.single) v.reading.reading in
      let l = v.listing.2 in
      let a = made_looks site (map question_of v.asking.asks) v.listed (Some new) (all_questions v.asking.asks) v.asking.asking in
      let behind = r.moves ++ (l.0 ++ a.keeps.moves) in
      let gains = gains_join (Some old) v.found (Some new) c.0 behind c.1 (gains_join v.found v.read (Some new) r.moves (l.0 ++ a.keeps.moves) r.gains (gains_join v.read v.listed (Some new) l.0 a.keeps.moves l.2 a.keeps.gains)) in
      let lead = logs_lead old new (c.0 ++ behind) gains logged in
      let walk = walked t c.0 (top_folder (content_area_in site.cache) ∷ []) c.2 (answered_split t c.0 behind lead.0).0 in
      let after_walk = answered_rest t c.0 behind walk.1 lead.0 in
      let holds : HoldsJust site.cache home t hashes strange = holds_just site.cache home t c.0 is (log_rooted old) c.2 walk.0 v.addresses strange c.3 v.order in
      let reads = r.tells
      (λ h m. let k = contains_member h hashes m in (holds.formed h k, (holds.held h (holds.formed h k)).0 k))
      (answered_split t r.moves (l.0 ++ a.keeps.moves) after_walk).0 in
      let after_reads = answered_rest t r.moves (l.0 ++ a.keeps.moves) reads.1 after_walk in
      let index = index_looked site t v.entries v.read v.listed v.listing (answered_split t l.0 a.keeps.moves after_reads).0 in
      let asks = a.tells t (answered_rest t l.0 a.keeps.moves index.1 after_reads) in (
        record {
          hashes = hashes;
          contents = holds;
          counted = v.reading.whole ∙ ap (λ (l : List Judged). length (filter (λ (x : Judged). x.1) l)) reads.0 ∙ good_counted site home t is (log_rooted old) hashes;
          broken = v.reading.broken ∙ ap (λ (l : List Judged). map (λ (x : Judged). x.0) (filter (λ (x : Judged). not x.1) l)) reads.0 ∙ others_named site home t is (log_rooted old) hashes;
          entries = v.entries;
          index = index.0;
          absent = v.asking.absent ∙ asks_told site t v.asking.asks asks ∙ ap (λ l. filter (λ f. not (has_content site.cache t f)) l) v.asking.each;
        },
        lead.1 ∙ tree_rest t c.0 behind walk.1 ∙ tree_rest t r.moves (l.0 ++ a.keeps.moves) reads.1 ∙ tree_rest t l.0 a.keeps.moves index.1 ∙ a.keeps.stays t,
      )

pub verdicts_judge : VerdictsJudge
verdicts_judge site home good damaged dangling strange old new is logged v = judges site home good damaged dangling strange old new is logged v

-- ---- a step that brought nothing

read_fails : (file : PlainFile) (t : PlainAnswer) (refusal : Refusal) (e : Error) (old new : Option (List LogItem)) → Err refusal ≡ got_in t → Fits (steps.Read file piece) t → Logs old new (steps.Read file piece) t → EndsAs e (refuse refusal fails) → FailsAt (steps.Read file piece) e old new
read_fails file t refusal e old new is fits logs ends = refused_fails (steps.Read file piece) t refusal e old new (read_refused file piece t refusal is fits) logs ends

open_fails : (path : List ℕ) (t : PlainAnswer) (refusal : Refusal) (e : Error) (old new : Option (List LogItem)) → Err refusal ≡ file_in t → Fits (steps.Open path) t → Logs old new (steps.Open path) t → EndsAs e (refuse refusal fails) → FailsAt (steps.Open path) e old new
open_fails path t refusal e old new is fits logs ends = refused_fails (steps.Open path) t refusal e old new (file_refused path t refusal is fits) logs ends

-- ---- pieces

pieces_on : (file left g : PlainFile) (moves : Moves) (bytes : List ℕ) (b : ℕ) (bs : List ℕ) → Pieces file moves bytes left → Pieces file (moves ++ (steps.Read left piece, answers.Got g (b ∷ bs)) ∷ []) (bytes ++ b ∷ bs) g
pieces_on file left g [] bytes b bs h = (h.1, refl, [], ap (λ l. l ++ b ∷ bs) h.0 ∙ sym (append-nil (b ∷ bs)), (refl, refl))
pieces_on file left g ((steps.Read f most, answers.Got k (c ∷ cs)) ∷ moves) bytes b bs h =
    (h.0, h.1, h.2 ++ b ∷ bs, ap (λ l. l ++ b ∷ bs) h.3 ∙ append_assoc (c ∷ cs) h.2 (b ∷ bs), pieces_on k left g moves h.2 b bs h.4)
pieces_on file left g moves bytes b bs h = absurd h

pub gave_none : (file : PlainFile) (log : Option (List LogItem)) → Gave file [] file log log
gave_none file log = ([], (refl, refl), no_gain log)

-- what a read brought
abbrev got_ok : PlainFile × List ℕ → Result (PlainFile × List ℕ) Refusal
got_ok x = Ok x

same_got : (x y : PlainFile × List ℕ) → got_ok x ≡ got_ok y → x ≡ y
same_got x y e = cc

-- a read that gave some bytes
pub gave_more : (file left g : PlainFile) (bytes more : List ℕ) (t : PlainAnswer) (old mid new : Option (List LogItem)) → Gave file bytes left old mid → Ok (g, more) ≡ got_in t → Logs mid new (steps.Read left piece) t → (length more == 0) ≡ false → Gave file (bytes ++ more) g old new
gave_more file left g bytes (b ∷ bs) (answers.Got k c) old mid new h e logs some =
    let same = same_got (g, b ∷ bs) (k, c) e in
    let file_is : k ≡ g = sym (ap (λ (x : PlainFile × List ℕ). x.0) same) in
    let bytes_are : c ≡ b ∷ bs = sym (ap (λ (x : PlainFile × List ℕ). x.1) same) in
    let logged : Logs mid new (steps.Read left piece) (answers.Got g (b ∷ bs)) = rw (file_is, bytes_are) at logs in
    let move : PlainStep × PlainAnswer = (steps.Read left piece, answers.Got g (b ∷ bs)) in
    (h.0 ++ move ∷ [], pieces_on file left g h.0 bytes b bs h.1, gains_join old mid new h.0 (move ∷ []) h.2 logged)
gave_more file left g bytes more t old mid new h e logs some = absurd cc

-- and how many bytes that are
pub size_more : (bytes more : List ℕ) (size sum count : ℕ) → size ≡ min (length bytes) (2 ^ 64 - 1) → count ≡ length more → sum ≡ min (size + count) (2 ^ 64 - 1) → sum ≡ min (length (bytes ++ more)) (2 ^ 64 - 1)
size_more bytes more size sum count is so grows = omega (arith, is, so, grows, length-append bytes more)

-- a read that gave none
pub gave_all : (file left g : PlainFile) (bytes more : List ℕ) (t : PlainAnswer) (old mid new : Option (List LogItem)) → Gave file bytes left old mid → Ok (g, more) ≡ got_in t → Logs mid new (steps.Read left piece) t → (length more == 0) ≡ true → GaveAll file bytes old new
gave_all file left g bytes (b ∷ bs) t old mid new h e logs none =
    let zero : length (b ∷ bs) ≡ 0 = eqb-true (length (b ∷ bs)) 0 none in absurd (omega arith)
gave_all file left g bytes [] (answers.Got k c) old mid new h e logs none =
    let bytes_are : c ≡ [] = sym (ap (λ (x : PlainFile × List ℕ). x.1) (same_got (g, []) (k, c) e)) in
    (left, k, mid, h, rw bytes_are at logs)
gave_all file left g bytes [] t old mid new h e logs none = absurd cc

-- a read that was refused
pub gave_fails : (file left : PlainFile) (bytes : List ℕ) (t : PlainAnswer) (refusal : Refusal) (e : Error) (old mid new : Option (List LogItem)) → Gave file bytes left old mid → Err refusal ≡ got_in t → Fits (steps.Read left piece) t → Logs mid new (steps.Read left piece) t → EndsAs e (refuse refusal fails) → StopsGiving file e old new
gave_fails file left bytes t refusal e old mid new h is fits logs ends = inl (bytes, left, mid, h, read_fails left t refusal e mid new is fits logs ends)

-- memory ran out before the first read
pub nothing_gave : (file : PlainFile) (log : Option (List LogItem)) → StopsGiving file OutOfMemory log log
nothing_gave file log = inl ([], file, log, gave_none file log, inl refl)

-- ---- the opening

pub opened_so : (cache path : List ℕ) (i : List Hash) (f : PlainFile) (t : PlainAnswer) (old new : Option (List LogItem)) → path ≡ content_path cache i → Ok f ≡ file_in t → Logs old new (steps.Open path) t → Opens cache i f old new
opened_so cache path i f (answers.File g) old new at e logs = let is : f ≡ g = cc in rw (← at, is) logs
opened_so cache path i f t old new at e logs = absurd cc

pub none_found : (refusal : Refusal) → finds_none refusal ≡ true → refusal ≡ refusals.Fault NotFound
none_found (refusals.Fault NotFound) is = refl
none_found refusal is = absurd cc

pub gone_so : (cache path : List ℕ) (i : List Hash) (t : PlainAnswer) (refusal : Refusal) (old new : Option (List LogItem)) → path ≡ content_path cache i → finds_none refusal ≡ true → Err refusal ≡ file_in t → Fits (steps.Open path) t → Logs old new (steps.Open path) t → FindsNone cache i old new
gone_so cache path i (answers.Failed fault) refusal old new at none e fits logs =
    let found : refusal ≡ refusals.Fault NotFound = none_found refusal none in
    let is : fault ≡ NotFound = cc in
    let logged : Logs old new (steps.Open path) (answers.Failed NotFound) = rw is at logs in
    rw (← at) logged
gone_so cache path i (answers.NoMemory b) refusal old new at none e fits logs =
    let found : refusal ≡ refusals.Fault NotFound = none_found refusal none in absurd cc
gone_so cache path i (answers.File f) refusal old new at none e fits logs = absurd cc
gone_so cache path i t refusal old new at none e fits logs = absurd fits

found_none : (e : Error) → is_gone e ≡ true → (message : List ℕ) × (e ≡ IoError NotFound message)
found_none (IoError NotFound message) is = (message, refl)
found_none e is = absurd cc

pub not_gone : (e : Error) (refusal : Refusal) → EndsAs e (refuse refusal fails) → (refusal ≡ refusals.Fault NotFound → ⊥) → is_gone e ≡ false
not_gone e refusal ends other = by (is_gone e) refl
  where
    says : (message : List ℕ) (refusal : Refusal) → EndsAs (IoError NotFound message) (refuse refusal fails) → refusal ≡ refusals.Fault NotFound
    says message (refusals.Fault fault) (inl is) = let same : fault ≡ NotFound = cc in ap refusals.Fault same
    says message refusals.Memory (inl is) = absurd cc
    says message refusal (inr is) = absurd cc

    by : (b : Bool) → is_gone e ≡ b → is_gone e ≡ false
    by false is = is
    by true is =
        let it = found_none e is in
        absurd (other (says it.0 refusal (subst (λ (x : Error). EndsAs x (refuse refusal fails)) it.1 ends)))

pub unopened_so : (cache path : List ℕ) (i : List Hash) (t : PlainAnswer) (refusal : Refusal) (e : Error) (old new : Option (List LogItem)) → path ≡ content_path cache i → finds_none refusal ≡ false → Err refusal ≡ file_in t → Fits (steps.Open path) t → Logs old new (steps.Open path) t → EndsAs e (refuse refusal fails) → StopsContent cache i e old new
unopened_so cache path i t refusal e old new at some is fits logs ends =
    inl (not_gone e refusal ends (λ same. let wrong : true ≡ false = sym (ap finds_none same) ∙ some in absurd cc), rw (← at) (open_fails path t refusal e old new is fits logs ends))

-- ---- the check

pub met_so : (i : List Hash) (bytes : List ℕ) → Meets i bytes → true ≡ meets i bytes
met_so i bytes met = sym ((meets_finds i bytes).1 met)

pub unmet_so : (i : List Hash) (bytes : List ℕ) → (Meets i bytes → ⊥) → false ≡ meets i bytes
unmet_so i bytes none = by (meets i bytes) refl
  where
    by : (b : Bool) → meets i bytes ≡ b → false ≡ meets i bytes
    by true is = absurd (none ((meets_finds i bytes).0 is))
    by false is = sym is
