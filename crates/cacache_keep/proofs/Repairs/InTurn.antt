-- The log on which a repair goes on after its listing of the index, and contents that are read one after another.
use Rattle.std.proofs.{Common.{◌≡◌, List, ◌++◌, Option, Some, refl, sym, subst, ◌∙◌, map, ◌+◌, ◌-◌, ◌^◌, ◌<◌, ℕ, [], ◌∷◌, Bool, true, false, inl, ap, length, take, drop, get_or, length-append, take-append-drop, arith}, lemmas.{List.{drop_more, map-append, map-id}, Iterator.{YieldsList, Consumers.{YieldsList-so_far, YieldsList-turn}}}}
use Rattle.std.specs.{List.{flat_map, filter}, Iterator.{Yields}, Prelude.{min, not}}
use Rattle.cacache_core.specs.{declared.{integrity.digest.Hash.{Hash}, errors.Error.{Error, TheVariants.{OutOfMemory}}}, Paths.{Names, home_of}}
use Rattle.cacache_store.specs.declared.store.log.LogItem.{LogItem, TheVariants.{Made}}
use Rattle.cacache_disk.specs.Replay.{tree_of, IsLog}
use Rattle.cacache_entry.specs.Bucket.{Found}
use Rattle.cacache_calls.specs.{Runs.{Gains, Moves}, State.{Site}}
use Rattle.cacache_laws.proofs.{trees.Logged.{gains_join, log_rooted}, Calls.{InParts.{logs_lead}, Replays.{some_same}}, Readings.OpenReaders.{log_front}}
use Rattle.cacache_laws.specs.trees.{Index.{IndexLists}, Temporary.{total}}
use Rattle.cacache_keep.specs.{Calls.{question_of, removal}, Kept.{LeavesTree}, Repairing.{Fate, RepairsCache, RepairsFrom, calls_for}, Reading.{Judged, ReadsEach, SaysGood, SaysOfEach, StopsEach, StopsNext, WeighsOthers}}
use Rattle.cacache_keep.proofs.{Stopped.{calls_gain}, Repairs.{Judged.{index_looked, reads_judged}, Shown.{burial_of}}, Asked.{kept, passed}, Collections.Sweeps.{total_more}}

-- the index has these entries, and the repair goes on from a log that leads to the same tree
pub record OnListed (site : Site) (damaged : List (List Hash)) (buried : List Found) (old new : List LogItem) : Type 0 where
  pub entries : List Found
  pub log : List LogItem
  pub stays : LeavesTree old log
  pub index : IndexLists site (tree_of log) entries
  pub so : RepairsFrom site entries damaged buried (Some log) (Some new)

repair_gains : (site : Site) (home : Names) (entries : List Found) (t : List LogItem) (damaged : List (List Hash)) (buried : List Found) (old new : Option (List LogItem)) → home_of site.cache ≡ Some home → RepairsFrom site entries damaged buried old new → (moves : Moves) × Gains old new moves
repair_gains site home entries t damaged buried old new is v =
    let c = v.contents in
    let r = reads_judged site home (tree_of t) is (log_rooted t) v.order.hashes v.reading.reads v.found v.read (v.reading.each ∙ v.order.single) v.reading.reading in
    let gone = calls_gain site (map removal damaged) v.read v.removed v.removing in
    let a = calls_gain site (map question_of v.asking.asks) v.removed v.asked v.asking.asking in
    let w = burial_of v in
    let b = calls_gain site (flat_map (λ (f : Found × Fate). calls_for f.1) w.each.fates) w.looked new w.each.calls in
    let last = w.moves ++ b.0 in
    let late = a.0 ++ last in (
      c.0 ++ (r.moves ++ (gone.0 ++ late)),
      gains_join old v.found new c.0 (r.moves ++ (gone.0 ++ late)) c.1
          (gains_join v.found v.read new r.moves (gone.0 ++ late) r.gains
          (gains_join v.read v.removed new gone.0 late gone.1
          (gains_join v.removed v.asked new a.0 last a.1
          (gains_join v.asked w.looked new w.moves b.0 w.gains b.1)))),
    )

pub repaired_on : (site : Site) (home : Names) (damaged : List (List Hash)) (buried : List Found) (old new : List LogItem) → home_of site.cache ≡ Some home → IsLog new → RepairsCache site damaged buried (Some old) (Some new) → OnListed site damaged buried old new
repaired_on site home damaged buried old new is logged (choice, (entries, odd, listed, reads, allows, v)) =
    let l = reads.0 in
    let moves : Moves = l.2.0 in
    let log = old ++ map (λ m. Made m.0 m.1) moves in
    let so : RepairsFrom site entries damaged buried (Some log) (Some new) = subst (λ (x : Option (List LogItem)). RepairsFrom site entries damaged buried x (Some new)) l.2.2 v in
    let more = repair_gains site home entries old damaged buried (Some log) (Some new) is so in
    let is_log = log_front log new (map (λ m. Made m.0 m.1) more.0) (some_same new _ more.1) logged in
    let lead = logs_lead old log moves refl is_log in
    let index = index_looked site (tree_of old) entries (Some old) listed l lead.0 in
    let stays : tree_of log ≡ tree_of old = lead.1 ∙ index.1 in
    record {
      entries = entries;
      log = log;
      stays = stays;
      index = subst (λ t. IndexLists site t entries) (sym stays) index.0;
      so = so;
    }

-- ---- one more

says_on : (cache : List ℕ) (reads : List Judged) (r : Judged) (old mid new : Option (List LogItem)) → SaysOfEach cache reads old mid → SaysGood cache r.0 r.1 r.2 mid new → SaysOfEach cache (reads ++ r ∷ []) old new
says_on cache [] r old mid new h says = (new, subst (λ (log : Option (List LogItem)). SaysGood cache r.0 r.1 r.2 log new) h says, refl)
says_on cache (x ∷ reads) r old mid new h says = (h.0, h.1, says_on cache reads r h.0 mid new h.2 says)

-- ---- bytes of those that a test keeps

abbrev bytes_of : (Judged → Bool) → List Judged → ℕ
bytes_of p reads = total (map (λ (r : Judged). r.2) (filter p reads))

bytes_more : (p : Judged → Bool) (reads : List Judged) (r : Judged) (bytes more : ℕ) → p r ≡ true → bytes ≡ bytes_of p reads → more ≡ min (bytes + r.2) (2 ^ 64 - 1) → more ≡ bytes_of p (reads ++ r ∷ [])
bytes_more p reads r bytes more is so grows =
    grows ∙ ap (λ b. min (b + r.2) (2 ^ 64 - 1)) so ∙ sym (total_more (map (λ (x : Judged). x.2) (filter p reads)) r.2)
    ∙ ap total (sym (map-append (λ (x : Judged). x.2) (filter p reads) (r ∷ []))) ∙ ap (λ (l : List Judged). total (map (λ x. x.2) l)) (sym (kept p reads r is))

bytes_same : (p : Judged → Bool) (reads : List Judged) (r : Judged) (bytes : ℕ) → p r ≡ false → bytes ≡ bytes_of p reads → bytes ≡ bytes_of p (reads ++ r ∷ [])
bytes_same p reads r bytes is so = so ∙ ap (λ (l : List Judged). total (map (λ x. x.2) l)) (sym (passed p reads r is))

-- ---- reads

pub none_read : (cache : List ℕ) (good_bytes : ℕ) (damaged : List (List Hash)) (damaged_bytes : ℕ) (log : Option (List LogItem)) → good_bytes ≡ 0 → damaged ≡ [] → damaged_bytes ≡ 0 → WeighsOthers cache [] good_bytes damaged damaged_bytes log log
none_read cache good_bytes damaged damaged_bytes log zero none nil =
    let nothing : total [] ≡ 0 = omega arith in
    (0, (record { reads = []; each = refl; reading = refl; whole = refl; broken = none; counts = omega (arith, ap length none) }, zero ∙ sym nothing, nil ∙ sym nothing))

pub good_read : (cache : List ℕ) (addresses : List (List Hash)) (good_bytes more : ℕ) (damaged : List (List Hash)) (damaged_bytes : ℕ) (i : List Hash) (size : ℕ) (old mid new : Option (List LogItem)) → WeighsOthers cache addresses good_bytes damaged damaged_bytes old mid → SaysGood cache i true size mid new
    → more ≡ min (good_bytes + size) (2 ^ 64 - 1) → WeighsOthers cache (addresses ++ i ∷ []) more damaged damaged_bytes old new
good_read cache addresses good_bytes more damaged damaged_bytes i size old mid new g says grows =
    let r = g.1.0 in
    let one : Judged = (i, true, size) in
    let it : ReadsEach cache (addresses ++ i ∷ []) (g.0 + 1) damaged old new = record {
      reads = r.reads ++ one ∷ [];
      each = map-append (λ (x : Judged). x.0) r.reads (one ∷ []) ∙ ap (λ (l : List (List Hash)). l ++ i ∷ []) r.each;
      reading = says_on cache r.reads one old mid new r.reading says;
      whole = ap (λ n. n + 1) r.whole ∙ sym (ap length (kept (λ (x : Judged). x.1) r.reads one refl) ∙ length-append (filter (λ (x : Judged). x.1) r.reads) (one ∷ []));
      broken = r.broken ∙ ap (λ (l : List Judged). map (λ x. x.0) l) (sym (passed (λ (x : Judged). not x.1) r.reads one refl));
      counts = omega (arith, r.counts, length-append addresses (i ∷ []));
    } in
    (g.0 + 1, (it, bytes_more (λ (x : Judged). x.1) r.reads one good_bytes more refl g.1.1 grows, bytes_same (λ (x : Judged). not x.1) r.reads one damaged_bytes refl g.1.2))

pub damaged_read : (cache : List ℕ) (addresses : List (List Hash)) (good_bytes : ℕ) (damaged : List (List Hash)) (damaged_bytes more : ℕ) (i : List Hash) (size : ℕ) (old mid new : Option (List LogItem)) → WeighsOthers cache addresses good_bytes damaged damaged_bytes old mid → SaysGood cache i false size mid new
    → more ≡ min (damaged_bytes + size) (2 ^ 64 - 1) → WeighsOthers cache (addresses ++ i ∷ []) good_bytes (damaged ++ i ∷ []) more old new
damaged_read cache addresses good_bytes damaged damaged_bytes more i size old mid new g says grows =
    let r = g.1.0 in
    let one : Judged = (i, false, size) in
    let broken : List Judged = filter (λ (x : Judged). not x.1) r.reads in
    let it : ReadsEach cache (addresses ++ i ∷ []) g.0 (damaged ++ i ∷ []) old new = record {
      reads = r.reads ++ one ∷ [];
      each = map-append (λ (x : Judged). x.0) r.reads (one ∷ []) ∙ ap (λ (l : List (List Hash)). l ++ i ∷ []) r.each;
      reading = says_on cache r.reads one old mid new r.reading says;
      whole = r.whole ∙ ap length (sym (passed (λ (x : Judged). x.1) r.reads one refl));
      broken = ap (λ (l : List (List Hash)). l ++ i ∷ []) r.broken ∙ sym (map-append (λ (x : Judged). x.0) broken (one ∷ [])) ∙ ap (λ (l : List Judged). map (λ x. x.0) l) (sym (kept (λ (x : Judged). not x.1) r.reads one refl));
      counts = omega (arith, r.counts, length-append addresses (i ∷ []), length-append damaged (i ∷ []));
    } in
    (g.0, (it, bytes_same (λ (x : Judged). x.1) r.reads one good_bytes refl g.1.1, bytes_more (λ (x : Judged). not x.1) r.reads one damaged_bytes more refl g.1.2 grows))

-- ---- an error that ends it

-- what is still to come after the first so many
split_at : {X : Type 0} (addresses seen : List X) (i : X) (k : ℕ) → k < length addresses → seen ≡ take k addresses → i ≡ get_or addresses k i → addresses ≡ seen ++ i ∷ drop (k + 1) addresses
split_at {X} addresses seen i k below before is =
    sym (take-append-drop k addresses)
    ∙ ap (λ (l : List X). take k addresses ++ l) (drop_more addresses k i below ∙ ap (λ (x : X). x ∷ drop (k + 1) addresses) (sym is))
    ∙ ap (λ (l : List X). l ++ i ∷ drop (k + 1) addresses) (sym before)

-- the same of the item that a loop has in hand, after those that it has had
pub split_turn : {S X : Type 0} {steps : S → Option X → S → Type 0} {s : S} {all : List X} (road : YieldsList steps (λ y. y) s all) (seen : List X) (now next : S) → Yields steps s seen now → (r : Option X) (x : X)
    → r ≡ Some x → steps now r next → all ≡ seen ++ x ∷ drop (length seen + 1) all
split_turn {S} {X} {steps} {s} {all} road seen now next by r x is step =
    let turn = YieldsList-turn road seen now by r next x is step in
    split_at all seen x (length seen) turn.0 (sym (map-id seen) ∙ YieldsList-so_far road seen now by) turn.1

pub memory_next : (cache : List ℕ) (rest : List (List Hash)) (log : Option (List LogItem)) → StopsNext cache rest OutOfMemory log log
memory_next cache [] log = (refl, refl)
memory_next cache (i ∷ rest) log = inl (refl, inl refl)

-- these were read, and the error ended what comes next
pub stops_next : (cache : List ℕ) (addresses seen damaged rest : List (List Hash)) (good_bytes damaged_bytes : ℕ) (e : Error) (old mid new : Option (List LogItem)) → addresses ≡ seen ++ rest → WeighsOthers cache seen good_bytes damaged damaged_bytes old mid → StopsNext cache rest e mid new
    → StopsEach cache addresses e old new
stops_next cache addresses seen damaged rest good_bytes damaged_bytes e old mid new split g stop =
    let r = g.1.0 in
    record {
      reads = r.reads;
      rest = rest;
      split = split ∙ ap (λ (l : List (List Hash)). l ++ rest) (sym r.each);
      between = mid;
      reading = r.reading;
      stop = stop;
    }
