-- A file that is written anew, step by step, and why that ends.
-- Buckets that are compacted, one after another, and why that ends.
use Rattle.std.proofs.{Common.{◌≡◌, ℕ, List, [], ◌∷◌, ◌++◌, Bool, drop, Option, Result, Ok, Err, IfErr, inl, inr, refl, sym, ap, subst, ◌+◌, ◌-◌, ◌<◌, ◌^◌, true, false, cond, None, Some, ◌∙◌, map, length, length-append, take, get_or, arith}, lemmas.List.{drop_more, map-append, take-append-drop, take_more}}
use Rattle.std.specs.{Prelude.{IfSome, min, not, option_map}, List.{filter, sum}, Option.{option_to_list}}
use Rattle.cacache_core.specs.declared.errors.Error.{Error, TheVariants.{OutOfMemory}}
use Rattle.cacache_store.specs.{declared.store.{log.LogItem.{LogItem}, plain.PlainTemp.{PlainTemp}}, Plain.{Fits, Logs, PlainStep, PlainAnswer}}
use Rattle.cacache_calls.specs.{declared.answers.Refusal.{Refusal}, Answers.{bytes_in, done_in, synced_in, temp_in, written_in}, Common.{fails, refuse}, Runs.{EndsAs, Moves}, SingleSteps.{Does, FailsAt}}
use Rattle.cacache_laws.{proofs.trees.Logged.{gains_join}, specs.trees.{Compacting.{compact_text}, Temporary.{total}}}
use Rattle.cacache_jobs.specs.LeadsOn.{Brings, EndsRefused}
use Rattle.cacache_keep.specs.{Rewriting.{MakesTemp, Rewrites, StopsMoving, StopsRewriting, StopsSecuring, StopsWriting, SyncsFolder, Takes, Took, SyncsBucket}, Compacting.{Bucket, Changes, CompactsAll, CompactsBucket, CompactsEach, RewritesIf, Saves, Settles, StopsBucket, StopsCompactingEach, StopsSettling, is_loose, same_bytes, saved}, declared.settling.Lean.{Lean}}
use Rattle.cacache_keep.proofs.{Collections.Sweeps.{refused_fails, Refuses, temp_refused, total_more}, Asked.{kept, passed}}
use Rattle.cacache_core.specs.declared.errors.Fault.TheVariants as faults
use Rattle.cacache_store.specs.declared.store.answer.Answer.TheVariants as answers
use Rattle.cacache_store.specs.declared.store.step.Step.TheVariants as steps

-- ---- a step that was refused

pub move_refused : (file : PlainTemp) (path : List ℕ) (t : PlainAnswer) (refusal : Refusal) → Err refusal ≡ done_in t → Fits (steps.Persist file path) t → Refuses t refusal
move_refused file path (answers.Failed fault) refusal is fits = cc
move_refused file path (answers.NoMemory b) refusal is fits = cc
move_refused file path answers.Done refusal is fits = absurd cc
move_refused file path t refusal is fits = absurd fits

pub sync_refused : (file : PlainTemp) (t : PlainAnswer) (refusal : Refusal) → Err refusal ≡ synced_in t → Fits (steps.SyncTemp file) t → Refuses t refusal
sync_refused file (answers.Failed fault) refusal is fits = cc
sync_refused file (answers.NoMemory b) refusal is fits = cc
sync_refused file (answers.Synced f) refusal is fits = absurd cc
sync_refused file t refusal is fits = absurd fits

pub securing_refused : (path : List ℕ) (t : PlainAnswer) (refusal : Refusal) → Err refusal ≡ done_in t → Fits (steps.SyncDir path) t → Refuses t refusal
securing_refused path (answers.Failed fault) refusal is fits = cc
securing_refused path (answers.NoMemory b) refusal is fits = cc
securing_refused path answers.Done refusal is fits = absurd cc
securing_refused path t refusal is fits = absurd fits

pub file_refused : (path : List ℕ) (t : PlainAnswer) (refusal : Refusal) → Err refusal ≡ done_in t → Fits (steps.SyncFile path) t → Refuses t refusal
file_refused path (answers.Failed fault) refusal is fits = cc
file_refused path (answers.NoMemory b) refusal is fits = cc
file_refused path answers.Done refusal is fits = absurd cc
file_refused path t refusal is fits = absurd fits

pub read_refused : (path : List ℕ) (t : PlainAnswer) (refusal : Refusal) → Err refusal ≡ bytes_in t → Fits (steps.ReadAll path) t → Refuses t refusal
read_refused path (answers.Failed fault) refusal is fits = cc
read_refused path (answers.NoMemory b) refusal is fits = cc
read_refused path (answers.Bytes b) refusal is fits = absurd cc
read_refused path t refusal is fits = absurd fits

pub write_refused : (file : PlainTemp) (bytes : List ℕ) (t : PlainAnswer) (refusal : Refusal) → Err refusal ≡ written_in t → Fits (steps.Write file bytes) t → Refuses t refusal
write_refused file bytes (answers.Failed fault) refusal is fits = cc
write_refused file bytes (answers.NoMemory b) refusal is fits = cc
write_refused file bytes (answers.Wrote g n) refusal is fits = absurd cc
write_refused file bytes t refusal is fits = absurd fits

-- ---- writes

takes_on : (file last g : PlainTemp) (n : ℕ) (moves : Moves) (bytes rest : List ℕ) → Takes file bytes moves last rest → Takes file bytes (moves ++ (steps.Write last rest, answers.Wrote g n) ∷ []) g (drop n rest)
takes_on file last g n [] bytes rest h = (h.0, h.1, (refl, ap (drop n) h.1))
takes_on file last g n ((steps.Write f b, answers.Wrote k m) ∷ moves) bytes rest h = (h.0, h.1, takes_on k last g n moves (drop m bytes) rest h.2)
takes_on file last g n moves bytes rest h = absurd h

-- what a write brought
abbrev wrote_ok : PlainTemp × ℕ → Result (PlainTemp × ℕ) Refusal
wrote_ok x = Ok x

same_wrote : (x y : PlainTemp × ℕ) → wrote_ok x ≡ wrote_ok y → x ≡ y
same_wrote x y e = cc

pub was_written : (a : PlainStep) (t : PlainAnswer) (g : PlainTemp) (n : ℕ) (old new : Option (List LogItem)) → Ok (g, n) ≡ written_in t → Logs old new a t → Does a (answers.Wrote g n) old new
was_written a (answers.Wrote k m) g n old new is logs =
    let same = same_wrote (g, n) (k, m) is in
    let file_is : k ≡ g = sym (ap (λ (x : PlainTemp × ℕ). x.0) same) in
    let count_is : m ≡ n = sym (ap (λ (x : PlainTemp × ℕ). x.1) same) in
    rw (file_is, count_is) at logs
was_written a t g n old new is logs = absurd cc

-- one write more
pub took_more : (file last g : PlainTemp) (bytes rest : List ℕ) (n : ℕ) (old mid new : Option (List LogItem)) → Took file bytes last rest old mid → Does (steps.Write last rest) (answers.Wrote g n) mid new → Took file bytes g (drop n rest) old new
took_more file last g bytes rest n old mid new h does =
    (h.0 ++ (steps.Write last rest, answers.Wrote g n) ∷ [], takes_on file last g n h.0 bytes rest h.1, gains_join old mid new h.0 ((steps.Write last rest, answers.Wrote g n) ∷ []) h.2 does)

module _ (file last g : PlainTemp) (bytes rest shared : List ℕ) (t : PlainAnswer) (old mid new : Option (List LogItem)) (h : Took file bytes last rest old mid) (same : shared ≡ rest) (logs : Logs mid new (steps.Write last shared) t) where
  brought : (n : ℕ) → Ok (g, n) ≡ written_in t → Does (steps.Write last rest) (answers.Wrote g n) mid new
  brought n is = subst (λ (b : List ℕ). Does (steps.Write last b) (answers.Wrote g n) mid new) same (was_written (steps.Write last shared) t g n mid new is logs)

  -- a write that took some of the bytes
  pub write_more : (n : ℕ) (left : List ℕ) → Ok (g, n) ≡ written_in t → left ≡ drop n rest → Took file bytes g left old new
  write_more n left is leaves = subst (λ (l : List ℕ). Took file bytes g l old new) (sym leaves) (took_more file last g bytes rest n old mid new h (brought n is))

  -- one that took none
  pub write_none : (n : ℕ) (e : Error) → Ok (g, n) ≡ written_in t → n ≡ 0 → EndsAs e (fails faults.WriteZero) → StopsWriting file bytes e old new
  write_none n e is none ends = (last, rest, mid, h, inr (g, subst (λ (k : ℕ). Does (steps.Write last rest) (answers.Wrote g k) mid new) none (brought n is), ends))

-- one that was refused
pub write_stops : (file last : PlainTemp) (bytes rest shared : List ℕ) (t : PlainAnswer) (refusal : Refusal) (e : Error) (old mid new : Option (List LogItem)) → Took file bytes last rest old mid → shared ≡ rest → Err refusal ≡ written_in t → Fits (steps.Write last shared) t → Logs mid new (steps.Write last shared) t
    → EndsAs e (refuse refusal fails) → StopsWriting file bytes e old new
write_stops file last bytes rest shared t refusal e old mid new h same is fits logs ends =
    (last, rest, mid, h, inl (subst (λ (b : List ℕ). FailsAt (steps.Write last b) e mid new) same (refused_fails (steps.Write last shared) t refusal e mid new (write_refused last shared t refusal is fits) logs ends)))

-- memory ran out before one
pub write_lost : (file last : PlainTemp) (bytes rest : List ℕ) (old mid : Option (List LogItem)) → Took file bytes last rest old mid → StopsWriting file bytes OutOfMemory old mid
write_lost file last bytes rest old mid h = (last, rest, mid, h, inl (inl refl))

-- ---- a temporary file that was to be made

made_stops : (path : List ℕ) (t : PlainAnswer) (r : Result PlainTemp Refusal) (e : Error) (old new : Option (List LogItem)) → temp_in t ≡ r → EndsRefused r e → Fits (steps.CreateTemp path) t → Logs old new (steps.CreateTemp path) t → FailsAt (steps.CreateTemp path) e old new
made_stops path t (Ok file) e old new is ends fits logs = absurd ends
made_stops path t (Err refusal) e old new is ends fits logs = refused_fails (steps.CreateTemp path) t refusal e old new (temp_refused path t refusal (sym is) fits) logs ends

pub brings_stops : {X : Type 0} (seen : X → PlainTemp) (path : List ℕ) (t : PlainAnswer) (r : Result X Error) (old new : Option (List LogItem)) → Brings seen (temp_in t) r → Fits (steps.CreateTemp path) t → Logs old new (steps.CreateTemp path) t
    → IfErr r (λ e. FailsAt (steps.CreateTemp path) e old new)
brings_stops seen path t (Ok x) old new brings fits logs = tt
brings_stops seen path t (Err e) old new brings fits logs = made_stops path t (temp_in t) e old new refl brings fits logs

-- ---- after the writes

module _ (durable : Bool) (cache path bytes : List ℕ) (file full ready : PlainTemp) (old made written synced : Option (List LogItem)) (makes : MakesTemp cache file old made) (writes : Took file bytes full [] made written) (syncs : Does (steps.SyncTemp full) (answers.Synced full) written synced) (same : ready ≡ full) where
  -- the error ended what comes there
  stops_behind : (e : Error) (new : Option (List LogItem)) → StopsMoving durable full path e written new → StopsRewriting durable cache path bytes e old new
  stops_behind e new stop = inr (file, made, makes, inr (full, written, writes, stop))

  -- the file that was to be moved is the one that was written
  moved_full : (moved : Option (List LogItem)) → Does (steps.Persist ready path) answers.Done synced moved → Does (steps.Persist full path) answers.Done synced moved
  moved_full moved moves = subst (λ (f : PlainTemp). Does (steps.Persist f path) answers.Done synced moved) same moves

  pub unmoved : (e : Error) (new : Option (List LogItem)) → FailsAt (steps.Persist ready path) e synced new → StopsRewriting durable cache path bytes e old new
  unmoved e new fails = stops_behind e new (inr (synced, syncs, inl (subst (λ (f : PlainTemp). FailsAt (steps.Persist f path) e synced new) same fails)))

  pub unsecured : (moved : Option (List LogItem)) (e : Error) (new : Option (List LogItem)) → Does (steps.Persist ready path) answers.Done synced moved → StopsSecuring durable path e moved new → StopsRewriting durable cache path bytes e old new
  unsecured moved e new moves stop = stops_behind e new (inr (synced, syncs, inr (moved, moved_full moved moves, stop)))

  pub secured : (moved new : Option (List LogItem)) → Does (steps.Persist ready path) answers.Done synced moved → SyncsFolder durable path moved new → Rewrites durable cache path bytes old new
  secured moved new moves secures = record {
    file = file;
    made = made;
    making = makes;
    full = full;
    written = written;
    writing = writes;
    synced = synced;
    syncing = syncs;
    moved = moved;
    moving = moved_full moved moves;
    securing = secures;
  }

-- the file wasn't synced
pub unsynced : (durable : Bool) (cache path bytes : List ℕ) (file full : PlainTemp) (old made written : Option (List LogItem)) (e : Error) (new : Option (List LogItem)) → MakesTemp cache file old made → Took file bytes full [] made written → FailsAt (steps.SyncTemp full) e written new
    → StopsRewriting durable cache path bytes e old new
unsynced durable cache path bytes file full old made written e new makes writes stop = inr (file, made, makes, inr (full, written, writes, inl stop))

-- ---- one bucket

same_text : (bytes text : List ℕ) (b : Bool) → None ≡ cond b None (Some text) → b ≡ true
same_text bytes text true e = refl
same_text bytes text false e = absurd cc

other_text : (bytes text given : List ℕ) (b : Bool) → Some given ≡ cond b None (Some text) → (b ≡ false) × (given ≡ text)
other_text bytes text given true e = absurd cc
other_text bytes text given false e = (refl, cc)

module _ (durable : Bool) (cache path bytes : List ℕ) (old read : Option (List LogItem)) (does : Does (steps.ReadAll path) (answers.Bytes bytes) old read) where
  abbrev compacted : List ℕ
  compacted = compact_text durable bytes

  unchanged : Changes durable bytes None → is_loose durable (path, bytes) ≡ false
  unchanged same = ap not (same_text bytes compacted (same_bytes compacted bytes) same)

  -- a bucket that doesn't change was read, and synced in a durable compaction
  left_alone : (new : Option (List LogItem)) → Changes durable bytes None → SyncsBucket durable path read new → (is_loose durable (path, bytes) ≡ false) × CompactsBucket durable cache (path, bytes) old new
  left_alone new same syncs =
      let is = unchanged same in
      (is, (read, does, subst (λ (b : Bool). RewritesIf b durable cache (path, bytes) read new) (sym is) syncs))

  -- another was written anew
  written_anew : (text : List ℕ) (n : ℕ) (new : Option (List LogItem)) → Changes durable bytes (Some text) → n ≡ length bytes - length text → Rewrites durable cache path text read new
      → Saves durable (path, bytes) (Some n) × CompactsBucket durable cache (path, bytes) old new
  written_anew text n new other size writes =
      let is = other_text bytes compacted text (same_bytes compacted bytes) other in
      let loose : is_loose durable (path, bytes) ≡ true = ap not is.0 in
      let anew : Rewrites durable cache path compacted read new = subst (λ (t : List ℕ). Rewrites durable cache path t read new) is.1 writes in
      ((loose, size ∙ ap (λ (t : List ℕ). length bytes - length t) is.1), (read, does, subst (λ (b : Bool). RewritesIf b durable cache (path, bytes) read new) (sym loose) anew))

  -- what was settled, by the new bytes
  pub settled : (lean : Option Lean) (saving : Option ℕ) (new : Option (List LogItem)) → Changes durable bytes (option_map (λ (l : Lean). l.text.items) lean) → IfSome lean (λ (l : Lean). l.saved ≡ length bytes - length l.text.items)
      → Settles durable cache path (option_map (λ (l : Lean). (l.text.items, l.saved)) lean) saving read new → (b : List ℕ) × Saves durable (path, b) saving × CompactsBucket durable cache (path, b) old new
  settled None saving new same size done =
      let alone = left_alone new same done.1 in
      (bytes, subst (λ (s : Option ℕ). Saves durable (path, bytes) s) (sym done.0) alone.0, alone.1)
  settled (Some l) saving new other size done =
      let anew = written_anew l.text.items l.saved new other size done.1 in
      (bytes, subst (λ (s : Option ℕ). Saves durable (path, bytes) s) (sym done.0) anew.0, anew.1)

  -- the error ended that
  pub unsettled : (lean : Option Lean) (e : Error) (new : Option (List LogItem)) → Changes durable bytes (option_map (λ (l : Lean). l.text.items) lean)
      → StopsSettling durable cache path (option_map (λ (l : Lean). (l.text.items, l.saved)) lean) e read new → StopsBucket durable cache path e old new
  unsettled None e new same stop = inr (bytes, read, does, inr (unchanged same, stop))
  unsettled (Some l) e new other stop =
      let is = other_text bytes compacted l.text.items (same_bytes compacted bytes) other in
      inr (bytes, read, does, inl (subst (λ (t : List ℕ). StopsRewriting durable cache path t e read new) is.1 stop))

  -- memory ran out once it was read
  pub lost_read : StopsBucket durable cache path OutOfMemory old read
  lost_read = inr (bytes, read, does, inl (inl (inl (inl refl))))

-- ---- buckets, one after another

each_on : (durable : Bool) (cache : List ℕ) (buckets : List Bucket) (b : Bucket) (old mid new : Option (List LogItem)) → CompactsEach durable cache buckets old mid → CompactsBucket durable cache b mid new → CompactsEach durable cache (buckets ++ b ∷ []) old new
each_on durable cache [] b old mid new h one = (new, subst (λ (log : Option (List LogItem)). CompactsBucket durable cache b log new) h one, refl)
each_on durable cache (x ∷ buckets) b old mid new h one = (h.0, h.1, each_on durable cache buckets b h.0 mid new h.2 one)

counts_on : (durable : Bool) (buckets : List Bucket) (b : Bucket) (saving : Option ℕ) (count : ℕ) → Saves durable b saving → count ≡ min (length (filter (is_loose durable) buckets)) (2 ^ 64 - 1) → min (count + length (option_to_list saving)) (2 ^ 64 - 1) ≡ min (length (filter (is_loose durable) (buckets ++ b ∷ []))) (2 ^ 64 - 1)
counts_on durable buckets b None count saves is = let same = ap length (passed (is_loose durable) buckets b saves) in omega (arith, is, same)
counts_on durable buckets b (Some n) count saves is =
    let more = ap length (kept (is_loose durable) buckets b saves.0) in omega (arith, is, more, length-append (filter (is_loose durable) buckets) (b ∷ []))

sums_on : (durable : Bool) (buckets : List Bucket) (b : Bucket) (saving : Option ℕ) (bytes : ℕ) → Saves durable b saving → bytes ≡ total (map (saved durable) (filter (is_loose durable) buckets))
    → min (bytes + sum (option_to_list saving)) (2 ^ 64 - 1) ≡ total (map (saved durable) (filter (is_loose durable) (buckets ++ b ∷ [])))
sums_on durable buckets b None bytes saves is =
    let zero : sum [] ≡ 0 = omega arith in
    stays (sum (map (saved durable) (filter (is_loose durable) buckets))) bytes (sum []) is zero ∙ ap (λ (l : List Bucket). total (map (saved durable) l)) (sym (passed (is_loose durable) buckets b saves))
  where
    stays : (a bytes z : ℕ) → bytes ≡ min a (2 ^ 64 - 1) → z ≡ 0 → min (bytes + z) (2 ^ 64 - 1) ≡ min a (2 ^ 64 - 1)
    stays a bytes z e none = omega (arith, e, none)
sums_on durable buckets b (Some n) bytes saves is =
    let one : sum (n ∷ []) ≡ n = omega arith in
    ap (λ x. min (bytes + x) (2 ^ 64 - 1)) (one ∙ saves.1) ∙ ap (λ x. min (x + saved durable b) (2 ^ 64 - 1)) is ∙ sym (total_more (map (saved durable) (filter (is_loose durable) buckets)) (saved durable b))
    ∙ ap total (sym (map-append (saved durable) (filter (is_loose durable) buckets) (b ∷ []))) ∙ ap (λ (l : List Bucket). total (map (saved durable) l)) (sym (kept (is_loose durable) buckets b saves.0))

-- one bucket more
pub one_compacted : (durable : Bool) (cache : List ℕ) (paths : List (List ℕ)) (k : ℕ) (path bytes : List ℕ) (saving : Option ℕ) (count size more sum_more : ℕ) (old mid new : Option (List LogItem)) → k < length paths → path ≡ get_or paths k path
    → CompactsAll durable cache (take k paths) count size old mid → Saves durable (path, bytes) saving → CompactsBucket durable cache (path, bytes) mid new → more ≡ min (count + length (option_to_list saving)) (2 ^ 64 - 1) → sum_more ≡ min (size + sum (option_to_list saving)) (2 ^ 64 - 1)
    → CompactsAll durable cache (take (k + 1) paths) more sum_more old new
one_compacted durable cache paths k path bytes saving count size more sum_more old mid new below is so saves one counts sums =
    let b : Bucket = (path, bytes) in record {
      buckets = so.buckets ++ b ∷ [];
      each = map-append (λ (x : Bucket). x.0) so.buckets (b ∷ []) ∙ ap (λ (ps : List (List ℕ)). ps ++ path ∷ []) so.each ∙ sym (take_more paths k path below ∙ ap (λ (x : List ℕ). take k paths ++ x ∷ []) (sym is));
      compacting = each_on durable cache so.buckets b old mid new so.compacting one;
      counted = counts ∙ counts_on durable so.buckets b saving count saves so.counted;
      sized = sums ∙ sums_on durable so.buckets b saving size saves so.sized;
    }

-- the next one stops it
pub next_loose : (durable : Bool) (cache : List ℕ) (paths : List (List ℕ)) (k : ℕ) (path : List ℕ) (count size : ℕ) (e : Error) (old mid new : Option (List LogItem)) → k < length paths → path ≡ get_or paths k path → CompactsAll durable cache (take k paths) count size old mid
    → StopsBucket durable cache path e mid new → StopsCompactingEach durable cache paths e old new
next_loose durable cache paths k path count size e old mid new below is so stop = record {
  buckets = so.buckets;
  next = path;
  rest = drop (k + 1) paths;
  split = sym (take-append-drop k paths) ∙ ap (λ (l : List (List ℕ)). take k paths ++ l) (drop_more paths k path below ∙ ap (λ (x : List ℕ). x ∷ drop (k + 1) paths) (sym is))
      ∙ ap (λ (l : List (List ℕ)). l ++ path ∷ drop (k + 1) paths) (sym so.each);
  between = mid;
  compacting = so.compacting;
  stop = stop;
}
