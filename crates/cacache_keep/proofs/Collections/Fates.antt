-- Contents that are dropped one after another: what the answers to the steps say, and why that ends.
-- Buckets that are synced, one after another.
use Rattle.std.proofs.{Common.{◌≡◌, ◌+◌, ◌<◌, ◌^◌, ◌-◌, ℕ, List, [], ◌∷◌, ◌++◌, true, false, Option, Ok, Err, inl, inr, arith, drop, filter, get_or, length, length-append, refl, sym, ap, subst, take, ◌∙◌}, lemmas.List.{drop_more, map-append, take-append-drop, take_more}}
use Rattle.std.specs.Prelude.{min}
use Rattle.cacache_core.specs.declared.{errors.{Error.{Error, TheVariants.{OutOfMemory}}, Fault.TheVariants.{NotFound}}, integrity.digest.Hash.{Hash}}
use Rattle.cacache_store.specs.{declared.store.log.LogItem.{LogItem}, Plain.{Fits, Logs, PlainAnswer}}
use Rattle.cacache_store.specs.declared.store.answer.Answer.TheVariants as answers
use Rattle.cacache_store.specs.declared.store.step.Step.TheVariants as steps
use Rattle.cacache_calls.specs.{declared.answers.Refusal.{Refusal}, Answers.{done_in}, Common.{fails, refuse}, Runs.{EndsAs}, SingleSteps.{Does}, Steps.{content_path}}
use Rattle.cacache_calls.specs.declared.answers.Refusal.TheVariants as refusals
use Rattle.cacache_keep.specs.{declared.{dropping.Tally.{Tally}, grace.Fate.{Fate, TheVariants.{Dropped, Young, Gone}}}, Dropping.{Counts, Drops, DropsAll, DropsEach, Met, StopsDropping, StopsUnlinking, count_of, is_fate, one_more, tally_with}, Emptying.{Empties}, Reading.{finds_none}, Rewriting.{StopsSyncingBucket, SyncsBucket}, Syncing.{StopsBuckets, SyncsBuckets}}
use Rattle.cacache_keep.proofs.{Asked.{kept, passed}, Collections.Sweeps.{refused_fails, removal_refused, still_there}, Repairs.Shown.{none_found}}

-- ---- single steps

pub unemptied : (path : List ℕ) (t : PlainAnswer) (refusal : Refusal) (old new : Option (List LogItem)) → Err refusal ≡ done_in t → Fits (steps.RemoveDir path) t → Logs old new (steps.RemoveDir path) t → Empties path false old new
unemptied path (answers.Failed fault) refusal old new is fits logs = inr (fault, logs)
unemptied path (answers.NoMemory b) refusal old new is fits logs = inl logs
unemptied path answers.Done refusal old new is fits logs = absurd cc
unemptied path t refusal old new is fits logs = absurd fits

pub is_removed : (path : List ℕ) (t : PlainAnswer) (old new : Option (List LogItem)) → Ok tt ≡ done_in t → Logs old new (steps.RemoveFile path) t → Does (steps.RemoveFile path) answers.Done old new
is_removed path answers.Done old new is logs = logs
is_removed path t old new is logs = absurd cc

pub was_gone : (path : List ℕ) (t : PlainAnswer) (refusal : Refusal) (old new : Option (List LogItem)) → finds_none refusal ≡ true → Err refusal ≡ done_in t → Fits (steps.RemoveFile path) t → Logs old new (steps.RemoveFile path) t → Does (steps.RemoveFile path) (answers.Failed NotFound) old new
was_gone path (answers.Failed fault) refusal old new none e fits logs =
    let found : refusal ≡ refusals.Fault NotFound = none_found refusal none in
    let is : fault ≡ NotFound = cc in
    rw is at logs
was_gone path (answers.NoMemory b) refusal old new none e fits logs =
    let found : refusal ≡ refusals.Fault NotFound = none_found refusal none in absurd cc
was_gone path answers.Done refusal old new none e fits logs = absurd cc
was_gone path t refusal old new none e fits logs = absurd fits

pub wasnt_removed : (path : List ℕ) (t : PlainAnswer) (refusal : Refusal) (e : Error) (old new : Option (List LogItem)) → finds_none refusal ≡ false → Err refusal ≡ done_in t → Fits (steps.RemoveFile path) t → Logs old new (steps.RemoveFile path) t → EndsAs e (refuse refusal fails) → StopsUnlinking path e old new
wasnt_removed path t refusal e old new some is fits logs ends = (still_there e refusal ends some, refused_fails (steps.RemoveFile path) t refusal e old new (removal_refused path t refusal is fits) logs ends)

pub unlinked_for_memory : (path : List ℕ) (log : Option (List LogItem)) → StopsUnlinking path OutOfMemory log log
unlinked_for_memory path log = (refl, inl refl)

-- ---- one content more

each_on : (limit : Option ℕ) (cache : List ℕ) (met : List Met) (m : Met) (old mid new : Option (List LogItem)) → DropsEach limit cache met old mid → Drops limit (content_path cache m.0) m.1 mid new → DropsEach limit cache (met ++ m ∷ []) old new
each_on limit cache [] m old mid new h one = (new, subst (λ (log : Option (List LogItem)). Drops limit (content_path cache m.0) m.1 log new) h one, refl)
each_on limit cache (x ∷ met) m old mid new h one = (h.0, h.1, each_on limit cache met m h.0 mid new h.2 one)

more_of : (fate : Fate) (met : List Met) (m : Met) (count : ℕ) → is_fate fate m.1 ≡ true → count ≡ count_of fate met → one_more count ≡ count_of fate (met ++ m ∷ [])
more_of fate met m count is so =
    let more = ap length (kept (λ (x : Met). is_fate fate x.1) met m is) in omega (arith, so, more, length-append (filter (λ (x : Met). is_fate fate x.1) met) (m ∷ []))

same_of : (fate : Fate) (met : List Met) (m : Met) (count : ℕ) → is_fate fate m.1 ≡ false → count ≡ count_of fate met → count ≡ count_of fate (met ++ m ∷ [])
same_of fate met m count is so = so ∙ ap (λ (l : List Met). min (length l) (2 ^ 64 - 1)) (sym (passed (λ (x : Met). is_fate fate x.1) met m is))

counts_on : (t : Tally) (met : List Met) (i : List Hash) (fate : Fate) → Counts t met → Counts (tally_with t fate) (met ++ (i, fate) ∷ [])
counts_on t met i Dropped c = record { dropped = more_of Dropped met (i, Dropped) t.dropped refl c.dropped; young = same_of Young met (i, Dropped) t.young refl c.young; gone = same_of Gone met (i, Dropped) t.gone refl c.gone }
counts_on t met i Young c = record { dropped = same_of Dropped met (i, Young) t.dropped refl c.dropped; young = more_of Young met (i, Young) t.young refl c.young; gone = same_of Gone met (i, Young) t.gone refl c.gone }
counts_on t met i Gone c = record { dropped = same_of Dropped met (i, Gone) t.dropped refl c.dropped; young = same_of Young met (i, Gone) t.young refl c.young; gone = more_of Gone met (i, Gone) t.gone refl c.gone }

pub one_dropped : (limit : Option ℕ) (cache : List ℕ) (addresses : List (List Hash)) (k : ℕ) (i : List Hash) (fate : Fate) (t more : Tally) (old mid new : Option (List LogItem)) → k < length addresses → i ≡ get_or addresses k i
    → DropsAll limit cache (take k addresses) t old mid → Drops limit (content_path cache i) fate mid new → more ≡ tally_with t fate → DropsAll limit cache (take (k + 1) addresses) more old new
one_dropped limit cache addresses k i fate t more old mid new below is so one counted =
    let m : Met = (i, fate) in record {
      met = so.met ++ m ∷ [];
      each = map-append (λ (x : Met). x.0) so.met (m ∷ []) ∙ ap (λ (l : List (List Hash)). l ++ i ∷ []) so.each ∙ sym (take_more addresses k i below ∙ ap (λ (h : List Hash). take k addresses ++ h ∷ []) (sym is));
      dropping = each_on limit cache so.met m old mid new so.dropping one;
      counts = subst (λ (x : Tally). Counts x (so.met ++ m ∷ [])) (sym counted) (counts_on t so.met i fate so.counts);
    }

-- the next one stops it
pub next_left : (limit : Option ℕ) (cache : List ℕ) (addresses : List (List Hash)) (k : ℕ) (i : List Hash) (t : Tally) (e : Error) (old mid new : Option (List LogItem)) → k < length addresses → i ≡ get_or addresses k i
    → DropsAll limit cache (take k addresses) t old mid → StopsUnlinking (content_path cache i) e mid new → StopsDropping limit cache addresses e old new
next_left limit cache addresses k i t e old mid new below is so stop = record {
  met = so.met;
  next = i;
  rest = drop (k + 1) addresses;
  split = sym (take-append-drop k addresses) ∙ ap (λ (l : List (List Hash)). take k addresses ++ l) (drop_more addresses k i below ∙ ap (λ (x : List Hash). x ∷ drop (k + 1) addresses) (sym is))
      ∙ ap (λ (l : List (List Hash)). l ++ i ∷ drop (k + 1) addresses) (sym so.each);
  between = mid;
  dropping = so.dropping;
  stop = stop;
}

-- ---- buckets that are synced

buckets_on : (paths : List (List ℕ)) (p : List ℕ) (old mid new : Option (List LogItem)) → SyncsBuckets paths old mid → SyncsBucket true p mid new → SyncsBuckets (paths ++ p ∷ []) old new
buckets_on [] p old mid new h one = (new, subst (λ (log : Option (List LogItem)). SyncsBucket true p log new) h one, refl)
buckets_on (x ∷ paths) p old mid new h one = (h.0, h.1, buckets_on paths p h.0 mid new h.2 one)

pub one_bucket : (paths : List (List ℕ)) (k : ℕ) (p : List ℕ) (old mid new : Option (List LogItem)) → k < length paths → p ≡ get_or paths k p → SyncsBuckets (take k paths) old mid → SyncsBucket true p mid new → SyncsBuckets (take (k + 1) paths) old new
one_bucket paths k p old mid new below is h one =
    subst (λ (l : List (List ℕ)). SyncsBuckets l old new) (sym (take_more paths k p below ∙ ap (λ (x : List ℕ). take k paths ++ x ∷ []) (sym is))) (buckets_on (take k paths) p old mid new h one)

pub next_bucket : (paths : List (List ℕ)) (k : ℕ) (p : List ℕ) (e : Error) (old mid new : Option (List LogItem)) → k < length paths → p ≡ get_or paths k p → SyncsBuckets (take k paths) old mid → StopsSyncingBucket true p e mid new → StopsBuckets paths e old new
next_bucket paths k p e old mid new below is h stop = record {
  synced = take k paths;
  next = p;
  rest = drop (k + 1) paths;
  split = sym (take-append-drop k paths) ∙ ap (λ (l : List (List ℕ)). take k paths ++ l) (drop_more paths k p below ∙ ap (λ (x : List ℕ). x ∷ drop (k + 1) paths) (sym is));
  between = mid;
  syncing = h;
  stop = stop;
}
