-- Files of a folder that are removed, one after another, and why that ends.
use Rattle.std.proofs.{Common.{◌≡◌, ◌+◌, ◌-◌, ◌^◌, ◌<◌, inl, ℕ, List, [], ◌∷◌, ◌++◌, true, false, Option, Ok, Err, refl, sym, ap, subst, ◌∙◌, map, length, take, drop, get_or, arith}, lemmas.List.{Sums.{sum_by-append}, drop_more, length-map, map-append, take-append-drop, take_more}}
use Rattle.std.specs.{Prelude.{min}, List.{sum}}
use Rattle.cacache_core.specs.{declared.errors.Error.{Error, TheVariants.{OutOfMemory}}, Paths.{join}}
use Rattle.cacache_store.specs.declared.store.answer.Answer.TheVariants as answers
use Rattle.cacache_store.specs.{declared.store.{answer.Name.{Name}, log.LogItem.{LogItem}}, Plain.{Fits, Logs, PlainAnswer}}
use Rattle.cacache_store.specs.declared.store.step.Step.TheVariants as steps
use Rattle.cacache_calls.specs.{declared.answers.Refusal.{Refusal}, Answers.{length_in, names_in}, Common.{fails, refuse}, Runs.{EndsAs, Gains, Moves}, SingleSteps.{Does, FailsAt}}
use Rattle.cacache_laws.{proofs.trees.Logged.{gains_join}, specs.trees.Temporary.{sized_removals, total}}
use Rattle.cacache_keep.{specs.{Reading.{finds_none, is_gone}, Sweeping.{RemovesSized, StopsRemoval, StopsSized}}, proofs.Repairs.Shown.{not_gone}}
pub use Rattle.cacache_sync.proofs.content.StepAnswers.{Refuses, refused_fails, folder_refused, removal_refused, size_refused, temp_refused}

-- ---- a step that was refused

pub listing_refused : (path : List ℕ) (t : PlainAnswer) (refusal : Refusal) → Err refusal ≡ names_in t → Fits (steps.ReadDir path) t → Refuses t refusal
listing_refused path (answers.Failed fault) refusal is fits = cc
listing_refused path (answers.NoMemory b) refusal is fits = cc
listing_refused path (answers.Names names) refusal is fits = absurd cc
listing_refused path t refusal is fits = absurd fits

-- ---- the names of a folder

pub still_there : (e : Error) (refusal : Refusal) → EndsAs e (refuse refusal fails) → finds_none refusal ≡ false → is_gone e ≡ false
still_there e refusal ends some = not_gone e refusal ends (λ same. let wrong : true ≡ false = sym (ap finds_none same) ∙ some in absurd cc)

pub unlisted_so : (path : List ℕ) (t : PlainAnswer) (refusal : Refusal) (e : Error) (old new : Option (List LogItem)) → finds_none refusal ≡ false → Err refusal ≡ names_in t → Fits (steps.ReadDir path) t → Logs old new (steps.ReadDir path) t → EndsAs e (refuse refusal fails) → (is_gone e ≡ false) × FailsAt (steps.ReadDir path) e old new
unlisted_so path t refusal e old new some is fits logs ends = (still_there e refusal ends some, refused_fails (steps.ReadDir path) t refusal e old new (listing_refused path t refusal is fits) logs ends)

-- ---- one file

pub told_size : (path : List ℕ) (t : PlainAnswer) (size : ℕ) (old new : Option (List LogItem)) → Ok size ≡ length_in t → Logs old new (steps.Size path) t → Does (steps.Size path) (answers.Length size) old new
told_size path (answers.Length count) size old new is logs = let same : count ≡ size = cc in rw same at logs
told_size path t size old new is logs = absurd cc

abbrev sized : List ℕ → ℕ → Moves
sized path size = (steps.Size path, answers.Length size) ∷ (steps.RemoveFile path, answers.Done) ∷ []

-- ---- files, one after another

sized_more : (folder : List ℕ) (removed : List (Name × ℕ)) (r : Name × ℕ) → sized_removals folder (removed ++ r ∷ []) ≡ sized_removals folder removed ++ sized (join folder r.0.name) r.1
sized_more folder [] r = refl
sized_more folder (s ∷ removed) r = ap (λ (m : Moves). (steps.Size (join folder s.0.name), answers.Length s.1) ∷ (steps.RemoveFile (join folder s.0.name), answers.Done) ∷ m) (sized_more folder removed r)

pub total_more : (sizes : List ℕ) (size : ℕ) → total (sizes ++ size ∷ []) ≡ min (total sizes + size) (2 ^ 64 - 1)
total_more sizes size =
    let more : sum (sizes ++ size ∷ []) ≡ sum sizes + sum (size ∷ []) = sum_by-append (λ (x : ℕ). x) sizes (size ∷ []) in
    let one : sum (size ∷ []) ≡ size = omega arith in
    saturated (sum sizes) (sum (sizes ++ size ∷ [])) size (more ∙ ap (λ n. sum sizes + n) one)
  where
    saturated : (a b size : ℕ) → b ≡ a + size → min b (2 ^ 64 - 1) ≡ min (min a (2 ^ 64 - 1) + size) (2 ^ 64 - 1)
    saturated a b size e = omega (arith, e)

-- the first so many of the files were removed, and had so many bytes
pub record RemovedTo (folder : List ℕ) (files : List Name) (k bytes : ℕ) (old new : Option (List LogItem)) : Type 0 where
  pub removed : List (Name × ℕ)
  pub each : map (λ r. r.0) removed ≡ take k files
  pub sum : bytes ≡ total (map (λ r. r.1) removed)
  pub removing : RemovesSized folder removed old new

pub one_sized : (folder : List ℕ) (files : List Name) (k bytes size : ℕ) (file : Name) (old mid new : Option (List LogItem)) → k < length files → file ≡ get_or files k file → RemovedTo folder files k bytes old mid
    → Gains mid new (sized (join folder file.name) size) → RemovedTo folder files (k + 1) (min (bytes + size) (2 ^ 64 - 1)) old new
one_sized folder files k bytes size file old mid new below is so gains =
    let more : Name × ℕ = (file, size) in record {
      removed = so.removed ++ more ∷ [];
      each = map-append (λ (r : Name × ℕ). r.0) so.removed (more ∷ []) ∙ ap (λ l. l ++ file ∷ []) so.each ∙ sym (take_more files k file below ∙ ap (λ (n : Name). take k files ++ n ∷ []) (sym is));
      sum = ap (λ b. min (b + size) (2 ^ 64 - 1)) so.sum ∙ sym (ap total (map-append (λ (r : Name × ℕ). r.1) so.removed (more ∷ [])) ∙ total_more (map (λ r. r.1) so.removed) size);
      removing = subst (λ m. Gains old new m) (sym (sized_more folder so.removed more)) (gains_join old mid new (sized_removals folder so.removed) (sized (join folder file.name) size) so.removing gains);
    }

split_here : (files : List Name) (k : ℕ) (file : Name) → k < length files → file ≡ get_or files k file → files ≡ take k files ++ file ∷ drop (k + 1) files
split_here files k file below is = sym (take-append-drop k files) ∙ ap (λ l. take k files ++ l) (drop_more files k file below ∙ ap (λ (n : Name). n ∷ drop (k + 1) files) (sym is))

pub next_kept : (folder : List ℕ) (files : List Name) (k bytes : ℕ) (file : Name) (e : Error) (old mid new : Option (List LogItem)) → k < length files → file ≡ get_or files k file → RemovedTo folder files k bytes old mid
    → StopsRemoval (join folder file.name) e mid new → StopsSized folder files e old new
next_kept folder files k bytes file e old mid new below is so stop = record {
  removed = so.removed;
  rest = file ∷ drop (k + 1) files;
  split = split_here files k file below is ∙ ap (λ l. l ++ file ∷ drop (k + 1) files) (sym so.each);
  between = mid;
  removing = so.removing;
  stop = stop;
}

-- memory ran out before the next one was asked for its size
pub lost_before : (folder : List ℕ) (files : List Name) (k bytes : ℕ) (file : Name) (old mid : Option (List LogItem)) → k < length files → file ≡ get_or files k file → RemovedTo folder files k bytes old mid → StopsSized folder files OutOfMemory old mid
lost_before folder files k bytes file old mid below is so = next_kept folder files k bytes file OutOfMemory old mid mid below is so (inl (inl refl))

-- as many files were removed as there are
pub counted_all : (count : ℕ) (removed : List (Name × ℕ)) (files : List Name) → count ≡ length files → map (λ r. r.0) removed ≡ files → count ≡ length removed
counted_all count removed files is each = is ∙ ap (λ (xs : List Name). length xs) (sym each) ∙ length-map removed (λ r. r.0)
