-- The calls of an append and of a read of a whole file, taken apart.
use Rattle.std.proofs.Common.{◌≡◌, inl, inr, length, ℕ, Bool, true, false, if◌then◌else◌, List, [], ◌∷◌, ◌++◌, refl, sym, ap, subst, ◌∙◌, append_assoc, append-nil}
use Rattle.std.specs.{Prelude.{None, Some, ◌==◌}, List.{AllByRecursion}}
use Rattle.std_io.specs.declared.io.kind.ErrorKind.{ErrorKind}
use Rattle.cacache_system.specs.{declared.call.{SystemCall.{SystemCall}, CallItem.{CallItem}, CallResult.{CallResult, TheVariants.{Opened, Count, Bytes, Info, Failed}}}, Seen.{item}, CallsOf.{Stage, Runs, over, trying, taking_memory, opening_whole, reading_front, measuring, reading_rest, appending, interrupts, was_interrupted, after}}
use Rattle.cacache_system.specs.declared.call.SystemCall.TheVariants as asks
use Rattle.cacache_system_model.specs.bucket.Calls.{FitsCall, AllFit, IsBeforeWrite, WritesOnce, AppendsWriteOnce, said_by, all_said, IsBeforeRest, ReadsGoToEnd}

-- no call comes after a step is over, and it ends with its result
over_ends : (said end : CallResult) (items : List CallItem) → Runs (over said) items end → (items ≡ []) × (said ≡ end)
over_ends said end [] runs = (refl, runs)
over_ends said end (i ∷ items) runs = let none : None ≡ Some i.call = runs.0 in absurd cc

-- a stage that takes memory goes on as the one after it, if the calls end with bytes
taken_runs : (s : Stage) (items : List CallItem) (bytes : List ℕ) → Runs (taking_memory s) items (Bytes bytes) → Runs s items (Bytes bytes)
taken_runs s [] bytes (inl refused) = absurd cc
taken_runs s [] bytes (inr ends) = ends
taken_runs s (i ∷ items) bytes runs = runs

-- ---- appends

-- calls with one before them
writes_before : (bytes : List ℕ) (count : ℕ) (i : CallItem) (items : List CallItem) → IsBeforeWrite i.call i.result → WritesOnce bytes count items → WritesOnce bytes count (i ∷ items)
writes_before bytes count i items is once =
    record { file = once.file; calls = i ∷ once.calls; parts = ap (λ l. i ∷ l) once.parts; before = (is, once.before) }

-- the write is tried until no signal interrupts it
trying_once : (again : Bool) (file count : ℕ) (bytes : List ℕ) (items : List CallItem) → Runs (trying again (asks.Write file bytes)) items (Count count) → WritesOnce bytes count items
trying_once true file count bytes [] runs = absurd cc
trying_once false file count bytes [] runs = absurd runs
trying_once again file count bytes (i ∷ items) runs =
    let asked : Some (asks.Write file bytes) ≡ Some i.call = runs.0 in
    let call : asks.Write file bytes ≡ i.call = cc in
    by (was_interrupted i.result) refl call runs.1 (λ more. trying_once true file count bytes items more)
  where
    by : (b : Bool) → was_interrupted i.result ≡ b → asks.Write file bytes ≡ i.call
        → Runs (if b then trying true (asks.Write file bytes) else over i.result) items (Count count)
        → (Runs (trying true (asks.Write file bytes)) items (Count count) → WritesOnce bytes count items) → WritesOnce bytes count (i ∷ items)
    by true is call runs more = writes_before bytes count i items (subst (λ c. IsBeforeWrite c i.result) call is) (more runs)
    by false is call runs more =
        let ends = over_ends i.result (Count count) items runs in
        record {
          file = file;
          calls = [];
          parts = ap (λ l. i ∷ l) ends.0 ∙ ap (λ c. item c i.result ∷ []) (sym call) ∙ ap (λ r. item (asks.Write file bytes) r ∷ []) ends.1;
          before = tt;
        }

opened_once : (path bytes : List ℕ) (count : ℕ) (call : SystemCall) (said : CallResult) (items : List CallItem) → asks.OpenToAppend path ≡ call → FitsCall call said
    → Runs (after (appending path bytes) said) items (Count count) → WritesOnce bytes count items
opened_once path bytes count call (Opened file) items is fits runs = trying_once false file count bytes items runs
opened_once path bytes count call (Count n) items is fits runs = absurd (subst (λ c. FitsCall c (Count n)) (sym is) fits)
opened_once path bytes count call said items is fits runs = let wrong : said ≡ Count count = (over_ends said (Count count) items runs).1 in absurd cc

appending_once : (path bytes : List ℕ) (count : ℕ) (items : List CallItem) → Runs (appending path bytes) items (Count count) → AllFit items → WritesOnce bytes count items
appending_once path bytes count [] runs fit = absurd runs
appending_once path bytes count (i ∷ items) runs fit =
    let asked : Some (asks.OpenToAppend path) ≡ Some i.call = runs.0 in
    let call : asks.OpenToAppend path ≡ i.call = cc in
    writes_before bytes count i items (subst (λ c. IsBeforeWrite c i.result) call tt) (opened_once path bytes count i.call i.result items call fit.0 runs.1)

pub appends_write_once : AppendsWriteOnce
appends_write_once hint path bytes count items runs fit = appending_once path bytes count items runs fit

-- ---- reads

-- calls that read the rest of a file, of which the front is known
record ReadsOn (front bytes : List ℕ) (file : ℕ) (items : List CallItem) : Type 0 where
  calls : List CallItem
  rest : List ℕ
  parts : items ≡ calls ++ item (asks.ReadRest file) (Bytes rest) ∷ []
  before : AllByRecursion (λ (i : CallItem). IsBeforeRest i.call) calls
  whole : bytes ≡ front ++ (all_said calls ++ rest)

-- the same with a call before them
reads_before : (front bytes : List ℕ) (file : ℕ) (i : CallItem) (items : List CallItem) → IsBeforeRest i.call → ReadsOn (front ++ said_by i.result) bytes file items → ReadsOn front bytes file (i ∷ items)
reads_before front bytes file i items is on =
    let said = said_by i.result in
    record {
      calls = i ∷ on.calls;
      rest = on.rest;
      parts = ap (λ l. i ∷ l) on.parts;
      before = (is, on.before);
      whole = on.whole ∙ append_assoc front said (all_said on.calls ++ on.rest) ∙ ap (λ l. front ++ l) (sym (append_assoc said (all_said on.calls) on.rest));
    }

rest_said : (front bytes : List ℕ) (file : ℕ) (said : CallResult) (items : List CallItem) → Runs (after (reading_rest front file) said) items (Bytes bytes)
    → (rest : List ℕ) × (said ≡ Bytes rest) × (items ≡ []) × (bytes ≡ front ++ rest)
rest_said front bytes file (Bytes rest) items runs =
    let ends = over_ends (Bytes (front ++ rest)) (Bytes bytes) items (taken_runs (over (Bytes (front ++ rest))) items bytes runs) in
    let same : Bytes (front ++ rest) ≡ Bytes bytes = ends.1 in
    (rest, refl, ends.0, cc)
rest_said front bytes file said items runs = let wrong : said ≡ Bytes bytes = (over_ends said (Bytes bytes) items runs).1 in absurd cc

rest_on : (front bytes : List ℕ) (file : ℕ) (items : List CallItem) → Runs (reading_rest front file) items (Bytes bytes) → ReadsOn front bytes file items
rest_on front bytes file [] runs = absurd runs
rest_on front bytes file (i ∷ items) runs =
    let asked : Some (asks.ReadRest file) ≡ Some i.call = runs.0 in
    let call : asks.ReadRest file ≡ i.call = cc in
    let ends = rest_said front bytes file i.result items runs.1 in
    record {
      calls = [];
      rest = ends.0;
      parts = ap (λ l. i ∷ l) ends.2 ∙ ap (λ c. item c i.result ∷ []) (sym call) ∙ ap (λ r. item (asks.ReadRest file) r ∷ []) ends.1;
      before = tt;
      whole = ends.3;
    }

measured_on : (front bytes : List ℕ) (file : ℕ) (call : SystemCall) (said : CallResult) (items : List CallItem) → asks.StatFile file ≡ call → FitsCall call said
    → Runs (after (measuring front file) said) items (Bytes bytes) → ReadsOn (front ++ said_by said) bytes file items
measured_on front bytes file call (Info info) items is fits runs =
    subst (λ l. ReadsOn l bytes file items) (sym (append-nil front)) (rest_on front bytes file items (taken_runs (reading_rest front file) items bytes runs))
measured_on front bytes file call (Bytes other) items is fits runs = absurd (subst (λ c. FitsCall c (Bytes other)) (sym is) fits)
measured_on front bytes file call said items is fits runs = let wrong : said ≡ Bytes bytes = (over_ends said (Bytes bytes) items runs).1 in absurd cc

measuring_on : (front bytes : List ℕ) (file : ℕ) (items : List CallItem) → Runs (measuring front file) items (Bytes bytes) → AllFit items → ReadsOn front bytes file items
measuring_on front bytes file [] runs fit = absurd runs
measuring_on front bytes file (i ∷ items) runs fit =
    let asked : Some (asks.StatFile file) ≡ Some i.call = runs.0 in
    let call : asks.StatFile file ≡ i.call = cc in
    reads_before front bytes file i items (subst IsBeforeRest call tt) (measured_on front bytes file i.call i.result items call fit.0 runs.1)

known_on : (b : Bool) (front bytes : List ℕ) (file : ℕ) (items : List CallItem)
    → Runs (if b then measuring front file else taking_memory (reading_rest front file)) items (Bytes bytes) → AllFit items → ReadsOn front bytes file items
known_on true front bytes file items runs fit = measuring_on front bytes file items runs fit
known_on false front bytes file items runs fit = rest_on front bytes file items (taken_runs (reading_rest front file) items bytes runs)

front_on : (bytes : List ℕ) (again : Bool) (size file : ℕ) (items : List CallItem) → Runs (reading_front again size file) items (Bytes bytes) → AllFit items → ReadsOn [] bytes file items
front_on bytes true size file [] runs fit = absurd cc
front_on bytes false size file [] runs fit = absurd runs
front_on bytes again size file (i ∷ items) runs fit =
    let asked : Some (asks.Read file size) ≡ Some i.call = runs.0 in
    let call : asks.Read file size ≡ i.call = cc in
    reads_before [] bytes file i items (subst IsBeforeRest call tt) (said i.result runs.1 (λ more. front_on bytes true size file items more fit.1))
  where
    failed : (b : Bool) (why : ErrorKind) → Runs (if b then reading_front true size file else over (Failed why)) items (Bytes bytes)
        → (Runs (reading_front true size file) items (Bytes bytes) → ReadsOn [] bytes file items) → ReadsOn [] bytes file items
    failed true why runs more = more runs
    failed false why runs more = let wrong : Failed why ≡ Bytes bytes = (over_ends (Failed why) (Bytes bytes) items runs).1 in absurd cc

    said : (r : CallResult) → Runs (after (reading_front again size file) r) items (Bytes bytes)
        → (Runs (reading_front true size file) items (Bytes bytes) → ReadsOn [] bytes file items) → ReadsOn (said_by r) bytes file items
    said (Bytes front) runs more = known_on (length front == size) front bytes file items runs fit.1
    said (Failed why) runs more = failed (interrupts why) why runs more
    said r runs more = let wrong : r ≡ Bytes bytes = (over_ends r (Bytes bytes) items runs).1 in absurd cc

opened_on : (path bytes : List ℕ) (call : SystemCall) (said : CallResult) (items : List CallItem) → asks.OpenToRead path ≡ call → FitsCall call said
    → Runs (after (opening_whole path) said) items (Bytes bytes) → AllFit items → (file : ℕ) × (said ≡ Opened file) × ReadsOn [] bytes file items
opened_on path bytes call (Opened file) items is fits runs fit = (file, refl, front_on bytes false 2048 file items runs fit)
opened_on path bytes call (Bytes other) items is fits runs fit = absurd (subst (λ c. FitsCall c (Bytes other)) (sym is) fits)
opened_on path bytes call said items is fits runs fit = let wrong : said ≡ Bytes bytes = (over_ends said (Bytes bytes) items runs).1 in absurd cc

pub reads_go_to_end : ReadsGoToEnd
reads_go_to_end hint path bytes [] runs fit = absurd runs
reads_go_to_end hint path bytes (i ∷ items) runs fit =
    let asked : Some (asks.OpenToRead path) ≡ Some i.call = runs.0 in
    let call : asks.OpenToRead path ≡ i.call = cc in
    let on = opened_on path bytes i.call i.result items call fit.0 runs.1 fit.1 in
    record {
      file = on.0;
      calls = on.2.calls;
      rest = on.2.rest;
      parts = ap (λ c. item c i.result ∷ items) (sym call) ∙ ap (λ r. item (asks.OpenToRead path) r ∷ items) on.1 ∙ ap (λ l. item (asks.OpenToRead path) (Opened on.0) ∷ l) on.2.parts;
      before = on.2.before;
      whole = on.2.whole;
    }
