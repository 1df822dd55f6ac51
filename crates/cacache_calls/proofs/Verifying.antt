-- A checked export verified what it opened, and a link read its whole target.
use Rattle.std.proofs.{Common.{◌≡◌, inl, inr, ℕ, List, [], ◌∷◌, ◌++◌, Option, Some, None, Bool, true, false, cond, Result, Ok, Err, refl, ap, sym, length, append_assoc, append-nil}, lemmas.Option.{same_Some}}
use Rattle.cacache_core.specs.declared.errors.Fault.TheVariants as faults
use Rattle.cacache_core.specs.{declared.errors.{Error.{Error, TheVariants.{IntegrityError, OutOfMemory}}, IntegrityFault.TheVariants.{Check}}, Integrity.{Meets, actual}, Matching.{meets}}
use Rattle.cacache_core.proofs.Meeting.{meets_finds}
use Rattle.cacache_store.specs.{declared.store.plain.PlainFile.{PlainFile}, Plain.{PlainStep, PlainAnswer}}
use Rattle.cacache_store.specs.declared.store.step.Step.TheVariants as steps
use Rattle.cacache_store.specs.declared.store.answer.Answer.TheVariants as answers
use Rattle.cacache_entry.specs.Bucket.{Found}
use Rattle.cacache_calls.specs.{declared.{answers.Refusal.{Refusal}, command.{Source.{Source}, How.{How, TheVariants.{Copy, Reflink, HardLink}}, Export.{Export}, Link.{Link}}, reply.Reply.{Reply, TheVariants.{Read, Copied, Refused}}, carried.{Lookup.{Lookup}, Content.{Content}}, target.Target.{Target}}, Answers.{file_in, got_in, bytes_in, length_in, refusal_in}, Steps.{content_path, bucket_path}, State.{State, looking, sizing, opening_file, hashing, over, Site, Hashing, to_verify, to_link}, Common.{ends_with, fails, refuse, go_on}, Reading.{export_from, export_content, export, verified, found_in, found_for, found_content, after_bucket, no_bucket}, Linking.{link_target, with_size, after_size, commit_for, hashed_path, hashed, after_read}, Storing.{link}, Table.{wants, opening, piece}, Runs.{Moves, Runs}, Replies.{entries_shown, lookup}, Verifying.{Gives, ReadsWhole, CountsAs, VerifiesContent, Verifies, LinksWhole, UnlessRefused}, Promises.{Promises}}
use Rattle.cacache_calls.proofs.{Promises.{runs_keep}, Replies.{over_run}}
use Rattle.cacache_calls.specs.declared.answers.Refusal.TheVariants as refusals
use Rattle.cacache_calls.specs.declared.command.Command.TheVariants as commands
use Rattle.cacache_calls.specs.declared.command.Source.TheVariants as sources
use Rattle.cacache_calls.specs.declared.carried.Aim.TheVariants as aims

-- what holds of every reply except a refusal
unless : (P : Type 0) (r : Reply) → (((e : Error) → r ≡ Refused e → ⊥) → P) → UnlessRefused P r
unless P (Refused e) k = tt
unless P r k = k (λ e is. absurd cc)

-- a copy returns the verified count
counted : (bytes : List ℕ) (how : How) (from to : List ℕ) (r : Reply) → Promises (export_from how from to (Some (length bytes))) r → CountsAs bytes r
counted bytes Copy from to (Copied n) h = h (length bytes) refl
counted bytes Reflink from to (Copied n) h = absurd cc
counted bytes HardLink from to (Copied n) h = absurd cc
counted bytes how from to r h = tt

module _ (r : Reply) (good : (e : Error) → r ≡ Refused e → ⊥) where
  -- a call that ended with an error was refused
  over_refused : (e : Error) (moves : Moves) → Runs (over (Refused e)) moves r → ⊥
  over_refused e moves run =
      elim (over_run (Refused e) moves r run) [
        | inl is ↦ good OutOfMemory is
        | inr h ↦ good e h.1
      ]

  refused_by : (refusal : Refusal) (moves : Moves) → Runs (refuse refusal fails) moves r → ⊥
  refused_by (refusals.Fault fault) moves run = over_refused _ moves run
  refused_by refusals.Memory moves run = over_refused _ moves run

  -- a run of a state that isn't over makes a move
  no_moves : (s : State) (step : PlainStep) → wants s ≡ Some step → Runs s [] r → ⊥
  no_moves s step w (inl e) = absurd (let none : None ≡ Some step = rw e at w in cc)
  no_moves s step w (inr e) = good OutOfMemory e

  -- ---- reading a file to its end

  -- this holds of the bytes with which the call goes on
  module _ (h : Hashing) (P : List ℕ → Type 0) (so : (bytes : List ℕ) (moves : Moves) → Runs (hashed h bytes) moves r → P bytes) where
    abbrev Brings : PlainFile → List ℕ → Moves → Type 0
    Brings file bytes moves = (more : List ℕ) × Gives file more moves × P (bytes ++ more)

    reads : (file : PlainFile) (bytes : List ℕ) (moves : Moves) → Runs (hashing h file bytes) moves r → Brings file bytes moves
    reads file bytes [] run = absurd (no_moves _ (steps.Read file piece) refl run)
    reads file bytes ((a, t) ∷ moves) run =
        let same : a ≡ steps.Read file piece = sym (same_Some _ _ run.0) in
        rw same (by_answer (λ g so_far. reads g so_far moves) t run.2)
      where
        by_answer : ((g : PlainFile) (so_far : List ℕ) → Runs (hashing h g so_far) moves r → Brings g so_far moves) → (t : PlainAnswer) → Runs (go_on (got_in t) fails (after_read h bytes)) moves r → Brings file bytes ((steps.Read file piece, t) ∷ moves)
        by_answer more (answers.Got g []) run = ([], (refl, refl), rw append-nil (so bytes moves run))
        by_answer more (answers.Got g (b ∷ bs)) run =
            let x = more g (bytes ++ b ∷ bs) run in
            ((b ∷ bs) ++ x.0, (refl, x.0, refl, x.1), rw (← append_assoc bytes (b ∷ bs) x.0) x.2)
        by_answer more t run = absurd (refused_by (refusal_in t) moves run)

    opens : (moves : Moves) → Runs (opening_file h) moves r → ReadsWhole (hashed_path h) P moves
    opens [] run = absurd (no_moves _ (steps.Open (hashed_path h)) refl run)
    opens ((a, t) ∷ moves) run =
        let same : a ≡ steps.Open (hashed_path h) = sym (same_Some _ _ run.0) in
        rw same (by_answer t run.2)
      where
        by_answer : (t : PlainAnswer) → Runs (go_on (file_in t) fails (λ file. hashing h file [])) moves r → ReadsWhole (hashed_path h) P ((steps.Open (hashed_path h), t) ∷ moves)
        by_answer (answers.File file) run = let x = reads file [] moves run in (file, x.0, moves, refl, x.1, x.2)
        by_answer t run = absurd (refused_by (refusal_in t) moves run)

  -- ---- checked exports

  met : (k : Content) (e : Export) (bytes : List ℕ) (moves : Moves) → Runs (verified k e bytes) moves r → Meets k.integrity bytes × CountsAs bytes r
  met k e bytes moves run = by_test (meets k.integrity bytes) refl run
    where
      by_test : (b : Bool) → meets k.integrity bytes ≡ b → Runs (cond b (export_content k e (Some (length bytes))) (ends_with (IntegrityError (Check k.integrity (actual k.integrity bytes))))) moves r → Meets k.integrity bytes × CountsAs bytes r
      by_test true m run = ((meets_finds k.integrity bytes).0 m, counted bytes e.how (content_path k.cache k.integrity) e.to r (runs_keep (export_content k e (Some (length bytes))) moves r run))
      by_test false m run = absurd (over_refused _ moves run)

  exports : (k : Content) (e : Export) (moves : Moves) → e.checked ≡ true → Runs (export k e) moves r → VerifiesContent k.cache k.integrity moves r
  exports k e moves checks run = opens (to_verify k e) _ (met k e) moves (let is : export k e ≡ opening_file (to_verify k e) = rw checks refl in rw is at run)

  -- ---- by key

  module _ (cache key : List ℕ) (e : Export) (checks : e.checked ≡ true) where
    abbrev look : Lookup
    look = record { cache = cache; key = key; aim = aims.Export e }

    by_found : (found : Option Found) (moves : Moves) → Runs (found_for look (aims.Export e) found) moves r → (f : Found) × (found ≡ Some f) × VerifiesContent cache f.integrity moves r
    by_found (Some f) moves run = (f, refl, exports (found_content look f) e moves checks run)
    by_found None moves run = absurd (over_refused _ moves run)

    by_bucket : (a : Result (List ℕ) Refusal) (moves : Moves) → Runs (go_on a (no_bucket look) (after_bucket look)) moves r → (f : Found) × (lookup key (entries_shown a) ≡ Ok (Some f)) × VerifiesContent cache f.integrity moves r
    unfolding found_in
    by_bucket (Ok bytes) moves run = let x = by_found (found_in key bytes) moves run in (x.0, ap Ok x.1, x.2)
    by_bucket (Err (refusals.Fault faults.NotFound)) moves run = absurd (over_refused _ moves run)
    by_bucket a moves run = absurd (over_refused _ moves run)

    by_key : (moves : Moves) → Runs (looking look) moves r → Verifies cache (sources.Key key) moves r
    by_key [] run = absurd (no_moves _ (steps.ReadAll (bucket_path cache key)) refl run)
    by_key ((a, t) ∷ moves) run =
        let same : a ≡ steps.ReadAll (bucket_path cache key) = sym (same_Some _ _ run.0) in
        let x = by_bucket (bytes_in t) moves run.2 in
        (t, moves, rw same refl, x.0, x.1, x.2)

  -- ---- links

  sizes : (t : Target ℕ) (moves : Moves) → Runs (sizing t) moves r → LinksWhole t moves r
  sizes t [] run = absurd (no_moves _ (steps.Size t.path) refl run)
  sizes t ((a, answer) ∷ moves) run =
      let same : a ≡ steps.Size t.path = sym (same_Some _ _ run.0) in
      rw same (by_answer answer run.2)
    where
      by_answer : (answer : PlainAnswer) → Runs (go_on (length_in answer) fails (after_size t)) moves r → LinksWhole t ((steps.Size t.path, answer) ∷ moves) r
      by_answer (answers.Length n) run =
          let sized = with_size t n in
          (n, moves, refl, opens (to_link sized) _ (λ bytes more h. runs_keep (link (commit_for sized bytes) t.path) more r h) moves run)
      by_answer other run = absurd (refused_by (refusal_in other) moves run)

-- a checked export that isn't refused verified what it opened
pub exports_verify : (site : Site) (source : Source) (e : Export) (moves : Moves) (r : Reply) → e.checked ≡ true → Runs (opening site (commands.Export source e)) moves r → UnlessRefused (Verifies site.cache source moves r) r
exports_verify site (sources.Hash i) e moves r checks run = unless _ r (λ good. exports r good (record { cache = site.cache; integrity = i }) e moves checks run)
exports_verify site (sources.Key key) e moves r checks run = unless _ r (λ good. by_key r good site.cache key e checks moves run)

-- a link that isn't refused read its whole target
pub links_read_whole : (site : Site) (l : Link) (moves : Moves) (r : Reply) → Runs (opening site (commands.Link l)) moves r → UnlessRefused (LinksWhole (link_target site l) moves r) r
links_read_whole site l moves r run = unless _ r (λ good. sizes r good (link_target site l) moves run)
