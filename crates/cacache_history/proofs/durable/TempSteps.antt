-- A step that neither makes nor writes a temporary file leaves it synced, or takes it away.
use Rattle.std.proofs.{Common.{arith, rules, ◌≡◌, ◌⊎◌, ℕ, Bool, true, false, cond, List, Option, None, Ok, Err, refl, sym, ap, ◌∙◌}, lemmas.{Grind.{common_steps}, Bool.{false_from_ne_true}}}
use Rattle.std.specs.Prelude.{Result}
use Rattle.cacache_core.specs.{declared.errors.Fault.{Fault}, Paths.{Names, names_of}}
use Rattle.cacache_store.specs.{declared.store.{step.Step.TheVariants.{CreateTemp, Write, Persist, SyncTemp, SyncFile, SyncDir}, answer.Answer.TheVariants.{Done}}, Plain.{PlainStep, PlainAnswer}}
use Rattle.cacache_disk.{specs.{declared.luck.Luck.{Luck}, Tree.{Tree, look, same_path}, LedTo.{writable}, Apply.{apply}}, proofs.{Maps.{same_path-true}, Roots.{same_self}}}
use Rattle.cacache_value.specs.{Kinds.{PathKind, Content, Temporary, Elsewhere, path_kind, IsFor}, Placed.{Placed, Proper}, Acts.{Move}}
use Rattle.cacache_value.proofs.{Applying.{writable_out}, Temps.{Creates, as_was, came, temp_at, went}}
use Rattle.cacache_loss.specs.{declared.fixing.Fixing.{Fixing}, Fixing.{Fixed, fixed_after, folder_synced, is_at, is_synced, moved_to, moves_file, rewrites_at, writes_at}, Moments.{Moment, next}}
use Rattle.cacache_loss.proofs.{KeptPaths.{cond_whole}, Reaching.{at_false, between_false, file_kept}}

-- a step that neither makes the temporary file at this path nor writes it
abbrev pub Spares : Names → PlainStep → Type 0
Spares q (CreateTemp p) = is_at (names_of p) q ≡ false
Spares q (Write f bytes) = is_at (names_of f.path) q ≡ false
Spares q step = Unit {0}

-- nothing is at a path, or all of the file there is synced
abbrev pub IsReady : Names → Moment → Type 0
IsReady q w = (look w.tree q ≡ None) ⊎ ((w.fixed.files q).whole ≡ true)

-- paths of other kinds are other paths
other_path : (home : Option Names) (k : PathKind) (q names : Names) → path_kind home q ≡ Temporary → path_kind home names ≡ k → (Temporary ≡ k → ⊥) → same_path q names ≡ false
other_path home k q names at is apart = false_from_ne_true (same_path q names) (λ e. apart (sym at ∙ ap (path_kind home) (same_path-true q names e) ∙ is))

module _ (q : Names) where
  at_self : (r : Result Names Fault) → r ≡ Ok q → is_at r q ≡ false → ⊥
  at_self r e apart = grind (arith, same_self)

  -- a step that spares the file makes none there
  unmade : (step : PlainStep) → Creates q step → Spares q step → ⊥
  unmade step creates spares = grind (arith, at_self)

module _ (home : Option Names) (t : Tree) (placed : Placed home t) (q : Names) (at : path_kind home q ≡ Temporary) where
  -- nothing is left at the path, or what was there
  abbrev Left : Tree → Type 0
  Left new = (look new q ≡ None) ⊎ (look new q ≡ look t q)

  left_after : (step : PlainStep) (luck : Luck) → Proper home step → Spares q step → Left (apply t step luck).1
  left_after step luck is spares = search (rules, temp_at, as_was, came, unmade, went)

  -- ---- it isn't written anew

  rewritten : (r : Result Names Fault) (to : List ℕ) → writable t to ≡ r → IsFor home Elsewhere to → is_at r q ≡ false
  rewritten (Ok names) to found is = other_path home Elsewhere q names at (writable_out home t to names placed is found).0 (λ e. cc)
  rewritten (Err fault) to found is = refl

  rewrites : (step : PlainStep) → Proper home step → rewrites_at t step q ≡ false
  rewrites step is = grind (arith, rewritten)

  writes : (step : PlainStep) → Spares q step → writes_at step q ≡ false
  writes step spares = grind (arith, common_steps)

  moves : (step : PlainStep) (answer : PlainAnswer) → Proper home step → moved_to (moves_file step answer) q ≡ false
  moves (Persist f p) Done is = between_false (names_of f.path) (names_of p) q (at_false home Content Temporary q (names_of p) is.1 at (λ e. cc))
  moves step answer is = refl

  -- ---- it stays synced

  abbrev Whole : Fixed → Type 0
  Whole fixed = (fixed.files q).whole ≡ true

  sync_whole : (b : Bool) (later fixed : Fixed) → Whole later → Whole fixed → Whole (cond b later fixed)
  sync_whole b later fixed new old = grind (arith, common_steps)

  whole_after : (fixed : Fixed) (new : Tree) (step : PlainStep) (answer : PlainAnswer) → Proper home step → Spares q step → look new q ≡ look t q → Whole fixed
      → Whole (fixed_after fixed t new step answer)
  whole_after fixed new (SyncTemp f) answer is spares e h = search (rules, sync_whole, cond_whole)
  whole_after fixed new (SyncFile p) answer is spares e h = search (rules, sync_whole, cond_whole)
  whole_after fixed new (SyncDir p) answer is spares e h = sync_whole (is_synced answer) (folder_synced fixed p) fixed h h
  whole_after fixed new step answer is spares e h =
      ap (λ (f : Fixing). f.whole) (file_kept fixed t new step answer q (look t q) refl e (moves step answer is) (rewrites step is) (writes step spares)) ∙ h

-- it is ready after each proper step that spares it
pub ready_next : (home : Option Names) (q : Names) (w : Moment) (m : Move) → path_kind home q ≡ Temporary → Placed home w.tree → Proper home m.step → Spares q m.step
    → IsReady q w → IsReady q (next w m)
ready_next home q w m at placed is spares ready = search (rules, left_after, whole_after)
