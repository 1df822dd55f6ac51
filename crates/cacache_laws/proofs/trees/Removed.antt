-- The run of a removal; removals of contents leave a cache on which calls may be made.
use Rattle.std.proofs.Common.{◌≡◌, inl, inr, ℕ, List, [], ◌∷◌, Some, refl, sym, ap₂, subst}
use Rattle.cacache_calls.specs.{Table.{opening, after}, State.{Site, doing, remove, over}, declared.reply.Reply.TheVariants.{Done}, Steps.{content_path}, Runs.{Moves, Runs}}
use Rattle.cacache_core.specs.{declared.integrity.digest.Hash.{Hash}, Paths.{joined, content_names, home_of}}
use Rattle.cacache_store.specs.{declared.store.step.Step.TheVariants.{RemoveFile}, Plain.{PlainStep, PlainAnswer}}
use Rattle.cacache_laws.{proofs.{trees.HiddenKeys.{ended}, Spares.Unused.{still_sound}}, specs.{trees.Collecting.{Removes}, Sequence.{IsSound}}}
use Rattle.cacache_disk.specs.{declared.luck.Luck.TheVariants.{Plain}, Tree.{Tree}, Apply.{apply}}
use Rattle.cacache_calls.specs.declared.command.Command.TheVariants as commands
use Rattle.cacache_store.specs.declared.store.answer.Answer.TheVariants as answers

-- the step was answered Done, and nothing follows
answered : (path : List ℕ) (t : PlainAnswer) (more : Moves) → Runs (after (doing (remove path) (over Done)) t) more Done → (t ≡ answers.Done) × (more ≡ [])
answered path answers.Done more run = (refl, (ended more Done run).0)
answered path t more run = absurd (let e = (ended more _ run).1 in cc)

-- a removal that answers Done made one step, which removed the content's file
pub removals_run : (site : Site) (h : Hash) (moves : Moves) → Runs (opening site (commands.RemoveHash (h ∷ []))) moves Done
    → moves ≡ (RemoveFile (joined site.cache (content_names h)), answers.Done) ∷ []
unfolding content_path
removals_run site h [] (inl e) = absurd cc
removals_run site h [] (inr e) = absurd cc
removals_run site h (m ∷ more) run =
    let path = joined site.cache (content_names h) in
    let step : RemoveFile path ≡ m.0 = (let e : Some (RemoveFile path) ≡ Some m.0 = run.0 in cc) in
    let rest = answered path m.1 more run.2 in
    ap₂ (λ (x : PlainStep × PlainAnswer) (l : Moves). x ∷ l) (ap₂ (λ (s : PlainStep) (a : PlainAnswer). (s, a)) (sym step) rest.0) rest.1

-- ---- removals of contents leave a cache on which calls may be made

-- calls may be made on the cache that removals leave
pub removals_leave_sound : (cache : List ℕ) (dropped : List Hash) (t new : Tree) → Removes cache dropped t new → IsSound (home_of cache) t
    → IsSound (home_of cache) new
removals_leave_sound cache [] t new r h = subst (IsSound (home_of cache)) (sym r) h
removals_leave_sound cache (g ∷ hs) t new r h =
    removals_leave_sound cache hs (apply t (RemoveFile (joined cache (content_names g))) Plain).1 new r.1 (still_sound cache (joined cache (content_names g)) t h)
