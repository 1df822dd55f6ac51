-- An export to a path apart from the cache leaves what the cache holds.
use Rattle.std.proofs.{Common.{arith, rules, ◌≡◌, ℕ, Bool, true, false, cond, List, [], ◌∷◌, ◌++◌, Option, None, Some, Result, Ok, Err, refl, sym, ap, subst, ◌∙◌}, lemmas.{Grind.{common_steps}, Bool.{and_from}}}
use Rattle.std.specs.Prelude.{IfOk, bytes_eq}
use Rattle.cacache_calls.specs.{declared.{command.{Export.{Export}, Source.{Source}}, reply.Reply.{Reply}}, Runs.{Goes}, Table.{opening}}
use Rattle.cacache_store.specs.{declared.store.log.LogItem.{LogItem}, Plain.{PlainStep, PlainAnswer}}
use Rattle.cacache_laws.specs.{Caches.{Called, IsCache, setup_at}, Beside.{StaysKnown}, ExportEffects.{IsApart}, Sequence.{Alike, turns_on, after_deeds}}
use Rattle.cacache_laws.proofs.{Putting.Deeds.{stays_known}, Readings.Known.{known}, Calls.{InParts.{run_goes}, Sequence.{turns_made}}}
use Rattle.cacache_history.specs.{History.{NamesIntegrity, Turn}, Setup.{may_export, call_site, apart_from_home, are_apart, may_take}, Turns.{EachTurn, made_in}, Commits.{Deed, deeds, deeds_of_act, finds_in}, ReadingCalls.{TurnDoesNothing}}
use Rattle.cacache_history.proofs.Histories.ReadingCalls.{readings_do_nothing}
use Rattle.cacache_core.specs.{Paths.{content_area, index_area, temp_area, Names, names_of, home_of}, declared.errors.Fault.{Fault}}
use Rattle.cacache_store.specs.declared.store.answer.Answer.TheVariants as answers
use Rattle.cacache_store.specs.declared.store.step.Step.TheVariants as steps
use Rattle.cacache_disk.specs.Replay.{tree_of}
use Rattle.cacache_calls.specs.declared.command.Command.TheVariants as commands
use Rattle.cacache_value.specs.{Kinds.{PathKind, Content as OfContent, Bucket, Temporary, Stray, Elsewhere, IsFor, kind_in_area, kind_beside, path_kind}, Value.{Value, value_of_tree}}
use Rattle.cacache_value.proofs.PathKinds.{kind_in_used}

-- ---- turns that do nothing

module _ (home : Option Names) where
  finds_only : (step : PlainStep) (a : PlainAnswer) (rest : List Deed) (v : Value) → after_deeds home (finds_in step a ++ rest) v ≡ after_deeds home rest v
  finds_only step a rest v = grind (arith, common_steps)

  pub nothing_done : (turns : List Turn) (v : Value) → EachTurn TurnDoesNothing turns → after_deeds home (deeds turns) v ≡ v
  nothing_done [] v h = refl
  nothing_done (turn ∷ turns) v h =
      ap (λ act. after_deeds home ((deeds_of_act act ++ finds_in turn.move.step turn.move.answer) ++ deeds turns) v) h.0
      ∙ finds_only turn.move.step turn.move.answer (deeds turns) v ∙ nothing_done turns v h.1

-- ---- paths apart

below_kind : (a b c : Bool) (rest : Names) → cond a (kind_in_area OfContent 4 rest) (cond b (kind_in_area Bucket 3 rest) (cond c (kind_in_area Temporary 1 rest) Stray)) ≡ Elsewhere → ⊥
below_kind a b c rest e = grind (arith, kind_in_used)

beside_by : (b : Bool) (kind : PathKind) (apart : Bool) → (kind ≡ Elsewhere → apart ≡ true) → cond b kind Elsewhere ≡ Elsewhere → cond b apart true ≡ true
beside_by b kind apart h e = grind (arith, common_steps)

beside : (folder path : Names) → kind_beside folder path ≡ Elsewhere → are_apart folder path ≡ true
beside [] (area ∷ rest) e = absurd (below_kind (bytes_eq area content_area) (bytes_eq area index_area) (bytes_eq area temp_area) rest e)
beside (n ∷ ns) (m ∷ ms) e = beside_by (bytes_eq n m) (kind_beside ns ms) (are_apart ns ms) (beside ns ms) e
beside _ _ e = absurd cc

home_apart : (folder : Option Names) (path : Names) → path_kind folder path ≡ Elsewhere → apart_from_home folder path ≡ true
home_apart folder path e = grind (arith, beside)

pub exports_apart : (cache base to : List ℕ) → IsFor (home_of cache) Elsewhere to → may_export (setup_at cache base) to ≡ true
exports_apart cache base to for = search (rules, home_apart)

-- an export to a path apart from the cache leaves a cache, and all that was known of it still holds
pub exports_keep : (cache : List ℕ) (source : Source) (e : Export) (r : Reply) (old new : List LogItem) → IsApart cache e.to
    → NamesIntegrity (commands.Export source e) → IsCache cache old → Called cache (commands.Export source e) r old new → IsCache cache new
    × StaysKnown cache old new
exports_keep cache source e r old new for named sound c =
    let command = commands.Export source e in
    let k = known cache command r old new c (exports_apart cache c.base e.to for) named sound in
    let t = tree_of old in
    let v = value_of_tree (home_of cache) (tree_of old) in
    let site = call_site (setup_at cache c.base) k.call.number in
    let turns = turns_on (tree_of old) k.call.moves in
    let went = run_goes (opening site command) k.call.moves r k.run in
    let goes : Goes (opening site command) (made_in turns) went.0 = subst (λ moves. Goes (opening site command) moves went.0) (sym (turns_made t k.call.moves)) went.1 in
    let same = nothing_done (home_of cache) turns v (readings_do_nothing site (commands.Export source e) went.0 turns tt goes) in
    let follows = subst (λ t. Alike (value_of_tree (home_of cache) t) (after_deeds (home_of cache) (deeds turns) v)) (sym k.leads) k.answers.follows in
    (k.sound, stays_known cache old new (subst (Alike (value_of_tree (home_of cache) (tree_of new))) same follows))
