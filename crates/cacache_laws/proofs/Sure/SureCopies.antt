-- An export of bytes that are there, in which all steps succeed.
use Rattle.std.proofs.Common.{◌≡◌, ℕ, Bool, true, false, cond, List, Some, length, refl, sym, ap, subst, ◌∙◌}
use Rattle.cacache_core.specs.{declared.{errors.{Error.TheVariants.{IntegrityError}, IntegrityFault.TheVariants.{Check}}, integrity.digest.Hash.{Hash}}, Integrity.{Meets, actual, address}, Paths.{Names, home_of}}
use Rattle.cacache_core.proofs.Meeting.{meets_finds}
use Rattle.cacache_store.specs.declared.store.log.LogItem.{LogItem}
use Rattle.cacache_disk.specs.{Tree.{Tree}, Replay.{tree_of}}
use Rattle.cacache_entry.specs.Bucket.{latest}
use Rattle.cacache_calls.specs.declared.carried.Aim.TheVariants as aims
use Rattle.cacache_calls.specs.{declared.{carried.Lookup.{Lookup}, command.{Export.{Export}, How.{How, TheVariants.{Copy}}}, reply.Reply.{Reply, TheVariants.{Copied, Done, Refused}}}, Reading.{export, found_for}, Table.{opening}}
use Rattle.cacache_calls.specs.declared.command.Source.TheVariants as sources
use Rattle.cacache_value.specs.Value.{InFile, value_of_tree}
use Rattle.cacache_history.specs.Turns.{blob_at}
use Rattle.cacache_laws.specs.{Caches.{HasContent}, ExportAnswers.{exported_reply, made_reply, or_told}, ExportEffects.{export_by}, OpenSucceeds.{ExportsSucceed, MayTake, exported}, ReadAnswers.{entries_on}}
use Rattle.cacache_laws.proofs.{Sure.{SureExports.{Gives, content_ends, lies_at}, Succeeds.{either, ground}, SureReads.{looks_so}, SureRuns.{EndsSo, of_log, Ground}}, trees.Covering.{home_named}}

-- if the path may take it, an export of these bytes is done
made_so : (how : How) (to bytes : List ℕ) (log : List LogItem) → MayTake how to log → made_reply how to (tree_of log) (Some (InFile bytes)) ≡ exported how bytes
made_so Copy to bytes log may = ap (λ w. or_told w (λ q. Copied (length bytes))) may.1
made_so how to bytes log may = ap (λ w. or_told w (λ q. Done)) may.1

-- bytes that meet the integrity pass the check
pub passes : (checked : Bool) (how : How) (to bytes : List ℕ) (i : List Hash) (t : Tree) → Meets i bytes
    → exported_reply i (record { how = how; checked = checked; to = to }) t (Some (InFile bytes)) ≡ made_reply how to t (Some (InFile bytes))
passes true how to bytes i t met = ap (λ b. cond b (made_reply how to t (Some (InFile bytes))) (Refused (IntegrityError (Check i (actual i bytes))))) ((meets_finds i bytes).1 met)
passes false how to bytes i t met = refl

module _ (cache bytes to : List ℕ) (how : How) (checked : Bool) (old : List LogItem) (home : Names) (is : home_of cache ≡ Some home) (g : Ground home (tree_of old)) (may : MayTake how to old) where
  abbrev to_path : Export
  to_path = record { how = how; checked = checked; to = to }

  -- the same holds of what lies under an integrity
  by_content : (i : List Hash) → HasContent cache i bytes old → EndsSo (Gives cache home is (tree_of old) g to_path (lies_at cache home is (tree_of old) g to_path i) (exported how bytes)) (tree_of old) (export (record { cache = cache; integrity = i }) to_path)
  by_content i has =
      let lies : blob_at (value_of_tree (Some home) (tree_of old)) (address i) ≡ Some (InFile bytes) = subst (λ h. blob_at (value_of_tree h (tree_of old)) (address i) ≡ Some (InFile bytes)) is has.content in
      subst (λ wanted. EndsSo (Gives cache home is (tree_of old) g to_path (lies_at cache home is (tree_of old) g to_path i) wanted) (tree_of old) (export (record { cache = cache; integrity = i }) to_path))
      (ap (λ blob. exported_reply i to_path (tree_of old) blob) lies ∙ passes checked how to bytes i (tree_of old) has.meets ∙ made_so how to bytes old may)
      (content_ends cache home is (tree_of old) g to_path i has.formed)

pub exports_succeed : ExportsSucceed
exports_succeed cache bytes to how (sources.Hash i) checked r old new folder standing has may c =
    let home = folder.0 in
    let g = ground cache old home folder.1 standing in
    let e : Export = record { how = how; checked = checked; to = to } in
    either r (λ h. h.0)
    (of_log (Gives cache home (home_named cache home folder.1) (tree_of old) g e (lies_at cache home (home_named cache home folder.1) (tree_of old) g e i) (exported how bytes)) (opening (record { cache = cache; base = c.base; number = c.number }) (export_by how (sources.Hash i) checked to)) r old new
    (by_content cache bytes to how checked old home (home_named cache home folder.1) g may i has) c.ran c.logged)
exports_succeed cache bytes to how (sources.Key key) checked r old new folder standing has may c =
    let home = folder.0 in
    let g = ground cache old home folder.1 standing in
    let e : Export = record { how = how; checked = checked; to = to } in
    let l : Lookup = record { cache = cache; key = key; aim = aims.Export e } in
    let Q : Tree → Reply → Type 0 = Gives cache home (home_named cache home folder.1) (tree_of old) g e (lies_at cache home (home_named cache home folder.1) (tree_of old) g e has.0) (exported how bytes) in
    let finds : latest key (entries_on (Some home) (tree_of old) key) ≡ Some has.1.found = subst (λ h. latest key (entries_on h (tree_of old) key) ≡ Some has.1.found) (home_named cache home folder.1) has.1.finds in
    let next = subst (λ i. EndsSo Q (tree_of old) (export (record { cache = cache; integrity = i }) (record { how = how; checked = checked; to = to }))) (sym has.1.integrity)
    (by_content cache bytes to how checked old home (home_named cache home folder.1) g may has.0 has.1.content) in
    either r (λ h. h.0)
    (of_log Q (opening (record { cache = cache; base = c.base; number = c.number }) (export_by how (sources.Key key) checked to)) r old new
    (looks_so Q home (tree_of old) g l (home_named cache home folder.1)
    (subst (λ f. EndsSo Q (tree_of old) (found_for l (aims.Export e) f)) (sym finds) next)) c.ran c.logged)
