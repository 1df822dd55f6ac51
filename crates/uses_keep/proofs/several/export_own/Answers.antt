-- The law of an export in a mode.
use Rattle.std.proofs.{Common.{◌≡◌, ℕ, List, Some, refl}, lemmas.Result.{MatchResult-weaker}}
use Rattle.cacache_store.specs.declared.store.log.LogItem.{LogItem}
use Rattle.cacache_disk.specs.Replay.{shown, tree_of}
use Rattle.cacache_calls.specs.declared.command.Source.TheVariants.{Key}
use Rattle.cacache_sync.specs.{declared.ways.{Exported.{Exported, TheVariants.{Copied, HardLinked}}, ExportMode.TheVariants.{Own}}, Exports.{export_reply}}
use Rattle.cacache_laws.specs.ExportEffects.{Arrives}
use Rattle.uses_keep.proofs.several.export_own.Goals as goal

there : (bytes to : List ℕ) (e : Exported) (old new : List LogItem) → Arrives bytes to (export_reply e) old new → shown (tree_of new) to ≡ Some bytes
there bytes to HardLinked old new h = h
there bytes to (Copied count) old new h = h.0

pub returns : goal.returns
returns g c =
    let old = c.args.env.now in
    let exported = c.export_sync-exported in
    let out = c.after_export.ensures (Key c.args.key.now) Own old c.requires.apart tt c.requires.cache exported.ensures.exports in
    record {
      leaves = out.leaves;
      own = exported.ensures.own refl;
      arrives = λ i bytes has. MatchResult-weaker exported.result (out.arrives bytes (i, has)) (λ e h. there bytes c.args.to.now e old.store exported.new.env.store h) (λ e h. tt);
      stays = out.stays;
    }
