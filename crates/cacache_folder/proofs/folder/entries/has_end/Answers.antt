use Rattle.std.{specs.Prelude.{Bool, ◌||◌}, proofs.Common.{◌∙◌, ap₂}}
use Rattle.cacache_folder.proofs.FolderNames.{either_ends}
use Rattle.cacache_folder.proofs.folder.entries.has_end.Goals as goal

pub returns : goal.returns
returns c =
    ap₂ (λ (a b : Bool). a || b) c.has.ensures c.has-2.ensures ∙ either_ends c.args.name.now
