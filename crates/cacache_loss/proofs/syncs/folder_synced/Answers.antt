use Rattle.std.{proofs.{Common.{◌≡◌, ◌∙◌, refl, sym, rules}, lemmas.Map.Entries.{filter_from_retain_pairs}}, specs.Prelude.{not}}
use Rattle.cacache_core.specs.Paths.{names_of}
use Rattle.cacache_disk.specs.Tree.{is_child}
use Rattle.cacache_loss.proofs.PathMaps.{all_forgot}
use Rattle.cacache_loss.proofs.syncs.folder_synced.Goals as goal

pub returns : goal.returns
returns c =
    let kept = filter_from_retain_pairs _ (λ f. f.0.now ≡ c.in-Some.folder) (λ e. not (is_child c.in-Some.folder e.0))
    (λ g k v b w g' i t. search (rules, i, t))
    _ c.args.names.now.entries c.retain.new.self.entries refl c.retain.ensures.filtered in
    all_forgot c.args.names.now c.retain.new.self c.in-Some.folder kept (names_of c.args.path.now) (sym c.in-Some.is ∙ c.in_ok-folder.ensures)
