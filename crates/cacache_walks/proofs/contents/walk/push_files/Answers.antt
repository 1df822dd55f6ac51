use Rattle.std.proofs.Common.{◌++◌, ◌∷◌, ℕ, inl, inr, List, ap, sym, ◌∙◌, append-nil, []}
use Rattle.cacache_walks.proofs.{Sorting.{more_files}, contents.walk.push_files.Goals.{in-Folder, in-File+in_ok-join-in-File+in_ok-push-in-File}}
use Rattle.cacache_walks.proofs.contents.walk.push_files.Goals as goal

pub loop-name-preserved : goal.loop-name-preserved
loop-name-preserved c =
    let more = more_files c.args.folder.now c.args.names.now c.loop-name.name-index c.name-item.result c.args.files.now.items c.loop-name.files.items c.match-name.files.items c.loop-name-test.true c.name-item.is c.loop-name.invariant in
    elim c.match-name.branch [
      | in-Folder w ↦ more (rw w.in-Folder.is (ap (λ f. f.items) w.files-is ∙ sym (append-nil c.loop-name.files.items)))
      | in-File+in_ok-join-in-File+in_ok-push-in-File w ↦ more (elim w.in-File.is [
        | inl k ↦ rw k (ap (λ f. f.items) w.files-is ∙ w.in_ok-push-in-File.ensures.items ∙ ap (λ (x : List ℕ). c.loop-name.files.items ++ x ∷ []) (rw w.as_str.ensures.same at w.in_ok-join-in-File.ensures))
        | inr k ↦ rw k (ap (λ f. f.items) w.files-is ∙ w.in_ok-push-in-File.ensures.items ∙ ap (λ (x : List ℕ). c.loop-name.files.items ++ x ∷ []) (rw w.as_str.ensures.same at w.in_ok-join-in-File.ensures))
      ])
    ]
