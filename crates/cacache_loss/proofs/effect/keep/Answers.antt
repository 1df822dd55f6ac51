use Rattle.std.proofs.Common.{◌≡◌, ◌∙◌, Some, sym, subst₂}
use Rattle.std.specs.BTreeMap as btree
use Rattle.cacache_disk.specs.Tree.{Names, names_cmp}
use Rattle.cacache_loss.{specs.Fixing.{Place}, proofs.PathMaps.{unkept, kept_once, kept_first}}
use Rattle.cacache_loss.proofs.effect.keep.Goals as goal

pub returns-then-not-renames : goal.returns-then-not-renames
returns-then-not-renames c = λ q. rw c.if-not-renames.true (unkept c.args.names.now c.args.path.now q c.args.was.now)

pub returns-then-contains_key : goal.returns-then-contains_key
returns-then-contains_key c = λ q. rw c.if-not-renames.false (kept_once c.args.names.now c.args.path.now q c.args.was.now (sym c.if-contains_key.true ∙ c.contains_key.ensures))

pub returns : goal.returns
returns c = λ q.
    let key : c.in_ok-clone.field-0 ≡ c.args.path.now = c.in_ok-clone.ensures.cases in
    let value : c.in_ok-clone-2.field-0 ≡ c.args.was.now = c.in_ok-clone-2.ensures.cases in
    rw c.if-not-renames.false
    (kept_first c.args.names.now c.insert.new.self c.args.path.now q c.args.was.now
    (subst₂ (λ (p : Names) (was : Place). btree.Updates names_cmp c.args.names.now c.insert.new.self p (Some was)) key value c.in_ok-insert.ensures.updates)
    (sym c.if-contains_key.false ∙ c.contains_key.ensures))
