-- The single cases.
use Rattle.std.proofs.{lemmas.Grind.{common_steps}, Common.{arith, ◌≡◌, ℕ, Bool, cond, List, [], None, refl, ap, ◌∙◌}}
use Rattle.cacache_store.specs.declared.store.{step.Step.TheVariants.{Persist}, answer.Answer.TheVariants.{Done}}
use Rattle.cacache_disk.proofs.Roots.{same_self}
use Rattle.cacache_loss.specs.{Fixing.{Place, fixed_after, place_now}, Loss.{lead_folders, left_at, node_left}, LossCases.{FailedSyncsFixNothing, LossRows, UndonePutsGo}}

pub loss_rows : LossRows
loss_rows = record { durable = refl; not_durable = refl; two_lines = refl }

-- nothing is left of a place with nothing
pub gone : (b : Bool) (place : Place) (tail : List ℕ) → place.node ≡ None → cond b (node_left place.fixing tail place.node) None ≡ None
gone b place tail e = grind (arith, common_steps)

pub undone_puts_go : UndonePutsGo
undone_puts_go home t new fixed f p from c loss is to free fixed_there undone own =
    let left : left_at home new (fixed_after fixed t new (Persist f p) Done) loss c ≡ place_now t fixed c
    = rw (undone, own, is, to, same_self c, fixed_there) refl in
    gone (lead_folders (left_at home new (fixed_after fixed t new (Persist f p) Done) loss) [] c)
    (left_at home new (fixed_after fixed t new (Persist f p) Done) loss c) (loss.tail c)
    (ap (λ (place : Place). place.node) left ∙ free)

pub failed_syncs_fix_nothing : FailedSyncsFixNothing
failed_syncs_fix_nothing fixed t new step fault is = grind (arith, common_steps)
