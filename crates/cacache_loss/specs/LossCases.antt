-- Single cases of losses, which show that the definitions say what they should.
use Rattle.std.specs.Prelude.{◌≡◌, List, ℕ, Option, None, Some, true, false, codes, Ok}
use Rattle.cacache_core.specs.{declared.errors.Fault.{Fault}, Paths.{Names, names_of}}
use Rattle.cacache_store.specs.{declared.store.{plain.PlainTemp.{PlainTemp}, step.Step.TheVariants.{Persist}, answer.Answer.TheVariants.{Done, Failed}}, Plain.{PlainStep}}
use Rattle.cacache_disk.specs.{declared.node.Node.TheVariants.{File}, Tree.{Tree, look}}
use Rattle.cacache_loss.specs.{Fixing.{Fixing, Fixed, unsynced, synced, refixed, same_node, same_thing, is_sync, fixed_after}, Loss.{Loss, stays, bytes_left, lost_at}}

-- how far a file that was synced with the first bytes is fixed once it has the second
abbrev pub rewritten : List ℕ → List ℕ → Fixing
rewritten old new =
    refixed false (same_node (Some (File old)) (Some (File new)))
    (same_thing (Some (File old)) (Some (File new))) (synced old)

-- the bytes that a loss leaves
pub record LossRows : Type 0 where
  -- a durable put keeps its bytes for any tail
  pub durable : bytes_left (synced (codes "one")) (codes "one") (codes "zz") ≡ codes "one"
  -- a put that isn't durable keeps none
  pub not_durable : bytes_left unsynced (codes "one") (codes "zz") ≡ codes "zz"
  -- if another line follows a durable one, only the other goes
  pub two_lines :
      bytes_left (rewritten (codes "+a+") (codes "+a++b")) (codes "+a++b") (codes "xxxxx")
      ≡ codes "+a+xxxxx"

-- a content put where none was is gone if its folder wasn't synced and the loss undoes its name
abbrev pub UndonePutsGo : Type 0
UndonePutsGo =
    (home : Option Names) (t new : Tree) (fixed : Fixed) (f : PlainTemp) (p : List ℕ)
    (from path : Names) (loss : Loss)
    → names_of f.path ≡ Ok from → names_of p ≡ Ok path
    → look t path ≡ None → fixed.names path ≡ None
    → loss.undone path ≡ true → stays home path ≡ false
    → lost_at home new (fixed_after fixed t new (Persist f p) Done) loss path ≡ None

-- a failed sync fixes nothing
abbrev pub FailedSyncsFixNothing : Type 0
FailedSyncsFixNothing =
    (fixed : Fixed) (t new : Tree) (sync : PlainStep) (fault : Fault) → is_sync sync ≡ true
    → fixed_after fixed t new sync (Failed fault) ≡ fixed
