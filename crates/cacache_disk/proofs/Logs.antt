-- A log with one more item, and a store that receives what is on a disk, item by item, under plain luck.
use Rattle.std.proofs.Common.{◌≡◌, List, [], ◌∷◌, ◌++◌, refl, sym, ap, subst, ◌∙◌, false, ℕ, append_assoc}
use Rattle.std.specs.{Prelude.{Some, Option, None, Result, Ok, Err, IfNone, OnSome, map as each}, Result.{result_ok}}
use Rattle.cacache_store.specs.{declared.store.{log.LogItem.{LogItem, TheVariants.{Made}}, step.Step.TheVariants.{MakeDirs}, answer.Answer.TheVariants.{Done, Failed, Bytes}}, Plain.{PlainStep, PlainAnswer, Logs, is_no_memory}}
use Rattle.cacache_disk.specs.{Tree.{Tree, bare, Rooted}, Replay.{after, HappensOn, replay, IsReplayable, tree_of, IsLog, bytes_told, shown, logged, foreign_log}, declared.{luck.Luck.TheVariants.{Plain}, nodes.standing.TreeItem.{TreeItem}}, LedTo.{dirs, file_at}, Apply.{apply, unless, bytes_at, fault_told}, AllStanding.{all_standing}}
use Rattle.cacache_disk.proofs.ForeignLogs.{foreign_leads}
use Rattle.cacache_core.specs.{declared.errors.Fault.{Fault, TheVariants.{IsADirectory}}, Paths.{Names}}

-- before anything happened
pub tree_of-nothing : tree_of [] ≡ bare
unfolding tree_of
tree_of-nothing = refl

pub IsLog-nothing : IsLog []
unfolding IsLog
IsLog-nothing = tt

replay-push : (t : Tree) (log : List LogItem) (item : LogItem) → replay t (log ++ item ∷ []) ≡ after (replay t log) item
replay-push t [] item = refl
replay-push t (first ∷ log) item = replay-push (after t first) log item

IsReplayable-push : (t : Tree) (log : List LogItem) (item : LogItem) → IsReplayable t log → HappensOn (replay t log) item → IsReplayable t (log ++ item ∷ [])
IsReplayable-push t [] item earlier happens = (happens, tt)
IsReplayable-push t (first ∷ log) item earlier happens = (earlier.0, IsReplayable-push (after t first) log item earlier.1 happens)

-- an item that can happen on the tree of a log makes a log with it
pub IsLog-push : (log new : List LogItem) (item : LogItem) (t : Tree) → new ≡ log ++ item ∷ [] → IsLog log → tree_of log ≡ t → HappensOn t item → IsLog new
unfolding tree_of IsLog
IsLog-push log new item t grown earlier tree happens =
    subst (IsReplayable bare) (sym grown) (IsReplayable-push bare log item earlier (subst (λ u. HappensOn u item) (sym tree) happens))

-- and its tree is the one after the item
pub tree_of-push : (log new : List LogItem) (item : LogItem) (t : Tree) → new ≡ log ++ item ∷ [] → tree_of log ≡ t → tree_of new ≡ after t item
unfolding tree_of
tree_of-push log new item t grown tree = ap (replay bare) grown ∙ replay-push bare log item ∙ ap (λ u. after u item) tree

-- ---- what a log gains if the disk did the step

-- the log gains the step with a copy of the answer
pub Logs-made : (log grown : List LogItem) (step : PlainStep) (answer copy : PlainAnswer)
    → is_no_memory answer ≡ false → copy ≡ answer → grown ≡ log ++ Made step copy ∷ []
    → Logs (Some log) (Some grown) step answer
Logs-made log grown step answer copy done copied gained = rw (done, gained, copied) refl

-- ---- what a disk under plain luck makes of folders that are asked for, and what it shows of a file

-- folders that can't be made change nothing; otherwise they are made
abbrev MadeOrNot : Tree → PlainAnswer → Tree → Type 0
MadeOrNot t Done new = Unit {0}
MadeOrNot t (Failed fault) new = new ≡ t
MadeOrNot t _ new = ⊥

unless-dirs : (r : Result Names Fault) (t : Tree) (made : Names → Tree) → MadeOrNot t (unless r t (λ names. (Done, made names))).0 (unless r t (λ names. (Done, made names))).1
unless-dirs (Ok names) t made = tt
unless-dirs (Err fault) t made = refl

dirs-made : (t : Tree) (p : List ℕ) → MadeOrNot t (apply t (MakeDirs p) Plain).0 (apply t (MakeDirs p) Plain).1
unfolding apply
dirs-made t p = unless-dirs (dirs t p) t _

failed-else : (t new : Tree) (a : PlainAnswer) → MadeOrNot t a new → OnSome (fault_told a) (new ≡ t)
failed-else t new Done made = tt
failed-else t new (Failed fault) made = made
failed-else t new _ made = absurd made

done-else : (t new : Tree) (a : PlainAnswer) → MadeOrNot t a new → IfNone (fault_told a) (a ≡ Done)
done-else t new Done made = refl
done-else t new (Failed fault) made = tt
done-else t new _ made = absurd made

dirs-answer : (t : Tree) (p : List ℕ) (a : PlainAnswer) (new : Tree) → apply t (MakeDirs p) Plain ≡ (a, new) → MadeOrNot t a new
dirs-answer t p a new applied = subst (λ (r : PlainAnswer × Tree). MadeOrNot t r.0 r.1) applied (dirs-made t p)

-- folders that can't be made change nothing
pub dirs-failed : (t : Tree) (p : List ℕ) (a : PlainAnswer) (new : Tree) (found : Option Fault)
    → apply t (MakeDirs p) Plain ≡ (a, new) → found ≡ fault_told a → OnSome found (new ≡ t)
dirs-failed t p a new found applied same = subst (λ (o : Option Fault). OnSome o (new ≡ t)) (sym same) (failed-else t new a (dirs-answer t p a new applied))

IfNone-map : (o : Option Fault) (A B : Type 0) → (A → B) → IfNone o A → IfNone o B
IfNone-map None A B f a = f a
IfNone-map (Some fault) A B f a = tt

-- and otherwise are made
pub dirs-done : (t : Tree) (p : List ℕ) (a : PlainAnswer) (new : Tree) (found : Option Fault)
    → apply t (MakeDirs p) Plain ≡ (a, new) → found ≡ fault_told a → IfNone found (apply t (MakeDirs p) Plain ≡ (Done, new))
dirs-done t p a new found applied same =
    subst (λ (o : Option Fault). IfNone o (apply t (MakeDirs p) Plain ≡ (Done, new))) (sym same)
    (IfNone-map (fault_told a) (a ≡ Done) (apply t (MakeDirs p) Plain ≡ (Done, new)) (λ done. applied ∙ ap (λ x. (x, new)) done)
    (done-else t new a (dirs-answer t p a new applied)))

-- reading the whole file shows its bytes
unless-shown : (r : Result (List ℕ) Fault) (t : Tree) → bytes_told (unless r t (λ bytes. (Bytes bytes, t))).0 ≡ result_ok r
unless-shown (Ok bytes) t = refl
unless-shown (Err fault) t = refl

shown-file_at : (t : Tree) (p : List ℕ) → shown t p ≡ result_ok (file_at t p IsADirectory)
unfolding apply
shown-file_at t p = unless-shown (file_at t p IsADirectory) t

-- and so do shared bytes
pub shown-shared : (t disk : Tree) (p : List ℕ) (found : Option (List ℕ)) → t ≡ disk → found ≡ bytes_at disk p → found ≡ shown t p
shown-shared t disk p found same_tree is = is ∙ sym (shown-file_at disk p) ∙ ap (λ (x : Tree). shown x p) (sym same_tree)

-- ---- a store that receives what is on a disk, item by item

-- the rest can happen on the store's tree, and leads to the disk's
pub record Receives (d : Tree) (log : List LogItem) (rest : List TreeItem) : Type 0 where
  pub items : log ++ each logged rest ≡ foreign_log d
  pub happens : IsReplayable (tree_of log) (each logged rest)
  pub leads : replay (tree_of log) (each logged rest) ≡ d

nothing_yet : (d : Tree) → Rooted d → Receives d [] (all_standing d)
unfolding foreign_log tree_of
nothing_yet d of = let all = foreign_leads d of in record { items = refl; happens = all.0; leads = all.1 }

pub receives_first : (d : Tree) (log : List LogItem) (rest : List TreeItem) → Rooted d → log ≡ [] → rest ≡ all_standing d → Receives d log rest
receives_first d log rest of none all = subst (λ r. Receives d log r) (sym all) (subst (λ l. Receives d l (all_standing d)) (sym none) (nothing_yet d of))

pub receives_next : (d : Tree) (log new : List LogItem) (item : TreeItem) (rest : List TreeItem) → Receives d log (item ∷ rest) → new ≡ log ++ logged item ∷ []
    → Receives d new rest
receives_next d log new item rest r grown =
    let tree = tree_of-push log new (logged item) (tree_of log) grown refl in
    record {
      items = ap (λ l. l ++ each logged rest) grown ∙ append_assoc log (logged item ∷ []) (each logged rest) ∙ r.items;
      happens = subst (λ u. IsReplayable u (each logged rest)) (sym tree) r.happens.1;
      leads = ap (λ u. replay u (each logged rest)) tree ∙ r.leads;
    }
