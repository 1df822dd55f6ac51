-- What a step leaves at a temporary file that it isn't about.
use Rattle.std.{proofs.Common.{◌≡◌, ◌⊎◌, inl, inr, ℕ, Bool, true, false, cond, List, [], Option, None, Some, refl, sym, ap, subst, ◌∙◌}, specs.Prelude.{if◌then◌else◌}}
use Rattle.cacache_core.specs.Paths.{Names}
use Rattle.cacache_store.specs.declared.store.step.Step.TheVariants as steps
use Rattle.cacache_store.specs.Plain.{PlainAnswer}
use Rattle.cacache_disk.specs.{declared.{luck.Luck.TheVariants.{Plain}, node.Node.{Node, TheVariants.{Folder, File, Link}}}, Tree.{Tree, look, put, same_path}}
use Rattle.cacache_disk.proofs.{Maps.{same_path-true}, PutNodes.{look-put}, Roots.{same_self}}
use Rattle.cacache_loss.proofs.{StepCases.{put_misses, step_keeps}, Reaching.{at_names}}
use Rattle.cacache_value.specs.{Kinds.{PathKind, Temporary, Way, Stray, path_kind}, Placed.{MayStand, Placed, Proper}}
use Rattle.cacache_calls.specs.declared.reply.Reply.{Reply}
use Rattle.cacache_system.specs.{declared.call.{CallResult.{CallResult}, CallItem.{CallItem}}, Seen.{NumberedTemp, NumberedStep}, CallsOf.{Runs}, AnswersOf.{Hint, first, answer_of}}
use Rattle.cacache_system.specs.declared.call.CallResult.TheVariants as says
use Rattle.std_io.specs.declared.io.kind.ErrorKind.TheVariants as kind
use Rattle.cacache_system_model.specs.{Machine.{Machine}, Calls.{GoesWell, OccursSomehow, EachCall}, Laws.{LeavesFresh, IsDone, temp_on, step_on, IsLucky}, Premises.{HasPlainLaw}, Mirrors.{hollow, Mirrors}, Chains.{WritesTemp, OnDisk, StepMade}, callers.Storing.{IsExplained}}
use Rattle.cacache_system_model.proofs.{Covered.{each_may_break, each_goes_plainly}, Mirroring.{SameShape}, Chaining.{steps_on_disk}, callers.{Covering.{hollow_folder, hollow_link, hollow_file, HasAsked}, OpenTemps.{Misses, look_kept}}}

-- ---- the machine's tree is one of the cache's too

file_stand : (h : Option Names) (a b : List ℕ) (k : PathKind) → MayStand h (Some (File a)) k → MayStand h (Some (File b)) k
file_stand h a b Way s = s
file_stand h a b Stray s = s
file_stand h a b k s = tt

same_stand : (h : Option Names) (k : PathKind) (ot od : Option Node) → hollow od ≡ hollow ot → MayStand h od k → MayStand h ot k
same_stand h k None od c s = tt
same_stand h k (Some Folder) od c s = subst (λ (o : Option Node). MayStand h o k) (hollow_folder od c) s
same_stand h k (Some (File bytes)) od c s =
    let f = hollow_file od c in file_stand h f.0 bytes k (subst (λ (o : Option Node). MayStand h o k) f.1 s)
same_stand h k (Some (Link target)) od c s = subst (λ (o : Option Node). MayStand h o k) (hollow_link od target c) s

pub placed_same : (h : Option Names) (t d : Tree) → SameShape t d → Placed h d → Placed h t
placed_same h t d s placed q = same_stand h (path_kind h q) (look t q) (look d q) (s q) (placed q)

-- ---- what a step leaves at a temporary file that it isn't about

-- why a step's run may be as it is: the table does the step, no call fails without cause, or the tree stays
abbrev Explained : Machine → NumberedStep → List CallItem → CallResult → Machine → Type 0
Explained m step items end n = IsDone m step ⊎ ((HasPlainLaw m step × EachCall (GoesWell None) m items n × (end ≡ says.Failed kind.OutOfMemory → ⊥)) ⊎ (n.tree ≡ m.tree))

pub explained : (made : StepMade) (reply : Option Reply) → IsExplained made reply → Explained made.before made.step made.items made.end made.after
explained made reply (inl done) = inl done
explained made reply (inr (inl plain)) = inr (inl plain)
explained made reply (inr (inr failed)) = inr (inr failed.same)

module _ (h : Option Names) (temps : Names → Bool) (m n : Machine) (hint : Hint) (placed : Placed h m.tree) (q : Names) (at : path_kind h q ≡ Temporary) (no_folder : look m.tree q ≡ Some Folder → ⊥) where
  abbrev Stays : Type 0
  Stays = look n.tree q ≡ look m.tree q

  lucky_stays : (step : NumberedStep) (end : CallResult) → (LeavesFresh m step (answer_of step end) n → ⊥) → Proper h (step_on m step) → Misses q (step_on m step) → IsLucky m step end n → Stays
  lucky_stays step end clean proper misses (inl (luck, is)) =
      ap (λ (t : Tree). look t q) (sym (ap (λ (r : PlainAnswer × Tree). r.1) is)) ∙ look_kept h m.tree placed q at no_folder (step_on m step) luck proper misses
  lucky_stays step end clean proper misses (inr (inl (is, same))) = ap (λ (t : Tree). look t q) same
  lucky_stays step end clean proper misses (inr (inr left)) = absurd (clean left)

  -- the file that a write is about, alone
  abbrev Only : Names → Names → Bool
  Only names x = same_path x names

  abbrev emptied : Names → Tree
  emptied names = put m.tree names (File [])

  shown_put : (b : Bool) (o : Option Node) → (b ≡ true → hollow o ≡ Some (File [])) → cond b (Some (File [])) o ≡ (if b then hollow o else o)
  shown_put true o h = sym (h refl)
  shown_put false o h = refl

  only_mirrors : (names : Names) (bytes : List ℕ) → look m.tree names ≡ Some (File bytes) → Mirrors (Only names) m.tree (emptied names)
  only_mirrors names bytes stands =
      let empty : (x : Names) → same_path x names ≡ true → hollow (look m.tree x) ≡ Some (File [])
      = λ x e. ap hollow (ap (look m.tree) (same_path-true x names e) ∙ stands) in
      record {
        files = empty;
        same = λ x. look-put m.tree names (File []) x ∙ shown_put (same_path x names) (look m.tree x) (empty x);
      }

  left_stays : (names : Names) (d : Tree) → same_path q names ≡ false → Mirrors (Only names) n.tree d → look d q ≡ look (emptied names) q → Stays
  left_stays names d apart mirrors same =
      sym (mirrors.same q ∙ ap (λ (b : Bool). if b then hollow (look n.tree q) else look n.tree q) apart) ∙ same ∙ put_misses m.tree names q (File []) apart

  on_disk_stays : (temp : NumberedTemp) (more : List ℕ) (items : List CallItem) (end : CallResult) (names : Names) → same_path q names ≡ false
      → OnDisk (Only names) (emptied names) (record { before = m; after = n; step = steps.Write temp more; hint = hint; items = items; end = end }) → Stays
  on_disk_stays temp more items end names apart (inl (luck, new, is, mirrors)) =
      left_stays names new apart mirrors
      (ap (λ (r : PlainAnswer × Tree). look r.1 q) (sym is) ∙ step_keeps (emptied names) q (look (emptied names) q) refl (steps.Write (temp_on m temp) more) luck (λ most. refl))
  on_disk_stays temp more items end names apart (inr (inr left)) = absurd left
  on_disk_stays temp more items end names apart (inr (inl (lost, mirrors))) = left_stays names (emptied names) apart mirrors refl

  writes_stay : (step : NumberedStep) (items : List CallItem) (end : CallResult) → WritesTemp temps m step → Misses q (step_on m step)
      → Runs (first hint step) items end → EachCall OccursSomehow m items n → Stays
  writes_stay (steps.Write temp more) items end (names, bytes, ready, is_open) misses runs each =
      on_disk_stays temp more items end names (at_names temp.path names q misses ready.named)
      (steps_on_disk (Only names) (emptied names) (record { before = m; after = n; step = steps.Write temp more; hint = hint; items = items; end = end })
      (only_mirrors names bytes ready.stands) (runs, each, inr (inl (names, bytes, ready, same_self names))))
  writes_stay _ items end writes misses runs each = absurd writes

  pub asked_stays : (step : NumberedStep) (items : List CallItem) (end : CallResult) → (LeavesFresh m step (answer_of step end) n → ⊥) → Proper h (step_on m step) → Misses q (step_on m step)
      → Runs (first hint step) items end → EachCall OccursSomehow m items n → Explained m step items end n → HasAsked temps m hint step → Stays
  asked_stays step items end clean proper misses runs each luck (inr writes) = writes_stay step items end writes misses runs each
  asked_stays step items end clean proper misses runs each (inl done) (inl (premise, spares)) =
      lucky_stays step end clean proper misses (each_may_break m hint step premise done items end n runs each)
  asked_stays step items end clean proper misses runs each (inr (inr same)) (inl asked) = ap (λ (t : Tree). look t q) same
  asked_stays step items end clean proper misses runs each (inr (inl (plain, well, memory))) (inl (premise, spares)) =
      lucky_stays step end clean proper misses (inl (Plain, each_goes_plainly m hint step premise plain items end n runs well memory))
