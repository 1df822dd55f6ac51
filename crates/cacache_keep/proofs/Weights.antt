-- Entries that are weighed, from the newest on.
use Rattle.std.proofs.{Common.{◌≡◌, inl, inr, is_eq, ℕ, List, [], ◌∷◌, ◌++◌, Bool, true, false, ◌||◌, cond, Option, Some, refl, sym, ap, subst, ◌∙◌, map, append_assoc, append-nil}, lemmas.{List.{map-append, reverse-append, Sorted.{IsPermutation-refl}}, Map.Text.{is_eq-slice_cmp}}}
use Rattle.std.specs.{Prelude.{bytes_eq, is_some, not}, List.Sorted.{IsPermutation}, BTreeMap.{BTreeMap, Updates, get}, Cmp.Lexicographic.{slice_cmp}, Ordering.{nat_cmp}}
use Rattle.cacache_core.specs.declared.{errors.{Error.{Error, TheVariants.{OutOfMemory}}, Fault.TheVariants.{NotFound}}, integrity.digest.Hash.{Hash}}
use Rattle.cacache_store.specs.declared.store.answer.Answer.TheVariants as answers
use Rattle.cacache_store.specs.declared.store.step.Step.TheVariants as steps
use Rattle.cacache_store.specs.declared.store.log.LogItem.{LogItem}
use Rattle.cacache_entry.specs.{Bucket.{Found}, View.{found_view}, declared.metadata.Metadata.{Metadata}}
use Rattle.cacache_calls.specs.Steps.{content_path}
use Rattle.cacache_keep.specs.{declared.weighing.Weighed.{Weighed}, Limits.{Weight, entries_in, weight_of}, Planning.{HidesSize, TellsSize}, Weighing.{HasPaths, HidesNewest, NotesPath, StopsWeighing, Weighs, WeighsBeside, WeighsIf, has_path, in_line, lies_at}}
use Rattle.cacache_keep.proofs.{Stopped.{Keeps, gained, gains_none, then_keeps}, TouchedKeys.{failed_keep}}

-- ---- paths

module _ {X : Type 0} (old new : BTreeMap (List ℕ) X) (path : List ℕ) where
  -- a path that is put into the map is there
  pub noted : (x : X) (fresh : Bool) → has_path old path ≡ not fresh → Updates (slice_cmp nat_cmp) old new path (Some x) → NotesPath path fresh old new
  noted x fresh is updates =
      (is, λ other. ap is_some (updates.0 other) ∙ apart (is_eq (slice_cmp nat_cmp path other)) (get (slice_cmp nat_cmp) old other) ∙ ap (λ (b : Bool). b || has_path old other) (is_eq-slice_cmp path other))
    where
      apart : (b : Bool) (o : Option X) → is_some (cond b (Some x) o) ≡ (b || is_some o)
      apart true o = refl
      apart false o = refl

-- ---- one entry

module _ {X : Type 0} (cache : List ℕ) (newer : List Weight) (w : Weight) (seen now : BTreeMap (List ℕ) X) (has : HasPaths cache newer seen) where
  abbrev path : List ℕ
  path = content_path cache w.0.integrity

  one_more : (fresh : Bool) → NotesPath path fresh seen now → HasPaths cache (w ∷ newer) now
  one_more fresh n other = n.1 other ∙ ap (λ (b : Bool). bytes_eq path other || b) (has other)

  -- a newer one has its content
  pub weighed_again : (old new : Option (List LogItem)) → NotesPath path false seen now → w.1 ≡ 0 → new ≡ old → WeighsBeside cache newer w old new × HasPaths cache (w ∷ newer) now
  weighed_again old new n zero same =
      let again : lies_at cache newer path ≡ true = sym (has path) ∙ n.0 in
      (subst (λ (b : Bool). WeighsIf b cache w old new) (sym again) (zero, same), one_more false n)

  -- it was asked for its size
  pub weighed_first : (old new : Option (List LogItem)) → NotesPath path true seen now → TellsSize cache w.0.integrity w.1 old new → WeighsBeside cache newer w old new × HasPaths cache (w ∷ newer) now
  weighed_first old new n says =
      let first : lies_at cache newer path ≡ false = sym (has path) ∙ n.0 in
      (subst (λ (b : Bool). WeighsIf b cache w old new) (sym first) says, one_more true n)

-- ---- entries, one after another

pub in_line_more : (met : List Weighed) (w : Weighed) → in_line (met ++ w ∷ []) ≡ weight_of w ∷ in_line met
in_line_more met w = ap (map weight_of) (reverse-append met (w ∷ []))

-- the newest of the entries were weighed, and these are left
pub record WeighedTo (cache : List ℕ) (entries rest : List Metadata) (met : List Weighed) (old new : Option (List LogItem)) : Type 0 where
  pub split : map found_view entries ≡ map found_view rest ++ entries_in (in_line met)
  pub weighs : Weighs cache (in_line met) old new

pub none_weighed : (cache : List ℕ) (entries : List Metadata) (log : Option (List LogItem)) → WeighedTo cache entries entries [] log log
none_weighed cache entries log = record { split = sym (append-nil (map found_view entries)); weighs = refl }

pub one_weighed : (cache : List ℕ) (entries rest fewer : List Metadata) (met more : List Weighed) (w : Weighed) (old mid new : Option (List LogItem)) → rest ≡ fewer ++ w.entry ∷ [] → more ≡ met ++ w ∷ [] → WeighedTo cache entries rest met old mid → WeighsBeside cache (in_line met) (weight_of w) mid new
    → WeighedTo cache entries fewer more old new
one_weighed cache entries rest fewer met more w old mid new taken is so beside =
    let line : in_line more ≡ weight_of w ∷ in_line met = ap in_line is ∙ in_line_more met w in
    record {
      split = so.split ∙ ap (λ (l : List Metadata). map found_view l ++ entries_in (in_line met)) taken ∙ ap (λ (l : List Found). l ++ entries_in (in_line met)) (map-append found_view fewer (w.entry ∷ []))
          ∙ append_assoc (map found_view fewer) (found_view w.entry ∷ []) (entries_in (in_line met)) ∙ ap (λ (l : List Weight). map found_view fewer ++ entries_in l) (sym line);
      weighs = subst (λ (l : List Weight). Weighs cache l old new) (sym line) (mid, so.weighs, beside);
    }

-- ---- errors

stops_at : (cache : List ℕ) (entries rest : List Metadata) (met : List Weighed) (e : Error) (old mid new : Option (List LogItem)) → WeighedTo cache entries rest met old mid → HidesNewest cache (map found_view rest) e mid new → StopsWeighing cache (map found_view entries) e old new
stops_at cache entries rest met e old mid new so stop = record {
  older = map found_view rest;
  weights = in_line met;
  split = so.split;
  between = mid;
  weighing = so.weighs;
  stop = stop;
}

-- the next one didn't give its content's size
pub next_unweighed : (cache : List ℕ) (entries rest fewer : List Metadata) (met : List Weighed) (m : Metadata) (e : Error) (old mid new : Option (List LogItem)) → rest ≡ fewer ++ m ∷ [] → WeighedTo cache entries rest met old mid → HidesSize cache (found_view m).integrity e mid new
    → StopsWeighing cache (map found_view entries) e old new
next_unweighed cache entries rest fewer met m e old mid new taken so hides =
    stops_at cache entries rest met e old mid new so (inr (map found_view fewer, found_view m, ap (map found_view) taken ∙ map-append found_view fewer (m ∷ []), hides))

-- memory ran out
pub lost_weighing : (cache : List ℕ) (entries rest : List Metadata) (met : List Weighed) (old mid : Option (List LogItem)) → WeighedTo cache entries rest met old mid → StopsWeighing cache (map found_view entries) OutOfMemory old mid
lost_weighing cache entries rest met old mid so = stops_at cache entries rest met OutOfMemory old mid mid so (inl (refl, refl))

-- it ran out before the first, or behind the last
pub lost_first : (cache : List ℕ) (entries : List Found) (log : Option (List LogItem)) → (sorted : List Found) × IsPermutation entries sorted × StopsWeighing cache sorted OutOfMemory log log
lost_first cache entries log =
    (entries, IsPermutation-refl entries, record { older = entries; weights = []; split = sym (append-nil entries); between = log; weighing = refl; stop = inl (refl, refl) })

pub lost_last : (cache : List ℕ) (weights : List Weight) (old new : Option (List LogItem)) → Weighs cache weights old new → StopsWeighing cache (entries_in weights) OutOfMemory old new
lost_last cache weights old new weighs = record { older = []; weights = weights; split = refl; between = new; weighing = weighs; stop = inl (refl, refl) }

-- ---- they leave the tree

size_keeps : (cache : List ℕ) (i : List Hash) (size : ℕ) (old new : Option (List LogItem)) → TellsSize cache i size old new → Keeps old new
size_keeps cache i size old new (inl said) = gained old new ((steps.Size (content_path cache i), answers.Length size) ∷ []) said (tt, tt)
size_keeps cache i size old new (inr said) = gained old new ((steps.Size (content_path cache i), answers.Failed NotFound) ∷ []) said.1 (tt, tt)

beside_keeps : (again : Bool) (cache : List ℕ) (w : Weight) (old new : Option (List LogItem)) → WeighsIf again cache w old new → Keeps old new
beside_keeps true cache w old new (zero, same) = record { moves = []; gains = gains_none old new same; stays = λ t. refl }
beside_keeps false cache w old new says = size_keeps cache w.0.integrity w.1 old new says

pub weighs_keep : (cache : List ℕ) (weights : List Weight) (old new : Option (List LogItem)) → Weighs cache weights old new → Keeps old new
weighs_keep cache [] old new same = record { moves = []; gains = gains_none old new same; stays = λ t. refl }
weighs_keep cache (w ∷ newer) old new (mid, weighs, beside) =
    then_keeps old mid new (weighs_keep cache newer old mid weighs) (beside_keeps (lies_at cache newer (content_path cache w.0.integrity)) cache w mid new beside)

pub unweighed_keeps : (cache : List ℕ) (entries : List Found) (e : Error) (old new : Option (List LogItem)) → StopsWeighing cache entries e old new → Keeps old new
unweighed_keeps cache entries e old new s = then_keeps old s.between new (weighs_keep cache s.weights old s.between s.weighing) (by s.stop)
  where
    by : HidesNewest cache s.older e s.between new → Keeps s.between new
    by (inl (memory, same)) = record { moves = []; gains = gains_none s.between new same; stays = λ t. refl }
    by (inr (first, next, last, hides)) = failed_keep (steps.Size (content_path cache next.integrity)) e s.between new (λ answer. (tt, tt)) hides.1
