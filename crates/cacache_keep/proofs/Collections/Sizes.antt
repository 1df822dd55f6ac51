-- Contents that are asked for their sizes, one after another.
use Rattle.std.proofs.{Common.{◌≡◌, false, inl, ℕ, List, [], ◌∷◌, ◌++◌, Option, Err, refl, sym, ap, subst, ◌∙◌, map, append_assoc}, lemmas.List.{map-append}}
use Rattle.cacache_core.specs.declared.{errors.Error.{Error, TheVariants.{OutOfMemory}}, integrity.digest.Hash.{Hash}}
use Rattle.cacache_store.specs.{declared.store.log.LogItem.{LogItem}, Plain.{Fits, Logs, PlainAnswer}}
use Rattle.cacache_store.specs.declared.store.step.Step.TheVariants as steps
use Rattle.cacache_calls.specs.{declared.answers.Refusal.{Refusal}, Answers.{length_in}, Common.{fails, refuse}, Runs.{EndsAs}, SingleSteps.{FailsAt}, Steps.{content_path}}
use Rattle.cacache_keep.specs.{declared.planning.Unused.{Unused}, Planning.{HidesFirst, HidesSize, Sized, StopsTelling, TellsSize, TellsSizes, sized_of}, Reading.{finds_none}}
use Rattle.cacache_keep.proofs.Collections.Sweeps.{still_there, refused_fails, size_refused}

-- ---- one content

pub hidden_so : (cache path : List ℕ) (i : List Hash) (t : PlainAnswer) (refusal : Refusal) (e : Error) (old new : Option (List LogItem)) → path ≡ content_path cache i → finds_none refusal ≡ false → Err refusal ≡ length_in t → Fits (steps.Size path) t → Logs old new (steps.Size path) t → EndsAs e (refuse refusal fails) → HidesSize cache i e old new
hidden_so cache path i t refusal e old new at some is fits logs ends =
    (still_there e refusal ends some, subst (λ (p : List ℕ). FailsAt (steps.Size p) e old new) at (refused_fails (steps.Size path) t refusal e old new (size_refused path t refusal is fits) logs ends))

-- ---- contents, one after another

tells_on : (cache : List ℕ) (told : List Sized) (u : Sized) (old mid new : Option (List LogItem)) → TellsSizes cache told old mid → TellsSize cache u.0 u.1 mid new → TellsSizes cache (told ++ u ∷ []) old new
tells_on cache [] u old mid new h says = (new, subst (λ (log : Option (List LogItem)). TellsSize cache u.0 u.1 log new) h says, refl)
tells_on cache (r ∷ told) u old mid new h says = (h.0, h.1, tells_on cache told u h.0 mid new h.2 says)

-- the first of the contents gave these sizes
pub record ToldTo (cache : List ℕ) (seen : List (List Hash)) (unused : List Unused) (old new : Option (List LogItem)) : Type 0 where
  pub each : map (λ u. u.address) unused ≡ seen
  pub tells : TellsSizes cache (map sized_of unused) old new

pub one_told : (cache : List ℕ) (seen : List (List Hash)) (unused more : List Unused) (u : Unused) (old mid new : Option (List LogItem)) → more ≡ unused ++ u ∷ [] → ToldTo cache seen unused old mid → TellsSize cache u.address u.bytes mid new → ToldTo cache (seen ++ u.address ∷ []) more old new
one_told cache seen unused more u old mid new is so says = record {
  each = ap (map (λ (x : Unused). x.address)) is ∙ map-append (λ (x : Unused). x.address) unused (u ∷ []) ∙ ap (λ (l : List (List Hash)). l ++ u.address ∷ []) so.each;
  tells = subst (λ (l : List Sized). TellsSizes cache l old new) (sym (ap (map sized_of) is ∙ map-append sized_of unused (u ∷ []))) (tells_on cache (map sized_of unused) (sized_of u) old mid new so.tells says);
}

-- ---- errors

pub addresses_told : (unused : List Unused) → map (λ (s : Sized). s.0) (map sized_of unused) ≡ map (λ u. u.address) unused
addresses_told [] = refl
addresses_told (u ∷ unused) = ap (λ (l : List (List Hash)). u.address ∷ l) (addresses_told unused)

stops_behind : (cache : List ℕ) (addresses seen rest : List (List Hash)) (unused : List Unused) (e : Error) (old mid new : Option (List LogItem)) → addresses ≡ seen ++ rest → ToldTo cache seen unused old mid → HidesFirst cache rest e mid new → StopsTelling cache addresses e old new
stops_behind cache addresses seen rest unused e old mid new split so stop = record {
  told = map sized_of unused;
  rest = rest;
  split = split ∙ ap (λ (l : List (List Hash)). l ++ rest) (sym (addresses_told unused ∙ so.each));
  between = mid;
  telling = so.tells;
  stop = stop;
}

pub next_hidden : (cache : List ℕ) (addresses seen : List (List Hash)) (unused : List Unused) (i : List Hash) (rest : List (List Hash)) (e : Error) (old mid new : Option (List LogItem)) → addresses ≡ seen ++ i ∷ rest → ToldTo cache seen unused old mid → HidesSize cache i e mid new → StopsTelling cache addresses e old new
next_hidden cache addresses seen unused i rest e old mid new split so stop = stops_behind cache addresses seen (i ∷ rest) unused e old mid new split so stop

lost_next : (cache : List ℕ) (rest : List (List Hash)) (log : Option (List LogItem)) → HidesFirst cache rest OutOfMemory log log
lost_next cache [] log = (refl, refl)
lost_next cache (i ∷ rest) log = (refl, inl refl)

-- memory ran out once one more gave its size
pub lost_told : (cache : List ℕ) (addresses seen : List (List Hash)) (unused : List Unused) (u : Unused) (rest : List (List Hash)) (old mid new : Option (List LogItem)) → addresses ≡ seen ++ u.address ∷ rest → ToldTo cache seen unused old mid → TellsSize cache u.address u.bytes mid new → StopsTelling cache addresses OutOfMemory old new
lost_told cache addresses seen unused u rest old mid new split so says =
    stops_behind cache addresses (seen ++ u.address ∷ []) rest (unused ++ u ∷ []) OutOfMemory old new new (split ∙ sym (append_assoc seen (u.address ∷ []) rest)) (one_told cache seen unused (unused ++ u ∷ []) u old mid new refl so says) (lost_next cache rest new)
