-- Folders of the index that are listed, one after another, and why that ends.
use Rattle.std.proofs.{Common.{◌≡◌, ◌+◌, ◌<◌, ℕ, List, [], ◌∷◌, ◌++◌, Bool, false, Option, inl, refl, sym, ap, subst, ◌∙◌, map, length, take, drop, get_or, append-nil, append_assoc}, lemmas.List.{drop_more, map-append, take-append-drop, take_more, Concat.{flat_map-append}}}
use Rattle.std.specs.List.{filter, flat_map}
use Rattle.cacache_core.specs.{declared.errors.Error.{Error, TheVariants.{OutOfMemory}}, Paths.{join}}
use Rattle.cacache_store.specs.declared.store.{answer.Name.{Name}, log.LogItem.{LogItem}}
use Rattle.cacache_store.specs.declared.store.step.Step.TheVariants as steps
use Rattle.cacache_calls.specs.SingleSteps.{FailsAt}
use Rattle.cacache_keep.specs.{Reading.{is_gone}, Sweeping.{ListsFolder}, Buckets.{Listed, ListsInTurn, ListsParts, StopsNextPart, StopsParts, belongs, parts_in}}

turn_on : (listings : List Listed) (l : Listed) (old mid new : Option (List LogItem)) → ListsInTurn listings old mid → ListsFolder l.0 l.1 mid new → ListsInTurn (listings ++ l ∷ []) old new
turn_on [] l old mid new h lists = (new, subst (λ (log : Option (List LogItem)). ListsFolder l.0 l.1 log new) h lists, refl)
turn_on (x ∷ listings) l old mid new h lists = (h.0, h.1, turn_on listings l h.0 mid new h.2 lists)

-- one folder more
pub one_listed : (last : Bool) (folders paths more : List (List ℕ)) (k : ℕ) (f : List ℕ) (names : List Name) (old mid new : Option (List LogItem)) → k < length folders → f ≡ get_or folders k f → ListsParts last (take k folders) paths old mid
    → ListsFolder f names mid new → more ≡ paths ++ map (λ (n : Name). join f n.name) (filter (belongs last) names) → ListsParts last (take (k + 1) folders) more old new
one_listed last folders paths more k f names old mid new below is so lists grows =
    let l : Listed = (f, names) in record {
      listings = so.listings ++ l ∷ [];
      each = map-append (λ (x : Listed). x.0) so.listings (l ∷ []) ∙ ap (λ (fs : List (List ℕ)). fs ++ f ∷ []) so.each ∙ sym (take_more folders k f below ∙ ap (λ (x : List ℕ). take k folders ++ x ∷ []) (sym is));
      listing = turn_on so.listings l old mid new so.listing lists;
      which = grows ∙ ap (λ (ps : List (List ℕ)). ps ++ parts_in last l) so.which
          ∙ sym (flat_map-append (parts_in last) so.listings (l ∷ []) ∙ ap (λ (ps : List (List ℕ)). flat_map (parts_in last) so.listings ++ ps) (append-nil (parts_in last l)));
    }

split_here : (folders : List (List ℕ)) (k : ℕ) (f : List ℕ) → k < length folders → f ≡ get_or folders k f → folders ≡ take k folders ++ f ∷ drop (k + 1) folders
split_here folders k f below is = sym (take-append-drop k folders) ∙ ap (λ (l : List (List ℕ)). take k folders ++ l) (drop_more folders k f below ∙ ap (λ (x : List ℕ). x ∷ drop (k + 1) folders) (sym is))

-- the next one couldn't be listed
pub next_unlisted : (last : Bool) (folders paths : List (List ℕ)) (k : ℕ) (f : List ℕ) (e : Error) (old mid new : Option (List LogItem)) → k < length folders → f ≡ get_or folders k f → ListsParts last (take k folders) paths old mid
    → (is_gone e ≡ false) × FailsAt (steps.ReadDir f) e mid new → StopsParts folders e old new
next_unlisted last folders paths k f e old mid new below is so stop = record {
  listings = so.listings;
  rest = f ∷ drop (k + 1) folders;
  split = split_here folders k f below is ∙ ap (λ (l : List (List ℕ)). l ++ f ∷ drop (k + 1) folders) (sym so.each);
  between = mid;
  listing = so.listing;
  stop = stop;
}

lost_next : (rest : List (List ℕ)) (log : Option (List LogItem)) → StopsNextPart rest OutOfMemory log log
lost_next [] log = (refl, refl)
lost_next (f ∷ rest) log = (refl, inl refl)

-- memory ran out after the listing of one more
pub lost_listed : (last : Bool) (folders paths : List (List ℕ)) (k : ℕ) (f : List ℕ) (names : List Name) (old mid new : Option (List LogItem)) → k < length folders → f ≡ get_or folders k f → ListsParts last (take k folders) paths old mid
    → ListsFolder f names mid new → StopsParts folders OutOfMemory old new
lost_listed last folders paths k f names old mid new below is so lists =
    let l : Listed = (f, names) in record {
      listings = so.listings ++ l ∷ [];
      rest = drop (k + 1) folders;
      split = split_here folders k f below is ∙ sym (append_assoc (take k folders) (f ∷ []) (drop (k + 1) folders))
          ∙ ap (λ (fs : List (List ℕ)). fs ++ drop (k + 1) folders) (sym (map-append (λ (x : Listed). x.0) so.listings (l ∷ []) ∙ ap (λ (fs : List (List ℕ)). fs ++ f ∷ []) so.each));
      between = new;
      listing = turn_on so.listings l old mid new so.listing lists;
      stop = lost_next (drop (k + 1) folders) new;
    }
