-- Keys that are dropped one after another.
use Rattle.std.proofs.{Common.{◌≡◌, inl, inr, List, [], ◌∷◌, ◌++◌, Bool, true, false, Option, Result, Ok, Err, filter, not, refl, sym, ap, subst, ◌∙◌}, lemmas.List.{map-append}}
use Rattle.std.specs.Prelude.{IfErr, IfOk}
use Rattle.cacache_core.specs.{declared.errors.Error.{Error, TheVariants.{OutOfMemory}}, Errors.{fault_in}}
use Rattle.cacache_store.specs.declared.store.log.LogItem.{LogItem}
use Rattle.cacache_entry.specs.Bucket.{Found}
use Rattle.cacache_calls.specs.{Runs.{without_message}, State.{Site}}
use Rattle.cacache_calls.specs.declared.reply.Reply.TheVariants as replies
use Rattle.cacache_keep.specs.Parting.{DropsKey, DropsKeys, Entombs, Parting, Parts, StopsNextKey, StopsParting, StopsUnlinkingKey, TriesKey, UnlinksKey, may_be_full, parted, unless_memory}
use Rattle.cacache_keep.proofs.Asked.{kept, passed}

module _ (durable : Bool) (site : Site) where
  drops_on : (ps : List Parting) (p : Parting) (old mid new : Option (List LogItem)) → DropsKeys durable site ps old mid → DropsKey durable site p.0 (Ok p.1) mid new → DropsKeys durable site (ps ++ p ∷ []) old new
  drops_on [] p old mid new same one = (new, subst (λ (log : Option (List LogItem)). DropsKey durable site p.0 (Ok p.1) log new) same one, refl)
  drops_on (q ∷ ps) p old mid new (next, first, more) one = (next, first, drops_on ps p next mid new more one)

  more_parted : (ps : List Parting) (p : Parting) (entries : List Found) → parted ps ≡ entries → parted (ps ++ p ∷ []) ≡ entries ++ p.0 ∷ []
  more_parted ps p entries each = map-append (λ (x : Parting). x.0) ps (p ∷ []) ∙ ap (λ (l : List Found). l ++ p.0 ∷ []) each

  module _ (entries gone left : List Found) (f : Found) (old mid new : Option (List LogItem)) (so : Parts durable site entries gone left old mid) where
    -- one more is dropped
    pub one_gone : DropsKey durable site f (Ok true) mid new → Parts durable site (entries ++ f ∷ []) (gone ++ f ∷ []) left old new
    one_gone drops =
        let p : Parting = (f, true) in
        record {
          partings = so.partings ++ p ∷ [];
          each = more_parted so.partings p entries so.each;
          dropped = ap (λ (l : List Found). l ++ f ∷ []) so.dropped ∙ sym (map-append (λ (x : Parting). x.0) (filter (λ (x : Parting). x.1) so.partings) (p ∷ [])) ∙ ap parted (sym (kept (λ (x : Parting). x.1) so.partings p refl));
          spared = so.spared ∙ ap parted (sym (passed (λ (x : Parting). not x.1) so.partings p refl));
          dropping = drops_on so.partings p old mid new so.dropping drops;
        }

    -- or left
    pub one_left : DropsKey durable site f (Ok false) mid new → Parts durable site (entries ++ f ∷ []) gone (left ++ f ∷ []) old new
    one_left drops =
        let p : Parting = (f, false) in
        record {
          partings = so.partings ++ p ∷ [];
          each = more_parted so.partings p entries so.each;
          dropped = so.dropped ∙ ap parted (sym (passed (λ (x : Parting). x.1) so.partings p refl));
          spared = ap (λ (l : List Found). l ++ f ∷ []) so.spared ∙ sym (map-append (λ (x : Parting). x.0) (filter (λ (x : Parting). not x.1) so.partings) (p ∷ [])) ∙ ap parted (sym (kept (λ (x : Parting). not x.1) so.partings p refl));
          dropping = drops_on so.partings p old mid new so.dropping drops;
        }

  only_memory : (tried : Result Bool Error) (e : Error) → Err e ≡ unless_memory tried → e ≡ OutOfMemory
  only_memory (Ok gone) e so = absurd cc
  only_memory (Err OutOfMemory) e so = cc
  only_memory (Err x) e so = absurd cc

  -- memory ran out at the next one
  pub stops_there : (all entries gone left rest : List Found) (f : Found) (e : Error) (old mid new : Option (List LogItem)) → all ≡ entries ++ f ∷ rest → Parts durable site entries gone left old mid → DropsKey durable site f (Err e) mid new → StopsParting durable site all e old new
  stops_there all entries gone left rest f e old mid new split so drops =
      let memory = lacks drops in
      record {
        done = so.partings;
        rest = f ∷ rest;
        split = split ∙ ap (λ (l : List Found). l ++ f ∷ rest) (sym so.each);
        between = mid;
        dropping = so.dropping;
        stop = inr (subst (λ (x : Error). DropsKey durable site f (Err x) mid new) memory drops);
        memory = memory;
      }
    where
      lacks : DropsKey durable site f (Err e) mid new → e ≡ OutOfMemory
      lacks (inl (is, tomb)) = absurd cc
      lacks (inr (x, tried, refused, tomb, tries, is)) = only_memory tried e is

  -- or right after these
  pub stops_after : (all entries gone left rest : List Found) (old new : Option (List LogItem)) → all ≡ entries ++ rest → Parts durable site entries gone left old new → StopsParting durable site all OutOfMemory old new
  stops_after all entries gone left rest old new split so = record {
    done = so.partings;
    rest = rest;
    split = split ∙ ap (λ (l : List Found). l ++ rest) (sym so.each);
    between = new;
    dropping = so.dropping;
    stop = nothing rest;
    memory = refl;
  }
    where
      nothing : (rest : List Found) → StopsNextKey durable site rest new new
      nothing [] = refl
      nothing (f ∷ rest) = inl refl

-- ---- a key whose tombstone was refused

module _ (durable : Bool) (site : Site) (f : Found) (e : Error) (r : Result Bool Error) (old refused : Option (List LogItem)) (tomb : Entombs site f (replies.Refused (without_message e)) old refused) where
  -- the disk isn't full
  pub not_full : may_be_full (fault_in e) ≡ false → r ≡ unless_memory (Err e) → DropsKey durable site f r old refused
  not_full never is = inr (e, Err e, refused, tomb, subst (λ (b : Bool). TriesKey b durable site.cache f e (Err e) refused refused) (sym never) (refl, refl), is)

  -- it may be
  pub maybe_full : (tried : Result Bool Error) (new : Option (List LogItem)) → may_be_full (fault_in e) ≡ true → IfOk tried (λ gone. UnlinksKey durable site.cache f gone refused new) → IfErr tried (λ x. StopsUnlinkingKey durable site.cache f x refused new)
      → r ≡ unless_memory tried → DropsKey durable site f r old new
  maybe_full tried new may unlinks stops is = inr (e, tried, refused, tomb, subst (λ (b : Bool). TriesKey b durable site.cache f e tried refused new) (sym may) (so tried unlinks stops), is)
    where
      so : (tried : Result Bool Error) → IfOk tried (λ gone. UnlinksKey durable site.cache f gone refused new) → IfErr tried (λ x. StopsUnlinkingKey durable site.cache f x refused new) → TriesKey true durable site.cache f e tried refused new
      so (Ok gone) unlinks stops = unlinks
      so (Err x) unlinks stops = stops
