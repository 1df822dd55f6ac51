-- Questions and listings, one after another.
use Rattle.std.proofs.{Common.{◌≡◌, ℕ, List, [], ◌∷◌, ◌++◌, Bool, true, false, Option, Ok, Err, Result, IfOk, inl, inr, refl, sym, ap, subst, ◌∙◌, map}, lemmas.List.{map-append, Elements.{filter-append}}}
use Rattle.std.specs.{List.{filter, AllByRecursion}, Prelude.{OnOk, not}}
use Rattle.cacache_store.specs.declared.{env.Env.{Env}, store.log.LogItem.{LogItem}}
use Rattle.cacache_entry.specs.Bucket.{Found}
use Rattle.cacache_calls.specs.{declared.{command.Command.{Command}, reply.Reply.{Reply}}, State.{Site, Item}, Table.{opening}, Runs.{Ran, plain_item}}
use Rattle.cacache_calls.specs.declared.command.Command.TheVariants as commands
use Rattle.cacache_calls.specs.declared.reply.Reply.TheVariants as replies
use Rattle.cacache_jobs.specs.{Environment.{KeepsRest}, JobStates.{site_of}}
use Rattle.cacache_keep.specs.Calls.{AreEntries, AsksEach, MadeCalls, question_of}
use Rattle.cacache_laws.proofs.trees.Members.{Member}

-- ---- the environment

pub keeps_on : {S C N : Type 0} (a b c : Env S C N) → KeepsRest a b → KeepsRest b c → KeepsRest a c
keeps_on a b c one two = (two.0 ∙ one.0, two.1 ∙ one.1, two.2 ∙ one.2)

-- ---- one more call

pub made_on : (site : Site) (calls : List (Command × Reply)) (call : Command × Reply) (old mid new : Option (List LogItem)) → MadeCalls site calls old mid → Ran (opening site call.0) call.1 mid new → MadeCalls site (calls ++ call ∷ []) old new
made_on site [] call old mid new made ran = (new, subst (λ (log : Option (List LogItem)). Ran (opening site call.0) call.1 log new) made ran, refl)
made_on site (c ∷ calls) call old mid new made ran = (made.0, made.1, made_on site calls call made.0 mid new made.2 ran)

pub mapped_on : {X : Type 0} (site : Site) (of : X → Command × Reply) (xs : List X) (x : X) (old mid new : Option (List LogItem)) → MadeCalls site (map of xs) old mid → Ran (opening site (of x).0) (of x).1 mid new → MadeCalls site (map of (xs ++ x ∷ [])) old new
mapped_on site of xs x old mid new made ran = subst (λ (calls : List (Command × Reply)). MadeCalls site calls old new) (sym (map-append of xs (x ∷ []))) (made_on site (map of xs) (of x) old mid new made ran)

-- ---- what a filter keeps of one more

pub kept : {X : Type 0} (p : X → Bool) (xs : List X) (x : X) → p x ≡ true → filter p (xs ++ x ∷ []) ≡ filter p xs ++ x ∷ []
kept p xs x is = filter-append p xs (x ∷ []) ∙ ap (λ more. filter p xs ++ more) (one p x is)
  where
    one : {X : Type 0} (p : X → Bool) (x : X) → p x ≡ true → filter p (x ∷ []) ≡ x ∷ []
    one p x is = rw is refl

pub passed : {X : Type 0} (p : X → Bool) (xs : List X) (x : X) → p x ≡ false → filter p (xs ++ x ∷ []) ≡ filter p xs
passed p xs x is = filter-append p xs (x ∷ []) ∙ ap (λ more. filter p xs ++ more) (none p x is) ∙ append_none (filter p xs)
  where
    none : {X : Type 0} (p : X → Bool) (x : X) → p x ≡ false → filter p (x ∷ []) ≡ []
    none p x is = rw is refl

    append_none : {X : Type 0} (xs : List X) → xs ++ [] ≡ xs
    append_none [] = refl
    append_none (x ∷ xs) = ap (λ l. x ∷ l) (append_none xs)

-- a filter that takes none
pub none_kept : {X : Type 0} (p : X → Bool) (xs : List X) → ((x : X) → Member x xs → p x ≡ false) → filter p xs ≡ []
none_kept p [] never = refl
none_kept p (x ∷ xs) never = rw (never x (inl refl), none_kept p xs (λ y m. never y (inr m))) refl

-- ---- what holds of two parts of a list

pub both_parts : {X : Type 0} (P : X → Type 0) (xs ys : List X) → AllByRecursion P (xs ++ ys) → AllByRecursion P xs × AllByRecursion P ys
both_parts P [] ys all = (tt, all)
both_parts P (x ∷ xs) ys all = let rest = both_parts P xs ys all.1 in ((all.0, rest.0), rest.1)

-- ---- entries whose content is asked for

pub none_asked : (site : Site) (dangling : List Found) (log : Option (List LogItem)) → dangling ≡ [] → AsksEach site [] dangling log log
none_asked site dangling log none = record { asks = []; each = refl; asking = refl; absent = none }

pub there_asked : (site : Site) (entries dangling : List Found) (f : Found) (old mid new : Option (List LogItem)) → AsksEach site entries dangling old mid → Ran (opening site (commands.Exists f.integrity)) (replies.Exists true) mid new → AsksEach site (entries ++ f ∷ []) dangling old new
there_asked site entries dangling f old mid new r ran =
    let more : Found × Bool = (f, true) in
    record {
      asks = r.asks ++ more ∷ [];
      each = map-append (λ (x : Found × Bool). x.0) r.asks (more ∷ []) ∙ ap (λ (l : List Found). l ++ f ∷ []) r.each;
      asking = mapped_on site question_of r.asks more old mid new r.asking ran;
      absent = r.absent ∙ ap (λ (l : List (Found × Bool)). map (λ x. x.0) l) (sym (passed (λ (x : Found × Bool). not x.1) r.asks more refl));
    }

pub absent_asked : (site : Site) (entries dangling : List Found) (f : Found) (old mid new : Option (List LogItem)) → AsksEach site entries dangling old mid → Ran (opening site (commands.Exists f.integrity)) (replies.Exists false) mid new → AsksEach site (entries ++ f ∷ []) (dangling ++ f ∷ []) old new
absent_asked site entries dangling f old mid new r ran =
    let more : Found × Bool = (f, false) in
    let absent : List (Found × Bool) = filter (λ (x : Found × Bool). not x.1) r.asks in
    record {
      asks = r.asks ++ more ∷ [];
      each = map-append (λ (x : Found × Bool). x.0) r.asks (more ∷ []) ∙ ap (λ (l : List Found). l ++ f ∷ []) r.each;
      asking = mapped_on site question_of r.asks more old mid new r.asking ran;
      absent = ap (λ (l : List Found). l ++ f ∷ []) r.absent ∙ sym (map-append (λ (x : Found × Bool). x.0) absent (more ∷ [])) ∙ ap (λ (l : List (Found × Bool)). map (λ x. x.0) l) (sym (kept (λ (x : Found × Bool). not x.1) r.asks more refl));
    }

-- ---- the index

pub plain_entries : (entries : List Found) → map plain_item (map Ok entries) ≡ map Ok entries
plain_entries [] = refl
plain_entries (f ∷ fs) = ap (λ (l : List Item). Ok f ∷ l) (plain_entries fs)

pub plain_are : (items : List Item) (entries : List Found) → AreEntries items entries → AreEntries (map plain_item items) entries
plain_are items entries (inl is) = inl (ap (map plain_item) is ∙ plain_entries entries)
plain_are items entries (inr ((message, is), none)) = inr (([], ap (map plain_item) is), none)

-- what holds of a value if something else does
pub value_so : {X E : Type 0} {P Q : X → Type 0} (r : Result X E) → ((x : X) → P x → Q x) → IfOk r P → IfOk r Q
value_so (Ok x) f h = f x h
value_so (Err e) f h = h

-- what holds of a value if two things do
pub value_both : {X E : Type 0} {P Q R : X → Type 0} (r : Result X E) → ((x : X) → P x → Q x → R x) → IfOk r P → IfOk r Q → IfOk r R
value_both (Ok x) f p q = f x p q
value_both (Err e) f p q = p

-- what holds of a call that was done if something else does
pub done_so : {X E P Q : Type 0} (r : Result X E) → (P → Q) → OnOk r P → OnOk r Q
done_so (Ok x) f h = f h
done_so (Err e) f h = h

-- ---- at the same place

pub ran_at : (cache base before : List ℕ) (command given : Command) (reply answered : Reply) (old new : Option (List LogItem)) → before ≡ base → given ≡ command → answered ≡ reply → Ran (opening (site_of cache before 0) given) answered old new → Ran (opening (site_of cache base 0) command) reply old new
ran_at cache base before command given reply answered old new same asks says ran =
    subst (λ (r : Reply). Ran (opening (site_of cache base 0) command) r old new) says
    (subst (λ (k : Command). Ran (opening (site_of cache base 0) k) answered old new) asks
    (subst (λ (b : List ℕ). Ran (opening (site_of cache b 0) given) answered old new) same ran))
