-- Keys that lead to no content get tombstones, one after another.
use Rattle.std.proofs.{Common.{◌≡◌, ◌<◌, ◌^◌, inl, inr, ℕ, List, [], ◌∷◌, ◌++◌, Bool, true, false, Option, Some, refl, sym, ap, subst, ◌∙◌, map, append-nil, arith, ◌⊎◌}, lemmas.{List.{flat_map_more, map-append, Elements.{All-cons, All-nil, All-push}}, Bool.{not-true, not-false}}}
use Rattle.std.specs.{Prelude.{if◌then◌else◌, not}, List.{filter, flat_map}}
use Rattle.cacache_core.specs.declared.errors.Error.{Error, TheVariants.{OutOfMemory}}
use Rattle.cacache_store.specs.declared.store.log.LogItem.{LogItem}
use Rattle.cacache_entry.specs.Bucket.{Found}
use Rattle.cacache_calls.specs.{declared.{command.Command.{Command}, reply.Reply.{Reply}}, State.{Site}, Table.{opening}, Runs.{Ran, without_message}}
use Rattle.cacache_calls.specs.declared.command.Command.TheVariants as commands
use Rattle.cacache_calls.specs.declared.reply.Reply.TheVariants as replies
use Rattle.cacache_keep.specs.{Calls.{MadeCalls, SaysWhy}, Missing.{Look, is_missing}, Repairing.{AsksFor, BuriesEach, Fate, IsFateOf, IsSure, Led, LooksOrAsks, LooksUp, StopsAsking, StopsBurying, StopsFate, StopsLooking, calls_for, is_buried, leads_nowhere, looks_of, tombstone, SaysDoubtful}}
use Rattle.cacache_keep.proofs.{Asked.{kept, passed}, Stopped.{made_both}}

-- ---- one key

pub found_some : (site : Site) (key : List ℕ) (f : Found) (there : Bool) (old mid new : Option (List LogItem)) → Ran (opening site (commands.Find key)) (replies.LookedUp (Some f)) old mid → Ran (opening site (commands.Exists f.integrity)) (replies.Exists there) mid new
    → MadeCalls site (looks_of key (Some (f, there))) old new
found_some site key f there old mid new one two = (mid, one, (new, two, refl))

none_added : (b : Bool) (calls : List (Command × Reply)) (more : Command × Reply) → b ≡ false → calls ++ (if b then more ∷ [] else []) ≡ calls
none_added false calls more e = append-nil calls
none_added true calls more e = absurd cc

one_added : (b : Bool) (calls : List (Command × Reply)) (more : Command × Reply) → b ≡ true → calls ++ (if b then more ∷ [] else []) ≡ calls ++ more ∷ []
one_added true calls more e = refl
one_added false calls more e = absurd cc

-- it leads to a content, or to nothing
pub spared : (site : Site) (look : Look) (key : List ℕ) (led : Led) (old new : Option (List LogItem)) → leads_nowhere led ≡ false → IsSure site.cache look led → MadeCalls site (looks_of key led) old new
    → (fate : Fate) × (fate.key ≡ key) × (fate.moment < 2 ^ 64) × (false ≡ is_buried fate) × IsSure site.cache look fate.led × MadeCalls site (calls_for fate) old new
spared site look key led old new is sure made =
    let fate : Fate = record { key = key; led = led; moment = 0 } in
    (fate, refl, omega arith, sym is, sure, subst (λ (calls : List (Command × Reply)). MadeCalls site calls old new) (sym (none_added (leads_nowhere led) (looks_of key led) (tombstone key 0) is)) made)

pub got_one : (site : Site) (look : Look) (key : List ℕ) (led : Led) (moment : ℕ) (old mid new : Option (List LogItem)) → moment < 2 ^ 64 → leads_nowhere led ≡ true → IsSure site.cache look led → MadeCalls site (looks_of key led) old mid → Ran (opening site (tombstone key moment).0) replies.Done mid new
    → (fate : Fate) × (fate.key ≡ key) × (fate.moment < 2 ^ 64) × (true ≡ is_buried fate) × IsSure site.cache look fate.led × MadeCalls site (calls_for fate) old new
got_one site look key led moment old mid new early is sure made ran =
    let fate : Fate = record { key = key; led = led; moment = moment } in (
      fate,
      refl,
      early,
      sym is,
      sure,
      subst (λ (calls : List (Command × Reply)). MadeCalls site calls old new) (sym (one_added (leads_nowhere led) (looks_of key led) (tombstone key moment) is)) (made_both site (looks_of key led) (tombstone key moment ∷ []) old mid new made (new, ran, refl)),
    )

-- whether a key was buried, by its fate
pub buried_so : (fate : Fate) (spared : Bool) → spared ≡ not (is_buried fate) → spared ≡ false → is_buried fate ≡ true
buried_so fate spared e f = not-false (is_buried fate) (sym e ∙ f)

pub spared_so : (fate : Fate) (spared : Bool) → spared ≡ not (is_buried fate) → spared ≡ true → is_buried fate ≡ false
spared_so fate spared e f = not-true (is_buried fate) (sym e ∙ f)

-- ---- keys, one after another

calls_on : (site : Site) (fates : List (Found × Fate)) (x : Found × Fate) (old mid new : Option (List LogItem)) → MadeCalls site (flat_map (λ f. calls_for f.1) fates) old mid → MadeCalls site (calls_for x.1) mid new → MadeCalls site (flat_map (λ f. calls_for f.1) (fates ++ x ∷ [])) old new
calls_on site fates x old mid new made more =
    subst (λ (calls : List (Command × Reply)). MadeCalls site calls old new) (flat_map_more (λ (f : Found × Fate). calls_for f.1) [] fates x)
    (made_both site (flat_map (λ f. calls_for f.1) fates) (calls_for x.1) old mid new made more)

pub none_buried : (site : Site) (look : Look) (buried : List Found) (log : Option (List LogItem)) → buried ≡ [] → BuriesEach site look [] buried log log
none_buried site look buried log none = record { fates = []; each = refl; keys = All-nil IsFateOf; sure = All-nil (λ (f : Found × Fate). IsSure site.cache look f.1.led); calls = refl; which = none }

pub one_buried : (site : Site) (look : Look) (entries buried : List Found) (f : Found) (fate : Fate) (old mid new : Option (List LogItem)) → BuriesEach site look entries buried old mid → IsFateOf (f, fate) → is_buried fate ≡ true → IsSure site.cache look fate.led → MadeCalls site (calls_for fate) mid new → BuriesEach site look (entries ++ f ∷ []) (buried ++ f ∷ []) old new
one_buried site look entries buried f fate old mid new b same is sure made =
    let more : Found × Fate = (f, fate) in record {
      fates = b.fates ++ more ∷ [];
      each = map-append (λ (x : Found × Fate). x.0) b.fates (more ∷ []) ∙ ap (λ (l : List Found). l ++ f ∷ []) b.each;
      keys = All-push IsFateOf b.fates more b.keys same;
      sure = All-push (λ (x : Found × Fate). IsSure site.cache look x.1.led) b.fates more b.sure sure;
      calls = calls_on site b.fates more old mid new b.calls made;
      which = ap (λ (l : List Found). l ++ f ∷ []) b.which ∙ sym (map-append (λ (x : Found × Fate). x.0) (filter (λ (x : Found × Fate). is_buried x.1) b.fates) (more ∷ [])) ∙ ap (λ (l : List (Found × Fate)). map (λ x. x.0) l) (sym (kept (λ (x : Found × Fate). is_buried x.1) b.fates more is));
    }

pub one_spared : (site : Site) (look : Look) (entries buried : List Found) (f : Found) (fate : Fate) (old mid new : Option (List LogItem)) → BuriesEach site look entries buried old mid → IsFateOf (f, fate) → is_buried fate ≡ false → IsSure site.cache look fate.led → MadeCalls site (calls_for fate) mid new → BuriesEach site look (entries ++ f ∷ []) buried old new
one_spared site look entries buried f fate old mid new b same is sure made =
    let more : Found × Fate = (f, fate) in record {
      fates = b.fates ++ more ∷ [];
      each = map-append (λ (x : Found × Fate). x.0) b.fates (more ∷ []) ∙ ap (λ (l : List Found). l ++ f ∷ []) b.each;
      keys = All-push IsFateOf b.fates more b.keys same;
      sure = All-push (λ (x : Found × Fate). IsSure site.cache look x.1.led) b.fates more b.sure sure;
      calls = calls_on site b.fates more old mid new b.calls made;
      which = b.which ∙ ap (λ (l : List (Found × Fate)). map (λ x. x.0) l) (sym (passed (λ (x : Found × Fate). is_buried x.1) b.fates more is));
    }

-- ---- errors

-- the only call was refused
pub look_stops : (site : Site) (look : Look) (command : Command) (e : Error) (old new : Option (List LogItem)) → LooksOrAsks command → Ran (opening site command) (replies.Refused (without_message e)) old new → StopsLooking site look e old new
look_stops site look command e old new looks ran = record {
  calls = (command, replies.Refused (without_message e)) ∷ [];
  made = (new, ran, refl);
  harmless = All-cons (λ (c : Command × Reply). LooksOrAsks c.0) (command, replies.Refused (without_message e)) [] looks (All-nil (λ (c : Command × Reply). LooksOrAsks c.0));
  why = inl (inr ([], (command, replies.Refused (without_message e)), refl, refl));
}

-- a lookup and the question for the content that it found, whose answer says why
questioned : (site : Site) (look : Look) (key : List ℕ) (f : Found) (answer : Reply) (e : Error) (old mid new : Option (List LogItem)) → Ran (opening site (commands.Find key)) (replies.LookedUp (Some f)) old mid → Ran (opening site (commands.Exists f.integrity)) answer mid new
    → SaysWhy ((commands.Find key, replies.LookedUp (Some f)) ∷ (commands.Exists f.integrity, answer) ∷ []) e ⊎ SaysDoubtful site.cache look ((commands.Find key, replies.LookedUp (Some f)) ∷ (commands.Exists f.integrity, answer) ∷ []) e
    → StopsLooking site look e old new
questioned site look key f answer e old mid new one two why =
    let first : Command × Reply = (commands.Find key, replies.LookedUp (Some f)) in
    let last : Command × Reply = (commands.Exists f.integrity, answer) in record {
      calls = first ∷ last ∷ [];
      made = (mid, one, (new, two, refl));
      harmless = All-cons (λ (c : Command × Reply). LooksOrAsks c.0) first (last ∷ []) tt (All-cons (λ (c : Command × Reply). LooksOrAsks c.0) last [] tt (All-nil (λ (c : Command × Reply). LooksOrAsks c.0)));
      why = why;
    }

-- the question was refused, or its no is in doubt
pub question_stops : (site : Site) (look : Look) (key : List ℕ) (f : Found) (e : Error) (old mid new : Option (List LogItem)) → Ran (opening site (commands.Find key)) (replies.LookedUp (Some f)) old mid → StopsAsking site look f.integrity e mid new → StopsLooking site look e old new
question_stops site look key f e old mid new one (inl refused) =
    let last : Command × Reply = (commands.Exists f.integrity, replies.Refused (without_message e)) in
    questioned site look key f (replies.Refused (without_message e)) e old mid new one refused (inl (inr ((commands.Find key, replies.LookedUp (Some f)) ∷ [], last, refl, refl)))
question_stops site look key f e old mid new one (inr doubted) =
    questioned site look key f (replies.Exists false) e old mid new one doubted.0 (inr ((commands.Find key, replies.LookedUp (Some f)) ∷ [], f.integrity, refl, doubted.1))

-- what the question and the look say of the content
pub led_by : (site : Site) (look : Look) (key : List ℕ) (f : Found) (lost : Bool) (old mid new : Option (List LogItem)) → Ran (opening site (commands.Find key)) (replies.LookedUp (Some f)) old mid → AsksFor site look f.integrity lost mid new → LooksUp site look key lost old new
led_by site look key f lost old mid new one (two, missing) =
    (Some (f, not lost), twice lost, by lost missing, found_some site key f (not lost) old mid new one two)
  where
    twice : (b : Bool) → b ≡ not (not b)
    twice true = refl
    twice false = refl

    by : (b : Bool) → (b ≡ true → is_missing site.cache look f.integrity ≡ true) → not b ≡ false → is_missing site.cache look f.integrity ≡ true
    by true sure e = sure refl
    by false sure e = absurd cc

-- memory ran out between two keys
pub lost_between : (site : Site) (look : Look) (log : Option (List LogItem)) → StopsLooking site look OutOfMemory log log
lost_between site look log = record { calls = []; made = refl; harmless = All-nil (λ (c : Command × Reply). LooksOrAsks c.0); why = inl (inl refl) }

pub next_stops_burying : (site : Site) (look : Look) (entries done rest buried : List Found) (key : List ℕ) (e : Error) (old mid new : Option (List LogItem)) → entries ≡ done ++ rest → BuriesEach site look done buried old mid → StopsFate site look key e mid new → StopsBurying site look entries e old new
next_stops_burying site look entries done rest buried key e old mid new split b stop = record { done = done; rest = rest; split = split; buried = buried; between = mid; burying = b; key = key; stop = stop }
