-- What each commit and each removal did, and the step that puts a link.
use Rattle.std.proofs.{Common.{arith, rules, ◌≡◌, ◌⊎◌, inl, inr, ℕ, List, [], ◌∷◌, ◌++◌, Option, None, Some, refl, sym, ap, subst, ◌∙◌, append-nil, Bool, true, cond, Ok}, lemmas.Grind.{common_steps}}
use Rattle.cacache_core.specs.{declared.{errors.Error.TheVariants.{OutOfMemory}, integrity.digest.Hash.{Hash}}, Integrity.{integrity_under}, Paths.{Names, names_of, content_names}}
use Rattle.cacache_store.specs.Plain.{PlainAnswer, PlainStep}
use Rattle.cacache_entry.proofs.EntryCauses.{Fits-no_cause}
use Rattle.cacache_calls.specs.{declared.{command.Command.{Command}, reply.Reply.{Reply}, carried.Commit.{Commit}, target.Target.{Target}}, Effects.{Effect, sent, effects_of, IsRefused, DoesNothing, TookAll, Inserts, Indexes, Commits}, Inserting.{insertion, deletion, bucket_line, refused_cause}, Linking.{commit_for}, Steps.{content_path, bucket_path}, Runs.{Runs, plain_reply}, Sound.{FormedIfWritten, SoundTarget, MayBegin}, State.{Insertion}, Storing.{insertion_of, put_commit}, Table.{opening}}
use Rattle.cacache_calls.proofs.Effects.{puts_commit, inserts_send, deletes_send}
use Rattle.cacache_history.specs.{Setup.{Setup, call_site, may_export, is_outside}, History.{History, Turn, IsLegal}, Turns.{made_in, EachTurn}, Commits.{Deed, deeds, PutsContent, IsNotOk, InsertionAdds, AddsAfter, CommitsAs, ReadsTarget, LinksAs, IsCase, CommitsAreCases, does, finds, deeds_of, IsAdded}, AddedEntries.{IsAmong}}
use Rattle.cacache_history.proofs.{Contents.{Carrying.{Own, own_bytes, own_link, put_own, own_of, Makes}, Deeds.{PutsAt, SendsEntry, Realizes, took_entry, turns_realize}, Linked.{CommitsOf, links_read}, Removals.{hash_removed, key_removed, all_cleared}}, Histories.{Holding.{TurnsHold}, Places.{reached, reply_run, lost_run}}, Each.{any_left, any_right}, StepActs.{MayAct, acts_so}}
use Rattle.cacache_disk.specs.declared.luck.Luck.{Luck}
use Rattle.cacache_value.specs.{Acts.{Act, PutLink, act_of, change, Move}, Kinds.{is_path_of}, Value.{Blob, InFile, AtLink, Value}}
use Rattle.cacache_calls.specs.declared.command.Command.TheVariants as commands
use Rattle.cacache_calls.specs.declared.reply.Reply.TheVariants as replies
use Rattle.cacache_store.specs.declared.store.step.Step.TheVariants as steps

content_deed : (own : Own) (c : Commit) (d : Deed) → PutsAt own (content_path c.cache c.computed) d → PutsContent c (put_own own) d
content_deed own c d h = grind (arith, common_steps)

module _ (own : Own) (reply : Option Reply) (r : Reply) (refused : IsRefused r → IsNotOk reply) where
  sent_adds : (i : Insertion) (a : PlainAnswer) (new : List Deed) → IsRefused r ⊎ TookAll (bucket_line i) a → SendsEntry (bucket_path i.cache i.entry.key) i.entry a new → InsertionAdds i new reply
  unfolding bucket_line
  sent_adds i a new h h2 = grind (arith, took_entry)

  adds : (i : Insertion) (es : List Effect) (ds : List Deed) → FormedIfWritten i → Realizes own es ds → Inserts i es r → InsertionAdds i ds reply
  unfolding bucket_line refused_cause
  adds i es ds formed real (inl h) = inl (subst (λ x. Realizes own x ds) h.0 real, refused h.1)
  adds i es ds formed real (inr h) =
      let k : Realizes own (sent (bucket_path i.cache i.entry.key) (bucket_line i) h.1.0 ∷ []) ds = subst (λ x. Realizes own x ds) h.1.1 real in
      let all : ds ≡ k.0 = k.2 ∙ ap (λ more. k.0 ++ more) k.4 ∙ append-nil k.0 in
      subst (λ x. InsertionAdds i x reply) (sym all) (sent_adds i h.1.0 k.0 h.1.2 (k.3 i.entry i.durable (formed h.0) (Fits-no_cause i.entry (formed h.0) h.0) refl))

  adds_after : (c : Commit) (key : Option (List ℕ)) (es : List Effect) (ds : List Deed) → ((k : List ℕ) → key ≡ Some k → FormedIfWritten (insertion_of c k)) → Realizes own es ds → Indexes c key es r
      → AddsAfter c key ds reply
  adds_after c key es ds formed real h = grind (arith, adds)

  commits : (c : Commit) (es : List Effect) (ds : List Deed) → ((k : List ℕ) → c.key ≡ Some k → FormedIfWritten (insertion_of c k)) → Realizes own es ds → Commits c es r → CommitsAs c (put_own own) ds reply
  commits c es ds formed real h = grind (arith, content_deed, adds_after)

module _ (s : Setup) (n : ℕ) (reply : Option Reply) (r : Reply) (refused : IsRefused r → IsNotOk reply) where
  links : (t : Target ℕ) (turns : List Turn) → SoundTarget (call_site s n) t → Realizes (own_link t.path) (effects_of (made_in turns)) (deeds turns)
      → DoesNothing (effects_of (made_in turns)) r ⊎ ReadsTarget t.path (CommitsOf r t (made_in turns)) (made_in turns) → LinksAs t turns reply
  links t turns sound real (inl h) = inl (subst (λ x. Realizes (own_link t.path) x (deeds turns)) h.0 real, refused h.1)
  links t turns sound real (inr h) =
      let w = h.3 in
      let small = w.5.0 in
      inr (h.0, h.1, h.2, (w.0, w.1, w.2, w.3, w.4, (small, commits (own_link t.path) reply r refused (commit_for t w.1) (effects_of (made_in turns)) (deeds turns) (sound.formed w.1 small) real w.5.1)))

  pub cases : (command : Command) (turns : List Turn) → MayBegin (call_site s n) (may_export s) (is_outside s) command → TurnsHold s turns
      → EachTurn (λ turn. Makes (own_of (call_site s n) command) turn.move.step) turns → Runs (opening (call_site s n) command) (made_in turns) r → IsCase (call_site s n) command turns reply
  cases (commands.Put p) turns may hold makes run =
      commits (own_bytes p.data (content_path s.cache (integrity_under p.options.algorithm p.data))) reply r refused (put_commit s.cache p) (effects_of (made_in turns)) (deeds turns) may (turns_realize s (own_bytes p.data (content_path s.cache (integrity_under p.options.algorithm p.data))) turns hold makes)
      (puts_commit (call_site s n) p (made_in turns) r run)
  cases (commands.Link l) turns may hold makes run = search (rules, links, turns_realize, own_link, links_read)
  cases (commands.Insert i) turns may hold makes run =
      adds (own_bytes [] []) reply r refused (insertion s.cache i) (effects_of (made_in turns)) (deeds turns) may (turns_realize s (own_bytes [] []) turns hold makes)
      (inserts_send (call_site s n) i (made_in turns) r run)
  cases (commands.Delete d) turns may hold makes run =
      adds (own_bytes [] []) reply r refused (deletion s.cache d) (effects_of (made_in turns)) (deeds turns) may (turns_realize s (own_bytes [] []) turns hold makes)
      (deletes_send (call_site s n) d (made_in turns) r run)
  cases (commands.RemoveHash i) turns may hold makes run = hash_removed (call_site s n) i turns r run
  cases (commands.RemoveFully key) turns may hold makes run = key_removed (call_site s n) key turns r run
  cases commands.Clear turns may hold makes run = all_cleared (call_site s n) turns r run
  cases other turns may hold makes run = tt

pub plain_refused : (r : Reply) → IsRefused (plain_reply r) → IsNotOk (Some r)
plain_refused r h = grind (arith, common_steps)

pub commits_are_cases : (h : History) → IsLegal h → CommitsAreCases h
commits_are_cases h legal call None reaches =
    let x = reached h legal call None reaches in
    cases h.setup call.number None (replies.Refused OutOfMemory) (λ e. tt) call.command call.turns x.holds.may x.holds.turns x.holds.makes (lost_run h call None x)
commits_are_cases h legal call (Some r) reaches =
    let x = reached h legal call (Some r) reaches in
    elim (reply_run h call r x) [
      | inl e ↦ cases h.setup call.number (Some r) (replies.Refused OutOfMemory) (λ x. subst (λ y. IsNotOk (Some y)) (sym e) tt) call.command call.turns x.holds.may x.holds.turns x.holds.makes (lost_run h call (Some r) x)
      | inr run ↦ cases h.setup call.number (Some r) (plain_reply r) (plain_refused r) call.command call.turns x.holds.may x.holds.turns x.holds.makes run
    ]

-- ---- the step that puts a link

abbrev pub IsLinkTo : List ℕ → PlainStep → Type 0
IsLinkTo target step = (path : List ℕ) × (step ≡ steps.Symlink target path)

act_link : (step : PlainStep) (names : Names) (target : List ℕ) → MayAct (PutLink names target) step → IsLinkTo target step
act_link step names target is = grind (arith, common_steps)

pub link_step : (step : PlainStep) (luck : Luck) (a : PlainAnswer) (names : Names) (target : List ℕ) → act_of step luck a ≡ PutLink names target → IsLinkTo target step
link_step step luck a names target e = act_link step names target (subst (λ act. MayAct act step) e (acts_so step luck a))

-- ---- where the link at an address comes from

-- the act put it there
abbrev pub PutsLink : Option Names → Act → Hash → List ℕ → Type 0
PutsLink folder act a target = (names : Names) × (act ≡ PutLink names target) × (is_path_of folder (content_names a) names ≡ true)

by_link : (folder : Option Names) (path : Names) (to : List ℕ) (a : Hash) (target : List ℕ) (old : Option Blob) (b : Bool) → is_path_of folder (content_names a) path ≡ b
    → cond b (Some (AtLink to)) old ≡ Some (AtLink target) → (old ≡ Some (AtLink target)) ⊎ PutsLink folder (PutLink path to) a target
by_link folder path to a target old b is e = grind (arith, common_steps)

by_bytes : (bytes target : List ℕ) (old : Option Blob) (b : Bool) → cond b (Some (InFile bytes)) old ≡ Some (AtLink target) → old ≡ Some (AtLink target)
by_bytes bytes target old b e = grind (arith, common_steps)

by_drop : (target : List ℕ) (old : Option Blob) (b : Bool) → cond b None old ≡ Some (AtLink target) → old ≡ Some (AtLink target)
by_drop target old b e = grind (arith, common_steps)

pub from_act : (folder : Option Names) (v : Value) (act : Act) (a : Hash) (target : List ℕ) → (change folder act v).contents a ≡ Some (AtLink target)
    → (v.contents a ≡ Some (AtLink target)) ⊎ PutsLink folder act a target
from_act folder v act a target e = grind (arith, by_link, by_bytes, by_drop)

-- ---- the deed among those of its call

pub among_last : (d : Deed) (turns : List Turn) (turn : Turn) → IsAmong d (deeds_of turn.move) → IsAmong d (deeds (turns ++ turn ∷ []))
among_last d [] turn h = any_left (λ (x : Deed). d ≡ x) (deeds_of turn.move) [] h
among_last d (t ∷ turns) turn h = any_right (λ (x : Deed). d ≡ x) (deeds_of t.move) (deeds (turns ++ turn ∷ [])) (among_last d turns turn h)

module _ (names : Names) (target : List ℕ) where
  abbrev pub the_link : Deed
  the_link = does (PutLink names target)

  pub link_deed : (m : Move) → act_of m.step m.luck m.answer ≡ PutLink names target → IsAmong the_link (deeds_of m)
  link_deed m e = search (rules, any_left)

  pub not_among : (ds : List Deed) → ds ≡ [] → IsAmong the_link ds → ⊥
  not_among ds none among = subst (IsAmong the_link) none among

  not_entry : (i : Insertion) (d : Deed) → IsAdded i d → the_link ≡ d → ⊥
  not_entry i d is same = grind (arith, common_steps)

  not_added : (i : Insertion) (ds : List Deed) (reply : Option Reply) → InsertionAdds i ds reply → IsAmong the_link ds → ⊥
  not_added i ds reply h among = grind (arith, not_among, not_entry)

  not_after : (c : Commit) (key : Option (List ℕ)) (ds : List Deed) (reply : Option Reply) → AddsAfter c key ds reply → IsAmong the_link ds → ⊥
  not_after c key ds reply none among = grind (arith, not_among, not_added)

  content_place : (c : Commit) (to : List ℕ) (content : Deed) → PutsContent c (λ n. PutLink n to) content → the_link ≡ content → names_of (content_path c.cache c.computed) ≡ Ok names
  content_place c to (does act) is same =
      let put : PutLink names target ≡ PutLink is.0 to = (let x : PutLink names target ≡ act = cc in x ∙ is.2) in
      let n : is.0 ≡ names = cc in
      is.1 ∙ ap Ok n
  content_place c to (finds path) is same = absurd cc

  -- a commit put its link at the place of its own digest
  pub committed : (c : Commit) (to : List ℕ) (ds : List Deed) (reply : Option Reply) → CommitsAs c (λ n. PutLink n to) ds reply → IsAmong the_link ds
      → names_of (content_path c.cache c.computed) ≡ Ok names
  committed c to ds reply h among = grind (arith, not_among, content_place, not_after)
