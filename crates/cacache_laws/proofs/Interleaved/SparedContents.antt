-- What a move of a call that spares a content's address removed is another path.
use Rattle.std.proofs.{lemmas.{Grind.{common_steps}, List.Elements.{All-head}}, Common.{rules, ◌≡◌, inl, inr, ℕ, true, false, List, [], ◌∷◌, ◌++◌, Option, Some, Ok, refl, sym, ap, subst, ◌∙◌, arith}}
use Rattle.std.specs.{Prelude.{slice_get}, List.{AllByRecursion}}
use Rattle.sha1.specs.Sha1.{sha1}
use Rattle.cacache_core.specs.{declared.{integrity.digest.Hash.{Hash}, errors.Error.TheVariants.{OutOfMemory}}, Integrity.{IsHash, IsIntegrity, address}, Paths.{Names, names_of, joined, content_names}}
use Rattle.cacache_core.proofs.{PathTexts.{paths_differ}, ProperNames.{not_true}}
use Rattle.cacache_store.specs.declared.store.step.Step.TheVariants as steps
use Rattle.cacache_store.specs.Plain.{PlainStep}
use Rattle.cacache_disk.specs.declared.luck.Luck.{Luck}
use Rattle.cacache_entry.specs.Bucket.{Found}
use Rattle.cacache_calls.specs.{declared.{command.Command.{Command}, reply.Reply.{Reply}}, Licence.{Licence, AllMay, KeepsTo, May, allows}, Replies.{lookup}, Steps.{bucket_path, content_path}}
use Rattle.cacache_calls.proofs.Within.{calls_keep_to}
use Rattle.cacache_calls.specs.declared.command.Command.TheVariants as commands
use Rattle.cacache_calls.specs.declared.reply.Reply.TheVariants as replies
use Rattle.cacache_value.specs.{Acts.{Drop, act_of}, Kinds.{is_path_of}}
use Rattle.cacache_history.specs.{declared.record.Record.TheVariants.{Moved}, AddedEntries.{IsAmong}, Commits.{Deed, does, deeds_of_act, deeds, DropsAmong, FoundFirst, IsCase}, History.{History, Turn, Call, Made, NamesIntegrity, IsLegal, turn_of, call_after}, Places.{now_before, MoveAt}, Setup.{Setup, call_site, home}, Turns.{entries_at, made_in}, Values.{KeepsContent}}
use Rattle.cacache_history.proofs.{StepActs.{MayAct, acts_so}, Entries.{Writes.{one_path}, Lookups.{last_among}}, Contents.Commits.{commits_are_cases}, Histories.{Holding.{TurnsHold}, Places.{moves_are_of_calls, reached, lost_run}, ShownTurns.{FoundHas, bucket_at_turn, bucket_below, bucket_has, content_below}}}
use Rattle.cacache_laws.{specs.Meanwhile.{SparesAddress}, proofs.Removing.Removed.{not_content}}

-- ---- paths

module _ (s : Setup) (a : Hash) (is_hash : IsHash a) where
  -- the path isn't that of the content
  abbrev IsApart : Names → Type 0
  IsApart names = is_path_of (home s) (content_names a) names ≡ false

  content_apart : (i : List Hash) → IsIntegrity i → (address i ≡ Some a → ⊥) → (names : Names) → names_of (content_path s.cache i) ≡ Ok names → IsApart names
  content_apart [] is differs names e = absurd (omega (arith, is.nonempty))
  content_apart (b ∷ hs) is differs names e =
      let hash = All-head IsHash b hs is.hashes in
      not_true (is_path_of (home s) (content_names a) names)
      (λ here. let same = one_path (home s) (content_names b) (content_names a) names (sym (content_below s b hs hash) ∙ e) here in
      differs (ap Some (sym ((paths_differ.contents [] a b is_hash hash).0 (ap (joined []) same)))))

  bucket_apart : (key : List ℕ) (names : Names) → names_of (bucket_path s.cache key) ≡ Ok names → IsApart names
  bucket_apart key names e = search (rules, not_true, not_content, one_path, bucket_below)

  -- what was removed at paths that are apart is so
  drops_apart : (paths : List (List ℕ)) (ds : List Deed) (names : Names) → AllByRecursion (λ path. (at : Names) → names_of path ≡ Ok at → IsApart at) paths → DropsAmong paths ds → IsAmong (does (Drop names)) ds → IsApart names
  drops_apart [] ds names apart drops among = absurd (subst (IsAmong (does (Drop names))) drops among)
  drops_apart (path ∷ paths) ds names apart (inl rest) among = drops_apart paths ds names apart.1 rest among
  drops_apart (path ∷ paths) ds names apart (inr d) among =
      elim (subst (IsAmong (does (Drop names))) d.3 among) [
        | inl same ↦ let there : d.0 ≡ names = cc in subst IsApart there (apart.0 d.0 d.2)
        | inr more ↦ drops_apart paths d.1 names apart.1 d.4 more
      ]

-- ---- the last turn

-- all but removals
abbrev keeping : Licence
keeping = record { prepares = true; commits = true; links = true; inserts = true; lists = true; exports = true; removes = false }

no_removal : (step : PlainStep) (names : Names) → MayAct (Drop names) step → May (allows keeping step) → ⊥
no_removal step names is may = grind (arith, common_steps)

last_may : (turns : List Turn) (turn : Turn) → AllMay keeping (made_in (turns ++ turn ∷ [])) → May (allows keeping turn.move.step)
last_may [] turn may = may.0
last_may (t ∷ turns) turn may = last_may turns turn may.1

-- a last turn that reads no bucket isn't the first one, which did
found_before : (cache key : List ℕ) (turns : List Turn) (turn : Turn) (found : Found) → (turn.move.step ≡ steps.ReadAll (bucket_path cache key) → ⊥) → FoundFirst cache key (turns ++ turn ∷ []) found → FoundFirst cache key turns found
found_before cache key [] turn found other first = let same : first.0 ≡ turn = (let all : turn ∷ [] ≡ first.0 ∷ first.1 = first.2 in cc) in absurd (other (ap (λ (t : Turn). t.move.step) (sym same) ∙ first.3))
found_before cache key (t ∷ turns) turn found other first =
    let all : t ∷ (turns ++ turn ∷ []) ≡ first.0 ∷ first.1 = first.2 in
    (first.0, turns, (let same : t ≡ first.0 = cc in ap (λ x. x ∷ turns) same), first.3, first.4)

-- what the first turn found has an integrity
found_formed : (s : Setup) (key : List ℕ) (turns : List Turn) (found : Found) → TurnsHold s turns → FoundFirst s.cache key turns found → IsIntegrity found.integrity
found_formed s key turns found hold first =
    let holds = (subst (TurnsHold s) first.2 hold).0 in
    let read = ap (lookup key) (sym (bucket_at_turn s first.0 holds (bucket_path s.cache key) (sha1 key) first.3 (bucket_below s key))) ∙ first.4 in
    subst (FoundHas s) read (bucket_has s key (entries_at s (sha1 key) first.0) first.0.move.answer (holds.formed (sha1 key)))

-- ---- a move

module _ (h : History) (legal : IsLegal h) (a : Hash) (is_hash : IsHash a) (n caller : ℕ) (luck : Luck) (made : Made) (reply : Option Reply) (is : slice_get h.records n ≡ Some (Moved caller luck (Some made) reply)) where
  abbrev move : MoveAt h n caller
  move = record { luck = luck; made = Some made; reply = reply; is = is }

  -- each call that moves at the place spares the address
  abbrev pub Spares : Type 0
  Spares = (other : ℕ) (call : Call) → MoveAt h n other → (now_before h n).calls other ≡ Some call → SparesAddress h.setup a call.turns call.command

  drop_apart : (names : Names) → act_of made.0 luck made.1 ≡ Drop names → Spares → IsApart h.setup a is_hash names
  drop_apart names act spares =
      let by = moves_are_of_calls h legal n caller move in
      let call = call_after (now_before h n).tree luck (Some made) by.call in
      let r = reached h legal call reply by.reaches in
      let site = call_site h.setup by.call.number in
      cases by.call (last_among (Drop names) by.call.turns (turn_of (now_before h n).tree luck made) (subst (λ x. IsAmong (does (Drop names)) (deeds_of_act x)) (sym act) (inl refl))) r.holds.turns
      by.call.command (commits_are_cases h legal call reply by.reaches) r.holds.named
      (λ keeps. last_may by.call.turns (turn_of (now_before h n).tree luck made) (calls_keep_to keeping site by.call.command (made_in call.turns) (replies.Refused OutOfMemory) keeps (lost_run h call reply r)))
      (spares caller by.call move by.is)
    where
      not_read : (path : List ℕ) → made.0 ≡ steps.ReadAll path → ⊥
      not_read path e = let no : act_of (steps.ReadAll path) luck made.1 ≡ Drop names = ap (λ s. act_of s luck made.1) (sym e) ∙ act in absurd cc

      cases : (call : Call) → IsAmong (does (Drop names)) (deeds (call.turns ++ turn_of (now_before h n).tree luck made ∷ [])) → TurnsHold h.setup (call.turns ++ turn_of (now_before h n).tree luck made ∷ [])
          → (c : Command) → IsCase (call_site h.setup call.number) c (call.turns ++ turn_of (now_before h n).tree luck made ∷ []) reply → NamesIntegrity c → (KeepsTo keeping c → May (allows keeping made.0))
          → SparesAddress h.setup a call.turns c → IsApart h.setup a is_hash names
      cases call among hold (commands.RemoveHash i) case named may spare = drops_apart h.setup a is_hash (content_path h.setup.cache i ∷ []) _ names (content_apart h.setup a is_hash i named spare, tt) case among
      cases call among hold (commands.RemoveFully key) (inl case) named may spare = drops_apart h.setup a is_hash (bucket_path h.setup.cache key ∷ []) _ names (bucket_apart h.setup a is_hash key, tt) case among
      cases call among hold (commands.RemoveFully key) (inr case) named may spare =
          let turn = turn_of (now_before h n).tree luck made in
          let integrity = found_formed h.setup key (call.turns ++ turn ∷ []) case.0 hold case.1 in
          let before = found_before h.setup.cache key call.turns turn case.0 (not_read (bucket_path h.setup.cache key)) case.1 in
          drops_apart h.setup a is_hash (content_path h.setup.cache case.0.integrity ∷ bucket_path h.setup.cache key ∷ []) _ names
          (content_apart h.setup a is_hash case.0.integrity integrity (spare case.0 before), (bucket_apart h.setup a is_hash key, tt)) case.2 among
      cases call among hold commands.Clear case named may spare = absurd spare
      cases call among hold c case named may spare = absurd (no_removal made.0 names (subst (λ x. MayAct x made.0) act (acts_so made.0 luck made.1)) (may tt))

  -- so the move keeps the content
  pub move_keeps : Spares → KeepsContent (home h.setup) a (act_of made.0 luck made.1)
  move_keeps spares = search (rules, drop_apart)
