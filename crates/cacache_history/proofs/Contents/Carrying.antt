-- What a commit carries on its way: its bytes, or where its link leads.
use Rattle.std.proofs.{Common.{arith, rules, ◌≡◌, ℕ, List, [], ◌++◌, Option, None, Some, Result, Ok, take, drop, take-append-drop, sym, ap, subst, ◌∙◌, append_assoc}, lemmas.Grind.{common_steps}}
use Rattle.cacache_core.specs.{declared.errors.{Fault.{Fault}, SerdeCause.{SerdeCause}}, Paths.{Names}, Integrity.{integrity_under}}
use Rattle.cacache_store.specs.{declared.store.plain.{PlainTemp.{PlainTemp}, PlainFile.{PlainFile}}, Plain.{PlainStep, PlainAnswer}}
use Rattle.cacache_store.specs.declared.store.step.Step.TheVariants as steps
use Rattle.cacache_store.specs.declared.store.answer.Answer.TheVariants as answers
use Rattle.cacache_disk.specs.{declared.{luck.Luck.{Luck}, node.Node.TheVariants.{File}}, Tree.{Tree, put}, LedTo.{free}, Apply.{apply, grown, taken, unless, made_temp}}
use Rattle.cacache_calls.specs.{declared.{command.{Command.{Command}, Export.{Export}, How.{How}}, carried.{Commit.{Commit}, Aim.{Aim}, Lookup.{Lookup}, Content.{Content}}, visit.Visit.{Visit}}, Steps.{temp_path, content_path}, Reading.{export_from, export_content, export, verified, found_for}, Walking.{visit_step}, State.{State, doing, creating, writing, syncing, persisting, linking, sizing, opening_file, hashing, Site, Insertion, Hashing, to_verify, to_link, Errand}, Answers.{temp_in, written_in, synced_in}, Common.{errand_step}, Inserting.{unless_refused}, Linking.{link_target, after_read}, Table.{wants, after, opening}}
use Rattle.cacache_calls.proofs.{Going.{cond_leads, inserts as adds, places}, Closed.{AnyWalk, ClosedCommit, ClosedWalk, Closed, kept}, Keys.{AnyVisit, any_visits}, Sound.{some_is}}
use Rattle.cacache_calls.specs.declared.command.Command.TheVariants as commands
use Rattle.cacache_entry.specs.Bucket.{Found}
use Rattle.cacache_value.{specs.Acts.{Act, PutBytes, PutLink}, proofs.Shows.{apply_answer}}
use Rattle.cacache_history.proofs.Syncing.{temp_synced}

-- what a call makes a content of: bytes, and the path where they go; or a link to a target
pub data Own : Type 0 where
  own_bytes : List ℕ → List ℕ → Own
  own_link : List ℕ → Own

-- only a put or a link makes one
abbrev pub own_of : Site → Command → Own
own_of site (commands.Put p) = own_bytes p.data (content_path site.cache (integrity_under p.options.algorithm p.data))
own_of site (commands.Link l) = own_link (link_target site l).path
own_of site command = own_bytes [] []

-- how it becomes the content at a path
abbrev pub put_own : Own → Names → Act
put_own (own_bytes bytes path) names = PutBytes names bytes
put_own (own_link target) names = PutLink names target

abbrev pub AreBytes : Own → List ℕ → Type 0
AreBytes (own_bytes bytes path) all = all ≡ bytes
AreBytes (own_link target) all = ⊥

abbrev pub IsTarget : Own → List ℕ → Type 0
IsTarget (own_bytes bytes place) path = ⊥
IsTarget (own_link target) path = path ≡ target

abbrev pub IsAt : Own → List ℕ → Type 0
IsAt (own_bytes bytes place) path = path ≡ place
IsAt (own_link target) path = ⊥

abbrev pub GoesTo : Own → Commit → Type 0
GoesTo own c = IsAt own (content_path c.cache c.computed)

-- a temporary file holds the first bytes, and these are the rest
abbrev pub Holds : Own → PlainTemp → List ℕ → Type 0
Holds own file rest = (old : List ℕ) × (file.bytes ≡ Some old) × AreBytes own (old ++ rest)

abbrev pub Carries : Own → State → Type 0
Carries own (doing errand s) = Carries own s
Carries own (creating number c rest) = AreBytes own rest × GoesTo own c
Carries own (writing c file rest) = Holds own file rest × GoesTo own c
Carries own (syncing c file) = Holds own file [] × GoesTo own c
Carries own (persisting c file) = Holds own file [] × GoesTo own c
Carries own (linking c target) = IsTarget own target
Carries own (sizing t) = IsTarget own t.path
Carries own (opening_file (to_link t)) = IsTarget own t.path
Carries own (hashing (to_link t) file bytes) = IsTarget own t.path
Carries own s = Unit {0}

-- a step makes a content of nothing else
abbrev pub Makes : Own → PlainStep → Type 0
Makes own (steps.Persist file path) = Holds own file [] × IsAt own path
Makes own (steps.Symlink target path) = IsTarget own target
Makes own step = Unit {0}

-- ---- the step of a state

errand_makes : (own : Own) (errand : Errand) → Makes own (errand_step errand)
errand_makes own errand = grind (arith, common_steps)

visit_makes : (own : Own) (v : Visit) → Makes own (visit_step v)
visit_makes own v = grind (arith, common_steps)

pub carries_makes : (own : Own) (s : State) (step : PlainStep) → Carries own s → wants s ≡ Some step → Makes own step
carries_makes own s step h w = grind (arith, some_is, errand_makes, visit_makes)

-- ---- answers of the disk

temp_unless : (t : Tree) (path : List ℕ) (new : Names → Tree) (r : Result Names Fault) (file : PlainTemp) → temp_in (unless r t (λ names. (answers.Temp (made_temp path), new names))).0 ≡ Ok file → file.bytes ≡ Some []
temp_unless t path new r file e = grind (arith, common_steps)

temp_made : (t : Tree) (path : List ℕ) (luck : Luck) (file : PlainTemp) → temp_in (apply t (steps.CreateTemp path) luck).0 ≡ Ok file → file.bytes ≡ Some []
temp_made t path luck file =
    apply_answer (λ a. temp_in a ≡ Ok file → file.bytes ≡ Some []) (λ fault e. absurd cc) t (steps.CreateTemp path) luck
    (λ most. temp_unless t path (λ names. put t names (File [])) (free t path) file)

temp_grown : (file : PlainTemp) (rest old : List ℕ) (count : ℕ) (known : Option (List ℕ)) (w : PlainTemp × ℕ) → known ≡ Some old → written_in (grown file rest count known) ≡ Ok w
    → w.0.bytes ≡ Some (old ++ take w.1 rest)
temp_grown file rest old count known w is e = grind (arith, common_steps)

temp_written : (t : Tree) (file : PlainTemp) (rest old : List ℕ) (luck : Luck) (w : PlainTemp × ℕ) → file.bytes ≡ Some old → written_in (apply t (steps.Write file rest) luck).0 ≡ Ok w
    → w.0.bytes ≡ Some (old ++ take w.1 rest)
temp_written t file rest old luck w is =
    apply_answer (λ a. written_in a ≡ Ok w → w.0.bytes ≡ Some (old ++ take w.1 rest)) (λ fault e. absurd cc) t (steps.Write file rest) luck
    (λ most. temp_grown file rest old (taken most rest) file.bytes w is)

-- ---- the state after a step

module _ (own : Own) where
  pub inserts : (i : Insertion) (cause : Option SerdeCause) → Carries own (unless_refused i cause)
  inserts i cause = adds (Carries own) (λ reply. tt) (λ folder i. tt) i cause

  -- the bytes so far and those that were taken are the first ones, if those to write are the rest
  goes_on : (old rest : List ℕ) (n : ℕ) → AreBytes own (old ++ rest) → AreBytes own ((old ++ take n rest) ++ drop n rest)
  goes_on old rest n h = subst (AreBytes own) (sym (append_assoc old (take n rest) (drop n rest) ∙ ap (λ l. old ++ l) (take-append-drop n rest))) h

  -- ---- calls that make no content

  exports_from : (how : How) (from to : List ℕ) (count : Option ℕ) → Carries own (export_from how from to count)
  exports_from how from to count = grind (arith, common_steps)

  pub exports : (k : Content) (e : Export) → Carries own (export k e)
  exports k e = cond_leads (Carries own) e.checked (opening_file (to_verify k e)) (export_content k e None) (λ _. tt) (λ _. exports_from e.how (content_path k.cache k.integrity) e.to None)

  verifies : (k : Content) (e : Export) (bytes : List ℕ) → Carries own (verified k e bytes)
  verifies k e bytes = search (rules, cond_leads, exports_from)

  founds : (l : Lookup) (aim : Aim) (found : Option Found) → Carries own (found_for l aim found)
  founds l aim found = grind (arith, exports)

  reads_on : (x : Hashing) (file : PlainFile) (bytes : List ℕ) (got : PlainFile × List ℕ) → Carries own (hashing x file bytes) → Carries own (after_read x bytes got)
  reads_on x file bytes got h = grind (arith, verifies)

  opens : (x : Hashing) (file : PlainFile) → Carries own (opening_file x) → Carries own (hashing x file [])
  opens x file h = grind (arith, common_steps)

  -- ---- any step

  module _ (t : Tree) (luck : Luck) where
    -- the disk answers so
    abbrev Told : PlainStep → PlainAnswer → Type 0
    Told step a = a ≡ (apply t step luck).0

    commits_carry : ClosedCommit Told (Carries own)
    commits_carry = record {
      created = λ number c rest file b h. (([], temp_made t (temp_path c.cache number) luck file (ap temp_in (sym b.1) ∙ b.2), h.0), h.1);
      wrote = λ c file rest w b h. ((h.0.0 ++ take w.1 rest, temp_written t file rest h.0.0 luck w h.0.1 (ap written_in (sym b.1) ∙ b.2), goes_on h.0.0 rest w.1 h.0.2), h.1);
      moved = λ c file h. (h, h);
      synced = λ c file new b h. (subst (λ f. Holds own f []) (temp_synced t file new luck (ap synced_in (sym b.1) ∙ b.2)) h.0, h.1);
      persisted = λ c file fault h. tt;
      linked = λ c target fault h. tt;
      there = λ c fault h. (places (Carries own) (λ reply. tt) (λ folder i. tt) c, λ p s k. (k, k));
    }

    walks_carry : ClosedWalk Told (Carries own) AnyWalk AnyVisit
    walks_carry = search (rules, any_visits)

    closed : Closed Told (Carries own) AnyWalk AnyVisit
    closed = search (rules, commits_carry, inserts, founds, opens, reads_on, walks_carry)

  pub carries_on : (t : Tree) (luck : Luck) (a : PlainAnswer) (s : State) (step : PlainStep) → Carries own s → wants s ≡ Some step → a ≡ (apply t step luck).0 → Carries own (after s a)
  carries_on t luck a s step h w is = kept (Told t luck) (Carries own) AnyWalk AnyVisit (closed t luck) s step a h w is

-- ---- of a command

pub opening_carries : (site : Site) (command : Command) → Carries (own_of site command) (opening site command)
opening_carries site command = grind (arith, inserts, exports)
