-- A call stays within its licence.
use Rattle.std.proofs.Common.{◌≡◌, ℕ, Bool, true, false, cond, List, [], ◌∷◌, Option, None, Some, length, get_or, subst}
use Rattle.cacache_core.specs.{declared.errors.{Error.TheVariants.{IntegrityError}, IntegrityFault.TheVariants.{Check}}, Integrity.{actual}, Matching.{meets}}
use Rattle.cacache_store.specs.{declared.store.{answer.Name.{Name}, plain.PlainFile.{PlainFile}}, Plain.{PlainStep, PlainAnswer}}
use Rattle.cacache_store.specs.declared.store.step.Step.TheVariants as steps
use Rattle.cacache_entry.specs.Bucket.{Found}
use Rattle.cacache_calls.specs.{declared.{command.{Command.{Command}, Export.{Export}, How.{How, TheVariants.{Copy}}}, reply.Reply.{Reply}, carried.{Commit.{Commit}, Aim.{Aim}, Lookup.{Lookup}, Content.{Content}}, visit.Visit.{Visit}}, Common.{ends_with, errand_step}, Reading.{export_from, export_content, export, found_for, found_content}, Inserting.{insertion, deletion, unless_refused, refused_cause, bucket_line}, Licence.{Licence, May, allows, as_far, KeepsTo, AllMay}, Linking.{after_read, hashed_path}, Runs.{Moves, Runs, Goes}, State.{State, doing, creating, writing, syncing, persisting, linking, confirming, appending, looking, reading, asking, sizing, opening_file, hashing, copying, walking, over, Site, Insertion, Hashing, to_verify, to_link}, Steps.{temp_path, bucket_path, content_path}, Storing.{placed}, Table.{piece, wants, after, opening}, Walking.{EachVisit, visit_step}}
use Rattle.cacache_calls.proofs.{Going.{cond_leads, inserts, places}, Closed.{AnyAnswer, ClosedCommit, ClosedWalk, Closed, kept_always}, Sound.{some_is}, Keys.{MayMeet}}
use Rattle.cacache_calls.specs.declared.command.Command.TheVariants as commands
use Rattle.cacache_calls.specs.declared.command.Source.TheVariants as sources
use Rattle.cacache_calls.specs.declared.carried.Aim.TheVariants as aims

-- the call may add entries
pub record MayInsert (l : Licence) : Type 0 where
  pub prepared : May l.prepares
  pub inserted : May l.inserts

-- and contents, if that is allowed
pub record MayAdd (l : Licence) (add : Bool) : Type 0 where
  pub added : May add
  pub insert : MayInsert l

module _ (l : Licence) where
  -- ---- states from which a call makes only steps that the licence allows

  abbrev Inserts : Type 0
  Inserts = MayInsert l

  abbrev Commits : Type 0
  Commits = MayAdd l l.commits

  abbrev Links : Type 0
  Links = MayAdd l l.links

  abbrev Aims : Aim → Type 0
  Aims aims.Report = Unit {0}
  Aims aims.Read = Unit {0}
  Aims (aims.Export e) = May l.exports
  Aims aims.Remove = May l.removes

  abbrev Hashes : Hashing → Type 0
  Hashes (to_verify k e) = May l.exports
  Hashes (to_link t) = Links

  abbrev Walks : Bool → Type 0
  Walks true = May l.lists × May l.removes
  Walks false = May l.lists

  abbrev MayVisit : Visit → Type 0
  MayVisit v = May (allows l (visit_step v))

  abbrev pub Within : State → Type 0
  Within (doing errand s) = May (allows l (errand_step errand)) × Within s
  Within (creating number c rest) = Commits
  Within (writing c file rest) = Commits
  Within (syncing c file) = Commits
  Within (persisting c file) = Commits
  Within (linking c target) = Links
  Within (confirming c fault) = Inserts
  Within (appending i) = Inserts
  Within (looking k) = Aims k.aim
  Within (reading k) = Unit {0}
  Within (asking k) = Unit {0}
  Within (sizing t) = Links
  Within (opening_file h) = Hashes h
  Within (hashing h file bytes) = Hashes h
  Within (copying from to count) = May l.exports
  Within (walking w v todo) = Walks w.clears × (MayVisit v × EachVisit MayVisit todo)
  Within (over reply) = Unit {0}

  -- ---- the steps of such states

  abbrev IsAllowed : PlainStep → Type 0
  IsAllowed step = May (allows l step)

  pub step_allowed : (s : State) (step : PlainStep) → Within s → wants s ≡ Some step → May (allows l step)
  step_allowed (doing errand s) step h w = some_is IsAllowed (errand_step errand) step w h.0
  step_allowed (creating number c rest) step h w = some_is IsAllowed (steps.CreateTemp (temp_path c.cache number)) step w h.added
  step_allowed (writing c file rest) step h w = some_is IsAllowed (steps.Write file rest) step w h.added
  step_allowed (syncing c file) step h w = some_is IsAllowed (steps.SyncTemp file) step w h.added
  step_allowed (persisting c file) step h w = some_is IsAllowed (steps.Persist file (content_path c.cache c.computed)) step w h.added
  step_allowed (linking c target) step h w = some_is IsAllowed (steps.Symlink target (content_path c.cache c.computed)) step w h.added
  step_allowed (confirming c fault) step h w = some_is IsAllowed (steps.Exists (content_path c.cache c.computed)) step w tt
  step_allowed (appending i) step h w = some_is IsAllowed (steps.Append (bucket_path i.cache i.entry.key) (bucket_line i)) step w h.inserted
  step_allowed (looking k) step h w = some_is IsAllowed (steps.ReadAll (bucket_path k.cache k.key)) step w tt
  step_allowed (reading k) step h w = some_is IsAllowed (steps.ReadAll (content_path k.cache k.integrity)) step w tt
  step_allowed (asking k) step h w = some_is IsAllowed (steps.Exists (content_path k.cache k.integrity)) step w tt
  step_allowed (sizing t) step h w = some_is IsAllowed (steps.Size t.path) step w tt
  step_allowed (opening_file x) step h w = some_is IsAllowed (steps.Open (hashed_path x)) step w tt
  step_allowed (hashing x file bytes) step h w = some_is IsAllowed (steps.Read file piece) step w tt
  step_allowed (copying from to count) step h w = some_is IsAllowed (steps.Copy from to) step w h
  step_allowed (walking x v todo) step h w = some_is IsAllowed (visit_step v) step w h.1.0
  step_allowed (over reply) step h w = absurd cc

  -- ---- commits and exports

  inserted : Inserts → (i : Insertion) → Within (unless_refused i (refused_cause i))
  inserted h i = inserts Within (λ reply. tt) (λ folder i. (h.prepared, h)) i (refused_cause i)

  content_there : Inserts → (c : Commit) → Within (placed c)
  content_there h c = places Within (λ reply. tt) (λ folder i. (h.prepared, h)) c

  exports_from : May l.exports → (how : How) (from to : List ℕ) (count : Option ℕ) → Within (export_from how from to count)
  exports_from h Copy from to count = h
  exports_from h how from to count = (h, tt)

  exports : May l.exports → (k : Content) (e : Export) → Within (export k e)
  exports h k e = cond_leads Within e.checked (opening_file (to_verify k e)) (export_content k e None) (λ _. h) (λ _. exports_from h e.how (content_path k.cache k.integrity) e.to None)

  reads_on : (x : Hashing) → Hashes x → (bytes : List ℕ) (got : PlainFile × List ℕ) → Within (after_read x bytes got)
  reads_on x h bytes (file, b ∷ bs) = h
  reads_on (to_link t) h bytes (file, []) = (h.insert.prepared, h)
  reads_on (to_verify k e) h bytes (file, []) =
      cond_leads Within (meets k.integrity bytes) (export_content k e (Some (length bytes))) (ends_with (IntegrityError (Check k.integrity (actual k.integrity bytes))))
      (λ _. exports_from h e.how (content_path k.cache k.integrity) e.to (Some (length bytes))) (λ _. tt)

  founds : (k : Lookup) (aim : Aim) → Aims aim → (found : Option Found) → Within (found_for k aim found)
  founds k aims.Read h None = tt
  founds k (aims.Export e) h (Some f) = exports h (found_content k f) e
  founds k aims.Remove h None = (h, tt)
  founds k aims.Remove h (Some f) = (h, (h, tt))
  founds k aim h found = tt

  -- ---- after a step

  commits_within : ClosedCommit AnyAnswer Within
  commits_within = record {
    created = λ number c rest file b h. h;
    wrote = λ c file rest w b h. h;
    moved = λ c file h. ((h.insert.prepared, h), (h.insert.prepared, h));
    synced = λ c file new b h. h;
    persisted = λ c file fault h. h.insert;
    linked = λ c target fault h. h.insert;
    there = λ c fault h. (content_there h c, λ p s k. ((h.prepared, k), (h.prepared, k)));
  }

  may_meet : (b : Bool) (level : ℕ) (p : List ℕ) → Walks b → (n : Name) → MayMeet MayVisit level p b n
  may_meet true level p h n = (h.0, h.1)
  may_meet false level p h n = (h, tt)

  walks_within : ClosedWalk AnyAnswer Within Walks MayVisit
  walks_within = record {
    visited = λ w v todo h. h;
    visiting = λ w v todo h k t. (h, (k, t));
    names = λ b level p names br h k i d lt. may_meet b level p h (get_or names i d);
    left = λ level p h k. h.1;
    cleared = λ h. tt;
    listed = λ items h. tt;
  }

  closed : Closed AnyAnswer Within Walks MayVisit
  closed = record {
    ends = record { failed = λ s fault h. tt; memory = λ s h. tt; errand = λ e s h. h.1 };
    commits = commits_within;
    inserts = λ i h. (tt, λ p s k. ((h.prepared, k), (h.prepared, k)));
    reads = record { found = λ k found h. founds k k.aim h found; met = λ k bytes e h. tt; unmet = λ k bytes h. tt; asked = λ k there h. tt };
    files = record { sized = λ t n h. h; opened = λ x file b h. h; got = λ x file bytes g b h. reads_on x h bytes g; copied = λ from to count n h. tt };
    walks = walks_within;
  }

  pub stays_within : (s : State) (a : PlainAnswer) → Within s → Within (after s a)
  stays_within s a h = kept_always Within Walks MayVisit closed s a h

  -- ---- commands

  got : (b rest : Bool) → May (cond b rest false) → May b × May rest
  got true rest e = (tt, e)
  got false rest e = absurd e

  may_insert : May (as_far true l.prepares (as_far true l.inserts true)) → Inserts
  may_insert e = let k = got l.prepares (cond l.inserts true false) e in record { prepared = k.0; inserted = (got l.inserts true k.1).0 }

  may_add : (added : Bool) → May (as_far true l.prepares (as_far true added (as_far true l.inserts true))) → MayAdd l added
  may_add added e =
      let k = got l.prepares (as_far true added (as_far true l.inserts true)) e in
      let m = got added (as_far true l.inserts true) k.1 in
      record { added = m.0; insert = record { prepared = k.0; inserted = (got l.inserts true m.1).0 } }

  -- a call whose licence this one covers begins within it
  pub begins_within : (site : Site) (command : Command) → KeepsTo l command → Within (opening site command)
  begins_within site (commands.Put p) e = let h = may_add l.commits e in (h.insert.prepared, h)
  begins_within site (commands.Link k) e = may_add l.links e
  begins_within site (commands.Insert i) e = inserted (may_insert e) (insertion site.cache i)
  begins_within site (commands.Delete d) e = inserted (may_insert e) (deletion site.cache d)
  begins_within site commands.Ls e = let h = (got l.lists true e).0 in (h, (h, tt))
  begins_within site (commands.Export (sources.Key key) x) e = (got l.exports true e).0
  begins_within site (commands.Export (sources.Hash i) x) e = exports (got l.exports true e).0 (record { cache = site.cache; integrity = i }) x
  begins_within site (commands.RemoveHash i) e = ((got l.removes true e).0, tt)
  begins_within site (commands.RemoveFully key) e = (got l.removes true e).0
  begins_within site commands.Clear e =
      let k = got l.lists (cond l.removes true false) e in
      ((k.0, (got l.removes true k.1).0), (k.0, tt))
  begins_within site command e = tt

  -- moves lead from such a state to another
  pub goes_within : (s end : State) (moves : Moves) → Within s → Goes s moves end → Within end
  goes_within s end [] h goes = subst Within goes h
  goes_within s end (m ∷ moves) h goes = goes_within (after s m.1) end moves (stays_within s m.1 h) goes.2

  -- ---- moves

  pub run_allowed : (s : State) (moves : Moves) (r : Reply) → Within s → Runs s moves r → AllMay l moves
  run_allowed s [] r h run = tt
  run_allowed s (m ∷ moves) r h run = (step_allowed s m.0 h run.0, run_allowed (after s m.1) moves r (stays_within s m.1 h) run.2)

  pub goes_allowed : (s end : State) (moves : Moves) → Within s → Goes s moves end → AllMay l moves
  goes_allowed s end [] h goes = tt
  goes_allowed s end (m ∷ moves) h goes = (step_allowed s m.0 h goes.0, goes_allowed (after s m.1) end moves (stays_within s m.1 h) goes.2)

pub calls_keep_to : (l : Licence) (site : Site) (command : Command) (moves : Moves) (r : Reply) → KeepsTo l command → Runs (opening site command) moves r → AllMay l moves
calls_keep_to l site command moves r e run = run_allowed l (opening site command) moves r (begins_within l site command e) run
