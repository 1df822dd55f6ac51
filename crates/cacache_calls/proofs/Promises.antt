-- A call's reply keeps what its state promises, whatever the answers are, and so is of a kind.
use Rattle.std.proofs.{Common.{List, arith, rules, ◌≡◌, inl, inr, ℕ, [], ◌∷◌, ◌++◌, Option, Some, Bool, true, refl, length, append-nil}, lemmas.Grind.{common_steps}}
use Rattle.cacache_core.specs.{declared.{integrity.digest.Hash.{Hash}, errors.{Fault.{Fault}, SerdeCause.{SerdeCause}, Error.{Error, TheVariants.{IoError, OutOfMemory}}}}, Integrity.{Meets}}
use Rattle.cacache_core.proofs.Meeting.{meets_finds}
use Rattle.cacache_calls.specs.{declared.{reply.Reply.{Reply, TheVariants.{Stored, Read, Refused, Copied, Done}}, command.{Command.{Command}, Export.{Export}, How.{How}}, carried.{Commit.{Commit}, Aim.{Aim}, Lookup.{Lookup}, Content.{Content}}, target.Target.{Target}}, Promises.{OnlyStores, OnlyReads, ReadsMeeting, StoresIf, Only, OnlyCopies, Copies, MadeOf, answered, Suits, StoresSized, Stores, StoresRead, Exports, Aims, Hashes, Walks, Promises, Answers}, State.{State, doing, looking, opening_file, hashing, walking, over, Site, Insertion, Hashing}, Common.{ends_with, fails}, Inserting.{unless_refused}, Storing.{indexed, sized, matches, compared, placed}, Reading.{export_from, export, verified, copied_count, found_for}, Linking.{with_size, commit_for, hashed, after_read}, Table.{after, opening}, Runs.{Moves, Runs}}
use Rattle.cacache_calls.proofs.{Going.{cond_leads}, Closed.{AnyAnswer, ClosedCommit, ClosedReads, ClosedFiles, ClosedWalk, Closed, kept_always}, Keys.{AnyVisit, any_visits}}
use Rattle.cacache_store.specs.{declared.store.plain.PlainFile.{PlainFile}, Plain.{PlainAnswer}}
use Rattle.cacache_entry.specs.Bucket.{Found}

-- a reply that may store one integrity is of the storing kind
pub stores_only : (i : List Hash) (P : Type 0) (r : Reply) → StoresIf i P r → OnlyStores r
stores_only i P (Stored j) h = tt
stores_only i P (Refused e) h = tt
stores_only i P r h = absurd h

-- bytes that match an integrity are bytes
pub meeting_only : (i : List Hash) (r : Reply) → ReadsMeeting i r → OnlyReads r
meeting_only i (Read bytes) h = tt
meeting_only i (Refused e) h = tt
meeting_only i r h = absurd h

-- ---- refusals keep every promise

exports_refused : (how : How) (e : Error) → Exports how (Refused e)
exports_refused how e = grind (arith, common_steps)

aims_refused : (aim : Aim) (e : Error) → Aims aim (Refused e)
aims_refused aim e = grind (arith, exports_refused)

hashes_refused : (h : Hashing) (bytes : List ℕ) (e : Error) → Hashes h bytes (Refused e)
hashes_refused h bytes e = grind (arith, exports_refused)

walks_refused : (clears : Bool) (e : Error) → Walks clears (Refused e)
walks_refused clears e = grind (arith, common_steps)

refused_kept : (s : State) (e : Error) → Promises s (Refused e)
refused_kept (doing errand s) e = refused_kept s e
refused_kept (looking l) e = aims_refused l.aim e
refused_kept (opening_file h) e = hashes_refused h [] e
refused_kept (hashing h file bytes) e = hashes_refused h bytes e
refused_kept (walking w v todo) e = walks_refused w.clears e
refused_kept s e = tt

-- ---- a promise that every refusal keeps

module _ (P : Reply → Type 0) (refuses : (e : Error) → P (Refused e)) (r : Reply) where
  -- every reply that keeps the state's promise satisfies P
  abbrev pub Keeps : State → Type 0
  Keeps s = Promises s r → P r

  pub over_keeps : (reply : Reply) → P reply → Keeps (over reply)
  over_keeps reply k = search rules

  pub ends_keeps : (e : Error) → Keeps (ends_with e)
  ends_keeps e = over_keeps (Refused e) (refuses e)

  pub fails_keeps : (fault : Fault) → Keeps (fails fault)
  fails_keeps fault = ends_keeps (IoError fault [])

-- ---- what a reply promises, said otherwise

only_stores : (j : List Hash) (P : Type 0) → P → (r : Reply) → Only (Stored j) r → StoresIf j P r
only_stores j P p r h = grind (arith, common_steps)

copies_only : (verified : Option ℕ) (r : Reply) → Copies verified r → OnlyCopies r
copies_only verified r h = grind (arith, common_steps)

copy_made : (i : List Hash) (bytes : List ℕ) → Meets i bytes → (r : Reply) → Copies (Some (length bytes)) r → MadeOf i bytes r
copy_made i bytes m (Copied n) h = ([], rw append-nil m, rw append-nil (h (length bytes) refl))
copy_made i bytes m (Refused e) h = tt
copy_made i bytes m r h = absurd h

link_made : (i : List Hash) (bytes : List ℕ) → Meets i bytes → (r : Reply) → Only Done r → MadeOf i bytes r
link_made i bytes m r h = grind (arith, common_steps)

stores_here : (t : Target ℕ) (bytes : List ℕ) (r : Reply) → Stores (commit_for t bytes) r → StoresRead t bytes r
stores_here t bytes r h = grind (arith, common_steps)

stores_later : (t : Target ℕ) (bytes more : List ℕ) (r : Reply) → StoresRead t (bytes ++ more) r → StoresRead t bytes r
stores_later t bytes more r h = grind (arith, common_steps)

sizes : (t : Target ℕ) (n : ℕ) (r : Reply) → StoresRead (with_size t n) [] r → StoresSized t r
sizes t n r h = grind (arith, common_steps)

made_later : (i : List Hash) (bytes more : List ℕ) (r : Reply) → MadeOf i (bytes ++ more) r → MadeOf i bytes r
made_later i bytes more r h = grind (arith, common_steps)

-- ---- commits

module _ (r : Reply) where
  inserts : (i : Insertion) (cause : Option SerdeCause) → Promises (unless_refused i cause) r → Only i.reply r
  inserts i cause h = grind (arith, ends_keeps)

  by_key : (c : Commit) (key : Option (List ℕ)) → Promises (indexed c key) r → Only (Stored (answered c.computed c.options.integrity key)) r
  by_key c key h = grind (arith, inserts)

  -- the integrity is compared before the size, so `Suits` holds here
  abbrev IntegritySuits : Commit → Type 0
  IntegritySuits c = (expected : List Hash) → c.options.integrity ≡ Some expected → matches expected c.computed ≡ true

  suited : (c : Commit) → Suits c → Promises (indexed c c.key) r → Stores c r
  suited c suits h = only_stores (answered c.computed c.options.integrity c.key) (Suits c) suits r (by_key c c.key h)

  by_size : (c : Commit) (size : Option ℕ) → c.options.size ≡ size → IntegritySuits c → Promises (sized c size) r → Stores c r
  by_size c size e i h = grind (arith, suited, cond_leads, ends_keeps)

  by_integrity : (c : Commit) (expected : Option (List Hash)) → c.options.integrity ≡ expected → Promises (compared c expected) r → Stores c r
  by_integrity c expected e h = grind (arith, by_size, cond_leads, ends_keeps)

  places : (c : Commit) → Promises (placed c) r → Stores c r
  places c h = by_integrity c c.options.integrity refl h

  -- ---- files that a call reads to their end

  exports_from : (how : How) (from to : List ℕ) (count : Option ℕ) → Promises (export_from how from to count) r → Exports how r
  exports_from how from to count h = grind (arith, copies_only)

  export_made : (how : How) (i : List Hash) (bytes from to : List ℕ) → Meets i bytes → Promises (export_from how from to (Some (length bytes))) r → Exports how r × MadeOf i bytes r
  export_made how i bytes from to m h = grind (arith, copies_only, copy_made, link_made)

  hash_exports : (k : Content) (e : Export) → Promises (export k e) r → Exports e.how r × (e.checked ≡ true → MadeOf k.integrity [] r)
  hash_exports k e h = search (rules, cond_leads, exports_from)

  hashes : (h : Hashing) (bytes : List ℕ) → Promises (hashed h bytes) r → Hashes h bytes r
  hashes h bytes g = grind (arith, cond_leads, export_made, meets_finds, ends_keeps, exports_refused, stores_here)

  hashes_more : (h : Hashing) (bytes more : List ℕ) → Hashes h (bytes ++ more) r → Hashes h bytes r
  hashes_more h bytes more g = grind (arith, made_later, stores_later)

  reads_on : (h : Hashing) (bytes : List ℕ) (file : PlainFile) (more : List ℕ) → Promises (after_read h bytes (file, more)) r → Hashes h bytes r
  reads_on h bytes file more g = grind (arith, hashes, hashes_more)

  -- ---- lookups

  founds : (l : Lookup) (aim : Aim) (found : Option Found) → Promises (found_for l aim found) r → Aims aim r
  founds l aim found h = grind (arith, over_keeps, meeting_only, ends_keeps, hash_exports, exports_refused)

  -- ---- copies

  counts : (count : Option ℕ) (n m : ℕ) → count ≡ Some m → copied_count count n ≡ m
  counts count n m e = grind (arith, common_steps)

  -- ---- all states

  -- what follows from a state's promises also follows from the promises after its step
  module _ (G : Type 0) where
    abbrev Gives : State → Type 0
    Gives s = Promises s r → G

    abbrev WalkGives : Bool → Type 0
    WalkGives clears = Walks clears r → G

    commits_give : ClosedCommit AnyAnswer Gives
    commits_give = search (rules, places)

    reads_give : ClosedReads AnyAnswer Gives
    reads_give = search (rules, founds, over_keeps, meets_finds, ends_keeps)

    files_give : ClosedFiles AnyAnswer Gives
    files_give = search (rules, sizes, reads_on, over_keeps, counts)

    walks_give : ClosedWalk AnyAnswer Gives WalkGives AnyVisit
    walks_give = search (rules, any_visits, over_keeps)

    closed : Closed AnyAnswer Gives WalkGives AnyVisit
    closed = search (rules, fails_keeps, refused_kept, ends_keeps, commits_give, inserts, reads_give, files_give, walks_give)

  -- what holds of every reply after an answer holds of every reply before it
  pub kept_before : (s : State) (t : PlainAnswer) → Promises (after s t) r → Promises s r
  kept_before s t = kept_always (Gives (Promises s r)) (WalkGives (Promises s r)) AnyVisit (closed (Promises s r)) s t (λ p. p)

own_kept : (r : Reply) → Only r r
own_kept r = grind (arith, common_steps)

-- the reply of every run keeps the promise of its first state
pub runs_keep : (s : State) (moves : Moves) (r : Reply) → Runs s moves r → Promises s r
runs_keep s [] r (inl e) = rw e (own_kept r)
runs_keep s [] r (inr e) = rw e (refused_kept s OutOfMemory)
runs_keep s (m ∷ moves) r run = kept_before r s m.1 (runs_keep (after s m.1) moves r run.2)

-- so does the reply of every call
pub calls_answer : (site : Site) (command : Command) (moves : Moves) (r : Reply) → Runs (opening site command) moves r → Answers site command r
calls_answer site command moves r run = search (rules, runs_keep, inserts, hash_exports)
