-- What the opening of a reader finds in a cache, and that it leaves the tree.
use Rattle.std.proofs.{lemmas.{Grind.{common_steps}, List.Elements.{All-head}}, Common.{rules, ◌≡◌, ◌⊎◌, inl, inr, ℕ, List, [], ◌∷◌, ◌++◌, Option, None, Some, Result, Ok, Err, map, refl, sym, ap, subst, ◌∙◌, arith}}
use Rattle.cacache_core.specs.{declared.{errors.{Error.{Error, TheVariants.{EntryNotFound, IoError, OutOfMemory}}, Fault.{Fault}}, integrity.digest.Hash.{Hash}}, Integrity.{IsHash}, Paths.{home_of}}
use Rattle.cacache_core.specs.declared.errors.Fault.TheVariants as faults
use Rattle.cacache_store.specs.declared.store.answer.Answer.TheVariants as answers
use Rattle.cacache_store.specs.{declared.store.{log.LogItem.{LogItem, TheVariants.{Made}}, plain.PlainFile.{PlainFile}}, Plain.{PlainAnswer}}
use Rattle.cacache_store.specs.declared.store.step.Step.TheVariants as steps
use Rattle.cacache_disk.specs.{declared.luck.Luck.TheVariants.{Plain}, Tree.{Tree, bare}, Apply.{apply, opened}, Replay.{after, IsReplayable, tree_of, IsLog}}
use Rattle.cacache_entry.specs.Bucket.{Found, latest}
use Rattle.cacache_calls.specs.declared.command.Command.TheVariants as commands
use Rattle.cacache_calls.specs.{declared.{reply.Reply.{Reply}, carried.Lookup.{Lookup}}, Answers.{bytes_in}, Reading.{found_in, found_for, no_bucket, after_bucket}, Steps.{bucket_path, content_path}, Runs.{Moves, Runs, Gains, plain_reply, without_message}, State.{State, looking, over}, SingleSteps.{FailsAt}}
use Rattle.cacache_calls.proofs.Going.{go_on_leads}
use Rattle.cacache_calls.specs.declared.reply.Reply.TheVariants as replies
use Rattle.cacache_calls.specs.declared.carried.Aim.TheVariants as aims
use Rattle.cacache_calls.specs.Table as table
use Rattle.cacache_value.{specs.{Shows.{blob_bytes, ShowsContent}, Value.{value_of_tree}}, proofs.Shows.{trees_show}}
use Rattle.cacache_history.proofs.Histories.ShownTurns.{content_below}
use Rattle.cacache_laws.specs.{Sequence.{tree_on, IsSound}, ReadAnswers.{entries_on, UnlessFailed}, CallErrors.{FailsOnly}, Caches.{IsCache, HasContent, HasKey, LacksKey, Grows, IsExcused, Called, setup_at}, OpenWriters.{LeavesKnownCache}, OpenReaders.{OpensContent, LookupRan, OpensWhatWasFound, OpensByKey, GivesFile, ReadersOpen, GivesNone, ReadersOpenKey}}
use Rattle.cacache_laws.proofs.{Readings.{ReadAnswers.{reading_keeps, opening_keeps, opened_so}, Known.{Known, known, excuse, content_stays, answered}, GivenReads.{same_stays_known}}, Calls.{Replays.{some_same, growths_join, excuses_last}, InParts.{logs_lead}, CallErrors.{plain_error, excused_error}}, Putting.OpenWriters.{gains_grow, excused_step, gains_none}}

-- ---- a tree that stays

pub leaves : (cache : List ℕ) (old new : List LogItem) → IsCache cache old → tree_of new ≡ tree_of old → Grows old new → LeavesKnownCache cache old new
leaves cache old new sound same grows = (subst (IsSound (home_of cache)) (sym same) sound, same_stays_known cache old new (ap (value_of_tree (home_of cache)) same), grows)

front : (t : Tree) (log more : List LogItem) → IsReplayable t (log ++ more) → IsReplayable t log
front t [] more h = tt
front t (item ∷ log) more h = (h.0, front (after t item) log more h.1)

-- the beginning of a log is one
pub log_front : (old new more : List LogItem) → new ≡ old ++ more → IsLog new → IsLog old
unfolding IsLog
log_front old new more is h = front bare old more (subst (IsReplayable bare) is h)

-- ---- the opening of a content

-- what a log gained by it
pub record Opened (path : List ℕ) (r : Result PlainFile Error) (old new : List LogItem) : Type 0 where
  pub moves : Moves
  pub gains : Gains (Some old) (Some new) moves
  pub only : (moves ≡ []) ⊎ ((a : PlainAnswer) × (moves ≡ (steps.Open path, a) ∷ []))
  pub file : (f : PlainFile) → r ≡ Ok f → moves ≡ (steps.Open path, answers.File f) ∷ []
  pub excused : (e : Error) → r ≡ Err e → IsExcused e old new

module _ (path : List ℕ) (old new : List LogItem) where
  failed_at : (e : Error) (fault : Fault) → (e ≡ OutOfMemory) ⊎ ((message : List ℕ) × (e ≡ IoError fault message)) → Gains (Some old) (Some new) ((steps.Open path, answers.Failed fault) ∷ [])
      → Opened path (Err e) old new
  failed_at e fault is g = record {
    moves = (steps.Open path, answers.Failed fault) ∷ [];
    gains = g;
    only = inr (answers.Failed fault, refl);
    file = λ f no_file. absurd cc;
    excused = λ x same. (let one : e ≡ x = cc in subst (λ y. IsExcused y old new) one (excused_step old new ((steps.Open path, answers.Failed fault) ∷ []) g e fault (inl refl) is));
  }

  pub errs : (e : Error) → FailsAt (steps.Open path) e (Some old) (Some new) → Opened path (Err e) old new
  errs (IoError fault message) h = failed_at (IoError fault message) fault (inr (message, refl)) h
  errs OutOfMemory (inl same) = search (rules, gains_none)
  errs OutOfMemory (inr h) = failed_at OutOfMemory h.0 (inl refl) h.1
  errs e h = absurd h

  pub opens_file : (file : PlainFile) → Gains (Some old) (Some new) ((steps.Open path, answers.File file) ∷ []) → Opened path (Ok file) old new
  opens_file file h = record {
    moves = (steps.Open path, answers.File file) ∷ [];
    gains = h;
    only = inr (answers.File file, refl);
    file = λ f is. (let same : file ≡ f = cc in ap (λ g. (steps.Open path, answers.File g) ∷ []) same);
    excused = λ e none. absurd cc;
  }

pub opened_by : (cache : List ℕ) (i : List Hash) (r : Result PlainFile Error) (old new : List LogItem) → OpensContent cache i r (Some old) (Some new) → Opened (content_path cache i) r old new
opened_by cache i r old new h = grind (arith, errs, opens_file)

only_keeps : (t : Tree) (path : List ℕ) (moves : Moves) → (moves ≡ []) ⊎ ((a : PlainAnswer) × (moves ≡ (steps.Open path, a) ∷ [])) → tree_on t moves ≡ t
only_keeps t path moves h = grind (arith, opening_keeps)

pub opened_keeps : (path : List ℕ) (r : Result PlainFile Error) (old new : List LogItem) → Opened path r old new → IsLog new → tree_of new ≡ tree_of old
opened_keeps path r old new o logged = (logs_lead old new o.moves o.gains logged).1 ∙ only_keeps (tree_of old) path o.moves o.only

-- the file that was opened is one of the content's bytes
shown_bytes : (content : Result (List ℕ) Fault) (bytes : List ℕ) (file : PlainFile) → content ≡ Ok bytes → ShowsContent content (answers.File file) → file.bytes ≡ Some bytes
shown_bytes content bytes file is h = let same : h.0 ≡ bytes = (let both : Ok h.0 ≡ Ok bytes = sym h.1 ∙ is in cc) in h.2 ∙ ap Some same

module _ (cache : List ℕ) (log : List LogItem) (sound : IsCache cache log) (file : PlainFile) where
  content_bytes : (i : List Hash) (bytes : List ℕ) → HasContent cache i bytes log → answers.File file ≡ (apply (tree_of log) (steps.Open (content_path cache i)) Plain).0 → file.bytes ≡ Some bytes
  content_bytes [] bytes has e = absurd (omega (arith, has.formed.nonempty))
  content_bytes (a ∷ hs) bytes has e =
      let t = tree_of log in
      let path = content_path cache (a ∷ hs) in
      let shows = (trees_show (home_of cache) t sound.placed sound.rooted).opened a path Plain (content_below (setup_at cache []) a hs (All-head IsHash a hs has.formed.hashes)) in
      shown_bytes (blob_bytes t ((value_of_tree (home_of cache) t).contents a)) bytes file (ap (blob_bytes t) has.content) (subst (ShowsContent (blob_bytes t ((value_of_tree (home_of cache) t).contents a))) (sym e) shows)

  gives_bytes : (i : List Hash) (bytes : List ℕ) → HasContent cache i bytes log → answers.File file ≡ (apply (tree_of log) (steps.Open (content_path cache i)) Plain).0 → file ≡ opened bytes
  gives_bytes i bytes has e =
      let o = opened_so (tree_of log) (content_path cache i) file e in
      let both : Some o.0 ≡ Some bytes = sym (ap (λ (f : PlainFile). f.bytes) o.1) ∙ content_bytes i bytes has e in
      let same : o.0 ≡ bytes = cc in
      o.1 ∙ ap opened same

gives_file : (cache : List ℕ) (i : List Hash) (bytes : List ℕ) (r : Result PlainFile Error) (old new : List LogItem) → IsCache cache old → Opened (content_path cache i) r old new → IsLog new
    → HasContent cache i bytes old → GivesFile bytes r old new
gives_file cache i bytes (Err e) old new sound o logged has = o.excused e refl
gives_file cache i bytes (Ok file) old new sound o logged has =
    let lead = logs_lead old new ((steps.Open (content_path cache i), answers.File file) ∷ []) (subst (Gains (Some old) (Some new)) (o.file file refl) o.gains) logged in
    let same = gives_bytes cache old sound file i bytes has lead.0.0 in
    (ap (λ (f : PlainFile). f.bytes) same, ap (λ (f : PlainFile). f.left) same)

pub readers_open : ReadersOpen
readers_open cache i r old new sound h logged =
    let o = opened_by cache i r old new h in
    (leaves cache old new sound (opened_keeps (content_path cache i) r old new o logged) (gains_grow old new o.moves o.gains), λ bytes has. gives_file cache i bytes r old new sound o logged has)

-- ---- a lookup

abbrev IsOver : State → Type 0
IsOver (over r) = Unit {0}
IsOver s = ⊥

missing_over : (l : Lookup) → l.aim ≡ aims.Report → (fault : Fault) → IsOver (no_bucket l fault)
missing_over l is fault = grind (arith, common_steps)

looked_over : (l : Lookup) → l.aim ≡ aims.Report → (a : PlainAnswer) → IsOver (table.after (looking l) a)
looked_over l is a = search (rules, go_on_leads, missing_over)

over_moves : (s : State) (moves : Moves) (r : Reply) → IsOver s → Runs s moves r → moves ≡ []
over_moves s [] r h run = refl
over_moves (over x) (m ∷ moves) r h run = absurd (let none : None ≡ Some m.0 = run.0 in cc)
over_moves s (m ∷ moves) r h run = absurd h

lookup_keeps : (t : Tree) (cache key : List ℕ) (moves : Moves) (r : Reply) → Runs (looking (record { cache = cache; key = key; aim = aims.Report })) moves r → tree_on t moves ≡ t
lookup_keeps t cache key [] r run = refl
lookup_keeps t cache key (m ∷ moves) r run =
    let l : Lookup = record { cache = cache; key = key; aim = aims.Report } in
    let is : m.0 ≡ steps.ReadAll (bucket_path cache key) = cc in
    let none = over_moves (table.after (looking l) m.1) moves r (looked_over l refl m.1) run.2 in
    ap (tree_on (apply t m.0 Plain).1) none ∙ ap (λ x. (apply t x Plain).1) is ∙ reading_keeps t (bucket_path cache key)

-- ---- errors without their messages

lookup_fails : (o : Option Found) (e : Error) → UnlessFailed (replies.LookedUp o) (plain_reply (replies.Refused (without_message e))) → FailsOnly (replies.Refused (without_message e))
lookup_fails o e h = grind (arith, common_steps)

-- how an opening by key ends: what was found is opened, the lookup was refused, or it found nothing
pub by_key : (cache base key : List ℕ) (old new : List LogItem) (P : Result PlainFile Error → Type 0) → ((r : Result PlainFile Error) → OpensWhatWasFound cache base key r (Some old) (Some new) → P r)
    → ((e : Error) → LookupRan cache base key (replies.Refused (without_message e)) (Some old) (Some new) → P (Err e))
    → ((c k : List ℕ) → c ≡ cache → k ≡ key → LookupRan cache base key (replies.LookedUp None) (Some old) (Some new) → P (Err (EntryNotFound c k)))
    → (r : Result PlainFile Error) → OpensByKey cache base key r (Some old) (Some new) → P r
by_key cache base key old new P found refused missing (Ok file) h = found (Ok file) h
by_key cache base key old new P found refused missing (Err (EntryNotFound c k)) h = missing c k h.0 h.1 h.2
by_key cache base key old new P found refused missing (Err e) h = elim h [ inl ran ↦ refused e ran | inr more ↦ found (Err e) more ]

-- ---- the opening of what a key leads to

module _ (cache base key : List ℕ) (old : List LogItem) (sound : IsCache cache old) where
  -- what is known of a lookup
  record Looked (r : Reply) (mid : List LogItem) : Type 0 where
    pub same : tree_of mid ≡ tree_of old
    pub grows : Grows old mid
    pub reply : UnlessFailed (replies.LookedUp (latest key (entries_on (home_of cache) (tree_of old) key))) (plain_reply r)
    pub known : Known cache base (commands.Find key) r old mid

  looked : (r : Reply) (mid : List LogItem) → plain_reply r ≡ r → LookupRan cache base key r (Some old) (Some mid) → IsLog mid → Looked r mid
  looked r mid plain ran logged =
      let c : Called cache (commands.Find key) r old mid = record { base = base; number = 0; ran = ran; plain = plain; logged = logged } in
      let k = known cache (commands.Find key) r old mid c tt tt sound in
      record {
        same = (logs_lead old mid ran.0 ran.2 logged).1 ∙ lookup_keeps (tree_of old) cache key ran.0 r ran.1;
        grows = gains_grow old mid ran.0 ran.2;
        reply = answered cache base (commands.Find key) (replies.LookedUp (latest key (entries_on (home_of cache) (tree_of old) key))) r old mid k refl;
        known = k;
      }

  module _ (new : List LogItem) where
    -- what is to be shown
    abbrev Result_of : Result PlainFile Error → Type 0
    Result_of r =
        LeavesKnownCache cache old new × ((i : List Hash) (bytes : List ℕ) → HasKey cache key i bytes old → GivesFile bytes r old new) × (LacksKey cache key old → GivesNone cache key r old new)

    refused : (e : Error) → LookupRan cache base key (replies.Refused (without_message e)) (Some old) (Some new) → IsLog new → Result_of (Err e)
    refused e ran logged =
        let l = looked (replies.Refused (without_message e)) new (ap replies.Refused (plain_error e)) ran logged in
        let fails = lookup_fails (latest key (entries_on (home_of cache) (tree_of old) key)) e l.reply in
        let excused = excused_error e old new (excuse cache base (commands.Find key) old new (λ fault none. none) (without_message e) l.known fails) in
        (leaves cache old new sound l.same l.grows, λ i bytes has. excused, λ lacks. inr excused)

    missing : (c k : List ℕ) → c ≡ cache → k ≡ key → LookupRan cache base key (replies.LookedUp None) (Some old) (Some new) → IsLog new → Result_of (Err (EntryNotFound c k))
    missing c k here mine ran logged =
        let l = looked (replies.LookedUp None) new refl ran logged in
        let none : None ≡ latest key (entries_on (home_of cache) (tree_of old) key) = cc in (
          leaves cache old new sound l.same l.grows,
          λ i bytes has. (let both : None ≡ Some has.found = none ∙ has.finds in absurd cc),
          λ lacks. inl (ap (λ x. EntryNotFound x k) here ∙ ap (EntryNotFound cache) mine),
        )

    later : (bytes : List ℕ) (r : Result PlainFile Error) (mid : List LogItem) → Grows old mid → GivesFile bytes r mid new → GivesFile bytes r old new
    later bytes (Ok file) mid g h = h
    later bytes (Err e) mid g h = excuses_last e old mid new g h

    found_at : (r : Result PlainFile Error) (found : Found) (mid : List LogItem) → LookupRan cache base key (replies.LookedUp (Some found)) (Some old) (Some mid)
        → OpensContent cache found.integrity r (Some mid) (Some new) → IsLog new → Result_of r
    found_at r found mid ran opens logged =
        let o = opened_by cache found.integrity r mid new opens in
        let more = gains_grow mid new o.moves o.gains in
        let l = looked (replies.LookedUp (Some found)) mid refl ran (log_front mid new (map (λ m. Made m.0 m.1) o.moves) (some_same new _ o.gains) logged) in
        let is : Some found ≡ latest key (entries_on (home_of cache) (tree_of old) key) = cc in
        let still = subst (IsSound (home_of cache)) (sym l.same) sound in (
          leaves cache old new sound (opened_keeps (content_path cache found.integrity) r mid new o logged ∙ l.same) (growths_join old mid new l.grows more),
          λ i bytes has. (
              let both : Some found ≡ Some has.found = is ∙ has.finds in
              let same : found ≡ has.found = cc in
              let content : HasContent cache found.integrity bytes mid
              = subst (λ j. HasContent cache j bytes mid) (sym (ap (λ (f : Found). f.integrity) same ∙ has.integrity)) (content_stays cache bytes i old mid (ap (value_of_tree (home_of cache)) l.same) has.content) in
              later bytes r mid l.grows (gives_file cache found.integrity bytes r mid new still o logged content)
              ),
          λ lacks. (let both : Some found ≡ None = is ∙ lacks in absurd cc),
        )

    found : (r : Result PlainFile Error) → OpensWhatWasFound cache base key r (Some old) (Some new) → IsLog new → Result_of r
    found r h logged =
        let mid = old ++ map (λ m. Made m.0 m.1) h.2.0 in
        found_at r h.0 mid (h.2.0, h.2.1, refl) (subst (λ x. OpensContent cache h.0.integrity r x (Some new)) h.2.2 h.3) logged

pub readers_open_key : ReadersOpenKey
readers_open_key cache base key r old new sound h logged =
    by_key cache base key old new (Result_of cache base key old sound new) (λ r found_it. found cache base key old sound new r found_it logged)
    (λ e ran. refused cache base key old sound new e ran logged) (λ c k here mine ran. missing cache base key old sound new c k here mine ran logged) r h
