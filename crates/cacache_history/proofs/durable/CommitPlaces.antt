-- A durable commit that had done nothing yet puts its content, and adds its entry, in the records that follow.
use Rattle.std.proofs.Common.{◌≡◌, ◌⊎◌, inl, inr, ◌≤◌, ℕ, true, List, [], ◌∷◌, ◌++◌, None, Some, Ok, length, take, refl, sym, ap, subst, ◌∙◌, append_assoc, arith, length-append}
use Rattle.cacache_core.specs.{declared.integrity.digest.Hash.{Hash}, Paths.{Names, names_of}}
use Rattle.cacache_store.specs.declared.store.plain.PlainTemp.{PlainTemp}
use Rattle.cacache_store.specs.declared.store.answer.Answer.TheVariants as answers
use Rattle.cacache_store.specs.declared.store.step.Step.TheVariants as steps
use Rattle.cacache_disk.specs.declared.luck.Luck.{Luck}
use Rattle.cacache_entry.{specs.{Entry.{Entry, line_of, closing, closed_line}, Bucket.{entries_of}, FittingEntries.{IsEntry, IsWritable}}, proofs.EntryCauses.{Fits-no_cause}}
use Rattle.cacache_calls.specs.{declared.{command.{Command.{Command}, Insert.{Insert}, Put.{Put}}, reply.Reply.{Reply, TheVariants.{Stored}}, carried.Commit.{Commit}}, Steps.{content_path, bucket_path}, State.{State, Insertion}, Inserting.{bucket_line, insertion, refused_cause}, Runs.{Moves, Runs, Goes}, Sound.{FormedIfWritten, MayBegin}, Storing.{insertion_of, put_commit, secured}, Table.{after, opening}}
use Rattle.cacache_calls.specs.declared.command.Command.TheVariants as commands
use Rattle.cacache_value.{specs.Acts.{PutBytes, AddEntries, Move}, proofs.MadeFolders.{whole_closed}}
use Rattle.cacache_history.specs.{declared.record.Record.{Record}, Setup.{call_site, is_outside, may_export}, History.{History, IsLegal, Made, Turn, now_at}, Turns.{made_in, EachTurn}, Commits.{Deed, does, finds, deeds, deeds_of}, durable.QuietMoves.{EndsFrom}}
use Rattle.cacache_history.proofs.{Contents.Carrying.{Makes, own_bytes, own_of}, Histories.Holding.{CallHolds, held_at, legal_after, of_caller}, durable.{Ending.{Has, PlaceOf, own_moves, own_runs, place_of}, CommitMoves.{Appends, Stores, inserted}, PutMoves.{Places, put_places, secures_found}}}

-- ---- the whole run of a call

pub goes_runs : (s t : State) (a b : Moves) (r : Reply) → Goes s a t → Runs t b r → Runs s (a ++ b) r
goes_runs s t [] b r goes run = subst (λ s. Runs s b r) (sym goes) run
goes_runs s t (m ∷ a) b r goes run = (goes.0, goes.1, goes_runs (after s m.1) t a b r goes.2 run)

-- a move that isn't among the first ones is among the others
in_rest : (first rest front : Moves) (m : Made) (more : Moves) → (Has m first → ⊥) → first ++ rest ≡ front ++ m ∷ more → (later : Moves) × (rest ≡ later ++ m ∷ more)
in_rest [] rest front m more none e = (front, e)
in_rest (x ∷ first) rest [] m more none e = let same : x ≡ m = cc in absurd (none (inl same))
in_rest (x ∷ first) rest (y ∷ front) m more none e = let next : first ++ rest ≡ front ++ m ∷ more = cc in in_rest first rest front m more (λ h. none (inr h)) next

-- ---- moves that do something

both_nil : (a b : List Deed) → a ++ b ≡ [] → (a ≡ []) × (b ≡ [])
both_nil [] b e = (refl, e)
both_nil (d ∷ a) b e = absurd cc

-- a turn made this move
abbrev IsTurn : Made → Turn → Type 0
IsTurn m turn = (turn.move.step, turn.move.answer) ≡ m

none_among : (P : Turn → Type 0) (m : Made) → ((turn : Turn) → P turn → IsTurn m turn → deeds_of turn.move ≡ [] → ⊥) → (turns : List Turn) → EachTurn P turns
    → deeds turns ≡ [] → Has m (made_in turns) → ⊥
none_among P m acts [] each none h = h
none_among P m acts (turn ∷ turns) each none (inl e) = acts turn each.0 e (both_nil (deeds_of turn.move) (deeds turns) none).0
none_among P m acts (turn ∷ turns) each none (inr h) = none_among P m acts turns each.1 (both_nil (deeds_of turn.move) (deeds turns) none).1 h

-- a move with this luck
abbrev lucky : Turn → Made → Move
lucky turn m = record { step = m.0; luck = turn.move.luck; answer = m.1 }

nothing_done : (turn : Turn) (m : Made) (d : Deed) (ds : List Deed) → IsTurn m turn → deeds_of (lucky turn m) ≡ d ∷ ds → deeds_of turn.move ≡ [] → ⊥
nothing_done turn m d ds e did none =
    let no : d ∷ ds ≡ [] = sym did ∙ sym (ap (λ (m : Made). deeds_of (lucky turn m)) e) ∙ none in absurd cc

put_deeds : (luck : Luck) (path bytes : List ℕ) (names : Names) (f : PlainTemp) → names_of path ≡ Ok names → f.bytes ≡ Some bytes
    → deeds_of (record { step = steps.Persist f path; luck = luck; answer = answers.Done }) ≡ does (PutBytes names bytes) ∷ []
put_deeds luck path bytes names f is has = rw (is, has) refl

module _ (turn : Turn) (path : List ℕ) where
  -- a file that is put
  puts : (bytes place : List ℕ) (names : Names) (f : PlainTemp) → names_of path ≡ Ok names → Makes (own_bytes bytes place) turn.move.step
      → IsTurn (steps.Persist f path, answers.Done) turn → deeds_of turn.move ≡ [] → ⊥
  puts bytes place names f is makes e none =
      let m : Makes (own_bytes bytes place) (steps.Persist f path) = subst (Makes (own_bytes bytes place)) (ap (λ (m : Made). m.0) e) makes in
      nothing_done turn (steps.Persist f path, answers.Done) (does (PutBytes names m.0.0)) [] e (put_deeds turn.move.luck path m.0.0 names f is m.0.1) none

  -- one that is found
  finds_it : IsTurn (steps.Exists path, answers.There true) turn → deeds_of turn.move ≡ [] → ⊥
  finds_it e none = nothing_done turn (steps.Exists path, answers.There true) (finds path) [] e refl none

  -- a line that is taken whole
  adds : (entry : Entry) (names : Names) → names_of path ≡ Ok names → IsEntry entry → IsWritable entry
      → IsTurn (steps.Append path (closed_line true entry), answers.Took (length (closed_line true entry))) turn → deeds_of turn.move ≡ [] → ⊥
  adds entry names is formed fits e none =
      let long : length (line_of entry) ≤ length (closed_line true entry) = omega (arith, length-append (line_of entry) (closing true)) in
      let one : entries_of (take (length (closed_line true entry)) (closed_line true entry)) ≡ entry ∷ [] = whole_closed true entry (length (closed_line true entry)) formed fits long in
      nothing_done turn (steps.Append path (closed_line true entry), answers.Took (length (closed_line true entry))) (does (AddEntries names (entry ∷ []))) [] e (rw (is, one) refl) none

-- an entry that isn't refused fits
pub written_fits : (j : Insertion) → IsEntry j.entry → refused_cause j ≡ None → IsWritable j.entry
unfolding refused_cause
written_fits j formed written = Fits-no_cause j.entry formed written

-- the line of a durable insertion is closed
pub line_is : (j : Insertion) → j.durable ≡ true → bucket_line j ≡ closed_line true j.entry
unfolding bucket_line
line_is j durable = ap (λ b. closed_line b j.entry) durable

-- ---- the places

-- the content of a commit comes to its place
abbrev pub IsPut : Commit → Made → Type 0
IsPut c made = (f : PlainTemp) × (made ≡ (steps.Persist f (content_path c.cache c.computed), answers.Done))

-- or is synced there
abbrev pub IsSynced : Commit → Made → Type 0
IsSynced c made = made ≡ (steps.SyncFile (content_path c.cache c.computed), answers.Done)

-- one of these moves does so, and then the commit goes on
pub record Secures (i : List Hash) (c : Commit) (moves : Moves) : Type 0 where
  pub front : Moves
  pub made : Made
  pub more : Moves
  pub is : moves ≡ front ++ made ∷ more
  pub puts : IsPut c made ⊎ IsSynced c made
  pub runs : Stores i (secured c) more

module _ (h : History) (legal : IsLegal h) (before rest : List Record) (is : h.records ≡ before ++ rest) (i : List Hash) where
  module _ (command : Command) (ends : EndsFrom h before rest command (Stored i)) where
    -- the call's moves from here on
    abbrev pub own : Moves
    own = own_moves ends.caller rest

    -- this place in the records
    abbrev pub AtPlace : Made → Moves → Type 0
    AtPlace made more = PlaceOf h.setup ends.caller (Stored i) (now_at h before) rest ends.call made more

    pub holds : CallHolds h.setup ends.call
    holds = of_caller h.setup ends.call _ ends.is ((held_at h legal before rest is).calls ends.caller)

    whole : Stores i (opening (call_site h.setup ends.call.number) command) (made_in ends.call.turns ++ own)
    whole =
        subst (λ c. Stores i (opening (call_site h.setup ends.call.number) c) (made_in ends.call.turns ++ own)) ends.command_is
        (goes_runs (opening (call_site h.setup ends.call.number) ends.call.command) ends.call.state (made_in ends.call.turns) own (Stored i) holds.goes
        (own_runs h.setup ends.caller (Stored i) (now_at h before) rest ends.call (legal_after h legal before rest is) ends.is ends.ends))

    pub place_in : (front : Moves) (made : Made) (more : Moves) → own ≡ front ++ made ∷ more → AtPlace made more
    place_in front made more e = place_of h.setup ends.caller (Stored i) (now_at h before) rest ends.call front made more (legal_after h legal before rest is) ends.is ends.ends e

    -- what does something is made from here on
    later_made : (P : Turn → Type 0) (front : Moves) (m : Made) (more : Moves) → ((turn : Turn) → P turn → IsTurn m turn → deeds_of turn.move ≡ [] → ⊥)
        → EachTurn P ends.call.turns → made_in ends.call.turns ++ own ≡ front ++ m ∷ more → (later : Moves) × (own ≡ later ++ m ∷ more)
    later_made P front m more acts each e = in_rest (made_in ends.call.turns) own front m more (none_among P m acts ends.call.turns each ends.nothing) e

  -- ---- a put

  module _ (p : Put) (durable : p.options.durable ≡ true) (names : Names) (ends : EndsFrom h before rest (commands.Put p) (Stored i)) where
    abbrev pub commit : Commit
    commit = put_commit h.setup.cache p

    module _ (named : names_of (content_path commit.cache commit.computed) ≡ Ok names) where
      put_makes : EachTurn (λ turn. Makes (own_bytes p.data (content_path commit.cache commit.computed)) turn.move.step) ends.call.turns
      put_makes =
          subst (λ command. EachTurn (λ turn. Makes (own_of (call_site h.setup ends.call.number) command) turn.move.step) ends.call.turns) ends.command_is
          (holds (commands.Put p) ends).makes

      secures_in : Places i commit (made_in ends.call.turns ++ own (commands.Put p) ends) → Secures i commit (own (commands.Put p) ends)
      secures_in places =
          elim places.puts [
            | inl put ↦
                let later = later_made (commands.Put p) ends (λ turn. Makes (own_bytes p.data (content_path commit.cache commit.computed)) turn.move.step) places.front places.move places.more
                (λ turn makes e. puts turn (content_path commit.cache commit.computed) p.data (content_path commit.cache commit.computed) names put.0.0 named makes (e ∙ put.0.1))
                put_makes places.is in
                record { front = later.0; made = places.move; more = places.more; is = later.1; puts = inl put.0; runs = put.1 }
            | inr found ↦
                let later = later_made (commands.Put p) ends (λ turn. Makes (own_bytes p.data (content_path commit.cache commit.computed)) turn.move.step) places.front places.move places.more
                (λ turn makes e. finds_it turn (content_path commit.cache commit.computed) (e ∙ found.0)) put_makes places.is in
                let sync = secures_found i commit durable places.more found.1 in
                record {
                  front = later.0 ++ places.move ∷ [];
                  made = (steps.SyncFile (content_path commit.cache commit.computed), answers.Done);
                  more = sync.0;
                  is = later.1 ∙ ap (λ more. later.0 ++ places.move ∷ more) sync.1 ∙ sym (append_assoc later.0 (places.move ∷ []) _);
                  puts = inr refl;
                  runs = sync.2;
                }
          ]

      -- its entry, if it is written, is one
      pub put_formed : (key : List ℕ) → p.key ≡ Some key → FormedIfWritten (insertion_of commit key)
      put_formed =
          subst (λ command. MayBegin (call_site h.setup ends.call.number) (may_export h.setup) (is_outside h.setup) command) ends.command_is (holds (commands.Put p) ends).may

      pub put_secures : Secures i commit (own (commands.Put p) ends)
      put_secures = secures_in (put_places i (call_site h.setup ends.call.number) p (made_in ends.call.turns ++ own (commands.Put p) ends) (whole (commands.Put p) ends))

  -- ---- an insertion

  module _ (n : Insert) (durable : n.options.durable ≡ true) (names : Names) (ends : EndsFrom h before rest (commands.Insert n) (Stored i)) where
    abbrev pub inserts : Insertion
    inserts = insertion h.setup.cache n

    -- an entry that is written is one
    pub insert_formed : FormedIfWritten inserts
    insert_formed =
        subst (λ command. MayBegin (call_site h.setup ends.call.number) (may_export h.setup) (is_outside h.setup) command) ends.command_is (holds (commands.Insert n) ends).may

    pub insert_appends : names_of (bucket_path inserts.cache inserts.entry.key) ≡ Ok names → Appends i inserts (own (commands.Insert n) ends)
    insert_appends named =
        let a = inserted i inserts durable (made_in ends.call.turns ++ own (commands.Insert n) ends) (whole (commands.Insert n) ends) in
        let formed = insert_formed a.written in
        let later = later_made (commands.Insert n) ends (λ turn. Unit {0}) a.front _ a.more
        (λ turn any e. adds turn (bucket_path inserts.cache inserts.entry.key) inserts.entry names named formed (written_fits inserts formed a.written)
        (e ∙ ap (λ line. (steps.Append (bucket_path inserts.cache inserts.entry.key) line, answers.Took (length line))) (line_is inserts durable)))
        (each_any ends.call.turns) a.is in
        record { front = later.0; more = a.more; is = later.1; written = a.written; file = a.file; dirs = a.dirs }
      where
        each_any : (turns : List Turn) → EachTurn (λ turn. Unit {0}) turns
        each_any [] = tt
        each_any (turn ∷ turns) = (tt, each_any turns)
