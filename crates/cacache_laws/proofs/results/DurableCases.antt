-- A put alone, and what followed it elsewhere: nothing is appended to its bucket after its entry.
-- Histories of one durable commit, on a disk that holds nothing.
use Rattle.std.proofs.{lemmas.Grind.{common_steps}, Common.{rules, ◌≡◌, inl, inr, ℕ, Bool, true, false, List, [], ◌∷◌, ◌++◌, Option, None, Some, Result, Ok, Err, refl, sym, subst, append-nil, codes, ap, ◌∙◌, arith}}
use Rattle.cacache_core.specs.{Paths.{Names, names_of, bucket_names, content_names, temp_names}, declared.integrity.digest.Hash.{Hash}}
use Rattle.cacache_store.specs.Plain.{PlainStep, PlainAnswer}
use Rattle.cacache_disk.{specs.{declared.luck.Luck.TheVariants.{Plain}, Tree.{Tree, bare}}, proofs.Roots.{bare_below}}
use Rattle.cacache_entry.{specs.Entry.{Entry}, proofs.EntryCauses.{no_cause_is_fit}}
use Rattle.cacache_calls.specs.{Answers.{done_in, there_in}, Effects.{Commits, Effect, Indexes, effect, effects_of, if_done, if_there, sent, stored}, Runs.{Moves, Goes}, declared.{answers.Refusal.{Refusal}, carried.Commit.{Commit}, reply.Reply.{Reply, TheVariants.{Stored}}, command.{Command.{Command}, Put.{Put}}}, Inserting.{insert, insertion, refused_cause, unless_refused}, State.{State, over, Insertion}, Steps.{bucket_folder, temp_folder}, Storing.{insertion_of, put_commit}, Sound.{MayBegin}, Table.{opening, wants}}
use Rattle.cacache_calls.proofs.{Effects.{puts_commit}, Going.{goes_over}}
use Rattle.cacache_history.specs.{History.{Made, Call, History, IsLegal, NamesIntegrity, Now, initial, new_call, replayed}, Values.{steps_of, value_at}, declared.record.Record.{Record, TheVariants.{Began, Moved, Stopped}}, durable.{Behind.{NoneAppends, appends_at}, Outlasting.{IsAppendOf, DurablePut, IsNoLink}, QuietMoves.{CallEndsWith, EndsFrom, AreQuiet, IsQuietMove, PutsDurably}}, AddedEntries.{address_of_put}, Setup.{Setup, call_site, home, is_outside, may_export}}
use Rattle.cacache_laws.proofs.{results.SureResults.{records_of, quiet_more, records_end, records_legal, records_quiet}, Sure.{SureInserts.{Inserted, inserts_so}, SurePlays.{Plays}, SurePuts.{PutSo, puts_so}, SureRuns.{Ground}, SureTemps.{own_temporary_at}}, trees.Covering.{home_named}}
use Rattle.cacache_laws.specs.{Sequence.{AreAnswered}, Succeeds.{compared_reply, insertion_reply, keyed_reply, put_reply, sized_reply, unless_unwritable}, results.{DurableCases.{CanBeWritten, GoElsewhere, InsertsStandInOne, IsLastPut, PutsStandInOne, PutsStandLast, StandsIn, StoresDurably}, Losses.{entry_written}}}
use Rattle.cacache_value.{specs.{Placed.{IsOpening, Placed}, Value.{AtLink, Value}}, proofs.OpeningTrees.{files_open}}
use Rattle.cacache_store.specs.declared.store.step.Step.TheVariants as steps
use Rattle.cacache_calls.specs.declared.command.Command.TheVariants as commands

-- ---- effects

-- nothing is done after a line was sent
abbrev SendsLast : List Effect → Type 0
SendsLast [] = Unit {0}
SendsLast (sent path line t ∷ later) = later ≡ []
SendsLast (other ∷ later) = SendsLast later

-- so it is with a commit
pub commits_last : (c : Commit) (effects : List Effect) (r : Reply) → Commits c effects r → SendsLast effects
commits_last c effects r h = grind (arith, common_steps)

module _ (P : List Effect → Type 0) (path : List ℕ) (later : List Effect) where
  -- what holds of a step's effects holds of those after it, if it is so when the step has one
  if_was_done : (a : Result (Unit {0}) Refusal) → (P (stored path ∷ later) → P later) → P (if_done a (stored path) later) → P later
  if_was_done a k h = grind (arith, common_steps)

  if_was_there : (a : Result Bool Refusal) → (P (stored path ∷ later) → P later) → P (if_there a (stored path) later) → P later
  if_was_there a k h = grind (arith, common_steps)

-- after a step
last_after : (step : PlainStep) (a : PlainAnswer) (later : List Effect) → SendsLast (effect step a later) → SendsLast later
last_after step a later h = grind (arith, if_was_done, if_was_there)

-- if a step and those after it have no effect, those after it have none
none_after : (step : PlainStep) (a : PlainAnswer) (later : List Effect) → effect step a later ≡ [] → later ≡ []
none_after step a later e = grind (arith, if_was_done, if_was_there)

-- and it appends nothing
none_appended : (path : Names) (step : PlainStep) (a : PlainAnswer) (later : List Effect) → effect step a later ≡ [] → appends_at step path ≡ false
none_appended path step a later e = grind (arith, common_steps)

-- ---- records

module _ (path : Names) (tail : List Record) (none : NoneAppends path (steps_of tail)) where
  -- if none of the records appends, none after one of them does
  none_behind : (records : List Record) (append : Record) (later : List Record) → NoneAppends path (steps_of (records ++ append ∷ later)) → NoneAppends path (steps_of later)
  none_behind [] (Moved caller luck (Some m) told) later h = h.1
  none_behind (Began caller command ∷ records) append later h = none_behind records append later h
  none_behind (Moved caller luck None told ∷ records) append later h = none_behind records append later h
  none_behind (Moved caller luck (Some m) told ∷ records) append later h = none_behind records append later h.1
  none_behind (Stopped caller ∷ records) append later h = none_behind records append later h
  none_behind records append later h = h

  none_more : (m : Made) (more : Moves) (reply : Reply) → effects_of (m ∷ more) ≡ [] → NoneAppends path (steps_of (records_of m more reply ++ tail))
  none_more m [] reply e = (none_appended path m.0 m.1 [] e, none)
  none_more m (n ∷ more) reply e =
      (none_appended path m.0 m.1 (effects_of (n ∷ more)) e, none_more n more reply (none_after m.0 m.1 (effects_of (n ∷ more)) e))

  -- after the append of an entry
  pub none_last : (m : Made) (more : Moves) (reply : Reply) (caller : ℕ) (cache key : List ℕ) (entry : Entry) → SendsLast (effects_of (m ∷ more))
      → (between : List Record) (append : Record) (later : List Record) → records_of m more reply ++ tail ≡ between ++ append ∷ later → IsAppendOf caller cache key entry append → NoneAppends path (steps_of later)
  none_last m [] reply caller cache key entry last [] append later e is =
      let same : tail ≡ later = cc in
      subst (λ (l : List Record). NoneAppends path (steps_of l)) same none
  none_last m [] reply caller cache key entry last (b ∷ between) append later e is =
      let same : tail ≡ between ++ append ∷ later = cc in
      none_behind between append later (subst (λ (l : List Record). NoneAppends path (steps_of l)) same none)
  none_last m (n ∷ more) reply caller cache key entry last [] append later e is =
      let same : records_of n more reply ++ tail ≡ later = cc in
      let first : Moved 0 Plain (Some m) None ≡ append = cc in
      let made = subst (IsAppendOf caller cache key entry) (sym first) is in
      let nothing = subst (λ (x : PlainStep). SendsLast (effect x m.1 (effects_of (n ∷ more)))) made.1 last in
      subst (λ (l : List Record). NoneAppends path (steps_of l)) same (none_more n more reply nothing)
  none_last m (n ∷ more) reply caller cache key entry last (b ∷ between) append later e is =
      let same : records_of n more reply ++ tail ≡ between ++ append ∷ later = cc in
      none_last n more reply caller cache key entry (last_after m.0 m.1 (effects_of (n ∷ more)) last) between append later same is

-- the moves of a call that makes one
record Moving (s : State) (r : Reply) : Type 0 where
  first : Made
  more : Moves
  run : Goes s (first ∷ more) (over r)
  answered : AreAnswered bare (first ∷ more)

moving : (Q : Tree → Reply → Type 0) (s : State) (r : Reply) (step : PlainStep) → wants s ≡ Some step → ((t : Tree) (x : Reply) → Q t x → x ≡ r) → Plays Q bare s → Moving s r
moving Q s r step want says ([], x, run, answered, q) = let no : Some step ≡ None = sym want ∙ ap wants run in absurd cc
moving Q s r step want says (m ∷ more, x, run, answered, q) = search rules

abbrev setup_of : List ℕ → Setup
setup_of cache = record { cache = cache; base = codes "/"; outside = []; callers = 1 }

opens : (cache : List ℕ) → IsOpening (home (setup_of cache)) bare
opens cache = files_open (home (setup_of cache)) [] bare tt refl

ground : (cache : List ℕ) (folder : Names) → names_of cache ≡ Ok folder → Ground folder bare
ground cache folder is = record { placed = subst (λ h. Placed h bare) (home_named cache folder is) (opens cache).placed; rooted = (opens cache).rooted }

-- a command that may begin there
abbrev MayStart : List ℕ → Command → Type 0
MayStart cache command = MayBegin (call_site (setup_of cache) 0) (may_export (setup_of cache)) (is_outside (setup_of cache)) command

module _ (cache : List ℕ) (i : List Hash) (command : Command) (m : Moving (opening (call_site (setup_of cache) 0) command) (Stored i)) where
  abbrev rest : List Record
  rest = records_of m.first m.more (Stored i)

  -- the call begins, and these records follow
  abbrev begins_with : List Record → History
  begins_with records = record { setup = setup_of cache; records = Began 0 command ∷ records }

  abbrev begun : Now
  begun = replayed (setup_of cache) (initial (setup_of cache)) (Began 0 command ∷ [])

  abbrev call : Call
  call = new_call (setup_of cache) 0 command

  alone_legal : MayStart cache command → NamesIntegrity command → IsLegal (begins_with rest)
  alone_legal may named = record {
    apart = tt;
    opens = refl;
    legal = ((omega arith, refl, may, named), records_legal (setup_of cache) i begun call m.first m.more refl m.run m.answered);
  }

  ends_in : (records : List Record) → CallEndsWith 0 (Stored i) records → EndsFrom (begins_with records) (Began 0 command ∷ []) records command (Stored i)
  ends_in records ends = record { caller = 0; call = call; is = refl; command_is = refl; nothing = refl; ends = ends }

  alone_ends : EndsFrom (begins_with rest) (Began 0 command ∷ []) rest command (Stored i)
  alone_ends = ends_in rest (subst (CallEndsWith 0 (Stored i)) (append-nil rest) (records_end (setup_of cache) i m.first m.more []))

  alone_quiet : (path : Names) → ((call : Call) (m : Made) → call.command ≡ command → IsQuietMove path (Some call) (Some m)) → AreQuiet (setup_of cache) path begun rest
  alone_quiet path quiet = records_quiet (setup_of cache) i command path quiet begun call m.first m.more refl refl

no_links : (cache : List ℕ) (command : Command) (records : List Record) (address : Hash) → IsNoLink address (value_at (record { setup = setup_of cache; records = records }) (Began 0 command ∷ []))
no_links cache command records address target e = let none : None ≡ Some (AtLink target) = sym (ap (λ (v : Value). v.contents address) (opens cache).nothing) ∙ e in absurd cc

-- ---- the laws

puts_durably : (content : Names) (p : Put) (step : PlainStep) → p.options.durable ≡ true → PutsDurably content (commands.Put p) step
puts_durably content p step durable = grind (arith, common_steps)

no_cause : (j : Insertion) → CanBeWritten j.entry → refused_cause j ≡ None
unfolding refused_cause
no_cause j can = (no_cause_is_fit j.entry can.0).1 can.1

wants_some : (j : Insertion) → CanBeWritten j.entry → wants (insert j) ≡ Some (steps.MakeDirs (bucket_folder j.cache j.entry.key))
wants_some j can = ap (λ o. wants (unless_refused j o)) (no_cause j can)

is_done : (j : Insertion) → CanBeWritten j.entry → insertion_reply j ≡ j.reply
is_done j can = ap (unless_unwritable j.reply) (no_cause j can)

pub inserts_stand : InsertsStandInOne
inserts_stand cache folder n is durable can =
    let j = insertion cache n in
    let Q = Inserted j folder is bare (ground cache folder is) (insertion_reply j) in
    let m = moving Q (insert (insertion cache n)) j.reply _ (wants_some j can) (λ t x h. h.0 ∙ is_done j can) (inserts_so j folder is bare (ground cache folder is)) in (
      begins_with cache _ (commands.Insert n) m (rest cache _ (commands.Insert n) m),
      refl,
      alone_legal cache _ (commands.Insert n) m (λ written. can.0) tt,
      record {
        before = Began 0 (commands.Insert n) ∷ [];
        rest = rest cache _ (commands.Insert n) m;
        is = refl;
        durable = durable;
        reply = j.reply;
        call = alone_ends cache _ (commands.Insert n) m;
        stored = (_, refl);
        quiet = alone_quiet cache _ (commands.Insert n) m [] (λ call made e. rw e (refl, tt));
      },
    )

-- a durable put that expects nothing
module _ (cache : List ℕ) (folder : Names) (p : Put) (is : names_of cache ≡ Ok folder) (durable : p.options.durable ≡ true) (no_integrity : p.options.integrity ≡ None) (no_size : p.options.size ≡ None)
    (writable : (key : List ℕ) → p.key ≡ Some key → CanBeWritten (insertion_of (put_commit cache p) key).entry) where
  abbrev own : List Hash
  own = (put_commit cache p).computed

  abbrev path : Names
  path = folder ++ content_names (address_of_put p)

  keyed : (key : Option (List ℕ)) → p.key ≡ key → keyed_reply (put_commit cache p) key ≡ Stored own
  keyed key e = grind (arith, is_done)

  -- it is stored
  is_stored : put_reply cache p ≡ Stored own
  is_stored = ap (compared_reply (put_commit cache p)) no_integrity ∙ ap (sized_reply (put_commit cache p)) no_size ∙ keyed p.key refl

  put_moves : Moving (opening (call_site (setup_of cache) 0) (commands.Put p)) (Stored own)
  put_moves =
      let Q = PutSo cache folder is p (folder ++ temp_names 0) (own_temporary_at cache folder is 0) (put_reply cache p) in
      let plays = puts_so cache folder is p 0 (codes "/") bare (ground cache folder is) (bare_below folder _ _) in
      moving Q (opening (call_site (setup_of cache) 0) (commands.Put p)) (Stored own) (steps.MakeDirs (temp_folder cache)) refl (λ t x h. h.0 ∙ is_stored) plays

  abbrev put_rest : List Record
  put_rest = rest cache own (commands.Put p) put_moves

  put_alone_quiet : AreQuiet (setup_of cache) path (begun cache own (commands.Put p) put_moves) put_rest
  put_alone_quiet = alone_quiet cache own (commands.Put p) put_moves path (λ call made e. rw e (refl, puts_durably path p made.0 durable))

  -- it is in such a history if its records are among these
  abbrev put_in : (records : List Record) → EndsFrom (begins_with cache own (commands.Put p) put_moves records) (Began 0 (commands.Put p) ∷ []) records (commands.Put p) (Stored own)
      → AreQuiet (setup_of cache) path (begun cache own (commands.Put p) put_moves) records → DurablePut (begins_with cache own (commands.Put p) put_moves records) folder p
  put_in records ends quiet = record {
    answered = record {
      before = Began 0 (commands.Put p) ∷ [];
      rest = records;
      is = refl;
      durable = durable;
      reply = own;
      call = ends;
      quiet = quiet;
    };
    no_link = λ found. no_links cache (commands.Put p) (Began 0 (commands.Put p) ∷ records) (address_of_put p);
  }

  put_legal : IsLegal (begins_with cache own (commands.Put p) put_moves put_rest)
  put_legal = alone_legal cache own (commands.Put p) put_moves (λ key keyed written. (writable key keyed).0) tt

  put_stands : StandsIn cache (λ h. DurablePut h folder p)
  put_stands = (begins_with cache own (commands.Put p) put_moves put_rest, refl, put_legal, put_in put_rest (alone_ends cache own (commands.Put p) put_moves) put_alone_quiet)

  -- and it is the last of its bucket, whatever goes elsewhere after it
  put_last : (key : List ℕ) → StoresDurably cache key p → (more : List Record) → GoElsewhere (begins_with cache own (commands.Put p) put_moves put_rest) folder key p more
      → IsLastPut (begins_with cache own (commands.Put p) put_moves (put_rest ++ more)) folder key p
  put_last key stores more elsewhere =
      let ends = ends_in cache own (commands.Put p) put_moves (put_rest ++ more) (records_end (setup_of cache) own put_moves.first put_moves.more more) in
      let quiet = quiet_more (setup_of cache) path (begun cache own (commands.Put p) put_moves) put_rest more put_alone_quiet elsewhere.quiet in
      let site = call_site (setup_of cache) 0 in
      let moves = put_moves.first ∷ put_moves.more in
      let commits = puts_commit site p moves (Stored own) (goes_over (opening site (commands.Put p)) moves (Stored own) put_moves.run) in
      record {
        here = home_named cache folder is;
        stores = stores;
        put = put_in (put_rest ++ more) ends quiet;
        last = none_last (folder ++ bucket_names key) more elsewhere.none put_moves.first put_moves.more (Stored own) _ cache key (entry_written cache key p) (commits_last (put_commit cache p) (effects_of moves) (Stored own) commits);
      }

pub puts_stand : PutsStandInOne
puts_stand cache folder p is durable no_integrity no_size writable = put_stands cache folder p is durable no_integrity no_size writable

-- what holds of the put's key holds of each that it has
of_key : (P : List ℕ → Type 0) (p : Put) (key other : List ℕ) → p.key ≡ Some key → p.key ≡ Some other → P key → P other
of_key P p key other is also h =
    let both : Some key ≡ Some other = sym is ∙ also in
    let same : key ≡ other = cc in
    subst P same h

pub puts_stand_last : PutsStandLast
puts_stand_last cache folder key p is stores =
    let writable : (other : List ℕ) → p.key ≡ Some other → CanBeWritten (insertion_of (put_commit cache p) other).entry
    = λ other also. of_key (λ (k : List ℕ). CanBeWritten (insertion_of (put_commit cache p) k).entry) p key other stores.keyed also stores.written in (
      begins_with cache _ (commands.Put p) (put_moves cache folder p is stores.durable stores.no_integrity stores.no_size writable) (put_rest cache folder p is stores.durable stores.no_integrity stores.no_size writable),
      refl,
      put_legal cache folder p is stores.durable stores.no_integrity stores.no_size writable,
      put_last cache folder p is stores.durable stores.no_integrity stores.no_size writable key stores,
    )
