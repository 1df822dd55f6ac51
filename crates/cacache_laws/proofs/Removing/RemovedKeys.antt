-- What the removal of a key with its content leaves in a cache.
-- What removals and clearings leave.
use Rattle.std.proofs.{Common.{rules, ◌≡◌, ◌⊎◌, inl, inr, ℕ, List, [], ◌∷◌, ◌++◌, Option, None, Some, option_map, refl, sym, ap, subst, ◌∙◌, arith}, lemmas.List.Elements.{All-head}}
use Rattle.std.specs.Prelude.{◌^◌, ◌<◌, IsUtf8, IfSome}
use Rattle.cacache_laws.specs.{Caches.{IsExcused, Called, IsCache, LacksKey, lies_under, setup_at, Empties, ClearingsEmpty}, Beside.{found_under}, ReadAnswers.{entries_on}, Removed.{LeadsThere, KeepsApartFrom}, Sequence.{AreAnswered, after_deeds, turns_on}}
use Rattle.cacache_laws.proofs.{Putting.{Puts.{follows_of}, Stored.{deletes_add, bare_written}}, Readings.{Known.{Known, known, excuse}, ReadAnswers.{reading_keeps}, Looks.{finds_last}}, Removing.{Removed.{IsRefused, LastRemoval, Ends, Says, removed_at, refused_run, removal, last_removal, then_deeds, cut_contents, uncut_buckets, cut_buckets, uncut_contents, bucket_gone, nowhere, says}, Emptied.{clears_all}}, Calls.CallErrors.{calls_fail_only}}
use Rattle.sha1.specs.Sha1.{sha1}
use Rattle.cacache_core.specs.{declared.{errors.Error.{TheVariants.{IoError, OutOfMemory, EntryNotFound, SizeMismatch, SerdeError, IntegrityError}, Error}, integrity.digest.Hash.{Hash}}, Integrity.{IsHash, IsIntegrity, address}, Paths.{names_of, names_below, home_of, content_names, bucket_names_of}}
use Rattle.cacache_store.specs.{declared.store.log.LogItem.{LogItem}, Plain.{PlainStep, PlainAnswer}}
use Rattle.cacache_disk.specs.{declared.luck.Luck.TheVariants.{Plain}, Apply.{apply}, Tree.{Tree, Rooted}, Replay.{tree_of}}
use Rattle.cacache_entry.specs.Bucket.{entries_of, Found, latest}
use Rattle.cacache_calls.specs.{declared.{reply.Reply.{Reply}, command.Delete.{Delete}}, Reading.{found_in}, Removing.{remove_bucket, remove_found}, Replies.{bucket_shown}, Runs.{Moves, Runs, plain_reply}, State.{over}, Steps.{bucket_path, content_path}, Table.{opening}, Promises.{HasCause, own_of, OfWalk, Faulted, Only}, Inserting.{deletion, refused_cause}}
use Rattle.cacache_calls.proofs.Promises.{calls_answer}
use Rattle.cacache_value.specs.{Acts.{act_of, list_of}, Value.{Value, value_of_tree}}
use Rattle.cacache_history.specs.{Commits.{deeds, deeds_of_act, finds_in}, History.{turn_of}, Setup.{call_site}, Turns.{bucket_read}}
use Rattle.cacache_history.proofs.{Histories.{Holding.{TurnHolds}, ShownTurns.{bucket_at_turn, bucket_below, content_below}}, Entries.Spelled.{latest_has}}
use Rattle.cacache_core.specs.declared.errors.Fault.TheVariants as faults
use Rattle.cacache_store.specs.declared.store.answer.Answer.TheVariants as answers
use Rattle.cacache_store.specs.declared.store.step.Step.TheVariants as steps
use Rattle.cacache_calls.specs.declared.command.Command.TheVariants as commands
use Rattle.cacache_calls.specs.declared.reply.Reply.TheVariants as replies

-- ---- values

-- the found entry leads to this address
abbrev LedTo : Option Found → Hash → Type 0
LedTo o a = (f : Found) × (o ≡ Some f) × (address f.integrity ≡ Some a)

module _ (cache key : List ℕ) (o : Option Found) (v : Value) where
  -- buckets stay, and contents except the one that was led to
  record ContentCut (w : Value) : Type 0 where
    pub contents : (a : Hash) → IsHash a → (w.contents a ≡ v.contents a) ⊎ (LedTo o a × (w.contents a ≡ None))
    pub buckets : (d : List ℕ) → w.buckets d ≡ v.buckets d

  -- so do buckets except the key's
  record KeyCut (w : Value) : Type 0 where
    pub contents : (a : Hash) → IsHash a → (w.contents a ≡ v.contents a) ⊎ (LedTo o a × (w.contents a ≡ None))
    pub buckets : (other : List ℕ) → (w.buckets (sha1 other) ≡ v.buckets (sha1 other)) ⊎ ((sha1 other ≡ sha1 key) × (w.buckets (sha1 other) ≡ None))

  abbrev bucket_place : List ℕ
  bucket_place = bucket_path cache key

  bucket_place_below : names_of bucket_place ≡ names_below (home_of cache) (bucket_names_of (sha1 key))
  bucket_place_below = bucket_below (setup_at cache []) key

  uncut : ContentCut v
  uncut = record { contents = λ a is. inl refl; buckets = λ d. refl }

  content_cut : (w : Value) → ContentCut w → KeyCut w
  content_cut w h = record { contents = h.contents; buckets = λ other. inl (h.buckets (sha1 other)) }

  key_cut : (w : Value) → ContentCut w → KeyCut (after_deeds (home_of cache) (removed_at bucket_place) w)
  key_cut w h = record {
    contents = λ a is.
        let same = uncut_contents cache bucket_place w key bucket_place_below a in
        elim (h.contents a is) [
          | inl stays ↦ inl (same ∙ stays)
          | inr gone ↦ inr (gone.0, same ∙ gone.1)
        ];
    buckets = λ other.
        elim (cut_buckets cache bucket_place w key bucket_place_below other) [
          | inl stays ↦ inl (stays ∙ h.buckets (sha1 other))
          | inr gone ↦ inr gone
        ];
  }

  -- what is left of it, by how the call ended
  record Went (w : Value) (r : Reply) : Type 0 where
    pub cut : KeyCut w
    pub gone : r ≡ replies.Done → w.buckets (sha1 key) ≡ None
    pub ends : Ends r

  refused_went : (w : Value) (r : Reply) → w ≡ v → IsRefused r → Went w r
  refused_went w r same refused = record {
    cut = subst KeyCut (sym same) (content_cut v uncut);
    gone = λ e. let no : ◌≡◌ {A = Reply} replies.Done (replies.Refused refused.0) = sym e ∙ refused.1 in absurd cc;
    ends = inr refused;
  }

  -- the bucket's removal, after that of the content
  module _ (none : home_of cache ≡ None → v.buckets (sha1 key) ≡ None) (x : Value) (h : ContentCut x) where
    bucket_went : (t : Tree) (moves : Moves) (r : Reply) → LastRemoval bucket_place t moves r (home_of cache) x → Went (after_deeds (home_of cache) (deeds (turns_on t moves)) x) r
    bucket_went t moves r last = record {
      cut = elim last.either [
        | inl same ↦ subst KeyCut (sym same) (content_cut x h)
        | inr is ↦ subst KeyCut (sym is) (key_cut x h)
      ];
      gone = λ e.
          ap (λ (w : Value). w.buckets (sha1 key)) (last.done e)
          ∙ bucket_gone (home_of cache) bucket_place x (sha1 key) bucket_place_below (λ no. h.buckets (sha1 key) ∙ none no);
      ends = last.ends;
    }

-- ---- runs

cut_found : (cache key : List ℕ) (f : Found) (v : Value) → IsIntegrity f.integrity → ContentCut cache key (Some f) v (after_deeds (home_of cache) (removed_at (content_path cache f.integrity)) v)
cut_found cache key f v formed = by f.integrity refl formed
  where
    by : (i : List Hash) → f.integrity ≡ i → IsIntegrity i → ContentCut cache key (Some f) v (after_deeds (home_of cache) (removed_at (content_path cache f.integrity)) v)
    by [] is formed = absurd (omega (arith, formed.nonempty))
    by (b ∷ bs) is formed =
        let hash = All-head IsHash b bs formed.hashes in
        let below : names_of (content_path cache f.integrity) ≡ names_below (home_of cache) (content_names b)
        = ap (λ i. names_of (content_path cache i)) is ∙ content_below (setup_at cache []) b bs hash in
        record {
          contents = λ a a_is. elim (cut_contents cache (content_path cache f.integrity) v b hash below a a_is) [
            | inl stays ↦ inl stays
            | inr gone ↦ inr ((f, refl, ap address is ∙ ap Some (sym gone.0)), gone.1)
          ];
          buckets = uncut_buckets cache (content_path cache f.integrity) v b hash below;
        }

module _ (cache key : List ℕ) (v : Value) (none : home_of cache ≡ None → v.buckets (sha1 key) ≡ None) (r : Reply) where
  found_went : (o : Option Found) → IfSome o (λ f. IsIntegrity f.integrity) → (t : Tree) (moves : Moves) → Runs (remove_found cache key o) moves r
      → Went cache key o v (after_deeds (home_of cache) (deeds (turns_on t moves)) v) r
  found_went None formed t moves run = search (rules, bucket_went, uncut, last_removal, removal)
  found_went (Some f) formed t moves run =
      let path = content_path cache f.integrity in
      elim (removal (content_path cache f.integrity) (remove_bucket cache key) t r moves run) [
        | inl h ↦ refused_went cache key (Some f) v (after_deeds (home_of cache) (deeds (turns_on t moves)) v) r (ap (λ ds. after_deeds (home_of cache) ds v) h.0) h.1
        | inr h ↦
            let x = after_deeds (home_of cache) (removed_at path) v in
            let same : after_deeds (home_of cache) (deeds (turns_on t moves)) v ≡ after_deeds (home_of cache) (deeds (turns_on h.1 h.0)) (after_deeds (home_of cache) (removed_at (content_path cache f.integrity)) v)
            = ap (λ ds. after_deeds (home_of cache) ds v) h.2 ∙ then_deeds (home_of cache) (names_of (content_path cache f.integrity)) (deeds (turns_on h.1 h.0)) v in
            subst (λ w. Went cache key (Some f) v w r) (sym same)
            (bucket_went cache key (Some f) v none x (cut_found cache key f v formed) h.1 h.0 r
            (last_removal (bucket_path cache key) h.1 h.0 r (home_of cache) x (removal (bucket_path cache key) (over replies.Done) h.1 r h.0 h.3)))
      ]

-- a read adds no deed to those after it
behind_read : (t : Tree) (path : List ℕ) (step : PlainStep) (a : PlainAnswer) (more : Moves) → step ≡ steps.ReadAll path → deeds (turns_on t ((step, a) ∷ more)) ≡ deeds (turns_on t more)
behind_read t path step a more is = search (rules, reading_keeps)

-- what the bytes of the bucket answer is what the key leads to
pub found_held : (cache key bytes : List ℕ) (t : Tree) (step : PlainStep) → TurnHolds (setup_at cache []) (turn_of t Plain (step, answers.Bytes bytes)) → step ≡ steps.ReadAll (bucket_path cache key)
    → found_in key bytes ≡ latest key (entries_on (home_of cache) t key)
unfolding found_in
found_held cache key bytes t step holds is =
    let shown : bucket_shown (answers.Bytes bytes) ≡ bucket_read (setup_at cache []) (sha1 key) (turn_of t Plain (step, answers.Bytes bytes))
    = bucket_at_turn (setup_at cache []) (turn_of t Plain (step, answers.Bytes bytes)) holds (bucket_path cache key) (sha1 key) is (bucket_below (setup_at cache []) key) in
    let same : entries_of bytes ≡ entries_on (home_of cache) t key = cc in
    ap (latest key) same

module _ (cache base key : List ℕ) (number : ℕ) (old : List LogItem) (r : Reply) (sound : IsCache cache old) where
  abbrev before : Value
  before = value_of_tree (home_of cache) (tree_of old)

  -- what was found is what the key leads to, or nothing
  abbrev Gone : Moves → Type 0
  Gone moves = (o : Option Found) × ((f : Found) → o ≡ Some f → found_under cache key old ≡ Some f) × Went cache key o before (after_deeds (home_of cache) (deeds (turns_on (tree_of old) moves)) before) r

  refused_gone : (step : PlainStep) (a : PlainAnswer) (more : Moves) → step ≡ steps.ReadAll (bucket_path cache key) → (more ≡ []) × IsRefused r → Gone ((step, a) ∷ more)
  refused_gone step a more is h =
      let nothing : deeds (turns_on (tree_of old) ((step, a) ∷ more)) ≡ []
      = behind_read (tree_of old) (bucket_path cache key) step a more is ∙ ap (λ (ms : Moves). deeds (turns_on (tree_of old) ms)) h.0 in (
        None,
        λ f no. absurd cc,
        refused_went cache key None before (after_deeds (home_of cache) (deeds (turns_on (tree_of old) ((step, a) ∷ more))) before) r (ap (λ ds. after_deeds (home_of cache) ds before) nothing) h.1,
      )

  went_on : (o : Option Found) (step : PlainStep) (a : PlainAnswer) (more : Moves) → step ≡ steps.ReadAll (bucket_path cache key) → ((f : Found) → o ≡ Some f → found_under cache key old ≡ Some f)
      → IfSome o (λ f. IsIntegrity f.integrity) → Runs (remove_found cache key o) more r → Gone ((step, a) ∷ more)
  went_on o step a more is held formed run = (
    o,
    held,
    subst (λ ds. Went cache key o before (after_deeds (home_of cache) ds before) r) (sym (behind_read (tree_of old) (bucket_path cache key) step a more is))
        (found_went cache key before (nowhere (home_of cache) (tree_of old) (sha1 key)) r o formed (tree_of old) more run),
  )

  fully_gone : (moves : Moves) → AreAnswered (tree_of old) moves → Runs (opening (call_site (setup_at cache base) number) (commands.RemoveFully key)) moves r → Gone moves
  fully_gone [] answered (inl e) = absurd cc
  fully_gone [] answered (inr e) = (None, λ f no. absurd cc, refused_went cache key None before before r refl (OutOfMemory, e, tt))
  fully_gone ((step, answers.Bytes bytes) ∷ more) answered run =
      let is : step ≡ steps.ReadAll (bucket_path cache key) = cc in
      let holds : TurnHolds (setup_at cache []) (turn_of (tree_of old) Plain (step, answers.Bytes bytes))
      = record { placed = sound.placed; rooted = sound.rooted; formed = sound.formed; answered = answered.0; fits = run.1 } in
      let found : found_in key bytes ≡ found_under cache key old = found_held cache key bytes (tree_of old) step holds is in
      went_on (found_in key bytes) step (answers.Bytes bytes) more is (λ f some. sym found ∙ some)
      (subst (λ o. IfSome o (λ f. IsIntegrity f.integrity)) (sym found) (latest_has key (entries_on (home_of cache) (tree_of old) key) (sound.formed (sha1 key))))
      run.2
  fully_gone ((step, answers.Failed faults.NotFound) ∷ more) answered run = went_on None step (answers.Failed faults.NotFound) more (cc) (λ f no. absurd cc) tt run.2
  fully_gone ((step, answers.Failed fault) ∷ more) answered run = refused_gone step (answers.Failed fault) more (cc) (refused_run (IoError fault []) r more tt run.2)
  fully_gone ((step, answers.NoMemory given) ∷ more) answered run = refused_gone step (answers.NoMemory given) more (cc) (refused_run OutOfMemory r more tt run.2)
  fully_gone ((step, a) ∷ more) answered run = refused_gone step a more (cc) (refused_run (IoError faults.Device []) r more tt run.2)

-- ---- calls

led_integrity : (cache key : List ℕ) (a : Hash) (hs : List Hash) (f : Found) (log : List LogItem) → found_under cache key log ≡ Some f → address f.integrity ≡ Some a → LeadsThere cache key (a ∷ hs) log
led_integrity cache key a hs f log finds at = (f.integrity, ap (option_map (λ (found : Found). found.integrity)) finds, sym at)

-- after a removal that is done, the key leads to nothing
abbrev pub RemovesKey : List ℕ → List ℕ → Reply → List LogItem → List LogItem → Type 0
RemovesKey cache key replies.Done old new = LacksKey cache key new
RemovesKey cache key (replies.Refused e) old new = IsExcused e old new
RemovesKey cache key r old new = ⊥

module _ (cache base key : List ℕ) (r : Reply) (old new : List LogItem) (sound : IsCache cache old) (k : Known cache base (commands.RemoveFully key) r old new) where
  gone : Gone cache base key k.call.number old r sound k.call.moves
  gone = fully_gone cache base key k.call.number old r sound k.call.moves k.answers.disk k.run

  key_lies : (i : List Hash) → IsIntegrity i → (lies_under cache i new ≡ lies_under cache i old) ⊎ (LeadsThere cache key i old × (lies_under cache i new ≡ None))
  key_lies [] is = inl refl
  key_lies (a ∷ hs) is =
      let follows = follows_of cache base (commands.RemoveFully key) r old new k in
      elim (gone.2.cut.contents a (All-head IsHash a hs is.hashes)) [
        | inl same ↦ inl (follows.contents a ∙ same)
        | inr cut ↦ inr (led_integrity cache key a hs cut.0.0 old (gone.1 cut.0.0 cut.0.1) cut.0.2, follows.contents a ∙ cut.1)
      ]

  key_finds : (other : List ℕ) → (found_under cache other new ≡ found_under cache other old) ⊎ ((sha1 other ≡ sha1 key) × (found_under cache other new ≡ None))
  key_finds other =
      let follows = follows_of cache base (commands.RemoveFully key) r old new k in
      elim (gone.2.cut.buckets other) [
        | inl same ↦ inl (ap (latest other) (follows.lists (sha1 other)) ∙ ap (λ o. latest other (list_of o)) same)
        | inr cut ↦ inr (cut.0, ap (latest other) (follows.lists (sha1 other)) ∙ ap (λ o. latest other (list_of o)) cut.1)
      ]

  key_keeps : KeepsApartFrom cache key old new
  key_keeps = search (rules, key_finds, key_lies)

  key_lacks : r ≡ replies.Done → LacksKey cache key new
  key_lacks e =
      let follows = follows_of cache base (commands.RemoveFully key) r old new k in
      ap (latest key) (follows.lists (sha1 key)) ∙ ap (λ o. latest key (list_of o)) (gone.2.gone e)

-- after a full removal that is done the key leads to nothing, and all else stays, whatever it answers
pub keys_go : (cache key : List ℕ) (r : Reply) (old new : List LogItem) → IsCache cache old
    → Called cache (commands.RemoveFully key) r old new → IsCache cache new × RemovesKey cache key r old new
    × KeepsApartFrom cache key old new
keys_go cache key r old new sound c =
    let k = known cache (commands.RemoveFully key) r old new c tt tt sound in (
      k.sound,
      said r (says cache c.base (commands.RemoveFully key) old new (LacksKey cache key new) (λ fault none. none) r k (key_lacks cache c.base key r old new sound k) (gone cache c.base key r old new sound k).2.ends),
      key_keeps cache c.base key r old new sound k,
    )
  where
    said : (q : Reply) → Says (LacksKey cache key new) q old new → RemovesKey cache key q old new
    said replies.Done h = h
    said (replies.Refused e) h = h
    said other h = absurd h

removes : (cache base key : List ℕ) (moment : ℕ) (old new : List LogItem) → refused_cause (deletion cache (record { key = key; moment = moment })) ≡ None → (r : Reply)
    → Known cache base (commands.Delete (record { key = key; moment = moment })) r old new → Only replies.Done r → RemovesKey cache key r old new
removes cache base key moment old new written replies.Done k h =
    let d : Delete = record { key = key; moment = moment } in
    let e = (deletion cache (record { key = key; moment = moment })).entry in
    finds_last key e None (entries_on (home_of cache) (tree_of old) key) (entries_on (home_of cache) (tree_of new) key) refl refl
    (ap (λ x. entries_on (home_of cache) x key) k.leads ∙ deletes_add (setup_at cache base) (tree_of old) k.call d k.command_is k.reply_is k.answers)
removes cache base key moment old new written (replies.Refused e) k h =
    let d : Delete = record { key = key; moment = moment } in
    excuse cache base (commands.Delete (record { key = key; moment = moment })) old new (λ fault none. none) e k
    (calls_fail_only.deletes (call_site (setup_at cache base) k.call.number) d k.call.moves (replies.Refused e) written k.run)
removes cache base key moment old new written other k h = absurd cc

-- the removal of a key by a tombstone
pub removals_last : (cache key : List ℕ) (moment : ℕ) (r : Reply) (old new : List LogItem) → IsUtf8 key → moment < 2 ^ 64
    → IsCache cache old → Called cache (commands.Delete (record { key = key; moment = moment })) r old new → IsCache cache new
    × RemovesKey cache key r old new
unfolding refused_cause
removals_last cache key moment r old new utf8 early sound c =
    let d : Delete = record { key = key; moment = moment } in
    let w = bare_written key None moment 0 utf8 tt early (omega arith) in
    let k = known cache (commands.Delete (record { key = key; moment = moment })) r old new c (λ none. w.formed) tt sound in
    (k.sound, removes cache c.base key moment old new w.no_cause r k (calls_answer (call_site (setup_at cache c.base) k.call.number) (commands.Delete d) k.call.moves r k.run))

-- ---- clearings

cleared : (cache base : List ℕ) (old new : List LogItem) → IsCache cache old → (r : Reply) → plain_reply r ≡ r → Known cache base commands.Clear r old new → Only replies.Done r → Empties cache r old new
cleared cache base old new sound replies.Done plain k h = search (rules, clears_all)
cleared cache base old new sound (replies.Refused OutOfMemory) plain k h = inl (inl refl)
cleared cache base old new sound (replies.Refused (IoError fault message)) plain k h =
    let cause : OfWalk fault ⊎ Faulted k.call.moves fault
    = subst (λ c. own_of c fault ⊎ Faulted k.call.moves fault) k.command_is
    (subst (λ r. HasCause (own_of k.call.command) k.call.moves (plain_reply r)) k.reply_is k.answers.causes) in
    let bare : ◌≡◌ {A = Error} (IoError fault []) (IoError fault message) = cc in
    elim cause [
      | inl own ↦ inr (fault, own, sym bare)
      | inr f ↦ inl (inr (k.call.moves, k.gained, fault, f))
    ]
cleared cache base old new sound (replies.Refused (EntryNotFound c l)) plain k h = absurd (calls_fail_only.clears (call_site (setup_at cache base) k.call.number) k.call.moves (replies.Refused (EntryNotFound c l)) k.run)
cleared cache base old new sound (replies.Refused (SizeMismatch wanted actual)) plain k h = absurd (calls_fail_only.clears (call_site (setup_at cache base) k.call.number) k.call.moves (replies.Refused (SizeMismatch wanted actual)) k.run)
cleared cache base old new sound (replies.Refused (SerdeError cause message)) plain k h = absurd (calls_fail_only.clears (call_site (setup_at cache base) k.call.number) k.call.moves (replies.Refused (SerdeError cause message)) k.run)
cleared cache base old new sound (replies.Refused (IntegrityError fault)) plain k h = absurd (calls_fail_only.clears (call_site (setup_at cache base) k.call.number) k.call.moves (replies.Refused (IntegrityError fault)) k.run)
cleared cache base old new sound other plain k h = absurd cc

pub clearings_empty : ClearingsEmpty
clearings_empty cache r old new sound c =
    let k = known cache commands.Clear r old new c tt tt sound in
    (k.sound, cleared cache c.base old new sound r c.plain k (calls_answer (call_site (setup_at cache c.base) k.call.number) commands.Clear k.call.moves r k.run))
