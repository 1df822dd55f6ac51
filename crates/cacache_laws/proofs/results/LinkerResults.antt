-- What open linkers did.
use Rattle.std.proofs.{Common.{rules, ◌≡◌, inl, inr, ◌<◌, ◌^◌, ◌+◌, false, ℕ, List, [], ◌∷◌, ◌++◌, Option, None, Some, Result, Ok, Err, length, map, take, refl, sym, ap, subst, ◌∙◌, append_assoc, arith}, lemmas.List.{append_cancel_left, length-append}}
use Rattle.std.specs.Io.{ReadsAtMost, KnownBytes.{Consumes, Keeps, ReadConsumes}}
use Rattle.cacache_store.specs.Outside as io
use Rattle.cacache_core.specs.declared.{errors.Error.{Error}, integrity.digest.Hash.{Hash}}
use Rattle.cacache_entry.{specs.FittingEntries.{AreBytes, IsJson}, proofs.WellRead.{IsJson-null}}
use Rattle.cacache_store.specs.{declared.{env.Env.{Env}, store.{log.LogItem.{LogItem, TheVariants.{Made}}, plain.PlainFile.{PlainFile}}}, Plain.{LeftFalls}}
use Rattle.cacache_store.specs.declared.store.answer.Answer.TheVariants as answers
use Rattle.cacache_store.specs.declared.store.step.Step.TheVariants as steps
use Rattle.cacache_disk.specs.{Apply.{opened}, Replay.{IsLog, shown, tree_of}}
use Rattle.cacache_calls.specs.{declared.{command.Link.{Link}, reply.Reply.TheVariants.{Stored}}, Inserting.{refused_cause}, Promises.{answered}, Linking.{based, commit_for, link_target, linked_to, target_at}, Runs.{Gains, Goes, Gone, Moves, Ran, reply_of, without_message}, State.{hashing, to_link}}
use Rattle.cacache_sync.specs.{content.OpenReads.{passed}, put.{OpenLinkers.{HasHashed, LinkTarget, OpensLinker, OpensSized, OpensTarget, asks_file, asks_size, stands_at}, KeyedWriters.{Said, options_of}}}
use Rattle.cacache_laws.specs.{Caches.{Grows, IsCache, IsExcused}, ExportEffects.{IsApart}, LinkAnswers.{OpensAs, target_bytes}, Links.{FitsLink, put_like}, OpenLinkers.{CanWrite, CommitsRest, SuitsSize, TargetOpened}, OpenWriters.{LeavesKnownCache}, Puts.{MayLeadToPut, entry_of_put}, Succeeds.{NamesFolder}, results.{Handles.{IsText, LeadsToEntry, MayLeadToEntry, PlainSaysFit, SaysFit, said_integrity}, Writes.{SaysPlain}, Linkers.{IsLinking, LinkCommitsMean, LinkOpeningsMean, LinkedBytes, LinkersGoOn, MemLinker, OpenedLinker, SizedOpeningsMean}, Links.{LeadsOn}, Success.{FailsForMemory}}}
use Rattle.cacache_laws.proofs.{Links.{Linking.{HasLinked, LeavesLink}, OpenLinkers.{linkers_commit, linkers_fail}, TargetBytes.{linkers_open, linkers_open_sized}}, Calls.{Replays.{some_same}, CallErrors.{excused_error}}, Readings.Standing.{caches_stand}, Sure.{SureLinks.{linkers_answer}, SureReaders.{linker_openings_answer, sized_openings_answer}}, results.{WriteResults.{lies_so, early_of}, SureResults.{commit_succeeds, shown_read}, Told.{plain_result}, WriterResults.{said_written, fits}}, trees.Logged.{gains_join}}

-- ---- the moves of an opening

map_same : (xs ys : Moves) → map (λ m. Made m.0 m.1) xs ≡ map (λ m. Made m.0 m.1) ys → xs ≡ ys
map_same [] [] e = refl
map_same ((step, a) ∷ xs) ((other, b) ∷ ys) e =
    let one : step ≡ other = cc in
    let two : a ≡ b = cc in
    let more : map (λ m. Made m.0 m.1) xs ≡ map (λ m. Made m.0 m.1) ys = cc in
    ap (λ x. (x, a) ∷ xs) one ∙ ap (λ x. (other, x) ∷ xs) two ∙ ap (λ (l : Moves). (other, b) ∷ l) (map_same xs ys more)
map_same _ _ e = absurd cc

-- a log gained the same moves
pub moves_same : (old new : List LogItem) (xs ys : Moves) → Gains (Some old) (Some new) xs → Gains (Some old) (Some new) ys → xs ≡ ys
moves_same old new xs ys g h =
    map_same xs ys (append_cancel_left old (map (λ m. Made m.0 m.1) xs) (map (λ m. Made m.0 m.1) ys) (sym (some_same new _ g) ∙ some_same new _ h))

-- the file that was opened has a length that the program can count
module _ (l : LinkTarget) (w : MemLinker) (old new : List LogItem) where
  small_plain : Gains (Some old) (Some new) ((steps.Open l.path, answers.File w.file) ∷ []) → Gone (asks_file l 0) (stands_at (λ file. file) w [] 0) (Some old) (Some new) → w.file.left < 2 ^ 64
  small_plain g gone =
      let goes = subst (λ ms. Goes (asks_file l 0) ms (stands_at (λ file. file) w [] 0)) (moves_same old new gone.0 ((steps.Open l.path, answers.File w.file) ∷ []) gone.2 g) gone.1 in
      goes.1

  small_sized : (size : ℕ) → Gains (Some old) (Some new) ((steps.Size l.path, answers.Length size) ∷ (steps.Open l.path, answers.File w.file) ∷ [])
      → Gone (asks_size l 0) (stands_at (λ file. file) w [] 0) (Some old) (Some new) → w.file.left < 2 ^ 64
  small_sized size g gone =
      let goes = subst (λ ms. Goes (asks_size l 0) ms (stands_at (λ file. file) w [] 0))
      (moves_same old new gone.0 ((steps.Size l.path, answers.Length size) ∷ (steps.Open l.path, answers.File w.file) ∷ []) gone.2 g) gone.1 in
      goes.2.1

-- ---- openings

module _ (cache : List ℕ) (key : Option (List ℕ)) (base target : List ℕ) (s : Said) (time : Option ℕ) (timed : (k : List ℕ) → key ≡ Some k → time ≡ s.time)
    (old new : List LogItem) (sound : IsCache cache old) (logged : IsLog new) where
  abbrev linked : LinkTarget
  linked = linked_to base cache key target time (options_of s)

  abbrev target_path : List ℕ
  target_path = based base target

  -- a linker that was opened, with this expected size or none
  is_linking : (w : MemLinker) (size : Option ℕ) (held : List ℕ) → shown (tree_of old) target_path ≡ Some held → w.file ≡ opened held → TargetOpened cache target_path held w.file → SuitsSize size (length held)
      → w.linked ≡ linked_to base cache key target time (record (options_of s) { size = size }) → HasHashed w [] → w.file.left < 2 ^ 64
      → (held : List ℕ) × (shown (tree_of old) target_path ≡ Some held) × IsLinking cache key target_path s held [] w
  is_linking w size held shows file was suits linked_is empty small = search rules

  -- none was, as this says
  fails_so : (e : Error) → LeavesKnownCache cache old new → IsExcused e old new → OpensAs (target_bytes target_path old) (Err e) → OpenedLinker cache key target_path s (Err e) old new
  fails_so e left excused told = search (rules, shown_read)

  opens_so : (w : MemLinker) → LeavesKnownCache cache old new → (held : List ℕ) × (shown (tree_of old) target_path ≡ Some held) × IsLinking cache key target_path s held [] w → OpensAs (target_bytes target_path old) (Ok w.file)
      → OpenedLinker cache key target_path s (Ok w) old new
  opens_so w left linker told = search rules

  opened_plain : (r : Result MemLinker Error) → s.size ≡ None → OpensTarget (λ file. file) linked r (Some old) (Some new) → OpensLinker (λ file. file) time (asks_file linked) r (Some old) (Some new)
      → OpenedLinker cache key target_path s r old new
  opened_plain (Err e) none opens begins =
      let o = linkers_open cache target_path (Err e) old new sound opens logged in
      fails_so e o.0 o.1 (linker_openings_answer target_path (Err e) old new opens logged)
  opened_plain (Ok w) none opens begins =
      let o = linkers_open cache target_path (Ok w.file) old new sound opens.1 logged in
      let small = small_plain linked w old new opens.1 (begins.2 0) in
      let g = o.1 in
      opens_so w o.0 (is_linking w s.size g.0 g.1 g.2 (g.3 small) (inl none) opens.0.linked_is opens.0.empty small) (linker_openings_answer target_path (Ok w.file) old new opens.1 logged)

  opened_sized : (r : Result MemLinker Error) → OpensSized (λ file. file) linked r (Some old) (Some new) → OpensLinker (λ file. file) time (asks_size linked) r (Some old) (Some new)
      → OpenedLinker cache key target_path s r old new
  opened_sized (Err e) opens begins =
      let o = linkers_open_sized cache target_path (Err e) old new sound opens logged in
      fails_so e o.0 o.1 (sized_openings_answer target_path (Err e) old new opens logged)
  opened_sized (Ok w) opens begins =
      let o = linkers_open_sized cache target_path (Ok (opens.0, w.file)) old new sound (opens.1, opens.2, opens.3.1) logged in
      let gained = gains_join (Some old) opens.1 (Some new) ((steps.Size target_path, answers.Length opens.0) ∷ []) ((steps.Open target_path, answers.File w.file) ∷ []) opens.2 opens.3.1 in
      let small = small_sized linked w old new opens.0 gained (begins.2 0) in
      let g = o.1 in
      opens_so w o.0 (is_linking w (Some opens.0) g.0 g.1 g.2 (g.4 small) (inr (ap Some g.3)) opens.3.0.linked_is opens.3.0.empty small)
      (sized_openings_answer target_path (Ok (opens.0, w.file)) old new (opens.1, opens.2, opens.3.1) logged)

pub link_openings_mean : {C N : Type 0} (new : Env (List LogItem) C N) → IsLog new.store → LinkOpeningsMean new
link_openings_mean new logged cache h target s r old sound none opens begins = grind (arith, opened_plain)

pub sized_openings_mean : {C N : Type 0} (new : Env (List LogItem) C N) → IsLog new.store → SizedOpeningsMean new
sized_openings_mean new logged cache h target s r old sound opens begins = grind (arith, opened_sized)

-- ---- reads

plain_file : (f : PlainFile) (bytes : List ℕ) → f.left ≡ length bytes → f.bytes ≡ Some bytes → f ≡ opened bytes
plain_file f bytes left_is bytes_are =
    let of : ℕ → Option (List ℕ) → PlainFile = λ left known. record { left = left; bytes = known } in
    ap (λ n. of n f.bytes) left_is ∙ ap (of (length bytes)) bytes_are

-- what is left after the bytes that a read gave
record GoesOn (rest more : List ℕ) (f : PlainFile) : Type 0 where
  pub left : List ℕ
  pub all : more ++ left ≡ rest
  pub file_is : f ≡ opened left

gave : (rest more : List ℕ) (known : Option (List ℕ)) (f : PlainFile) → known ≡ f.bytes → Consumes (Some rest) known more → f.left + length more ≡ length rest → GoesOn rest more f
gave rest more None f is h left_is = absurd h
gave rest more (Some left) f is h left_is =
    let sum : length rest ≡ length more + length left = ap (λ (l : List ℕ). length l) h ∙ length-append more left in
    record { left = left; all = sym h; file_is = plain_file f left (omega (arith, left_is, sum)) (sym is) }

stayed : (rest : List ℕ) (known : Option (List ℕ)) (f : PlainFile) → known ≡ f.bytes → Keeps (Some rest) known → f.left ≡ length rest → GoesOn rest [] f
stayed rest known f is h left_is = grind (arith, plain_file)

goes_on : (rest : List ℕ) (f g : PlainFile) (r : Result ℕ io.Error) (buf : List ℕ) → f ≡ opened rest → ReadsAtMost r buf → ReadConsumes f.bytes g.bytes r buf → LeftFalls f.left g.left r → GoesOn rest (passed r buf) g
goes_on rest f g (Ok n) buf is most reads falls =
    let consumed : Consumes (Some rest) g.bytes (take n buf) = subst (λ (x : PlainFile). Consumes x.bytes g.bytes (take n buf)) is reads.0 in
    let fell : g.left + n ≡ length rest = subst (λ (x : PlainFile). g.left + n ≡ x.left) is falls in
    gave rest (take n buf) g.bytes g refl consumed (ap (λ k. g.left + k) (sym most.1) ∙ fell)
goes_on rest f g (Err e) buf is most reads falls =
    let kept : Keeps (Some rest) g.bytes = subst (λ (x : PlainFile). Keeps x.bytes g.bytes) is reads in
    let same : g.left ≡ length rest = subst (λ (x : PlainFile). g.left ≡ x.left) is falls in
    stayed rest g.bytes g refl kept same

pub linkers_go_on : LinkersGoOn
linkers_go_on cache key path s held bytes w v r buf t most reads falls hashed linked =
    let on = goes_on t.rest w.file v.file r buf t.file_is most reads falls in
    record {
      base = t.base;
      target = t.target;
      path_is = t.path_is;
      time = t.time;
      time_is = t.time_is;
      size = t.size;
      suits = t.suits;
      small = t.small;
      linked_is = linked ∙ t.linked_is;
      first = t.first;
      was_opened = t.was_opened;
      rest = on.left;
      all = append_assoc bytes (passed r buf) on.left ∙ ap (λ l. bytes ++ l) on.all ∙ t.all;
      file_is = on.file_is;
      hashed = hashed;
    }

-- ---- commits

pub plain_says_fit : PlainSaysFit
plain_says_fit s none no_raw formed = record { json = subst IsJson (sym none) IsJson-null; raw = subst AreBytes (sym no_raw) tt; formed = formed }

module _ (cache : List ℕ) (key : Option (List ℕ)) (base target : List ℕ) (s : Said) (size : Option ℕ) (moment : ℕ) (held : List ℕ) (old new : List LogItem) where
  -- the link that a commit makes
  abbrev link_of : Link
  link_of = record { key = key; target = target; moment = moment; options = record (options_of s) { size = size } }

  leads_so : (at : Option (List ℕ)) → at ≡ key → (i : List Hash) → HasLinked cache (put_like link_of held) (based base target) i old new → (k : List ℕ) → at ≡ Some k → LeadsToEntry cache k s i (length held) new
  leads_so None same i h k is = absurd cc
  leads_so (Some own) same i h k is =
      let keyed : key ≡ Some k = sym same ∙ is in
      let stored : i ≡ _ = h.stored ∙ ap (λ x. answered (said_integrity s held) s.integrity x) keyed in
      (entry_of_put cache (put_like link_of held) k, h.entry k keyed, record { integrity = sym stored; size = refl; metadata = refl; raw_metadata = refl })

  may_lead_so : MayLeadToPut cache (put_like link_of held) old new → (k : List ℕ) → key ≡ Some k
      → MayLeadToEntry cache k s (answered (said_integrity s held) s.integrity key) (length held) old new
  may_lead_so may k is =
      elim (may k is) [
        | inl same ↦ inl same
        | inr entry ↦
            inr (entry_of_put cache (put_like link_of held) k, entry, record { integrity = ap (λ x. answered (said_integrity s held) s.integrity x) (sym is); size = refl; metadata = refl; raw_metadata = refl })
      ]

  linked_bytes : (r : Result (List Hash) Error) → LeavesLink cache (put_like link_of held) (based base target) (reply_of Stored r) old new → IsCache cache new → Grows old new
      → ((e : Error) → r ≡ Err e → SaysPlain s → s.integrity ≡ None → IsExcused e old new)
      → (NamesFolder cache → SaysPlain s → s.integrity ≡ None → LeadsOn cache (said_integrity s held) old → FailsForMemory r) → LinkedBytes cache key (based base target) s held r old new
  linked_bytes (Ok i) h sound grows fails succeeds =
      let l = h.links i refl in
      record {
        sound = sound;
        grows = grows;
        stored = l.stored;
        leads = leads_so key refl i l;
        may_lead = may_lead_so h.leads;
        lies = lies_so cache (based base target) (said_integrity s held) (said_integrity s held) old new refl l.lies;
        beside = h.beside;
        fails = λ plain none. tt;
        succeeds = succeeds;
      }
  linked_bytes (Err e) h sound grows fails succeeds = search (rules, may_lead_so)

fits_link : (cache : List ℕ) (key : Option (List ℕ)) (base target : List ℕ) (s : Said) (size : Option ℕ) (moment : ℕ) → SaysFit s → IsText key → FitsLink cache (link_of cache key base target s size moment [] [] [])
fits_link cache key base target s size moment says text =
    let other : Said = record s { size = size; durable = false } in
    λ bytes small. fits cache key other bytes moment (record { json = says.json; raw = says.raw; formed = says.formed }) text small

-- if nothing was said of an entry, it can be written
can_write : (cache : List ℕ) (key : Option (List ℕ)) (base target : List ℕ) (s : Said) (size : Option ℕ) (moment : ℕ) (held : List ℕ) → SaysPlain s → s.integrity ≡ None → IsText key → length held < 2 ^ 64
    → ((k : List ℕ) → key ≡ Some k → moment < 2 ^ 64) → CanWrite cache (link_of cache key base target s size moment [] [] []) held
unfolding refused_cause
can_write cache key base target s size moment held plain none text small early k is = said_written cache k key s held moment plain none (subst IsText is text) small (early k is)

pub link_commits_mean : {C N : Type 0} (moments : C → Option (List ℕ)) (new : Env (List LogItem) C N) → IsLog new.store → LinkCommitsMean moments new
link_commits_mean moments new logged cache key path s held bytes w r old sound apart t says text h =
    let l : Link = record { key = key; target = t.target; moment = h.0; options = record (options_of s) { size = t.size } } in
    let here = subst (λ (x : LinkTarget). Ran (hashing (to_link (target_at x h.0)) w.file bytes) (reply_of Stored r) (Some old.store) (Some new.store)) t.linked_is h.2 in
    let ran = subst (λ f. Ran (hashing (to_link (link_target (record { cache = cache; base = t.base; number = 0 }) l)) f bytes) (reply_of Stored r) (Some old.store) (Some new.store)) t.file_is here in
    let c : CommitsRest cache t.base l bytes t.rest (reply_of Stored r) old.store new.store = record { ran = ran; plain = plain_result Stored (λ i. refl) r; logged = logged } in
    let shown_so : TargetOpened cache (based t.base t.target) (bytes ++ t.rest) t.first
    = subst (λ p. TargetOpened cache p (bytes ++ t.rest) t.first) (sym t.path_is) (subst (λ b. TargetOpened cache path b t.first) (sym t.all) t.was_opened) in
    let suits : SuitsSize t.size (length (bytes ++ t.rest)) = subst (λ b. SuitsSize t.size (length b)) (sym t.all) t.suits in
    let far = subst (IsApart cache) (sym t.path_is) apart in
    let early : SaysPlain s → (k : List ℕ) → key ≡ Some k → h.0 < 2 ^ 64
    = λ plain k is.
    early_of moments w.linked.moment old.clock new.clock h.0
    (λ time e. plain.early time (sym (t.time_is k is) ∙ sym (ap (λ (x : LinkTarget). x.moment) t.linked_is) ∙ e)) h.1 in
    let fails : (e : Error) → r ≡ Err e → SaysPlain s → s.integrity ≡ None → IsExcused e old.store new.store
    = λ e is plain none.
    excused_error e old.store new.store
    (linkers_fail cache t.base l bytes t.rest t.first (without_message e) old.store new.store (fits_link cache key t.base t.target s t.size h.0 says text) far suits none
    (can_write cache key t.base t.target s t.size h.0 (bytes ++ t.rest) plain none text (subst (λ b. length b < 2 ^ 64) (sym t.all) t.small) (early plain)) shown_so sound
    (subst (λ x. CommitsRest cache t.base l bytes t.rest (reply_of Stored x) old.store new.store) is c)) in
    let left = linkers_commit cache t.base l bytes t.rest t.first (reply_of Stored r) old.store new.store (fits_link cache key t.base t.target s t.size h.0 says text) far suits says.formed shown_so sound c in
    let succeeds : NamesFolder cache → SaysPlain s → s.integrity ≡ None → LeadsOn cache (said_integrity s (bytes ++ t.rest)) old.store → FailsForMemory r
    = λ folder plain none leads.
    commit_succeeds (commit_for (link_target (record { cache = cache; base = t.base; number = 0 }) l) (bytes ++ t.rest)) r old.store
    (can_write cache key t.base t.target s t.size h.0 (bytes ++ t.rest) plain none text (subst (λ b. length b < 2 ^ 64) (sym t.all) t.small) (early plain)) none suits leads
    (linkers_answer cache t.base l bytes t.rest (reply_of Stored r) old.store new.store folder (caches_stand cache old.store sound) far c) in
    subst (λ p. LinkedBytes cache key p s held r old.store new.store) t.path_is
    (subst (λ b. LinkedBytes cache key (based t.base t.target) s b r old.store new.store) t.all
    (linked_bytes cache key t.base t.target s t.size h.0 (bytes ++ t.rest) old.store new.store r left.2 left.0 left.1 fails succeeds))
