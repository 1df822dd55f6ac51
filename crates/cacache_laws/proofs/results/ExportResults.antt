-- Why an export fails, and what exports gave and left.
use Rattle.std.proofs.{Common.{arith, rules, ◌≡◌, ◌⊎◌, inl, inr, ℕ, Bool, true, false, cond, List, [], Option, None, Some, option_map, Result, Ok, Err, length, refl, sym, ap, subst, ◌∙◌}, lemmas.Grind.{common_steps}}
use Rattle.std.specs.Prelude.{IfErr, IfOk, MatchResult}
use Rattle.cacache_core.specs.{declared.{errors.{Error.{Error, TheVariants.{EntryNotFound, IoError, IntegrityError}}, Fault.{Fault}, IntegrityFault.{IntegrityFault, TheVariants.{Check}}}, integrity.digest.Hash.{Hash}}, Integrity.{Meets, actual}, Matching.{meets}, Paths.{Names}}
use Rattle.cacache_core.proofs.Meeting.{meets_finds}
use Rattle.cacache_store.specs.declared.{store.log.LogItem.{LogItem}, env.Env.{Env}}
use Rattle.cacache_disk.specs.{declared.node.Node.{Node, TheVariants.{Folder, File}}, LedTo.{and_then, bytes_there, free, writable}, Tree.{Tree, look}, Replay.{tree_of, IsLog, shown}}
use Rattle.cacache_entry.specs.Bucket.{Found}
use Rattle.cacache_calls.specs.{declared.{command.{Export.{Export}, How.{How, TheVariants.{Copy, HardLink, Reflink}}, Source.{Source}}, reply.Reply.{Reply, TheVariants.{Copied, Done, Refused}}}, Replies.{OrMemory, done}, Runs.{reply_of, without_message}}
use Rattle.cacache_value.specs.{Shows.{blob_bytes, link_end}, Value.{AtLink, Blob, InFile}}
use Rattle.cacache_laws.specs.{Caches.{LacksKey, lies_under, Called, IsCache, IsExcused}, ExportAnswers.{StaysIfRefused, blob_named, blob_read, export_reply, exported_reply, led_reply, made_reply, or_told, verified_reply}, Beside.{found_under}, Looks.{IsDamaged, bytes_under}, results.{Exports.{FailsExport, NamesHeld, RefusesSource, TellsPath, TellsSource, made_at, CopyMeans, HasArrived, SharingMeans}, Success.{FailsAs, FailsFor}, Reads.{LinksToFile}}, ExportEffects.{Arrives, export_by, IsApart}, OpenWriters.{LeavesKnownCache}, OpenSucceeds.{MayTake, exported}, Succeeds.{NamesFolder}}
use Rattle.cacache_laws.proofs.{Sure.{SureExports.{by_held, exports_answer}, SureCopies.{exports_succeed}}, results.{SureResults.{IsGiven, fails_for, fails_too, of_refused, for_memory}, Told.{called}}, Links.TargetBytes.{links_show}, Readings.Standing.{caches_stand}, Exports.{Arriving.{has_arrived}, Exported.{exports_arrive}, ExportEffects.{exports_keep}}, Putting.WrittenFiles.{free_writable}, Calls.{Replays.{calls_grow}, CallErrors.{excused_error}}}
use Rattle.cacache_sync.specs.Exports.{exporting}
use Rattle.cacache_history.specs.History.{NamesSource}
use Rattle.cacache_core.specs.declared.errors.Fault.TheVariants as faults
use Rattle.cacache_calls.specs.declared.command.Source.TheVariants as sources

-- ---- what lies there can't be read

no_node : (here : Option Node) (fault : Fault) → bytes_there faults.InvalidInput here ≡ Err fault
    → (bytes_there faults.IsADirectory here ≡ Err fault) ⊎ ((bytes_there faults.IsADirectory here ≡ Err faults.IsADirectory) × (fault ≡ faults.InvalidInput))
no_node here fault e = grind (arith, common_steps)

no_end : (t : Tree) (end : Result Names Fault) (fault : Fault) → and_then end (λ names. bytes_there faults.InvalidInput (look t names)) ≡ Err fault
    → (and_then end (λ names. bytes_there faults.IsADirectory (look t names)) ≡ Err fault)
    ⊎ ((and_then end (λ names. bytes_there faults.IsADirectory (look t names)) ≡ Err faults.IsADirectory) × (fault ≡ faults.InvalidInput))
no_end t end fault e = grind (arith, no_node)

no_bytes : (t : Tree) (blob : Option Blob) (fault : Fault) → blob_read faults.InvalidInput t blob ≡ Err fault
    → (blob_bytes t blob ≡ Err fault) ⊎ ((blob_bytes t blob ≡ Err faults.IsADirectory) × (fault ≡ faults.InvalidInput))
no_bytes t None fault e = inl e
no_bytes t (Some (InFile bytes)) fault e = absurd cc
no_bytes t (Some (AtLink target)) fault e = no_end t (link_end t target) fault e

-- ---- a refusal says what is wrong

module _ (cache : List ℕ) (source : Source) (checked : Bool) (to : List ℕ) (old : List LogItem) where
  abbrev Tells : How → Reply → Type 0
  Tells how (Refused e) = TellsSource cache source checked e old ⊎ TellsPath how to e old
  Tells how r = Unit {0}

  abbrev t : Tree
  t = tree_of old

  module _ (i : List Hash) (leads : NamesHeld cache source i old) where
    copy_tells : (r : Result (List ℕ) Fault) (w : Result Names Fault) → blob_read faults.InvalidInput t (lies_under cache i old) ≡ r → writable t to ≡ w
        → Tells Copy (or_told r (λ bytes. or_told w (λ q. Copied (length bytes))))
    copy_tells r w from into = grind (arith, no_bytes)

    reflink_tells : (w : Result Names Fault) (r : Result (List ℕ) Fault) → free t to ≡ w → bytes_under cache i old ≡ r → Tells Reflink (or_told w (λ q. or_told r (λ bytes. Done)))
    reflink_tells w r into from = grind (arith, common_steps)

    hard_link_tells : (w : Result Names Fault) (blob : Option Blob) → free t to ≡ w → lies_under cache i old ≡ blob → Tells HardLink (or_told w (λ q. or_told (blob_named blob) (λ named. Done)))
    hard_link_tells w blob into from = grind (arith, common_steps)

    made_tells : (how : How) → Tells how (made_reply how to t (lies_under cache i old))
    made_tells how = grind (arith, copy_tells, reflink_tells, hard_link_tells)

    by_meeting : (how : How) (bytes : List ℕ) → checked ≡ true → bytes_under cache i old ≡ Ok bytes → (b : Bool) → meets i bytes ≡ b
        → Tells how (cond b (made_reply how to t (lies_under cache i old)) (Refused (IntegrityError (Check i (actual i bytes)))))
    by_meeting how bytes first from b met = grind (arith, made_tells, meets_finds)

    by_bytes : (how : How) (r : Result (List ℕ) Fault) → checked ≡ true → bytes_under cache i old ≡ r → Tells how (or_told r (verified_reply i (made_reply how to t (lies_under cache i old))))
    by_bytes how r first from = grind (arith, by_meeting)

    by_check : (how : How) (b : Bool) → checked ≡ b
        → Tells how (cond b (or_told (bytes_under cache i old) (verified_reply i (made_reply how to t (lies_under cache i old)))) (made_reply how to t (lies_under cache i old)))
    by_check how b first = grind (arith, by_bytes, made_tells)

  exported_tells : (how : How) (i : List Hash) → NamesHeld cache source i old → Tells how (exported_reply i (record { how = how; checked = checked; to = to }) t (lies_under cache i old))
  exported_tells how i leads = by_check i leads how checked refl

  -- what a reply says without its message, its error says
  plain_tells : (how : How) (e : Error) → Tells how (Refused (without_message e)) → TellsSource cache source checked e old ⊎ TellsPath how to e old
  plain_tells how e h = grind (arith, common_steps)

export_tells : (cache : List ℕ) (source : Source) (how : How) (checked : Bool) (to : List ℕ) (old : List LogItem)
    → Tells cache source checked to old how (export_reply cache source (record { how = how; checked = checked; to = to }) old)
export_tells cache (sources.Hash i) how checked to old = exported_tells cache (sources.Hash i) checked to old how i refl
export_tells cache (sources.Key key) how checked to old = by (found_under cache key old) refl
  where
    by : (found : Option Found) → found_under cache key old ≡ found → Tells cache (sources.Key key) checked to old how (led_reply cache key (record { how = how; checked = checked; to = to }) old found)
    by None none = inl (refl, refl, none)
    by (Some f) finds = exported_tells cache (sources.Key key) checked to old how f.integrity (ap (option_map (λ (x : Found). x.integrity)) finds)

-- ---- results

-- it answers so, and leaves the tree if it is refused
abbrev pub Answered : List ℕ → Source → How → Bool → List ℕ → Reply → List LogItem → List LogItem → Type 0
Answered cache source how checked to r old new =
    OrMemory ((r ≡ export_reply cache source (record { how = how; checked = checked; to = to }) old) × StaysIfRefused r (tree_of old) (tree_of new)) r

pub fails_so : {X : Type 0} (answer : X → Reply) (r : Result X Error) (cache : List ℕ) (source : Source) (how : How) (checked : Bool) (to : List ℕ) (old new : List LogItem)
    → Answered cache source how checked to (reply_of answer r) old new → IfErr r (λ e. FailsExport cache source how checked to e old new)
fails_so answer r cache source how checked to old new h = grind (arith, of_refused, plain_tells, export_tells)

module _ {X : Type 0} (answer : X → Reply) (gives : (x : X) → IsGiven (answer x)) (r : Result X Error) (cache : List ℕ) (source : Source) (how : How) (checked : Bool) (to : List ℕ) (old new : List LogItem)
    (h : Answered cache source how checked to (reply_of answer r) old new) where
  abbrev e : Export
  e = record { how = how; checked = checked; to = to }

  so_fails : (wanted : Error) → export_reply cache source e old ≡ Refused wanted → FailsFor wanted r
  so_fails wanted is = fails_for answer gives r wanted (elim h [ inl m ↦ inl m | inr same ↦ inr (same.0 ∙ is) ])

by_key : (cache : List ℕ) (source : Source) (key : List ℕ) (e : Export) (old : List LogItem) → source ≡ sources.Key key → LacksKey cache key old → export_reply cache source e old ≡ Refused (EntryNotFound cache key)
by_key cache source key e old is lacks = ap (λ s. export_reply cache s e old) is ∙ ap (led_reply cache key e old) lacks

unmet_so : (made : Reply) (i : List Hash) (bytes : List ℕ) → (Meets i bytes → ⊥) → (b : Bool) → meets i bytes ≡ b
    → cond b made (Refused (IntegrityError (Check i (actual i bytes)))) ≡ Refused (IntegrityError (Check i (actual i bytes)))
unmet_so made i bytes unmet b is = grind (arith, meets_finds)

damaged_so : (cache to : List ℕ) (how : How) (checked : Bool) (i : List Hash) (fault : IntegrityFault) (old : List LogItem) → checked ≡ true → IsDamaged cache i fault old
    → exported_reply i (record { how = how; checked = checked; to = to }) (tree_of old) (lies_under cache i old) ≡ Refused (IntegrityError fault)
damaged_so cache to how checked i fault old first d = grind (arith, unmet_so)

-- nothing lies there
missing_so : (to : List ℕ) (checked : Bool) (i : List Hash) (t : Tree) → exported_reply i (record { how = Copy; checked = checked; to = to }) t None ≡ Refused (IoError faults.NotFound [])
missing_so to checked i t = grind (arith, common_steps)

-- or nothing can be made at the path
abbrev IsMissingOr : How → List ℕ → Tree → Reply → Type 0
IsMissingOr how to t r = (r ≡ Refused (IoError faults.NotFound [])) ⊎ ((fault : Fault) × (r ≡ Refused (IoError fault [])) × (made_at how t to ≡ Err fault))

by_path : (how : How) (to : List ℕ) (t : Tree) (w : Result Names Fault) → made_at how t to ≡ w → IsMissingOr how to t (or_told w (λ q. Refused (IoError faults.NotFound [])))
by_path how to t w is = grind (arith, common_steps)

missing_or : (to : List ℕ) (how : How) (checked : Bool) (i : List Hash) (t : Tree) → IsMissingOr how to t (exported_reply i (record { how = how; checked = checked; to = to }) t None)
missing_or to how checked i t = grind (arith, by_path)

-- an error with this fault gives it
path_told : (how : How) (to : List ℕ) (e : Error) (fault : Fault) (old : List LogItem) → without_message e ≡ IoError fault [] → made_at how (tree_of old) to ≡ Err fault → TellsPath how to e old
path_told how to e fault old same is = grind (arith, common_steps)

module _ {X : Type 0} (answer : X → Reply) (gives : (x : X) → IsGiven (answer x)) (r : Result X Error) (cache : List ℕ) (source : Source) (how : How) (checked : Bool) (to : List ℕ) (old new : List LogItem)
    (h : Answered cache source how checked to (reply_of answer r) old new) where
  abbrev asked : Export
  asked = record { how = how; checked = checked; to = to }

  pub refuses_so : RefusesSource cache source checked r old
  refuses_so = record {
    damaged = λ i fault first leads d.
        so_fails answer gives r cache source how checked to old new h (IntegrityError fault) (by_held cache source i asked old leads ∙ damaged_so cache to how checked i fault old first d);
    lacks = λ key is lacks. so_fails answer gives r cache source how checked to old new h (EntryNotFound cache key) (by_key cache source key asked old is lacks);
  }

  -- what is answered for a content that is missing
  missing_reply : (i : List Hash) → NamesHeld cache source i old → lies_under cache i old ≡ None → export_reply cache source asked old ≡ exported_reply i asked (tree_of old) None
  missing_reply i leads none = by_held cache source i asked old leads ∙ ap (exported_reply i asked (tree_of old)) none

  pub missing_fails : (i : List Hash) → NamesHeld cache source i old → lies_under cache i old ≡ None → FailsAs (λ e. (without_message e ≡ IoError faults.NotFound []) ⊎ TellsPath how to e old) r
  missing_fails i leads none = search (rules, missing_or, fails_too, so_fails, missing_reply, path_told)

-- a copy asks first what lies there
pub copy_missing : {X : Type 0} (answer : X → Reply) → ((x : X) → IsGiven (answer x)) → (r : Result X Error) (cache : List ℕ) (source : Source) (checked : Bool) (to : List ℕ) (old new : List LogItem)
    → Answered cache source Copy checked to (reply_of answer r) old new → (i : List Hash) → NamesHeld cache source i old → lies_under cache i old ≡ None → FailsFor (IoError faults.NotFound []) r
copy_missing answer gives r cache source checked to old new h i leads none =
    let asked : Export = record { how = Copy; checked = checked; to = to } in
    so_fails answer gives r cache source Copy checked to old new h (IoError faults.NotFound [])
    (by_held cache source i asked old leads ∙ ap (exported_reply i asked (tree_of old)) none ∙ missing_so to checked i (tree_of old))

-- ---- what exports gave and left

pub leaves : (cache : List ℕ) (source : Source) (how : How) (checked : Bool) (to : List ℕ) (r : Reply) (old new : List LogItem) → IsApart cache to → NamesSource source → IsCache cache old
    → Called cache (export_by how source checked to) r old new → LeavesKnownCache cache old new
leaves cache source how checked to r old new apart named sound c =
    let k = exports_keep cache source (record { how = how; checked = checked; to = to }) r old new apart named sound c in
    (k.0, k.1, calls_grow cache (export_by how source checked to) r old new c)

copied : (r : Result ℕ Error) (bytes to : List ℕ) (old new : List LogItem) → Arrives bytes to (reply_of Copied r) old new
    → MatchResult r (λ n. (shown (tree_of new) to ≡ Some bytes) × (n ≡ length bytes)) (λ e. IsExcused e old new)
copied r bytes to old new h = grind (arith, excused_error)

-- what arrived of any content
whole : (cache : List ℕ) (source : Source) (checked : Bool) (to : List ℕ) (r : Result ℕ Error) (old new : List LogItem) → NamesSource source → IsCache cache old
    → Called cache (export_by Copy source checked to) (reply_of Copied r) old new → IfOk r (λ n. HasArrived cache source checked to n old new)
whole cache source checked to r old new named sound c = grind (arith, has_arrived)

-- a source leads to one integrity
one_held : (cache : List ℕ) (source : Source) (i j : List Hash) (log : List LogItem) → NamesHeld cache source i log → NamesHeld cache source j log → j ≡ i
one_held cache source i j log one other = grind (arith, common_steps)

linked : (cache : List ℕ) (source : Source) (checked : Bool) (to target held : List ℕ) (i : List Hash) (r : Result ℕ Error) (old new : List LogItem) → NamesHeld cache source i old → LinksToFile cache i target held old
    → IfOk r (λ n. HasArrived cache source checked to n old new) → IfOk r (λ n. (shown (tree_of new) to ≡ Some held) × (n ≡ length held))
linked cache source checked to target held i r old new names at h = grind (arith, one_held, links_show)

pub copy_means : {C N : Type 0} (cache : List ℕ) (source : Source) (checked : Bool) (to : List ℕ) (r : Result ℕ Error) (new : Env (List LogItem) C N) → IsLog new.store → CopyMeans cache source checked to r new
copy_means cache source checked to r new logged old apart named sound ran =
    let c = called Copied (λ n. refl) r cache old.base 0 (exporting Copy checked source to) old.store new.store ran.0.0 logged in
    let answers : NamesFolder cache → Answered cache source Copy checked to (reply_of Copied r) old.store new.store
    = λ folder. exports_answer cache source (record { how = Copy; checked = checked; to = to }) (reply_of Copied r) old.store new.store folder named sound c in
    let any = whole cache source checked to r old.store new.store named sound c in
    record {
      leaves = leaves cache source Copy checked to (reply_of Copied r) old.store new.store apart named sound c;
      whole = any;
      linked = λ i target held names at. linked cache source checked to target held i r old.store new.store names at any;
      arrives = λ bytes has. copied r bytes to old.store new.store (exports_arrive cache bytes to Copy source checked (reply_of Copied r) old.store new.store apart sound has c);
      succeeds = λ bytes folder has may.
          for_memory Copied r (Copied (length bytes)) tt (exports_succeed cache bytes to Copy source checked (reply_of Copied r) old.store new.store folder (caches_stand cache old.store sound) has may c);
      fails = λ folder. fails_so Copied r cache source Copy checked to old.store new.store (answers folder);
      refuses = λ folder. refuses_so Copied (λ n. tt) r cache source Copy checked to old.store new.store (answers folder);
      missing = λ i folder. copy_missing Copied (λ n. tt) r cache source checked to old.store new.store (answers folder) i;
    }

shared : (r : Result (Unit {0}) Error) (bytes to : List ℕ) (old new : List LogItem) → Arrives bytes to (reply_of done r) old new
    → MatchResult r (λ u. shown (tree_of new) to ≡ Some bytes) (λ e. IsExcused e old new)
shared r bytes to old new h = grind (arith, excused_error)

-- ---- where an export may go

pub may_take : (how : How) (to : List ℕ) (log : List LogItem) → MayTake HardLink to log → MayTake how to log
may_take how to log may = grind (arith, free_writable)

pub is_given : (how : How) (bytes : List ℕ) → IsGiven (exported how bytes)
is_given how bytes = grind (arith, common_steps)

pub sharing_means : {C N : Type 0} (cache : List ℕ) (source : Source) (how : How) (checked : Bool) (to : List ℕ) (r : Result (Unit {0}) Error) (new : Env (List LogItem) C N) → IsLog new.store
    → SharingMeans cache source how checked to r new
sharing_means cache source how checked to r new logged old apart named sound ran =
    let c = called done (λ u. refl) r cache old.base 0 (exporting how checked source to) old.store new.store ran.0.0 logged in
    let answers : NamesFolder cache → Answered cache source how checked to (reply_of done r) old.store new.store
    = λ folder. exports_answer cache source (record { how = how; checked = checked; to = to }) (reply_of done r) old.store new.store folder named sound c in
    record {
      leaves = leaves cache source how checked to (reply_of done r) old.store new.store apart named sound c;
      arrives = λ bytes has. shared r bytes to old.store new.store (exports_arrive cache bytes to how source checked (reply_of done r) old.store new.store apart sound has c);
      succeeds = λ bytes folder has may.
          for_memory done r (exported how bytes) (is_given how bytes)
          (exports_succeed cache bytes to how source checked (reply_of done r) old.store new.store folder (caches_stand cache old.store sound) has (may_take how to old.store may) c);
      fails = λ folder. fails_so done r cache source how checked to old.store new.store (answers folder);
      refuses = λ folder. refuses_so done (λ u. tt) r cache source how checked to old.store new.store (answers folder);
      missing = λ i folder. missing_fails done (λ u. tt) r cache source how checked to old.store new.store (answers folder) i;
    }
