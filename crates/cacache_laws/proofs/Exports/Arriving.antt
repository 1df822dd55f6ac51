-- The bytes of a content are at the path where a copy of it went.
use Rattle.std.proofs.{lemmas.{Grind.{common_steps}, List.Elements.{All-head}}, Common.{rules, ◌≡◌, inl, inr, ℕ, Bool, true, false, cond, List, [], ◌∷◌, Option, None, Some, Result, Ok, Err, length, option_map, refl, sym, ap, subst, ◌∙◌, arith}}
use Rattle.cacache_core.specs.{declared.{errors.{Error.{Error, TheVariants.{IntegrityError, IoError}}, Fault.{Fault}, IntegrityFault.TheVariants.{Check}}, integrity.digest.Hash.{Hash}}, Integrity.{IsHash, IsIntegrity, Meets, actual}, Matching.{meets}, Paths.{Names, home_of, names_below, names_of, content_names, bucket_names_of}}
use Rattle.cacache_core.proofs.Meeting.{meets_finds}
use Rattle.sha1.specs.Sha1.{sha1}
use Rattle.cacache_core.specs.declared.errors.Fault.TheVariants as faults
use Rattle.cacache_store.specs.declared.store.answer.Answer.TheVariants as answers
use Rattle.cacache_store.specs.declared.store.log.LogItem.{LogItem}
use Rattle.cacache_store.specs.declared.store.step.Step.TheVariants as steps
use Rattle.cacache_disk.specs.{declared.luck.Luck.TheVariants.{Plain}, Apply.{apply}, LedTo.{writable}, Tree.{Tree}, Replay.{tree_of}}
use Rattle.cacache_entry.specs.Bucket.{Found}
use Rattle.cacache_calls.specs.declared.carried.Aim.TheVariants as aims
use Rattle.cacache_calls.specs.declared.command.Source.TheVariants as sources
use Rattle.cacache_calls.specs.{declared.{carried.Content.{Content}, command.{Export.{Export}, How.TheVariants.{Copy}, Source.{Source}}, reply.Reply.{Reply, TheVariants.{Copied, Refused}}}, Reading.{export, export_content}, State.{copying, looking, opening_file, over, to_verify}, Steps.{bucket_path, content_path}, Table.{opening}}
use Rattle.cacache_calls.proofs.Going.{cond_leads}
use Rattle.cacache_value.specs.{Shows.{blob_bytes}, Value.{Blob}}
use Rattle.cacache_history.{specs.History.{NamesSource}, proofs.Histories.ShownTurns.{bucket_below, content_below}}
use Rattle.cacache_laws.specs.{Caches.{Called, IsCache, lies_under, setup_at}, ExportAnswers.{blob_read, export_reply, exported_reply, led_reply, made_reply, or_told, verified_reply}, ExportEffects.{export_by}, Beside.{found_under}, results.Exports.{HasArrived, NamesHeld}}
use Rattle.cacache_laws.proofs.{Links.Linking.{nowhere}, Sure.{SureExports.{exports_told, read_too}, SureReads.{opens_as, told_all}, SureRuns.{EndsSo, ends, goes, of_log}}}

-- ---- what a count says

-- it is that of the bytes that the copy took
counted : (to : List ℕ) (t : Tree) (blob : Option Blob) (n : ℕ) → made_reply Copy to t blob ≡ Copied n → (bytes : List ℕ) × (blob_read faults.InvalidInput t blob ≡ Ok bytes) × (n ≡ length bytes)
counted to t blob n = search rules

module _ (to : List ℕ) (i : List Hash) (t : Tree) (blob : Option Blob) (n : ℕ) where
  -- so is the count of a copy that is verified first, and the bytes meet the integrity
  abbrev Takes : Bool → Type 0
  Takes checked = (bytes : List ℕ) × (blob_read faults.InvalidInput t blob ≡ Ok bytes) × (checked ≡ true → Meets i bytes) × (n ≡ length bytes)

  met : (b : Bool) (read : List ℕ) → blob_bytes t blob ≡ Ok read → meets i read ≡ b → cond b (made_reply Copy to t blob) (Refused (IntegrityError (Check i (actual i read)))) ≡ Copied n → Takes true
  met b read whole finds is = grind (arith, counted, read_too, meets_finds)

  takes : (checked : Bool) → exported_reply i (record { how = Copy; checked = checked; to = to }) t blob ≡ Copied n → Takes checked
  takes checked is = grind (arith, counted, met)

-- the source of what was copied leads to an integrity
leads_on : (cache : List ℕ) (source : Source) (e : Export) (log : List LogItem) (n : ℕ) → export_reply cache source e log ≡ Copied n
    → (i : List Hash) × NamesHeld cache source i log × (exported_reply i e (tree_of log) (lies_under cache i log) ≡ Copied n)
leads_on cache source e log n is = grind (arith, common_steps)

-- ---- a cache whose path names no folder

uncopied : (t : Tree) (path to : List ℕ) → names_of path ≡ Err faults.InvalidInput → apply t (steps.Copy path to) Plain ≡ (answers.Failed faults.InvalidInput, t)
unfolding apply
uncopied t path to below = rw (nowhere t path faults.InvalidInput faults.InvalidInput below) refl

module _ (cache to : List ℕ) (checked : Bool) (none : home_of cache ≡ None) (t : Tree) where
  -- what counts no bytes
  abbrev NoCount : Tree → Reply → Type 0
  NoCount new (Copied n) = ⊥
  NoCount new r = Unit {0}

  stopped : (e : Error) → EndsSo NoCount t (over (Refused e))
  stopped e = ends NoCount t (Refused e) tt

  abbrev asked : Export
  asked = record { how = Copy; checked = checked; to = to }

  by_hash : (i : List Hash) → IsIntegrity i → EndsSo NoCount t (export (record { cache = cache; integrity = i }) asked)
  by_hash [] formed = absurd (omega (arith, formed.nonempty))
  by_hash (h ∷ hs) formed =
      let k : Content = record { cache = cache; integrity = h ∷ hs } in
      let path = content_path cache (h ∷ hs) in
      let below : names_of path ≡ Err faults.InvalidInput = content_below (setup_at cache []) h hs (All-head IsHash h hs formed.hashes) ∙ ap (λ o. names_below o (content_names h)) none in
      cond_leads (EndsSo NoCount t) checked (opening_file (to_verify k asked)) (export_content k asked None)
      (λ _. goes NoCount t t (opening_file (to_verify k asked)) (steps.Open path) (answers.Failed faults.InvalidInput) refl (opens_as t path (Err faults.InvalidInput) (nowhere t path faults.InvalidInput faults.IsADirectory below)) (stopped (IoError faults.InvalidInput [])))
      (λ _. goes NoCount t t (copying path to None) (steps.Copy path to) (answers.Failed faults.InvalidInput) refl (uncopied t path to below) (stopped (IoError faults.InvalidInput [])))

  by_key : (key : List ℕ) → EndsSo NoCount t (looking (record { cache = cache; key = key; aim = aims.Export asked }))
  by_key key =
      let path = bucket_path cache key in
      let below : names_of path ≡ Err faults.InvalidInput = bucket_below (setup_at cache []) key ∙ ap (λ o. names_below o (bucket_names_of (sha1 key))) none in
      goes NoCount t t (looking (record { cache = cache; key = key; aim = aims.Export asked })) (steps.ReadAll path) (answers.Failed faults.InvalidInput) refl
      (told_all t path (Err faults.InvalidInput) (nowhere t path faults.InvalidInput faults.IsADirectory below)) (stopped (IoError faults.InvalidInput []))

  by_source : (base : List ℕ) (number : ℕ) (source : Source) → NamesSource source → EndsSo NoCount t (opening (record { cache = cache; base = base; number = number }) (export_by Copy source checked to))
  by_source base number source formed = grind (arith, by_hash, by_key)

-- ---- a copy

-- one that answered a count left what lies under the integrity that its source leads to
pub has_arrived : (cache to : List ℕ) (source : Source) (checked : Bool) (n : ℕ) (old new : List LogItem) → NamesSource source → IsCache cache old
    → Called cache (export_by Copy source checked to) (Copied n) old new → HasArrived cache source checked to n old new
has_arrived cache to source checked n old new formed sound c = by (home_of cache) refl
  where
    by : (home : Option Names) → home_of cache ≡ home → HasArrived cache source checked to n old new
    by None is =
        let s = opening (record { cache = cache; base = c.base; number = c.number }) (export_by Copy source checked to) in
        elim (of_log (NoCount cache to checked is (tree_of old)) s (Copied n) old new (by_source cache to checked is (tree_of old) c.base c.number source formed) c.ran c.logged) [ inl e ↦ absurd cc | inr never ↦ absurd never ]
    by (Some home) is =
        let e : Export = record { how = Copy; checked = checked; to = to } in
        elim (exports_told cache home is source e (Copied n) old new formed sound c) [
          | inl e ↦ absurd cc
          | inr h ↦
              let l = leads_on cache source (record { how = Copy; checked = checked; to = to }) old n (sym h.0) in
              let k = takes to l.0 (tree_of old) (lies_under cache l.0 old) n checked l.2 in
              record {
                integrity = l.0;
                names = l.1;
                bytes = k.0;
                lies = read_too (tree_of old) (lies_under cache l.0 old) k.0 k.1;
                meets = k.2;
                shows = h.2 l.0 l.1 k.0 k.1;
                counts = k.3;
              }
        ]
