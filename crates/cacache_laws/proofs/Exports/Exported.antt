-- Each export of bytes that are there leaves them at its path, or fails for a step of its own or for memory.
use Rattle.std.proofs.Common.{arith, ◌≡◌, inl, inr, ℕ, Bool, List, Option, None, Some, option_map, Result, Ok, Err, length, refl, sym, ap, subst, ◌∙◌}
use Rattle.cacache_laws.specs.{ExportEffects.{NamesBytes, IsApart, Arrives, export_by}, CallErrors.{FailsOnly}, Caches.{IsCache, HasContent, HasKey, Called}, Inserts.{leads_to}, ExportAnswers.{exported_reply, made_reply, or_told}, results.Exports.{NamesHeld}}
use Rattle.cacache_laws.proofs.{Exports.ExportEffects.{exports_apart}, Readings.Known.{Known, excuse, known}, Sure.{SureExports.{Shows, Told, by_held, exports_told}, SureCopies.{passes}}}
use Rattle.cacache_core.specs.{declared.{errors.Fault.{Fault}, integrity.digest.Hash.{Hash}}, Paths.{Names, home_of}, Integrity.{address}}
use Rattle.cacache_store.specs.declared.store.log.LogItem.{LogItem}
use Rattle.cacache_disk.specs.{Tree.{Tree}, LedTo.{free, writable}, Replay.{shown, tree_of}}
use Rattle.cacache_calls.specs.{declared.{command.{Export.{Export}, How.{How, TheVariants.{Copy, Reflink, HardLink}}, Source.{Source}}, reply.Reply.{Reply}}, Replies.{OrMemory}}
use Rattle.cacache_calls.specs.declared.command.Source.TheVariants as sources
use Rattle.cacache_calls.specs.declared.reply.Reply.TheVariants as replies
use Rattle.cacache_value.specs.Value.{InFile, value_of_tree}
use Rattle.cacache_history.specs.{History.{NamesSource}, Turns.{blob_at}}
use Rattle.cacache_entry.specs.Bucket.{Found}

-- how an export of these bytes may end
abbrev Ends : List ℕ → List ℕ → Tree → Reply → Type 0
Ends bytes to t (replies.Copied n) = (shown t to ≡ Some bytes) × (n ≡ length bytes)
Ends bytes to t replies.Done = shown t to ≡ Some bytes
Ends bytes to t (replies.Refused e) = FailsOnly (replies.Refused e)
Ends bytes to t r = ⊥

done_ends : (to bytes : List ℕ) (new : Tree) (old : Tree) (w : Result Names Fault) → Shows to old (Some (InFile bytes)) new (or_told w (λ q. replies.Done)) → Ends bytes to new (or_told w (λ q. replies.Done))
done_ends to bytes new old (Ok q) shows = shows bytes refl
done_ends to bytes new old (Err fault) shows = tt

-- if it answers so, and shows them unless it is refused
made_ends : (how : How) (to bytes : List ℕ) (t new : Tree) → Shows to t (Some (InFile bytes)) new (made_reply how to t (Some (InFile bytes))) → Ends bytes to new (made_reply how to t (Some (InFile bytes)))
made_ends Copy to bytes t new = by (writable t to)
  where
    by : (w : Result Names Fault) → Shows to t (Some (InFile bytes)) new (or_told w (λ q. replies.Copied (length bytes))) → Ends bytes to new (or_told w (λ q. replies.Copied (length bytes)))
    by (Ok q) shows = (shows bytes refl, refl)
    by (Err fault) shows = tt
made_ends Reflink to bytes t new = done_ends to bytes new t (free t to)
made_ends HardLink to bytes t new = done_ends to bytes new t (free t to)

module _ (cache bytes to : List ℕ) (i : List Hash) (how : How) (source : Source) (checked : Bool) (r : Reply) (old new : List LogItem) (sound : IsCache cache old) (leads : NamesHeld cache source i old) (has : HasContent cache i bytes old) (named : NamesSource source)
    (c : Called cache (export_by how source checked to) r old new) where
  abbrev e : Export
  e = record { how = how; checked = checked; to = to }

  told_ends : OrMemory (Told cache source e r old new) r → Ends bytes to (tree_of new) r
  told_ends (inl memory) = subst (Ends bytes to (tree_of new)) (sym memory) tt
  told_ends (inr h) =
      let is : r ≡ made_reply how to (tree_of old) (Some (InFile bytes))
      = h.0 ∙ by_held cache source i e old leads ∙ ap (exported_reply i e (tree_of old)) has.content ∙ passes checked how to bytes i (tree_of old) has.meets in
      subst (Ends bytes to (tree_of new)) (sym is) (made_ends how to bytes (tree_of old) (tree_of new) (subst (Shows to (tree_of old) (Some (InFile bytes)) (tree_of new)) is
      (subst (λ blob. Shows to (tree_of old) blob (tree_of new) r) has.content (h.2 i leads))))

  -- a cache whose path names no folder has no content
  ends : Ends bytes to (tree_of new) r
  ends = by (home_of cache) refl
    where
      by : (home : Option Names) → home_of cache ≡ home → Ends bytes to (tree_of new) r
      by None is = absurd (none (address i) (subst (λ h. blob_at (value_of_tree h (tree_of old)) (address i) ≡ Some (InFile bytes)) is has.content))
        where
          none : (a : Option Hash) → blob_at (value_of_tree None (tree_of old)) a ≡ Some (InFile bytes) → ⊥
          none None lies = cc
          none (Some h) lies = cc
      by (Some home) is = told_ends (exports_told cache home is source e r old new named sound c)

key_leads : (cache key : List ℕ) (i : List Hash) (bytes : List ℕ) (log : List LogItem) → HasKey cache key i bytes log → leads_to cache key log ≡ Some i
key_leads cache key i bytes log has = ap (option_map (λ (f : Found). f.integrity)) has.finds ∙ ap Some has.integrity

-- what holds of the tree in the end, and why it fails
arrives_so : (cache base bytes to : List ℕ) (how : How) (source : Source) (checked : Bool) (r : Reply) (old new : List LogItem) → Known cache base (export_by how source checked to) r old new → Ends bytes to (tree_of new) r → Arrives bytes to r old new
arrives_so cache base bytes to how source checked r old new k h = grind (arith, excuse)

-- an export of bytes that are there, to a path apart from the cache, fails only for a step of its own or for memory
pub exports_arrive : (cache bytes to : List ℕ) (how : How) (source : Source) (checked : Bool) (r : Reply) (old new : List LogItem)
    → IsApart cache to → IsCache cache old → NamesBytes cache source bytes old → Called cache (export_by how source checked to) r old new
    → Arrives bytes to r old new
exports_arrive cache bytes to how (sources.Hash i) checked r old new apart sound has c =
    arrives_so cache c.base bytes to how (sources.Hash i) checked r old new (known cache (export_by how (sources.Hash i) checked to) r old new c (exports_apart cache c.base to apart) has.formed sound)
    (ends cache bytes to i how (sources.Hash i) checked r old new sound refl has has.formed c)
exports_arrive cache bytes to how (sources.Key key) checked r old new apart sound has c =
    arrives_so cache c.base bytes to how (sources.Key key) checked r old new (known cache (export_by how (sources.Key key) checked to) r old new c (exports_apart cache c.base to apart) tt sound)
    (ends cache bytes to has.0 how (sources.Key key) checked r old new sound (key_leads cache key has.0 bytes old has.1) has.1.content tt c)
