-- What a collection leaves.
use Rattle.std.specs.{Prelude.{◌≡◌, ◌++◌, ℕ, Bool, true, false, not, List, [], ◌∷◌, Option, None, Some, Ok, Contains, filter, length, map}, List.{list_any}}
use Rattle.cacache_core.specs.{declared.integrity.digest.Hash.{Hash}, Integrity.{IsHash, address}, Comparing.{same_hash}, Laws.{IsKeyDigest}, Paths.{Names, home_of, joined, content_names}}
use Rattle.cacache_store.specs.declared.store.{log.LogItem.{LogItem}, step.Step.TheVariants.{RemoveFile}, answer.Answer.TheVariants.{Done}}
use Rattle.cacache_disk.specs.{declared.{luck.Luck.TheVariants.{Plain}, node.Node.TheVariants.{Link}}, Tree.{Tree, look}, Apply.{apply}, Replay.{tree_of}}
use Rattle.cacache_entry.specs.Bucket.{Found}
use Rattle.cacache_calls.specs.declared.command.Command.TheVariants as commands
use Rattle.cacache_calls.specs.{declared.reply.Reply.{Reply}, State.{Site, Item}}
use Rattle.cacache_value.specs.Kinds.{Elsewhere, IsFor}
use Rattle.cacache_laws.specs.{Caches.{IsCache}, trees.{Contents.{HoldsJust, bucket_in, content_in}, Answers.{AnswersOn}, Index.{IndexLists}}}

-- each link leads out of the cache
abbrev pub LinksLeadOut : Names → Tree → Type 0
LinksLeadOut home t =
    (names : Names) (target : List ℕ) → look t names ≡ Some (Link target)
    → IsFor (Some home) Elsewhere target

-- so they do in a cache that only calls wrote to
abbrev pub CachesLinkOut : Type 0
CachesLinkOut =
    (cache : List ℕ) (home : Names) (log : List LogItem)
    → home_of cache ≡ Some home → IsCache cache log → LinksLeadOut home (tree_of log)

-- an item of a listing has this address
abbrev pub IsLive : List Item → Hash → Type 0
IsLive items h = (found : Found) × Contains items (Ok found) × (address found.integrity ≡ Some h)

-- the tree after these contents were removed, one after another, and each was there
abbrev pub Removes : List ℕ → List Hash → Tree → Tree → Type 0
Removes cache [] t new = new ≡ t
Removes cache (h ∷ hs) t new =
    ((apply t (RemoveFile (joined cache (content_names h))) Plain).0 ≡ Done)
    × Removes cache hs (apply t (RemoveFile (joined cache (content_names h))) Plain).1 new

-- the value holds no removed content, all others as before, and the buckets as before
pub record IsCollected (home : Names) (dropped : List Hash) (t new : Tree) : Type 0 where
  pub gone : (h : Hash) → Contains dropped h → content_in home new h ≡ None
  pub kept : (h : Hash) → IsHash h → (Contains dropped h → ⊥)
      → content_in home new h ≡ content_in home t h
  pub buckets : (digest : List ℕ) → IsKeyDigest digest
      → bucket_in home new digest ≡ bucket_in home t digest

-- ---- a collection

-- the hash is this address, if there is one
abbrev pub is_address : Option Hash → Hash → Bool
is_address None h = false
is_address (Some g) h = same_hash g h

-- the hash is the address of one of the entries
abbrev pub is_live : List Found → Hash → Bool
is_live entries h = list_any (λ f. is_address (address f.integrity) h) entries

-- of the contents that the cache held, those at live addresses are left, as many as were kept; the
-- others were dropped, and are gone; the buckets are as they were, and so is the rest of the tree
pub record LeavesLive
    (site : Site) (home : Names) (t new : Tree)
    (kept : ℕ) (dropped : List (List Hash)) : Type 0 where
  pub hashes : List Hash
  pub strange : List (List ℕ)
  pub contents : HoldsJust site.cache home t hashes strange
  pub entries : List Found
  pub index : IndexLists site t entries
  pub counted : kept ≡ length (filter (is_live entries) hashes)
  pub others : dropped ≡ map (λ h. h ∷ []) (filter (λ h. not (is_live entries h)) hashes)
  pub left : (h : Hash) → IsHash h → is_live entries h ≡ true
      → content_in home new h ≡ content_in home t h
  pub gone : (h : Hash) → IsHash h → is_live entries h ≡ false
      → content_in home new h ≡ None
  pub buckets : (digest : List ℕ) → IsKeyDigest digest
      → bucket_in home new digest ≡ bucket_in home t digest
  pub rest : (names : Names)
      → ((h : Hash) → IsHash h → is_live entries h ≡ false → names ≡ home ++ content_names h → ⊥)
      → look new names ≡ look t names

-- each lookup, each verified read by key and each listing of the index that is made on the new tree
-- answers what it may answer on the old one
pub record ReadsAsBefore (site : Site) (t new : Tree) : Type 0 where
  pub finds : (key : List ℕ) (r : Reply)
      → AnswersOn site new (commands.Find key) r → AnswersOn site t (commands.Find key) r
  pub gets : (key : List ℕ) (r : Reply)
      → AnswersOn site new (commands.Get key) r → AnswersOn site t (commands.Get key) r
  pub lists : (r : Reply) → AnswersOn site new commands.Ls r → AnswersOn site t commands.Ls r
