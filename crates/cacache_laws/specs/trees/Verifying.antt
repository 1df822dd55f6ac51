-- What a verification counts and finds on a tree, and what a repair leaves of contents.
use Rattle.std.specs.Prelude.{◌≡◌, ℕ, List, [], ◌∷◌, Bool, false, not, Result, Ok, Err, filter, length, map, true, Option, None, Some}
use Rattle.cacache_core.specs.{declared.{errors.Fault.{Fault}, integrity.digest.Hash.{Hash}}, Matching.{meets}, Paths.{Names, home_of}, Integrity.{IsHash}}
use Rattle.cacache_store.specs.{declared.store.{step.Step.TheVariants.{Exists}, answer.Answer.TheVariants.{There}}, Plain.{PlainAnswer}}
use Rattle.cacache_disk.specs.{declared.luck.Luck.TheVariants.{Plain}, Tree.{Tree}, Apply.{apply}}
use Rattle.cacache_entry.specs.Bucket.{Found, latest}
use Rattle.cacache_calls.specs.{State.{Site}, Steps.{content_path}, declared.{command.Delete.{Delete}, reply.Reply.TheVariants.{Done}}, Inserting.{deletion}, Runs.{Moves, Runs}, Sound.{FormedIfWritten}, Table.{opening}}
use Rattle.cacache_value.specs.{Shows.{blob_bytes}, Placed.{Placed}, Value.{InFile}}
use Rattle.cacache_laws.specs.{trees.{Contents.{HoldsJust, content_in}, Index.{IndexLists}}, ReadAnswers.{entries_on}, Sequence.{tree_on, AreAnswered}}
use Rattle.cacache_calls.specs.declared.command.Command.TheVariants as commands

-- ---- good contents

-- what was read are bytes, and they meet the integrity
abbrev pub is_met : List Hash → Result (List ℕ) Fault → Bool
is_met i (Ok bytes) = meets i bytes
is_met i (Err fault) = false

-- the bytes of the content at the address, through its link if it is one, meet it
abbrev pub is_good : Names → Tree → Hash → Bool
is_good home t h = is_met (h ∷ []) (blob_bytes t (content_in home t h))

-- ---- entries whose content is there

-- the answer is a yes
abbrev pub says_yes : PlainAnswer → Bool
says_yes (There there) = there
says_yes answer = false

-- the disk says yes to the question for the entry's content
abbrev pub has_content : List ℕ → Tree → Found → Bool
has_content cache t found =
    says_yes (apply t (Exists (content_path cache found.integrity)) Plain).0

-- ---- the verdict

-- so many of the contents are good, the others are damaged; these entries of the index have no
-- content, and these paths are strange
pub record Judges
    (site : Site) (home : Names) (t : Tree) (good : ℕ) (damaged : List (List Hash))
    (dangling : List Found) (strange : List (List ℕ)) : Type 0 where
  pub hashes : List Hash
  pub contents : HoldsJust site.cache home t hashes strange
  pub counted : good ≡ length (filter (is_good home t) hashes)
  pub broken : damaged ≡ map (λ h. h ∷ []) (filter (λ h. not (is_good home t h)) hashes)
  pub entries : List Found
  pub index : IndexLists site t entries
  pub absent : dangling ≡ filter (λ f. not (has_content site.cache t f)) entries

-- ---- what a repair leaves of contents, if all that lies in the cache's folder has its place

-- each thing has its place in the new tree, and it holds the contents of the old one
pub record KeepsContents (home : Names) (t new : Tree) : Type 0 where
  pub placed : Placed (Some home) new
  pub contents : (h : Hash) → content_in home new h ≡ content_in home t h

-- ---- a repair

-- the good contents are as they were, and the others are gone; so each content that is a file meets
-- its address
pub record LeavesGood (home : Names) (t new : Tree) : Type 0 where
  pub kept : (h : Hash) → IsHash h → is_good home t h ≡ true
      → content_in home new h ≡ content_in home t h
  pub gone : (h : Hash) → IsHash h → is_good home t h ≡ false → content_in home new h ≡ None
  pub whole : (h : Hash) (bytes : List ℕ) → IsHash h
      → content_in home new h ≡ Some (InFile bytes) → meets (h ∷ []) bytes ≡ true

-- ---- keys

-- what a lookup of the key finds in the tree
abbrev pub found_in : Names → Tree → List ℕ → Option Found
found_in home t key = latest key (entries_on (Some home) t key)

-- the key leads to nothing, and each other key leads where it led
pub record Hides (home : Names) (key : List ℕ) (t new : Tree) : Type 0 where
  pub own : found_in home new key ≡ None
  pub others : (other : List ℕ) → (other ≡ key → ⊥)
      → found_in home new other ≡ found_in home t other

-- so it is after a call that added the key's tombstone
abbrev pub TombstonesHide : Type 0
TombstonesHide =
    (site : Site) (home : Names) (d : Delete) (moves : Moves) (t : Tree)
    → home_of site.cache ≡ Some home → FormedIfWritten (deletion site.cache d)
    → Runs (opening site (commands.Delete d)) moves Done → AreAnswered t moves
    → Placed (Some home) t → Hides home d.key t (tree_on t moves)
