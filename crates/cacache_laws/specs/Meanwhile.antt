-- What a collection keeps while others write: a listing of the index, and removals of what it
-- doesn't name.
use Rattle.std.specs.Prelude.{◌≡◌, ◌≤◌, ◌<◌, ◌++◌, ℕ, List, [], ◌∷◌, None, Some, Ok, take}
use Rattle.cacache_core.specs.{declared.integrity.digest.Hash.{Hash}, Integrity.{IsIntegrity, address}}
use Rattle.cacache_store.specs.declared.store.step.Step.TheVariants.{RemoveFile}
use Rattle.cacache_store.specs.declared.store.answer.Answer.TheVariants as answers
use Rattle.cacache_disk.specs.declared.luck.Luck.TheVariants.{Plain}
use Rattle.cacache_entry.specs.Bucket.{Found}
use Rattle.cacache_calls.specs.{declared.{command.{Command.{Command}, Put.{Put}}, reply.Reply.TheVariants.{Done, Listed, Stored}}, Replies.{In}, State.{Item}, Steps.{content_path}}
use Rattle.cacache_calls.specs.declared.command.Command.TheVariants as commands
use Rattle.cacache_history.specs.{declared.record.Record.{Record, TheVariants.{Began, Moved}}, AddedEntries.{IsContentOf, address_of_put}, Commits.{FoundFirst}, History.{History, Turn, Call, IsLegal, now_at}, Lookups.{SparesKey, lookup_at}, Places.{now_before, CallIn, MoveAt, MovesAre}, Setup.{Setup}, Values.{IsThere, value_at}}
use Rattle.cacache_laws.specs.{ListedKeys.{AreAllFound}, results.DurableCases.{followed_by}}

-- ---- what a listing names

-- from place m on and before place n the key leads to this entry
abbrev pub LeadsWhile : History → ℕ → ℕ → List ℕ → Found → Type 0
LeadsWhile h m n key found =
    (place : ℕ) → m ≤ place → place < n → lookup_at h place key ≡ Some found

-- the call is a listing from place m on, answered before place n with these items, none an error
pub record ListsAllIn (h : History) (m n caller : ℕ) (call : Call) (items : List Item)
    : Type 0 where
  pub command_is : call.command ≡ commands.Ls
  pub answered : CallIn h m n caller call (Some (Listed items))
  pub all : AreAllFound items

-- it names the entry of each key that led to it from its beginning to its answer
abbrev pub ListingsName : Type 0
ListingsName =
    (h : History) → IsLegal h → (m n caller : ℕ) (call : Call) (items : List Item)
    (key : List ℕ) (found : Found) → ListsAllIn h m n caller call items → LeadsWhile h m n key found
    → In (Ok found) items

-- ---- what removals spare

-- a call of this command with these turns so far doesn't remove the content at an address; that of
-- a key removes what its own lookup found
abbrev pub SparesAddress : Setup → Hash → List Turn → Command → Type 0
SparesAddress s a turns (commands.RemoveHash i) = address i ≡ Some a → ⊥
SparesAddress s a turns (commands.RemoveFully key) =
    (found : Found) → FoundFirst s.cache key turns found → address found.integrity ≡ Some a → ⊥
SparesAddress s a turns commands.Clear = ⊥
SparesAddress s a turns command = Unit {0}

-- each move from place m on and before place n is of a call that has this property there
abbrev pub CallsAre : History → ℕ → ℕ → (Call → Type 0) → Type 0
CallsAre h m n P =
    (place caller : ℕ) (call : Call) → m ≤ place → place < n → MoveAt h place caller
    → (now_before h place).calls caller ≡ Some call → P call

-- each such call spares the content at an address
abbrev pub AllSpare : History → ℕ → ℕ → Hash → Type 0
AllSpare h m n a = CallsAre h m n (λ call. SparesAddress h.setup a call.turns call.command)

-- each spares the contents that the items name
abbrev pub AllSpareListed : History → ℕ → ℕ → List Item → Type 0
AllSpareListed h m n items =
    (found : Found) (a : Hash) → In (Ok found) items → address found.integrity ≡ Some a
    → AllSpare h m n a

-- ---- what is kept

-- a content of this address is there at a place: a link, or bytes with the digest of the address
abbrev pub HoldsContent : History → ℕ → Hash → Type 0
HoldsContent h place a = IsContentOf a ((value_at h (take place h.records)).contents a)

-- at a place the key leads to this entry, and the content that it names is there
abbrev pub LeadsToContent : History → ℕ → List ℕ → Found → Type 0
LeadsToContent h place key found =
    (lookup_at h place key ≡ Some found)
    × (a : Hash) × (address found.integrity ≡ Some a) × HoldsContent h place a

-- if a key leads to a content when a listing begins, and each call spares the key, it still does
-- after any removals since of contents that the listing doesn't name
abbrev pub CollectionsKeep : Type 0
CollectionsKeep =
    (h : History) → IsLegal h → (m between n caller : ℕ) (call : Call) (items : List Item)
    (key : List ℕ) (found : Found) → ListsAllIn h m between caller call items → between ≤ n
    → MovesAre h m n (SparesKey key) → AllSpareListed h m n items → LeadsToContent h m key found
    → LeadsToContent h n key found

-- the content of a put that answered is there, if each call since it began spares it
abbrev pub PutsKeep : Type 0
PutsKeep =
    (h : History) → IsLegal h → (m n caller : ℕ) (call : Call) (p : Put) (i : List Hash)
    → call.command ≡ commands.Put p → CallIn h m n caller call (Some (Stored i))
    → AllSpare h m n (address_of_put p) → HoldsContent h n (address_of_put p)

-- ---- what can't be kept

-- the records of a caller's removal of what is at an integrity's address
abbrev pub removal_of : History → ℕ → List Hash → List Record
removal_of h caller i =
    Began caller (commands.RemoveHash i)
    ∷ Moved caller Plain (Some (RemoveFile (content_path h.setup.cache i), answers.Done))
    (Some Done) ∷ []

-- whatever was listed before, a caller that has no call may remove a content that is there, such as
-- that of a put since: each legal history goes on so, and then the content is gone
abbrev pub RemovalsMayCome : Type 0
RemovalsMayCome =
    (h : History) → IsLegal h → (caller : ℕ) (a : Hash) (hs : List Hash)
    → caller < h.setup.callers → (now_at h h.records).calls caller ≡ None
    → IsIntegrity (a ∷ hs) → IsThere ((value_at h h.records).contents a)
    → IsLegal (followed_by h (removal_of h caller (a ∷ hs)))
    × ((value_at h (h.records ++ removal_of h caller (a ∷ hs))).contents a ≡ None)
