-- What a repair does, over any store.
use Rattle.std.specs.{Prelude.{if◌then◌else◌, ◌≡◌, ◌⊎◌, ◌++◌, ◌<◌, ◌^◌, All, IsUtf8, ℕ, List, [], ◌∷◌, Bool, true, false, Option, None, Some, filter, map, not}, List.{flat_map}}
use Rattle.cacache_core.specs.declared.{errors.Error.{Error}, integrity.digest.Hash.{Hash}}
use Rattle.cacache_store.specs.declared.store.log.LogItem.{LogItem}
use Rattle.cacache_entry.specs.Bucket.{Found}
use Rattle.cacache_calls.specs.{declared.{command.Command.{Command}, reply.Reply.{Reply}}, State.{Site}, Table.{opening}, Runs.{Ran, without_message}}
use Rattle.cacache_calls.specs.declared.command.Command.TheVariants as commands
use Rattle.cacache_calls.specs.declared.reply.Reply.TheVariants as replies
use Rattle.cacache_sync.specs.Lookups.{delete_of}
use Rattle.cacache_walks.specs.Listing.{IsByHash, ListsContents, StopsListing}
use Rattle.cacache_keep.specs.{declared.checking.OddLines.{OddLines}, Checking.{Allows, ReadsIndex, RefusesOdd}, Calls.{AsksEach, MadeCalls, SaysWhy, StopsQuestions, StopsIndex, StopsRemoving, removal}, Missing.{Doubts, Look, ShowsContents, StopsShowing, is_missing}, Reading.{ReadsEach, StopsEach}}

-- ---- a key that may lead to no content

-- what a key leads to: an entry, and whether its content is there
abbrev pub Led : Type 0
Led = Option (Found × Bool)

-- whether it leads to an entry whose content isn't there
abbrev pub leads_nowhere : Led → Bool
leads_nowhere None = false
leads_nowhere (Some led) = not led.1

-- a lookup of the key, and a question for the content of what it finds, as calls
abbrev pub looks_of : List ℕ → Led → List (Command × Reply)
looks_of key None = (commands.Find key, replies.LookedUp None) ∷ []
looks_of key (Some led) =
    (commands.Find key, replies.LookedUp (Some led.0))
    ∷ (commands.Exists led.0.integrity, replies.Exists led.1) ∷ []

-- if the content isn't there by that question, the look at the contents doesn't show it either
abbrev pub IsSure : List ℕ → Look → Led → Type 0
IsSure cache look None = Unit {0}
IsSure cache look (Some led) = led.1 ≡ false → is_missing cache look led.0.integrity ≡ true

-- the log gained these calls, which say whether the key leads to an entry whose content is missing
abbrev pub LooksUp :
    Site → Look → List ℕ → Bool → Option (List LogItem) → Option (List LogItem) → Type 0
LooksUp site look key nowhere old new =
    (led : Led) × (nowhere ≡ leads_nowhere led) × IsSure site.cache look led
    × MadeCalls site (looks_of key led) old new

-- the log gained a question for the content, and one that is lost is missing
abbrev pub AsksFor :
    Site → Look → List Hash → Bool → Option (List LogItem) → Option (List LogItem) → Type 0
AsksFor site look i lost old new =
    Ran (opening site (commands.Exists i)) (replies.Exists (not lost)) old new
    × (lost ≡ true → is_missing site.cache look i ≡ true)

-- a key, what it led to, and the moment of its tombstone, if it got one
pub record Fate : Type 0 where
  pub key : List ℕ
  pub led : Led
  pub moment : ℕ

-- a tombstone that is added, as a call
abbrev pub tombstone : List ℕ → ℕ → Command × Reply
tombstone key moment = (commands.Delete (delete_of key moment), replies.Done)

-- whether a key got one: it led to an entry whose content isn't there
abbrev pub is_buried : Fate → Bool
is_buried f = leads_nowhere f.led

-- what was asked for a key, and its tombstone, if it got one
abbrev pub calls_for : Fate → List (Command × Reply)
calls_for f =
    looks_of f.key f.led ++ (if is_buried f then tombstone f.key f.moment ∷ [] else [])

-- the log gained these calls for the key, which say whether it is spared
abbrev pub BuriesKey :
    Site → Look → List ℕ → Bool → Option (List LogItem) → Option (List LogItem) → Type 0
BuriesKey site look key spared old new =
    (fate : Fate) × (fate.key ≡ key)
    × (fate.moment < 2 ^ 64) × (spared ≡ not (is_buried fate))
    × IsSure site.cache look fate.led × MadeCalls site (calls_for fate) old new

-- the fate is that of the entry's key, which is a text; its moment is one
abbrev pub IsFateOf : Found × Fate → Type 0
IsFateOf f = (f.1.key ≡ f.0.key) × IsUtf8 f.1.key × (f.1.moment < 2 ^ 64)

-- the log gained these calls for the keys of these entries, in turn; those that got a tombstone are
-- reported, and each of their contents is missing by this look
pub record BuriesEach
    (site : Site) (look : Look) (entries buried : List Found)
    (old new : Option (List LogItem)) : Type 0 where
  pub fates : List (Found × Fate)
  pub each : map (λ f. f.0) fates ≡ entries
  pub keys : All IsFateOf fates
  pub sure : All (λ f. IsSure site.cache look f.1.led) fates
  pub calls : MadeCalls site (flat_map (λ f. calls_for f.1) fates) old new
  pub which : buried ≡ map (λ f. f.0) (filter (λ f. is_buried f.1) fates)

-- the log gained a look at the contents and these calls; for no entry it gained nothing
abbrev pub BuriesAll :
    Site → List Found → List Found → Option (List LogItem) → Option (List LogItem) → Type 0
BuriesAll site [] buried old new = (buried ≡ []) × (new ≡ old)
BuriesAll site (f ∷ entries) buried old new =
    (look : Look) × (looked : Option (List LogItem)) × ShowsContents site.cache look old looked
    × BuriesEach site look (f ∷ entries) buried looked new

-- ---- a repair

-- Of a cache whose index has these entries, the contents are listed, and each is read; the damaged ones
-- are removed, one after another. Then of each entry is asked whether its content is there, and the keys
-- of those whose content is missing get tombstones, unless they lead elsewhere.
pub record RepairsFrom
    (site : Site) (entries : List Found) (damaged : List (List Hash)) (buried : List Found)
    (old new : Option (List LogItem)) : Type 0 where
  pub addresses : List (List Hash)
  pub order : IsByHash addresses
  pub strange : List (List ℕ)
  pub found : Option (List LogItem)
  pub contents : ListsContents site.cache addresses strange old found
  pub good : ℕ
  pub read : Option (List LogItem)
  pub reading : ReadsEach site.cache addresses good damaged found read
  pub removed : Option (List LogItem)
  pub removing : MadeCalls site (map removal damaged) read removed
  pub dangling : List Found
  pub asked : Option (List LogItem)
  pub asking : AsksEach site entries dangling removed asked
  pub burying : BuriesAll site dangling buried asked new

-- so it is after a listing of the index, which read no odd line, if these are refused
abbrev pub RepairsWith : OddLines → Site → List (List Hash) → List Found
    → Option (List LogItem) → Option (List LogItem) → Type 0
RepairsWith choice site damaged buried old new =
    (entries : List Found) × (odd : List (List ℕ)) × (listed : Option (List LogItem))
    × ReadsIndex site entries odd old listed × Allows choice odd
    × RepairsFrom site entries damaged buried listed new

-- with one choice about them or the other
abbrev pub RepairsCache : Site → List (List Hash) → List Found
    → Option (List LogItem) → Option (List LogItem) → Type 0
RepairsCache site damaged buried old new =
    (choice : OddLines) × RepairsWith choice site damaged buried old new

-- ---- errors

-- the command looks up a key or asks for a content
abbrev pub LooksOrAsks : Command → Type 0
LooksOrAsks (commands.Find key) = Unit {0}
LooksOrAsks (commands.Exists i) = Unit {0}
LooksOrAsks command = ⊥

-- the question was refused, or its no is in doubt
abbrev pub StopsAsking :
    Site → Look → List Hash → Error → Option (List LogItem) → Option (List LogItem) → Type 0
StopsAsking site look i e old new =
    Ran (opening site (commands.Exists i)) (replies.Refused (without_message e)) old new
    ⊎ (Ran (opening site (commands.Exists i)) (replies.Exists false) old new
    × Doubts site.cache look i e)

-- the last of the calls said that a content isn't there, which is in doubt
abbrev pub SaysDoubtful : List ℕ → Look → List (Command × Reply) → Error → Type 0
SaysDoubtful cache look calls e =
    (before : List (Command × Reply)) × (i : List Hash)
    × (calls ≡ before ++ (commands.Exists i, replies.Exists false) ∷ [])
    × Doubts cache look i e

-- the log gained lookups and questions, which the error ended
pub record StopsLooking
    (site : Site) (look : Look) (e : Error) (old new : Option (List LogItem)) : Type 0 where
  pub calls : List (Command × Reply)
  pub made : MadeCalls site calls old new
  pub harmless : All (λ c. LooksOrAsks c.0) calls
  pub why : SaysWhy calls e ⊎ SaysDoubtful site.cache look calls e

-- so it did for a key, or it ended the adding of the key's tombstone
abbrev pub StopsFate :
    Site → Look → List ℕ → Error → Option (List LogItem) → Option (List LogItem) → Type 0
StopsFate site look key e old new =
    StopsLooking site look e old new
    ⊎ ((led : Led) × (moment : ℕ) × (looked : Option (List LogItem))
    × (leads_nowhere led ≡ true) × IsSure site.cache look led
    × MadeCalls site (looks_of key led) old looked
    × Ran (opening site (tombstone key moment).0) (replies.Refused (without_message e)) looked new)

-- some of these entries' keys got their calls, and the error ended those for another key
pub record StopsBurying
    (site : Site) (look : Look) (entries : List Found) (e : Error)
    (old new : Option (List LogItem)) : Type 0 where
  pub done : List Found
  pub rest : List Found
  pub split : entries ≡ done ++ rest
  pub buried : List Found
  pub between : Option (List LogItem)
  pub burying : BuriesEach site look done buried old between
  pub key : List ℕ
  pub stop : StopsFate site look key e between new

-- the error ended the look at the contents, or the calls after it
abbrev pub StopsBuryingAll :
    Site → List Found → Error → Option (List LogItem) → Option (List LogItem) → Type 0
StopsBuryingAll site entries e old new =
    StopsShowing site.cache e old new
    ⊎ ((look : Look) × (looked : Option (List LogItem)) × ShowsContents site.cache look old looked
    × StopsBurying site look entries e looked new)

-- the contents were read and the damaged ones removed
pub record DropsDamaged (site : Site) (old new : Option (List LogItem)) : Type 0 where
  pub addresses : List (List Hash)
  pub strange : List (List ℕ)
  pub found : Option (List LogItem)
  pub contents : ListsContents site.cache addresses strange old found
  pub good : ℕ
  pub damaged : List (List Hash)
  pub read : Option (List LogItem)
  pub reading : ReadsEach site.cache addresses good damaged found read
  pub removing : MadeCalls site (map removal damaged) read new

-- the error ended the listing of the contents, their reading, or the removal of those that are
-- damaged
abbrev pub StopsDropping :
    Site → Error → Option (List LogItem) → Option (List LogItem) → Type 0
StopsDropping site e old new =
    StopsListing site.cache e old new
    ⊎ ((addresses : List (List Hash)) × (strange : List (List ℕ))
    × (found : Option (List LogItem)) × ListsContents site.cache addresses strange old found
    × (StopsEach site.cache addresses e found new
    ⊎ ((good : ℕ) × (damaged : List (List Hash)) × (read : Option (List LogItem))
    × ReadsEach site.cache addresses good damaged found read
    × StopsRemoving site damaged e read new)))

-- it ended that, or the calls after it: the questions for the contents of these entries, the tombstones
abbrev pub StopsRepairingFrom :
    Site → List Found → Error → Option (List LogItem) → Option (List LogItem) → Type 0
StopsRepairingFrom site entries e old new =
    StopsDropping site e old new
    ⊎ ((clean : Option (List LogItem)) × DropsDamaged site old clean
    × (StopsQuestions site e clean new
    ⊎ ((dangling : List Found) × (asked : Option (List LogItem))
    × AsksEach site entries dangling clean asked
    × StopsBuryingAll site dangling e asked new)))

-- odd lines in these buckets are refused before all else; or the error ended the repair after that
abbrev pub StopsMending : OddLines → Site → List Found → List (List ℕ) → Error
    → Option (List LogItem) → Option (List LogItem) → Type 0
StopsMending choice site entries odd e old new =
    (RefusesOdd choice odd e × (new ≡ old))
    ⊎ (Allows choice odd × StopsRepairingFrom site entries e old new)

-- the error ended the listing of the index, or what came after it
abbrev pub StopsRepairing :
    OddLines → Site → Error → Option (List LogItem) → Option (List LogItem) → Type 0
StopsRepairing choice site e old new =
    StopsIndex site e old new
    ⊎ ((entries : List Found) × (odd : List (List ℕ)) × (listed : Option (List LogItem))
    × ReadsIndex site entries odd old listed
    × StopsMending choice site entries odd e listed new)
