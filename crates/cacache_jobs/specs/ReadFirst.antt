-- What the bytes of a read by key are verified against, and what exports and links read first.
use Rattle.std.specs.Prelude.{◌≡◌, List, Option, ℕ, true}
use Rattle.cacache_store.specs.{declared.store.log.LogItem.{LogItem}, Plain.{PlainAnswer}}
use Rattle.cacache_calls.specs.{declared.{command.{Command.{Command, TheVariants.{Get, Link, Export}}, Source.{Source}}, reply.Reply.{Reply, TheVariants.{Read}}, target.Target.{Target}}, Replies.{BeginsWithBucket, MeetsFound}, Runs.{Moves, Gains}, Linking.{link_target}, State.{Site}, Verifying.{Verifies, LinksWhole, UnlessRefused}}

-- the moves begin with a read of the key's bucket; the bytes meet the integrity that the lookup finds in it
abbrev pub BeginsFound : List ℕ → List ℕ → List ℕ → Moves → Type 0
BeginsFound cache key bytes moves =
    (t : PlainAnswer) × (more : Moves) × BeginsWithBucket cache key t more moves × MeetsFound key t bytes

-- if a log is kept, it gained such moves
abbrev pub ReadsFound :
    List ℕ → List ℕ → List ℕ → Option (List LogItem) → Option (List LogItem) → Type 0
ReadsFound cache key bytes old new =
    (moves : Moves) × Gains old new moves × BeginsFound cache key bytes moves

-- the same for each call by key that answers bytes
abbrev pub FindsBytes :
    List ℕ → Command → Reply → Option (List LogItem) → Option (List LogItem) → Type 0
FindsBytes cache (Get key) (Read bytes) old new = ReadsFound cache key bytes old new
FindsBytes cache command reply old new = Unit {0}

-- if a log is kept, it gained moves that verify what is exported
abbrev pub Verified :
    List ℕ → Source → Reply → Option (List LogItem) → Option (List LogItem) → Type 0
Verified cache source reply old new =
    (moves : Moves) × Gains old new moves × Verifies cache source moves reply

-- if a log is kept, it gained moves that read the whole target
abbrev pub Linked : Target ℕ → Reply → Option (List LogItem) → Option (List LogItem) → Type 0
Linked target reply old new =
    (moves : Moves) × Gains old new moves × LinksWhole target moves reply

-- unless refused, a checked export verified what it opened, and a link read its target
abbrev pub ReadsFirst :
    Site → Command → Reply → Option (List LogItem) → Option (List LogItem) → Type 0
ReadsFirst site (Export source e) reply old new =
    e.checked ≡ true → UnlessRefused (Verified site.cache source reply old new) reply
ReadsFirst site (Link link) reply old new =
    UnlessRefused (Linked (link_target site link) reply old new) reply
ReadsFirst site command reply old new = Unit {0}
