-- Calls that read: they change nothing in the cache, and give bytes that meet their integrity.
use Rattle.std.specs.Prelude.{◌≡◌, ℕ, List, ◌∷◌, Option, Some, Ok}
use Rattle.sha1.specs.Sha1.{sha1}
use Rattle.cacache_core.specs.Integrity.{Meets}
use Rattle.cacache_store.specs.declared.store.step.Step.TheVariants as steps
use Rattle.cacache_entry.specs.Bucket.{Found}
use Rattle.cacache_calls.specs.{declared.{command.Command.{Command}, reply.Reply.{Reply, TheVariants.{Read}}}, Steps.{bucket_path}, Replies.{lookup}, Licence.{handing_out, KeepsTo}}
use Rattle.cacache_calls.specs.declared.command.Command.TheVariants as commands
use Rattle.cacache_value.specs.Acts.{Nothing, act_of}
use Rattle.cacache_history.specs.{Setup.{Setup}, History.{History, Turn, Call, Reaches}, Turns.{EachTurn, bucket_read}}

-- ---- they change nothing

-- a command that changes nothing in the cache: a lookup, a read, a question, a listing or an export
abbrev pub IsReading : Command → Type 0
IsReading = KeepsTo handing_out

-- the turn's step does nothing to contents, buckets or folders
abbrev pub TurnDoesNothing : Turn → Type 0
TurnDoesNothing turn = act_of turn.move.step turn.move.luck turn.move.answer ≡ Nothing

-- each turn of a call that reads does nothing, whether the call is over or was left on its way
abbrev pub ReadersDoNothing : History → Type 0
ReadersDoNothing h =
    (call : Call) (reply : Option Reply) → Reaches h call reply → IsReading call.command
    → EachTurn TurnDoesNothing call.turns

-- ---- they give bytes that meet their integrity

-- the first turn read the key's bucket, and the lookup in it found what the bytes meet
abbrev pub MeetsLookup : Setup → List ℕ → List Turn → List ℕ → Type 0
MeetsLookup s key turns bytes =
    (turn : Turn) × (more : List Turn) × (turns ≡ turn ∷ more)
    × (turn.move.step ≡ steps.ReadAll (bucket_path s.cache key))
    × (found : Found) × (lookup key (bucket_read s (sha1 key) turn) ≡ Ok (Some found))
    × Meets found.integrity bytes

-- bytes that a read may give
abbrev pub IsVerified : Setup → Command → List Turn → List ℕ → Type 0
IsVerified s (commands.GetHash i) turns bytes = Meets i bytes
IsVerified s (commands.Get key) turns bytes = MeetsLookup s key turns bytes
IsVerified s command turns bytes = ⊥

-- a reply with bytes is that of a read, and they meet its integrity
abbrev pub ReadsAreVerified : History → Type 0
ReadsAreVerified h =
    (call : Call) (bytes : List ℕ) → Reaches h call (Some (Read bytes))
    → IsVerified h.setup call.command call.turns bytes
