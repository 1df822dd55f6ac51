-- Calls that are made in parts on one store in memory, with other calls in between.
use Rattle.std.specs.Prelude.{◌≡◌, ◌⊎◌, ℕ, List, [], ◌∷◌, ◌++◌, None, Some}
use Rattle.cacache_core.specs.{declared.{errors.{Error.TheVariants.{OutOfMemory}, Fault.{Fault}}, integrity.digest.Hash.{Hash}}, Integrity.{IsHash}}
use Rattle.cacache_store.specs.{declared.store.{log.LogItem.{LogItem}, plain.{PlainFile.{PlainFile}, PlainTemp.{PlainTemp}}}, Plain.{PlainStep, PlainAnswer}}
use Rattle.cacache_store.specs.declared.store.step.Step.TheVariants as steps
use Rattle.cacache_disk.specs.{declared.luck.Luck.TheVariants.{Take}, Tree.{Tree}, Apply.{given, opened}, Replay.{tree_of, IsLog}}
use Rattle.cacache_calls.specs.{declared.{command.Command.{Command}, reply.Reply.{Reply, TheVariants.{Refused}}, carried.Commit.{Commit}}, Promises.{Faulted, HasCause, own_of}, Steps.{content_path}, Runs.{Moves, Runs, Goes, Gains, plain_reply}, Sound.{MayBegin}, State.{State, hashing, Hashing}, Storing.{persist, write_rest}, Table.{piece, opening}}
use Rattle.cacache_value.specs.{Placed.{LieApart}, Acts.{acts}, Value.{wide_value, cache_part, value_of_tree}}
use Rattle.cacache_history.specs.{Setup.{Setup, call_site, home, may_export, is_outside}, History.{Turn, turn_of, NamesIntegrity}, Commits.{Deed, finds, deeds, IsCase}, TurnReplies.{ReadsValue}, Values.{IsThere}}
use Rattle.cacache_laws.specs.Sequence.{tree_on, turns_on, AreAnswered, plain_moves, Alike, after_deeds, IsSound}

-- ---- parts

-- what a call made without a break
pub data Part : Type 0 where
  -- steps one after another, and the tree that they began on
  made : Tree → Moves → Part
  -- a byte that was read from an open file itself: no log records it, and no tree shows it
  took : Tree → PlainFile → Part

-- the read of one byte
abbrev pub byte_read : PlainFile → PlainStep × PlainAnswer
byte_read file = (steps.Read file piece, given file 1 file.bytes)

-- the steps of all parts
abbrev pub moves_in : List Part → Moves
moves_in [] = []
moves_in (made t moves ∷ parts) = moves ++ moves_in parts
moves_in (took t file ∷ parts) = byte_read file ∷ moves_in parts

-- each step of all parts with the tree that it found
abbrev pub turns_in : List Part → List Turn
turns_in [] = []
turns_in (made t moves ∷ parts) = turns_on t moves ++ turns_in parts
turns_in (took t file ∷ parts) = turn_of t (Take 1) (byte_read file) ∷ turns_in parts

-- each part began on a sound tree, and each answer is the disk's. Any calls may come between two
-- parts, as long as they leave a sound tree
abbrev pub AreParts : Setup → List Part → Type 0
AreParts s [] = Unit {0}
AreParts s (made t moves ∷ parts) = IsSound (home s) t × AreAnswered t moves × AreParts s parts
AreParts s (took t file ∷ parts) = IsSound (home s) t × AreParts s parts

-- a call that was begun: its command, its number, and its parts so far
pub record Begun : Type 0 where
  pub command : Command
  pub number : ℕ
  pub parts : List Part

-- the call with one part more
abbrev pub with_part : Begun → Tree → Moves → Begun
with_part call t moves =
    record call { parts = call.parts ++ made t moves ∷ [] }

-- the call might begin, and its parts took it from its opening to this state
pub record IsOnItsWay (s : Setup) (call : Begun) (state : State) : Type 0 where
  pub may : MayBegin (call_site s call.number) (may_export s) (is_outside s) call.command
  pub named : NamesIntegrity call.command
  pub goes : Goes (opening (call_site s call.number) call.command) (moves_in call.parts) state
  pub parts : AreParts s call.parts

-- ---- what holds of a part, and of all parts together

-- a part leaves a sound tree, and the value of that tree follows the acts of the part; contents and
-- entries follow its deeds alone, and what its first deed finds was there before
pub record Changes (s : Setup) (t : Tree) (moves : Moves) : Type 0 where
  pub sound : IsSound (home s) (tree_on t moves)
  pub acts :
      value_of_tree (home s) (tree_on t moves)
      ≡ cache_part (home s) (acts (home s) (wide_value (home s) t) (plain_moves moves))
  pub follows :
      Alike (value_of_tree (home s) (tree_on t moves))
      (after_deeds (home s) (deeds (turns_on t moves)) (value_of_tree (home s) t))
  pub found : (a : Hash) (more : List Deed) → IsHash a
      → deeds (turns_on t moves) ≡ finds (content_path s.cache (a ∷ [])) ∷ more
      → IsThere ((value_of_tree (home s) t).contents a)

-- the reply is what the turns of all parts show, they did one of the cases of a commit, and an
-- `IoError` has a cause among their steps
pub record AnswersInParts (s : Setup) (call : Begun) (reply : Reply) : Type 0 where
  pub reads :
      (reply ≡ Refused OutOfMemory)
      ⊎ ReadsValue s call.command (turns_in call.parts) (plain_reply reply)
  pub commits : IsCase (call_site s call.number) call.command (turns_in call.parts) (Some reply)
  pub causes : HasCause (own_of call.command) (moves_in call.parts) (plain_reply reply)

-- steps that leave the tree as it is, have no deeds, and have no fault
pub record AreSilent (t : Tree) (moves : Moves) : Type 0 where
  pub tree : tree_on t moves ≡ t
  pub nothing : deeds (turns_on t moves) ≡ []
  pub faultless : (fault : Fault) → Faulted moves fault → ⊥

-- ---- laws

-- steps that a log gained are answered by the disk, and lead to its tree
abbrev pub LogsLead : Type 0
LogsLead =
    (old new : List LogItem) (moves : Moves) → Gains (Some old) (Some new) moves → IsLog new
    → AreAnswered (tree_of old) moves × (tree_of new ≡ tree_on (tree_of old) moves)

-- a call that may begin is on its way at its opening
abbrev pub CallsBegin : Type 0
CallsBegin =
    (s : Setup) (command : Command) (number : ℕ)
    → MayBegin (call_site s number) (may_export s) (is_outside s) command → NamesIntegrity command
    → IsOnItsWay s (record { command = command; number = number; parts = [] })
    (opening (call_site s number) command)

-- steps that are made on a sound tree leave it on its way
abbrev pub PartsGoOn : Type 0
PartsGoOn =
    (s : Setup) (call : Begun) (state next : State) (t : Tree) (moves : Moves)
    → LieApart (home s) s.outside → IsOnItsWay s call state → IsSound (home s) t
    → Goes state moves next → AreAnswered t moves
    → IsOnItsWay s (with_part call t moves) next × Changes s t moves

-- a call that is left on its way did one of the cases of a commit, too
abbrev pub LeftAreCases : Type 0
LeftAreCases =
    (s : Setup) (call : Begun) (state : State)
    → LieApart (home s) s.outside → IsOnItsWay s call state
    → IsCase (call_site s call.number) call.command (turns_in call.parts) None

-- a run from there is its last part
abbrev pub PartsAnswer : Type 0
PartsAnswer =
    (s : Setup) (call : Begun) (state : State) (t : Tree) (moves : Moves) (reply : Reply)
    → LieApart (home s) s.outside → IsOnItsWay s call state → IsSound (home s) t
    → Runs state moves (plain_reply reply) → AreAnswered t moves
    → AnswersInParts s (with_part call t moves) reply × Changes s t moves

-- bytes that were read from an open file itself count as reads of one byte each
abbrev pub ReadsAreParts : Type 0
ReadsAreParts =
    (s : Setup) (call : Begun) (h : Hashing) (bytes more rest : List ℕ) (t : Tree)
    → IsOnItsWay s call (hashing h (opened (more ++ rest)) bytes) → IsSound (home s) t
    → (reads : List Part)
    × IsOnItsWay s (record call { parts = call.parts ++ reads })
    (hashing h (opened rest) (bytes ++ more))
    × (deeds (turns_in reads) ≡ [])

-- bytes that a writer handed to its file itself count as a write, which no log records
abbrev pub WritesAreParts : Type 0
WritesAreParts =
    (s : Setup) (call : Begun) (c : Commit) (file full : PlainTemp) (bytes : List ℕ) (t : Tree)
    → IsOnItsWay s call (write_rest c file bytes) → IsSound (home s) t
    → file.bytes ≡ Some [] → full.path ≡ file.path → full.bytes ≡ Some bytes
    → (moves : Moves) × IsOnItsWay s (with_part call t moves) (persist c full) × AreSilent t moves
