-- Calls that are made one after another on one store in memory.
use Rattle.std.specs.Prelude.{◌≡◌, ◌⊎◌, ℕ, List, [], ◌∷◌, ◌++◌, Option, Some, map, All}
use Rattle.cacache_core.specs.{declared.{errors.Error.TheVariants.{OutOfMemory}, integrity.digest.Hash.{Hash}}, Integrity.{IsHash}, Paths.{Names}}
use Rattle.cacache_store.specs.declared.store.log.LogItem.{LogItem, TheVariants.{Made, Foreign}}
use Rattle.cacache_disk.specs.{declared.luck.Luck.TheVariants.{Plain}, Tree.{Tree, Rooted}, Apply.{apply}, Replay.{tree_of, IsLog}}
use Rattle.cacache_entry.specs.FittingEntries.{IsEntry}
use Rattle.cacache_calls.specs.{declared.{command.{Command.{Command}, Put.{Put}}, reply.Reply.{Reply, TheVariants.{Refused}}}, Promises.{HasCause, own_of}, Steps.{content_path}, Runs.{Moves, Runs, Ran, plain_reply}, Sound.{MayBegin}, Table.{opening}}
use Rattle.cacache_calls.specs.declared.command.Command.TheVariants as commands
use Rattle.cacache_value.specs.{Acts.{list_of, change, Move, acts}, Placed.{LieApart, IsOpening, Placed}, Value.{Value, wide_value, cache_part, value_of_tree}}
use Rattle.cacache_history.specs.{Setup.{Setup, call_site, home, may_export, is_outside}, History.{Turn, turn_of, NamesIntegrity}, AddedEntries.{BucketsHaveKeys, HoldOwn}, Commits.{Deed, does, finds, deeds, IsCase}, TurnReplies.{ReadsValue}, Values.{AreRight, IsThere}}

-- a call that was made: its command, its number, the steps that it made, and its reply
pub record SequenceCall : Type 0 where
  pub command : Command
  pub number : ℕ
  pub moves : Moves
  pub reply : Reply

-- the log gained the call's run
pub record IsMadeOn (s : Setup) (old : List LogItem) (call : SequenceCall) (new : List LogItem) : Type 0 where
  pub run : Runs (opening (call_site s call.number) call.command) call.moves (plain_reply call.reply)
  pub gained : new ≡ old ++ map (λ m. Made m.0 m.1) call.moves

-- the log gained the runs of these calls, in their order
abbrev pub AreMade : Setup → List LogItem → List SequenceCall → List LogItem → Type 0
AreMade s old [] new = new ≡ old
AreMade s old (call ∷ calls) new =
    (next : List LogItem) × IsMadeOn s old call next × AreMade s next calls new

-- if a log is kept, what `call` ensures says that it made a call
abbrev pub RunsAreCalls : Type 0
RunsAreCalls =
    (s : Setup) (command : Command) (number : ℕ) (reply : Reply) (old new : List LogItem)
    → Ran (opening (call_site s number) command) (plain_reply reply) (Some old) (Some new)
    → (call : SequenceCall) × (call.command ≡ command) × (call.number ≡ number) × (call.reply ≡ reply)
    × IsMadeOn s old call new

-- each call may begin, as in a world
abbrev pub MayBeMade : Setup → List SequenceCall → Type 0
MayBeMade s [] = Unit {0}
MayBeMade s (call ∷ calls) =
    MayBegin (call_site s call.number) (may_export s) (is_outside s) call.command
    × NamesIntegrity call.command × MayBeMade s calls

-- the log of a store in which only these files were planted
abbrev pub planted_log : List (List ℕ × List ℕ) → List LogItem
planted_log files = map (λ file. Foreign file.0 file.1) files

-- ---- what moves do to a tree

-- the tree after these moves
abbrev pub tree_on : Tree → Moves → Tree
tree_on t [] = t
tree_on t (m ∷ moves) = tree_on (apply t m.0 Plain).1 moves

-- each move with the tree that it found
abbrev pub turns_on : Tree → Moves → List Turn
turns_on t [] = []
turns_on t (m ∷ moves) = turn_of t Plain m ∷ turns_on (apply t m.0 Plain).1 moves

-- each answer is the disk's
abbrev pub AreAnswered : Tree → Moves → Type 0
AreAnswered t [] = Unit {0}
AreAnswered t (m ∷ moves) =
    (m.1 ≡ (apply t m.0 Plain).0) × AreAnswered (apply t m.0 Plain).1 moves

-- the moves as steps with plain luck
abbrev pub plain_moves : Moves → List Move
plain_moves [] = []
plain_moves (m ∷ moves) = record { step = m.0; luck = Plain; answer = m.1 } ∷ plain_moves moves

-- ---- what holds of each call

-- the same contents and the same entries; folders and buckets without entries are left aside
pub record Alike (v w : Value) : Type 0 where
  pub contents : (a : Hash) → v.contents a ≡ w.contents a
  pub lists : (digest : List ℕ) → list_of (v.buckets digest) ≡ list_of (w.buckets digest)

-- the value after these deeds: what is done changes it, what is found doesn't
abbrev pub after_deeds : Option Names → List Deed → Value → Value
after_deeds folder [] v = v
after_deeds folder (does act ∷ ds) v = after_deeds folder ds (change folder act v)
after_deeds folder (finds path ∷ ds) v = after_deeds folder ds v

-- a call on this tree: the value follows its acts, and contents and entries follow its deeds alone.
-- What its first deed finds was there before; a put finds nothing and puts its content. Its reply is
-- what its turns show
pub record CallIsAnswered (s : Setup) (t : Tree) (call : SequenceCall) : Type 0 where
  pub disk : AreAnswered t call.moves
  pub acts :
      value_of_tree (home s) (tree_on t call.moves)
      ≡ cache_part (home s) (acts (home s) (wide_value (home s) t) (plain_moves call.moves))
  pub follows :
      Alike (value_of_tree (home s) (tree_on t call.moves))
      (after_deeds (home s) (deeds (turns_on t call.moves)) (value_of_tree (home s) t))
  pub found : (a : Hash) (more : List Deed) → IsHash a
      → deeds (turns_on t call.moves) ≡ finds (content_path s.cache (a ∷ [])) ∷ more
      → IsThere ((value_of_tree (home s) t).contents a)
  pub puts : (p : Put) (path : List ℕ) (more : List Deed) → call.command ≡ commands.Put p
      → deeds (turns_on t call.moves) ≡ finds path ∷ more → ⊥
  pub reads :
      (call.reply ≡ Refused OutOfMemory)
      ⊎ ReadsValue s call.command (turns_on t call.moves) (plain_reply call.reply)
  pub commits :
      IsCase (call_site s call.number) call.command (turns_on t call.moves) (Some call.reply)
  pub causes : HasCause (own_of call.command) call.moves (plain_reply call.reply)

-- calls may be made on this tree, and each leaves such a tree
pub record IsSound (folder : Option Names) (t : Tree) : Type 0 where
  pub placed : Placed folder t
  pub rooted : Rooted t
  pub formed : (digest : List ℕ) → All IsEntry (list_of ((wide_value folder t).buckets digest))
  pub right : AreRight (wide_value folder t).contents
  pub keyed : BucketsHaveKeys folder t
  pub own : HoldOwn (wide_value folder t).buckets

-- a tree that a cache begins in is one
abbrev pub OpeningsAreSound : Type 0
OpeningsAreSound = (folder : Option Names) (t : Tree) → IsOpening folder t → IsSound folder t

-- a call that is made on a sound tree answers so, and leaves a sound tree
abbrev pub CallsAreAnswered : Type 0
CallsAreAnswered =
    (s : Setup) (call : SequenceCall) (old new : List LogItem) → LieApart (home s) s.outside
    → MayBeMade s (call ∷ []) → IsSound (home s) (tree_of old) → IsMadeOn s old call new → IsLog new
    → CallIsAnswered s (tree_of old) call × IsSound (home s) (tree_of new)
    × (tree_of new ≡ tree_on (tree_of old) call.moves)

-- each call answers so on the tree that the calls before it left, and the last of these trees
abbrev pub AllAnswer : Setup → Tree → List SequenceCall → Tree → Type 0
AllAnswer s t [] last = last ≡ t
AllAnswer s t (call ∷ calls) last =
    CallIsAnswered s t call × AllAnswer s (tree_on t call.moves) calls last

-- so do any calls on a store in memory that held nothing but files apart from the cache
abbrev pub SequencesAnswer : Type 0
SequencesAnswer =
    (s : Setup) (calls : List SequenceCall) (log : List LogItem) → LieApart (home s) s.outside
    → MayBeMade s calls → AreMade s (planted_log s.outside) calls log → IsLog log
    → AllAnswer s (tree_of (planted_log s.outside)) calls (tree_of log)
