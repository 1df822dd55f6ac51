-- The tree before reads answered what the log of a store in memory gained by them, and it stayed.
use Rattle.std.proofs.{Common.{arith, ◌≡◌, inl, inr, List, [], ◌∷◌, ◌++◌, Option, None, Some, Result, Ok, Err, map, refl, sym, ap, subst, ◌∙◌, append_assoc}, lemmas.{Grind.{common_steps}, List.{map-append}}}
use Rattle.std.specs.Prelude.{Contains, option_map}
use Rattle.cacache_core.specs.declared.errors.Fault.{Fault}
use Rattle.cacache_store.specs.declared.store.{log.LogItem.{LogItem, TheVariants.{Made, Foreign, ForeignFolder}}, step.Step.TheVariants.{MakeDirs}}
use Rattle.cacache_disk.specs.{declared.luck.Luck.TheVariants.{Plain}, Tree.{Tree, bare, Rooted}, Apply.{apply, planted}, Replay.{changed, after, replay, tree_of}}
use Rattle.cacache_disk.proofs.{KeptFolders.{steps_keep_rooted}, PlantedNodes.{planted_rooted}, Roots.{bare_rooted}}
use Rattle.cacache_calls.specs.{declared.{command.Command.{Command}, reply.Reply.{Reply}}, State.{Site}, Table.{opening}, Runs.{Moves, Runs, Gains}, Licence.{looking_on}}
use Rattle.cacache_calls.proofs.Within.{calls_keep_to}
use Rattle.cacache_laws.specs.{Looks.{OnlyLooks}, Sequence.{tree_on, turns_on, AreAnswered}, trees.{Answers.{AnsweredBy, AnswersOn}, Walks.{ReadAt}}}
use Rattle.cacache_laws.proofs.{Readings.{Looks.{moves_keep, moves_place}, ReadAnswers.{listing_keeps}}, trees.Members.{Member, member_contains}}
use Rattle.cacache_history.specs.Turns.{EachTurn}
use Rattle.cacache_walks.specs.Reading.{Folder, ReadsFolders, folders_in}

-- ---- the tree of a log is rooted

planted_stays : (t : Tree) (r : Result Tree Fault) → Rooted t → ((new : Tree) → r ≡ Ok new → Rooted new) → Rooted (changed t r)
planted_stays t r rooted h = grind (arith, common_steps)

item_rooted : (t : Tree) (item : LogItem) → Rooted t → Rooted (after t item)
item_rooted t (Made step answer) rooted = steps_keep_rooted t step Plain rooted
item_rooted t (Foreign path bytes) rooted = planted_stays t (planted t path bytes) rooted (planted_rooted t bytes rooted path)
item_rooted t (ForeignFolder path) rooted = steps_keep_rooted t (MakeDirs path) Plain rooted

replay_rooted : (t : Tree) (log : List LogItem) → Rooted t → Rooted (replay t log)
replay_rooted t [] rooted = rooted
replay_rooted t (item ∷ log) rooted = replay_rooted (after t item) log (item_rooted t item rooted)

pub log_rooted : (log : List LogItem) → Rooted (tree_of log)
unfolding tree_of
log_rooted log = replay_rooted bare log bare_rooted

-- ---- moves, one part after another

pub gains_join : (a b c : Option (List LogItem)) (xs ys : Moves) → Gains a b xs → Gains b c ys → Gains a c (xs ++ ys)
gains_join a b c xs ys e f = grind (arith, common_steps)

pub tree_split : (t : Tree) (xs ys : Moves) → tree_on t (xs ++ ys) ≡ tree_on (tree_on t xs) ys
tree_split t [] ys = refl
tree_split t (m ∷ xs) ys = tree_split (apply t m.0 Plain).1 xs ys

pub answered_split : (t : Tree) (xs ys : Moves) → AreAnswered t (xs ++ ys) → AreAnswered t xs × AreAnswered (tree_on t xs) ys
answered_split t [] ys a = (tt, a)
answered_split t (m ∷ xs) ys a =
    let rest = answered_split (apply t m.0 Plain).1 xs ys a.1 in
    ((a.0, rest.0), rest.1)

-- the rest of the moves, after a part that left the tree
pub answered_rest : (t : Tree) (xs ys : Moves) → tree_on t xs ≡ t → AreAnswered t (xs ++ ys) → AreAnswered t ys
answered_rest t xs ys stays a = subst (λ x. AreAnswered x ys) stays (answered_split t xs ys a).1

pub tree_rest : (t : Tree) (xs ys : Moves) → tree_on t xs ≡ t → tree_on t (xs ++ ys) ≡ tree_on t ys
tree_rest t xs ys stays = tree_split t xs ys ∙ ap (λ x. tree_on x ys) stays

-- ---- calls that only look

answered_by : (t first : Tree) (moves : Moves) → EachTurn (λ turn. turn.place ≡ t) (turns_on first moves) → AreAnswered first moves → AnsweredBy t moves
answered_by t first [] each a = tt
answered_by t first (m ∷ moves) each a = (a.0 ∙ ap (λ x. (apply x m.0 Plain).0) each.0, answered_by t (apply first m.0 Plain).1 moves each.1 a.1)

pub looked : (site : Site) (t : Tree) (command : Command) (r : Reply) (moves : Moves) → OnlyLooks command → Runs (opening site command) moves r → AreAnswered t moves → AnswersOn site t command r × (tree_on t moves ≡ t)
looked site t command r moves looks run a =
    let may = calls_keep_to looking_on site command moves r looks run in
    ((moves, run, answered_by t t moves (moves_place t t moves refl may) a), moves_keep t moves may)

-- ---- walks

pub walked : (t : Tree) (moves : Moves) (todo : List Folder) → ReadsFolders todo moves → AreAnswered t moves → AnsweredBy t moves × (tree_on t moves ≡ t)
walked t [] todo r a = (tt, refl)
walked t (m ∷ moves) [] r a = absurd r
walked t (m ∷ moves) (f ∷ todo) r a =
    let stays : (apply t m.0 Plain).1 ≡ t = ap (λ s. (apply t s Plain).1) r.0 ∙ listing_keeps t f.path in
    let rest = walked t moves (folders_in f r.3.0 ++ todo) r.3.2 (subst (λ x. AreAnswered x moves) stays a.1) in
    ((a.0, rest.0), ap (λ x. tree_on x moves) stays ∙ rest.1)

-- its tree, for each of the moves
abbrev pub copies : Tree → Moves → List Tree
copies t [] = []
copies t (m ∷ moves) = t ∷ copies t moves

pub read_at : (t : Tree) (moves : Moves) → Rooted t → AnsweredBy t moves → ReadAt (copies t moves) moves
read_at t [] rooted a = tt
read_at t (m ∷ moves) rooted a = (rooted, (Plain, a.0), read_at t moves rooted a.1)

among : (t x : Tree) (moves : Moves) → Member x (copies t moves) → x ≡ t
among t x [] m = absurd m
among t x (k ∷ moves) (inl e) = e
among t x (k ∷ moves) (inr m) = among t x moves m

pub is_copy : (t x : Tree) (moves : Moves) → Contains (copies t moves) x → x ≡ t
is_copy t x moves c = among t x moves (member_contains x (copies t moves) c)
