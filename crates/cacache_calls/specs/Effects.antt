-- What the steps of a call do to contents and buckets. A commit has three cases: it does nothing; it stores
-- its content; or it stores its content and then appends its entry.
use Rattle.std.specs.Prelude.{◌≡◌, ◌⊎◌, ◌≤◌, ◌<◌, ◌^◌, ℕ, List, [], ◌∷◌, Option, None, Some, Result, Ok, Err, Bool, true, false, length}
use Rattle.cacache_store.specs.declared.store.answer.Answer.TheVariants as answers
use Rattle.cacache_store.specs.declared.store.step.Step.TheVariants as steps
use Rattle.cacache_store.specs.Plain.{PlainStep, PlainAnswer}
use Rattle.cacache_calls.specs.{declared.{answers.Refusal.{Refusal}, command.{Put.{Put}, Link.{Link}, Insert.{Insert}, Delete.{Delete}}, reply.Reply.{Reply, TheVariants.{Refused}}, carried.Commit.{Commit}, target.Target.{Target}}, Answers.{done_in, there_in}, Steps.{content_path, bucket_path}, State.{Site, Insertion, Errand}, Common.{errand_step}, Inserting.{bucket_line, refused_cause, insertion, deletion}, Storing.{insertion_of, put_commit}, Linking.{commit_for, link_target}, Table.{opening}, Runs.{Moves, Runs}}
use Rattle.cacache_calls.specs.declared.command.Command.TheVariants as commands

-- ---- what steps do

-- the effect of one step
pub data Effect : Type 0 where
  -- a content was stored at this path, or found there
  stored : List ℕ → Effect
  -- a line was sent to the bucket at this path, with this answer
  sent : List ℕ → List ℕ → PlainAnswer → Effect
  -- something was removed, or written elsewhere
  changed : PlainStep → Effect

-- the effect of a step that succeeded, followed by those of later steps
abbrev pub if_done : Result (Unit {0}) Refusal → Effect → List Effect → List Effect
if_done (Ok done) effect effects = effect ∷ effects
if_done (Err refusal) effect effects = effects

-- the effect of a check that was answered yes, followed by those of later steps
abbrev pub if_there : Result Bool Refusal → Effect → List Effect → List Effect
if_there (Ok true) effect effects = effect ∷ effects
if_there (Ok false) effect effects = effects
if_there (Err refusal) effect effects = effects

-- the effect of a step, followed by later ones; folders, temporary files, reads and syncs have none
abbrev pub effect : PlainStep → PlainAnswer → List Effect → List Effect
effect (steps.Persist file path) t later = if_done (done_in t) (stored path) later
effect (steps.Symlink target path) t later = if_done (done_in t) (stored path) later
effect (steps.Exists path) t later = if_there (there_in t) (stored path) later
effect (steps.Append path line) t later = sent path line t ∷ later
effect (steps.Copy from to) t later = changed (steps.Copy from to) ∷ later
effect (steps.Reflink from to) t later = changed (steps.Reflink from to) ∷ later
effect (steps.HardLink from to) t later = changed (steps.HardLink from to) ∷ later
effect (steps.RemoveFile path) t later = changed (steps.RemoveFile path) ∷ later
effect (steps.RemoveDir path) t later = changed (steps.RemoveDir path) ∷ later
effect (steps.MakeDirs path) t later = later
effect (steps.CreateTemp path) t later = later
effect (steps.Write file bytes) t later = later
effect (steps.ReadAll path) t later = later
effect (steps.Open path) t later = later
effect (steps.Read file most) t later = later
effect (steps.Size path) t later = later
effect (steps.ReadDir path) t later = later
effect (steps.SyncTemp file) t later = later
effect (steps.SyncFile path) t later = later
effect (steps.SyncDir path) t later = later

-- the effects of all steps, in order
abbrev pub effects_of : Moves → List Effect
effects_of [] = []
effects_of (m ∷ moves) = effect m.0 m.1 (effects_of moves)

-- ---- the cases

-- the call was refused
abbrev pub IsRefused : Reply → Type 0
IsRefused (Refused e) = Unit {0}
IsRefused r = ⊥

-- the call has no effect and is refused
abbrev pub DoesNothing : List Effect → Reply → Type 0
DoesNothing effects r = (effects ≡ []) × IsRefused r

-- the answer reports that the append took the whole line
abbrev pub TookAll : List ℕ → PlainAnswer → Type 0
TookAll line (answers.Took n) = length line ≤ n
TookAll line t = ⊥

-- the call is refused unless the append is known to have taken the whole line
abbrev pub Sends : List ℕ → List ℕ → List Effect → Reply → Type 0
Sends path line effects r =
    (t : PlainAnswer) × (effects ≡ sent path line t ∷ []) × (IsRefused r ⊎ TookAll line t)

-- an insertion sends its line if its entry can be written, or is refused before that
abbrev pub Inserts : Insertion → List Effect → Reply → Type 0
Inserts i effects r =
    DoesNothing effects r
    ⊎ ((refused_cause i ≡ None) × Sends (bucket_path i.cache i.entry.key) (bucket_line i) effects r)

-- once the content is stored: with a key, the commit inserts its entry, and is refused if that fails
abbrev pub Indexes : Commit → Option (List ℕ) → List Effect → Reply → Type 0
Indexes c None effects r = effects ≡ []
Indexes c (Some key) effects r = Inserts (insertion_of c key) effects r

-- the commit is refused without effect; or it stores the content, and its entry follows
abbrev pub Commits : Commit → List Effect → Reply → Type 0
Commits c effects r =
    DoesNothing effects r
    ⊎ ((more : List Effect)
    × (effects ≡ stored (content_path c.cache c.computed) ∷ more) × Indexes c c.key more r)

-- a link's commit is the commit of the bytes that it read
abbrev pub Links : Target ℕ → List Effect → Reply → Type 0
Links t effects r =
    DoesNothing effects r
    ⊎ ((bytes : List ℕ) × (length bytes < 2 ^ 64) × Commits (commit_for t bytes) effects r)

-- ---- laws

-- each put does what one of the cases of its commit says
abbrev pub PutsCommit : Type 0
PutsCommit =
    (site : Site) (p : Put) (moves : Moves) (r : Reply)
    → Runs (opening site (commands.Put p)) moves r
    → Commits (put_commit site.cache p) (effects_of moves) r

-- each link does what one of the cases of a link's commit says
abbrev pub LinksCommit : Type 0
LinksCommit =
    (site : Site) (l : Link) (moves : Moves) (r : Reply)
    → Runs (opening site (commands.Link l)) moves r
    → Links (link_target site l) (effects_of moves) r

-- each insertion sends its line once, or is refused and does nothing
abbrev pub InsertsSend : Type 0
InsertsSend =
    (site : Site) (i : Insert) (moves : Moves) (r : Reply)
    → Runs (opening site (commands.Insert i)) moves r
    → Inserts (insertion site.cache i) (effects_of moves) r

-- the same for each deletion, whose line is a tombstone
abbrev pub DeletesSend : Type 0
DeletesSend =
    (site : Site) (d : Delete) (moves : Moves) (r : Reply)
    → Runs (opening site (commands.Delete d)) moves r
    → Inserts (deletion site.cache d) (effects_of moves) r

-- these effects store no content and send no line
abbrev pub OnlyChanges : List Effect → Type 0
OnlyChanges [] = Unit {0}
OnlyChanges (stored path ∷ effects) = ⊥
OnlyChanges (sent path line t ∷ effects) = ⊥
OnlyChanges (changed step ∷ effects) = OnlyChanges effects

-- errands store no content and send no line
abbrev pub ErrandsOnlyChange : Type 0
ErrandsOnlyChange = (e : Errand) (t : PlainAnswer) → OnlyChanges (effect (errand_step e) t [])
