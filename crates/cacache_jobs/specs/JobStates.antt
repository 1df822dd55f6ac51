-- Which state of the table a job is in, and the site at which it begins.
use Rattle.std.specs.Prelude.{◌≡◌, ℕ, List, [], Option, Some, None, Result, Ok, Err, length, string_bytes}
use Rattle.cacache_core.specs.{declared.{errors.Error.{Error}, integrity.digest.Hash.{Hash}}, Hashers.{Holds, algorithm_of, Compares}}
use Rattle.cacache_store.specs.{declared.store.plain.{PlainFile.{PlainFile}, PlainTemp.{PlainTemp}}, Plain.{PlainStep, plain_step}}
use Rattle.cacache_calls.specs.{Steps.{content_path, bucket_path, temp_path}, State.{State, doing, creating, writing, syncing, persisting, confirming, appending, looking, reading, asking, sizing, opening_file, hashing, copying, linking, over, Errand, to_verify, to_link, Site}, declared.{carried.Content.{Content}, reply.Reply.{Reply, TheVariants.{Stored, Done}}}, Inserting.{bucket_line}, Common.{sync_up}, Storing.{placed, move_in}, Removing.{remove_bucket}, Runs.{plain_reply, EndsAs}, Table.{wants}}
use Rattle.cacache_walks.specs.WalkStates.{WalksAt}
use Rattle.cacache_jobs.specs.declared.{inserting.Insertion.{Insertion}, hashing.Hashing.{Hashing}, syncing.Goal.{Goal}, stage.{Then.{Then}, Stage.{Stage}}, phase.Phase.{Phase}}
use Rattle.cacache_calls.specs.State as states
use Rattle.cacache_jobs.specs.declared.hashing.Hashing.TheVariants as hashings
use Rattle.cacache_jobs.specs.declared.syncing.Goal.TheVariants as goals
use Rattle.cacache_jobs.specs.declared.stage.Then.TheVariants as thens
use Rattle.cacache_jobs.specs.declared.stage.Stage.TheVariants as stages
use Rattle.cacache_jobs.specs.declared.phase.Phase.TheVariants as phases

-- ---- what a stage carries, in the table's terms

-- the reply of an insertion: this integrity, or for a deletion nothing
abbrev pub insertion_reply : Option (List Hash) → Reply
insertion_reply (Some i) = Stored i
insertion_reply None = Done

-- the two insertions have the same cache, key, durability and reply
abbrev pub IsInsertion : Insertion → states.Insertion → Type 0
IsInsertion i j =
    (j.cache ≡ i.cache) × (j.entry.key ≡ string_bytes i.key) × (j.durable ≡ i.durable)
    × (j.reply ≡ insertion_reply i.integrity)

-- the file is read for this purpose, and these bytes of it have been hashed
abbrev pub HashesFor : Hashing → states.Hashing → List ℕ → Type 0
HashesFor (hashings.Verify checker from export) h bytes =
    (k : Content) × (h ≡ to_verify k export) × Compares checker k.integrity bytes
    × (from ≡ content_path k.cache k.integrity)
HashesFor (hashings.Link hasher target) h bytes =
    (h ≡ to_link target) × Holds hasher bytes
    × (algorithm_of hasher ≡ target.options.algorithm)

-- ---- stages

-- the state after the syncs
abbrev pub GoalAt : Goal → State → Type 0
GoalAt (goals.Place c) s = s ≡ placed c.value
GoalAt (goals.Answer i) s = s ≡ over (insertion_reply i.integrity)

-- the state after an errand; the path of the next step is kept
abbrev pub ThenAt : {T : Type 0} → (T → PlainTemp) → Then T → State → Type 0
ThenAt temp (thens.Create c rest path) s =
    (number : ℕ) × (path ≡ temp_path c.value.cache number)
    × (s ≡ creating number c.value rest)
ThenAt temp (thens.Persist c file path) s =
    (path ≡ content_path c.value.cache c.value.computed)
    × (s ≡ move_in c.value (temp file))
ThenAt temp (thens.Sync y) s =
    (next : State) × GoalAt y.goal next × (s ≡ sync_up y.folders.items next)
ThenAt temp (thens.Append i line path) s =
    (j : states.Insertion) × IsInsertion i j × (line ≡ bucket_line j)
    × (path ≡ bucket_path j.cache j.entry.key) × (s ≡ appending j)
ThenAt temp (thens.RemoveBucket content bucket) s =
    (cache : List ℕ) × (key : List ℕ) × (bucket ≡ bucket_path cache key)
    × (s ≡ remove_bucket cache key)
ThenAt temp (thens.Symlink c target path) s =
    (path ≡ content_path c.value.cache c.value.computed)
    × (s ≡ linking c.value target)
ThenAt temp (thens.Finish last) s = s ≡ over Done

-- while the stage's step is out, the call is in this state
abbrev pub StageAt : {T : Type 0} → (T → PlainTemp) → Stage T → State → Type 0
StageAt temp (stages.Doing then) s =
    (errand : Errand) × (next : State) × ThenAt temp then next × (s ≡ doing errand next)
StageAt temp (stages.Creating c rest) s = (number : ℕ) × (s ≡ creating number c.value rest)
StageAt temp (stages.Writing c rest) s = (file : PlainTemp) × (s ≡ writing c.value file rest)
StageAt temp (stages.Syncing c path) s =
    (path ≡ content_path c.value.cache c.value.computed)
    × (file : PlainTemp) × (s ≡ syncing c.value file)
StageAt temp (stages.Persisting c) s = (file : PlainTemp) × (s ≡ persisting c.value file)
StageAt temp (stages.Confirming c target fault) s = s ≡ confirming c.value fault
StageAt temp (stages.Appending i size) s =
    (j : states.Insertion) × IsInsertion i j × (size ≡ length (bucket_line j)) × (s ≡ appending j)
StageAt temp (stages.Looking l) s = s ≡ looking l
StageAt temp (stages.Reading k) s = s ≡ reading k
StageAt temp (stages.Asking k) s = s ≡ asking k
StageAt temp (stages.Sizing t) s = s ≡ sizing t.value
StageAt temp (stages.Opening h) s =
    (purpose : states.Hashing) × HashesFor h.value purpose [] × (s ≡ opening_file purpose)
StageAt temp (stages.Hashing h size) s =
    (purpose : states.Hashing) × (bytes : List ℕ) × HashesFor h.value purpose bytes
    × (size ≡ length bytes) × (file : PlainFile) × (s ≡ hashing purpose file bytes)
StageAt temp (stages.Copying from to verified) s = s ≡ copying from to verified
StageAt temp (stages.Linking c target) s = s ≡ linking c.value target
StageAt temp (stages.Walking w v) s = WalksAt [] w (Some v) s

-- ---- phases

-- the call is at this stage, and its next step is this one
pub record IsAt {T : Type 0} (temp : T → PlainTemp) (stage : Stage T) (step : PlainStep)
    (s : State) : Type 0 where
  pub state : StageAt temp stage s
  pub wanted : wants s ≡ Some step

-- the call is in this state
abbrev pub PhaseAt : {F T : Type 0} → (F → PlainFile) → (T → PlainTemp) → Phase F T → State → Type 0
PhaseAt file temp (phases.Wanting stage step) s = IsAt temp stage (plain_step file temp step) s
PhaseAt file temp (phases.Over reply) s = s ≡ over (plain_reply reply)

-- the call goes on to this state, or it ended out of memory
abbrev pub Leads :
    {F T : Type 0} → (F → PlainFile) → (T → PlainTemp) → Result (Phase F T) Error → State → Type 0
Leads file temp (Ok phase) s = PhaseAt file temp phase s
Leads file temp (Err e) s = EndsAs e s

-- ---- the site at which a job begins

-- a cache, the base folder and the number of the temporary file
abbrev pub site_of : List ℕ → List ℕ → ℕ → Site
site_of cache base number = record { cache = cache; base = base; number = number }
