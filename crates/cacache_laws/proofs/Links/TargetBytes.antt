-- What a linker's target showed when it was opened, and what its opening leaves.
-- If a link lies there, a read shows what its target shows.
use Rattle.std.proofs.Common.{arith, rules, ◌≡◌, ◌⊎◌, inl, inr, ℕ, List, [], ◌∷◌, ◌++◌, Some, Result, Ok, Err, length, map, refl, sym, ap, subst, ◌∙◌, append_assoc, zero, suc, Option, None}
use Rattle.std.specs.Prelude.{◌<◌, ◌^◌}
use Rattle.cacache_laws.specs.{Caches.{IsExcused, lies_under, IsCache, Grows}, OpenLinkers.{TargetOpened, OpensSized, OpensTarget}, Looks.{bytes_under}, InParts.{AreParts, Part, byte_read, made, took, moves_in, turns_in}, OpenWriters.{LeavesKnownCache}, Sequence.{AreAnswered, IsSound, tree_on, turns_on}}
use Rattle.cacache_laws.proofs.{Calls.{InParts.{byte_answered, logs_lead}, Replays.{excuses_last, growths_join, some_same}}, Links.Linking.{on_disks, opened_held}, Spares.Unused.{unchanged}, Readings.{OpenReaders.{Opened, errs, leaves as known_left, log_front, opened_keeps, opens_file}, ReadAnswers.{opened_so, sizing_keeps}}, Putting.OpenWriters.{excused_step, gains_grow}}
use Rattle.cacache_core.specs.{declared.{integrity.digest.Hash.{Hash}, errors.{Error.{Error, TheVariants.{IoError, OutOfMemory}}, Fault.{Fault}}}, Paths.{home_of, Names}}
use Rattle.cacache_store.specs.{declared.store.{log.LogItem.{LogItem, TheVariants.{Made}}, plain.PlainFile.{PlainFile}}, Plain.{PlainStep, PlainAnswer}}
use Rattle.cacache_disk.specs.{declared.{luck.Luck.{TheVariants.{Plain, Take}, Luck}, node.Node.{Node, TheVariants.{Link}}}, Tree.{Tree, look}, Apply.{apply, opened, unless}, LedTo.{file_at, and_then, bytes_there, followed, leads, on_link, place, standing, where_there}, Replay.{IsLog, bytes_told, shown, tree_of}}
use Rattle.cacache_calls.specs.{Runs.{Gains, Moves}, SingleSteps.{FailsAt}}
use Rattle.cacache_history.{specs.{Commits.{ReadsTarget}, History.{turn_of}, Setup.{Setup}}, proofs.{Contents.OpenedContents.{EachAsks, OnDisks, gives_all}, Each.{each_join}}}
use Rattle.cacache_value.specs.{Shows.{blob_bytes, link_end}, Value.{AtLink}}
use Rattle.cacache_core.specs.declared.errors.Fault.TheVariants as faults
use Rattle.cacache_store.specs.declared.store.answer.Answer.TheVariants as answers
use Rattle.cacache_store.specs.declared.store.step.Step.TheVariants as steps

-- ---- the bytes that the target showed

-- what is known of moves that open a target of these bytes and read it
abbrev pub ReadOf : List ℕ → Moves → Type 0
ReadOf held (m ∷ (step, answers.File file) ∷ moves) = (file.bytes ≡ Some held) × OnDisks moves × EachAsks moves
ReadOf held moves = ⊥

-- what holds of the bytes that were read holds of these
pub held_of : (path held : List ℕ) (P : List ℕ → Type 0) (moves : Moves) → ReadOf held moves → ReadsTarget path P moves → P held
held_of path held P moves good read =
    let w = read.3 in
    let g : ReadOf held ((steps.Size path, answers.Length read.0) ∷ (steps.Open path, answers.File w.0) ∷ w.2)
    = subst (ReadOf held) (read.2 ∙ ap (λ (l : Moves). (steps.Size path, answers.Length read.0) ∷ l) w.3) good in
    subst P (gives_all w.0 w.1 held w.2 g.0 g.1 g.2 w.4) w.5

pub told_held : (t : Tree) (path held : List ℕ) → shown t path ≡ Some held → answers.Length (length held) ≡ (apply t (steps.Size path) Plain).0
unfolding apply
told_held t path held = search rules

pub file_held : (t : Tree) (path held : List ℕ) (file : PlainFile) → shown t path ≡ Some held → answers.File file ≡ (apply t (steps.Open path) Plain).0 → file ≡ opened held
file_held t path held file shows told =
    let b = opened_so t path file told in
    let both : Some b.0 ≡ Some held = sym (ap (λ (f : PlainFile). f.bytes) b.1) ∙ opened_held t path held file shows told in
    let same : b.0 ≡ held = cc in
    b.1 ∙ ap opened same

-- the moves of parts have a disk's answers
-- a file that can be opened shows its bytes
opened_shows : (t : Tree) (path bytes : List ℕ) → answers.File (opened bytes) ≡ (apply t (steps.Open path) Plain).0 → shown t path ≡ Some bytes
unfolding apply
opened_shows t path bytes = search rules

pub parts_on_disks : (s : Setup) (parts : List Part) → AreParts s parts → OnDisks (moves_in parts)
parts_on_disks s [] h = tt
parts_on_disks s (made t moves ∷ parts) h = each_join (λ (m : PlainStep × PlainAnswer). (x : Tree) × (luck : Luck) × (m.1 ≡ (apply x m.0 luck).0)) moves (moves_in parts) (on_disks t moves h.1) (parts_on_disks s parts h.2)
parts_on_disks s (took t file ∷ parts) h = ((t, Take 1, byte_answered t file), parts_on_disks s parts h.1)

pub turns_more : (parts more : List Part) → turns_in (parts ++ more) ≡ turns_in parts ++ turns_in more
turns_more [] more = refl
turns_more (made t moves ∷ parts) more = ap (λ l. turns_on t moves ++ l) (turns_more parts more) ∙ sym (append_assoc (turns_on t moves) (turns_in parts) (turns_in more))
turns_more (took t file ∷ parts) more = ap (λ l. turn_of t (Take 1) (byte_read file) ∷ l) (turns_more parts more)

-- ---- an opening

pub target_opened : (path : List ℕ) (r : Result PlainFile Error) (old new : List LogItem) → OpensTarget path r (Some old) (Some new) → Opened path r old new
target_opened path r old new h = grind (arith, errs, opens_file)

-- a target that was opened showed bytes, which the file has; an error is excused
abbrev pub GivesTarget :
    List ℕ → List ℕ → Result PlainFile Error → List LogItem → List LogItem → Type 0
GivesTarget cache path (Ok file) old new =
    (held : List ℕ) × (shown (tree_of old) path ≡ Some held) × (file ≡ opened held)
    × (file.left < 2 ^ 64 → TargetOpened cache path held file)
GivesTarget cache path (Err e) old new = IsExcused e old new

gives_target : (cache path : List ℕ) (r : Result PlainFile Error) (old new : List LogItem) → IsCache cache old → OpensTarget path r (Some old) (Some new) → Opened path r old new → IsLog new
    → GivesTarget cache path r old new
gives_target cache path (Err e) old new sound h o logged = o.excused e refl
gives_target cache path (Ok file) old new sound h o logged =
    let told = (logs_lead old new ((steps.Open path, answers.File file) ∷ []) h logged).0.0 in
    let b = opened_so (tree_of old) path file told in
    let shows = opened_shows (tree_of old) path b.0 (subst (λ f. answers.File f ≡ (apply (tree_of old) (steps.Open path) Plain).0) b.1 told) in
    (b.0, shows, b.1, λ small. record { old = old; new = new; sound = sound; shows = shows; opens = h; small = small; logged = logged })

-- an opening leaves a cache, and all that was known of it still holds
pub linkers_open : (cache path : List ℕ) (r : Result PlainFile Error) (old new : List LogItem) → IsCache cache old
    → OpensTarget path r (Some old) (Some new) → IsLog new → LeavesKnownCache cache old new × GivesTarget cache path r old new
linkers_open cache path r old new sound h logged =
    let o = target_opened path r old new h in
    (known_left cache old new sound (opened_keeps path r old new o logged) (gains_grow old new o.moves o.gains), gives_target cache path r old new sound h o logged)

-- and the size that it reported is theirs
abbrev pub GivesSized :
    List ℕ → List ℕ → Result (ℕ × PlainFile) Error → List LogItem → List LogItem → Type 0
GivesSized cache path (Ok (size, file)) old new =
    (held : List ℕ) × (shown (tree_of old) path ≡ Some held) × (file ≡ opened held)
    × (size ≡ length held) × (file.left < 2 ^ 64 → TargetOpened cache path held file)
GivesSized cache path (Err e) old new = IsExcused e old new

module _ (cache path : List ℕ) (old new : List LogItem) (sound : IsCache cache old) (logged : IsLog new) where
  -- what is to be shown
  abbrev Opens : Result (ℕ × PlainFile) Error → Type 0
  Opens r = LeavesKnownCache cache old new × GivesSized cache path r old new

  size_fails : (e : Error) (fault : Fault) → (e ≡ OutOfMemory) ⊎ ((message : List ℕ) × (e ≡ IoError fault message)) → Gains (Some old) (Some new) ((steps.Size path, answers.Failed fault) ∷ []) → Opens (Err e)
  size_fails e fault is g =
      let moves : Moves = (steps.Size path, answers.Failed fault) ∷ [] in
      (known_left cache old new sound ((logs_lead old new moves g logged).1 ∙ sizing_keeps (tree_of old) path) (gains_grow old new moves g), excused_step old new moves g e fault (inl refl) is)

  size_errs : (e : Error) → FailsAt (steps.Size path) e (Some old) (Some new) → Opens (Err e)
  size_errs (IoError fault message) h = size_fails (IoError fault message) fault (inr (message, refl)) h
  size_errs OutOfMemory (inl same) = (unchanged cache old new sound (some_same new old same), inl refl)
  size_errs OutOfMemory (inr h) = size_fails OutOfMemory h.0 (inl refl) h.1
  size_errs e h = absurd h

  -- the log once the size was reported
  module _ (size : ℕ) where
    abbrev size_told : Moves
    size_told = (steps.Size path, answers.Length size) ∷ []

    abbrev mid : List LogItem
    mid = old ++ map (λ m. Made m.0 m.1) size_told

    module _ (r : Result PlainFile Error) (h : OpensTarget path r (Some mid) (Some new)) where
      last : Opened path r mid new
      last = target_opened path r mid new h

      told : AreAnswered (tree_of old) size_told × (tree_of mid ≡ tree_on (tree_of old) size_told)
      told = logs_lead old mid size_told refl (log_front mid new (map (λ m. Made m.0 m.1) last.moves) (some_same new _ last.gains) logged)

      same : tree_of mid ≡ tree_of old
      same = told.1 ∙ sizing_keeps (tree_of old) path

      grows : Grows old mid
      grows = (size_told, refl)

      known : LeavesKnownCache cache old new
      known = known_left cache old new sound (opened_keeps path r mid new last logged ∙ same) (growths_join old mid new grows (gains_grow mid new last.moves last.gains))

      gives : GivesTarget cache path r mid new
      gives = gives_target cache path r mid new (subst (IsSound (home_of cache)) (sym same) sound) h last logged

      size_held : (held : List ℕ) → shown (tree_of old) path ≡ Some held → size ≡ length held
      size_held held shows =
          let both : answers.Length size ≡ answers.Length (length held) = told.0.0 ∙ sym (told_held (tree_of old) path held shows) in
          cc

  opens_sized : (r : Result (ℕ × PlainFile) Error) → OpensSized path r (Some old) (Some new) → Opens r
  opens_sized (Err e) (inl h) = size_errs e h
  opens_sized (Err e) (inr h) =
      let opens = subst (λ x. OpensTarget path (Err e) x (Some new)) h.2 h.3 in
      (known h.0 (Err e) opens, excuses_last e old (mid h.0) new (grows h.0 (Err e) opens) (gives h.0 (Err e) opens))
  opens_sized (Ok (size, file)) h =
      let opens = subst (λ x. OpensTarget path (Ok file) x (Some new)) h.1 h.2 in
      let g = gives size (Ok file) opens in
      let shows = sym (ap (λ t. shown t path) (same size (Ok file) opens)) ∙ g.1 in
      (known size (Ok file) opens, (g.0, shows, g.2, size_held size (Ok file) opens g.0 shows, g.3))

-- an opening that asks the size first leaves what was known
pub linkers_open_sized : (cache path : List ℕ) (r : Result (ℕ × PlainFile) Error) (old new : List LogItem) → IsCache cache old
    → OpensSized path r (Some old) (Some new) → IsLog new → LeavesKnownCache cache old new × GivesSized cache path r old new
linkers_open_sized cache path r old new sound h logged = opens_sized cache path old new sound logged r h

module _ (t : Tree) where
  -- names that lead to an end through so many links at most do so through one more
  one_more : (most : ℕ) (names end : Names) → followed most t names ≡ Ok end → followed (suc most) t names ≡ Ok end
  unfolding followed
  one_more zero names end e = search rules
  one_more (suc most) names end e = by (λ found. one_more most found end) (look t names) e
    where
      next : ((found : Names) → followed most t found ≡ Ok end → followed (suc most) t found ≡ Ok end) → (r : Result Names Fault) → and_then r (followed most t) ≡ Ok end → and_then r (followed (suc most) t) ≡ Ok end
      next rec (Ok found) e = rec found e
      next rec (Err fault) e = absurd cc

      by : ((found : Names) → followed most t found ≡ Ok end → followed (suc most) t found ≡ Ok end) → (o : Option Node) → on_link o names (λ target. and_then (standing t target) (followed most t)) ≡ Ok end
          → on_link o names (λ target. and_then (standing t target) (followed (suc most) t)) ≡ Ok end
      by rec (Some (Link target)) e = next rec (standing t target) e
      by rec other e = e

  -- what is at a path is at its place
  stands_at : (path : List ℕ) (names : Names) → standing t path ≡ Ok names → place t path ≡ Ok names
  unfolding standing
  stands_at path names = search rules

  -- the target of a link leads to the link's end
  ends_so : (target : List ℕ) (end : Names) → link_end t target ≡ Ok end → leads t target ≡ Ok end
  unfolding link_end leads
  ends_so target end e = search (rules, stands_at, one_more)

  shows_so : (target bytes : List ℕ) → blob_bytes t (Some (AtLink target)) ≡ Ok bytes → shown t target ≡ Some bytes
  unfolding apply file_at
  shows_so target bytes e = search (rules, ends_so)

-- if a link lies there, the bytes that are read are those that its target shows
pub links_show : (cache target bytes held : List ℕ) (i : List Hash) (log : List LogItem) → lies_under cache i log ≡ Some (AtLink target)
    → shown (tree_of log) target ≡ Some held → bytes_under cache i log ≡ Ok bytes → bytes ≡ held
links_show cache target bytes held i log lies shows reads =
    let is : Some bytes ≡ Some held = sym (shows_so (tree_of log) target bytes (sym (ap (blob_bytes (tree_of log)) lies) ∙ reads)) ∙ shows in
    cc
