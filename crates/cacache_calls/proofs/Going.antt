-- How a run grows step by step, which states come next, and that out of memory ends it.
use Rattle.std.proofs.{Common.{◌≡◌, Bool, true, false, cond, Result, Ok, Err, refl, arith, ◌⊎◌, inl, inr, List, [], ◌∷◌, ◌++◌, Option, Some, option_map, ◌∙◌, ap, rules, ℕ, None}, lemmas.Grind.{common_steps}}
use Rattle.cacache_core.specs.declared.{errors.{Fault.{Fault}, Error.{TheVariants.{OutOfMemory}, Error}, SerdeCause.{SerdeCause}}, integrity.digest.Hash.{Hash}}
use Rattle.cacache_calls.specs.{declared.{answers.Refusal.{Refusal}, reply.Reply.{Reply, TheVariants.{Refused}}, carried.Commit.{Commit}, visit.Visit.TheVariants.{Enter}}, State.{State, over, doing, syncing, persisting, appending, Insertion, make_folder, sync_file, sync_dir, walking}, Common.{ends_with, go_on, sync_up}, Walking.{failed}, Table.{wants, after}, Runs.{Moves, Runs, Goes, Gone, Gains, Ran, without_message}, Inserting.{unless_refused, recorded}, Storing.{indexed, sized, compared, placed, secured, secured_found, move_in}}
use Rattle.cacache_store.specs.{declared.store.{log.LogItem.{LogItem, TheVariants.{Made}}, plain.PlainTemp.{PlainTemp}}, Plain.{PlainStep, PlainAnswer, Fits, Logs, is_no_memory}}
use Rattle.cacache_calls.specs.declared.answers.Refusal.TheVariants as refusals
use Rattle.cacache_store.specs.declared.store.answer.Answer.TheVariants as answers

module _ (P : State → Type 0) where
  pub cond_leads : (b : Bool) (s t : State) → (b ≡ true → P s) → (b ≡ false → P t) → P (cond b s t)
  cond_leads true s t k l = k refl
  cond_leads false s t k l = l refl

  pub go_on_leads : {X : Type 0} (a : Result X Refusal) (failed : Fault → State) (next : X → State) → P (ends_with OutOfMemory) → ((fault : Fault) → P (failed fault)) → ((x : X) → a ≡ Ok x → P (next x)) → P (go_on a failed next)
  go_on_leads (Ok x) failed next m f k = k x refl
  go_on_leads (Err (refusals.Fault fault)) failed next m f k = f fault
  go_on_leads (Err refusals.Memory) failed next m f k = m

-- ---- how a run grows step by step

-- a move in the log
abbrev pub made : PlainStep × PlainAnswer → LogItem
made move = Made move.0 move.1

-- memory was refused, or not
pub answer_cases : (t : PlainAnswer) → ((b : PlainStep) × (t ≡ answers.NoMemory b)) ⊎ (is_no_memory t ≡ false)
answer_cases t = grind (arith, common_steps)

-- a log gains one more move
pub gains_one : (old new : Option (List LogItem)) (moves : Moves) (move : PlainStep × PlainAnswer) → Gains old new moves → Gains old (option_map (λ log. log ++ made move ∷ []) new) (moves ++ move ∷ [])
gains_one old new moves move e = grind (arith, common_steps)

-- a log gains no move
pub no_gain : (log : Option (List LogItem)) → Gains log log []
no_gain log = grind (arith, common_steps)

pub goes_on : (s : State) (moves : Moves) (u : State) (a : PlainStep) (t : PlainAnswer) → Goes s moves u → wants u ≡ Some a → Fits a t → Goes s (moves ++ (a, t) ∷ []) (after u t)
goes_on s [] u a t g w fits = (ap wants g ∙ w, fits, ap (λ (x : State). after x t) g)
goes_on s (m ∷ moves) u a t g w fits = (g.0, g.1, goes_on (after s m.1) moves u a t g.2 w fits)

pub goes_over : (s : State) (moves : Moves) (r : Reply) → Goes s moves (over r) → Runs s moves r
goes_over s [] r g = inl g
goes_over s (m ∷ moves) r g = (g.0, g.1, goes_over (after s m.1) moves r g.2)

pub goes_lost : (s : State) (moves : Moves) (u : State) → Goes s moves u → Runs s moves (Refused OutOfMemory)
goes_lost s [] u g = inr refl
goes_lost s (m ∷ moves) u g = (g.0, g.1, goes_lost (after s m.1) moves u g.2)

-- one more step
pub gone_on : (s u : State) (old new next : Option (List LogItem)) (a : PlainStep) (t : PlainAnswer) → Gone s u old new → wants u ≡ Some a → Fits a t → Logs new next a t → is_no_memory t ≡ false → Gone s (after u t) old next
gone_on s u old new next a t g w fits logs n =
    let e : next ≡ option_map (λ log. log ++ made (a, t) ∷ []) new = rw n at logs in
    (g.0 ++ (a, t) ∷ [], goes_on s g.0 u a t g.1 w fits, rw e (gains_one old new g.0 (a, t) g.2))

-- memory was refused: the step isn't in the log
pub unmoved : (new next : Option (List LogItem)) (a b : PlainStep) (t : PlainAnswer) → t ≡ answers.NoMemory b → Logs new next a t → next ≡ new
unmoved new next a b t e logs = rw e at logs

-- a call that is over
pub gone_over : (s : State) (old new : Option (List LogItem)) (r : Reply) → Gone s (over r) old new → Ran s r old new
gone_over s old new r g = (g.0, goes_over s g.0 r g.1, g.2)

-- a call may end out of memory anywhere
pub gone_lost : (s u : State) (old new : Option (List LogItem)) → Gone s u old new → Ran s (Refused OutOfMemory) old new
gone_lost s u old new g = (g.0, goes_lost s g.0 u g.1, g.2)

-- ---- the next states after the last states of a commit and of an insertion

module _ (P : State → Type 0) where
  pub moves_on : (c : Commit) (file : PlainTemp) → P (syncing c file) → P (persisting c file) → P (move_in c file)
  moves_on c file h k = cond_leads P c.options.durable (syncing c file) (persisting c file) (λ _. h) (λ _. k)

  -- each sync leads to what holds after it
  module _ (before : (path : List ℕ) (s : State) → P s → P (doing (sync_file path) s) × P (doing (sync_dir path) s)) where
    syncs : (folders : List (List ℕ)) (s : State) → P s → P (sync_up folders s)
    syncs [] s h = h
    syncs (p ∷ ps) s h = syncs ps (doing (sync_dir p) s) (before p s h).1

    pub secures : (c : Commit) → P (placed c) → P (secured c)
    secures c h = search (rules, cond_leads, syncs)

    pub secures_found : (c : Commit) → P (placed c) → P (secured_found c)
    secures_found c h = search (rules, cond_leads, secures)

    pub records : (i : Insertion) → P (over i.reply) → P (recorded i)
    records i h = search (rules, cond_leads, syncs)

-- the states that may follow once a content is stored: over, or an entry's append
module _ (P : State → Type 0) (ended : (reply : Reply) → P (over reply)) (added : (folder : List ℕ) (i : Insertion) → P (doing (make_folder folder) (appending i))) where
  pub inserts : (i : Insertion) (cause : Option SerdeCause) → P (unless_refused i cause)
  inserts i cause = grind (arith, common_steps)

  indexes : (c : Commit) (key : Option (List ℕ)) → P (indexed c key)
  indexes c key = grind (arith, inserts)

  sizes : (c : Commit) (size : Option ℕ) → P (sized c size)
  sizes c size = grind (arith, indexes, cond_leads)

  compares : (c : Commit) (expected : Option (List Hash)) → P (compared c expected)
  compares c expected = grind (arith, sizes, cond_leads)

  pub places : (c : Commit) → P (placed c)
  places c = compares c c.options.integrity

-- ---- out of memory ends every call, and only the end of a call leaves it without a next step

pub no_memory_after : (s : State) (a b : PlainStep) → wants s ≡ Some a → after s (answers.NoMemory b) ≡ over (Refused OutOfMemory)
no_memory_after (walking w (Enter p level) todo) a b e = refl
no_memory_after (over reply) a b e = absurd cc
no_memory_after s a b e = refl

pub wants_until_over : (s : State) → wants s ≡ None → (reply : Reply) × (s ≡ over reply)
wants_until_over (over reply) e = (reply, refl)
wants_until_over s e = absurd cc

-- an error without its message is out of memory only if the error itself is
pub memory_said : (e : Error) → Refused (without_message e) ≡ Refused OutOfMemory → e ≡ OutOfMemory
memory_said OutOfMemory said = refl
memory_said e said = absurd cc
