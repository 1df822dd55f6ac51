-- The state of a commit after a write, what it promises from then on, and syncs of folders.
use Rattle.std.proofs.{Common.{◌≡◌, ◌==◌, ℕ, List, [], ◌∷◌, Bool, true, false, cond, length, refl, arith, ◌+◌, ◌++◌}, lemmas.Bool.{eqb-true}}
use Rattle.cacache_store.specs.declared.store.plain.PlainTemp.{PlainTemp}
use Rattle.cacache_calls.specs.{declared.{reply.Reply.{Reply}, carried.Commit.{Commit}}, State.{writing, syncing, persisting, State, doing, sync_dir}, Storing.{write_rest, persist, move_in}, Promises.{Stores, Promises}, Common.{sync_up}, Runs.{effort}}

-- no bytes are left to write
pub nothing_left : (c : Commit) (file : PlainTemp) (rest : List ℕ) → (length rest == 0) ≡ true → write_rest c file rest ≡ persist c file
nothing_left c file [] e = refl
nothing_left c file (b ∷ bs) e =
    let none : length (b ∷ bs) ≡ 0 = eqb-true (length (b ∷ bs)) 0 e in absurd (omega arith)

-- some bytes are left to write
pub some_left : (c : Commit) (file : PlainTemp) (rest : List ℕ) → (length rest == 0) ≡ false → write_rest c file rest ≡ writing c file rest
some_left c file [] e = absurd cc
some_left c file (b ∷ bs) e = refl

-- a commit promises the same, whether or not it is durable
pub moved_promise : (c : Commit) (file : PlainTemp) (r : Reply) → Promises (move_in c file) r → Stores c r
moved_promise c file r = by c.options.durable
  where
    by : (b : Bool) → Promises (cond b (syncing c file) (persisting c file)) r → Stores c r
    by true h = h
    by false h = h

-- ---- syncs of folders, one after another

-- the last folder comes first
pub last_first : (folders : List (List ℕ)) (folder : List ℕ) (next : State) → sync_up (folders ++ folder ∷ []) next ≡ doing (sync_dir folder) (sync_up folders next)
last_first [] folder next = refl
last_first (p ∷ ps) folder next = last_first ps folder (doing (sync_dir p) next)

-- each folder takes one step
pub sync_effort : (folders : List (List ℕ)) (next : State) → effort (sync_up folders next) ≡ length folders + effort next
sync_effort [] next = omega arith
sync_effort (p ∷ ps) next = omega (arith, sync_effort ps (doing (sync_dir p) next))

of_either : (b : Bool) (s t : State) → effort (cond b s t) ≡ cond b (effort s) (effort t)
of_either true s t = refl
of_either false s t = refl

-- the bound on the steps before a temporary file becomes the content
pub moved_effort : (c : Commit) (file : PlainTemp) → effort (move_in c file) ≡ cond c.options.durable 16 15
moved_effort c file = of_either c.options.durable (syncing c file) (persisting c file)
