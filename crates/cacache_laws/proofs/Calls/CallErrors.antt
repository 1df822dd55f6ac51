-- Calls that store, remove or clear give no error except that of a step, or out of memory.
-- Errors without their messages, as laws tell them.
use Rattle.std.proofs.{Common.{arith, rules, ◌≡◌, ◌⊎◌, inl, inr, ℕ, Bool, true, List, [], ◌∷◌, Option, None, Some, get_or, refl, sym, subst, ◌∙◌}, lemmas.Grind.{common_steps}}
use Rattle.cacache_core.specs.declared.{errors.{SerdeCause.{SerdeCause}, Error.{TheVariants.{SerdeError, EntryNotFound, OutOfMemory}, Error}}, integrity.digest.Hash.{Hash}}
use Rattle.cacache_store.specs.declared.store.log.LogItem.{LogItem}
use Rattle.cacache_calls.specs.{Walking.{EachVisit}, declared.{visit.Visit.{Visit, TheVariants.{ReadBucket}}, command.{Insert.{Insert}, Put.{Put}}, reply.Reply.{Reply, TheVariants.{Refused}}, carried.Commit.{Commit}}, Inserting.{unless_refused, insertion, deletion, refused_cause}, State.{State, Site, doing, creating, writing, syncing, persisting, linking, confirming, appending, walking, over, Insertion}, Storing.{insertion_of, indexed, sized, compared, placed, put_commit}, Table.{after, opening}, Runs.{Moves, Runs, without_message}}
use Rattle.cacache_calls.proofs.{Closed.{AnyAnswer, ClosedCommit, ClosedWalk, Closed, kept_always}, Keys.{MayMeet}}
use Rattle.cacache_laws.specs.{CallErrors.{FailsOnly, CallsFailOnly}, Caches.{IsExcused}}
use Rattle.cacache_calls.specs.declared.command.Command.TheVariants as commands

-- a commit that expects no integrity and no size, and has an entry that can be written
pub record Plain (c : Commit) : Type 0 where
  pub no_integrity : c.options.integrity ≡ None
  pub no_size : c.options.size ≡ None
  pub written : (key : List ℕ) → c.key ≡ Some key → refused_cause (insertion_of c key) ≡ None

-- what a clearing may visit: it reads no bucket
abbrev ClearsAt : Visit → Type 0
ClearsAt (ReadBucket p) = ⊥
ClearsAt other = Unit {0}

-- from this state on a call gives no other error
abbrev Calm : State → Type 0
Calm (doing errand s) = Calm s
Calm (creating number c rest) = Plain c
Calm (writing c file rest) = Plain c
Calm (syncing c file) = Plain c
Calm (persisting c file) = Plain c
Calm (linking c target) = Plain c
Calm (confirming c fault) = Plain c
Calm (appending i) = FailsOnly i.reply
Calm (walking w v todo) = (w.clears ≡ true) × (ClearsAt v × EachVisit ClearsAt todo)
Calm (over r) = FailsOnly r
Calm other = ⊥

-- ---- commits

by_cause : (i : Insertion) (cause : Option SerdeCause) → cause ≡ None → FailsOnly i.reply → Calm (unless_refused i cause)
by_cause i cause e h = grind (arith, common_steps)

by_key : (c : Commit) (key : Option (List ℕ)) → c.key ≡ key → Plain c → Calm (indexed c key)
by_key c key e p = grind (arith, by_cause)

by_size : (c : Commit) (size : Option ℕ) → size ≡ None → Plain c → Calm (sized c size)
by_size c size e p = grind (arith, by_key)

by_integrity : (c : Commit) (expected : Option (List Hash)) → expected ≡ None → Plain c → Calm (compared c expected)
by_integrity c expected e p = grind (arith, by_size)

places : (c : Commit) → Plain c → Calm (placed c)
places c p = by_integrity c c.options.integrity p.no_integrity p

-- ---- runs

abbrev IsClearing : Bool → Type 0
IsClearing clears = clears ≡ true

commits_calm : ClosedCommit AnyAnswer Calm
commits_calm = search (rules, places)

walks_calm : ClosedWalk AnyAnswer Calm IsClearing ClearsAt
walks_calm = search rules

closed : Closed AnyAnswer Calm IsClearing ClearsAt
closed = search (rules, commits_calm, walks_calm)

pub calm_run : (s : State) (moves : Moves) (r : Reply) → Calm s → Runs s moves r → FailsOnly r
calm_run s [] r h (inl e) = subst Calm e h
calm_run s [] r h (inr e) = subst FailsOnly (sym e) tt
calm_run s (m ∷ moves) r h run = calm_run (after s m.1) moves r (kept_always Calm IsClearing ClearsAt closed s m.1 h) run.2

same_key : (P : List ℕ → Type 0) (a b : List ℕ) (o : Option (List ℕ)) → o ≡ Some a → o ≡ Some b → P a → P b
same_key P a b o e f h = let same : Some a ≡ Some b = sym e ∙ f in let is : a ≡ b = cc in subst P is h

pub calls_fail_only : CallsFailOnly
calls_fail_only = search (rules, same_key, calm_run, by_cause)

-- so is a put without a key
pub contents_fail : (site : Site) (p : Put) (moves : Moves) (r : Reply) → p.key ≡ None → p.options.integrity ≡ None → p.options.size ≡ None → Runs (opening site (commands.Put p)) moves r → FailsOnly r
contents_fail site p moves r none no_integrity no_size run =
    let plain : Plain (put_commit site.cache p)
    = record { no_integrity = no_integrity; no_size = no_size; written = λ k e. let no : None ≡ Some k = sym none ∙ e in absurd cc } in
    calm_run (opening site (commands.Put p)) moves r plain run

-- ---- insertions

-- an insertion gives no other error, except that its entry can't be written
pub inserts_fail : (site : Site) (i : Insert) (moves : Moves) (r : Reply) → Runs (opening site (commands.Insert i)) moves r
    → FailsOnly r ⊎ ((cause : SerdeCause) × (refused_cause (insertion site.cache i) ≡ Some cause) × (r ≡ Refused (SerdeError cause [])))
inserts_fail site i moves r run = by (refused_cause (insertion site.cache i)) refl moves run
  where
    by : (cause : Option SerdeCause) → refused_cause (insertion site.cache i) ≡ cause → (moves : Moves) → Runs (unless_refused (insertion site.cache i) cause) moves r
        → FailsOnly r ⊎ ((cause : SerdeCause) × (refused_cause (insertion site.cache i) ≡ Some cause) × (r ≡ Refused (SerdeError cause [])))
    by None none moves run = inl (calm_run (unless_refused (insertion site.cache i) None) moves r (by_cause (insertion site.cache i) None refl tt) run)
    by (Some cause) some [] (inl e) = inr (cause, some, cc)
    by (Some cause) some [] (inr e) = inl (subst FailsOnly (sym e) tt)
    by (Some cause) some (m ∷ moves) run = absurd cc

pub plain_error : (e : Error) → without_message (without_message e) ≡ without_message e
plain_error e = grind (arith, common_steps)

-- an error that has no message is told as it is
pub memory_error : (e : Error) → without_message e ≡ OutOfMemory → e ≡ OutOfMemory
memory_error e h = grind (arith, common_steps)

pub missing_error : (e : Error) (cache key : List ℕ) → without_message e ≡ EntryNotFound cache key → e ≡ EntryNotFound cache key
missing_error e cache key h = grind (arith, common_steps)

-- what excuses an error without its message excuses it
pub excused_error : (e : Error) (old new : List LogItem) → IsExcused (without_message e) old new → IsExcused e old new
excused_error e old new h = grind (arith, memory_error)
