-- Which errors calls that store, remove or clear may give.
use Rattle.std.specs.Prelude.{◌≡◌, ℕ, List, None, Some}
use Rattle.cacache_core.specs.declared.errors.Error.TheVariants.{IoError, OutOfMemory}
use Rattle.cacache_calls.specs.{declared.{command.{Put.{Put}, Delete.{Delete}}, reply.Reply.{Reply, TheVariants.{Refused}}}, Inserting.{deletion, refused_cause}, Runs.{Moves, Runs}, State.{Site}, Storing.{insertion_of, put_commit}, Table.{opening}}
use Rattle.cacache_calls.specs.declared.command.Command.TheVariants as commands

-- no error except that of a step, or out of memory
abbrev pub FailsOnly : Reply → Type 0
FailsOnly (Refused OutOfMemory) = Unit {0}
FailsOnly (Refused (IoError fault message)) = Unit {0}
FailsOnly (Refused e) = ⊥
FailsOnly r = Unit {0}

-- a put with a key that expects no integrity and no size, and has an entry that can be written
pub record IsPlainPut (cache key : List ℕ) (p : Put) : Type 0 where
  pub key_is : p.key ≡ Some key
  pub no_integrity : p.options.integrity ≡ None
  pub no_size : p.options.size ≡ None
  pub written : refused_cause (insertion_of (put_commit cache p) key) ≡ None

-- such a put gives no other error; a removal with an entry that can be written doesn't, and a
-- clearing doesn't
pub record CallsFailOnly : Type 0 where
  pub puts : (site : Site) (key : List ℕ) (p : Put) (moves : Moves) (r : Reply)
      → IsPlainPut site.cache key p → Runs (opening site (commands.Put p)) moves r → FailsOnly r
  pub deletes : (site : Site) (d : Delete) (moves : Moves) (r : Reply)
      → refused_cause (deletion site.cache d) ≡ None
      → Runs (opening site (commands.Delete d)) moves r → FailsOnly r
  pub clears : (site : Site) (moves : Moves) (r : Reply)
      → Runs (opening site commands.Clear) moves r → FailsOnly r
