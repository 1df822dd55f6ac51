-- Links: the call reads the target to its end, and a link to it becomes the content.
use Rattle.std.specs.Prelude.{◌≡◌, ℕ, ◌==◌, List, [], ◌∷◌, ◌++◌, Option, Some, false, if◌then◌else◌, length}
use Rattle.cacache_core.specs.{declared.integrity.{algorithm.Algorithm.{Algorithm}, digest.Hash.{Hash}}, Integrity.{integrity_under}, Paths.{join}}
use Rattle.cacache_store.specs.declared.store.plain.PlainFile.{PlainFile}
use Rattle.cacache_calls.specs.{declared.{command.{Link.{Link}, Options.{Options}}, carried.Commit.{Commit}, target.Target.{Target}}, Steps.{content_path}, State.{State, opening_file, hashing, Site, Hashing, to_verify, to_link}, Storing.{link}, Reading.{verified}}

-- a target that doesn't begin with `/` is resolved against the base folder
abbrev pub based : List ℕ → List ℕ → List ℕ
based base [] = join base []
based base (c ∷ cs) = if c == 47 then c ∷ cs else join base (c ∷ cs)

-- a file to link to, with this base folder
abbrev pub linked_to :
    {M : Type 0} → List ℕ → List ℕ → Option (List ℕ) → List ℕ → M → Options → Target M
linked_to base cache key target moment options = record {
  cache = cache;
  key = key;
  path = based base target;
  moment = moment;
  options = options;
}

-- the same target with this time
abbrev pub target_at : {M : Type 0} → Target M → ℕ → Target ℕ
target_at t moment = record {
  cache = t.cache;
  key = t.key;
  path = t.path;
  moment = moment;
  options = t.options;
}

-- the target of a link at this site
abbrev pub link_target : Site → Link → Target ℕ
link_target site l = linked_to site.base site.cache l.key l.target l.moment l.options

-- the target's size becomes the expected size of its link
abbrev pub with_size : {M : Type 0} → Target M → ℕ → Target M
with_size t n = record t { options = record t.options { size = Some n } }

-- once its size is known, the call opens the target
abbrev pub after_size : Target ℕ → ℕ → State
after_size t n = opening_file (to_link (with_size t n))

-- for all bytes of this count that have this integrity under the algorithm
abbrev pub OnceRead : Algorithm → List Hash → ℕ → (List ℕ → Type 0) → Type 0
OnceRead algorithm computed count Goal = (bytes : List ℕ)
    → computed ≡ integrity_under algorithm bytes → count ≡ length bytes → Goal bytes

-- the content is what the call read from the target; links are never durable
abbrev pub commit_for : Target ℕ → List ℕ → Commit
commit_for t bytes = record {
  cache = t.cache;
  key = t.key;
  computed = integrity_under t.options.algorithm bytes;
  count = length bytes;
  moment = t.moment;
  options = record t.options { durable = false };
}

-- ---- a file that the call reads to its end, to verify it or to link to it

-- the path of that file
abbrev pub hashed_path : Hashing → List ℕ
hashed_path (to_verify k e) = content_path k.cache k.integrity
hashed_path (to_link t) = t.path

-- the call has read all bytes
abbrev pub hashed : Hashing → List ℕ → State
hashed (to_verify k e) bytes = verified k e bytes
hashed (to_link t) bytes = link (commit_for t bytes) t.path

-- a read of no bytes marks the end
abbrev pub after_read : Hashing → List ℕ → PlainFile × List ℕ → State
after_read h bytes (file, []) = hashed h bytes
after_read h bytes (file, b ∷ bs) = hashing h file (bytes ++ b ∷ bs)
