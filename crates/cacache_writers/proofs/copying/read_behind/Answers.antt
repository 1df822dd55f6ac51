use Rattle.std.proofs.{Common.{◌+◌, ◌<◌, ℕ, List, [], ◌++◌, Option, Result, Ok, Err, length, take, refl, sym, ap, ◌∙◌, arith}, Math.Seq.{take-append-add}, lemmas.List.{take-append-le}}
use Rattle.std.specs.Io.{ReadsAtMost, KnownBytes.{ReadConsumes}}
use Rattle.cacache_store.specs.Outside as io
use Rattle.cacache_writers.specs.Writing.{ReadsBehind}
use Rattle.cacache_writers.proofs.copying.read_behind.Goals as goal

-- what a read leaves in the middle of a buffer comes after its front
behind : (known after : Option (List ℕ)) (a : Result ℕ io.Error) (front b rest : List ℕ) → 0 < length b → ReadsAtMost a b
    → ReadConsumes known after a b → ReadsBehind known front after (front ++ (b ++ rest)) a
behind known after (Ok n) front b rest room most bytes =
    let size = sym most.1 in (
      take n b,
      (bytes.0, size, λ none. bytes.1 none room),
      ap (λ k. take (length front + k) (front ++ (b ++ rest))) size ∙ (take-append-add front (b ++ rest) n
          ∙ ap (λ x. front ++ x) (take-append-le n b rest most.0)),
    )
behind known after (Err e) front b rest room most bytes = ([], (bytes, refl), take-append-add front (b ++ rest) 0)

pub returns : goal.returns
returns g c =
    let room : 0 < length c.read.new.buf = omega arith in
    behind _ _ c.read.result (take c.args.start c.args.buffer.now) c.read.new.buf _ room c.read.ensures.bound c.read.ensures.bytes
