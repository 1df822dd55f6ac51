use Rattle.std.proofs.Common.{◌≡◌, ◌==◌, ◌++◌, false, length, length-append, refl, arith}
use Rattle.cacache_jobs.proofs.Checking.{more_read}
use Rattle.cacache_jobs.proofs.hashing.hash_piece.Goals as goal

pub returns : goal.returns
returns g c =
    λ h bytes k is.
    let more = c.args.got.bytes in
    let file = g.F.FileHandle.seen c.args.got.file in
    let nonempty : (length more == 0) ≡ false = cc in
    let size : c.in-Some.size ≡ length (bytes ++ more) = omega (arith, length-append bytes more, c.in-Some.ensures, c.len.ensures, is) in
    let fed = rw c.as_slice.ensures at (c.feed.ensures h bytes (rw c.deref_mut.ensures.value k)) in
    rw (more_read h bytes more file nonempty) (record { state = (h, bytes ++ more, fed, size, file, refl); wanted = refl })
