use Rattle.std.proofs.lemmas.Result.{IfOk-equal}
use Rattle.cacache_core.proofs.PathLemmas.{digits_first, digits_second}
use Rattle.cacache_core.proofs.paths.push_first_names.Goals as goal

pub returns : goal.returns
returns c =
    let d = c.args.digest.now in
    IfOk-equal _ _ _ _ c.push_hex-2.ensures (rw (c.in_ok-push_hex.ensures, digits_first d c.requires, digits_second d c.requires))
