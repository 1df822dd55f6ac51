use Rattle.std.proofs.lemmas.{List.{take_rest}, Result.{IfOk-equal}}
use Rattle.cacache_core.proofs.PathLemmas.{digits_rest}
use Rattle.cacache_core.proofs.paths.push_last_name.Goals as goal

pub returns : goal.returns
returns c =
    let d = c.args.digest.now in
    IfOk-equal _ _ _ _ c.push_hex.ensures (rw (digits_rest d c.requires, take_rest d 2))
