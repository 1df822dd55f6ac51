use Rattle.std.{proofs.{Common.{length, arith, rules}, lemmas.Str.Pattern.{rfind_char}}, specs.Prelude.{Some, None}}
use Rattle.cacache_folder.proofs.FolderNames.{found_slash, no_slash}
use Rattle.cacache_folder.proofs.folder.paths.above.Goals as goal

pub returns-in-Some-clause-value : goal.returns-in-Some-clause-value
returns-in-Some-clause-value c =
    let is = rfind_char 47 c.args.path.now (Some c.in-Some.at) c.in-Some.ensures.cases (omega arith) in
    let found = found_slash c.args.path.now c.in-Some.at (length c.args.path.now) is.0 is.1 is.2 in
    rw found (grind rules)

pub returns-in-None-clause-value : goal.returns-in-None-clause-value
returns-in-None-clause-value c =
    let is = rfind_char 47 c.args.path.now None c.in-None.ensures.cases (omega arith) in
    let none = no_slash c.args.path.now (length c.args.path.now) is in
    rw none (grind rules)
