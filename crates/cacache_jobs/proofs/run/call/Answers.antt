use Rattle.std.proofs.Common.{◌≡◌, ℕ, List, subst}
use Rattle.cacache_calls.{specs.{State.{Site}, Table.{opening}}, proofs.Promises.{calls_answer}}
use Rattle.cacache_jobs.{specs.JobStates.{site_of, Leads}, proofs.Running.{memory_lost, finds_bytes, reads_first}}
use Rattle.cacache_jobs.proofs.run.call.Goals as goal

pub finish-requires : goal.finish-requires
finish-requires g c = (opening (site_of c.args.cache.now c.as_str.result.now c.args.number) c.args.command, c.open-phase.ensures)

pub returns-clause-ran : goal.returns-clause-ran
returns-clause-ran g c =
    let is : c.as_str.result.now ≡ c.args.env.now.base = c.as_str.ensures.same in
    let site : Site = site_of c.args.cache.now c.args.env.now.base c.args.number in
    let leads = subst (λ (base : List ℕ). Leads g.S.File.FileHandle.seen g.S.Temp.TempHandle.seen c.open-phase.result (opening (site_of c.args.cache.now base c.args.number) c.args.command)) is c.open-phase.ensures in
    c.finish.ensures (opening site c.args.command) leads

pub returns-clause-found : goal.returns-clause-found
returns-clause-found g c =
    let site : Site = site_of c.args.cache.now c.args.env.now.base c.args.number in
    finds_bytes site c.args.command _ _ _ (returns-clause-ran g c)

pub returns-clause-read_first : goal.returns-clause-read_first
returns-clause-read_first g c =
    let site : Site = site_of c.args.cache.now c.args.env.now.base c.args.number in
    reads_first site c.args.command _ _ _ (returns-clause-ran g c)

pub returns-clause-promised : goal.returns-clause-promised
returns-clause-promised g c =
    let site : Site = site_of c.args.cache.now c.args.env.now.base c.args.number in
    let run = returns-clause-ran g c in
    calls_answer site c.args.command run.0 _ run.1

pub returns-clause-lost : goal.returns-clause-lost
returns-clause-lost g c = let run = returns-clause-ran g c in (run.0, memory_lost _ run.0 _ run.1, run.2)

pub returns-clause-formed : goal.returns-clause-formed
returns-clause-formed g c = c.form_command.ensures (site_of c.args.cache.now c.args.env.now.base c.args.number)
