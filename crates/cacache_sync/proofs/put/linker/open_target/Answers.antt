use Rattle.std.proofs.Common.{refl}
use Rattle.cacache_store.specs.declared.store.{answer.Answer.TheVariants.{File}, step.Step.TheVariants.{Open}}
use Rattle.cacache_sync.{specs.put.OpenLinkers.{asks_file}, proofs.{content.StepAnswers.{file_refused, refusal_of, refused_fails}, Linkers.{fails_by, goes_by, opened_so}}}
use Rattle.cacache_sync.proofs.put.linker.open_target.Goals as goal

pub returns-in-Ok : goal.returns-in-Ok
returns-in-Ok g c =
    let l = c.args.linked in
    let file = g.S.File.FileHandle.seen c.in-Ok.file in
    let did = opened_so c.in_ok-path.path l.path _ file _ _ c.in_ok-path.ensures.cases c.in-Ok.ensures c.step.ensures.fits c.step.ensures.logged in
    record {
      opens = (record { linked_is = refl; empty = (c.new-hasher.ensures.fed, c.new-hasher.ensures.algorithm, refl) }, did.1);
      begins = ((c.new-hasher.ensures.fed, c.new-hasher.ensures.algorithm, refl), refl, λ moment. goes_by (asks_file l moment) _ (Open l.path) (File file) _ _ refl did.0 refl did.1);
    }

pub returns-in-Err : goal.returns-in-Err
returns-in-Err g c =
    let l = c.args.linked in
    let path = c.in_ok-path.path in
    let r = refusal_of _ c.in-Err.error c.in-Err.ensures in
    let failed = refused_fails (Open path) _ r.0 c.in-Err.error _ _ (file_refused path _ r.0 r.1 c.step.ensures.fits) c.step.ensures.logged r.2 in
    let failed_so = rw c.in_ok-path.ensures.cases at failed in
    record { opens = failed_so; begins = λ moment. fails_by (asks_file l moment) (Open l.path) c.in-Err.error _ _ refl (λ fault. refl) failed_so }
