use Rattle.std.proofs.Common.{inl, refl}
use Rattle.cacache_store.specs.declared.store.{answer.Answer.TheVariants.{Length}, step.Step.TheVariants.{Size}}
use Rattle.cacache_calls.specs.Linking.{with_size}
use Rattle.cacache_sync.specs.put.OpenLinkers.{asks_size, asks_file}
use Rattle.cacache_sync.proofs.{content.StepAnswers.{refusal_of, refused_fails, size_refused}, Linkers.{fails_by, goes_by, opened_after, opened_sized, sized_so}}
use Rattle.cacache_sync.proofs.put.linker.ask_size_and_open.Goals as goal

pub returns-in-Ok : goal.returns-in-Ok
returns-in-Ok g c =
    let l = c.args.linked in
    let size = c.in-Ok.size in
    let file = g.S.File.FileHandle.seen in
    let has = sized_so c.in_ok-path.path l.path _ size _ _ c.in_ok-path.ensures.cases c.in-Ok.ensures c.step.ensures.logged in
    let opens = rw c.with_size.ensures at c.open_target.ensures.opens in
    let begins = rw c.with_size.ensures at c.open_target.ensures.begins in
    record {
      opens = opened_sized file l size c.open_target.result _ _ _ has opens;
      begins = opened_after file l.moment (asks_size l) (asks_file (with_size l size)) c.open_target.result _ _ _
          (λ moment. goes_by (asks_size l moment) _ (Size l.path) (Length size) _ _ refl (record {}) refl has) begins;
    }

pub returns-in-Err : goal.returns-in-Err
returns-in-Err g c =
    let l = c.args.linked in
    let path = c.in_ok-path.path in
    let r = refusal_of _ c.in-Err.error c.in-Err.ensures in
    let failed = refused_fails (Size path) _ r.0 c.in-Err.error _ _ (size_refused path _ r.0 r.1 c.step.ensures.fits) c.step.ensures.logged r.2 in
    let failed_so = rw c.in_ok-path.ensures.cases at failed in
    record { opens = inl failed_so; begins = λ moment. fails_by (asks_size l moment) (Size l.path) c.in-Err.error _ _ refl (λ fault. refl) failed_so }
