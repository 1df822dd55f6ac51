use Rattle.std.proofs.Common.{sym}
use Rattle.cacache_store.specs.Plain.{plain_answer}
use Rattle.cacache_walks.proofs.Stopping.{error_so, stops_at_fault, unread_shows, value_so}
use Rattle.cacache_walks.proofs.contents.walk.names_in.Goals as goal

pub returns-in-Err-Fault : goal.returns-in-Err-Fault
returns-in-Err-Fault g c =
    let t = plain_answer g.S.File.FileHandle.seen g.S.Temp.TempHandle.seen c.step.result in
    let refused = sym (rw c.in-Err-Fault.field-0-is at c.in-Err-Fault.ensures) in
    record {
      shows = value_so c.unread.result (λ names missing. (t, rw (sym c.in_ok-path.ensures.cases) (unread_shows c.in_ok-path.path t c.in-Err-Fault.fault names _ _ c.step.ensures.fits c.step.ensures.logged refused missing.0 missing.1))) c.unread.ensures.missing;
      stops = error_so c.unread.result (λ e fails. rw (sym c.in_ok-path.ensures.cases) (stops_at_fault c.in_ok-path.path t c.in-Err-Fault.fault e _ _ c.step.ensures.fits c.step.ensures.logged refused fails.0 fails.1)) c.unread.ensures.fails;
    }
