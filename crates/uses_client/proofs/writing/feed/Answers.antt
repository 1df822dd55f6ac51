-- All bytes were taken, or the writer is gone.
use Rattle.std.proofs.Common.{◌≡◌, ◌++◌}
use Rattle.cacache.specs.Laws.{IsWriting, LeavesKnownCache}
use Rattle.uses_client.proofs.{Shown.{by_result}, Polled.{only_writes}}
use Rattle.uses_client.proofs.writing.feed.Goals as goal

pub returns : goal.returns
returns g c =
    let w = c.write_or_abandon-written in
    let laws = c.writer_laws.ensures in
    let old = c.args.env.now.store in
    let new = w.new.env.store in
    record {
      fed = λ cache key s bytes sound writing.
          by_result w.result (λ v. IsWriting cache key s (bytes ++ c.args.data.now) v × (v.writer.path ≡ c.args.writer.writer.path) × (new ≡ old)) (λ e. LeavesKnownCache cache old new)
          (λ v is. (
            laws.goes_on cache key s bytes c.args.data.now c.args.writer v writing (rw is at w.ensures.bytes) (rw is at w.ensures.takes) (rw is at w.ensures.goes_on) (rw is at w.ensures.said),
            (rw is at w.ensures.goes_on).1,
            rw is at w.ensures.quiet,
          ))
          (λ e is. laws.fails cache key s bytes c.args.writer e c.args.env.now sound writing (rw is at w.ensures.removed));
      fails = only_writes _ w.result w.ensures.earned (λ c k h. h) (λ w a h. h) (λ c m h. h) (λ f h. h);
    }
