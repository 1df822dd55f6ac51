use Rattle.cacache_sync.proofs.content.Rests.{finished}
use Rattle.cacache_sync.proofs.content.reader.SyncReader.finish.Goals as goal

pub returns : goal.returns
returns g c =
    let x = c.in_ok-drain.ensures.passes in
    record {
      finishes = λ i bytes had.
          let all = x.2 i bytes had in
          finished (g.F.FileHandle.seen c.args.self.file) i bytes x.0 x.1 c.check.result (c.check.ensures.ok i _ all, c.check.ensures.met i _ all, c.check.ensures.err i _ all);
    }
