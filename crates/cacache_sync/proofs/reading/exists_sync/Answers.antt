use Rattle.std.proofs.Common.{refl, ap, ◌∙◌}
use Rattle.cacache_store.specs.Plain.{plain_answer}
use Rattle.cacache_calls.specs.{declared.reply.Reply.TheVariants.{Exists}, Replies.{there_reply}, Runs.{reply_of}}
use Rattle.cacache_sync.proofs.Asking.{asks_at, told_at}
use Rattle.cacache_sync.proofs.reading.exists_sync.Goals as goal

pub returns-clause-asks : goal.returns-clause-asks
returns-clause-asks g c =
    let answer = plain_answer g.S.File.FileHandle.seen g.S.Temp.TempHandle.seen c.step.result in
    let shown = c.is_there.ensures ∙ ap there_reply c.there_of.ensures in
    told_at c.args.cache.now c.args.sri.now c.in_ok-path.path answer c.is_there.result (g.S.Store.log c.args.env.now.store) (g.S.Store.log c.step.new.self) c.in_ok-path.ensures c.step.ensures.fits c.step.ensures.logged shown

pub returns-clause-ran : goal.returns-clause-ran
returns-clause-ran g c =
    let answer = plain_answer g.S.File.FileHandle.seen g.S.Temp.TempHandle.seen c.step.result in
    let shown = c.is_there.ensures ∙ ap there_reply c.there_of.ensures in
    let ran =
    asks_at (record { cache = c.args.cache.now; base = c.args.env.now.base; number = 0 }) c.args.sri.now c.in_ok-path.path answer (reply_of Exists c.is_there.result)
    (g.S.Store.log c.args.env.now.store) (g.S.Store.log c.step.new.self) c.in_ok-path.ensures c.step.ensures.fits c.step.ensures.logged shown in
    ((ran, refl), refl, refl)
