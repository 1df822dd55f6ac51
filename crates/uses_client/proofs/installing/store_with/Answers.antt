-- A writer opens, takes all bytes and commits, or is given up.
use Rattle.std.proofs.{Common.{Some, [], arith, inr, refl, subst, sym}, lemmas.Result.{MatchResult-weaker}}
use Rattle.cacache.specs.Laws.{FileAt, said_integrity}
use Rattle.uses_client.{specs.Packages.{FailsWrite}, proofs.Shown.{if_free, unstored}}
use Rattle.uses_client.proofs.installing.store_with.Goals as goal

pub returns-in_err-opened : goal.returns-in_err-opened
returns-in_err-opened g c =
    let opened = c.in_err-opened.ensures in
    λ fits. unstored c.args.cache.now c.args.key.now c.args.opts c.args.data.now c.from_residual.result c.in_err-opened.field-0.0 c.args.env.now.store c.open.new.env.store c.from_residual.ensures.1 opened.leaves.0
    (c.joining_laws.ensures.known _ _ _ _ _ _ opened.leaves) (λ ready. subst FailsWrite (sym (opened.succeeds ready)) tt)

pub returns-in_err-written : goal.returns-in_err-written
returns-in_err-written g c =
    let opened = c.in_ok-opened.ensures in
    let gone = c.in_err-written.ensures.fed c.args.cache.now (Some c.args.key.now) c.args.opts [] opened.leaves.0 opened.writer in
    λ fits. unstored c.args.cache.now c.args.key.now c.args.opts c.args.data.now c.from_residual-in_err-written.result c.in_err-written.field-0.0 c.args.env.now.store c.feed.new.env.store c.from_residual-in_err-written.ensures.1 gone.0
    (c.joining_laws.ensures.known _ _ _ _ _ _ (c.joining_laws.ensures.leavings _ _ _ _ opened.leaves gone)) (λ ready. c.in_err-written.ensures.fails)

pub returns : goal.returns
returns g c = λ fits.
    let opened = c.in_ok-opened.ensures in
    let fed = c.in_ok-written.ensures.fed c.args.cache.now (Some c.args.key.now) c.args.opts [] opened.leaves.0 opened.writer in
    let left = rw (← fed.2) at opened.leaves in
    let done = c.finish.ensures.commits c.args.cache.now c.args.opts c.args.data.now left.0 fed.0 fits (omega arith) in
    record {
      sound = done.sound;
      stored = done.stored;
      expected = done.expected;
      leads = MatchResult-weaker c.finish.result done.leads (λ i leads. leads c.args.key.now refl) (λ e h. h);
      content = MatchResult-weaker c.finish.result done.content (λ i. if_free c.args.cache.now c.args.data.now (said_integrity c.args.opts c.args.data.now) c.args.env.now.store c.feed.new.env.store c.finish.new.env.store left) (λ e h. h);
      keeps = c.joining_laws.ensures.untouched _ _ _ _ _ _ _ (c.joining_laws.ensures.known _ _ _ _ _ _ left) done.keeps;
      fails = λ ready.
          let there = subst (λ p. FileAt p c.feed.new.env.store) (sym fed.1) (subst (λ log. FileAt c.in_ok-opened.opened.writer.path log) (sym fed.2) (opened.stands ready)) in
          MatchResult-weaker c.finish.result (c.finish.ensures.tells c.args.cache.now c.args.opts c.args.data.now left.0 ready.folder there fed.0 (omega arith)) (λ i h. h) (λ e h. inr h);
    }
