-- What is said of a package.
use Rattle.std.proofs.Common.{◌≡◌, Some, length, ap, subst, sym, ◌∙◌}
use Rattle.cacache.specs.{Calls.{Said}, Laws.{SaysFit, view}}
use Rattle.uses_client.specs.{Packages.{package_said}, Writing.{StoredWith}}
use Rattle.uses_client.proofs.installing.install.Goals as goal

pub returns : goal.returns
returns g c =
    let said : c.size-opts.result ≡ package_said (view c.args.about) (length c.args.data.now)
    = c.size-opts.ensures ∙ ap (λ (s : Said). record s { size = Some (length c.args.data.now) }) (c.metadata.ensures.said ∙ ap (λ (s : Said). record s { metadata = view c.args.about }) c.new.ensures) in
    let fits : SaysFit (package_said (view c.args.about) (length c.args.data.now)) = record { json = c.metadata.ensures.json; raw = tt; formed = tt } in
    let s = subst (λ (s : Said). StoredWith c.args.cache.now c.args.key.now s c.args.data.now c.store_with.result c.args.env.now.store c.store_with.new.env.store) said (c.store_with.ensures (subst SaysFit (sym said) fits)) in
    record { sound = s.sound; stored = s.stored; leads = s.leads; content = s.content; keeps = s.keeps; fails = s.fails }
