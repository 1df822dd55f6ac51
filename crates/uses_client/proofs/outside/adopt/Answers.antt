-- What is read is what the file shows, to which the link leads.
use Rattle.std.proofs.Common.{◌≡◌, ◌∙◌, Some, ap, option_map, refl, sym}
use Rattle.cacache.specs.{Entries.{Found}, Integrities.{Sha256, integrity_under}, Laws.{based, lies_under}}
use Rattle.uses_client.proofs.Shown.{mirrored}
use Rattle.uses_client.proofs.outside.adopt.Goals as goal

pub fetch-requires : goal.fetch-requires
fetch-requires g c =
    let opened = c.in_ok-linker.ensures in
    (c.finish.ensures c.args.cache.now _ opened.linker.0 opened.leaves.0 c.requires.apart opened.linker.2).sound

pub returns-in_err-_sri-clause-sound : goal.returns-in_err-_sri-clause-sound
returns-in_err-_sri-clause-sound g c =
    let opened = c.in_ok-linker.ensures in
    (c.finish.ensures c.args.cache.now _ opened.linker.0 opened.leaves.0 c.requires.apart opened.linker.2).sound

pub returns : goal.returns
returns g c =
    let path = based c.args.env.now.base c.args.file.now in
    let opened = c.in_ok-linker.ensures in
    let done = c.in_ok-_sri.ensures c.args.cache.now path opened.linker.0 opened.leaves.0 c.requires.apart opened.linker.2 in
    let read = c.fetch.ensures in
    record {
      sound = read.leaves.0;
      mirrors = λ held before after none.
          let both : Some opened.linker.0 ≡ Some held = sym opened.linker.1 ∙ before in
          let same : opened.linker.0 ≡ held = cc in
          let lead = done.leads c.args.key.now refl in
          mirrored c.args.cache.now c.args.key.now path held c.in_ok-_sri._sri c.fetch.result c.args.env.now.store c.finish.new.env.store c.fetch.new.env.store
          (ap (option_map (λ (f : Found). f.integrity)) lead.1 ∙ ap Some lead.2.integrity) (done.stored ∙ ap (integrity_under Sha256) same)
          (λ free. ap (λ j. lies_under c.args.cache.now j c.finish.new.env.store) done.stored ∙ done.lies (opened.leaves.1.lies (integrity_under Sha256 opened.linker.0) ∙ ap (λ j. lies_under c.args.cache.now j c.args.env.now.store) (sym done.stored) ∙ free)) read.linked read.same after none;
    }
