use Rattle.uses_client.proofs.storing.replace.Goals as goal

pub returns-clause-older : goal.returns-clause-older
returns-clause-older g c = λ i bytes has apart. c.store.ensures.keeps.content i bytes apart has.content
