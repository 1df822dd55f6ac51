use Rattle.cacache_core.proofs.{Printed.{printed}, Relation.{is_text, text_reads, read_is_integrity}}
use Rattle.cacache_core.proofs.laws.text_laws.Goals as goal

pub returns-clause-printed : goal.returns-clause-printed
returns-clause-printed c = printed

pub returns-clause-read : goal.returns-clause-read
returns-clause-read c = λ t i bytes. (is_text t i bytes, text_reads t i)

pub returns-clause-integrities : goal.returns-clause-integrities
returns-clause-integrities c = read_is_integrity
