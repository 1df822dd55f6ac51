-- What stores do, for the crates above: steps, answers and logs.
pub use Rattle.cacache_store.specs.declared.store.log.LogItem.{LogItem}
pub use Rattle.cacache_store.specs.declared.store.plain.PlainFile.{PlainFile}
pub use Rattle.cacache_store.specs.Plain.{PlainStep, PlainAnswer, plain_step, plain_answer, Fits, Logs}
pub use Rattle.cacache_store.specs.Outside.{AddsAnswer}
