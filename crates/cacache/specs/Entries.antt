-- Entries, what lookups find, and the text and the line of an entry, for the crates above.
pub use Rattle.cacache_core.specs.Integrity.{sha256_hex}
pub use Rattle.cacache_entry.specs.declared.metadata.Metadata.{Metadata}
pub use Rattle.cacache_entry.specs.Entry.{Entry, text_of, line_of}
pub use Rattle.cacache_entry.specs.Bucket.{Found}
pub use Rattle.cacache_entry.specs.View.{entry_view, found_view}
pub use Rattle.cacache_sync.specs.Lookups.{printed_entry}
