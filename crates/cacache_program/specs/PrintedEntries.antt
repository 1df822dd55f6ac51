-- Entries as they are printed.
use Rattle.std.specs.Prelude.{ℕ, List}
use Rattle.cacache.specs.Entries.{Found, printed_entry, text_of as text_of_entry}

-- the text of an entry that was found
abbrev pub entry_text : Found → List ℕ
entry_text f = text_of_entry (printed_entry f)
