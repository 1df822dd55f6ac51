-- Lines as the program holds them.
use Rattle.std.specs.Prelude.{List, map, string_bytes}
use Rattle.cacache_program.specs.{declared.lines.{Line.{Line as HeldLine}, Lines.{Lines}}, WordLs.{Line}}

-- the line that a value stands for
abbrev pub line_view : HeldLine → Line
line_view l = record { key = string_bytes l.key; text = l.text.items }

-- the lines that a value holds
abbrev pub lines_of : Lines → List Line
lines_of l = map line_view l.lines.items
