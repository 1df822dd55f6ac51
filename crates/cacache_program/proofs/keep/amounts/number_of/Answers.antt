-- Digits are a text, and what `parse` reads of them is their number.
use Rattle.std.{proofs.Common.{◌≡◌, ◌∙◌, true}, specs.Str.{all_ascii_digits}}
use Rattle.cacache_program.proofs.Numbers.{digits_are_text, number_read}
use Rattle.cacache_program.proofs.keep.amounts.number_of.Goals as goal

pub returns-in_default : goal.returns-in_default
returns-in_default c =
    let all : all_ascii_digits c.args.digits.now ≡ true = search in
    absurd (c.in_default.ensures.cases.0 (digits_are_text c.args.digits.now all))

pub returns : goal.returns
returns c =
    let all : all_ascii_digits c.args.digits.now ≡ true = search in
    c.ok.ensures.value ∙ number_read c.args.digits.now _ all (rw c.in-Ok.ensures.cases.0 at c.parse.ensures.value.0)
