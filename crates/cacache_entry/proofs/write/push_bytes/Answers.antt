use Rattle.std.proofs.Common.{rules, ◌≡◌, [], ◌∷◌, ℕ, List, ◌++◌, Option, option_map, Vec, Global, sym, ap, ap₂, ◌∙◌}
use Rattle.json.specs.{Print.{print}, Token.{Token, begin_array}}
use Rattle.serde_json.specs.Written.{compact_text}
use Rattle.cacache_entry.{specs.{Entry.{bytes_or_null}, Tokens.{byte_tokens}}, proofs.{Pieces.{appended}, EntryTexts.{print-bytes}}}
use Rattle.cacache_entry.proofs.write.push_bytes.Goals as goal

abbrev text_of_bytes : Option (Vec ℕ Global) → List ℕ
text_of_bytes o = compact_text (bytes_or_null (option_map (λ b. b.items) o))

pub returns-in_ok-write_array-in-Some-clause-text :
    goal.returns-in_ok-write_array-in-Some-clause-text
returns-in_ok-write_array-in-Some-clause-text c =
    let put = λ (before : List ℕ) (tokens : List Token). before ++ print tokens in
    let before : c.write_array.new.out.before ≡ [] = search rules in
    let tokens : c.write_array.new.out.tokens ≡ begin_array ∷ byte_tokens c.in-Some.bytes.items = search rules in
    let printed = c.into_inner.ensures.items ∙ ap₂ put before tokens in
    appended c.extend_from_slice.result _ c.args.out.now.items _ _ c.extend_from_slice.ensures.items
    (ap (λ (l : List ℕ). c.args.out.now.items ++ l) (c.deref-in-Some.ensures.value ∙ printed ∙ print-bytes c.in-Some.bytes.items ∙ ap text_of_bytes (sym c.in-Some.is)))
