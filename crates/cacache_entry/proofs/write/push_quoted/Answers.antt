use Rattle.std.proofs.Common.{rules, ◌≡◌, [], ◌∷◌, ℕ, List, ◌++◌, ap, ap₂, ◌∙◌}
use Rattle.json.specs.{Print.{print}, Token.{Token, string}}
use Rattle.cacache_entry.proofs.{Pieces.{appended}, EntryTexts.{print-string}}
use Rattle.cacache_entry.proofs.write.push_quoted.Goals as goal

pub returns : goal.returns
returns c =
    let put = λ (before : List ℕ) (tokens : List Token). before ++ print tokens in
    let before : c.string.new.self.before ≡ [] = search rules in
    let tokens : c.string.new.self.tokens ≡ string c.args.text.now ∷ [] = search rules in
    let printed = c.into_inner.ensures.items ∙ ap₂ put before tokens in
    appended c.extend_from_slice-2.result _ c.args.out.now.items _ _ c.extend_from_slice-2.ensures.items
    (ap (λ (l : List ℕ). c.args.out.now.items ++ l) (c.deref.ensures.value ∙ printed ∙ print-string c.args.text.now))
