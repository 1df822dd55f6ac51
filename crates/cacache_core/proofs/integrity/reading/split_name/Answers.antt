use Rattle.std.{proofs.{Common.{◌≡◌, true, false, codes, nat_eq, List, ℕ, ap, ◌∙◌, sym}, lemmas.List.{take_rest}}, specs.List.{starts_with}}
use Rattle.base64.specs.{Engines.{standard}, GeneralPurpose.{decode_of}}
use Rattle.cacache_core.{specs.{declared.integrity.algorithm.Algorithm.TheVariants.{Sha512}, Texts.{read_word, hash_behind, decoded_hash}}, proofs.Reading.{fourth}}
use Rattle.cacache_core.proofs.integrity.reading.split_name.Goals as goal

pub returns-then-starts_with-4 : goal.returns-then-starts_with-4
returns-then-starts_with-4 c =
    let w = c.args.word.now in
    let sha1 : starts_with nat_eq w (codes "sha1-") ≡ false = cc in
    let sha256 : starts_with nat_eq w (codes "sha256-") ≡ false = cc in
    let sha384 : starts_with nat_eq w (codes "sha384-") ≡ false = cc in
    let sha512 : starts_with nat_eq w (codes "sha512-") ≡ true = cc in
    let named : read_word w ≡ hash_behind Sha512 7 w = fourth _ _ _ _ _ _ _ _ _ sha1 sha256 sha384 sha512 in
    named ∙ ap (λ (d : List ℕ). decoded_hash Sha512 (decode_of standard d)) (sym (take_rest w 7))
