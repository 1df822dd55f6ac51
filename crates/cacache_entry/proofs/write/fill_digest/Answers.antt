use Rattle.std.proofs.{Common.{◌≡◌, ℕ, ◌-◌, List, ◌++◌, length, take, drop, ap, ap₂, ◌∙◌, arith, length-drop, drop-drop}, lemmas.List.{take_all}}
use Rattle.hex.specs.Hex.{encode_lower}
use Rattle.sha2.specs.Sha256.{sha256}
use Rattle.cacache_core.specs.Integrity.{sha256_hex}
use Rattle.cacache_entry.proofs.write.fill_digest.Goals as goal

pub returns : goal.returns
returns c =
    let line = c.args.line.now in
    let text : take (length line - 66) (drop 66 line) ≡ drop 66 line = take_all (length line - 66) (drop 66 line) (omega (arith, length-drop 66 line)) in
    let digest : c.encode_to_slice.new.output ≡ sha256_hex (drop 66 line) = c.in-Ok.ensures.written ∙ ap encode_lower (c.digest-digest.ensures ∙ ap sha256 text) in
    ap₂ (λ (digits rest : List ℕ). take 1 line ++ (digits ++ rest)) digest (drop-drop 64 1 line)
