-- Digits written over a text of one byte.
use Rattle.std.proofs.Common.{◌≡◌, ◌∙◌, ap, arith, List, [], ◌∷◌, ◌++◌, ℕ, ◌+◌, ◌-◌, ◌<◌, ◌≤◌, length, drop, replicate}
use Rattle.std.proofs.lemmas.List.{length-replicate, drop-replicate}
use Rattle.std.proofs.lemmas.List.Edits.{sets, sets-eq}
use Rattle.word_octal.specs.Write.{digits}
use Rattle.word_octal.specs.Laws.Write.{length_digits}

-- digits written over all but the last of k bytes
pub before_the_last : (k n byte : ℕ) → 0 < k → sets (replicate k byte) 0 (digits (k - 1) n) ≡ digits (k - 1) n ++ byte ∷ []
before_the_last k n byte h =
    let text : List ℕ = digits (k - 1) n in
    let long : 0 + length text ≡ k - 1 = omega (arith, length_digits (k - 1) n) in
    let room : length (replicate k byte) ≡ k = length-replicate k byte in
    let one : k - (k - 1) ≡ 1 = omega arith in
    let fits : 0 + length text ≤ length (replicate k byte) = omega arith in
    let rest : drop (0 + length text) (replicate k byte) ≡ byte ∷ [] =
    ap (λ i. drop i (replicate k byte)) long ∙ drop-replicate (k - 1) k byte ∙ ap (λ i. replicate i byte) one in
    sets-eq text (replicate k byte) 0 fits ∙ ap (λ t. text ++ t) rest
