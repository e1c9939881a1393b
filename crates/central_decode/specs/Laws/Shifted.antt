-- The instruction at the top of a shifted word is the one at its place of the word, but for K at the last place.
use Rattle.std.specs.Prelude.{◌≡◌, ℕ, ◌+◌, ◌-◌, ◌*◌, ◌/◌, ◌%◌, ◌^◌, ◌≤◌, ◌<◌}
use Rattle.std.proofs.Math.Path.{sym}
use Rattle.std.proofs.Common.{ap, subst, ◌∙◌, mod-lt, arith, lt-ltb, pow_pos, shr_lt}
use Rattle.std.proofs.Math.Pow.{shr_mod}
use Rattle.word_arithmetic.specs.Bits.{bits}
use Rattle.word_arithmetic.specs.Laws.Bits.{bits-lt, bits-of-bits, bits-shifted-left, shifted-left-twice}
use Rattle.central_decode.specs.Parcels.{parcel}
use Rattle.central_decode.specs.Instruction.{constant_at, decoded}
use Rattle.central_decode.specs.Shifted.{shifted_to, decoded_top}
use Rattle.central_decode.specs.Widths.{Fit, Read}
use Rattle.central_decode.specs.declared.instruction.Instruction.{Instruction}

-- the instruction q with another K
abbrev pub with_constant : Instruction → ℕ → Instruction
with_constant q n = record { code = q.code; i = q.i; j = q.j; k = q.k; jk = q.jk; constant = n }

module _ (w place : ℕ) (h : place < 4) where
  -- c bits of the parcel, from its bit g up
  top-parcel : (g c : ℕ) → g + c ≤ 15 → bits (shifted_to w place) (49 + g) c ≡ bits (parcel w place) g c
  unfolding shifted_to
  top-parcel g c l =
      bits-shifted-left 64 w (4 + 15 * place) (45 - 15 * place + g) (49 + g) c (omega arith) (omega arith)
      ∙ sym (bits-of-bits w (45 - 15 * place) 15 g c l)

  top-code : shifted_to w place / 2 ^ 58 ≡ bits (parcel w place) 9 6
  unfolding shifted_to
  top-code = sym (shr_mod 6 58 (mod-lt (w * 2 ^ (4 + 15 * place)) (pow_pos 64))) ∙ top-parcel 9 6 (omega arith)

  pub top-decoded : decoded_top (shifted_to w place) ≡ with_constant (decoded w place) (bits (shifted_to w place) 34 18)
  unfolding decoded_top decoded
  top-decoded =
      rw (top-code, top-parcel 6 3 (omega arith), top-parcel 3 3 (omega arith), top-parcel 0 3 (omega arith), top-parcel 0 6 (omega arith))

-- before the last place K is there too
top-constant : (w place : ℕ) → place < 3 → bits (shifted_to w place) 34 18 ≡ constant_at w place
unfolding shifted_to constant_at
top-constant w place h =
    rw (lt-ltb place 3 h) (bits-shifted-left 64 w (4 + 15 * place) (30 - 15 * place) 34 18 (omega arith) (omega arith))

pub top-whole : (w place : ℕ) → place < 3 → decoded_top (shifted_to w place) ≡ decoded w place
unfolding decoded
top-whole w place h =
    top-decoded w place (omega arith) ∙ ap (with_constant (decoded w place)) (top-constant w place h)

pub top-fits : (v : ℕ) → v < 2 ^ 64 → Fit (decoded_top v)
unfolding decoded_top
top-fits v h =
    record {
      code = shr_lt 6 58 h;
      i = bits-lt v 55 3;
      j = bits-lt v 52 3;
      k = bits-lt v 49 3;
      jk = bits-lt v 49 6;
      constant = bits-lt v 34 18;
    }

-- q is that instruction where each part is
pub top_read : (q : Instruction) (v : ℕ) → v < 2 ^ 64 → q.code ≡ v / 2 ^ 58 → q.i ≡ bits v 55 3 → q.j ≡ bits v 52 3 → q.k ≡ bits v 49 3
    → q.jk ≡ bits v 49 6 → q.constant ≡ bits v 34 18 → Read q (decoded_top v)
unfolding decoded_top
top_read q v h code i j k jk constant =
    let e : q ≡ decoded_top v = rw (← code, ← i, ← j, ← k, ← jk, ← constant) in
    record { is = e; fit = subst Fit (sym e) (top-fits v h) }

-- a shift by n parcels more
pub shift-on : (w place n : ℕ) → shifted_to w place * 2 ^ (15 * n) % 2 ^ 64 ≡ shifted_to w (place + n)
unfolding shifted_to
shift-on w place n =
    let e : 4 + 15 * place + 15 * n ≡ 4 + 15 * (place + n) = omega arith in
    shifted-left-twice 64 w (4 + 15 * place) (15 * n) ∙ ap (λ (x : ℕ). w * 2 ^ x % 2 ^ 64) e
