-- Room for what is left to write.
use Rattle.std.specs.Prelude.{List, ◌≡◌, ℕ, suc, ◌+◌, ◌-◌, ◌*◌, ◌≤◌, ◌<◌, length}
use Rattle.std.proofs.Common.{mul-suc, arith}
use Rattle.base_lists.specs.Written.{Wrote}
use Rattle.base_lists.specs.Laws.Written.{length-wrote}
use Rattle.word_octal.specs.Writes.{Writes}
use Rattle.word_octal.specs.declared.write.Writer.{Writer}

-- where n + m bytes have room, at most n leave room for m
pub room_after : {out after bytes : List ℕ} {at next : ℕ} (n m : ℕ) → Wrote out at bytes after next → length bytes ≤ n
    → at + (n + m) ≤ length out → next + m ≤ length after
room_after n m w l h = omega (arith, l, h, w.ends, length-wrote w)

-- a loop over count pieces of at most this width, i of which are written: the others have room
pub record BufferRoom (width count i : ℕ) (w : Writer) : Type 0 where
  pub fits : w.at + width * (count - i) ≤ length w.out.now

module _ {width count i : ℕ} {w : Writer} (g : BufferRoom width count i w) (h : i < count) where
  rest-fits : w.at + (width + width * (count - (i + 1))) ≤ length w.out.now
  rest-fits =
      let left : count - i ≡ suc (count - (i + 1)) = omega arith in
      let fits = rw (left, mul-suc width (count - (i + 1))) at g.fits in
      omega (arith, fits)

  pub room_for_next : w.at + width ≤ length w.out.now
  room_for_next = omega (arith, rest-fits)

  pub room_next : {after : Writer} {bytes : List ℕ} → Writes w bytes after → length bytes ≤ width → BufferRoom width count (i + 1) after
  room_next v l = record { fits = omega (arith, rest-fits, l, v.same_length, v.wrote.ends) }
