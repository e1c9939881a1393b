-- Whole numbers by a sign and a size: zero, sums of one sign, products.
use Rattle.std.specs.Prelude.{Bool, true, false, not, cond, ◌≡◌, refl, ℕ, zero, suc, ◌+◌, ◌*◌, pos, ◌+ℤ◌, ◌*ℤ◌}
use Rattle.std.proofs.Common.{sym, zero-mul, mul-zero}
use Rattle.std.proofs.Math.IntN.{neg_ℤ-+ℤ}
use Rattle.floating_product.specs.Rebuilt.{whole_with}

-- whole numbers of one sign, and of two
pub whole-zero : (m : Bool) → whole_with m 0 ≡ pos 0
whole-zero true = refl
whole-zero false = refl

pub whole-add : (m : Bool) (a b : ℕ) → whole_with m a +ℤ whole_with m b ≡ whole_with m (a + b)
whole-add true a b = sym (neg_ℤ-+ℤ (pos a) (pos b))
whole-add false a b = refl

pub whole-scale : (m : Bool) (a n : ℕ) → whole_with m a *ℤ pos n ≡ whole_with m (a * n)
whole-scale true zero n = rw (zero-mul n)
whole-scale true (suc a) n = refl
whole-scale false a n = refl

pub whole-product : (m n : Bool) (a b : ℕ) → whole_with m a *ℤ whole_with n b ≡ whole_with (cond m (not n) n) (a * b)
whole-product true true zero zero = refl
whole-product true true zero (suc b) = rw (zero-mul (suc b))
whole-product true true (suc a) zero = rw (mul-zero (suc a))
whole-product true true (suc a) (suc b) = refl
whole-product true false zero b = rw (zero-mul b)
whole-product true false (suc a) b = refl
whole-product false true a zero = rw (mul-zero a)
whole-product false true a (suc b) = refl
whole-product false false a b = refl
