-- `floating_product::halves::exact_product` meets its contract.
use Prim.Native.Nat.{◌^◌}
use native.Mathlib.Omega.{arith}
use Rattle.floating_word.specs.Laws.Halves.{halves_are}
use Rattle.floating_product.specs.Laws.Columns.{by-columns, low-digits}
use Rattle.floating_product.proofs.Digits.{digits}
use Rattle.floating_product.proofs.halves.exact_product.Goals as goal

pub overflow_mul-low : goal.overflow_mul-low
overflow_mul-low c = let d = digits c.args.a c.args.b c.requires.0 c.requires.1 in omega arith

pub overflow_mul-middle : goal.overflow_mul-middle
overflow_mul-middle c = let d = digits c.args.a c.args.b c.requires.0 c.requires.1 in omega arith

pub overflow_mul-middle-2 : goal.overflow_mul-middle-2
overflow_mul-middle-2 c = let d = digits c.args.a c.args.b c.requires.0 c.requires.1 in omega arith

pub overflow_add-middle : goal.overflow_add-middle
overflow_add-middle c = let d = digits c.args.a c.args.b c.requires.0 c.requires.1 in omega arith

pub overflow_add-middle-2 : goal.overflow_add-middle-2
overflow_add-middle-2 c = let d = digits c.args.a c.args.b c.requires.0 c.requires.1 in omega arith

pub overflow_mul-result : goal.overflow_mul-result
overflow_mul-result c = let d = digits c.args.a c.args.b c.requires.0 c.requires.1 in omega arith

pub overflow_add-result : goal.overflow_add-result
overflow_add-result c = let d = digits c.args.a c.args.b c.requires.0 c.requires.1 in omega arith

pub returns : goal.returns
returns c = halves_are _ (low-digits (2 ^ 24) c.args.a c.args.b (omega arith)) (by-columns (2 ^ 24) c.args.a c.args.b (omega arith))
