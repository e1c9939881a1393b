-- 26 and the verdict on its package.
use Rattle.std.specs.Prelude.{Bool, true, false, cond, List, ◌≡◌, refl, ℕ, ◌+◌, Ok, Err}
use Rattle.base_outcome.specs.Numbers.{refusal_number, peripheral_stop_number}
use Rattle.base_outcome.specs.declared.refusal.Refusal.TheVariants as Refusal
use Rattle.base_outcome.specs.Verdict.{Verdict}
use Rattle.base_outcome.specs.declared.stop.PeripheralStop.TheVariants as Because
use Rattle.exchange_jump.specs.Jump.{package_inside, package_clean, field_inside, package_verdict}
use Rattle.peripheral_machine.specs.declared.effect.PeripheralEffect.{PeripheralEffect}
use Rattle.peripheral_machine.specs.declared.effect.PeripheralEffect.TheVariants as Effect
use Rattle.peripheral_machine.specs.declared.numbers.Processor.{Processor}
use Rattle.peripheral_io.specs.CentralSide.{exchange_of}

-- the number of an effect's stop, or 0
abbrev pub effect_stop : PeripheralEffect → ℕ
effect_stop (Effect.Advance p a) = 0
effect_stop (Effect.Store p a i w) = 0
effect_stop (Effect.ReadCentral p a i w) = 0
effect_stop (Effect.WriteCentral p a i w) = 0
effect_stop (Effect.SetChannel p a i c) = 0
effect_stop (Effect.Exchange p a i) = 0
effect_stop Effect.Wait = 0
effect_stop (Effect.Stop why) = peripheral_stop_number why

-- "33, 34, 35 for package faults 9, 10, 11": 24 more than the refusal's number
abbrev pub fault_stop : Verdict → ℕ
fault_stop (Ok _) = 0
fault_stop (Err r) = 24 + refusal_number r

by_tests : (inside clean field : Bool) (p a : ℕ)
    → effect_stop
    (cond inside (cond clean (cond field (Effect.Exchange p a a) (Effect.Stop Because.FieldPastEnd)) (Effect.Stop Because.StrayBits))
    (Effect.Stop Because.PackagePastEnd))
    ≡ fault_stop
    (cond inside
    (cond clean (cond field (Ok tt) (Err Refusal.FieldPastEnd)) (Err Refusal.StrayBits))
    (Err Refusal.PackagePastEnd))
by_tests true true true p a = refl
by_tests true true false p a = refl
by_tests true false f p a = refl
by_tests false c f p a = refl

-- 26 stops for each refusal of its package, by the refusal's number, and where there is none it exchanges
pub exchange-stops : (c : List ℕ) (q : Processor) → effect_stop (exchange_of c q) ≡ fault_stop (package_verdict c q.a)
unfolding exchange_of package_verdict
exchange-stops c q = by_tests (package_inside c q.a) (package_clean c q.a) (field_inside c q.a) _ _
