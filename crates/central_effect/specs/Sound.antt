-- What an effect may name. That every instruction's effect is so is proved in `Laws.Effects`.
use Rattle.std.specs.Prelude.{◌^◌, ◌<◌}
use Rattle.central_effect.specs.declared.effect.CentralEffect.{CentralEffect}
use Rattle.central_effect.specs.declared.effect.CentralEffect.TheVariants.{Pass, Stop, Jump, ReturnJump, SetA, SetB, SetX, SetXB}

-- an effect names registers that are there, and values of their widths
abbrev pub CentralSound : CentralEffect → Type 0
CentralSound Pass = Unit {0}
CentralSound (Stop c) = Unit {0}
CentralSound (Jump p) = p < 2 ^ 18
CentralSound (ReturnJump k w) = (k < 2 ^ 18) × (w < 2 ^ 60)
CentralSound (SetA i v) = (i < 8) × (v < 2 ^ 18)
CentralSound (SetB i v) = (i < 8) × (v < 2 ^ 18)
CentralSound (SetX i v) = (i < 8) × (v < 2 ^ 60)
CentralSound (SetXB i v j e) = ((i < 8) × (v < 2 ^ 60)) × ((j < 8) × (e < 2 ^ 18))
