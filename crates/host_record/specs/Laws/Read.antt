-- Each record that is lent is read by one rule.
use Rattle.std.specs.Prelude.{Bool, true, ◌&&◌, cond, List, ◌≡◌, refl, ℕ, eqb, length}
use Rattle.std.proofs.Common.{ap}
use Rattle.host_record.specs.Layout.{central_in, channel_in, machine_in}
use Rattle.host_record.specs.Lent.{flags_fit, all_flags_fit, refused_central, refused_channel, refused_machine, lent_by, central_lent, channel_lent, machine_lent}

alone : (b : Bool) → b ≡ (b && true)
alone b = elim b as (λ x. x ≡ (x && true)) [ true ↦ refl | _ ↦ refl ]

pub central-read : (r : List ℕ) → central_lent r ≡ lent_by 29 (λ numbers. true) central_in refused_central r
unfolding central_lent
central-read r = ap (λ (b : Bool). cond b (central_in r) refused_central) (alone (eqb (length r) 29))

pub channel-read : (r : List ℕ) → channel_lent r ≡ lent_by 4 (λ numbers. flags_fit numbers 0) (λ numbers. channel_in numbers 0) refused_channel r
unfolding channel_lent
channel-read r = refl

pub machine-read : (r : List ℕ) → machine_lent r ≡ lent_by 108 all_flags_fit machine_in refused_machine r
unfolding machine_lent
machine-read r = refl
