-- Number 5 refuses what stands in the place of a slice that is no channel: what is accepted has the length of one. proofs/Lent.antt has the same of
-- the other two records.
use Rattle.std.specs.Prelude.{Bool, true, false, ◌&&◌, cond, List, ◌≡◌, refl, ℕ, eqb, length}
use Rattle.std.proofs.Common.{eqb-true}
use Rattle.base_logic.specs.Laws.Tests.{both}
use Rattle.peripheral_channel.specs.Fits.{channel_fits}
use Rattle.host_record.specs.Lent.{flags_fit, refused_channel, channel_lent}

-- a choice that fits is the first, where the second does not fit
pub chosen : {A : Type 0} (fits : A → Bool) (t : Bool) (a b : A) → fits b ≡ false → fits (cond t a b) ≡ true → t ≡ true
chosen fits true a b e h = refl
chosen fits false a b e h = let z : ◌≡◌ {A = Bool} false true = cc in z

pub channel-length : (r : List ℕ) → channel_fits (channel_lent r) ≡ true → length r ≡ 4
unfolding channel_lent refused_channel
channel-length r h =
    let t = chosen channel_fits (eqb (length r) 4 && flags_fit r 0) _ refused_channel refl h in
    eqb-true (length r) 4 (both (eqb (length r) 4) (flags_fit r 0) t).0
