-- The calls on the central record: by the results of their parts, and what is handed back may be lent again.
use Rattle.std.specs.Prelude.{Bool, true, false, List, ◌≡◌, ℕ, eqb, Ok}
use Rattle.std.proofs.Math.Path.{refl}
use Rattle.std.proofs.Common.{sym, subst, eq-eqb, eqb-true}
use Rattle.std.proofs.Math.ListN.{length}
use Rattle.central_apply.specs.State.{state}
use Rattle.central_turn.specs.Laws.Run.{turns-one}
use Rattle.base_lists.specs.Parts.{part}
use Rattle.central_record.specs.Record.{host_verdict}
use Rattle.exchange_jump.specs.Jump.{package_verdict}
use Rattle.exchange_jump.specs.Accepted.{HostAccepted, PackageAccepted}
use Rattle.exchange_jump.specs.Laws.Verdicts.{host-accepted, of-host-accepted, package-accepted}
use Rattle.central_record.specs.declared.record.Central.{Central}
use Rattle.base_outcome.specs.Laws.Verdict.{both-accept}
use Rattle.single_stint.specs.Field.{bounds_of, RanMemory, ran_on}
use Rattle.single_stint.specs.Laws.Field.{ran-left, ran-length, ran-accepted}
use Rattle.single_calls.specs.RecordCalls.{CentralMachine, central_machine, turned_once, exchange_verdict}

-- one turn of a running processor
pub once_is : (m : List ℕ) (c : Central) (o : RanMemory) → o ≡ ran_on m c 1 → c.stop ≡ 0 → central_machine o.memory o.end.central ≡ turned_once m c
unfolding turned_once ran_on
once_is m c o e h =
    rw (e, eq-eqb c.stop 0 h, turns-one (bounds_of c) c.p (state c.registers (part m c.ra c.fl)))

-- a turn of a stopped processor
pub stopped-stays : (m : List ℕ) (c : Central) → eqb c.stop 0 ≡ false → turned_once m c ≡ central_machine m c
unfolding turned_once
stopped-stays m c e = rw e

module _ (m : List ℕ) (c : Central) (at : ℕ) (e : exchange_verdict m c at ≡ Ok tt) where
  parts : (host_verdict m c ≡ Ok tt) × (package_verdict m at ≡ Ok tt)
  unfolding exchange_verdict
  parts = both-accept (host_verdict m c) (package_verdict m at) e

  pub exchange-host : HostAccepted m c
  exchange-host = host-accepted m c parts.0

  pub exchange-owner : PackageAccepted m at
  exchange-owner = package-accepted m at parts.1

-- a turn, of a running processor or of a stopped one, leaves what the host may lend again: widths, lengths, RA, FL, EM and B0 are kept
module _ (m : List ℕ) (c : Central) (l : HostAccepted m c) (count : length c.registers ≡ 24) where
  by-stop : (P : CentralMachine → Type 0) → P (central_machine (ran_on m c 1).memory (ran_on m c 1).end.central) → P (central_machine m c)
      → (z : Bool) → eqb c.stop 0 ≡ z → P (turned_once m c)
  by-stop P ran still true z = subst P (once_is m c (ran_on m c 1) refl (eqb-true c.stop 0 z)) ran
  by-stop P ran still false z = subst P (sym (stopped-stays m c z)) still

  pub turned-host : HostAccepted (turned_once m c).memory (turned_once m c).central
  turned-host = by-stop (λ (h : CentralMachine). HostAccepted h.memory h.central) (ran-accepted m c l count 1) l (eqb c.stop 0) refl

  pub turned-count : length (turned_once m c).central.registers ≡ 24
  unfolding ran_on
  turned-count =
      by-stop (λ (h : CentralMachine). length h.central.registers ≡ 24) (ran-left m c l count 1).kept.wide.count count (eqb c.stop 0) refl

  pub turned-length : length (turned_once m c).memory ≡ length m
  turned-length = by-stop (λ (h : CentralMachine). length h.memory ≡ length m) (ran-length m c l count 1) refl (eqb c.stop 0) refl

pub turn-accepted : (m : List ℕ) (c : Central) → host_verdict m c ≡ Ok tt → length c.registers ≡ 24
    → host_verdict (turned_once m c).memory (turned_once m c).central ≡ Ok tt
turn-accepted m c host count = of-host-accepted _ _ (turned-host m c (host-accepted m c host) count)
