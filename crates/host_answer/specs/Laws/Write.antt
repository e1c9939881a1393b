-- Records stored piece by piece.
use Rattle.std.specs.Prelude.{Bool, true, List, [], ◌∷◌, ◌++◌, ◌≡◌, ℕ, zero, suc, ◌+◌, ◌*◌, ◌≤◌, length, set, get_or}
use Rattle.std.proofs.Math.Path.{refl}
use Rattle.std.proofs.Common.{sym, ap, ◌∙◌, arith, append_assoc}
use mir.Val.{bool_byte}
use Rattle.std.proofs.lemmas.List.{drop-drop}
use Rattle.peripheral_machine.specs.Numbers.{flag}
use borrow.Rule.Slice.PartMut.{put_mid}
use Rattle.base_lists.specs.Indexed.{tabulate}
use Rattle.base_lists.specs.Laws.Indexed.{tabulate-own}
use Rattle.std.proofs.lemmas.List.Edits.{sets, sets-eq}
use Rattle.base_lists.specs.Written.{Wrote, Stores}
use Rattle.base_lists.specs.Laws.Written.{wrote-byte, wrote_then}
use Rattle.central_record.specs.declared.record.Central.{Central}
use Rattle.whole_record.specs.declared.record.MachineRecord.{MachineRecord}
use Rattle.host_record.specs.Layout.{register_row, central_numbers, channel_row, processor_row, machine_numbers}
use Rattle.base_lists.specs.Rows.{rows}
use Rattle.base_lists.specs.Laws.Rows.{stored-whole, stored-piece, length-rows}

-- places as code has them, and as `sets`
pub places : (at : ℕ) → (at + 1 ≡ suc at) × ((at + 2 ≡ suc (suc at)) × (at + 3 ≡ suc (suc (suc at))))
places at = (omega arith, (omega arith, omega arith))

-- a flag as `u64::from` gives it
pub flag-byte : (b : Bool) → bool_byte b ≡ flag b
flag-byte b = elim b as (λ x. bool_byte x ≡ flag x) [ true ↦ refl | _ ↦ refl ]

module _ (c : Central) where
  pub length-central : length (central_numbers c) ≡ 29
  unfolding central_numbers rows
  length-central = refl

  -- the first four numbers, the registers, the stop
  pub central-stored : {l m : List ℕ} → Stores (sets l 0 (c.p ∷ c.ra ∷ c.fl ∷ c.em ∷ [])) 4 (rows 24 (register_row c.registers)) m
      → Stores l 0 (central_numbers c) (set m 28 c.stop)
  unfolding central_numbers
  central-stored {l} {m} e =
      let first : Wrote l 0 (c.p ∷ c.ra ∷ c.fl ∷ c.em ∷ []) _ 4 = record { is = refl; ends = refl } in
      let registers = stored-piece {next = 28} e (omega (arith, length-rows 1 (register_row c.registers) (λ i. refl) 24)) in
      record { is = (wrote_then first (wrote_then registers (wrote-byte m 28 c.stop))).is }

module _ (r : MachineRecord) where
  -- the central record, the clock, the channels, the processors
  pub machine-stored : {l m n o : List ℕ} → length l ≡ 108 → Stores l 0 (central_numbers r.central) m
      → Stores (set m 29 r.clock) 30 (rows 12 (channel_row r.channels)) n
      → Stores n 78 (rows 10 (processor_row r.processors)) o → o ≡ machine_numbers r
  unfolding machine_numbers
  machine-stored {m = m} size e f g =
      let central = stored-piece {next = 29} e (omega (arith, length-central r.central)) in
      let channels = stored-piece {next = 78} f (omega (arith, length-rows 4 (channel_row r.channels) (λ i. refl) 12)) in
      let processors = stored-piece {next = 108} g (omega (arith, length-rows 3 (processor_row r.processors) (λ i. refl) 10)) in
      let all = wrote_then central (wrote_then (wrote-byte m 29 r.clock) (wrote_then channels processors)) in
      stored-whole (record { is = all.is }) (omega (arith, all.ends))

-- the registers stored as one piece are the rows of one number each
rows-of-one : (n : ℕ) (registers : List ℕ) → rows n (register_row registers) ≡ tabulate n (λ i. get_or registers i 0)
unfolding rows tabulate
rows-of-one zero registers = refl
rows-of-one (suc n) registers = ap (λ (l : List ℕ). l ++ (get_or registers n 0 ∷ [])) (rows-of-one n registers)

pub registers-stored : (l registers : List ℕ) → 28 ≤ length l → length registers ≡ 24
    → Stores l 4 (rows 24 (register_row registers)) (put_mid 4 24 l registers)
registers-stored l registers h e =
    let own : rows 24 (register_row registers) ≡ registers = rows-of-one 24 registers ∙ tabulate-own 0 24 registers e in
    record { is = sym (ap (sets l 4) own ∙ sets-eq registers l 4 (omega arith) ∙ simp (e, append_assoc, drop-drop)) }

pub row-of-one : (at i : ℕ) → at + 1 * i ≡ at + i
row-of-one at i = omega arith
