-- The turn of a word with one instruction and three that pass.
use Rattle.std.specs.Prelude.{None, ◌≡◌, List, ℕ, ◌+◌, ◌-◌, ◌*◌, ◌^◌, ◌<◌, get_or}
use Rattle.std.proofs.Common.{arith, lt-ltb}
use Rattle.central_field.specs.declared.address.Bounds.{Bounds}
use Rattle.central_field.specs.Address.{place_of}
use Rattle.central_codes.specs.Codes.{is_long, is_left_out, is_fit, parcels_of}
use Rattle.central_decode.specs.Parcels.{parcel, digit, code, jk}
use Rattle.central_decode.specs.Instruction.{constant_at, decoded}
use Rattle.central_decode.specs.declared.instruction.Instruction.{Instruction}
use Rattle.central_effect.specs.Effects.{effect_of, mask_or_count_of}
use Rattle.central_apply.specs.State.{State, state}
use Rattle.central_apply.specs.declared.apply.Step.TheVariants as Then
use Rattle.central_apply.specs.Apply.{after, applied}
use Rattle.central_turn.specs.Turn.{ran_at, turned, turn_end, parcels_run, turn_of}
use Rattle.central_turn.specs.Laws.Place.{place-back}
use Rattle.check_marked.specs.Marked.{instruction_word, TurnLeaves}

-- the word's first instruction, and one that passes
abbrev pub first_of : ℕ → ℕ → ℕ → ℕ → Instruction
first_of c i j k = record { code = c; i = i; j = j; k = k; jk = j * 8 + k; constant = constant_at (instruction_word c i j k) 0 }

abbrev passing : ℕ → ℕ → Instruction
passing w place = record { code = 0o46; i = 0; j = 0; k = 0; jk = 0; constant = constant_at w place }

-- the parcel v is this code with i, j and k
record Parts (v c i j k : ℕ) : Type 0 where
  code_is : code v ≡ c
  i-is : digit v 2 ≡ i
  j-is : digit v 3 ≡ j
  k-is : digit v 4 ≡ k
  jk-is : jk v ≡ j * 8 + k

module _ (c i j k : ℕ) (lc : c < 64) (li : i < 8) (lj : j < 8) (lk : k < 8) where
  abbrev w : ℕ
  w = instruction_word c i j k

  parts : (v : ℕ) → v ≡ c * 8 ^ 3 + i * 8 ^ 2 + j * 8 + k → Parts v c i j k
  parts v e = record { code_is = omega arith; i-is = omega arith; j-is = omega arith; k-is = omega arith; jk-is = omega arith }

  first-decoded : decoded w 0 ≡ first_of c i j k
  unfolding decoded
  first-decoded = let d = parts (parcel w 0) (omega arith) in rw (d.code_is, d.i-is, d.j-is, d.k-is, d.jk-is)

  pass-decoded : (place : ℕ) → parcel w place ≡ 0o46000 → decoded w place ≡ passing w place
  unfolding decoded
  pass-decoded place e = rw e

  passes : (b : Bounds) (p : ℕ) (s : State) → parcels_run 3 b p w s 1 ≡ turned s (turn_end (p + 1) None)
  unfolding is_long is_left_out is_fit parcels_of mask_or_count_of effect_of applied ran_at parcels_run
  passes b p s = rw (pass-decoded 1 (omega arith), pass-decoded 2 (omega arith), pass-decoded 3 (omega arith))

  then-passes : (b : Bounds) (p : ℕ) (r r' f : List ℕ) → p < b.fl → get_or f p 0 ≡ w
      → ran_at (state r f) b p 0 (first_of c i j k) ≡ after r' f (Then.Next 1)
      → turn_of b p (state r f) ≡ turned (state r' f) (turn_end (p + 1) None)
  unfolding place_of parcels_run turn_of
  then-passes b p r r' f l at e = rw (lt-ltb p b.fl l, place-back b.ra p, at, first-decoded, e) (passes b p (state r' f))

-- the turn leaves what the first instruction leaves
pub turn-leaves : {c i j k : ℕ} {r r' : List ℕ} → c < 64
    → ((b : Bounds) (p : ℕ) (f : List ℕ) → ran_at (state r f) b p 0 (first_of c i j k) ≡ after r' f (Then.Next 1))
    → TurnLeaves c i j k r r'
turn-leaves {c} {i} {j} {k} {r} {r'} lc e =
    record { turn = λ li lj lk b p f l at. then-passes c i j k lc li lj lk b p r r' f l at (e b p f) }
