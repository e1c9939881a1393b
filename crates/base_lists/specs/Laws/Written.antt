-- Laws of writing, as loops that write use them.
use Rattle.std.specs.Prelude.{List, [], ◌∷◌, ◌++◌, ◌≡◌, refl, ℕ, suc, ◌+◌, length, set}
use Rattle.std.proofs.Common.{ap, ◌∙◌, arith, length-append}
use Rattle.std.proofs.lemmas.List.Edits.{sets}
use Rattle.std.proofs.Math.Seq.{length-sets}
use Rattle.base_lists.specs.Written.{Wrote}

-- writing changes no length
pub length-wrote : {before after : List ℕ} {at next : ℕ} {bytes : List ℕ} → Wrote before at bytes after next
    → length after ≡ length before
length-wrote {before = before} {at = at} {bytes = bytes} w = ap length w.is ∙ length-sets before at bytes

-- to write nothing
pub wrote_none : (out : List ℕ) (at : ℕ) → Wrote out at [] out at
wrote_none out at = record { is = refl; ends = omega arith }

-- to write one byte
pub wrote-byte : (out : List ℕ) (at byte : ℕ) → Wrote out at (byte ∷ []) (set out at byte) (at + 1)
wrote-byte out at byte = record { is = refl; ends = refl }

sets-append : (out : List ℕ) (at : ℕ) (xs ys : List ℕ) → sets (sets out at xs) (at + length xs) ys ≡ sets out at (xs ++ ys)
sets-append out at [] ys = let e : at + 0 ≡ at = omega arith in rw e
sets-append out at (x ∷ xs) ys =
    let e : at + suc (length xs) ≡ suc at + length xs = omega arith in
    rw e (sets-append (set out at x) (suc at) xs ys)

-- to write some bytes and then others is to write them all
pub wrote_then : {first second third : List ℕ} {at next end : ℕ} {xs ys : List ℕ} → Wrote first at xs second next
    → Wrote second next ys third end → Wrote first at (xs ++ ys) third end
wrote_then {first = first} {at = at} {xs = xs} {ys = ys} v w =
    record {
      is = w.is ∙ rw (v.is, v.ends) (sets-append first at xs ys);
      ends = simp length-append (omega (arith, v.ends, w.ends));
    }

-- a loop that writes `all` from `at` on, at the place `next`, with these bytes left: to write them is to write all
pub record Writing (before : List ℕ) (at : ℕ) (all out : List ℕ) (next : ℕ) (left : List ℕ) : Type 0 where
  pub is : sets out next left ≡ sets before at all
  pub total : next + length left ≡ at + length all
  pub same_length : length out ≡ length before

pub writing_start : (before : List ℕ) (at : ℕ) (all : List ℕ) → Writing before at all before at all
writing_start before at all = record { is = refl; total = refl; same_length = refl }

pub writing-next : {before all out after left bytes rest : List ℕ} {at next end : ℕ} → Writing before at all out next left
    → left ≡ bytes ++ rest → Wrote out next bytes after end → Writing before at all after end rest
writing-next {out = out} {bytes = bytes} {rest = rest} {next = next} g e w =
    record {
      is = rw (w.is, w.ends) (sets-append out next bytes rest ∙ rw (← e) g.is);
      total = rw w.ends (omega (arith, g.total, ap length e ∙ length-append bytes rest));
      same_length = length-wrote w ∙ g.same_length;
    }

pub writing-end : {before all out left : List ℕ} {at next : ℕ} → Writing before at all out next left → left ≡ []
    → Wrote before at all out next
writing-end g e =
    record { is = rw e at g.is; ends = omega (arith, g.total, ap length e) }
