-- The reader gives the value of the digits that it is fed, or finds it too large.
use Rattle.std.specs.Prelude.{Bool, true, false, Option, Some, None, List, [], ◌∷◌, ◌++◌, ◌≡◌, refl, ℕ, ◌+◌, ◌-◌, ◌*◌, ◌^◌, ◌≤◌, ◌<◌, ltb}
use Rattle.std.proofs.Common.{ap, ◌∙◌, arith}
use borrow.Author.Tests.{ltb-true, ltb-false, lt-ltb, le-ltb, lt-leb, le-leb, eq-eqb, ne_eqb}
use Rattle.word_octal.specs.Read.{no_digits, value_so_far, after_digit, after_end, feed_of}
use Rattle.word_octal.specs.declared.read.Fed.{Fed}
use Rattle.word_octal.specs.declared.read.Fed.TheVariants.{More, Number, Nothing, Unreadable}

-- the bytes of octal digits
unfoldable pub bytes_of : List ℕ → List ℕ
bytes_of [] = []
bytes_of (n ∷ ns) = (48 + n) ∷ bytes_of ns

-- the value of octal digits that follow those with the value v
unfoldable pub value_from : ℕ → List ℕ → ℕ
value_from v [] = v
value_from v (n ∷ ns) = value_from (v * 8 + n) ns

abbrev pub Octal : List ℕ → Type 0
Octal [] = Unit {0}
Octal (n ∷ ns) = (n < 8) × Octal ns

-- bytes fed one after the other, as long as they are digits
unfoldable pub feed_digits : Fed → List ℕ → Fed
feed_digits f [] = f
feed_digits (More d) (byte ∷ bytes) = feed_digits (feed_of d byte) bytes
feed_digits (Number v) (byte ∷ bytes) = Number v
feed_digits Nothing (byte ∷ bytes) = Nothing
feed_digits Unreadable (byte ∷ bytes) = Unreadable

-- more digits make no value smaller
le-value_from : (v : ℕ) (ns : List ℕ) → v ≤ value_from v ns
unfolding value_from
le-value_from v [] = omega arith
le-value_from v (n ∷ ns) = omega (arith, le-value_from (v * 8 + n) ns)

-- the cases of a byte
pub fed-space : (d : Option ℕ) (byte : ℕ) → byte ≡ 32 → feed_of d byte ≡ after_end d
unfolding feed_of
fed-space d byte e = rw (eq-eqb byte 32 e)

pub fed-line-feed : (d : Option ℕ) (byte : ℕ) → (byte ≡ 32 → ⊥) → byte ≡ 10 → feed_of d byte ≡ after_end d
unfolding feed_of
fed-line-feed d byte s e = rw (ne_eqb byte 32 s, eq-eqb byte 10 e)

module _ (d : Option ℕ) (byte : ℕ) (s : byte ≡ 32 → ⊥) (l : byte ≡ 10 → ⊥) where
  pub fed-below : byte < 48 → feed_of d byte ≡ Unreadable
  unfolding feed_of
  fed-below h = rw (ne_eqb byte 32 s, ne_eqb byte 10 l, lt-leb 48 byte h)

  pub fed-above : 48 ≤ byte → 55 < byte → feed_of d byte ≡ Unreadable
  unfolding feed_of
  fed-above h k = rw (ne_eqb byte 32 s, ne_eqb byte 10 l, le-leb 48 byte h, lt-leb byte 55 k)

pub fed-digit : (d : Option ℕ) (byte : ℕ) → 48 ≤ byte → byte ≤ 55 → feed_of d byte ≡ after_digit d (byte - 48)
unfolding feed_of
fed-digit d byte h k =
    rw (ne_eqb byte 32 (λ e. omega arith), ne_eqb byte 10 (λ e. omega arith), le-leb 48 byte h, le-leb byte 55 k)

-- a value below 2^61 has room for any digit, one from 2^61 up for none
pub digits_room : (d : Option ℕ) (n : ℕ) → n < 8 → value_so_far d < 2 ^ 61 → after_digit d n ≡ More (Some (value_so_far d * 8 + n))
unfolding after_digit
digits_room d n h k = rw (lt-ltb (value_so_far d * 8 + n) (2 ^ 64) (omega arith))

pub no_room : (d : Option ℕ) (n : ℕ) → 2 ^ 61 ≤ value_so_far d → after_digit d n ≡ Unreadable
unfolding after_digit
no_room d n k = rw (le-ltb (value_so_far d * 8 + n) (2 ^ 64) (omega arith))

feed-digit : (d : Option ℕ) (n : ℕ) → n < 8 → value_so_far d * 8 + n < 2 ^ 64
    → feed_of d (48 + n) ≡ More (Some (value_so_far d * 8 + n))
feed-digit d n h k =
    let e : 48 + n - 48 ≡ n = omega arith in
    fed-digit d (48 + n) (omega arith) (omega arith) ∙ rw e (digits_room d n h (omega arith))

end-space : (v : ℕ) → feed_of (Some v) 32 ≡ Number v
unfolding feed_of after_end
end-space v = refl

-- digits that follow others, and a space: the value of all
more-digits : (v : ℕ) (ns : List ℕ) → Octal ns → value_from v ns < 2 ^ 64
    → feed_digits (More (Some v)) (bytes_of ns ++ (32 ∷ [])) ≡ Number (value_from v ns)
unfolding feed_digits bytes_of value_from
more-digits v [] o h = end-space v
more-digits v (n ∷ ns) o h =
    ap (λ (f : Fed). feed_digits f (bytes_of ns ++ (32 ∷ []))) (feed-digit (Some v) n o.0 (omega (arith, le-value_from (v * 8 + n) ns)))
    ∙ more-digits (v * 8 + n) ns o.1 h

-- one digit or more, and a space: their value, where it is below 2^64
pub digits-then-space : (n : ℕ) (ns : List ℕ) → Octal (n ∷ ns) → value_from 0 (n ∷ ns) < 2 ^ 64
    → feed_digits (More no_digits) (bytes_of (n ∷ ns) ++ (32 ∷ [])) ≡ Number (value_from 0 (n ∷ ns))
unfolding feed_digits bytes_of value_from
digits-then-space n ns o h =
    ap (λ (f : Fed). feed_digits f (bytes_of ns ++ (32 ∷ []))) (feed-digit None n o.0 (omega (arith, le-value_from (0 * 8 + n) ns)))
    ∙ more-digits (0 * 8 + n) ns o.1 h

feed-too-large : (d : Option ℕ) (n : ℕ) → n < 8 → 2 ^ 64 ≤ value_so_far d * 8 + n → feed_of d (48 + n) ≡ Unreadable
feed-too-large d n h k =
    fed-digit d (48 + n) (omega arith) (omega arith) ∙ no_room d (48 + n - 48) (omega arith)

stays-unreadable : (bytes : List ℕ) → feed_digits Unreadable bytes ≡ Unreadable
unfolding feed_digits
stays-unreadable [] = refl
stays-unreadable (byte ∷ bytes) = refl

next-too-large : (d : Option ℕ) (n : ℕ) (bytes : List ℕ) → n < 8
    → (value_so_far d * 8 + n < 2 ^ 64 → feed_digits (More (Some (value_so_far d * 8 + n))) bytes ≡ Unreadable)
    → (t : Bool) → ltb (value_so_far d * 8 + n) (2 ^ 64) ≡ t → feed_digits (feed_of d (48 + n)) bytes ≡ Unreadable
next-too-large d n bytes h rest true e =
    let k = ltb-true (value_so_far d * 8 + n) (2 ^ 64) e in
    ap (λ (f : Fed). feed_digits f bytes) (feed-digit d n h k) ∙ rest k
next-too-large d n bytes h rest false e =
    ap (λ (f : Fed). feed_digits f bytes) (feed-too-large d n h (ltb-false (value_so_far d * 8 + n) (2 ^ 64) e)) ∙ stays-unreadable bytes

-- digits whose value is 2^64 or more are not read
pub digits-too-large : (d : Option ℕ) (ns : List ℕ) → Octal ns → value_so_far d < 2 ^ 64 → 2 ^ 64 ≤ value_from (value_so_far d) ns
    → feed_digits (More d) (bytes_of ns) ≡ Unreadable
unfolding feed_digits bytes_of value_from
digits-too-large d [] o h k = absurd (omega arith)
digits-too-large d (n ∷ ns) o h k =
    next-too-large d n (bytes_of ns) o.0 (λ l. digits-too-large (Some (value_so_far d * 8 + n)) ns o.1 l k)
    (ltb (value_so_far d * 8 + n) (2 ^ 64)) refl
