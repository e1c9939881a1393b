-- The bytes of a line, taken one after another and fed at once.
use Rattle.std.specs.Prelude.{Bool, true, false, List, [], ◌∷◌, ◌≡◌, refl, ℕ, ◌+◌, ◌≤◌, ◌<◌, eqb, ltb, length, take, drop, get_or, set}
use Rattle.std.proofs.Common.{ap, ◌∙◌, add-one, arith, eq-eqb, ne_eqb, eqb-true, lt-ltb, le-ltb, ltb-true, drop_of_length-le, length-set, length-drop, drop-cons, drop-drop, get_or-drop}
use Rattle.base_logic.specs.Laws.Choice.{of-cond}
use Rattle.console_line.specs.Form.{line_of}
use Rattle.console_grammar.specs.Held.{Lists}
use Rattle.console_grammar.specs.Store.{input_store, store_line}
use Rattle.console_grammar.specs.declared.progress.Progress.{Progress}
use Rattle.console_reader.specs.LineBytes.{BegunLine, begun_line, keep_byte, keep_bytes, before_line_feed, LineFilled}
use Rattle.console_reader.specs.Reader.{ReaderState, reader_state, with_line, after_line, byte_fed, bytes_fed}
use Rattle.console_reader.specs.declared.line_bytes.Filled.{Filled}

-- ---- the line

-- a byte is kept where there is room
keep-room : (line : List ℕ) (n byte : ℕ) → n < 32 → keep_byte (begun_line line n) byte ≡ begun_line (set line n byte) (n + 1)
unfolding keep_byte
keep-room line n byte h = rw (lt-ltb n 32 h)

keep-full : (line : List ℕ) (n byte : ℕ) → 32 ≤ n → keep_byte (begun_line line n) byte ≡ begun_line line n
unfolding keep_byte
keep-full line n byte h = rw (le-ltb n 32 h)

-- no more than 32 are
pub record BegunFits (b : BegunLine) : Type 0 where
  pub begun : b.length ≤ 32
  pub long : length b.line ≡ 32

pub byte_fits : (b : BegunLine) (byte : ℕ) → BegunFits b → BegunFits (keep_byte b byte)
unfolding keep_byte
byte_fits b byte k =
    of-cond BegunFits (ltb b.length 32)
    (λ e. record { begun = omega (arith, ltb-true b.length 32 e); long = length-set b.line b.length byte ∙ k.long }) (λ _. k)

pub bytes_fit : (b : BegunLine) (bytes : List ℕ) → BegunFits b → BegunFits (keep_bytes b bytes)
unfolding keep_bytes
bytes_fit b [] k = k
bytes_fit b (byte ∷ bytes) k = bytes_fit (keep_byte b byte) bytes (byte_fits b byte k)

-- ---- up to a line feed

-- the bytes before the line feed, by the byte at a place
none-before-line-feed : (bytes : List ℕ) (i : ℕ) → i < length bytes → get_or bytes i 0 ≡ 10 → before_line_feed (drop i bytes) ≡ []
unfolding before_line_feed
none-before-line-feed bytes i h e = rw (drop-cons bytes i 0 h, eq-eqb (get_or bytes i 0) 10 e)

byte-before : (bytes : List ℕ) (i : ℕ) → i < length bytes → (get_or bytes i 0 ≡ 10 → ⊥)
    → before_line_feed (drop i bytes) ≡ get_or bytes i 0 ∷ before_line_feed (drop (i + 1) bytes)
unfolding before_line_feed
byte-before bytes i h e = rw (drop-cons bytes i 0 h, ne_eqb (get_or bytes i 0) 10 e, add-one)

none-before-end : (bytes : List ℕ) (i : ℕ) → length bytes ≤ i → before_line_feed (drop i bytes) ≡ []
unfolding before_line_feed
none-before-end bytes i h = rw (drop_of_length-le bytes h)

-- to fill the line from here is to fill it from where it was taken up
pub record Filling (bytes : List ℕ) (from : ℕ) (line₀ : List ℕ) (n₀ at : ℕ) (line : List ℕ) (n : ℕ) : Type 0 where
  pub place : at + length (before_line_feed (drop at bytes)) ≡ from + length (before_line_feed (drop from bytes))
  pub is : keep_bytes (begun_line line n) (before_line_feed (drop at bytes)) ≡ keep_bytes (begun_line line₀ n₀) (before_line_feed (drop from bytes))
  pub fits : BegunFits (begun_line line n)

pub filling-start : {bytes : List ℕ} {from : ℕ} {line : List ℕ} {n : ℕ} → n ≤ 32 → length line ≡ 32
    → Filling bytes from line n from line n
filling-start room long = record { place = refl; is = refl; fits = record { begun = room; long = long } }

module _ {bytes : List ℕ} {from : ℕ} {line₀ : List ℕ} {n₀ at : ℕ} {line : List ℕ} {n : ℕ} (g : Filling bytes from line₀ n₀ at line n) where
  filled : before_line_feed (drop at bytes) ≡ [] → LineFilled bytes from line₀ n₀ line (record { at = at; length = n })
  unfolding keep_bytes
  filled e = record { place = omega (arith, rw e at g.place); is = rw e at g.is }

  pub filled-to-line-feed : at < length bytes → get_or bytes at 0 ≡ 10 → LineFilled bytes from line₀ n₀ line (record { at = at; length = n })
  filled-to-line-feed h e = filled (none-before-line-feed bytes at h e)

  pub filled-to-end : length bytes ≤ at → LineFilled bytes from line₀ n₀ line (record { at = at; length = n })
  filled-to-end h = filled (none-before-end bytes at h)

  module _ (h : at < length bytes) (e : get_or bytes at 0 ≡ 10 → ⊥) where
    -- one more byte was taken, and kept where there was room
    filling-on : {line' : List ℕ} {n' : ℕ} → keep_byte (begun_line line n) (get_or bytes at 0) ≡ begun_line line' n'
        → Filling bytes from line₀ n₀ (at + 1) line' n'
    unfolding keep_bytes
    filling-on {line'} {n'} k =
        let b = byte-before bytes at h e in
        record {
          place = omega (arith, rw b at g.place);
          is = rw (← k) (rw b at g.is);
          fits = rw (← k) (byte_fits (begun_line line n) (get_or bytes at 0) g.fits);
        }

    pub filling-byte : n < 32 → Filling bytes from line₀ n₀ (at + 1) (set line n (get_or bytes at 0)) (n + 1)
    filling-byte room = filling-on (keep-room line n (get_or bytes at 0) room)

    pub filling-over : 32 ≤ n → Filling bytes from line₀ n₀ (at + 1) line n
    filling-over full = filling-on (keep-full line n (get_or bytes at 0) full)

-- ---- fed at once

abbrev pub line_at : Progress → BegunLine → List ℕ → Lists → ReaderState
line_at p b m l = reader_state (with_line p b.line b.length) m l

pub line-feed-byte : (s : ReaderState) (byte : ℕ) → eqb byte 10 ≡ true
    → byte_fed s byte
    ≡ after_line s.reader.line
    (store_line (input_store s.reader.progress s.memory s.lists) (line_of (take s.reader.length s.reader.line)))
unfolding byte_fed
line-feed-byte s byte e = rw e

pub plain_byte : (p : Progress) (b : BegunLine) (m : List ℕ) (l : Lists) (byte : ℕ) → eqb byte 10 ≡ false
    → byte_fed (line_at p b m l) byte ≡ line_at p (keep_byte b byte) m l
unfolding byte_fed
plain_byte p b m l byte e = rw e

fed-to-line-feed : (bytes : List ℕ) (p : Progress) (b : BegunLine) (m : List ℕ) (l : Lists)
    → bytes_fed (line_at p (keep_bytes b (before_line_feed bytes)) m l) (drop (length (before_line_feed bytes)) bytes) ≡ bytes_fed (line_at p b m l) bytes
unfolding before_line_feed keep_bytes bytes_fed
fed-to-line-feed [] p b m l = refl
fed-to-line-feed (byte ∷ bytes) p b m l = by-test (eqb byte 10) refl (fed-to-line-feed bytes p (keep_byte b byte) m l)
  where
    by-test : (t : Bool) → eqb byte 10 ≡ t
        → bytes_fed (line_at p (keep_bytes (keep_byte b byte) (before_line_feed bytes)) m l) (drop (length (before_line_feed bytes)) bytes)
        ≡ bytes_fed (line_at p (keep_byte b byte) m l) bytes
        → bytes_fed (line_at p (keep_bytes b (before_line_feed (byte ∷ bytes))) m l) (drop (length (before_line_feed (byte ∷ bytes))) (byte ∷ bytes))
        ≡ bytes_fed (line_at p b m l) (byte ∷ bytes)
    by-test true e after = rw e
    by-test false e after = rw (e, plain_byte p b m l byte e) after

-- the byte after them, if there is one, is the line feed
line-feed-follows : (bytes : List ℕ) → length (before_line_feed bytes) < length bytes → get_or bytes (length (before_line_feed bytes)) 0 ≡ 10
unfolding before_line_feed
line-feed-follows [] h = absurd (omega arith)
line-feed-follows (byte ∷ bytes) h = by-test (eqb byte 10) refl h (line-feed-follows bytes)
  where
    by-test : (t : Bool) → eqb byte 10 ≡ t → length (before_line_feed (byte ∷ bytes)) < length (byte ∷ bytes)
        → (length (before_line_feed bytes) < length bytes → get_or bytes (length (before_line_feed bytes)) 0 ≡ 10)
        → get_or (byte ∷ bytes) (length (before_line_feed (byte ∷ bytes))) 0 ≡ 10
    by-test true e k after = rw e (eqb-true byte 10 e)
    by-test false e k after = rw e (after (omega (arith, rw e at k)))

module _ {bytes : List ℕ} {from : ℕ} {line : List ℕ} {n : ℕ} {line' : List ℕ} {r : Filled} (g : LineFilled bytes from line n line' r) where
  pub fed-filled : (p : Progress) (m : List ℕ) (l : Lists)
      → bytes_fed (reader_state (with_line p line' r.length) m l) (drop r.at bytes)
      ≡ bytes_fed (reader_state (with_line p line n) m l) (drop from bytes)
  fed-filled p m l =
      ap (λ (b : BegunLine). bytes_fed (line_at p b m l) (drop r.at bytes)) g.is
      ∙ rw (g.place, ← drop-drop (length (before_line_feed (drop from bytes))) from bytes) (fed-to-line-feed (drop from bytes) p (begun_line line n) m l)

  pub filled-fits : n ≤ 32 → length line ≡ 32 → BegunFits (begun_line line' r.length)
  filled-fits room long = rw g.is (bytes_fit (begun_line line n) (before_line_feed (drop from bytes)) (record { begun = room; long = long }))

  pub line-feed-at : r.at < length bytes → get_or bytes r.at 0 ≡ 10
  line-feed-at h =
      let k : length (before_line_feed (drop from bytes)) < length (drop from bytes) = simp length-drop (omega (arith, g.place)) in
      rw (g.place, ← get_or-drop from bytes (length (before_line_feed (drop from bytes))) 0) (line-feed-follows (drop from bytes) k)
