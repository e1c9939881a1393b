-- What bytes do to a reader, and to what it holds of the input.
use Rattle.std.specs.Prelude.{Option, Some, None}
use Rattle.std.specs.Prelude.{Bool, List, [], ◌∷◌, ◌++◌, ◌≡◌, ℕ, zero, suc, ◌+◌, ◌≤◌, ◌<◌, ltb, length, take, drop, get_or}
use Rattle.std.proofs.Math.Bool.{true, false}
use Rattle.std.proofs.Math.Path.{refl}
use Rattle.std.proofs.Common.{sym, ap, subst, ◌∙◌, add-one, arith, eq-eqb, ne_eqb, ltb-true, ltb-false, drop-cons}
use Rattle.std.proofs.Math.Dec.{eqb}
use Rattle.std.proofs.Math.ListN.{drop_of_length-le}
use Rattle.console_line.specs.Form.{line_of}
use Rattle.console_line.specs.declared.form.Line.{Line}
use Rattle.console_grammar.specs.Reading.{Request, Reading}
use Rattle.console_grammar.specs.Held.{Lists, reading_at, held}
use Rattle.console_grammar.specs.Store.{InputStore, input_store, store_line}
use Rattle.console_grammar.specs.Applied.{Applied}
use Rattle.console_grammar.specs.Laws.Entries.{entry-added, entries-full}
use Rattle.console_grammar.proofs.StoreHeld.{Holds, line-held}
use Rattle.console_grammar.specs.declared.progress.Part.{Part}
use Rattle.console_grammar.specs.declared.progress.Part.TheVariants as Last
use Rattle.console_grammar.specs.declared.progress.Progress.{Progress}
use Rattle.console_reader.specs.LineBytes.{begun_line, keep_byte, LineFilled}
use Rattle.console_reader.specs.Reader.{ReaderState, reader_state, with_line, after_line, begun_by, byte_fed, bytes_fed, is_read_part, is_complete}
use Rattle.console_reader.specs.Laws.BytesRead.{Feeding, feeding, feed_to, feed_all, held_by, end_of, is_readable}
use Rattle.console_reader.specs.Fed.{ReaderReady}
use Rattle.console_reader.specs.Laws.LineBytes.{byte_fits, line-feed-byte, plain_byte, fed-filled, filled-fits, line-feed-at}
use Rattle.console_reader.specs.declared.line_bytes.Filled.{Filled}
use Rattle.console_reader.specs.declared.reader.Reader.{Reader}

-- ---- the loop over the lines

-- to read on from a place gives what all bytes give
pub record FeedingOn (bytes : List ℕ) (r₀ : Reader) (m₀ : List ℕ) (l₀ : Lists) (at : ℕ) (r : Reader) (m : List ℕ) (l : Lists) : Type 0 where
  pub is : bytes_fed (reader_state r m l) (drop at bytes) ≡ bytes_fed (reader_state r₀ m₀ l₀) bytes
  pub ready : ReaderReady r m l

pub feeding-start : {bytes : List ℕ} {r : Reader} {m : List ℕ} {l : Lists} → ReaderReady r m l → FeedingOn bytes r m l 0 r m l
feeding-start k = record { is = refl; ready = k }

fed-line-feed : (bytes : List ℕ) (i : ℕ) (r : Reader) (m : List ℕ) (l : Lists) → i < length bytes → get_or bytes i 0 ≡ 10
    → bytes_fed (after_line r.line (store_line (input_store r.progress m l) (line_of (take r.length r.line)))) (drop (i + 1) bytes)
    ≡ bytes_fed (reader_state r m l) (drop i bytes)
unfolding bytes_fed
fed-line-feed bytes i r m l h e =
    let fed = line-feed-byte (reader_state r m l) (get_or bytes i 0) (eq-eqb (get_or bytes i 0) 10 e) in
    rw (add-one, drop-cons bytes i 0 h) (ap (λ (s : ReaderState). bytes_fed s (drop (suc i) bytes)) (sym fed))

-- a line that was read leaves a reader that is ready
ready-after : (line : List ℕ) (s : InputStore) {x : Reading} → length line ≡ 32 → Holds s x → ReaderReady (with_line s.progress line 0) s.memory s.lists
ready-after line s long k = record { progress = k.counts-fit; room = k.room; begun = omega arith; long = long }

module _ {bytes : List ℕ} {r₀ : Reader} {m₀ : List ℕ} {l₀ : Lists} {at : ℕ} {r : Reader} {m : List ℕ} {l : Lists}
    (g : FeedingOn bytes r₀ m₀ l₀ at r m l) where
  module _ {line : List ℕ} {f : Filled} (k : LineFilled bytes at r.line r.length line f) where
    -- the line was filled
    pub feeding-filled : FeedingOn bytes r₀ m₀ l₀ f.at (with_line r.progress line f.length) m l
    feeding-filled =
        let fits = filled-fits k g.ready.begun g.ready.long in
        record {
          is = fed-filled k r.progress m l ∙ g.is;
          ready = record { progress = g.ready.progress; room = g.ready.room; begun = fits.begun; long = fits.long };
        }

    -- the line was filled to its line feed, and read
    pub feeding-line : {m' : List ℕ} {l' : Lists} {p : Progress} {said : Option Line} → f.at < length bytes → said ≡ line_of (take f.length line)
        → Applied said r.progress m l p m' l' → FeedingOn bytes r₀ m₀ l₀ (f.at + 1) (with_line p line 0) m' l'
    feeding-line {m'} {l'} {p} {said} h e a =
        let text = line_of (take f.length line) in
        let read : input_store p m' l' ≡ store_line (input_store r.progress m l) text =
        a.is ∙ ap (λ (x : Option Line). store_line (input_store r.progress m l) x) e in
        record {
          is =
              ap (λ (s : InputStore). bytes_fed (after_line line s) (drop (f.at + 1) bytes)) read
              ∙ fed-line-feed bytes f.at (with_line r.progress line f.length) m l h (line-feed-at k h)
              ∙ feeding-filled.is;
          ready =
              subst (λ (s : InputStore). ReaderReady (with_line s.progress line 0) s.memory s.lists) (sym read)
              (ready-after line _ feeding-filled.ready.long (line-held r.progress m l text g.ready.progress g.ready.room));
        }

  pub feeding-end : length bytes ≤ at → reader_state r m l ≡ bytes_fed (reader_state r₀ m₀ l₀) bytes
  unfolding bytes_fed
  feeding-end h = rw (← g.is, drop_of_length-le bytes h)

-- these, for the check to find
pub ruleset feeding_steps = (feeding-start, feeding-end)

-- ---- what a reader holds

abbrev held_in : ReaderState → Feeding
held_in s = held_by s.reader s.memory s.lists

abbrev ReadyIn : ReaderState → Type 0
ReadyIn s = ReaderReady s.reader s.memory s.lists

-- a byte of a line: what it does to the reader, it does to what it holds
kept-held : (line : List ℕ) (n byte : ℕ) → n ≤ 32 → length line ≡ 32
    → take (keep_byte (begun_line line n) byte).length (keep_byte (begun_line line n) byte).line ≡ take 32 (take n line ++ (byte ∷ []))
unfolding keep_byte
kept-held line n byte h long = by-test (ltb n 32) refl
  where
    by-test : (t : Bool) → ltb n 32 ≡ t
        → take (keep_byte (begun_line line n) byte).length (keep_byte (begun_line line n) byte).line ≡ take 32 (take n line ++ (byte ∷ []))
    by-test true e = rw e (entry-added n 32 line byte long (ltb-true n 32 e))
    by-test false e = rw e (entries-full n 32 line byte long (omega (arith, ltb-false n 32 e)))

-- one byte, and then all
record ByteHeld (f : Feeding) (byte : ℕ) (s' : ReaderState) : Type 0 where
  is : held_in s' ≡ feed_to f byte
  ready : ReadyIn s'

module _ (s : ReaderState) (byte : ℕ) (k : ReadyIn s) where
  abbrev r : Reader
  r = s.reader

  abbrev line : Option Line
  line = line_of (take r.length r.line)

  byte-held : ByteHeld (held_in s) byte (byte_fed s byte)
  unfolding feed_to
  byte-held = by-test (eqb byte 10) refl
    where
      by-test : (t : Bool) → eqb byte 10 ≡ t → ByteHeld (held_in s) byte (byte_fed s byte)
      by-test true e =
          let h = line-held r.progress s.memory s.lists line k.progress k.room in
          record { is = rw (line-feed-byte s byte e, e, h.is); ready = rw (line-feed-byte s byte e) (ready-after r.line _ k.long h) }
      by-test false e =
          let fits = byte_fits (begun_by r) byte (record { begun = k.begun; long = k.long }) in
          let plain = plain_byte r.progress (begun_by r) s.memory s.lists byte e in
          record {
            is = rw (plain, e, kept-held r.line r.length byte k.begun k.long);
            ready = rw plain (record { progress = k.progress; room = k.room; begun = fits.begun; long = fits.long });
          }

-- the reading that a reader holds is that of the bytes that it was fed
pub record BytesHeld (f : Feeding) (bytes : List ℕ) (s' : ReaderState) : Type 0 where
  pub is : held_by s'.reader s'.memory s'.lists ≡ feed_all f bytes
  pub ready : ReaderReady s'.reader s'.memory s'.lists

pub bytes-held : (s : ReaderState) (bytes : List ℕ) → ReaderReady s.reader s.memory s.lists
    → BytesHeld (held_by s.reader s.memory s.lists) bytes (bytes_fed s bytes)
unfolding bytes_fed feed_all
bytes-held s [] k = record { is = refl; ready = k }
bytes-held s (byte ∷ bytes) k =
    let h = byte-held s byte k in
    let after = bytes-held (byte_fed s byte) bytes h.ready in
    record { is = after.is ∙ ap (λ (f : Feeding). feed_all f bytes) h.is; ready = after.ready }

-- ---- the end of the input

part-complete : (part : Part) (q : Request) → is_read_part part ≡ is_readable (end_of (feeding [] (reading_at part q)))
part-complete Last.Start q = refl
part-complete Last.Words q = refl
part-complete (Last.Block b e) q = refl
part-complete Last.Jobs q = refl
part-complete Last.Stints q = refl
part-complete Last.Unreadable q = refl

complete-by : (p : Progress) (bytes : List ℕ) (n : ℕ) (m : List ℕ) (l : Lists) → length bytes ≡ 32
    → is_complete (with_line p bytes n) ≡ is_readable (end_of (held_by (with_line p bytes n) m l))
complete-by p bytes zero m l long = part-complete p.part _
complete-by p [] (suc n) m l long = absurd (omega arith)
complete-by p (byte ∷ bytes) (suc n) m l long = rw (ne_eqb (suc n) 0 (λ e. omega (arith, e)))

pub complete-is : (r : Reader) (m : List ℕ) (l : Lists) → ReaderReady r m l → is_complete r ≡ is_readable (end_of (held_by r m l))
complete-is r m l k = complete-by r.progress r.line r.length m l k.long

-- a readable input is held with no line begun
readable-end : (line : List ℕ) (x : Reading) → is_readable (end_of (feeding line x)) ≡ true → end_of (feeding line x) ≡ x
readable-end [] x e = refl
readable-end (byte ∷ line) x e = absurd (let z : ◌≡◌ {A = ℕ} 0 1 = cc in omega arith)

pub complete-held : (r : Reader) (m : List ℕ) (l : Lists) → is_readable (end_of (held_by r m l)) ≡ true → end_of (held_by r m l) ≡ held r.progress m l
complete-held r m l e = readable-end (take r.length r.line) (held r.progress m l) e
