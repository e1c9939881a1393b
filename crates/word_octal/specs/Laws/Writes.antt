-- Laws of what a writer does, one thing after the other and in a loop.
use Rattle.std.specs.Prelude.{List, [], ◌++◌, ◌≡◌, refl, ℕ}
use Rattle.std.proofs.Common.{◌∙◌}
use Rattle.base_lists.specs.Laws.Written.{wrote_none, wrote_then, Writing, writing_start, writing-next, writing-end}
use Rattle.word_octal.specs.Writes.{Writes}
use Rattle.word_octal.specs.declared.write.Writer.{Writer}

pub writes_none : (w : Writer) → Writes w [] w
writes_none w = record { same_buffer = refl; same_length = refl; wrote = wrote_none w.out.now w.at }

-- to write some bytes and then others is to write them all
pub writes_then : {first second third : Writer} {xs ys : List ℕ} → Writes first xs second → Writes second ys third
    → Writes first (xs ++ ys) third
writes_then v w =
    record {
      same_buffer = w.same_buffer ∙ v.same_buffer;
      same_length = w.same_length ∙ v.same_length;
      wrote = wrote_then v.wrote w.wrote;
    }

-- three pieces, as of a line
pub writes_three : {first second third last : Writer} {xs ys zs : List ℕ} → Writes first xs second → Writes second ys third
    → Writes third zs last → Writes first (xs ++ (ys ++ zs)) last
writes_three u v w = writes_then u (writes_then v w)

-- a loop that writes `all`, with these bytes left
pub record WritesOn (before : Writer) (all : List ℕ) (now : Writer) (left : List ℕ) : Type 0 where
  pub same_buffer : now.out.ghost_name ≡ before.out.ghost_name
  pub writing : Writing before.out.now before.at all now.out.now now.at left

pub writes_start : (w : Writer) (all : List ℕ) → WritesOn w all w all
writes_start w all = record { same_buffer = refl; writing = writing_start w.out.now w.at all }

pub writes_next : {before now after : Writer} {all left bytes rest : List ℕ} → WritesOn before all now left → left ≡ bytes ++ rest
    → Writes now bytes after → WritesOn before all after rest
writes_next g e w = record { same_buffer = w.same_buffer ∙ g.same_buffer; writing = writing-next g.writing e w.wrote }

pub writes_end : {before now : Writer} {all left : List ℕ} → WritesOn before all now left → left ≡ [] → Writes before all now
writes_end g e = record { same_buffer = g.same_buffer; same_length = g.writing.same_length; wrote = writing-end g.writing e }
