-- What a writer does.
use Rattle.std.specs.Prelude.{List, ◌≡◌, ℕ, length}
use Rattle.base_lists.specs.Written.{Wrote}
use Rattle.word_octal.specs.declared.write.Writer.{Writer}

-- it wrote these bytes where it stood, into the buffer that it was lent, and stands after them
pub record Writes (before : Writer) (bytes : List ℕ) (after : Writer) : Type 0 where
  pub same_buffer : after.out.ghost_name ≡ before.out.ghost_name
  pub same_length : length after.out.now ≡ length before.out.now
  pub wrote : Wrote before.out.now before.at bytes after.out.now after.at
