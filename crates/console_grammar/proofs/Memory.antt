-- The memory that a readable input asks for.
use Rattle.std.specs.Prelude.{List, ◌≡◌, ℕ}
use Rattle.std.proofs.Common.{subst}
use Rattle.console_grammar.specs.Reading.{Request, Part, readable, reading_of}
use Rattle.console_grammar.specs.Laws.Grammar.{ProgramOf}
use Rattle.console_grammar.specs.Laws.Memory.{InputMemory, readable-memory}
use Rattle.console_grammar.proofs.Grammar.{read-readable}

-- every readable input asks for one
pub input-memory : (bytes : List ℕ) (part : Part) (q : Request) → reading_of bytes ≡ readable part q → InputMemory q.memory
input-memory bytes part q e =
    let w : ProgramOf bytes q = read-readable bytes part q e in
    subst (λ (p : Request). InputMemory p.memory) w.asks (readable-memory bytes w.program w.readable)
