-- `central_codes::table::CodeTable::entry` meets its contract.
use mathlib.Core.Path.{◌∙◌}
use Rattle.central_codes.specs.Laws.Table.{rule-at}
use Rattle.central_codes.proofs.table.CodeTable.entry.Goals as goal

pub returns : goal.returns
returns c = c.from.ensures ∙ rule-at _ _ c.args.self.now.by_rule c.requires
