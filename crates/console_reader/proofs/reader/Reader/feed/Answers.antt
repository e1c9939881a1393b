-- `console_reader::reader::Reader::feed` meets its contract.
use mathlib.Core.Path.{◌∙◌, sym}
use borrow.Author.Rules.{rules}
use Rattle.console_reader.specs.Laws.Verdict.{accepted-reader}
use Rattle.console_reader.proofs.reader.Reader.feed.Goals as goal

pub feed_all-requires : goal.feed_all-requires
feed_all-requires c =
    accepted-reader c.args.self _ _ (sym c.verdict.ensures ∙ c.in_ok-verdict.was) (search rules)
