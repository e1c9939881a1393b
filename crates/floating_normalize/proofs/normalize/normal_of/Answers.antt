-- `floating_normalize::normalize::normal_of` meets its contract.
use Rattle.floating_normalize.proofs.Steps.{shifted-lt, normal-is}
use Rattle.floating_normalize.proofs.normalize.normal_of.Goals as goal

pub word_of-requires : goal.word_of-requires
word_of-requires c = shifted-lt _ c.requires _ c.left_places-n.ensures

pub returns : goal.returns
returns c = normal-is _ c.requires _ c.left_places-n.ensures _ c.word_of.ensures
