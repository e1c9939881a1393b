-- An input may come in any pieces: the answer is that to the whole.
use Rattle.std.specs.Prelude.{List, [], ◌∷◌, ◌++◌, ◌≡◌, refl, ℕ}
use Rattle.std.proofs.Common.{sym, ap, ◌∙◌}
use Rattle.console_reader.specs.Laws.Input.{feed-append}
use Rattle.console_reader.specs.Laws.BytesRead.{Feeding, feed_all, nothing_fed, end_of}
use Rattle.console_calls.specs.Console.{output_on, output_of}
use Rattle.console_calls.specs.Laws.Finish.{output-fed}

unfoldable pub pieces_joined : List (List ℕ) → List ℕ
pieces_joined [] = []
pieces_joined (piece ∷ pieces) = piece ++ pieces_joined pieces

unfoldable pub feed_pieces : Feeding → List (List ℕ) → Feeding
feed_pieces f [] = f
feed_pieces f (piece ∷ pieces) = feed_pieces (feed_all f piece) pieces

pieces-fed : (f : Feeding) (pieces : List (List ℕ)) → feed_pieces f pieces ≡ feed_all f (pieces_joined pieces)
unfolding feed_pieces pieces_joined feed_all
pieces-fed f [] = refl
pieces-fed f (piece ∷ pieces) = pieces-fed (feed_all f piece) pieces ∙ sym (feed-append f piece (pieces_joined pieces))

pub output-in-pieces : (pieces : List (List ℕ)) → output_on (end_of (feed_pieces nothing_fed pieces)) ≡ output_of (pieces_joined pieces)
output-in-pieces pieces = ap (λ (f : Feeding). output_on (end_of f)) (pieces-fed nothing_fed pieces) ∙ output-fed (pieces_joined pieces)
