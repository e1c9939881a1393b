-- Normalize, 24, by document 02, (f).
use Rattle.std.specs.Prelude.{ℕ, ◌*◌, ◌^◌, cond, ◌||◌}
use Rattle.std.specs.Int.Count.{count_leading_zeros}
use Rattle.floating_word.specs.Special.{is_infinite, is_indefinite}
use Rattle.floating_word.specs.Number.{number_in, word_of}
use Rattle.floating_word.specs.declared.number.Number.{Number}
use Rattle.floating_normalize.specs.declared.normalize.Normal.{Normal}

-- "moves left until bit 47 of the coefficient's size is set": as many places as zeros lead its 48 bits; "for a zero coefficient counts 48"
abbrev pub left_places : ℕ → ℕ
left_places size = count_leading_zeros 48 size

-- "takes the count from the exponent and leaves it in Bj"
unfoldable pub normal_of : Number → Normal
normal_of x =
    record {
      word = word_of x.minus x.biased (left_places x.size) (x.size * 2 ^ left_places x.size);
      count = left_places x.size;
    }

-- "infinite and indefinite words pass with Bj zero"
unfoldable pub normalized : ℕ → Normal
normalized x = cond (is_infinite x || is_indefinite x) (record { word = x; count = 0 }) (normal_of (number_in x))
