-- Lines of the rules, byte by byte.
use Rattle.report_format.specs.Report.{LINE_ROOM, refused_line, reply_line}
use Rattle.std.specs.Prelude.{None, Some}
use Rattle.report_format.specs.declared.Word.TheVariants.{Different, Steps}
use Rattle.text.specs.Decimal.{decimal, digits_within}
use lib.ListN.{length}
use mathlib.Core.List.{[], ◌∷◌}
use mathlib.Core.Path.{◌≡◌, refl}

-- "`1⇥0⇥different⇥01⇥-⇥4⇥6`"
and_or_card :
    reply_line 1 0 Different (48 ∷ 49 ∷ []) None 4 6
    ≡ 49 ∷ 9 ∷ 48 ∷ 9 ∷ 100 ∷ 105 ∷ 102 ∷ 102 ∷ 101 ∷ 114 ∷ 101 ∷ 110 ∷ 116 ∷ 9 ∷ 48 ∷ 49 ∷ 9 ∷ 45 ∷ 9 ∷ 52 ∷ 9 ∷ 54 ∷ 10 ∷ []
unfolding reply_line decimal digits_within
and_or_card = refl

-- "no inputs, 0 against 1: Different, empty setting": `1⇥0⇥different⇥-⇥-⇥0⇥0`.
no_inputs :
    reply_line 1 0 Different [] None 0 0 ≡ 49 ∷ 9 ∷ 48 ∷ 9 ∷ 100 ∷ 105 ∷ 102 ∷ 102 ∷ 101 ∷ 114 ∷ 101 ∷ 110 ∷ 116 ∷ 9 ∷ 45 ∷ 9 ∷ 45 ∷ 9 ∷ 48 ∷ 9 ∷ 48 ∷ 10 ∷ []
unfolding reply_line decimal digits_within
no_inputs = refl

-- "step limit 5 gives Steps at vertex 4, steps 5": with 3 rows `1⇥0⇥steps⇥-⇥4⇥3⇥5`.
steps-at :
    reply_line 1 0 Steps [] (Some 4) 3 5 ≡ 49 ∷ 9 ∷ 48 ∷ 9 ∷ 115 ∷ 116 ∷ 101 ∷ 112 ∷ 115 ∷ 9 ∷ 45 ∷ 9 ∷ 52 ∷ 9 ∷ 51 ∷ 9 ∷ 53 ∷ 10 ∷ []
unfolding reply_line decimal digits_within
steps-at = refl

-- "5. .. (an empty file: line 1)": `refused⇥5⇥1⇥1`.
empty-file : refused_line 5 1 1 ≡ 114 ∷ 101 ∷ 102 ∷ 117 ∷ 115 ∷ 101 ∷ 100 ∷ 9 ∷ 53 ∷ 9 ∷ 49 ∷ 9 ∷ 49 ∷ 10 ∷ []
unfolding refused_line decimal digits_within
empty-file = refl

-- The longest line: every number is the greatest of 32 bits.
longest : length (reply_line 4294967295 4294967295 Different [] (Some 4294967295) 4294967295 4294967295) ≡ LINE_ROOM
unfolding reply_line decimal digits_within
longest = refl
