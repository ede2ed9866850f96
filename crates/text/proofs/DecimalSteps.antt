-- What a call of the printer shows.
use Prim.Native.Nat.{◌%◌, ◌+◌, ◌/◌, ◌<◌, ◌≤◌, ℕ}
use Rattle.text.proofs.DecimalLaws.{decimal_digit, decimal-more, stored-append, stored_length, written_one}
use Rattle.text.specs.Decimal.{Stored, decimal}
use lib.ListN.{length, length-append, set}
use mathlib.Core.List.{List, [], ◌∷◌}
use mathlib.Core.Path.{◌≡◌, refl}
use native.Mathlib.Omega.{arith}

-- A number printed where there is room for its digits.
module _ (old : List ℕ) (at n : ℕ) (room : at + length (decimal n) ≤ length old) where
  -- A number below ten.
  module _ (d : n < 10) where
    -- There is room for it.
    pub digit-fits : at < length old
    digit-fits = omega (arith, rw (decimal_digit n d) at room)

    -- Its digit stored is the number stored.
    pub stored-digit : (b : ℕ) → b ≡ 48 + n → Stored old at (decimal n) (set old at b) (at + 1)
    stored-digit b e = rw (decimal_digit n d) (record { place = refl; list = rw e (written_one old at (48 + n) digit-fits) })

  -- Any other number.
  module _ (d : 10 ≤ n) where
    -- There is room for its tenth and more.
    pub tenth_fits : at + length (decimal (n / 10)) < length old
    tenth_fits =
        let e : length (decimal n) ≡ length (decimal (n / 10)) + 1 = rw (decimal-more n d) (length-append (decimal (n / 10)) ((48 + n % 10) ∷ [])) in
        omega arith

    module _ {mid : List ℕ} {last : ℕ} (tenth : Stored old at (decimal (n / 10)) mid last) where
      -- There is room for the last digit.
      pub last_fits : last < length mid
      last_fits = omega (arith, stored_length (omega (arith, tenth_fits)) tenth, tenth.place, tenth_fits)

      -- The last digit stored after its tenth is the number stored.
      pub stored_more : (b : ℕ) → b ≡ 48 + n % 10 → Stored old at (decimal n) (set mid last b) (last + 1)
      stored_more b e =
          rw (decimal-more n d)
          (stored-append (omega (arith, tenth_fits)) tenth (record { place = refl; list = rw e (written_one mid last (48 + n % 10) last_fits) }))
