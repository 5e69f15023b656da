-- Whole numbers to text: "Numbers are in shortest decimal form, without plus."
use Rattle.std.specs.Prelude.{cond, List, [], ◌∷◌, ℕ, zero, suc, ◌+◌, ◌/◌, ◌%◌, ltb, ℤ, pos, negsuc}

-- The digits of n, at most f of them, in front of `rest`.
unfoldable pub digits_of : ℕ → ℕ → List ℕ → List ℕ
digits_of zero n rest = rest
digits_of (suc f) n rest =
    let more = digits_of f (n / 10) ((48 + n % 10) ∷ rest) in cond (ltb n 10) ((48 + n) ∷ rest) more

-- Of a number from -2^63 to 2^63 - 1, which has at most 19 digits.
unfoldable pub decimal : ℤ → List ℕ
decimal (pos n) = digits_of 19 n []
decimal (negsuc n) = 45 ∷ digits_of 19 (suc n) []
