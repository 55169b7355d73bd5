use Rattle.std.specs.Prelude.{ℕ, ◌+◌, ◌-◌, ◌*◌, min, cond, List, [], ◌∷◌, Some, None, Option}
use Rattle.std.specs.Option.{option_and_then, option_map}
use Rattle.std.specs.Char.{is_ascii_digit}

-- the value of a digit
abbrev pub digit_of : ℕ → Option ℕ
digit_of x = cond (is_ascii_digit x) (Some (x - 48)) None

-- the number that digits write after those of n
abbrev pub value_after : ℕ → List ℕ → Option ℕ
value_after n [] = Some n
value_after n (x ∷ xs) = option_and_then (λ d. value_after (n * 10 + d) xs) (digit_of x)

-- the number that a text writes: digits only, and at least one
abbrev pub value : List ℕ → Option ℕ
value [] = None
value (x ∷ xs) = value_after 0 (x ∷ xs)

-- a number above the limit counts as the limit
abbrev pub capped : ℕ → Option ℕ → Option ℕ
capped limit o = option_map (λ n. min n limit) o
