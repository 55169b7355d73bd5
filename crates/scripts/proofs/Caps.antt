use Rattle.std.proofs.Common.{◌≡◌, ℕ, ◌+◌, ◌*◌, ◌<◌, min, List, [], ◌∷◌, length, get_or, drop, Some, None, Option, refl, ap, arith}
use Rattle.std.specs.Option.{option_and_then}
use Rattle.std.proofs.lemmas.List.{at_drop_more}
use Rattle.scripts.specs.Numbers.{capped, digit_of, value_after}

-- numbers that count as the same under the limit c still do after further digits
alike : (c a b : ℕ) (xs : List ℕ) → min a c ≡ min b c → capped c (value_after a xs) ≡ capped c (value_after b xs)
alike c a b [] h = ap Some h
alike c a b (x ∷ xs) h = by (digit_of x) (λ d. alike c (a * 10 + d) (b * 10 + d) xs (omega arith))
  where
    by : (o : Option ℕ) → ((d : ℕ) → capped c (value_after (a * 10 + d) xs) ≡ capped c (value_after (b * 10 + d) xs))
        → capped c (option_and_then (λ d. value_after (a * 10 + d) xs) o) ≡ capped c (option_and_then (λ d. value_after (b * 10 + d) xs) o)
    by None e = refl
    by (Some d) e = e d

-- a digit is read, and the number so far is capped
pub one_digit : (c n m d i : ℕ) (text : List ℕ) → i < length text → digit_of (get_or text i 0) ≡ Some d → m ≡ min (n * 10 + d) c
    → capped c (value_after m (drop (i + 1) text)) ≡ capped c (value_after n (drop i text))
one_digit c n m d i text l t k =
    let a = at_drop_more (value_after n) text i 0 l in
    let b : value_after n (get_or text i 0 ∷ drop (i + 1) text) ≡ value_after (n * 10 + d) (drop (i + 1) text) = rw t in
    let s = alike c m (n * 10 + d) (drop (i + 1) text) (omega arith) in cc
