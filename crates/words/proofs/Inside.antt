use Rattle.std.proofs.Common.{◌≡◌, ℕ, ◌^◌, ◌<◌, ◌≤◌, Bool, true, false, List, length, get_or, sym, refl, ap, ◌∙◌, inl, inr, arith}
use Rattle.std.proofs.lemmas.List.{ext_get_or, get_or_past}
use Rattle.std.proofs.lemmas.Bool.{cases_lt, both_ways}
use Rattle.words.specs.Words.{bit, has, Inside, Fit}
use Rattle.words.proofs.Bit.{bit_ext, bit_zero, bit_past, subset_le}

pub same_bool : (x y : Bool) → (x ≡ true → y ≡ true) → (y ≡ true → x ≡ true) → x ≡ y
same_bool true y f g = sym (f refl)
same_bool false true f g = g refl
same_bool false false f g = refl

-- two nodes inside each other are one
pub same_node : (a b : List ℕ) → length a ≡ length b → Inside a b → Inside b a → a ≡ b
same_node a b l f g = ext_get_or 0 a b l (λ i _. bit_ext (get_or a i 0) (get_or b i 0) (λ v. same_bool (has a i v) (has b i v) (f i v) (g i v)))

pub inside_le : (a b : List ℕ) → Inside a b → (i : ℕ) → get_or a i 0 ≤ get_or b i 0
inside_le a b f i = subset_le (get_or a i 0) (get_or b i 0) (f i)

-- a value stands in one of 32 words, and is below 32
pub has_place : (n : List ℕ) → Fit n → (i v : ℕ) → has n i v ≡ true → (i < 32) × (v < 32)
has_place n f i v h = (
  elim (cases_lt i 32) [ inl l ↦ l | inr g ↦ absurd (both_ways (has n i v) (ap (λ (x : ℕ). bit x v) (get_or_past n i 0 (omega (arith, f.long))) ∙ bit_zero v) h) ],
  elim (cases_lt v 32) [ inl l ↦ l | inr g ↦ absurd (both_ways (has n i v) (bit_past 32 (get_or n i 0) v (f.small i) g) h) ],
)

pub in_word : (w v : ℕ) → w < 2 ^ 32 → bit w v ≡ true → v < 32
in_word w v s h = elim (cases_lt v 32) [ inl l ↦ l | inr g ↦ absurd (both_ways (bit w v) (bit_past 32 w v s g) h) ]
