use Rattle.std.proofs.Common.{◌≡◌, ℕ, ◌+◌, ◌-◌, ◌<◌, ◌≤◌, Bool, true, false, not, nat_lt, cond, List, [], ◌∷◌, length, get_or, take, drop, Some, None, Option, refl, sym, ap, ◌∙◌, arith, ◌==◌, filter}
use Rattle.std.specs.List.{slice_split, position, position_or_len}
use Rattle.std.specs.Option.{unwrap_or}
use Rattle.std.proofs.Math.Dec.{eqb-suc-zero}
use Rattle.std.proofs.Math.Numerals.{one-add}
use Rattle.std.proofs.lemmas.Bool.{ltb-true, ltb-false}
use Rattle.std.proofs.lemmas.List.{take_rest, take_all, drop_all, drop_more, length-take}
use Rattle.std.proofs.lemmas.List.Sums.{prefix_len-le-length, fails_before_first, passes_at_first}
use Rattle.std.proofs.lemmas.List.Splits.{slice_split_first, slice_split_none}
use Rattle.scripts.specs.Parts.{is_blank, words}

-- a byte of a word
abbrev solid : ℕ → Bool
solid b = not (is_blank b)

abbrev filled : List (List ℕ) → List (List ℕ)
filled parts = filter (λ word. not (length word == 0)) parts

filled_first : (part : List ℕ) (parts : List (List ℕ)) → 0 < length part → filled (part ∷ parts) ≡ part ∷ filled parts
filled_first [] parts h = absurd (omega arith)
filled_first (x ∷ xs) parts h = rw (eqb-suc-zero (length xs)) refl

-- a blank in front changes nothing, nor do all that stand there
words_blank : (x : ℕ) (xs : List ℕ) → is_blank x ≡ true → words (x ∷ xs) ≡ words xs
words_blank x xs e = rw e refl

words_from : (l : List ℕ) → words l ≡ words (drop (position_or_len solid l) l)
words_from [] = refl
words_from (x ∷ xs) = by (is_blank x) refl (words_from xs)
  where
    by : (t : Bool) → is_blank x ≡ t → words xs ≡ words (drop (position_or_len solid xs) xs) → words (x ∷ xs) ≡ words (drop (position_or_len solid (x ∷ xs)) (x ∷ xs))
    by true e h = words_blank x xs e ∙ rw (e, one-add) h
    by false e h =
        let none : position_or_len solid (x ∷ xs) ≡ 0 = rw e refl in rw none refl

-- a word up to the next blank, or to the end, comes first
word_first : (l : List ℕ) (n : ℕ) → n ≡ position_or_len is_blank l → 0 < n → words l ≡ take n l ∷ words (drop n l)
word_first l n k some = by (nat_lt n (length l)) refl
  where
    within : n ≤ length l
    within = omega (arith, prefix_len-le-length (λ b. not (is_blank b)) l)

    by : (t : Bool) → nat_lt n (length l) ≡ t → words l ≡ take n l ∷ words (drop n l)
    by true e =
        let h : position_or_len is_blank l < length l = omega (arith, ltb-true n (length l) e) in
        let s = slice_split_first is_blank l 0 h in
        let f = filled_first (take n l) (slice_split is_blank (drop (n + 1) l)) (omega (arith, length-take n l)) in
        let d = drop_more l n 0 (omega arith) in
        let b = words_blank (get_or l n 0) (drop (n + 1) l) (rw k (passes_at_first is_blank l 0 h)) in
        rw d (ap filled (rw (← k) at s) ∙ (f ∙ ap (λ (ws : List (List ℕ)). take n l ∷ ws) (sym b)))
    by false e =
        let h : length l ≤ n = ltb-false n (length l) e in
        let s = slice_split_none is_blank l (λ j d i. fails_before_first is_blank l j d (omega arith)) in
        let f = filled_first l [] (omega (arith, within)) in
        ap filled s ∙ (f ∙ rw (take_all n l h, drop_all n l h) refl)

word_here : (x : ℕ) (xs : List ℕ) → solid x ≡ true → 0 < position_or_len is_blank (x ∷ xs)
word_here x xs e = rw e (omega arith)

-- what the places that `position` gives say of the words
pub no_word_at : (l : List ℕ) → position solid l ≡ None → words l ≡ []
no_word_at l h = by (nat_lt (position_or_len solid l) (length l)) refl
  where
    by : (t : Bool) → nat_lt (position_or_len solid l) (length l) ≡ t → words l ≡ []
    by true e = let w = rw e at h in cc
    by false e = words_from l ∙ rw (drop_all (position_or_len solid l) l (ltb-false (position_or_len solid l) (length l) e)) refl

found : (l : List ℕ) (n : ℕ) → position solid l ≡ Some n → (n ≡ position_or_len solid l) × (position_or_len solid l < length l)
found l n h = by (nat_lt (position_or_len solid l) (length l)) refl
  where
    by : (t : Bool) → nat_lt (position_or_len solid l) (length l) ≡ t → (n ≡ position_or_len solid l) × (position_or_len solid l < length l)
    by true e = let w = rw e at h in (cc, ltb-true (position_or_len solid l) (length l) e)
    by false e = let w = rw e at h in cc

pub one_word_at : (l : List ℕ) (n m : ℕ) (a b : List ℕ) → position solid l ≡ Some n → m ≡ position_or_len is_blank (take (length l - n) (drop n l))
    → a ≡ take m (take (length l - n) (drop n l)) → b ≡ drop m (take (length l - n) (drop n l)) → words l ≡ a ∷ words b
one_word_at l n m a b e f g k =
    let p = found l n e in
    let r = take_rest l n in
    let d = drop_more l (position_or_len solid l) 0 p.1 in
    let i = word_here (get_or l (position_or_len solid l) 0) (drop (position_or_len solid l + 1) l) (passes_at_first solid l 0 p.1) in
    let some : 0 < m = rw (f, r, p.0, d) i in
    let w = word_first (drop n l) m (rw r at f) some in
    let from : words l ≡ words (drop n l) = rw p.0 (words_from l) in cc

-- the length, where `position` finds nothing
pub or_length : (l : List ℕ) (o : Option ℕ) → o ≡ cond (nat_lt (position_or_len is_blank l) (length l)) (Some (position_or_len is_blank l)) None
    → unwrap_or o (length l) ≡ position_or_len is_blank l
or_length l o h = by (nat_lt (position_or_len is_blank l) (length l)) refl
  where
    by : (t : Bool) → nat_lt (position_or_len is_blank l) (length l) ≡ t → unwrap_or o (length l) ≡ position_or_len is_blank l
    by true e = let w = rw e at h in rw w
    by false e =
        let w = rw e at h in
        let k : length l ≡ position_or_len is_blank l = omega (arith, ltb-false (position_or_len is_blank l) (length l) e, prefix_len-le-length (λ b. not (is_blank b)) l) in rw w k
