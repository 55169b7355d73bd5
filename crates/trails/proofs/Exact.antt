use Rattle.std.proofs.Common.{◌≡◌, ℕ, ◌^◌, ◌<◌, ◌≤◌, Bool, true, false, cond, not, ◌||◌, List, [], ◌∷◌, length, sym, refl, ap, ◌∙◌, inl, inr, arith}
use lib.Bits.{bit_or, bit_xor}
use lib.Count.{ones}
use Rattle.std.proofs.lemmas.Bool.{both_ways, cases_eq, and_parts, and_from, or_right, eqb-true, eq-eqb, ne_eqb}
use Rattle.words.specs.Words.{bit, Only}
use Rattle.words.proofs.Bit.{bit_of_or, bit_of_xor, bit_ext, bit_zero, bit_pow_same, bit_pow_other, ones_falls}
use Rattle.trails.specs.declared.entry.Entry.{Entry}
use Rattle.trails.specs.Entries.{recorded, exact}

-- ---- a set with one word taken out

stays : (x y : Bool) → y ≡ false → cond x (not y) y ≡ x
stays true y h = rw h refl
stays false y h = h

goes : (x y : Bool) → x ≡ true → y ≡ true → cond x (not y) y ≡ false
goes x y h k = rw (h, k) refl

other_bit : (w v u : ℕ) → (u ≡ v → ⊥) → bit (bit_xor w (2 ^ v)) u ≡ bit w u
other_bit w v u ne = bit_of_xor w (2 ^ v) u ∙ stays (bit w u) (bit (2 ^ v) u) (bit_pow_other v u ne)

own_bit : (w v : ℕ) → bit w v ≡ true → bit (bit_xor w (2 ^ v)) v ≡ false
own_bit w v h = bit_of_xor w (2 ^ v) v ∙ goes (bit w v) (bit (2 ^ v) v) h (bit_pow_same v)

fewer : (w v : ℕ) → bit w v ≡ true → ones (bit_xor w (2 ^ v)) < ones w
fewer w v h =
    ones_falls (bit_xor w (2 ^ v)) w
    (λ u b. elim (cases_eq u v) [ inl e ↦ ap (bit w) e ∙ h | inr ne ↦ sym (other_bit w v u ne) ∙ b ])
    (λ e. both_ways (bit w v) (sym (ap (λ (x : ℕ). bit x v) e) ∙ own_bit w v h) h)

-- ---- a set that has the words of the entries

-- the set counts the entries
pub room : (w : ℕ) (s : List Entry) → exact w s ≡ true → length s ≤ ones w
room w [] h = omega arith
room w (e ∷ s) h =
    let p = and_parts (bit w e.word) (exact (bit_xor w (2 ^ e.word)) s) h in
    let r = room (bit_xor w (2 ^ e.word)) s p.1 in
    omega (arith, r, fewer w e.word p.0)

pub exact_recorded : (w : ℕ) (s : List Entry) (v : ℕ) → exact w s ≡ true → recorded s v ≡ bit w v
exact_recorded w [] v h = sym (bit_zero v) ∙ ap (λ (x : ℕ). bit x v) (sym (eqb-true w 0 h))
exact_recorded w (e ∷ s) v h =
    let p = and_parts (bit w e.word) (exact (bit_xor w (2 ^ e.word)) s) h in
    elim (cases_eq e.word v) [
      | inl q ↦ let t = eq-eqb e.word v q in rw t (sym p.0 ∙ ap (bit w) q)
      | inr ne ↦ let t = ne_eqb e.word v ne in rw t (exact_recorded (bit_xor w (2 ^ e.word)) s v p.1 ∙ other_bit w e.word v (λ q. ne (sym q)))
    ]

put_back : (x y : Bool) → (y ≡ true → x ≡ false) → cond (x || y) (not y) y ≡ x
put_back true true h = sym (h refl)
put_back false true h = refl
put_back true false h = refl
put_back false false h = refl

-- one word more, and its entry
pub exact_more : (w o : ℕ) (e : Entry) (s : List Entry) → exact w s ≡ true → bit w e.word ≡ false → Only e.word o
    → exact (bit_or w o) (e ∷ s) ≡ true
exact_more w o e s h f one =
    let back : bit_xor (bit_or w o) (2 ^ e.word) ≡ w =
    ap (bit_xor (bit_or w o)) (sym one.is)
    ∙ bit_ext (bit_xor (bit_or w o) o) w (λ u.
    bit_of_xor (bit_or w o) o u
    ∙ ap (λ (x : Bool). cond x (not (bit o u)) (bit o u)) (bit_of_or w o u)
    ∙ put_back (bit w u) (bit o u) (λ t. ap (bit w) (one.alone u t) ∙ f)) in
    and_from (bit (bit_or w o) e.word) (exact (bit_xor (bit_or w o) (2 ^ e.word)) s)
    (bit_of_or w o e.word ∙ or_right (bit w e.word) (bit o e.word) one.there)
    (ap (λ (x : ℕ). exact x s) back ∙ h)
