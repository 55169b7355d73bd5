use Rattle.std.proofs.Common.{◌≡◌, ℕ, ◌<◌, ◌^◌, ◌++◌, List, [], ◌∷◌, true, sym, ap, ◌∙◌, subst, inl, inr, arith}
use lib.Bits.{bit_and, bit_or}
use Rattle.std.specs.List.{Contains}
use Rattle.std.proofs.lemmas.List.Elements.{Contains-push_cases}
use Rattle.std.proofs.lemmas.Bool.{both_ways, and_from, and_parts, or_cases, or_left, or_right}
use Rattle.words.specs.Words.{bit, Without}
use Rattle.words.specs.Values.{values_of}
use Rattle.words.proofs.Bit.{bit_of_and, bit_of_or, bit_zero, some_bit}
use Rattle.words.proofs.Rising.{coming, passed, all_seen}
use Rattle.table_networks.specs.Tables.{PartnerX, PartnerY, Kept}

-- the loop over the values of x has seen some of them, and the others are left
pub record Progress (rowf : ℕ → ℕ) (wx wy : ℕ) (seen left : List ℕ) (kept any : ℕ) : Type 0 where
  pub whole : values_of wx ≡ seen ++ left
  pub x_kept : (a : ℕ) → bit wx a ≡ true → PartnerX rowf wy a → bit kept a ≡ true
  pub x_only : (a : ℕ) → bit kept a ≡ true → bit wx a ≡ true
  pub x_seen : (a : ℕ) → Contains seen a → bit kept a ≡ true → PartnerX rowf wy a
  pub y_only : (b : ℕ) → bit any b ≡ true → (bit wy b ≡ true) × PartnerY rowf wx b
  pub y_seen : (a b : ℕ) → Contains seen a → bit wy b ≡ true → bit (rowf a) b ≡ true → bit any b ≡ true

pub start : (rowf : ℕ → ℕ) (wx wy : ℕ) (left : List ℕ) → left ≡ values_of wx → Progress rowf wx wy [] left wx 0
start rowf wx wy left e = record {
  whole = sym e;
  x_kept = λ a h p. h;
  x_only = λ a h. h;
  x_seen = λ a h f. absurd (omega (arith, h.1));
  y_only = λ b h. absurd (both_ways (bit 0 b) (bit_zero b) h);
  y_seen = λ a b h k l. absurd (omega (arith, h.1));
}

pub finish : (rowf : ℕ → ℕ) (wx wy : ℕ) (seen left : List ℕ) (kept any : ℕ) → wx < 2 ^ 32 → Progress rowf wx wy seen left kept any → left ≡ [] → Kept rowf wx wy kept any
finish rowf wx wy seen left kept any l p e = record {
  x_kept = p.x_kept;
  x_only = λ a h. let q = p.x_only a h in (q, p.x_seen a (all_seen wx a seen left l p.whole e q) h);
  y_kept = λ b h q. p.y_seen q.0 b (all_seen wx q.0 seen left l p.whole e q.1) h q.2;
  y_only = p.y_only;
}

-- one turn, with the first value a of left and its row
module _ (rowf : ℕ → ℕ) (wx wy : ℕ) (seen left : List ℕ) (kept any a row : ℕ) (rest : List ℕ) (p : Progress rowf wx wy seen left kept any)
    (first : left ≡ a ∷ rest) (is : row ≡ bit_and (rowf a) wy) where
  row_allows : (b : ℕ) → bit row b ≡ true → (bit wy b ≡ true) × (bit (rowf a) b ≡ true)
  row_allows b h = let q = and_parts (bit (rowf a) b) (bit wy b) (sym (bit_of_and (rowf a) wy b) ∙ ap (λ (x : ℕ). bit x b) (sym is) ∙ h) in (q.1, q.0)

  row_has : (b : ℕ) → bit wy b ≡ true → bit (rowf a) b ≡ true → bit row b ≡ true
  row_has b h k = ap (λ (x : ℕ). bit x b) is ∙ bit_of_and (rowf a) wy b ∙ and_from (bit (rowf a) b) (bit wy b) k h

  y_only' : (b : ℕ) → bit (bit_or any row) b ≡ true → (bit wy b ≡ true) × PartnerY rowf wx b
  y_only' b h = elim (or_cases (bit any b) (bit row b) (sym (bit_of_or any row b) ∙ h)) [
    | inl t ↦ p.y_only b t
    | inr t ↦ let q = row_allows b t in (q.0, (a, (coming wx a seen left rest p.whole first).1, q.1))
  ]

  y_seen' : (u b : ℕ) → Contains (seen ++ a ∷ []) u → bit wy b ≡ true → bit (rowf u) b ≡ true → bit (bit_or any row) b ≡ true
  y_seen' u b h k l = bit_of_or any row b ∙ elim (Contains-push_cases seen a u h) [
    | inl g ↦ or_left (bit any b) (bit row b) (p.y_seen u b g k l)
    | inr e ↦ or_right (bit any b) (bit row b) (row_has b k (ap (λ (x : ℕ). bit (rowf x) b) e ∙ l))
  ]

  -- a has a partner
  pub stays : (row ≡ 0 → ⊥) → Progress rowf wx wy (seen ++ a ∷ []) rest kept (bit_or any row)
  stays ne = record {
    whole = passed wx a seen left rest p.whole first;
    x_kept = p.x_kept;
    x_only = p.x_only;
    x_seen = λ u h f. elim (Contains-push_cases seen a u h) [
      | inl g ↦ p.x_seen u g f
      | inr e ↦ (let P : ℕ → Type 0 = (λ x. PartnerX rowf wy x) in subst P e here)
    ];
    y_only = y_only';
    y_seen = y_seen';
  }
    where
      here : PartnerX rowf wy a
      here = let b = some_bit row ne in let q = row_allows b.0 b.1 in (b.0, q.0, q.1)

  -- a has none
  pub goes : row ≡ 0 → (kept' : ℕ) → Without kept a kept' → Progress rowf wx wy (seen ++ a ∷ []) rest kept' (bit_or any row)
  goes z kept' out = record {
    whole = passed wx a seen left rest p.whole first;
    x_kept = λ u h q. out.stays u (p.x_kept u h q) (λ e. none (let P : ℕ → Type 0 = (λ x. PartnerX rowf wy x) in subst P e q));
    x_only = λ u h. p.x_only u (out.only u h).0;
    x_seen = λ u h f. let q = out.only u f in elim (Contains-push_cases seen a u h) [ inl g ↦ p.x_seen u g q.0 | inr e ↦ absurd (q.1 (sym e)) ];
    y_only = y_only';
    y_seen = y_seen';
  }
    where
      none : PartnerX rowf wy a → ⊥
      none q = both_ways (bit row q.0) (ap (λ (x : ℕ). bit x q.0) z ∙ bit_zero q.0) (row_has q.0 q.1 q.2)
