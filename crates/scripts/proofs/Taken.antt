use Rattle.std.proofs.Common.{◌≡◌, ℕ, ◌+◌, List, [], ◌∷◌, length, drop, Some, None, Option, refl, sym, ap, ◌∙◌, subst}
use Rattle.std.specs.Iterator.{AlwaysYields, Yields}
use Rattle.std.proofs.lemmas.Iterator.{YieldsList}
use Rattle.std.proofs.lemmas.List.{drop-drop}

module _ {S A B : Type 0} (steps : S → Option A → S → Type 0) (v : A → B) where
  after : (xs : List A) (all : List B) (s t : S) → AlwaysYields steps v s all → Yields steps s xs t → AlwaysYields steps v t (drop (length xs) all)
  after [] all s t e y = subst (λ k. AlwaysYields steps v k all) y e
  after (x ∷ xs) [] s t e y = absurd (e x y.0 y.1)
  after (x ∷ xs) (z ∷ all) s t e y = after xs all y.0 t (e.1 x y.0 y.1).1 y.2

  at_none : (all : List B) (s u : S) → AlwaysYields steps v s all → steps s None u → all ≡ []
  at_none [] s u e k = refl
  at_none (z ∷ all) s u e k = absurd (e.0 u k)

  at_item : (all : List B) (s u : S) (x : A) → AlwaysYields steps v s all → steps s (Some x) u → (rest : List B) × (all ≡ v x ∷ rest) × YieldsList steps v u rest
  at_item [] s u x e k = absurd (e x u k)
  at_item (z ∷ all) s u x e k = let p = e.1 x u k in (all, ap (λ (y : B). y ∷ all) (sym p.0), record { runs = p.1 })

module _ {S A B : Type 0} {steps : S → Option A → S → Type 0} {v : A → B} {all : List B} where
  -- what is left of a chain after some items
  pub left : {s : S} (xs : List A) (t : S) → Yields steps s xs t → YieldsList steps v s all → YieldsList steps v t (drop (length xs) all)
  left {s} xs t y e = record { runs = after steps v xs all s t e.runs y }

  module _ {s : S} (r : Option A) (u : S) where
    -- a call of `next`
    pub none : r ≡ None → steps s r u → YieldsList steps v s all → all ≡ []
    none is k e = at_none steps v all s u e.runs (subst (λ o. steps s o u) is k)

    pub item : (x : A) → r ≡ Some x → steps s r u → YieldsList steps v s all → (rest : List B) × (all ≡ v x ∷ rest) × YieldsList steps v u rest
    item x is k e = at_item steps v all s u x e.runs (subst (λ o. steps s o u) is k)

module _ {S A B : Type 0} {steps : S → Option A → S → Type 0} {v : A → B} {all : List B} {s : S} (r : Option A) (u : S) (x : A) (is : r ≡ Some x) (k : steps s r u) (r' : Option A) (u' : S) where
  -- two calls, and three
  pub one : r' ≡ None → steps u r' u' → YieldsList steps v s all → all ≡ v x ∷ []
  one is' k' e = let p = item r u x is k e in p.1 ∙ ap (λ (l : List B). v x ∷ l) (none r' u' is' k' p.2)

  module _ (y : A) (is' : r' ≡ Some y) (k' : steps u r' u') (r'' : Option A) (u'' : S) where
    pub two : r'' ≡ None → steps u' r'' u'' → YieldsList steps v s all → all ≡ v x ∷ v y ∷ []
    two is'' k'' e =
        let p = item r u x is k e in
        let q = item r' u' y is' k' p.2 in p.1 ∙ ap (λ (l : List B). v x ∷ l) (q.1 ∙ ap (λ (l : List B). v y ∷ l) (none r'' u'' is'' k'' q.2))

    pub more : (z : A) → r'' ≡ Some z → steps u' r'' u'' → YieldsList steps v s all → (rest : List B) × (all ≡ v x ∷ v y ∷ v z ∷ rest)
    more z is'' k'' e =
        let p = item r u x is k e in
        let q = item r' u' y is' k' p.2 in
        let w = item r'' u'' z is'' k'' q.2 in (w.0, p.1 ∙ ap (λ (l : List B). v x ∷ l) (q.1 ∙ ap (λ (l : List B). v y ∷ l) w.1))

pub drop_next : {B : Type 0} (all rest : List B) (n k : ℕ) (x : B) → k ≡ n + 1 → drop n all ≡ x ∷ rest → drop k all ≡ rest
drop_next all rest n k x e f = rw e (sym (drop-drop 1 n all) ∙ ap (drop 1) f)
