use Rattle.std.proofs.Common.{◌≡◌, ℕ, zero, suc, ◌+◌, ◌<◌, ◌≤◌, List, get_or, length, take, ap, ◌∙◌, subst, inl, inr, arith}
use Rattle.std.specs.Array.{IsFromFnResult, IsFromFnResultFrom}
use Rattle.std.specs.Fn.{Called}
use Rattle.std.proofs.lemmas.List.{get_or-take, length-take}
use Rattle.std.proofs.lemmas.Bool.{cases_eq}
use denote.Param.Members.{Mut}

-- an array that a closure makes by the index, where the closure stays as it is, and P holds of the index and what it gives
module _ {F : Type 0} (g : Mut F (ℕ × Unit {0}) ℕ) (s : F) (P : ℕ → ℕ → Type 0) (each : (i y : ℕ) (t : F) → Called g s (i, tt) y t → (t ≡ s) × P i y) where
  from : (ys : List ℕ) (i n j : ℕ) → IsFromFnResultFrom g s ys i n → i ≤ j → j < i + n → P j (get_or ys j 0)
  from ys i zero j m l h = absurd (omega arith)
  from ys i (suc n) j m l h =
      let p = each i m.1 m.0 m.3 in
      elim (cases_eq j i) [
        | inl e ↦ (let e' : get_or ys j 0 ≡ m.1 = ap (λ (k : ℕ). get_or ys k 0) e ∙ m.2.1 0 in rw (e', e) p.1)
        | inr ne ↦ from ys (i + 1) n j (let P : F → Type 0 = (λ t. IsFromFnResultFrom g t ys (i + 1) n) in subst P p.0 m.4) (omega arith) (omega arith)
      ]

  pub made_by : (ys : List ℕ) (n j : ℕ) → IsFromFnResult g s ys n → j < n → P j (get_or ys j 0)
  made_by ys n j m h = from ys 0 n j m.each (omega arith) (omega arith)

-- a word of the first w words of a node
pub first_word : (w i : ℕ) (n : List ℕ) → i < length (take w n) → (i < w) × (get_or (take w n) i 0 ≡ get_or n i 0)
first_word w i n l = let h : i < w = omega (arith, length-take w n) in (h, get_or-take w n i 0 h)
