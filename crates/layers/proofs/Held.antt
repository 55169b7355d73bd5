use Rattle.std.proofs.Common.{◌≡◌, ℕ, ◌<◌, List, [], ◌∷◌, length, Ok, refl, arith}
use Rattle.space.specs.Meaning.{Meaning}
use Rattle.space.specs.Calls.{Restores, Forgets}
use Rattle.space.specs.Layers.{layered}
use Rattle.layers.specs.Moves.{At}

-- where nodes are held, one of them is the newest
pub newest : {N : Type 0} (held : List N) → 0 < length held → (x : N) × (older : List N) × (held ≡ x ∷ older)
newest [] h = let z : ⊥ = omega arith in absurd z
newest (x ∷ older) h = (x, older, refl)

module _ {N C : Type 0} where
  -- the newest held node is current below, and all are still held
  pub restores : (m n : Meaning N C) (c d : ℕ) (h i : List N) (x : N) (older : List N) → h ≡ x ∷ older → At m x n → i ≡ x ∷ older → d ≡ c → Restores (layered m c h) (Ok tt) (layered n d i)
  restores m n c d h i x older e f g k = rw (e, f, g, k) (refl, refl)

  -- the newest held node is held no more
  pub forgets : (m n : Meaning N C) (c d : ℕ) (h i : List N) (x : N) (older : List N) → h ≡ x ∷ older → At m m.current n → i ≡ older → d ≡ c → Forgets (layered m c h) (Ok tt) (layered n d i)
  forgets m n c d h i x older e f g k = rw (e, f, g, k) (refl, refl)
