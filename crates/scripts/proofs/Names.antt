use Rattle.std.proofs.Common.{◌≡◌, ℕ, false, List, length, get_or, ap}
use Rattle.std.specs.Str.{bytes_eq}
use Rattle.std.proofs.lemmas.Bool.{false_from_ne_true}
use Rattle.std.proofs.lemmas.Slice.Eq.{bytes_eq-Decides}

-- texts that differ in length, or in the byte at k
pub other_length : (s p : List ℕ) → (length s ≡ length p → ⊥) → bytes_eq s p ≡ false
other_length s p h = false_from_ne_true _ (λ e. h (ap length ((bytes_eq-Decides s p).0 e)))

pub other_byte : (s p : List ℕ) (k : ℕ) → (get_or s k 0 ≡ get_or p k 0 → ⊥) → bytes_eq s p ≡ false
other_byte s p k h = false_from_ne_true _ (λ e. h (ap (λ (l : List ℕ). get_or l k 0) ((bytes_eq-Decides s p).0 e)))
