use Rattle.std.proofs.Common.{◌≡◌, ℕ, ◌-◌, List, [], ◌∷◌, length, reverse, get_or, Some, refl, sym, ap, ◌∙◌, arith, rules}
use Rattle.std.proofs.lemmas.List.{length-reverse, get_or-reverse}
use Rattle.std.proofs.lemmas.Option.{slice_get-get_or}
use Rattle.std.specs.List.{slice_get}
use Rattle.std.specs.Ordering.{partial_lt, nat_cmp, as_partial_cmp}
use Rattle.std.specs.Option.{option_partial_cmp}
use Rattle.traces.specs.Lines.{stale}

-- the last of a list is the first from behind
pub last_first : (xs : List ℕ) → slice_get xs (length xs - 1) ≡ slice_get (reverse xs) 0
last_first [] = refl
last_first (x ∷ xs) =
    let a = slice_get-get_or (x ∷ xs) (length (x ∷ xs) - 1) 0 (omega arith) in
    let b = slice_get-get_or (reverse (x ∷ xs)) 0 0 (omega (arith, length-reverse (x ∷ xs))) in
    let k : length (x ∷ xs) - 1 - 0 ≡ length (x ∷ xs) - 1 = omega arith in
    let e = get_or-reverse (x ∷ xs) 0 0 (omega arith) in
    a ∙ ap (λ (n : ℕ). Some n) (ap (λ (n : ℕ). get_or (x ∷ xs) n 0) (sym k) ∙ sym e) ∙ sym b

-- the newest depths compared, where no depth is before any
pub stale_order : (p ds cs : List ℕ) (g : ℕ) → partial_lt (option_partial_cmp (as_partial_cmp nat_cmp)) (slice_get ds 0) (slice_get cs 0) ≡ stale (record { path = p; depths = ds; checks = cs; gap = g })
stale_order p [] [] g = refl
stale_order p [] (c ∷ cs) g = refl
stale_order p (d ∷ ds) [] g = refl
stale_order p (d ∷ ds) (c ∷ cs) g = Prim.search rules
