use Rattle.std.proofs.Common.{◌≡◌, ℕ, zero, suc, ◌+◌, ◌<◌, ◌≤◌, List, [], ◌∷◌, ◌++◌, length, get_or, take, drop, set, sym, refl, ap, ◌∙◌, add-one, arith, length-set, set-set}
use lib.Seq.{set-get_or}
use Rattle.trails.specs.declared.entry.Entry.{Entry}
use Rattle.trails.specs.Entries.{noted, before}
use Rattle.trails.proofs.Undoing.{before_noted}

-- the first words new, and the others old
abbrev mixed : ℕ → List ℕ → List ℕ → List ℕ
mixed i new old = take i new ++ drop i old

mixed_more : (i : ℕ) (new old : List ℕ) → i < length new → i < length old → mixed (suc i) new old ≡ set (mixed i new old) i (get_or new i 0)
mixed_more i [] old h k = absurd (omega arith)
mixed_more i (x ∷ new) [] h k = absurd (omega arith)
mixed_more zero (x ∷ new) (y ∷ old) h k = refl
mixed_more (suc i) (x ∷ new) (y ∷ old) h k = ap (λ (l : List ℕ). x ∷ l) (mixed_more i new old (omega arith) (omega arith))

mixed_at : (i : ℕ) (new old : List ℕ) → i < length new → i < length old → get_or (mixed i new old) i 0 ≡ get_or old i 0
mixed_at i [] old h k = absurd (omega arith)
mixed_at i (x ∷ new) [] h k = absurd (omega arith)
mixed_at zero (x ∷ new) (y ∷ old) h k = refl
mixed_at (suc i) (x ∷ new) (y ∷ old) h k = mixed_at i new old (omega arith) (omega arith)

length_mixed : (i : ℕ) (new old : List ℕ) → length new ≡ length old → length (mixed i new old) ≡ length old
length_mixed zero new old h = refl
length_mixed (suc i) [] [] h = refl
length_mixed (suc i) [] (y ∷ old) h = absurd (omega arith)
length_mixed (suc i) (x ∷ new) [] h = absurd (omega arith)
length_mixed (suc i) (x ∷ new) (y ∷ old) h = ap suc (length_mixed i new old (omega arith))

pub mixed_all : (i : ℕ) (new old : List ℕ) → length new ≡ length old → length new ≤ i → mixed i new old ≡ new
mixed_all zero [] [] e h = refl
mixed_all (suc i) [] [] e h = refl
mixed_all i [] (y ∷ old) e h = absurd (omega arith)
mixed_all i (x ∷ new) [] e h = absurd (omega arith)
mixed_all zero (x ∷ new) (y ∷ old) e h = absurd (omega arith)
mixed_all (suc i) (x ∷ new) (y ∷ old) e h = ap (λ (l : List ℕ). x ∷ l) (mixed_all i new old (omega arith) (omega arith))

-- a word that has not changed
pub same_word : (ss : List (List Entry)) (new old : List ℕ) (i : ℕ) → i < length new → i < length old → get_or new i 0 ≡ get_or old i 0
    → before ss (mixed (i + 1) new old) ≡ before ss (mixed i new old)
same_word ss new old i h k e =
    let back : set (mixed i new old) i (get_or new i 0) ≡ mixed i new old =
    ap (set (mixed i new old) i) (e ∙ sym (mixed_at i new old h k)) ∙ set-get_or (mixed i new old) i 0 in
    ap (λ (j : ℕ). before ss (mixed j new old)) (add-one i) ∙ ap (before ss) (mixed_more i new old h k ∙ back)

-- a word that has changed, and whose old value is noted
pub noted_word : (ss : List (List Entry)) (new old : List ℕ) (i v : ℕ) → length new ≡ length old → length old ≤ 32 → i < length old → v ≡ get_or old i 0
    → before (noted ss (record { word = i; old = v })) (mixed (i + 1) new old) ≡ before ss (mixed i new old)
noted_word ss new old i v l most k e =
    let m = mixed i new old in
    let back : set (set m i (get_or new i 0)) i v ≡ m =
    set-set m i (get_or new i 0) v ∙ ap (set m i) (e ∙ sym (mixed_at i new old (omega arith) k)) ∙ set-get_or m i 0 in
    let low : length (set m i (get_or new i 0)) ≤ 32 = omega (arith, length-set m i (get_or new i 0), length_mixed i new old l) in
    ap (λ (j : ℕ). before (noted ss (record { word = i; old = v })) (mixed j new old)) (add-one i)
    ∙ ap (before (noted ss (record { word = i; old = v }))) (mixed_more i new old (omega arith) k)
    ∙ before_noted ss (record { word = i; old = v }) (set m i (get_or new i 0)) low
    ∙ ap (before ss) back
