use Rattle.std.proofs.Common.{◌≡◌, ℕ, zero, suc, ◌+◌, ◌-◌, ◌*◌, ◌<◌, ◌≤◌, true, Bool, ◌&&◌, List, [], length, get_or, take, drop, sym, ap, ◌∙◌, add-one, arith, rules}
use Rattle.std.specs.List.{fold}
use Rattle.std.specs.Int.{from_le_bytes, cast_signed, w32}
use Rattle.std.specs.Simd.{first_chunks}
use borrow.Author.Tests.{tests}
use Rattle.std.proofs.Math.Bool.{and_comm}
use Rattle.std.proofs.lemmas.Grind.{common_steps}
use Rattle.std.proofs.lemmas.Iterator.{YieldsList-from_slice}
use Rattle.std.proofs.lemmas.Iterator.Consumers.{fold_from_yields_List}
use Rattle.std.proofs.lemmas.List.{take_more, get_or-drop, get_or-take, take_all}
use Rattle.std.proofs.lemmas.List.Sums.{fold-append}
use Rattle.records.specs.Words.{word, signed}
use Rattle.records.specs.Checks.{within, limited}
use Rattle.records.proofs.Steps.{chunk_at, limited_more, limited_none}
use Rattle.sum_checks.proofs.coefficients_fit.Goals as goal

read : (l : List ℕ) (i : ℕ) → from_le_bytes w32 (take 4 (drop i l)) ≡ word l i
read l i = grind (arith, common_steps)

abbrev fits : Bool → List ℕ → Bool
fits fit w = fit && within (cast_signed w32 (from_le_bytes w32 w)) 1000000

-- words of a record are within the limit as far as the coefficients are that they hold
so_far : (l : List ℕ) (cs : List (List ℕ)) (m : ℕ) → m ≤ length cs → ((i : ℕ) → i < m → cast_signed w32 (from_le_bytes w32 (get_or cs i [])) ≡ signed l (8 + 4 * i)) → fold fits true (take m cs) ≡ limited l m
so_far l cs zero h b = sym (limited_none l)
so_far l cs (suc m) h b =
    let i = so_far l cs m (omega arith) (λ i q. b i (omega arith)) in
    let t : m < length cs = omega arith in
    let r = b m (omega arith) in
    rw (← add-one) (rw (take_more cs m [] t, fold-append, limited_more, i, r) (and_comm (limited l m) (within (signed l (8 + 4 * m)) 1000000)))

-- the words after the first two hold the coefficients
part : (l : List ℕ) (ws cs : List (List ℕ)) (n i : ℕ) → ws ≡ first_chunks 4 n l → cs ≡ take (length ws - 2) (drop 2 ws) → length ws ≡ 34 → n ≡ 34 → i < 32 → cast_signed w32 (from_le_bytes w32 (get_or cs i [])) ≡ signed l (8 + 4 * i)
part l ws cs n i e f s t b =
    let m : i < length ws - 2 = omega arith in
    let k : 2 + i < n = omega arith in
    let j : 4 * (2 + i) ≡ 8 + 4 * i = omega arith in
    let g : get_or ws (2 + i) [] ≡ take 4 (drop (8 + 4 * i) l) = rw (e, ← j) (chunk_at 4 (2 + i) n l k) in
    let h : get_or cs i [] ≡ take 4 (drop (8 + 4 * i) l) = rw (f, get_or-take (length ws - 2) (drop 2 ws) i [] m, get_or-drop 2 ws i []) g in
    ap (λ (w : ℕ). cast_signed w32 w) (ap (from_le_bytes w32) h ∙ read l (8 + 4 * i))

pub returns : goal.returns
returns c =
    let e = fold_from_yields_List {all = c.iter.result.rest.now} _ fits true c.fold.result c.fold.ensures.ran (YieldsList-from_slice _ cc) (λ a x b q k. search (rules, tests)) in
    let s : length c.as_chunks.result.0.now ≡ 34 = omega (arith, c.as_chunks.ensures.front_len, c.told-line) in
    let r = c.iter.ensures.rest in
    let n : length c.iter.result.rest.now ≡ 32 = omega (arith, c.iter.ensures.len) in
    let f = so_far c.args.line.now c.iter.result.rest.now 32 (omega arith) (λ i b. part _ _ _ _ i c.as_chunks.ensures.front r s (omega (arith, c.told-line)) b) in
    let t : take 32 c.iter.result.rest.now ≡ c.iter.result.rest.now = take_all 32 c.iter.result.rest.now (omega arith) in
    e ∙ rw t at f
