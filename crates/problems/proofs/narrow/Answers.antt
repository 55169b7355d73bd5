use Rattle.std.proofs.Common.{◌≡◌, ℕ, ◌^◌, ◌<◌, eqb, get_or, set, sym, ap, ◌∙◌, rules}
use lib.Bits.{bit_and, bit_xor}
use Rattle.std.proofs.lemmas.Bool.{eq-eqb, ne_eqb}
use Rattle.problems.specs.Problems.{cut}
use Rattle.problems.proofs.Narrowing.{cut_mask}
use Rattle.problems.proofs.narrow.Goals as goal
use Rattle.problems.proofs.narrow.Goals.{then-alternative-eq0, else-alternative-eq0}

pub returns-clause-value : goal.returns-clause-value
returns-clause-value c =
    let n = c.args.node.words in
    let x = c.args.choice.0 in
    let v = c.args.choice.1 in
    let a = c.args.alternative in
    let W = get_or n x 0 in
    let word : c.in-Some.field-0.now ≡ W = search rules in
    let small : W < 2 ^ 32 = search rules in
    let one = rw c.from-value.ensures at c.only.ensures.one in
    let none = rw c.from-value.ensures at c.only.ensures.none in
    let m = ap (λ (w : ℕ). bit_and w c.only.result) word ∙ cut_mask 32 W v c.only.result small (λ h. (one h).is) none in
    let same : c.if-alternative-eq0.narrowed ≡ cut W v (eqb a 0) = elim c.if-alternative-eq0.branch [
      | then-alternative-eq0 w ↦ w.narrowed-is ∙ m ∙ ap (cut W v) (sym (eq-eqb a 0 w.if-alternative-eq0.true))
      | else-alternative-eq0 w ↦ w.narrowed-is ∙ ap (λ (u : ℕ). bit_xor u (bit_and c.in-Some.field-0.now c.only.result)) word ∙ ap (bit_xor W) m ∙ ap (cut W v) (sym (ne_eqb a 0 w.if-alternative-eq0.false))
    ] in
    ap (λ (i : ℕ). set n i c.if-alternative-eq0.narrowed) c.from-variable.ensures ∙ ap (set n x) same
