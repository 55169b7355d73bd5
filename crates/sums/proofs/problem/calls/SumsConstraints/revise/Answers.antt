use Rattle.std.proofs.Common.{◌≡◌, ℕ, false, ◌&&◌, List, sym, ap, ◌∙◌, subst, arith}
use Rattle.words.specs.Words.{has}
use Rattle.nodes.specs.Choosing.{empty_below}
use Rattle.nodes.proofs.Emptiness.{none_filled, empty_some}
use Rattle.files.specs.Meaning.{bytes_of}
use Rattle.records.specs.Sums.{sum_width}
use Rattle.sum_networks.specs.Sums.{sum_supports}
use Rattle.sum_networks.specs.Steps.{Kept}
use Rattle.sum_networks.specs.Files.{sum_at}
use Rattle.sums.specs.Meaning.{file_of}
use Rattle.sum_networks.proofs.Cutting.{none_yet, narrowed, cleared}
use Rattle.sums.proofs.problem.calls.SumsConstraints.revise.Goals as goal

pub returns-in_default-clause-differ : goal.returns-in_default-clause-differ
returns-in_default-clause-differ c = (none_yet (λ _ _. false) c.args.node.now.words).differ

pub narrow-requires : goal.narrow-requires
narrow-requires c i l z =
    let e = ap sum_width c.in-Some.ensures.1 in
    none_filled c.width-width.result c.args.node.now.words (sym c.if-has_empty.ensures) i (omega (arith, l, e, c.width-width.ensures.value)) z

pub returns-then-has_empty-clause-revised : goal.returns-then-has_empty-clause-revised
returns-then-has_empty-clause-revised c =
    let bs = file_of c.args.self.now in
    let n = c.args.node.now.words in
    let P : ℕ → Type 0 = (λ w. Kept (λ _ _. false) n c.clear.new.node.words w c.clear.result) in
    let e = empty_some (sum_width bs) n (ap (λ (w : ℕ). empty_below w n) (sym c.width-width.ensures.value) ∙ sym c.if-has_empty.ensures) in
    λ _. cleared (sum_at bs c.args.k) (sum_width bs) n c.clear.new.node.words c.clear.result e (subst P c.width-width.ensures.value c.clear.ensures)

pub returns-else-has_empty-clause-revised : goal.returns-else-has_empty-clause-revised
returns-else-has_empty-clause-revised c =
    let row = c.in-Some.row in
    let bs = bytes_of row.view.now in
    let n = c.args.node.now.words in
    let m = c.narrow.new.node.words in
    let f = none_filled c.width-width.result n (sym c.if-has_empty.ensures) in
    let w : c.width-width.result ≡ sum_width bs = c.width-width.ensures.value ∙ sym (ap sum_width c.in-Some.ensures.1) in
    let S : ℕ → List ℕ → Type 0 = (λ k b. (i v : ℕ) → has m i v ≡ (has n i v && sum_supports (sum_at b k) (sum_width b) n i v)) in
    let r : S row.k bs = narrowed (sum_at bs row.k) (sum_width bs) n m c.narrow.result (λ i l. f i (omega (arith, l, w))) c.narrow.ensures in
    let K : ℕ → Type 0 = (λ k. S k bs) in
    let B : List ℕ → Type 0 = (λ b. S c.args.k b) in
    λ _. subst B c.in-Some.ensures.1 (subst K c.in-Some.ensures.0 r)
