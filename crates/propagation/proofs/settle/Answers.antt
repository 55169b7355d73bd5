use Rattle.std.proofs.Common.{ℕ, ◌<◌, sym, refl, subst, inl, inr, arith, rules}
use Rattle.std.specs.Prelude.{IfSome}
use Rattle.std.proofs.lemmas.Bool.{cases_eq}
use Rattle.words.specs.Words.{Fit}
use Rattle.nodes.specs.Choosing.{Filled}
use Rattle.nodes.proofs.Emptiness.{empty_some, none_filled}
use Rattle.propagation.specs.Networks.{Settled, dead}
use Rattle.propagation.proofs.Closures.{ends_alive, ends_dead, closure_law}
use Rattle.propagation.proofs.Sweeps.{begin, leave, skip, revise, saves, still, ends}
use Rattle.propagation.proofs.settle.Goals as goal
use Rattle.propagation.proofs.settle.Goals.{then-due+else-emptied, else-due}

pub returns-then-has_empty : goal.returns-then-has_empty
returns-then-has_empty g c =
    let p = g.P.Constraints.network c.args.problem.now in
    let n = c.args.start.words in
    let sane = g.met.P.Constraints.sane c.args.problem.now in
    let fit : Fit n = record { long = search rules; small = λ i. search rules } in
    let e = empty_some c.width-width.result n (sym c.if-has_empty.ensures) in
    let d = ends_dead p sane n n fit (λ o h _. h) (e.0, omega (arith, e.1, c.width-width.ensures.value), e.2) in
    record { value = λ _. d; largest = λ _. closure_law p sane n dead fit d; sane = sane }

pub sweeps-init : goal.sweeps-init
sweeps-init g c =
    let p = g.P.Constraints.network c.args.problem.now in
    let n = c.args.start.words in
    let F : ℕ → Type 0 = (λ w. Filled w n) in
    begin p (g.met.P.Constraints.sane c.args.problem.now) n c.args.moved (search rules) (subst F c.width-width.ensures.value (none_filled _ n (sym c.if-has_empty.ensures)))

pub returns-then-emptied : goal.returns-then-emptied
returns-then-emptied g c =
    let p = g.P.Constraints.network c.args.problem.now in
    let n = c.args.start.words in
    let sane = g.met.P.Constraints.sane c.args.problem.now in
    let fit : Fit n = record { long = search rules; small = λ i. search rules } in
    let lt : c.each.k < p.count = omega (arith, c.count-count.ensures.value) in
    let m = c.each.node.words in
    let b = c.sweeps.node.words in
    let e = empty_some c.width-width.result _ (c.if-emptied.ensures.yes refl) in
    let d = ends_dead p sane n _ fit
    (λ o i u. saves p sane n b m _ _ _ c.each.k _ lt (c.revise-words.ensures.revised lt) c.revise-words.ensures.differ c.each.invariant o (c.sweeps.invariant.keeps o i u) u)
    (e.0, omega (arith, e.1, c.width-width.ensures.value), e.2) in
    record { value = λ _. d; largest = λ _. closure_law p sane n dead fit d; sane = sane }

pub each-preserved : goal.each-preserved
each-preserved g c =
    let p = g.P.Constraints.network c.args.problem.now in
    let n = c.args.start.words in
    let sane = g.met.P.Constraints.sane c.args.problem.now in
    let lt : c.each.k < p.count = omega (arith, c.count-count.ensures.value) in
    let m = c.each.node.words in
    let b = c.sweeps.node.words in
    elim c.if-due.branch [
      | then-due+else-emptied w ↦
          (let r = w.revise-words.ensures.revised lt in
          let f = w.revise-words.ensures.differ in
          let m' = w.revise-words.new.node.words in
          let d = w.revise-words.result in
          let F : ℕ → Type 0 = (λ x. Filled x m') in
          let full : Filled p.width m' = elim (cases_eq d 0) [
            | inl e ↦ still p sane n b m m' _ _ c.each.k d lt r f c.each.invariant e
            | inr ne ↦ subst F c.width-width.ensures.value (none_filled c.width-width.result m' (w.if-emptied.ensures.no refl ne))
          ] in
          let e = w.node-is in let x = w.changed-is in
          rw (e, x) (revise p sane n b m m' _ _ c.each.k d lt r f c.each.invariant full))
      | else-due w ↦
          (let q = w.if-due.ensures refl lt in
          let e = w.node-is in let x = w.changed-is in
          rw (e, x) (skip p sane n b m _ _ c.each.k q c.each.invariant))
    ]

pub returns-then-changed-eq0 : goal.returns-then-changed-eq0
returns-then-changed-eq0 g c =
    let p = g.P.Constraints.network c.args.problem.now in
    let n = c.args.start.words in
    let sane = g.met.P.Constraints.sane c.args.problem.now in
    let fit : Fit n = record { long = search rules; small = λ i. search rules } in
    let F : ℕ → Type 0 = (λ w. Filled w n) in
    let full = subst F c.width-width.ensures.value (none_filled _ n (sym c.if-has_empty.ensures)) in
    let q = leave p sane n c.sweeps.node.words c.each.node.words c.args.moved c.sweeps.moved c.each.changed c.each.k (omega (arith, c.count-count.ensures.value)) c.sweeps.invariant c.each.invariant in
    let z = c.if-changed-eq0.true in
    let e = λ (g : IfSome c.args.moved (λ v. Settled p n v)). ends_alive p sane n c.each.node.words fit q.long (ends p sane n c.each.node.words c.args.moved g full (rw z at q)) q.filled in
    record { value = e; largest = λ g. closure_law p sane n c.each.node.words fit (e g); sane = sane }
