use Rattle.std.proofs.Common.{◌≡◌, ℕ, List, length, sym, arith, rules}
use Rattle.nodes.proofs.Emptiness.{empty_some}
use Rattle.nodes.proofs.Chosen.{status_failed, found, all_found}
use Rattle.nodes.proofs.node.Node.status.Goals as goal

pub returns-in_default : goal.returns-in_default
returns-in_default c =
    let e = empty_some c.args.width c.args.self.now.words (search rules) in
    record { value = sym (status_failed c.args.width c.args.self.now.words e); says = e }

pub returns-in-Some-fewest : goal.returns-in-Some-fewest
returns-in-Some-fewest c =
    let ws : List ℕ = c.in-Some.words.now in
    let q = c.in-Some.ensures in
    let end : length ws ≡ c.loop-x.x = omega arith in
    let best = rw c.in-Some-fewest.is at c.loop-x.invariant in
    let r = found c.args.width c.args.self.now.words ws (search rules) q.0 q.1 q.2 _ _ c.lowest.result _ (rw (sym end) at best) c.lowest.ensures.least in
    record { value = r.0; says = r.1 }

pub returns-in-None : goal.returns-in-None
returns-in-None c =
    let ws : List ℕ = c.in-Some.words.now in
    let q = c.in-Some.ensures in
    let end : length ws ≡ c.loop-x.x = omega arith in
    let none = rw c.in-None.is at c.loop-x.invariant in
    let r = all_found c.args.width c.args.self.now.words ws (search rules) q.0 q.1 q.2 (λ j l. none j (omega arith)) in
    record { value = r.0; says = r.1 }
