use Rattle.std.proofs.Common.{◌≡◌, ℕ, ◌+◌, ◌<◌, List, [], ◌∷◌, length, get_or, take, sym, refl, ap, ◌∙◌, arith, length-take-le}
use Rattle.std.proofs.lemmas.Bool.{cond-true}
use Rattle.space.specs.Meaning.{Meaning, placed, moved}
use Rattle.space.specs.Calls.{done, redo_answer, redone}
use Rattle.space.proofs.Steps.{is_chosen, redo_done}
use Rattle.layers.specs.Moves.{At}
use Rattle.traces.specs.Lines.{Line, cut, top}
use Rattle.recomputing.specs.Paths.{follow, nodes, at_depth, Redoable}
use Rattle.recomputing.specs.Agreement.{Agrees, gone_back}
use Rattle.recomputing.specs.Effects.{restored_line}
use Rattle.recomputing.specs.Follow.{follow_more, legal_at, legal_take, nodes_cut, top_bound}

module _ {N C : Type 0} where
  -- one turn of redoing
  pub redone_more : (m n n' : Meaning N C) (p : List ℕ) (from to k a : ℕ) → Redoable m p from to → k < to → n ≡ at_depth m p k → a ≡ get_or p k 0 → n' ≡ redone n a → n' ≡ at_depth m p (k + 1)
  redone_more m n n' p from to k a w h e f z =
      let l = legal_at m.tree m.tree.root k p w.legal (omega (arith, w.within)) in
      let c = is_chosen (m.tree.status (follow m.tree m.tree.root (take k p))) l.0.0 l.0.1 in
      let o = ap done (redo_done (at_depth m p k) (get_or p k 0) c l.1) in
      let y = follow_more m.tree m.tree.root k p (omega (arith, w.within)) in
      rw (z, e, f) (cond-true (done (redo_answer (at_depth m p k) (get_or p k 0))) (moved (at_depth m p k) (get_or p k 0)) (at_depth m p k) o ∙ ap (λ (x : N). placed m x m.held) (sym y))

  -- the newest node held below, or the root, is the node at the deepest checkpoint
  back_none : (m : Meaning N C) → m.held ≡ [] → gone_back m ≡ placed m m.tree.root m.held
  back_none m e = rw e refl

  back_some : (m : Meaning N C) (x : N) (h : List N) → m.held ≡ x ∷ h → gone_back m ≡ placed m x m.held
  back_some m x h e = rw e refl

  back_at : (m : Meaning N C) (p cs : List ℕ) → m.held ≡ nodes m.tree p cs → gone_back m ≡ at_depth m p (top cs)
  back_at m p [] e = back_none m e
  back_at m p (x ∷ cs) e = back_some m _ _ e

  pub redoable : (m n : Meaning N C) (l : Line) (from to : ℕ) → Agrees m l → n ≡ gone_back m → from ≡ top l.checks → to ≡ top l.depths → Redoable n l.path from to
  redoable m n l from to s e f h =
      let b = back_at m l.path l.checks s.below in
      rw (e, b, f, h) record {
        legal = s.legal;
        start = refl;
        order = top_bound (top l.depths) l.checks s.checks;
        within = top_bound (length l.path) l.depths s.depths;
      }

  -- the newest held node is current again, and the path ends there
  abbrev Returned : Meaning N C → Meaning N C → Line → Line → N → List N → Type 0
  Returned m n l l' x older = At m x n × Agrees n l' × (nodes n.tree l'.path l'.depths ≡ x ∷ older) × (◌≡◌ {A = ℕ} 32 32) × (l' ≡ restored_line l)

  returned : (m : Meaning N C) (p ds cs : List ℕ) (g : ℕ) (x : N) (older : List N) → Agrees m (record { path = p; depths = ds; checks = cs; gap = g }) → nodes m.tree p ds ≡ x ∷ older
      → Returned m (at_depth m p (top ds)) (record { path = p; depths = ds; checks = cs; gap = g }) (cut (record { path = p; depths = ds; checks = cs; gap = g }) (top ds)) x older
  returned m p [] cs g x older s h = let e = ap length h in let z : ⊥ = omega arith in absurd z
  returned m p (d ∷ ds) cs g x older s h =
      let e : follow m.tree m.tree.root (take d p) ≡ x = cc in
      let k = length-take-le d p s.depths.0 in
      let q = nodes_cut m.tree p d (d ∷ ds) (omega arith, s.depths.1) s.depths.0 in (
        ap (λ (y : N). placed m y m.held) e,
        record {
          legal = legal_take m.tree m.tree.root d p s.legal;
          here = refl;
          depths = (omega arith, s.depths.1);
          checks = s.checks;
          below = s.below ∙ sym (nodes_cut m.tree p d cs s.checks s.depths.0);
        },
        q ∙ h,
        refl,
        refl,
      )

  -- back at the deepest checkpoint and redone from there
  pub returns : (m b n : Meaning N C) (l l' : Line) (from to : ℕ) (x : N) (older : List N) → Agrees m l → nodes m.tree l.path l.depths ≡ x ∷ older → b ≡ gone_back m → (Redoable b l.path from to → n ≡ at_depth b l.path to)
      → from ≡ top l.checks → to ≡ top l.depths → l' ≡ cut l to → Returned m n l l' x older
  returns m b n l l' from to x older s h e r f g k =
      let a = back_at m l.path l.checks s.below in
      let z = r (redoable m b l from to s e f g) in
      rw (z, e, a, k, g) (returned m l.path l.depths l.checks l.gap x older s h)
