use Rattle.std.specs.Prelude.{◌≡◌, ℕ, zero, suc, ◌+◌, ◌<◌, ◌≤◌, Bool, true, List, [], ◌∷◌, ◌++◌, length, take, drop, slice_index, refl}
use Rattle.std.proofs.Common.{sym, ap, ◌∙◌, add-one, arith, take-append-drop, take-suc, length-take-le}
use Rattle.std.proofs.lemmas.List.{take-append-le}
use Rattle.trees.specs.Trees.{Tree, Chooses, Orderly}
use Rattle.space.specs.Meaning.{Meaning}
use Rattle.space.specs.Laws.{AllProper, Lawful}
use Rattle.space.specs.Layers.{layered}
use Rattle.layers.specs.Moves.{Keeps}
use Rattle.layers.specs.Laws as laws
use Rattle.traces.specs.Lines.{Line, top}
use Rattle.recomputing.specs.Agreement.{Agrees}
use Rattle.recomputing.specs.Paths.{follow, Legal, nodes, Descends}

pub descends_more : (b b' : ℕ) (ds : List ℕ) → Descends b ds → b ≤ b' → Descends b' ds
descends_more b b' [] d h = tt
descends_more b b' (x ∷ ds) d h = (omega (arith, d.0), d.1)

pub top_bound : (b : ℕ) (ds : List ℕ) → Descends b ds → top ds ≤ b
top_bound b [] d = omega arith
top_bound b (x ∷ ds) d = d.0

module _ {N C : Type 0} where
  pub follow_snoc : (t : Tree N C) (n : N) (p : List ℕ) (a : ℕ) → follow t n (p ++ (a ∷ [])) ≡ t.step (follow t n p) a
  follow_snoc t n [] a = refl
  follow_snoc t n (b ∷ p) a = follow_snoc t (t.step n b) p a

  pub legal_snoc : (t : Tree N C) (n : N) (p : List ℕ) (a : ℕ) → Legal t n p → Chooses t (follow t n p) → a ≤ 1 → Legal t n (p ++ (a ∷ []))
  legal_snoc t n [] a l h k = (h, k, tt)
  legal_snoc t n (b ∷ p) a l h k = (l.0, l.1, legal_snoc t (t.step n b) p a l.2 h k)

  pub legal_take : (t : Tree N C) (n : N) (d : ℕ) (p : List ℕ) → Legal t n p → Legal t n (take d p)
  legal_take t n zero p l = tt
  legal_take t n (suc d) [] l = tt
  legal_take t n (suc d) (b ∷ p) l = (l.0, l.1, legal_take t (t.step n b) d p l.2)

  pub legal_at : (t : Tree N C) (n : N) (k : ℕ) (p : List ℕ) → Legal t n p → k < length p → (Chooses t (follow t n (take k p))) × (slice_index p k ≤ 1)
  legal_at t n k [] l h = let z : ⊥ = omega arith in absurd z
  legal_at t n zero (b ∷ p) l h = (l.0, l.1)
  legal_at t n (suc k) (b ∷ p) l h = legal_at t (t.step n b) k p l.2 (omega arith)

  pub follow_more : (t : Tree N C) (n : N) (k : ℕ) (p : List ℕ) → k < length p → follow t n (take (k + 1) p) ≡ t.step (follow t n (take k p)) (slice_index p k)
  follow_more t n k p h = rw (add-one, take-suc p k 0) (follow_snoc t n (take k p) (slice_index p k))

  pub proper_follow : (t : Tree N C) {less : C → C → Bool} {width : ℕ} → Orderly t less width → (n : N) (p : List ℕ) → t.proper n ≡ true → Legal t n p → t.proper (follow t n p) ≡ true
  proper_follow t w n [] h l = h
  proper_follow t w n (b ∷ p) h l = proper_follow t w (t.step n b) p (w.step_proper n b h l.0 l.1) l.2

  pub proper_nodes : (t : Tree N C) {less : C → C → Bool} {width : ℕ} → Orderly t less width → (p ds : List ℕ) → Legal t t.root p → AllProper t (nodes t p ds)
  proper_nodes t w p [] l = tt
  proper_nodes t w p (d ∷ ds) l = (proper_follow t w t.root (take d p) w.root_proper (legal_take t t.root d p l), proper_nodes t w p ds l)

  pub rest_bound : (t : Tree N C) {less : C → C → Bool} {width : ℕ} → Orderly t less width → (n : N) (p : List ℕ) → t.proper n ≡ true → Legal t n p → t.rest (follow t n p) + length p ≤ t.rest n
  rest_bound t w n [] h l = omega arith
  rest_bound t w n (b ∷ p) h l =
      let i = rest_bound t w (t.step n b) p (w.step_proper n b h l.0 l.1) l.2 in
      let k = w.rest_falls n b h l.0 l.1 in
      omega arith

  -- a longer path has the same nodes at the depths of a shorter one
  pub nodes_more : (t : Tree N C) (p q : List ℕ) (b : ℕ) (ds : List ℕ) → Descends b ds → b ≤ length p → nodes t (p ++ q) ds ≡ nodes t p ds
  nodes_more t p q b [] d h = refl
  nodes_more t p q b (x ∷ ds) d h =
      let e = take-append-le x p q (omega (arith, d.0)) in
      let f = nodes_more t p q x ds d.1 (omega (arith, d.0)) in
      cc

  pub nodes_cut : (t : Tree N C) (p : List ℕ) (b : ℕ) (ds : List ℕ) → Descends b ds → b ≤ length p → nodes t (take b p) ds ≡ nodes t p ds
  nodes_cut t p b ds d h =
      let k : b ≤ length (take b p) = omega (arith, length-take-le b p h) in
      sym (nodes_more t (take b p) (drop b p) b ds d k) ∙ ap (λ (q : List ℕ). nodes t q ds) (take-append-drop b p)

  pub length_nodes : (t : Tree N C) (p ds : List ℕ) → length (nodes t p ds) ≡ length ds
  length_nodes t p [] = refl
  length_nodes t p (d ∷ ds) = ap suc (length_nodes t p ds)

-- the nodes at the held depths are nodes of the tree
pub keeps_nodes : {N C : Type 0} (m : Meaning N C) {less : C → C → Bool} (l : Line) → length l.depths ≤ 32 → Lawful m less → Agrees m l → Keeps m 32 (nodes m.tree l.path l.depths)
keeps_nodes m l few w a = record {
  nodes = proper_nodes m.tree w.orderly l.path l.depths a.legal;
  few = omega arith;
  room = omega (arith, length_nodes m.tree l.path l.depths, few);
}

-- the layer over a lawful space is lawful
pub lawful_over : {N C : Type 0} (m : Meaning N C) {less : C → C → Bool} (l : Line) → length l.depths ≤ 32 → Lawful m less → Agrees m l → Lawful (layered m 32 (nodes m.tree l.path l.depths)) less
lawful_over m l few w a = laws.lawful_over m 32 (nodes m.tree l.path l.depths) w (keeps_nodes m l few w a)
