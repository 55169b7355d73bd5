use Rattle.std.proofs.Common.{◌≡◌, ℕ, ◌<◌, ◌≤◌, Bool, ltb, [], ◌∷◌, ◌++◌, length, sym, refl, ap, ◌∙◌, arith, length-append}
use Rattle.std.proofs.lemmas.Bool.{lt-ltb, cond-true}
use Rattle.trees.specs.Trees.{Chooses}
use Rattle.space.specs.Meaning.{Meaning, moved}
use Rattle.space.specs.Laws.{Lawful}
use Rattle.layers.specs.Moves.{Stepped}
use Rattle.traces.specs.Lines.{Line, stepped, stepped_if_room, top}
use Rattle.recomputing.specs.Paths.{nodes}
use Rattle.recomputing.specs.Agreement.{Agrees}
use Rattle.recomputing.specs.Follow.{follow_snoc, legal_snoc, rest_bound, nodes_more, descends_more, top_bound}

module _ {N C : Type 0} where
  -- the path has room for a step from a choice node
  room : (m : Meaning N C) (l : Line) (a : ℕ) {less : C → C → Bool} → Lawful m less → Agrees m l → Chooses m.tree m.current → a ≤ 1 → length l.path < 992
  room m l a w s h k =
      let b = rest_bound m.tree w.orderly m.tree.root l.path w.orderly.root_proper s.legal in
      let f = w.orderly.rest_falls m.current a w.current h k in
      let e = ap m.tree.rest s.here in
      omega (arith, w.orderly.rest_most m.tree.root w.orderly.root_proper)

  agrees_step : (m : Meaning N C) (l : Line) (a : ℕ) → Agrees m l → Chooses m.tree m.current → a ≤ 1 → Agrees (moved m a) (stepped l a)
  agrees_step m l a s h k = record {
    legal = legal_snoc m.tree m.tree.root l.path a s.legal (rw s.here at h) k;
    here = ap (λ (n : N). m.tree.step n a) s.here ∙ sym (follow_snoc m.tree m.tree.root l.path a);
    depths = descends_more (length l.path) (length (l.path ++ (a ∷ []))) l.depths s.depths (omega (arith, length-append l.path (a ∷ [])));
    checks = s.checks;
    below = s.below ∙ sym (nodes_more m.tree l.path (a ∷ []) (top l.depths) l.checks s.checks (top_bound (length l.path) l.depths s.depths));
  }

  agrees_same : (m n : Meaning N C) (l : Line) → Agrees m l → n.tree ≡ m.tree → n.current ≡ m.current → n.held ≡ m.held → Agrees n l
  agrees_same m n l s e f h = record {
    legal = rw e s.legal;
    here = rw (f, e) s.here;
    depths = s.depths;
    checks = s.checks;
    below = rw (h, e) s.below;
  }

  -- a step below that the path has noted
  pub follows : (m n : Meaning N C) (l l' : Line) (a : ℕ) {less : C → C → Bool} → Lawful m less → Agrees m l → Stepped m a n → l' ≡ stepped_if_room l a → Agrees n l' × (nodes n.tree l'.path l'.depths ≡ nodes m.tree l.path l.depths) × (◌≡◌ {A = ℕ} 32 32) × (l' ≡ stepped l a)
  follows m n l l' a w s k e =
      let r = room m l a w s k.choice k.alternative in
      let g = e ∙ cond-true (ltb (length l.path) 992) (stepped l a) l (lt-ltb (length l.path) 992 r) in
      let t = agrees_same (moved m a) n (stepped l a) (agrees_step m l a s k.choice k.alternative) k.tree k.current k.held in
      let q = nodes_more m.tree l.path (a ∷ []) (length l.path) l.depths s.depths (omega arith) in
      rw g (t, rw k.tree q, refl, refl)
