use Rattle.std.proofs.Common.{◌≡◌, ℕ, ◌≤◌, true, false, ltb, List, [], ◌∷◌, length, take, sym, refl, ap, ◌∙◌, arith}
use Rattle.std.proofs.lemmas.Bool.{ltb-true, ltb-false, le-leb, lt-leb}
use Rattle.space.specs.Meaning.{Meaning, placed}
use Rattle.space.specs.Calls.{forgotten}
use Rattle.layers.specs.Moves.{At}
use Rattle.traces.specs.Lines.{Line, rest_of, released, unchecked, stale, top}
use Rattle.recomputing.specs.Paths.{follow, nodes, Descends}
use Rattle.recomputing.specs.Agreement.{Agrees, Loose}
use Rattle.recomputing.specs.Effects.{not_deeper, pruned_line, forgotten_line}
use Rattle.recomputing.specs.Follow.{descends_more, top_bound}

rest_descends : (b : ℕ) (ds : List ℕ) → Descends b ds → Descends b (rest_of ds)
rest_descends b [] d = tt
rest_descends b (x ∷ ds) d = descends_more x b ds d.1 d.0

-- of checkpoints that are all within the depth, all stay
all_stay : (d b : ℕ) (cs : List ℕ) → b ≤ d → Descends b cs → not_deeper d cs ≡ cs
all_stay d b [] h w = refl
all_stay d b (c ∷ cs) h w =
    let e = le-leb c d (omega (arith, w.0)) in
    let f = all_stay d c cs (omega (arith, w.0)) w.1 in
    rw (e, f) refl

deeper_goes : (d c : ℕ) (cs : List ℕ) → ltb d c ≡ true → not_deeper d cs ≡ not_deeper d (c ∷ cs)
deeper_goes d c cs h = let e = lt-leb c d (ltb-true d c h) in rw e refl

pruned_rest : (p ds cs : List ℕ) (g : ℕ) → true ≡ stale (record { path = p; depths = ds; checks = cs; gap = g }) → pruned_line (unchecked (record { path = p; depths = ds; checks = cs; gap = g })) ≡ pruned_line (record { path = p; depths = ds; checks = cs; gap = g })
pruned_rest p ds [] g h = refl
pruned_rest p [] (c ∷ cs) g h = refl
pruned_rest p (d ∷ ds) (c ∷ cs) g h = ap (λ (xs : List ℕ). record { path = p; depths = d ∷ ds; checks = xs; gap = g }) (deeper_goes d c cs (sym h))

pruned_all : (p ds cs : List ℕ) (g : ℕ) → Descends (length p) cs → false ≡ stale (record { path = p; depths = ds; checks = cs; gap = g }) → ◌≡◌ {A = Line} (record { path = p; depths = ds; checks = cs; gap = g }) (pruned_line (record { path = p; depths = ds; checks = cs; gap = g }))
pruned_all p [] [] g w h = refl
pruned_all p (d ∷ ds) [] g w h = refl
pruned_all p [] (c ∷ cs) g w h = let z : ◌≡◌ {A = ℕ} 0 1 = cc in let y : ⊥ = omega arith in absurd y
pruned_all p (d ∷ ds) (c ∷ cs) g w h = ap (λ (xs : List ℕ). record { path = p; depths = d ∷ ds; checks = xs; gap = g }) (sym (all_stay d d (c ∷ cs) (omega arith) (ltb-false d c (sym h), w.1)))

module _ {N C : Type 0} where
  forgotten_cons : (m : Meaning N C) (x : N) (h : List N) → m.held ≡ x ∷ h → forgotten m ≡ placed m m.current h
  forgotten_cons m x h e = rw e refl

  -- one turn of dropping checkpoints
  pruned : (m n : Meaning N C) (p ds cs : List ℕ) (g : ℕ) (l' : Line) → Loose m (record { path = p; depths = ds; checks = cs; gap = g }) → true ≡ stale (record { path = p; depths = ds; checks = cs; gap = g }) → n ≡ forgotten m → l' ≡ unchecked (record { path = p; depths = ds; checks = cs; gap = g }) → At m m.current n × Loose n l'
  pruned m n p ds [] g l' w h e f = let z : ◌≡◌ {A = ℕ} 0 1 = cc in let y : ⊥ = omega arith in absurd y
  pruned m n p ds (x ∷ cs) g l' w h e f =
      let k = forgotten_cons m (follow m.tree m.tree.root (take x p)) (nodes m.tree p cs) w.below in
      rw (e, k, f) (refl, record { legal = w.legal; here = w.here; depths = w.depths; checks = descends_more x (length p) cs w.checks.1 w.checks.0; below = refl })

  still : (m n k : Meaning N C) → At m m.current n → At n n.current k → At m m.current k
  still m n k e f = f ∙ ap (λ (z : Meaning N C). placed z z.current k.held) e

  -- so far some of the deeper checkpoints are dropped
  abbrev pub Dropping : Meaning N C → Meaning N C → Line → Line → Type 0
  Dropping m n l l' = At m m.current n × Loose n l' × (pruned_line l' ≡ pruned_line l)

  pub pruned_once : (m n k : Meaning N C) (l l₁ l₂ : Line) → Dropping m n l l₁ → true ≡ stale l₁ → k ≡ forgotten n → l₂ ≡ unchecked l₁ → Dropping m k l l₂
  pruned_once m n k l l₁ l₂ i h e f =
      let t = pruned n k l₁.path l₁.depths l₁.checks l₁.gap l₂ i.1 h e f in
      (still m n k i.0 t.0, t.1, ap pruned_line f ∙ pruned_rest l₁.path l₁.depths l₁.checks l₁.gap h ∙ i.2)

  tight : (m : Meaning N C) (p ds cs : List ℕ) (g : ℕ) → Loose m (record { path = p; depths = ds; checks = cs; gap = g }) → false ≡ stale (record { path = p; depths = ds; checks = cs; gap = g }) → Agrees m (record { path = p; depths = ds; checks = cs; gap = g })
  tight m p ds [] g w h = record { legal = w.legal; here = w.here; depths = w.depths; checks = tt; below = w.below }
  tight m p [] (x ∷ cs) g w h = let z : ◌≡◌ {A = ℕ} 0 1 = cc in let y : ⊥ = omega arith in absurd y
  tight m p (d ∷ ds) (x ∷ cs) g w h = record { legal = w.legal; here = w.here; depths = w.depths; checks = (ltb-false d x (sym h), w.checks.1); below = w.below }

  -- when none is deeper, the layer and the space agree again
  pub pruned_out : (m n : Meaning N C) (l l' : Line) → Dropping m n l l' → false ≡ stale l' → At m m.current n × Agrees n l' × (l' ≡ pruned_line l)
  pruned_out m n l l' i h = (i.0, tight n l'.path l'.depths l'.checks l'.gap i.1 h, pruned_all l'.path l'.depths l'.checks l'.gap i.1.checks h ∙ i.2)

  pub loosened : (m : Meaning N C) (l l' : Line) → Agrees m l → l' ≡ released l → Loose m l'
  loosened m l l' s e = rw e record { legal = s.legal; here = s.here; depths = rest_descends (length l.path) l.depths s.depths; checks = descends_more (top l.depths) (length l.path) l.checks s.checks (top_bound (length l.path) l.depths s.depths); below = s.below }

  older_nodes : (m : Meaning N C) (p ds cs : List ℕ) (g : ℕ) (x : N) (older : List N) → nodes m.tree p ds ≡ x ∷ older → (nodes m.tree p (rest_of ds) ≡ older) × (pruned_line (released (record { path = p; depths = ds; checks = cs; gap = g })) ≡ forgotten_line (record { path = p; depths = ds; checks = cs; gap = g }))
  older_nodes m p [] cs g x older h = let e = ap length h in let z : ⊥ = omega arith in absurd z
  older_nodes m p (d ∷ ds) cs g x older h = (cc, refl)

  -- the newest held node is off, and so are the checkpoints that are deeper than the next
  pub forgets : (m n : Meaning N C) (l l₁ l' : Line) (x : N) (older : List N) → Agrees m l → nodes m.tree l.path l.depths ≡ x ∷ older → l₁ ≡ released l → (Loose m l₁ → At m m.current n × Agrees n l' × (l' ≡ pruned_line l₁))
      → At m m.current n × Agrees n l' × (nodes n.tree l'.path l'.depths ≡ older) × (◌≡◌ {A = ℕ} 32 32) × (l' ≡ forgotten_line l)
  forgets m n l l₁ l' x older s h e f =
      let p = f (loosened m l l₁ s e) in
      let o = older_nodes m l.path l.depths l.checks l.gap x older h in
      let k = p.2 ∙ ap pruned_line e in
      let t : n.tree ≡ m.tree = ap (λ (z : Meaning N C). z.tree) p.0 in
      let q : nodes n.tree l'.path l'.depths ≡ older = rw (k, t) (o.0) in
      (p.0, p.1, q, refl, k ∙ o.1)
