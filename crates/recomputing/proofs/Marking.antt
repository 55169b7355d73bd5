use Rattle.std.proofs.Common.{◌≡◌, ℕ, ◌<◌, Bool, true, false, cond, ltb, ◌∷◌, length, Ok, Err, Result, is_ok, sym, refl, ap, ◌∙◌, arith}
use lib.Seq.{take-length}
use Rattle.std.proofs.lemmas.Bool.{ltb-true, lt-ltb}
use Rattle.space.specs.declared.refusal.Refusal.{Refusal}
use Rattle.space.specs.Meaning.{Meaning, placed}
use Rattle.space.specs.Laws.{Lawful}
use Rattle.space.specs.Calls.{Marks, done, mark_answer}
use Rattle.space.proofs.Steps.{mark_done}
use Rattle.layers.specs.Moves.{At}
use Rattle.traces.specs.Lines.{Line, held_here, held_if_room, checked_here, checked_if_room, due, top}
use Rattle.recomputing.specs.Paths.{nodes}
use Rattle.recomputing.specs.Agreement.{Agrees}
use Rattle.recomputing.specs.Effects.{checked_below, marked_line}
use Rattle.recomputing.specs.Follow.{descends_more, top_bound, length_nodes}

is_done : (r : Result (Unit {0}) Refusal) → is_ok r ≡ done r
is_done (Ok u) = refl
is_done (Err e) = refl

cond_same : (b : Bool) (l : Line) → cond b l l ≡ l
cond_same true l = refl
cond_same false l = refl

module _ {N C : Type 0} where
  -- the current node is held, with a checkpoint where one is due and there is room
  abbrev pub Holding : Meaning N C → Meaning N C → Line → Line → Type 0
  Holding m n l l' = At m m.current n × Agrees n l' × (nodes n.tree l'.path l'.depths ≡ m.current ∷ nodes m.tree l.path l.depths) × (◌≡◌ {A = ℕ} 32 32) × (l' ≡ marked_line m l)

  few : (m : Meaning N C) (l : Line) → length (nodes m.tree l.path l.depths) < 32 → ltb (length l.depths) 32 ≡ true
  few m l h = lt-ltb (length l.depths) 32 (omega (arith, length_nodes m.tree l.path l.depths))

  agrees_held : (m : Meaning N C) (l : Line) → Agrees m l → Agrees m (held_here l)
  agrees_held m l s = record {
    legal = s.legal;
    here = s.here;
    depths = (omega arith, s.depths);
    checks = descends_more (top l.depths) (length l.path) l.checks s.checks (top_bound (length l.path) l.depths s.depths);
    below = s.below;
  }

  nodes_held : (m : Meaning N C) (l : Line) → Agrees m l → nodes m.tree l.path (length l.path ∷ l.depths) ≡ m.current ∷ nodes m.tree l.path l.depths
  nodes_held m l s = let t = take-length l.path in let y = s.here in rw t (cc)

  agrees_checked : (m : Meaning N C) (l : Line) → Agrees m l → Agrees (placed m m.current (m.current ∷ m.held)) (checked_here (held_here l))
  agrees_checked m l s =
      let t = agrees_held m l s in
      record { legal = s.legal; here = s.here; depths = t.depths; checks = (omega arith, t.checks); below = (let b = s.below in let y = s.here in let t = take-length l.path in rw t (cc)) }

  -- there is room for a checkpoint
  check_room : (m : Meaning N C) (l : Line) {less : C → C → Bool} → Lawful m less → Agrees m l → ltb (length m.held) m.capacity ≡ true → ltb (length l.checks) 32 ≡ true
  check_room m l w s b =
      let r = ltb-true (length m.held) m.capacity b in
      let q : length m.held ≡ length l.checks = ap length s.below ∙ length_nodes m.tree l.path l.checks in
      lt-ltb (length l.checks) 32 (omega (arith, w.capacity))

  -- no checkpoint is due, or there is no room for one
  pub holds_alone : (m n : Meaning N C) (l l' : Line) → Agrees m l → length (nodes m.tree l.path l.depths) < 32 → l' ≡ held_if_room l → n ≡ m → cond (due l) (checked_below m l) l ≡ l → Holding m n l l'
  holds_alone m n l l' s h e f c =
      let g = few m l h in
      rw (f, e, g, c) (refl, agrees_held m l s, nodes_held m l s, refl, refl)

  pub holds_refused : (m n : Meaning N C) (l l' : Line) (r : Result (Unit {0}) Refusal) → Agrees m l → length (nodes m.tree l.path l.depths) < 32 → l' ≡ held_if_room l → Marks m r n → is_ok r ≡ false → Holding m n l l'
  holds_refused m n l l' r s h e k o =
      let b : done (mark_answer m) ≡ false = ap done (sym k.0) ∙ sym (is_done r) ∙ o in
      let c : ltb (length m.held) m.capacity ≡ false = sym (mark_done m) ∙ b in
      holds_alone m n l l' s h e (rw (k.1, b) refl) (rw c (cond_same (due l) l))

  pub holds_checked : (m n : Meaning N C) (l l₁ l' : Line) (r : Result (Unit {0}) Refusal) {less : C → C → Bool} → Lawful m less → Agrees m l → length (nodes m.tree l.path l.depths) < 32 → l₁ ≡ held_if_room l → due l ≡ true → Marks m r n → is_ok r ≡ true → l' ≡ checked_if_room l₁ → Holding m n l l'
  holds_checked m n l l₁ l' r w s h e d k o f =
      let b : done (mark_answer m) ≡ true = ap done (sym k.0) ∙ sym (is_done r) ∙ o in
      let c : ltb (length m.held) m.capacity ≡ true = sym (mark_done m) ∙ b in
      let g = few m l h in
      let q = check_room m l w s c in
      rw (k.1, b, f, e, g, q, d, c) (refl, agrees_checked m l s, nodes_held m l s, refl, refl)
