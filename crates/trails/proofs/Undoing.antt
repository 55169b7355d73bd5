use Rattle.std.proofs.Common.{◌≡◌, ℕ, suc, ◌≤◌, Bool, true, false, cond, eqb, List, [], ◌∷◌, length, set, Some, None, sym, refl, ap, ◌∙◌, inl, inr, arith, length-set, set-set}
use lib.Seq.{set_comm, set_out}
use Rattle.std.proofs.lemmas.Bool.{cases_eq, cases_Bool, cases_lt, ne_eqb, lt-ltb, le-ltb}
use Rattle.trails.specs.declared.entry.Entry.{Entry}
use Rattle.trails.specs.Entries.{recorded, added, noted, noted_all, newest_entry, popped, undone, before}

rest_recorded : (b c : Bool) → cond b true c ≡ true → b ≡ false → c ≡ true
rest_recorded true c h k = cc
rest_recorded false c h k = h

-- a word that has an entry may be anything
recorded_any : (s : List Entry) (i w : ℕ) (ws : List ℕ) → recorded s i ≡ true → undone s (set ws i w) ≡ undone s ws
recorded_any [] i w ws h = cc
recorded_any (e ∷ s) i w ws h = elim (cases_eq e.word i) [
  | inl q ↦ ap (undone s) (ap (λ (j : ℕ). set (set ws j w) e.word e.old) (sym q) ∙ set-set ws e.word w e.old)
  | inr ne ↦ ap (undone s) (set_comm ws i e.word w e.old (λ q. ne (sym q)))
      ∙ recorded_any s i w (set ws e.word e.old) (rest_recorded (eqb e.word i) (recorded s i) h (ne_eqb e.word i ne))
]

undone_added : (s : List Entry) (e : Entry) (ws : List ℕ) → undone (added s e) ws ≡ undone s (set ws e.word e.old)
undone_added s e ws = elim (cases_Bool (recorded s e.word)) [
  | inl h ↦ rw h (sym (recorded_any s e.word e.old ws h))
  | inr h ↦ rw h refl
]

-- noting an old value is setting it back before all else
pub before_noted : (ss : List (List Entry)) (e : Entry) (ws : List ℕ) → length ws ≤ 32 → before (noted ss e) ws ≡ before ss (set ws e.word e.old)
before_noted [] e ws h = refl
before_noted (s ∷ ss) e ws h = elim (cases_lt e.word 32) [
  | inl l ↦ let t = lt-ltb e.word 32 l in rw t (ap (λ (x : List ℕ). x ∷ before ss x) (undone_added s e ws))
  | inr g ↦ let t = le-ltb e.word 32 g in rw t (ap (λ (x : List ℕ). undone s x ∷ before ss (undone s x)) (sym (set_out ws e.word e.old (omega arith))))
]

-- the entries of a mark, noted since the mark before, take that one's words as far back
pub before_all : (ss : List (List Entry)) (s : List Entry) (ws : List ℕ) → length ws ≤ 32 → before (noted_all ss s) ws ≡ before ss (undone s ws)
before_all ss [] ws h = refl
before_all ss (e ∷ s) ws h =
    before_noted (noted_all ss s) e ws h
    ∙ before_all ss s (set ws e.word e.old) (omega (arith, length-set ws e.word e.old))

none_some : (e : Entry) → Some e ≡ None → ⊥
none_some e h = let z : ◌≡◌ {A = ℕ} 0 1 = cc in omega arith

some_is : (e d : Entry) → Some e ≡ Some d → e ≡ d
some_is e d h = cc

-- putting the newest entry back leaves what the marks say
pub before_popped : (ss : List (List Entry)) (e : Entry) (ws : List ℕ) → Some e ≡ newest_entry ss
    → before (popped ss) (set ws e.word e.old) ≡ before ss ws
before_popped [] e ws h = absurd (none_some e h)
before_popped ([] ∷ ss) e ws h = absurd (none_some e h)
before_popped ((d ∷ s) ∷ ss) e ws h = ap (λ (x : Entry). before (s ∷ ss) (set ws x.word x.old)) (some_is e d h)

pub length_before : (ss : List (List Entry)) (ws : List ℕ) → length (before ss ws) ≡ length ss
length_before [] ws = refl
length_before (s ∷ ss) ws = ap suc (length_before ss (undone s ws))
