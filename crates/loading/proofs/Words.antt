use Rattle.std.proofs.Common.{◌≡◌, ℕ, ◌+◌, ◌<◌, Bool, true, false, cond, List, [], ◌∷◌, ◌++◌, length, get_or, take, set, Ok, Err, Result, sym, ap, ◌∙◌, add-one, arith, take_all, take-suc, take-suc-set}
use Rattle.space.specs.Meaning.{Meaning, words_now, placed}
use Rattle.space.specs.Laws.{Lawful, NamedByWords}
use Rattle.space.specs.Calls.{Loaded, word_answer}
use Rattle.space.specs.declared.refusal.Refusal.{Refusal}
use Rattle.space.specs.declared.refusal.Refusal.TheVariants.{Word}

-- one more word agrees
set_more : (xs ys : List ℕ) (i : ℕ) → i < length xs → i < length ys → take i xs ≡ take i ys
    → take (i + 1) (set xs i (get_or ys i 0)) ≡ take (i + 1) ys
set_more xs ys i h k e =
    rw (add-one, take-suc-set xs i (get_or ys i 0), take-suc ys i 0) (ap (λ (r : List ℕ). r ++ (get_or ys i 0 ∷ [])) e)

-- a word that was answered is the one at its place
read : (b : Bool) (v w : ℕ) → ◌≡◌ {A = Result ℕ Refusal} (Ok w) (cond b (Ok v) (Err Word)) → w ≡ v
read true v w h = cc
read false v w h = cc

module _ {N C : Type 0} where
  -- a proper node has as many words as the space is wide
  pub wide_now : (m : Meaning N C) {less : C → C → Bool} → Lawful m less → length (words_now m) ≡ m.width
  wide_now m w = w.orderly.wide m.current w.current

  -- one more word of the current node is copied
  pub copy_next : (m : Meaning N C) {less : C → C → Bool} (xs : List ℕ) (i w : ℕ) → Lawful m less → i < m.width → i < length xs
      → take i xs ≡ take i (words_now m) → Ok w ≡ word_answer m i → take (i + 1) (set xs i w) ≡ take (i + 1) (words_now m)
  copy_next m xs i w l h k e a =
      ap (λ (v : ℕ). take (i + 1) (set xs i v)) (read _ _ _ a) ∙ set_more xs (words_now m) i k (omega (arith, wide_now m l, h)) e

  -- one more word of the current node is set
  pub set_next : (m n o : Meaning N C) {less : C → C → Bool} (ys : List ℕ) (i : ℕ) → Lawful n less
      → n ≡ placed m n.current m.held → i < m.width → i < length ys → take i (words_now n) ≡ take i ys
      → (i < n.width → Loaded n i (get_or ys i 0) o)
      → (o ≡ placed m o.current m.held) × (take (i + 1) (words_now o) ≡ take (i + 1) ys)
  set_next m n o ys i w p h k e loads =
      let wide-as : n.width ≡ m.width = ap (λ (x : Meaning N C). x.width) p in
      let l = loads (omega (arith, wide-as, h)) in
      let wide : length (words_now n) ≡ m.width = wide_now n w ∙ wide-as in
      let t = set_more (words_now n) ys i (omega (arith, wide, h)) k e in (
        l.place ∙ ap (λ (x : Meaning N C). placed x o.current x.held) p,
        ap (λ (x : List ℕ). take (i + 1) x) l.words ∙ t,
      )

  -- all words are set: the current node is the one that they name
  pub all_set : (m n : Meaning N C) {less : C → C → Bool} (named : List ℕ → N) (ys : List ℕ) (i : ℕ) → Lawful n less
      → NamedByWords n.tree named → n ≡ placed m n.current m.held → i ≡ m.width
      → take i (words_now n) ≡ take i ys → n ≡ placed m (named (take m.width ys)) m.held
  all_set m n named ys i w only p at e =
      let wide : length (words_now n) ≡ m.width = wide_now n w ∙ ap (λ (x : Meaning N C). x.width) p in
      let all : words_now n ≡ take i ys = sym (take_all i (words_now n) (omega (arith, wide, at))) ∙ e in
      let here : n.current ≡ named (take m.width ys) = sym (only n.current w.current) ∙ ap named all ∙ ap (λ (k : ℕ). named (take k ys)) at in
      p ∙ ap (λ (x : N). placed m x m.held) here
