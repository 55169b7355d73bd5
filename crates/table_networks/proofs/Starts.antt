use Rattle.std.proofs.Common.{◌≡◌, ℕ, ◌+◌, ◌^◌, ◌<◌, cond, ltb, List, length, get_or, set, replicate, sym, refl, ap, ◌∙◌, inl, inr, arith}
use Rattle.std.proofs.lemmas.List.{ext_get_or, get_or_past, get_or-replicate, get_or-set_same, get_or-set_other, length-set}
use Rattle.std.proofs.lemmas.Bool.{cases_eq, cases_lt, le-ltb, lt-ltb, cond-true, cond-false}
use Rattle.words.specs.Words.{Proper}
use Rattle.propagation.specs.Closing.{words}
use Rattle.propagation.proofs.Closures.{length_words, get_or_words}
use Rattle.records.specs.Tables.{variable_count, start_word}
use Rattle.table_networks.specs.Files.{start_of}

-- the first i of the words are f's, and the others 0
pub record FilledTo (f : ℕ → ℕ) (i : ℕ) (ws : List ℕ) : Type 0 where
  pub long : length ws ≡ 32
  pub word : (j : ℕ) → get_or ws j 0 ≡ cond (ltb j i) (f j) 0
  pub small : (j : ℕ) → get_or ws j 0 < 2 ^ 32

pub none_filled : (f : ℕ → ℕ) → FilledTo f 0 (replicate 32 0)
none_filled f = record { long = refl; word = λ j. zero_at j ∙ sym (cond-false (ltb j 0) (f j) 0 (le-ltb j 0 (omega arith))); small = λ j. omega (arith, zero_at j) }
  where
    zero_at : (j : ℕ) → ◌≡◌ {A = ℕ} (get_or (replicate 32 0) j 0) 0
    zero_at j = elim (cases_lt j 32) [ inl l ↦ get_or-replicate 32 j 0 0 l | inr g ↦ get_or_past (replicate 32 0) j 0 g ]

pub one_more : (f : ℕ → ℕ) (i w : ℕ) (ws : List ℕ) → i < 32 → FilledTo f i ws → w ≡ f i → w < 2 ^ 32 → FilledTo f (i + 1) (set ws i w)
one_more f i w ws l h e s = record { long = length-set ws i w ∙ h.long; word = λ j. word_at j; small = λ j. small_at j }
  where
    below : i < length ws
    below = omega (arith, h.long)

    small_at : (j : ℕ) → get_or (set ws i w) j 0 < 2 ^ 32
    small_at j = elim (cases_eq j i) [
      | inl q ↦ omega (arith, s, ap (λ (k : ℕ). get_or (set ws i w) k 0) q ∙ get_or-set_same ws i w 0 below)
      | inr ne ↦ omega (arith, h.small j, get_or-set_other ws i j w 0 ne)
    ]

    word_at : (j : ℕ) → get_or (set ws i w) j 0 ≡ cond (ltb j (i + 1)) (f j) 0
    word_at j = elim (cases_eq j i) [
      | inl q ↦ ap (λ (k : ℕ). get_or (set ws i w) k 0) q ∙ get_or-set_same ws i w 0 below ∙ e ∙ ap f (sym q) ∙ sym (cond-true (ltb j (i + 1)) (f j) 0 (lt-ltb j (i + 1) (omega arith)))
      | inr ne ↦ get_or-set_other ws i j w 0 ne ∙ h.word j ∙ elim (cases_lt j i) [
        | inl m ↦ cond-true (ltb j i) (f j) 0 (lt-ltb j i m) ∙ sym (cond-true (ltb j (i + 1)) (f j) 0 (lt-ltb j (i + 1) (omega arith)))
        | inr g ↦ cond-false (ltb j i) (f j) 0 (le-ltb j i g) ∙ sym (cond-false (ltb j (i + 1)) (f j) 0 (le-ltb j (i + 1) (omega arith)))
      ]
    ]

all_words : (f : ℕ → ℕ) (i : ℕ) (ws : List ℕ) → FilledTo f i ws → ws ≡ words (λ j. cond (ltb j i) (f j) 0) 32 0
all_words f i ws h =
    ext_get_or 0 ws (words (λ j. cond (ltb j i) (f j) 0) 32 0) (h.long ∙ sym (length_words (λ j. cond (ltb j i) (f j) 0) 32 0))
    (λ j l. h.word j ∙ sym (get_or_words (λ j. cond (ltb j i) (f j) 0) 32 0 j (omega (arith, h.long)) ∙ ap (λ (k : ℕ). cond (ltb k i) (f k) 0) (omega arith)))

pub all_filled : (bs : List ℕ) (i : ℕ) (ws : List ℕ) → i ≡ variable_count bs → FilledTo (start_word bs) i ws → ws ≡ start_of bs
unfolding start_of
all_filled bs i ws e h = all_words (start_word bs) i ws h ∙ ap (λ (k : ℕ). words (λ j. cond (ltb j k) (start_word bs j) 0) 32 0) e

pub is_proper : (f : ℕ → ℕ) (i : ℕ) (ws : List ℕ) → FilledTo f i ws → Proper i ws
is_proper f i ws h = record { fit = record { long = h.long; small = h.small }; clear = λ j l. h.word j ∙ cond-false (ltb j i) (f j) 0 (le-ltb j i l) }
