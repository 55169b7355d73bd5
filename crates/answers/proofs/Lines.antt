use Rattle.std.proofs.Common.{None, Some, append-nil, ◌≡◌, ℕ, zero, suc, ◌+◌, ◌^◌, ◌<◌, List, ◌∷◌, ◌++◌, take, min, length, slice_index, decimal, codes, refl, ◌∙◌, ap, append_assoc, add-one, arith}
use lib.Count.{count_trailing_zeros}
use Rattle.words.specs.Words.{Lowest}
use Rattle.words.proofs.Bit.{is_lowest}
use Rattle.nodes.proofs.Chosen.{lowest_same}
use Rattle.std.proofs.lemmas.List.{length-take-le, get_or-take}
use Rattle.std.proofs.lemmas.Grind.{put_three, put_four}
use Rattle.std.proofs.Output.{has_written_of_eq}
use Rattle.std.specs.Fmt.{HasWritten}
use Rattle.std.specs.declared.fmt.Formatter.{Formatter}
use Rattle.answers.specs.declared.Price.{Price}
use Rattle.answers.specs.declared.Price.TheVariants.{Pair, Total}
use Rattle.answers.specs.declared.Sort.{Sort}
use Rattle.answers.specs.declared.Sort.TheVariants.{Table, Sum}
use Rattle.answers.specs.declared.Survey.{Survey}
use Rattle.answers.specs.Texts.{amount_text, end, head_text, listed, listed_text, price_text, root_text, sort_text, status_text, survey_text, words_text}

-- one more number is listed
pub listed_more : (f : ℕ → ℕ) (i n : ℕ) → n ≡ f i → listed f i ++ (32 ∷ decimal n) ≡ listed f (i + 1)
unfolding listed
listed_more f i n e = rw (e, add-one) refl

listed_same : (f g : ℕ → ℕ) (k : ℕ) → ((i : ℕ) → i < k → f i ≡ g i) → listed f k ≡ listed g k
unfolding listed
listed_same f g zero same = refl
listed_same f g (suc k) same = rw (listed_same f g k (λ i l. same i (omega (l, arith))), same k (omega arith)) refl

-- the first words of a list, alone
pub first_listed : (f : ℕ → ℕ) (ws : List ℕ) (n m : ℕ) → length ws ≡ 32 → m ≡ min n 32 → listed (λ i. f (slice_index (take m ws) i)) (length (take m ws)) ≡ listed (λ i. f (slice_index ws i)) (min n 32)
first_listed f ws n m e same =
    ap (listed (λ i. f (slice_index (take m ws) i))) (length-take-le m ws (omega (e, same, arith)) ∙ same)
    ∙ listed_same _ _ (min n 32) (λ i l. ap f (get_or-take m ws i 0 (omega (l, same, arith))))

-- the lowest value of a word, 32 for none, is what it is computed as
pub lowest_is : (w r : ℕ) → w < 2 ^ 32 → ((w ≡ 0 → ⊥) → Lowest w r) → (w ≡ 0 → r ≡ 32) → r ≡ count_trailing_zeros 32 w
unfolding count_trailing_zeros
lowest_is zero r l some none = none refl
lowest_is (suc w) r l some none = let n : suc w ≡ 0 → ⊥ = λ e. omega arith in lowest_same (suc w) r (count_trailing_zeros 32 (suc w)) (some n) (is_lowest (suc w) n l)

-- the sort is written twice in the first line
pub head_line : (s : Sort) (n m : ℕ) → sort_text s ++ (codes " variables " ++ (decimal n ++ (codes " " ++ (sort_text s ++ (codes "s " ++ (decimal m ++ end)))))) ≡ head_text s n m
head_line Table n m = refl
head_line Sum n m = refl

pub bound_line : (p : Price) → codes "bound " ++ (amount_text p ++ end) ≡ price_text p
bound_line (Pair p) = ap (λ (l : List ℕ). codes "bound " ++ l) (append_assoc (decimal p.0) (codes "/" ++ decimal p.1) end)
bound_line (Total z) = refl

-- the lines of a survey that has a bound, written one after the other, and of one that has none
module _ {W : Type 0} (took : W → List ℕ → W → Type 0) (f g h i : Formatter W) (s : Survey) (shown : List ℕ) (words : listed_text shown ≡ words_text s.root.words s.variables)
    (head : HasWritten took f (sort_text s.sort ++ (codes " variables " ++ (decimal s.variables ++ (codes " " ++ (sort_text s.sort ++ (codes "s " ++ (decimal s.constraints ++ end))))))) g)
    (root : HasWritten took g (codes "root" ++ (listed_text shown ++ end)) h)
    (status : HasWritten took h (status_text s.root.words s.variables s.status) i) where
  root_line : codes "root" ++ (listed_text shown ++ end) ≡ root_text s.root.words s.variables
  root_line = ap (λ (l : List ℕ). codes "root" ++ (l ++ end)) words

  pub written_without : s.bound ≡ None → HasWritten took f (survey_text s) i
  written_without none = put_three took f g h i (head_text s.sort s.variables s.constraints) (root_text s.root.words s.variables) (status_text s.root.words s.variables s.status) (survey_text s)
      (has_written_of_eq took f _ _ g (head_line s.sort s.variables s.constraints) head)
      (has_written_of_eq took g _ _ h root_line root)
      status
      (rw (none, append-nil) refl)

  pub written_with : (p : Price) (j : Formatter W) → s.bound ≡ Some p → HasWritten took i (codes "bound " ++ (amount_text p ++ end)) j → HasWritten took f (survey_text s) j
  written_with p j some bound = put_four took f g h i j (head_text s.sort s.variables s.constraints) (root_text s.root.words s.variables) (status_text s.root.words s.variables s.status) (price_text p) (survey_text s)
      (has_written_of_eq took f _ _ g (head_line s.sort s.variables s.constraints) head)
      (has_written_of_eq took g _ _ h root_line root)
      status
      (has_written_of_eq took i _ _ j (bound_line p) bound)
      (rw some refl)
