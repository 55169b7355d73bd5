-- What the record that a reading looks at is known to hold.
use Rattle.std.proofs.Common.{◌≡◌, ℕ, ◌+◌, ◌*◌, ◌<◌, List, length, get_or, ap, ◌∙◌, arith}
use Rattle.records.specs.Words.{half, word, signed}
use Rattle.records.specs.Checks.{line, LawfulTable, LawfulSum}
use Rattle.records.specs.Tables.{variable_count, table_count, start_word, stops, minutes, table_x, table_y, table_row, VariableLine, TableLine}
use Rattle.records.specs.Sums.{sum_count, objective_at, coefficient_at, least_at, ObjectiveLine, SumLine}
use Rattle.records.proofs.Facts.{line_size, some_records, variables_below, start_some, x_below, y_below, ends_apart, objective_small, coefficient_small, least_moderate}

start_is : (bs l : List ℕ) (i : ℕ) → l ≡ line bs i → word l 4 ≡ start_word bs i
unfolding start_word
start_is bs l i p = ap (λ (m : List ℕ). word m 4) p

stops_is : (bs l : List ℕ) (i v : ℕ) → l ≡ line bs i → half l (8 + 4 * v) ≡ stops bs i v
unfolding stops
stops_is bs l i v p = ap (λ (m : List ℕ). half m (8 + 4 * v)) p

minutes_is : (bs l : List ℕ) (i v : ℕ) → l ≡ line bs i → half l (10 + 4 * v) ≡ minutes bs i v
unfolding minutes
minutes_is bs l i v p = ap (λ (m : List ℕ). half m (10 + 4 * v)) p

pub variable_line : (bs l : List ℕ) (i : ℕ) → LawfulTable bs → i < variable_count bs → l ≡ line bs i → VariableLine bs i l
variable_line bs l i h b p =
    record {
      size = ap (λ (m : List ℕ). length m) p ∙ line_size bs i (omega (arith, variables_below bs h));
      inside = b;
      start = start_is bs l i p;
      some = start_some bs i h b;
      stopping = λ v. stops_is bs l i v p;
      lasting = λ v. minutes_is bs l i v p;
    }

-- the record of table k, by the number of variables that the view holds
pair_line : (bs l : List ℕ) (n k : ℕ) → n ≡ variable_count bs → l ≡ line bs (n + k) → l ≡ line bs (variable_count bs + k)
pair_line bs l n k e p = p ∙ ap (λ (m : ℕ). line bs (m + k)) e

x_is : (bs l : List ℕ) (k : ℕ) → l ≡ line bs (variable_count bs + k) → get_or l 1 0 ≡ table_x bs k
unfolding table_x
x_is bs l k p = ap (λ (m : List ℕ). get_or m 1 0) p

y_is : (bs l : List ℕ) (k : ℕ) → l ≡ line bs (variable_count bs + k) → get_or l 2 0 ≡ table_y bs k
unfolding table_y
y_is bs l k p = ap (λ (m : List ℕ). get_or m 2 0) p

row_is : (bs l : List ℕ) (k a : ℕ) → l ≡ line bs (variable_count bs + k) → word l (8 + 4 * a) ≡ table_row bs k a
unfolding table_row
row_is bs l k a p = ap (λ (m : List ℕ). word m (8 + 4 * a)) p

pub table_line : (bs l : List ℕ) (n k : ℕ) → LawfulTable bs → n ≡ variable_count bs → k < table_count bs → l ≡ line bs (n + k) → TableLine bs k l
table_line bs l n k h e b p =
    let q = pair_line bs l n k e p in
    record {
      size = ap (λ (m : List ℕ). length m) q ∙ line_size bs (variable_count bs + k) (omega arith);
      inside = b;
      x = x_is bs l k q;
      y = y_is bs l k q;
      x_low = x_below bs k h b;
      y_low = y_below bs k h b;
      apart = ends_apart bs k h b;
      rows = λ a. row_is bs l k a q;
    }

objective_is : (bs l : List ℕ) (i : ℕ) → l ≡ line bs 0 → signed l (8 + 4 * i) ≡ objective_at bs i
unfolding objective_at
objective_is bs l i p = ap (λ (m : List ℕ). signed m (8 + 4 * i)) p

pub objective_line : (bs l : List ℕ) → LawfulSum bs → l ≡ line bs 0 → ObjectiveLine bs l
objective_line bs l h p =
    record { size = ap (λ (m : List ℕ). length m) p ∙ line_size bs 0 (some_records bs h.0); parts = λ i. objective_is bs l i p; small = λ i b. objective_small bs i h b }

coefficient_is : (bs l : List ℕ) (k i : ℕ) → l ≡ line bs (k + 1) → signed l (8 + 4 * i) ≡ coefficient_at bs k i
unfolding coefficient_at
coefficient_is bs l k i p = ap (λ (m : List ℕ). signed m (8 + 4 * i)) p

least_is : (bs l : List ℕ) (k : ℕ) → l ≡ line bs (k + 1) → signed l 4 ≡ least_at bs k
unfolding least_at
least_is bs l k p = ap (λ (m : List ℕ). signed m 4) p

pub sum_line : (bs l : List ℕ) (k : ℕ) → LawfulSum bs → k < sum_count bs → l ≡ line bs (k + 1) → SumLine bs k l
sum_line bs l k h b p =
    record {
      size = ap (λ (m : List ℕ). length m) p ∙ line_size bs (k + 1) (omega arith);
      inside = b;
      least = least_is bs l k p;
      moderate = least_moderate bs k h b;
      parts = λ i. coefficient_is bs l k i p;
      small = λ i c. coefficient_small bs k i h b c;
    }
