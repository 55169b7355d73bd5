use Rattle.std.specs.Prelude.{◌≡◌, ℕ, ◌+◌, ◌-◌, ◌*◌, ◌<◌, List, ◌∷◌, length, replicate, slice_index, slice_index_or}
use Rattle.records.specs.Words.{half, word}
use Rattle.records.specs.Checks.{line, count, variables}

-- how many variables a table file has
unfoldable pub variable_count : List ℕ → ℕ
variable_count bs = variables bs (count bs)

-- how many tables follow them
abbrev pub table_count : List ℕ → ℕ
table_count bs = count bs - variable_count bs

-- the start word of variable i
unfoldable pub start_word : List ℕ → ℕ → ℕ
start_word bs i = word (line bs i) 4

-- the stops of value v of variable i
unfoldable pub stops : List ℕ → ℕ → ℕ → ℕ
stops bs i v = half (line bs i) (8 + 4 * v)

-- the minutes of value v of variable i
unfoldable pub minutes : List ℕ → ℕ → ℕ → ℕ
minutes bs i v = half (line bs i) (10 + 4 * v)

-- the variable x of table k
unfoldable pub table_x : List ℕ → ℕ → ℕ
table_x bs k = slice_index (line bs (variable_count bs + k)) 1

-- the variable y of table k
unfoldable pub table_y : List ℕ → ℕ → ℕ
table_y bs k = slice_index (line bs (variable_count bs + k)) 2

-- the word of table k at value a
unfoldable pub table_row : List ℕ → ℕ → ℕ → ℕ
table_row bs k a = word (line bs (variable_count bs + k)) (8 + 4 * a)

-- the file of one record: variable 0, with the start word 1, at no cost
abbrev pub plain_table : List ℕ
plain_table = 1 ∷ 0 ∷ 0 ∷ 0 ∷ 1 ∷ replicate 131 0

-- l is the record of variable i, which has a start word
pub record VariableLine (bs : List ℕ) (i : ℕ) (l : List ℕ) : Type 0 where
  pub size : length l ≡ 136
  pub inside : i < variable_count bs
  pub start : word l 4 ≡ start_word bs i
  pub some : start_word bs i ≡ 0 → ⊥
  pub stopping : (v : ℕ) → half l (8 + 4 * v) ≡ stops bs i v
  pub lasting : (v : ℕ) → half l (10 + 4 * v) ≡ minutes bs i v

-- l is the record of table k, which is of two variables
pub record TableLine (bs : List ℕ) (k : ℕ) (l : List ℕ) : Type 0 where
  pub size : length l ≡ 136
  pub inside : k < table_count bs
  pub x : slice_index_or l 1 0 ≡ table_x bs k
  pub y : slice_index_or l 2 0 ≡ table_y bs k
  pub x_low : table_x bs k < variable_count bs
  pub y_low : table_y bs k < variable_count bs
  pub apart : table_x bs k ≡ table_y bs k → ⊥
  pub rows : (a : ℕ) → word l (8 + 4 * a) ≡ table_row bs k a
