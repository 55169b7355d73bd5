use Rattle.std.specs.Prelude.{◌≡◌, ℕ, zero, suc, ◌+◌, ◌*◌, ◌/◌, ◌%◌, ◌<◌, Bool, true, cond, not, ◌&&◌, ◌||◌, ◌⊎◌, List, [], ◌∷◌, length, take, drop, ℤ, pos, neg_ℤ, ◌==◌, int_le, nat_le, nat_lt, slice_index}
use Rattle.records.specs.Words.{word, signed}

-- record k of a file
abbrev pub line : List ℕ → ℕ → List ℕ
line bs k = take 136 (drop (136 * k) bs)

-- how many whole records a file has
abbrev pub count : List ℕ → ℕ
count bs = length bs / 136

-- the first byte says that the file is a sum file
abbrev pub sum_file : List ℕ → Bool
sum_file bs = slice_index bs 0 == 3

-- the number of the first check of the whole file that fails, or 0
abbrev pub whole_code : List ℕ → ℕ
whole_code bs =
    cond (length bs % 136 == 0)
    (cond (count bs == 0 || nat_lt (cond (sum_file bs) 65 400) (count bs)) 42 0) 41

-- all bytes of a list are 0
abbrev pub zeros : List ℕ → Bool
zeros [] = true
zeros (x ∷ xs) = x == 0 && zeros xs

-- a number is from -n to n
abbrev pub within : ℤ → ℕ → Bool
within z n = int_le (neg_ℤ (pos n)) z && int_le z (pos n)

-- the first n coefficients of a record are within ±1,000,000
unfoldable pub limited : List ℕ → ℕ → Bool
limited l zero = true
limited l (suc i) = within (signed l (8 + 4 * i)) 1000000 && limited l i

-- a record of kind 1 at place k, after v variables: the number of the first check that fails, or 0
abbrev pub variable_code : List ℕ → ℕ → ℕ → ℕ
variable_code l k v =
    cond (v == k && nat_lt k 32)
    (cond (slice_index l 2 == 0 && slice_index l 3 == 0)
    (cond (slice_index l 1 == k)
    (cond (word l 4 == 0) 46 0) 45) 44) 43

-- a record of kind 2 at place k, after v variables. Bytes 4 to 7 are all 0 just where their word is
abbrev pub pair_code : List ℕ → ℕ → ℕ → ℕ
pair_code l k v =
    cond (nat_lt 0 k)
    (cond (slice_index l 3 == 0 && word l 4 == 0)
    (cond (nat_lt (slice_index l 1) v && (nat_lt (slice_index l 2) v && not (slice_index l 1 == slice_index l 2))) 0 45) 44) 43

-- any record of a table file
abbrev pub table_line_code : List ℕ → ℕ → ℕ → ℕ
table_line_code l k v =
    cond (slice_index l 0 == 1) (variable_code l k v) (cond (slice_index l 0 == 2) (pair_code l k v) 43)

-- how many of the first k records are variables
unfoldable pub variables : List ℕ → ℕ → ℕ
variables bs zero = 0
variables bs (suc k) = variables bs k + cond (slice_index (line bs k) 0 == 1) 1 0

-- record k to the reader of table files
unfoldable pub table_code : List ℕ → ℕ → ℕ
table_code bs k = table_line_code (line bs k) k (variables bs k)

-- a record of kind 3 that has n in byte 1
abbrev pub objective_code : List ℕ → ℕ → ℕ
objective_code l n =
    cond ((slice_index l 2 == 0 && slice_index l 3 == 0) && (word l 4 == 0 && zeros (drop (8 + 4 * n) l)))
    (cond (nat_lt 0 n && nat_le n 32)
    (cond (limited l 32) 0 47) 45) 44

-- a record of kind 4 in a file of n variables
abbrev pub bound_code : List ℕ → ℕ → ℕ
bound_code l n =
    cond ((slice_index l 1 == 0 && slice_index l 2 == 0) && (slice_index l 3 == 0 && zeros (drop (8 + 4 * n) l)))
    (cond (limited l 32 && within (signed l 4) 40000000) 0 47) 44

-- any record of a sum file, at place k: the objective stands at place 0, and a sum at any other
abbrev pub sum_line_code : List ℕ → ℕ → ℕ → ℕ
sum_line_code l k n =
    cond (k == 0)
    (cond (slice_index l 0 == 3) (objective_code l n) 43)
    (cond (slice_index l 0 == 4) (bound_code l n) 43)

-- n of a sum file: byte 1 of its first record
unfoldable pub sum_width : List ℕ → ℕ
sum_width bs = slice_index (line bs 0) 1

-- record k to the reader of sum files
unfoldable pub sum_code : List ℕ → ℕ → ℕ
sum_code bs k = sum_line_code (line bs k) k (sum_width bs)

-- a file that passes all checks, those of a record being `code`
abbrev pub Lawful : (List ℕ → ℕ → ℕ) → List ℕ → Type 0
Lawful code bs = (whole_code bs ≡ 0) × ((k : ℕ) → k < count bs → code bs k ≡ 0)

abbrev pub LawfulTable : List ℕ → Type 0
LawfulTable bs = Lawful table_code bs

abbrev pub LawfulSum : List ℕ → Type 0
LawfulSum bs = Lawful sum_code bs

-- the file fails the check with this number as a whole
pub record Unwhole (bs : List ℕ) (number place : ℕ) : Type 0 where
  pub here : whole_code bs ≡ number
  pub named : place ≡ count bs
  pub fails : 0 < number

-- the first check that the file fails is the one with this number, at the record of this place
pub record Spoilt (code : List ℕ → ℕ → ℕ) (bs : List ℕ) (number place : ℕ) : Type 0 where
  pub whole : whole_code bs ≡ 0
  pub inside : place < count bs
  pub before : (k : ℕ) → k < place → code bs k ≡ 0
  pub here : code bs place ≡ number
  pub fails : 0 < number

-- the first check that fails, by its number and the record that it names
abbrev pub Fault : (List ℕ → ℕ → ℕ) → List ℕ → ℕ → ℕ → Type 0
Fault code bs number place = Unwhole bs number place ⊎ Spoilt code bs number place
