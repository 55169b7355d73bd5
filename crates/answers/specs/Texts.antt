use Rattle.std.specs.Prelude.{ℕ, zero, suc, length, min, List, [], ◌∷◌, ◌++◌, Some, None, codes, decimal, Option, slice_index}
use Rattle.std.specs.Int.Count.{count_trailing_zeros}
use Rattle.std.specs.Fmt.{signed_decimal}
use Rattle.trees.specs.declared.Status.{Status}
use Rattle.trees.specs.declared.Status.TheVariants.{Failed, Solved, Choice}
use Rattle.answers.specs.declared.Sort.{Sort}
use Rattle.answers.specs.declared.Sort.TheVariants.{Table, Sum}
use Rattle.answers.specs.declared.Price.{Price}
use Rattle.answers.specs.declared.Price.TheVariants.{Pair, Total}
use Rattle.answers.specs.declared.Survey.{Survey}

-- the end of a line
abbrev pub end : List ℕ
end = 10 ∷ []

-- f 0 .. f (k - 1) in decimal, a blank before each
unfoldable pub listed : (ℕ → ℕ) → ℕ → List ℕ
listed f zero = []
listed f (suc k) = listed f k ++ (32 ∷ decimal (f k))

-- all numbers of a list
abbrev pub listed_text : List ℕ → List ℕ
listed_text ns = listed (λ i. slice_index ns i) (length ns)

-- the lowest value of each word of a list
abbrev pub lowest_text : List ℕ → List ℕ
lowest_text ws = listed (λ i. count_trailing_zeros 32 (slice_index ws i)) (length ws)

-- the words of n variables; a node has 32 words
abbrev pub words_text : List ℕ → ℕ → List ℕ
words_text node n = listed (λ i. slice_index node i) (min n 32)

-- the lowest value of each word
abbrev pub values_text : List ℕ → ℕ → List ℕ
values_text node n = listed (λ i. count_trailing_zeros 32 (slice_index node i)) (min n 32)

abbrev pub sort_text : Sort → List ℕ
sort_text Table = codes "table"
sort_text Sum = codes "sum"

-- the sort, the number of variables and the number of constraints
abbrev pub head_text : Sort → ℕ → ℕ → List ℕ
head_text Table n m = codes "table variables " ++ (decimal n ++ (codes " tables " ++ (decimal m ++ end)))
head_text Sum n m = codes "sum variables " ++ (decimal n ++ (codes " sums " ++ (decimal m ++ end)))

abbrev pub root_text : List ℕ → ℕ → List ℕ
root_text node n = codes "root" ++ (words_text node n ++ end)

-- the variable and the value of a choice, or the values of a solution
abbrev pub status_text : List ℕ → ℕ → Status → List ℕ
status_text node n Failed = codes "failed" ++ end
status_text node n Solved = codes "solved" ++ (values_text node n ++ end)
status_text node n (Choice c) = codes "choice " ++ (decimal c.0 ++ (codes " " ++ (decimal c.1 ++ end)))

-- stops and minutes, or a total
abbrev pub amount_text : Price → List ℕ
amount_text (Pair p) = decimal p.0 ++ (codes "/" ++ decimal p.1)
amount_text (Total z) = signed_decimal z

-- the line of a bound
abbrev pub price_text : Price → List ℕ
price_text (Pair p) = codes "bound " ++ (decimal p.0 ++ (codes "/" ++ (decimal p.1 ++ end)))
price_text (Total z) = codes "bound " ++ (signed_decimal z ++ end)

-- no line where there is no bound
abbrev pub bound_text : Option Price → List ℕ
bound_text None = []
bound_text (Some p) = price_text p

abbrev pub survey_text : Survey → List ℕ
survey_text s =
    head_text s.sort s.variables s.constraints
    ++ (root_text s.root.words s.variables ++ (status_text s.root.words s.variables s.status ++ bound_text s.bound))
