use Rattle.std.specs.Prelude.{◌≡◌, ℕ, ◌<◌, ◌≤◌, ◌⊎◌, List, ◌++◌, codes, decimal}
use Rattle.records.specs.Checks.{Fault}
use Rattle.records.specs.declared.refusal.Cause.{Cause}
use Rattle.records.specs.declared.refusal.Cause.TheVariants.{Length, Count, Kind, Zero, Number, Start, Limit, Absent}
use Rattle.records.specs.declared.refusal.Refusal.{Refusal}

-- the number that a cause is known by
abbrev pub number : Cause → ℕ
number Length = 41
number Count = 42
number Kind = 43
number Zero = 44
number Number = 45
number Start = 46
number Limit = 47
number Absent = 48

-- the words of a refusal: the number of its cause, and the record that it names
abbrev pub refused : Refusal → List ℕ
refused e = codes "refused " ++ (decimal (number e.cause) ++ (codes " record " ++ decimal e.«record»))

-- a refusal says the first check that a file fails, and where
abbrev pub Faulty : (List ℕ → ℕ → ℕ) → List ℕ → Refusal → Type 0
Faulty code bs e = Fault code bs (number e.cause) e.«record»

-- number k was asked for, and there are n
abbrev pub Missing : Refusal → ℕ → ℕ → Type 0
Missing e k n = (e.cause ≡ Absent) × (e.«record» ≡ k) × (n ≤ k)

-- numbers i of n and j of m were asked for, and the first that is not there is named
abbrev pub MissingOf : Refusal → ℕ → ℕ → ℕ → ℕ → Type 0
MissingOf e i n j m = Missing e i n ⊎ ((i < n) × Missing e j m)
