use Rattle.std.specs.Prelude.{ℕ, zero, suc, ◌+◌, ◌-◌, ◌^◌, ◌<◌, Bool, true, false, cond, ◌&&◌, List, [], ◌∷◌, length, take, reverse, Some, None, Option, ◌==◌, bit_xor, nat_le, nat_lt, slice_index_or, slice_set}
use Rattle.words.specs.Words.{bit}
use Rattle.trails.specs.declared.entry.Entry.{Entry}
use Rattle.trails.specs.declared.entry.Mark.{Mark}

-- ---- what a trail means: the entries since each mark, the newest mark first, and of each the newest entry first

-- a word has an entry
abbrev pub recorded : List Entry → ℕ → Bool
recorded [] i = false
recorded (e ∷ s) i = cond (e.word == i) true (recorded s i)

-- an entry more, unless its word has one
abbrev pub added : List Entry → Entry → List Entry
added s e = cond (recorded s e.word) s (e ∷ s)

-- the same since the newest mark, of a word below 32
abbrev pub noted : List (List Entry) → Entry → List (List Entry)
noted [] e = []
noted (s ∷ ss) e = cond (nat_lt e.word 32) (added s e) s ∷ ss

abbrev pub noted_all : List (List Entry) → List Entry → List (List Entry)
noted_all ss [] = ss
noted_all ss (e ∷ s) = noted (noted_all ss s) e

-- a mark more, if there are fewer than 32
abbrev pub marked : List (List Entry) → List (List Entry)
marked ss = cond (nat_lt (length ss) 32) ([] ∷ ss) ss

-- the newest mark is gone, and its entries are noted since the one before
abbrev pub forgotten : List (List Entry) → List (List Entry)
forgotten [] = []
forgotten (s ∷ ss) = noted_all ss s

-- the newest entry since the newest mark, and the rest without it
abbrev pub newest_entry : List (List Entry) → Option Entry
newest_entry [] = None
newest_entry ([] ∷ ss) = None
newest_entry ((e ∷ s) ∷ ss) = Some e

abbrev pub popped : List (List Entry) → List (List Entry)
popped [] = []
popped ([] ∷ ss) = [] ∷ ss
popped ((e ∷ s) ∷ ss) = s ∷ ss

-- an entry's word is below 32
abbrev pub Small : Option Entry → Type 0
Small None = Unit {0}
Small (Some e) = e.word < 32

-- words as they were before the entries
abbrev pub undone : List Entry → List ℕ → List ℕ
undone [] ws = ws
undone (e ∷ s) ws = undone s (slice_set ws e.word e.old)

-- words as they were at each mark
abbrev pub before : List (List Entry) → List ℕ → List (List ℕ)
before [] ws = []
before (s ∷ ss) ws = undone s ws ∷ before ss (undone s ws)

-- ---- the table that keeps it

abbrev pub none : Entry
none = record { word = 0; old = 0 }

-- n entries of a table from a place on, the last first
abbrev pub back : List Entry → ℕ → ℕ → List Entry
back es i zero = []
back es i (suc n) = slice_index_or es (i + n) none ∷ back es i n

-- the entries since each mark
abbrev pub parts : List Entry → List Mark → List (List Entry)
parts es [] = []
parts es (m ∷ ms) = back es m.start m.size ∷ parts es ms

-- all marks but the newest, the last first
abbrev pub older : List Mark → List Mark
older ms = reverse (take (length ms - 1) ms)

-- where the entries end
abbrev pub top : List Mark → ℕ
top [] = 0
top (m ∷ ms) = m.start + m.size

-- the set has the entries' words and no others, and no word has two
abbrev pub exact : ℕ → List Entry → Bool
exact words [] = words == 0
exact words (e ∷ s) = bit words e.word && exact (bit_xor words (2 ^ e.word)) s

-- each mark's entries follow those of the mark before, they are 32 at most, and its set of words is exact
abbrev pub kept : List Entry → List Mark → Bool
kept es [] = true
kept es (m ∷ ms) = m.start == top ms && (nat_le m.size 32 && (exact m.words (back es m.start m.size) && kept es ms))
