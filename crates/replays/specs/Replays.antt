use Rattle.std.specs.Prelude.{◌≡◌, ℕ, min, true, false, ◌⊎◌, List, ℤ}
use Rattle.std.specs.Fmt.{signed_decimal}
use Rattle.records.specs.Checks.{LawfulSum, LawfulTable, sum_code, sum_file, table_code}
use Rattle.records.specs.Refusals.{Faulty}
use Rattle.records.specs.declared.refusal.Refusal.{Refusal}
use Rattle.propagation.specs.Closing.{closure}
use Rattle.filed.specs.Meaning.{Reading, sum_reading, table_reading}
use Rattle.texts.specs.Texts.{refusal_text}
use Rattle.space.specs.Meaning.{Meaning}
use Rattle.bare.specs.Bares.{bare_meaning, limit}
use Rattle.runs.specs.declared.calls.Call.{Call}
use Rattle.runs.specs.Runs.{replies}
use Rattle.stacks.specs.declared.kinds.Stack.{Stack}
use Rattle.stacks.specs.Stacks.{stack_over}
use Rattle.reply_texts.specs.Replies.{answers_text, pair_text}

-- the bare space of a file, which says what r reads in it, at its root with this allowance
abbrev pub space_by : {C : Type 0} → Reading C → List ℕ → ℕ → Meaning (List ℕ) C
space_by r bs allowance = bare_meaning (r.network bs) (r.start bs) (r.bound bs) (r.cost bs) (closure (r.network bs) (r.start bs)) (min allowance limit)

-- the bare space of a table file, and of a sum file
abbrev pub table_space : List ℕ → ℕ → Meaning (List ℕ) (ℕ × ℕ)
table_space = space_by table_reading

abbrev pub sum_space : List ℕ → ℕ → Meaning (List ℕ) ℤ
sum_space = space_by sum_reading

-- the text is these lines, if the file is lawful, or the line of its fault
abbrev pub Writes : Type 0 → (Refusal → Type 0) → List ℕ → List ℕ → Type 0
Writes lawful faulty lines text = (lawful × (text ≡ lines)) ⊎ ((e : Refusal) × (faulty e × (text ≡ refusal_text e)))

-- What is written of a list of calls on a stack over the bare space of a file: the answers of the stack's plain space,
-- a line each, or why the file is refused.
pub record Replayed (bs : List ℕ) (stack : Stack) (allowance : ℕ) (calls : List Call) (text : List ℕ) : Type 0 where
  pub table : sum_file bs ≡ false → Writes (LawfulTable bs) (Faulty table_code bs) (answers_text pair_text (replies (stack_over stack (table_space bs allowance)) calls)) text
  pub sum : sum_file bs ≡ true → Writes (LawfulSum bs) (Faulty sum_code bs) (answers_text signed_decimal (replies (stack_over stack (sum_space bs allowance)) calls)) text
