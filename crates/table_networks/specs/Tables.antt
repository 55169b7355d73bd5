use Rattle.std.specs.Prelude.{◌≡◌, ℕ, zero, suc, ◌^◌, Bool, true, false, cond, ◌&&◌, ◌||◌, List, ◌==◌, bit_or, nat_lt, slice_index}
use Rattle.words.specs.Words.{bit, has}
use Rattle.propagation.specs.Networks.{Network}

-- A table over the variables x and y: row a is the set of the values of y that value a of x goes with.
pub record Table : Type 0 where
  pub x : ℕ
  pub y : ℕ
  pub row : ℕ → ℕ

-- value a of x goes with value b of y
abbrev pub allows : Table → ℕ → ℕ → Bool
allows t a b = bit (t.row a) b

-- some number below k passes
abbrev pub some : (ℕ → Bool) → ℕ → Bool
some q zero = false
some q (suc k) = q k || some q k

-- A value of x or y is supported if it goes with some value of the other. Every value of another variable is.
abbrev pub table_supports : Table → List ℕ → ℕ → ℕ → Bool
table_supports t n i v =
    cond (i == t.x) (some (λ b. has n t.y b && allows t v b) 32)
    (cond (i == t.y) (some (λ a. has n t.x a && allows t a v) 32) true)

-- assignment a meets a table: its values of x and y, which are below 32, go together
abbrev pub table_meets : Table → List ℕ → Bool
table_meets t a = (nat_lt (slice_index a t.x) 32 && nat_lt (slice_index a t.y) 32) && allows t (slice_index a t.x) (slice_index a t.y)

-- the tables 0 .. count - 1 over the variables 0 .. width - 1
abbrev pub tables_network : ℕ → ℕ → (ℕ → Table) → Network
tables_network width count t = record {
  width = width;
  count = count;
  touches = λ k. bit_or (2 ^ (t k).x) (2 ^ (t k).y);
  supports = λ k. table_supports (t k);
  meets = λ k. table_meets (t k);
}

-- ---- one revision

-- value a of x goes with a value in the word of y, and the other way round
abbrev pub PartnerX : (ℕ → ℕ) → ℕ → ℕ → Type 0
PartnerX row wy a = (b : ℕ) × (bit wy b ≡ true) × (bit (row a) b ≡ true)

abbrev pub PartnerY : (ℕ → ℕ) → ℕ → ℕ → Type 0
PartnerY row wx b = (a : ℕ) × (bit wx a ≡ true) × (bit (row a) b ≡ true)

-- kx and ky are exactly the values of wx and wy that have a partner
pub record Kept (row : ℕ → ℕ) (wx wy kx ky : ℕ) : Type 0 where
  pub x_kept : (a : ℕ) → bit wx a ≡ true → PartnerX row wy a → bit kx a ≡ true
  pub x_only : (a : ℕ) → bit kx a ≡ true → (bit wx a ≡ true) × PartnerX row wy a
  pub y_kept : (b : ℕ) → bit wy b ≡ true → PartnerY row wx b → bit ky b ≡ true
  pub y_only : (b : ℕ) → bit ky b ≡ true → (bit wy b ≡ true) × PartnerY row wx b
