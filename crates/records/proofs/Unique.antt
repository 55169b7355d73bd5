use Rattle.std.proofs.Common.{◌≡◌, ℕ, ◌<◌, cond, eqb, List, sym, refl, ap, ◌∙◌, ap₂, inl, inr, arith}
use Rattle.std.proofs.lemmas.Bool.{cases_order}
use Rattle.records.specs.Checks.{Lawful, Fault, Spoilt}
use Rattle.records.specs.Refusals.{number, Faulty}
use Rattle.records.specs.declared.refusal.Cause.{Cause}
use Rattle.records.specs.declared.refusal.Cause.TheVariants.{Length, Count, Kind, Zero, Number, Start, Limit, Absent}
use Rattle.records.specs.declared.refusal.Refusal.{Refusal}

-- a lawful file has no fault
pub no_fault : (code : List ℕ → ℕ → ℕ) (bs : List ℕ) (n p : ℕ) → Lawful code bs → Fault code bs n p → ⊥
no_fault code bs n p h (inl f) = omega (arith, h.0, f.here, f.fails)
no_fault code bs n p h (inr f) = omega (arith, h.1 p f.inside, f.here, f.fails)

same_spoilt : (code : List ℕ → ℕ → ℕ) (bs : List ℕ) (n p m q : ℕ) → Spoilt code bs n p → Spoilt code bs m q → (n ≡ m) × (p ≡ q)
same_spoilt code bs n p m q s t =
    elim (cases_order p q) [
      | inl e ↦ (sym s.here ∙ (ap (code bs) e ∙ t.here), e)
      | inr o ↦ elim o [
        | inl l ↦ absurd (omega (arith, t.before p l, s.here, s.fails))
        | inr l ↦ absurd (omega (arith, s.before q l, t.here, t.fails))
      ]
    ]

-- a file has one fault at most
pub one_fault : (code : List ℕ → ℕ → ℕ) (bs : List ℕ) (n p m q : ℕ) → Fault code bs n p → Fault code bs m q → (n ≡ m) × (p ≡ q)
one_fault code bs n p m q (inl s) (inl t) = (sym s.here ∙ t.here, s.named ∙ sym t.named)
one_fault code bs n p m q (inl s) (inr t) = absurd (omega (arith, s.here, s.fails, t.whole))
one_fault code bs n p m q (inr s) (inl t) = absurd (omega (arith, t.here, t.fails, s.whole))
one_fault code bs n p m q (inr s) (inr t) = same_spoilt code bs n p m q s t

cause_of : ℕ → Cause
cause_of n =
    cond (eqb n 41) Length (cond (eqb n 42) Count (cond (eqb n 43) Kind (cond (eqb n 44) Zero
    (cond (eqb n 45) Number (cond (eqb n 46) Start (cond (eqb n 47) Limit Absent))))))

cause_back : (d : Cause) → cause_of (number d) ≡ d
unfolding cause_of
cause_back Length = refl
cause_back Count = refl
cause_back Kind = refl
cause_back Zero = refl
cause_back Number = refl
cause_back Start = refl
cause_back Limit = refl
cause_back Absent = refl

pub same_cause : (d e : Cause) → number d ≡ number e → d ≡ e
same_cause d e h = sym (cause_back d) ∙ (ap cause_of h ∙ cause_back e)

made : Cause → ℕ → Refusal
made c k = record { cause = c; «record» = k }

pub same_refusal : (d e : Refusal) → d.cause ≡ e.cause → d.«record» ≡ e.«record» → d ≡ e
unfolding made
same_refusal d e h g = ap₂ made h g

-- a file is refused for one cause at one record only
pub one_refusal : (code : List ℕ → ℕ → ℕ) (bs : List ℕ) (d e : Refusal) → Faulty code bs d → Faulty code bs e → d ≡ e
one_refusal code bs d e f g =
    let p = one_fault code bs _ _ _ _ f g in same_refusal d e (same_cause _ _ p.0) p.1

pub number_over : (d : Cause) → 0 < number d
number_over Length = omega arith
number_over Count = omega arith
number_over Kind = omega arith
number_over Zero = omega arith
number_over Number = omega arith
number_over Start = omega arith
number_over Limit = omega arith
number_over Absent = omega arith
