-- Steps of a reader and the fault that each refuses: a test that is a rule, a step that gives something, and what follows.
--   Refuses r n          the result is refused with the number n
--   Exact r F            exactly where F holds of n
--   ok-not, ok-exactly   a value is not refused
--   require-exactly, require-exactly₂, some-exactly   a step and what follows it
--   given-exactly, then-exactly   a step or what follows
--   after, within        a last step that is not refused; a step within a step
--   only-number          the number of a step that is refused in one way
--   leb-exactly, eqb-exactly, both-exactly            tests that are rules
use Prim.Native.Nat.{ℕ, ◌≤◌}
use mathlib.Core.Path.{◌≡◌, refl, sym, ap, subst, ◌∙◌}
use mathlib.Core.Logic.{◌↔◌, ◌⊎◌, inl, inr, ⊎_elim}
use mathlib.Core.Bool.{Bool, true, false, true≢false, ◌&&◌}
use native.Mathlib.Omega.{arith}
use lib.Dec.{leb, eqb}
use borrow.Author.Tests.{leb-true, le-leb, eqb-true, eq-eqb}
use Rattle.format.specs.declared.Refusal.{Refusal}
use Rattle.format.specs.Refusals.{Outcome, ok, refused, ◌>>=◌, require, refuses, refusal_number, answer_of}
use Rattle.format.proofs.Answers.{refuses-path}
use Rattle.format.proofs.Results.{refused-not, ok-path, Only}
use Rattle.format.proofs.Tests.{and-true}
use Rattle.theorems.specs.Faults.{Unless, UnlessSome, Nothing}

abbrev pub Refuses : {A : Type 0} → Outcome A → ℕ → Type 0
Refuses r n = answer_of r ≡ refuses n

abbrev pub Exact : {A : Type 0} → Outcome A → (ℕ → Type 0) → Type 0
Exact r F = (n : ℕ) → Refuses r n ↔ F n

-- a value is not refused
pub ok-not : {A X : Type 0} {a : A} {n : ℕ} → Refuses (ok a) n → X
ok-not e = let z : ◌≡◌ {A = ℕ} 0 1 = cc in absurd (omega arith)

pub ok-exactly : {A : Type 0} (a : A) → Exact (ok a) Nothing
ok-exactly a n = (λ e. ok-not e, λ h. absurd h)

-- ---- rules

pub leb-exactly : (a b : ℕ) → (leb a b ≡ true) ↔ (a ≤ b)
leb-exactly a b = (leb-true a b, le-leb a b)

pub eqb-exactly : (a b : ℕ) → (eqb a b ≡ true) ↔ (a ≡ b)
eqb-exactly a b = (eqb-true a b, eq-eqb a b)

pub both-exactly : {a b : Bool} {P Q : Type 0} → (a ≡ true) ↔ P → (b ≡ true) ↔ Q → (a && b ≡ true) ↔ (P × Q)
both-exactly {a} {b} p q =
    let parts = and-true a b in (
      λ e. let h = parts.0 e in (p.0 h.0, q.0 h.1),
      λ h. parts.1 (p.1 h.0, q.1 h.1),
    )

-- ---- steps

module _ {B : Type 0} (q : Refusal) (place : ℕ) (kept : Type 0) (later : ℕ → Type 0) where
  -- a result that a test refuses, or that goes on
  pub tested : (t : Bool) (r : Outcome B) → (t ≡ true) ↔ kept → (t ≡ true → Exact r later) → (t ≡ false → r ≡ refused q place)
      → Exact r (Unless kept (refusal_number q) later)
  tested true r h go stop n =
      let y = h.0 refl in (
        λ e. inr (y, (go refl n).0 e),
        ⊎_elim (λ no. absurd (no.0 y)) (λ rest. (go refl n).1 rest.1),
      )
  tested false r h go stop n =
      let is = ap answer_of (stop refl) in (
        λ e. inl (λ y. true≢false (sym (h.1 y)), sym (refuses-path (sym is ∙ e))),
        ⊎_elim (λ no. is ∙ ap refuses (sym no.1)) (λ rest. absurd (true≢false (sym (h.1 rest.0)))),
      )

module _ {B : Type 0} (q : Refusal) (place : ℕ) {kept : Type 0} {later : ℕ → Type 0} where
  pub require-exactly : (t : Bool) (f : Unit {0} → Outcome B) → (t ≡ true) ↔ kept → Exact (f tt) later
      → Exact (require t q place >>= f) (Unless kept (refusal_number q) later)
  require-exactly t f h k = tested q place kept later t (require t q place >>= f) h (λ e. rw e k) (λ e. rw e)

  -- a test within a step
  pub require-exactly₂ : {C : Type 0} (t : Bool) (f : Unit {0} → Outcome C) (g : C → Outcome B) → (t ≡ true) ↔ kept → Exact (f tt >>= g) later
      → Exact ((require t q place >>= f) >>= g) (Unless kept (refusal_number q) later)
  require-exactly₂ t f g h k = tested q place kept later t ((require t q place >>= f) >>= g) h (λ e. rw e k) (λ e. rw e)

-- a step that is refused as q alone, and otherwise gives an x, of which the rule is kept by `part x`
module _ {A B C : Type 0} (q : Refusal) (part : A → B) (Keeps : B → Type 0) (later : B → ℕ → Type 0) where
  pub some-exactly : (a : Outcome A) (f : A → Outcome C) → Only q a
      → ((x : A) → a ≡ ok x → Keeps (part x))
      → ((b : B) → Keeps b → (x : A) × (a ≡ ok x) × (part x ≡ b))
      → ((x : A) → a ≡ ok x → Exact (f x) (later (part x)))
      → Exact (a >>= f) (UnlessSome Keeps (refusal_number q) later)
  some-exactly (ok x) f only to from go n = (
    λ e. inr (part x, to x refl, (go x refl n).0 e),
    ⊎_elim
        (λ no. absurd (no.0 (part x) (to x refl)))
        (λ (b, keeps, rest).
        let (y, is, same) = from b keeps in
        (go x refl n).1 (subst (λ (c : B). later c n) (sym same ∙ ap part (sym (ok-path is))) rest)),
  )
  some-exactly (refused r place) f only to from go n = (
    λ e. inl (λ b keeps. refused-not (from b keeps).1, sym (refuses-path e) ∙ ap refusal_number only),
    ⊎_elim (λ no. ap refuses (ap refusal_number only ∙ sym no.1)) (λ (b, keeps, rest). refused-not (from b keeps).1),
  )

module _ {A B : Type 0} where
  -- a step, or where it gave an x, as a relation says, what follows
  pub given-exactly : (F : ℕ → Type 0) (Given : A → Type 0) (G : A → ℕ → Type 0) (a : Outcome A) (f : A → Outcome B) → Exact a F
      → ((x : A) → Given x ↔ (a ≡ ok x)) → ((x : A) → a ≡ ok x → Exact (f x) (G x)) → Exact (a >>= f) (λ n. F n ⊎ ((x : A) × Given x × G x n))
  given-exactly F Given G (ok x) f h is k n = (
    λ e. inr (x, (is x).1 refl, (k x refl n).0 e),
    ⊎_elim (λ y. ok-not ((h n).1 y)) (λ (y, given, g). (k x refl n).1 (subst (λ (z : A). G z n) (sym (ok-path ((is y).0 given))) g)),
  )
  given-exactly F Given G (refused r place) f h is k n = (
    λ e. inl ((h n).0 (ap refuses (refuses-path e))),
    ⊎_elim (λ y. ap refuses (refuses-path ((h n).1 y))) (λ (y, given, g). refused-not ((is y).0 given)),
  )

  -- a step, or where it has no fault, what follows
  pub then-exactly : (F G : ℕ → Type 0) (a : Outcome A) (f : A → Outcome B) → Exact a F → ((x : A) → a ≡ ok x → Exact (f x) G)
      → Exact (a >>= f) (λ n. F n ⊎ (((j : ℕ) → ¬ F j) × G n))
  then-exactly F G (ok x) f h k n = (
    λ e. inr (λ j y. ok-not ((h j).1 y), (k x refl n).0 e),
    ⊎_elim (λ y. ok-not ((h n).1 y)) (λ (none, g). (k x refl n).1 g),
  )
  then-exactly F G (refused r place) f h k n = (
    λ e. inl ((h n).0 (ap refuses (refuses-path e))),
    ⊎_elim (λ y. ap refuses (refuses-path ((h n).1 y))) (λ (none, g). absurd (none (refusal_number r) ((h (refusal_number r)).0 refl))),
  )

  pub after : (a : Outcome A) (g : A → B) {F : ℕ → Type 0} → Exact a F → Exact (a >>= λ x. ok (g x)) F
  after (ok x) g h n = (λ e. ok-not e, λ f. ok-not ((h n).1 f))
  after (refused r place) g h n = (λ e. (h n).0 (ap refuses (refuses-path e)), λ f. ap refuses (refuses-path ((h n).1 f)))

module _ {A B C : Type 0} where
  -- a step within a step
  pub within : (a : Outcome A) (f : A → Outcome B) (g : B → Outcome C) {F : ℕ → Type 0} → Exact (a >>= λ x. f x >>= g) F → Exact ((a >>= f) >>= g) F
  within (ok x) f g h = h
  within (refused r place) f g h = h

-- the number of a refusal
pub only-number : {A : Type 0} (q : Refusal) (r : Outcome A) → Only q r → (n : ℕ) → Refuses r n → n ≡ refusal_number q
only-number q (ok a) h n e = ok-not e
only-number q (refused r place) h n e = sym (refuses-path e) ∙ ap refusal_number h
