-- `find_bitmap` meets its contract: each test that fails is the definition's own test, in its order.
use Rattle.std.specs.Prelude.{if◌then◌else◌}
use Rattle.std.proofs.Common.{◌≡◌, ℕ, ◌+◌, ◌-◌, ◌≤◌, ◌<◌, Bool, true, false, eqb, List, [], ◌∷◌, length, take, drop, get_or, sym, ◌∙◌, arith, length-drop, eqb-true, rules, Err}
use Rattle.format.proofs.Parts.{part-rest}
use Rattle.format.specs.Choice.{every}
use Rattle.format.specs.Refusals.{Outcome, ok, refused}
use Rattle.format.specs.declared.Refusal.TheVariants.{Values}
use Rattle.format.specs.Booleans.{bits_of_bytes, bitmap_size, read_booleans}
use Rattle.numbers.specs.VarintAt.{varint_at, number}
use Rattle.numbers.proofs.VarintPlaces.{varint_at-number}
use Rattle.booleans.proofs.Reading.{counted, read_none, read_head, read-broken, read_number, other-count, other_length, bits-follow}
use Rattle.booleans.proofs.find_bitmap.Goals as goal

-- a section with a first byte, the right one: the count, and the place after it
module _ (n count next : ℕ) (s : List ℕ) (fits : (i : ℕ) → get_or s i 0 < 256) (some : 1 ≤ length s) (head : get_or s 0 0 ≡ 0x10) (is : varint_at s 1 ≡ number count next) where
  inside : next ≤ length s
  inside = (varint_at-number s 1 some count next fits is).1

  after : (r : Outcome (List ℕ)) → counted n 0 (count, next, drop next s) ≡ r → read_booleans n 0 s ≡ r
  after r e = read_number n s count next some head is ∙ e

  other-size : count ≡ n → (length s - next ≡ bitmap_size n → ⊥) → read_booleans n 0 s ≡ refused Values 0
  other-size same other =
      after (refused Values 0) (other_length n count next (drop next s) same (λ e. other (sym (length-drop next s) ∙ e)))

  -- the padding, and the values
  follows : count ≡ n → next + bitmap_size n ≡ length s → (padding : Bool) → padding ≡ every (eqb 0) (drop n (bits_of_bytes (drop next s)))
      → read_booleans n 0 s ≡ (if padding then ok (take n (bits_of_bytes (drop next s))) else refused Values 0)
  follows same size padding e =
      after _ (bits-follow n count next (drop next s) same (omega (arith, length-drop next s, inside)) padding e)

enough : (s : List ℕ) → eqb (length s) 0 ≡ false → 1 ≤ length s
enough [] e = let z : ◌≡◌ {A = ℕ} 0 1 = cc in absurd (omega arith)
enough (b ∷ s) e = omega arith

pub returns-then-is_empty : goal.returns-then-is_empty
returns-then-is_empty c =
    read_none c.args.n c.args.section.now (eqb-true (length c.args.section.now) 0 (sym c.is_empty.ensures ∙ c.if-is_empty.true))

pub returns-then-section-ne-HEAD : goal.returns-then-section-ne-HEAD
returns-then-section-ne-HEAD c = read_head c.args.n c.args.section.now c.if-section-ne-HEAD.true

pub returns-in_err-value : goal.returns-in_err-value
returns-in_err-value c =
    let r : c.from_residual.result ≡ Err c.in_err-value.field-0.0 = search rules in
    rw r (read-broken c.args.n c.args.section.now c.in_err-value.field-0.0.place (enough c.args.section.now (sym c.is_empty.ensures ∙ c.if-is_empty.false)) c.if-section-ne-HEAD.false (sym c.read_varint.ensures ∙ c.in_err-value.was))

pub returns-then-value-n : goal.returns-then-value-n
returns-then-value-n c =
    let v = c.in_ok-value.field-0 in
    after c.args.n v.value v.next c.args.section.now (λ i. (c.type_inv.section i).fits) (enough c.args.section.now (sym c.is_empty.ensures ∙ c.if-is_empty.false)) c.if-section-ne-HEAD.false
    (sym c.read_varint.ensures ∙ c.in_ok-value.was) (refused Values 0) (other-count c.args.n v.value v.next (drop v.next c.args.section.now) c.if-value-n.true)

pub overflow_sub-section : goal.overflow_sub-section
overflow_sub-section c =
    let v = c.in_ok-value.field-0 in
    inside c.args.n v.value v.next c.args.section.now (λ i. (c.type_inv.section i).fits) (enough c.args.section.now (sym c.is_empty.ensures ∙ c.if-is_empty.false)) c.if-section-ne-HEAD.false (sym c.read_varint.ensures ∙ c.in_ok-value.was)

pub returns-then-section-next : goal.returns-then-section-next
returns-then-section-next c =
    let v = c.in_ok-value.field-0 in
    other-size c.args.n v.value v.next c.args.section.now (λ i. (c.type_inv.section i).fits) (enough c.args.section.now (sym c.is_empty.ensures ∙ c.if-is_empty.false)) c.if-section-ne-HEAD.false
    (sym c.read_varint.ensures ∙ c.in_ok-value.was) c.if-value-n.false (λ e. omega (arith, c.if-section-next.true))

pub slice_bounds-padding_zero-count : goal.slice_bounds-padding_zero-count
slice_bounds-padding_zero-count c =
    let v = c.in_ok-value.field-0 in
    inside c.args.n v.value v.next c.args.section.now (λ i. (c.type_inv.section i).fits) (enough c.args.section.now (sym c.is_empty.ensures ∙ c.if-is_empty.false)) c.if-section-ne-HEAD.false (sym c.read_varint.ensures ∙ c.in_ok-value.was)

pub slice_bounds-padding_zero-start : goal.slice_bounds-padding_zero-start
slice_bounds-padding_zero-start c =
    let v = c.in_ok-value.field-0 in
    inside c.args.n v.value v.next c.args.section.now (λ i. (c.type_inv.section i).fits) (enough c.args.section.now (sym c.is_empty.ensures ∙ c.if-is_empty.false)) c.if-section-ne-HEAD.false
    (sym c.read_varint.ensures ∙ c.in_ok-value.was)

pub returns-then-not-padding_zero : goal.returns-then-not-padding_zero
returns-then-not-padding_zero c =
    let v = c.in_ok-value.field-0 in
    let s = c.args.section.now in
    let is : varint_at s 1 ≡ number v.value v.next = sym c.read_varint.ensures ∙ c.in_ok-value.was in
    let within = inside c.args.n v.value v.next s (λ i. (c.type_inv.section i).fits) (enough c.args.section.now (sym c.is_empty.ensures ∙ c.if-is_empty.false)) c.if-section-ne-HEAD.false is in
    follows c.args.n v.value v.next s (λ i. (c.type_inv.section i).fits) (enough c.args.section.now (sym c.is_empty.ensures ∙ c.if-is_empty.false)) c.if-section-ne-HEAD.false is c.if-value-n.false (omega (arith, within)) false
    (sym c.if-not-padding_zero.true ∙ (rw (part-rest s v.next) at c.padding_zero.ensures))

pub returns : goal.returns
returns c =
    let v = c.in_ok-value.field-0 in
    let s = c.args.section.now in
    let is : varint_at s 1 ≡ number v.value v.next = sym c.read_varint.ensures ∙ c.in_ok-value.was in
    let within = inside c.args.n v.value v.next s (λ i. (c.type_inv.section i).fits) (enough c.args.section.now (sym c.is_empty.ensures ∙ c.if-is_empty.false)) c.if-section-ne-HEAD.false is in
    let size : v.next + bitmap_size c.args.n ≡ length s = omega (arith, within) in (
      size,
      follows c.args.n v.value v.next s (λ i. (c.type_inv.section i).fits) (enough c.args.section.now (sym c.is_empty.ensures ∙ c.if-is_empty.false)) c.if-section-ne-HEAD.false is c.if-value-n.false size true
          (sym c.if-not-padding_zero.false ∙ (rw (part-rest s v.next) at c.padding_zero.ensures)),
    )
