-- A varint that is read byte by byte: what is read from here on, after the groups passed, is what is read from the start.
--   scan-end, scan-breaks    no byte is left, and a byte that breaks the number
--   scan-fits, scan-last     a byte that ends it: the number fits 64 bits, and is the answer
--   scan-first               the same of the first
--   kept-middle, breaks-middle, scan-tenth, scan-no-tenth   bytes before the tenth, and the tenth
--   scan-value, scan-scale, scan-more   a byte that goes on: the state after it
use Rattle.std.proofs.Common.{◌≡◌, ℕ, ◌+◌, ◌-◌, ◌*◌, ◌^◌, ◌<◌, ◌≤◌, true, false, ◌&&◌, eqb, ltb, List, ◌∷◌, length, get_or, drop, sym, refl, ap, ◌∙◌, ⊎_elim, add-one, arith, drop_of_length-le, drop-cons, lt-ltb, eq-eqb, ne_eqb}
use mathlib.Core.Bool.{and-false, or-true}
use Rattle.format.specs.declared.Refusal.TheVariants.{BadRoll}
use Rattle.format.specs.Refusals.{Outcome, ok, refused}
use Rattle.format.specs.Varint.{read_groups}
use Rattle.format.proofs.Cases.{same_or}
use Rattle.numbers.specs.VarintAt.{varint_of, varint_at, number, broken, breaks_after, Reading}
use Rattle.numbers.proofs.Varints.{kept-tenth, read-breaks, read-last, read_more, last_fits, more-below, power-more, power-fits}

-- a byte before the tenth and after the first breaks a varint where it is 0
pub kept-middle : (i b : ℕ) → i < 9 → (b ≡ 0 → ⊥) → breaks_after i b ≡ false
kept-middle i b early some = let not : i ≡ 9 → ⊥ = λ e. omega arith in rw (ne_eqb i 9 not, ne_eqb b 0 some)

pub breaks-middle : (i b : ℕ) → 0 < i → b ≡ 0 → breaks_after i b ≡ true
breaks-middle i b later none = rw (eq-eqb b 0 none, lt-ltb 0 i later) (or-true (eqb i 9 && ltb 1 b))

pub scan-start : (s : List ℕ) (at : ℕ) → at ≤ length s → Reading s at 0 1 0 at
unfolding varint_at
scan-start s at inside = record { few = omega arith; scaled = refl; below = omega arith; inside = inside; same = refl }

module _ {s : List ℕ} {at value scale groups place : ℕ} (r : Reading s at value scale groups place) where
  pub scan-end : length s ≤ place → broken place ≡ varint_at s at
  unfolding read_groups
  scan-end h = rw (drop_of_length-le s {i = place} h) at r.same

  module _ (h : place < length s) where
    abbrev byte : ℕ
    byte = get_or s place 0

    -- the next byte says what is read from here on
    reads : (answer : Outcome (ℕ × ℕ × List ℕ)) → read_groups BadRoll groups value place (byte ∷ drop (place + 1) s) ≡ answer → varint_of answer ≡ varint_at s at
    reads answer e =
        let next : drop place s ≡ byte ∷ drop (place + 1) s = rw add-one (drop-cons s place 0 h) in
        sym (ap varint_of e) ∙ (rw next at r.same)

    pub scan-breaks : breaks_after groups (get_or s place 0) ≡ true → broken place ≡ varint_at s at
    scan-breaks e = reads (refused BadRoll place) (read-breaks BadRoll groups value place byte _ e)

    module _ (kept : breaks_after groups (get_or s place 0) ≡ false) where
      pub scan-fits : get_or s place 0 < 128 → value + get_or s place 0 * scale < 2 ^ 64
      scan-fits small = last_fits groups byte value scale r.scaled r.below r.few small (kept-tenth groups byte kept)

      pub scan-last : get_or s place 0 < 128 → number (value + get_or s place 0 * scale) (place + 1) ≡ varint_at s at
      scan-last small =
          rw r.scaled (reads (ok (value + byte * 128 ^ groups, place + 1, drop (place + 1) s)) (read-last BadRoll groups value place byte _ kept small))

      module _ (large : 128 ≤ get_or s place 0) (fits : get_or s place 0 < 256) where
        -- a byte that goes on is not the tenth
        early : groups + 1 ≤ 9
        early = let not : groups ≡ 9 → ⊥ = λ nine. (let small = kept-tenth groups byte kept nine in omega arith) in omega (arith, r.few, not)

        grown : value + (byte - 128) * scale < 128 ^ (groups + 1)
        grown = more-below groups byte value scale r.scaled r.below fits

        pub scan-value : value + (get_or s place 0 - 128) * scale < 2 ^ 64
        scan-value = omega (arith, grown, power-fits (groups + 1) early)

        pub scan-scale : scale * 128 < 2 ^ 64
        scan-scale = rw (power-more groups scale r.scaled) (power-fits (groups + 1) early)

        pub scan-more : Reading s at (value + (get_or s place 0 - 128) * scale) (scale * 128) (groups + 1) (place + 1)
        scan-more =
            record {
              few = early;
              scaled = power-more groups scale r.scaled;
              below = grown;
              inside = omega arith;
              same = rw r.scaled (reads _ (read_more BadRoll groups value place byte _ kept large));
            }

-- the first byte ends the number
pub scan-first : (s : List ℕ) (at : ℕ) → at < length s → get_or s at 0 < 128 → number (get_or s at 0) (at + 1) ≡ varint_at s at
scan-first s at h small =
    let kept : breaks_after 0 (get_or s at 0) ≡ false = and-false (eqb (get_or s at 0) 0) in
    let one : 0 + get_or s at 0 * 1 ≡ get_or s at 0 = omega arith in
    rw one at (scan-last (scan-start s at (omega arith)) h kept small)

-- the tenth byte: it is 1
module _ {s : List ℕ} {at value scale place : ℕ} (r : Reading s at value scale 9 place) (h : place < length s) where
  pub tenth-fits : get_or s place 0 ≡ 1 → value + scale < 2 ^ 64
  tenth-fits one = omega (arith, scan-fits r h (rw one refl) (omega arith))

  pub scan-tenth : get_or s place 0 ≡ 1 → number (value + scale) (place + 1) ≡ varint_at s at
  scan-tenth one =
      let whole : value + get_or s place 0 * scale ≡ value + scale = rw one (omega arith) in
      rw whole at (scan-last r h (rw one refl) (omega arith))

  pub scan-no-tenth : (get_or s place 0 ≡ 1 → ⊥) → broken place ≡ varint_at s at
  scan-no-tenth other =
      ⊎_elim
      (λ (none : get_or s place 0 ≡ 0). scan-breaks r h (breaks-middle 9 (get_or s place 0) (omega arith) none))
      (λ (some : get_or s place 0 ≡ 0 → ⊥). let more : 1 < get_or s place 0 = omega arith in scan-breaks r h (rw (lt-ltb 1 (get_or s place 0) more)))
      (same_or (get_or s place 0) 0)
