-- What an answer says of the result that it comes of.
--   refusal-same              two refusals of one number are the same
--   gives-path, refuses-path  two answers that are equal
--   answer_ok, answer-refused, answer-number   what an answer says of its result
--   checked-accepted, check-refused   the full check of an image: with totals it is accepted, with a refusal it is refused
use Prim.Native.Nat.{ℕ}
use mathlib.Core.Path.{◌≡◌, refl, sym, ap, ◌∙◌}
use native.Mathlib.Omega.{arith}
use mathlib.Core.List.{List, [], ◌∷◌}
use lib.ListN.{get_or}
use mathlib.Core.Bool.{true}
use Rattle.format.specs.declared.Refusal.{Refusal}
use Rattle.format.specs.declared.Refusal.TheVariants.{ImageLength, Magic, Version, IndexStart, EntryPastIndex, KeyLength, UnknownKind, NoBlocks, KeyOrder, TimeOrder, BlockPlace, Checksum, BlockHead, Timestamps, Values, TimesDiffer, NoSuchKey, NoEntry, ShortBuffer, BadRoll, KindClash, ImageTooLong, NoPoint}
use Rattle.std.specs.Prelude.{Ok, Err}
use Rattle.format.specs.declared.Totals.{Totals}
use Rattle.format.specs.Refusals.{Outcome, ok, refused, refusal_number, Answer, gives, refuses, answer_of, is_ok}
use Rattle.format.specs.Meaning.{Meaning}
use Rattle.format.specs.Acts.{check_result, check_answer, checked_says}
use Rattle.format.specs.File.{read_file}

-- the refusals by number; none has the number 0
by_number : List Refusal
by_number =
    ImageLength ∷ ImageLength ∷ Magic ∷ Version ∷ IndexStart ∷ EntryPastIndex ∷ KeyLength ∷ UnknownKind ∷ NoBlocks ∷ KeyOrder ∷ TimeOrder
    ∷ BlockPlace ∷ Checksum ∷ BlockHead ∷ Timestamps ∷ Values ∷ TimesDiffer ∷ NoSuchKey ∷ NoEntry ∷ ShortBuffer ∷ BadRoll ∷ KindClash
    ∷ ImageTooLong ∷ NoPoint ∷ []

refusal_of : ℕ → Refusal
refusal_of n = get_or by_number n ImageLength

number-back : (r : Refusal) → refusal_of (refusal_number r) ≡ r
unfolding refusal_of by_number
number-back ImageLength = refl
number-back Magic = refl
number-back Version = refl
number-back IndexStart = refl
number-back EntryPastIndex = refl
number-back KeyLength = refl
number-back UnknownKind = refl
number-back NoBlocks = refl
number-back KeyOrder = refl
number-back TimeOrder = refl
number-back BlockPlace = refl
number-back Checksum = refl
number-back BlockHead = refl
number-back Timestamps = refl
number-back Values = refl
number-back TimesDiffer = refl
number-back NoSuchKey = refl
number-back NoEntry = refl
number-back ShortBuffer = refl
number-back BadRoll = refl
number-back KindClash = refl
number-back ImageTooLong = refl
number-back NoPoint = refl

pub refusal-same : (r q : Refusal) → refusal_number r ≡ refusal_number q → r ≡ q
refusal-same r q e = sym (number-back r) ∙ ap refusal_of e ∙ number-back q

module _ {A : Type 0} where
  pub gives-path : {a b : A} → gives a ≡ gives b → a ≡ b
  gives-path e = cc

  pub refuses-path : {m n : ℕ} → ◌≡◌ {A = Answer A} (refuses m) (refuses n) → m ≡ n
  refuses-path e = cc

  -- an answer that gives, gives the value of its result
  pub answer_ok : (x : Outcome A) (a : A) → answer_of x ≡ gives a → x ≡ ok a
  answer_ok (ok b) a e = ap ok (gives-path e)
  answer_ok (refused r place) a e = let z : ◌≡◌ {A = ℕ} 0 1 = cc in absurd (omega arith)

  -- an answer that refuses comes of a refusal of that number
  pub answer-refused : (x : Outcome A) (r : Refusal) → answer_of x ≡ refuses (refusal_number r) → (place : ℕ) × (x ≡ refused r place)
  answer-refused (ok b) r e = let z : ◌≡◌ {A = ℕ} 0 1 = cc in absurd (omega arith)
  answer-refused (refused q place) r e = (place, ap (λ (s : Refusal). refused s place) (refusal-same q r (refuses-path e)))

  pub answer-number : (x : Outcome A) (n : ℕ) → answer_of x ≡ refuses n → (r : Refusal) × (place : ℕ) × (x ≡ refused r place) × (refusal_number r ≡ n)
  answer-number (ok b) n e = let z : ◌≡◌ {A = ℕ} 0 1 = cc in absurd (omega arith)
  answer-number (refused q place) n e = (q, place, refl, refuses-path e)

-- ---- the full check of an image

module _ (image : List ℕ) where
  pub checked-accepted : (totals : Totals) → checked_says (Ok totals) ≡ check_answer image → is_ok (read_file image) ≡ true
  unfolding check_result
  checked-accepted totals e = go (read_file image) refl
    where
      go : (r : Outcome Meaning) → read_file image ≡ r → is_ok r ≡ true
      go (ok m) read = refl
      go (refused r place) read = let no = rw read at e in let z : ◌≡◌ {A = ℕ} 0 1 = cc in absurd (omega arith)

  pub check-refused : (why : Refusal) → checked_says (Err why) ≡ check_answer image
      → (q : Refusal) × (place : ℕ) × (read_file image ≡ refused q place) × (refusal_number why ≡ refusal_number q)
  unfolding check_result
  check-refused why e = go (read_file image) refl
    where
      go : (r : Outcome Meaning) → read_file image ≡ r → (q : Refusal) × (place : ℕ) × (read_file image ≡ refused q place) × (refusal_number why ≡ refusal_number q)
      go (ok m) read = let no = rw read at e in let z : ◌≡◌ {A = ℕ} 0 1 = cc in absurd (omega arith)
      go (refused r place) read =
          let is : ◌≡◌ {A = Answer (ℕ × ℕ)} (refuses (refusal_number why)) (refuses (refusal_number r)) = rw read at e in
          (r, place, read, refuses-path is)
