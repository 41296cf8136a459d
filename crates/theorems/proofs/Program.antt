-- What the program owes: after its own test it is a write into a buffer of 65,536 bytes, whose outcome is an image or a
-- refusal's line, and no two of these are equal.
use Prim.Native.Nat.{ℕ, ◌≤◌, ◌<◌}
use mathlib.Core.Path.{◌≡◌, refl, sym, ap, subst, ◌∙◌}
use mathlib.Core.Logic.{◌↔◌, ◌≢◌, ⊎_elim}
use mathlib.Core.List.{List}
use native.Mathlib.Omega.{arith}
use lib.ListN.{length, take, get_or, replicate, length-replicate}
use lib.Seq.{get_or-take}
use lib.Dec.{lit<}
use borrow.Author.Tests.{le-leb, lt-leb, lt-ltb, le-ltb}
use Rattle.format.specs.declared.Refusal.TheVariants.{BadRoll}
use Rattle.format.specs.Limits.{image_most, program_buffer}
use Rattle.format.specs.Refusals.{Outcome, ok, refused}
use Rattle.format.specs.Bytes.{AllBytes}
use Rattle.format.specs.Meaning.{Meaning}
use Rattle.format.specs.Roll.{read_roll}
use Rattle.format.specs.Writer.{writer_image}
use Rattle.format.specs.Acts.{image_result, write_result, decimal_line, program_writes, program_result, program_output}
use Rattle.format.proofs.Cases.{below_or}
use Rattle.acceptance.specs.Rolls.{KeepsRoll}
use Rattle.file_laws.proofs.Sizes.{image-most}
use Rattle.format.proofs.Results.{Only}
use Rattle.roll.proofs.Rolls.{roll-refused}
use Rattle.theorems.specs.Files.{Accepted, OurFile, UnrollGives}
use Rattle.theorems.specs.Program.{line19, line20, line22, Tried, Program}
use Rattle.theorems.proofs.Ours.{roll-reads, reads-roll, ours-accepted}
use Rattle.theorems.proofs.Writes.{Writing, long, short, given, writing}
use Rattle.theorems.proofs.RoundTrips.{round-trips}

-- the buffer that the image is laid into
abbrev lent : List ℕ
lent = replicate program_buffer 0

-- ---- the lines

-- two lists with different numbers at a place
differ : {xs ys : List ℕ} (i : ℕ) → get_or xs i 0 ≢ get_or ys i 0 → xs ≢ ys
differ i h e = h (ap (λ (zs : List ℕ). get_or zs i 0) e)

-- an image begins with 16 hex
image-first : (m : Meaning) → get_or (writer_image m) 0 0 ≡ 0x16
unfolding writer_image
image-first m = refl

image-not : (m : Meaning) (line : List ℕ) → 0x30 ≤ get_or line 0 0 → writer_image m ≢ line
image-not m line digit e = omega (arith, ap (λ (xs : List ℕ). get_or xs 0 0) e, image-first m)

-- a line begins with a digit
digit-first : (n : ℕ) → 0x30 ≤ get_or (decimal_line n) 0 0
digit-first n = ⊎_elim (λ small. rw (lt-ltb n 10 small) (omega arith)) (λ large. rw (le-ltb n 10 large) (omega arith)) (below_or n 10)

-- ---- the outcome

too_long_lem : (roll : List ℕ) → program_buffer < length roll → program_output roll ≡ line19
unfolding program_result
too_long_lem roll h = rw (lt-leb (length roll) program_buffer h)

-- a roll that is looked at is written
tried : (roll : List ℕ) → length roll ≤ program_buffer → program_output roll ≡ program_writes (write_result roll lent)
unfolding program_result
tried roll h = rw (le-leb (length roll) program_buffer h)

refused-roll : (roll : List ℕ) (place : ℕ) → length roll ≤ program_buffer → read_roll roll ≡ refused BadRoll place → program_output roll ≡ line20
unfolding write_result
refused-roll roll place h e = tried roll h ∙ rw e

good-output : (roll : List ℕ) (m : Meaning) → length roll ≤ program_buffer → read_roll roll ≡ ok m → program_output roll ≡ program_writes (image_result m lent)
unfolding write_result
good-output roll m h e = tried roll h ∙ rw e

-- what a good roll that is looked at comes to
data Said (roll : List ℕ) (m : Meaning) : Type 0 where
  too_long : image_most < length (writer_image m) → program_output roll ≡ line22 → Said roll m
  no_room : program_buffer < length (writer_image m) → program_output roll ≡ line19 → Said roll m
  written : length (writer_image m) ≤ program_buffer → program_output roll ≡ writer_image m → Said roll m

said : (roll : List ℕ) (m : Meaning) → length roll ≤ program_buffer → read_roll roll ≡ ok m → Said roll m
said roll m h e = go (writing m lent)
  where
    room : length lent ≡ program_buffer
    room = length-replicate {A = ℕ} program_buffer 0

    out : {r : Outcome (List ℕ)} → image_result m lent ≡ r → program_output roll ≡ program_writes r
    out f = good-output roll m h e ∙ ap program_writes f

    go : Writing m lent → Said roll m
    go (long over f) = too_long over (out f)
    go (short fits over f) = no_room (omega (arith, room)) (out f)
    go (given fits most f) = written (omega (arith, room)) (out f)

-- ---- a good roll

-- a roll that fits its buffer has an image below the limit
small : (roll : List ℕ) (m : Meaning) → Tried roll m → length (writer_image m) ≤ image_most
small roll m t =
    let (is, good, counted) = (round-trips.good_roll roll m t.good.bytes).0 t.good in
    omega (arith, t.heard, image-most m good, ap length is)

module _ (roll : List ℕ) (m : Meaning) (t : Tried roll m) where
  is : Said roll m
  is = said roll m t.heard (roll-reads roll m t.good)

  short-exactly : (program_output roll ≡ line19) ↔ (program_buffer < length (writer_image m))
  short-exactly = (to is, from is)
    where
      to : Said roll m → program_output roll ≡ line19 → program_buffer < length (writer_image m)
      to (too_long over f) e = absurd (omega (arith, small roll m t))
      to (no_room over f) e = over
      to (written fits f) e = absurd (image-not m line19 (omega arith) (sym f ∙ e))

      from : Said roll m → program_buffer < length (writer_image m) → program_output roll ≡ line19
      from (too_long over f) h = absurd (omega (arith, small roll m t))
      from (no_room over f) h = f
      from (written fits f) h = absurd (omega arith)

  image-exactly : (program_output roll ≡ writer_image m) ↔ (length (writer_image m) ≤ program_buffer)
  image-exactly = (to is, from is)
    where
      to : Said roll m → program_output roll ≡ writer_image m → length (writer_image m) ≤ program_buffer
      to (too_long over f) e = absurd (omega (arith, small roll m t))
      to (no_room over f) e = absurd (image-not m line19 (omega arith) (sym e ∙ f))
      to (written fits f) e = fits

      from : Said roll m → length (writer_image m) ≤ program_buffer → program_output roll ≡ writer_image m
      from (too_long over f) h = absurd (omega (arith, small roll m t))
      from (no_room over f) h = absurd (omega arith)
      from (written fits f) h = f

  module _ (fits : length (writer_image m) ≤ program_buffer) where
    output : program_output roll ≡ writer_image m
    output = image-exactly.1 fits

    ours : OurFile (program_output roll) m
    ours = record {
      ordered = ((round-trips.good_roll roll m t.good.bytes).0 t.good).1;
      written = output;
      fits = subst (λ (i : List ℕ). length i ≤ image_most) (sym output) (small roll m t);
    }

    unrolls : (lent₂ : List ℕ) → length roll ≤ length lent₂ → UnrollGives (program_output roll) lent₂ roll
    unrolls lent₂ room =
        subst (λ (i : List ℕ). UnrollGives i lent₂ roll) (sym output)
        (round-trips.roll_runs roll lent lent₂ m t.good (small roll m t) (omega (arith, length-replicate {A = ℕ} program_buffer 0)) room).1

-- ---- any roll

broken : (roll : List ℕ) → AllBytes roll → length roll ≤ program_buffer → (program_output roll ≡ line20) ↔ ((m : Meaning) → ¬ KeepsRoll roll m)
broken roll bytes h = (
  λ e m k. to m (said roll m h (roll-reads roll m (record { bytes = bytes; keeps = k }))) e,
  λ none. from (read_roll roll) refl (roll-refused roll) none,
)
  where
    to : (m : Meaning) → Said roll m → program_output roll ≡ line20 → ⊥
    to m (too_long over f) e = differ {xs = line22} {ys = line20} 1 (λ z. omega arith) (sym f ∙ e)
    to m (no_room over f) e = differ {xs = line19} {ys = line20} 0 (λ z. omega arith) (sym f ∙ e)
    to m (written fits f) e = image-not m line20 (omega arith) (sym f ∙ e)

    from : (r : Outcome Meaning) → read_roll roll ≡ r → Only BadRoll r → ((m : Meaning) → ¬ KeepsRoll roll m) → program_output roll ≡ line20
    from (ok m) e f none = absurd (none m (reads-roll roll m bytes e).keeps)
    from (refused r place) e f none = refused-roll roll place h (e ∙ ap (λ q. refused q place) f)

-- 22 is never told
never22 : (roll : List ℕ) → AllBytes roll → program_output roll ≢ line22
never22 roll bytes e = ⊎_elim longer heard (below_or program_buffer (length roll))
  where
    longer : program_buffer < length roll → ⊥
    longer h = differ {xs = line19} {ys = line22} 0 (λ z. omega arith) (sym (too_long_lem roll h) ∙ e)

    good : (m : Meaning) → Tried roll m → Said roll m → ⊥
    good m t (too_long over f) = omega (arith, small roll m t)
    good m t (no_room over f) = differ {xs = line19} {ys = line22} 0 (λ z. omega arith) (sym f ∙ e)
    good m t (written fits f) = image-not m line22 (omega arith) (sym f ∙ e)

    read : length roll ≤ program_buffer → (r : Outcome Meaning) → read_roll roll ≡ r → Only BadRoll r → ⊥
    read h (ok m) g f = good m (record { good = reads-roll roll m bytes g; heard = h }) (said roll m h g)
    read h (refused r place) g f =
        differ {xs = line20} {ys = line22} 1 (λ z. omega arith) (sym (refused-roll roll place h (g ∙ ap (λ q. refused q place) f)) ∙ e)

    heard : length roll ≤ program_buffer → ⊥
    heard h = read h (read_roll roll) refl (roll-refused roll)

-- an accepted file begins with 16 hex
apart : (image : List ℕ) (m : Meaning) (number : ℕ) → Accepted image m → take 1 image ≢ take 1 (decimal_line number)
apart image m number a e =
    let first = ap (λ (xs : List ℕ). get_or xs 0 0) a.keeps.bytes in
    let same = ap (λ (xs : List ℕ). get_or xs 0 0) e in
    omega (arith, digit-first number, get_or-take 1 image 0 0 (lit< tt), get_or-take 1 (decimal_line number) 0 0 (lit< tt))

pub program : Program
program = record {
  longer = too_long_lem;
  broken = broken;
  short = short-exactly;
  image = image-exactly;
  never22 = never22;
  accepted = λ roll m t fits. (ours roll m t fits, ours-accepted (program_output roll) m (ours roll m t fits));
  again = λ roll lent m t fits room. unrolls roll m t fits lent room;
  apart = apart;
}
