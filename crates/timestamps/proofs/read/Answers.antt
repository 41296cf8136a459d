-- `timestamps::read` meets its contract: the head says the form; one difference is repeated, and others are read and added up.
use Rattle.std.specs.Prelude.{Err}
use borrow.Author.Rules.{rules}
use mathlib.Core.Path.{◌≡◌}
use mathlib.Core.List.{List}
use Prim.Native.Nat.{ℕ, ◌/◌, ◌%◌, ◌≤◌}
use native.Mathlib.Nat.{one-le-pow}
use native.Mathlib.Omega.{arith}
use lib.Dec.{lit<}
use lib.ListN.{length, take, drop, get_or}
use lib.Seq.{length-take-le}
use Rattle.format.specs.Bytes.{big_endian}
use Rattle.format.specs.Form.{form_of}
use Rattle.format.specs.Timestamps.{read_differences, read_times}
use Rattle.timestamps.specs.Reading.{times_by, DifferencesAre}
use Rattle.timestamps.proofs.Head.{head-short, head-large, head-is, read-refused, spare-same, else-refused, times-are}
use Rattle.timestamps.proofs.read.Goals as goal

-- the section by its head
by_head : (s : List ℕ) (first : ℕ) → first ≡ big_endian (take 8 (drop 1 s)) → 9 ≤ length s → get_or s 0 0 % 16 ≤ 12
    → read_times 0 s ≡ times_by (form_of (get_or s 0 0 / 16)) (get_or s 0 0 % 16) first s
by_head s first e long few = rw e (head-is s long few)

pub returns-then-section-lt-HEAD : goal.returns-then-section-lt-HEAD
returns-then-section-lt-HEAD c =
    let r = read-refused _ 0 _ _ _ _ (head-short c.args.section.now c.if-section-lt-HEAD.true) in
    record { answer = r.0; times = r.1.0; spare = r.1.1 }

pub returns-then-e-gt-EXPONENT_MOST : goal.returns-then-e-gt-EXPONENT_MOST
returns-then-e-gt-EXPONENT_MOST c =
    let r = read-refused _ 0 _ _ _ _ (head-large c.args.section.now c.if-section-lt-HEAD.false c.if-e-gt-EXPONENT_MOST.true) in
    record { answer = r.0; times = r.1.0; spare = r.1.1 }

pub returns-then-form-eq-REPEATED : goal.returns-then-form-eq-REPEATED
returns-then-form-eq-REPEATED c =
    let s = c.args.section.now in
    let head = by_head s _ c.read_u64-first.ensures c.if-section-lt-HEAD.false c.if-e-gt-EXPONENT_MOST.false in
    let by = times_by (form_of 2) (get_or s 0 0 % 16) c.read_u64-first.result s in
    let two : read_times 0 s ≡ by = rw c.if-form-eq-REPEATED.true at head in
    let d = c.read_repeated.ensures in
    rw two (record { answer = d.answer; times = d.cells; spare = spare-same by c.args.cells.now })

pub returns-in_err-count : goal.returns-in_err-count
returns-in_err-count c =
    let s = c.args.section.now in
    let e = get_or s 0 0 % 16 in
    let told : c.from_residual.result ≡ Err c.in_err-count.field-0.0 = search rules in
    let by = by_head s _ c.read_u64-first.ensures c.if-section-lt-HEAD.false c.if-e-gt-EXPONENT_MOST.false in
    let found : DifferencesAre (Err c.in_err-count.field-0.0) e (read_differences (form_of (get_or s 0 0 / 16)) e 0 9 (drop 9 s)) c.args.cells.now c.read_differences.new.differences =
    rw c.in_err-count.was at c.read_differences.ensures in
    let r = else-refused s _ _ by _ _ _ _ c.in_err-count.field-0.0 e found in
    rw told (record { answer = r.0; times = r.1.0; spare = r.1.1 })

pub add_up-requires : goal.add_up-requires
add_up-requires c =
    let d = c.in_ok-count.ensures in
    let new = c.read_differences.new.differences in
    let many = length-take-le c.in_ok-count.count new (omega (arith, d.1, c.read_differences.auto, c.requires.1)) in
    (omega (arith, many, d.1), rw c.power_of_ten.ensures (one-le-pow _ 10 (lit< tt)), omega (arith, many, d.1, c.requires.0))

pub returns : goal.returns
returns c =
    let s = c.args.section.now in
    let by = by_head s _ c.read_u64-first.ensures c.if-section-lt-HEAD.false c.if-e-gt-EXPONENT_MOST.false in
    let d = c.in_ok-count.ensures in
    let room : c.in_ok-count.count ≤ length c.read_differences.new.differences = omega (arith, d.1, c.read_differences.auto, c.requires.1) in
    let u = c.add_up.ensures in
    let r = times-are s _ _ by _ _ _ _ c.add_up.result _ c.in_ok-count.count c.power_of_ten.result d room c.power_of_ten.ensures (u.answer, u.cells) in
    record { answer = r.0; times = r.1.0; spare = r.1.1 }
