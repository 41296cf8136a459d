-- How many points a good block has, by its timestamps.
--   head-known            T is a number
--   Counted, counted      the timestamps after it: they are read, and there are as many as points
use Rattle.std.specs.Prelude.{Result, Ok}
use Prim.Native.Nat.{ℕ, ◌+◌, ◌-◌, ◌≤◌}
use mathlib.Core.Path.{◌≡◌, sym, ap, ◌∙◌}
use mathlib.Core.Bool.{true}
use mathlib.Core.List.{List}
use native.Mathlib.Omega.{arith}
use lib.IntN.{ℤ}
use lib.ListN.{length, take, drop, length-drop}
use Rattle.format.specs.declared.Kind.{Kind}
use Rattle.format.specs.declared.Entry.{Entry}
use Rattle.format.specs.declared.Broken.{Broken}
use Rattle.format.specs.declared.Fault.{Fault}
use Rattle.format.specs.Refusals.{Outcome, ok, refused, is_ok, told}
use Rattle.format.specs.Timestamps.{read_times}
use Rattle.format.specs.Block.{read_block}
use Rattle.format.proofs.Results.{shifted, refused-not, ok-path}
use Rattle.format.proofs.Readings.{sections-parts}
use Rattle.format.proofs.Points.{points-length}
use Rattle.numbers.specs.VarintAt.{varint_at, number, broken}
use Rattle.block.specs.Answers.{block_answer}
use Rattle.booleans.proofs.Values.{values-count}
use Rattle.block.proofs.Sections.{times-at}
use Rattle.block.proofs.Bodies.{Good, head-number, sections-broken}

unshifted : (d : ℕ) (a : Outcome (List ℤ)) (ts : List ℤ) → shifted d a ≡ ok ts → a ≡ ok ts
unshifted d (ok us) ts e = e
unshifted d (refused r place) ts e = refused-not e

module _ (entry : Entry) (s : List ℕ) (good : Good entry s) where
  abbrev kind : Kind
  kind = entry.kind

  abbrev offset : ℕ
  offset = entry.offset.0

  pub head-known : (place : ℕ) → varint_at s 5 ≡ broken place → ⊥
  head-known place b = refused-not (sym (sections-broken kind offset s good.long place b) ∙ good.sections)

  module _ (t next : ℕ) (is : varint_at s 5 ≡ number t next) where
    pub record Counted : Type 0 where
      pub within : next + t ≤ length s
      pub read : is_ok (read_times 0 (take (next + t - next) (drop next s))) ≡ true
      pub count : (n : ℕ) → Ok n ≡ told length (read_times 0 (take (next + t - next) (drop next s))) → Ok n ≡ block_answer (read_block entry s)

    pub counted : next ≤ length s → Counted
    counted inside =
        let p = sections-parts kind (5 + offset) (drop 5 s) good.points good.sections in
        let same : ◌≡◌ {A = ℕ × ℕ × List ℕ} (p.T, p.section, p.rest) (t, next + offset, drop next s) =
        ok-path (sym p.length-read ∙ head-number kind offset s good.long t next is) in
        let size : p.T ≡ t = ap (λ (v : ℕ × ℕ × List ℕ). v.0) same in
        let rest : p.rest ≡ drop next s = ap (λ (v : ℕ × ℕ × List ℕ). v.2) same in
        let width : next + t - next ≡ p.T = omega arith in
        let part = take p.T p.rest in
        let read : read_times 0 (take (next + t - next) (drop next s)) ≡ ok p.times =
        rw (width, ← rest) (unshifted p.section (read_times 0 part) p.times (sym (times-at p.section part) ∙ p.times-read)) in
        let values = values-count kind (length p.times) (p.section + p.T) (drop p.T p.rest) p.values p.values-read in
        let many : length p.times ≡ length good.points = sym (ap length p.points ∙ points-length p.times p.values values) in
        record {
          within = omega (arith, p.less, ap length rest, length-drop next s);
          read = ap is_ok read;
          count = λ n e.
              let here : ◌≡◌ {A = Result ℕ Broken} (Ok n) (Ok (length p.times)) = e ∙ ap (told length) read in
              let counts : n ≡ length p.times = cc in
              ap {B = Result ℕ Fault} Ok (counts ∙ many) ∙ sym (ap block_answer good.read);
        }
