-- The block entries of a key: bytes that are read as some entries are those of the entries, and the entries keep the rules.
--   EntriesRead    what entries that are read say of their bytes
--   read-entries   what is read is so laid
use Prim.Native.Nat.{ℕ, zero, suc, ◌+◌, ◌*◌, ◌≤◌}
use mathlib.Core.Path.{◌≡◌, refl, ap, ap₂, sym, subst, ◌∙◌}
use mathlib.Core.Bool.{◌&&◌}
use mathlib.Core.List.{List, [], ◌∷◌, ◌++◌, flat_map}
use mathlib.Core.Option.{Option, some}
use native.Mathlib.Omega.{arith}
use lib.IntN.{ℤ}
use lib.Signed.{le_z}
use lib.ListN.{length, take, drop, length-drop}
use lib.Seq.{take-add}
use lib.Dec.{eqb, leb}
use borrow.Author.Tests.{leb-true, eqb-true}
use Rattle.format.specs.declared.Kind.{Kind}
use Rattle.format.specs.declared.Entry.{Entry}
use Rattle.format.specs.declared.Refusal.TheVariants.{TimeOrder, BlockPlace}
use Rattle.format.specs.Refusals.{ok}
use Rattle.format.specs.Bytes.{big_endian, AllBytes}
use Rattle.format.specs.Index.{block_span, entry_size, entry_from, above_max, check_entry, read_entries}
use Rattle.format.proofs.AllBelow.{below-drop}
use Rattle.numbers.proofs.TwosComplement.{signed_below, pattern-signed}
use Rattle.format.specs.Choice.{Each}
use Rattle.format.proofs.Tests.{both_left, both_right}
use Rattle.format.proofs.Results.{bind_ok, require-ok, test-ok}
use Rattle.acceptance.proofs.Parts.{part-below, part-again}
use Rattle.acceptance.proofs.Entries.{GoodEntry, Stated, Rises, Ends, end_of, entry_out}

module _ (kind : Kind) (bs : List ℕ) (all : AllBytes bs) (inside : 28 ≤ length bs) where
  entry-again : entry_out (entry_from kind bs) ≡ take 28 bs
  entry-again =
      rw (
        pattern-signed (big_endian (take 8 bs)) (part-below bs all 0 8 (omega arith)),
        pattern-signed (big_endian (take 8 (drop 8 bs))) (part-below bs all 8 8 (omega arith)),
        part-again bs all 0 8 (omega arith),
        part-again bs all 8 8 (omega arith),
        part-again bs all 16 8 (omega arith),
        part-again bs all 24 4 (omega arith),
      )
      (sym
      (take-add 24 4 bs
      ∙ ap (λ (xs : List ℕ). xs ++ take 4 (drop 24 bs)) (take-add 16 8 bs ∙ ap (λ (xs : List ℕ). xs ++ take 8 (drop 16 bs)) (take-add 8 8 bs))))

-- what entries that are read say of their bytes
pub record EntriesRead (kind : Kind) (x ended : ℕ) (before : Option ℤ) (k : ℕ) (bs : List ℕ) (es : List Entry) (last : ℕ) : Type 0 where
  pub count : length es ≡ k
  pub bytes : AllBytes bs → take (k * 28) bs ≡ flat_map entry_out es
  pub good : Each (GoodEntry kind) es
  pub stated : AllBytes bs → Each Stated es
  pub rise : Rises before es
  pub ends : Ends ended es
  pub end : last ≡ end_of ended es

module _ (kind : Kind) (x : ℕ) where
  -- the first entry, and those after it
  entry_more : (at ended : ℕ) (before : Option ℤ) (k : ℕ) (bs : List ℕ) (es : List Entry) (last : ℕ) → 28 ≤ length bs
      → check_entry (block_span ended x) at before (entry_from kind bs) ≡ ok tt
      → EntriesRead kind x (ended + (entry_from kind bs).size) (some (entry_from kind bs).max) k (drop 28 bs) es last
      → EntriesRead kind x ended before (suc k) bs (entry_from kind bs ∷ es) last
  unfolding check_entry flat_map
  entry_more at ended before k bs es last inside checked r =
      let e = entry_from kind bs in
      let more : suc k * 28 ≡ 28 + k * 28 = omega arith in
      let a = require-ok (le_z e.min e.max && above_max before e.min) TimeOrder at _ tt checked in
      let b = test-ok (eqb e.offset.0 ended && leb 4 e.size && leb (e.offset.0 + e.size) x) BlockPlace (at + 16) a.1 in
      let c = both_left (eqb e.offset.0 ended && leb 4 e.size) (leb (e.offset.0 + e.size) x) b in
      record {
        count = ap suc r.count;
        bytes = λ all.
            ap (λ (n : ℕ). take n bs) more ∙ take-add 28 (k * 28) bs
            ∙ ap₂ (λ (xs ys : List ℕ). xs ++ ys) (sym (entry-again kind bs all inside)) (r.bytes (below-drop 256 28 bs all));
        good = (
          record { same = refl; size = leb-true 4 e.size (both_right (eqb e.offset.0 ended) (leb 4 e.size) c) },
          r.good,
        );
        stated = λ all. (
          record {
            min = signed_below (big_endian (take 8 bs)) (part-below bs all 0 8 (omega arith));
            max = signed_below (big_endian (take 8 (drop 8 bs))) (part-below bs all 8 8 (omega arith));
          },
          r.stated (below-drop 256 28 bs all),
        );
        rise = (
          both_left (le_z e.min e.max) (above_max before e.min) a.0,
          both_right (le_z e.min e.max) (above_max before e.min) a.0,
          r.rise,
        );
        ends = (eqb-true e.offset.0 ended (both_left (eqb e.offset.0 ended) (leb 4 e.size) c), r.ends);
        end = r.end;
      }

  pub read-entries : (k at ended : ℕ) (before : Option ℤ) (bs : List ℕ) (r : List Entry × ℕ) → k * 28 ≤ length bs
      → read_entries kind k (block_span ended x) at before bs ≡ ok r → EntriesRead kind x ended before k bs r.0 r.1
  unfolding read_entries flat_map
  read-entries zero at ended before bs r inside e =
      let same : ◌≡◌ {A = List Entry × ℕ} ([], ended) r = cc in
      subst (λ (q : List Entry × ℕ). EntriesRead kind x ended before 0 bs q.0 q.1) same
      (record { count = refl; bytes = λ all. refl; good = tt; stated = λ all. tt; rise = tt; ends = tt; end = refl })
  read-entries (suc k) at ended before bs r inside e =
      let f = entry_from kind bs in
      let a = bind_ok (check_entry (block_span ended x) at before f) _ r e in
      let b = bind_ok (read_entries kind k (block_span (ended + f.size) x) (at + entry_size) (some f.max) (drop entry_size bs)) _ r a.2 in
      let same : (f ∷ b.0.0, b.0.1) ≡ r = cc b.2 in
      subst (λ (q : List Entry × ℕ). EntriesRead kind x ended before (suc k) bs q.0 q.1) same
      (entry_more at ended before k bs b.0.0 b.0.1 (omega arith) a.1
      (read-entries k (at + entry_size) (ended + f.size) (some f.max) (drop 28 bs) b.0 (omega (arith, length-drop 28 bs)) b.1))
