-- The keys of the index: bytes that are read as some keys are those of the keys, and the keys keep the rules.
--   KeysRead    what keys that are read say of their bytes
--   read-keys   what is read is so laid
use Prim.Native.Nat.{ℕ, zero, suc, ◌+◌, ◌*◌, ◌≤◌}
use mathlib.Core.Path.{◌≡◌, refl, ap, ap₂, sym, subst, ◌∙◌}
use mathlib.Core.Bool.{true}
use mathlib.Core.List.{List, [], ◌∷◌, ◌++◌, map, flat_map, append_assoc}
use mathlib.Core.Option.{none}
use native.Mathlib.Omega.{arith}
use lib.ListN.{length, take, drop, length-drop, take-append-drop}
use lib.Seq.{length-take-le, take-add, drop-cons}
use lib.Dec.{eqb}
use borrow.Author.Tests.{eqb-true}
use Rattle.format.specs.declared.Refusal.TheVariants.{BlockPlace}
use Rattle.format.specs.Choice.{ascends_from, Each}
use Rattle.format.specs.Refusals.{ok}
use Rattle.format.specs.Bytes.{AllBytes}
use Rattle.format.specs.KeyOrder.{key_before}
use Rattle.format.specs.Kinds.{kind_byte}
use Rattle.format.specs.Index.{block_span, IndexKey, key_head_size, length_field, count_field, read_key, key_extent, no_keys, read_keys, key_head}
use Rattle.format.proofs.AllBelow.{below-drop}
use Rattle.format.proofs.Tests.{both_true}
use Rattle.format.proofs.Results.{bind_ok, require-ok}
use Rattle.acceptance.proofs.Parts.{part-below, part-again}
use Rattle.acceptance.proofs.Entries.{Ends, end_of, ends_join, end-append}
use Rattle.format.proofs.Readings.{KeyParts, key-parts}
use Rattle.acceptance.proofs.ReadEntries.{EntriesRead, read-entries}
use Rattle.acceptance.proofs.Keys.{GoodKey, StatedKey, key_out, entries_of}

-- the first bytes, in two parts
parts : (k i j : ℕ) (bs : List ℕ) → k ≡ i + j → take k bs ≡ take i bs ++ take j (drop i bs)
parts k i j bs e = rw e (take-add i j bs)

-- what a key that is read says of its bytes
record KeyRead (x ended : ℕ) (before bs : List ℕ) (k : IndexKey) (last : ℕ) : Type 0 where
  pub good : GoodKey k
  pub above : key_before before k.key ≡ true
  pub ends : Ends ended k.entries
  pub end : last ≡ end_of ended k.entries
  pub stated : AllBytes bs → StatedKey k
  pub bytes : AllBytes bs → take (key_extent bs) bs ≡ key_out k

module _ (x at ended : ℕ) (before bs : List ℕ) (k : IndexKey) (last : ℕ) (p : KeyParts (block_span ended x) at before bs k last) where
  abbrev n : ℕ
  n = length_field bs

  abbrev c : ℕ
  c = count_field bs

  entries : EntriesRead k.kind x ended none c (drop (key_head_size n) bs) k.entries last
  entries =
      read-entries k.kind x c (at + key_head_size n) ended none (drop (key_head_size n) bs) (k.entries, last)
      (omega (arith, p.inside, length-drop (key_head_size n) bs)) p.entries

  key-size : length k.key ≡ n
  key-size = rw p.key-is (length-take-le n (drop 2 bs) (omega (arith, p.inside, length-drop 2 bs)))

  kind-byte : take 1 (drop (n + 2) bs) ≡ kind_byte k.kind ∷ []
  kind-byte = rw (drop-cons bs (n + 2) 0 (omega (arith, p.inside)), p.kind-is)

  head-laid : AllBytes bs → key_head k.key k.kind c ≡ take (n + 5) bs
  head-laid all =
      let size = p.inside in
      let two : take (n + 2) bs ≡ take 2 bs ++ take n (drop 2 bs) = parts (n + 2) 2 n bs (omega arith) in
      let three : take (n + 3) bs ≡ take (n + 2) bs ++ take 1 (drop (n + 2) bs) = parts (n + 3) (n + 2) 1 bs (omega arith) in
      let five : take (n + 5) bs ≡ take (n + 3) bs ++ take 2 (drop (n + 3) bs) = parts (n + 5) (n + 3) 2 bs (omega arith) in
      rw (key-size, p.key-is, five, three, two, kind-byte, part-again bs all 0 2 (omega arith), part-again bs all (n + 3) 2 (omega arith))
      (sym (append_assoc (take 2 bs ++ take n (drop 2 bs)) (kind_byte k.kind ∷ []) (take 2 (drop (n + 3) bs))))

  key-laid : AllBytes bs → take (key_extent bs) bs ≡ key_out k
  key-laid all =
      rw (entries.count, head-laid all)
      (take-add (n + 5) (c * 28) bs ∙ ap (λ (xs : List ℕ). take (n + 5) bs ++ xs) (entries.bytes (below-drop 256 (n + 5) bs all)))

  key-read-from : KeyRead x ended before bs k last
  key-read-from = record {
    good = record { least = rw key-size p.least; most = rw key-size p.most; some = rw entries.count p.some; entries = entries.good; rise = entries.rise };
    above = rw p.key-is p.above;
    ends = entries.ends;
    end = entries.end;
    stated = λ all. record {
      count = omega (arith, entries.count, p.inside, part-below bs all (n + 3) 2 (omega (arith, p.inside)));
      times = entries.stated (below-drop 256 (key_head_size n) bs all);
    };
    bytes = key-laid;
  }

-- what keys that are read say of their bytes
pub record KeysRead (x ended : ℕ) (before bs : List ℕ) (ks : List IndexKey) : Type 0 where
  pub bytes : AllBytes bs → bs ≡ flat_map key_out ks
  pub stated : AllBytes bs → Each StatedKey ks
  pub good : Each GoodKey ks
  pub up : ascends_from key_before before (map (λ k. k.key) ks) ≡ true
  pub ends : Ends ended (entries_of ks)
  pub end : end_of ended (entries_of ks) ≡ x

no_keys_lem : (x at ended : ℕ) (before : List ℕ) (ks : List IndexKey) → no_keys (block_span ended x) at ≡ ok ks → KeysRead x ended before [] ks
unfolding flat_map
no_keys_lem x at ended before ks e =
    let a = require-ok (eqb ended x) BlockPlace at _ ks e in
    let same : [] ≡ ks = cc a.1 in
    subst (λ (q : List IndexKey). KeysRead x ended before [] q) same
    (record { bytes = λ all. refl; stated = λ all. tt; good = tt; up = refl; ends = tt; end = eqb-true ended x a.0 })

-- the first key, and those after it
key_more : (x ended : ℕ) (before bs : List ℕ) (k : IndexKey) (last : ℕ) (ks : List IndexKey) → KeyRead x ended before bs k last
    → KeysRead x last k.key (drop (key_extent bs) bs) ks → KeysRead x ended before bs (k ∷ ks)
unfolding flat_map
key_more x ended before bs k last ks r s =
    record {
      bytes = λ all.
          sym (take-append-drop (key_extent bs) bs) ∙ ap₂ (λ (xs ys : List ℕ). xs ++ ys) (r.bytes all) (s.bytes (below-drop 256 (key_extent bs) bs all));
      stated = λ all. (r.stated all, s.stated (below-drop 256 (key_extent bs) bs all));
      good = (r.good, s.good);
      up = both_true r.above s.up;
      ends = ends_join ended k.entries (entries_of ks) r.ends (subst (λ (i : ℕ). Ends i (entries_of ks)) r.end s.ends);
      end = end-append ended k.entries (entries_of ks) ∙ ap (λ (i : ℕ). end_of i (entries_of ks)) (sym r.end) ∙ s.end;
    }

pub read-keys : (fuel x at ended : ℕ) (before bs : List ℕ) (ks : List IndexKey) → length bs ≤ fuel
    → read_keys fuel (block_span ended x) at before bs ≡ ok ks → KeysRead x ended before bs ks
unfolding read_keys
read-keys zero x at ended before [] ks enough e = no_keys_lem x at ended before ks e
read-keys zero x at ended before (b ∷ bs) ks enough e = absurd (omega arith)
read-keys (suc fuel) x at ended before [] ks enough e = no_keys_lem x at ended before ks e
read-keys (suc fuel) x at ended before (b ∷ bs) ks enough e =
    let a = bind_ok (read_key (block_span ended x) at before (b ∷ bs)) _ ks e in
    let c = bind_ok (read_keys fuel (block_span a.0.1 x) (at + key_extent (b ∷ bs)) a.0.0.key (drop (key_extent (b ∷ bs)) (b ∷ bs))) _ ks a.2 in
    let same : a.0.0 ∷ c.0 ≡ ks = cc c.2 in
    let rest : length (drop (key_extent (b ∷ bs)) (b ∷ bs)) ≤ fuel = omega (arith, length-drop (key_extent (b ∷ bs)) (b ∷ bs)) in
    subst (λ (q : List IndexKey). KeysRead x ended before (b ∷ bs) q) same
    (key_more x ended before (b ∷ bs) a.0.0 a.0.1 c.0
    (key-read-from x at ended before (b ∷ bs) a.0.0 a.0.1 (key-parts (block_span ended x) at before (b ∷ bs) a.0 a.1))
    (read-keys fuel x (at + key_extent (b ∷ bs)) a.0.1 a.0.0.key (drop (key_extent (b ∷ bs)) (b ∷ bs)) c.0
    rest c.1))
