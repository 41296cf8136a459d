-- A roll keeps its rules exactly when it is our writer's of series in order: what each part is laid as is the writer's part.
--   value-laid      a value
--   laters-to, laters-from   points after another
--   points_to, points-from   the points of a key
--   series-to, series-from   a key with its points
--   rolls-to, rolls-from     all series
--   keeps-roll      the roll
use Prim.Native.Nat.{ℕ, ◌^◌, ◌<◌}
use mathlib.Core.Path.{◌≡◌, refl, sym, ap, subst, ◌∙◌}
use mathlib.Core.Logic.{◌↔◌}
use mathlib.Core.Bool.{true, not, ◌&&◌}
use mathlib.Core.List.{List, [], ◌∷◌, ◌++◌, flat_map, append_assoc}
use lib.ListN.{length}
use lib.Seq.{take_at}
use lib.IntN.{ℤ, ◌-ℤ◌, nat_abs}
use lib.Signed.{lt_z, le_z}
use lib.Dec.{ltb, leb, lit<}
use borrow.Author.Tests.{lt-ltb, ltb-true, le-leb, leb-true}
use Rattle.format.specs.declared.Kind.{Kind}
use Rattle.format.specs.declared.Kind.TheVariants.{Integer, Boolean}
use Rattle.format.specs.Limits.{key_most, time_least, time_most}
use Rattle.format.specs.Choice.{every, is_empty, ascends, ascends_from}
use Rattle.format.specs.Bytes.{AllBytes}
use Rattle.format.specs.Varint.{varint}
use Rattle.format.specs.Signed.{zigzag}
use Rattle.format.specs.Kinds.{kind_byte}
use Rattle.format.specs.KeyOrder.{key_fits}
use Rattle.format.specs.Meaning.{Point, Series, Meaning, point_before, series_before}
use Rattle.format.specs.WellFormed.{good_value, good_point, good_series, well_formed, Counted}
use Rattle.format.specs.Roll.{roll_value, roll_later, roll_points, roll_series, writer_roll}
use Rattle.format.proofs.Tests.{and-true, both_left, both_right, both_true, never}
use Rattle.format.proofs.AllBelow.{below-take, below_right, every-of-below}
use Rattle.format.proofs.Orders.{lt-le, le-lt-lt}
use Rattle.section_laws.proofs.Differences.{later-least, later-back, difference-sum, sum-later}
use Rattle.acceptance.specs.Rolls.{ValueBytes, LaterPoints, RollPoints, SeriesBytes, RollBytes, KeepsRoll}

-- ---- points

value-laid : (kind : Kind) (v : ℕ) (bs : List ℕ) → ValueBytes kind v bs ↔ ((good_value kind v ≡ true) × (bs ≡ roll_value kind v))
value-laid Integer v bs = (λ (fits, is). (lt-ltb v (2 ^ 64) fits, is), λ (good, is). (ltb-true v (2 ^ 64) good, is))
value-laid Boolean v bs = (λ (few, is). (le-leb v 1 few, is), λ (good, is). (leb-true v 1 good, is))

module _ (kind : Kind) where
  -- what a point is laid as, with what follows it
  later-bytes : (before : ℤ) (p : Point) (ps : List Point)
      → varint (nat_abs (p.time -ℤ before)) ++ (roll_value kind p.value ++ roll_later kind p.time ps) ≡ roll_later kind before (p ∷ ps)
  later-bytes before p ps = sym (append_assoc (varint (nat_abs (p.time -ℤ before))) (roll_value kind p.value) (roll_later kind p.time ps))

  first-bytes : (p : Point) (ps : List Point)
      → varint (zigzag p.time) ++ (roll_value kind p.value ++ roll_later kind p.time ps) ≡ roll_points kind (p ∷ ps)
  first-bytes p ps = sym (append_assoc (varint (zigzag p.time)) (roll_value kind p.value) (roll_later kind p.time ps))

  laters-to : (q : Point) (ps : List Point) (bs : List ℕ) → le_z time_least q.time ≡ true → LaterPoints kind q.time ps bs
      → (bs ≡ roll_later kind q.time ps) × (every (good_point kind) ps ≡ true) × (ascends_from point_before q ps ≡ true)
  laters-to q [] bs low is = (is, refl, refl)
  laters-to q (p ∷ ps) bs low (later, l, rest) =
      let after : lt_z q.time p.time ≡ true =
      subst (λ (t : ℤ). lt_z q.time t ≡ true) (sym l.time) (sum-later q.time l.difference l.least) in
      let above : le_z time_least p.time ≡ true = lt-le time_least p.time (le-lt-lt time_least q.time p.time low after) in
      let apart : nat_abs (p.time -ℤ q.time) ≡ l.difference =
      ap (λ (t : ℤ). nat_abs (t -ℤ q.time)) l.time ∙ difference-sum q.time l.difference in
      let (good, value) = (value-laid kind p.value l.value).0 l.value_bytes in
      let (is, all, up) = laters-to p ps later above rest in (
        l.bytes ∙ rw (← apart, value, is) (later-bytes q.time p ps),
        both_true (both_true (both_true above l.most) good) all,
        both_true after up,
      )

  laters-from : (q : Point) (ps : List Point) → every (good_point kind) ps ≡ true → ascends_from point_before q ps ≡ true
      → LaterPoints kind q.time ps (roll_later kind q.time ps)
  laters-from q [] all up = refl
  laters-from q (p ∷ ps) all up =
      let after = both_left (point_before q p) (ascends_from point_before p ps) up in
      let good = (and-true (le_z time_least p.time && le_z p.time time_most) (good_value kind p.value)).0 (both_left (good_point kind p) (every (good_point kind) ps) all) in (
        roll_later kind p.time ps,
        record {
          difference = nat_abs (p.time -ℤ q.time);
          value = roll_value kind p.value;
          least = later-least q.time p.time after;
          time = sym (later-back q.time p.time after);
          most = both_right (le_z time_least p.time) (le_z p.time time_most) good.0;
          value_bytes = (value-laid kind p.value (roll_value kind p.value)).1 (good.1, refl);
          bytes = sym (later-bytes q.time p ps);
        },
        laters-from p ps (both_right (good_point kind p) (every (good_point kind) ps) all) (both_right (point_before q p) (ascends_from point_before p ps) up),
      )

  points_to : (ps : List Point) (bs : List ℕ) → RollPoints kind ps bs
      → (bs ≡ roll_points kind ps) × (not (is_empty ps) ≡ true) × (every (good_point kind) ps ≡ true) × (ascends point_before ps ≡ true)
  points_to [] bs f = absurd f
  points_to (p ∷ ps) bs f =
      let (good, value) = (value-laid kind p.value f.value).0 f.value_bytes in
      let (is, all, up) = laters-to p ps f.later f.time.least f.points in (
        f.bytes ∙ rw (value, is) (first-bytes p ps),
        refl,
        both_true (both_true (both_true f.time.least f.time.most) good) all,
        up,
      )

  points-from : (ps : List Point) → not (is_empty ps) ≡ true → every (good_point kind) ps ≡ true → ascends point_before ps ≡ true
      → RollPoints kind ps (roll_points kind ps)
  points-from [] some all up = never some refl
  points-from (p ∷ ps) some all up =
      let good = (and-true (le_z time_least p.time && le_z p.time time_most) (good_value kind p.value)).0 (both_left (good_point kind p) (every (good_point kind) ps) all) in
      let (least, most) = (and-true (le_z time_least p.time) (le_z p.time time_most)).0 good.0 in
      record {
        value = roll_value kind p.value;
        later = roll_later kind p.time ps;
        time = record { least = least; most = most };
        value_bytes = (value-laid kind p.value (roll_value kind p.value)).1 (good.1, refl);
        bytes = sym (first-bytes p ps);
        points = laters-from p ps (both_right (good_point kind p) (every (good_point kind) ps) all) up;
      }

-- ---- a series

module _ (s : Series) where
  -- a series by its parts
  whole : roll_series s ≡ varint (length s.key) ++ (s.key ++ (kind_byte s.kind ∷ (varint (length s.points) ++ roll_points s.kind s.points)))
  unfolding roll_series
  whole = simp append_assoc

  key_below : (bs rest : List ℕ) → bs ≡ varint (length s.key) ++ (s.key ++ rest) → AllBytes bs → every (λ b. ltb b 256) s.key ≡ true
  key_below bs rest is all =
      every-of-below 256 s.key
      (subst AllBytes (take_at s.key rest (length s.key) refl)
      (below-take 256 (lit< tt) (length s.key) (s.key ++ rest) (below_right 256 (varint (length s.key)) (s.key ++ rest) bs is all)))

  series-to : (bs : List ℕ) → AllBytes bs → SeriesBytes s bs → (bs ≡ roll_series s) × (good_series s ≡ true) × (length s.points < 2 ^ 64)
  unfolding good_series
  series-to bs all l =
      let (is, some, good, up) = points_to s.kind s.points l.points l.point_bytes in
      let fits : key_fits (length s.key) ≡ true = both_true (le-leb 1 (length s.key) l.length_least) (le-leb (length s.key) key_most l.length_most) in (
        l.bytes ∙ rw is (sym whole),
        both_true (both_true (both_true (both_true fits (key_below bs _ l.bytes all)) some) good) up,
        l.count,
      )

  series-from : good_series s ≡ true → length s.points < 2 ^ 64 → SeriesBytes s (roll_series s)
  unfolding good_series
  series-from good few =
      let size = key_fits (length s.key) in
      let bytes = every (λ b. ltb b 256) s.key in
      let some = not (is_empty s.points) in
      let points = every (good_point s.kind) s.points in
      let (four, up) = (and-true (size && bytes && some && points) (ascends point_before s.points)).0 good in
      let (three, all) = (and-true (size && bytes && some) points).0 four in
      let (two, one) = (and-true (size && bytes) some).0 three in
      let fits = both_left size bytes two in
      record {
        points = roll_points s.kind s.points;
        length_least = leb-true 1 (length s.key) (both_left (leb 1 (length s.key)) (leb (length s.key) key_most) fits);
        length_most = leb-true (length s.key) key_most (both_right (leb 1 (length s.key)) (leb (length s.key) key_most) fits);
        count = few;
        point_bytes = points-from s.kind s.points one all up;
        bytes = whole;
      }

-- ---- the roll

rolls-to : (m : Meaning) (bs : List ℕ) → AllBytes bs → RollBytes m bs → (bs ≡ writer_roll m) × (every good_series m ≡ true) × Counted m
unfolding flat_map
rolls-to [] bs all is = (is, refl, tt)
rolls-to (s ∷ m) bs all (first, later, l, is, rest) =
    let joined : AllBytes (first ++ later) = subst AllBytes is all in
    let one : AllBytes first = subst AllBytes (take_at first later (length first) refl) (below-take 256 (lit< tt) (length first) (first ++ later) joined) in
    let (here, good, few) = series-to s first one l in
    let (there, all-good, counts) = rolls-to m later (below_right 256 first later bs is all) rest in
    (is ∙ rw (here, there), both_true good all-good, (few, counts))

rolls-from : (m : Meaning) → every good_series m ≡ true → Counted m → RollBytes m (writer_roll m)
unfolding flat_map
rolls-from [] good counts = refl
rolls-from (s ∷ m) good counts = (
  roll_series s,
  writer_roll m,
  series-from s (both_left (good_series s) (every good_series m) good) counts.0,
  refl,
  rolls-from m (both_right (good_series s) (every good_series m) good) counts.1,
)

pub keeps-roll : (roll : List ℕ) (m : Meaning) → AllBytes roll
    → KeepsRoll roll m ↔ ((roll ≡ writer_roll m) × (well_formed m ≡ true) × Counted m)
unfolding well_formed
keeps-roll roll m all = (
  λ k. let (is, good, counts) = rolls-to m roll all k.bytes in (is, both_true good k.ascending, counts),
  λ (is, good, counts). record {
    bytes = subst (RollBytes m) (sym is) (rolls-from m (both_left (every good_series m) (ascends series_before m) good) counts);
    ascending = both_right (every good_series m) (ascends series_before m) good;
  },
)
