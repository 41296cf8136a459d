-- The steps of a pass within a key: what each asks holds, and after it what the next asks.
--   past-key                                  a place of the open key is past every image
--   extend_fits, extended-fill, extend-filling, extend-comes, extend_same   points are added
--   end_fits, end_same                        the key is closed
use Prim.Native.Nat.{ℕ, ◌+◌, ◌≤◌, ◌<◌}
use mathlib.Core.Path.{◌≡◌, refl, sym, subst, ap, ◌∙◌}
use mathlib.Core.Bool.{Bool, true, false}
use mathlib.Core.List.{List, [], ◌++◌, append_assoc}
use native.Mathlib.Omega.{arith}
use lib.ListN.{length, take, length-take}
use borrow.Author.Tests.{ltb-true, ltb-false}
use Rattle.format.specs.declared.Kind.{Kind}
use Rattle.format.specs.Limits.{writer_block_most, image_most}
use Rattle.format.specs.Choice.{every, ascends}
use Rattle.format.specs.Meaning.{Point, point_before}
use Rattle.format.specs.WellFormed.{good_point}
use Rattle.section_laws.proofs.BlockLengths.{block_bytes-most}
use Rattle.format.specs.declared.Columns.{Columns}
use Rattle.format.specs.Block.{filled}
use Rattle.builder.specs.declared.Builder.{Builder}
use Rattle.builder.specs.declared.Mode.{Mode}
use Rattle.builder.specs.declared.Places.{Places}
use Rattle.builder.specs.Modes.{lays, start_of}
use Rattle.builder.specs.Open.{entries_left}
use Rattle.numbers.specs.Laying.{Room}
use Rattle.builder.specs.Steps.{first_points, in_fill, FillFits, FlushFits, ExtendFits, EndFits, CountFits, KeyFits, Closed, key_end, closed_key, stays, fill_places, flush_places, flush_bytes, extend_places, extend_bytes, extend_fill, end_places, end_bytes}
use Rattle.builder.proofs.Lefts.{Cut, ends-full, ends_last, grown-entries}
use Rattle.builder.proofs.Fills.{extend-stays, extend-flushes, extend-fill}
use Rattle.format.proofs.Tests.{never}
use Rattle.builder.proofs.Futures.{end-future}
use Rattle.builder.proofs.Extends.{fits-same, extend-future, flush-room, flush-kept, entries-length}
use Rattle.builder.specs.Passes.{Near, KeyRoom, KeyOpen, Filling, Past}
use Rattle.builder.proofs.Fillings.{every-right, ascends-right, fill-ascends, fill-of-kind, points-within}

-- ---- past every image

pub past-key : (mode : Mode) (kind : Kind) (f ps : List Point) (s : Places) (out : List ℕ) → (s.ends.block.0 ≤ image_most → s.ends.entry.0 ≤ image_most → ⊥) → Past (key_end mode kind f ps s out)
unfolding key_end
past-key mode kind f ps s out h = record { past = λ b e. h (omega (arith, b)) (omega (arith, e)) }

-- ---- points qs are added to the fill f, and ps are to come

module _ (mode : Mode) (kind : Kind) (f qs ps : List Point) (s : Places) (out : List ℕ) (h : KeyOpen mode kind f (qs ++ ps) s out) (most : length (f ++ qs) ≤ writer_block_most) where
  abbrev f' : List Point
  f' = f ++ qs

  still-good : every (good_point kind) (f' ++ ps) ≡ true
  still-good = rw (append_assoc f qs ps) h.good

  still-ascend : ascends point_before (f' ++ ps) ≡ true
  still-ascend = rw (append_assoc f qs ps) h.ascend

  key_fits : lays mode ≡ true → KeyFits (start_of mode) kind f' ps s out
  key_fits l = fits-same mode kind f qs ps s out (start_of mode) (h.room l).fits

  key-most : lays mode ≡ true → start_of mode + s.ends.entry.0 + length (entries_left kind s.ends.block.0 f' ps) ≤ image_most
  key-most l = rw (grown-entries f qs ps kind s.ends.block.0) (h.room l).most

  filled-open : length f' < writer_block_most → KeyOpen mode kind f' ps (fill_places (length f') s) out
  unfolding fill_places
  filled-open few = record {
    fill = refl;
    few = few;
    good = still-good;
    ascend = still-ascend;
    counted = h.counted;
    places-fit = record { block-most = h.places-fit.block-most; entry-most = h.places-fit.entry-most; blocks-most = h.places-fit.blocks-most };
    room = λ l. record {
      fits = record { blocks = (key_fits l).blocks; count = (key_fits l).count; entries = (key_fits l).entries };
      most = key-most l;
    };
  }

  module _ (full : length f' ≡ writer_block_most) where
    ends : Cut f' ps
    ends = ends-full f' ps full

    flushed-fits : lays mode ≡ true → KeyFits (start_of mode) kind [] ps (flush_places kind f' s) (flush_bytes mode kind f' s out)
    flushed-fits l = go mode l (key_fits l)
      where
        go : (m : Mode) → lays m ≡ true → KeyFits (start_of m) kind f' ps s out → KeyFits (start_of m) kind [] ps (flush_places kind f' s) (flush_bytes m kind f' s out)
        go (Mode.Lay start) l fits = flush-kept kind f' ps ends s start out fits
        go Mode.Measure l fits = never l refl

    flushed-room : lays mode ≡ true → KeyRoom (start_of mode) kind [] ps (flush_places kind f' s) (flush_bytes mode kind f' s out)
    unfolding flush_places
    flushed-room l = record { fits = flushed-fits l; most = omega (arith, key-most l, entries-length kind f' ps ends s) }

    flushed-open : Near s.ends → KeyOpen mode kind [] ps (flush_places kind f' s) (flush_bytes mode kind f' s out)
    unfolding flush_places
    flushed-open near = record {
      fill = refl;
      few = omega arith;
      good = every-right (good_point kind) f' ps still-good;
      ascend = ascends-right point_before f' ps still-ascend;
      counted = omega (arith, h.counted);
      places-fit = record {
        block-most = omega (arith, near.block_near, full, block_bytes-most kind f' (omega (arith, full)));
        entry-most = omega (arith, near.entry-near);
        blocks-most = omega (arith, near.entry-near, h.counted);
      };
      room = flushed-room;
    }

  extend-open : Near s.ends → KeyOpen mode kind (extend_fill f') ps (extend_places kind f' s) (extend_bytes mode kind f' s out)
  extend-open near = go (stays f') refl
    where
      same : {g g' : List Point} {q q' : Places} {x x' : List ℕ} → g ≡ g' → q ≡ q' → x ≡ x' → KeyOpen mode kind g' ps q' x' → KeyOpen mode kind g ps q x
      same a b c k = rw (a, b, c) k

      go : (b : Bool) → stays f' ≡ b → KeyOpen mode kind (extend_fill f') ps (extend_places kind f' s) (extend_bytes mode kind f' s out)
      go true e =
          let k = extend-stays mode kind f' s out e in
          same k.2 k.0 k.1 (filled-open (ltb-true (length f') writer_block_most e))
      go false e =
          let k = extend-flushes mode kind f' s out e in
          same k.2 k.0 k.1 (flushed-open (omega (arith, most, ltb-false (length f') writer_block_most e)) near)

  -- where the fill is full, there is room for its block
  extend-room : writer_block_most ≤ length f' → FlushFits mode kind f' s out
  extend-room full = go mode key_fits
    where
      go : (m : Mode) → (lays m ≡ true → KeyFits (start_of m) kind f' ps s out) → FlushFits m kind f' s out
      go (Mode.Lay start) fits = flush-room kind f' ps (ends-full f' ps (omega (arith, most, full))) s start out (fits refl)
      go Mode.Measure fits = record { block_room = tt; entry-room = tt }

-- ---- the same, of a builder

-- the first n points, with ps after them, make a block
fill-fits : (n : ℕ) (b : Builder) (ps : List Point) → length (first_points n b) ≡ n → 1 ≤ n → n ≤ writer_block_most
    → every (good_point b.kind) (first_points n b ++ ps) ≡ true → ascends point_before (first_points n b ++ ps) ≡ true → FillFits n b
fill-fits n b ps count some most good ascend =
    let ts = take n b.fill.times in
    let vs = take n b.fill.values in
    let within = points-within ts vs in
    let in-ts : length ts ≡ n = omega (arith, within.0, count, length-take n b.fill.times) in
    let in-vs : length vs ≡ n = omega (arith, within.1, count, length-take n b.fill.values) in
    let same : length ts ≡ length vs = omega (arith, in-ts, in-vs) in
    record {
      most = most;
      block = record {
        times-fit = record { count = (omega (arith, in-ts, some), omega (arith, in-ts, most)); ascend = fill-ascends ts vs ps same ascend };
        values-fit = record { count = (omega (arith, in-vs, some), omega (arith, in-vs, most)); of-kind = fill-of-kind b.kind ts vs ps same good };
        same = sym same;
      };
    }

-- points are added: the first n points of the cells `fill` are those of the builder and ps, and qs are to come
module _ (ps qs : List Point) (b : Builder) (out : List ℕ) (h : Filling (ps ++ qs) b out) (n : ℕ) (fill : Columns writer_block_most)
    (points : filled n fill.times fill.values ≡ in_fill b ++ ps) (count : length (filled n fill.times fill.values) ≡ n) (most : n ≤ writer_block_most) where
  abbrev more : Builder
  more = record { mode = b.mode; kind = b.kind; places = b.places; fill = fill }

  abbrev grown : List Point
  grown = in_fill b ++ ps

  grown-length : length grown ≡ n
  grown-length = sym (ap length points) ∙ count

  grown-few : length grown ≤ writer_block_most
  grown-few = omega (arith, grown-length, most)

  with-points : filled n fill.times fill.values ++ qs ≡ in_fill b ++ (ps ++ qs)
  with-points = ap (λ (rs : List Point). rs ++ qs) points ∙ append_assoc (in_fill b) ps qs

  pub extend_fits : ExtendFits n more out
  extend_fits = record {
    most = most;
    count = count;
    places-fit = h.places-fit;
    block-fits = λ full. fill-fits n more qs count (omega (arith, full)) most (rw with-points h.good) (rw with-points h.ascend);
    flush-fits = λ full.
        subst (λ (f : List Point). FlushFits b.mode b.kind f b.places out) (sym points)
        (extend-room b.mode b.kind (in_fill b) ps qs b.places out h grown-few (omega (arith, grown-length, full)));
  }

  -- the builder and the bytes after it
  abbrev extended : Builder
  extended = record { mode = b.mode; kind = b.kind; places = extend_places b.kind (filled n fill.times fill.values) b.places; fill = fill }

  module _ (out' : List ℕ) (laid : out' ≡ extend_bytes b.mode b.kind (filled n fill.times fill.values) b.places out) where
    pub extended-fill : in_fill extended ≡ extend_fill grown
    extended-fill = extend-fill b.kind n fill.times fill.values b.places count ∙ ap extend_fill points

    places-are : extended.places ≡ extend_places b.kind grown b.places
    places-are = ap (λ (f : List Point). extend_places b.kind f b.places) points

    laid-are : out' ≡ extend_bytes b.mode b.kind grown b.places out
    laid-are = laid ∙ ap (λ (f : List Point). extend_bytes b.mode b.kind f b.places out) points

    pub extend-filling : Near b.places.ends → Filling qs extended out'
    extend-filling near = rw (extended-fill, places-are, laid-are) (extend-open b.mode b.kind (in_fill b) ps qs b.places out h grown-few near)

    -- whatever rs is to come, where nothing is laid
    pub extend-comes : (rs : List Point) → (lays b.mode ≡ true → rs ≡ qs) → closed_key rs extended out' ≡ closed_key (ps ++ rs) b out
    extend-comes rs all =
        rw (extended-fill, places-are, laid-are)
        (extend-future b.mode b.kind (in_fill b) ps rs b.places out grown-few
        (λ l. subst (λ (l : List Point). KeyFits (start_of b.mode) b.kind (in_fill b) (ps ++ l) b.places out) (sym (all l)) (h.room l).fits))

    pub extend_same : closed_key qs extended out' ≡ closed_key (ps ++ qs) b out
    extend_same = extend-comes qs (λ l. refl)

-- ---- the key is closed

module _ (b : Builder) (out : List ℕ) (h : Filling [] b out) where
  few : b.places.filled < writer_block_most
  few = omega (arith, h.fill, h.few)

  last-room : 1 ≤ b.places.filled → FlushFits b.mode b.kind (in_fill b) b.places out
  last-room some = go b.mode (λ l. (h.room l).fits)
    where
      go : (m : Mode) → (lays m ≡ true → KeyFits (start_of m) b.kind (in_fill b) [] b.places out) → FlushFits m b.kind (in_fill b) b.places out
      go (Mode.Lay start) fits =
          let some' : 1 ≤ length (in_fill b) = omega (arith, h.fill, some) in
          flush-room b.kind (in_fill b) [] (ends_last (in_fill b) some' (omega (arith, h.few))) b.places start out (fits refl)
      go Mode.Measure fits = record { block_room = tt; entry-room = tt }

  count-fits : CountFits (lays b.mode) (b.places.blocks + 1)
  count-fits = go b.mode (λ l. h.room l)
    where
      go : (m : Mode) → (lays m ≡ true → KeyRoom (start_of m) b.kind (in_fill b) [] b.places out) → CountFits (lays m) (b.places.blocks + 1)
      go (Mode.Lay start) room = omega (arith, h.counted, (room refl).most)
      go Mode.Measure room = tt

  count-room : Room (lays b.mode) (start_of b.mode + b.places.count.0 + 2) out
  count-room = go b.mode (λ l. (h.room l).fits)
    where
      go : (m : Mode) → (lays m ≡ true → KeyFits (start_of m) b.kind (in_fill b) [] b.places out) → Room (lays m) (start_of m + b.places.count.0 + 2) out
      go (Mode.Lay start) fits = omega (arith, (fits refl).count, (fits refl).entries)
      go Mode.Measure fits = tt

  pub end_fits : EndFits b out
  end_fits = record {
    places-fit = h.places-fit;
    block-fits = λ some. fill-fits b.places.filled b [] h.fill some (omega (arith, few)) h.good h.ascend;
    flush-fits = last-room;
    count-fits = count-fits;
    count-room = count-room;
  }

  pub end_same : (out' : List ℕ) → out' ≡ end_bytes b.mode b.kind (in_fill b) b.places out
      → ◌≡◌ {A = Closed} (record { ends = (end_places b.kind (in_fill b) b.places).ends; bytes = out' }) (closed_key [] b out)
  end_same out' e = rw e (sym (end-future b.mode b.kind (in_fill b) b.places out (omega (arith, h.few)) (λ l. (h.room l).fits)))
