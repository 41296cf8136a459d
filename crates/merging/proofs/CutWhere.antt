-- Cuts by any test of key and time: what a cut leaves, and what follows from that alone.
--   cut_where-well_formed   a cut of a well-formed meaning is well-formed
--   typed_at-cut_where, kind_at-cut_where   nothing where the test passes, and what was there elsewhere; no kind changes
--   cut_where-clash, cut_where-merge      a cut makes no clash, and goes to both sides of a merge
--   cut_where-same, cut_where-cut_where    a cut goes by its test; a cut after a cut is one cut
use Prim.Native.Nat.{ℕ}
use mathlib.Core.Path.{◌≡◌, refl, sym, ap, ◌∙◌, fun_ext}
use mathlib.Core.Bool.{Bool, true, false, ◌||◌}
use mathlib.Core.List.{List, [], ◌∷◌, filter_map}
use mathlib.Core.Option.{Option, none, some, map}
use lib.IntN.{ℤ}
use Rattle.format.specs.declared.Kind.{Kind}
use Rattle.std.specs.Prelude.{if◌then◌else◌}
use Rattle.format.specs.Choice.{Each}
use Rattle.format.specs.Meaning.{Point, Series, Meaning, value_at, series_of}
use Rattle.format.specs.WellFormed.{well_formed}
use Rattle.format.specs.Merge.{merge, kinds_clash}
use Rattle.merging.specs.Lookups.{typed, typed_in, kind_at, typed_at}
use Rattle.merging.specs.Cut.{point_left, outside, with_points, series_left, cut_where}
use Rattle.merging.proofs.Options.{Found, through, unless-none, unless-unless, unless-or_else, map-unless}
use Rattle.merging.proofs.Sorted.{Ascending, at, at_label}
use Rattle.merging.proofs.Kept.{kept-each, kept-ascending, at-kept}
use Rattle.merging.proofs.Orders.{by_time, by_key}
use Rattle.merging.proofs.Facts.{GoodPoint, GoodSeries, facts}
use Rattle.merging.proofs.Lookups.{series_of-at, series-found, series-key, value_at-at, OrderedSeries, ordered, same_typed}
use Rattle.merging.proofs.MergeLaws.{no-clash, merge-well_formed, merge-typed}

-- ---- points

module _ (test : ℤ → Bool) where
  time-kept : (p : Point) → Found (λ q. q.time ≡ p.time) (point_left test p)
  time-kept p = go (test p.time)
    where
      go : (b : Bool) → Found (λ q. q.time ≡ p.time) (if b then none else some p)
      go true = tt
      go false = refl

  good-kept : (i : Kind) (p : Point) → GoodPoint i p → Found (GoodPoint i) (point_left test p)
  good-kept i p g = go (test p.time)
    where
      go : (b : Bool) → Found (GoodPoint i) (if b then none else some p)
      go true = tt
      go false = g

  through-left : (t : ℤ) (x : Option Point) → Found (λ p. p.time ≡ t) x → through (point_left test) x ≡ (if test t then none else x)
  through-left t none h = sym (unless-none (test t))
  through-left t (some p) h = rw h

  value_at-outside : (t : ℤ) (ps : List Point) → Ascending by_time ps →
      value_at t (outside test ps) ≡ (if test t then none else value_at t ps)
  value_at-outside t ps a =
      rw (value_at-at t (outside test ps), at-kept by_time (point_left test) time-kept ps a t, through-left t (at by_time t ps) (at_label by_time t ps), value_at-at t ps)
      (map-unless (λ p. p.value) (test t) (at by_time t ps))

-- ---- series

key-with : (s : Series) (ps : List Point) → Found (λ u. u.key ≡ s.key) (with_points s ps)
key-with s [] = tt
key-with s (p ∷ ps) = refl

kind-with : (s : Series) (ps : List Point) (i : Kind) → map (λ u. u.kind) (with_points s ps) ≡ some i → some s.kind ≡ some i
kind-with s [] i e = cc
kind-with s (p ∷ ps) i e = e

typed-with : (t : ℤ) (s : Series) (ps : List Point) → typed_in t (with_points s ps) ≡ map (typed s.kind) (value_at t ps)
typed-with t s [] = refl
typed-with t s (p ∷ ps) = refl

good-with : (s : Series) (ps : List Point) → GoodSeries s → Each (GoodPoint s.kind) ps → Ascending by_time ps →
    Found GoodSeries (with_points s ps)
good-with s [] g a b = tt
good-with s (p ∷ ps) g a b = record {
  key = g.key;
  non_empty = refl;
  points = a;
  ascending = b;
}

module _ (test : List ℕ → ℤ → Bool) where
  key_left : (s : Series) → Found (λ u. u.key ≡ s.key) (series_left test s)
  key_left s = key-with s (outside (test s.key) s.points)

  good_left : (s : Series) → GoodSeries s → Found GoodSeries (series_left test s)
  good_left s g =
      let left = test s.key in
      good-with s (outside left s.points) g
      (kept-each by_time (point_left left) (time-kept left) (GoodPoint s.kind) (GoodPoint s.kind) (good-kept left s.kind) s.points g.points)
      (kept-ascending by_time (point_left left) (time-kept left) s.points g.ascending)

  -- a cut of a well-formed meaning is well-formed
  pub cut_where-well_formed : (m : Meaning) → well_formed m ≡ true → well_formed (cut_where test m) ≡ true
  unfolding cut_where
  cut_where-well_formed m h =
      let g = (facts m).0 h in
      (facts _).1 (record {
        series = kept-each by_key (series_left test) key_left GoodSeries GoodSeries good_left m g.series;
        ascending = kept-ascending by_key (series_left test) key_left m g.ascending;
      })

  typed-left : (key : List ℕ) (t : ℤ) (x : Option Series) → Found (λ s. s.key ≡ key) x → Found OrderedSeries x →
      typed_in t (through (series_left test) x) ≡ (if test key t then none else typed_in t x)
  typed-left key t none k a = sym (unless-none (test key t))
  typed-left key t (some s) k a =
      rw (typed-with t s (outside (test s.key) s.points), value_at-outside (test s.key) t s.points a.ascending, k)
      (map-unless (typed s.kind) (test key t) (value_at t s.points))

  kind-left : (i : Kind) (x : Option Series) → map (λ s. s.kind) (through (series_left test) x) ≡ some i →
      map (λ s. s.kind) x ≡ some i
  kind-left i none e = e
  kind-left i (some s) e = kind-with s (outside (test s.key) s.points) i e

  module _ (m : Meaning) (h : well_formed m ≡ true) (key : List ℕ) where
    series_of-cut_where : series_of key (cut_where test m) ≡ through (series_left test) (series_of key m)
    unfolding cut_where
    series_of-cut_where =
        rw (series_of-at key (filter_map (series_left test) m), series_of-at key m)
        (at-kept by_key (series_left test) key_left m (ordered m h).ascending key)

    -- nothing where the test passes, and what was there elsewhere
    pub typed_at-cut_where : (t : ℤ) → typed_at key t (cut_where test m) ≡ (if test key t then none else typed_at key t m)
    typed_at-cut_where t =
        ap (typed_in t) series_of-cut_where ∙
        typed-left key t (series_of key m) (series-key key m) (series-found OrderedSeries key m (ordered m h).series)

    -- a cut changes no kind
    pub kind_at-cut_where : (i : Kind) → kind_at key (cut_where test m) ≡ some i → kind_at key m ≡ some i
    kind_at-cut_where i e = kind-left i (series_of key m) (rw series_of-cut_where at e)

-- ---- the laws

-- cutting makes no clash
pub cut_where-clash : (test : List ℕ → ℤ → Bool) (a b : Meaning) → well_formed a ≡ true → well_formed b ≡ true →
    kinds_clash a b ≡ false → kinds_clash (cut_where test a) (cut_where test b) ≡ false
cut_where-clash test a b p q c =
    (no-clash _ _ (ordered _ (cut_where-well_formed test a p)).ascending (ordered _ (cut_where-well_formed test b q)).ascending).1
    (λ key i j e f. (no-clash a b (ordered a p).ascending (ordered b q).ascending).0 c key i j (kind_at-cut_where test a p key i e) (kind_at-cut_where test b q key j f))

-- a cut of a merge that is not refused is the merge of the cuts
pub cut_where-merge : (test : List ℕ → ℤ → Bool) (a b : Meaning) → well_formed a ≡ true → well_formed b ≡ true →
    kinds_clash a b ≡ false → cut_where test (merge a b) ≡ merge (cut_where test a) (cut_where test b)
cut_where-merge test a b p q c =
    let pq = merge-well_formed a b p q c in
    let p' = cut_where-well_formed test a p in
    let q' = cut_where-well_formed test b q in
    let c' = cut_where-clash test a b p q c in
    same_typed _ _ (ordered _ (cut_where-well_formed test _ pq)) (ordered _ (merge-well_formed _ _ p' q' c'))
    (λ key t. rw (typed_at-cut_where test _ pq key t, merge-typed a b p q c key t, merge-typed _ _ p' q' c' key t, typed_at-cut_where test a p key t, typed_at-cut_where test b q key t)
    (unless-or_else (test key t) (typed_at key t b) (typed_at key t a)))

-- a cut goes by its test
pub cut_where-same : {p q : List ℕ → ℤ → Bool} → ((key : List ℕ) (t : ℤ) → p key t ≡ q key t) → (m : Meaning) →
    cut_where p m ≡ cut_where q m
cut_where-same h m = ap (λ test. cut_where test m) (fun_ext (λ key. fun_ext (λ t. h key t)))

-- a cut after a cut is one cut
pub cut_where-cut_where : (p q : List ℕ → ℤ → Bool) (m : Meaning) → well_formed m ≡ true →
    cut_where p (cut_where q m) ≡ cut_where (λ key t. q key t || p key t) m
cut_where-cut_where p q m a =
    let b = cut_where-well_formed q m a in
    same_typed _ _ (ordered _ (cut_where-well_formed p _ b)) (ordered _ (cut_where-well_formed _ m a))
    (λ key t. rw (typed_at-cut_where p _ b key t, typed_at-cut_where q m a key t, typed_at-cut_where _ m a key t) (unless-unless (p key t) (q key t) (typed_at key t m)))
