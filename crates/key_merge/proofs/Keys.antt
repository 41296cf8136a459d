-- The next key of two images: the merge of what is left begins with its series, and the kinds are asked of it.
--   older-first, newer-first, clash-first, clash-second   a series before all of the other image
--   Turned, turned                the next series of the merge, and those after it
--   clash-turn, still-up, clash-none   the kinds
--   order-says, before-none, ordered-turn     which key is next
use Prim.Native.Nat.{ℕ, ◌+◌, ◌≤◌, ◌<◌}
use mathlib.Core.Path.{◌≡◌, refl, ap, ap₂, sym, subst, ◌∙◌}
use mathlib.Core.Bool.{Bool, true, false, ◌||◌}
use mathlib.Core.List.{List, [], ◌∷◌}
use native.Mathlib.Omega.{arith}
use lib.ListN.{length}
use Rattle.std.specs.Prelude.{if◌then◌else◌}
use Rattle.std.specs.Cmp.Lexicographic.{slice_cmp}
use Rattle.std.specs.Ordering.{nat_cmp, is_lt, is_gt, ordering_reverse}
use Rattle.std.proofs.lemmas.Cmp.{nat_list_cmp_total}
use Rattle.std.specs.declared.cmp.Ordering.{Ordering}
use Rattle.std.specs.declared.cmp.Ordering.TheVariants.{Less, Equal, Greater}
use Rattle.keys.proofs.Orders.{std_order}
use Rattle.format.specs.KeyOrder.{key_before}
use Rattle.format.specs.Meaning.{Point, Series, Meaning}
use Rattle.format.specs.Merge.{merge_points, merge, kinds_clash}
use Rattle.format.proofs.Orders.{key-total}
use Rattle.merging.proofs.Sorted.{Ascending}
use Rattle.merging.proofs.Orders.{by_key}
use Rattle.merging.proofs.Walk.{points-end, series-older, series-newer, series-both, clash-older, clash-newer, clash-both, clash-end}
use Rattle.feed.specs.declared.Feed.{Feed}
use Rattle.feed.specs.Feeds.{key_of, blocks_left, series_left, open_series, Stands, KeyOpened}
use Rattle.feed.proofs.Blocks.{no_block}
use Rattle.std.specs.Prelude.{Some}
use Rattle.key_merge.specs.declared.Feeds.{Feeds}
use Rattle.key_merge.specs.declared.Images.{Images}
use Rattle.key_merge.specs.declared.Owner.{Owner}
use Rattle.key_merge.specs.declared.Turn.{Turn}
use Rattle.key_merge.specs.Turns.{Standing, Before, ordered_turn, TurnTaken, TurnAs, next_series, later, two_kinds}

-- ---- a series before another list

-- s first, where its key stands before the keys of n
older-first : (s : Series) (m n : Meaning) → Before s.key n → merge (s ∷ m) n ≡ s ∷ merge m n
older-first s m [] h = refl
older-first s m (u ∷ n) h = series-older s u m n h

newer-first : (u : Series) (m n : Meaning) → Before u.key m → merge m (u ∷ n) ≡ u ∷ merge m n
newer-first u [] n h = refl
newer-first u (s ∷ m) n h = series-newer s u m n h

clash-first : (s : Series) (m n : Meaning) → Before s.key n → Ascending by_key n → kinds_clash (s ∷ m) n ≡ kinds_clash m n
clash-first s m [] h b = clash-end (s ∷ m) ∙ sym (clash-end m)
clash-first s m (u ∷ n) h b = clash-older s u m n h b

clash-second : (u : Series) (m n : Meaning) → Before u.key m → Ascending by_key m → kinds_clash m (u ∷ n) ≡ kinds_clash m n
unfolding kinds_clash
clash-second u [] n h a = refl
clash-second u (s ∷ m) n h a = clash-newer s u m n h a

-- ---- the next key, at x

pub record Turned (i : Images) (f x : Feeds) (owner : Owner) : Type 0 where
  pub older-stands : Stands i.older.now x.older
  pub newer-stands : Stands i.newer.now x.newer
  pub older-held : x.older.count ≤ x.older.next
  pub newer-held : x.newer.count ≤ x.newer.next
  pub series : later i f ≡ next_series i (record { feeds = x; owner = owner }) ∷ later i x
  pub less : length (series_left i.older.now x.older) + length (series_left i.newer.now x.newer) < length (series_left i.older.now f.older) + length (series_left i.newer.now f.newer)

module _ (i : Images) (f : Feeds) (s : Standing i f) where
  abbrev older : List ℕ
  older = i.older.now

  abbrev newer : List ℕ
  newer = i.newer.now

  older-turned : (x : Feed) → KeyOpened older f.older x → Before (key_of older x) (series_left newer f.newer) → Turned i f (record { older = x; newer = f.newer }) Owner.Older
  older-turned x o h =
      let u = open_series older x (blocks_left older x) in
      let none : blocks_left newer f.newer ≡ [] = no_block newer f.newer s.newer-stands s.newer-done.left in
      record {
        older-stands = o.stands;
        newer-stands = s.newer-stands;
        older-held = o.held;
        newer-held = s.newer-done.held;
        series =
            ap (λ (m : Meaning). merge m (series_left newer f.newer)) o.series
            ∙ older-first u (series_left older x) (series_left newer f.newer) h
            ∙ ap (λ (ps : List Point). open_series older x ps ∷ later i (record { older = x; newer = f.newer })) (sym (points-end (blocks_left older x)) ∙ ap (merge_points (blocks_left older x)) (sym none));
        less = omega (arith, ap length o.series);
      }

  newer-turned : (y : Feed) → KeyOpened newer f.newer y → Before (key_of newer y) (series_left older f.older) → Turned i f (record { older = f.older; newer = y }) Owner.Newer
  newer-turned y o h =
      let u = open_series newer y (blocks_left newer y) in
      let none : blocks_left older f.older ≡ [] = no_block older f.older s.older-stands s.older-done.left in
      record {
        older-stands = s.older-stands;
        newer-stands = o.stands;
        older-held = s.older-done.held;
        newer-held = o.held;
        series =
            ap (merge (series_left older f.older)) o.series
            ∙ newer-first u (series_left older f.older) (series_left newer y) h
            ∙ ap (λ (ps : List Point). open_series newer y (merge_points ps (blocks_left newer y)) ∷ later i (record { older = f.older; newer = y })) (sym none);
        less = omega (arith, ap length o.series);
      }

  both-turned : (x : Feeds) → KeyOpened older f.older x.older → KeyOpened newer f.newer x.newer → key_of older x.older ≡ key_of newer x.newer → Turned i f x Owner.Both
  both-turned x o p e =
      let u = open_series older x.older (blocks_left older x.older) in
      let v = open_series newer x.newer (blocks_left newer x.newer) in
      record {
        older-stands = o.stands;
        newer-stands = p.stands;
        older-held = o.held;
        newer-held = p.held;
        series = ap₂ merge o.series p.series ∙ series-both u v (series_left older x.older) (series_left newer x.newer) e;
        less = omega (arith, ap length o.series, ap length p.series);
      }

  pub turned : (x : Feeds) (owner : Owner) → TurnTaken i f x owner → Turned i f x owner
  turned x Owner.Both h = both-turned x h.0 h.1 h.2
  turned x Owner.Older h = subst (λ (z : Feed). Turned i f (record { older = x.older; newer = z }) Owner.Older) (sym h.1) (older-turned x.older h.0 h.2)
  turned x Owner.Newer h = subst (λ (z : Feed). Turned i f (record { older = z; newer = x.newer }) Owner.Newer) (sym h.1) (newer-turned x.newer h.0 h.2)

  -- ---- the kinds

  module _ (a : Ascending by_key (series_left older f.older)) (b : Ascending by_key (series_left newer f.newer)) where
    pub clash-turn : (x : Feeds) (owner : Owner) → TurnTaken i f x owner
        → kinds_clash (series_left older f.older) (series_left newer f.newer)
        ≡ two_kinds owner x.older.cursor.kind x.newer.cursor.kind || kinds_clash (series_left older x.older) (series_left newer x.newer)
    clash-turn x Owner.Both (o, p, e) =
        ap₂ kinds_clash o.series p.series
        ∙ clash-both _ _ (series_left older x.older) (series_left newer x.newer) e
        (subst (Ascending by_key) o.series a) (subst (Ascending by_key) p.series b)
    clash-turn x Owner.Older (o, e, h) =
        ap (λ (m : Meaning). kinds_clash m (series_left newer f.newer)) o.series
        ∙ clash-first _ (series_left older x.older) (series_left newer f.newer) h b
        ∙ ap (λ (z : Feed). kinds_clash (series_left older x.older) (series_left newer z)) (sym e)
    clash-turn x Owner.Newer (p, e, h) =
        ap (kinds_clash (series_left older f.older)) p.series
        ∙ clash-second _ (series_left older f.older) (series_left newer x.newer) h a
        ∙ ap (λ (z : Feed). kinds_clash (series_left older z) (series_left newer x.newer)) (sym e)

    -- the keys after it ascend
    tail-up : (image : List ℕ) (g x : Feed) → KeyOpened image g x → Ascending by_key (series_left image g) → Ascending by_key (series_left image x)
    tail-up image g x o up = let whole : Ascending by_key (open_series image x (blocks_left image x) ∷ series_left image x) = subst (Ascending by_key) o.series up in whole.1

    pub still-up : (x : Feeds) (owner : Owner) → TurnTaken i f x owner → Ascending by_key (series_left older x.older) × Ascending by_key (series_left newer x.newer)
    still-up x Owner.Both (o, p, e) = (tail-up older f.older x.older o a, tail-up newer f.newer x.newer p b)
    still-up x Owner.Older (o, e, h) = (tail-up older f.older x.older o a, subst (λ (z : Feed). Ascending by_key (series_left newer z)) (sym e) b)
    still-up x Owner.Newer (p, e, h) = (subst (λ (z : Feed). Ascending by_key (series_left older z)) (sym e) a, tail-up newer f.newer x.newer p b)

pub clash-none : (m n : Meaning) → m ≡ [] → n ≡ [] → kinds_clash m n ≡ false
clash-none m n e h = ap (kinds_clash m) h ∙ clash-end m

-- ---- which key is next

greater-reversed : (o : Ordering) → is_gt (ordering_reverse o) ≡ is_lt o
greater-reversed Less = refl
greater-reversed Equal = refl
greater-reversed Greater = refl

-- which of two keys is before the other, by std's order
pub order-says : (k l : List ℕ) (o : Ordering) → o ≡ slice_cmp nat_cmp k l → (key_before k l ≡ is_lt o) × (key_before l k ≡ is_gt o)
order-says k l o e =
    (sym (std_order k l) ∙ ap is_lt (sym e), sym (std_order l k) ∙ sym (greater-reversed (slice_cmp nat_cmp l k)) ∙ ap is_gt (sym (nat_list_cmp_total.antisymm k l) ∙ sym e))

-- the first of some series, by its key
before_head : (key : List ℕ) (m n : Meaning) (s : Series) → m ≡ s ∷ n → key_before key s.key ≡ true → Before key m
before_head key m n s e h = subst (Before key) (sym e) h

pub before-none : (key : List ℕ) (m : Meaning) → m ≡ [] → Before key m
before-none key m e = subst (Before key) (sym e) tt

module _ (i : Images) (f x : Feeds) (o : KeyOpened i.older.now f.older x.older) (p : KeyOpened i.newer.now f.newer x.newer) where
  abbrev k : List ℕ
  k = key_of i.older.now x.older

  abbrev l : List ℕ
  l = key_of i.newer.now x.newer

  abbrev older-next : Turn
  older-next = record { feeds = record { older = x.older; newer = f.newer }; owner = Owner.Older }

  abbrev newer-next : Turn
  newer-next = record { feeds = record { older = f.older; newer = x.newer }; owner = Owner.Newer }

  abbrev both-next : Turn
  both-next = record { feeds = x; owner = Owner.Both }

  pub ordered-turn : TurnAs i f (Some (ordered_turn i f x))
  ordered-turn = go (key_before k l) refl (key_before l k) refl
    where
      go : (a : Bool) → key_before k l ≡ a → (b : Bool) → key_before l k ≡ b
          → TurnAs i f (Some (if a then older-next else if b then newer-next else both-next))
      go true e b h = (o, refl, before_head k (series_left i.newer.now f.newer) (series_left i.newer.now x.newer) (open_series i.newer.now x.newer (blocks_left i.newer.now x.newer)) p.series e)
      go false e true h = (p, refl, before_head l (series_left i.older.now f.older) (series_left i.older.now x.older) (open_series i.older.now x.older (blocks_left i.older.now x.older)) o.series h)
      go false e false h = (o, p, key-total k l e h)
