-- The next key of two images.
--   meaning_of, merged_of   the meaning of an accepted image, and of two merged
--   Started        a feed before the first key
--   Standing       both feeds stand between two keys
--   Before         a key stands before the first of some series
--   ordered_turn   which of two open keys is next
--   TurnTaken, TurnAs   the next key, of one image or of both
--   chosen_key, chosen_kind   its bytes and its kind
--   next_series, later   its series, and the series after it
--   EntrySkipped, EntrySkippedAs, KeyDone   past an entry of the open key, and past all of them
--   differs        both have the key, with two kinds
use Rattle.std.specs.Prelude.{ℕ, ◌≤◌, ◌<◌, ◌≡◌, Bool, true, false, not, List, [], ◌∷◌, if◌then◌else◌, Option, Some, None}
use Rattle.format.specs.declared.Kind.{Kind}
use Rattle.format.specs.Kinds.{same_kind}
use Rattle.format.specs.KeyOrder.{key_before}
use Rattle.format.specs.Meaning.{Series, Meaning}
use Rattle.format.specs.WellFormed.{well_formed}
use Rattle.format.specs.File.{read_file}
use Rattle.format.specs.Merge.{merge_points, merge}
use Rattle.feed.specs.declared.Feed.{Feed}
use Rattle.feed.specs.Feeds.{read_or, key_of, blocks_left, series_left, Stands, Done, KeyOpened}
use Rattle.key_merge.specs.declared.Feeds.{Feeds}
use Rattle.key_merge.specs.declared.Images.{Images}
use Rattle.key_merge.specs.declared.Owner.{Owner}
use Rattle.key_merge.specs.declared.Turn.{Turn}

-- the meaning of an accepted image
unfoldable pub meaning_of : List ℕ → Meaning
meaning_of image = read_or [] (read_file image)

-- the meaning of two merged
abbrev pub merged_of : Images → Meaning
merged_of i = merge (meaning_of i.older.now) (meaning_of i.newer.now)

-- a feed with all series of its image before it, which are good and in order
pub record Started (image : List ℕ) (f : Feed) : Type 0 where
  pub stands : Stands image f
  pub done : Done f
  pub meaning : meaning_of image ≡ series_left image f
  pub good : well_formed (series_left image f) ≡ true

-- both feeds stand between two keys
pub record Standing (i : Images) (f : Feeds) : Type 0 where
  pub older-stands : Stands i.older.now f.older
  pub older-done : Done f.older
  pub newer-stands : Stands i.newer.now f.newer
  pub newer-done : Done f.newer

-- a key stands before the first of some series
abbrev pub Before : (key : List ℕ) → Meaning → Type 0
Before key [] = Unit {0}
Before key (s ∷ m) = key_before key s.key ≡ true

-- of the open keys at x the next, or both; the other feed stays, as in f
abbrev pub ordered_turn : Images → (f x : Feeds) → Turn
ordered_turn i f x =
    let k = key_of i.older.now x.older in
    let l = key_of i.newer.now x.newer in
    if key_before k l then record { feeds = record { older = x.older; newer = f.newer }; owner = Owner.Older }
    else if key_before l k then record { feeds = record { older = f.older; newer = x.newer }; owner = Owner.Newer }
    else record { feeds = x; owner = Owner.Both }

-- the key is of one image or of both
abbrev pub TurnTaken : Images → (f x : Feeds) → Owner → Type 0
TurnTaken i f x Owner.Both = KeyOpened i.older.now f.older x.older × KeyOpened i.newer.now f.newer x.newer × (key_of i.older.now x.older ≡ key_of i.newer.now x.newer)
TurnTaken i f x Owner.Older = KeyOpened i.older.now f.older x.older × (x.newer ≡ f.newer) × Before (key_of i.older.now x.older) (series_left i.newer.now f.newer)
TurnTaken i f x Owner.Newer = KeyOpened i.newer.now f.newer x.newer × (x.older ≡ f.older) × Before (key_of i.newer.now x.newer) (series_left i.older.now f.older)

abbrev pub TurnAs : Images → Feeds → Option Turn → Type 0
TurnAs i f (Some t) = TurnTaken i f t.feeds t.owner
TurnAs i f None = (series_left i.older.now f.older ≡ []) × (series_left i.newer.now f.newer ≡ [])

-- its bytes and its kind: the newer's, where that image has it
abbrev pub key_from : Owner → Images → Feeds → List ℕ
key_from Owner.Older i x = key_of i.older.now x.older
key_from Owner.Newer i x = key_of i.newer.now x.newer
key_from Owner.Both i x = key_of i.newer.now x.newer

abbrev pub chosen_key : Images → Turn → List ℕ
chosen_key i t = key_from t.owner i t.feeds

abbrev pub kind_from : Owner → Feeds → Kind
kind_from Owner.Older x = x.older.cursor.kind
kind_from Owner.Newer x = x.newer.cursor.kind
kind_from Owner.Both x = x.newer.cursor.kind

abbrev pub chosen_kind : Turn → Kind
chosen_kind t = kind_from t.owner t.feeds

-- the series of the key
abbrev pub next_series : Images → Turn → Series
next_series i t = record {
  key = chosen_key i t;
  kind = chosen_kind t;
  points = merge_points (blocks_left i.older.now t.feeds.older) (blocks_left i.newer.now t.feeds.newer);
}

-- the series after it
abbrev pub later : Images → Feeds → Meaning
later i x = merge (series_left i.older.now x.older) (series_left i.newer.now x.newer)

-- past the next entry of the open key
pub record EntrySkipped (image : List ℕ) (f g : Feed) : Type 0 where
  pub stands : Stands image g
  pub held : g.count ≤ g.next
  pub series : series_left image g ≡ series_left image f
  pub less : g.cursor.left < f.cursor.left

abbrev pub EntrySkippedAs : (image : List ℕ) → Feed → Option Feed → Type 0
EntrySkippedAs image f (Some g) = EntrySkipped image f g
EntrySkippedAs image f None = f.cursor.left ≡ 0

-- the feed g past all that f had of the open key
pub record KeyDone (image : List ℕ) (f g : Feed) : Type 0 where
  pub stands : Stands image g
  pub done : Done g
  pub series : series_left image g ≡ series_left image f

-- both have the key, with two kinds
abbrev pub two_kinds : Owner → (older newer : Kind) → Bool
two_kinds Owner.Both i j = not (same_kind i j)
two_kinds Owner.Older i j = false
two_kinds Owner.Newer i j = false

abbrev pub differs : Turn → Bool
differs t = two_kinds t.owner t.feeds.older.cursor.kind t.feeds.newer.cursor.kind
