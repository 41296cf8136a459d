-- Header, index and footer: an image keeps their rules exactly when its index is read.
--   image-size       the length of an image
--   frame-read       header and footer: the start of the index, and the bytes of the index
--   index_below, index_read   an index that is read
--   spans            blocks end to end, up to where the last ends
--   good-laid        the rules of a key
--   entries-inside   each entry's block lies in the image
--   laid-read, keeps-index   an image keeps the rules exactly when its index is read
use Prim.Native.Nat.{ℕ, ◌+◌, ◌-◌, ◌^◌, ◌≤◌, ◌<◌}
use mathlib.Core.Path.{◌≡◌, refl, ap, ap₂, sym, subst, ◌∙◌}
use mathlib.Core.Logic.{◌↔◌}
use mathlib.Core.List.{List, [], ◌∷◌, ◌++◌, flat_map, append_assoc}
use native.Mathlib.Nat.{le_trans}
use native.Mathlib.Omega.{arith}
use lib.ListN.{length, take, drop, get_or, length-append, length-drop}
use lib.Seq.{take_at, drop_at, length-take-le}
use lib.Dec.{lit<}
use borrow.Author.Tests.{le-leb}
use Rattle.format.specs.declared.Entry.{Entry}
use Rattle.format.specs.Limits.{image_least, image_most, header_size, footer_size}
use Rattle.format.specs.Choice.{Each}
use Rattle.format.specs.Refusals.{ok}
use Rattle.format.specs.Bytes.{big_endian, big_bytes, AllBytes}
use Rattle.format.specs.Index.{block_span, IndexKey, read_keys}
use Rattle.format.specs.File as file
use Rattle.format.specs.File.{magic, version, footer_place, index_start, index_bytes, check_frame, read_index}
use Rattle.format.proofs.AllBelow.{below-take, below-drop}
use Rattle.format.proofs.Lists.{each_map, each_both, each-flat_map}
use Rattle.format.proofs.Results.{bind_ok}
use Rattle.format.proofs.Readings.{FrameParts, frame-parts}
use Rattle.numbers.proofs.BigEndian.{big_bytes-length, big_endian-big_bytes}
use Rattle.acceptance.specs.Indexes.{KeepsEntries, SpansTo, index_key_bytes, KeepsIndex}
use Rattle.acceptance.proofs.Times.{signed-mag, mag-signed}
use Rattle.acceptance.proofs.Entries.{GoodEntry, Stated, Ends, end_of, rises, end_later}
use Rattle.acceptance.proofs.Keys.{GoodKey, StatedKey, entries_of, up_from, from_up, keys-read}
use Rattle.acceptance.proofs.ReadKeys.{KeysRead, read-keys}
use Rattle.acceptance.proofs.ReadFrames.{inside, image-laid}

-- ---- header and footer

-- an image whose first bytes and footer are right
frame-passes : (image : List ℕ) (X : ℕ) → image_least ≤ length image → length image ≤ image_most → take 4 image ≡ magic → get_or image 4 0 ≡ version
    → file.index_start image ≡ X → header_size ≤ X → X ≤ footer_place image → check_frame image ≡ ok tt
unfolding check_frame
frame-passes image X least most first fifth start low high =
    rw (le-leb image_least (length image) least, le-leb (length image) image_most most, first, fifth, start, le-leb header_size X low, le-leb X (footer_place image) high)

-- blocks, index and footer
module _ (B I : List ℕ) where
  abbrev X : ℕ
  X = header_size + length B

  abbrev front : List ℕ
  front = magic ++ (version ∷ B)

  abbrev image : List ℕ
  image = magic ++ (version ∷ (B ++ (I ++ big_bytes footer_size X)))

  front-size : length front ≡ X
  front-size = omega arith

  pub image-size : length image ≡ X + length I + 8
  image-size =
      omega (arith, length-append B (I ++ big_bytes footer_size X), length-append I (big_bytes footer_size X), big_bytes-length 8 X)

  footer-at : footer_place image ≡ length (front ++ I)
  footer-at = omega (arith, image-size, front-size, length-append front I)

  footer-is : drop (footer_place image) image ≡ big_bytes footer_size X
  footer-is =
      ap₂ (λ (n : ℕ) (xs : List ℕ). drop n xs) footer-at (sym (append_assoc front I (big_bytes footer_size X)))
      ∙ drop_at (front ++ I) (big_bytes footer_size X) (length (front ++ I)) refl

  start_is : X < 2 ^ 64 → file.index_start image ≡ X
  start_is h = ap big_endian footer-is ∙ big_endian-big_bytes footer_size X h

  index_is : X < 2 ^ 64 → file.index_bytes image ≡ I
  index_is h =
      let size : footer_place image - X ≡ length I = omega (arith, footer-at, front-size, length-append front I) in
      let rest : drop X image ≡ I ++ big_bytes footer_size X = drop_at front (I ++ big_bytes footer_size X) X front-size in
      ap (λ (n : ℕ). take (footer_place image - n) (drop n image)) (start_is h)
      ∙ ap₂ (λ (n : ℕ) (xs : List ℕ). take n xs) size rest
      ∙ take_at I (big_bytes footer_size X) (length I) refl

  frame-read : length image ≤ image_most → check_frame image ≡ ok tt
  frame-read most =
      frame-passes image X (omega (arith, image-size)) most refl refl (start_is (omega (arith, image-size))) (omega arith)
      (omega (arith, footer-at, front-size, length-append front I))

-- ---- the index that is laid is read

laid-index : (image I : List ℕ) (x : ℕ) (ks : List IndexKey) → check_frame image ≡ ok tt → file.index_bytes image ≡ I → file.index_start image ≡ x
    → read_keys (length I) (block_span header_size x) x [] I ≡ ok ks → read_index image ≡ ok ks
unfolding read_index
laid-index image I x ks frame index start keys = rw (frame, index, start, keys)

pub spans : (from X : ℕ) (es : List Entry) → SpansTo from X es ↔ (Ends from es × (end_of from es ≡ X))
spans from X [] = (λ e. (tt, e), λ h. h.1)
spans from X (e ∷ es) =
    let rest = spans (from + e.size) X es in (
      λ (is, more). let (ends, end) = rest.0 more in ((is, ends), end),
      λ ((is, ends), end). (is, rest.1 (ends, end)),
    )

-- no block ends after the last
ends-below : (from : ℕ) (es : List Entry) → Ends from es → Each (λ e. e.offset.0 + e.size ≤ end_of from es) es
ends-below from [] ends = tt
ends-below from (e ∷ es) ends = (omega (arith, ends.0, end_later (from + e.size) es), ends-below (from + e.size) es ends.1)

module _ (k : IndexKey) where
  laid-good : KeepsEntries k → GoodKey k
  laid-good h = record {
    least = h.length_least;
    most = h.length_most;
    some = h.count_least;
    entries = each_map (λ e g. record { same = g.same; size = g.size }) k.entries h.entries;
    rise = (rises k.entries).1 (each_map (λ e g. g.ordered) k.entries h.entries, h.apart);
  }

  laid-stated : KeepsEntries k → StatedKey k
  laid-stated h = record {
    count = h.count_fits;
    times = each_map (λ e g. record { min = signed-mag e.min g.min; max = signed-mag e.max g.max }) k.entries h.entries;
  }

  pub good-laid : GoodKey k → StatedKey k → KeepsEntries k
  good-laid g s =
      let (ordered, up) = (rises k.entries).0 g.rise in
      let both = each_both {R = λ e. GoodEntry k.kind e × Stated e} (λ e h t. (h, t)) k.entries g.entries s.times in
      record {
        length_least = g.least;
        length_most = g.most;
        count_least = g.some;
        count_fits = s.count;
        entries = each_both
            (λ e h o. record { same = h.0.same; min = mag-signed e.min h.1.min; max = mag-signed e.max h.1.max; ordered = o; size = h.0.size })
            k.entries both ordered;
        apart = up;
      }

module _ (image : List ℕ) (keys : List IndexKey) where
  pub laid-read : KeepsIndex image keys → read_index image ≡ ok keys
  laid-read k =
      let B = k.blocks in
      let I = flat_map index_key_bytes keys in
      let x = header_size + length B in
      let most : length (magic ++ (version ∷ (B ++ (I ++ big_bytes footer_size x)))) ≤ image_most = subst (λ (xs : List ℕ). length xs ≤ image_most) k.bytes k.most in
      let small : x < 2 ^ 32 = omega (arith, image-size B I) in
      let good = each_map laid-good keys k.entries in
      let (ends, end) = (spans header_size x (entries_of keys)).0 k.end_to_end in
      ap read_index k.bytes
      ∙ laid-index (magic ++ (version ∷ (B ++ (I ++ big_bytes footer_size x)))) I x keys (frame-read B I most) (index_is B I (omega arith)) (start_is B I (omega arith))
      (keys-read x small (length I) x header_size [] keys (omega arith) good (each_map laid-stated keys k.entries) (up_from keys good k.ascending) ends end)

  -- each entry's block has its checksum and lies in the image
  pub entries-inside : KeepsIndex image keys → Each (λ k. Each (λ e. (4 ≤ e.size) × (e.offset.0 + e.size ≤ length image)) k.entries) keys
  entries-inside k =
      let B = k.blocks in
      let I = flat_map index_key_bytes keys in
      let (ends, end) = (spans header_size (header_size + length B) (entries_of keys)).0 k.end_to_end in
      let most : end_of header_size (entries_of keys) ≤ length image = omega (arith, image-size B I, ap length k.bytes) in
      each_both {R = λ i. Each (λ e. (4 ≤ e.size) × (e.offset.0 + e.size ≤ length image)) i.entries}
      (λ i h below. each_both {R = λ e. (4 ≤ e.size) × (e.offset.0 + e.size ≤ length image)} (λ e g l. (g.size, l)) i.entries h.entries below)
      keys k.entries
      ((each-flat_map (λ e. e.offset.0 + e.size ≤ length image) (λ i. i.entries) keys).0
      (each_map (λ e l. le_trans l most) (entries_of keys) (ends-below header_size (entries_of keys) ends)))

-- ---- an index that is read is so laid

pub index_below : (image : List ℕ) → AllBytes image → AllBytes (index_bytes image)
index_below image all =
    below-take 256 (lit< tt) (footer_place image - index_start image) (drop (index_start image) image) (below-drop 256 (index_start image) image all)

pub index_read : (image : List ℕ) (ks : List IndexKey) → read_index image ≡ ok ks → FrameParts image × KeysRead (index_start image) header_size [] (index_bytes image) ks
unfolding read_index
index_read image ks e =
    let a = bind_ok (check_frame image) _ ks e in
    (frame-parts image a.1, read-keys (length (index_bytes image)) (index_start image) (index_start image) header_size [] (index_bytes image) ks (omega arith) a.2)

module _ (image : List ℕ) (keys : List IndexKey) where
  read-laid : AllBytes image → read_index image ≡ ok keys → KeepsIndex image keys
  read-laid all e =
      let (f, k) = index_read image keys e in
      let x = index_start image in
      let B = take (x - header_size) (drop header_size image) in
      let size : x ≡ header_size + length B =
      omega (arith, f.low, inside image all f, length-drop header_size image, length-take-le (x - header_size) (drop header_size image) (omega (arith, inside image all f, length-drop header_size image))) in
      record {
        blocks = B;
        bytes = image-laid image all f
            ∙ ap₂ (λ (I : List ℕ) (n : ℕ). magic ++ (version ∷ (B ++ (I ++ big_bytes footer_size n)))) (k.bytes (index_below image all)) size;
        least = f.least;
        most = f.most;
        entries = each_both good-laid keys k.good (k.stated (index_below image all));
        ascending = from_up keys k.up;
        end_to_end = subst (λ (n : ℕ). SpansTo header_size n (entries_of keys)) size ((spans header_size x (entries_of keys)).1 (k.ends, k.end));
      }

  pub keeps-index : AllBytes image → KeepsIndex image keys ↔ (read_index image ≡ ok keys)
  keeps-index all = (laid-read image keys, read-laid all)
