-- An image whose header and footer were read is so laid.
--   inside       the index and the footer lie in the image
--   image-laid   header, blocks, index and footer, end to end
use Prim.Native.Nat.{ℕ, ◌+◌, ◌-◌, ◌≤◌}
use mathlib.Core.Path.{◌≡◌, ap, ap₂, sym, subst, ◌∙◌}
use mathlib.Core.List.{List, ◌∷◌, ◌++◌}
use native.Mathlib.Omega.{arith}
use lib.ListN.{length, take, drop, length-drop, take-append-drop}
use lib.Seq.{drop-drop, drop-cons}
use Rattle.format.specs.Limits.{header_size, footer_size}
use Rattle.format.specs.Bytes.{big_bytes, AllBytes}
use Rattle.format.specs.File.{magic, version, footer_place, index_start, index_bytes}
use Rattle.format.proofs.AllBelow.{below-drop}
use Rattle.numbers.proofs.BigEndian.{big_bytes-big_endian}
use Rattle.format.proofs.Readings.{FrameParts}

module _ (image : List ℕ) (all : AllBytes image) (f : FrameParts image) where
  abbrev x : ℕ
  x = index_start image

  pub inside : x + 8 ≤ length image
  inside = omega (arith, f.least, f.high)

  header-laid : image ≡ magic ++ (version ∷ drop header_size image)
  header-laid =
      sym (take-append-drop 4 image)
      ∙ ap₂ (λ (xs ys : List ℕ). xs ++ ys) f.first (drop-cons image 4 0 (omega (arith, f.least)) ∙ ap (λ (b : ℕ). b ∷ drop 5 image) f.fifth)

  footer-laid : drop (footer_place image) image ≡ big_bytes footer_size x
  footer-laid =
      let size : length (drop (footer_place image) image) ≡ 8 = omega (arith, length-drop (footer_place image) image, f.least) in
      sym (subst (λ (n : ℕ). big_bytes n x ≡ drop (footer_place image) image) size
      (big_bytes-big_endian (drop (footer_place image) image) (below-drop 256 (footer_place image) image all)))

  -- the bytes from i on, up to j and after it
  between : (i j : ℕ) → i ≤ j → drop i image ≡ take (j - i) (drop i image) ++ drop j image
  between i j h =
      let place : i + (j - i) ≡ j = omega arith in
      sym (take-append-drop (j - i) (drop i image))
      ∙ ap (λ (xs : List ℕ). take (j - i) (drop i image) ++ xs) (drop-drop (j - i) i image ∙ ap (λ (n : ℕ). drop n image) place)

  pub image-laid : image ≡ magic ++ (version ∷ (take (x - header_size) (drop header_size image) ++ (index_bytes image ++ big_bytes footer_size x)))
  image-laid =
      header-laid
      ∙ ap (λ (xs : List ℕ). magic ++ (version ∷ xs))
      (between header_size x f.low
      ∙ ap (λ (xs : List ℕ). take (x - header_size) (drop header_size image) ++ xs)
      (between x (footer_place image) f.high ∙ ap (λ (xs : List ℕ). index_bytes image ++ xs) footer-laid))
