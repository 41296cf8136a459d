-- Each act refuses exactly by its faults: it is a chain of steps, each with its own.
use Prim.Native.Nat.{ℕ, ◌+◌, ◌≤◌}
use mathlib.Core.Path.{◌≡◌, refl, sym, ap, subst, ◌∙◌}
use mathlib.Core.Logic.{◌↔◌, ◌⊎◌, inl, inr, ⊎_elim}
use mathlib.Core.Bool.{true, false, not, ◌&&◌}
use mathlib.Core.List.{List, [], ◌∷◌}
use mathlib.Core.Option.{Option, none, some}
use native.Mathlib.Omega.{arith}
use lib.ListN.{length, drop, length-drop}
use lib.Seq.{length-take-le}
use lib.IntN.{ℤ}
use lib.Dec.{leb, lit<}
use Rattle.format.specs.declared.Entry.{Entry}
use Rattle.format.specs.declared.Refusal.TheVariants.{NoSuchKey, NoEntry, ShortBuffer, BadRoll, KindClash, ImageTooLong, NoPoint}
use Rattle.format.specs.Limits.{image_most}
use Rattle.format.specs.Choice.{same_list, Each}
use Rattle.format.specs.Refusals.{Outcome, ok, refused, ◌>>=◌, require, refuses, answer_of}
use Rattle.format.specs.Bytes.{AllBytes}
use Rattle.format.specs.Meaning.{Point, Meaning, value_at}
use Rattle.format.specs.WellFormed.{well_formed}
use Rattle.format.specs.Block.{read_block}
use Rattle.format.specs.Index.{IndexKey}
use Rattle.format.specs.File.{read_index, read_file, block_of}
use Rattle.format.specs.Find.{entries_of, covers, covering_entry, find_entry, find_block, value_there, exact_value}
use Rattle.format.specs.Roll.{read_roll, writer_roll}
use Rattle.format.specs.Writer.{writer_image}
use Rattle.format.specs.Merge.{merge, kinds_clash}
use Rattle.format.specs.Acts.{check_result, find_answer, read_block_result, read_point_result, fitted, image_result, write_result, unroll_result, merge_result}
use Rattle.format.proofs.AllBelow.{below-take, below-drop}
use Rattle.format.proofs.Tests.{true-or-false, never}
use Rattle.format.proofs.Answers.{refuses-path, answer_ok}
use Rattle.format.proofs.Results.{bind_ok, ok-path, refused-not, Only, only-choice}
use Rattle.merging.proofs.Lookups.{ordered}
use Rattle.merging.proofs.MergeLaws.{merge-well_formed}
use Rattle.file_laws.proofs.FilesAccepted.{file-accepted}
use Rattle.roll.proofs.Rolls.{roll-refused}
use Rattle.acceptance.specs.Files.{Keeps}
use Rattle.acceptance.specs.Indexes.{KeepsIndex}
use Rattle.acceptance.specs.Rolls.{KeepsRoll}
use Rattle.acceptance.proofs.Blocks.{block_for, block_read, read-block}
use Rattle.acceptance.proofs.Indexes.{entries-inside, laid-read, keeps-index}
use Rattle.acceptance.proofs.Accepted.{keeps-exactly}
use Rattle.theorems.specs.Points.{OneKind, TwoKinds}
use Rattle.theorems.specs.Faults.{Unless, Nothing, BlockFault, IndexFault, SeriesFault, Fault}
use Rattle.theorems.specs.Exactly.{SearchFault, FindFault, Covering, BlockHolds, OneBlockFault, ReadBlockFault, ReadPointFault, ImageFault, WriteFault, UnrollFault, MergedFault, MergeFault, Exactly}
use Rattle.theorems.proofs.Steps.{Exact, Refuses, ok-exactly, leb-exactly, both-exactly, require-exactly, some-exactly, given-exactly, after, within, only-number}
use Rattle.theorems.proofs.Members.{each-mem}
use Rattle.theorems.proofs.MergedPoints.{merged-points, merge_of, one-kind, two-kinds}
use Rattle.theorems.proofs.Ours.{roll-reads, reads-roll}
use Rattle.theorems.proofs.IndexFaults.{index-exactly}
use Rattle.theorems.proofs.BlockFaults.{block-exactly, series-exactly}
use Rattle.theorems.proofs.Searches.{finds}

-- ---- check

file-exactly : (image : List ℕ) → AllBytes image → Exact (read_file image) (Fault image)
unfolding read_file
file-exactly image all =
    given-exactly (IndexFault image) (KeepsIndex image) (SeriesFault image) (read_index image) _ (index-exactly image) (λ keys. keeps-index image keys all)
    (λ keys is. series-exactly image all keys)

check-exactly : (image : List ℕ) → AllBytes image → Exact (check_result image) (Fault image)
unfolding check_result
check-exactly image all = after (read_file image) _ (file-exactly image all)

-- ---- find

only-entries : (key : List ℕ) (ks : List IndexKey) → Only NoSuchKey (entries_of key ks)
unfolding entries_of
only-entries key [] = refl
only-entries key (k ∷ ks) = only-choice NoSuchKey (same_list k.key key) (ok k.entries) (entries_of key ks) tt (only-entries key ks)

only-covering : (t : ℤ) (es : List Entry) → Only NoEntry (covering_entry t es)
unfolding covering_entry
only-covering t [] = refl
only-covering t (e ∷ es) = only-choice NoEntry (covers e t) (ok e) (covering_entry t es) tt (only-covering t es)

-- find in a good index is refused as 17 or 18
numbers : (t : ℤ) (a : Outcome (List Entry)) → Only NoSuchKey a → (n : ℕ) → Refuses (a >>= λ es. covering_entry t es) n → (n ≡ 17) ⊎ (n ≡ 18)
numbers t (ok es) h n e = inr (only-number NoEntry (covering_entry t es) (only-covering t es) n e)
numbers t (refused r place) h n e = inl (only-number {A = Entry} NoSuchKey (refused r place) h n e)

found_in : (image key : List ℕ) (t : ℤ) (keys : List IndexKey) → read_index image ≡ ok keys
    → find_answer image key t ≡ answer_of (entries_of key keys >>= λ es. covering_entry t es)
unfolding find_entry
found_in image key t keys is = rw is

search-exactly : (image key : List ℕ) (t : ℤ) (keys : List IndexKey) → read_index image ≡ ok keys
    → Exact (entries_of key keys >>= λ es. covering_entry t es) (SearchFault keys key t)
search-exactly image key t keys is n =
    let f = finds image keys is in
    let same = found_in image key t keys is in (
      λ e. ⊎_elim
          (λ (h : n ≡ 17). inl ((f.no_key key t).0 (same ∙ e ∙ ap refuses h), h))
          (λ (h : n ≡ 18). let (has, missing) = (f.no_entry key t).0 (same ∙ e ∙ ap refuses h) in inr (has, inl (missing, h)))
          (numbers t (entries_of key keys) (only-entries key keys) n e),
      ⊎_elim
          (λ (missing, h). sym same ∙ (f.no_key key t).1 missing ∙ ap refuses (sym h))
          (λ (has, rest). ⊎_elim
          (λ (missing, h). sym same ∙ (f.no_entry key t).1 (has, missing) ∙ ap refuses (sym h))
          (λ (e, found, never). absurd never) rest),
    )

find-exactly : (image key : List ℕ) (t : ℤ) → AllBytes image → Exact (find_entry image key t) (FindFault image key t)
unfolding find_entry
find-exactly image key t all =
    given-exactly (IndexFault image) (KeepsIndex image) (λ keys. SearchFault keys key t) (read_index image) _ (index-exactly image) (λ keys. keeps-index image keys all)
    (λ keys is. search-exactly image key t keys is)

-- ---- both reads

module _ (image key : List ℕ) (t : ℤ) (all : AllBytes image) where
  covering-found : (e : Entry) → Covering image key t e ↔ (find_entry image key t ≡ ok e)
  unfolding find_entry
  covering-found e = (
    λ (keys, k, f). answer_ok (find_entry image key t) e (((finds image keys (laid-read image keys k)).found key t e).1 f),
    λ found.
        let (keys, is, rest) = bind_ok (read_index image) _ e found in
        (keys, (keeps-index image keys all).1 is, ((finds image keys is).found key t e).0 (ap answer_of found)),
  )

  -- the bytes of a block, which lie in the image
  block-bytes : (e : Entry) → AllBytes (block_of image e)
  block-bytes e = below-take 256 (lit< tt) e.size (drop e.offset.0 image) (below-drop 256 e.offset.0 image all)

  holds_read : (e : Entry) → Covering image key t e → (ps : List Point) → BlockHolds image e ps ↔ (read_block e (block_of image e) ≡ ok ps)
  holds_read e (keys, k, f) ps =
      let inside = each-mem (λ e. (4 ≤ e.size) × (e.offset.0 + e.size ≤ length image)) f.holder.entries e
      (each-mem (λ k. Each (λ e. (4 ≤ e.size) × (e.offset.0 + e.size ≤ length image)) k.entries) keys f.holder (entries-inside image keys k) f.listed) f.entry in
      let size : length (block_of image e) ≡ e.size = length-take-le e.size (drop e.offset.0 image) (omega (arith, inside.1, length-drop e.offset.0 image)) in (
        λ h. block_read e (block_for e (block_of image e) ps) h refl refl (block-bytes e) (omega (arith, inside.1, k.most)),
        λ read. read-block e (block_of image e) ps (block-bytes e) (omega (arith, inside.0)) (sym size) read,
      )

-- the block of an entry, and what follows with its points
one_block : {B : Type 0} (image key : List ℕ) (t : ℤ) (g : Entry × List Point → Outcome B) (later : List Point → ℕ → Type 0) → AllBytes image
    → ((e : Entry) (ps : List Point) → Exact (g (e, ps)) (later ps)) → Exact (find_block image key t >>= g) (OneBlockFault image key t later)
unfolding find_block
one_block image key t g later all k =
    within (find_entry image key t) _ g
    (given-exactly (FindFault image key t) (Covering image key t)
    (λ e n. BlockFault e (block_of image e) n ⊎ ((ps : List Point) × BlockHolds image e ps × later ps n))
    (find_entry image key t) _ (find-exactly image key t all) (covering-found image key t all)
    (λ e is. within (read_block e (block_of image e)) (λ ps. ok (e, ps)) g
    (given-exactly (BlockFault e (block_of image e)) (BlockHolds image e) later (read_block e (block_of image e)) (λ ps. g (e, ps))
    (block-exactly e (block_of image e) (block-bytes image key t all e)) (holds_read image key t all e ((covering-found image key t all e).1 is))
    (λ ps read. k e ps))))

read_block-exactly : (image key : List ℕ) (t : ℤ) (times values : List ℤ) → AllBytes image
    → Exact (read_block_result image key t times values) (ReadBlockFault image key t times values)
unfolding read_block_result
read_block-exactly image key t times values all =
    one_block image key t _ _ all
    (λ e ps. require-exactly ShortBuffer 0 (leb (length ps) (length times) && leb (length ps) (length values)) _
    (both-exactly (leb-exactly (length ps) (length times)) (leb-exactly (length ps) (length values))) (ok-exactly _))

-- a value that is there
there : (o : Option ℕ) → Only NoPoint (value_there o)
there none = refl
there (some v) = tt

there-ok : (o : Option ℕ) (v : ℕ) → value_there o ≡ ok v → o ≡ some v
there-ok none v e = refused-not e
there-ok (some w) v e = ap some (ok-path e)

read_point-exactly : (image key : List ℕ) (t : ℤ) → AllBytes image → Exact (read_point_result image key t) (ReadPointFault image key t)
unfolding read_point_result exact_value
read_point-exactly image key t all =
    one_block image key t _ _ all
    (λ e ps. some-exactly NoPoint (λ v. v) (λ v. value_at t ps ≡ some v) (λ v. Nothing) (value_there (value_at t ps)) _ (there (value_at t ps))
    (λ v r. there-ok (value_at t ps) v r) (λ v is. (v, ap value_there is, refl)) (λ v r. ok-exactly _))

-- ---- write, unroll and merge

fitted-exactly : (buffer bs : List ℕ) → Exact (fitted buffer bs) (Unless (length bs ≤ length buffer) 19 Nothing)
fitted-exactly buffer bs = require-exactly ShortBuffer 0 (leb (length bs) (length buffer)) _ (leb-exactly (length bs) (length buffer)) (ok-exactly bs)

image-exactly : (m : Meaning) (buffer : List ℕ) → Exact (image_result m buffer) (ImageFault m buffer)
unfolding image_result
image-exactly m buffer =
    require-exactly ImageTooLong 0 (leb (length (writer_image m)) image_most) _ (leb-exactly (length (writer_image m)) image_most)
    (fitted-exactly buffer (writer_image m))

write-exactly : (roll buffer : List ℕ) → AllBytes roll → Exact (write_result roll buffer) (WriteFault roll buffer)
unfolding write_result
write-exactly roll buffer all =
    some-exactly BadRoll (λ m. m) (KeepsRoll roll) (λ m. ImageFault m buffer) (read_roll roll) _ (roll-refused roll)
    (λ m r. (reads-roll roll m all r).keeps) (λ m k. (m, roll-reads roll m (record { bytes = all; keeps = k }), refl)) (λ m r. image-exactly m buffer)

unroll-exactly : (image buffer : List ℕ) → AllBytes image → Exact (unroll_result image buffer) (UnrollFault image buffer)
unfolding unroll_result
unroll-exactly image buffer all =
    given-exactly (Fault image) (Keeps image) (λ m. Unless (length (writer_roll m) ≤ length buffer) 19 Nothing) (read_file image) _ (file-exactly image all)
    (keeps-exactly image all) (λ m is. fitted-exactly buffer (writer_roll m))

-- two meanings in order: a key has two kinds, or our writer's image of their merge is left
module _ (o n : Meaning) (p : well_formed o ≡ true) (q : well_formed n ≡ true) (buffer : List ℕ) (k : ℕ) where
  abbrev result : Outcome (List ℕ)
  result = require (not (kinds_clash o n)) KindClash 0 >>= λ _. image_result (merge o n) buffer

  two : (kinds_clash o n ≡ true) ↔ TwoKinds o n
  two = two-kinds o n (ordered o p) (ordered n q)

  one : (kinds_clash o n ≡ false) ↔ OneKind o n
  one = one-kind o n (ordered o p) (ordered n q)

  clashing : kinds_clash o n ≡ true → Refuses result k ↔ MergedFault o n buffer k
  clashing c =
      let is : result ≡ refused KindClash 0 = rw c in (
        λ e. inl (two.0 c, sym (refuses-path (sym (ap answer_of is) ∙ e))),
        ⊎_elim (λ (kinds, h). ap answer_of is ∙ ap refuses (sym h)) (λ (kinds, rest). never c (one.1 kinds)),
      )

  agreeing : kinds_clash o n ≡ false → Refuses result k ↔ MergedFault o n buffer k
  agreeing c =
      let is : result ≡ image_result (merge o n) buffer = rw c in
      let exactly = image-exactly (merge o n) buffer k in (
        λ e. inr (one.0 c, (merge o n, merge-well_formed o n p q c, merged-points o n p q c, exactly.0 (sym (ap answer_of is) ∙ e))),
        ⊎_elim
            (λ (kinds, h). never (two.1 kinds) c)
            (λ (kinds, (w, good, points, f)).
            ap answer_of is ∙ exactly.1 (subst (λ (m : Meaning). ImageFault m buffer k) (sym (merge_of o n w p q c good points)) f)),
      )

  merged-exactly : Refuses result k ↔ MergedFault o n buffer k
  merged-exactly = ⊎_elim clashing agreeing (true-or-false (kinds_clash o n))

merge-exactly : (older newer buffer : List ℕ) → AllBytes older → AllBytes newer → Exact (merge_result older newer buffer) (MergeFault older newer buffer)
unfolding merge_result
merge-exactly older newer buffer all₁ all₂ =
    given-exactly (Fault older) (Keeps older) (λ o n. Fault newer n ⊎ ((m : Meaning) × Keeps newer m × MergedFault o m buffer n)) (read_file older) _
    (file-exactly older all₁) (keeps-exactly older all₁)
    (λ o is. given-exactly (Fault newer) (Keeps newer) (λ m. MergedFault o m buffer) (read_file newer) _ (file-exactly newer all₂) (keeps-exactly newer all₂)
    (λ m it. merged-exactly o m (file-accepted older all₁ o is) (file-accepted newer all₂ m it) buffer))

pub exactly : Exactly
exactly = record {
  check = λ image n all. check-exactly image all n;
  find = λ image key t n all. find-exactly image key t all n;
  read_block = λ image key t times values n all. after (read_block_result image key t times values) _ (read_block-exactly image key t times values all) n;
  read_point = λ image key t n all. read_point-exactly image key t all n;
  write = λ roll buffer n all. after (write_result roll buffer) _ (write-exactly roll buffer all) n;
  unroll = λ image buffer n all. after (unroll_result image buffer) _ (unroll-exactly image buffer all) n;
  merge = λ older newer buffer n all₁ all₂. after (merge_result older newer buffer) _ (merge-exactly older newer buffer all₁ all₂) n;
}
