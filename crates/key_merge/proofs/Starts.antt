-- The first feed of an accepted image.
--   meaning-is   what an accepted image means
--   started-up   the keys before its first feed ascend
--   started      what the first feed has
use Prim.Native.Nat.{ℕ}
use mathlib.Core.Path.{◌≡◌, refl}
use mathlib.Core.List.{List}
use Rattle.format.specs.Bytes.{AllBytes}
use Rattle.format.specs.Meaning.{Meaning}
use Rattle.format.specs.File.{read_file}
use Rattle.format.specs.Refusals.{ok}
use Rattle.file_laws.proofs.FilesAccepted.{file-accepted}
use Rattle.merging.proofs.Sorted.{Ascending}
use Rattle.merging.proofs.Orders.{by_key}
use Rattle.merging.proofs.Facts.{facts}
use Rattle.feed.specs.declared.Feed.{Feed}
use Rattle.feed.specs.Feeds.{series_left, Begun}
use Rattle.key_merge.specs.Turns.{meaning_of, Started}

pub meaning-is : (image : List ℕ) (m : Meaning) → read_file image ≡ ok m → meaning_of image ≡ m
unfolding meaning_of
meaning-is image m e = rw e refl

pub started-up : (image : List ℕ) (f : Feed) → Started image f → Ascending by_key (series_left image f)
started-up image f s = ((facts (series_left image f)).0 s.good).ascending

pub started : (image : List ℕ) (f : Feed) → AllBytes image → Begun image f → Started image f
started image f all b = record {
  stands = b.stands;
  done = b.done;
  meaning = meaning-is image (series_left image f) b.meaning;
  good = file-accepted image all (series_left image f) b.meaning;
}
