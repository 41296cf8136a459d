-- The faults of a frame and of an index are what is refused of them, rule by rule.
use Prim.Native.Nat.{ℕ, zero, suc, ◌+◌, ◌*◌}
use mathlib.Core.Path.{◌≡◌, refl, sym, ap, subst, ◌∙◌}
use mathlib.Core.Logic.{◌↔◌}
use mathlib.Core.Bool.{Bool, true, ◌&&◌}
use mathlib.Core.List.{List, [], ◌∷◌}
use mathlib.Core.Option.{Option, none, some}
use lib.ListN.{length, take, drop, get_or}
use lib.IntN.{ℤ}
use lib.Signed.{le_z}
use lib.Dec.{leb, eqb}
use Rattle.format.specs.declared.Kind.{Kind}
use Rattle.format.specs.declared.Entry.{Entry}
use Rattle.format.specs.declared.Refusal.TheVariants.{ImageLength, Magic, Version, IndexStart, EntryPastIndex, KeyLength, UnknownKind, NoBlocks, KeyOrder, TimeOrder, BlockPlace}
use Rattle.format.specs.Limits.{image_least, image_most, header_size, key_most}
use Rattle.format.specs.Choice.{same_list}
use Rattle.format.specs.Refusals.{Outcome, ok, ◌>>=◌}
use Rattle.format.specs.Kinds.{read_kind}
use Rattle.format.specs.KeyOrder.{key_fits, key_before}
use Rattle.format.specs.Index.{BlockSpan, block_span, span_after, entry_size, key_head_size, length_field, key_field, kind_field, count_field, entry_from, above_max, check_entry, read_entries, read_key, key_extent, no_keys, read_keys}
use Rattle.format.specs.File.{magic, version, footer_place, index_start, index_bytes, check_frame, read_index}
use Rattle.format.proofs.KindBytes.{kind-back, kind-unique, only-kind}
use Rattle.format.proofs.Orders.{same_list-refl, same_list-path}
use Rattle.format.proofs.Results.{bind_ok, ok-path}
use Rattle.format.proofs.Readings.{key-parts}
use Rattle.theorems.specs.Faults.{FrameFault, EntryFault, EntriesFault, KeyFault, EndFault, span_past, KeysFault, IndexFault}
use Rattle.theorems.proofs.Steps.{Exact, ok-exactly, leb-exactly, eqb-exactly, both-exactly, require-exactly, require-exactly₂, some-exactly, then-exactly, after}

same-exactly : (a b : List ℕ) → (same_list a b ≡ true) ↔ (a ≡ b)
same-exactly a b = (same_list-path a b, λ e. ap (λ (c : List ℕ). same_list c b) e ∙ same_list-refl b)

-- a test that is the rule itself
same : (t : Bool) → (t ≡ true) ↔ (t ≡ true)
same t = (λ e. e, λ e. e)

-- three rules
flat : {T P Q R : Type 0} → T ↔ ((P × Q) × R) → T ↔ (P × Q × R)
flat h = (λ t. let x = h.0 t in (x.0.0, x.0.1, x.1), λ (p, q, r). h.1 ((p, q), r))

frame-exactly : {B : Type 0} (image : List ℕ) (g : Unit {0} → Outcome B) {later : ℕ → Type 0} → Exact (g tt) later
    → Exact (check_frame image >>= g) (FrameFault image later)
unfolding check_frame
frame-exactly image g k =
    let L = length image in
    let x = index_start image in
    require-exactly₂ ImageLength 0 (leb image_least L && leb L image_most) _ g (both-exactly (leb-exactly image_least L) (leb-exactly L image_most))
    (require-exactly₂ Magic 0 (same_list (take 4 image) magic) _ g (same-exactly (take 4 image) magic)
    (require-exactly₂ Version 4 (eqb (get_or image 4 0) version) _ g (eqb-exactly (get_or image 4 0) version)
    (require-exactly IndexStart (footer_place image) (leb header_size x && leb x (footer_place image)) g
    (both-exactly (leb-exactly header_size x) (leb-exactly x (footer_place image))) k)))

-- ---- the index

entry-exactly : {B : Type 0} (blocks : BlockSpan) (at : ℕ) (before : Option ℤ) (e : Entry) (g : Unit {0} → Outcome B) {later : ℕ → Type 0} → Exact (g tt) later
    → Exact (check_entry blocks at before e >>= g) (EntryFault blocks before e later)
unfolding check_entry
entry-exactly blocks at before e g k =
    let offset = e.offset.0 in
    require-exactly₂ TimeOrder at (le_z e.min e.max && above_max before e.min) _ g (both-exactly (same _) (same _))
    (require-exactly BlockPlace (at + 16) (eqb offset blocks.next && leb 4 e.size && leb (offset + e.size) blocks.limit) g
    (flat (both-exactly (both-exactly (eqb-exactly offset blocks.next) (leb-exactly 4 e.size)) (leb-exactly (offset + e.size) blocks.limit))) k)

entries-exactly : (kind : Kind) (k : ℕ) (blocks : BlockSpan) (at : ℕ) (before : Option ℤ) (bs : List ℕ)
    → Exact (read_entries kind k blocks at before bs) (EntriesFault kind k blocks before bs)
unfolding read_entries
entries-exactly kind zero blocks at before bs = ok-exactly _
entries-exactly kind (suc k) blocks at before bs =
    let e = entry_from kind bs in
    entry-exactly blocks at before e _
    (after (read_entries kind k (span_after blocks e.size) (at + entry_size) (some e.max) (drop entry_size bs)) _
    (entries-exactly kind k (span_after blocks e.size) (at + entry_size) (some e.max) (drop entry_size bs)))

key-exactly : (blocks : BlockSpan) (at : ℕ) (before bs : List ℕ) → Exact (read_key blocks at before bs) (KeyFault blocks before bs)
unfolding read_key
key-exactly blocks at before bs =
    let n = length_field bs in
    let c = count_field bs in
    let b = kind_field bs in
    require-exactly EntryPastIndex at (leb 2 (length bs)) _ (leb-exactly 2 (length bs))
    (require-exactly KeyLength at (key_fits n) _ (both-exactly (leb-exactly 1 n) (leb-exactly n key_most))
    (require-exactly EntryPastIndex at (leb (key_head_size n) (length bs)) _ (leb-exactly (key_head_size n) (length bs))
    (require-exactly KeyOrder (at + 2) (key_before before (key_field bs)) _ (same _)
    (some-exactly UnknownKind (λ k. k) _ _ (read_kind UnknownKind (at + 2 + n) b) _ (only-kind UnknownKind (at + 2 + n) b)
    (λ kind e. kind-unique UnknownKind (at + 2 + n) b kind e)
    (λ kind e. (kind, ap (read_kind UnknownKind (at + 2 + n)) e ∙ kind-back UnknownKind (at + 2 + n) kind, refl))
    (λ kind e. require-exactly NoBlocks (at + 3 + n) (leb 1 c) _ (leb-exactly 1 c)
    (require-exactly EntryPastIndex at (leb (key_head_size n + c * entry_size) (length bs)) _ (leb-exactly (key_head_size n + c * entry_size) (length bs))
    (after (read_entries kind c blocks (at + key_head_size n) none (drop (key_head_size n) bs)) _
    (entries-exactly kind c blocks (at + key_head_size n) none (drop (key_head_size n) bs)))))))))

end-exactly : (blocks : BlockSpan) (at : ℕ) → Exact (no_keys blocks at) (EndFault blocks)
end-exactly blocks at = require-exactly BlockPlace at (eqb blocks.next blocks.limit) _ (eqb-exactly blocks.next blocks.limit) (ok-exactly _)

-- where the blocks of entries that were read end
span-past : (kind : Kind) (k : ℕ) (blocks : BlockSpan) (at : ℕ) (before : Option ℤ) (bs : List ℕ) (r : List Entry × ℕ) → read_entries kind k blocks at before bs ≡ ok r
    → block_span r.1 blocks.limit ≡ span_past k blocks bs
unfolding read_entries
span-past kind zero blocks at before bs r e = let same : ◌≡◌ {A = List Entry × ℕ} ([], blocks.next) r = ok-path e in ap (λ (q : List Entry × ℕ). block_span q.1 blocks.limit) (sym same)
span-past kind (suc k) blocks at before bs r e =
    let f = entry_from kind bs in
    let (_, _, rest) = bind_ok (check_entry blocks at before f) _ r e in
    let (s, read, same) = bind_ok (read_entries kind k (span_after blocks f.size) (at + entry_size) (some f.max) (drop entry_size bs)) _ r rest in
    ap (λ (q : List Entry × ℕ). block_span q.1 blocks.limit) (sym (ok-path same))
    ∙ span-past kind k (span_after blocks f.size) (at + entry_size) (some f.max) (drop entry_size bs) s read

keys-exactly : (k : ℕ) (blocks : BlockSpan) (at : ℕ) (before bs : List ℕ) → Exact (read_keys k blocks at before bs) (KeysFault k blocks before bs)
unfolding read_keys
keys-exactly zero blocks at before bs n = end-exactly blocks at n
keys-exactly (suc k) blocks at before [] n = end-exactly blocks at n
keys-exactly (suc k) blocks at before (b ∷ bs) n =
    let all = b ∷ bs in
    let rest = drop (key_extent all) all in
    let past = span_past (count_field all) blocks (drop (length_field all + 5) all) in
    then-exactly (KeyFault blocks before all) (KeysFault k past (key_field all) rest) (read_key blocks at before all) _ (key-exactly blocks at before all)
    (λ x is.
    let p = key-parts blocks at before all x is in
    let span = span-past x.0.kind (count_field all) blocks (at + key_head_size (length_field all)) none (drop (key_head_size (length_field all)) all) (x.0.entries, x.1) p.entries in
    after (read_keys k (block_span x.1 blocks.limit) (at + key_extent all) x.0.key rest) _
    (subst (λ (key : List ℕ). Exact (read_keys k (block_span x.1 blocks.limit) (at + key_extent all) x.0.key rest) (KeysFault k past key rest)) p.key-is
    (subst (λ (s : BlockSpan). Exact (read_keys k (block_span x.1 blocks.limit) (at + key_extent all) x.0.key rest) (KeysFault k s x.0.key rest)) span
    (keys-exactly k (block_span x.1 blocks.limit) (at + key_extent all) x.0.key rest))))
    n

pub index-exactly : (image : List ℕ) → Exact (read_index image) (IndexFault image)
unfolding read_index
index-exactly image =
    frame-exactly image _
    (keys-exactly (length (index_bytes image)) (block_span header_size (index_start image)) (index_start image) [] (index_bytes image))
