-- What a key's values are: "Kinds: integer (1) and boolean (2)."
--   kinds, kind_byte   the kinds, and the byte of each
--   read_kind          the kind of a byte
--   kind_of, KindOfByte   the same, as `Kind::try_from` answers it
--   same_kind          two kinds are the same
use Rattle.std.specs.Prelude.{ℕ, Bool, ◌≡◌, List, [], ◌∷◌, eqb, if◌then◌else◌, Result, Ok, Err}
use Rattle.format.specs.declared.Kind.{Kind}
use Rattle.format.specs.declared.Kind.TheVariants.{Integer, Boolean}
use Rattle.format.specs.declared.NotAKind.{NotAKind}
use Rattle.format.specs.declared.Refusal.{Refusal}
use Rattle.format.specs.declared.Refusal.TheVariants.{UnknownKind}
use Rattle.format.specs.Refusals.{Outcome, ok, refused}

-- the kinds that are carried
abbrev pub kinds : List Kind
kinds = Integer ∷ Boolean ∷ []

-- the byte of a kind
abbrev pub kind_byte : Kind → ℕ
kind_byte Integer = 1
kind_byte Boolean = 2

-- the kind of a byte, of some kinds; another byte is refused
abbrev pub kind_among : List Kind → Refusal → (place : ℕ) → ℕ → Outcome Kind
kind_among [] r place b = refused r place
kind_among (k ∷ ks) r place b = let later = kind_among ks r place b in if eqb b (kind_byte k) then ok k else later

-- the kind of a byte; another byte is refused
abbrev pub read_kind : Refusal → (place : ℕ) → ℕ → Outcome Kind
read_kind r place b = kind_among kinds r place b

-- an outcome as the code answers it
abbrev pub known : Outcome Kind → Result Kind NotAKind
known (ok kind) = Ok kind
known (refused r place) = Err (record {})

-- the kind of a byte, where it is one
abbrev pub kind_of : ℕ → Result Kind NotAKind
kind_of b = known (read_kind UnknownKind 0 b)

-- what `Kind::try_from` answers for a byte
abbrev pub KindOfByte : ℕ → Result Kind NotAKind → Type 0
KindOfByte b r = r ≡ kind_of b

-- two kinds are the same
abbrev pub same_kind : Kind → Kind → Bool
same_kind a b = eqb (kind_byte a) (kind_byte b)
