-- RULES, 'Lines of pull': why a strike from a number of entries may be sent again. Assumes nothing.
use Rattle.std.specs.Prelude.{ℕ, ◌<◌, List, Some, ◌≡◌, length, get_or}
use Rattle.opening.specs.Calls.{booked}
use Rattle.request_line.specs.declared.Line.TheVariants.{Strike, StrikeFrom}
use Rattle.request_line.specs.Forms.{read_line}
use Rattle.service.specs.Service.{answered, serve}

-- each number is a byte, as those of a lent book are
abbrev pub AreBytes : List ℕ → Type 0
AreBytes b = (i : ℕ) → get_or b i 0 < 256

-- served once more right after, a line answers what it did and leaves the book as it is
abbrev pub SameAgain : List ℕ → List ℕ → List ℕ → Type 0
SameAgain ws b l =
    (k k' : ℕ) → ((serve ws (serve ws b k l).book k' l).said ≡ (serve ws b k l).said) × ((serve ws (serve ws b k l).book k' l).book ≡ (serve ws b k l).book)

-- over any tape and any bytes, of a line that is read as a strike of j from m
pub record SentAgain : Type 0 where
  pub same : (ws b l : List ℕ) (j m : ℕ) → AreBytes b → read_line l ≡ Some (StrikeFrom j m) → SameAgain ws b l
  -- where m entries stand, all that comes of it is what comes of a strike of j
  pub strikes : (ws b : List ℕ) (k j m : ℕ) → length (booked ws b) ≡ m → answered ws b k (Some (StrikeFrom j m)) ≡ answered ws b k (Some (Strike j))
  -- where another number stands, no byte changes
  pub keeps : (ws b : List ℕ) (k j m : ℕ) → (length (booked ws b) ≡ m → ⊥) → (answered ws b k (Some (StrikeFrom j m))).book ≡ b
