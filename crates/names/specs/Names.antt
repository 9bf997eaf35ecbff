-- RULES, 'Refusals': the name beside each number. Assumes nothing.
use Rattle.std.specs.Prelude.{ℕ, cond, List, [], ◌∷◌, eqb}
use Rattle.words.specs.declared.Refusal.{Refusal}
use Rattle.words.specs.declared.Refusal.TheVariants.{TapeTooLong, PopulationTooLarge, ProbabilityTooLarge, SampleSizeTooLarge, CapExceeded, ModeTooHigh, ThresholdOutside, InvalidProbability, TooRare, Exhausted, BookTooLong, BookDamaged, SerialAhead, SerialReused, BookFull, StrikeTooMany, RedrawDiffers, MeanOutside}
use Rattle.words.specs.Paper.{number_of}

-- a row of the table: a refusal and its name
pub record Named : Type 0 where
  pub refusal : Refusal
  pub name : List ℕ

infix 80 ◌called◌
abbrev pub ◌called◌ : Refusal → List ℕ → Named
x called t = record { refusal = x; name = t }

-- the table, in the order of the numbers
abbrev pub names : List Named
names =
    TapeTooLong called (84 ∷ 97 ∷ 112 ∷ 101 ∷ 84 ∷ 111 ∷ 111 ∷ 76 ∷ 111 ∷ 110 ∷ 103 ∷ [])  -- "TapeTooLong"
    ∷ PopulationTooLarge called (80 ∷ 111 ∷ 112 ∷ 117 ∷ 108 ∷ 97 ∷ 116 ∷ 105 ∷ 111 ∷ 110 ∷ 84 ∷ 111 ∷ 111 ∷ 76 ∷ 97 ∷ 114 ∷ 103 ∷ 101 ∷ [])  -- "PopulationTooLarge"
    ∷ ProbabilityTooLarge called (80 ∷ 114 ∷ 111 ∷ 98 ∷ 97 ∷ 98 ∷ 105 ∷ 108 ∷ 105 ∷ 116 ∷ 121 ∷ 84 ∷ 111 ∷ 111 ∷ 76 ∷ 97 ∷ 114 ∷ 103 ∷ 101 ∷ [])  -- "ProbabilityTooLarge"
    ∷ SampleSizeTooLarge called (83 ∷ 97 ∷ 109 ∷ 112 ∷ 108 ∷ 101 ∷ 83 ∷ 105 ∷ 122 ∷ 101 ∷ 84 ∷ 111 ∷ 111 ∷ 76 ∷ 97 ∷ 114 ∷ 103 ∷ 101 ∷ [])  -- "SampleSizeTooLarge"
    ∷ CapExceeded called (67 ∷ 97 ∷ 112 ∷ 69 ∷ 120 ∷ 99 ∷ 101 ∷ 101 ∷ 100 ∷ 101 ∷ 100 ∷ [])  -- "CapExceeded"
    ∷ ModeTooHigh called (77 ∷ 111 ∷ 100 ∷ 101 ∷ 84 ∷ 111 ∷ 111 ∷ 72 ∷ 105 ∷ 103 ∷ 104 ∷ [])  -- "ModeTooHigh"
    ∷ ThresholdOutside called (84 ∷ 104 ∷ 114 ∷ 101 ∷ 115 ∷ 104 ∷ 111 ∷ 108 ∷ 100 ∷ 79 ∷ 117 ∷ 116 ∷ 115 ∷ 105 ∷ 100 ∷ 101 ∷ [])  -- "ThresholdOutside"
    ∷ InvalidProbability called (73 ∷ 110 ∷ 118 ∷ 97 ∷ 108 ∷ 105 ∷ 100 ∷ 80 ∷ 114 ∷ 111 ∷ 98 ∷ 97 ∷ 98 ∷ 105 ∷ 108 ∷ 105 ∷ 116 ∷ 121 ∷ [])  -- "InvalidProbability"
    ∷ TooRare called (84 ∷ 111 ∷ 111 ∷ 82 ∷ 97 ∷ 114 ∷ 101 ∷ [])  -- "TooRare"
    ∷ Exhausted called (69 ∷ 120 ∷ 104 ∷ 97 ∷ 117 ∷ 115 ∷ 116 ∷ 101 ∷ 100 ∷ [])  -- "Exhausted"
    ∷ BookTooLong called (66 ∷ 111 ∷ 111 ∷ 107 ∷ 84 ∷ 111 ∷ 111 ∷ 76 ∷ 111 ∷ 110 ∷ 103 ∷ [])  -- "BookTooLong"
    ∷ BookDamaged called (66 ∷ 111 ∷ 111 ∷ 107 ∷ 68 ∷ 97 ∷ 109 ∷ 97 ∷ 103 ∷ 101 ∷ 100 ∷ [])  -- "BookDamaged"
    ∷ SerialAhead called (83 ∷ 101 ∷ 114 ∷ 105 ∷ 97 ∷ 108 ∷ 65 ∷ 104 ∷ 101 ∷ 97 ∷ 100 ∷ [])  -- "SerialAhead"
    ∷ SerialReused called (83 ∷ 101 ∷ 114 ∷ 105 ∷ 97 ∷ 108 ∷ 82 ∷ 101 ∷ 117 ∷ 115 ∷ 101 ∷ 100 ∷ [])  -- "SerialReused"
    ∷ BookFull called (66 ∷ 111 ∷ 111 ∷ 107 ∷ 70 ∷ 117 ∷ 108 ∷ 108 ∷ [])  -- "BookFull"
    ∷ StrikeTooMany called (83 ∷ 116 ∷ 114 ∷ 105 ∷ 107 ∷ 101 ∷ 84 ∷ 111 ∷ 111 ∷ 77 ∷ 97 ∷ 110 ∷ 121 ∷ [])  -- "StrikeTooMany"
    ∷ RedrawDiffers called (82 ∷ 101 ∷ 100 ∷ 114 ∷ 97 ∷ 119 ∷ 68 ∷ 105 ∷ 102 ∷ 102 ∷ 101 ∷ 114 ∷ 115 ∷ [])  -- "RedrawDiffers"
    ∷ MeanOutside called (77 ∷ 101 ∷ 97 ∷ 110 ∷ 79 ∷ 117 ∷ 116 ∷ 115 ∷ 105 ∷ 100 ∷ 101 ∷ [])  -- "MeanOutside"
    ∷ []

-- the name of the first row whose refusal has this number; nothing where no row's has
abbrev pub name_in : List Named → ℕ → List ℕ
name_in [] n = []
name_in (r ∷ rs) n = cond (eqb (number_of r.refusal) n) r.name (name_in rs n)

-- the name that stands beside a number
unfoldable pub name_of : ℕ → List ℕ
name_of n = name_in names n
