-- RULES, 'Refusals': the enums in the terms of that page, each refusal's number and a draw's answer. Assumes nothing.
use Rattle.std.specs.Prelude.{ℕ, Result, Ok, Err}
use Rattle.words.specs.declared.Draw.{Draw}
use Rattle.words.specs.declared.Refusal.{Refusal}
use Rattle.words.specs.declared.Refusal.TheVariants.{TapeTooLong, PopulationTooLarge, ProbabilityTooLarge, SampleSizeTooLarge, CapExceeded, ModeTooHigh, ThresholdOutside, InvalidProbability, TooRare, Exhausted, BookTooLong, BookDamaged, SerialAhead, SerialReused, BookFull, StrikeTooMany, RedrawDiffers, MeanOutside}
use Rattle.words.specs.Outcome.{Outcome, drawn, refused}

abbrev pub number_of : Refusal → ℕ
number_of TapeTooLong = 1
number_of PopulationTooLarge = 2
number_of ProbabilityTooLarge = 3
number_of SampleSizeTooLarge = 4
number_of CapExceeded = 5
number_of ModeTooHigh = 6
number_of ThresholdOutside = 7
number_of InvalidProbability = 8
number_of TooRare = 9
number_of Exhausted = 10
number_of BookTooLong = 11
number_of BookDamaged = 12
number_of SerialAhead = 13
number_of SerialReused = 14
number_of BookFull = 15
number_of StrikeTooMany = 16
number_of RedrawDiffers = 17
number_of MeanOutside = 18

-- what was drawn: a count, and the words used
abbrev pub told : Draw → Outcome ℕ
told d = drawn d.count d.used

-- what a draw answers: what was drawn, or why nothing was
abbrev pub Answer : Type 0
Answer = Result Draw Refusal

-- that answer; nothing is lost (`one_answer`)
abbrev pub paper : Answer → Outcome ℕ
paper (Ok d) = told d
paper (Err x) = refused (number_of x)
