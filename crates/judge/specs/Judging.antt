-- When a draw here and the Rust's draw over the same words agree, and which entry of docs/DIFFERENCES.md has one that doesn't (RULES,
-- 'Against the Rust'). Assumes nothing.
use Rattle.std.specs.Prelude.{ℕ, Bool, false, cond, not, ◌&&◌, eqb, leb, Result, Ok, Err}
use Rattle.words.specs.declared.Draw.{Draw}
use Rattle.words.specs.Outcome.{Outcome, drawn, refused}
use Rattle.words.specs.Paper.{told}
use Rattle.kinds.specs.declared.Request.{Request}
use Rattle.kinds.specs.Kinds.{kind_number, parts_of}
use Rattle.hypergeometric.specs.Reduction.{least, most}
use Rattle.judge.specs.declared.Verdict.{Verdict}
use Rattle.judge.specs.declared.Verdict.TheVariants.{Agrees, Listed, Differs}

-- what the Rust did, by its number in a case, and the outcome that it is compared with: 0 a draw; 1 the tape ended; 2 to 5 its errors
-- ProbabilityTooLarge, SampleSizeTooLarge, PopulationTooLarge, InvalidProbability; 6 it chose RejectionAcceptance, and 7 a k above 31, which are
-- not taken. Any other number stands for nothing, and nothing here is refused by 0
unfoldable pub rust_did : ℕ → ℕ → ℕ → Outcome ℕ
rust_did act c u =
    cond (eqb act 0) (drawn c u)
    (cond (eqb act 1) (refused 10)
    (cond (eqb act 2) (refused 3)
    (cond (eqb act 3) (refused 4)
    (cond (eqb act 4) (refused 2)
    (cond (eqb act 5) (refused 8)
    (cond (eqb act 6) (refused 6)
    (cond (eqb act 7) (refused 9) (refused 0))))))))

-- what the Rust did: a draw, or the number at which it stopped
abbrev pub Said : Type 0
Said = Result Draw ℕ

-- that as an outcome
abbrev pub said : Said → Outcome ℕ
said (Ok d) = told d
said (Err n) = refused n

-- the same count and words used, or the same refusal
abbrev pub same : Outcome ℕ → Outcome ℕ → Bool
same (drawn c u) (drawn d v) = eqb c d && eqb u v
same (drawn c u) (refused m) = false
same (refused n) (drawn d v) = false
same (refused n) (refused m) = eqb n m

-- entry one: of kind 1, the Rust's count is outside the tray's support
abbrev pub outside_tray : ℕ → ℕ → ℕ → ℕ → Bool
outside_tray N K n c = not (leb (least N K n) c && leb c (most K n))

abbrev pub is_outside : Request → ℕ → Bool
is_outside r c = eqb (kind_number r) 1 && outside_tray (parts_of r).first (parts_of r).second (parts_of r).third c

-- entry five: a threshold outside its range; entry nine: a population over the cap. The Rust has neither refusal
abbrev pub by_refusal : ℕ → Verdict
by_refusal n = cond (eqb n 7) (Listed 5) (cond (eqb n 5) (Listed 9) Differs)

-- what comes of outcomes that aren't the same, first here and then the Rust's
abbrev pub apart : Request → Outcome ℕ → Outcome ℕ → Verdict
apart r (drawn c u) (drawn d v) = cond (is_outside r d && eqb u v) (Listed 1) Differs
apart r (drawn c u) (refused m) = Differs
apart r (refused n) rust = by_refusal n

-- a refusal in the place of what the Rust draws by a branch that is not taken: entry ten, RejectionAcceptance; entry four, a k above 31. The
-- others are errors that the Rust has too, or a tape that ended
abbrev pub not_taken : ℕ → Verdict
not_taken n = cond (eqb n 6) (Listed 10) (cond (eqb n 9) (Listed 4) Agrees)

-- what comes of outcomes that are the same
abbrev pub alike : Outcome ℕ → Verdict
alike (drawn c u) = Agrees
alike (refused n) = not_taken n

unfoldable pub judged : Request → Outcome ℕ → Outcome ℕ → Verdict
judged r here rust = cond (same here rust) (alike here) (apart r here rust)

-- of a mean in quarters: the outcome here, the outcome here with the Rust's threshold, and the Rust's. Entry eleven: the last two are the same,
-- and the first is another
unfoldable pub mean_judged : Outcome ℕ → Outcome ℕ → Outcome ℕ → Verdict
mean_judged here with_its rust = cond (same with_its rust) (cond (same here rust) Agrees (Listed 11)) Differs

-- a verdict held against the entry that a case names, 0 for none: both have to say the same
abbrev pub as_marked : ℕ → Verdict → Verdict
as_marked entry Agrees = cond (eqb entry 0) Agrees Differs
as_marked entry (Listed e) = cond (eqb entry e) (Listed e) Differs
as_marked entry Differs = Differs
