-- RULES, 'Demands', 1: a refusal carries count 0 and 0 words used and changes no byte lent. Each part speaks of whatever its call's contract allows.
-- (That a call ends is what the checker shows of every function; that every entry point takes any parameters, words and bytes is shown by
-- the crate heads, which calls each of them with nothing to show first.) Assumes nothing.
use Rattle.std.specs.Prelude.{Result, ℕ, List, ◌≡◌}
use Rattle.words.specs.declared.Refusal.{Refusal}
use Rattle.words.specs.Outcome.{Outcome, drawn, refused, count_of, used_of}
use Rattle.words.specs.Draw.{Drawing, DrawAllows}
use Rattle.words.specs.Paper.{Answer, paper}
use Rattle.hypergeometric.specs.SetUp.{SetUp, set_up_paper, SetUpAllows}
use Rattle.kinds.specs.declared.Request.{Request}
use Rattle.book.specs.declared.Delivered.{Delivered}
use Rattle.redraws.specs.declared.Redrawn.{Redrawn}
use Rattle.book.specs.Deliver.{Booking, fresh, copy, delivered, DeliverAllows}
use Rattle.book.specs.Strike.{struck, StrikeAllows}
use Rattle.redraws.specs.Redraw.{redrawn, RedrawAllows}

-- the count that an accepted delivery is told
abbrev pub told : Booking → ℕ
told (fresh c) = c
told (copy c) = c

abbrev pub count_told : Outcome Booking → ℕ
count_told (drawn x u) = told x
count_told (refused n) = 0

-- of a draw, at any of its entry points; a tape can't be written
abbrev pub DrawRefuses : Type 0
DrawRefuses =
    (d : Drawing ℕ) (ws : List ℕ) (a : Answer) → DrawAllows d ws a
    → (n : ℕ) → paper a ≡ refused n → (count_of (paper a) ≡ 0) × (used_of (paper a) ≡ 0)

-- of a tray's set-up, which counts nothing
abbrev pub SetUpRefuses : Type 0
SetUpRefuses = (N K m : ℕ) (a : SetUp) → SetUpAllows N K m a → (n : ℕ) → set_up_paper a ≡ refused n → used_of (set_up_paper a) ≡ 0

-- of a delivery: the bytes at exit are those at entry
abbrev pub DeliverRefuses : Type 0
DeliverRefuses =
    (ws b : List ℕ) (s : ℕ) (r : Request) (a : Result Delivered Refusal) (c : List ℕ) → DeliverAllows ws b s r a c
    → (n : ℕ) → delivered a ≡ refused n → (count_told (delivered a) ≡ 0) × (used_of (delivered a) ≡ 0) × (c ≡ b)

-- of a strike
abbrev pub StrikeRefuses : Type 0
StrikeRefuses =
    (ws b : List ℕ) (j : ℕ) (a : Result ℕ Refusal) (c : List ℕ) → StrikeAllows ws b j a c
    → (n : ℕ) → struck a ≡ refused n → (count_of (struck a) ≡ 0) × (used_of (struck a) ≡ 0) × (c ≡ b)

-- of a redraw, which can't write the book
abbrev pub RedrawRefuses : Type 0
RedrawRefuses =
    (ws b : List ℕ) (a : Result Redrawn Refusal) → RedrawAllows ws b a
    → (n : ℕ) → (redrawn a).outcome ≡ refused n → (count_of (redrawn a).outcome ≡ 0) × (used_of (redrawn a).outcome ≡ 0)

pub record Demand1 : Type 0 where
  pub draws : DrawRefuses
  pub set_ups : SetUpRefuses
  pub deliveries : DeliverRefuses
  pub strikes : StrikeRefuses
  pub redraws : RedrawRefuses
