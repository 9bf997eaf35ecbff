-- Laws of a request's draw, of any kind, by the record of laws that its kind owes. Assumes nothing.
use mathlib.Core.Path.{◌≡◌}
use mathlib.Core.Bool.{true, false}
use mathlib.Core.List.{List}
use mathlib.Core.Logic.{◌↔◌}
use Prim.Native.Nat.{ℕ, ◌^◌, ◌≤◌, ◌<◌}
use lib.ListN.{length, take}
use lib.Ieee.{binary64, of_bits}
use Rattle.words.specs.Words.{most_words}
use Rattle.words.specs.Outcome.{drawn, refused}
use Rattle.words.specs.Rule.{CanEnd}
use Rattle.words.specs.Refusals.{First, NoneHolds}
use Rattle.words.specs.Draw.{conditions}
use Rattle.words.specs.Inner.{is_short}
use Rattle.words.proofs.Lawful.{Lawful, RefusedShort, WantsMore, lawful_exactly, lawful_local, lawful_used, lawful_parameter, lawful_short}
use Rattle.poisson.proofs.Laws.{poisson_lawful}
use Rattle.geometric.proofs.GeometricLaws.{geometric_lawful}
use Rattle.standard_geometric.proofs.Laws.{standard_lawful}
use Rattle.hypergeometric.proofs.Laws.{hypergeometric_lawful}
use Rattle.kinds.specs.declared.Request.{Request}
use Rattle.kinds.specs.declared.Request.TheVariants.{Hypergeometric, Poisson, Geometric, StandardGeometric}
use Rattle.draws.specs.Request.{drawing, Supported, parameter_refusals, reading_of, draw_of}

-- each kind's record
pub lawful : (r : Request) → Lawful (drawing r) (Supported r)
lawful (Hypergeometric N K n) = hypergeometric_lawful N K n
lawful (Poisson T) = poisson_lawful (of_bits binary64 T)
lawful (Geometric p) = geometric_lawful (of_bits binary64 p)
lawful StandardGeometric = standard_lawful

module _ (r : Request) where
  -- each refusal is given exactly on its condition, none earlier holding
  pub request_exactly : (ws : List ℕ) (n : ℕ) → (draw_of r ws ≡ refused n) ↔ First n (conditions (drawing r) ws)
  request_exactly = lawful_exactly (drawing r) (Supported r) (lawful r)

  -- Exhausted in the rules' words: the draw is refused by a number for a tape that is too short exactly when nothing is refused before a word is
  -- read and the rules call for a word past the end: over whatever longer tape it draws, it uses more words than this one has.
  pub request_short : (ws : List ℕ) → RefusedShort (drawing r) ws ↔ WantsMore (drawing r) ws
  request_short = lawful_short (drawing r) (Supported r) (lawful r)

  -- and where its parameters pass, there is a longer tape over which it draws
  pub request_can_end : NoneHolds (parameter_refusals r) → (ws : List ℕ) → CanEnd (reading_of r) ws
  request_can_end = (lawful r).can_end

  -- a reading runs out by a short refusal alone, and a parameter's refusal is none
  pub request_ends : (ws : List ℕ) (n : ℕ) → reading_of r ws ≡ refused n → is_short n ≡ true
  request_ends = (lawful r).ends

  pub request_parameter : (n : ℕ) → First n (parameter_refusals r) → is_short n ≡ false
  request_parameter = lawful_parameter (drawing r) (Supported r) (lawful r)

  -- a reading uses at most the words that there are
  pub request_within : (ws : List ℕ) (c u : ℕ) → reading_of r ws ≡ drawn c u → u ≤ length ws
  request_within = (lawful r).within

  module _ (ws : List ℕ) (c u : ℕ) (e : draw_of r ws ≡ drawn c u) where
    -- an accepted draw looks at the words that it reports as used and at no others, over tapes within the limit
    pub request_local : (vs : List ℕ) → length vs ≤ most_words → take u ws ≡ take u vs → draw_of r vs ≡ drawn c u
    request_local = lawful_local (drawing r) (Supported r) (lawful r) ws c u e

    -- the words used are no more than a tape may have, so that the book's 32 bits hold them; the count fits its 64
    pub request_used : u ≤ most_words
    request_used = lawful_used (drawing r) (Supported r) (lawful r) ws c u e

    pub request_count : c < 2 ^ 64
    request_count = (lawful r).fits ws c u e

    -- the count keeps to the kind's support
    pub request_support : Supported r c
    request_support = (lawful r).support ws c u e
