-- RULES, 'Text': what it is to write a text into lent bytes. Assumes nothing.
use Rattle.std.specs.Prelude.{ℕ, ◌+◌, ◌≤◌, List, ◌≡◌, length}
use Rattle.std.proofs.lemmas.List.Edits.{sets}

-- the text t stands in the bytes l from i on, which makes them m, and no other byte is changed; j is the place after it, within the bytes
pub record Writes (l : List ℕ) (i : ℕ) (t : List ℕ) (m : List ℕ) (j : ℕ) : Type 0 where
  pub bytes : m ≡ sets l i t
  pub place : j ≡ i + length t
  pub room : j ≤ length l
