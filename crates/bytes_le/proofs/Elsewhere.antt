-- Which bytes a change leaves as they were: a run of stores, and a wipe. Assumes nothing.
use mathlib.Core.Path.{◌≡◌, refl, ap, ◌∙◌}
use mathlib.Core.List.{List, [], ◌∷◌, ◌++◌, append_assoc}
use mathlib.Core.Logic.{◌⊎◌, inl, inr}
use Prim.Native.Nat.{ℕ, suc, ◌+◌, ◌-◌, ◌≤◌, ◌<◌}
use native.Mathlib.Omega.{arith}
use lib.ListN.{length, get_or, take, drop, replicate, set, length-append, length-drop, length-replicate, get_or-replicate, get_or-append}
use lib.Seq.{sets, length-sets, length-take-le, get_or-append-add, get_or-drop, get_or-set_other, get_or-take}
use Rattle.bytes_le.specs.Zeros.{wiped}

-- the bytes c are as many as b, and the same but for those from i up to j
pub record ChangedWithin (i j : ℕ) (b c : List ℕ) : Type 0 where
  pub size : length c ≡ length b
  pub elsewhere : (k : ℕ) → (k < i) ⊎ (j ≤ k) → get_or c k 0 ≡ get_or b k 0

pub unchanged_within : (i j : ℕ) (b : List ℕ) → ChangedWithin i j b b
unchanged_within i j b = record { size = refl; elsewhere = λ k o. refl }

-- ---- a run of stores

stored_elsewhere : (l : List ℕ) (i : ℕ) (vs : List ℕ) (k : ℕ) → (k < i) ⊎ (i + length vs ≤ k) → get_or (sets l i vs) k 0 ≡ get_or l k 0
stored_elsewhere l i [] k o = refl
stored_elsewhere l i (v ∷ vs) k (inl h) =
    stored_elsewhere (set l i v) (suc i) vs k (inl (omega arith)) ∙ get_or-set_other l i k v 0 (λ e. omega arith)
stored_elsewhere l i (v ∷ vs) k (inr h) =
    stored_elsewhere (set l i v) (suc i) vs k (inr (omega arith)) ∙ get_or-set_other l i k v 0 (λ e. omega arith)

pub stored_within : (l : List ℕ) (i : ℕ) (vs : List ℕ) (j : ℕ) → j ≡ i + length vs → ChangedWithin i j l (sets l i vs)
stored_within l i vs j e = record { size = length-sets l i vs; elsewhere = rw e (stored_elsewhere l i vs) }

-- ---- a wipe

module _ (i j : ℕ) (l : List ℕ) (le : i ≤ j) (room : j ≤ length l) where
  taken : length (take i l) ≡ i
  taken = length-take-le i l (omega arith)

  abbrev zeros : List ℕ
  zeros = replicate (j - i) 0

  zeros_many : length zeros ≡ j - i
  zeros_many = length-replicate {A = ℕ} (j - i) 0

  parts : wiped i j l ≡ take i l ++ (zeros ++ drop j l)
  unfolding wiped
  parts = append_assoc (take i l) zeros (drop j l)

  -- past the first i bytes
  after : (k : ℕ) → i ≤ k → get_or (wiped i j l) k 0 ≡ get_or (zeros ++ drop j l) (k - i) 0
  after k h =
      let e : k ≡ length (take i l) + (k - i) = omega (arith, taken) in
      ap (λ (x : List ℕ). get_or x k 0) parts
      ∙ ap (λ (x : ℕ). get_or (take i l ++ (zeros ++ drop j l)) x 0) e
      ∙ get_or-append-add (take i l) (zeros ++ drop j l) (k - i) 0

  -- the bytes between are 0
  pub wiped_zero : (k : ℕ) → i ≤ k → k < j → get_or (wiped i j l) k 0 ≡ 0
  wiped_zero k h g =
      after k h ∙ get_or-append zeros (drop j l) 0 (k - i) (omega (arith, zeros_many)) ∙ get_or-replicate (j - i) (k - i) 0 0 (omega arith)

  wiped_elsewhere : (k : ℕ) → (k < i) ⊎ (j ≤ k) → get_or (wiped i j l) k 0 ≡ get_or l k 0
  wiped_elsewhere k (inl h) =
      ap (λ (x : List ℕ). get_or x k 0) parts ∙ get_or-append (take i l) (zeros ++ drop j l) 0 k (omega (arith, taken)) ∙ get_or-take i l k 0 h
  wiped_elsewhere k (inr h) =
      let e : k - i ≡ length zeros + (k - j) = omega (arith, zeros_many) in
      let f : j + (k - j) ≡ k = omega arith in
      after k (omega arith)
      ∙ ap (λ (x : ℕ). get_or (zeros ++ drop j l) x 0) e
      ∙ get_or-append-add zeros (drop j l) (k - j) 0
      ∙ get_or-drop j l (k - j) 0
      ∙ ap (λ (x : ℕ). get_or l x 0) f

  wiped_size : length (wiped i j l) ≡ length l
  wiped_size =
      ap length parts ∙ simp length-append (omega (arith, taken, zeros_many, length-drop j l))

  pub wiped_within : ChangedWithin i j l (wiped i j l)
  wiped_within = record { size = wiped_size; elsewhere = wiped_elsewhere }
