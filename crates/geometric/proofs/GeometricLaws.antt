-- Laws of the geometric draw: what is promised of it beside the rules themselves. Assumes nothing.
use mathlib.Core.Path.{◌≡◌, refl, sym, ap, ap₂, ◌∙◌, subst}
use mathlib.Core.Bool.{Bool, true, false, ◌&&◌, true≢false, cond, and-eq-true_iff}
use mathlib.Core.List.{List, []}
use mathlib.Core.Logic.{◌⊎◌, inl, inr, ◌↔◌}
use Prim.Native.Nat.{ℕ, suc, ◌+◌, ◌*◌, ◌-◌, ◌%◌, ◌^◌, ◌≤◌, ◌<◌}
use native.Mathlib.Nat.{le_trans, mod-lt, mul-le-mul}
use native.Mathlib.Omega.{arith}
use borrow.Author.Count.{below_none, below_more}
use borrow.Author.Tests.{not-false}
use lib.ListN.{length, take, get_or}
use lib.IntN.{pos}
use lib.Ieee.{Float, nan, fin, binary64, round, sub, div, lt, eq, le, of_bits}
use Rattle.words.specs.Words.{most_words, ratio, fraction_of}
use Rattle.words.specs.Outcome.{Outcome, drawn, refused}
use Rattle.words.specs.Rule.{done, more, Rule, reading, Local, CanEnd}
use Rattle.words.specs.Refusals.{First, NoneHolds}
use Rattle.words.specs.Draw.{conditions, draw}
use Rattle.words.specs.Inner.{is_on, is_short}
use Rattle.words.proofs.Patterns.{sign, bits_between, bits_over}
use Rattle.words.proofs.Reading.{refused_not_drawn, reading_used, reading_ends}
use Rattle.words.proofs.Keeping.{After, after_cond, reading_keeps}
use Rattle.words.proofs.Locality.{reading_local, cond_local, const_local}
use Rattle.words.proofs.Drawing.{accepted_within, accepted_reading}
use Rattle.words.proofs.PastEnd.{closes_done, reading_can_end, cond_can_end}
use Rattle.words.proofs.Lawful.{Lawful, lawful_exactly, lawful_local}
use Rattle.search.specs.Power.{power}
use Rattle.search.specs.Squares.{half, squares}
use Rattle.search.specs.Search.{Search, first_run, remainder_word, acceptance, searching, search_rule}
use Rattle.geometric.specs.Geometric.{is_probability, is_large, q_of, is_never, trivial_rule, geometric_reading, is_too_rare, probability_refusals, geometric}
use Rattle.search.proofs.Squarings.{span_bounds}
use Rattle.search.proofs.Ending.{search_closes}

-- ---- the range of p

-- a NaN is no probability; -0.0 is one, and so are 0 and 1; the next floats past them are not
pub nan_not_probability : is_probability nan ≡ false
unfolding is_probability le round
nan_not_probability = refl

pub probability_ends : (is_probability (fin true 0 (pos 0)) ≡ true) × (is_probability (ratio 0 1) ≡ true) × (is_probability (ratio 1 1) ≡ true)
unfolding is_probability le round
probability_ends = (refl, refl, refl)

pub probability_past : (is_probability (of_bits binary64 0x8000_0000_0000_0001) ≡ false) × (is_probability (of_bits binary64 0x3ff0_0000_0000_0001) ≡ false)
unfolding is_probability le round of_bits
probability_past = (refl, refl)

-- of p by its bits: up to those of 1 it is a probability, and above them only -0.0 is
abbrev pub one : ℕ
one = 0x3ff0_0000_0000_0000

probability_is : (x : Float) → is_probability x ≡ (le (of_bits binary64 0) x && le x (of_bits binary64 one))
unfolding is_probability of_bits round
probability_is x = refl

module _ (bits : ℕ) where
  pub bits_probability : bits ≤ one → is_probability (of_bits binary64 bits) ≡ true
  bits_probability h = probability_is (of_bits binary64 bits) ∙ bits_between 0 one bits (omega arith) (omega arith) h

  pub sign_probability : bits ≡ sign → is_probability (of_bits binary64 bits) ≡ true
  unfolding is_probability le round of_bits
  sign_probability e = rw e

  -- of -0.0 the reading is the count 2^64 - 1 with no word, and it is not too rare
  pub sign_never : (ws : List ℕ) → bits ≡ sign → geometric_reading (of_bits binary64 bits) ws ≡ drawn (2 ^ 64 - 1) 0
  unfolding geometric_reading is_large is_never q_of le eq sub div round of_bits
  sign_never ws e = rw e

  pub sign_not_rare : bits ≡ sign → is_too_rare (of_bits binary64 bits) ≡ false
  unfolding is_too_rare is_large is_never q_of le eq sub div round of_bits
  sign_not_rare e = rw e

  pub bits_not_probability : one < bits → bits < 2 ^ 64 → (bits ≡ sign → ⊥) → is_probability (of_bits binary64 bits) ≡ false
  bits_not_probability h w z =
      probability_is (of_bits binary64 bits) ∙ bits_over 0 one bits (omega arith) (omega arith) h w (λ e. absurd (z e))

-- ---- p ≥ 2/3

module _ (p : Float) (ws : List ℕ) where
  -- the rules' words: the count is the number of fractions above p before the first that is at most p; used is count + 1
  pub record Failures (c u : ℕ) : Type 0 where
    pub used : u ≡ c + 1
    pub above : (i : ℕ) → i < c → le (fraction_of (get_or ws i 0)) p ≡ false
    pub last : le (fraction_of (get_or ws c 0)) p ≡ true

  -- what each failure keeps
  AllAbove : ℕ → ℕ → Type 0
  AllAbove n u = (u ≡ n) × ((i : ℕ) → i < n → le (fraction_of (get_or ws i 0)) p ≡ false)

  failures_keep : (n u : ℕ) → u < length ws → AllAbove n u → After AllAbove Failures ((trivial_rule p).step n (get_or ws u 0)) (suc u)
  unfolding AllAbove
  failures_keep n u h k = after_cond AllAbove Failures (le (fraction_of (get_or ws u 0)) p) (done n) (more (n + 1)) (suc u) stop on
    where
      here : (b : Bool) → le (fraction_of (get_or ws u 0)) p ≡ b → le (fraction_of (get_or ws n 0)) p ≡ b
      here b t = subst (λ (i : ℕ). le (fraction_of (get_or ws i 0)) p ≡ b) k.0 t

      stop : le (fraction_of (get_or ws u 0)) p ≡ true → Failures n (suc u)
      stop t = record { used = omega arith; above = k.1; last = here true t }

      on : le (fraction_of (get_or ws u 0)) p ≡ false → AllAbove (n + 1) (suc u)
      on t = (omega arith, below_more (λ (i : ℕ). le (fraction_of (get_or ws i 0)) p ≡ false) n k.1 (here false t))

  trivial_failures : (c u : ℕ) → reading (trivial_rule p) ws ≡ drawn c u → Failures c u
  unfolding AllAbove
  trivial_failures = reading_keeps (trivial_rule p) ws AllAbove Failures failures_keep (refl, below_none (λ (i : ℕ). le (fraction_of (get_or ws i 0)) p ≡ false))

-- ---- p < 2/3 and q < 1

module _ (q : Float) (span : ℕ) (pi : Float) (ws : List ℕ) where
  -- whether the ith fraction is below pi
  unfoldable pub is_below : ℕ → Bool
  is_below i = lt (fraction_of (get_or ws i 0)) pi

  -- After d fractions below pi and one that isn't, the jth try, from 0 on, has the two words after those of the tries before it:
  -- its m, and whether its fraction accepts that.
  unfoldable pub tried : ℕ → ℕ → ℕ
  tried d j = get_or ws (d + 1 + 2 * j) 0 % span

  pub tried_lt : (d j : ℕ) → 0 < span → tried d j < span
  unfolding tried
  tried_lt d j h = mod-lt (get_or ws (d + 1 + 2 * j) 0) h

  unfoldable pub is_accepted : ℕ → ℕ → Bool
  is_accepted d j = lt (fraction_of (get_or ws (d + 2 + 2 * j) 0)) (power q (tried d j))

  -- d fractions below pi, then one that isn't, then t tries that were not accepted
  pub record Past (d t : ℕ) : Type 0 where
    pub run : (i : ℕ) → i < d → is_below i ≡ true
    pub stop : is_below d ≡ false
    pub rejected : (j : ℕ) → j < t → is_accepted d j ≡ false

  -- the rules' words: the count is d × 2^k + m, and used is d + 1 + 2 × tries, where the last try is the first that was accepted
  pub record Searched (c u : ℕ) : Type 0 where
    pub d : ℕ
    pub before : ℕ
    pub tries : ℕ
    pub m : ℕ
    pub count : c ≡ d * span + m
    pub used : u ≡ d + 1 + 2 * tries
    pub last : tries ≡ before + 1
    pub past : Past d before
    pub remainder : m ≡ tried d before
    pub accepted : is_accepted d before ≡ true

  -- what each word keeps
  Kept : Search → ℕ → Type 0
  Kept (first_run d) u = (u ≡ d) × ((i : ℕ) → i < d → is_below i ≡ true)
  Kept (remainder_word d) u = (t : ℕ) × (u ≡ d + 1 + 2 * t) × Past d t
  Kept (acceptance d m) u = (t : ℕ) × (u ≡ d + 2 + 2 * t) × Past d t × (m ≡ tried d t)

  run_keeps : (d u : ℕ) → Kept (first_run d) u → After Kept Searched (searching q span pi (first_run d) (get_or ws u 0)) (suc u)
  unfolding Kept is_below
  run_keeps d u k = after_cond Kept Searched (lt (fraction_of (get_or ws u 0)) pi) (more (first_run (d + 1))) (more (remainder_word d)) (suc u) on stop
    where
      here : (b : Bool) → lt (fraction_of (get_or ws u 0)) pi ≡ b → is_below d ≡ b
      here b t = subst (λ (i : ℕ). is_below i ≡ b) k.0 t

      on : lt (fraction_of (get_or ws u 0)) pi ≡ true → Kept (first_run (d + 1)) (suc u)
      on t = (omega arith, below_more (λ (i : ℕ). is_below i ≡ true) d k.1 (here true t))

      stop : lt (fraction_of (get_or ws u 0)) pi ≡ false → Kept (remainder_word d) (suc u)
      stop t = (0, omega arith, record { run = k.1; stop = here false t; rejected = below_none (λ (j : ℕ). is_accepted d j ≡ false) })

  word_keeps : (d u : ℕ) → Kept (remainder_word d) u → Kept (acceptance d (get_or ws u 0 % span)) (suc u)
  unfolding Kept tried
  word_keeps d u k = (k.0, omega arith, k.2, ap (λ (i : ℕ). get_or ws i 0 % span) k.1)

  try_keeps : (d m u : ℕ) → Kept (acceptance d m) u → After Kept Searched (searching q span pi (acceptance d m) (get_or ws u 0)) (suc u)
  unfolding Kept is_accepted
  try_keeps d m u k =
      after_cond Kept Searched (lt (fraction_of (get_or ws u 0)) (power q m)) (done (d * span + m)) (more (remainder_word d)) (suc u) accept again
    where
      here : (b : Bool) → lt (fraction_of (get_or ws u 0)) (power q m) ≡ b → is_accepted d k.0 ≡ b
      here b t = ap₂ (λ (i n : ℕ). lt (fraction_of (get_or ws i 0)) (power q n)) (sym k.1) (sym k.3) ∙ t

      accept : lt (fraction_of (get_or ws u 0)) (power q m) ≡ true → Searched (d * span + m) (suc u)
      accept t =
          record {
            d = d;
            before = k.0;
            tries = k.0 + 1;
            m = m;
            count = refl;
            used = omega arith;
            last = refl;
            past = k.2;
            remainder = k.3;
            accepted = here true t;
          }

      again : lt (fraction_of (get_or ws u 0)) (power q m) ≡ false → Kept (remainder_word d) (suc u)
      again t = (
        k.0 + 1,
        omega arith,
        record {
          run = k.2.run;
          stop = k.2.stop;
          rejected = below_more (λ (j : ℕ). is_accepted d j ≡ false) k.0 k.2.rejected (here false t);
        },
      )

  search_keeps : (s : Search) (u : ℕ) → u < length ws → Kept s u → After Kept Searched (searching q span pi s (get_or ws u 0)) (suc u)
  search_keeps (first_run d) u h k = run_keeps d u k
  search_keeps (remainder_word d) u h k = word_keeps d u k
  search_keeps (acceptance d m) u h k = try_keeps d m u k

  search_searched : (c u : ℕ) → reading (search_rule q span pi) ws ≡ drawn c u → Searched c u
  unfolding Kept
  search_searched = reading_keeps (search_rule q span pi) ws Kept Searched search_keeps (refl, below_none (λ (i : ℕ). is_below i ≡ true))

-- ---- any p

module _ (p : Float) (ws : List ℕ) where
  -- the rules' three ways to a count
  pub data Drew (c u : ℕ) : Type 0 where
    trivially : is_large p ≡ true → Failures p ws c u → Drew c u
    never : is_large p ≡ false → is_never p ≡ true → c ≡ 2 ^ 64 - 1 → u ≡ 0 → Drew c u
    by_search : is_large p ≡ false → is_never p ≡ false → Searched (q_of p) (2 ^ (squares (q_of p)).k) (squares (q_of p)).pi ws c u → Drew c u

  searched : Rule Search ℕ
  searched = search_rule (q_of p) (2 ^ (squares (q_of p)).k) (squares (q_of p)).pi

  -- the reading by the two tests on p
  abbrev by : Bool → Bool → Outcome ℕ
  unfolding searched
  by large none = cond large (reading (trivial_rule p) ws) (cond none (drawn (2 ^ 64 - 1) 0) (reading searched ws))

  reading_by : geometric_reading p ws ≡ by (is_large p) (is_never p)
  unfolding geometric_reading searched by
  reading_by = refl

  by_drew : (large none : Bool) (c u : ℕ) → is_large p ≡ large → is_never p ≡ none → by large none ≡ drawn c u → Drew c u × (u ≤ length ws)
  unfolding searched by
  by_drew true none c u l n x = (trivially l (trivial_failures p ws c u x), reading_used (trivial_rule p) ws c u x)
  by_drew false true c u l n x = let z : 0 ≡ u = cc in (never l n (cc) (cc), omega arith)
  by_drew false false c u l n x =
      (by_search l n (search_searched (q_of p) (2 ^ (squares (q_of p)).k) (squares (q_of p)).pi ws c u x), reading_used searched ws c u x)

  pub reading_drew : (c u : ℕ) → geometric_reading p ws ≡ drawn c u → Drew c u × (u ≤ length ws)
  reading_drew c u e = by_drew (is_large p) (is_never p) c u refl refl (sym reading_by ∙ e)

  by_ends : (large none : Bool) (n : ℕ) → by large none ≡ refused n → is_short n ≡ true
  unfolding searched by is_on
  by_ends true none n x = reading_ends (trivial_rule p) (λ s. refl) ws n x
  by_ends false true n x = refused_not_drawn n (2 ^ 64 - 1) 0 (sym x)
  by_ends false false n x = reading_ends searched (λ s. refl) ws n x

  -- a reading runs out by a short refusal alone
  pub reading_short : (n : ℕ) → geometric_reading p ws ≡ refused n → is_short n ≡ true
  reading_short n x = by_ends (is_large p) (is_never p) n (sym reading_by ∙ x)

-- what the search reads is the draw's, where p is below 2/3, q isn't 1 and its squarings come down
pub search_given : (p : Float) (ws : List ℕ) → is_large p ≡ false → is_never p ≡ false → lt half (squares (q_of p)).pi ≡ false
    → (q : Float) (k : ℕ) (pi : Float) → (q ≡ q_of p) × (k ≡ (squares (q_of p)).k) × (pi ≡ (squares (q_of p)).pi)
    → (o : Outcome ℕ) → o ≡ reading (search_rule q (2 ^ k) pi) ws → o ≡ cond (is_too_rare p) (refused 9) (geometric_reading p ws)
unfolding geometric_reading is_too_rare
search_given p ws l n r q k pi same o e = e ∙ simp (same.0, same.1, same.2, l, n, r)

reading_local_of : (p : Float) → Local (geometric_reading p)
unfolding geometric_reading
reading_local_of p =
    cond_local (is_large p) _ _ (reading_local (trivial_rule p))
    (cond_local (is_never p) _ _ (const_local (drawn (2 ^ 64 - 1) 0)) (reading_local (search_rule (q_of p) (2 ^ (squares (q_of p)).k) (squares (q_of p)).pi)))

module _ (p : Float) (ws : List ℕ) (c u : ℕ) (e : draw (geometric p) ws ≡ drawn c u) where
  drew : Drew p ws c u × (u ≤ length ws)
  unfolding geometric
  drew = reading_drew p ws c u (accepted_reading (geometric p) ws c u e)

  pub geometric_drew : Drew p ws c u
  geometric_drew = drew.0

  pub geometric_used : u ≤ most_words
  geometric_used = le_trans drew.1 (accepted_within (geometric p) ws c u e)

  -- by which of the three, as p decides
  pub geometric_trivial : is_large p ≡ true → Failures p ws c u
  geometric_trivial l = go geometric_drew
    where
      go : Drew p ws c u → Failures p ws c u
      go (trivially k f) = f
      go (never k n x y) = absurd (true≢false (sym l ∙ k))
      go (by_search k n s) = absurd (true≢false (sym l ∙ k))

  pub geometric_never : is_large p ≡ false → is_never p ≡ true → (c ≡ 2 ^ 64 - 1) × (u ≡ 0)
  geometric_never l o = go geometric_drew
    where
      go : Drew p ws c u → (c ≡ 2 ^ 64 - 1) × (u ≡ 0)
      go (trivially k f) = absurd (true≢false (sym k ∙ l))
      go (never k n x y) = (x, y)
      go (by_search k n s) = absurd (true≢false (sym o ∙ n))

  pub geometric_search : is_large p ≡ false → is_never p ≡ false → Searched (q_of p) (2 ^ (squares (q_of p)).k) (squares (q_of p)).pi ws c u
  geometric_search l o = go geometric_drew
    where
      go : Drew p ws c u → Searched (q_of p) (2 ^ (squares (q_of p)).k) (squares (q_of p)).pi ws c u
      go (trivially k f) = absurd (true≢false (sym k ∙ l))
      go (never k n x y) = absurd (true≢false (sym n ∙ o))
      go (by_search k n s) = s

  -- below 2^51, or 2^64 - 1
  pub geometric_count : (c < 2 ^ 51) ⊎ (c ≡ 2 ^ 64 - 1)
  geometric_count = go geometric_drew
    where
      go : Drew p ws c u → (c < 2 ^ 51) ⊎ (c ≡ 2 ^ 64 - 1)
      go (trivially l f) = let h = geometric_used in inl (omega (arith, f.used))
      go (never l n x y) = inr x
      go (by_search l n s) =
          let h = geometric_used in
          let span = 2 ^ (squares (q_of p)).k in
          let b = span_bounds (q_of p) in
          let d : s.d ≤ 1048575 = omega (arith, s.used) in
          let r : s.m < span = subst (λ (x : ℕ). x < span) (sym s.remainder) (tried_lt (q_of p) span (squares (q_of p)).pi ws s.d s.before b.0) in
          inl (omega (arith, s.count, mul-le-mul d b.1))

-- where p passes, words can follow any tape with which the draw ends: of a large p the word 0, whose fraction is not above it
zero_first : (p : Float) → is_probability p ≡ true → le (fraction_of 0) p ≡ true
unfolding is_probability fraction_of round
zero_first p e = ((and-eq-true_iff (le (ratio 0 1) p) (le p (ratio 1 1))).0 e).0

not_rare : (p : Float) → is_too_rare p ≡ false → is_large p ≡ false → is_never p ≡ false → lt half (squares (q_of p)).pi ≡ false
unfolding is_too_rare
not_rare p e l n = rw (l, n) at e

reading_can_end_of : (p : Float) → NoneHolds (probability_refusals p) → (ws : List ℕ) → CanEnd (geometric_reading p) ws
unfolding geometric_reading
reading_can_end_of p h ws =
    let trivial : Rule ℕ ℕ = trivial_rule p in
    let search : Rule Search ℕ = search_rule (q_of p) (2 ^ (squares (q_of p)).k) (squares (q_of p)).pi in
    let never : List ℕ → Outcome ℕ = λ vs. drawn (2 ^ 64 - 1) 0 in
    cond_can_end (is_large p) (reading trivial) (λ vs. cond (is_never p) (never vs) (reading search vs)) ws
    (λ l. reading_can_end trivial (λ n. (0, ([], closes_done trivial n 0 [] n (rw (zero_first p (not-false (is_probability p) h.0)))))) ws)
    (λ l.
    cond_can_end (is_never p) never (reading search) ws
    (λ n. (0, ([], (2 ^ 64 - 1, (0, refl)))))
    (λ n. reading_can_end search (search_closes (q_of p) (2 ^ (squares (q_of p)).k) (squares (q_of p)).pi (not_rare p h.1.0 l n)) ws))

-- what the layers above are owed; a count has no support
pub geometric_lawful : (p : Float) → Lawful (geometric p) (λ c. Unit)
unfolding geometric is_on
geometric_lawful p =
    record {
      ends = reading_short p;
      parameters = (refl, (refl, tt));
      local = reading_local_of p;
      within = λ ws c u e. (reading_drew p ws c u e).1;
      can_end = reading_can_end_of p;
      fits = λ ws c u e. count_fits c (geometric_count p ws c u e);
      support = λ ws c u e. tt;
    }
  where
    count_fits : (c : ℕ) → (c < 2 ^ 51) ⊎ (c ≡ 2 ^ 64 - 1) → c < 2 ^ 64
    count_fits c (inl h) = omega arith
    count_fits c (inr h) = omega arith

module _ (p : Float) (ws : List ℕ) where
  -- each refusal is given exactly on its condition, none earlier holding
  pub geometric_exactly : (n : ℕ) → (draw (geometric p) ws ≡ refused n) ↔ First n (conditions (geometric p) ws)
  geometric_exactly = lawful_exactly (geometric p) _ (geometric_lawful p) ws

  -- it looks at the words that it reports as used and at no others
  pub geometric_local : (c u : ℕ) → draw (geometric p) ws ≡ drawn c u
      → (vs : List ℕ) → length vs ≤ most_words → take u ws ≡ take u vs → draw (geometric p) vs ≡ drawn c u
  geometric_local = lawful_local (geometric p) _ (geometric_lawful p) ws
