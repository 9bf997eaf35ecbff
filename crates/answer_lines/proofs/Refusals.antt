-- Laws of a refusal's line. Assumes nothing.
use mathlib.Core.Path.{◌≡◌}
use mathlib.Core.List.{List, [], ◌∷◌, ◌++◌, append_assoc}
use Prim.Native.Nat.{ℕ, ◌^◌, ◌≤◌, ◌<◌}
use native.Mathlib.Omega.{arith}
use lib.ListN.{length, length-append}
use lib.Seq.{append_snoc}
use Rattle.writing.specs.Digits.{decimal}
use Rattle.writing.specs.Writing.{Writes}
use Rattle.writing.proofs.Writing.{written_next, length_decimal}
use Rattle.lines.specs.Lines.{line, refused_text, serial_text, used_text, count_text}
use Rattle.lines.proofs.Lines.{word_next, last_words, number_length}
use Rattle.names.specs.Names.{name_of}
use Rattle.names.proofs.Names.{name_short}
use Rattle.answer_lines.specs.Answers.{refusal_line}
use Rattle.answer_lines.specs.Inner.{counts_after, refused_by}

-- how many digits a serial or a refusal's number has, and how many any number
pub serial_digits : (n : ℕ) → n < 2 ^ 32 → length (decimal n) ≤ 10
serial_digits n h = length_decimal n 10 (omega arith) (omega arith)

pub count_digits : (n : ℕ) → n < 2 ^ 64 → length (decimal n) ≤ 20
count_digits n h = length_decimal n 20 (omega arith) (omega arith)

-- how long numbers are, for `grind`
pub ruleset number_words = (serial_digits, count_digits, number_length)

-- the first words of a refusal's line, one after another
pub refused_written : {l a b o : List ℕ} {x y z : ℕ} (n k e : ℕ) → k ≡ n → Writes l 0 (refused_text ++ (32 ∷ [])) a x → Writes a x (decimal k ++ (32 ∷ [])) b y
    → Writes b y (name_of n ++ (e ∷ [])) o z → Writes l 0 (refused_by n e) o z
unfolding refused_by
refused_written n k e ek u v w = written_next _ _ _ _ _ _ _ _ u (written_next _ _ _ _ _ _ _ _ (rw ek at v) w)

-- its first words leave room for a serial
pub refused_short : (n e : ℕ) → n < 2 ^ 32 → length (refused_by n e) ≤ 39
unfolding refused_by
refused_short n e h =
    let rest : List ℕ = (decimal n ++ (32 ∷ [])) ++ (name_of n ++ (e ∷ [])) in
    omega (
      arith,
      length-append (refused_text ++ (32 ∷ [])) rest,
      length-append (decimal n ++ (32 ∷ [])) (name_of n ++ (e ∷ [])),
      length-append (name_of n) (e ∷ []),
      name_short n,
      number_length n 32,
      serial_digits n h,
    )

-- with a newline they are the line
pub refused_line_lem : (n : ℕ) → refused_by n 10 ≡ refusal_line n
unfolding refused_by refusal_line line
refused_line_lem n = rw (append_snoc (decimal n) 32 (name_of n ++ (10 ∷ [])))

-- with a space the other words of the line follow
refused_more : (n : ℕ) (w : List ℕ) (ws : List (List ℕ)) → refused_by n 32 ++ line (w ∷ ws) ≡ line (refused_text ∷ decimal n ∷ name_of n ∷ w ∷ ws)
unfolding refused_by line
refused_more n w ws =
    let name : List ℕ = name_of n ++ (32 ∷ []) in
    let rest : List ℕ = line (w ∷ ws) in
    rw (append_snoc (decimal n) 32 name, append_assoc (decimal n) (32 ∷ name) rest, append_snoc (name_of n) 32 rest)

pub refused_next : {l m d : List ℕ} {i j k : ℕ} (n : ℕ) (w : List ℕ) (ws : List (List ℕ)) → Writes l i (refused_by n 32) m j
    → Writes m j (line (w ∷ ws)) d k → Writes l i (line (refused_text ∷ decimal n ∷ name_of n ∷ w ∷ ws)) d k
refused_next n w ws p q = rw (refused_more n w ws) at (written_next _ _ _ _ _ _ (refused_by n 32) (line (w ∷ ws)) p q)

-- the words of a booking's line after its first, one after another
pub counts_written : {l a b c d o : List ℕ} {i i1 i2 i3 i4 z : ℕ} (s k n u : ℕ) → k ≡ s → Writes l i (serial_text ++ (32 ∷ [])) a i1
    → Writes a i1 (decimal k ++ (32 ∷ [])) b i2 → Writes b i2 (count_text ++ (32 ∷ [])) c i3 → Writes c i3 (decimal n ++ (32 ∷ [])) d i4
    → Writes d i4 ((used_text ++ (32 ∷ [])) ++ (decimal u ++ (10 ∷ []))) o z → Writes l i (counts_after s n u) o z
unfolding counts_after
counts_written s k n u ek w1 w2 w3 w4 w5 =
    word_next _ _ _ w1 (word_next _ _ _ (rw ek at w2) (word_next _ _ _ w3 (word_next _ _ _ w4 (last_words _ _ w5))))
