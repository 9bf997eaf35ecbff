-- What a read into the rest of a buffer gives goes behind what was read before, as it comes from the reader. Assumes nothing.
use Rattle.std.proofs.Common.{◌≡◌, ℕ, ◌+◌, ◌≤◌, List, ◌++◌, length, take, arith, sym, subst, length-take-le}
use Rattle.std.specs.Prelude.{Option}
use Rattle.std.specs.Io.KnownBytes.{Consumes}
use Rattle.std.proofs.KnownBytes.{Consumes-trans}
use Rattle.std.proofs.lemmas.List.{take-append-le}
use Rattle.std.proofs.Math.Seq.{take-append-add}
use borrow.Rule.Slice.PartMut.{put_mid, post_of}

pub consumed_behind : (a k n : ℕ) (xs ys : List ℕ) (old mid new : Option (List ℕ)) → a ≤ length xs → n ≤ length ys
    → Consumes old mid (take a xs) → Consumes mid new (take n ys) → Consumes old new (take (a + n) (put_mid a k xs ys))
consumed_behind a k n xs ys old mid new p q before read =
    let joined : take (a + n) (put_mid a k xs ys) ≡ take a xs ++ take n ys =
    grind (arith, take-append-add (take a xs) (ys ++ post_of a k xs) n, take-append-le n ys (post_of a k xs), length-take-le a xs) in
    subst (Consumes old new) (sym joined) (Consumes-trans old mid new (take a xs) (take n ys) before read)
