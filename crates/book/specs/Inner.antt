-- What inner functions and laws speak of: no entry point's contract and no demand rests on it. Assumes nothing.
use Rattle.std.specs.Prelude.{ℕ, List, drop}
use Rattle.words.specs.Refusals.{given}
use Rattle.kinds.specs.declared.Request.{Request}
use Rattle.draws.specs.Request.{reading_of}
use Rattle.layout.specs.declared.Standing.{Standing}
use Rattle.opening.specs.Calls.{Call}
use Rattle.book.specs.Deliver.{Booking, fresh_refusals, freshly, delivering}

-- a fresh delivery's rule by itself (`deliver_fresh`): it sees no more of the entries than how the book stands
unfoldable pub fresh_delivery : List ℕ → List ℕ → Standing → Request → Call Booking
fresh_delivery ws b st r =
    delivering (given (fresh_refusals (drop st.place ws) b st.end r) (freshly (reading_of r (drop st.place ws)))) b st r
