-- `deliver` meets its contract: the words used fit their field. Assumes nothing.
use Rattle.std.proofs.Common.{◌≡◌, ℕ, List, Result, Ok, sym, ap, ◌∙◌, rules}
use Rattle.words.specs.declared.Refusal.{Refusal}
use Rattle.book.specs.declared.Delivered.{Delivered}
use Rattle.opening.specs.Calls.{Call, call}
use Rattle.book.specs.Deliver.{Booking, delivered}
use Rattle.banlothek.proofs.Fits.{delivery_fits}
use Rattle.banlothek.proofs.deliver.Goals as goal

-- where the book has answered: what the rule came to
comes : {rule : Call Booking} {a : Result Delivered Refusal} {b : List ℕ} (d : Result Delivered Refusal) → call (delivered a) b ≡ rule → a ≡ d → rule.outcome ≡ delivered d
comes d e h = sym (ap (λ (x : Call Booking). x.outcome) e) ∙ ap delivered h

pub accept-requires : goal.accept-requires
accept-requires c =
    let told = c.in-Ok-Fresh.is ∙ ap Ok c.in-Ok-Fresh.field-0-is in
    delivery_fits c.args.tape.now c.args.book.now (λ j. search rules) c.args.serial c.args.request _ _ (comes _ c.deliver.ensures told)

pub accept-requires-in-Ok-Copy : goal.accept-requires-in-Ok-Copy
accept-requires-in-Ok-Copy c =
    let told = c.in-Ok-Copy.is ∙ ap Ok c.in-Ok-Copy.field-0-is in
    delivery_fits c.args.tape.now c.args.book.now (λ j. search rules) c.args.serial c.args.request _ _ (comes _ c.deliver.ensures told)
