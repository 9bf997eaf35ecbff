-- `banlothek_draw_poisson` meets its contract: the draw of this kind of request is the kind's own. Assumes nothing.
use Rattle.std.proofs.Common.{ap, ◌∙◌}
use Rattle.kinds.specs.declared.Request.TheVariants.{Poisson}
use Rattle.banlothek.specs.Face.{plain}
use Rattle.banlothek.proofs.Fits.{draw_fits}
use Rattle.banlothek.proofs.banlothek_draw_poisson.Goals as goal

pub told-requires : goal.told-requires
told-requires c = draw_fits (Poisson c.args.threshold_bits) c.args.tape.now _ c.sample_bits.ensures

pub returns : goal.returns
returns c = c.told.ensures ∙ ap plain c.sample_bits.ensures
