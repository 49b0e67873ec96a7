use Rattle.std.proofs.Common.{◌≡◌, arith}
use Rattle.std.proofs.lemmas.Bool.{ltb-true, lt-ltb}
use Rattle.m5_marshal.proofs.fits.is_array_before.Goals as goal

pub returns-in-Array : goal.returns-in-Array
returns-in-Array c = (
  λ t. (c.in-Array.at.0, ltb-true c.in-Array.at.0 c.args.older t, c.in-Array.is),
  λ h. (let same : c.in-Array.at.0 ≡ h.0 = cc in lt-ltb c.in-Array.at.0 c.args.older (omega (arith, same, h.1))),
)
