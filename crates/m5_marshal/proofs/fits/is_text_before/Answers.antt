use Rattle.std.proofs.Common.{◌≡◌, arith}
use Rattle.std.proofs.lemmas.Bool.{ltb-true, lt-ltb}
use Rattle.m5_marshal.proofs.fits.is_text_before.Goals as goal

pub returns-in-Text : goal.returns-in-Text
returns-in-Text c = (
  λ t. (c.in-Text.at.0, ltb-true c.in-Text.at.0 c.args.older t, c.in-Text.is),
  λ h. (let same : c.in-Text.at.0 ≡ h.0 = cc in lt-ltb c.in-Text.at.0 c.args.older (omega (arith, same, h.1))),
)
