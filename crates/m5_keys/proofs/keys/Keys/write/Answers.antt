use Rattle.std.proofs.Common.{List, ap}
use Rattle.m5_script.specs.declared.items.TextPair.{TextPair}
use Rattle.m5_keys.specs.Keys.{KeyStore}
use Rattle.m5_keys.proofs.Entries.{put-in}
use Rattle.m5_keys.proofs.keys.Keys.write.Goals as goal

pub returns-clause-ok : goal.returns-clause-ok
returns-clause-ok c =
    rw (← c.self.view_is, ← c.into_bytes.ensures) (rw c.in_ok-insert.ensures.entries (
    let put : List TextPair → KeyStore = λ ps. record { pairs = ps; watches = c.self.inside.watches } in
    ap put (put-in c.into_bytes.result c.args.text c.self.inside.texts.entries)))
