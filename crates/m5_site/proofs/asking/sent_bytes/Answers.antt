use Rattle.m5_site.proofs.Computed.{if_ok}
use Rattle.m5_site.proofs.Sendable.{bytes_of_code, packs_it}
use Rattle.m5_site.proofs.asking.sent_bytes.Goals as goal

pub pack-requires : goal.pack-requires
pack-requires c = bytes_of_code c.dicts.result.now c.args.object.now.dicts c.args.region.now.objects c.args.thread c.dicts.ensures c.requires

pub returns : goal.returns
returns c =
    if_ok _ _ c.pack.result
    (λ bytes p. packs_it c.args.object.now c.args.session c.dicts.result.now c.args.region.now.objects c.args.thread _ bytes c.dicts.ensures c.seal_of-seal.ensures c.requires p)
    c.pack.ensures
